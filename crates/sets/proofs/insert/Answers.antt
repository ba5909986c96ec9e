use Rattle.std.proofs.Common.{◌≡◌, ◌*◌, ◌%◌, ◌^◌, ap, ◌∙◌}
use lib.Bits.{bit_or}
use Rattle.std.proofs.lemmas.Bool.{cond_below}
use Rattle.std.proofs.lemmas.Nat.{one_shl}
use Rattle.sets.specs.Sets.{member}
use Rattle.sets.proofs.Bits.{member-added}
use Rattle.sets.proofs.insert.Goals as goal

pub returns-then-x-lt64 : goal.returns-then-x-lt64
returns-then-x-lt64 c =
    let shifted = one_shl c.args.x 64 c.if-x-lt64.true in
    let e : bit_or c.args.set (1 * 2 ^ c.args.x % 2 ^ 64) ≡ bit_or c.args.set (2 ^ c.args.x)
    = ap (bit_or c.args.set) shifted in
    record {
      value = e ∙ cond_below c.args.x 64 _ _ c.if-x-lt64.true;
      added = λ y l. ap (λ s. member s y) e ∙ member-added c.args.set c.args.x y;
    }
