use Rattle.std.proofs.Common.{◌/◌, ◌^◌, eqb, sym, ap, ◌∙◌, arith}
use lib.Bits.{and_mask}
use Rattle.std.proofs.lemmas.Bool.{le-ltb}
use Rattle.sets.proofs.Bits.{member-past, set_laws}
use Rattle.sets.proofs.contains.Goals as goal

pub returns-then-x-lt64 : goal.returns-then-x-lt64
returns-then-x-lt64 c =
    record { value = ap (λ m. eqb m 1) (and_mask (c.args.set / 2 ^ c.args.x) 1); laws = set_laws }

pub returns-else-x-lt64 : goal.returns-else-x-lt64
returns-else-x-lt64 c =
    record {
      value =
          le-ltb c.args.x 64 c.if-x-lt64.false
          ∙ sym (member-past 64 c.args.set c.args.x (omega arith) c.if-x-lt64.false);
      laws = set_laws;
    }
