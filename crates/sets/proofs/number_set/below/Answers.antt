use Rattle.std.proofs.Common.{◌≡◌, ◌*◌, ◌%◌, ◌^◌, ◌<◌, arith}
use lib.Pow.{pow-lt}
use Rattle.std.proofs.lemmas.Bool.Decides.{nat_tests}
use Rattle.sets.proofs.NumberSets.{ones_are}
use Rattle.sets.proofs.number_set.below.Goals as goal

pub returns-then-i-limit : goal.returns-then-i-limit
returns-then-i-limit c = ones_are c.args.limit c.args.i 64 (omega arith) (λ j h. let t = c.if-i-limit.true in grind (arith, nat_tests))

pub returns-then-i-limit-2 : goal.returns-then-i-limit-2
returns-then-i-limit-2 c =
    let t = c.if-i-limit-2.true in
    let k : c.args.limit % 64 < 64 = omega arith in
    let p = pow-lt k in
    let e : 1 * 2 ^ (c.args.limit % 64) % 2 ^ 64 ≡ 2 ^ (c.args.limit % 64) = omega arith in
    rw e (ones_are c.args.limit c.args.i (c.args.limit % 64) (omega arith) (λ j h. grind (arith, nat_tests)))

pub returns-else-i-limit-2 : goal.returns-else-i-limit-2
returns-else-i-limit-2 c =
    ones_are c.args.limit c.args.i 0 (omega arith) (λ j h. let t = c.if-i-limit.false in let u = c.if-i-limit-2.false in grind (arith, nat_tests))
