use Rattle.std.proofs.Common.{◌≡◌, ◌*◌, ◌%◌, ◌^◌, ◌<◌, arith}
use lib.Pow.{pow-lt}
use Rattle.sets.proofs.NumberSets.{single_is, single_elsewhere}
use Rattle.sets.proofs.number_set.single.Goals as goal

pub returns-then-i-n : goal.returns-then-i-n
returns-then-i-n c =
    let k : c.args.n % 64 < 64 = omega arith in
    let p = pow-lt k in
    let e : 1 * 2 ^ (c.args.n % 64) % 2 ^ 64 ≡ 2 ^ (c.args.n % 64) = omega arith in
    rw e (single_is c.args.n c.args.i c.if-i-n.true)

pub returns-else-i-n : goal.returns-else-i-n
returns-else-i-n c = single_elsewhere c.args.n c.args.i c.if-i-n.false
