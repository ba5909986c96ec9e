use Rattle.std.proofs.Common.{arith}
use Rattle.std.specs.Prelude.{◌==◌}
use Rattle.sets.proofs.NumberSets.{more_made, made_all}
use Rattle.sets.proofs.number_set.NumberSet.with.Goals as goal

pub loop-i-preserved : goal.loop-i-preserved
loop-i-preserved g c =
    rw (c.single.ensures, c.below.ensures)
    (more_made g.row.WORDS c.args.count c.args.self.words c.loop-i.words _ c.loop-i.i (omega arith) (omega arith) (λ m. m == c.args.n) c.loop-i.invariant (omega arith))

pub returns : goal.returns
returns g c = made_all _ g.row.WORDS c.loop-i.words c.loop-i.i (omega arith) c.loop-i.invariant
