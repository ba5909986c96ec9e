use Rattle.std.proofs.Common.{arith}
use Rattle.sets.proofs.NumberSets.{others_made, made_all}
use Rattle.sets.proofs.number_set.NumberSet.others.Goals as goal

pub loop-i-preserved : goal.loop-i-preserved
loop-i-preserved g c =
    rw c.below.ensures
    (others_made g.row.WORDS c.args.count c.args.self.words c.loop-i.words _ c.loop-i.i (omega arith) (omega arith) c.loop-i.invariant (omega arith))

pub returns : goal.returns
returns g c = made_all _ g.row.WORDS c.loop-i.words c.loop-i.i (omega arith) c.loop-i.invariant
