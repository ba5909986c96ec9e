use Rattle.std.proofs.Common.{◌&&◌, nat_le, nat_lt, arith}
use Rattle.sets.proofs.NumberSets.{span_is, more_made, made_all}
use Rattle.sets.proofs.number_set.NumberSet.with_span.Goals as goal

pub loop-i-preserved : goal.loop-i-preserved
loop-i-preserved g c =
    rw (c.below.ensures, c.below-in-loop-i.ensures, c.below-in-loop-i-2.ensures, span_is c.args.first c.args.end c.loop-i.i)
    (more_made g.row.WORDS c.args.count c.args.self.words c.loop-i.words _ c.loop-i.i (omega arith) (omega arith) (λ m. nat_le c.args.first m && nat_lt m c.args.end) c.loop-i.invariant (omega arith))

pub returns : goal.returns
returns g c = made_all _ g.row.WORDS c.loop-i.words c.loop-i.i (omega arith) c.loop-i.invariant
