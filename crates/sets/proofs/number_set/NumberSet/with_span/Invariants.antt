use Rattle.std.proofs.Common.{◌&&◌, ◌||◌, nat_le, nat_lt}
use Rattle.sets.specs.NumberSets.{has}
use Rattle.sets.proofs.NumberSets.{Made}
use Rattle.sets.proofs.number_set.NumberSet.with_span.Given as goal

abbrev pub invariant-loop-i : goal.invariant-loop-i
invariant-loop-i g l = Made (λ n. nat_lt n l.count && (nat_le l.first n && nat_lt n l.end || has l.fn.self n)) g.row.WORDS l.i l.words
