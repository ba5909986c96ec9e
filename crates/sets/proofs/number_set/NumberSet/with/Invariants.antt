use Rattle.std.proofs.Common.{◌&&◌, ◌||◌, nat_lt}
use Rattle.std.specs.Prelude.{◌==◌}
use Rattle.sets.specs.NumberSets.{has}
use Rattle.sets.proofs.NumberSets.{Made}
use Rattle.sets.proofs.number_set.NumberSet.with.Given as goal

abbrev pub invariant-loop-i : goal.invariant-loop-i
invariant-loop-i g l = Made (λ m. nat_lt m l.count && (m == l.n || has l.fn.self m)) g.row.WORDS l.i l.words
