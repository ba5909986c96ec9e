use Rattle.std.proofs.Common.{not, ◌&&◌, nat_lt}
use Rattle.sets.specs.NumberSets.{has}
use Rattle.sets.proofs.NumberSets.{Made}
use Rattle.sets.proofs.number_set.NumberSet.others.Given as goal

abbrev pub invariant-loop-i : goal.invariant-loop-i
invariant-loop-i g l = Made (λ n. nat_lt n l.count && not (has l.fn.self n)) g.row.WORDS l.i l.words
