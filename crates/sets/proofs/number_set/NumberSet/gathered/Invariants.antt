use Rattle.std.proofs.Common.{◌≡◌, ℕ, ◌*◌, ◌^◌, ◌<◌, ◌≤◌, false, length, get_or}
use Rattle.sets.specs.NumberSets.{in_words}
use Rattle.sets.proofs.number_set.NumberSet.gathered.Given as goal

-- so far the words have each number below n as was answered, and no more
abbrev pub invariant-loop-n : goal.invariant-loop-n
invariant-loop-n g l =
    record {
      many : length l.words ≡ g.row.WORDS;
      small : (i : ℕ) → get_or l.words i 0 < 2 ^ 64;
      below : (m : ℕ) → m < l.n → m < 64 * g.row.WORDS → goal.F-post g l.passes m (in_words l.words m);
      no_more : (m : ℕ) → l.n ≤ m → m < 64 * g.row.WORDS → in_words l.words m ≡ false;
    }
