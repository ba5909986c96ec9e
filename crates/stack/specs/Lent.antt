use Rattle.std.specs.Prelude.{◌≡◌, ℕ, ◌-◌, List, ◌++◌, reverse, length, take, replicate}
use Rattle.std.specs.Borrow.{MutBor}

-- The same lent memory, as long as before, whatever it holds.
pub record Same {T : Type 0} (a b : MutBor (List T)) : Type 0 where
  pub at : a.ghost_name ≡ b.ghost_name
  pub long : length a.now ≡ length b.now

-- What a stack holds in the first n slots, its top first.
unfoldable pub held : {T : Type 0} → List T → ℕ → List T
held slots n = reverse (take n slots)

-- Memory with everything from place n on cleared.
abbrev pub cleared_from : {T : Type 0} → ℕ → T → List T → List T
cleared_from n blank slots = take n slots ++ replicate (length slots - n) blank
