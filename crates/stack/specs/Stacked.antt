use Rattle.std.specs.Prelude.{ℕ, List}
use Rattle.std.specs.Borrow.{MutBor}
use Rattle.stack.specs.declared.Stack.{Stack}
use Rattle.stack.specs.Lent.{held}

-- The memory that a stack was lent.
abbrev pub lent : {T : Type 0} → Stack T → MutBor (List T)
lent s = s.slots

-- What the slots hold, all of them.
abbrev pub memory : {T : Type 0} → Stack T → List T
memory s = s.slots.now

-- How many elements a stack holds.
abbrev pub count : {T : Type 0} → Stack T → ℕ
count s = s.used

-- What a stack holds, its top first.
abbrev pub stacked : {T : Type 0} → Stack T → List T
stacked s = held s.slots.now s.used
