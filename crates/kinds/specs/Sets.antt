use Rattle.std.specs.Prelude.{ℕ, ◌+◌, ◌-◌, Bool, true, false, cond, List, [], ◌∷◌, Ok, Err, Result, ◌==◌}
use Rattle.std.specs.declared.ops.ControlFlow.{ControlFlow}
use Rattle.std.specs.declared.ops.ControlFlow.TheVariants.{Continue, Break}
use Rattle.kinds.specs.declared.Atom.{Atom}
use Rattle.kinds.specs.declared.Refused.{Refused}
use Rattle.kinds.specs.declared.Refusal.TheVariants.{UnfinishedSet}
use Rattle.kinds.specs.Atoms.{refused_at}

-- What the program computes at a set: a machine that takes one byte a turn.

-- What one byte does to the machine: it goes on in another state, it closes the set with the class of its
-- items, or the set is refused.
abbrev pub Turn : Type 0 → Type 0 → Type 0
Turn M C = Result (ControlFlow C M) Refused

-- The class of a whole set, by its items and whether `^` leads.
abbrev pub whole_class : {C : Type 0} → (C → C) → Bool → C → C
whole_class others negated c = cond negated (others c) c

-- `turn state bracket place byte` is the turn that a byte at a place makes, in a set whose `[` is at the bracket.
module _ {M C : Type 0} (start : M) (turn : M → ℕ → ℕ → ℕ → Turn M C) (others : C → C) where
  module _ (negated : Bool) (bracket : ℕ) where
    abbrev pub after_turn : (M → Result (Atom C) Refused) → ℕ → Turn M C → Result (Atom C) Refused
    after_turn go place (Ok (Continue state)) = go state
    after_turn go place (Ok (Break c)) = Ok (record { class = whole_class others negated c; length = place + 1 - bracket })
    after_turn go place (Err f) = Err f

    -- The rest of a set, from a place and a state on.
    unfoldable pub run_set : List ℕ → ℕ → M → Result (Atom C) Refused
    run_set [] place state = refused_at UnfinishedSet bracket
    run_set (b ∷ rest) place state = after_turn (λ next. run_set rest (place + 1) next) place (turn state bracket place b)

  -- What stands behind the `[` at a place: the items, or `^` and the items of which the set is the complement.
  abbrev pub set_from : List ℕ → ℕ → Result (Atom C) Refused
  set_from [] i = refused_at UnfinishedSet i
  set_from (b ∷ rest) i = cond (b == 94) (run_set true i rest (i + 2) start) (run_set false i (b ∷ rest) (i + 1) start)
