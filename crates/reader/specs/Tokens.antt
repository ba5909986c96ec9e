use Rattle.std.specs.Prelude.{◌≡◌, ℕ, zero, suc, ◌+◌, ◌-◌, ◌<◌, cond, List, [], ◌∷◌, length, Ok, Err, Result, ◌==◌, slice_index}
use Rattle.kinds.specs.declared.Atom.{Atom}
use Rattle.kinds.specs.declared.Refused.{Refused}
use Rattle.kinds.specs.Atoms.{Operator}
use Rattle.trees.specs.declared.Postfix.TheVariants.{Star, Plus, Optional}
use Rattle.reader.specs.declared.token.Token.{Token}
use Rattle.reader.specs.declared.token.Token.TheVariants.{Open, Close, Bar, Repeat, Atom as AnAtom}
use Rattle.reader.specs.declared.token.Cut.{Cut}

-- A token and the place where it begins.
pub data Placed (C : Type 0) : Type 0 where
  placed : ℕ → Token C → Placed C

-- How the tokens of a text end: with the text, at its length; or where neither an operator nor an atom
-- can be read, for the kind's reason.
pub data Ending : Type 0 where
  text_ends : ℕ → Ending
  unreadable : Refused → Ending

-- The operator that a byte is: ( ) | * + ?
pub data Spells {C : Type 0} : ℕ → Token C → Type 0 where
  an_open : Spells 40 Open
  a_close : Spells 41 Close
  a_bar : Spells 124 Bar
  a_star : Spells 42 (Repeat Star)
  a_plus : Spells 43 (Repeat Plus)
  a_question : Spells 63 (Repeat Optional)

module _ {C : Type 0} (reading : List ℕ → ℕ → Result (Atom C) Refused) (text : List ℕ) where
  -- `Tokens i ts e`: from place i on, the text is these tokens, and ends so.
  pub data Tokens : ℕ → List (Placed C) → Ending → Type 0 where
    no_more : {i : ℕ} → i ≡ length text → Tokens i [] (text_ends i)
    no_token : {i : ℕ} {f : Refused} → i < length text → (Operator (slice_index text i) → ⊥) → reading text i ≡ Err f
        → Tokens i [] (unreadable f)
    an_operator : {i : ℕ} {x : Token C} {ts : List (Placed C)} {e : Ending} → i < length text → Spells (slice_index text i) x
        → Tokens (i + 1) ts e → Tokens i (placed i x ∷ ts) e
    an_atom : {i : ℕ} {a : Atom C} {ts : List (Placed C)} {e : Ending} → i < length text → (Operator (slice_index text i) → ⊥)
        → reading text i ≡ Ok a → Tokens (i + a.length) ts e → Tokens i (placed i (AnAtom a.class) ∷ ts) e

-- The same, computed: what the program does.
abbrev pub atom_cut : {C : Type 0} → Result (Atom C) Refused → Result (Cut C) Refused
atom_cut (Ok a) = Ok (record { token = AnAtom a.class; length = a.length })
atom_cut (Err f) = Err f

abbrev pub operator_cut : {C : Type 0} → Token C → Result (Cut C) Refused
operator_cut x = Ok (record { token = x; length = 1 })

module _ {C : Type 0} (reading : List ℕ → ℕ → Result (Atom C) Refused) (text : List ℕ) where
  -- The token at place i, where byte b stands.
  abbrev pub cut_at : ℕ → ℕ → Result (Cut C) Refused
  cut_at i b =
      cond (b == 40) (operator_cut Open)
      (cond (b == 41) (operator_cut Close)
      (cond (b == 124) (operator_cut Bar)
      (cond (b == 42) (operator_cut (Repeat Star))
      (cond (b == 43) (operator_cut (Repeat Plus))
      (cond (b == 63) (operator_cut (Repeat Optional))
      (atom_cut (reading text i)))))))

  abbrev pub with_cut : ℕ → (ℕ → List (Placed C) × Ending) → Result (Cut C) Refused → List (Placed C) × Ending
  with_cut i rest (Ok c) = (placed i c.token ∷ (rest (c.length - 1)).0, (rest (c.length - 1)).1)
  with_cut i rest (Err f) = ([], unreadable f)

  -- The tokens of the bytes that stand at place i and on, but for the first k, which belong to a token
  -- before.
  unfoldable pub tokens_from : List ℕ → ℕ → ℕ → List (Placed C) × Ending
  tokens_from [] i k = ([], text_ends i)
  tokens_from (b ∷ bytes) i zero = with_cut i (λ k. tokens_from bytes (i + 1) k) (cut_at i b)
  tokens_from (b ∷ bytes) i (suc k) = tokens_from bytes (i + 1) k
