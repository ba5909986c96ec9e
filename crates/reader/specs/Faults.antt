use Rattle.std.specs.Prelude.{◌≡◌, ℕ, ◌<◌, ◌≤◌, ◌⊎◌, List, [], ◌∷◌, ◌++◌, length}
use Rattle.kinds.specs.declared.Refused.{Refused}
use Rattle.kinds.specs.declared.Refusal.{Refusal}
use Rattle.kinds.specs.declared.Refusal.TheVariants.{BaseWanted, NoOpenGroup, UnfinishedGroup, TooManyGroups}
use Rattle.reader.specs.declared.token.Token.{Token}
use Rattle.reader.specs.declared.token.Token.TheVariants.{Open, Close, Bar, Repeat, Atom}
use Rattle.reader.specs.Tokens.{Placed, placed, Ending, text_ends, unreadable}

-- What stands directly before a place: nothing or `(`, where a pattern begins; or `|`; or the end of a
-- piece.
pub data Before : Type 0 where
  beginning : Before
  bar : Before
  piece : Before

-- A base is wanted there, unless a piece has just ended.
abbrev pub Wanting : Before → Type 0
Wanting beginning = Unit {0}
Wanting bar = Unit {0}
Wanting piece = ⊥

-- What is still open behind a `)`: all groups but the innermost.
abbrev pub closed : List ℕ → List ℕ
closed [] = []
closed (g ∷ gs) = gs

module _ {C : Type 0} where
  abbrev pub behind : Token C → Before
  behind Open = beginning
  behind Close = piece
  behind Bar = bar
  behind (Repeat k) = piece
  behind (Atom c) = piece

  unfoldable pub before_from : Before → List (Placed C) → Before
  before_from s [] = s
  before_from s (placed i x ∷ ts) = before_from (behind x) ts

  -- What stands before the place after the tokens.
  abbrev pub before_end : List (Placed C) → Before
  before_end u = before_from beginning u

  abbrev pub grouped : ℕ → List ℕ → Token C → List ℕ
  grouped i gs Open = i ∷ gs
  grouped i gs Close = closed gs
  grouped i gs Bar = gs
  grouped i gs (Repeat k) = gs
  grouped i gs (Atom c) = gs

  unfoldable pub groups_from : List ℕ → List (Placed C) → List ℕ
  groups_from gs [] = gs
  groups_from gs (placed i x ∷ ts) = groups_from (grouped i gs x) ts

  -- The groups open after the tokens, by the places of their `(`, the innermost first.
  abbrev pub groups : List (Placed C) → List ℕ
  groups u = groups_from [] u

  -- Why a token cannot stand where it does, told by what is before it and the groups open there.
  abbrev pub Wrong : Token C → Before → List ℕ → Refusal → Type 0
  Wrong Open s gs why = (why ≡ TooManyGroups) × (32 ≤ length gs)
  Wrong Close s gs why = ((why ≡ NoOpenGroup) × (gs ≡ [])) ⊎ ((why ≡ BaseWanted) × (s ≡ bar) × (0 < length gs))
  Wrong Bar s gs why = (why ≡ BaseWanted) × Wanting s
  Wrong (Repeat k) s gs why = (why ≡ BaseWanted) × Wanting s
  Wrong (Atom c) s gs why = ⊥

  -- No token of u is wrong where it stands.
  abbrev pub Clean : List (Placed C) → Type 0
  Clean u = (v : List (Placed C)) (i : ℕ) (x : Token C) (w : List (Placed C)) → u ≡ v ++ placed i x ∷ w
      → (why : Refusal) → Wrong x (before_end v) (groups v) why → ⊥

  -- Fewer than 32 groups are open before each `(`.
  abbrev pub Shallow : List (Placed C) → Type 0
  Shallow ts = (u : List (Placed C)) (i : ℕ) (v : List (Placed C)) → ts ≡ u ++ placed i Open ∷ v → length (groups u) < 32

-- Why the tokens cannot end as they do.
abbrev pub WrongEnd : Ending → Before → List ℕ → Refused → Type 0
WrongEnd (unreadable g) s gs f = f ≡ g
WrongEnd (text_ends n) s gs f =
    ((f.refusal ≡ BaseWanted) × (f.place ≡ n) × Wanting s)
    ⊎ ((f.refusal ≡ UnfinishedGroup) × (s ≡ piece) × ((hs : List ℕ) × (gs ≡ f.place ∷ hs)))

-- The first fault of tokens with their ending.
pub data Fault {C : Type 0} (ts : List (Placed C)) (e : Ending) : Refused → Type 0 where
  at_token : (u : List (Placed C)) (i : ℕ) (x : Token C) (v : List (Placed C)) {why : Refusal} → ts ≡ u ++ placed i x ∷ v
      → Clean u → Wrong x (before_end u) (groups u) why → Fault ts e (record { refusal = why; place = i })
  at_end : {f : Refused} → Clean ts → WrongEnd e (before_end ts) (groups ts) f → Fault ts e f
