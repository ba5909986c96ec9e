use Rattle.std.specs.Prelude.{ℕ, List, [], ◌∷◌, length, Ok, Err, Result}
use Rattle.std.proofs.Math.Option.{Option, some, none}
use Rattle.std.proofs.Math.Decide.{dec_lt}
use Rattle.kinds.specs.declared.Refused.{Refused}
use Rattle.kinds.specs.declared.Refusal.{Refusal}
use Rattle.kinds.specs.declared.Refusal.TheVariants.{BaseWanted, NoOpenGroup, UnfinishedGroup, TooManyGroups}
use Rattle.kinds.specs.Atoms.{refused_at}
use Rattle.trees.specs.declared.Joiner.{Joiner}
use Rattle.trees.specs.declared.Joiner.TheVariants.{Sequence, Choice}
use Rattle.trees.specs.declared.Postfix.{Postfix}
use Rattle.trees.specs.Listing.{Tree, empty, leaf, join, repeat}
use Rattle.reader.specs.declared.token.Token.{Token}
use Rattle.reader.specs.declared.token.Token.TheVariants.{Open, Close, Bar, Repeat, Atom}
use Rattle.reader.specs.Tokens.{Placed, placed, Ending, text_ends, unreadable}

-- What the program does, one token a turn, with trees where the program has the numbers of nodes.

-- The branch being read: a base is wanted, or there is a piece, behind the sequence before it if any.
pub data Part (C : Type 0) : Type 0 where
  wanted : Part C
  holds : Option (Tree C) → Tree C → Part C

-- An outer pattern: the place of the `(` where it was left, the choice before its present branch if any,
-- the sequence before the group if any.
pub data Frame (C : Type 0) : Type 0 where
  frame : ℕ → Option (Tree C) → Option (Tree C) → Frame C

pub data Turn (C : Type 0) : Type 0 where
  goes : List (Frame C) → Option (Tree C) → Part C → Turn C
  stops : Refusal → Turn C

module _ {C : Type 0} where
  abbrev pub joined : Joiner → Option (Tree C) → Tree C → Tree C
  joined j none t = t
  joined j (some s) t = join j s t

  abbrev pub before : Part C → Option (Tree C)
  before wanted = none
  before (holds b p) = some (joined Sequence b p)

  abbrev pub whole : Option (Tree C) → Option (Tree C) → Tree C → Tree C
  whole alts b p = joined Choice alts (joined Sequence b p)

  abbrev pub opened : {P : Type 0} → Dec P → ℕ → List (Frame C) → Option (Tree C) → Part C → Turn C
  opened (yes h) i st alts part = goes (frame i alts (before part) ∷ st) none wanted
  opened (no h) i st alts part = stops TooManyGroups

  abbrev pub shut : List (Frame C) → Option (Tree C) → Part C → Turn C
  shut [] alts part = stops NoOpenGroup
  shut (frame j oa os ∷ st) none wanted = goes st oa (holds os empty)
  shut (frame j oa os ∷ st) (some a) wanted = stops BaseWanted
  shut (frame j oa os ∷ st) alts (holds b p) = goes st oa (holds os (whole alts b p))

  abbrev pub barred : List (Frame C) → Option (Tree C) → Part C → Turn C
  barred st alts wanted = stops BaseWanted
  barred st alts (holds b p) = goes st (some (whole alts b p)) wanted

  abbrev pub postfixed : Postfix → List (Frame C) → Option (Tree C) → Part C → Turn C
  postfixed k st alts wanted = stops BaseWanted
  postfixed k st alts (holds b p) = goes st alts (holds b (repeat k p))

  -- One token at place i, with room for `deep` open groups.
  abbrev pub step : ℕ → ℕ → Token C → List (Frame C) → Option (Tree C) → Part C → Turn C
  step deep i Open st alts part = opened (dec_lt (length st) deep) i st alts part
  step deep i Close st alts part = shut st alts part
  step deep i Bar st alts part = barred st alts part
  step deep i (Repeat k) st alts part = postfixed k st alts part
  step deep i (Atom c) st alts part = goes st alts (holds (before part) (leaf c))

  abbrev pub finish : Ending → List (Frame C) → Option (Tree C) → Part C → Result (Tree C) Refused
  finish (unreadable f) st alts part = Err f
  finish (text_ends n) st alts wanted = refused_at BaseWanted n
  finish (text_ends n) [] alts (holds b p) = Ok (whole alts b p)
  finish (text_ends n) (frame j oa os ∷ st) alts (holds b p) = refused_at UnfinishedGroup j

  abbrev pub carry : Turn C → ℕ → (List (Frame C) → Option (Tree C) → Part C → Result (Tree C) Refused) → Result (Tree C) Refused
  carry (goes st alts part) i k = k st alts part
  carry (stops why) i k = refused_at why i

  unfoldable pub run : ℕ → List (Placed C) → Ending → List (Frame C) → Option (Tree C) → Part C → Result (Tree C) Refused
  run deep [] e st alts part = finish e st alts part
  run deep (placed i x ∷ ts) e st alts part =
      carry (step deep i x st alts part) i (λ st' alts' part'. run deep ts e st' alts' part')
