use Rattle.std.proofs.Common.{◌≡◌, ℕ, zero, suc, ◌+◌, ◌<◌, ◌≤◌, List, [], ◌∷◌, ◌++◌, length, Ok, Result, sym, refl, ap, ◌∙◌, subst, arith}
use mathlib.Core.Option.{Option, some, none}
use native.Mathlib.Decide.{dec_lt}
use Rattle.kinds.specs.declared.Refused.{Refused}
use Rattle.trees.specs.Listing.{Tree}
use Rattle.reader.specs.declared.token.Token.{Token}
use Rattle.reader.specs.declared.token.Token.TheVariants.{Open, Close, Bar, Repeat, Atom}
use Rattle.reader.specs.Tokens.{Placed, placed, Ending}
use Rattle.reader.specs.Faults.{grouped, groups_from, Shallow}
use Rattle.reader.specs.Machine.{Part, wanted, holds, Frame, frame, Turn, goes, stops, opened, step, carry, run}
use Rattle.reader.proofs.Complete.{down, depth, depth_from, Enters, Room, room_right}

-- What is accepted had room; room is being shallow; and there is a depth with room for any tokens.

down_le : (n : ℕ) → down n ≤ n
down_le zero = omega arith
down_le (suc n) = omega arith

module _ {C : Type 0} where
  -- A turn that goes on had room, and counts the groups.
  abbrev TurnDeep : ℕ → ℕ → Token C → Turn C → Type 0
  TurnDeep deep n x (goes st alts part) = Enters deep n x × (length st ≡ depth n x)
  TurnDeep deep n x (stops why) = Unit {0}

  opened_deep : (deep i : ℕ) (st : List (Frame C)) (alts : Option (Tree C)) (part : Part C) (d : Dec (length st < deep))
      → TurnDeep deep (length st) Open (opened d i st alts part)
  opened_deep deep i st alts part (yes q) = (q, refl)
  opened_deep deep i st alts part (no q) = tt

  step_deep : (deep i : ℕ) (x : Token C) (st : List (Frame C)) (alts : Option (Tree C)) (part : Part C)
      → TurnDeep deep (length st) x (step deep i x st alts part)
  step_deep deep i Open st alts part = opened_deep deep i st alts part (dec_lt (length st) deep)
  step_deep deep i Close [] alts part = tt
  step_deep deep i Close (frame j oa os ∷ st) none wanted = (tt, refl)
  step_deep deep i Close (frame j oa os ∷ st) (some a) wanted = tt
  step_deep deep i Close (frame j oa os ∷ st) alts (holds b p) = (tt, refl)
  step_deep deep i Bar st alts wanted = tt
  step_deep deep i Bar st alts (holds b p) = (tt, refl)
  step_deep deep i (Repeat k) st alts wanted = tt
  step_deep deep i (Repeat k) st alts (holds b p) = (tt, refl)
  step_deep deep i (Atom c) st alts part = (tt, refl)

  turn_room : (deep n : ℕ) (x : Token C) (ts : List (Placed C)) (m : Turn C) (i : ℕ)
      (k : List (Frame C) → Option (Tree C) → Part C → Result (Tree C) Refused) (t : Tree C)
      → ((st : List (Frame C)) (alts : Option (Tree C)) (part : Part C) → k st alts part ≡ Ok t → Room deep (length st) ts)
      → TurnDeep deep n x m → carry m i k ≡ Ok t → Room deep n (placed i x ∷ ts)
  turn_room deep n x ts (goes st alts part) i k t f r e = (r.0, subst (λ z. Room deep z ts) r.1 (f st alts part e))
  turn_room deep n x ts (stops why) i k t f r e = let z : ◌≡◌ {A = ℕ} 0 1 = cc in absurd (omega arith)

  pub room_of : (deep : ℕ) (ts : List (Placed C)) (e : Ending) (st : List (Frame C)) (alts : Option (Tree C)) (part : Part C) (t : Tree C)
      → run deep ts e st alts part ≡ Ok t → Room deep (length st) ts
  unfolding run
  room_of deep [] e st alts part t q = tt
  room_of deep (placed i x ∷ ts) e st alts part t q =
      turn_room deep (length st) x ts (step deep i x st alts part) i (λ st' alts' part'. run deep ts e st' alts' part') t
      (λ st' alts' part' k. room_of deep ts e st' alts' part' t k) (step_deep deep i x st alts part) q

  -- Room, told by the groups open before each `(`.
  length-grouped : (i : ℕ) (gs : List ℕ) (x : Token C) → length (grouped i gs x) ≡ depth (length gs) x
  length-grouped i gs Open = refl
  length-grouped i [] Close = refl
  length-grouped i (g ∷ gs) Close = refl
  length-grouped i gs Bar = refl
  length-grouped i gs (Repeat k) = refl
  length-grouped i gs (Atom c) = refl

  length-groups : (u : List (Placed C)) (gs : List ℕ) → length (groups_from gs u) ≡ depth_from (length gs) u
  unfolding groups_from
  length-groups [] gs = refl
  length-groups (placed i x ∷ u) gs = length-groups u (grouped i gs x) ∙ ap (λ n. depth_from n u) (length-grouped i gs x)

  enters_from : (deep n i : ℕ) (x : Token C) (ts : List (Placed C))
      → ((u : List (Placed C)) (j : ℕ) (v : List (Placed C)) → placed i x ∷ ts ≡ u ++ placed j Open ∷ v → depth_from n u < deep) → Enters deep n x
  enters_from deep n i Open ts f = f [] i ts refl
  enters_from deep n i Close ts f = tt
  enters_from deep n i Bar ts f = tt
  enters_from deep n i (Repeat k) ts f = tt
  enters_from deep n i (Atom c) ts f = tt

  room_from : (deep n : ℕ) (ts : List (Placed C))
      → ((u : List (Placed C)) (j : ℕ) (v : List (Placed C)) → ts ≡ u ++ placed j Open ∷ v → depth_from n u < deep) → Room deep n ts
  room_from deep n [] f = tt
  room_from deep n (placed i x ∷ ts) f =
      (enters_from deep n i x ts f, room_from deep (depth n x) ts (λ u j v e. f (placed i x ∷ u) j v (ap (λ z. placed i x ∷ z) e)))

  pub shallow_room : (ts : List (Placed C)) → Shallow ts → Room 32 0 ts
  shallow_room ts f = room_from 32 0 ts (λ u j v e. subst (λ n. n < 32) (length-groups u []) (f u j v e))

  pub room_shallow : (ts : List (Placed C)) → Room 32 0 ts → Shallow ts
  room_shallow ts r u j v e =
      subst (λ n. n < 32) (sym (length-groups u [])) (room_right 32 0 u (placed j Open ∷ v) (subst (λ z. Room 32 0 z) e r)).0

  pub room_any : (deep n : ℕ) (ts : List (Placed C)) → n + length ts ≤ deep → Room deep n ts
  room_any deep n [] h = tt
  room_any deep n (placed i Open ∷ ts) h = (omega arith, room_any deep (suc n) ts (omega arith))
  room_any deep n (placed i Close ∷ ts) h = (tt, room_any deep (down n) ts (omega (arith, down_le n)))
  room_any deep n (placed i Bar ∷ ts) h = (tt, room_any deep n ts (omega arith))
  room_any deep n (placed i (Repeat k) ∷ ts) h = (tt, room_any deep n ts (omega arith))
  room_any deep n (placed i (Atom c) ∷ ts) h = (tt, room_any deep n ts (omega arith))
