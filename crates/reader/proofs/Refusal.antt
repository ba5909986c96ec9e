use Rattle.std.proofs.Common.{◌≡◌, ℕ, suc, ◌<◌, ◌⊎◌, List, [], ◌∷◌, ◌++◌, length, Err, Result, sym, refl, ap, subst, ap₂, inl, inr, append-nil, arith}
use mathlib.Core.Option.{Option, some, none}
use native.Mathlib.Decide.{dec_lt}
use Rattle.kinds.specs.declared.Refused.{Refused}
use Rattle.kinds.specs.declared.Refusal.{Refusal}
use Rattle.kinds.specs.declared.Refusal.TheVariants.{BaseWanted, NoOpenGroup, UnfinishedGroup}
use Rattle.kinds.specs.Atoms.{refused_at}
use Rattle.trees.specs.Listing.{Tree}
use Rattle.reader.specs.declared.token.Token.{Token}
use Rattle.reader.specs.declared.token.Token.TheVariants.{Open, Close, Bar, Repeat, Atom}
use Rattle.reader.specs.Tokens.{Placed, placed, Ending, text_ends, unreadable}
use Rattle.reader.specs.Faults.{Before, beginning, bar, piece, behind, before_from, grouped, groups_from, Wrong, Clean, WrongEnd, Fault, at_token, at_end}
use Rattle.reader.specs.Machine.{Part, wanted, holds, Frame, frame, Turn, goes, stops, opened, shut, step, finish, carry, run}

-- A run refuses with the first fault, and with no other.

beginning_bar : beginning ≡ bar → ⊥
beginning_bar e = let z : ◌≡◌ {A = ℕ} 0 1 = cc in omega arith

piece_bar : piece ≡ bar → ⊥
piece_bar e = let z : ◌≡◌ {A = ℕ} 0 1 = cc in omega arith

-- When `)` is wrong.
no_group : (C : Type 0) (s : Before) (why : Refusal) → Wrong {C = C} Close s [] why → why ≡ NoOpenGroup
no_group C s why (inl h) = h.0
no_group C s why (inr h) = absurd (omega (arith, h.2))

closes : (C : Type 0) (s : Before) (g : ℕ) (gs : List ℕ) → (s ≡ bar → ⊥) → (why : Refusal) → Wrong {C = C} Close s (g ∷ gs) why → ⊥
closes C s g gs f why (inl h) = let e = h.1 in let z : ◌≡◌ {A = ℕ} 0 1 = cc in omega arith
closes C s g gs f why (inr h) = f h.1

after_bar : (C : Type 0) (g : ℕ) (gs : List ℕ) (why : Refusal) → Wrong {C = C} Close bar (g ∷ gs) why → why ≡ BaseWanted
after_bar C g gs why (inl h) = let e = h.1 in cc
after_bar C g gs why (inr h) = h.0

-- A refusal is told by its reason and its place.
refused_is : {X : Type 0} (why : Refusal) (i : ℕ) (f : Refused) → f.refusal ≡ why → f.place ≡ i
    → ◌≡◌ {A = Result X Refused} (refused_at why i) (Err f)
refused_is why i f h k = ap₂ (λ w j. Err (record { refusal = w; place = j })) (sym h) (sym k)

module _ {C : Type 0} where
  -- The first fault, token by token.
  abbrev RefusedFrom : Before → List ℕ → List (Placed C) → Ending → Refused → Type 0
  RefusedFrom s gs [] e f = WrongEnd e s gs f
  RefusedFrom s gs (placed i x ∷ ts) e f =
      (Wrong x s gs f.refusal × (f.place ≡ i))
      ⊎ (((why : Refusal) → Wrong x s gs why → ⊥) × RefusedFrom (behind x) (grouped i gs x) ts e f)

  -- What stands before the next token, and the open groups, told by the state.
  abbrev standing : Option (Tree C) → Part C → Before
  standing none wanted = beginning
  standing (some a) wanted = bar
  standing alts (holds b p) = piece

  abbrev places : List (Frame C) → List ℕ
  places [] = []
  places (frame j oa os ∷ st) = j ∷ places st

  length-places : (st : List (Frame C)) → length (places st) ≡ length st
  length-places [] = refl
  length-places (frame j oa os ∷ st) = ap suc (length-places st)

  -- A turn that goes on found nothing wrong; one that stops found what it says, and nothing else.
  abbrev TurnSays : ℕ → Token C → Before → List ℕ → Turn C → Type 0
  TurnSays i x s gs (goes st alts part) =
      ((why : Refusal) → Wrong x s gs why → ⊥) × (standing alts part ≡ behind x) × (places st ≡ grouped i gs x)
  TurnSays i x s gs (stops why) = Wrong x s gs why × ((w : Refusal) → Wrong x s gs w → w ≡ why)

  opened_says : (i : ℕ) (st : List (Frame C)) (alts : Option (Tree C)) (part : Part C) (d : Dec (length st < 32))
      → TurnSays i Open (standing alts part) (places st) (opened d i st alts part)
  opened_says i st alts part (yes q) = (λ why h. omega (arith, length-places st, h.1), refl, refl)
  opened_says i st alts part (no q) = ((refl, omega (arith, length-places st)), λ why h. h.0)

  shut_says : (i : ℕ) (st : List (Frame C)) (alts : Option (Tree C)) (part : Part C)
      → TurnSays i Close (standing alts part) (places st) (shut st alts part)
  shut_says i [] alts part = (inl (refl, refl), no_group C (standing alts part))
  shut_says i (frame j oa os ∷ st) none wanted = (closes C beginning j (places st) beginning_bar, refl, refl)
  shut_says i (frame j oa os ∷ st) (some a) wanted = (inr (refl, refl, omega arith), after_bar C j (places st))
  shut_says i (frame j oa os ∷ st) alts (holds b p) = (closes C piece j (places st) piece_bar, refl, refl)

  step_says : (i : ℕ) (x : Token C) (st : List (Frame C)) (alts : Option (Tree C)) (part : Part C)
      → TurnSays i x (standing alts part) (places st) (step 32 i x st alts part)
  step_says i Open st alts part = opened_says i st alts part (dec_lt (length st) 32)
  step_says i Close st alts part = shut_says i st alts part
  step_says i Bar st none wanted = ((refl, tt), λ why h. h.0)
  step_says i Bar st (some a) wanted = ((refl, tt), λ why h. h.0)
  step_says i Bar st alts (holds b p) = (λ why h. h.1, refl, refl)
  step_says i (Repeat k) st none wanted = ((refl, tt), λ why h. h.0)
  step_says i (Repeat k) st (some a) wanted = ((refl, tt), λ why h. h.0)
  step_says i (Repeat k) st alts (holds b p) = (λ why h. h.1, refl, refl)
  step_says i (Atom c) st alts part = (λ why h. h, refl, refl)

  finish_out : (e : Ending) (st : List (Frame C)) (alts : Option (Tree C)) (part : Part C) (f : Refused)
      → finish e st alts part ≡ Err f → WrongEnd e (standing alts part) (places st) f
  finish_out (unreadable g) st alts part f q = cc
  finish_out (text_ends n) st none wanted f q = inl (cc, cc, tt)
  finish_out (text_ends n) st (some a) wanted f q = inl (cc, cc, tt)
  finish_out (text_ends n) [] alts (holds b p) f q = let z : ◌≡◌ {A = ℕ} 0 1 = cc in absurd (omega arith)
  finish_out (text_ends n) (frame j oa os ∷ st) alts (holds b p) f q =
      let z : j ≡ f.place = cc in inr (cc, refl, (places st, ap (λ k. k ∷ places st) z))

  finish_in : (e : Ending) (st : List (Frame C)) (alts : Option (Tree C)) (part : Part C) (f : Refused)
      → WrongEnd e (standing alts part) (places st) f → finish e st alts part ≡ Err f
  finish_in (unreadable g) st alts part f h = ap (λ z. Err z) (sym h)
  finish_in (text_ends n) st none wanted f (inl h) = refused_is BaseWanted n f h.0 h.1
  finish_in (text_ends n) st none wanted f (inr h) = let e = h.1 in cc
  finish_in (text_ends n) st (some a) wanted f (inl h) = refused_is BaseWanted n f h.0 h.1
  finish_in (text_ends n) st (some a) wanted f (inr h) = let e = h.1 in cc
  finish_in (text_ends n) [] alts (holds b p) f (inl h) = absurd h.2
  finish_in (text_ends n) [] alts (holds b p) f (inr h) = let e = h.2.1 in cc
  finish_in (text_ends n) (frame j oa os ∷ st) alts (holds b p) f (inl h) = absurd h.2
  finish_in (text_ends n) (frame j oa os ∷ st) alts (holds b p) f (inr h) =
      let e = h.2.1 in let z : f.place ≡ j = cc in refused_is UnfinishedGroup j f h.0 z

  turn_out : (i : ℕ) (x : Token C) (s : Before) (gs : List ℕ) (ts : List (Placed C)) (e : Ending) (f : Refused) (n : Turn C)
      (k : List (Frame C) → Option (Tree C) → Part C → Result (Tree C) Refused)
      → ((st : List (Frame C)) (alts : Option (Tree C)) (part : Part C) → k st alts part ≡ Err f → RefusedFrom (standing alts part) (places st) ts e f)
      → TurnSays i x s gs n → carry n i k ≡ Err f → RefusedFrom s gs (placed i x ∷ ts) e f
  turn_out i x s gs ts e f (goes st alts part) k rest r q =
      inr (
        r.0,
        subst (λ z. RefusedFrom (behind x) z ts e f) r.2
            (subst (λ z. RefusedFrom z (places st) ts e f) r.1 (rest st alts part q)),
      )
  turn_out i x s gs ts e f (stops why) k rest r q =
      let z : why ≡ f.refusal = cc in inl (subst (λ w. Wrong x s gs w) z r.0, cc)

  turn_in : (i : ℕ) (x : Token C) (s : Before) (gs : List ℕ) (ts : List (Placed C)) (e : Ending) (f : Refused) (n : Turn C)
      (k : List (Frame C) → Option (Tree C) → Part C → Result (Tree C) Refused)
      → ((st : List (Frame C)) (alts : Option (Tree C)) (part : Part C) → RefusedFrom (standing alts part) (places st) ts e f → k st alts part ≡ Err f)
      → TurnSays i x s gs n → RefusedFrom s gs (placed i x ∷ ts) e f → carry n i k ≡ Err f
  turn_in i x s gs ts e f (goes st alts part) k rest r (inl h) = absurd (r.0 f.refusal h.0)
  turn_in i x s gs ts e f (goes st alts part) k rest r (inr h) =
      rest st alts part (subst (λ z. RefusedFrom z (places st) ts e f) (sym r.1)
      (subst (λ z. RefusedFrom (behind x) z ts e f) (sym r.2) h.1))
  turn_in i x s gs ts e f (stops why) k rest r (inl h) = refused_is why i f (r.1 f.refusal h.0) h.1
  turn_in i x s gs ts e f (stops why) k rest r (inr h) = absurd (h.0 why r.0)

  run_out : (ts : List (Placed C)) (e : Ending) (st : List (Frame C)) (alts : Option (Tree C)) (part : Part C) (f : Refused)
      → run 32 ts e st alts part ≡ Err f → RefusedFrom (standing alts part) (places st) ts e f
  unfolding run
  run_out [] e st alts part f q = finish_out e st alts part f q
  run_out (placed i x ∷ ts) e st alts part f q =
      turn_out i x (standing alts part) (places st) ts e f (step 32 i x st alts part) (λ st' alts' part'. run 32 ts e st' alts' part')
      (λ st' alts' part' k. run_out ts e st' alts' part' f k) (step_says i x st alts part) q

  run_in : (ts : List (Placed C)) (e : Ending) (st : List (Frame C)) (alts : Option (Tree C)) (part : Part C) (f : Refused)
      → RefusedFrom (standing alts part) (places st) ts e f → run 32 ts e st alts part ≡ Err f
  unfolding run
  run_in [] e st alts part f q = finish_in e st alts part f q
  run_in (placed i x ∷ ts) e st alts part f q =
      turn_in i x (standing alts part) (places st) ts e f (step 32 i x st alts part) (λ st' alts' part'. run 32 ts e st' alts' part')
      (λ st' alts' part' k. run_in ts e st' alts' part' f k) (step_says i x st alts part) q

  -- The first fault, told by what stands before it.
  abbrev CleanFrom : Before → List ℕ → List (Placed C) → Type 0
  CleanFrom s gs [] = Unit {0}
  CleanFrom s gs (placed i x ∷ ts) = ((why : Refusal) → Wrong x s gs why → ⊥) × CleanFrom (behind x) (grouped i gs x) ts

  clean_out : (v : List (Placed C)) (s : Before) (gs : List ℕ) (i : ℕ) (x : Token C) (w : List (Placed C)) → CleanFrom s gs (v ++ placed i x ∷ w)
      → (why : Refusal) → Wrong x (before_from s v) (groups_from gs v) why → ⊥
  unfolding before_from groups_from
  clean_out [] s gs i x w h why b = h.0 why b
  clean_out (placed j y ∷ v) s gs i x w h why b = clean_out v (behind y) (grouped j gs y) i x w h.1 why b

  clean_in : (ts : List (Placed C)) (s : Before) (gs : List ℕ)
      → ((v : List (Placed C)) (i : ℕ) (x : Token C) (w : List (Placed C)) → ts ≡ v ++ placed i x ∷ w
      → (why : Refusal) → Wrong x (before_from s v) (groups_from gs v) why → ⊥)
      → CleanFrom s gs ts
  unfolding before_from groups_from
  clean_in [] s gs f = tt
  clean_in (placed i x ∷ ts) s gs f = (
    λ why b. f [] i x ts refl why b,
    clean_in ts (behind x) (grouped i gs x) (λ v j y w e why b. f (placed i x ∷ v) j y w (ap (λ z. placed i x ∷ z) e) why b),
  )

  clean_of : (u : List (Placed C)) → CleanFrom beginning [] u → Clean u
  clean_of u h v i x w e why b = clean_out v beginning [] i x w (subst (λ z. CleanFrom beginning [] z) e h) why b

  -- Where the first fault is: at a token, or at the end.
  record AtToken (s : Before) (gs : List ℕ) (ts : List (Placed C)) (f : Refused) : Type 0 where
    pub fore : List (Placed C)
    pub token : Token C
    pub rest : List (Placed C)
    pub is : ts ≡ fore ++ placed f.place token ∷ rest
    pub clean : CleanFrom s gs fore
    pub wrong : Wrong token (before_from s fore) (groups_from gs fore) f.refusal

  record AtEnd (s : Before) (gs : List ℕ) (ts : List (Placed C)) (e : Ending) (f : Refused) : Type 0 where
    pub clean : CleanFrom s gs ts
    pub wrong : WrongEnd e (before_from s ts) (groups_from gs ts) f

  apart : (ts : List (Placed C)) (e : Ending) (s : Before) (gs : List ℕ) (f : Refused) → RefusedFrom s gs ts e f → AtToken s gs ts f ⊎ AtEnd s gs ts e f
  unfolding before_from groups_from
  apart [] e s gs f h = inr (record { clean = tt; wrong = h })
  apart (placed i x ∷ ts) e s gs f (inl h) =
      inl (record { fore = []; token = x; rest = ts; is = ap (λ j. placed j x ∷ ts) (sym h.1); clean = tt; wrong = h.0 })
  apart (placed i x ∷ ts) e s gs f (inr h) = go (apart ts e (behind x) (grouped i gs x) f h.1)
    where
      go : AtToken (behind x) (grouped i gs x) ts f ⊎ AtEnd (behind x) (grouped i gs x) ts e f
          → AtToken s gs (placed i x ∷ ts) f ⊎ AtEnd s gs (placed i x ∷ ts) e f
      go (inl a) =
          inl (record {
            fore = placed i x ∷ a.fore;
            token = a.token;
            rest = a.rest;
            is = ap (λ z. placed i x ∷ z) a.is;
            clean = (h.0, a.clean);
            wrong = a.wrong;
          })
      go (inr a) = inr (record { clean = (h.0, a.clean); wrong = a.wrong })

  joins : (u : List (Placed C)) (s : Before) (gs : List ℕ) (rest : List (Placed C)) (e : Ending) (f : Refused) → CleanFrom s gs u
      → RefusedFrom (before_from s u) (groups_from gs u) rest e f → RefusedFrom s gs (u ++ rest) e f
  unfolding before_from groups_from
  joins [] s gs rest e f h r = r
  joins (placed i x ∷ u) s gs rest e f h r = inr (h.0, joins u (behind x) (grouped i gs x) rest e f h.1 r)

  fault_of : (ts : List (Placed C)) (e : Ending) (f : Refused) → AtToken beginning [] ts f ⊎ AtEnd beginning [] ts e f → Fault ts e f
  fault_of ts e f (inl a) = at_token a.fore f.place a.token a.rest a.is (clean_of a.fore a.clean) a.wrong
  fault_of ts e f (inr a) = at_end (clean_of ts a.clean) a.wrong

  pub fault_out : (ts : List (Placed C)) (e : Ending) (f : Refused) → run 32 ts e [] none wanted ≡ Err f → Fault ts e f
  fault_out ts e f q = fault_of ts e f (apart ts e beginning [] f (run_out ts e [] none wanted f q))

  from_fault : {ts : List (Placed C)} {e : Ending} {f : Refused} → Fault ts e f → RefusedFrom beginning [] ts e f
  from_fault {e = e} {f = f} (at_token u i x v q k b) =
      subst (λ z. RefusedFrom beginning [] z e f) (sym q)
      (joins u beginning [] (placed i x ∷ v) e f (clean_in u beginning [] k) (inl (b, refl)))
  from_fault {ts = ts} {e = e} {f = f} (at_end k b) =
      subst (λ z. RefusedFrom beginning [] z e f) (append-nil ts) (joins ts beginning [] [] e f (clean_in ts beginning [] k) b)

  pub fault_in : (ts : List (Placed C)) (e : Ending) (f : Refused) → Fault ts e f → run 32 ts e [] none wanted ≡ Err f
  fault_in ts e f h = run_in ts e [] none wanted f (from_fault h)
