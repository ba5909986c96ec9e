use Rattle.std.proofs.Common.{◌≡◌, ℕ, zero, suc, ◌<◌, List, [], ◌∷◌, ◌++◌, length, Ok, sym, refl, ap, ◌∙◌, subst, ap₂, append_assoc, append-nil}
use mathlib.Core.Option.{Option, some, none}
use native.Mathlib.Decide.{dec_lt}
use Rattle.trees.specs.declared.Joiner.TheVariants.{Sequence, Choice}
use Rattle.trees.specs.Listing.{Tree, join}
use Rattle.reader.specs.declared.token.Token.{Token}
use Rattle.reader.specs.declared.token.Token.TheVariants.{Open, Close, Bar, Repeat, Atom}
use Rattle.reader.specs.Tokens.{Placed, placed, Ending, text_ends}
use Rattle.reader.specs.Grammar.{Sort, a_base, a_piece, a_branch, a_pattern, Derives, empty_word, group, one_atom, bare, repeated, one_piece, more_pieces, one_branch, more_branches, Pattern}
use Rattle.reader.specs.Machine.{Part, wanted, holds, Frame, frame, goes, joined, before, whole, opened, carry, run}

-- Every pattern is accepted with its tree, when there is room for its groups.

abbrev pub down : ℕ → ℕ
down zero = zero
down (suc n) = n

module _ {C : Type 0} where
  -- How many groups are open, and that there is room for each.
  abbrev pub depth : ℕ → Token C → ℕ
  depth n Open = suc n
  depth n Close = down n
  depth n Bar = n
  depth n (Repeat k) = n
  depth n (Atom c) = n

  abbrev pub depth_from : ℕ → List (Placed C) → ℕ
  depth_from n [] = n
  depth_from n (placed i x ∷ ts) = depth_from (depth n x) ts

  abbrev pub Enters : ℕ → ℕ → Token C → Type 0
  Enters deep n Open = n < deep
  Enters deep n Close = Unit {0}
  Enters deep n Bar = Unit {0}
  Enters deep n (Repeat k) = Unit {0}
  Enters deep n (Atom c) = Unit {0}

  abbrev pub Room : ℕ → ℕ → List (Placed C) → Type 0
  Room deep n [] = Unit {0}
  Room deep n (placed i x ∷ ts) = Enters deep n x × Room deep (depth n x) ts

  depth_append : (n : ℕ) (u v : List (Placed C)) → depth_from n (u ++ v) ≡ depth_from (depth_from n u) v
  depth_append n [] v = refl
  depth_append n (placed i x ∷ u) v = depth_append (depth n x) u v

  room_left : (deep n : ℕ) (u v : List (Placed C)) → Room deep n (u ++ v) → Room deep n u
  room_left deep n [] v r = tt
  room_left deep n (placed i x ∷ u) v r = (r.0, room_left deep (depth n x) u v r.1)

  pub room_right : (deep n : ℕ) (u v : List (Placed C)) → Room deep n (u ++ v) → Room deep (depth_from n u) v
  room_right deep n [] v r = r
  room_right deep n (placed i x ∷ u) v r = room_right deep (depth n x) u v r.1

  balanced : {s : Sort} {u : List (Placed C)} {t : Tree C} → Derives s u t → (n : ℕ) → depth_from n u ≡ n
  balanced empty_word n = refl
  balanced (group j {u} h) n = depth_append (suc n) u (placed j Close ∷ []) ∙ ap down (balanced h (suc n))
  balanced one_atom n = refl
  balanced (bare h) n = balanced h n
  balanced (repeated i {k} {u} h) n = depth_append n u (placed i (Repeat k) ∷ []) ∙ balanced h n
  balanced (one_piece h) n = balanced h n
  balanced (more_pieces {u} {v} h k) n = depth_append n u v ∙ ap (λ m. depth_from m v) (balanced h n) ∙ balanced k n
  balanced (one_branch h) n = balanced h n
  balanced (more_branches i {u} {v} h k) n = depth_append n u (placed i Bar ∷ v) ∙ ap (λ m. depth_from m v) (balanced h n) ∙ balanced k n

  room_next : {s : Sort} {u : List (Placed C)} {t : Tree C} (deep n : ℕ) (v : List (Placed C)) → Derives s u t
      → Room deep n (u ++ v) → Room deep n v
  room_next {u = u} deep n v h r = subst (λ m. Room deep m v) (balanced h n) (room_right deep n u v r)

  -- How the reader gets past such tokens, whatever comes behind them.
  abbrev PieceGoes : ℕ → List (Placed C) → Tree C → Type 0
  PieceGoes deep ts t = (st : List (Frame C)) (alts : Option (Tree C)) (part : Part C) → Room deep (length st) ts
      → (rest : List (Placed C)) (e : Ending) → run deep (ts ++ rest) e st alts part ≡ run deep rest e st alts (holds (before part) t)

  abbrev BranchGoes : ℕ → List (Placed C) → Tree C → Type 0
  BranchGoes deep ts t = (st : List (Frame C)) (alts : Option (Tree C)) → Room deep (length st) ts
      → (b : Option (Tree C)) × (p : Tree C) × (joined Sequence b p ≡ t)
      × ((rest : List (Placed C)) (e : Ending) → run deep (ts ++ rest) e st alts wanted ≡ run deep rest e st alts (holds b p))

  abbrev PatternGoes : ℕ → List (Placed C) → Tree C → Type 0
  PatternGoes deep ts t = (st : List (Frame C)) → Room deep (length st) ts
      → (alts : Option (Tree C)) × (b : Option (Tree C)) × (p : Tree C) × (whole alts b p ≡ t)
      × ((rest : List (Placed C)) (e : Ending) → run deep (ts ++ rest) e st none wanted ≡ run deep rest e st alts (holds b p))

  abbrev Goes : ℕ → Sort → List (Placed C) → Tree C → Type 0
  Goes deep a_base ts t = PieceGoes deep ts t
  Goes deep a_piece ts t = PieceGoes deep ts t
  Goes deep a_branch ts t = BranchGoes deep ts t
  Goes deep a_pattern ts t = PatternGoes deep ts t

  opened_yes : {P : Type 0} (d : Dec P) (i : ℕ) (st : List (Frame C)) (alts : Option (Tree C)) (part : Part C) → P
      → opened d i st alts part ≡ goes (frame i alts (before part) ∷ st) none wanted
  opened_yes (yes q) i st alts part h = refl
  opened_yes (no q) i st alts part h = absurd (q h)

  open_run : (deep i : ℕ) (ts : List (Placed C)) (e : Ending) (st : List (Frame C)) (alts : Option (Tree C)) (part : Part C) → length st < deep
      → run deep (placed i Open ∷ ts) e st alts part ≡ run deep ts e (frame i alts (before part) ∷ st) none wanted
  unfolding run
  open_run deep i ts e st alts part h =
      ap (λ n. carry n i (λ st' alts' part'. run deep ts e st' alts' part')) (opened_yes (dec_lt (length st) deep) i st alts part h)

  complete : {s : Sort} {ts : List (Placed C)} {t : Tree C} → Derives s ts t → (deep : ℕ) → Goes deep s ts t
  unfolding run
  complete (empty_word {i} {j}) deep = λ st alts part r rest e. open_run deep i (placed j Close ∷ rest) e st alts part r.0
  complete (group {i} j {u} {t} h) deep = λ st alts part r rest e.
      let q = complete h deep (frame i alts (before part) ∷ st) (room_left deep (suc (length st)) u (placed j Close ∷ []) r.1) in
      open_run deep i ((u ++ placed j Close ∷ []) ++ rest) e st alts part r.0
      ∙ ap (λ z. run deep z e (frame i alts (before part) ∷ st) none wanted) (append_assoc u (placed j Close ∷ []) rest)
      ∙ q.4 (placed j Close ∷ rest) e
      ∙ ap (λ z. run deep rest e st alts (holds (before part) z)) q.3
  complete one_atom deep = λ st alts part r rest e. refl
  complete (bare h) deep = complete h deep
  complete (repeated i {k} {u} {t} h) deep = λ st alts part r rest e.
      ap (λ z. run deep z e st alts part) (append_assoc u (placed i (Repeat k) ∷ []) rest)
      ∙ complete h deep st alts part (room_left deep (length st) u (placed i (Repeat k) ∷ []) r) (placed i (Repeat k) ∷ rest) e
  complete (one_piece {t = t} h) deep = λ st alts r. (none, t, refl, complete h deep st alts wanted r)
  complete (more_pieces {u} {v} {t = t} h k) deep = λ st alts r.
      let p = complete h deep st alts (room_left deep (length st) u v r) in
      let q = complete k deep st alts (holds p.0 p.1) (room_next deep (length st) v h r) in (
        some (joined Sequence p.0 p.1),
        t,
        ap (λ z. join Sequence z t) p.2,
        λ rest e. ap (λ z. run deep z e st alts wanted) (append_assoc u v rest) ∙ p.3 (v ++ rest) e ∙ q rest e,
      )
  complete (one_branch h) deep = λ st r. let q = complete h deep st none r in (none, q.0, q.1, q.2, q.3)
  complete (more_branches i {u} {v} h k) deep = λ st r.
      let p = complete h deep st (room_left deep (length st) u (placed i Bar ∷ v) r) in
      let q = complete k deep st (some (whole p.0 p.1 p.2)) (room_next deep (length st) (placed i Bar ∷ v) h r).1 in (
        some (whole p.0 p.1 p.2),
        q.0,
        q.1,
        ap₂ (λ x y. join Choice x y) p.3 q.2,
        λ rest e. ap (λ z. run deep z e st none wanted) (append_assoc u (placed i Bar ∷ v) rest) ∙ p.4 (placed i Bar ∷ (v ++ rest)) e ∙ q.3 rest e,
      )

  pub accepts : (deep : ℕ) (ts : List (Placed C)) (n : ℕ) (t : Tree C) → Pattern ts t → Room deep 0 ts
      → run deep ts (text_ends n) [] none wanted ≡ Ok t
  unfolding run
  accepts deep ts n t h r =
      let q = complete h deep [] r in
      ap (λ z. run deep z (text_ends n) [] none wanted) (sym (append-nil ts)) ∙ q.4 [] (text_ends n) ∙ ap (λ z. Ok z) q.3
