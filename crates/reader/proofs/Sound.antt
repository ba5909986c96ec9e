use Rattle.std.proofs.Common.{◌≡◌, ℕ, List, [], ◌∷◌, ◌++◌, length, Ok, Result, sym, refl, ap, ◌∙◌, subst, append_assoc, append-nil, arith}
use mathlib.Core.Option.{Option, some, none}
use native.Mathlib.Decide.{dec_lt}
use Rattle.kinds.specs.declared.Refused.{Refused}
use Rattle.trees.specs.declared.Joiner.TheVariants.{Sequence, Choice}
use Rattle.trees.specs.declared.Postfix.{Postfix}
use Rattle.trees.specs.Listing.{Tree, empty, leaf, join, repeat}
use Rattle.reader.specs.declared.token.Token.{Token}
use Rattle.reader.specs.declared.token.Token.TheVariants.{Open, Close, Bar, Repeat, Atom}
use Rattle.reader.specs.Tokens.{Placed, placed, Ending, text_ends, unreadable}
use Rattle.reader.specs.Grammar.{Derives, a_base, a_piece, a_branch, empty_word, group, one_atom, bare, repeated, one_piece, more_pieces, one_branch, more_branches, Pattern}
use Rattle.reader.specs.Machine.{Part, wanted, holds, Frame, frame, Turn, goes, stops, joined, before, whole, opened, shut, barred, postfixed, step, finish, carry, run}

-- What is accepted is a pattern: the state tells what the tokens read so far are.

module _ {C : Type 0} where
  -- The tokens of the branch being read, without its last piece and with it.
  abbrev SequenceRead : Option (Tree C) → List (Placed C) → Type 0
  SequenceRead none u = u ≡ []
  SequenceRead (some s) u = Derives a_branch u s

  abbrev PartRead : Part C → List (Placed C) → Type 0
  PartRead wanted u = u ≡ []
  PartRead (holds b p) u = (v : List (Placed C)) × (w : List (Placed C)) × SequenceRead b v × Derives a_piece w p × (u ≡ v ++ w)

  -- The tokens of the innermost group, and all tokens, when those of the branch are such.
  abbrev GroupRead : Option (Tree C) → (List (Placed C) → Type 0) → List (Placed C) → Type 0
  GroupRead none Branch u = Branch u
  GroupRead (some a) Branch u =
      (i : ℕ) × (v : List (Placed C)) × (w : List (Placed C)) × Pattern v a × Branch w × (u ≡ v ++ placed i Bar ∷ w)

  abbrev StackRead : List (Frame C) → Option (Tree C) → (List (Placed C) → Type 0) → List (Placed C) → Type 0
  StackRead [] alts Branch u = GroupRead alts Branch u
  StackRead (frame j oa os ∷ st) alts Branch u =
      (v : List (Placed C)) × (w : List (Placed C)) × StackRead st oa (λ z. SequenceRead os z) v × GroupRead alts Branch w
      × (u ≡ v ++ placed j Open ∷ w)

  abbrev TurnRead : Turn C → List (Placed C) → Type 0
  TurnRead (goes st alts part) u = StackRead st alts (λ z. PartRead part z) u
  TurnRead (stops why) u = Unit {0}

  branch_of : (b : Option (Tree C)) (p : Tree C) (u : List (Placed C)) → PartRead (holds b p) u → Derives a_branch u (joined Sequence b p)
  branch_of none p u h = subst (λ z. Derives a_branch z p) (sym (h.4 ∙ ap (λ z. z ++ h.1) h.2)) (one_piece h.3)
  branch_of (some b) p u h = subst (λ z. Derives a_branch z (join Sequence b p)) (sym h.4) (more_pieces h.2 h.3)

  sequence_of : (part : Part C) (u : List (Placed C)) → PartRead part u → SequenceRead (before part) u
  sequence_of wanted u h = h
  sequence_of (holds b p) u h = branch_of b p u h

  pattern_of : (alts b : Option (Tree C)) (p : Tree C) (u : List (Placed C)) → GroupRead alts (λ z. PartRead (holds b p) z) u
      → Pattern u (whole alts b p)
  pattern_of none b p u h = one_branch (branch_of b p u h)
  pattern_of (some a) b p u h =
      subst (λ z. Pattern z (join Choice a (joined Sequence b p))) (sym h.5) (more_branches h.0 h.3 (branch_of b p h.2 h.4))

  longer : (u v x w : List (Placed C)) (k : Placed C) → u ≡ v ++ k ∷ x → u ++ w ≡ v ++ k ∷ (x ++ w)
  longer u v x w k e = ap (λ z. z ++ w) e ∙ append_assoc v (k ∷ x) w

  -- A change of the innermost group, or of the branch, alone.
  stack_map : (alts alts' : Option (Tree C)) (Branch Branch' : List (Placed C) → Type 0) (x : List (Placed C))
      → ((w : List (Placed C)) → GroupRead alts Branch w → GroupRead alts' Branch' (w ++ x))
      → (st : List (Frame C)) (u : List (Placed C)) → StackRead st alts Branch u → StackRead st alts' Branch' (u ++ x)
  stack_map alts alts' Branch Branch' x f [] u h = f u h
  stack_map alts alts' Branch Branch' x f (frame j oa os ∷ st) u h =
      (h.0, h.1 ++ x, h.2, f h.1 h.3, longer u h.0 h.1 x (placed j Open) h.4)

  group_map : (Branch Branch' : List (Placed C) → Type 0) (x : List (Placed C))
      → ((w : List (Placed C)) → Branch w → Branch' (w ++ x))
      → (alts : Option (Tree C)) (u : List (Placed C)) → GroupRead alts Branch u → GroupRead alts Branch' (u ++ x)
  group_map Branch Branch' x f none u h = f u h
  group_map Branch Branch' x f (some a) u h =
      (h.0, h.1, h.2 ++ x, h.3, f h.2 h.4, longer u h.1 h.2 x (placed h.0 Bar) h.5)

  branch_map : (Branch Branch' : List (Placed C) → Type 0) (x : List (Placed C))
      → ((w : List (Placed C)) → Branch w → Branch' (w ++ x))
      → (st : List (Frame C)) (alts : Option (Tree C)) (u : List (Placed C)) → StackRead st alts Branch u → StackRead st alts Branch' (u ++ x)
  branch_map Branch Branch' x f st alts u h = stack_map alts alts Branch Branch' x (group_map Branch Branch' x f alts) st u h

  -- A piece more, behind what the branch has.
  stack_piece : (st : List (Frame C)) (alts s : Option (Tree C)) (u w : List (Placed C)) (t : Tree C)
      → StackRead st alts (λ z. SequenceRead s z) u → Derives a_piece w t → StackRead st alts (λ z. PartRead (holds s t) z) (u ++ w)
  stack_piece st alts s u w t h q =
      branch_map (λ z. SequenceRead s z) (λ z. PartRead (holds s t) z) w (λ v g. (v, w, g, q, refl)) st alts u h

  stack_sequence : (st : List (Frame C)) (alts : Option (Tree C)) (part : Part C) (u : List (Placed C))
      → StackRead st alts (λ z. PartRead part z) u → StackRead st alts (λ z. SequenceRead (before part) z) u
  stack_sequence st alts part u h =
      subst (λ z. StackRead st alts (λ z'. SequenceRead (before part) z') z) (append-nil u)
      (branch_map (λ z. PartRead part z) (λ z. SequenceRead (before part) z) []
      (λ w g. subst (λ z. SequenceRead (before part) z) (sym (append-nil w)) (sequence_of part w g)) st alts u h)

  opened_read : {P : Type 0} (d : Dec P) (i : ℕ) (st : List (Frame C)) (alts : Option (Tree C)) (part : Part C) (u : List (Placed C))
      → StackRead st alts (λ z. PartRead part z) u → TurnRead (opened d i st alts part) (u ++ placed i Open ∷ [])
  opened_read (yes q) i st alts part u h = (u, [], stack_sequence st alts part u h, refl, refl)
  opened_read (no q) i st alts part u h = tt

  -- A group closed on its tree.
  closed_read : (j i : ℕ) (st : List (Frame C)) (oa os : Option (Tree C)) (t : Tree C) (u v w : List (Placed C))
      → StackRead st oa (λ z. SequenceRead os z) v → u ≡ v ++ placed j Open ∷ w → Derives a_base (placed j Open ∷ (w ++ placed i Close ∷ [])) t
      → StackRead st oa (λ z. PartRead (holds os t) z) (u ++ placed i Close ∷ [])
  closed_read j i st oa os t u v w h e q =
      subst (λ z. StackRead st oa (λ z'. PartRead (holds os t) z') z) (sym (longer u v w (placed i Close ∷ []) (placed j Open) e))
      (stack_piece st oa os v (placed j Open ∷ (w ++ placed i Close ∷ [])) t h (bare q))

  shut_read : (i : ℕ) (st : List (Frame C)) (alts : Option (Tree C)) (part : Part C) (u : List (Placed C))
      → StackRead st alts (λ z. PartRead part z) u → TurnRead (shut st alts part) (u ++ placed i Close ∷ [])
  shut_read i [] alts part u h = tt
  shut_read i (frame j oa os ∷ st) none wanted u h =
      closed_read j i st oa os empty u h.0 h.1 h.2 h.4
      (subst (λ z. Derives a_base (placed j Open ∷ (z ++ placed i Close ∷ [])) empty) (sym h.3) empty_word)
  shut_read i (frame j oa os ∷ st) (some a) wanted u h = tt
  shut_read i (frame j oa os ∷ st) alts (holds b p) u h =
      closed_read j i st oa os (whole alts b p) u h.0 h.1 h.2 h.4 (group i (pattern_of alts b p h.1 h.3))

  barred_read : (i : ℕ) (st : List (Frame C)) (alts : Option (Tree C)) (part : Part C) (u : List (Placed C))
      → StackRead st alts (λ z. PartRead part z) u → TurnRead (barred st alts part) (u ++ placed i Bar ∷ [])
  barred_read i st alts wanted u h = tt
  barred_read i st alts (holds b p) u h =
      stack_map alts (some (whole alts b p)) (λ z. PartRead (holds b p) z) (λ z. PartRead wanted z) (placed i Bar ∷ [])
      (λ w g. (i, w, [], pattern_of alts b p w g, refl, refl)) st u h

  postfixed_read : (i : ℕ) (k : Postfix) (st : List (Frame C)) (alts : Option (Tree C)) (part : Part C) (u : List (Placed C))
      → StackRead st alts (λ z. PartRead part z) u → TurnRead (postfixed k st alts part) (u ++ placed i (Repeat k) ∷ [])
  postfixed_read i k st alts wanted u h = tt
  postfixed_read i k st alts (holds b p) u h =
      branch_map (λ z. PartRead (holds b p) z) (λ z. PartRead (holds b (repeat k p)) z) (placed i (Repeat k) ∷ [])
      (λ w g. (
        g.0,
        g.1 ++ placed i (Repeat k) ∷ [],
        g.2,
        repeated i g.3,
        ap (λ z. z ++ placed i (Repeat k) ∷ []) g.4 ∙ append_assoc g.0 g.1 (placed i (Repeat k) ∷ []),
      ))
      st alts u h

  step_read : (deep i : ℕ) (x : Token C) (st : List (Frame C)) (alts : Option (Tree C)) (part : Part C) (u : List (Placed C))
      → StackRead st alts (λ z. PartRead part z) u → TurnRead (step deep i x st alts part) (u ++ placed i x ∷ [])
  step_read deep i Open st alts part u h = opened_read (dec_lt (length st) deep) i st alts part u h
  step_read deep i Close st alts part u h = shut_read i st alts part u h
  step_read deep i Bar st alts part u h = barred_read i st alts part u h
  step_read deep i (Repeat k) st alts part u h = postfixed_read i k st alts part u h
  step_read deep i (Atom c) st alts part u h =
      stack_piece st alts (before part) u (placed i (Atom c) ∷ []) (leaf c) (stack_sequence st alts part u h) (bare one_atom)

  finish_sound : (e : Ending) (st : List (Frame C)) (alts : Option (Tree C)) (part : Part C) (u : List (Placed C)) (t : Tree C)
      → StackRead st alts (λ z. PartRead part z) u → finish e st alts part ≡ Ok t → Pattern u t
  finish_sound (unreadable f) st alts part u t h q = let z : ◌≡◌ {A = ℕ} 0 1 = cc in absurd (omega arith)
  finish_sound (text_ends n) [] alts wanted u t h q = let z : ◌≡◌ {A = ℕ} 0 1 = cc in absurd (omega arith)
  finish_sound (text_ends n) (g ∷ st) alts wanted u t h q = let z : ◌≡◌ {A = ℕ} 0 1 = cc in absurd (omega arith)
  finish_sound (text_ends n) [] alts (holds b p) u t h q =
      let z : whole alts b p ≡ t = cc in subst (λ r. Pattern u r) z (pattern_of alts b p u h)
  finish_sound (text_ends n) (frame j oa os ∷ st) alts (holds b p) u t h q = let z : ◌≡◌ {A = ℕ} 0 1 = cc in absurd (omega arith)

  -- One turn, with what the rest says.
  turn_sound : (n : Turn C) (i : ℕ) (k : List (Frame C) → Option (Tree C) → Part C → Result (Tree C) Refused)
      (u w : List (Placed C)) (t : Tree C)
      → ((st : List (Frame C)) (alts : Option (Tree C)) (part : Part C) → StackRead st alts (λ z. PartRead part z) u
      → k st alts part ≡ Ok t → Pattern w t)
      → TurnRead n u → carry n i k ≡ Ok t → Pattern w t
  turn_sound (goes st alts part) i k u w t f r e = f st alts part r e
  turn_sound (stops why) i k u w t f r e = let z : ◌≡◌ {A = ℕ} 0 1 = cc in absurd (omega arith)

  run_sound : (deep : ℕ) (ts : List (Placed C)) (e : Ending) (st : List (Frame C)) (alts : Option (Tree C)) (part : Part C)
      (u : List (Placed C)) (t : Tree C)
      → StackRead st alts (λ z. PartRead part z) u → run deep ts e st alts part ≡ Ok t → Pattern (u ++ ts) t
  unfolding run
  run_sound deep [] e st alts part u t h q = rw append-nil (finish_sound e st alts part u t h q)
  run_sound deep (placed i x ∷ ts) e st alts part u t h q =
      subst (λ z. Pattern z t) (append_assoc u (placed i x ∷ []) ts)
      (turn_sound (step deep i x st alts part) i (λ st' alts' part'. run deep ts e st' alts' part')
      (u ++ placed i x ∷ []) ((u ++ placed i x ∷ []) ++ ts) t
      (λ st' alts' part' r k. run_sound deep ts e st' alts' part' (u ++ placed i x ∷ []) t r k)
      (step_read deep i x st alts part u h) q)

  pub sound : (deep : ℕ) (ts : List (Placed C)) (e : Ending) (t : Tree C) → run deep ts e [] none wanted ≡ Ok t → Pattern ts t
  sound deep ts e t q = run_sound deep ts e [] none wanted [] t refl q

  -- Nothing is accepted of a text that cannot be cut to its end.
  pub accepts_ended : (deep : ℕ) (ts : List (Placed C)) (e : Ending) (st : List (Frame C)) (alts : Option (Tree C)) (part : Part C) (t : Tree C)
      → run deep ts e st alts part ≡ Ok t → (n : ℕ) × (e ≡ text_ends n)
  unfolding run
  accepts_ended deep ts (text_ends n) st alts part t q = (n, refl)
  accepts_ended deep [] (unreadable f) st alts part t q = let z : ◌≡◌ {A = ℕ} 0 1 = cc in absurd (omega arith)
  accepts_ended deep (placed i x ∷ ts) (unreadable f) st alts part t q =
      go (step deep i x st alts part) (λ st' alts' part' k. accepts_ended deep ts (unreadable f) st' alts' part' t k) q
    where
      go : (n : Turn C)
          → ((st' : List (Frame C)) (alts' : Option (Tree C)) (part' : Part C) → run deep ts (unreadable f) st' alts' part' ≡ Ok t
          → (m : ℕ) × (unreadable f ≡ text_ends m))
          → carry n i (λ st' alts' part'. run deep ts (unreadable f) st' alts' part') ≡ Ok t → (m : ℕ) × (unreadable f ≡ text_ends m)
      go (goes st' alts' part') r k = r st' alts' part' k
      go (stops why) r k = let z : ◌≡◌ {A = ℕ} 0 1 = cc in absurd (omega arith)
