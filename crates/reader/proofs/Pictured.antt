use Rattle.std.proofs.Common.{◌≡◌, ℕ, suc, ◌<◌, List, [], ◌∷◌, length, set, sym, refl, ap, ◌∙◌, subst, ap₂, append-nil, add-one, arith, length-append, le-ltb, lt-ltb}
use mathlib.Core.Option.{Option, some, none}
use native.Mathlib.Decide.{dec_lt}
use Rattle.std.proofs.Math.Seq.{take-nil}
use Rattle.trees.specs.declared.Joiner.TheVariants.{Sequence, Choice}
use Rattle.trees.specs.declared.Postfix.{Postfix}
use Rattle.trees.specs.declared.Node.{Node}
use Rattle.trees.specs.Listing.{Tree, empty, leaf, repeat, leaves, numbered, root, listing}
use Rattle.reader.specs.declared.token.Token.{Token}
use Rattle.reader.specs.declared.token.Token.TheVariants.{Open, Close, Bar, Repeat, Atom}
use Rattle.reader.specs.Tokens.{text_ends}
use Rattle.reader.specs.Machine.{Part, wanted, holds, Frame, frame, joined, before, whole, opened, shut, barred, postfixed, step, finish}
use Rattle.reader.specs.Desk.{Desk, desk, fresh}
use Rattle.reader.specs.Writer.{joined_count, pattern_count, pattern_nodes, started_progress, started_nodes, atom_progress, atom_nodes, wrote, ended, EndPictured}
use Rattle.reader.proofs.Pending.{next_position, next_node, leaves_of, also, pending_outer, pending, link, records, progress_of, Pictured, TurnPictured}
use Rattle.reader.proofs.Stored.{not_zero, laid_size, Stored, empty_stored, repeat_stored, atom_stored, joined_stored, count_of_joined, joined_leaves}

-- One turn of the program goes with one turn of the machine.

module _ {C : Type 0} where
  -- The memory beside what the trees determine.
  abbrev desk_of : List (Frame C) → Option (Tree C) → Part C → List Node → List C → Desk C
  desk_of st alts part nodes classes = desk nodes classes (records st) (progress_of st alts part)

  pictured : (st : List (Frame C)) (alts : Option (Tree C)) (part : Part C) (d : Desk C)
      → d.progress ≡ progress_of st alts part → d.groups ≡ records st → Stored (pending st alts part) d.nodes d.classes
      → Pictured st alts part d
  pictured st alts part d p g s =
      record {
        progress = p;
        groups = g;
        nodes = s.nodes_kept;
        classes = s.leaves_kept;
      }

  stored : (st : List (Frame C)) (alts : Option (Tree C)) (part : Part C) (d : Desk C)
      → Pictured st alts part d → Stored (pending st alts part) d.nodes d.classes
  stored st alts part d p =
      record { nodes_kept = p.nodes; leaves_kept = p.classes }

  desk_same : (st : List (Frame C)) (alts : Option (Tree C)) (part : Part C) (d : Desk C)
      → Pictured st alts part d → desk_of st alts part d.nodes d.classes ≡ d
  desk_same st alts part d p =
      ap₂ (desk d.nodes d.classes) (sym p.groups) (sym p.progress)

  -- The pieces read become one sequence, if there are any.
  started_stored : (st : List (Frame C)) (alts : Option (Tree C)) (part : Part C) (nodes : List Node) (classes : List C)
      → Stored (pending st alts part) nodes classes
      → Stored (also (before part) (also alts (pending_outer st))) (started_nodes (progress_of st alts part) nodes) classes
  started_stored st alts wanted nodes classes s = s
  started_stored st alts (holds b p) nodes classes s = joined_stored Sequence b p (also alts (pending_outer st)) nodes classes s

  started_count : (st : List (Frame C)) (alts : Option (Tree C)) (part : Part C)
      → (started_progress (progress_of st alts part)).nodes ≡ next_node (also (before part) (also alts (pending_outer st)))
  started_count st alts wanted = refl
  started_count st alts (holds b p) = count_of_joined Sequence b p (also alts (pending_outer st))

  started_link : (st : List (Frame C)) (alts : Option (Tree C)) (part : Part C)
      → (started_progress (progress_of st alts part)).sequence ≡ link (before part) (also alts (pending_outer st))
  started_link st alts wanted = refl
  started_link st alts (holds b p) = count_of_joined Sequence b p (also alts (pending_outer st))

  started_leaves : (st : List (Frame C)) (alts : Option (Tree C)) (part : Part C)
      → leaves_of (also (before part) (also alts (pending_outer st))) ≡ leaves_of (pending st alts part)
  started_leaves st alts wanted = refl
  started_leaves st alts (holds b p) = joined_leaves Sequence b p (also alts (pending_outer st))

  -- The whole pattern that is being read, closed.
  whole_stored : (st : List (Frame C)) (alts b : Option (Tree C)) (p : Tree C) (nodes : List Node) (classes : List C)
      → Stored (pending st alts (holds b p)) nodes classes
      → Stored (whole alts b p ∷ pending_outer st) (pattern_nodes (progress_of st alts (holds b p)) nodes) classes
  whole_stored st alts b p nodes classes s =
      let outer = also alts (pending_outer st) in
      rw (count_of_joined Sequence b p outer)
      (joined_stored Choice alts (joined Sequence b p) (pending_outer st) _ classes (joined_stored Sequence b p outer nodes classes s))

  whole_count : (st : List (Frame C)) (alts b : Option (Tree C)) (p : Tree C)
      → pattern_count (progress_of st alts (holds b p)) ≡ next_node (whole alts b p ∷ pending_outer st)
  whole_count st alts b p =
      ap (λ n. joined_count (link alts (pending_outer st)) n) (count_of_joined Sequence b p (also alts (pending_outer st)))
      ∙ count_of_joined Choice alts (joined Sequence b p) (pending_outer st)

  whole_leaves : (st : List (Frame C)) (alts b : Option (Tree C)) (p : Tree C)
      → leaves_of (whole alts b p ∷ pending_outer st) ≡ leaves_of (pending st alts (holds b p))
  whole_leaves st alts b p =
      joined_leaves Choice alts (joined Sequence b p) (pending_outer st) ∙ joined_leaves Sequence b p (also alts (pending_outer st))

  records_length : (st : List (Frame C)) → length (records st) ≡ length st
  records_length [] = refl
  records_length (frame j alts seq ∷ st) = ap suc (records_length st)

  open_pictured : (i : ℕ) (st : List (Frame C)) (alts : Option (Tree C)) (part : Part C) (nodes : List Node) (classes : List C)
      (room : Dec (length st < 32)) → Stored (pending st alts part) nodes classes
      → TurnPictured (opened room i st alts part) (wrote i Open (desk_of st alts part nodes classes))
  open_pictured i st alts part nodes classes (yes h) s =
      let size = records_length st in
      let count = started_count st alts part in
      let sequence = started_link st alts part in
      let same = started_leaves st alts part in
      rw (lt-ltb (length (records st)) 32 (omega arith))
      (pictured (frame i alts (before part) ∷ st) none wanted _ (cc) (cc) (started_stored st alts part nodes classes s))
  open_pictured i st alts part nodes classes (no h) s =
      let size = records_length st in rw (le-ltb (length (records st)) 32 (omega arith))

  close_pictured : (i : ℕ) (st : List (Frame C)) (alts : Option (Tree C)) (part : Part C) (nodes : List Node) (classes : List C)
      → Stored (pending st alts part) nodes classes
      → TurnPictured (shut st alts part) (wrote i Close (desk_of st alts part nodes classes))
  unfolding leaves numbered root
  close_pictured i [] alts part nodes classes s = refl
  close_pictured i (frame j oa os ∷ st) none wanted nodes classes s =
      let outer = also os (also oa (pending_outer st)) in
      pictured st oa (holds os empty) _ (cc (add-one (next_node outer), append-nil (leaves_of outer))) refl (empty_stored outer nodes classes s)
  close_pictured i (frame j oa os ∷ st) (some a) wanted nodes classes s =
      let outer = pending_outer (frame j oa os ∷ st) in
      rw (not_zero (root (next_node outer) (numbered (next_position outer) a)))
  close_pictured i (frame j oa os ∷ st) alts (holds b p) nodes classes s =
      let inner = frame j oa os ∷ st in
      let count = whole_count inner alts b p in
      let same = whole_leaves inner alts b p in
      pictured st oa (holds os (whole alts b p)) _ (cc) refl (whole_stored inner alts b p nodes classes s)

  bar_pictured : (i : ℕ) (st : List (Frame C)) (alts : Option (Tree C)) (part : Part C) (nodes : List Node) (classes : List C)
      → Stored (pending st alts part) nodes classes
      → TurnPictured (barred st alts part) (wrote i Bar (desk_of st alts part nodes classes))
  bar_pictured i st alts wanted nodes classes s = refl
  bar_pictured i st alts (holds b p) nodes classes s =
      let count = whole_count st alts b p in
      let same = whole_leaves st alts b p in
      pictured st (some (whole alts b p)) wanted _ (cc) refl (whole_stored st alts b p nodes classes s)

  postfix_pictured : (i : ℕ) (k : Postfix) (st : List (Frame C)) (alts : Option (Tree C)) (part : Part C) (nodes : List Node) (classes : List C)
      → Stored (pending st alts part) nodes classes
      → TurnPictured (postfixed k st alts part) (wrote i (Repeat k) (desk_of st alts part nodes classes))
  unfolding leaves numbered root
  postfix_pictured i k st alts wanted nodes classes s = refl
  postfix_pictured i k st alts (holds b p) nodes classes s =
      let outer = also b (also alts (pending_outer st)) in
      pictured st alts (holds b (repeat k p)) _ (cc (add-one (next_node (p ∷ outer)))) refl (repeat_stored k p outer nodes classes s)

  atom_pictured : (c : C) (st : List (Frame C)) (alts : Option (Tree C)) (part : Part C) (nodes : List Node) (classes : List C)
      → Stored (pending st alts part) nodes classes
      → Pictured st alts (holds (before part) (leaf c)) (desk (atom_nodes (progress_of st alts part) nodes) (set classes (progress_of st alts part).positions c) (records st) (atom_progress (progress_of st alts part)))
  unfolding leaves numbered root
  atom_pictured c st alts part nodes classes s =
      let outer = also (before part) (also alts (pending_outer st)) in
      let count = started_count st alts part in
      let sequence = started_link st alts part in
      let same = started_leaves st alts part in
      let one_node = add-one (next_node outer) in
      let one_leaf = length-append (leaves_of outer) (c ∷ []) in
      let after = atom_stored c outer _ classes (started_stored st alts part nodes classes s) in
      pictured st alts (holds (before part) (leaf c)) _ (cc) refl (rw (count, ← same) after)

  turn_pictured : (i : ℕ) (x : Token C) (st : List (Frame C)) (alts : Option (Tree C)) (part : Part C) (nodes : List Node) (classes : List C)
      → Stored (pending st alts part) nodes classes → TurnPictured (step 32 i x st alts part) (wrote i x (desk_of st alts part nodes classes))
  turn_pictured i Open st alts part nodes classes = open_pictured i st alts part nodes classes (dec_lt (length st) 32)
  turn_pictured i Close st alts part nodes classes = close_pictured i st alts part nodes classes
  turn_pictured i Bar st alts part nodes classes = bar_pictured i st alts part nodes classes
  turn_pictured i (Repeat k) st alts part nodes classes = postfix_pictured i k st alts part nodes classes
  turn_pictured i (Atom c) st alts part nodes classes = atom_pictured c st alts part nodes classes

  pub step_pictured : (i : ℕ) (x : Token C) (st : List (Frame C)) (alts : Option (Tree C)) (part : Part C) (d : Desk C)
      → Pictured st alts part d → TurnPictured (step 32 i x st alts part) (wrote i x d)
  step_pictured i x st alts part d p =
      subst (λ e. TurnPictured (step 32 i x st alts part) (wrote i x e)) (desk_same st alts part d p)
      (turn_pictured i x st alts part d.nodes d.classes (stored st alts part d p))

  finish_pictured : (n : ℕ) (st : List (Frame C)) (alts : Option (Tree C)) (part : Part C) (nodes : List Node) (classes : List C)
      → Stored (pending st alts part) nodes classes
      → EndPictured (finish (text_ends n) st alts part) (ended n (records st) (progress_of st alts part))
      (pattern_nodes (progress_of st alts part) nodes) classes
  finish_pictured n [] alts wanted nodes classes s = refl
  finish_pictured n (frame j oa os ∷ st) alts wanted nodes classes s = refl
  finish_pictured n [] alts (holds b p) nodes classes s =
      let t = whole alts b p in
      let count : pattern_count (progress_of [] alts (holds b p)) ≡ length (listing t) = whole_count [] alts b p ∙ sym (laid_size (t ∷ [])) in
      let same : leaves t ≡ leaves_of (pending [] alts (holds b p)) = whole_leaves [] alts b p in
      let after = whole_stored [] alts b p nodes classes s in
      record { counts = cc; listed = after.nodes_kept; leaves = after.leaves_kept }
  finish_pictured n (frame j oa os ∷ st) alts (holds b p) nodes classes s = refl

  pub end_pictured : (n : ℕ) (st : List (Frame C)) (alts : Option (Tree C)) (part : Part C) (d : Desk C)
      → Pictured st alts part d
      → EndPictured (finish (text_ends n) st alts part) (ended n d.groups d.progress) (pattern_nodes d.progress d.nodes) d.classes
  end_pictured n st alts part d p =
      subst (λ e. EndPictured (finish (text_ends n) st alts part) (ended n e.groups e.progress) (pattern_nodes e.progress e.nodes) e.classes)
      (desk_same st alts part d p) (finish_pictured n st alts part d.nodes d.classes (stored st alts part d p))

  pub start_pictured : (nodes : List Node) (classes : List C) → Pictured [] none wanted (fresh nodes classes)
  start_pictured nodes classes =
      record { progress = refl; groups = refl; nodes = take-nil (length nodes); classes = take-nil (length classes) }
