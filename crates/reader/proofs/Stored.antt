use Rattle.std.proofs.Common.{◌≡◌, ℕ, suc, ◌+◌, ◌-◌, false, eqb, List, [], ◌∷◌, ◌++◌, length, set, sym, refl, ap, ap₂, append_assoc, append-nil, arith, length-append, ne_eqb}
use mathlib.Core.Option.{Option, some, none}
use Rattle.std.proofs.Math.Seq.{take-nil}
use Rattle.trees.specs.declared.Joiner.{Joiner}
use Rattle.trees.specs.declared.Postfix.{Postfix}
use Rattle.trees.specs.declared.NodeKind.TheVariants.{Empty, Position, Join, Repeat}
use Rattle.trees.specs.declared.Node.{Node}
use Rattle.trees.specs.Nodes.{node_of}
use Rattle.trees.specs.Listing.{Tree, empty, leaf, join, repeat, leaves, past, numbered, root, listed}
use Rattle.trees.proofs.Sizes.{listed_size, leaves_size}
use Rattle.reader.specs.Machine.{joined}
use Rattle.reader.specs.Writer.{joined_count, joined_nodes, Begins}
use Rattle.reader.proofs.Pending.{next_position, next_node, laid, leaves_of, also, link}

module _ {X : Type 0} where
  -- An item written behind the list is kept like the rest.
  pub one_more_kept : (item : X) (slots l : List X) → Begins slots l → Begins (set slots (length l) item) (l ++ item ∷ [])
  one_more_kept item [] l held = sym (take-nil (length (l ++ item ∷ [])))
  one_more_kept item (s ∷ slots) [] held = ap (λ v. item ∷ v) (take-nil (length slots))
  one_more_kept item (s ∷ slots) (x ∷ l) held =
      let e : x ≡ s = cc in
      let rest : Begins slots l = cc in
      ap₂ (λ a v. a ∷ v) e (one_more_kept item slots l rest)

one_less : (r : ℕ) → suc r - 1 ≡ r
one_less r = omega arith

pub not_zero : (r : ℕ) → eqb (suc r) 0 ≡ false
not_zero r = ne_eqb (suc r) 0 (λ e. omega arith)

module _ {C : Type 0} where
  pub laid_size : (ts : List (Tree C)) → length (laid ts) ≡ next_node ts
  laid_size [] = refl
  laid_size (t ∷ ts) =
      let u = numbered (next_position ts) t in
      omega (arith, length-append (laid ts) (listed (next_node ts) u), laid_size ts, listed_size (next_node ts) u)

  pub positions_size : (ts : List (Tree C)) → next_position ts ≡ length (leaves_of ts) + 1
  positions_size [] = refl
  positions_size (t ∷ ts) = omega (arith, length-append (leaves_of ts) (leaves t), positions_size ts, leaves_size (next_position ts) t)

  -- The memory holds the nodes and the leaves of trees written one after another.
  pub record Stored (ts : List (Tree C)) (nodes : List Node) (classes : List C) : Type 0 where
    pub nodes_kept : Begins nodes (laid ts)
    pub leaves_kept : Begins classes (leaves_of ts)

  -- A node written behind the trees ts makes them the trees us.
  node_stored : (ts us : List (Tree C)) (item : Node) (nodes : List Node) (classes : List C)
      → laid us ≡ laid ts ++ item ∷ [] → leaves_of us ≡ leaves_of ts
      → Stored ts nodes classes → Stored us (set nodes (next_node ts) item) classes
  node_stored ts us item nodes classes behind same s =
      record {
        nodes_kept = rw (behind, ← laid_size ts) (one_more_kept item nodes (laid ts) s.nodes_kept);
        leaves_kept = rw same s.leaves_kept;
      }

  pub empty_stored : (ts : List (Tree C)) (nodes : List Node) (classes : List C)
      → Stored ts nodes classes → Stored (empty ∷ ts) (set nodes (next_node ts) (node_of Empty 0 0)) classes
  unfolding leaves past numbered root listed
  empty_stored ts nodes classes = node_stored ts (empty ∷ ts) (node_of Empty 0 0) nodes classes refl (append-nil (leaves_of ts))

  pub repeat_stored : (k : Postfix) (t : Tree C) (ts : List (Tree C)) (nodes : List Node) (classes : List C)
      → Stored (t ∷ ts) nodes classes
      → Stored (repeat k t ∷ ts) (set nodes (next_node (t ∷ ts)) (node_of (Repeat k) (next_node (t ∷ ts) - 1) 0)) classes
  unfolding leaves past numbered root listed
  repeat_stored k t ts nodes classes =
      node_stored (t ∷ ts) (repeat k t ∷ ts) (node_of (Repeat k) (next_node (t ∷ ts) - 1) 0) nodes classes
      (simp (append_assoc, one_less)) refl

  join_stored : (j : Joiner) (s t : Tree C) (ts : List (Tree C)) (nodes : List Node) (classes : List C)
      → Stored (t ∷ s ∷ ts) nodes classes
      → Stored (join j s t ∷ ts) (set nodes (next_node (t ∷ s ∷ ts)) (node_of (Join j) (next_node (s ∷ ts) - 1) (next_node (t ∷ s ∷ ts) - 1))) classes
  unfolding leaves past numbered root listed
  join_stored j s t ts nodes classes =
      node_stored (t ∷ s ∷ ts) (join j s t ∷ ts) (node_of (Join j) (next_node (s ∷ ts) - 1) (next_node (t ∷ s ∷ ts) - 1)) nodes classes
      (simp (append_assoc, one_less)) (sym (append_assoc (leaves_of ts) (leaves s) (leaves t)))

  pub atom_stored : (c : C) (ts : List (Tree C)) (nodes : List Node) (classes : List C)
      → Stored ts nodes classes
      → Stored (leaf c ∷ ts) (set nodes (next_node ts) (node_of Position (length (leaves_of ts) + 1) 0)) (set classes (length (leaves_of ts)) c)
  unfolding leaves past numbered root listed
  atom_stored c ts nodes classes s =
      let item = node_of Position (length (leaves_of ts) + 1) 0 in
      record {
        nodes_kept = rw (positions_size ts, ← laid_size ts) (one_more_kept item nodes (laid ts) s.nodes_kept);
        leaves_kept = one_more_kept c classes (leaves_of ts) s.leaves_kept;
      }

  -- A joiner of the two last trees, if there is a left one.
  pub joined_stored : (j : Joiner) (b : Option (Tree C)) (p : Tree C) (ts : List (Tree C)) (nodes : List Node) (classes : List C)
      → Stored (p ∷ also b ts) nodes classes
      → Stored (joined j b p ∷ ts) (joined_nodes j (link b ts) (next_node (p ∷ also b ts)) nodes) classes
  joined_stored j none p ts nodes classes s = s
  joined_stored j (some b) p ts nodes classes s = rw (not_zero (root (next_node ts) (numbered (next_position ts) b))) (join_stored j b p ts nodes classes s)

  pub count_of_joined : (j : Joiner) (b : Option (Tree C)) (p : Tree C) (ts : List (Tree C))
      → joined_count (link b ts) (next_node (p ∷ also b ts)) ≡ next_node (joined j b p ∷ ts)
  unfolding past numbered root
  count_of_joined j none p ts = refl
  count_of_joined j (some b) p ts = rw (not_zero (root (next_node ts) (numbered (next_position ts) b))) (omega arith)

  pub joined_leaves : (j : Joiner) (b : Option (Tree C)) (p : Tree C) (ts : List (Tree C))
      → leaves_of (joined j b p ∷ ts) ≡ leaves_of (p ∷ also b ts)
  unfolding leaves
  joined_leaves j none p ts = refl
  joined_leaves j (some b) p ts = sym (append_assoc (leaves_of ts) (leaves b) (leaves p))
