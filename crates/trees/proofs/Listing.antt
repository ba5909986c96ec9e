use Rattle.std.proofs.Common.{◌≡◌, ℕ, suc, List, [], ◌∷◌, ◌++◌, Some, None, Option, sym, refl, ap, ◌∙◌, append_assoc, append-nil}
use Rattle.trees.specs.declared.Joiner.TheVariants.{Sequence, Choice}
use Rattle.trees.specs.declared.Postfix.TheVariants.{Star, Plus, Optional}
use Rattle.trees.specs.declared.NodeKind.{NodeKind}
use Rattle.trees.specs.declared.NodeKind.TheVariants.{Empty, Position, Join, Repeat}
use Rattle.trees.specs.declared.Node.{Node}
use Rattle.trees.specs.Nodes.{kind_number, kind_of, node_of}
use Rattle.trees.specs.Listing.{Tree, empty, leaf, join, repeat, leaves, past, numbered, root, listed, listing, ListingTells}

-- Reading a node list back: a stack of trees, the last one first.

kind_told : (k : NodeKind) → kind_of (kind_number k) ≡ Some k
kind_told Empty = refl
kind_told Position = refl
kind_told (Join Sequence) = refl
kind_told (Join Choice) = refl
kind_told (Repeat Star) = refl
kind_told (Repeat Plus) = refl
kind_told (Repeat Optional) = refl

abbrev put : Option NodeKind → ℕ → List (Tree ℕ) → List (Tree ℕ)
put None a ts = []
put (Some Empty) a ts = empty ∷ ts
put (Some Position) a ts = leaf a ∷ ts
put (Some (Join j)) a [] = []
put (Some (Join j)) a (t ∷ []) = []
put (Some (Join j)) a (t ∷ s ∷ ts) = join j s t ∷ ts
put (Some (Repeat k)) a [] = []
put (Some (Repeat k)) a (t ∷ ts) = repeat k t ∷ ts

unfoldable build : List Node → List (Tree ℕ) → List (Tree ℕ)
build [] ts = ts
build (node ∷ nodes) ts = build nodes (put (kind_of node.kind) node.a ts)

one_built : (k : NodeKind) (a b : ℕ) (rest : List Node) (ts : List (Tree ℕ)) → build (node_of k a b ∷ rest) ts ≡ build rest (put (Some k) a ts)
unfolding build
one_built k a b rest ts = ap (λ v. build rest (put v a ts)) (kind_told k)

-- A listing, whatever stands behind it, puts its tree on the stack.
built : (n : ℕ) (t : Tree ℕ) (rest : List Node) (ts : List (Tree ℕ)) → build (listed n t ++ rest) ts ≡ build rest (t ∷ ts)
unfolding listed
built n empty rest ts = one_built Empty 0 0 rest ts
built n (leaf x) rest ts = one_built Position x 0 rest ts
built n (join j s t) rest ts =
    let m = suc (root n s) in
    let node = node_of (Join j) (root n s) (root m t) in
    ap (λ l. build l ts) (simp append_assoc)
    ∙ built n s (listed m t ++ node ∷ rest) ts
    ∙ built m t (node ∷ rest) (s ∷ ts)
    ∙ one_built (Join j) (root n s) (root m t) rest (t ∷ s ∷ ts)
built n (repeat k t) rest ts =
    let node = node_of (Repeat k) (root n t) 0 in
    ap (λ l. build l ts) (append_assoc (listed n t) (node ∷ []) rest)
    ∙ built n t (node ∷ rest) ts
    ∙ one_built (Repeat k) (root n t) 0 rest (t ∷ ts)

built_alone : (n : ℕ) (t : Tree ℕ) → build (listed n t) [] ≡ t ∷ []
unfolding build
built_alone n t = ap (λ l. build l []) (sym (append-nil (listed n t))) ∙ built n t [] []

pub listed_once : (n : ℕ) (s t : Tree ℕ) → listed n s ≡ listed n t → s ≡ t
listed_once n s t e = cc (built_alone n s, built_alone n t)

-- Putting leaves back: a tree filled from the front of a list with the leaves left over, or too few leaves.
data Filling (X : Type 0) : Type 0 where
  short : Filling X
  full : Tree X → List X → Filling X

module _ {X : Type 0} where
  abbrev onward : Filling X → (Tree X → List X → Filling X) → Filling X
  onward short next = short
  onward (full t cs) next = next t cs

  unfoldable filled : Tree ℕ → List X → Filling X
  filled empty cs = full empty cs
  filled (leaf x) [] = short
  filled (leaf x) (c ∷ cs) = full (leaf c) cs
  filled (join j s t) cs = onward (filled s cs) (λ u ds. onward (filled t ds) (λ v es. full (join j u v) es))
  filled (repeat k t) cs = onward (filled t cs) (λ u ds. full (repeat k u) ds)

  -- A numbered tree filled with the leaves of the tree is the tree.
  filled_back : (x : ℕ) (t : Tree X) (cs : List X) → filled (numbered x t) (leaves t ++ cs) ≡ full t cs
  unfolding filled numbered leaves
  filled_back x empty cs = refl
  filled_back x (leaf c) cs = refl
  filled_back x (join j s t) cs =
      rw (append_assoc (leaves s) (leaves t) cs, filled_back x s (leaves t ++ cs), filled_back (past x s) t cs)
  filled_back x (repeat k t) cs = rw (filled_back x t cs)

  filled_alone : (x : ℕ) (t : Tree X) → filled (numbered x t) (leaves t) ≡ full t []
  filled_alone x t = ap (λ l. filled (numbered x t) l) (sym (append-nil (leaves t))) ∙ filled_back x t []

  pub listing_tells : (s t : Tree X) → ListingTells s t
  listing_tells s t =
      let numbers : listing s ≡ listing t → numbered 1 s ≡ numbered 1 t = listed_once 0 (numbered 1 s) (numbered 1 t) in
      record { numbers = numbers; whole = λ e same. cc (numbers e, filled_alone 1 s, filled_alone 1 t) }
