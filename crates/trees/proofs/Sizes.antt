use Rattle.std.proofs.Common.{◌≡◌, ℕ, suc, ◌+◌, [], ◌∷◌, ◌++◌, length, arith, length-append}
use Rattle.trees.specs.declared.NodeKind.TheVariants.{Join, Repeat}
use Rattle.trees.specs.Nodes.{node_of}
use Rattle.trees.specs.Listing.{Tree, empty, leaf, join, repeat, leaves, past, root, listed}

-- The root is the last node listed.
pub listed_size : (n : ℕ) (t : Tree ℕ) → n + length (listed n t) ≡ suc (root n t)
unfolding root listed
listed_size n empty = omega arith
listed_size n (leaf x) = omega arith
listed_size n (join j s t) =
    let m = suc (root n s) in
    let end = node_of (Join j) (root n s) (root m t) ∷ [] in
    omega (arith, length-append (listed n s) (listed m t ++ end), length-append (listed m t) end, listed_size n s, listed_size m t)
listed_size n (repeat k t) = omega (arith, length-append (listed n t) (node_of (Repeat k) (root n t) 0 ∷ []), listed_size n t)

-- Each leaf takes one position.
pub leaves_size : {X : Type 0} (x : ℕ) (t : Tree X) → x + length (leaves t) ≡ past x t
unfolding leaves past
leaves_size x empty = omega arith
leaves_size x (leaf c) = omega arith
leaves_size x (join j s t) = omega (arith, length-append (leaves s) (leaves t), leaves_size x s, leaves_size (past x s) t)
leaves_size x (repeat k t) = leaves_size x t
