use Rattle.std.specs.Prelude.{ℕ, List, [], ◌∷◌, ◌++◌}
use Rattle.trees.specs.declared.Joiner.TheVariants.{Sequence, Choice}
use Rattle.trees.specs.declared.Postfix.{Postfix}
use Rattle.trees.specs.Listing.{Tree, empty, leaf, join, repeat}
use Rattle.reader.specs.declared.token.Token.TheVariants.{Open, Close, Bar, Repeat, Atom}
use Rattle.reader.specs.Tokens.{Placed, placed}

pub data Sort : Type 0 where
  a_base : Sort
  a_piece : Sort
  a_branch : Sort
  a_pattern : Sort

-- Which tokens are a base, a piece, a branch, a pattern, and of which tree. Sequence binds tighter than
-- `|`, and both group from the left.
pub data Derives {C : Type 0} : Sort → List (Placed C) → Tree C → Type 0 where
  empty_word : {i j : ℕ} → Derives a_base (placed i Open ∷ placed j Close ∷ []) empty
  group : {i : ℕ} (j : ℕ) {u : List (Placed C)} {t : Tree C} → Derives a_pattern u t
      → Derives a_base (placed i Open ∷ (u ++ placed j Close ∷ [])) t
  one_atom : {i : ℕ} {c : C} → Derives a_base (placed i (Atom c) ∷ []) (leaf c)
  bare : {u : List (Placed C)} {t : Tree C} → Derives a_base u t → Derives a_piece u t
  repeated : (i : ℕ) {k : Postfix} {u : List (Placed C)} {t : Tree C} → Derives a_piece u t
      → Derives a_piece (u ++ placed i (Repeat k) ∷ []) (repeat k t)
  one_piece : {u : List (Placed C)} {t : Tree C} → Derives a_piece u t → Derives a_branch u t
  more_pieces : {u v : List (Placed C)} {s t : Tree C} → Derives a_branch u s → Derives a_piece v t
      → Derives a_branch (u ++ v) (join Sequence s t)
  one_branch : {u : List (Placed C)} {t : Tree C} → Derives a_branch u t → Derives a_pattern u t
  more_branches : (i : ℕ) {u v : List (Placed C)} {s t : Tree C} → Derives a_pattern u s → Derives a_branch v t
      → Derives a_pattern (u ++ placed i Bar ∷ v) (join Choice s t)

abbrev pub Pattern : {C : Type 0} → List (Placed C) → Tree C → Type 0
Pattern u t = Derives a_pattern u t
