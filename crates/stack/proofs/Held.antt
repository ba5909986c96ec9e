use Rattle.std.proofs.Common.{◌≡◌, ℕ, ◌+◌, ◌<◌, ◌≤◌, List, [], ◌∷◌, reverse, length, get_or, take, set, refl, ap, ◌∙◌}
use Rattle.std.specs.Borrow.{MutBor}
use Rattle.std.proofs.lemmas.List.{take_more, take_more_set, reverse-append, length-reverse, length-take-le}
use Rattle.stack.specs.Lent.{Same, held}

-- What a stack holds after a push, before a pop, how much, and at the start.
pub held_push : {T : Type 0} (xs : List T) (n : ℕ) (x : T) → n < length xs → held (set xs n x) (n + 1) ≡ x ∷ held xs n
unfolding held
held_push xs n x h = ap reverse (take_more_set xs n x h) ∙ reverse-append (take n xs) (x ∷ [])

pub held_more : {T : Type 0} (xs : List T) (n : ℕ) (d : T) → n < length xs → held xs (n + 1) ≡ get_or xs n d ∷ held xs n
unfolding held
held_more xs n d h = ap reverse (take_more xs n d h) ∙ reverse-append (take n xs) (get_or xs n d ∷ [])

pub length-held : {T : Type 0} (xs : List T) (n : ℕ) → n ≤ length xs → length (held xs n) ≡ n
unfolding held
length-held xs n h = length-reverse (take n xs) ∙ length-take-le n xs h

pub held_none : {T : Type 0} (xs : List T) → held xs 0 ≡ []
unfolding held
held_none xs = refl

-- The same lent memory, by way of a third.
pub same_then : {T : Type 0} (a b c : MutBor (List T)) → Same a b → Same b c → Same a c
same_then a b c p q = record { at = p.at ∙ q.at; long = p.long ∙ q.long }
