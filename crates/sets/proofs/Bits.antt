use Rattle.std.proofs.Common.{◌≡◌, ℕ, zero, suc, ◌+◌, ◌-◌, ◌*◌, ◌/◌, ◌%◌, ◌^◌, ◌<◌, ◌≤◌, min, max, Bool, true, false, cond, not, ◌&&◌, ◌||◌, eqb, ◌⊎◌, ◌↔◌, sym, refl, ap, ◌∙◌, inl, inr, add-zero, pow-suc, arith, pow_pos, pow-add, shr-shr}
use native.Mathlib.Nat.{div-eq_of_lt, zero-div}
use lib.Bits.{bit_or, bit_and, or_step, or_shr, and_step, and_shr}
use lib.Pow.{pow-lt, shl-shr, field, mod-mod-pow, split, high, low}
use lib.Count.{ones, ones_in, ones_cat}
use Rattle.std.proofs.lemmas.Bool.{eqb-true, eq-eqb, ne_eqb, cases_eq, cases_lt, cases_order}
use Rattle.std.proofs.lemmas.Bool.Decides.{nat_tests}
use Rattle.std.proofs.lemmas.Nat.{mod_below, div_below}
use Rattle.sets.specs.Sets.{bit, Member, member, gathered, members}
use Rattle.sets.specs.Laws.{SetLaws}
use Rattle.sets.proofs.Bools.{or_comm}

-- Bits of a union and of an intersection.
low_or : (m n : ℕ) → bit_or m n % 2 ≡ max (m % 2) (n % 2)
low_or m n = omega (arith, or_step m n)

low_and : (m n : ℕ) → bit_and m n % 2 ≡ min (m % 2) (n % 2)
low_and m n = omega (arith, and_step m n)

pub bit-or : (a b x : ℕ) → bit (bit_or a b) x ≡ max (bit a x) (bit b x)
bit-or a b x = rw (or_shr a b x) (low_or (a / 2 ^ x) (b / 2 ^ x))

pub bit-and : (a b x : ℕ) → bit (bit_and a b) x ≡ min (bit a x) (bit b x)
bit-and a b x = rw (and_shr a b x) (low_and (a / 2 ^ x) (b / 2 ^ x))

pub bit-lt : (s x : ℕ) → bit s x < 2
bit-lt s x = omega arith

pub bit-none : (x : ℕ) → bit 0 x ≡ 0
bit-none x = omega (arith, zero-div (2 ^ x))

-- The set of one number.
pub bit-single_same : (x : ℕ) → bit (2 ^ x) x ≡ 1
bit-single_same x = let e = shl-shr 1 x in let f : 1 * 2 ^ x ≡ 2 ^ x = omega arith in rw (rw f at e)

single_above : (x d : ℕ) → bit (2 ^ (suc d + x)) x ≡ 0
single_above x d = rw (pow-add 2 (suc d) x, shl-shr (2 ^ suc d) x) (omega (arith, pow-suc 2 d))

-- A set below 2 ^ n has no member from n up.
pub bit_past : (n a x : ℕ) → a < 2 ^ n → n ≤ x → bit a x ≡ 0
bit_past n a x h l = rw (div-eq_of_lt (below (cases_order n x)))
  where
    below : (n ≡ x) ⊎ ((n < x) ⊎ (x < n)) → a < 2 ^ x
    below (inl e) = rw e at h
    below (inr (inl m)) = let p = pow-lt m in omega arith
    below (inr (inr m)) = absurd (omega arith)

pub bit-single_other : (y x : ℕ) → (x ≡ y → ⊥) → bit (2 ^ y) x ≡ 0
bit-single_other y x ne = go (cases_order x y)
  where
    go : (x ≡ y) ⊎ ((x < y) ⊎ (y < x)) → bit (2 ^ y) x ≡ 0
    go (inl e) = absurd (ne e)
    go (inr (inl l)) = let e : suc (y - suc x) + x ≡ y = omega arith in rw e at (single_above x (y - suc x))
    go (inr (inr l)) = bit_past x (2 ^ y) x (pow-lt l) (omega arith)

-- The lowest n bits decide the bits below n.
pub bit-low : (a n x : ℕ) → x < n → bit (a % 2 ^ n) x ≡ bit a x
bit-low a n x h = rw e at (go (n - suc x))
  where
    e : ((n - suc x) + 1) + x ≡ n
    e = omega arith

    go : (d : ℕ) → bit (a % 2 ^ ((d + 1) + x)) x ≡ bit a x
    go d = rw (field a (d + 1) x) (mod-mod-pow (a / 2 ^ x) d 1)

-- The bits above the lowest are those of the half.
pub bit-half : (a x : ℕ) → bit a (suc x) ≡ bit (a / 2) x
bit-half a x = let e = shr-shr a 1 x in let f : 1 + x ≡ suc x = omega arith in ap (λ m. m % 2) (sym (rw f at e))

bit-lowest : (a : ℕ) → bit a 0 ≡ a % 2
bit-lowest a = omega arith

-- The complement below n.
pub bit_not : (n a x : ℕ) → a < 2 ^ n → x < n → bit (2 ^ n - 1 - a) x ≡ 1 - bit a x
bit_not zero a x h l = absurd (omega arith)
bit_not (suc n) a zero h l = omega (arith, pow-suc 2 n)
bit_not (suc n) a (suc x) h l =
    let p = pow-suc 2 n in
    let k : a / 2 < 2 ^ n = omega arith in
    let m : x < n = omega arith in
    let e : (2 ^ suc n - 1 - a) / 2 ≡ 2 ^ n - 1 - a / 2 = omega arith in
    bit-half (2 ^ suc n - 1 - a) x ∙ rw (e, bit-half a x) (bit_not n (a / 2) x k m)

-- Sets with equal members are equal.
pub bits_same : (n a b : ℕ) → a < 2 ^ n → b < 2 ^ n → ((x : ℕ) → x < n → bit a x ≡ bit b x) → a ≡ b
bits_same zero a b h k same = omega arith
bits_same (suc n) a b h k same =
    let p = pow-suc 2 n in
    let low = same 0 (omega arith) in
    let high : a / 2 ≡ b / 2
    = bits_same n (a / 2) (b / 2) (omega arith) (omega arith)
    (λ x l. sym (bit-half a x) ∙ same (suc x) (omega arith) ∙ bit-half b x) in
    omega arith

-- The set of the numbers that pass a test.
pub gathered-lt : (f : ℕ → Bool) (n : ℕ) → gathered f n < 2 ^ n
unfolding gathered
gathered-lt f zero = omega arith
gathered-lt f (suc n) =
    let p = pow-suc 2 n in
    let h = gathered-lt f n in
    elim (f n) as (λ t. gathered f n + cond t (2 ^ n) 0 < 2 ^ suc n) [ true ↦ omega arith | false ↦ omega arith ]

top_below : (n g x : ℕ) (t : Bool) → g < 2 ^ n → x < n → bit (g + cond t (2 ^ n) 0) x ≡ bit g x
top_below n g x false h l = ap (λ m. bit m x) (add-zero g)
top_below n g x true h l =
    let e : g + 2 ^ n ≡ 1 * 2 ^ n + g = omega arith in
    let f = low 1 n h in
    rw e (sym (bit-low (1 * 2 ^ n + g) n x l) ∙ rw f)

top_at : (n g : ℕ) (t : Bool) → g < 2 ^ n → bit (g + cond t (2 ^ n) 0) n ≡ cond t 1 0
top_at n g false h = rw (add-zero g) (bit_past n g n h (omega arith))
top_at n g true h =
    let e : g + 2 ^ n ≡ 1 * 2 ^ n + g = omega arith in
    let f = high 1 n h in
    rw e (ap (λ m. m % 2) f)

pub bit-gathered : (f : ℕ → Bool) (n x : ℕ) → x < n → bit (gathered f n) x ≡ cond (f x) 1 0
unfolding gathered
bit-gathered f zero x l = absurd (omega arith)
bit-gathered f (suc n) x l = go (λ m. bit-gathered f n x m) (cases_lt x n)
  where
    go : (x < n → bit (gathered f n) x ≡ cond (f x) 1 0) → (x < n) ⊎ (n ≤ x)
        → bit (gathered f n + cond (f n) (2 ^ n) 0) x ≡ cond (f x) 1 0
    go below (inl m) = top_below n (gathered f n) x (f n) (gathered-lt f n) m ∙ below m
    go below (inr m) = let e : x ≡ n = omega arith in rw e (top_at n (gathered f n) (f n) (gathered-lt f n))

pub gathered-same : (n : ℕ) (f g : ℕ → Bool) → ((x : ℕ) → x < n → f x ≡ g x) → gathered f n ≡ gathered g n
unfolding gathered
gathered-same zero f g same = refl
gathered-same (suc n) f g same =
    let e = gathered-same n f g (λ x l. same x (omega arith)) in
    let h = same n (omega arith) in
    cc

-- Counting members.
members-same : (n a b : ℕ) → ((x : ℕ) → x < n → bit a x ≡ bit b x) → members a n ≡ members b n
unfolding members
members-same zero a b same = refl
members-same (suc n) a b same =
    let e = members-same n a b (λ x l. same x (omega arith)) in
    let f = same n (omega arith) in
    cc

ones_bit : (q : ℕ) → q < 2 → ones q ≡ q
unfolding ones ones_in
ones_bit zero h = refl
ones_bit (suc zero) h = refl
ones_bit (suc (suc q)) h = absurd (omega arith)

pub ones_members : (n a : ℕ) → a < 2 ^ n → ones a ≡ members a n
unfolding members
ones_members zero a h = let e : a ≡ 0 = omega arith in rw e (ones_bit 0 (omega arith))
ones_members (suc n) a h =
    let p = pow-suc 2 n in
    let lt : a % 2 ^ n < 2 ^ n = mod_below a (2 ^ n) (pow_pos n) in
    let top : a / 2 ^ n < 2 = div_below a (2 ^ n) 2 (pow_pos n) (omega arith) in
    let q : a / 2 ^ n % 2 ≡ a / 2 ^ n = omega arith in
    let whole = ap ones (sym (split a n)) in
    let parts = ones_cat n (a / 2 ^ n) (a % 2 ^ n) lt in
    let above = ones_bit (a / 2 ^ n) top in
    let rest = ones_members n (a % 2 ^ n) lt ∙ members-same n (a % 2 ^ n) a (λ x l. bit-low a n x l) in
    omega (arith, whole, parts, above, rest)

-- The same of the test.
pub member_is : (s x : ℕ) → Member s x ↔ (member s x ≡ true)
member_is s x = (eq-eqb (bit s x) 1, eqb-true (bit s x) 1)

pub member-or : (a b x : ℕ) → member (bit_or a b) x ≡ (member a x || member b x)
member-or a b x = let e = bit-or a b x in grind (arith, nat_tests)

pub member-and : (a b x : ℕ) → member (bit_and a b) x ≡ (member a x && member b x)
member-and a b x = let e = bit-and a b x in grind (arith, nat_tests)

pub member-single : (y x : ℕ) → member (2 ^ y) x ≡ eqb x y
member-single y x = go (cases_eq x y)
  where
    go : (x ≡ y) ⊎ (x ≡ y → ⊥) → member (2 ^ y) x ≡ eqb x y
    go (inl e) = rw e (eq-eqb (bit (2 ^ y) y) 1 (bit-single_same y) ∙ sym (eq-eqb y y refl))
    go (inr ne) = ne_eqb (bit (2 ^ y) x) 1 (let z = bit-single_other y x ne in λ e. omega arith) ∙ sym (ne_eqb x y ne)

pub member-not : (n a x : ℕ) → a < 2 ^ n → x < n → member (2 ^ n - 1 - a) x ≡ not (member a x)
member-not n a x h l = let e = bit_not n a x h l in let b = bit-lt a x in grind (arith, nat_tests)

pub member-past : (n a x : ℕ) → a < 2 ^ n → n ≤ x → member a x ≡ false
member-past n a x h l = ne_eqb (bit a x) 1 (let z = bit_past n a x h l in λ e. omega arith)

pub member-gathered : (f : ℕ → Bool) (n x : ℕ) → x < n → member (gathered f n) x ≡ f x
member-gathered f n x l = rw (bit-gathered f n x l) (elim (f x) as (λ t. eqb (cond t 1 0) 1 ≡ t) [ true ↦ refl | false ↦ refl ])

pub sets_same : (n a b : ℕ) → a < 2 ^ n → b < 2 ^ n → ((x : ℕ) → x < n → member a x ≡ member b x) → a ≡ b
sets_same n a b h k same = bits_same n a b h k (λ x l. let e = same x l in let i = bit-lt a x in let j = bit-lt b x in grind (arith, nat_tests))

pub member-added : (a x y : ℕ) → member (bit_or a (2 ^ x)) y ≡ (eqb y x || member a y)
member-added a x y = member-or a (2 ^ x) y ∙ rw (member-single x y) (or_comm (member a y) (eqb y x))

pub Member-or : (a b x : ℕ) → Member (bit_or a b) x ↔ (Member a x ⊎ Member b x)
Member-or a b x = (go, back)
  where
    go : Member (bit_or a b) x → Member a x ⊎ Member b x
    go h = let e = bit-or a b x in grind arith

    back : Member a x ⊎ Member b x → Member (bit_or a b) x
    back h = let e = bit-or a b x in grind arith

pub Member-and : (a b x : ℕ) → Member (bit_and a b) x ↔ (Member a x × Member b x)
Member-and a b x = (λ h. omega (arith, bit-and a b x), λ h. omega (arith, bit-and a b x))

pub Member-single : (y x : ℕ) → Member (2 ^ y) x ↔ (x ≡ y)
Member-single y x = (go (cases_eq x y), λ e. rw e (bit-single_same y))
  where
    go : (x ≡ y) ⊎ (x ≡ y → ⊥) → Member (2 ^ y) x → x ≡ y
    go (inl e) h = e
    go (inr ne) h = let z = bit-single_other y x ne in absurd (omega arith)

pub Member-below : (n a x : ℕ) → a < 2 ^ n → Member a x → x < n
Member-below n a x h m = go (cases_lt x n)
  where
    go : (x < n) ⊎ (n ≤ x) → x < n
    go (inl l) = l
    go (inr l) = let z = bit_past n a x h l in absurd (omega arith)

pub set_laws : SetLaws
set_laws =
    record {
      none = λ x h. omega (arith, bit-none x);
      single = Member-single;
      union = Member-or;
      meet = Member-and;
      others = member-not;
      bounded = Member-below;
      same = sets_same;
      gather = member-gathered;
      small = gathered-lt;
      count = ones_members;
    }
