use Rattle.std.proofs.Common.{◌≡◌, ℕ, zero, suc, ◌+◌, ◌-◌, ◌*◌, ◌/◌, ◌%◌, ◌^◌, ◌<◌, ◌≤◌, Bool, false, not, ◌||◌, ◌⊎◌, ◌&&◌, true, List, length, get_or, set, replicate, refl, sym, ap, ◌∙◌, subst, inl, inr, pow_pos, arith}
use Rattle.std.proofs.Math.Pow.{pow_mono}
use lib.Pow.{pow-lt}
use Rattle.std.specs.Prelude.{◌==◌, ◌≢◌, nat_le, nat_lt}
use Rattle.std.specs.Int.Bits.{bit_and, bit_or, and_lt}
use Rattle.std.proofs.lemmas.Nat.{or_lt}
use Rattle.sets.proofs.Bools.{or_comm}
use Rattle.std.proofs.lemmas.Bool.{cases_eq, cases_lt, ne_eqb, lt-ltb, le-ltb, eq-eqb}
use Rattle.std.proofs.lemmas.Bool.Decides.{nat_tests}
use Rattle.sets.specs.Laws.{Added}
use Rattle.std.proofs.lemmas.List.{ext_get_or, get_or-replicate, get_or-set_same, get_or-set_other, get_or_past, length-replicate, length-set}
use Rattle.std.proofs.lemmas.Nat.{div-mul-add, mod-mul-add}
use Rattle.sets.specs.Sets.{member, gathered}
use Rattle.sets.specs.declared.number_set.NumberSet.{NumberSet}
use Rattle.sets.specs.NumberSets.{in_words, has, no_number, words_of, set_of, word_of, Gathered, Words}
use Rattle.sets.proofs.Bits.{member-gathered, gathered-lt, gathered-same, sets_same, bit-none, member-not, member-past, member-or, member-and, member-single}

length-words_of : (f : ℕ → Bool) (i w : ℕ) → length (words_of f i w) ≡ w
unfolding words_of
length-words_of f i zero = refl
length-words_of f i (suc w) = ap suc (length-words_of f (suc i) w)

small-words_of : (f : ℕ → Bool) (i w q : ℕ) → get_or (words_of f i w) q 0 < 2 ^ 64
unfolding words_of
small-words_of f i zero q = omega arith
small-words_of f i (suc w) zero = gathered-lt (λ j. f (i * 64 + j)) 64
small-words_of f i (suc w) (suc q) = small-words_of f (suc i) w q

word_at : (f : ℕ → Bool) (i w q : ℕ) → q < w → get_or (words_of f i w) q 0 ≡ gathered (λ j. f ((i + q) * 64 + j)) 64
unfolding words_of
word_at f i zero q h = absurd (omega arith)
word_at f i (suc w) zero h = let e : i + 0 ≡ i = omega arith in rw e
word_at f i (suc w) (suc q) h = let e : i + suc q ≡ suc i + q = omega arith in rw e (word_at f (suc i) w q (omega arith))

module _ (w : ℕ) where
  -- Sets that have the same numbers are equal.
  pub set_same : (s t : NumberSet w) → Words s → Words t → ((n : ℕ) → n < 64 * w → has s n ≡ has t n) → s ≡ t
  set_same s t u v same =
      ap (λ words. record { words = words })
      (ext_get_or 0 s.words t.words (u.many ∙ sym v.many)
      (λ i l. sets_same 64 (get_or s.words i 0) (get_or t.words i 0) (u.small i) (v.small i)
      (λ x k. let m = u.many in rw (div-mul-add i 64 x k, mod-mul-add i 64 x k) at (same (i * 64 + x) (omega arith)))))

  pub set_of-words : (f : ℕ → Bool) → Words (set_of {w = w} f)
  unfolding set_of
  set_of-words f = record { many = length-words_of f 0 w; small = small-words_of f 0 w }

  -- The set of a test has exactly the numbers that pass it.
  pub set_of-has : (f : ℕ → Bool) (n : ℕ) → n < 64 * w → has (set_of {w = w} f) n ≡ f n
  unfolding set_of
  set_of-has f n h =
      let e : n / 64 * 64 + n % 64 ≡ n = omega arith in
      let l : n % 64 < 64 = omega arith in
      rw (word_at f 0 w (n / 64) (omega arith)) (member-gathered (λ j. f ((0 + n / 64) * 64 + j)) 64 (n % 64) l ∙ ap f (omega arith))

  pub is_set_of : (s : NumberSet w) (f : ℕ → Bool) → Words s → ((n : ℕ) → n < 64 * w → has s n ≡ f n) → s ≡ set_of f
  is_set_of s f u same = set_same s (set_of f) u (set_of-words f) (λ n h. same n h ∙ sym (set_of-has f n h))

  -- Tests that agree on all numbers have one set.
  pub set_of-same : (f g : ℕ → Bool) → ((n : ℕ) → n < 64 * w → f n ≡ g n) → set_of {w = w} f ≡ set_of g
  set_of-same f g same = is_set_of (set_of f) g (set_of-words f) (λ n h. set_of-has f n h ∙ same n h)

-- The set without a number has none.
get_or_zeros : (w i : ℕ) → ◌≡◌ {A = ℕ} (get_or (replicate w 0) i 0) 0
get_or_zeros w i = go (cases_lt i w)
  where
    go : (i < w) ⊎ (w ≤ i) → ◌≡◌ {A = ℕ} (get_or (replicate w 0) i 0) 0
    go (inl h) = get_or-replicate w i 0 0 h
    go (inr h) = get_or_past (replicate w 0) i 0 (let l = length-replicate {A = ℕ} w 0 in omega arith)

pub has-no_number : (w n : ℕ) → has (no_number {w = w}) n ≡ false
has-no_number w n = rw (get_or_zeros w (n / 64)) (rw (bit-none (n % 64)))

pub no_number-words : (w : ℕ) → Words (no_number {w = w})
no_number-words w = record { many = length-replicate w 0; small = λ i. let e = get_or_zeros w i in omega arith }

-- A test of all the numbers for which there are words.
pub gathered_all : (w count : ℕ) (answers : ℕ → Bool → Type 0) (s : NumberSet w) (f : ℕ → Bool) → 64 * w ≤ count → Gathered answers count s
    → ((n : ℕ) (r : Bool) → n < count → answers n r → r ≡ f n) → s ≡ set_of f
gathered_all w count answers s f h gathers told =
    gathers.whole f told ∙ set_of-same w (λ n. nat_lt n count && f n) f (λ n l. rw (lt-ltb n count (omega arith)))

same_number : (x n : ℕ) → x / 64 ≡ n / 64 → (x % 64 == n % 64) ≡ (x == n)
same_number x n e = grind (arith, nat_tests)

-- Words with a number added to the one that it belongs to.
pub in_words-added : (words : List ℕ) (n r : ℕ) → n / 64 < length words → Added 64 (get_or words (n / 64) 0) (n % 64) r → (x : ℕ)
    → in_words (set words (n / 64) r) x ≡ ((x == n) || in_words words x)
in_words-added words n r h added x = go (cases_eq (x / 64) (n / 64))
  where
    go : (x / 64 ≡ n / 64) ⊎ (x / 64 ≢ n / 64) → in_words (set words (n / 64) r) x ≡ ((x == n) || in_words words x)
    go (inl e) =
        let l : x % 64 < 64 = omega arith in
        rw e (rw (get_or-set_same words (n / 64) r 0 h) (added (x % 64) l ∙ ap (λ b. b || member (get_or words (n / 64) 0) (x % 64)) (same_number x n e)))
    go (inr e) =
        rw (get_or-set_other words (n / 64) (x / 64) r 0 e) (rw (ne_eqb x n (λ k. e (ap (λ y. y / 64) k))))

pub small-set : (words : List ℕ) (q r : ℕ) → q < length words → r < 2 ^ 64 → ((i : ℕ) → get_or words i 0 < 2 ^ 64)
    → (i : ℕ) → get_or (set words q r) i 0 < 2 ^ 64
small-set words q r h l small i = go (cases_eq i q)
  where
    go : (i ≡ q) ⊎ (i ≢ q) → get_or (set words q r) i 0 < 2 ^ 64
    go (inl e) = rw e (rw (get_or-set_same words q r 0 h) l)
    go (inr e) = rw (get_or-set_other words q i r 0 e) (small i)

-- What a set is by its numbers below a count, and none from there up.
pub whole_of : (w count : ℕ) (answers : ℕ → Bool → Type 0) (s : NumberSet w) → Words s
    → ((n : ℕ) → n < count → n < 64 * w → answers n (has s n)) → ((n : ℕ) → count ≤ n → n < 64 * w → has s n ≡ false)
    → Gathered answers count s
whole_of w count answers s u below no_more =
    record { below = below; no_more = no_more; whole = λ f told. is_set_of w s _ u (λ n l. go f told n l (cases_lt n count)) }
  where
    go : (f : ℕ → Bool) → ((n : ℕ) (r : Bool) → n < count → answers n r → r ≡ f n) → (n : ℕ) → n < 64 * w
        → (n < count) ⊎ (count ≤ n) → has s n ≡ (nat_lt n count && f n)
    go f told n l (inl h) = rw (lt-ltb n count h) (told n (has s n) h (below n h l))
    go f told n l (inr h) = rw (le-ltb n count h) (no_more n h l)

-- One number more is answered: what holds of the numbers below n and of n holds of those below n + 1.
pub one_more : (P : ℕ → Bool → Type 0) (before after : ℕ → Bool) (n bound : ℕ) → ((m : ℕ) → m < n → m < bound → P m (before m))
    → ((m : ℕ) → m < n → after m ≡ before m) → (n < bound → P n (after n)) → (m : ℕ) → m < n + 1 → m < bound → P m (after m)
one_more P before after n bound below same here m h l = go (cases_lt m n)
  where
    go : (m < n) ⊎ (n ≤ m) → P m (after m)
    go (inl k) = subst (P m) (sym (same m k)) (below m k l)
    go (inr k) = let e : n ≡ m = omega arith in subst (λ x. P x (after x)) e (here (omega arith))

module _ (words after : List ℕ) (n : ℕ) (added : (x : ℕ) → in_words after x ≡ ((x == n) || in_words words x)) where
  pub added_below : (m : ℕ) → m < n → in_words after m ≡ in_words words m
  added_below m h = added m ∙ rw (ne_eqb m n (λ e. omega arith))

  pub added_at : in_words after n ≡ true
  added_at = added n ∙ rw (eq-eqb n n refl)

  pub added_beyond : ((m : ℕ) → n ≤ m → m < 64 * length words → in_words words m ≡ false) → (m : ℕ) → n + 1 ≤ m → m < 64 * length words
      → in_words after m ≡ false
  added_beyond none m h l = added m ∙ rw (ne_eqb m n (λ e. omega arith)) (none m (omega arith) l)

-- Word i of the numbers below a limit, as it is computed: ones up to a bit.
ones_below : (k : ℕ) → k ≤ 64 → 2 ^ k - 1 ≡ gathered (λ j. nat_lt j k) 64
ones_below k h =
    sets_same 64 (2 ^ k - 1) (gathered (λ j. nat_lt j k) 64) (let p = pow_pos k in let m = pow_mono h in omega arith)
    (gathered-lt (λ j. nat_lt j k) 64)
    (λ x l. go x (cases_lt x k) ∙ sym (member-gathered (λ j. nat_lt j k) 64 x l))
  where
    go : (x : ℕ) → (x < k) ⊎ (k ≤ x) → member (2 ^ k - 1) x ≡ nat_lt x k
    go x (inl m) =
        let p = pow_pos k in
        let e : 2 ^ k - 1 - 0 ≡ 2 ^ k - 1 = omega arith in
        rw e at (member-not k 0 x p m) ∙ rw (bit-none x) (sym (lt-ltb x k m))
    go x (inr m) = let p = pow_pos k in member-past k (2 ^ k - 1) x (omega arith) m ∙ sym (le-ltb x k m)

pub ones_are : (limit i k : ℕ) → k ≤ 64 → ((j : ℕ) → j < 64 → nat_lt j k ≡ nat_lt (i * 64 + j) limit)
    → 2 ^ k - 1 ≡ word_of (λ m. nat_lt m limit) i
ones_are limit i k h same = ones_below k h ∙ gathered-same 64 (λ j. nat_lt j k) (λ j. nat_lt (i * 64 + j) limit) same

-- Word i of the set of one number, likewise.
pub single_is : (n i : ℕ) → i ≡ n / 64 → 2 ^ (n % 64) ≡ word_of (λ m. m == n) i
single_is n i e =
    let k : n % 64 < 64 = omega arith in
    sets_same 64 (2 ^ (n % 64)) (word_of (λ m. m == n) i) (pow-lt k) (gathered-lt (λ j. (i * 64 + j) == n) 64)
    (λ x l. member-single (n % 64) x ∙ same x l (cases_eq x (n % 64)) ∙ sym (member-gathered (λ j. (i * 64 + j) == n) 64 x l))
  where
    same : (x : ℕ) → x < 64 → (x ≡ n % 64) ⊎ (x ≢ n % 64) → (x == n % 64) ≡ ((i * 64 + x) == n)
    same x l (inl h) = eq-eqb x (n % 64) h ∙ sym (eq-eqb (i * 64 + x) n (omega arith))
    same x l (inr h) = ne_eqb x (n % 64) h ∙ sym (ne_eqb (i * 64 + x) n (λ k. h (omega arith)))

pub single_elsewhere : (n i : ℕ) → i ≢ n / 64 → 0 ≡ word_of (λ m. m == n) i
single_elsewhere n i e =
    sets_same 64 0 (word_of (λ m. m == n) i) (omega arith) (gathered-lt (λ j. (i * 64 + j) == n) 64)
    (λ x l. rw (bit-none x) (sym (ne_eqb (i * 64 + x) n (λ k. e (omega arith)))) ∙ sym (member-gathered (λ j. (i * 64 + j) == n) 64 x l))

-- Words that are made one after another: those below i have the numbers that pass a test.
pub record Made (f : ℕ → Bool) (w i : ℕ) (words : List ℕ) : Type 0 where
  pub many : length words ≡ w
  pub small : (q : ℕ) → get_or words q 0 < 2 ^ 64
  pub done : (q x : ℕ) → q < i → x < 64 → member (get_or words q 0) x ≡ f (q * 64 + x)

module _ (f : ℕ → Bool) (w : ℕ) (words : List ℕ) where
  -- One word more.
  made_more : (i r : ℕ) → Made f w i words → i < w → r < 2 ^ 64 → ((x : ℕ) → x < 64 → member r x ≡ f (i * 64 + x)) → Made f w (i + 1) (set words i r)
  made_more i r before h l made =
      let m = before.many in
      let k : i < length words = omega arith in
      record {
        many = length-set words i r ∙ before.many;
        small = small-set words i r k l before.small;
        done = λ q x b n. done q x b n (cases_eq q i);
      }
    where
      done : (q x : ℕ) → q < i + 1 → x < 64 → (q ≡ i) ⊎ (q ≢ i) → member (get_or (set words i r) q 0) x ≡ f (q * 64 + x)
      done q x b n (inl e) = let m = before.many in rw e (rw (get_or-set_same words i r 0 (omega arith)) (made x n))
      done q x b n (inr e) = rw (get_or-set_other words i q r 0 e) (before.done q x (omega arith) n)

  -- All of them.
  pub made_all : (i : ℕ) → w ≤ i → Made f w i words → ◌≡◌ {A = NumberSet w} (record { words = words }) (set_of f)
  made_all i h all =
      is_set_of w (record { words = words }) f (record { many = all.many; small = all.small })
      (λ n l. all.done (n / 64) (n % 64) (omega arith) (omega arith) ∙ ap f (omega arith))

-- Number x of a word, in the whole.
has_at : (words : List ℕ) (i x : ℕ) → x < 64 → in_words words (i * 64 + x) ≡ member (get_or words i 0) x
has_at words i x h = rw (div-mul-add i 64 x h, mod-mul-add i 64 x h)

and_comm : (x y : Bool) → (x && y) ≡ (y && x)
and_comm true true = refl
and_comm true false = refl
and_comm false true = refl
and_comm false false = refl

-- What a span is: what lies below its end and not below its first number.
pub span_is : (first end i : ℕ)
    → bit_and (word_of (λ m. nat_lt m end) i) (2 ^ 64 - 1 - word_of (λ m. nat_lt m first) i) ≡ word_of (λ m. nat_le first m && nat_lt m end) i
span_is first end i =
    sets_same 64 _ _ (and_lt 64 _ _ (gathered-lt (λ j. nat_lt (i * 64 + j) end) 64) (omega arith))
    (gathered-lt (λ j. nat_le first (i * 64 + j) && nat_lt (i * 64 + j) end) 64)
    (λ x l.
    member-and (word_of (λ m. nat_lt m end) i) (2 ^ 64 - 1 - word_of (λ m. nat_lt m first) i) x
    ∙ rw (
      member-not 64 (word_of (λ m. nat_lt m first) i) x (gathered-lt (λ j. nat_lt (i * 64 + j) first) 64) l,
      member-gathered (λ j. nat_lt (i * 64 + j) first) 64 x l,
      member-gathered (λ j. nat_lt (i * 64 + j) end) 64 x l,
      from_first (i * 64 + x),
    )
    (and_comm (nat_lt (i * 64 + x) end) (nat_le first (i * 64 + x)))
    ∙ sym (member-gathered (λ j. nat_le first (i * 64 + j) && nat_lt (i * 64 + j) end) 64 x l))
  where
    from_first : (n : ℕ) → not (nat_lt n first) ≡ nat_le first n
    from_first n = grind (arith, nat_tests)

-- Word i of a set, which is read at j, with more numbers or turned to what it lacks, and cut to a limit.
module _ (w limit : ℕ) (old words : List ℕ) (j i : ℕ) (at : j ≡ i) (small : get_or old j 0 < 2 ^ 64) where
  pub more_made : (g : ℕ → Bool) → Made (λ n. nat_lt n limit && (g n || in_words old n)) w i words → i < w
      → Made (λ n. nat_lt n limit && (g n || in_words old n)) w (i + 1)
      (set words i (bit_and (bit_or (get_or old j 0) (word_of g i)) (word_of (λ m. nat_lt m limit) i)))
  more_made g before h =
      made_more _ w words i _ before h
      (and_lt 64 _ _ (or_lt 64 _ _ small (gathered-lt (λ x. g (i * 64 + x)) 64)) (gathered-lt (λ x. nat_lt (i * 64 + x) limit) 64))
      (λ x l.
      member-and (bit_or (get_or old j 0) (word_of g i)) (word_of (λ m. nat_lt m limit) i) x
      ∙ rw (
        member-or (get_or old j 0) (word_of g i) x,
        member-gathered (λ y. g (i * 64 + y)) 64 x l,
        member-gathered (λ y. nat_lt (i * 64 + y) limit) 64 x l,
        at,
        has_at old i x l,
      )
      (rw (or_comm (member (get_or old i 0) x) (g (i * 64 + x)))
      (and_comm (g (i * 64 + x) || member (get_or old i 0) x) (nat_lt (i * 64 + x) limit))))

  pub others_made : Made (λ n. nat_lt n limit && not (in_words old n)) w i words → i < w
      → Made (λ n. nat_lt n limit && not (in_words old n)) w (i + 1)
      (set words i (bit_and (2 ^ 64 - 1 - get_or old j 0) (word_of (λ m. nat_lt m limit) i)))
  others_made before h =
      made_more _ w words i _ before h (and_lt 64 _ _ (omega arith) (gathered-lt (λ x. nat_lt (i * 64 + x) limit) 64))
      (λ x l.
      member-and (2 ^ 64 - 1 - get_or old j 0) (word_of (λ m. nat_lt m limit) i) x
      ∙ rw (member-not 64 (get_or old j 0) x small l, member-gathered (λ y. nat_lt (i * 64 + y) limit) 64 x l, at, has_at old i x l)
      (and_comm (not (member (get_or old i 0) x)) (nat_lt (i * 64 + x) limit)))
