use Rattle.std.specs.Prelude.{◌≡◌, ℕ, zero, suc, ◌+◌, ◌-◌, ◌<◌, ◌≤◌, Bool, true, false, not, ◌||◌, ◌⊎◌, List, [], ◌∷◌, length, drop, ◌==◌, ◌≢◌, slice_index, refl}
use Rattle.std.proofs.Common.{sym, ◌∙◌, ap, inl, inr, arith}
use Rattle.std.proofs.lemmas.Bool.{ne_eqb, cases_eq, cases_lt}
use Rattle.std.proofs.lemmas.Bool.Decides.{nat_tests}
use Rattle.std.proofs.lemmas.List.{drop_more, drop_all}
use Rattle.kinds.specs.declared.Refusal.{Refusal}
use Rattle.kinds.specs.declared.Refusal.TheVariants.{NoAtom, UnfinishedEscape, UnfinishedSet, BackwardRange, EmptySet}
use Rattle.kinds.specs.Atoms.{no_atom_at, Operator, Within}
use Rattle.kinds.specs.Language.{Leads, caret, straight}
use Rattle.kinds.proofs.Language as language
use Rattle.kinds.proofs.Language.{leads_shorter, Inside, at_start}
use Rattle.kinds.proofs.Operators.{operator_is, not_operator, cases_operator}
use Rattle.sets.proofs.Bools.{or_false, or_swap}
use Rattle.byte_kind.specs.declared.class.ByteClass.{ByteClass}
use Rattle.byte_kind.specs.Class.{has_byte, class_of, between, ranged, others, empty_class, only_class, Words}
use Rattle.byte_kind.specs.Reading.{none_so_far, turn_of, atom_from, byte_reading}
use Rattle.byte_kind.specs.Language.{Spelled, plain, escaped, Ranges, Item, Items, none, single, range, Cut, at_item, at_escape, at_last, Shape, any, only, in_items, admitted_by, set_shape, Written, dot, escape, set, ordinary, Faulty, ended, operator, cut_escape, cut_set, backward, no_items, Exact, ReadAsWritten}
use Rattle.sets.proofs.NumberSets.{set_same, set_of-words, set_of-has, has-no_number}
use Rattle.kinds.proofs.Sets as sets
use Rattle.byte_kind.specs.Sets.{add_all, closed_run, unfinished_run, backward_run, empty_run}
use Rattle.kinds.specs.Sets.{whole_class}

-- What the classes have.

-- Classes that have the same bytes are equal.
pub class_same : (c d : ByteClass) → Words c → Words d → ((b : ℕ) → b < 256 → has_byte c b ≡ has_byte d b) → c ≡ d
class_same c d v w same = ap (λ s. record { bytes = s }) (set_same 4 c.bytes d.bytes v w same)

pub class_of-words : (f : ℕ → Bool) → Words (class_of f)
class_of-words f = set_of-words 4 f

-- The class of a test has exactly the bytes that pass it.
pub class_of-has : (f : ℕ → Bool) (b : ℕ) → b < 256 → has_byte (class_of f) b ≡ f b
class_of-has f b h = set_of-has 4 f b h

no_byte : (b : ℕ) → has_byte empty_class b ≡ false
no_byte b = has-no_number 4 b

has_ranged : (c : ByteClass) (first last b : ℕ) → b < 256
    → has_byte (ranged c first last) b ≡ (between first last b || has_byte c b)
has_ranged c first last b h = class_of-has (λ x. between first last x || has_byte c x) b h

has_others : (c : ByteClass) (b : ℕ) → b < 256 → has_byte (others c) b ≡ not (has_byte c b)
has_others c b h = class_of-has (λ x. not (has_byte c x)) b h

has_only : (c b : ℕ) → b < 256 → has_byte (only_class c) b ≡ (b == c)
has_only c b h = has_ranged empty_class c c b h ∙ rw (no_byte b) (grind (arith, nat_tests))

has_all : (items : List Item) (c : ByteClass) (b : ℕ) → b < 256 → has_byte (add_all c items) b ≡ (in_items items b || has_byte c b)
has_all [] c b h = refl
has_all (item ∷ items) c b h =
    has_all items (ranged c item.first item.last) b h
    ∙ rw (has_ranged c item.first item.last b h) (or_swap (in_items items b) (between item.first item.last b) (has_byte c b))

has_items : (items : List Item) (b : ℕ) → b < 256 → has_byte (add_all empty_class items) b ≡ in_items items b
has_items items b h = has_all items empty_class b h ∙ rw (no_byte b) (or_false (in_items items b))

has_whole : (negated : Bool) (items : List Item) (b : ℕ) → b < 256
    → has_byte (whole_class others negated (add_all empty_class items)) b ≡ admitted_by (set_shape negated items) b
has_whole true items b h = has_others (add_all empty_class items) b h ∙ ap not (has_items items b h)
has_whole false items b h = has_items items b h

words_all : (items : List Item) (c : ByteClass) → Words c → Words (add_all c items)
words_all [] c w = w
words_all (item ∷ items) c w = words_all items (ranged c item.first item.last) (class_of-words _)

words_whole : (negated : Bool) (item : Item) (items : List Item) → Words (whole_class others negated (add_all empty_class (item ∷ items)))
words_whole true item items = class_of-words _
words_whole false item items = words_all items (ranged empty_class item.first item.last) (class_of-words _)

-- What is read leaves less of the text.

spelled_shorter : {text rest : List ℕ} {b : ℕ} → Spelled text b rest → length rest < length text
spelled_shorter (plain n m) = omega arith
spelled_shorter escaped = omega arith

items_shorter : {text rest : List ℕ} {items : List Item} → Items text items rest → length rest ≤ length text
items_shorter none = omega arith
items_shorter (single s n r) = let a = spelled_shorter s in let b = items_shorter r in omega arith
items_shorter (range s t h r) =
    let a = spelled_shorter s in let b = spelled_shorter t in let c = items_shorter r in omega arith

-- An atom that is written is read.

abbrev ReadOk : List ℕ → List ℕ → Shape → ℕ → Type 0
ReadOk text rest shape i = language.ReadOk Written Faulty Exact atom_from text rest shape i

exact_only : (c : ℕ) → Exact (only c) (only_class c)
exact_only c = record { words = class_of-words _; members = has_only c }

written_read : (text rest : List ℕ) (shape : Shape) → Written text shape rest → (i : ℕ) → ReadOk text rest shape i
written_read text rest shape dot i =
    record {
      atom = record { class = others (only_class 10); length = 1 };
      is = refl;
      long = omega arith;
      exact = record { words = class_of-words _; members = λ b h. has_others (only_class 10) b h ∙ ap not (has_only 10 b h) };
    }
written_read text rest shape (escape {b = c}) i =
    record { atom = record { class = only_class c; length = 2 }; is = refl; long = omega arith; exact = exact_only c }
written_read text rest shape (set {inside = inside} {negated = negated} {item = item} {items = items} l r) i =
    let p = sets.leads_run none_so_far turn_of others l i in
    let q = closed_run negated i r p.0 empty_class in
    record {
      atom = record { class = whole_class others negated (add_all empty_class (item ∷ items)); length = q.0 - i };
      is = p.2 ∙ q.2;
      long = let a = leads_shorter l in let b = items_shorter r in omega arith;
      exact = record { words = words_whole negated item items; members = has_whole negated (item ∷ items) };
    }
written_read text rest shape (ordinary {b = c} o) i =
    record {
      atom = record { class = only_class c; length = 1 };
      is = rw (ne_eqb c 46 o.no_dot, ne_eqb c 92 o.no_escape, ne_eqb c 91 o.no_set, not_operator c o.no_operator);
      long = omega arith;
      exact = exact_only c;
    }

-- A fault is refused.

abbrev ReadErr : List ℕ → List ℕ → Refusal → ℕ → Type 0
ReadErr text here why i = language.ReadErr Written Faulty Exact atom_from text here why i

at_operator : (b : ℕ) (rest : List ℕ) (i : ℕ) → Operator b → atom_from (b ∷ rest) i ≡ no_atom_at i
at_operator b rest i h =
    let dot : b ≡ 46 → ⊥ = λ e. grind arith in
    let escape : b ≡ 92 → ⊥ = λ e. grind arith in
    let set : b ≡ 91 → ⊥ = λ e. grind arith in
    rw (ne_eqb b 46 dot, ne_eqb b 92 escape, ne_eqb b 91 set, operator_is b h)

faulty_read : (text here : List ℕ) (why : Refusal) → Faulty text why here → (i : ℕ) → ReadErr text here why i
faulty_read text here why ended i = record { place = i; is = refl; placed = refl }
faulty_read text here why (operator {b = b} {rest = rest} h) i = record { place = i; is = at_operator b rest i h; placed = refl }
faulty_read text here why cut_escape i = record { place = i; is = refl; placed = refl }
faulty_read text here why (cut_set {negated = negated} l r k) i =
    let p = sets.leads_run none_so_far turn_of others l i in
    record { place = i; is = p.2 ∙ unfinished_run negated i r k p.0 empty_class; placed = refl }
faulty_read text here why (backward {negated = negated} l r s t h) i =
    let p = sets.leads_run none_so_far turn_of others l i in
    let q = backward_run negated i r s t h p.0 empty_class in
    record { place = q.0; is = p.2 ∙ q.2; placed = omega arith }
faulty_read text here why (no_items {rest = rest} {negated = negated} l) i =
    let p = sets.leads_run none_so_far turn_of others l i in
    record { place = i; is = p.2 ∙ empty_run negated i rest p.0 empty_class; placed = refl }

-- Every text begins with an atom or has a fault.

-- Where the items of a set end.
data Stops : List ℕ → Type 0 where
  closes : {rest : List ℕ} → Stops (93 ∷ rest)
  cut : {text : List ℕ} → Cut text → Stops text
  backs : {text after next : List ℕ} {b l : ℕ} → Spelled text b (45 ∷ after) → Spelled after l next → l < b → Stops text

record Walked (text : List ℕ) : Type 0 where
  items : List Item
  rest : List ℕ
  read : Items text items rest
  stops : Stops rest

abbrev Shorter : List ℕ → Type 0
Shorter text = (t : List ℕ) → length t < length text → Walked t

stop_here : {text : List ℕ} → Stops text → Walked text
stop_here h = record { items = []; rest = _; read = none; stops = h }

with_single : {text after : List ℕ} {b : ℕ} → Spelled text b after → (Ranges after → ⊥) → Shorter text → Walked text
with_single {after = after} s n shorter =
    let w = shorter after (spelled_shorter s) in
    record { items = _; rest = w.rest; read = single s n w.read; stops = w.stops }

with_range : {text after next : List ℕ} {b l : ℕ} → Spelled text b (45 ∷ after) → Spelled after l next → Shorter text → Walked text
with_range {text = text} {after = after} {next = next} {b = b} {l = l} s t shorter = go (cases_lt l b)
  where
    go : (l < b) ⊎ (b ≤ l) → Walked text
    go (inl h) = stop_here (backs s t h)
    go (inr h) =
        let u = spelled_shorter s in
        let v = spelled_shorter t in
        let w = shorter next (omega arith) in
        record { items = _; rest = w.rest; read = range s t h w.read; stops = w.stops }

-- behind `-`, where the next byte does not close the set
behind_dash : {text : List ℕ} {b : ℕ} (c : ℕ) (more : List ℕ) → Spelled text b (45 ∷ c ∷ more) → (c ≢ 93) → Shorter text → Walked text
behind_dash {text} {b} c more s n shorter = go more s (cases_eq c 92)
  where
    go : (more : List ℕ) → Spelled text b (45 ∷ c ∷ more) → (c ≡ 92) ⊎ (c ≢ 92) → Walked text
    go [] s (inl e) = stop_here (cut (at_last (rw e at s)))
    go (l ∷ next) s (inl e) = with_range {after = 92 ∷ l ∷ next} (rw e at s) escaped shorter
    go more s (inr e) = with_range s (plain e n) shorter

with_first : {text : List ℕ} {b : ℕ} (after : List ℕ) → Spelled text b after → Shorter text → Walked text
with_first [] s shorter = with_single s (λ r. r) shorter
with_first (d ∷ []) s shorter = with_single s (λ r. r) shorter
with_first {text} {b} (d ∷ c ∷ more) s shorter = go (cases_eq d 45) (cases_eq c 93)
  where
    go : (d ≡ 45) ⊎ (d ≢ 45) → (c ≡ 93) ⊎ (c ≢ 93) → Walked text
    go (inl e) (inr n) = behind_dash c more (rw e at s) n shorter
    go (inl e) (inl n) = with_single s (λ r. r.1 n) shorter
    go (inr e) n = with_single s (λ r. e r.0) shorter

one_item : (text : List ℕ) → Shorter text → Walked text
one_item [] shorter = stop_here (cut at_item)
one_item (b ∷ rest) shorter = go rest shorter (cases_eq b 93) (cases_eq b 92)
  where
    go : (rest : List ℕ) → Shorter (b ∷ rest) → (b ≡ 93) ⊎ (b ≢ 93) → (b ≡ 92) ⊎ (b ≢ 92) → Walked (b ∷ rest)
    go rest shorter (inl e) n = rw e (stop_here closes)
    go [] shorter (inr m) (inl e) = rw e (stop_here (cut at_escape))
    go (l ∷ after) shorter (inr m) (inl e) =
        let s : Spelled (b ∷ l ∷ after) l after = rw e escaped in with_first after s shorter
    go rest shorter (inr m) (inr n) = with_first rest (plain n m) shorter

walk : (n : ℕ) (text : List ℕ) → length text < n → Walked text
walk zero text h = absurd (omega arith)
walk (suc n) text h = one_item text (λ t l. walk n t (omega arith))

abbrev Outcome : List ℕ → Type 0
Outcome text = language.Outcome Written Faulty Exact atom_from text

set_stopped : {inside start here : List ℕ} {negated : Bool} {items : List Item} → Leads inside negated start → Items start items here
    → Stops here → Outcome (91 ∷ inside)
set_stopped {items = []} l none closes = inr (EmptySet, _, no_items l)
set_stopped {negated = negated} {items = item ∷ items} l r (closes {rest = rest}) = inl (set_shape negated (item ∷ items), rest, set l r)
set_stopped l r (cut k) = inr (UnfinishedSet, _, cut_set l r k)
set_stopped {here = here} l r (backs s t h) = inr (BackwardRange, here, backward l r s t h)

set_outcome : (inside : List ℕ) → Outcome (91 ∷ inside)
set_outcome [] = let w = walk 1 [] (omega arith) in set_stopped (straight {text = []} tt) w.read w.stops
set_outcome (b ∷ rest) = go (cases_eq b 94)
  where
    go : (b ≡ 94) ⊎ (b ≢ 94) → Outcome (91 ∷ b ∷ rest)
    go (inl e) = rw e (let w = walk (suc (length rest)) rest (omega arith) in set_stopped caret w.read w.stops)
    go (inr n) = let w = walk (suc (length (b ∷ rest))) (b ∷ rest) (omega arith) in set_stopped (straight {text = b ∷ rest} n) w.read w.stops

outcome : (text : List ℕ) → Outcome text
outcome [] = inr (NoAtom, [], ended)
outcome (b ∷ rest) = go rest (cases_eq b 46) (cases_eq b 92) (cases_eq b 91) (cases_operator b)
  where
    go : (rest : List ℕ) → (b ≡ 46) ⊎ (b ≢ 46) → (b ≡ 92) ⊎ (b ≢ 92) → (b ≡ 91) ⊎ (b ≢ 91) → Operator b ⊎ (Operator b → ⊥)
        → Outcome (b ∷ rest)
    go rest (inl d) e s o = rw d (inl (any, rest, dot))
    go [] (inr d) (inl e) s o = rw e (inr (UnfinishedEscape, _, cut_escape))
    go (c ∷ rest) (inr d) (inl e) s o = rw e (inl (only c, rest, escape))
    go rest (inr d) (inr e) (inl s) o = rw s (set_outcome rest)
    go rest (inr d) (inr e) (inr s) (inl o) = inr (NoAtom, _, operator o)
    go rest (inr d) (inr e) (inr s) (inr o) =
        inl (only b, rest, ordinary (record { no_operator = o; no_dot = d; no_set = s; no_escape = e }))

-- The reading is what the language says.

one_class : (shape : Shape) (c d : ByteClass) → Exact shape c → Exact shape d → c ≡ d
one_class shape c d v w = class_same c d v.words w.words (λ b h. v.members b h ∙ sym (w.members b h))

pub read_as_written : (text : List ℕ) (i : ℕ) → ReadAsWritten text i (byte_reading text i)
unfolding byte_reading
read_as_written text i = language.read_as_written Written Faulty Exact atom_from one_class written_read faulty_read outcome text i

-- What every kind's reading is like.

written_shorter : (text rest : List ℕ) (shape : Shape) → Written text shape rest → length rest < length text
written_shorter text rest shape dot = omega arith
written_shorter text rest shape escape = omega arith
written_shorter text rest shape (set l r) = let a = leads_shorter l in let b = items_shorter r in omega arith
written_shorter text rest shape (ordinary o) = omega arith

faulty_inside : (text here : List ℕ) (why : Refusal) → Faulty text why here → Inside text why here
faulty_inside text here why ended = record { low = omega arith; high = omega arith; some = λ z. z; part = omega arith }
faulty_inside text here why (operator {b = b} {rest = rest} o) = at_start b rest NoAtom (omega arith) (omega arith)
faulty_inside text here why cut_escape = at_start 92 [] UnfinishedEscape (omega arith) (omega arith)
faulty_inside text here why (cut_set {inside = inside} l r k) = at_start 91 inside UnfinishedSet (omega arith) (omega arith)
faulty_inside text here why (backward l r s t h) =
    let a = leads_shorter l in
    let b = items_shorter r in
    let c = spelled_shorter s in
    record { low = omega arith; high = omega arith; some = λ z. omega arith; part = omega arith }
faulty_inside text here why (no_items {inside = inside} l) = at_start 91 inside EmptySet (omega arith) (omega arith)

pub reading_within : (text : List ℕ) (i : ℕ) → i < length text → Within text i (byte_reading text i)
unfolding byte_reading
reading_within text i h =
    language.read_within Written Faulty Exact atom_from one_class written_read faulty_read outcome written_shorter faulty_inside text i h

pub reading_beyond : (text : List ℕ) (i : ℕ) → length text ≤ i → byte_reading text i ≡ no_atom_at i
unfolding byte_reading
reading_beyond text i h = rw (drop_all i text h)

pub reading_operator : (text : List ℕ) (i : ℕ) → i < length text → Operator (slice_index text i) → byte_reading text i ≡ no_atom_at i
unfolding byte_reading
reading_operator text i h o = rw (drop_more text i 0 h) (at_operator (slice_index text i) (drop (i + 1) text) i o)
