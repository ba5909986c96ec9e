use Rattle.std.specs.Prelude.{◌≡◌, ℕ, ◌+◌, ◌-◌, ◌<◌, ◌≤◌, Bool, ◌⊎◌, List, [], ◌∷◌, length, Ok, Result, ◌≢◌}
use Rattle.std.proofs.Math.Path.{refl}
use Rattle.std.proofs.Common.{◌∙◌, inl, inr}
use native.Mathlib.Omega.{arith}
use Rattle.std.proofs.lemmas.Bool.{ne_eqb, lt-ltb, le-ltb, cases_eq}
use Rattle.kinds.specs.declared.Atom.{Atom}
use Rattle.kinds.specs.declared.Refused.{Refused}
use Rattle.kinds.specs.declared.Refusal.TheVariants.{UnfinishedSet, BackwardRange, EmptySet}
use Rattle.kinds.specs.Atoms.{refused_at}
use Rattle.byte_kind.specs.declared.class.ByteClass.{ByteClass}
use Rattle.byte_kind.specs.declared.set.SetState.{SetState}
use Rattle.byte_kind.specs.declared.set.SetState.TheVariants.{Start, Between, First, Dash}
use Rattle.byte_kind.specs.Class.{ranged, others}
use Rattle.kinds.specs.Sets.{whole_class, run_set}
use Rattle.byte_kind.specs.Reading.{none_so_far, turn_of}
use Rattle.byte_kind.specs.Language.{Spelled, plain, escaped, Ranges, Item, Items, none, single, range, Cut, at_item, at_escape, at_last}

-- The class of the items, added to a class one by one.
abbrev pub add_all : ByteClass → List Item → ByteClass
add_all c [] = c
add_all c (item ∷ items) = add_all (ranged c item.first item.last) items

module _ (negated : Bool) (bracket : ℕ) where
  abbrev pub run : List ℕ → ℕ → SetState → ByteClass → Result (Atom ByteClass) Refused
  run text p state c = run_set none_so_far turn_of others negated bracket text p (record { state = state; class = c })

  -- The run over a text from a place goes on with the rest of the text, from its place.
  abbrev Goes : List ℕ → ℕ → SetState → ByteClass → List ℕ → SetState → ByteClass → Type 0
  Goes text p state c rest next d = (q : ℕ) × (q + length rest ≡ p + length text) × (run text p state c ≡ run rest q next d)

  first_byte : {text rest : List ℕ} {b : ℕ} → Spelled text b rest → (p : ℕ) (c : ByteClass)
      → Goes text p Between c rest (First b p) c
  unfolding run_set
  first_byte (plain {b} n m) p c = (p + 1, omega arith, rw (ne_eqb b 93 m, ne_eqb b 92 n))
  first_byte escaped p c = (p + 1 + 1, omega arith, refl)

  last_byte : {text rest : List ℕ} {l : ℕ} → Spelled text l rest → (first p at : ℕ) (c : ByteClass) → first ≤ l
      → Goes text p (Dash first at) c rest Between (ranged c first l)
  unfolding run_set
  last_byte (plain {b = l} n m) first p at c h =
      (p + 1, omega arith, rw (ne_eqb l 93 m, ne_eqb l 92 n, le-ltb l first h))
  last_byte (escaped {b = l}) first p at c h = (p + 1 + 1, omega arith, rw (le-ltb l first h))

  last_backward : {text rest : List ℕ} {l : ℕ} → Spelled text l rest → (first p at : ℕ) (c : ByteClass) → l < first
      → run text p (Dash first at) c ≡ refused_at BackwardRange at
  unfolding run_set
  last_backward (plain {b = l} n m) first p at c h = rw (ne_eqb l 93 m, ne_eqb l 92 n, lt-ltb l first h)
  last_backward (escaped {b = l}) first p at c h = rw (lt-ltb l first h)

  -- Where no range is made, a first byte is an item of its own.
  no_range : (after : List ℕ) → (Ranges after → ⊥) → (b p at : ℕ) (c : ByteClass)
      → run after p (First b at) c ≡ run after p Between (ranged c b b)
  unfolding run_set
  no_range [] n b p at c = refl
  no_range (d ∷ []) n b p at c = go (cases_eq d 45)
    where
      go : (d ≡ 45) ⊎ (d ≢ 45) → run (d ∷ []) p (First b at) c ≡ run (d ∷ []) p Between (ranged c b b)
      go (inl e) = rw e refl
      go (inr e) = rw (ne_eqb d 45 e)
  no_range (d ∷ e ∷ more) n b p at c = go (cases_eq d 45) (cases_eq e 93)
    where
      go : (d ≡ 45) ⊎ (d ≢ 45) → (e ≡ 93) ⊎ (e ≢ 93)
          → run (d ∷ e ∷ more) p (First b at) c ≡ run (d ∷ e ∷ more) p Between (ranged c b b)
      go (inl x) (inl y) = rw (x, y) refl
      go (inl x) (inr y) = absurd (n (x, y))
      go (inr x) y = rw (ne_eqb d 45 x)

  dash : (after : List ℕ) (b p at : ℕ) (c : ByteClass) → run (45 ∷ after) p (First b at) c ≡ run after (p + 1) (Dash b at) c
  unfolding run_set
  dash after b p at c = refl

  pub items_run : {text rest : List ℕ} {items : List Item} → Items text items rest → (p : ℕ) (c : ByteClass)
      → Goes text p Between c rest Between (add_all c items)
  items_run none p c = (p, refl, refl)
  items_run (single {after = after} {b = b} s n r) p c =
      let f = first_byte s p c in
      let g = items_run r f.0 (ranged c b b) in
      (g.0, omega arith, f.2 ∙ no_range after n b f.0 p c ∙ g.2)
  items_run (range {after = after} {b = b} {c = l} s t h r) p c =
      let f = first_byte s p c in
      let e = last_byte t b (f.0 + 1) p c h in
      let g = items_run r e.0 (ranged c b l) in
      (g.0, omega arith, f.2 ∙ dash after b f.0 p c ∙ e.2 ∙ g.2)

  -- Unless the set is closed at once, it makes no difference whether an item was read before.
  start_spelled : {text rest : List ℕ} {b : ℕ} → Spelled text b rest → (p : ℕ) (c : ByteClass)
      → run text p Start c ≡ run text p Between c
  unfolding run_set
  start_spelled (plain {b} n m) p c = rw (ne_eqb b 93 m)
  start_spelled escaped p c = refl

  start_items : {text rest : List ℕ} {item : Item} {items : List Item} → Items text (item ∷ items) rest → (p : ℕ) (c : ByteClass)
      → run text p Start c ≡ run text p Between c
  start_items (single s n r) p c = start_spelled s p c
  start_items (range s t h r) p c = start_spelled s p c

  -- A set with items that is closed.
  pub closed_run : {text rest : List ℕ} {item : Item} {items : List Item} → Items text (item ∷ items) (93 ∷ rest)
      → (p : ℕ) (c : ByteClass) → (q : ℕ) × (q + length rest ≡ p + length text)
      × (run text p Start c ≡ Ok (record { class = whole_class others negated (add_all c (item ∷ items)); length = q - bracket }))
  unfolding run_set
  closed_run r p c = let g = items_run r p c in (g.0 + 1, omega arith, start_items r p c ∙ g.2)

  -- A set that the text's end cuts off.
  cut_run : {text : List ℕ} → Cut text → (p : ℕ) (c : ByteClass) → run text p Between c ≡ refused_at UnfinishedSet bracket
  unfolding run_set
  cut_run at_item p c = refl
  cut_run at_escape p c = refl
  cut_run (at_last s) p c = let f = first_byte s p c in f.2

  start_cut : {text : List ℕ} → Cut text → (p : ℕ) (c : ByteClass) → run text p Start c ≡ refused_at UnfinishedSet bracket
  unfolding run_set
  start_cut at_item p c = refl
  start_cut at_escape p c = refl
  start_cut (at_last s) p c = start_spelled s p c ∙ cut_run (at_last s) p c

  pub unfinished_run : {text here : List ℕ} {items : List Item} → Items text items here → Cut here → (p : ℕ) (c : ByteClass)
      → run text p Start c ≡ refused_at UnfinishedSet bracket
  unfinished_run none k p c = start_cut k p c
  unfinished_run (single s n r) k p c =
      let g = items_run (single s n r) p c in start_spelled s p c ∙ g.2 ∙ cut_run k g.0 _
  unfinished_run (range s t h r) k p c =
      let g = items_run (range s t h r) p c in start_spelled s p c ∙ g.2 ∙ cut_run k g.0 _

  -- A set with a range that runs backward.
  backward_between : {here after next : List ℕ} {b l : ℕ} → Spelled here b (45 ∷ after) → Spelled after l next → l < b
      → (p : ℕ) (c : ByteClass) → run here p Between c ≡ refused_at BackwardRange p
  backward_between {after = after} {b = b} s t h p c =
      let f = first_byte s p c in f.2 ∙ dash after b f.0 p c ∙ last_backward t b (f.0 + 1) p c h

  pub backward_run : {text here after next : List ℕ} {items : List Item} {b l : ℕ} → Items text items here
      → Spelled here b (45 ∷ after) → Spelled after l next → l < b → (p : ℕ) (c : ByteClass)
      → (q : ℕ) × (q + length here ≡ p + length text) × (run text p Start c ≡ refused_at BackwardRange q)
  backward_run none s t h p c = (p, refl, start_spelled s p c ∙ backward_between s t h p c)
  backward_run (single u n r) s t h p c =
      let g = items_run (single u n r) p c in
      (g.0, g.1, start_spelled u p c ∙ g.2 ∙ backward_between s t h g.0 _)
  backward_run (range u v k r) s t h p c =
      let g = items_run (range u v k r) p c in
      (g.0, g.1, start_spelled u p c ∙ g.2 ∙ backward_between s t h g.0 _)

  pub empty_run : (rest : List ℕ) (p : ℕ) (c : ByteClass) → run (93 ∷ rest) p Start c ≡ refused_at EmptySet bracket
  unfolding run_set
  empty_run rest p c = refl
