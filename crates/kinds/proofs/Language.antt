use Rattle.std.proofs.Common.{◌≡◌, ℕ, ◌+◌, ◌<◌, ◌≤◌, Bool, ◌⊎◌, List, ◌∷◌, length, drop, Ok, Err, Result, sym, refl, ap, ◌∙◌, subst, inl, inr, arith}
use Rattle.std.proofs.lemmas.List.{length-drop}
use Rattle.kinds.specs.declared.Atom.{Atom}
use Rattle.kinds.specs.declared.Refused.{Refused}
use Rattle.kinds.specs.declared.Refusal.{Refusal}
use Rattle.kinds.specs.Refusals.{number_of}
use Rattle.kinds.specs.Atoms.{refused_at, Within}
use Rattle.kinds.specs.Language.{Leads, caret, straight, AtomAt, FaultAt, ReadAsWritten, OnlyReading}

pub leads_shorter : {text rest : List ℕ} {negated : Bool} → Leads text negated rest → length rest ≤ length text
leads_shorter caret = omega arith
leads_shorter (straight n) = omega arith

same_atom : {C : Type 0} (a d : Atom C) → a.class ≡ d.class → a.length ≡ d.length → a ≡ d
same_atom {C} a d e f =
    let whole : ◌≡◌ {A = Atom C} (record { class = a.class; length = a.length }) (record { class = d.class; length = d.length }) = cc in
    whole

same_refused : (f : Refused) (place : ℕ) → f.place ≡ place → f ≡ record { refusal = f.refusal; place = place }
same_refused f place e =
    let whole : ◌≡◌ {A = Refused} (record { refusal = f.refusal; place = f.place }) (record { refusal = f.refusal; place = place }) = cc in
    whole

-- A language has one answer at every place: two readings that are both what it says are equal.
module _ {Shape C : Type 0} (Written : List ℕ → Shape → List ℕ → Type 0) (Faulty : List ℕ → Refusal → List ℕ → Type 0)
    (Exact : Shape → C → Type 0) where
  pub only_reading : (text : List ℕ) (i : ℕ) (r : Result (Atom C) Refused) → ReadAsWritten Written Faulty Exact text i r
      → OnlyReading Written Faulty Exact text i r
  only_reading text i r w (Ok a) v = sym ((w.accepted a).1 ((v.accepted a).0 refl))
  only_reading text i r w (Err f) v = sym ((w.refused f).1 ((v.refused f).0 refl))

-- A fault is one of the five of atoms, and its place lies in the text.
pub record Inside (text : List ℕ) (why : Refusal) (here : List ℕ) : Type 0 where
  pub low : 3 ≤ number_of why
  pub high : number_of why ≤ 7
  pub some : 0 < length text → 0 < length here
  pub part : length here ≤ length text

pub at_start : (b : ℕ) (rest : List ℕ) (why : Refusal) → 3 ≤ number_of why → number_of why ≤ 7 → Inside (b ∷ rest) why (b ∷ rest)
at_start b rest why l h = record { low = l; high = h; some = λ z. z; part = omega arith }

-- A kind's language, and the reading from what is left of a text and its place.
module _ {Shape C : Type 0} (Written : List ℕ → Shape → List ℕ → Type 0) (Faulty : List ℕ → Refusal → List ℕ → Type 0)
    (Exact : Shape → C → Type 0) (from : List ℕ → ℕ → Result (Atom C) Refused) where
  -- An atom that is written is read.
  pub record ReadOk (text rest : List ℕ) (shape : Shape) (i : ℕ) : Type 0 where
    pub atom : Atom C
    pub is : from text i ≡ Ok atom
    pub long : atom.length + length rest ≡ length text
    pub exact : Exact shape atom.class

  -- A fault is refused.
  pub record ReadErr (text here : List ℕ) (why : Refusal) (i : ℕ) : Type 0 where
    pub place : ℕ
    pub is : from text i ≡ refused_at why place
    pub placed : place + length here ≡ i + length text

  -- What a text begins with.
  abbrev pub Outcome : List ℕ → Type 0
  Outcome text = ((shape : Shape) × (rest : List ℕ) × Written text shape rest) ⊎ ((why : Refusal) × (here : List ℕ) × Faulty text why here)

  -- If both hold, and every text begins with an atom or has a fault, the reading is what the language says.
  module _ (one : (shape : Shape) (c d : C) → Exact shape c → Exact shape d → c ≡ d)
      (written_is_read : (text rest : List ℕ) (shape : Shape) → Written text shape rest → (i : ℕ) → ReadOk text rest shape i)
      (faulty_read : (text here : List ℕ) (why : Refusal) → Faulty text why here → (i : ℕ) → ReadErr text here why i)
      (outcome : (text : List ℕ) → Outcome text) where
    module _ (text : List ℕ) (i : ℕ) where
      abbrev Atoms : Atom C → Type 0
      Atoms a = AtomAt Written Faulty Exact text i a

      abbrev Faults : Refused → Type 0
      Faults f = FaultAt Written Faulty Exact text i f

      abbrev read : Result (Atom C) Refused
      read = from (drop i text) i

      atom_read : (a : Atom C) → Atoms a → read ≡ Ok a
      atom_read a w =
          let o = written_is_read (drop i text) w.rest w.shape w.written i in
          let n : o.atom.length ≡ a.length = let l = o.long in let m = w.long in omega arith in
          let c = one w.shape o.atom.class a.class o.exact w.exact in
          o.is ∙ ap Ok (same_atom o.atom a c n)

      fault_read : (f : Refused) → Faults f → read ≡ Err f
      fault_read f w =
          let o = faulty_read (drop i text) w.here f.refusal w.faulty i in
          let n : f.place ≡ o.place = let l = o.placed in let m = w.placed in omega arith in
          o.is ∙ ap Err (sym (same_refused f o.place n))

      -- Whatever the reading is, the language has it.
      abbrev pub Told : Type 0
      Told = ((a : Atom C) × Atoms a × (read ≡ Ok a)) ⊎ ((f : Refused) × Faults f × (read ≡ Err f))

      pub told : Told
      told = go (outcome (drop i text))
        where
          go : Outcome (drop i text) → Told
          go (inl (shape, rest, w)) =
              let o = written_is_read (drop i text) rest shape w i in
              inl (o.atom, record { shape = shape; rest = rest; written = w; long = o.long; exact = o.exact }, o.is)
          go (inr (why, here, w)) =
              let o = faulty_read (drop i text) here why w i in
              inr (record { refusal = why; place = o.place }, record { here = here; faulty = w; placed = o.placed }, o.is)

      atom_told : (a : Atom C) → read ≡ Ok a → Told → Atoms a
      atom_told a e (inl (d, w, f)) = let g : d ≡ a = cc in subst Atoms g w
      atom_told a e (inr (d, w, f)) = let z : ◌≡◌ {A = ℕ} 0 1 = cc in absurd (omega arith)

      fault_told : (f : Refused) → read ≡ Err f → Told → Faults f
      fault_told f e (inl (d, w, g)) = let z : ◌≡◌ {A = ℕ} 0 1 = cc in absurd (omega arith)
      fault_told f e (inr (d, w, g)) = let h : d ≡ f = cc in subst Faults h w

      pub read_as_written : ReadAsWritten Written Faulty Exact text i read
      read_as_written =
          record {
            accepted = λ a. (λ e. atom_told a e told, atom_read a);
            refused = λ f. (λ e. fault_told f e told, fault_read f);
          }

    -- Such a reading is what the trait of a kind asks for, if atoms take up text and faults lie in it.
    pub read_within : ((text rest : List ℕ) (shape : Shape) → Written text shape rest → length rest < length text)
        → ((text here : List ℕ) (why : Refusal) → Faulty text why here → Inside text why here)
        → (text : List ℕ) (i : ℕ) → i < length text → Within text i (from (drop i text) i)
    read_within shorter inside text i h = go (told text i)
      where
        go : Told text i → Within text i (from (drop i text) i)
        go (inl (a, w, e)) =
            let n = length-drop i text in
            let s = shorter (drop i text) w.rest w.shape w.written in
            let l = w.long in
            rw e (omega arith, omega arith)
        go (inr (f, w, e)) =
            let n = length-drop i text in
            let s = inside (drop i text) w.here f.refusal w.faulty in
            let l = w.placed in
            let z = s.some (omega arith) in
            rw e (s.low, s.high, omega arith, omega arith)
