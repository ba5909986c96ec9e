use Rattle.std.specs.Prelude.{◌≡◌, ℕ, ◌<◌, ◌≤◌, List, length, slice_index}
use Rattle.std.proofs.Common.{sym, ◌∙◌, arith}
use Rattle.kinds.specs.declared.Refusal.{Refusal}
use Rattle.kinds.specs.declared.Refusal.TheVariants.{NoAtom, UnfinishedSet, EmptySet}
use Rattle.kinds.specs.Atoms.{Operator, Within, no_atom_at}
use Rattle.kinds.proofs.Language as language
use Rattle.kinds.proofs.Language.{leads_shorter, Inside, at_start}
use Rattle.rounds.specs.declared.symbol.RoundUnit.{RoundUnit}
use Rattle.rounds.specs.declared.class.RoundClass.{RoundClass}
use Rattle.rounds.specs.Reading.{atom_from, round_reading}
use Rattle.rounds.specs.Language.{Spelled, narrowed, whole, Units, none, more, Shape, Written, dot, unit, set, Faulty, ended, no_atom, no_unit, cut_set, no_units, Exact, ReadAsWritten}
use Rattle.rounds.specs.Classes.{class_same}
use Rattle.rounds.specs.Complete.{accepted, refused}
use Rattle.rounds.specs.Runs.{reading_none}
use Rattle.rounds.specs.Total.{begins}

-- The reading is what the language says.

one_class : (shape : Shape) (c d : RoundClass) → Exact shape c → Exact shape d → c ≡ d
one_class shape c d v w = class_same c d v.nine w.nine (λ n h. v.members n h ∙ sym (w.members n h))

pub read_as_written : (text : List ℕ) (i : ℕ) → ReadAsWritten text i (round_reading text i)
unfolding round_reading
read_as_written text i = language.read_as_written Written Faulty Exact atom_from one_class accepted refused begins text i

-- What every kind's reading is like.

spelled_shorter : {text rest : List ℕ} {u : RoundUnit} → Spelled text u rest → length rest < length text
spelled_shorter (narrowed l m) = omega arith
spelled_shorter (whole l n) = omega arith

units_shorter : {text rest : List ℕ} {us : List RoundUnit} → Units text us rest → length rest ≤ length text
units_shorter none = omega arith
units_shorter (more s us) = let a = spelled_shorter s in let b = units_shorter us in omega arith

written_shorter : (text rest : List ℕ) (shape : Shape) → Written text shape rest → length rest < length text
written_shorter text rest shape dot = omega arith
written_shorter text rest shape (unit s) = spelled_shorter s
written_shorter text rest shape (set l us) = let a = leads_shorter l in let b = units_shorter us in omega arith

faulty_inside : (text here : List ℕ) (why : Refusal) → Faulty text why here → Inside text why here
faulty_inside text here why ended = record { low = omega arith; high = omega arith; some = λ z. z; part = omega arith }
faulty_inside text here why (no_atom {b = b} {rest = rest} n) = at_start b rest NoAtom (omega arith) (omega arith)
faulty_inside text here why (no_unit l us n k) =
    let a = leads_shorter l in
    let b = units_shorter us in
    record { low = omega arith; high = omega arith; some = λ z. omega arith; part = omega arith }
faulty_inside text here why (cut_set {inside = inside} l us) = at_start 91 inside UnfinishedSet (omega arith) (omega arith)
faulty_inside text here why (no_units {inside = inside} l) = at_start 91 inside EmptySet (omega arith) (omega arith)

pub reading_within : (text : List ℕ) (i : ℕ) → i < length text → Within text i (round_reading text i)
unfolding round_reading
reading_within text i h =
    language.read_within Written Faulty Exact atom_from one_class accepted refused begins written_shorter faulty_inside text i h

pub reading_operator : (text : List ℕ) (i : ℕ) → i < length text → Operator (slice_index text i) → round_reading text i ≡ no_atom_at i
reading_operator text i h op =
    reading_none text i h (λ e. grind arith) (λ e. grind arith) (λ e. grind arith) (λ e. grind arith) (λ e. grind arith)
