use Rattle.std.specs.Prelude.{◌≡◌, ℕ, ◌+◌, ◌-◌, ◌<◌, ◌≤◌, Bool, true, false, not, ◌||◌, List, [], ◌∷◌, length, Ok, Result, ◌≢◌, Some, None}
use Rattle.std.proofs.Math.Path.{refl, ap}
use Rattle.std.proofs.Common.{sym, ◌∙◌, subst, arith}
use Rattle.std.proofs.lemmas.Bool.{ne_eqb}
use Rattle.sets.proofs.Bools.{or_false, or_swap}
use Rattle.kinds.specs.declared.Atom.{Atom}
use Rattle.kinds.specs.declared.Refused.{Refused}
use Rattle.kinds.specs.declared.Refusal.{Refusal}
use Rattle.kinds.specs.declared.Refusal.TheVariants.{NoAtom, UnfinishedSet, EmptySet}
use Rattle.kinds.specs.Atoms.{refused_at, no_atom_at}
use Rattle.kinds.specs.Language.{Leads}
use Rattle.kinds.proofs.Language as language
use Rattle.kinds.proofs.Language.{leads_shorter}
use Rattle.rounds.specs.declared.symbol.Side.{Side}
use Rattle.rounds.specs.declared.symbol.Side.TheVariants.{White, Black, Unplayed}
use Rattle.rounds.specs.declared.symbol.Outcome.{Outcome}
use Rattle.rounds.specs.declared.symbol.Outcome.TheVariants.{Win, Draw, Loss}
use Rattle.rounds.specs.declared.symbol.RoundUnit.{RoundUnit}
use Rattle.rounds.specs.declared.class.RoundClass.{RoundClass}
use Rattle.rounds.specs.declared.set.SetState.{SetState}
use Rattle.rounds.specs.declared.set.SetState.TheVariants.{Start, Between, Letter as LetterState}
use Rattle.rounds.specs.Symbols.{on_any_side, on_side, in_unit}
use Rattle.rounds.specs.Class.{has_round, with_unit, others, empty_class, full_class, Nine}
use Rattle.kinds.specs.Sets.{whole_class, run_set}
use Rattle.kinds.proofs.Sets.{leads_run}
use Rattle.rounds.specs.Reading.{outcome_of_letter, side_of_letter, none_so_far, turn_of, set_from, unit_atom, unit_from, atom_from}
use Rattle.rounds.specs.Language.{Letter, win, draw, loss, Narrowing, white, black, unplayed, NoLetter, NoNarrowing, Spelled, narrowed, whole, Units, none, more, Shape, only, in_units, admitted_by, set_shape, Written, dot, unit, set, Faulty, ended, no_atom, no_unit, cut_set, no_units, Exact}
use Rattle.rounds.specs.Classes.{class_of-nine, class_of-has, empty-nine, empty-has}
use Rattle.rounds.specs.Runs.{atom_none}

-- The reading follows the language: what is written is read so, and each fault is refused as it is.

-- A class with several units added in turn.
abbrev with_units : RoundClass → List RoundUnit → RoundClass
with_units c [] = c
with_units c (u ∷ us) = with_units (with_unit c u) us

units_has : (us : List RoundUnit) (c : RoundClass) (n : ℕ) → n < 9 → has_round (with_units c us) n ≡ (in_units us n || has_round c n)
units_has [] c n h = refl
units_has (u ∷ us) c n h =
    units_has us (with_unit c u) n h
    ∙ ap (λ t. in_units us n || t) (class_of-has (λ m. in_unit u m || has_round c m) n h)
    ∙ or_swap (in_units us n) (in_unit u n) (has_round c n)

units_nine : (us : List RoundUnit) (c : RoundClass) → Nine c → Nine (with_units c us)
units_nine [] c h = h
units_nine (u ∷ us) c h = units_nine us (with_unit c u) (class_of-nine (λ n. in_unit u n || has_round c n))

from_empty : (us : List RoundUnit) (n : ℕ) → n < 9 → has_round (with_units empty_class us) n ≡ in_units us n
from_empty us n h = units_has us empty_class n h ∙ ap (λ t. in_units us n || t) (empty-has n) ∙ or_false (in_units us n)

whole_set_nine : (negated : Bool) (us : List RoundUnit) → Nine (whole_class others negated (with_units empty_class us))
whole_set_nine true us = class_of-nine (λ n. not (has_round (with_units empty_class us) n))
whole_set_nine false us = units_nine us empty_class empty-nine

whole_set_has : (negated : Bool) (us : List RoundUnit) (n : ℕ) → n < 9
    → has_round (whole_class others negated (with_units empty_class us)) n ≡ admitted_by (set_shape negated us) n
whole_set_has true us n h =
    class_of-has (λ m. not (has_round (with_units empty_class us) m)) n h ∙ ap not (from_empty us n h)
whole_set_has false us n h = from_empty us n h

-- A byte that is none of the letters.
not_white : {b : ℕ} → ((s : Side) → Narrowing b s → ⊥) → b ≢ 119
not_white ne e = ne White (subst (λ m. Narrowing m White) (sym e) white)

not_black : {b : ℕ} → ((s : Side) → Narrowing b s → ⊥) → b ≢ 98
not_black ne e = ne Black (subst (λ m. Narrowing m Black) (sym e) black)

not_unplayed : {b : ℕ} → ((s : Side) → Narrowing b s → ⊥) → b ≢ 117
not_unplayed ne e = ne Unplayed (subst (λ m. Narrowing m Unplayed) (sym e) unplayed)

not_win : {b : ℕ} → NoLetter b → b ≢ 87
not_win ne e = ne Win (subst (λ m. Letter m Win) (sym e) win)

not_draw : {b : ℕ} → NoLetter b → b ≢ 68
not_draw ne e = ne Draw (subst (λ m. Letter m Draw) (sym e) draw)

not_loss : {b : ℕ} → NoLetter b → b ≢ 76
not_loss ne e = ne Loss (subst (λ m. Letter m Loss) (sym e) loss)

-- A byte that names nothing.
no_outcome : {b : ℕ} → NoLetter b → outcome_of_letter b ≡ None
no_outcome {b} ne = rw (ne_eqb b 87 (not_win ne), ne_eqb b 68 (not_draw ne), ne_eqb b 76 (not_loss ne))

no_side : {b : ℕ} → ((s : Side) → Narrowing b s → ⊥) → side_of_letter b ≡ None
no_side {b} ne = rw (ne_eqb b 119 (not_white ne), ne_eqb b 98 (not_black ne), ne_eqb b 117 (not_unplayed ne))

-- States in which a unit may begin that nothing stands before.
abbrev Fresh : SetState → Type 0
Fresh Start = Unit {0}
Fresh Between = Unit {0}
Fresh (LetterState o) = ⊥

module _ (negated : Bool) (bracket : ℕ) where
  abbrev run : List ℕ → ℕ → SetState → RoundClass → Result (Atom RoundClass) Refused
  run t place state c = run_set none_so_far turn_of others negated bracket t place (record { state = state; class = c })

  letter_run : {b : ℕ} {o : Outcome} → Letter b o → (rest : List ℕ) (place : ℕ) (state : SetState) (c : RoundClass) → Fresh state
      → run (b ∷ rest) place state c ≡ run rest (place + 1) (LetterState o) c
  unfolding run_set
  letter_run win rest place Start c f = refl
  letter_run draw rest place Start c f = refl
  letter_run loss rest place Start c f = refl
  letter_run win rest place Between c f = refl
  letter_run draw rest place Between c f = refl
  letter_run loss rest place Between c f = refl
  letter_run l rest place (LetterState o) c f = absurd f

  side_run : {b : ℕ} {s : Side} → Narrowing b s → (rest : List ℕ) (place : ℕ) (o : Outcome) (c : RoundClass)
      → run (b ∷ rest) place (LetterState o) c ≡ run rest (place + 1) Between (with_unit c (on_side o s))
  unfolding run_set
  side_run white rest place o c = refl
  side_run black rest place o c = refl
  side_run unplayed rest place o c = refl

  settled_run : (t : List ℕ) → NoNarrowing t → (place : ℕ) (o : Outcome) (c : RoundClass)
      → run t place (LetterState o) c ≡ run t place Between (with_unit c (on_any_side o))
  unfolding run_set
  settled_run [] ne place o c = refl
  settled_run (b ∷ rest) ne place o c = rw (no_side ne)

  -- The place behind what has been read, and the run from there.
  record Reaches (t : List ℕ) (place : ℕ) (state : SetState) (c : RoundClass) (rest : List ℕ) (d : RoundClass) : Type 0 where
    behind : ℕ
    onward : place ≤ behind
    length-kept : behind + length rest ≡ place + length t
    same_run : run t place state c ≡ run rest behind Between d

  unit_reaches : {t rest : List ℕ} {u : RoundUnit} → Spelled t u rest → (place : ℕ) (state : SetState) (c : RoundClass) → Fresh state
      → Reaches t place state c rest (with_unit c u)
  unit_reaches (narrowed {c = b} {outcome = o} {rest = rest} l m) place state c f =
      record {
        behind = place + 1 + 1;
        onward = omega arith;
        length-kept = omega arith;
        same_run = letter_run l (b ∷ rest) place state c f ∙ side_run m rest (place + 1) o c;
      }
  unit_reaches (whole {outcome = o} {rest = rest} l ne) place state c f =
      record {
        behind = place + 1;
        onward = omega arith;
        length-kept = omega arith;
        same_run = letter_run l rest place state c f ∙ settled_run rest ne (place + 1) o c;
      }

  and_then : {t mid rest : List ℕ} {place : ℕ} {state : SetState} {c d e : RoundClass} (first : Reaches t place state c mid d)
      → Reaches mid first.behind Between d rest e → Reaches t place state c rest e
  and_then first next =
      record {
        behind = next.behind;
        onward = omega arith;
        length-kept = omega arith;
        same_run = first.same_run ∙ next.same_run;
      }

  units_reach : {t rest : List ℕ} {us : List RoundUnit} → Units t us rest → (place : ℕ) (c : RoundClass)
      → Reaches t place Between c rest (with_units c us)
  units_reach none place c = record { behind = place; onward = omega arith; length-kept = refl; same_run = refl }
  units_reach (more {unit = u} s us) place c =
      let first = unit_reaches s place Between c tt in and_then first (units_reach us first.behind (with_unit c u))

  start_reaches : {t rest : List ℕ} {u : RoundUnit} {us : List RoundUnit} → Units t (u ∷ us) rest → (place : ℕ)
      → Reaches t place Start empty_class rest (with_units empty_class (u ∷ us))
  start_reaches (more {unit = u} s us) place =
      let first = unit_reaches s place Start empty_class tt in
      and_then first (units_reach us first.behind (with_unit empty_class u))

  close_run : (rest : List ℕ) (place : ℕ) (c : RoundClass)
      → run (93 ∷ rest) place Between c ≡ Ok (record { class = whole_class others negated c; length = place + 1 - bracket })
  unfolding run_set
  close_run rest place c = refl

  no_units_run : (rest : List ℕ) (place : ℕ) (c : RoundClass) → run (93 ∷ rest) place Start c ≡ refused_at EmptySet bracket
  unfolding run_set
  no_units_run rest place c = refl

  cut_run : (place : ℕ) (state : SetState) (c : RoundClass) → run [] place state c ≡ refused_at UnfinishedSet bracket
  unfolding run_set
  cut_run place state c = refl

  no_unit_run : {b : ℕ} (rest : List ℕ) (place : ℕ) (c : RoundClass) → NoLetter b → (b ≢ 93)
      → run (b ∷ rest) place Between c ≡ no_atom_at place
  unfolding run_set
  no_unit_run {b} rest place c ne k = rw (ne_eqb b 93 k) (rw (no_outcome ne))

  no_unit_start_run : {b : ℕ} (rest : List ℕ) (place : ℕ) (c : RoundClass) → NoLetter b → (b ≢ 93)
      → run (b ∷ rest) place Start c ≡ no_atom_at place
  unfolding run_set
  no_unit_start_run {b} rest place c ne k = rw (ne_eqb b 93 k) (rw (no_outcome ne))

-- Behind the `[`.
abbrev lead_run : {inside start : List ℕ} {negated : Bool} → Leads inside negated start → (i : ℕ)
    → (p : ℕ) × (p + length start ≡ i + 1 + length inside)
    × (set_from inside i ≡ run_set none_so_far turn_of others negated i start p none_so_far)
lead_run l i = leads_run none_so_far turn_of others l i

-- What is read where an atom is written.
abbrev Accepted : List ℕ → List ℕ → Shape → ℕ → Type 0
Accepted t rest shape i = language.ReadOk Written Faulty Exact atom_from t rest shape i

letter_atom : {b : ℕ} {o : Outcome} → Letter b o → (rest : List ℕ) (i : ℕ) → atom_from (b ∷ rest) i ≡ Ok (unit_from o rest)
letter_atom win rest i = refl
letter_atom draw rest i = refl
letter_atom loss rest i = refl

side_unit : {b : ℕ} {s : Side} → Narrowing b s → (rest : List ℕ) (o : Outcome) → unit_from o (b ∷ rest) ≡ unit_atom o (Some s)
side_unit white rest o = refl
side_unit black rest o = refl
side_unit unplayed rest o = refl

settled_unit : (t : List ℕ) → NoNarrowing t → (o : Outcome) → unit_from o t ≡ unit_atom o None
settled_unit [] ne o = refl
settled_unit (b ∷ rest) ne o = rw (no_side ne)

unit_exact : (u : RoundUnit) (n : ℕ) → n < 9 → has_round (with_unit empty_class u) n ≡ in_unit u n
unit_exact u n h =
    class_of-has (λ m. in_unit u m || has_round empty_class m) n h ∙ ap (λ t. in_unit u n || t) (empty-has n) ∙ or_false (in_unit u n)

unit_accepted : {t rest : List ℕ} {u : RoundUnit} → Spelled t u rest → (i : ℕ) → Accepted t rest (only u) i
unit_accepted (narrowed {c = b} {outcome = o} {side = s} {rest = rest} l m) i =
    record {
      atom = unit_atom o (Some s);
      is = letter_atom l (b ∷ rest) i ∙ ap (λ a. Ok a) (side_unit m rest o);
      long = omega arith;
      exact = record { nine = class_of-nine (λ n. in_unit (on_side o s) n || has_round empty_class n); members = unit_exact (on_side o s) };
    }
unit_accepted (whole {outcome = o} {rest = rest} l ne) i =
    record {
      atom = unit_atom o None;
      is = letter_atom l rest i ∙ ap (λ a. Ok a) (settled_unit rest ne o);
      long = omega arith;
      exact = record { nine = class_of-nine (λ n. in_unit (on_any_side o) n || has_round empty_class n); members = unit_exact (on_any_side o) };
    }

pub accepted : (t rest : List ℕ) (shape : Shape) → Written t shape rest → (i : ℕ) → Accepted t rest shape i
accepted t rest shape dot i =
    record {
      atom = record { class = full_class; length = 1 };
      is = refl;
      long = omega arith;
      exact = record { nine = class_of-nine (λ n. true); members = class_of-has (λ n. true) };
    }
accepted t rest shape (unit s) i = unit_accepted s i
accepted t rest shape (set {negated = negated} {u = u} {units = units} l us) i =
    let lead = lead_run l i in
    let all = start_reaches negated i us lead.0 in
    record {
      atom = record { class = whole_class others negated (with_units empty_class (u ∷ units)); length = all.behind + 1 - i };
      is = lead.2 ∙ all.same_run ∙ close_run negated i rest all.behind (with_units empty_class (u ∷ units));
      long = let a = leads_shorter l in omega arith;
      exact = record { nine = whole_set_nine negated (u ∷ units); members = whole_set_has negated (u ∷ units) };
    }

-- What is refused where there is a fault.
abbrev Turned : List ℕ → List ℕ → Refusal → ℕ → Type 0
Turned t here why i = language.ReadErr Written Faulty Exact atom_from t here why i

no_unit_refused : {inside start rest : List ℕ} {negated : Bool} {units : List RoundUnit} {b : ℕ} → Units start units (b ∷ rest)
    → Leads inside negated start → NoLetter b → (b ≢ 93) → (i : ℕ) → Turned (91 ∷ inside) (b ∷ rest) NoAtom i
no_unit_refused {rest = rest} {negated = negated} none l ne k i =
    let lead = lead_run l i in
    record {
      place = lead.0;
      is = lead.2 ∙ no_unit_start_run negated i rest lead.0 empty_class ne k;
      placed = omega arith;
    }
no_unit_refused {rest = rest} {negated = negated} (more {unit = u} {units = units} s us) l ne k i =
    let lead = lead_run l i in
    let all = start_reaches negated i (more s us) lead.0 in
    record {
      place = all.behind;
      is = lead.2 ∙ all.same_run ∙ no_unit_run negated i rest all.behind (with_units empty_class (u ∷ units)) ne k;
      placed = omega arith;
    }

cut_refused : {inside start : List ℕ} {negated : Bool} {units : List RoundUnit} → Units start units [] → Leads inside negated start → (i : ℕ)
    → Turned (91 ∷ inside) (91 ∷ inside) UnfinishedSet i
cut_refused {negated = negated} none l i =
    let lead = lead_run l i in
    record { place = i; is = lead.2 ∙ cut_run negated i lead.0 Start empty_class; placed = refl }
cut_refused {negated = negated} (more {unit = u} {units = units} s us) l i =
    let lead = lead_run l i in
    let all = start_reaches negated i (more s us) lead.0 in
    record {
      place = i;
      is = lead.2 ∙ all.same_run ∙ cut_run negated i all.behind Between (with_units empty_class (u ∷ units));
      placed = refl;
    }

pub refused : (t here : List ℕ) (why : Refusal) → Faulty t why here → (i : ℕ) → Turned t here why i
refused t here why ended i = record { place = i; is = refl; placed = refl }
refused t here why (no_atom {b = b} {rest = rest} ne) i =
    record {
      place = i;
      is =
          atom_none b i rest ne.no_dot ne.no_set (not_win ne.no_letter) (not_draw ne.no_letter)
          (not_loss ne.no_letter);
      placed = refl;
    }
refused t here why (no_unit l us ne k) i = no_unit_refused us l ne k i
refused t here why (cut_set l us) i = cut_refused us l i
refused t here why (no_units {rest = rest} {negated = negated} l) i =
    let lead = lead_run l i in
    record { place = i; is = lead.2 ∙ no_units_run negated i rest lead.0 empty_class; placed = refl }
