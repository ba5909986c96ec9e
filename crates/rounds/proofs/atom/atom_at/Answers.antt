use Rattle.std.proofs.Common.{◌≡◌, Some, None, Ok, Err, sym, ap, ◌∙◌, arith}
use Rattle.std.proofs.lemmas.Result.{err_from_is_err_and}
use Rattle.rounds.specs.Runs.{reading_at, reading_end, reading_letter}
use Rattle.rounds.proofs.atom.atom_at.Goals as goal

pub returns-then-place-text : goal.returns-then-place-text
returns-then-place-text c = ap Err c.at.ensures ∙ sym (reading_end _ _ c.if-place-text.true)

pub returns-in-46 : goal.returns-in-46
returns-in-46 c =
    ap (λ d. Ok (record { class = d; length = 1 })) c.full.ensures
    ∙ sym (reading_at _ _ 46 c.if-place-text.false c.in-46.is)

pub returns-in-91 : goal.returns-in-91
returns-in-91 c = c.read_set.ensures ∙ sym (reading_at _ _ 91 c.if-place-text.false c.in-91.is)

pub returns-in_err-outcome-in_default : goal.returns-in_err-outcome-in_default
returns-in_err-outcome-in_default c =
    let p = err_from_is_err_and c.from_residual.result c.from_residual.ensures.1 in
    let was = c.in_err-outcome-in_default.was in
    let told = c.in_err-outcome-in_default.ensures in
    let o : c.outcome_of_letter.result ≡ None = grind arith in
    let e : p.0 ≡ c.at-in_default.result = grind arith in
    p.1 ∙ ap Err (e ∙ c.at-in_default.ensures)
    ∙ sym (reading_letter c.args.text.now c.args.place None c.if-place-text.false (λ e. omega arith) (λ e. omega arith) (sym c.outcome_of_letter.ensures ∙ o))

pub returns-in_ok-outcome-in_default : goal.returns-in_ok-outcome-in_default
returns-in_ok-outcome-in_default c =
    let outcome = c.in_ok-outcome-in_default.outcome in
    let was = c.in_ok-outcome-in_default.was in
    let told = c.in_ok-outcome-in_default.ensures in
    let o : c.outcome_of_letter.result ≡ Some outcome = grind arith in
    ap (λ a. Ok a) c.read_unit.ensures
    ∙ sym (reading_letter c.args.text.now c.args.place (Some outcome) c.if-place-text.false (λ e. omega arith) (λ e. omega arith) (sym c.outcome_of_letter.ensures ∙ o))
