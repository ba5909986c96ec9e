use Rattle.std.proofs.Common.{Err, sym, ap, ◌∙◌, arith}
use Rattle.byte_kind.specs.Class.{others}
use Rattle.byte_kind.specs.Law.{reading_beyond}
use Rattle.byte_kind.proofs.Runs.{at_dot, at_escape, at_set, at_operator, at_ordinary}
use Rattle.byte_kind.proofs.kind.read_here.Goals as goal

pub returns-then-place-text : goal.returns-then-place-text
returns-then-place-text c = ap Err c.at.ensures ∙ sym (reading_beyond _ _ c.if-place-text.true)

pub returns-in-46 : goal.returns-in-46
returns-in-46 c =
    at_dot _ _ c.if-place-text.false _ c.in-46.is (c.complement.ensures.value ∙ ap others c.only.ensures)

pub returns-in-92 : goal.returns-in-92
returns-in-92 c = c.read_escape.ensures ∙ at_escape _ _ c.if-place-text.false c.in-92.is

pub returns-in-91 : goal.returns-in-91
returns-in-91 c = c.read_set.ensures ∙ at_set _ _ c.if-place-text.false c.in-91.is

pub returns-in_default : goal.returns-in_default
returns-in_default c =
    ap Err c.at-in_default.ensures
    ∙ at_operator _ _ c.if-place-text.false (λ e. omega arith) (λ e. omega arith) (λ e. omega arith)
    (sym c.if-is_operator.ensures.value)

pub returns-in_default-2 : goal.returns-in_default-2
returns-in_default-2 c =
    at_ordinary _ _ c.if-place-text.false (λ e. omega arith) (λ e. omega arith) (λ e. omega arith) _
    (sym c.if-is_operator.ensures.value) c.only-in_default-2.ensures
