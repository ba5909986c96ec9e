use Rattle.std.proofs.Common.{◌+◌, ◌-◌, Ok, Err, sym, ap, ◌∙◌}
use Rattle.std.specs.declared.ops.ControlFlow.TheVariants.{Continue, Break}
use Rattle.std.proofs.lemmas.Result.{err_from_is_err_and}
use Rattle.kinds.proofs.Sets.{goes_on, run_end}
use Rattle.kinds.proofs.set.read_items.Goals as goal

pub returns-in_err-next : goal.returns-in_err-next
returns-in_err-next g c =
    let m = g.M.SetMachine in
    let p = err_from_is_err_and c.from_residual.result c.from_residual.ensures.1 in
    let was = c.in_err-next.was in
    p.1
    ∙ goes_on m.start m.turn m.others c.args.negated c.args.bracket c.args.text.now c.loop-place.place c.loop-place.state (Err p.0) _
    c.loop-place-test.true (ap Err p.2 ∙ sym was ∙ c.advance.ensures) c.loop-place.invariant

pub returns-in-Break : goal.returns-in-Break
returns-in-Break g c =
    let m = g.M.SetMachine in
    let was = c.in_ok-next.was in
    ap (λ d. Ok (record { class = d; length = c.loop-place.place + 1 - c.args.bracket }))
    (elim c.if-negated.branch [
      | goal.then-negated b ↦ b.result-is ∙ b.others.ensures ∙ rw b.if-negated.true
      | goal.else-negated b ↦ b.result-is ∙ rw b.if-negated.false
    ])
    ∙ goes_on m.start m.turn m.others c.args.negated c.args.bracket c.args.text.now c.loop-place.place c.loop-place.state (Ok (Break c.in-Break.items)) _
    c.loop-place-test.true (ap Ok (sym c.in-Break.is) ∙ sym was ∙ c.advance.ensures) c.loop-place.invariant

pub loop-place-preserved : goal.loop-place-preserved
loop-place-preserved g c =
    let m = g.M.SetMachine in
    let was = c.in_ok-next.was in
    goes_on m.start m.turn m.others c.args.negated c.args.bracket c.args.text.now c.loop-place.place c.loop-place.state (Ok (Continue c.in-Continue.next)) _
    c.loop-place-test.true (ap Ok (sym c.in-Continue.is) ∙ sym was ∙ c.advance.ensures) c.loop-place.invariant

pub returns : goal.returns
returns g c =
    let m = g.M.SetMachine in
    ap Err c.at.ensures ∙ sym (run_end m.start m.turn m.others c.args.negated c.args.bracket _ _ _ c.loop-place-test.false) ∙ c.loop-place.invariant
