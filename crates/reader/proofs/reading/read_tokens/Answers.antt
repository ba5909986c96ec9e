use Rattle.std.proofs.Common.{◌≡◌, [], Err, sym, refl, ap, ◌∙◌, subst, rules}
use mathlib.Core.Option.{none}
use Rattle.std.proofs.lemmas.Result.{err_from_is_err_and}
use Rattle.reader.specs.Machine.{wanted}
use Rattle.reader.specs.Desk.{desk_of}
use Rattle.reader.specs.Writer.{EndsOn}
use Rattle.reader.proofs.Cuts.{cut_inside}
use Rattle.reader.proofs.Reached.{run_at, Reached, ok_before, err_before, same_memory_then, reached_start, reached_next, reached_refused, reached_stuck, reached_end, end_from}
use Rattle.reader.proofs.reading.read_tokens.Goals as goal

pub loop-place-init : goal.loop-place-init
loop-place-init g c =
    let w = c.args.writer.now in (
      record { nodes = record { at = refl; long = refl }; classes = record { at = refl; long = refl }; stack = refl; groups = record { at = refl; long = refl } },
      subst (Reached g.K.Kind.reading c.args.text.now 0) (sym c.requires.start) (reached_start g.K.Kind.reading c.args.text.now w.nodes.now w.classes.now),
    )

pub returns-in_err-cut-clause-read : goal.returns-in_err-cut-clause-read
returns-in_err-cut-clause-read g c =
    let p = err_from_is_err_and c.from_residual.result c.from_residual.ensures.1 in
    let w = c.in_err-cut.was in
    let e = reached_stuck g.K.Kind.reading c.args.text.now _ _ _ c.loop-place.invariant.1 c.loop-place-test.true (sym c.token_at.ensures ∙ w) in
    rw e (p.1 ∙ ap Err p.2)

pub returns-in_err-map_err-clause-read : goal.returns-in_err-map_err-clause-read
returns-in_err-map_err-clause-read g c =
    let i = c.loop-place.place in
    let h = c.loop-place-test.true in
    let w = c.in_ok-cut.was in
    let v = c.in_err-map_err.was in
    let e = sym c.token_at.ensures ∙ w in
    let f = err_before _ c.take_token.result c.map_err.result _ c.map_err.ensures.cases v in
    let t = subst (EndsOn _ (desk_of c.take_token.new.self)) f.1 c.take_token.ensures.taken in
    let s = cut_inside g.K.Kind.reading c.args.text.now i c.in_ok-cut.cut h (g.met.K.Kind.within c.args.text.now i h) e in
    let r = reached_refused g.K.Kind.reading c.args.text.now i _ c.in_ok-cut.cut f.0 c.loop-place.invariant.1 h e s t in
    let p = err_from_is_err_and c.from_residual-in_err-map_err.result c.from_residual-in_err-map_err.ensures.1 in
    let q = f.2 in
    let k : c.in_err-map_err.field-0.0 ≡ record { refusal = f.0; place = i } = search rules in
    rw r (p.1 ∙ ap Err (p.2 ∙ k))

pub loop-place-preserved : goal.loop-place-preserved
loop-place-preserved g c =
    let i = c.loop-place.place in
    let h = c.loop-place-test.true in
    let w = c.in_ok-cut.was in
    let v = c.in_ok-map_err.was in
    let e = sym c.token_at.ensures ∙ w in
    let f = ok_before _ c.take_token.result c.map_err.result _ c.map_err.ensures.cases v in
    let t = subst (EndsOn _ (desk_of c.take_token.new.self)) f c.take_token.ensures.taken in
    let s = cut_inside g.K.Kind.reading c.args.text.now i c.in_ok-cut.cut h (g.met.K.Kind.within c.args.text.now i h) e in (
      same_memory_then _ _ _ c.take_token.ensures.lent c.loop-place.invariant.0,
      reached_next g.K.Kind.reading c.args.text.now i _ _ c.in_ok-cut.cut c.loop-place.invariant.1 h e s t,
    )

pub returns-clause-read : goal.returns-clause-read
returns-clause-read g c =
    let text = c.args.text.now in
    let d = desk_of c.loop-place.writer in
    let e = reached_end g.K.Kind.reading text c.loop-place.place d c.loop-place.invariant.1 c.loop-place-test.false in
    let o = c.finish.ensures in
    rw o.classes (end_from (run_at g.K.Kind.reading text 0 [] none wanted) _ c.finish.result _ c.finish.new.self.nodes.now c.loop-place.writer.classes.now e o.result o.nodes)
