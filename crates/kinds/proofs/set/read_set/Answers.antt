use Rattle.std.proofs.Common.{inl, inr, ◌∙◌}
use Rattle.kinds.proofs.Sets.{behind_bracket}
use Rattle.kinds.proofs.set.read_set.Goals as goal

pub returns-else-inside-text : goal.returns-else-inside-text
returns-else-inside-text g c =
    let m = g.M.SetMachine in
    c.read_items-else-inside-text.ensures
    ∙ behind_bracket m.start m.turn m.others _ _
    (elim c.else-inside-text.branch [
      | goal.else-inside-text-via-then-inside-text+else-text-inside-eq94 w ↦
          inr (w.if-inside-text.true, w.if-text-inside-eq94.false)
      | goal.else-inside-text-via-else-inside-text w ↦ inl w.if-inside-text.false
    ])
