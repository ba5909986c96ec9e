use Rattle.std.proofs.Common.{rules, ap, length, ◌≡◌, sym, ◌∙◌}
use Rattle.stack.specs.Stacked.{count, stacked}
use Rattle.stack.proofs.Held.{length-held}
use Rattle.reader.proofs.writer.Writer.open_group.Goals as goal

pub returns-in_err-map_err-clause-opened : goal.returns-in_err-map_err-clause-opened
returns-in_err-map_err-clause-opened g c =
    let s = c.start_piece.new.self.groups.now in
    let long : length (stacked s) ≡ count s = length-held _ _ s.fits in
    let same : stacked s ≡ stacked c.args.self.now.groups.now = ap (λ d. d.groups) c.start_piece.ensures.started in
    let some : count s ≡ c.len.result = sym long ∙ ap length same ∙ sym c.len.ensures.held in
    search rules
