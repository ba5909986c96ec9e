use Rattle.std.proofs.Common.{ap, ◌∙◌, true}
use Rattle.stack.specs.Lent.{held}
use Rattle.stack.proofs.Held.{held_none}
use Rattle.reader.specs.Desk.{desk}
use Rattle.reader.proofs.reading.read_text.Goals as goal

pub read_tokens-requires-clause-start : goal.read_tokens-requires-clause-start
read_tokens-requires-clause-start g c =
    ap (λ gs. desk c.args.nodes.now c.args.classes.now gs (record { nodes = 0; positions = 0; choice = 0; sequence = 0; wanting = true }))
    (ap (held _) c.requires.empty ∙ held_none _)
