use Rattle.std.proofs.Common.{sym}
use Rattle.stack.proofs.Held.{length-held}
use Rattle.stack.proofs.Stack.len.Goals as goal

pub returns-clause-held : goal.returns-clause-held
returns-clause-held g c = let s = c.args.self.now in sym (length-held s.slots.now s.used s.fits)
