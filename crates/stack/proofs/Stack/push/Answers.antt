use Rattle.stack.proofs.Held.{held_push}
use Rattle.stack.proofs.Stack.push.Goals as goal

pub returns-then-self-clause-pushed : goal.returns-then-self-clause-pushed
returns-then-self-clause-pushed g c = held_push _ _ _ c.if-self.true
