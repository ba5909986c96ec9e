use Rattle.std.proofs.Common.{◌≡◌, ◌+◌, ◌-◌, ◌<◌, length, sym, refl, ap, ◌∙◌, arith}
use Rattle.stack.specs.Lent.{held}
use Rattle.stack.proofs.Held.{held_more, held_none}
use Rattle.stack.proofs.Stack.pop.Goals as goal

pub returns-else-self-eq0-clause-popped : goal.returns-else-self-eq0-clause-popped
returns-else-self-eq0-clause-popped g c =
    let n = c.args.self.now.used in
    let e : n - 1 + 1 ≡ n = omega arith in
    let h : n - 1 < length c.args.self.now.slots.now = omega (arith, c.args.self.now.fits) in
    (e, ap (λ m. held c.args.self.now.slots.now m) (sym e) ∙ held_more _ _ _ h)

pub returns-then-self-eq0-clause-popped : goal.returns-then-self-eq0-clause-popped
returns-then-self-eq0-clause-popped g c =
    let e = c.if-self-eq0.true in (e, ap (λ m. held c.args.self.now.slots.now m) e ∙ held_none _, refl)
