use Rattle.std.proofs.Common.{true, ap, rules}
use Rattle.rounds.proofs.class.RoundClass.full.Goals as goal

pub returns : goal.returns
returns c = ap (λ s. record { rounds = s }) (c.gathered.ensures.whole (λ n. true) (λ n r l k. search rules))
