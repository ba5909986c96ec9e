use Rattle.std.proofs.Common.{ap, ◌∙◌, arith}
use Rattle.rounds.specs.Class.{with_round}
use Rattle.rounds.proofs.class.RoundClass.with_round.Goals as goal

pub returns : goal.returns
returns c = ap (λ s. record { rounds = s }) c.with.ensures ∙ ap (λ n. with_round c.args.self n) (omega (arith, c.from-added.ensures.0))
