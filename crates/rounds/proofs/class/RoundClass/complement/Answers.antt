use Rattle.std.proofs.Common.{not, ap}
use Rattle.rounds.specs.Class.{has_round}
use Rattle.rounds.specs.Classes.{class_of-has}
use Rattle.rounds.proofs.class.RoundClass.complement.Goals as goal

pub returns : goal.returns
returns c =
    let e = c.others.ensures in
    record { value = ap (λ s. record { rounds = s }) e; members = λ n h. rw e (class_of-has (λ m. not (has_round c.args.self m)) n h) }
