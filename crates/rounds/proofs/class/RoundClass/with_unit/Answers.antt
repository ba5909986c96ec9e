use Rattle.std.proofs.Common.{◌≡◌, ◌||◌, sym, ◌∙◌}
use Rattle.rounds.specs.Symbols.{in_unit}
use Rattle.rounds.specs.Class.{has_round, with_rounds}
use Rattle.rounds.specs.Classes.{class_of-has}
use Rattle.rounds.proofs.Units.{rounds_added}
use Rattle.rounds.proofs.class.RoundClass.with_unit.Goals as goal

pub returns-in-Some : goal.returns-in-Some
returns-in-Some c =
    let rounds : c.with_round.result ≡ with_rounds c.args.self c.args.unit.outcome c.args.unit.side = rw c.in-Some.is c.with_round.ensures in
    let value = rounds ∙ sym (rounds_added c.args.self c.args.unit.outcome c.args.unit.side) in
    record {
      value = value;
      rounds = rounds;
      members = λ n h. rw value (class_of-has (λ m. in_unit c.args.unit m || has_round c.args.self m) n h);
    }

pub returns-in-None : goal.returns-in-None
returns-in-None c =
    let rounds : c.with_round-in-None.result ≡ with_rounds c.args.self c.args.unit.outcome c.args.unit.side
    = rw c.in-None.is (rw (c.with_round-in-None.ensures, c.with_round-played.ensures, c.with_round-white.ensures)) in
    let value = rounds ∙ sym (rounds_added c.args.self c.args.unit.outcome c.args.unit.side) in
    record {
      value = value;
      rounds = rounds;
      members = λ n h. rw value (class_of-has (λ m. in_unit c.args.unit m || has_round c.args.self m) n h);
    }
