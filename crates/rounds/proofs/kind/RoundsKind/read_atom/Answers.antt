use Rattle.std.proofs.Common.{sym, subst}
use Rattle.kinds.proofs.Language as language
use Rattle.rounds.specs.Language.{Written, Faulty, Exact, ReadAsWritten}
use Rattle.rounds.specs.Law.{read_as_written}
use Rattle.rounds.proofs.kind.RoundsKind.read_atom.Goals as goal

pub returns : goal.returns
returns c =
    let text = c.args.text.now in
    let place = c.args.place in
    let told = subst (ReadAsWritten text place) (sym c.atom_at.ensures) (read_as_written text place) in
    record {
      read = c.atom_at.ensures;
      language = told;
      alone = language.only_reading Written Faulty Exact text place c.atom_at.result told;
    }
