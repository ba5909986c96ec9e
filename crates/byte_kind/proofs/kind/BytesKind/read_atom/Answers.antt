use Rattle.std.proofs.Common.{sym, subst}
use Rattle.kinds.proofs.Language as language
use Rattle.byte_kind.specs.Language.{Written, Faulty, Exact, ReadAsWritten}
use Rattle.byte_kind.specs.Law.{read_as_written}
use Rattle.byte_kind.proofs.kind.BytesKind.read_atom.Goals as goal

pub returns : goal.returns
returns c =
    let text = c.args.text.now in
    let place = c.args.place in
    let told = subst (ReadAsWritten text place) (sym c.read_here.ensures) (read_as_written text place) in
    record {
      read = c.read_here.ensures;
      language = told;
      alone = language.only_reading Written Faulty Exact text place c.read_here.result told;
    }
