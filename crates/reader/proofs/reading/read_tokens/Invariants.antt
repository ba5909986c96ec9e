use Rattle.std.proofs.Common.{◌-◌, length}
use Rattle.reader.specs.Desk.{desk_of, SameMemory}
use Rattle.reader.proofs.Reached.{Reached}
use Rattle.reader.proofs.reading.read_tokens.Given as goal

abbrev pub invariant-loop-place : goal.invariant-loop-place
invariant-loop-place g l =
    SameMemory l.writer l.initial.writer
    × Reached g.K.Kind.reading l.text l.place (desk_of l.writer)

abbrev pub decreases-loop-place : goal.decreases-loop-place
decreases-loop-place g l = length l.text - l.place
