use Rattle.std.proofs.Common.{◌-◌, length}
use Rattle.prizes.proofs.explain.explained.Given as goal

abbrev pub decreases-loop-place : goal.decreases-loop-place
decreases-loop-place g l = length l.bytes - l.place
