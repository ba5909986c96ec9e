use Rattle.std.proofs.Common.{◌≡◌, drop}
use Rattle.kinds.specs.Sets.{run_set}
use Rattle.kinds.proofs.set.read_items.Given as goal

-- what is left of the text gives, in this state, what the whole gives from the start
abbrev pub invariant-loop-place : goal.invariant-loop-place
invariant-loop-place g l =
    let m = g.M.SetMachine in
    run_set m.start m.turn m.others l.negated l.bracket (drop l.place l.text) l.place l.state
    ≡ run_set m.start m.turn m.others l.negated l.bracket (drop l.from l.text) l.from m.start
