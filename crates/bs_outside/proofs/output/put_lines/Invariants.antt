use Rattle.std.proofs.Common.{length, ◌-◌, ◌≤◌}
use Rattle.bs_outside.proofs.Putting.{HasPut, HasPutLines}
use Rattle.bs_outside.proofs.output.put_lines.Given as goal

abbrev pub invariant-loop-at : goal.invariant-loop-at
invariant-loop-at g l =
    HasPut l.text (g.K.Sink.written l.initial.out) (g.K.Sink.written l.out) (g.K.Sink.faults l.initial.out)
    (g.K.Sink.faults l.out) l.at × HasPutLines g.K.Sink.leads l.text l.initial.out l.out l.at l.done × (l.done ≤ l.at)

abbrev pub decreases-loop-at : goal.decreases-loop-at
decreases-loop-at g l = length l.text - l.at
