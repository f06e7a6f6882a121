use Rattle.std.proofs.Common.{◌≡◌, ◌≤◌, take}
use Rattle.std.specs.List.{count_by}
use Rattle.bs_note_calls.specs.Stops.{is_cut}
use Rattle.bs_note_calls.proofs.stop.count_cut.Given as goal

abbrev pub invariant-steps : goal.invariant-steps
invariant-steps l = record {
  count : l.count ≡ count_by is_cut (take l.step-index l.steps);
  small : l.count ≤ l.step-index;
}
