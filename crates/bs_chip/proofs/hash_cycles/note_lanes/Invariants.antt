use Rattle.std.proofs.Common.{◌≤◌, ◌+◌, length}
use Rattle.std.specs.HashMap.{hash_map_len}
use Rattle.bs_stim.specs.Runs.{inputs_of}
use Rattle.bs_chip.specs.Index.{AddsLanes, Keeps, NotesLanes}
use Rattle.bs_chip.proofs.hash_cycles.note_lanes.Given as goal

abbrev pub invariant-lanes : goal.invariant-lanes
invariant-lanes l = record {
  keeps : Keeps l.initial.first l.first;
  notes : NotesLanes (inputs_of l.runs) l.first l.planes l.width l.cycle l.lane;
  adds : AddsLanes (inputs_of l.runs) l.initial.first l.first l.planes l.width l.cycle l.lane;
  few : hash_map_len l.first ≤ hash_map_len l.initial.first + l.lane;
  within : l.lane ≤ length (inputs_of l.runs);
}
