use Rattle.std.proofs.Common.{◌≡◌, ◌≤◌, ◌+◌, length}
use Rattle.std.specs.HashMap.{hash_map_len}
use Rattle.bs_chip.specs.declared.index.TheConstants.{MAX_HASHES}
use Rattle.bs_chip.specs.Index.{IsPaid, NotesCycles, NotesFirsts}
use Rattle.bs_chip.proofs.index.grow.Given as goal

abbrev pub invariant-cycles : goal.invariant-cycles
invariant-cycles l = record {
  at : l.index.cycles ≡ l.at;
  notes : NotesCycles l.pass.circuit l.pass.runs l.index.first l.index.cycles;
  firsts : NotesFirsts l.pass.circuit l.pass.runs l.index.first;
  bound : hash_map_len l.index.first ≤ MAX_HASHES + length l.pass.runs;
  paid : IsPaid l.price l.initial.credit l.credit l.initial.index.cycles l.index.cycles;
}
