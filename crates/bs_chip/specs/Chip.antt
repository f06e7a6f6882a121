-- What a chip keeps.
use Rattle.std.specs.Prelude.{◌≡◌, ℕ, ◌≤◌, ◌+◌, List, length}
use Rattle.std.specs.HashMap.{hash_map_len}
use Rattle.bs_scan.specs.Choice.{Chosen}
use Rattle.bs_scan.specs.Crash.{Recording, IsRecording}
use Rattle.bs_chip.specs.declared.index.Index.{Index}
use Rattle.bs_chip.specs.declared.index.TheConstants.{MAX_HASHES}
use Rattle.bs_chip.specs.Index.{NotesCycles, NotesFirsts}
use Rattle.bs_chip.specs.Lockstep.{Passing, TrackShows}

-- a recording, what its signature is taken of, a pass over its runs, the planes of the first cycles, and an index of the states at
-- some of them, within its bound
pub record IsChip (r : Recording) (choice : Chosen) (p : Passing) (track : List (List ℕ)) (index : Index) : Type 0 where
  pub recording : IsRecording r
  pub choice_is : choice ≡ r.choice
  pub circuit : p.circuit ≡ r.circuit
  pub runs : p.runs ≡ r.runs
  pub shows : TrackShows r.circuit r.runs track
  pub notes : NotesCycles r.circuit r.runs index.first index.cycles
  pub firsts : NotesFirsts r.circuit r.runs index.first
  pub bound : hash_map_len index.first ≤ MAX_HASHES + length r.runs
