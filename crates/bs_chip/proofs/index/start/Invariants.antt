use Rattle.std.proofs.Common.{◌≤◌, take}
use Rattle.std.specs.Prelude.{All}
use Rattle.bs_chip.specs.Index.{HasNoneBefore, IsNoted}
use Rattle.bs_chip.specs.Hashes.{hash_of}
use Rattle.bs_chip.proofs.index.start.Given as goal

abbrev pub invariant-states : goal.invariant-states
invariant-states g l = record {
  within : l.from ≤ l.index.cycles;
  before : All (λ listed. HasNoneBefore l.index.first l.from (hash_of (g.S.HasState.shown listed))) (take l.i l.list);
  noted : IsNoted l.index.first l.index.cycles l.from (λ listed. hash_of (g.S.HasState.shown listed)) (take l.i l.list);
}
