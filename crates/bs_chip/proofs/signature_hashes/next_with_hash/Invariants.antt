use Rattle.std.proofs.Common.{◌≤◌}
use Rattle.bs_chip.specs.SignatureHashes.{NoneWithHash}
use Rattle.bs_chip.proofs.signature_hashes.next_with_hash.Given as goal

abbrev pub invariant-runs : goal.invariant-runs
invariant-runs l = record {
  from_on : l.from ≤ l.lane;
  none : NoneWithHash l.pass.runs l.signature_hashes l.cycle l.hash l.from l.lane;
}
