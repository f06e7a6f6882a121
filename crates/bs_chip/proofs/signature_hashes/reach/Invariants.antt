use Rattle.std.proofs.Common.{◌≡◌, length}
use Rattle.bs_chip.specs.Lockstep.{IsSamePass}
use Rattle.bs_chip.specs.SignatureHashes.{recorded_by, AreSignatureHashes}
use Rattle.bs_chip.proofs.signature_hashes.reach.Given as goal

abbrev pub invariant-cycles : goal.invariant-cycles
invariant-cycles l = record {
  same : IsSamePass l.fn.pass l.pass;
  items : length l.items.items ≡ length l.fn.items.items;
  signature_hashed : AreSignatureHashes (recorded_by l.fn.pass l.choice) l.pass l.signature_hashes;
  count : length l.signature_hashes ≡ l.counter;
}
