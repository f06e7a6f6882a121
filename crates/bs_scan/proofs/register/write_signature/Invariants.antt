use Rattle.std.proofs.Common.{◌≡◌, ℕ, ◌<◌, false, get_or, length}
use Rattle.bs_scan.specs.Signature.{signature}
use Rattle.bs_scan.proofs.register.write_signature.Given as goal

abbrev pub invariant-items : goal.invariant-items
invariant-items l = record {
  room : length l.bits ≡ length l.choice.items;
  written : (k : ℕ) → k < l.i → get_or l.bits k false ≡ get_or (signature l.choice l.state) k false;
}
