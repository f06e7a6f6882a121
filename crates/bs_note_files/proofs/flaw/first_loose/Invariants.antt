use Rattle.std.proofs.Common.{◌≡◌, ℕ, ◌<◌, false}
use Rattle.bs_note_files.specs.Flaws.{loose_at}
use Rattle.bs_note_files.proofs.flaw.first_loose.Given as goal

abbrev pub invariant-bytes : goal.invariant-bytes
invariant-bytes l = (k : ℕ) → k < l.k → loose_at l.line k ≡ false
