use Rattle.std.proofs.Common.{◌≡◌, ℕ, ◌<◌, get_or, false}
use Rattle.bs_note_files.specs.Flaws.{is_stray}
use Rattle.bs_note_files.proofs.flaw.first_stray.Given as goal

abbrev pub invariant-bytes : goal.invariant-bytes
invariant-bytes l = (k : ℕ) → k < l.k → is_stray (get_or l.line k 0) ≡ false
