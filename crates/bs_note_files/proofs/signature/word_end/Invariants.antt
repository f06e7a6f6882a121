use Rattle.std.proofs.Common.{◌≡◌, ℕ, ◌<◌, ◌≤◌, ◌-◌, get_or, length, false}
use Rattle.std.specs.Prelude.{◌==◌}
use Rattle.bs_note_files.proofs.signature.word_end.Given as goal

abbrev pub invariant-bytes : goal.invariant-bytes
invariant-bytes l = record {
  after : l.from ≤ l.end;
  within : l.end ≤ length l.line;
  inside : (k : ℕ) → l.from ≤ k → k < l.end → (get_or l.line k 0 == 32) ≡ false;
}

abbrev pub decreases-bytes : goal.decreases-bytes
decreases-bytes l = length l.line - l.end
