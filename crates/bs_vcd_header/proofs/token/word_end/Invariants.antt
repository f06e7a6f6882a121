use Rattle.std.proofs.Common.{◌≡◌, ℕ, ◌<◌, get_or, false}
use Rattle.bs_vcd_header.specs.Tokens.{is_white}
use Rattle.bs_vcd_header.proofs.token.word_end.Given as goal

abbrev pub invariant-loop-i : goal.invariant-loop-i
invariant-loop-i l = (k : ℕ) → k < l.i → is_white (get_or l.text k 0) ≡ false
