use Rattle.std.proofs.Common.{◌≡◌, length}
use Rattle.bs_log.specs.LineReading.{up_to_zero, literal_in}
use Rattle.bs_log.proofs.Reading.{with_front}
use Rattle.bs_log.proofs.line_reading.literals.Given as goal

abbrev pub invariant-words : goal.invariant-words
invariant-words l = up_to_zero literal_in l.fn.words ≡ with_front l.lits (up_to_zero literal_in l.words)

abbrev pub decreases-words : goal.decreases-words
decreases-words l = length l.words
