use Rattle.std.proofs.Common.{◌≡◌, take}
use Rattle.bs_scan.specs.SeenText.{filled}
use Rattle.bs_scan.proofs.seen_text.filled.Given as goal

abbrev pub invariant-characters : goal.invariant-characters
invariant-characters l = l.digits.items ≡ filled (take l.character-index l.text)
