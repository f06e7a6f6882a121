use Rattle.std.proofs.Common.{◌≡◌, map, take}
use Rattle.bs_scan.specs.SeenText.{is_dash}
use Rattle.bs_scan.proofs.seen_text.dashes.Given as goal

abbrev pub invariant-characters : goal.invariant-characters
invariant-characters l = l.free ≡ map is_dash (take l.character-index l.text)
