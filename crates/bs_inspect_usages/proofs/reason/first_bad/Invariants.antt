use Rattle.std.proofs.Common.{◌≡◌, ◌+◌, drop, map}
use Rattle.std.specs.Prelude.{string_bytes}
use Rattle.bs_inspect_usages.specs.Usages.{first_bad}
use Rattle.bs_inspect_usages.proofs.reason.first_bad.Given as goal

abbrev pub invariant-words : goal.invariant-words
invariant-words l = first_bad l.command (l.at + 1) (drop l.at (map string_bytes l.words)) ≡ first_bad l.command 2 (drop 1 (map string_bytes l.words))
