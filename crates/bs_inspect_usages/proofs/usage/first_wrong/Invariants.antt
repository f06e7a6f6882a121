use Rattle.std.proofs.Common.{◌≡◌, ◌+◌, drop, map}
use Rattle.std.specs.Prelude.{string_bytes}
use Rattle.bs_inspect_usages.specs.Usages.{first_wrong}
use Rattle.bs_inspect_usages.proofs.usage.first_wrong.Given as goal

abbrev pub invariant-words : goal.invariant-words
invariant-words l = first_wrong (l.at + 1) (drop l.at (map string_bytes l.words)) ≡ first_wrong 2 (drop 1 (map string_bytes l.words))
