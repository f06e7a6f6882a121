use Rattle.std.proofs.Common.{◌≡◌, drop, map}
use Rattle.std.specs.Prelude.{string_bytes}
use Rattle.bs_inspect_usages.specs.Usages.{first_again}
use Rattle.bs_inspect_usages.proofs.twice.first_again.Given as goal

abbrev pub invariant-words : goal.invariant-words
invariant-words l =
    first_again (map string_bytes l.words) l.at (drop l.at (map string_bytes l.words))
    ≡ first_again (map string_bytes l.words) 1 (drop 1 (map string_bytes l.words))
