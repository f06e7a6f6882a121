use Rattle.std.proofs.Common.{◌≡◌, ◌++◌, map}
use Rattle.std.specs.List.{range_with_len}
use Rattle.bs_inspect_view.proofs.HexLemmas.{digit}
use Rattle.bs_inspect_view.proofs.hex.push_hex.Given as goal

abbrev pub invariant-digits : goal.invariant-digits
invariant-digits l =
    l.text.items ≡ l.initial.text.items ++ map (digit l.bits) (range_with_len 0 l.k)
