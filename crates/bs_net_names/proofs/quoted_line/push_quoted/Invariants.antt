use Rattle.std.proofs.Common.{◌≡◌, ◌++◌, take}
use Rattle.std.specs.List.{flat_map}
use Rattle.bs_net_names.specs.Quotes.{shown_byte}
use Rattle.bs_net_names.proofs.quoted_line.push_quoted.Given as goal

abbrev pub invariant-bytes : goal.invariant-bytes
invariant-bytes l = l.into.items ≡ l.initial.into.items ++ flat_map shown_byte (take l.byte-index l.shown)
