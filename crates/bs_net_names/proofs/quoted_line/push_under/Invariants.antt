use Rattle.std.proofs.Common.{◌≡◌, ◌++◌, take, replicate}
use Rattle.std.specs.List.{flat_map}
use Rattle.bs_net_names.specs.Quotes.{shown_width}
use Rattle.bs_net_names.proofs.quoted_line.push_under.Given as goal

abbrev pub invariant-bytes : goal.invariant-bytes
invariant-bytes l = l.into.items ≡ l.initial.into.items ++ flat_map (λ b. replicate (shown_width b) 32) (take l.byte-index l.bytes)
