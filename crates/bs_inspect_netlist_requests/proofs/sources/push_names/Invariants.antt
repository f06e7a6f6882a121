use Rattle.std.proofs.Common.{◌≡◌, ◌++◌, map, take}
use Rattle.std.specs.Prelude.{string_bytes}
use Rattle.std.specs.List.{flat_map}
use Rattle.bs_inspect_plans.specs.Sources.{behind_piece}
use Rattle.bs_inspect_netlist_requests.proofs.sources.push_names.Given as goal

abbrev pub invariant-names : goal.invariant-names
invariant-names l = string_bytes l.text ≡ string_bytes l.initial.text ++ flat_map behind_piece (map (λ s. s.now) (take l.name-index l.names))
