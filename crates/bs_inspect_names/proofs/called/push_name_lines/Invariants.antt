use Rattle.std.proofs.Common.{map, take}
use Rattle.bs_inspect_names.specs.Called.{AddsNames}
use Rattle.bs_inspect_names.proofs.called.push_name_lines.Given as goal

abbrev pub invariant-names : goal.invariant-names
invariant-names l =
    AddsNames l.net.raw l.sources (map (λ s. s.now) (take l.name-index l.names)) l.initial.text.items l.text.items
