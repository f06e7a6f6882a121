use Rattle.std.proofs.Common.{◌≡◌, ◌++◌, take}
use Rattle.std.specs.List.{flat_map}
use Rattle.bs_net.specs.Netlist.{parts_of}
use Rattle.bs_inspect_why.specs.Table.{fact_row}
use Rattle.bs_inspect_why.proofs.table.push_facts.Given as goal

abbrev pub invariant-facts : goal.invariant-facts
invariant-facts l = l.text.items ≡ l.initial.text.items ++ flat_map (fact_row (parts_of l.raw) l.account l.kind) (take l.fact-index l.facts)
