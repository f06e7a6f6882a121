use Rattle.std.proofs.Common.{◌≡◌, ◌++◌, map, take}
use Rattle.std.specs.Prelude.{codes}
use Rattle.bs_net.specs.Netlist.{parts_of}
use Rattle.bs_net_facts.specs.Blocks.{moved}
use Rattle.bs_inspect_why.specs.Table.{fact_rows}
use Rattle.bs_inspect_why.proofs.table.push_bits.Given as goal

abbrev pub invariant-bits : goal.invariant-bits
invariant-bits l =
    l.text.items ≡ l.initial.text.items ++ fact_rows (parts_of l.raw) l.account (codes ",bit,") (map (moved l.account.block.at) (take l.bit-index l.bits))
