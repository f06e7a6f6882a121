use Rattle.std.proofs.Common.{take}
use Rattle.bs_flat_nets.specs.Rows.{Beside, IsChildRow}
use Rattle.bs_flat_nets.proofs.rows.rows_of_block.Given as goal

abbrev pub invariant-each : goal.invariant-each
invariant-each l = Beside IsChildRow (take l.child-index l.block.children) l.rows
