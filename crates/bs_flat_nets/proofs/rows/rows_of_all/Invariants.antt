use Rattle.std.proofs.Common.{take}
use Rattle.bs_flat_nets.specs.Rows.{Beside, AreBlockRows}
use Rattle.bs_flat_nets.proofs.rows.rows_of_all.Given as goal

abbrev pub invariant-each : goal.invariant-each
invariant-each l = Beside AreBlockRows (take l.block-index l.blocks) l.rows
