use Rattle.std.proofs.Common.{sym}
use Rattle.bs_verilog_scope.specs.Checking.{looked}
use Rattle.bs_verilog.proofs.PlacementLemmas.{finished_is}
use Rattle.bs_verilog.proofs.netlist.finished_with.Goals as goal

pub raw_of-requires : goal.raw_of-requires
raw_of-requires c = rw (← c.requires.inputs, ← c.requires.outputs) (c.requires.finish.is _ c.in-Ok.ensures)

pub returns-in-Ok : goal.returns-in-Ok
returns-in-Ok c =
    rw (finished_is c.args.table.now (looked c.args.scope.now) c.args._header.now c.args.parts.now c.args.start c.with_parts.new.built c.args.ports.inputs
    c.args.ports.outputs c.in-Ok.ensures c.requires.inputs c.requires.outputs) c.raw_of.ensures
