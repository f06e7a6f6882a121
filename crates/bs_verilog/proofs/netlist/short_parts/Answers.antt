use Rattle.bs_verilog.proofs.PlacementLemmas.{short_more, short_all}
use Rattle.bs_verilog.proofs.netlist.short_parts.Goals as goal

pub parts-preserved : goal.parts-preserved
parts-preserved c =
    short_more c.args.parts.now c.parts.part-index c.len.result c.part-item.result c.parts-test.true c.part-item.is c.len.ensures c.in_ok-short.ensures
    c.parts.invariant

pub returns : goal.returns
returns c = short_all c.args.parts.now c.parts.part-index c.parts-test.false c.parts.invariant
