use Rattle.std.proofs.Common.{arith}
use Rattle.std.specs.Prelude.{codes}
use Rattle.bs_net.specs.Netlist.{parts_of}
use Rattle.bs_inspect_why.specs.Table.{fact_row}
use Rattle.bs_inspect_why.proofs.TableLemmas.{bits_more}
use Rattle.bs_inspect_why.proofs.table.push_bits.Goals as goal

pub bits-preserved : goal.bits-preserved
bits-preserved c =
    bits_more (fact_row (parts_of c.args.raw.now) c.args.account.now (codes ",bit,")) c.args.account.now.block.at c.slice-bits.result.now
    c.bits.bit-index _ c.moved.result c.args.text.now.items c.bits.text.items c.push_fact.new.text.items (omega (arith, c.bits-test.true))
    c.bits.invariant c.moved.ensures c.in_ok-push_fact.ensures
