use Rattle.bs_bits.specs.Lines.{lines_of}
use Rattle.bs_net.specs.Netlist.{circuit}
use Rattle.bs_scan.proofs.DumpReadLemmas.{fits_if_read, rests_if_read}
use Rattle.bs_scan.proofs.dump.Dump.read.Goals as goal

pub returns-clause-fits : goal.returns-clause-fits
returns-clause-fits c =
    fits_if_read (circuit c.args.net.now) c.args.choice.now c.reset.result.now c.depth.result c.items.result (lines_of c.args.bytes.now) c.read_lines.result
    c.depth.ensures.sound.kept c.reset.ensures c.depth.ensures.depth c.items.ensures.count c.read_lines.ensures

pub returns-clause-reset : goal.returns-clause-reset
returns-clause-reset c =
    rests_if_read c.reset.result.now _ c.depth.result c.items.result (lines_of c.args.bytes.now) c.read_lines.result c.reset.ensures c.read_lines.ensures
