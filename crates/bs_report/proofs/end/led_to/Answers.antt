use Rattle.bs_net.specs.Netlist.{circuit}
use Rattle.bs_report.proofs.WideLemmas.{input_widths}
use Rattle.bs_report.proofs.end.led_to.Goals as goal

pub led_by-requires : goal.led_by-requires
led_by-requires c = input_widths (circuit c.args.net.now) c.args.step.now c.in-Some.hit.state _ c.requires c.input_for.ensures

pub returns-in-Some : goal.returns-in-Some
returns-in-Some c = rw c.in-Some.is (rw c.input_for.ensures at c.led_by.ensures)
