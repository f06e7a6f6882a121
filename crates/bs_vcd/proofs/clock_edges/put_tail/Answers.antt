use Rattle.std.proofs.Common.{subst}
use Rattle.bs_bits.specs.Reading.{Answers}
use Rattle.bs_vcd_header.specs.declared.fault.VcdFault.TheVariants.{NoMemory}
use Rattle.bs_vcd.specs.Levels.{Known, known_in}
use Rattle.bs_vcd.specs.Sampled.{asked_in}
use Rattle.bs_vcd.specs.Watching.{tailed}
use Rattle.bs_vcd.proofs.TakingLemmas.{tail_known}
use Rattle.bs_vcd.proofs.clock_edges.put_tail.Goals as goal

pub returns-clause-lines : goal.returns-clause-lines
returns-clause-lines c =
    subst (λ (k : Known). Answers NoMemory (λ _. c.add_tail.new.lines) c.add_tail.result
    (tailed (asked_in c.args.asked.now) c.args.watch.now.time k c.args.watch.now.lines))
    (tail_known (known_in c.args.watch.now.known) (known_in c.apply.new.known) c.args.watch.now.changes.items c.as_slice.result.now
    c.as_slice.ensures.value c.in_ok-apply.ensures)
    c.add_tail.ensures
