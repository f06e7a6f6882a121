use Rattle.bs_vcd.proofs.TakingLemmas.{moved_on}
use Rattle.bs_vcd.specs.Levels.{known_in}
use Rattle.bs_vcd.specs.Sampled.{asked_in}
use Rattle.bs_vcd.proofs.clock_edges.move_on.Goals as goal

pub returns : goal.returns
returns c =
    moved_on (asked_in c.args.asked.now) c.args.time c.args.watch.now.time c.args.watch.now.first (known_in c.args.watch.now.known) (known_in c.apply.new.known)
    c.args.watch.now.changes.items c.as_slice.result.now c.as_slice-2.result.now c.clear.new.self.items c.args.watch.now.lines c.close.new.lines
    c.as_slice.ensures.value c.as_slice-2.ensures.value c.in_ok-close.ensures c.in_ok-apply.ensures c.clear.ensures.items
