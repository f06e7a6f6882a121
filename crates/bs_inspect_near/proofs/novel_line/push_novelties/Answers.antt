use Rattle.std.proofs.Common.{map}
use Rattle.bs_net.specs.Netlist.{circuit}
use Rattle.bs_inspect_view.specs.Signals.{signal_in}
use Rattle.bs_stim.specs.Runs.{inputs_of}
use Rattle.bs_inspect_near.specs.Novel.{novelty_line}
use Rattle.bs_inspect_near.proofs.NovelTextLemmas.{lines_more}
use Rattle.bs_inspect_near.proofs.novel_line.push_novelties.Goals as goal

pub novelties-preserved : goal.novelties-preserved
novelties-preserved c =
    lines_more (novelty_line (circuit c.args.run.now.net.now) (inputs_of c.args.run.now.runs.now) c.args.run.now.number (map signal_in c.args.signals.now)) c.args.novelties.now
    c.novelties.novelty-index _ c.args.text.now.items c.novelties.text.items c.push_novelty.new.text.items c.novelties-test.true c.novelties.invariant
    c.in_ok-push_novelty.ensures

pub push_novelty-requires-clause-showable : goal.push_novelty-requires-clause-showable
push_novelty-requires-clause-showable c = c.requires.showable c.novelties.novelty-index _ c.novelties-test.true
