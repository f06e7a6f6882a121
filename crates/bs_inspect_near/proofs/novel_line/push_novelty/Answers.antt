use Rattle.bs_net.specs.Netlist.{circuit}
use Rattle.bs_stim.specs.Runs.{inputs_of}
use Rattle.bs_inspect_near.proofs.NovelTextLemmas.{line_is}
use Rattle.bs_inspect_near.proofs.novel_line.push_novelty.Goals as goal

pub returns : goal.returns
returns c =
    line_is (circuit c.args.run.now.net.now) (inputs_of c.args.run.now.runs.now) c.args.run.now.number c.args.own.now c.args.signals.now c.args.novelty.now
    c.index-signals-novelty.result c.get.result.now c.args.text.now.items c.push_state.new.text.items c.requires.own c.requires.showable
    c.index-signals-novelty.is c.get.ensures.value c.in_ok-push_state.ensures
