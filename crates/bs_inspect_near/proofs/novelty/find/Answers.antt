use Rattle.std.proofs.Common.{arith}
use Rattle.bs_net.specs.Netlist.{circuit}
use Rattle.bs_stim.specs.Runs.{inputs_of}
use Rattle.bs_inspect_near.proofs.NoveltyLemmas.{found_is}
use Rattle.bs_inspect_near.proofs.novelty.find.Goals as goal

pub returns : goal.returns
returns c =
    found_is (circuit c.args.run.now.net.now) (inputs_of c.args.run.now.runs.now) c.args.run.now.number c.args.place c.args.own.now c.args.places.now c.args.values.now
    c.len-2.result c.in_ok-cycle.cycle c.found_at.result c.requires.own (omega (arith, c.len.ensures)) c.len-2.ensures c.requires.whole
    c.in_ok-cycle.ensures c.found_at.ensures
