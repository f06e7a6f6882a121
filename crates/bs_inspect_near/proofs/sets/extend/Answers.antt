use Rattle.bs_net.specs.Netlist.{circuit}
use Rattle.bs_stim.specs.Runs.{inputs_of}
use Rattle.bs_inspect_near.proofs.SetLemmas.{set_done}
use Rattle.bs_inspect_near.proofs.sets.extend.Goals as goal

pub returns : goal.returns
returns c =
    set_done (circuit c.args.run.now.net.now) (inputs_of c.args.run.now.runs.now) c.args.column.now.first c.args.run.now.number c.args.column.now.cycle c.args.column.now.words.now c.args.places.now c.args.column.now.mask
    c.args.values.now c.add_values.new.values c.requires.shows c.requires.mask c.requires.set c.in_ok-add_values.ensures.elsewhere
    c.in_ok-add_values.ensures.grows c.in_ok-add_values.ensures.full
