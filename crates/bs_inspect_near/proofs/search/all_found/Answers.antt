use Rattle.std.proofs.Common.{get_or, None, arith}
use Rattle.std.proofs.lemmas.List.{get_or_default}
use Rattle.bs_net.specs.Netlist.{circuit}
use Rattle.bs_stim.specs.Runs.{inputs_of}
use Rattle.bs_inspect_near.proofs.EachLemmas.{nears_more}
use Rattle.bs_inspect_near.proofs.search.all_found.Goals as goal

pub places-preserved : goal.places-preserved
places-preserved c =
    nears_more (circuit c.args._net.now) (inputs_of c.args._runs.now) c.args._states.now c.places.i c.args.bests.now (get_or c.args.bests.now c.places.i None)
    c.unwrap.result c.places.nears.items c.push.new.self.items c.requires (omega (arith, c.places-test.true))
    (get_or_default c.args.bests.now c.places.i None (get_or c.args.bests.now c.places.i None) (omega (arith, c.places-test.true)))
    c.unwrap.ensures c.in_ok-push.ensures.items c.places.invariant
