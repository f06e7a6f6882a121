use Rattle.std.proofs.Common.{List, subst, arith}
use Rattle.bs_net.specs.Netlist.{circuit}
use Rattle.bs_scan.specs.Moments.{Run}
use Rattle.bs_chip.specs.Lockstep.{IsLongest}
use Rattle.bs_inspect_near.proofs.EachLemmas.{found_all}
use Rattle.bs_inspect_near.proofs.search.by_pass.Goals as goal

pub returns : goal.returns
returns c =
    found_all (circuit c.args.net.now) c.args.runs.now c.args.states.now c.cycles.cycle c.longest-most.result c.cycles.bests.items
    c.count-runs.ensures.sound (omega (arith, c.cycles-test.false))
    (subst (λ (rs : List Run). IsLongest rs c.longest-most.result) c.requires.runs c.longest-most.ensures.all) c.cycles.invariant.bests
