use Rattle.std.proofs.Common.{rules, arith}
use Rattle.bs_net.specs.Netlist.{circuit}
use Rattle.bs_inspect_causes.proofs.SinceLemmas.{ages_push}
use Rattle.bs_inspect_causes.proofs.since.ages.Goals as goal

pub facts-preserved : goal.facts-preserved
facts-preserved c =
    ages_push (circuit c.args.moments.now.net) c.args.moments.now.states c.args.moments.now.inputs c.args.facts.now c.facts.i
    c.stood_since-since.result c.facts.ages.items c.push.new.self.items _ c.facts.invariant c.stood_since-since.ensures
    c.in_ok-push.ensures.items (omega (arith, c.facts-test.true)) (search rules)
