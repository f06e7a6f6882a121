use Rattle.std.proofs.Common.{arith}
use Rattle.bs_net.specs.Netlist.{circuit}
use Rattle.bs_inspect_why_words.proofs.HeadLemmas.{befores_put}
use Rattle.bs_inspect_why_words.proofs.head.bits_before.Goals as goal

pub facts-preserved : goal.facts-preserved
facts-preserved c =
    befores_put (circuit c.args.moments.now.net) c.args.moments.now.states c.args.moments.now.inputs c.args.facts.now c.args.since c.facts.i _
    c.known_bit.result c.facts.befores c.push.new.self (omega (arith, c.facts-test.true)) c.facts.invariant c.known_bit.ensures c.in_ok-push.ensures.ok
