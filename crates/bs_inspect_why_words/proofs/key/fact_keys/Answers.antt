use Rattle.std.proofs.Common.{arith}
use Rattle.bs_net.specs.Netlist.{parts_of}
use Rattle.bs_inspect_why_words.proofs.KeyLemmas.{keys_more}
use Rattle.bs_inspect_why_words.proofs.key.fact_keys.Goals as goal

pub facts-preserved : goal.facts-preserved
facts-preserved c =
    keys_more (parts_of c.args.raw.now) c.facts.keys.items c.key_of.result c.args.facts.now c.facts.fact-index _ c.push.new.self.items
    (omega (arith, c.facts-test.true)) c.facts.invariant c.key_of.ensures c.in_ok-push.ensures.items
