use Rattle.std.proofs.Common.{◌∙◌, arith}
use Rattle.bs_inspect_why_words.proofs.KeyLemmas.{bits_more}
use Rattle.bs_inspect_why_words.proofs.key.fact_bits.Goals as goal

pub facts-preserved : goal.facts-preserved
facts-preserved c =
    c.in_ok-push.ensures.ok ∙ bits_more c.facts.bits c.args.facts.now c.facts.fact-index _ (omega (arith, c.facts-test.true)) c.facts.invariant
