use Rattle.std.proofs.Common.{◌++◌, List, ℕ, ◌∙◌, ap, sym}
use Rattle.bs_bits.proofs.RangeLemmas.{places_more}
use Rattle.bs_inspect_why_words.specs.Stretches.{start_at}
use Rattle.bs_inspect_why_words.proofs.stretch.starts.Goals as goal

pub facts-preserved : goal.facts-preserved
facts-preserved c =
    c.in_ok-put_start.ensures
    ∙ (ap (λ (begins : List ℕ). begins ++ start_at c.args.facts.now c.facts.i) c.facts.invariant
    ∙ sym (places_more (start_at c.args.facts.now) c.facts.i))
