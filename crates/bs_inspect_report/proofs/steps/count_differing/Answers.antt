use Rattle.std.proofs.Common.{◌+◌, ap, arith, ◌∙◌, ℕ, Bool}
use Rattle.bs_inspect_report.specs.Steps.{differs_at, one_if}
use Rattle.bs_inspect_report.proofs.PieceLemmas.{count_more}
use Rattle.bs_inspect_report.proofs.steps.count_differing.Goals as goal

pub places-preserved : goal.places-preserved
places-preserved c = record {
  is =
      ap (λ (k : ℕ). c.places.count + k) (c.one_if-count.ensures.is ∙ ap (λ (b : Bool). one_if b) c.differs_at.ensures)
      ∙ count_more (differs_at c.args.first.now c.args.cands.now) c.places.place c.places.count c.places.invariant.is;
  few = omega (arith, c.places.invariant.few, c.one_if-count.ensures.small);
}
