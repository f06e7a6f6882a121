-- Candidates of a circuit's widths.
use Rattle.std.specs.Prelude.{◌≡◌, length, All}
use Rattle.bs_net.specs.Circuit.{Circuit}
use Rattle.bs_report.specs.declared.report.Step.{Step}

-- each listed state and its input have a bit for each flip-flop and each data input
pub record HasWideCands (c : Circuit) (step : Step) : Type 0 where
  pub states : All (λ cand. length cand.state ≡ length c.flops) step.cands
  pub inputs : All (λ cand. length cand.input ≡ length c.inputs) step.cands
