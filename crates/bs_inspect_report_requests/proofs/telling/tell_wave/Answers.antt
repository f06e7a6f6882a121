use Rattle.std.proofs.Common.{◌∙◌, map, refl}
use Rattle.bs_inspect_plans.specs.Asked.{drawing_of}
use Rattle.bs_inspect_report_requests.proofs.ReportLemmas.{drawn_as}
use Rattle.bs_inspect_report_requests.proofs.telling.tell_wave.Goals as goal

pub returns : goal.returns
returns c = (
  refl,
  drawn_as (drawing_of c.args.from c.args.all (map (λ s. s.now) c.args.only.now)) _ _ _ _ _ _ _ _
      (c.as_slice.ensures.value ∙ c.in_ok-remarks.ensures) (c.as_slice-2.ensures.value ∙ c.in_ok-moments.ensures) c.in_ok-text.ensures,
)
