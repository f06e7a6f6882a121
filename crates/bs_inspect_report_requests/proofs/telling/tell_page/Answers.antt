use Rattle.std.proofs.Common.{map, refl}
use Rattle.bs_inspect_report_requests.proofs.ReportLemmas.{page_as}
use Rattle.bs_inspect_report_requests.proofs.telling.tell_page.Goals as goal

pub returns : goal.returns
returns c = (
  refl,
  page_as (λ s. record { netlist = c.args.netlist.now; report = c.args.report.now; signature = s; only = map (λ n. n.now) c.args.only.now; most = c.args.most })
      _ _ _ _ _ c.signature_file.ensures c.in_ok-text.ensures,
)
