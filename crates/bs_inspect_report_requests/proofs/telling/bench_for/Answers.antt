use Rattle.bs_inspect_report_requests.proofs.ReportLemmas.{bench_as}
use Rattle.bs_inspect_report_requests.proofs.telling.bench_for.Goals as goal

pub returns : goal.returns
returns c = bench_as _ _ _ _ _ _ c.as_bytes.ensures.value c.in_ok-bench.ensures
