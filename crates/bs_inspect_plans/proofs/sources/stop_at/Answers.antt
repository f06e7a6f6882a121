use Rattle.bs_call.proofs.NoteLemmas.{noted_by, noted_by_names}
use Rattle.bs_inspect_plans.specs.Sources.{source_of, sources_in}
use Rattle.bs_inspect_plans.proofs.sources.stop_at.Goals as goal

pub returns-clause-note : goal.returns-clause-note
returns-clause-note c =
    noted_by c.args.kind (source_of (sources_in c.args.sources)) _ _ (noted_by_names c.args.kind (source_of (sources_in c.args.sources))
    c.stop_source-path.result.now c.args.stop _ c.stop_source-path.ensures c.in_ok-answer.ensures.reason)
