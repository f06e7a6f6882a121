use Rattle.bs_call.specs.Paths.{path_of, paths_in}
use Rattle.bs_call.proofs.NoteLemmas.{noted_by, noted_by_names}
use Rattle.bs_call.proofs.stopping.stop_answer.Goals as goal

pub returns-clause-note : goal.returns-clause-note
returns-clause-note c =
    noted_by c.args.kind (path_of (paths_in c.args.paths.now)) _ _ (noted_by_names c.args.kind (path_of (paths_in c.args.paths.now))
    c.stop_path-path.result.now c.args.stop _ c.stop_path-path.ensures c.in_ok-answer.ensures.reason)

pub returns-clause-reason : goal.returns-clause-reason
returns-clause-reason c =
    noted_by_names c.args.kind (path_of (paths_in c.args.paths.now)) c.stop_path-path.result.now c.args.stop _ c.stop_path-path.ensures
    c.in_ok-answer.ensures.reason
