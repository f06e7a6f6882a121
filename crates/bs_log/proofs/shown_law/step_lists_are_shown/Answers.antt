use Rattle.bs_log.proofs.ShownLaws.{unlisted_meets, finished_is_unmet, proofs_are_right}
use Rattle.bs_log.proofs.shown_law.step_lists_are_shown.Goals as goal

pub returns : goal.returns
returns c = record { unlisted = unlisted_meets; unmet = finished_is_unmet; right = proofs_are_right }
