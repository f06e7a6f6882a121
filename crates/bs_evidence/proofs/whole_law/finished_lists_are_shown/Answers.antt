use Rattle.bs_evidence.proofs.Right.{whole_proofs_are_right, accepted_is_unmet}
use Rattle.bs_evidence.proofs.Unlisted.{unlisted_meets_whole}
use Rattle.bs_evidence.proofs.whole_law.finished_lists_are_shown.Goals as goal

pub returns : goal.returns
returns c = record { unlisted = unlisted_meets_whole; right = whole_proofs_are_right; unmet = accepted_is_unmet }
