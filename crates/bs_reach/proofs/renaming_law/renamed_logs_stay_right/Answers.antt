use Rattle.bs_reach.proofs.LogLemmas.{logs_stay_right}
use Rattle.bs_reach.proofs.RoomLemmas.{logs_have_room}
use Rattle.bs_reach.proofs.renaming_law.renamed_logs_stay_right.Goals as goal

pub returns : goal.returns
returns c = record { right = logs_stay_right; room = logs_have_room }
