use Rattle.bs_reach_answer.proofs.LineLemmas.{line_said}
use Rattle.bs_inspect_files.proofs.order.twice_note.Goals as goal

pub returns : goal.returns
returns c = line_said _ _ _ _ _ _ c.twice_saying-message.ensures c.in_ok-note.ensures
