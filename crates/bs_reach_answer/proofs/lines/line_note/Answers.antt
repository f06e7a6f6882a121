use Rattle.bs_reach_answer.proofs.lines.line_note.Goals as goal

pub returns : goal.returns
returns c = record { start = c.start_of-start.result; begins = c.start_of-start.ensures.begins; placed = c.in_ok-note.ensures }
