use Rattle.bs_inspect_values.proofs.ValueLemmas.{line_said}
use Rattle.bs_inspect_values.proofs.mapping.range_note.Goals as goal

pub returns : goal.returns
returns c = line_said _ _ _ _ _ _ c.range_saying-message.ensures c.in_ok-note.ensures
