use Rattle.std.proofs.Common.{◌∙◌, ap}
use Rattle.bs_inspect_values.specs.Saying.{line_saying}
use Rattle.bs_inspect_values.proofs.ValueLemmas.{line_said}
use Rattle.bs_inspect_values.proofs.mapping.form_note.Goals as goal

pub returns : goal.returns
returns c = line_said _ _ _ _ _ _ (c.line_saying-message.ensures ∙ ap line_saying c.numbered-line.ensures) c.in_ok-note.ensures
