use Rattle.std.proofs.Common.{length, ◌∙◌, ap}
use Rattle.bs_top_files.proofs.StimulusFits.{stimulus_fits}
use Rattle.bs_top_files.proofs.texts.stimulus_or_diagnostic.Goals as goal

pub returns-in-Ok-clause-width : goal.returns-in-Ok-clause-width
returns-in-Ok-clause-width c = stimulus_fits _ _ _ c.in-Ok.ensures ∙ (c.len-width.ensures ∙ ap length c.data_inputs.ensures)
