use Rattle.std.proofs.Common.{◌∙◌, ap}
use Rattle.bs_loop.specs.Searched.{is_cut_at}
use Rattle.bs_loop.proofs.backtracing.is_last_cut.Goals as goal

pub returns-in-Some : goal.returns-in-Some
returns-in-Some c = c.is_cut.ensures ∙ ap is_cut_at c.in-Some.ensures.value
