use Rattle.std.proofs.Common.{ap, ◌∙◌}
use Rattle.bs_loop.specs.declared.backtracing.Way.{Way}
use Rattle.bs_loop.specs.Searched.{is_last_cut}
use Rattle.bs_loop.proofs.SearchedLemmas.{tells_cut, were_searched}
use Rattle.bs_loop.proofs.backtracing.walk.Goals as goal

pub returns-in-Ok-clause-searched : goal.returns-in-Ok-clause-searched
returns-in-Ok-clause-searched c =
    were_searched c.args.chip.now.recording c.args.budgets.now.conflicts (λ (way : Way). way.steps) c.walk_turns-way.new.searched c.walk_turns-way.result
    c.walk_turns-way.ensures.searched

pub returns-in-Ok-clause-cut : goal.returns-in-Ok-clause-cut
returns-in-Ok-clause-cut c =
    tells_cut c.args.chip.now.recording c.args.budgets.now.conflicts (λ (way : Way). way.steps) c.walk_turns-way.new.searched c.is_last_cut.result
    c.walk_turns-way.result (c.is_last_cut.ensures ∙ ap is_last_cut c.slice.ensures) c.walk_turns-way.ensures.searched
