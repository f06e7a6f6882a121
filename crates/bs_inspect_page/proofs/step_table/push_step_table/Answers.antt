use Rattle.std.proofs.Common.{ap, ◌∙◌}
use Rattle.bs_inspect_report.specs.Lemmas.{lemmas_logged}
use Rattle.bs_inspect_page.proofs.PageLemmas.{steps_put}
use Rattle.bs_inspect_page.proofs.step_table.push_step_table.Goals as goal

pub returns : goal.returns
returns c =
    steps_put c.args.report.now c.in_ok-lemmas.lemmas.items c.as_slice.result.now c.args.text.now.items c.push_steps_front.new.text.items
    c.push_steps.new.text.items c.push_piece.new.text.items (c.in_ok-lemmas.ensures ∙ ap lemmas_logged c.slice.ensures) c.as_slice.ensures.value
    c.in_ok-push_steps_front.ensures c.in_ok-push_steps.ensures c.in_ok-push_piece.ensures.ok
