use Rattle.std.proofs.Common.{ap, ◌∙◌}
use Rattle.bs_inspect_usages.specs.Usages.{bound_text, bounds_or}
use Rattle.bs_inspect_usages.proofs.reason.outside_sentence.Goals as goal

pub returns : goal.returns
returns c =
    c.in_ok-said.ensures
    ∙ ap (bound_text c.args.number c.args.word.now) (c.bounds_or-bounds.ensures ∙ ap (bounds_or c.args.command.now) c.option_name.ensures)
