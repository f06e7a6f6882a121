use Rattle.std.proofs.Common.{sym, ap, ◌∙◌}
use Rattle.bs_net_names.specs.Splits.{halves_in}
use Rattle.bs_inspect_view.proofs.ScopeLemmas.{part_last}
use Rattle.bs_inspect_view.proofs.scopes.push_parts.Goals as goal

pub returns : goal.returns
returns c =
    part_last c.args.opens c.args.path.now c.parts.rest.now c.args.text.now.items c.parts.text.items c.push_scope-2.new.text.items
    c.parts.invariant (sym (ap halves_in c.in_default.is) ∙ c.first_split.ensures) c.in_ok-push_scope-2.ensures
