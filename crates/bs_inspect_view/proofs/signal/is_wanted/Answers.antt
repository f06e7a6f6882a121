use Rattle.std.proofs.Common.{sym, ◌∙◌}
use Rattle.bs_net_names.specs.Keys.{parts_in}
use Rattle.bs_inspect_view.proofs.SignalLemmas.{wanted_else}
use Rattle.bs_inspect_view.proofs.signal.is_wanted.Goals as goal

pub returns-else-is_empty : goal.returns-else-is_empty
returns-else-is_empty c =
    wanted_else (parts_in c.args.parts) c.args.only.now c.has_name.result (sym c.is_empty.ensures ∙ c.if-is_empty.false) c.has_name.ensures
