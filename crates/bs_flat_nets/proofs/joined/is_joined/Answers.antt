use Rattle.std.proofs.Common.{sym, ◌∙◌}
use Rattle.bs_flat_nets.proofs.RunLemmas.{runs_join}
use Rattle.bs_flat_nets.proofs.joined.is_joined.Goals as goal

pub returns : goal.returns
returns c = c.any_covers.ensures ∙ sym (runs_join c.args.runs.now c.args.net)
