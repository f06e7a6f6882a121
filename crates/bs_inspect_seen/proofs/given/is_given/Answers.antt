use Rattle.std.proofs.Common.{◌∙◌}
use Rattle.bs_net_names.specs.Keys.{parts_in}
use Rattle.bs_net_names.specs.Naming.{is_named}
use Rattle.bs_inspect_seen.specs.Given.{Given, given_in}
use Rattle.bs_inspect_seen.proofs.GivenLemmas.{any_map}
use Rattle.bs_inspect_seen.proofs.given.is_given.Goals as goal

pub returns : goal.returns
returns c = c.any_given.ensures ∙ any_map (λ (g : Given). is_named (parts_in c.args.parts) g.name) given_in c.args.givens.now
