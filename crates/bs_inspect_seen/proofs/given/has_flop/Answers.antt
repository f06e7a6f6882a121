use Rattle.std.proofs.Common.{◌∙◌, ℕ, List}
use Rattle.bs_net_names.specs.Keys.{KeyParts, parts_in}
use Rattle.bs_net_names.specs.Naming.{is_named}
use Rattle.bs_inspect_seen.proofs.GivenLemmas.{any_map}
use Rattle.bs_inspect_seen.proofs.given.has_flop.Goals as goal

pub returns : goal.returns
returns c = c.any_flop.ensures ∙ any_map (λ (p : KeyParts). is_named p c.args.name.now) parts_in c.args.flops.now
