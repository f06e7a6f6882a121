use Rattle.std.proofs.Common.{◌∙◌, map}
use Rattle.std.specs.Prelude.{◌&&◌}
use Rattle.bs_net_names.specs.Keys.{KeyParts, parts_in}
use Rattle.bs_net_names.specs.Naming.{is_named}
use Rattle.bs_inspect_seen.specs.Given.{given_in, is_given}
use Rattle.bs_inspect_seen.proofs.GivenLemmas.{any_map}
use Rattle.bs_inspect_seen.proofs.given.is_twice.Goals as goal

pub returns : goal.returns
returns c =
    c.any_twice.ensures
    ∙ any_map (λ (p : KeyParts). is_named p c.args.name.now && is_given (map given_in c.args.givens.now) p) parts_in c.args.flops.now
