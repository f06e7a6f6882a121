use Rattle.std.proofs.Common.{ap, ◌∙◌}
use Rattle.bs_net_names.specs.Keys.{KeyParts}
use Rattle.bs_inspect_names.specs.Mapping.{numbered_name}
use Rattle.bs_inspect_names.proofs.MappingLemmas.{by_vector}
use Rattle.bs_inspect_names.proofs.naming.name_by_vector.Goals as goal

pub returns-in_ok-name-in-Some : goal.returns-in_ok-name-in-Some
returns-in_ok-name-in-Some c =
    by_vector c.args.key.now c.args.entries.now c.in-Some.entry.now c.in_ok-name-in-Some.name c.in-Some.ensures
    (c.in_ok-name-in-Some.ensures ∙ ap (λ (p : KeyParts). numbered_name c.in-Some.entry.now.name.now p.bit) c.key_parts.ensures)
