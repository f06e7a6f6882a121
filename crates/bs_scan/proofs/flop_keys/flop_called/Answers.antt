use Rattle.std.proofs.Common.{ap, map, ◌∙◌}
use Rattle.bs_net_names.specs.Keys.{KeyParts, parts_in}
use Rattle.bs_net_names.specs.Rtl.{same_name}
use Rattle.bs_net_names.specs.declared.key.KeyParts.{KeyParts as CodeKeyParts}
use Rattle.bs_scan.specs.ChoiceText.{only_place}
use Rattle.bs_scan.proofs.KeyLemmas.{called_within, only_at}
use Rattle.bs_scan.proofs.flop_keys.flop_called.Goals as goal

pub returns-clause-is : goal.returns-clause-is
returns-clause-is c =
    c.only_called.ensures
    ∙ (only_at c.args.keys.now (parts_in c.key_parts.result)
    ∙ ap (λ (own : KeyParts). only_place (λ key. same_name key own) (map parts_in c.args.keys.now)) c.key_parts.ensures)

pub returns-clause-within : goal.returns-clause-within
returns-clause-within c =
    rw c.only_called.ensures
    (called_within (λ (key : CodeKeyParts). same_name (parts_in key) (parts_in c.key_parts.result)) c.args.keys.now)
