use Rattle.bs_inspect_values.proofs.KeyLemmas.{one_part, two_parts}
use Rattle.bs_inspect_values.proofs.keys.all_bytes.Goals as goal

pub returns : goal.returns
returns c =
    two_parts _ _ _ _ _ c.new-bytes.ensures.items
    (one_part _ _ _ _ _ c.in_ok-flops.ensures.are c.as_slice-first.ensures.value c.in_ok-push_bytes.ensures) c.in_ok-push_inputs.ensures
