use Rattle.bs_inspect_values.proofs.KeyLemmas.{one_part}
use Rattle.bs_inspect_values.proofs.keys.push_inputs.Goals as goal

pub returns : goal.returns
returns c = one_part _ _ _ _ _ c.in_ok-keys.ensures.are c.as_slice-all.ensures.value c.in_ok-push_bytes.ensures
