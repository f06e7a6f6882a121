use Rattle.bs_inspect_values.proofs.KeyLemmas.{from_none, one_part}
use Rattle.bs_inspect_values.proofs.keys.input_bytes.Goals as goal

pub returns : goal.returns
returns c =
    from_none _ _ _ c.new-bytes.ensures.items (one_part _ _ _ _ _ c.in_ok-keys.ensures.are c.as_slice-all.ensures.value c.in_ok-push_bytes.ensures)
