use Rattle.bs_inspect_values.proofs.ValueLemmas.{input_of_parts}
use Rattle.bs_vcd_header.specs.Header.{declared_in}
use Rattle.bs_inspect_values.proofs.values.input_on.Goals as goal

pub returns : goal.returns
returns c =
    input_of_parts c.args.subject c.args.sampling.vcd.now c.args.key.now c.args.name.now c.args.sampling.clock.now _ _ _ _ _ (declared_in c.args.declared.now) _ _ _
    c.as_bytes-bytes.ensures.value c.key_parts-clock.ensures c.maybe_bytes-given.ensures c.scope_of-scope.ensures c.in_ok-names.ensures
    c.as_slice-all.ensures.value c.in_ok-note.ensures
