use Rattle.bs_inspect_values.proofs.ValueLemmas.{clock_of_parts}
use Rattle.bs_vcd_header.specs.Header.{declared_in}
use Rattle.bs_inspect_values.proofs.values.clock_on.Goals as goal

pub returns : goal.returns
returns c =
    clock_of_parts c.args.sampling.vcd.now c.args.sampling.clock.now _ _ (declared_in c.args.declared.now) _ _ _ _ _ c.maybe_bytes-given.ensures
    c.in_ok-scopes.ensures c.in_ok-names.ensures c.as_slice-paths.ensures.value c.as_slice-all.ensures.value c.in_ok-note.ensures
