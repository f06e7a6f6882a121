use Rattle.bs_inspect_values.proofs.ValueLemmas.{input_by_declared}
use Rattle.bs_inspect_values.proofs.values.input_in.Goals as goal

pub returns-in-Ok : goal.returns-in-Ok
returns-in-Ok c =
    input_by_declared c.args.subject c.args.sampling.vcd.now c.args.text.now _ _ _ _ _ c.args.sampling.clock.now _ _ c.in-Ok.ensures c.key_at-key.ensures
    c.key_at-name.ensures c.input_on-note.ensures
