use Rattle.std.proofs.Common.{◌∙◌, ◌*◌, ℕ, ap, length, replicate}
use Rattle.std.proofs.lemmas.List.{length-replicate}
use Rattle.bs_lanes.proofs.lanes.Lanes.new.Goals as goal

pub started-requires-clause-flops : goal.started-requires-clause-flops
started-requires-clause-flops c =
    let wide = c.args.wide in
    ap length c.in_ok-flops.ensures
    ∙ (length-replicate {A = ℕ} (c.len.result * wide) 0 ∙ ap (λ n. n * wide) (c.len.ensures ∙ ap (λ r. length r.flops) c.raw-raw.ensures.parts))

pub started-requires-clause-zeros : goal.started-requires-clause-zeros
started-requires-clause-zeros c =
    c.in_ok-zeros.ensures ∙ ap (λ n. replicate (n * c.args.wide) 0) (c.len-2.ensures ∙ ap length c.data_inputs.ensures)
