use Rattle.std.proofs.Common.{ap, ◌∙◌, sym, length}
use Rattle.bs_solve_lemmas.proofs.Lines.{recorded_first}
use Rattle.bs_solve_lemmas.proofs.recording.Recording.new.Goals as goal

pub invariant_of-result : goal.invariant_of-result
invariant_of-result c =
    recorded_first c.args.vars c.len.result c.of.result.value c.new-2.result c.new.result.items c.new-3.result
    (c.len.ensures ∙ ap length (sym c.of.ensures)) c.new-3.ensures c.new.ensures.items
