use Rattle.std.proofs.Common.{sym, ◌∙◌}
use Rattle.bs_loop.proofs.HitInputLemmas.{recorded_next}
use Rattle.bs_loop.proofs.hit_input.own_at.Goals as goal

pub recorded_at-requires : goal.recorded_at-requires
recorded_at-requires c =
    rw c.goes_to.ensures.chip
    (recorded_next c.args.chip.now.recording c.args.present.now c.args.run c.args.cycle c.requires (sym c.in_ok-goes.ensures.goes ∙ c.if-goes.true))
