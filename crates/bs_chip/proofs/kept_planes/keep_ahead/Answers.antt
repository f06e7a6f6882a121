use Rattle.std.proofs.Common.{◌∙◌}
use Rattle.bs_chip.proofs.TrackLemmas.{back_there, shows_back}
use Rattle.bs_chip.proofs.kept_planes.keep_ahead.Goals as goal

pub load-requires : goal.load-requires
load-requires c =
    shows_back c.args.pass.now c.keep_up-kept.new.pass c.planes.result.now c.as_slice.result.now c.cycle-at.result c.keep_up-kept.ensures.same
    c.cycle-at.ensures (c.as_slice.ensures.value ∙ c.in_ok-shown.ensures.items) c.planes.ensures

pub returns-clause-pass : goal.returns-clause-pass
returns-clause-pass c =
    back_there c.args.pass.now c.keep_up-kept.new.pass c.load.new.self c.cycle-at.result c.keep_up-kept.ensures.same c.cycle-at.ensures c.load.ensures
