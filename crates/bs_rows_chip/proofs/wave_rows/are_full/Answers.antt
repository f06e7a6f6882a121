use Rattle.std.proofs.Common.{◌≡◌, length, rules}
use Rattle.bs_rows_chip.proofs.WidthLemmas.{wide_more, wide_all}
use Rattle.bs_rows_chip.proofs.wave_rows.are_full.Goals as goal

pub moments-preserved : goal.moments-preserved
moments-preserved c =
    let wide : length c.values-item.result ≡ c.args.count = search rules in
    wide_more c.args.count c.args.moments.now c.moments.values-index c.values-item.result c.moments-test.true c.values-item.is wide c.moments.invariant

pub returns : goal.returns
returns c = wide_all c.args.count c.args.moments.now c.moments.values-index c.moments-test.false c.moments.invariant
