use Rattle.std.proofs.Common.{◌-◌, length, get_or, refl, arith}
use Rattle.std.proofs.lemmas.List.{get_or_default}
use Rattle.bs_inspect_near.proofs.CounterLemmas.{read_more}
use Rattle.bs_inspect_near.proofs.counters.lane_count.Goals as goal

pub digits-preserved : goal.digits-preserved
digits-preserved c =
    read_more c.args.digits.now c.args.lane c.digits.k (length c.args.digits.now) c.digits.number
    (get_or c.args.digits.now (length c.args.digits.now - 1 - c.digits.k) 0) c.one_if.result c.has_lane-digit.result refl c.digits-test.true
    (get_or_default c.args.digits.now (length c.args.digits.now - 1 - c.digits.k) 0
    (get_or c.args.digits.now (length c.args.digits.now - 1 - c.digits.k) 0) (omega (arith, c.digits-test.true)))
    c.has_lane-digit.ensures c.one_if.ensures.is c.digits.invariant
