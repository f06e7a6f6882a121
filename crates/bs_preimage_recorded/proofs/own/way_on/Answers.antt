use Rattle.std.proofs.Common.{arith}
use Rattle.bs_preimage_recorded.proofs.own.way_on.Goals as goal

pub is_asked_at-requires : goal.is_asked_at-requires
is_asked_at-requires c =
    let less = c.if-cycle-cycles.true in
    let many = c.in_ok-cycles.ensures in
    record { from_one = c.requires.from_one; recorded = c.requires.recorded; lasts = omega (arith, less, many) }

pub own_cand-requires : goal.own_cand-requires
own_cand-requires c =
    let less = c.if-cycle-cycles.true in
    let many = c.in_ok-cycles.ensures in
    rw c.is_asked_at.ensures.chip (record { from_one = c.requires.from_one; recorded = c.requires.recorded; lasts = omega (arith, less, many) })
