use Rattle.std.proofs.Common.{arith, ◌+◌}
use Rattle.bs_lanes.specs.Program.{HasGate}
use Rattle.bs_lanes.proofs.PairLemmas.{one_pair, pair_has, gate_stays, first_has, pair_a, pair_b}
use Rattle.bs_lanes.proofs.pairs.settle_some.Goals as goal

pub pairs-preserved : goal.pairs-preserved
pairs-preserved g c =
    let was = pair_has (HasGate g.row.N c.args.nets.now) c.args.kind c.args.start c.args.pairs.now c.pairs.i _ c.pairs-test.true c.requires.placed in
    let has = gate_stays g.row.N c.args.nets.now c.pairs.nets _ c.pairs.invariant.size was in
    rw c.put_plane.ensures
    (one_pair g.row.N c.args.kind c.args.start c.args.pairs.now c.pairs.i _ _ c.args.nets.now c.pairs.nets _ _ _ _ _ _ _ c.pairs-test.true
    c.requires.table c.pairs.invariant has
    c.plane_at-a.ensures c.plane_at-b.ensures c.splat_of-both.ensures c.splat_of-one.ensures c.splat_of-inverted.ensures c.mixed_plane-plane.ensures)

pub splat_of-both-requires : goal.splat_of-both-requires
splat_of-both-requires g c = omega (arith, first_has g.row.N c.args.nets.now c.args.kind c.args.start c.args.pairs.now c.requires.some c.requires.placed)

pub splat_of-one-requires : goal.splat_of-one-requires
splat_of-one-requires g c = omega (arith, first_has g.row.N c.args.nets.now c.args.kind c.args.start c.args.pairs.now c.requires.some c.requires.placed)

pub splat_of-inverted-requires : goal.splat_of-inverted-requires
splat_of-inverted-requires g c = omega (arith, first_has g.row.N c.args.nets.now c.args.kind c.args.start c.args.pairs.now c.requires.some c.requires.placed)

pub plane_at-a-requires : goal.plane_at-a-requires
plane_at-a-requires g c =
    let low = first_has g.row.N c.args.nets.now c.args.kind c.args.start c.args.pairs.now c.requires.some c.requires.placed in
    let was = pair_has (HasGate g.row.N c.args.nets.now) c.args.kind c.args.start c.args.pairs.now c.pairs.i (record { a = 0; b = 0 }) c.pairs-test.true
    c.requires.placed in
    (omega (arith, low), omega (arith, pair_a g.row.N c.args.nets.now c.args.kind (c.args.start + c.pairs.i) _ was, c.pairs.invariant.size))

pub plane_at-b-requires : goal.plane_at-b-requires
plane_at-b-requires g c =
    let low = first_has g.row.N c.args.nets.now c.args.kind c.args.start c.args.pairs.now c.requires.some c.requires.placed in
    let was = pair_has (HasGate g.row.N c.args.nets.now) c.args.kind c.args.start c.args.pairs.now c.pairs.i (record { a = 0; b = 0 }) c.pairs-test.true
    c.requires.placed in
    (omega (arith, low), omega (arith, pair_b g.row.N c.args.nets.now c.args.kind (c.args.start + c.pairs.i) _ was, c.pairs.invariant.size))

pub mixed_plane-plane-requires : goal.mixed_plane-plane-requires
mixed_plane-plane-requires g c =
    let low = first_has g.row.N c.args.nets.now c.args.kind c.args.start c.args.pairs.now c.requires.some c.requires.placed in (
      omega (arith, low),
      (
        c.plane_at-a.ensures.long,
        (c.plane_at-b.ensures.long, (c.splat_of-both.ensures.long, (c.splat_of-one.ensures.long, c.splat_of-inverted.ensures.long))),
      ),
    )

pub put_plane-requires : goal.put_plane-requires
put_plane-requires g c =
    let low = first_has g.row.N c.args.nets.now c.args.kind c.args.start c.args.pairs.now c.requires.some c.requires.placed in
    let was = pair_has (HasGate g.row.N c.args.nets.now) c.args.kind c.args.start c.args.pairs.now c.pairs.i (record { a = 0; b = 0 }) c.pairs-test.true
    c.requires.placed in
    (omega (arith, low), (c.mixed_plane-plane.ensures.long, omega (arith, was.out, c.pairs.invariant.size)))
