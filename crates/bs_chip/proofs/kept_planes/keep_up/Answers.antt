use Rattle.std.proofs.Common.{◌∙◌, ◌+◌, ◌≡◌, subst, arith}
use Rattle.bs_chip.specs.Lockstep.{Passing, ShowsCycle}
use Rattle.bs_chip.proofs.TrackLemmas.{still_shows}
use Rattle.bs_chip.proofs.kept_planes.keep_up.Goals as goal

pub cycles-preserved : goal.cycles-preserved
cycles-preserved c =
    let p = c.args.pass.now in
    let cycle = c.cycles.at + 1 in
    let there : Passing = record { circuit = p.circuit; runs = p.runs; cycle = cycle } in
    let same : c.step.new.self ≡ there =
    c.step.ensures ∙ (λ i. record {
      circuit = (c.cycles.invariant.same i).circuit;
      runs = (c.cycles.invariant.same i).runs;
      cycle = (c.cycles.invariant.same i).cycle + 1;
    }) in
    let here : ShowsCycle p.circuit p.runs c.planes.result.now cycle =
    subst (λ (q : Passing). ShowsCycle q.circuit q.runs c.planes.result.now q.cycle) same c.planes.ensures in
    record {
      same = same;
      shows =
          still_shows p.circuit p.runs c.cycles.track c.keep.new.track c.planes.result.now cycle
          (omega (arith, c.cycles-test.true, c.requires.few)) c.cycles.invariant.shows here c.keep.ensures;
    }
