use Rattle.std.proofs.Common.{◌∙◌, ◌+◌, ◌≡◌, length, subst, arith}
use Rattle.bs_chip.specs.Lockstep.{IsLongest, NoneAmong, Passing, ShowsCycle}
use Rattle.bs_chip.proofs.TrackLemmas.{still_shows, behind_more, behind_all}
use Rattle.bs_chip.proofs.kept_planes.first_behind.Goals as goal

pub cycles-preserved : goal.cycles-preserved
cycles-preserved g c =
    let p = c.args.pass.now in
    let states = c.args.bank.now.states in
    let cycle = c.cycles.at + 1 in
    let there : Passing = record { circuit = p.circuit; runs = p.runs; cycle = cycle } in
    let same : c.step.new.self ≡ there =
    c.step.ensures ∙ (λ i. record {
      circuit = (c.cycles.invariant.same i).circuit;
      runs = (c.cycles.invariant.same i).runs;
      cycle =
          (c.cycles.invariant.same i).cycle + 1;
    }) in
    let here : ShowsCycle p.circuit p.runs c.planes.result.now cycle =
    subst (λ (q : Passing). ShowsCycle q.circuit q.runs c.planes.result.now q.cycle) same c.planes.ensures in
    let among : NoneAmong p.circuit p.runs states cycle 0 (length p.runs) =
    subst (λ (q : Passing). NoneAmong q.circuit q.runs states q.cycle 0 (length q.runs)) same c.in_default.ensures.lowest in
    record {
      same = c.in_default.ensures.kept ∙ same;
      shows =
          still_shows p.circuit p.runs c.cycles.track c.keep.new.track c.planes.result.now cycle
          (omega (arith, c.cycles-test.true, c.longest-at-end.ensures.few)) c.cycles.invariant.shows here c.keep.ensures;
      none = behind_more p.circuit p.runs states c.cycles.at c.cycles.invariant.none among;
    }

pub returns-clause-first : goal.returns-clause-first
returns-clause-first g c =
    let p = c.args.pass.now in
    behind_all p.circuit p.runs c.args.bank.now.states c.cycles.at c.longest-at-end.result c.cycles-test.false
    (subst (λ (q : Passing). IsLongest q.runs c.longest-at-end.result) c.load.ensures c.longest-at-end.ensures.all) c.cycles.invariant.none
