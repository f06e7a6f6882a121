use Rattle.std.proofs.Common.{◌≡◌, Option, subst}
use Rattle.std.specs.Prelude.{MatchOption, IfOk}
use Rattle.bs_scan.specs.Moments.{Moment, first_moment}
use Rattle.bs_chip.specs.Lockstep.{IsFirstIn, NoneReached, Passing}
use Rattle.bs_chip.proofs.MomentLemmas.{first_found, found_is_first}
use Rattle.bs_chip.proofs.TrackLemmas.{ok_weaker}
use Rattle.bs_chip.proofs.kept_planes.first_moment.Goals as goal

pub returns-in-Some-clause-first : goal.returns-in-Some-clause-first
returns-in-Some-clause-first g c =
    let p = c.args.pass.now in
    first_found p.circuit p.runs c.args.bank.now.states c.in-Some.moment c.in-Some.ensures.first

pub returns-in-None-clause-first : goal.returns-in-None-clause-first
returns-in-None-clause-first g c =
    let p = c.args.pass.now in
    let states = c.args.bank.now.states in
    ok_weaker (λ (found : Option Moment). MatchOption found (NoneReached p.circuit p.runs states) (IsFirstIn p.circuit p.runs states))
    (λ (found : Option Moment). found ≡ first_moment p.circuit p.runs states) c.first_behind.result
    (λ found h. found_is_first p.circuit p.runs states found h)
    (subst
    (λ (q : Passing). IfOk c.first_behind.result
    (λ found. MatchOption found (NoneReached q.circuit q.runs states) (IsFirstIn q.circuit q.runs states))) c.in-None.ensures.kept c.first_behind.ensures.first)
