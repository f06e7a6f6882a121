use Rattle.std.proofs.Common.{length, ap, arith}
use Rattle.std.proofs.lemmas.List.{length-map}
use Rattle.std.proofs.lemmas.Bool.{eqb-true}
use Rattle.bs_watch.specs.Places.{Place}
use Rattle.bs_solve.proofs.Refutings.{full_assigned}
use Rattle.bs_solve.proofs.cdcl.is_full.Goals as goal

pub returns : goal.returns
returns c = λ on.
    let n = ap length c.trail.ensures in
    let k = length-map c.args.watch.now.trail.places (λ (p : Place). p.literal) in
    let v = c.vars.ensures in
    let e = eqb-true _ _ on in
    full_assigned c.args.watch.now c.holds_levels.ensures.apart c.holds_levels.ensures.range (omega (arith, n, k, v, e))
