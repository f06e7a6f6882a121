use Rattle.std.proofs.Common.{◌-◌, subst, Bool, List, Option}
use Rattle.std.specs.Prelude.{IfOk, option_map}
use Rattle.bs_chip.specs.Stepped.{Stepped}
use Rattle.bs_preimage_recorded.specs.Search.{alike_at, HasTried, IsUnknownAt, SoughtAt}
use Rattle.bs_preimage_recorded.proofs.SearchLemmas.{cut_behind}
use Rattle.bs_preimage_recorded.proofs.search.first_sooner.Goals as goal

pub returns-in-NoMoment-clause-tried : goal.returns-in-NoMoment-clause-tried
returns-in-NoMoment-clause-tried c =
    let r = c.args.chip.now.recording in
    let stored = c.args.query.now.stored.now in
    let present = c.args.query.now.present.now in
    let older : Option (List Bool) = option_map (λ bits. bits.now) c.args.query.now.older in
    let b = c.args.query.now.b in
    let m = c.args.moment in
    let was = c.in_ok-first_before.ensures.chip in
    cut_behind r present stored older b m c.args.tries.now c.first_before.new.tries c.lowest_at.new.tries c.lowest_at.result
    (rw c.in-NoMoment.is at c.in_ok-first_before.ensures.tried)
    (subst (λ (k : Stepped). IfOk c.lowest_at.result (SoughtAt k.recording present stored older m.cycle 0 (m.run - 1))) was c.lowest_at.ensures.sought)
    (subst (λ (k : Stepped). IfOk c.lowest_at.result (HasTried c.first_before.new.tries c.lowest_at.new.tries
    (alike_at k.recording stored m.cycle (m.run - 1)) (λ o. alike_at k.recording stored m.cycle (o.run - 1))
    (IsUnknownAt k.recording present stored older b))) was c.lowest_at.ensures.tried)
