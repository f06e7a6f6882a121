use Rattle.std.proofs.Common.{◌≡◌, ◌-◌, ◌∙◌, arith, length, ap, subst, Bool, List, Option}
use Rattle.std.specs.Prelude.{option_map}
use Rattle.bs_chip.specs.Lockstep.{NoneAmong}
use Rattle.bs_chip.specs.Stepped.{Stepped}
use Rattle.bs_chip.proofs.LookLemmas.{one_more_cycle}
use Rattle.bs_preimage_recorded.specs.declared.search.Sought.TheVariants.{NoMoment}
use Rattle.bs_preimage_recorded.specs.Finder.{Seeker}
use Rattle.bs_preimage_recorded.specs.Search.{alike_at, asked_in, HasTried, IsUnknownAt, SoughtAt}
use Rattle.bs_preimage_recorded.proofs.SearchLemmas.{tried_cycle}
use Rattle.bs_preimage_recorded.proofs.search.first_before.Goals as goal

pub cycles-preserved : goal.cycles-preserved
cycles-preserved c =
    let r = c.args.chip.now.recording in
    let stored = c.args.query.now.stored.now in
    let present = c.args.query.now.present.now in
    let older : Option (List Bool) = option_map (λ bits. bits.now) c.args.query.now.older in
    let runs = c.runs-runs.result in
    let at = c.cycles.cycle in
    let all : runs ≡ length r.runs = c.runs-runs.ensures ∙ ap (λ (f : Seeker). length f.recording.runs) c.requires.aimed in
    let sought : SoughtAt r present stored older at 0 runs NoMoment =
    subst (λ (k : Stepped). SoughtAt k.recording present stored older at 0 runs NoMoment) c.cycles.invariant.chip
    (rw c.in-NoMoment.is at c.in_ok-lowest_at.ensures.sought) in
    let tried : HasTried c.cycles.tries c.lowest_at.new.tries (alike_at r stored at runs) (λ m. alike_at r stored at (m.run - 1))
    (IsUnknownAt r present stored older c.args.query.now.b) NoMoment =
    subst (λ (k : Stepped). HasTried c.cycles.tries c.lowest_at.new.tries (alike_at k.recording stored at runs)
    (λ m. alike_at k.recording stored at (m.run - 1)) (IsUnknownAt k.recording present stored older c.args.query.now.b) NoMoment) c.cycles.invariant.chip
    (rw c.in-NoMoment.is at c.in_ok-lowest_at.ensures.tried) in
    record {
      chip = c.in_ok-lowest_at.ensures.chip ∙ c.cycles.invariant.chip;
      finder = c.in_ok-lowest_at.ensures.finder ∙ c.cycles.invariant.finder;
      within = omega (arith, c.cycles-test.true);
      tried = tried_cycle r stored c.args.tries.now c.cycles.tries c.lowest_at.new.tries at runs all c.cycles.invariant.tried tried;
      none = one_more_cycle r.circuit r.runs (asked_in r present stored older) at c.cycles.invariant.none
          (subst (NoneAmong r.circuit r.runs (asked_in r present stored older) at 0) all sought);
    }
