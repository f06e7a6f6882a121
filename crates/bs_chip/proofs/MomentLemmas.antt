-- The first moment, cycle by cycle.
use Rattle.std.proofs.Common.{◌≡◌, ◌≤◌, Bool, List, length, refl, arith, ap, sym, ◌∙◌, inl, inr, ⊎_elim, Option, Some, None}
use Rattle.std.specs.Prelude.{MatchOption, IfSome}
use Rattle.std.proofs.lemmas.Bool.{true≢false}
use Rattle.bs_net.specs.Circuit.{Circuit}
use Rattle.bs_scan.specs.Moments.{Run, Moment, IsMoment, run_of, first_moment}
use Rattle.bs_scan.specs.Law.{IsBefore, IsReached, IsFirstMoment}
use Rattle.bs_scan.proofs.MomentLemmas.{first_is_least}
use Rattle.bs_chip.specs.Lockstep.{IsFirstIn, NoneReached}
use Rattle.bs_chip.specs.Replay.{lists}

moment_in : (c : Circuit) (runs : List Run) (states : List (List Bool)) (m : Moment) → IsFirstIn c runs states m → IsMoment runs m
moment_in c runs states m h = record { from_one = omega (arith, h.lowest.behind); recorded = h.lowest.recorded; lasts = h.lowest.lasts }

-- a moment at which a listed state is reached is not before the first
not_before : (c : Circuit) (runs : List Run) (states : List (List Bool)) (m other : Moment) → IsFirstIn c runs states m → IsMoment runs other →
    IsReached c runs states other → IsBefore other m → ⊥
not_before c runs states m other h there reached (inl less) =
    true≢false (sym reached ∙ (h.before.each other.cycle less).each other.run there.from_one there.recorded there.recorded there.lasts)
not_before c runs states m other h there reached (inr tie) =
    let lasts : m.cycle ≤ length (run_of runs other.run) = omega (arith, there.lasts, tie.0) in
    true≢false
    (sym reached
    ∙ (ap (λ k. lists c (run_of runs other.run) states k) tie.0
    ∙ h.lowest.before.each other.run there.from_one (omega (arith, tie.1)) there.recorded lasts))

pub first_found : (c : Circuit) (runs : List Run) (states : List (List Bool)) (m : Moment) → IsFirstIn c runs states m → Some m ≡ first_moment c runs states
first_found c runs states m h = by (first_moment c runs states) (first_is_least c runs states)
  where
    by : (o : Option Moment) → MatchOption o ((m : Moment) → IsMoment runs m → IsReached c runs states m → ⊥) (IsFirstMoment c runs states) → Some m ≡ o
    by None law = absurd (law m (moment_in c runs states m h) h.lowest.listed)
    by (Some o) law =
        ⊎_elim (λ (same : o ≡ m). ap Some (sym same)) (λ (before : IsBefore o m). absurd (not_before c runs states m o h law.moment law.reached before))
        (law.least m (moment_in c runs states m h) h.lowest.listed)

pub none_found : (c : Circuit) (runs : List Run) (states : List (List Bool)) → NoneReached c runs states → None ≡ first_moment c runs states
none_found c runs states h = by (first_moment c runs states) (first_is_least c runs states)
  where
    by : (o : Option Moment) → MatchOption o ((m : Moment) → IsMoment runs m → IsReached c runs states m → ⊥) (IsFirstMoment c runs states) → None ≡ o
    by None law = refl
    by (Some o) law =
        absurd
        (true≢false
        (sym law.reached ∙ (h.each o.cycle).each o.run law.moment.from_one law.moment.recorded law.moment.recorded law.moment.lasts))

pub found_is_first : (c : Circuit) (runs : List Run) (states : List (List Bool)) (found : Option Moment) →
    MatchOption found (NoneReached c runs states) (IsFirstIn c runs states) → found ≡ first_moment c runs states
found_is_first c runs states None h = none_found c runs states h
found_is_first c runs states (Some m) h = first_found c runs states m h

pub found_is_moment : (c : Circuit) (runs : List Run) (states : List (List Bool)) (found : Option Moment) →
    MatchOption found (NoneReached c runs states) (IsFirstIn c runs states) → IfSome found (IsMoment runs)
found_is_moment c runs states None h = tt
found_is_moment c runs states (Some m) h = moment_in c runs states m h
