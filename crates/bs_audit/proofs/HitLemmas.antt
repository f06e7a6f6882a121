-- The presents that hits leave.
use Rattle.std.proofs.Common.{◌≡◌, List, ap, sym, subst, ◌∙◌, Option, Some, None}
use Rattle.std.specs.Prelude.{Result, Ok, Err, IfOk, IfSome, option_map}
use Rattle.bs_scan.specs.declared.dump.Dump.{Dump}
use Rattle.bs_scan.specs.Choice.{depth_of, IsDepth}
use Rattle.bs_scan.specs.Crash.{Crash, Recording, crash_of, dump_at}
use Rattle.bs_scan.specs.Moments.{Moment, moment, first_moment, state_of}
use Rattle.bs_scan.specs.Present.{present_in}
use Rattle.bs_scan.proofs.CrashLemmas.{present_at}
use Rattle.bs_chip.specs.declared.first_hit.Hit.{Hit}
use Rattle.bs_report.specs.declared.report.Cand.{Cand}
use Rattle.bs_report.specs.declared.report.HitLine.{HitLine}
use Rattle.bs_report.specs.Step.{listed, hit_of}
use Rattle.bs_report.specs.Chain.{present_of_hit}
use Rattle.bs_audit.specs.Following.{line_of}

presents_of : (r : Recording) (dump : Dump) (cands : List Cand) (hit : Option Hit) → IsDepth (depth_of r.choice) →
    first_moment r.circuit r.runs (listed cands) ≡ option_map (λ hit. moment hit.run hit.cycle) hit →
    IfSome hit (λ hit. hit.dump ≡ dump_at r (moment hit.run hit.cycle)) →
    option_map (present_of_hit (crash_of r dump)) (hit_of (crash_of r dump) cands) ≡ option_map (λ hit. present_in hit.dump) hit
presents_of r dump cands None kept first is =
    let due : Moment → HitLine = λ (m : Moment). record { run = m.run; cycle = m.cycle; state = state_of r.circuit r.runs m } in
    ap (λ (o : Option Moment). option_map (present_of_hit (crash_of r dump)) (option_map due o)) first
presents_of r dump cands (Some hit) kept first is =
    let due : Moment → HitLine = λ (m : Moment). record { run = m.run; cycle = m.cycle; state = state_of r.circuit r.runs m } in
    ap (λ (o : Option Moment). option_map (present_of_hit (crash_of r dump)) (option_map due o)) first
    ∙ ap Some (sym (present_at r (moment hit.run hit.cycle) kept) ∙ sym (ap present_in is))

-- the hit line of a look at a list
line_in : (r : Recording) (dump : Dump) (cands : List Cand) (hit : Option Hit) →
    first_moment r.circuit r.runs (listed cands) ≡ option_map (λ hit. moment hit.run hit.cycle) hit →
    IfSome hit (λ hit. hit.dump ≡ dump_at r (moment hit.run hit.cycle)) → hit_of (crash_of r dump) cands ≡ option_map line_of hit
line_in r dump cands None first is =
    let due : Moment → HitLine = λ (m : Moment). record { run = m.run; cycle = m.cycle; state = state_of r.circuit r.runs m } in
    ap (λ (o : Option Moment). option_map due o) first
line_in r dump cands (Some hit) first is =
    let due : Moment → HitLine = λ (m : Moment). record { run = m.run; cycle = m.cycle; state = state_of r.circuit r.runs m } in
    let of_dump : Dump → HitLine = λ (d : Dump). record { run = hit.run; cycle = hit.cycle; state = d.state.bits } in
    ap (λ (o : Option Moment). option_map due o) first ∙ ap (λ (d : Dump). Some (of_dump d)) (sym is)

pub lines_leave : {E : Type 0} (r : Recording) (dump : Dump) (crash : Crash) → crash_of r dump ≡ crash → (cands : List Cand) →
    (result : Result (Option Hit) E) → IfOk result (λ hit. first_moment r.circuit r.runs (listed cands) ≡ option_map (λ hit. moment hit.run hit.cycle) hit) →
    IfOk result (λ hit. IfSome hit (λ hit. hit.dump ≡ dump_at r (moment hit.run hit.cycle))) →
    IfOk result (λ hit. hit_of crash cands ≡ option_map line_of hit)
lines_leave r dump crash same cands (Ok hit) first is =
    subst (λ (k : Crash). hit_of k cands ≡ option_map line_of hit) same (line_in r dump cands hit first is)
lines_leave r dump crash same cands (Err e) first is = tt

-- the presents that a look at a list leaves
pub looks_leave : {E : Type 0} (r : Recording) (dump : Dump) (crash : Crash) → crash_of r dump ≡ crash → (cands : List Cand) → IsDepth (depth_of r.choice) →
    (result : Result (Option Hit) E) → IfOk result (λ hit. first_moment r.circuit r.runs (listed cands) ≡ option_map (λ hit. moment hit.run hit.cycle) hit) →
    IfOk result (λ hit. IfSome hit (λ hit. hit.dump ≡ dump_at r (moment hit.run hit.cycle))) →
    IfOk result (λ hit. option_map (present_of_hit crash) (hit_of crash cands) ≡ option_map (λ hit. present_in hit.dump) hit)
looks_leave r dump crash same cands kept (Ok hit) first is =
    subst (λ (k : Crash). option_map (present_of_hit k) (hit_of k cands) ≡ option_map (λ hit. present_in hit.dump) hit) same
    (presents_of r dump cands hit kept first is)
looks_leave r dump crash same cands kept (Err e) first is = tt
