-- The moment that a list is met at.
use Rattle.std.proofs.Common.{◌≡◌, Bool, List, ◌∷◌, length, refl, ap, sym, subst, ◌∙◌, Option, Some, None}
use Rattle.std.specs.Prelude.{All, Result, Ok, Err, IfOk, option_map, IfSome}
use Rattle.std.specs.Option.{option_to_list}
use Rattle.std.proofs.lemmas.List.Elements.{All-weaker, All-from_recursion, recursion_from_All}
use Rattle.bs_scan.specs.declared.seen.Seen.{Seen}
use Rattle.bs_net.specs.Circuit.{Circuit}
use Rattle.bs_scan.specs.declared.dump.Dump.{Dump}
use Rattle.bs_scan.specs.Choice.{Chosen, depth_of, IsDepth}
use Rattle.bs_scan.specs.Dump.{signatures_of}
use Rattle.bs_encode.specs.Assuming.{AreWide}
use Rattle.bs_scan.specs.Crash.{Recording, crash_of, DumpFits}
use Rattle.bs_scan.specs.Moments.{Moment, moment, first_moment, state_of}
use Rattle.bs_scan.specs.Present.{present_in}
use Rattle.bs_scan.proofs.CrashLemmas.{dump_at_fits, present_at}
use Rattle.bs_chip.specs.declared.first_hit.Hit.{Hit}
use Rattle.bs_report.specs.declared.report.Cand.{Cand}
use Rattle.bs_report.specs.declared.report.HitLine.{HitLine}
use Rattle.bs_report.specs.Step.{listed, hit_of, IsCandidate}
use Rattle.bs_report.specs.Chain.{present_of_hit}
use Rattle.bs_report.proofs.ExecutionLemmas.{led_widths}
use Rattle.bs_loop.specs.Turn.{line_of, HasItsDump}

-- the dump of a hit fits the chip
pub hit_fits : (r : Recording) (hit : Hit) → IsDepth (depth_of r.choice) → HasItsDump r hit → DumpFits r.circuit r.choice hit.dump
hit_fits r hit kept is = subst (DumpFits r.circuit r.choice) (sym is) (dump_at_fits r (moment hit.run hit.cycle) kept)

-- what is asked of a present whose register holds a signature
pub record IsHeld (c : Circuit) (choice : Chosen) (now : Dump) (t : List Bool) : Type 0 where
  pub state : length now.state.bits ≡ length c.flops
  pub stored : length t ≡ length choice.items
  pub older : AreWide (length choice.items) now.older
  pub alone : depth_of choice ≡ 1 → now.older ≡ None

pub held_wide : (c : Circuit) (choice : Chosen) (now : Dump) (stored : List Bool) → DumpFits c choice now →
    signatures_of now ≡ stored ∷ option_to_list now.older → IsHeld c choice now stored
held_wide c choice now stored fits held =
    let Wide : List Bool → Type 0 = λ t. length t ≡ length choice.items in
    let each = recursion_from_All Wide (stored ∷ option_to_list now.older) (subst (All Wide) held fits.signatures) in
    record {
      state = fits.state;
      stored = each.0;
      older = All-from_recursion Wide (option_to_list now.older) each.1;
      alone = λ one. fits.sound.alone (fits.depth ∙ one);
    }

-- a hit at the moment that is first
pub hit_first : {E : Type 0} (x first : Option Moment) (result : Result (Option Hit) E) → x ≡ first →
    IfOk result (λ hit. first ≡ option_map (λ hit. moment hit.run hit.cycle) hit) → IfOk result (λ hit. x ≡ option_map (λ hit. moment hit.run hit.cycle) hit)
hit_first x first (Ok hit) is there = is ∙ there
hit_first x first (Err want) is there = tt

-- the line of a hit is what the list is due
pub hit_is : (r : Recording) (now : Dump) (cands : List Cand) (hit : Option Hit) →
    first_moment r.circuit r.runs (listed cands) ≡ option_map (λ hit. moment hit.run hit.cycle) hit →
    ((h : Hit) → hit ≡ Some h → HasItsDump r h) → option_map line_of hit ≡ hit_of (crash_of r now) cands
hit_is r now cands None first dump =
    sym (ap (option_map (λ (m : Moment). record { run = m.run; cycle = m.cycle; state = state_of r.circuit r.runs m })) first)
hit_is r now cands (Some hit) first dump =
    let due : Moment → HitLine = λ (m : Moment). record { run = m.run; cycle = m.cycle; state = state_of r.circuit r.runs m } in
    let same : line_of hit ≡ due (moment hit.run hit.cycle) = λ i. record { run = hit.run; cycle = hit.cycle; state = (dump hit refl i).state.bits } in
    ap Some same ∙ sym (ap (option_map due) first)

pub has_its_dump : (r : Recording) (hit : Option Hit) → IfSome hit (HasItsDump r) → (h : Hit) → hit ≡ Some h → HasItsDump r h
has_its_dump r None is h e = cc
has_its_dump r (Some hit) is h e = let same : hit ≡ h = cc in subst (HasItsDump r) same is

-- its dump is the next present
pub met : (r : Recording) (now : Dump) (hit : Hit) → IsDepth (depth_of r.choice) → HasItsDump r hit →
    present_of_hit (crash_of r now) (line_of hit) ≡ present_in hit.dump
met r now hit kept is =
    let m : Moment = moment hit.run hit.cycle in
    let state : hit.dump.state.bits ≡ state_of r.circuit r.runs m = ap (λ (d : Dump). d.state.bits) is in
    ap (λ (s : List Bool). present_of_hit (crash_of r now) (record { run = hit.run; cycle = hit.cycle; state = s })) state
    ∙ (sym (present_at r m kept) ∙ ap present_in (sym is))

-- a candidate's state has a bit for each flip-flop
pub candidate_widths : (c : Circuit) (choice : Chosen) (present : Seen) (stored : List (List Bool)) (cands : List Cand) →
    All (IsCandidate c choice present stored) cands → All (λ cand. length cand.state ≡ length c.flops) cands
candidate_widths c choice present stored cands all =
    All-weaker (IsCandidate c choice present stored) (λ (cand : Cand). length cand.state ≡ length c.flops)
    (λ cand is. (led_widths c cand.state cand.input is.leads.there is.leads.leads).0) cands all
