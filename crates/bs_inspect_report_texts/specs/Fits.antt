-- Whether a report fits a netlist (docs/DEFINITIONS.md, "Trace").
use Rattle.std.specs.Prelude.{ℕ, ◌+◌, ◌==◌, ◌&&◌, not, Bool, List, [], length, slice_get, slice_index_or, Option, None, option_and_then, option_map, if◌then◌else◌}
use Rattle.std.specs.List.{position, range_with_len}
use Rattle.std.specs.Option.{option_or}
use Rattle.bs_bits.specs.Bits.{bits_eq}
use Rattle.bs_net.specs.Circuit.{Circuit, next}
use Rattle.bs_net.specs.Parts.{Parts}
use Rattle.bs_net.specs.Netlist.{circuit_of}
use Rattle.bs_report.specs.declared.report.Cand.{Cand}
use Rattle.bs_report.specs.declared.report.Step.{Step}
use Rattle.bs_report.specs.declared.report.Report.{Report}
use Rattle.bs_scan.specs.Seen.{is_shown}
use Rattle.bs_scan.specs.declared.seen.Seen.{Seen}
use Rattle.bs_inspect_report_texts.specs.declared.misfit.FitFault.{FitFault}
use Rattle.bs_inspect_report_texts.specs.declared.misfit.FitFault.TheVariants.{State, Input, Astray, Candidate}

-- ---- widths

-- the place of the first list of another length
abbrev pub misfit : ℕ → List (List Bool) → Option ℕ
misfit width lists = position (λ bits. not (length bits == width)) lists

-- the first state of the trace, or else its first input, that has not a bit for each flip-flop or data input
abbrev pub width_fault : Parts → Report → Option FitFault
width_fault r report =
    option_or (option_map State (misfit (length r.flops) report.states)) (option_map Input (misfit (length (circuit_of r).inputs) report.inputs))

-- ---- the trace

-- whether a state of a trace leads to the one behind it, under its input
abbrev pub leads_at : Circuit → (states inputs : List (List Bool)) → ℕ → Bool
leads_at c states inputs t = bits_eq (slice_index_or states (t + 1) []) (next c (slice_index_or states t []) (slice_index_or inputs t []))

-- the first that does not, by its number from 0
abbrev pub break_in : Circuit → (states inputs : List (List Bool)) → Option ℕ
break_in c states inputs = position (λ t. not (leads_at c states inputs t)) (range_with_len 0 (length inputs))

-- ---- a list

-- whether a candidate has the circuit's widths, and leads under its input to a state that shows what is known of the present one
abbrev pub leads_into : Circuit → Seen → Cand → Bool
leads_into c present cand =
    (length cand.state == length c.flops) && ((length cand.input == length c.inputs) && is_shown present (next c cand.state cand.input))

-- the first candidate of a step that does not, by its number from 1
abbrev pub stray_in : Circuit → Step → Option ℕ
stray_in c step = option_map (λ i. i + 1) (position (λ cand. not (leads_into c step.present cand)) step.cands)

-- the same of the first step, where the trace is one state alone, so that it tells nothing of the netlist
abbrev pub stray_of : Circuit → Report → Option ℕ
stray_of c report = if length report.inputs == 0 then option_and_then (stray_in c) (slice_get report.steps 0) else None

abbrev pub list_fault : Circuit → Report → Option FitFault
list_fault c report = option_map Candidate (stray_of c report)

-- ---- a report

-- the first state of the trace that does not lead to the one behind it, or else the first stray candidate
abbrev pub way_fault : Circuit → Report → Option FitFault
way_fault c report = option_or (option_map Astray (break_in c report.states report.inputs)) (list_fault c report)

-- why a report does not fit a netlist: it fits where there is no such fault
abbrev pub fit_fault : Parts → Report → Option FitFault
fit_fault r report = option_or (width_fault r report) (way_fault (circuit_of r) report)
