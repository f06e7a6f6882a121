use Rattle.bs_inspect_files.specs.Taken.{picked_of}
use Rattle.std.proofs.Common.{ℕ, Bool, Bor, List, map, sym}
use Rattle.bs_inspect_words.specs.Request.{Request, Trace}
use Rattle.bs_inspect_plans.specs.Sources.{source_of, sources_of}
use Rattle.bs_inspect_plans.specs.Asked.{window_of}
use Rattle.bs_inspect_plans.specs.Work.{to_trace}
use Rattle.bs_inspect_plans.proofs.WorkLemmas.{noted_with, walked_noted, walked_stop}
use Rattle.bs_inspect_report_requests.proofs.asking.trace.Goals as goal

pub returns-in-Ok : goal.returns-in-Ok
returns-in-Ok g c =
    let all : Bool = c.args.asked.now.all in
    let request : List (Bor (List ℕ)) → Request =
    λ xs. Trace (record { netlist = c.args.asked.now.netlist.now; report = c.args.asked.now.report.now; all = all; window = c.args.asked.now.window; only = map (λ s. s.now) xs }) in
    let slice : List (Bor (List ℕ)) = c.as_slice-only.result.now in
    noted_with request c.args.asked.now.only.items slice _ (sym c.as_slice-only.ensures.value)
    (walked_noted (picked_of c.args.asked.now.netlist.now c.args.asked.now.report.now (map (λ s. s.now) slice)) (to_trace all (window_of
    c.args.asked.now.window) (map (λ s. s.now) slice))
    (source_of (sources_of (request slice))) _ _ c.window_noted-answer.ensures.reply c.window_noted-answer.ensures.note c.in-Ok.ensures c.tell_trace.ensures)

pub returns-in-Err : goal.returns-in-Err
returns-in-Err g c =
    let all : Bool = c.args.asked.now.all in
    let request : List (Bor (List ℕ)) → Request =
    λ xs. Trace (record { netlist = c.args.asked.now.netlist.now; report = c.args.asked.now.report.now; all = all; window = c.args.asked.now.window; only = map (λ s. s.now) xs }) in
    let slice : List (Bor (List ℕ)) = c.as_slice-only.result.now in
    noted_with request c.args.asked.now.only.items slice _ (sym c.as_slice-only.ensures.value)
    (walked_stop (picked_of c.args.asked.now.netlist.now c.args.asked.now.report.now (map (λ s. s.now) slice)) (to_trace all (window_of
    c.args.asked.now.window) (map (λ s. s.now) slice))
    _ (sources_of (request slice)) _ c.trace_sources.ensures c.in-Err.ensures c.stop_at.ensures.reply c.stop_at.ensures.note)
