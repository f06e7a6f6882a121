use Rattle.bs_inspect_files.specs.Taken.{charted_of}
use Rattle.std.proofs.Common.{ℕ, Bool, Bor, List, map, sym, refl}
use Rattle.bs_inspect_words.specs.Request.{Request, Wave}
use Rattle.bs_inspect_plans.specs.Sources.{source_of, sources_of}
use Rattle.bs_inspect_plans.specs.Work.{to_wave}
use Rattle.bs_inspect_plans.proofs.WorkLemmas.{noted_with, walked_done, walked_stop}
use Rattle.bs_inspect_report_requests.proofs.asking.wave.Goals as goal

pub returns-in-Ok : goal.returns-in-Ok
returns-in-Ok g c =
    let all : Bool = c.args.asked.now.all in
    let from : ℕ = c.args.asked.now.from in
    let request : List (Bor (List ℕ)) → Request =
    λ xs. Wave (record { netlist = c.args.asked.now.netlist.now; report = c.args.asked.now.report.now; all = all; from = from; only = map (λ s. s.now) xs }) in
    let slice : List (Bor (List ℕ)) = c.as_slice-only.result.now in
    noted_with request c.args.asked.now.only.items slice _ (sym c.as_slice-only.ensures.value)
    (walked_done (charted_of c.args.asked.now.netlist.now c.args.asked.now.report.now (map (λ s. s.now) slice)) (to_wave from all (map (λ s. s.now)
    slice))
    (source_of (sources_of (request slice))) _ _ c.silent-answer.ensures refl c.in-Ok.ensures c.tell_wave.ensures)

pub returns-in-Err : goal.returns-in-Err
returns-in-Err g c =
    let all : Bool = c.args.asked.now.all in
    let from : ℕ = c.args.asked.now.from in
    let request : List (Bor (List ℕ)) → Request =
    λ xs. Wave (record { netlist = c.args.asked.now.netlist.now; report = c.args.asked.now.report.now; all = all; from = from; only = map (λ s. s.now) xs }) in
    let slice : List (Bor (List ℕ)) = c.as_slice-only.result.now in
    noted_with request c.args.asked.now.only.items slice _ (sym c.as_slice-only.ensures.value)
    (walked_stop (charted_of c.args.asked.now.netlist.now c.args.asked.now.report.now (map (λ s. s.now) slice)) (to_wave from all (map (λ s. s.now)
    slice))
    _ (sources_of (request slice)) _ c.trace_sources.ensures c.in-Err.ensures c.stop_at.ensures.reply c.stop_at.ensures.note)
