use Rattle.bs_inspect_files.specs.Paged.{PageFiles, page_files_of}
use Rattle.std.proofs.Common.{ℕ, Bor, List, map, sym, refl, Option}
use Rattle.std.specs.Option.{option_map}
use Rattle.bs_inspect_words.specs.Request.{Request, Page}
use Rattle.bs_inspect_plans.specs.Asked.{page_for}
use Rattle.bs_inspect_plans.specs.Sources.{source_of, sources_of}
use Rattle.bs_inspect_plans.specs.Work.{Work, to_page}
use Rattle.bs_inspect_plans.proofs.WorkLemmas.{noted_with, walked_done, walked_stop}
use Rattle.bs_inspect_report_requests.proofs.asking.page.Goals as goal

pub returns-in-Ok : goal.returns-in-Ok
returns-in-Ok g c =
    let signature : Option (List ℕ) = option_map (λ s. s.now) c.args.asked.now.signature in
    let request : List (Bor (List ℕ)) → Request =
    λ xs. Page (record { netlist = c.args.asked.now.netlist.now; report = c.args.asked.now.report.now; signature = signature; most = c.args.asked.now.most; only = map (λ s. s.now) xs }) in
    let slice : List (Bor (List ℕ)) = c.as_slice-only.result.now in
    let work : PageFiles → Work =
    λ f. to_page (page_for c.args.asked.now.netlist.now c.args.asked.now.report.now signature f.choice (map (λ s. s.now) slice) c.args.asked.now.most) f.trace_files in
    noted_with request c.args.asked.now.only.items slice _ (sym c.as_slice-only.ensures.value)
    (walked_done (page_files_of c.args.asked.now.netlist.now signature c.args.asked.now.report.now (map (λ s. s.now) slice))
    work (source_of (sources_of (request slice))) _ _ c.silent-answer.ensures refl c.in-Ok.ensures c.tell_page.ensures)

pub returns-in-Err : goal.returns-in-Err
returns-in-Err g c =
    let signature : Option (List ℕ) = option_map (λ s. s.now) c.args.asked.now.signature in
    let request : List (Bor (List ℕ)) → Request =
    λ xs. Page (record { netlist = c.args.asked.now.netlist.now; report = c.args.asked.now.report.now; signature = signature; most = c.args.asked.now.most; only = map (λ s. s.now) xs }) in
    let slice : List (Bor (List ℕ)) = c.as_slice-only.result.now in
    let work : PageFiles → Work =
    λ f. to_page (page_for c.args.asked.now.netlist.now c.args.asked.now.report.now signature f.choice (map (λ s. s.now) slice) c.args.asked.now.most) f.trace_files in
    noted_with request c.args.asked.now.only.items slice _ (sym c.as_slice-only.ensures.value)
    (walked_stop (page_files_of c.args.asked.now.netlist.now signature c.args.asked.now.report.now (map (λ s. s.now) slice))
    work _ (sources_of (request slice)) _ c.page_sources.ensures c.in-Err.ensures c.stop_at.ensures.reply c.stop_at.ensures.note)
