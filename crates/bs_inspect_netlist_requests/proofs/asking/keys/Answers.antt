use Rattle.bs_inspect_files.specs.FlopFiles.{named_of}
use Rattle.std.proofs.Common.{ℕ, Bor, List, map, sym, refl}
use Rattle.bs_inspect_words.specs.Request.{Request, Keys}
use Rattle.bs_inspect_plans.specs.Sources.{source_of, sources_of}
use Rattle.bs_inspect_plans.specs.Work.{to_keys}
use Rattle.bs_inspect_plans.proofs.WorkLemmas.{noted_with, walked_done, walked_stop}
use Rattle.bs_inspect_netlist_requests.proofs.asking.keys.Goals as goal

pub returns-in-Ok : goal.returns-in-Ok
returns-in-Ok g c =
    let request : List (Bor (List ℕ)) → Request = λ xs. Keys (record { netlist = c.args.asked.now.netlist.now; names = map (λ s. s.now) xs }) in
    let slice : List (Bor (List ℕ)) = c.as_slice-names.result.now in
    noted_with request c.args.asked.now.names.items slice _ (sym c.as_slice-names.ensures.value)
    (walked_done (named_of c.args.asked.now.netlist.now (map (λ s. s.now) slice)) (to_keys (map (λ s. s.now)
    slice))
    (source_of (sources_of (request slice))) _ _ c.silent.ensures refl c.in-Ok.ensures c.tell_keys.ensures)

pub returns-in-Err : goal.returns-in-Err
returns-in-Err g c =
    let request : List (Bor (List ℕ)) → Request = λ xs. Keys (record { netlist = c.args.asked.now.netlist.now; names = map (λ s. s.now) xs }) in
    let slice : List (Bor (List ℕ)) = c.as_slice-names.result.now in
    noted_with request c.args.asked.now.names.items slice _ (sym c.as_slice-names.ensures.value)
    (walked_stop (named_of c.args.asked.now.netlist.now (map (λ s. s.now) slice)) (to_keys (map (λ s. s.now)
    slice))
    _ (sources_of (request slice)) _ c.netlist_source.ensures c.in-Err.ensures c.stop_at.ensures.reply c.stop_at.ensures.note)
