use Rattle.bs_inspect_seen.specs.Taken.{named_of}
use Rattle.std.proofs.Common.{ℕ, Bor, List, map, sym, refl}
use Rattle.bs_inspect_words.specs.Request.{Request, Seen}
use Rattle.bs_inspect_plans.specs.Sources.{source_of, sources_of}
use Rattle.bs_inspect_plans.specs.Work.{to_seen}
use Rattle.bs_inspect_plans.proofs.WorkLemmas.{noted_with, walked_done, walked_stop}
use Rattle.bs_inspect_netlist_requests.proofs.asking.seen.Goals as goal

pub returns-in-Ok : goal.returns-in-Ok
returns-in-Ok g c =
    let request : List (Bor (List ℕ)) → Request = λ xs. Seen (record { netlist = c.args.asked.now.netlist.now; values = map (λ s. s.now) xs }) in
    let slice : List (Bor (List ℕ)) = c.as_slice-values.result.now in
    noted_with request c.args.asked.now.values.items slice _ (sym c.as_slice-values.ensures.value)
    (walked_done (named_of c.args.asked.now.netlist.now (map (λ s. s.now) slice)) to_seen
    (source_of (sources_of (request slice))) _ _ c.silent.ensures refl c.in-Ok.ensures c.tell_seen.ensures)

pub returns-in-Err : goal.returns-in-Err
returns-in-Err g c =
    let request : List (Bor (List ℕ)) → Request = λ xs. Seen (record { netlist = c.args.asked.now.netlist.now; values = map (λ s. s.now) xs }) in
    let slice : List (Bor (List ℕ)) = c.as_slice-values.result.now in
    noted_with request c.args.asked.now.values.items slice _ (sym c.as_slice-values.ensures.value)
    (walked_stop (named_of c.args.asked.now.netlist.now (map (λ s. s.now) slice)) to_seen
    _ (sources_of (request slice)) _ c.netlist_source.ensures c.in-Err.ensures c.stop_at.ensures.reply c.stop_at.ensures.note)
