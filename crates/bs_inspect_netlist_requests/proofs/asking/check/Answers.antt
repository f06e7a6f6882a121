use Rattle.std.proofs.Common.{ℕ, Bor, List, Option, map, refl, sym}
use Rattle.std.specs.Option.{option_map}
use Rattle.bs_inspect_files.specs.Checked.{checked_of}
use Rattle.bs_inspect_words.specs.Request.{Request, Check}
use Rattle.bs_inspect_plans.specs.Sources.{source_of, sources_of}
use Rattle.bs_inspect_plans.specs.Work.{to_check}
use Rattle.bs_inspect_plans.proofs.WorkLemmas.{noted_with, walked_done, walked_stop}
use Rattle.bs_inspect_netlist_requests.proofs.asking.check.Goals as goal

pub returns-in-Ok : goal.returns-in-Ok
returns-in-Ok g c =
    let clock : Option (List ℕ) = option_map (λ s. s.now) c.args.asked.now.clock in
    let scope : Option (List ℕ) = option_map (λ s. s.now) c.args.asked.now.scope in
    let names : Option (List ℕ) = option_map (λ s. s.now) c.args.asked.now.names in
    let request : List (Bor (List ℕ)) → Request =
    λ xs. Check (record { netlist = c.args.asked.now.netlist.now; runs = c.args.asked.now.runs.now; vcds = map (λ s. s.now) xs; clock = clock; scope = scope; names = names }) in
    let slice : List (Bor (List ℕ)) = c.as_slice-vcds.result.now in
    noted_with request c.args.asked.now.vcds.items slice _ (sym c.as_slice-vcds.ensures.value)
    (walked_done (checked_of (record { netlist = c.args.asked.now.netlist.now; stimulus = c.args.asked.now.runs.now; clock = clock; scope = scope; names = names }) (map (λ s. s.now) slice))
    to_check (source_of (sources_of (request slice))) _ _ c.silent.ensures refl c.in-Ok.ensures c.tell_check.ensures)

pub returns-in-Err : goal.returns-in-Err
returns-in-Err g c =
    let clock : Option (List ℕ) = option_map (λ s. s.now) c.args.asked.now.clock in
    let scope : Option (List ℕ) = option_map (λ s. s.now) c.args.asked.now.scope in
    let names : Option (List ℕ) = option_map (λ s. s.now) c.args.asked.now.names in
    let request : List (Bor (List ℕ)) → Request =
    λ xs. Check (record { netlist = c.args.asked.now.netlist.now; runs = c.args.asked.now.runs.now; vcds = map (λ s. s.now) xs; clock = clock; scope = scope; names = names }) in
    let slice : List (Bor (List ℕ)) = c.as_slice-vcds.result.now in
    noted_with request c.args.asked.now.vcds.items slice _ (sym c.as_slice-vcds.ensures.value)
    (walked_stop (checked_of (record { netlist = c.args.asked.now.netlist.now; stimulus = c.args.asked.now.runs.now; clock = clock; scope = scope; names = names }) (map (λ s. s.now) slice))
    to_check (sources_of (request slice)) (sources_of (request slice)) _ refl c.in-Err.ensures c.stop_check.ensures.reply c.stop_check.ensures.note)
