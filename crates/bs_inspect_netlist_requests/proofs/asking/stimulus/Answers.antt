use Rattle.std.proofs.Common.{ℕ, Bor, List, Option, map, refl, sym}
use Rattle.std.specs.Option.{option_map}
use Rattle.bs_call.proofs.AnswerLemmas.{diagnosed_as, diagnosed_work}
use Rattle.bs_inspect_values.specs.Simulated.{simulated_of}
use Rattle.bs_inspect_words.specs.Request.{Request, Stimulus}
use Rattle.bs_inspect_plans.specs.Said.{WorkSaid}
use Rattle.bs_inspect_plans.specs.Sources.{source_of, sources_of}
use Rattle.bs_inspect_plans.specs.Work.{to_runs}
use Rattle.bs_inspect_plans.proofs.WorkLemmas.{is_work, noted_with, walked_stop}
use Rattle.bs_inspect_netlist_requests.proofs.asking.stimulus.Goals as goal

pub returns-in-Ok : goal.returns-in-Ok
returns-in-Ok g c =
    let clock : List ℕ = c.args.asked.now.clock.now in
    let scope : Option (List ℕ) = option_map (λ s. s.now) c.args.asked.now.scope in
    let names : Option (List ℕ) = option_map (λ s. s.now) c.args.asked.now.names in
    let request : List (Bor (List ℕ)) → Request =
    λ xs. Stimulus (record { netlist = c.args.asked.now.netlist.now; vcds = map (λ s. s.now) xs; clock = clock; scope = scope; names = names }) in
    let slice : List (Bor (List ℕ)) = c.as_slice-vcds.result.now in
    noted_with request c.args.asked.now.vcds.items slice _ (sym c.as_slice-vcds.ensures.value)
    (diagnosed_work WorkSaid (source_of (sources_of (request slice))) _ is_work
    (diagnosed_as {plan = simulated_of c.args.asked.now.netlist.now names (record { clock = clock; scope = scope }) (map (λ s. s.now) slice)} (to_runs clock) c.in-Ok.ensures)
    c.runs_answer.ensures.reply c.runs_answer.ensures.note)

pub returns-in-Err : goal.returns-in-Err
returns-in-Err g c =
    let clock : List ℕ = c.args.asked.now.clock.now in
    let scope : Option (List ℕ) = option_map (λ s. s.now) c.args.asked.now.scope in
    let names : Option (List ℕ) = option_map (λ s. s.now) c.args.asked.now.names in
    let request : List (Bor (List ℕ)) → Request =
    λ xs. Stimulus (record { netlist = c.args.asked.now.netlist.now; vcds = map (λ s. s.now) xs; clock = clock; scope = scope; names = names }) in
    let slice : List (Bor (List ℕ)) = c.as_slice-vcds.result.now in
    noted_with request c.args.asked.now.vcds.items slice _ (sym c.as_slice-vcds.ensures.value)
    (walked_stop (simulated_of c.args.asked.now.netlist.now names (record { clock = clock; scope = scope }) (map (λ s. s.now) slice))
    (to_runs clock) (sources_of (request slice)) (sources_of (request slice)) _ refl c.in-Err.ensures
    c.stop_values.ensures.reply c.stop_values.ensures.note)
