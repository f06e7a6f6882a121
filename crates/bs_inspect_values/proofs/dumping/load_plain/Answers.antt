use Rattle.std.proofs.Common.{ℕ, List, Option, None}
use Rattle.std.specs.Option.{option_map}
use Rattle.bs_outside.specs.Plan.{Plan, end}
use Rattle.bs_top_files.specs.Causes.{Case}
use Rattle.bs_inspect_report.specs.Keys.{flop_keys}
use Rattle.bs_outside.proofs.TellingLemmas.{diagnosed_end, diagnosed_stop, diagnosed_then}
use Rattle.bs_vcd.specs.declared.cycles.MarkedStates.{MarkedStates}
use Rattle.bs_inspect_values.specs.Dumped.{Dumped, Taking, taken_of}
use Rattle.bs_inspect_values.proofs.WalkLemmas.{diagnosed_with}
use Rattle.bs_inspect_values.proofs.dumping.load_plain.Goals as goal

pub returns-in-Ok : goal.returns-in-Ok
returns-in-Ok g c =
    let f : MarkedStates → Plan Case Dumped = λ taken. end record { choice = None; taken = taken } in
    let keys : List (List ℕ) = flop_keys c.args.net.now.raw in
    let names : Option (List ℕ) = option_map (λ s. s.now) c.args.files.names in
    diagnosed_then f (diagnosed_with (λ (t : Taking). taken_of keys names t) _ _ c.taking_of-taking.ensures c.in-Ok.ensures.walks)
    diagnosed_end

pub returns-in-Err : goal.returns-in-Err
returns-in-Err g c =
    let f : MarkedStates → Plan Case Dumped = λ taken. end record { choice = None; taken = taken } in
    let keys : List (List ℕ) = flop_keys c.args.net.now.raw in
    let names : Option (List ℕ) = option_map (λ s. s.now) c.args.files.names in
    diagnosed_stop f (diagnosed_with (λ (t : Taking). taken_of keys names t) _ _ c.taking_of-taking.ensures c.in-Err.ensures.walks)
