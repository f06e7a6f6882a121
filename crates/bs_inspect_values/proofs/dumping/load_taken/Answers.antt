use Rattle.std.proofs.Common.{ℕ, List, Option, Bor, sym}
use Rattle.std.specs.Option.{option_map}
use Rattle.bs_outside.specs.Plan.{Plan}
use Rattle.bs_top_files.specs.Causes.{Case}
use Rattle.bs_inspect_report.specs.Keys.{flop_keys}
use Rattle.bs_vcd.specs.declared.cycles.MarkedStates.{MarkedStates}
use Rattle.bs_inspect_values.specs.Dumped.{taken_of, taking_in}
use Rattle.bs_inspect_values.proofs.WalkLemmas.{diagnosed_with}
use Rattle.bs_inspect_values.proofs.dumping.load_taken.Goals as goal

pub returns-in-Some-clause-walks : goal.returns-in-Some-clause-walks
returns-in-Some-clause-walks g c =
    let plan : Option (Bor (List ℕ)) → Plan Case MarkedStates =
    λ o. taken_of (flop_keys c.args.net.now.raw) (option_map (λ s. s.now) o) (taking_in c.args.taking) in
    diagnosed_with plan _ _ (sym c.in-Some.is) c.load_named.ensures.walks

pub returns-in-None-clause-walks : goal.returns-in-None-clause-walks
returns-in-None-clause-walks g c =
    let plan : Option (Bor (List ℕ)) → Plan Case MarkedStates =
    λ o. taken_of (flop_keys c.args.net.now.raw) (option_map (λ s. s.now) o) (taking_in c.args.taking) in
    diagnosed_with plan _ _ (sym c.in-None.is) c.load_keyed.ensures.walks
