use Rattle.std.proofs.Common.{ℕ, List, Option, Bor, sym}
use Rattle.std.specs.Option.{option_map}
use Rattle.bs_outside.specs.Plan.{Plan}
use Rattle.bs_top_files.specs.Causes.{Case}
use Rattle.bs_inspect_values.specs.Dumped.{Dumped, chosen_step, files_in}
use Rattle.bs_inspect_values.proofs.WalkLemmas.{diagnosed_with}
use Rattle.bs_inspect_values.proofs.dumping.load_chosen.Goals as goal

pub returns-in-Some : goal.returns-in-Some
returns-in-Some g c =
    let plan : Option (Bor (List ℕ)) → Plan Case Dumped =
    λ o. chosen_step (files_in c.args.files) c.args.net.now.raw (option_map (λ s. s.now) o) in
    diagnosed_with plan _ _ (sym c.in-Some.is) c.load_by_signature.ensures

pub returns-in-None : goal.returns-in-None
returns-in-None g c =
    let plan : Option (Bor (List ℕ)) → Plan Case Dumped =
    λ o. chosen_step (files_in c.args.files) c.args.net.now.raw (option_map (λ s. s.now) o) in
    diagnosed_with plan _ _ (sym c.in-None.is) c.load_plain.ensures
