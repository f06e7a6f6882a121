use Rattle.std.proofs.Common.{ℕ, List, Bor, map, sym, Option}
use Rattle.std.specs.Option.{option_map}
use Rattle.bs_outside.specs.Plan.{Plan}
use Rattle.bs_top_files.specs.Causes.{Case}
use Rattle.bs_inspect_values.proofs.WalkLemmas.{diagnosed_with}
use Rattle.bs_inspect_files.specs.Paged.{PageFiles, signed_step}
use Rattle.bs_inspect_files.proofs.paging.load_signed.Goals as goal

pub returns-in-Some : goal.returns-in-Some
returns-in-Some g c =
    let plan : Option (Bor (List ℕ)) → Plan Case PageFiles =
    λ o. signed_step c.args.net.raw (option_map (λ s. s.now) o) c.args.report.now (map (λ s. s.now) c.args.only.now) in
    diagnosed_with plan _ _ (sym c.in-Some.is) c.load_by_signature.ensures

pub returns-in-None : goal.returns-in-None
returns-in-None g c =
    let plan : Option (Bor (List ℕ)) → Plan Case PageFiles =
    λ o. signed_step c.args.net.raw (option_map (λ s. s.now) o) c.args.report.now (map (λ s. s.now) c.args.only.now) in
    diagnosed_with plan _ _ (sym c.in-None.is) c.load_plain.ensures
