-- The flip-flops that are open in one state more.
use Rattle.std.proofs.Common.{◌≡◌, ℕ, ◌+◌, Bool, List, [], ◌∷◌, ◌++◌, map, refl}
use Rattle.std.specs.List.{range_with_len}
use Rattle.bs_report.specs.declared.report.Report.{Report}
use Rattle.bs_inspect_report.proofs.PieceLemmas.{placed_more}
use Rattle.bs_inspect_page.specs.Opens.{open_of, step_of}

pub opens_more : (r : Report) (n : ℕ) (opens after : List (List Bool)) → opens ≡ map (λ i. open_of (step_of r i)) (range_with_len 0 n) →
    after ≡ opens ++ open_of (step_of r n) ∷ [] → after ≡ map (λ i. open_of (step_of r i)) (range_with_len 0 (n + 1))
opens_more r n opens after e g = placed_more (λ (i : ℕ). open_of (step_of r i)) n opens after (open_of (step_of r n)) e refl g
