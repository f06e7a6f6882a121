-- A proposal with its lists.
use Rattle.std.proofs.Common.{◌≡◌, ℕ, ◌≤◌, List, ◌++◌, length, ap, subst, ◌∙◌, arith, min, Option, Some, None}
use Rattle.bs_net.specs.Circuit.{Circuit}
use Rattle.bs_net.specs.Netlist.{circuit_of}
use Rattle.bs_net.specs.Parts.{Parts}
use Rattle.bs_stim.specs.Runs.{Stimulus, inputs_of}
use Rattle.bs_scan.specs.Choice.{Chosen}
use Rattle.bs_scan.specs.Moments.{Run}
use Rattle.bs_inspect_signature.specs.Enough.{TellsEnough}
use Rattle.bs_inspect_signature.specs.Lines.{enough_line, lists_text}
use Rattle.bs_inspect_signature.specs.Reading.{AreBy, mixed_choice}
use Rattle.bs_inspect_signature.specs.Signature.{AppendsEnough, AppendsLists, TellsSignature, proposal_text}
use Rattle.bs_inspect_signature.specs.Spread.{later_moments}
use Rattle.bs_inspect_signature.specs.Tried.{tried}
use Rattle.bs_inspect_signature.specs.declared.lists.MomentCount.{MomentCount}
use Rattle.bs_inspect_signature.specs.declared.enough.EnoughItems.{EnoughItems}
use Rattle.bs_inspect_signature.specs.declared.spread.TheConstants.{MAX_MOMENTS}

pub by_few : (c : Circuit) (runs : List Run) (o : Option Chosen) (lists : List MomentCount) → AreBy c runs o lists → length lists ≤ MAX_MOMENTS
by_few c runs None lists e = omega (arith, ap length e)
by_few c runs (Some choice) lists says =
    let few : length lists ≤ min (length (later_moments runs)) MAX_MOMENTS = says.few in omega (arith, few)

pub appended_lists : (raw : Parts) (s : Stimulus) (bits n width : ℕ) (lists : List MomentCount) (old new : List ℕ) → n ≡ min bits width →
    width ≡ length raw.flops → AreBy (circuit_of raw) (inputs_of s) (mixed_choice raw bits) lists → new ≡ old ++ lists_text n lists →
    AppendsLists raw s bits old new
appended_lists raw s bits n width lists old new e wide by_it says = record {
  lists = lists;
  by_it = by_it;
  says = says ∙ ap (λ (k : ℕ). old ++ lists_text k lists) (e ∙ ap (min bits) wide);
}

pub appended_enough : (raw : Parts) (s : Stimulus) (enough : EnoughItems) (old new : List ℕ) → TellsEnough raw s (tried (length raw.flops)) enough →
    new ≡ old ++ enough_line enough → AppendsEnough raw s old new
appended_enough raw s enough old new told says = record { enough = enough; told = told; says = says }

pub tells : (raw : Parts) (s : Stimulus) (bits : ℕ) (proposal listed text : List ℕ) → proposal ≡ proposal_text raw bits →
    AppendsLists raw s bits proposal listed → AppendsEnough raw s listed text → TellsSignature raw s bits text
tells raw s bits proposal listed text e lists enough = record {
  listed = listed;
  lists = subst (λ (p : List ℕ). AppendsLists raw s bits p listed) e lists;
  enough = enough;
}
