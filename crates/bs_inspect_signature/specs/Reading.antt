-- The signature that a proposal is, and the lists by it.
use Rattle.std.specs.Prelude.{◌≡◌, ℕ, nat_lt, List, [], length, Option, Some, None, Result, Ok, Err, if◌then◌else◌}
use Rattle.bs_bits.specs.Lines.{lines_of}
use Rattle.bs_net.specs.Circuit.{Circuit}
use Rattle.bs_net.specs.Parts.{Parts}
use Rattle.bs_scan.specs.Choice.{Chosen, with_depth}
use Rattle.bs_scan.specs.ChoiceText.{choice_of}
use Rattle.bs_scan.specs.Moments.{Run}
use Rattle.bs_scan.specs.declared.choice.TheConstants.{MAX_SIGNATURE_BYTES}
use Rattle.bs_scan.specs.declared.fault.ChoiceFault.{ChoiceFault}
use Rattle.bs_inspect_signature.specs.Proposal.{flop_keys, mixed_lines}
use Rattle.bs_inspect_signature.specs.MomentCount.{AreMomentCounts}
use Rattle.bs_inspect_signature.specs.declared.counting.ListPurpose.TheVariants.{Numbers}
use Rattle.bs_inspect_signature.specs.declared.lists.MomentCount.{MomentCount}

-- the signature of one state
abbrev pub of_one : Result Chosen ChoiceFault → Option Chosen
of_one (Ok choice) = Some (with_depth choice 1)
of_one (Err fault) = None

-- the signature that a text is as a file, if it is one
abbrev pub choice_in : Parts → List ℕ → Option Chosen
choice_in raw text = if nat_lt MAX_SIGNATURE_BYTES (length text) then None else of_one (choice_of raw (lines_of text))

-- the signature that a proposal of so many items is, if its lines are one
abbrev pub mixed_choice : Parts → ℕ → Option Chosen
mixed_choice raw count = choice_in raw (mixed_lines (flop_keys raw) count)

-- the lists by a signature, and none where there is none
abbrev pub AreBy : Circuit → List Run → Option Chosen → List MomentCount → Type 0
AreBy c runs None lists = lists ≡ []
AreBy c runs (Some choice) lists = AreMomentCounts Numbers c choice runs lists
