-- The proposal of a signature, what lists of predecessors it leads to, and how many items are enough (docs/FORMATS.md, "Texts of
-- `backspace_inspect`").
use Rattle.std.specs.Prelude.{◌≡◌, ℕ, min, List, ◌++◌, length, codes}
use Rattle.bs_bits.specs.Lines.{line}
use Rattle.bs_net.specs.Netlist.{circuit_of}
use Rattle.bs_net.specs.Parts.{Parts}
use Rattle.bs_stim.specs.Runs.{Stimulus, inputs_of}
use Rattle.bs_inspect_signature.specs.Proposal.{flop_keys, mixed_lines}
use Rattle.bs_inspect_signature.specs.Enough.{TellsEnough}
use Rattle.bs_inspect_signature.specs.Lines.{enough_line, lists_text}
use Rattle.bs_inspect_signature.specs.Reading.{AreBy, mixed_choice}
use Rattle.bs_inspect_signature.specs.Tried.{tried}
use Rattle.bs_inspect_signature.specs.declared.enough.EnoughItems.{EnoughItems}
use Rattle.bs_inspect_signature.specs.declared.lists.MomentCount.{MomentCount}

-- a proposal of so many items
abbrev pub proposal_text : Parts → ℕ → List ℕ
proposal_text raw bits = line (codes "choice mixed") ++ mixed_lines (flop_keys raw) bits

-- the lists by it, behind a text
pub record AppendsLists (raw : Parts) (stimulus : Stimulus) (bits : ℕ) (old new : List ℕ) : Type 0 where
  pub lists : List MomentCount
  pub by_it : AreBy (circuit_of raw) (inputs_of stimulus) (mixed_choice raw bits) lists
  pub says : new ≡ old ++ lists_text (min bits (length raw.flops)) lists

-- how many items are enough, behind a text
pub record AppendsEnough (raw : Parts) (stimulus : Stimulus) (old new : List ℕ) : Type 0 where
  pub enough : EnoughItems
  pub told : TellsEnough raw stimulus (tried (length raw.flops)) enough
  pub says : new ≡ old ++ enough_line enough

-- a proposal of so many items, the lists by it, and how many items are enough
pub record TellsSignature (raw : Parts) (stimulus : Stimulus) (bits : ℕ) (text : List ℕ) : Type 0 where
  pub listed : List ℕ
  pub lists : AppendsLists raw stimulus bits (proposal_text raw bits) listed
  pub enough : AppendsEnough raw stimulus listed text
