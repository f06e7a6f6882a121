-- What a text is as a signature file, and the lists by it.
use Rattle.std.proofs.Common.{◌≡◌, ◌≢◌, ◌⊎◌, inl, inr, ℕ, ◌<◌, ◌≤◌, Bool, true, false, cond, List, [], length, ap, sym, subst, ◌∙◌}
use Rattle.std.proofs.Common.{Option, Some, None, Result, Ok, Err}
use Rattle.std.specs.Prelude.{IfOk, drop, nat_lt, unwrap_or}
use Rattle.std.proofs.lemmas.Bool.{lt-ltb, le-ltb}
use Rattle.bs_bits.specs.Lines.{lines_of}
use Rattle.bs_bits.specs.Reading.{◌>>=◌}
use Rattle.bs_bits.specs.declared.memory.NoMemory.{NoMemory as Memory}
use Rattle.bs_net.specs.Circuit.{Circuit}
use Rattle.bs_net.specs.Netlist.{circuit_of}
use Rattle.bs_net.specs.Parts.{Parts}
use Rattle.bs_scan.specs.Choice.{Chosen, depth_of, with_depth}
use Rattle.bs_scan.specs.ChoiceText.{chosen, choice_from, choice_of, items_of, keeps_two}
use Rattle.bs_scan.specs.Moments.{Run}
use Rattle.bs_scan.specs.declared.choice.TheConstants.{MAX_SIGNATURE_BYTES}
use Rattle.bs_scan.specs.declared.fault.ChoiceFault.{ChoiceFault}
use Rattle.bs_scan.specs.declared.fault.ChoiceFault.TheVariants.{NoMemory}
use Rattle.bs_inspect_signature.specs.Proposal.{flop_keys, mixed_lines}
use Rattle.bs_inspect_signature.specs.Reading.{AreBy, choice_in, mixed_choice, of_one}
use Rattle.bs_inspect_signature.specs.MomentCount.{AreMomentCounts}
use Rattle.bs_inspect_signature.specs.declared.counting.ListPurpose.TheVariants.{Numbers}
use Rattle.bs_inspect_signature.specs.declared.lists.MomentCount.{MomentCount}

-- ---- a signature

pub text_long : (raw : Parts) (text : List ℕ) → MAX_SIGNATURE_BYTES < length text → None ≡ choice_in raw text
text_long raw text lt =
    ap (λ (b : Bool). cond b None (of_one (choice_of raw (lines_of text)))) (sym (lt-ltb MAX_SIGNATURE_BYTES (length text) lt))

text_short : (raw : Parts) (text : List ℕ) → length text ≤ MAX_SIGNATURE_BYTES → of_one (choice_of raw (lines_of text)) ≡ choice_in raw text
text_short raw text le =
    ap (λ (b : Bool). cond b None (of_one (choice_of raw (lines_of text)))) (sym (le-ltb MAX_SIGNATURE_BYTES (length text) le))

pub text_read : (raw : Parts) (text : List ℕ) (choice once : Chosen) → length text ≤ MAX_SIGNATURE_BYTES → choice_of raw (lines_of text) ≡ Ok choice →
    once ≡ with_depth choice 1 → Some once ≡ choice_in raw text
text_read raw text choice once le e is =
    ap (λ (c : Chosen). Some c) is ∙ (ap of_one (sym e) ∙ text_short raw text le)

none_read : (raw : Parts) (text : List ℕ) (fault : ChoiceFault) (o : Option Chosen) → length text ≤ MAX_SIGNATURE_BYTES →
    (fault ≡ NoMemory) ⊎ (choice_of raw (lines_of text) ≡ Err fault) → fault ≢ NoMemory → o ≡ None → o ≡ choice_in raw text
none_read raw text fault o le (inl e) other is = absurd (other e)
none_read raw text fault o le (inr e) other is = is ∙ (ap of_one (sym e) ∙ text_short raw text le)

pub text_refused : (raw : Parts) (text : List ℕ) (fault : ChoiceFault) (r : Result (Option Chosen) Memory) → length text ≤ MAX_SIGNATURE_BYTES →
    (fault ≡ NoMemory) ⊎ (choice_of raw (lines_of text) ≡ Err fault) → IfOk r (λ choice. choice ≡ None) → IfOk r (λ choice. fault ≢ NoMemory) →
    IfOk r (λ choice. choice ≡ choice_in raw text)
text_refused raw text fault (Ok o) le e none other = none_read raw text fault o le e other none
text_refused raw text fault (Err want) le e none other = tt

-- ---- its width and its depth

some_same : (a b : Chosen) → Some a ≡ Some b → a ≡ b
some_same a b e = ap (λ (o : Option Chosen). unwrap_or o a) e

from_wide : (raw : Parts) (first depth : ℕ) (texts : List (List ℕ)) (choice : Chosen) → Some choice ≡ of_one (choice_from raw first depth texts) →
    choice.width ≡ length (circuit_of raw).flops
from_wide raw first depth texts choice e = by (items_of raw first 1 texts) e
  where
    by : (r : Result (List (List ℕ)) ChoiceFault) → Some choice ≡ of_one (r >>= λ items. Ok (chosen (length raw.flops) depth items)) →
        choice.width ≡ length (circuit_of raw).flops
    by (Ok items) h = ap (λ (c : Chosen). c.width) (some_same choice (with_depth (chosen (length raw.flops) depth items) 1) h)
    by (Err fault) h = absurd cc

read_wide : (raw : Parts) (texts : List (List ℕ)) (choice : Chosen) → Some choice ≡ of_one (choice_of raw texts) → choice.width ≡ length (circuit_of raw).flops
read_wide raw texts choice e = by (keeps_two texts) e
  where
    by : (two : Bool) → Some choice ≡ of_one (cond two (choice_from raw 2 2 (drop 1 texts)) (choice_from raw 1 1 texts)) →
        choice.width ≡ length (circuit_of raw).flops
    by true h = from_wide raw 2 2 (drop 1 texts) choice h
    by false h = from_wide raw 1 1 texts choice h

pub choice_wide : (raw : Parts) (text : List ℕ) (choice : Chosen) → Some choice ≡ choice_in raw text → choice.width ≡ length (circuit_of raw).flops
choice_wide raw text choice e = by (nat_lt MAX_SIGNATURE_BYTES (length text)) e
  where
    by : (b : Bool) → Some choice ≡ cond b None (of_one (choice_of raw (lines_of text))) → choice.width ≡ length (circuit_of raw).flops
    by true h = absurd cc
    by false h = read_wide raw (lines_of text) choice h

pub choice_once : (raw : Parts) (text : List ℕ) (choice : Chosen) → Some choice ≡ choice_in raw text → depth_of choice ≡ 1
choice_once raw text choice e = by (nat_lt MAX_SIGNATURE_BYTES (length text)) e
  where
    once : (r : Result Chosen ChoiceFault) → Some choice ≡ of_one r → depth_of choice ≡ 1
    once (Ok other) h = ap (λ (c : Chosen). c.depth) (some_same choice (with_depth other 1) h)
    once (Err fault) h = absurd cc

    by : (b : Bool) → Some choice ≡ cond b None (of_one (choice_of raw (lines_of text))) → depth_of choice ≡ 1
    by true h = absurd cc
    by false h = once (choice_of raw (lines_of text)) h

-- ---- its lists

pub are_by : (c : Circuit) (runs : List Run) (o : Option Chosen) (choice : Chosen) (lists : List MomentCount) → Some choice ≡ o → AreMomentCounts Numbers c choice runs lists →
    AreBy c runs o lists
are_by c runs o choice lists e counts = subst (λ (p : Option Chosen). AreBy c runs p lists) e counts

pub none_by : (c : Circuit) (runs : List Run) (o : Option Chosen) (lists : List MomentCount) → None ≡ o → lists ≡ [] → AreBy c runs o lists
none_by c runs o lists e is = subst (λ (p : Option Chosen). AreBy c runs p lists) e is

-- ---- a proposal

pub mixed_read : (raw : Parts) (count : ℕ) (text : List ℕ) (o : Option Chosen) → text ≡ mixed_lines (flop_keys raw) count → o ≡ choice_in raw text →
    o ≡ mixed_choice raw count
mixed_read raw count text o e is = is ∙ ap (choice_in raw) e
