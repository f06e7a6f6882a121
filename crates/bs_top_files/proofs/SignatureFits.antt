-- What is read of a signature has the netlist's width.
use Rattle.std.proofs.Common.{◌≡◌, ℕ, Bool, true, false, cond, List, length, Result, Ok, Err, sym, ap}
use Rattle.std.specs.Prelude.{drop}
use Rattle.bs_net.specs.Parts.{Parts}
use Rattle.bs_scan.specs.declared.fault.ChoiceFault.{ChoiceFault}
use Rattle.bs_scan.specs.Choice.{Chosen}
use Rattle.bs_bits.specs.Reading.{◌>>=◌}
use Rattle.bs_scan.specs.ChoiceText.{items_of, chosen, choice_from, keeps_two}
use Rattle.bs_top_files.specs.Readings.{choice_in}

abbrev ok_in : Chosen → Result Chosen ChoiceFault
ok_in c = Ok c

from_fits : (raw : Parts) (first depth : ℕ) (texts : List (List ℕ)) (choice : Chosen) → choice_from raw first depth texts ≡ Ok choice →
    choice.width ≡ length raw.flops
from_fits raw first depth texts choice e = by (items_of raw first 1 texts) e
  where
    ok_same : (a b : Chosen) → ok_in a ≡ ok_in b → a ≡ b
    ok_same a b h = cc

    by : (r : Result (List (List ℕ)) ChoiceFault) → (r >>= λ items. Ok (chosen (length raw.flops) depth items)) ≡ Ok choice → choice.width ≡ length raw.flops
    by (Ok items) h = sym (ap (λ (c : Chosen). c.width) (ok_same (chosen (length raw.flops) depth items) choice h))
    by (Err fault) h = absurd (cc)

pub signature_fits : (raw : Parts) (texts : List (List ℕ)) (choice : Chosen) → choice_in raw texts ≡ Ok choice → choice.width ≡ length raw.flops
signature_fits raw texts choice e = by (keeps_two texts) e
  where
    by : (two : Bool) → cond two (choice_from raw 2 2 (drop 1 texts)) (choice_from raw 1 1 texts) ≡ ok_in choice → choice.width ≡ length raw.flops
    by true h = from_fits raw 2 2 (drop 1 texts) choice h
    by false h = from_fits raw 1 1 texts choice h
