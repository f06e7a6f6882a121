use Rattle.std.proofs.Common.{◌≡◌, ◌<◌, ◌≤◌, ◌+◌, length}
use Rattle.std.specs.Prelude.{All}
use Rattle.bs_bits.specs.Lines.{lines_of}
use Rattle.bs_scan.specs.declared.choice.TheConstants.{MAX_ITEMS}
use Rattle.bs_scan.specs.Choice.{numbers_of}
use Rattle.bs_scan.specs.ChoiceText.{items_of}
use Rattle.bs_scan.specs.Reading.{with_front, bytes_in}
use Rattle.bs_scan.proofs.choice_text.read_items.Given as goal

abbrev pub invariant-lines : goal.invariant-lines
invariant-lines l = record {
  whole : items_of l.flops l.first 1 (lines_of l.bytes) ≡ with_front l.items (items_of l.flops l.at l.number (lines_of l.rest));
  placed : l.at ≡ l.first + length l.items;
  numbered : l.number ≡ 1 + length l.items;
  few : length l.items ≤ MAX_ITEMS;
  range : All (λ item. All (λ flop. flop < length l.flops.flops) item) l.items;
  bytes : numbers_of l.items + bytes_in (lines_of l.rest) ≤ bytes_in (lines_of l.bytes);
}

abbrev pub decreases-lines : goal.decreases-lines
decreases-lines l = length (lines_of l.rest)
