use Rattle.std.proofs.Common.{◌≡◌, ◌<◌, ◌+◌, length}
use Rattle.std.specs.Prelude.{All, IsTrue, option_map}
use Rattle.std.specs.List.{list_all}
use Rattle.bs_bits.specs.Lines.{words_of, is_name}
use Rattle.bs_scan.specs.ChoiceText.{flops_of}
use Rattle.bs_scan.specs.Reading.{words_left, with_front}
use Rattle.bs_scan.proofs.choice_text.read_flops.Given as goal

abbrev pub invariant-names : goal.invariant-names
invariant-names l = record {
  whole : flops_of l.flops l.number (words_of l.names) ≡ with_front l.item (flops_of l.flops l.number (words_left (option_map (λ rest. rest.now) l.behind)));
  named : IsTrue (list_all is_name (words_left (option_map (λ rest. rest.now) l.behind)));
  range : All (λ flop. flop < length l.flops.flops) l.item;
  count : length l.item + length (words_left (option_map (λ rest. rest.now) l.behind)) ≡ length (words_of l.names);
}

abbrev pub decreases-names : goal.decreases-names
decreases-names l = length (words_left (option_map (λ rest. rest.now) l.behind))
