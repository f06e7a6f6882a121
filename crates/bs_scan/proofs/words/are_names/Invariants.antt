use Rattle.std.proofs.Common.{◌≡◌, length}
use Rattle.std.specs.Prelude.{option_map}
use Rattle.std.specs.List.{list_all}
use Rattle.bs_bits.specs.Lines.{words_of, is_name}
use Rattle.bs_scan.specs.Reading.{words_left}
use Rattle.bs_scan.proofs.words.are_names.Given as goal

abbrev pub invariant-words : goal.invariant-words
invariant-words l = list_all is_name (words_of l.line) ≡ list_all is_name (words_left (option_map (λ rest. rest.now) l.behind))

abbrev pub decreases-words : goal.decreases-words
decreases-words l = length (words_left (option_map (λ rest. rest.now) l.behind))
