-- Which flip-flops are there, one after another.
use Rattle.std.proofs.Common.{◌≡◌, ℕ, ◌<◌, ◌+◌, Bool, List, [], ◌∷◌, ◌++◌, length, map, take, get_or, Option, sym, ◌∙◌}
use Rattle.std.proofs.lemmas.List.{map_more}
use Rattle.bs_vcd_header.specs.declared.sources.BitSource.{BitSource}
use Rattle.bs_vcd.specs.Found.{is_found}

-- a source more
pub found_more : (sources : List (Option BitSource)) (i : ℕ) (d : Option BitSource) (bits after : List Bool) (b : Bool) → i < length sources →
    bits ≡ map is_found (take i sources) → b ≡ is_found (get_or sources i d) → after ≡ bits ++ b ∷ [] → after ≡ map is_found (take (i + 1) sources)
found_more sources i d bits after b lt e is goes = goes ∙ ((λ j. e j ++ is j ∷ []) ∙ sym (map_more is_found sources i d lt))
