-- The lines of the first flip-flops that differ, one after another.
use Rattle.std.specs.Prelude.{ℕ, ◌&&◌, nat_lt, Bool, List, [], if◌then◌else◌}
use Rattle.bs_inspect_near.specs.declared.text.TheConstants.{MAX_PLACES}

-- the line of a flip-flop that is told, where not too many are told before it
abbrev pub told_piece : (ℕ → List ℕ) → Bool → ℕ → ℕ → List ℕ
told_piece line_of is told place = if is && nat_lt told MAX_PLACES then line_of place else []
