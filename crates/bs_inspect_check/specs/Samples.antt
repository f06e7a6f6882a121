-- What a VCD has of the flip-flops at the end of each cycle (docs/FORMATS.md, "Value changes (VCD)").
use Rattle.std.specs.Prelude.{Bool, List, [], ◌∷◌, ◌++◌, map, filter, Option, Some, None}
use Rattle.std.specs.List.{flat_map}
use Rattle.bs_vcd_header.specs.declared.sources.BitSource.{BitSource}
use Rattle.bs_vcd.specs.History.{ValueChange, Moment}
use Rattle.bs_vcd.specs.Levels.{Known, known_by, level}
use Rattle.bs_vcd.specs.Sampled.{Cut, cuts_from, is_edge}
use Rattle.bs_inspect_check.specs.declared.level.FlopLevel.{FlopLevel}
use Rattle.bs_inspect_check.specs.declared.level.FlopLevel.TheVariants.{Missing, Unknown, Known as Level}

-- ---- the end of a cycle

abbrev pub known_level : Option Bool → FlopLevel
known_level None = Unknown
known_level (Some bit) = Level bit

-- what is known of a flip-flop: nothing where the text has no such variable, or where the bit is `x`, `z` or not yet given
abbrev pub flop_level : Known → Option BitSource → FlopLevel
flop_level known None = Missing
flop_level known (Some source) = known_level (level known source)

-- what is known of each flip-flop
abbrev pub levels_by : List (Option BitSource) → Known → List FlopLevel
levels_by sources known = map (flop_level known) sources

-- what is known just before a moment
abbrev pub levels_before : List (Option BitSource) → Cut → List FlopLevel
levels_before sources cut = levels_by sources (known_by cut.earlier)

-- all changes of moments
abbrev pub changes_of : List Moment → List ValueChange
changes_of moments = flat_map (λ m. m.changes) moments

-- what is known at the end of each cycle that a rising edge of the clock ends
abbrev pub edge_levels : BitSource → List (Option BitSource) → List ValueChange → List Moment → List (List FlopLevel)
edge_levels clock sources earlier moments = map (levels_before sources) (filter (is_edge clock) (cuts_from earlier moments))

-- What is known of the flip-flops at the end of each cycle: each rising edge of the clock ends one, and the end of the text the last.
abbrev pub samples : BitSource → List (Option BitSource) → List Moment → List (List FlopLevel)
samples clock sources moments =
    edge_levels clock sources [] moments ++ levels_by sources (known_by (changes_of moments)) ∷ []
