-- How the signatures of a moment compare with those of a dump.
use Rattle.std.specs.Prelude.{Bool, true, false, ◌&&◌, List, reverse, Option, Some, None, option_map, if◌then◌else◌}
use Rattle.bs_bits.specs.Bits.{bits_eq}
use Rattle.bs_scan.specs.declared.dump.Dump.{Dump}
use Rattle.bs_call.specs.declared.fit.Fit.{Fit}
use Rattle.bs_call.specs.declared.fit.Fit.TheVariants.{Same, Turned, Other}

-- the same signature is held, or none of both
abbrev pub same_held : Option (List Bool) → Option (List Bool) → Bool
same_held None None = true
same_held None (Some b) = false
same_held (Some a) None = false
same_held (Some a) (Some b) = bits_eq a b

-- a moment, by its dump, has the signatures of another dump
abbrev pub holds_same : Dump → Dump → Bool
holds_same there dump = same_held there.stored dump.stored && same_held there.older dump.older

-- it has those, each read backwards
abbrev pub holds_turned : Dump → Dump → Bool
holds_turned there dump = same_held there.stored (option_map reverse dump.stored) && same_held there.older (option_map reverse dump.older)

abbrev pub fit_of : Dump → Dump → Fit
fit_of there dump = if holds_same there dump then Same else (if holds_turned there dump then Turned else Other)
