-- A trail as the log sees it.
use Rattle.std.specs.Prelude.{Bool, true, false, List, map, is_some}
use Rattle.bs_watch.specs.declared.visit.Outcome.{Outcome}
use Rattle.bs_watch.specs.declared.visit.Outcome.TheVariants.{Quiet, Conflict}
use Rattle.bs_watch.specs.Places.{Place}
use Rattle.bs_solve_lemmas.specs.Place.{LoggedPlace}

abbrev pub seen_place : Place → LoggedPlace
seen_place p = record { literal = p.literal; implied = is_some p.reason }

abbrev pub seen : List Place → List LoggedPlace
seen places = map seen_place places

-- whether no clause is false
abbrev pub is_quiet : Outcome → Bool
is_quiet Quiet = true
is_quiet (Conflict r) = false
