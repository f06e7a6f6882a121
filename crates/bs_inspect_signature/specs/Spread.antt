-- Moments of recorded runs behind their fronts, and some of them, spread evenly.
use Rattle.std.specs.Prelude.{ℕ, ◌+◌, ◌-◌, ◌*◌, ◌/◌, ◌%◌, ◌==◌, min, List, [], ◌∷◌, ◌++◌, length, map, slice_index_or, if◌then◌else◌}
use Rattle.std.specs.List.{range_with_len}
use Rattle.bs_scan.specs.Moments.{Moment, Run, moment}
use Rattle.bs_inspect_signature.specs.declared.spread.TheConstants.{FRONT_PART}

-- how many cycles a run's front has: there its reset may be held, under which a state has lost nearly all bits
abbrev pub front : Run → ℕ
front run = length run / FRONT_PART

-- how many it has behind its front
abbrev pub count_behind : Run → ℕ
count_behind run = length run - front run

-- the moments of a run with a number behind its front
abbrev pub later_of : ℕ → Run → List Moment
later_of number run = map (moment number) (range_with_len (front run + 1) (count_behind run))

-- those of runs that are numbered from this one on
abbrev pub later_from : ℕ → List Run → List Moment
later_from number [] = []
later_from number (run ∷ runs) = later_of number run ++ later_from (number + 1) runs

-- those of all runs, run by run
abbrev pub later_moments : List Run → List Moment
later_moments runs = later_from 1 runs

-- how many of so many are taken, where so many may be
abbrev pub count_taken : (most all : ℕ) → ℕ
count_taken most all = min all most

-- The part of the whole from which the moment with this number, from 0, is taken: where there are as many parts as there may be, each
-- 13 parts behind the one before, round and round, so that the first ones are spread too.
abbrev pub part_of : (most taken k : ℕ) → ℕ
part_of most taken k = if taken == most then k * 13 % most else k

-- the place in a part with this number from 0, of so many that are taken: in each part a step further on
abbrev pub place_in : ℕ → ℕ → ℕ → ℕ
place_in all taken part = part * (taken + 1) * all / (taken * taken)

-- the moment with this number from 0 that is taken, where so many may be
abbrev pub moment_taken : (most : ℕ) → List Moment → ℕ → Moment
moment_taken most all k =
    slice_index_or all (place_in (length all) (count_taken most (length all)) (part_of most (count_taken most (length all)) k)) (moment 0 0)
