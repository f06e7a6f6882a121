-- The first refused line of a log, as a function (docs/FORMATS.md, "The log").
use Rattle.std.specs.Prelude.{◌≡◌, ◌↔◌, ℕ, ◌+◌, cond, List, [], ◌∷◌, Option, Some, None, option_map}
use Rattle.std.specs.Option.{option_or}
use Rattle.bs_log.specs.declared.line.Line.{Line}
use Rattle.bs_log.specs.declared.why.Why.{Why}
use Rattle.bs_log.specs.declared.why.Why.TheVariants.{Order}
use Rattle.bs_log.specs.History.{Problem, History, state_of}
use Rattle.bs_log.specs.Refusal.{refusal, is_complete, IsAccepted, IsFirstRefused}

-- the first refused one of the lines that stand behind these earlier ones, where the next line has this number: an end
-- inside a step is refused as the line behind the last
abbrev pub refused_from : Problem → History → ℕ → List Line → Option (ℕ × Why)
refused_from p earlier number [] = cond (is_complete p (state_of p earlier)) None (Some (number, Order))
refused_from p earlier number (line ∷ rest) =
    option_or (option_map (λ why. (number, why)) (refusal p (state_of p earlier) line)) (refused_from p (line ∷ earlier) (number + 1) rest)

-- the number of the first refused line, from 1, and its first reason
abbrev pub first_refused : Problem → List Line → Option (ℕ × Why)
first_refused p log = refused_from p [] 1 log

-- A log is accepted exactly where it has no first refused line,
abbrev pub NoneIsRefusedInAccepted : Type 0
NoneIsRefusedInAccepted = (p : Problem) (log : List Line) → (first_refused p log ≡ None) ↔ IsAccepted p log

-- and else the function gives that line and its first reason.
abbrev pub TheFirstIsRefused : Type 0
TheFirstIsRefused =
    (p : Problem) (log : List Line) (n : ℕ) (why : Why) → (first_refused p log ≡ Some (n, why)) ↔ IsFirstRefused p log n why
