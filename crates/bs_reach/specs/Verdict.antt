-- What the end of a search tells.
use Rattle.std.specs.Prelude.{◌≡◌, ℕ, ◌+◌, ◌*◌, ◌<◌, ◌≤◌, Bool, length}
use Rattle.bs_encode.specs.Encoded.{Encoded}
use Rattle.bs_solve_lemmas.specs.Values.{value_of}
use Rattle.bs_reach.specs.declared.search.End.{End}
use Rattle.bs_reach.specs.declared.search.End.TheVariants as ends
use Rattle.bs_reach.specs.declared.reach.Outcome.TheVariants.{Reached, Unreached, Unknown}
use Rattle.bs_reach.specs.declared.telling.Verdict.{Verdict}
use Rattle.bs_reach_unrolled.specs.Laws.{states_shown, inputs_shown}

-- the time frame is there, and its values are
abbrev pub EndFits : Encoded → ℕ → End → Type 0
EndFits e k (ends.Reached c values) = (c < k) × (k * e.variables ≤ length values)
EndFits e k ends.Unreached = Unit {0}
EndFits e k (ends.Unknown c) = c < k

pub record TellsReached (e : Encoded) (c : ℕ) (value : ℕ → Bool) (t : Verdict) : Type 0 where
  pub outcome_is : t.outcome ≡ Reached (c + 1)
  pub states_are : t.states ≡ states_shown e value (c + 1)
  pub inputs_are : t.inputs ≡ inputs_shown e value (c + 1)

abbrev pub Tells : Encoded → End → Verdict → Type 0
Tells e (ends.Reached c values) t = TellsReached e c (value_of values) t
Tells e ends.Unreached t = t.outcome ≡ Unreached
Tells e (ends.Unknown c) t = t.outcome ≡ Unknown (c + 1)
