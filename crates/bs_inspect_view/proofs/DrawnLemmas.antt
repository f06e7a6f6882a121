-- The signals that are left.
use Rattle.std.proofs.Common.{◌≡◌, Bool, true, false, List, [], ◌∷◌, map, refl, ap, ◌∙◌, ℕ}
use Rattle.std.specs.Prelude.{filter, cond}
use Rattle.bs_inspect_view.specs.declared.signal.Signal.{Signal as CodeSignal}
use Rattle.bs_inspect_view.specs.Signals.{Signal, signal_in}

-- what is left of signals of the code
pub filter_in : (p : Signal → Bool) (signals : List CodeSignal) → map signal_in (filter (λ s. p (signal_in s)) signals) ≡ filter p (map signal_in signals)
filter_in p [] = refl
filter_in p (s ∷ ss) = by (p (signal_in s)) refl (filter_in p ss)
  where
    by : (b : Bool) → p (signal_in s) ≡ b → map signal_in (filter (λ x. p (signal_in x)) ss) ≡ filter p (map signal_in ss) →
        map signal_in (filter (λ x. p (signal_in x)) (s ∷ ss)) ≡ filter p (map signal_in (s ∷ ss))
    by true e rest = rw e (ap (λ (xs : List Signal). signal_in s ∷ xs) rest)
    by false e rest = rw e rest
