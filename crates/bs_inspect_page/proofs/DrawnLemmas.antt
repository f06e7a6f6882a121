-- The signals that are left.
use Rattle.std.proofs.Common.{◌≡◌, ◌<◌, ◌^◌, Bool, true, false, List, [], ◌∷◌, length, map, take, zero, suc, refl, ap, ◌∙◌, ℕ}
use Rattle.std.specs.List.{All}
use Rattle.std.proofs.lemmas.List.Elements.{All-take}
use Rattle.std.specs.Prelude.{filter, cond}
use Rattle.bs_inspect_view.specs.declared.signal.Signal.{Signal as CodeSignal}
use Rattle.bs_inspect_view.specs.Signals.{Signal, signal_in}

-- what is left of signals of the code
pub filter_in : (p : Signal → Bool) (signals : List CodeSignal) → map signal_in (filter (λ s. p (signal_in s)) signals) ≡ filter p (map signal_in signals)
filter_in p [] = refl
filter_in p (s ∷ ss) = by (p (signal_in s)) refl (filter_in p ss)
  where
    by : (b : Bool) → p (signal_in s) ≡ b → map signal_in (filter (λ x. p (signal_in x)) ss) ≡ filter p (map signal_in ss) →
        map signal_in (filter (λ x. p (signal_in x)) (s ∷ ss)) ≡ filter p (map signal_in (s ∷ ss))
    by true e rest = rw e (ap (λ (xs : List Signal). signal_in s ∷ xs) rest)
    by false e rest = rw e rest

-- the first of signals of the code
pub take_in : (n : ℕ) (signals : List CodeSignal) → map signal_in (take n signals) ≡ take n (map signal_in signals)
take_in zero signals = refl
take_in (suc n) [] = refl
take_in (suc n) (s ∷ ss) = ap (λ (xs : List Signal). signal_in s ∷ xs) (take_in n ss)

pub few_first : (n : ℕ) (signals : List CodeSignal) → All (λ s. length s.places < 2 ^ 32) signals → All (λ s. length s.places < 2 ^ 32) (take n signals)
few_first n signals few = All-take (λ s. length s.places < 2 ^ 32) n signals few
