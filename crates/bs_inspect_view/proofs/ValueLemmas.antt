-- The values of a signal's bits, one after another.
use Rattle.std.proofs.Common.{◌≡◌, ℕ, ◌<◌, ◌+◌, List, [], ◌∷◌, ◌++◌, length, get_or, map, take, ap, sym, ◌∙◌, append_assoc}
use Rattle.std.proofs.lemmas.List.{take_more, map-append}
use Rattle.bs_wave.specs.declared.value.Value.{Value}
use Rattle.bs_wave.specs.Wave.{value_at}
use Rattle.bs_wave.specs.WaveText.{value_code}
use Rattle.bs_inspect_view.specs.View.{signal_values}

pub values_more : (values : List Value) (places : List ℕ) (i d : ℕ) (own : List Value) → i < length places → own ≡ signal_values values (take i places) →
    own ++ value_at values (get_or places i d) ∷ [] ≡ signal_values values (take (i + 1) places)
values_more values places i d own lt e =
    ap (λ (vs : List Value). vs ++ value_at values (get_or places i d) ∷ []) e
    ∙ (sym (map-append (value_at values) (take i places) (get_or places i d ∷ [])) ∙ ap (signal_values values) (sym (take_more places i d lt)))

pub codes_more : (values : List Value) (i : ℕ) (d : Value) (old before after : List ℕ) → i < length values → before ≡ old ++ map value_code (take i values) →
    after ≡ before ++ value_code (get_or values i d) ∷ [] → after ≡ old ++ map value_code (take (i + 1) values)
codes_more values i d old before after lt e goes =
    goes
    ∙ (ap (λ (t : List ℕ). t ++ value_code (get_or values i d) ∷ []) e
    ∙ (append_assoc old (map value_code (take i values)) (value_code (get_or values i d) ∷ [])
    ∙ ap (λ (t : List ℕ). old ++ t)
    (sym (map-append value_code (take i values) (get_or values i d ∷ [])) ∙ ap (map value_code) (sym (take_more values i d lt)))))
