-- The bits of a value, one after another.
use Rattle.std.proofs.Common.{◌≡◌, ℕ, ◌<◌, ◌+◌, Bool, List, [], ◌∷◌, ◌++◌, length, take, get_or, ap, sym, ◌∙◌}
use Rattle.std.proofs.lemmas.List.{map-append, take_more}
use Rattle.bs_inspect_near.specs.Values.{state_bit, value_in}

-- one bit more
pub bits_more : (state : List Bool) (places : List ℕ) (i d : ℕ) (own : List Bool) → i < length places → own ≡ value_in state (take i places) →
    own ++ state_bit state (get_or places i d) ∷ [] ≡ value_in state (take (i + 1) places)
bits_more state places i d own lt e =
    ap (λ (bs : List Bool). bs ++ state_bit state (get_or places i d) ∷ []) e
    ∙ (sym (map-append (state_bit state) (take i places) (get_or places i d ∷ [])) ∙ ap (value_in state) (sym (take_more places i d lt)))

pub value_more : (state : List Bool) (places : List ℕ) (i d : ℕ) (bits after : List Bool) (b : Bool) → i < length places →
    bits ≡ value_in state (take i places) → b ≡ state_bit state (get_or places i d) → after ≡ bits ++ b ∷ [] → after ≡ value_in state (take (i + 1) places)
value_more state places i d bits after b lt e is goes = goes ∙ (ap (λ (x : Bool). bits ++ x ∷ []) is ∙ bits_more state places i d bits lt e)
