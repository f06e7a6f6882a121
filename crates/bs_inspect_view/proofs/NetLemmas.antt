-- The keys of the nets, one after another.
use Rattle.std.proofs.Common.{◌≡◌, ℕ, zero, suc, ◌<◌, ◌+◌, ◌^◌, arith, List, [], ◌∷◌, ◌++◌, length, map, take, ap, sym, ◌∙◌, slice_get, Some}
use Rattle.std.specs.Borrow.{Bor}
use Rattle.std.proofs.lemmas.List.{map-append, length-map}
use Rattle.bs_net.specs.Parts.{Parts, PartsArePlaced}
use Rattle.bs_wave.proofs.ListLemmas.{one_more_taken}

-- a key more
pub key_more : (names : List (List ℕ)) (keys : List (Bor (List ℕ))) (key : Bor (List ℕ)) (n : ℕ) → map (λ s. s.now) keys ≡ take n names →
    slice_get names n ≡ Some key.now → map (λ s. s.now) (keys ++ key ∷ []) ≡ take (n + 1) names
key_more names keys key n e is =
    map-append (λ (s : Bor (List ℕ)). s.now) keys (key ∷ [])
    ∙ (ap (λ (t : List (List ℕ)). t ++ key.now ∷ []) e ∙ one_more_taken names n key.now is)
