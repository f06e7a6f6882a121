-- Keys, one after another.
use Rattle.std.proofs.Common.{◌≡◌, ℕ, ◌<◌, ◌+◌, List, [], ◌∷◌, ◌++◌, length, map, take, get_or, ap, sym, ◌∙◌, slice_get, Some}
use Rattle.std.specs.Borrow.{Bor}
use Rattle.std.proofs.lemmas.Option.{get_or_from_slice_get}
use Rattle.std.proofs.lemmas.List.{map-append, take_more, length-map, get_or-map}
use Rattle.bs_net.specs.declared.net.Flop.{Flop}
use Rattle.bs_net.specs.Parts.{Parts}
use Rattle.bs_inspect_signature.specs.Proposal.{flop_keys}

-- a key more
pub key_more : (names : List (List ℕ)) (keys : List (Bor (List ℕ))) (key : Bor (List ℕ)) (fs : List Flop) (i : ℕ) (d : Flop) → i < length fs →
    map (λ s. s.now) keys ≡ map (λ f. get_or names f.q.0 []) (take i fs) → slice_get names (get_or fs i d).q.0 ≡ Some key.now →
    map (λ s. s.now) (keys ++ key ∷ []) ≡ map (λ f. get_or names f.q.0 []) (take (i + 1) fs)
key_more names keys key fs i d lt e is =
    map-append (λ (s : Bor (List ℕ)). s.now) keys (key ∷ [])
    ∙ ((λ j. e j ++ sym (get_or_from_slice_get names (get_or fs i d).q.0 key.now [] is) j ∷ [])
    ∙ (sym (map-append (λ (f : Flop). get_or names f.q.0 []) (take i fs) (get_or fs i d ∷ []))
    ∙ ap (map (λ (f : Flop). get_or names f.q.0 [])) (sym (take_more fs i d lt))))

-- the key of a flip-flop
pub key_is : (keys : List (Bor (List ℕ))) (i : ℕ) (d : Bor (List ℕ)) → i < length keys → (get_or keys i d).now ≡ get_or (map (λ s. s.now) keys) i []
key_is keys i d lt = sym (get_or-map (λ (s : Bor (List ℕ)). s.now) keys i d [] lt)

pub keys_count : (raw : Parts) (keys : List (Bor (List ℕ))) → map (λ s. s.now) keys ≡ flop_keys raw → length keys ≡ length raw.flops
keys_count raw keys e =
    sym (length-map keys (λ (s : Bor (List ℕ)). s.now)) ∙ (ap length e ∙ length-map raw.flops (λ (f : Flop). get_or raw.names f.q.0 []))
