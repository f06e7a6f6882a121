-- Keys and the numbers of bits, one by one.
use Rattle.std.proofs.Common.{◌≡◌, ℕ, ◌<◌, ◌≤◌, ◌+◌, Bool, false, List, [], ◌∷◌, ◌++◌, length, map, take, drop, get_or, slice_get, Some, refl, ap, sym, ◌∙◌, arith}
use Rattle.std.specs.Borrow.{Bor}
use Rattle.std.specs.List.{flat_map, list_any}
use Rattle.std.proofs.lemmas.Grind.{flat_map-append}
use Rattle.std.proofs.lemmas.List.{append-nil, drop_all, map-append, take_more}
use Rattle.std.proofs.lemmas.Option.{get_or_from_slice_get}
use Rattle.bs_net.specs.declared.net.Flop.{Flop}
use Rattle.bs_net.specs.Parts.{Parts, key_at}
use Rattle.bs_net_names.specs.Keys.{KeyParts, key_parts, parts_in}
use Rattle.bs_net_names.specs.declared.key.KeyParts.{KeyParts as CodeKeyParts}
use Rattle.bs_inspect_seen.specs.Given.{number_if, numbers_of}

-- what stands at a net's place is its key
pub key_is : (r : Parts) (n : ℕ) (key : List ℕ) → slice_get r.names n ≡ Some key → key ≡ key_at r n
key_is r n key e = sym (get_or_from_slice_get r.names n key [] e)

-- a key more
pub net_more : (r : Parts) (keys : List CodeKeyParts) (key : CodeKeyParts) (n : ℕ) → n < length r.names →
    map parts_in keys ≡ map key_parts (take n r.names) → parts_in key ≡ key_parts (key_at r n) →
    map parts_in (keys ++ key ∷ []) ≡ map key_parts (take (n + 1) r.names)
net_more r keys key n lt e k =
    map-append parts_in keys (key ∷ [])
    ∙ ((λ j. e j ++ k j ∷ [])
    ∙ (sym (map-append key_parts (take n r.names) (get_or r.names n [] ∷ [])) ∙ ap (map key_parts) (sym (take_more r.names n [] lt))))

pub bytes_more : (r : Parts) (keys : List (Bor (List ℕ))) (key : Bor (List ℕ)) (fs : List Flop) (i : ℕ) (d : Flop) → i < length fs →
    map (λ k. k.now) keys ≡ map (λ f. key_at r f.q.0) (take i fs) → key.now ≡ key_at r (get_or fs i d).q.0 →
    map (λ k. k.now) (keys ++ key ∷ []) ≡ map (λ f. key_at r f.q.0) (take (i + 1) fs)
bytes_more r keys key fs i d lt e k =
    map-append (λ (b : Bor (List ℕ)). b.now) keys (key ∷ [])
    ∙ ((λ j. e j ++ k j ∷ [])
    ∙ (sym (map-append (λ (f : Flop). key_at r f.q.0) (take i fs) (get_or fs i d ∷ [])) ∙ ap (map (λ (f : Flop). key_at r f.q.0)) (sym (take_more fs i d lt))))

-- a net more
pub numbers_more : (name : List ℕ) (nets : List CodeKeyParts) (before after : List ℕ) (i : ℕ) (d : CodeKeyParts) → i < length nets →
    before ≡ numbers_of (map parts_in (take i nets)) name → after ≡ before ++ number_if name (parts_in (get_or nets i d)) →
    after ≡ numbers_of (map parts_in (take (i + 1) nets)) name
numbers_more name nets before after i d lt e f =
    let x : KeyParts = parts_in (get_or nets i d) in
    let piece : KeyParts → List ℕ = number_if name in
    let more : map parts_in (take (i + 1) nets) ≡ map parts_in (take i nets) ++ x ∷ [] =
    ap (map parts_in) (take_more nets i d lt) ∙ map-append parts_in (take i nets) (get_or nets i d ∷ []) in
    f
    ∙ (ap (λ (t : List ℕ). t ++ piece x) e
    ∙ sym (ap (flat_map piece) more
    ∙ (flat_map-append piece (map parts_in (take i nets)) (x ∷ [])
    ∙ ap (λ (t : List ℕ). flat_map piece (map parts_in (take i nets)) ++ t) (append-nil (piece x)))))

-- nothing stands behind the end
pub none_behind : (bits : List Bool) (place : ℕ) → length bits ≤ place → false ≡ list_any (λ b. b) (drop (place + 1) bits)
none_behind bits place le = sym (ap (list_any (λ (b : Bool). b)) (drop_all (place + 1) bits (omega (arith, le))))
