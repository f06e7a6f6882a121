-- What the keys of flip-flops say, one by one, and the only one that is a name.
use Rattle.std.proofs.Common.{◌≡◌, ℕ, ◌<◌, ◌+◌, Bool, true, false, cond, List, [], ◌∷◌, ◌++◌, length, map, take, get_or, slice_get, Some, None, Option, refl, ap, sym, ◌∙◌}
use Rattle.std.proofs.Common.{arith}
use Rattle.std.specs.Prelude.{◌==◌, nat_lt, not, count_by, IfSome}
use Rattle.std.specs.List.{position, position_or_len}
use Rattle.std.proofs.lemmas.Bool.{ltb-true}
use Rattle.std.proofs.lemmas.List.{length-map, map-append, take_more}
use Rattle.std.proofs.lemmas.List.Sums.{sum_by-cons}
use Rattle.std.proofs.lemmas.Option.{get_or_from_slice_get}
use Rattle.bs_net.specs.declared.net.Flop.{Flop}
use Rattle.bs_net.specs.Parts.{Parts, key_at}
use Rattle.bs_net_names.specs.Keys.{KeyParts, key_parts, parts_in}
use Rattle.bs_net_names.specs.Rtl.{same_name}
use Rattle.bs_net_names.specs.declared.key.KeyParts.{KeyParts as CodeKeyParts}
use Rattle.bs_scan.specs.ChoiceText.{flop_parts, only_place}

-- what stands at a net's place is its key
pub key_is : (r : Parts) (n : ℕ) (key : List ℕ) → slice_get r.names n ≡ Some key → key ≡ key_at r n
key_is r n key e = sym (get_or_from_slice_get r.names n key [] e)

-- a key more
pub parts_more : (r : Parts) (keys : List CodeKeyParts) (key : CodeKeyParts) (fs : List Flop) (i : ℕ) (d : Flop) → i < length fs →
    map parts_in keys ≡ map (λ f. key_parts (key_at r f.q.0)) (take i fs) → parts_in key ≡ key_parts (key_at r (get_or fs i d).q.0) →
    map parts_in (keys ++ key ∷ []) ≡ map (λ f. key_parts (key_at r f.q.0)) (take (i + 1) fs)
parts_more r keys key fs i d lt e k =
    map-append parts_in keys (key ∷ [])
    ∙ ((λ j. e j ++ k j ∷ [])
    ∙ (sym (map-append (λ (f : Flop). key_parts (key_at r f.q.0)) (take i fs) (get_or fs i d ∷ []))
    ∙ ap (map (λ (f : Flop). key_parts (key_at r f.q.0))) (sym (take_more fs i d lt))))

position_of : {X Y : Type 0} (p : Y → Bool) (f : X → Y) (xs : List X) → position_or_len p (map f xs) ≡ position_or_len (λ x. p (f x)) xs
position_of p f [] = refl
position_of p f (x ∷ xs) = ap (λ n. cond (not (p (f x))) (1 + n) 0) (position_of p f xs)

count_of : {X Y : Type 0} (p : Y → Bool) (f : X → Y) (xs : List X) → count_by p (map f xs) ≡ count_by (λ x. p (f x)) xs
count_of p f [] = refl
count_of p f (x ∷ xs) =
    sum_by-cons (λ y. cond (p y) 1 0) (f x) (map f xs)
    ∙ (ap (λ n. cond (p (f x)) 1 0 + n) (count_of p f xs) ∙ sym (sum_by-cons (λ y. cond (p (f y)) 1 0) x xs))

-- the place of a key of the code
pub named_at : (keys : List CodeKeyParts) (name : KeyParts) →
    position (λ key. same_name (parts_in key) name) keys ≡ position (λ key. same_name key name) (map parts_in keys)
named_at keys name =
    let e = sym (position_of (λ (key : KeyParts). same_name key name) parts_in keys) in
    let l = sym (length-map keys parts_in) in
    (λ i. cond (nat_lt (e i) (l i)) (Some (e i)) None)

-- the place of the only such key of the code
pub only_at : (keys : List CodeKeyParts) (name : KeyParts) →
    only_place (λ key. same_name (parts_in key) name) keys ≡ only_place (λ key. same_name key name) (map parts_in keys)
only_at keys name =
    let count = sym (count_of (λ (key : KeyParts). same_name key name) parts_in keys) in
    let place = named_at keys name in
    (λ i. cond (count i == 1) (place i) None)

-- what is found in a list is one of its places
position_within : {X : Type 0} (p : X → Bool) (xs : List X) → IfSome (position p xs) (λ place. place < length xs)
position_within p xs = by (nat_lt (position_or_len p xs) (length xs)) refl
  where
    by : (b : Bool) → nat_lt (position_or_len p xs) (length xs) ≡ b → IfSome (cond b (Some (position_or_len p xs)) None) (λ place. place < length xs)
    by true e = ltb-true _ _ e
    by false e = tt

pub called_within : {X : Type 0} (p : X → Bool) (xs : List X) → IfSome (only_place p xs) (λ place. place < length xs)
called_within p xs = by (count_by p xs == 1)
  where
    by : (b : Bool) → IfSome (cond b (position p xs) None) (λ place. place < length xs)
    by true = position_within p xs
    by false = tt

-- there is a key for each flip-flop
pub key_each : (r : Parts) (keys : List CodeKeyParts) → map parts_in keys ≡ flop_parts r → length keys ≡ length r.flops
key_each r keys e =
    sym (length-map keys parts_in) ∙ (ap length e ∙ length-map r.flops (λ f. key_parts (key_at r f.q.0)))
