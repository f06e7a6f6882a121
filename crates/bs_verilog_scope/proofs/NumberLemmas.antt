-- Numbering the keys of nets one after the other.
use Rattle.std.proofs.Common.{append_assoc, zero, ◌≡◌, ℕ, ◌+◌, ◌-◌, ◌<◌, ◌≤◌, Bool, true, false, cond, List, [], ◌∷◌, ◌++◌, map, length, get_or, drop}
use Rattle.std.proofs.Common.{Option, Some, None, refl, sym, ap, ◌∙◌, arith, suc}
use Rattle.std.specs.Prelude.{nat_lt}
use Rattle.std.specs.List.{flat_map, range_with_len, list_any}
use Rattle.std.specs.Str.{bytes_eq}
use Rattle.std.proofs.lemmas.Bool.{ltb-false, lt-ltb, le-ltb}
use Rattle.std.proofs.lemmas.List.{drop_more, drop_all, length-append, map-append, append-nil}
use Rattle.std.proofs.lemmas.List.FromFn.{length-map-range_with_len}
use Rattle.bs_net.specs.Names.{with_key}
use Rattle.bs_verilog_syntax.specs.declared.tree.Range.{Range}
use Rattle.bs_verilog_scope.specs.declared.numbering.Known.{Known}
use Rattle.bs_verilog_scope.specs.Keys.{keys, scalar_key, bit_key, index_at, width}
use Rattle.bs_verilog_scope.specs.Declaring.{keys_of, first_over}
use Rattle.bs_verilog_scope.specs.Nets.{with_keys, nets_of, net_of}
use Rattle.bs_net.specs.declared.net.NetId.{NetId}

-- the keys of a vector's bits from one on
abbrev pub keys_from : List ℕ → Range → ℕ → List (List ℕ)
keys_from name r bit = map (λ k. bit_key name (index_at r k)) (range_with_len bit (width r - bit))

pub with_key-room : (names : List (List ℕ)) (key : List ℕ) → length (with_key names key) ≤ length names + 1
with_key-room names key = by (list_any (bytes_eq key) names)
  where
    by : (b : Bool) → length (cond b names (names ++ key ∷ [])) ≤ length names + 1
    by true = omega arith
    by false = omega (arith, length-append names (key ∷ []))

pub with_keys-room : (names keys : List (List ℕ)) → length (with_keys names keys) ≤ length names + length keys
unfolding with_keys
with_keys-room names [] = omega arith
with_keys-room names (key ∷ keys) = omega (arith, with_key-room names key, with_keys-room (with_key names key) keys)

-- there is room for the nets that are still to number
pub record IsFew (table : List (List ℕ)) (taken : ℕ) (nets : List Known) : Type 0 where
  pub count : ℕ
  pub within : taken ≤ count
  pub few : count ≤ 100000
  pub none : first_over table count nets ≡ None

pub few_step : (table : List (List ℕ)) (taken : ℕ) (k : Known) (ks : List Known) (few : IsFew table taken (k ∷ ks))
    → (few.count + length (keys_of table k) ≤ 100000) × (first_over table (few.count + length (keys_of table k)) ks ≡ None)
unfolding first_over
few_step table taken k ks few = by (nat_lt 100000 more) refl few.none
  where
    more : ℕ
    more = few.count + length (keys_of table k)

    by : (b : Bool) → nat_lt 100000 more ≡ b → cond b (Some k) (first_over table more ks) ≡ None → (more ≤ 100000) × (first_over table more ks ≡ None)
    by true e none = absurd cc
    by false e none = (ltb-false 100000 more e, none)

pub few_here : (table : List (List ℕ)) (taken : ℕ) (nets : List Known) (i : ℕ) (d : Known) → i < length nets → IsFew table taken (drop i nets)
    → taken + length (keys_of table (get_or nets i d)) ≤ 100000
few_here table taken nets i d h few =
    let here : IsFew table taken (get_or nets i d ∷ drop (i + 1) nets) = rw (drop_more nets i d h) at few in
    omega (arith, here.within, (few_step table taken (get_or nets i d) (drop (i + 1) nets) here).0)

pub few_later : (table : List (List ℕ)) (taken more : ℕ) (nets : List Known) (i : ℕ) (d : Known) → i < length nets
    → more ≤ taken + length (keys_of table (get_or nets i d)) → IsFew table taken (drop i nets) → IsFew table more (drop (i + 1) nets)
few_later table taken more nets i d h bound few =
    let here : IsFew table taken (get_or nets i d ∷ drop (i + 1) nets) = rw (drop_more nets i d h) at few in
    let next = few_step table taken (get_or nets i d) (drop (i + 1) nets) here in
    record {
      count = here.count + length (keys_of table (get_or nets i d));
      within = omega (arith, bound, here.within);
      few = next.0;
      none = next.1;
    }

-- the count of nets, one net further

over_step : (table : List (List ℕ)) (nets : List Known) (i : ℕ) (d : Known) (count more : ℕ) → i < length nets
    → more ≡ count + length (keys_of table (get_or nets i d))
    → first_over table count (drop i nets) ≡ cond (nat_lt 100000 more) (Some (get_or nets i d)) (first_over table more (drop (i + 1) nets))
unfolding first_over
over_step table nets i d count more h e = rw (drop_more nets i d h, e) refl

pub over_here : (table : List (List ℕ)) (nets : List Known) (i : ℕ) (d : Known) (count more : ℕ) (total : Option Known) → i < length nets
    → more ≡ count + length (keys_of table (get_or nets i d)) → 100000 < more → first_over table count (drop i nets) ≡ total → Some (get_or nets i d) ≡ total
over_here table nets i d count more total h e over so_far =
    sym (sym so_far ∙ over_step table nets i d count more h e
    ∙ ap (λ b. cond b (Some (get_or nets i d)) (first_over table more (drop (i + 1) nets))) (lt-ltb 100000 more over))

pub over_later : (table : List (List ℕ)) (nets : List Known) (i : ℕ) (d : Known) (count more : ℕ) (total : Option Known) → i < length nets
    → more ≡ count + length (keys_of table (get_or nets i d)) → more ≤ 100000 → first_over table count (drop i nets) ≡ total
    → first_over table more (drop (i + 1) nets) ≡ total
over_later table nets i d count more total h e few so_far =
    sym (over_step table nets i d count more h e
    ∙ ap (λ b. cond b (Some (get_or nets i d)) (first_over table more (drop (i + 1) nets))) (le-ltb 100000 more few)) ∙ so_far

pub over_end : (table : List (List ℕ)) (nets : List Known) (i count : ℕ) (total : Option Known) → length nets ≤ i
    → first_over table count (drop i nets) ≡ total → None ≡ total
unfolding first_over
over_end table nets i count total h so_far = sym (ap (first_over table count) (drop_all i nets h)) ∙ so_far

-- the keys of a vector, one bit further

pub keys-length : (name : List ℕ) (r : Range) → length (keys name (Some r)) ≡ width r
unfolding keys
keys-length name r = length-map-range_with_len (λ k. bit_key name (index_at r k)) 0 (width r)

less_nothing : (n : ℕ) → n - 0 ≡ n
less_nothing n = omega arith

pub keys_all : (name : List ℕ) (r : Range) → keys_from name r 0 ≡ keys name (Some r)
unfolding keys
keys_all name r = ap (λ n. map (λ k. bit_key name (index_at r k)) (range_with_len 0 n)) (less_nothing (width r))

one_less : (bound i : ℕ) → i < bound → bound - i ≡ suc (bound - (i + 1))
one_less bound i h = omega arith

pub keys_step : (name : List ℕ) (r : Range) (bit : ℕ) → bit < width r → keys_from name r bit ≡ bit_key name (index_at r bit) ∷ keys_from name r (bit + 1)
keys_step name r bit h = rw (one_less (width r) bit h) refl

pub numbered_bit : (names after : List (List ℕ)) (name : List ℕ) (r : Range) (bit : ℕ) (total : List (List ℕ)) → bit < width r
    → after ≡ with_key names (bit_key name (index_at r bit)) → with_keys names (keys_from name r bit) ≡ total
    → with_keys after (keys_from name r (bit + 1)) ≡ total
unfolding with_keys
numbered_bit names after name r bit total h made so_far = rw (made) (rw (keys_step name r bit h) at so_far)

pub numbered_all : (names : List (List ℕ)) (name : List ℕ) (r : Range) (bit : ℕ) (total : List (List ℕ)) → width r ≤ bit
    → with_keys names (keys_from name r bit) ≡ total → total ≡ names
unfolding with_keys
numbered_all names name r bit total h so_far =
    let none : width r - bit ≡ 0 = omega arith in
    sym (rw none at so_far)

pub one_key : (names : List (List ℕ)) (name : List ℕ) → with_keys names (keys name None) ≡ with_key names (scalar_key name)
unfolding with_keys keys
one_key names name = refl

-- the names of nets, one net further

pub with_keys-append : (names keys later : List (List ℕ)) → with_keys names (keys ++ later) ≡ with_keys (with_keys names keys) later
unfolding with_keys
with_keys-append names [] later = refl
with_keys-append names (key ∷ keys) later = with_keys-append (with_key names key) keys later

pub numbered_net : (table names after : List (List ℕ)) (nets : List Known) (i : ℕ) (d : Known) (total : List (List ℕ)) → i < length nets
    → after ≡ with_keys names (keys_of table (get_or nets i d)) → with_keys names (flat_map (keys_of table) (drop i nets)) ≡ total
    → with_keys after (flat_map (keys_of table) (drop (i + 1) nets)) ≡ total
numbered_net table names after nets i d total h made so_far =
    let here : with_keys names (keys_of table (get_or nets i d) ++ flat_map (keys_of table) (drop (i + 1) nets)) ≡ total = rw
    (drop_more nets i d h) at so_far in
    rw (made) (sym (with_keys-append names (keys_of table (get_or nets i d)) (flat_map (keys_of table) (drop (i + 1) nets))) ∙ here)

pub numbered_end : (table names : List (List ℕ)) (nets : List Known) (i : ℕ) (total : List (List ℕ)) → length nets ≤ i
    → with_keys names (flat_map (keys_of table) (drop i nets)) ≡ total → total ≡ names
unfolding with_keys
numbered_end table names nets i total h so_far = sym so_far ∙ ap (λ ks. with_keys names (flat_map (keys_of table) ks)) (drop_all i nets h)

pub one_bit : (name : List ℕ) → length (keys name None) ≡ 1
unfolding keys
one_bit name = refl

-- the keys of a vector's bits before one
abbrev pub keys_to : List ℕ → Range → ℕ → List (List ℕ)
keys_to name r bit = map (λ k. bit_key name (index_at r k)) (range_with_len 0 bit)

suc_plus : (n : ℕ) → suc n + 1 ≡ suc (n + 1)
suc_plus n = omega arith

plus_zero : (a : ℕ) → a + 0 ≡ a
plus_zero a = omega arith

moved : (a n : ℕ) → a + 1 + n ≡ a + suc n
moved a n = omega arith

zero_plus : (n : ℕ) → 0 + n ≡ n
zero_plus n = omega arith

range_snoc : (a n : ℕ) → range_with_len a (n + 1) ≡ range_with_len a n ++ (a + n) ∷ []
range_snoc a zero = rw (plus_zero a) refl
range_snoc a (suc n) =
    ap (range_with_len a) (suc_plus n) ∙ ap (λ xs. a ∷ xs) (range_snoc (a + 1) n) ∙ ap (λ k. a ∷ (range_with_len (a + 1) n ++ k ∷ [])) (moved a n)

pub placed_bit : (names : List (List ℕ)) (nets after : List NetId) (name : List ℕ) (r : Range) (bit : ℕ) (net : NetId)
    → nets ≡ nets_of names (keys_to name r bit)
    → net ≡ net_of names (bit_key name (index_at r bit)) → after ≡ nets ++ net ∷ [] → after ≡ nets_of names (keys_to name r (bit + 1))
placed_bit names nets after name r bit net so_far here made =
    let key : ℕ → List ℕ = λ k. bit_key name (index_at r k) in
    let keys : keys_to name r (bit + 1) ≡ keys_to name r bit ++ key bit ∷ [] =
    ap (map key) (range_snoc 0 bit ∙ ap (λ k. range_with_len 0 bit ++ k ∷ []) (zero_plus bit)) ∙ map-append key (range_with_len 0 bit) (bit ∷ []) in
    made ∙ ap (λ xs. xs ++ net ∷ []) so_far ∙ ap (λ n. nets_of names (keys_to name r bit) ++ n ∷ []) here
    ∙ sym (ap (nets_of names) keys ∙ map-append (net_of names) (keys_to name r bit) (key bit ∷ []))

pub placed_all : (names : List (List ℕ)) (nets : List NetId) (name : List ℕ) (r : Range) (bit : ℕ) → bit ≡ width r → nets ≡ nets_of names (keys_to name r bit)
    → nets_of names (keys name (Some r)) ≡ nets
unfolding keys
placed_all names nets name r bit e so_far = sym (so_far ∙ ap (λ n. nets_of names (keys_to name r n)) e)

-- lists gathered one after the other
pub gathered : {A B : Type 0} (f : A → List B) (front after total : List B) (xs : List A) (i : ℕ) (d : A) → i < length xs → after ≡ front ++ f (get_or xs i d)
    → front ++ flat_map f (drop i xs) ≡ total → after ++ flat_map f (drop (i + 1) xs) ≡ total
gathered f front after total xs i d h made so_far =
    let here : front ++ (f (get_or xs i d) ++ flat_map f (drop (i + 1) xs)) ≡ total = rw (drop_more xs i d h) at so_far in
    rw (made) (append_assoc front (f (get_or xs i d)) (flat_map f (drop (i + 1) xs)) ∙ here)

pub gathered_all : {A B : Type 0} (f : A → List B) (front total : List B) (xs : List A) (i : ℕ) → length xs ≤ i → front ++ flat_map f (drop i xs) ≡ total
    → total ≡ front
gathered_all f front total xs i h so_far =
    let here : front ++ [] ≡ total = rw (drop_all i xs h) at so_far in
    sym here ∙ append-nil front
