-- The constants of a module by a table of bits.
use Rattle.std.proofs.Common.{◌≡◌, ℕ, zero, suc, ◌<◌, ◌+◌, Bool, true, false, cond, ◌&&◌, List, [], ◌∷◌, ◌++◌, map, length, get_or, set, take, refl, arith}
use Rattle.std.proofs.Common.{ap, sym, ◌∙◌, nat_eq, Option, Some, None, get_or-set_same, get_or-set_other, length-set, append-nil}
use Rattle.std.specs.Prelude.{find, option_map, unwrap_or}
use Rattle.std.specs.List.{range_with_len, flat_map}
use Rattle.std.specs.Str.{bytes_eq}
use Rattle.std.proofs.lemmas.Bool.{eqb-true, eqb-false}
use Rattle.std.proofs.lemmas.List.{take_more, length-map, ext_get_or}
use Rattle.std.proofs.lemmas.List.FromFn.{get_or-map-range_with_len, length-range_with_len, length-map-range_with_len}
use Rattle.std.proofs.lemmas.List.Concat.{flat_map-append}
use Rattle.bs_bits.proofs.RangeLemmas.{range_push}
use Rattle.bs_net.specs.declared.net.Const.{Const}
use Rattle.bs_verilog_scope.specs.Keys.{constant_key}
use Rattle.bs_flat_nets.specs.Constants.{entry, entry_at}
use Rattle.bs_flat_nets.specs.declared.constants.Bit.{Bit}

-- whether a constant's net has the key of that constant
abbrev pub is_named : List (List ℕ) → Const → Bool
is_named names k = bytes_eq (get_or names k.net.0 []) (constant_key k.value)

-- the bit of a net, by some of the constants
abbrev pub bit_in : List (List ℕ) → List Const → ℕ → Option Bool
bit_in names ks n = option_map (λ k. k.value) (find (λ k. nat_eq k.net.0 n && is_named names k) ks)

abbrev or_else : Option Bool → Option Bool → Option Bool
or_else (Some b) o = Some b
or_else None o = o

found_push : (p : Const → Bool) (ks : List Const) (k : Const) →
    option_map (λ (c : Const). c.value) (find p (ks ++ k ∷ []))
    ≡ or_else (option_map (λ (c : Const). c.value) (find p ks)) (cond (p k) (Some k.value) None)
found_push p [] k = by (p k)
  where
    by : (b : Bool) → option_map (λ (c : Const). c.value) (cond b (Some k) None) ≡ cond b (Some k.value) None
    by true = refl
    by false = refl
found_push p (c ∷ cs) k = by (p c) (found_push p cs k)
  where
    by : (b : Bool) → option_map (λ (i : Const). i.value) (find p (cs ++ k ∷ []))
        ≡ or_else (option_map (λ (i : Const). i.value) (find p cs)) (cond (p k) (Some k.value) None) →
        option_map (λ (i : Const). i.value) (cond b (Some c) (find p (cs ++ k ∷ [])))
        ≡ or_else (option_map (λ (i : Const). i.value) (cond b (Some c) (find p cs))) (cond (p k) (Some k.value) None)
    by true e = refl
    by false e = e

-- the table after one constant more
pub bit_noted : (names : List (List ℕ)) (ks : List Const) (table after : List (Option Bool)) (i : ℕ) (d : Const) → i < length ks →
    (get_or ks i d).net.0 < length table →
    ((n : ℕ) → n < length names → get_or table n None ≡ bit_in names (take i ks) n) →
    after ≡ cond (is_named names (get_or ks i d))
    (set table (get_or ks i d).net.0 (Some (unwrap_or (get_or table (get_or ks i d).net.0 None) (get_or ks i d).value))) table →
    (n : ℕ) → n < length names → get_or after n None ≡ bit_in names (take (i + 1) ks) n
bit_noted names ks table after i d lt wide before e n ln =
    let k = get_or ks i d in
    let test : Const → Bool = λ c. nat_eq c.net.0 n && is_named names c in
    ap (λ (t : List (Option Bool)). get_or t n None) e
    ∙ (by (is_named names k) (nat_eq k.net.0 n) refl
    ∙ sym
    (ap (λ (cs : List Const). option_map (λ (c : Const). c.value) (find test cs)) (take_more ks i d lt) ∙ found_push test (take i ks) k))
  where
    key : Const
    key = get_or ks i d

    old : Option Bool
    old = bit_in names (take i ks) n

    keep : (o : Option Bool) → o ≡ or_else o None
    keep (Some b) = refl
    keep None = refl

    fresh : (o : Option Bool) → Some (unwrap_or o key.value) ≡ or_else o (Some key.value)
    fresh (Some b) = refl
    fresh None = refl

    by : (named same : Bool) → nat_eq key.net.0 n ≡ same →
        get_or (cond named (set table key.net.0 (Some (unwrap_or (get_or table key.net.0 None) key.value))) table) n None
        ≡ or_else old (cond (same && named) (Some key.value) None)
    by false true q = before n ln ∙ keep old
    by false false q = before n ln ∙ keep old
    by true false q =
        let apart = eqb-false key.net.0 n q in
        get_or-set_other table key.net.0 n (Some (unwrap_or (get_or table key.net.0 None) key.value)) None (λ s. apart (sym s)) ∙ (before n ln ∙ keep old)
    by true true q =
        let at = eqb-true key.net.0 n q in
        ap (λ m. get_or (set table key.net.0 (Some (unwrap_or (get_or table key.net.0 None) key.value))) m None) (sym at)
        ∙ (get_or-set_same table key.net.0 (Some (unwrap_or (get_or table key.net.0 None) key.value)) None wide
        ∙ (ap (λ (o : Option Bool). Some (unwrap_or o key.value)) (ap (λ m. get_or table m None) at ∙ before n ln) ∙ fresh old))

flat_members : (f g : ℕ → List Bit) (a k : ℕ) → ((n : ℕ) → n < a + k → f n ≡ g n) → flat_map f (range_with_len a k) ≡ flat_map g (range_with_len a k)
flat_members f g a zero h = refl
flat_members f g a (suc k) h =
    ap (λ u. u ++ flat_map f (range_with_len (a + 1) k)) (h a (omega arith))
    ∙ ap (λ u. g a ++ u) (flat_members f g (a + 1) k (λ n lt. h n (omega (arith, lt))))

-- the entries of a table of bits
pub entries_are : (f : ℕ → Option Bool) (n : ℕ) (table : List (Option Bool)) → table ≡ map f (range_with_len 0 n) →
    flat_map (entry_at table) (range_with_len 0 (length table)) ≡ flat_map (λ k. entry k (f k)) (range_with_len 0 n)
entries_are f n table e =
    let wide : length table ≡ n = ap length e ∙ (length-map (range_with_len 0 n) f ∙ length-range_with_len 0 n) in
    ap (λ k. flat_map (entry_at table) (range_with_len 0 k)) wide
    ∙ flat_members (entry_at table) (λ k. entry k (f k)) 0 n
    (λ k lt.
    ap (entry k)
    (ap (λ (t : List (Option Bool)). get_or t k None) e ∙ get_or-map-range_with_len f 0 n k k None (omega (arith, lt)) (omega arith)))

-- a table that has what a function gives for each number
pub table_is : (f : ℕ → Option Bool) (n : ℕ) (table : List (Option Bool)) → length table ≡ n → ((k : ℕ) → k < n → get_or table k None ≡ f k) →
    table ≡ map f (range_with_len 0 n)
table_is f n table wide h =
    ext_get_or None table (map f (range_with_len 0 n)) (wide ∙ sym (length-map-range_with_len f 0 n))
    (λ k lt.
    let low : k < n = omega (arith, lt, wide) in
    h k low ∙ sym (get_or-map-range_with_len f 0 n k k None low (omega arith)))

-- one entry more
pub entries_more : (table : List (Option Bool)) (n : ℕ) →
    flat_map (entry_at table) (range_with_len 0 (n + 1)) ≡ flat_map (entry_at table) (range_with_len 0 n) ++ entry n (get_or table n None)
entries_more table n =
    ap (flat_map (entry_at table)) (range_push n)
    ∙ (flat_map-append (entry_at table) (range_with_len 0 n) (n ∷ [])
    ∙ ap (λ u. flat_map (entry_at table) (range_with_len 0 n) ++ u) (append-nil (entry_at table n)))

pub noted_wide : (b : Bool) (table : List (Option Bool)) (i : ℕ) (o : Option Bool) → length (cond b (set table i o) table) ≡ length table
noted_wide true table i o = length-set table i o
noted_wide false table i o = refl
