-- The ports of a module stand first among its nets: no key of a declared net is another's.
use Rattle.std.proofs.Common.{◌≡◌, ℕ, zero, suc, ◌<◌, ◌≤◌, ◌+◌, ◌-◌, ◌^◌, Bool, true, false, cond, ◌||◌, List, [], ◌∷◌, ◌++◌, map, length, refl, arith, subst, ap, sym, ◌∙◌, inl, inr, ⊎_elim, nat_le, Option, Some, None, append_assoc, append-nil}
use Rattle.std.specs.List.{list_any, flat_map, range_with_len}
use Rattle.std.specs.Str.{bytes_eq}
use Rattle.std.specs.Cmp.Lexicographic.{bytes_decides}
use Rattle.std.proofs.lemmas.Bool.{leb-true, leb-false}
use Rattle.std.proofs.lemmas.List.{length-append}
use Rattle.bs_net.specs.Names.{with_key}
use Rattle.bs_net.proofs.NamesLemmas.{with_key-grows}
use Rattle.bs_lex.specs.declared.lexeme.Name.{Name}
use Rattle.bs_verilog_syntax.specs.declared.tree.Range.{Range}
use Rattle.bs_verilog_syntax.specs.declared.tree.Says.{Says}
use Rattle.bs_verilog_scope.specs.Keys.{text, keys, scalar_key, bit_key, index_at, width}
use Rattle.bs_verilog_scope.specs.Declaring.{range_of, known, keys_of}
use Rattle.bs_verilog_scope.specs.Nets.{with_keys}
use Rattle.bs_flat_meaning.specs.Connecting.{Port, ports_from}
use Rattle.bs_flat_meaning.proofs.MemberLemmas.{Member, member_split, mapped, member_map, flattened, ranged}
use Rattle.bs_flat_meaning.proofs.NumberLemmas.{Apart, apart_append}
use Rattle.bs_flat_meaning.proofs.KeyLemmas.{indexed_key, keys_apart, IsIndex}

-- ---- names after keys that are new

any_none : (key : List ℕ) (names : List (List ℕ)) → (Member key names → ⊥) → list_any (bytes_eq key) names ≡ false
any_none key [] h = refl
any_none key (n ∷ ns) h = by (bytes_eq key n) refl (any_none key ns (λ m. h (inr m)))
  where
    by : (b : Bool) → bytes_eq key n ≡ b → list_any (bytes_eq key) ns ≡ false → (b || list_any (bytes_eq key) ns) ≡ false
    by true e rest = absurd (h (inl ((bytes_decides key n).0 e)))
    by false e rest = rest

with_new : (names : List (List ℕ)) (key : List ℕ) → (Member key names → ⊥) → with_key names key ≡ names ++ key ∷ []
with_new names key h = ap (λ b. cond b names (names ++ key ∷ [])) (any_none key names h)

with_all : (names ks : List (List ℕ)) → Apart ks → ((k : List ℕ) → Member k names → Member k ks → ⊥) → with_keys names ks ≡ names ++ ks
unfolding with_keys
with_all names [] a h = sym (append-nil names)
with_all names (k ∷ ks) a h =
    ap (λ ns. with_keys ns ks) (with_new names k (λ m. h k m (inl refl)))
    ∙ (with_all (names ++ k ∷ []) ks a.1
    (λ j l r.
    ⊎_elim
    (λ (m : Member j names). h j m (inr r))
    (λ (m : Member j (k ∷ [])). ⊎_elim (λ (e : j ≡ k). a.0 (subst (λ u. Member u ks) e r)) (λ (x : ⊥). x) m)
    (member_split j names (k ∷ []) l))
    ∙ append_assoc names (k ∷ []) ks)

with_grows : (names ks : List (List ℕ)) → length names ≤ length (with_keys names ks)
unfolding with_keys
with_grows names [] = omega arith
with_grows names (k ∷ ks) =
    let a = with_key-grows names k in
    let b = with_grows (with_key names k) ks in
    omega (arith, a, b)

with_joined : (names ks more : List (List ℕ)) → with_keys names (ks ++ more) ≡ with_keys (with_keys names ks) more
unfolding with_keys
with_joined names [] more = refl
with_joined names (k ∷ ks) more = with_joined (with_key names k) ks more

-- ---- the keys of one name

-- the bounds of a range that is read: at most 65,535
abbrev pub IsBounded : Option Range → Type 0
IsBounded (Some r) = (r.left ≤ 65535) × (r.right ≤ 65535)
IsBounded None = Unit {0}

index_small : (r : Range) (k : ℕ) → r.left ≤ 65535 → r.right ≤ 65535 → k < width r → index_at r k < 2 ^ 64
index_small r k a b lt = by (nat_le r.left r.right) refl
  where
    by : (t : Bool) → nat_le r.left r.right ≡ t → cond t (r.left + k) (r.left - k) < 2 ^ 64
    by true e = let le = leb-true r.left r.right e in omega (arith, a, b, lt, le)
    by false e = omega (arith, a)

index_once : (r : Range) (j k : ℕ) → j < width r → k < width r → index_at r j ≡ index_at r k → j ≡ k
index_once r j k lj lk e = by (nat_le r.left r.right) refl e
  where
    by : (t : Bool) → nat_le r.left r.right ≡ t → cond t (r.left + j) (r.left - j) ≡ cond t (r.left + k) (r.left - k) → j ≡ k
    by true q s = omega (arith, s)
    by false q s = let gt = leb-false r.left r.right q in omega (arith, s, gt, lj, lk)

-- a key of a name is of that name
record IsKeyOf (name k : List ℕ) : Type 0 where
  index : Option ℕ
  small : IsIndex index
  is : k ≡ indexed_key name index

key_of : (name : List ℕ) (o : Option Range) (k : List ℕ) → IsBounded o → Member k (keys name o) → IsKeyOf name k
unfolding keys
key_of name None k b m = ⊎_elim (λ (e : k ≡ scalar_key name). record { index = None; small = tt; is = e }) (λ (x : ⊥). absurd x) m
key_of name (Some r) k b m =
    let j = mapped (λ i. bit_key name (index_at r i)) k (range_with_len 0 (width r)) m in
    let lt : j.0 < width r = omega (arith, (ranged 0 (width r) j.0 j.1).1) in
    record { index = Some (index_at r j.0); small = index_small r j.0 b.0 b.1 lt; is = j.2 }

bits_apart : (name : List ℕ) (r : Range) (a n : ℕ) → r.left ≤ 65535 → r.right ≤ 65535 → a + n ≤ width r → Apart (map (λ i. bit_key name (index_at r i)) (range_with_len a n))
bits_apart name r a zero bl br le = tt
bits_apart name r a (suc n) bl br le = (
  λ m.
      let j = mapped (λ i. bit_key name (index_at r i)) (bit_key name (index_at r a)) (range_with_len (a + 1) n) m in
      let in_range = ranged (a + 1) n j.0 j.1 in
      let la : a < width r = omega (arith, le) in
      let lj : j.0 < width r = omega (arith, le, in_range.1) in
      let same = keys_apart name name (Some (index_at r a)) (Some (index_at r j.0)) (index_small r a bl br la) (index_small r j.0 bl br lj) j.2 in
      let index : index_at r a ≡ index_at r j.0 = cc in
      let equal = index_once r a j.0 la lj index in
      omega (arith, equal, in_range.0),
  bits_apart name r (a + 1) n bl br (omega (arith, le)),
)

name_apart : (name : List ℕ) (o : Option Range) → IsBounded o → Apart (keys name o)
unfolding keys
name_apart name None b = (λ m. m, tt)
name_apart name (Some r) b = bits_apart name r 0 (width r) b.0 b.1 (omega arith)

-- ---- the keys of a header

module _ (table : List (List ℕ)) (scope : ℕ → Option Says) where
  abbrev pub keys_on : Name → List (List ℕ)
  keys_on n = keys_of table (known scope n)

  abbrev pub AreBounded : List Name → Type 0
  AreBounded [] = Unit {0}
  AreBounded (n ∷ ns) = IsBounded (range_of (scope n.id)) × AreBounded ns

  bounded_at : (ns : List Name) (n : Name) → AreBounded ns → Member n ns → IsBounded (range_of (scope n.id))
  bounded_at [] n b m = absurd m
  bounded_at (x ∷ xs) n b m =
      ⊎_elim (λ (e : n ≡ x). subst (λ (y : Name). IsBounded (range_of (scope y.id))) (sym e) b.0) (λ (l : Member n xs). bounded_at xs n b.1 l) m

  pub header_apart : (ns : List Name) → Apart (map (text table) ns) → AreBounded ns → Apart (flat_map keys_on ns)
  header_apart [] a b = tt
  header_apart (n ∷ ns) a b =
      apart_append (keys_on n) (flat_map keys_on ns) (name_apart (text table n) (range_of (scope n.id)) b.0) (header_apart ns a.1 b.1)
      (λ k l r.
      let f = flattened keys_on k ns r in
      let p = key_of (text table n) (range_of (scope n.id)) k b.0 l in
      let q = key_of (text table f.0) (range_of (scope f.0.id)) k (bounded_at ns f.0 b.1 f.1) f.2 in
      let same = keys_apart (text table n) (text table f.0) p.index q.index p.small q.small (sym p.is ∙ q.is) in
      a.0 (subst (λ t. Member t (map (text table) ns)) (sym same.0) (member_map (text table) f.0 ns f.1)))

  -- each port's bits are among the first nets
  pub ports_fit : (first : ℕ) (ns : List Name) (p : Port) → Member p (ports_from (λ n. length (keys_on n)) first ns) → p.first + p.width ≤ first + length (flat_map keys_on ns)
  unfolding ports_from
  ports_fit first [] p m = absurd m
  ports_fit first (n ∷ ns) p m =
      let sizes = length-append (keys_on n) (flat_map keys_on ns) in
      ⊎_elim
      (λ (e : p ≡ record { name = n; first = first; width = length (keys_on n) }).
      let end : p.first + p.width ≡ first + length (keys_on n) = ap (λ (q : Port). q.first + q.width) e in
      omega (arith, end, sizes))
      (λ (l : Member p (ports_from (λ n'. length (keys_on n')) (first + length (keys_on n)) ns)).
      let r = ports_fit (first + length (keys_on n)) ns p l in
      omega (arith, r, sizes))
      m

  -- where the names of a header differ, its ports have room among the numbered nets, whatever is declared besides
  pub ports_have_room : (ns : List Name) (more : List (List ℕ)) (p : Port) → Apart (map (text table) ns) → AreBounded ns → Member p (ports_from (λ n. length (keys_on n)) 0 ns) → p.first + p.width ≤ length (with_keys [] (flat_map keys_on ns ++ more))
  ports_have_room ns more p a b m =
      let fit = ports_fit 0 ns p m in
      let all = ap length (with_all [] (flat_map keys_on ns) (header_apart ns a b) (λ k l r. l)) in
      let grows = with_grows (with_keys [] (flat_map keys_on ns)) more in
      let whole = ap length (with_joined [] (flat_map keys_on ns) more) in
      omega (arith, fit, all, grows, whole)
