-- Names whose nets stand side by side.
use Rattle.std.proofs.Common.{◌≡◌, ℕ, zero, suc, ◌+◌, ◌<◌, ◌≤◌, take, Bool, true, false, cond, get_or, List, [], ◌∷◌, ◌++◌, length, map, Option, Some, None}
use Rattle.std.proofs.Common.{◌-◌, nat_eq, refl, sym, ap, ◌∙◌, subst, arith, inl, inr}
use Rattle.std.proofs.lemmas.Bool.Decides.{eqb_tells}
use Rattle.std.specs.Prelude.{unwrap_or, nat_le, ◌&&◌}
use Rattle.std.specs.List.{range_with_len}
use Rattle.std.specs.Option.{option_map}
use Rattle.std.proofs.lemmas.Bool.{false≢true, eqb-true, eqb-false, eq-eqb, ne_eqb, leb-true, leb-false}
use Rattle.std.proofs.lemmas.List.{map-append, get_or-map, take_more, take_all}
use Rattle.std.proofs.lemmas.List.Elements.{All-nil, All-push, All-weaker}
use Rattle.std.proofs.lemmas.List.FromFn.{get_or-range_with_len, length-range_with_len}
use Rattle.bs_net.specs.declared.net.NetId.{NetId}
use Rattle.bs_net.specs.Names.{number_of, net}
use Rattle.bs_verilog_syntax.specs.declared.tree.Declared.{Declared}
use Rattle.bs_verilog_syntax.specs.declared.tree.Range.{Range}
use Rattle.bs_verilog_syntax.specs.declared.tree.Says.{Says}
use Rattle.bs_verilog_scope.specs.Keys.{keys, scalar_key, bit_key, index_at, width}
use Rattle.bs_verilog_scope.specs.Nets.{net_of, nets_of}
use Rattle.bs_verilog_scope.proofs.NumberLemmas.{keys_to, placed_bit, placed_all, keys-length}
use Rattle.bs_flat_connect.specs.Wiring.{side_by_side, net_at, StandFrom, AreInTurn, AreInNoTurn, is_number, IsSpan, IsNoSpan, AreSpans, HasSpan, HaveSpans, ids_of, spanned, with_span, keys_by}
use Rattle.bs_bits.proofs.RangeLemmas.{range_push}

-- ---- a net that is found

pub found_net : (names : List (List ℕ)) (key : List ℕ) (n : NetId) → Some n ≡ option_map net (number_of names key) → net_of names key ≡ n
found_net names key n e = by (number_of names key) refl e
  where
    by : (o : Option ℕ) → number_of names key ≡ o → Some n ≡ option_map net o → net_of names key ≡ n
    by None at e = absurd cc
    by (Some i) at e =
        let same : n ≡ record { 0 = i } = cc in ap (λ (q : Option ℕ). net (unwrap_or q 0)) at ∙ sym same

pub found_number : (names : List (List ℕ)) (key : List ℕ) (n : NetId) → Some n ≡ option_map net (number_of names key) → number_of names key ≡ Some n.0
found_number names key n e = by (number_of names key) refl e
  where
    by : (o : Option ℕ) → number_of names key ≡ o → Some n ≡ option_map net o → number_of names key ≡ Some n.0
    by None at e = absurd cc
    by (Some i) at e = let same : n ≡ record { 0 = i } = cc in at ∙ ap (λ (m : NetId). Some m.0) (sym same)

pub no_number : (names : List (List ℕ)) (key : List ℕ) → ◌≡◌ {A = Option NetId} None (option_map net (number_of names key)) → number_of names key ≡ None
no_number names key e = by (number_of names key) refl e
  where
    by : (o : Option ℕ) → number_of names key ≡ o → ◌≡◌ {A = Option NetId} None (option_map net o) → number_of names key ≡ None
    by None at e = at
    by (Some i) at e = absurd cc

pub number_net : (names : List (List ℕ)) (key : List ℕ) (n : ℕ) → is_number (number_of names key) n ≡ true → net_of names key ≡ net n
number_net names key n e = by (number_of names key) refl e
  where
    by : (o : Option ℕ) → number_of names key ≡ o → is_number o n ≡ true → net_of names key ≡ net n
    by None at e = absurd (false≢true e)
    by (Some m) at e = ap (λ (q : Option ℕ). net (unwrap_or q 0)) at ∙ ap net (eqb-true m n e)

-- ---- so far behind the first

pub behind_is : (n first bit : ℕ) → (nat_le first n && (nat_eq (n - first) bit)) ≡ nat_eq n (first + bit)
behind_is n first bit = by (nat_le first n) refl
  where
    same : first ≤ n → (b : Bool) → nat_eq (n - first) bit ≡ b → b ≡ nat_eq n (first + bit)
    same le true e = let is = eqb-true (n - first) bit e in sym (eq-eqb n (first + bit) (omega (arith, is, le)))
    same le false e = let other = eqb-false (n - first) bit e in sym (ne_eqb n (first + bit) (λ q. omega (arith, q, other, le)))

    by : (b : Bool) → nat_le first n ≡ b → (b && nat_eq (n - first) bit) ≡ nat_eq n (first + bit)
    by true e = same (leb-true first n e) (nat_eq (n - first) bit) refl
    by false e = let less = leb-false first n e in sym (ne_eqb n (first + bit) (λ q. omega (arith, q, less)))

-- ---- in turn

plus_none : (a : ℕ) → a + 0 ≡ a
plus_none a = omega arith

none_plus : (k : ℕ) → 0 + k ≡ k
none_plus k = omega arith

-- the number of a vector's bit
bit_in_turn : (names : List (List ℕ)) (name : List ℕ) (r : Range) (first k : ℕ) → k < width r → AreInTurn names (keys name (Some r)) first
    → number_of names (bit_key name (index_at r k)) ≡ Some (first + k)
unfolding keys
bit_in_turn names name r first k lt t =
    let f : ℕ → List ℕ = λ j. bit_key name (index_at r j) in
    let count : length (keys name (Some r)) ≡ width r = keys-length name r in
    let wide : k < length (range_with_len 0 (width r)) = omega (arith, lt, length-range_with_len 0 (width r)) in
    let is : get_or (map f (range_with_len 0 (width r))) k [] ≡ f k =
    get_or-map f (range_with_len 0 (width r)) k 0 [] wide ∙ ap f (get_or-range_with_len 0 (width r) k 0 lt ∙ none_plus k) in
    sym (ap (number_of names) is) ∙ t.each k (omega (arith, lt, count))

pub bit_not_in_turn : (names : List (List ℕ)) (name key : List ℕ) (r : Range) (first k : ℕ) → k < width r → key ≡ bit_key name (index_at r k)
    → is_number (number_of names key) (first + k) ≡ false → AreInTurn names (keys name (Some r)) first → ⊥
bit_not_in_turn names name key r first k lt is other t =
    let here : number_of names key ≡ Some (first + k) = ap (number_of names) is ∙ bit_in_turn names name r first k lt t in
    false≢true (sym other ∙ (ap (λ (o : Option ℕ). is_number o (first + k)) here ∙ eq-eqb (first + k) (first + k) refl))

pub scalar_not_in_turn : (names : List (List ℕ)) (name key : List ℕ) → key ≡ scalar_key name → ◌≡◌ {A = Option NetId} None (option_map net (number_of names key))
    → AreInNoTurn names (keys name None)
unfolding keys
scalar_not_in_turn names name key is none =
    record { none = λ first t. clash first (sym (ap (number_of names) (sym is) ∙ no_number names key none) ∙ t.each 0 (omega arith)) }
  where
    clash : (first : ℕ) → ◌≡◌ {A = Option ℕ} None (Some (first + 0)) → ⊥
    clash first e = cc

-- where a vector's keys are in turn, they are so from the number of the first
pub vector_not_in_turn : (names : List (List ℕ)) (name key : List ℕ) (r : Range) (first : ℕ) → key ≡ bit_key name (index_at r 0)
    → first ≡ (unwrap_or (option_map net (number_of names key)) (net 0)).0 → (AreInTurn names (keys name (Some r)) first → ⊥)
    → AreInNoTurn names (keys name (Some r))
vector_not_in_turn names name key r first is at not_so =
    record {
      none = λ other t.
          let here : number_of names key ≡ Some (other + 0) = ap (number_of names) is ∙ bit_in_turn names name r other 0 (omega arith) t in
          let same : first ≡ other = at ∙ (ap (λ (o : Option ℕ). (unwrap_or (option_map net o) (net 0)).0) here ∙ plus_none other) in
          not_so (subst (λ k. AreInTurn names (keys name (Some r)) k) (sym same) t);
    }

-- ---- side by side

plus_zero : (a : ℕ) → a + 0 ≡ a
plus_zero a = omega arith

pub side_more : (first n : ℕ) → side_by_side first (n + 1) ≡ side_by_side first n ++ net_at first n ∷ []
side_more first n =
    let f : ℕ → NetId = λ k. net_at first k in
    ap (map f) (range_push n) ∙ map-append f (range_with_len 0 n) (n ∷ [])

pub bit_more : (names : List (List ℕ)) (first : ℕ) (name : List ℕ) (r : Range) (bit : ℕ) (key : List ℕ) → key ≡ bit_key name (index_at r bit)
    → net_of names key ≡ net_at first bit → side_by_side first bit ≡ nets_of names (keys_to name r bit)
    → side_by_side first (bit + 1) ≡ nets_of names (keys_to name r (bit + 1))
bit_more names first name r bit key is here so_far =
    placed_bit names (side_by_side first bit) (side_by_side first (bit + 1)) name r bit (net_at first bit) so_far (sym here ∙ ap (net_of names) is)
    (side_more first bit)

pub bits_all : (names : List (List ℕ)) (first : ℕ) (name : List ℕ) (r : Range) (bit : ℕ) → bit ≡ width r
    → side_by_side first bit ≡ nets_of names (keys_to name r bit) → StandFrom names (keys name (Some r)) first
bits_all names first name r bit e so_far =
    placed_all names (side_by_side first bit) name r bit e so_far ∙ ap (side_by_side first) (e ∙ sym (keys-length name r))

pub one_bit : (names : List (List ℕ)) (first : ℕ) (net : NetId) (name key : List ℕ) → key ≡ scalar_key name → first ≡ net.0 → net_of names key ≡ net
    → StandFrom names (keys name None) first
unfolding keys
one_bit names first net name key is at found =
    let same : net ≡ net_at first 0 = λ i. record { 0 = (sym at ∙ sym (plus_zero first)) i } in
    ap (λ k. net_of names k ∷ []) (sym is) ∙ ap (λ (n : NetId). n ∷ []) (found ∙ same)

-- ---- as a loop goes on

pub no_spans : (table names : List (List ℕ)) (scope : ℕ → Option Says) (spans : List (ℕ × ℕ)) → spans ≡ [] → AreSpans table names scope spans
no_spans table names scope spans e = record { is = λ id first s said there. absurd (none (sym (ap (λ (xs : List (ℕ × ℕ)). spanned xs id) e) ∙ there)) }
  where
    none : {n : ℕ} → ◌≡◌ {A = Option ℕ} None (Some n) → ⊥
    none e = cc

some_same : (a b : ℕ) → ◌≡◌ {A = Option ℕ} (Some a) (Some b) → a ≡ b
some_same a b e = cc

pub span_more : (table names : List (List ℕ)) (scope : ℕ → Option Says) (spans after : List (ℕ × ℕ)) (id first : ℕ) (says : Option Says)
    → says ≡ scope id → IsSpan table names says id first → ((k : ℕ) → spanned after k ≡ with_span (spanned spans) id first k)
    → AreSpans table names scope spans → AreSpans table names scope after
span_more table names scope spans after id first says is here put so_far = record { is = at }
  where
    at : (k other : ℕ) (s : Says) → scope k ≡ Some s → spanned after k ≡ Some other → StandFrom names (keys_by table k s) other
    at k other s said there =
        elim (eqb_tells id k) [
          | inl same ↦
              let first_is : first ≡ other = some_same first other (sym (put k ∙ ap (λ (b : Bool). cond b (Some first) (spanned spans k)) same.0) ∙ there) in
              let says_is : says ≡ Some s = is ∙ ap scope same.1 ∙ said in
              subst (λ (f : ℕ). StandFrom names (keys_by table k s) f) first_is
              (subst (λ (n : ℕ). StandFrom names (keys_by table n s) first) same.1 (here s says_is))
          | inr apart ↦ so_far.is k other s said (sym (put k ∙ ap (λ (b : Bool). cond b (Some first) (spanned spans k)) apart.0) ∙ there)
        ]

-- ---- names whose keys are in turn

some_keys : (name : List ℕ) (r : Option Range) → 0 < length (keys name r)
unfolding keys
some_keys name None = omega arith
some_keys name (Some r) = let count = keys-length name r in omega (arith, count)

-- where keys are in turn, their nets stand side by side from that number on alone
one_turn : (names ks : List (List ℕ)) (a b : ℕ) → 0 < length ks → StandFrom names ks a → AreInTurn names ks b → a ≡ b
one_turn names [] a b some s t = absurd (omega (arith, some))
one_turn names (k ∷ ks) a b some s t =
    let first : net_of names k ≡ net (a + 0) = ap (λ (ns : List NetId). get_or ns 0 (net 0)) s in
    let number : unwrap_or (number_of names k) 0 ≡ a + 0 = ap (λ (n : NetId). n.0) first in
    let found : unwrap_or (number_of names k) 0 ≡ b + 0 = ap (λ (o : Option ℕ). unwrap_or o 0) (t.each 0 (omega arith)) in
    omega (arith, number, found)

pub turns_put : (table names : List (List ℕ)) (scope : ℕ → Option Says) (spans after : List (ℕ × ℕ)) (id first : ℕ) (says : Option Says) (ids : List ℕ)
    → says ≡ scope id → IsSpan table names says id first → ((k : ℕ) → spanned after k ≡ with_span (spanned spans) id first k)
    → HaveSpans table names scope ids spans → HaveSpans table names scope (ids ++ id ∷ []) after
turns_put table names scope spans after id first says ids is here put so_far =
    record {
      have =
          All-push (HasSpan table names scope after) ids id
          (All-weaker (HasSpan table names scope spans) (HasSpan table names scope after) kept ids so_far.have)
          (record {
            is = λ s f said t.
                put id ∙ (ap (λ (b : Bool). cond b (Some first) (spanned spans id)) (eq-eqb id id refl) ∙ ap (λ (n : ℕ). Some n) (same_first id refl s f said t));
          });
    }
  where
    same_first : (k : ℕ) → id ≡ k → (s : Says) (f : ℕ) → scope k ≡ Some s → AreInTurn names (keys_by table k s) f → first ≡ f
    same_first k same s f said t =
        one_turn names (keys_by table k s) first f (some_keys _ s.range)
        (subst (λ (n : ℕ). StandFrom names (keys_by table n s) first) same (here s (is ∙ ap scope same ∙ said))) t

    kept : (k : ℕ) → HasSpan table names scope spans k → HasSpan table names scope after k
    kept k h =
        record {
          is = λ s f said t.
              elim (eqb_tells id k) [
                | inl same ↦
                    put k ∙ (ap (λ (b : Bool). cond b (Some first) (spanned spans k)) same.0 ∙ ap (λ (n : ℕ). Some n) (same_first k same.1 s f said t))
                | inr apart ↦ put k ∙ (ap (λ (b : Bool). cond b (Some first) (spanned spans k)) apart.0 ∙ h.is s f said t)
              ];
        }

pub turns_none : (table names : List (List ℕ)) (scope : ℕ → Option Says) (spans : List (ℕ × ℕ)) (id : ℕ) (says : Option Says) (ids : List ℕ)
    → says ≡ scope id → IsNoSpan table names says id → HaveSpans table names scope ids spans → HaveSpans table names scope (ids ++ id ∷ []) spans
turns_none table names scope spans id says ids is none so_far =
    record {
      have =
          All-push (HasSpan table names scope spans) ids id so_far.have
          (record { is = λ s f said t. absurd ((none s (is ∙ said)).none f t) });
    }

pub no_turns : (table names : List (List ℕ)) (scope : ℕ → Option Says) (spans : List (ℕ × ℕ)) → HaveSpans table names scope [] spans
no_turns table names scope spans = record { have = All-nil (HasSpan table names scope spans) }

pub turns_more : (table names : List (List ℕ)) (scope : ℕ → Option Says) (spans : List (ℕ × ℕ)) (ds : List Declared) (i : ℕ) (d : Declared) → i < length ds
    → HaveSpans table names scope (ids_of (take i ds) ++ (get_or ds i d).name.id ∷ []) spans → HaveSpans table names scope (ids_of (take (i + 1) ds)) spans
turns_more table names scope spans ds i d lt h =
    let f : Declared → ℕ = λ q. q.name.id in
    let same : map f (take (i + 1) ds) ≡ map f (take i ds) ++ f (get_or ds i d) ∷ [] =
    ap (map f) (take_more ds i d lt) ∙ map-append f (take i ds) (get_or ds i d ∷ []) in
    subst (λ (ns : List ℕ). HaveSpans table names scope ns spans) (sym same) h

pub turns_all : (table names : List (List ℕ)) (scope : ℕ → Option Says) (spans : List (ℕ × ℕ)) (ds : List Declared) (i : ℕ) → length ds ≤ i
    → HaveSpans table names scope (ids_of (take i ds)) spans → HaveSpans table names scope (ids_of ds) spans
turns_all table names scope spans ds i le h = subst (λ (xs : List Declared). HaveSpans table names scope (ids_of xs) spans) (take_all i ds le) h
