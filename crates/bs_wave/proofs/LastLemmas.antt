-- The moment without an input: the marks of what is decided, and the values where they are.
use Rattle.std.proofs.Common.{◌≡◌, ℕ, zero, suc, ◌<◌, ◌+◌, Bool, true, false, cond, not, ◌||◌, List, [], ◌∷◌, ◌++◌, map, length, take, get_or, set}
use Rattle.std.proofs.Common.{replicate, refl}
use Rattle.std.proofs.Common.{arith, ap, sym, ◌∙◌, subst, length-set, get_or-set_same, get_or-set_other, nat_eq}
use Rattle.std.specs.Prelude.{Result, Ok, Err, IfOk}
use Rattle.std.specs.List.{list_any, All, AllByRecursion}
use Rattle.std.proofs.lemmas.Bool.{eqb-true, eqb-false}
use Rattle.std.proofs.lemmas.List.{length-replicate, get_or-replicate}
use Rattle.std.proofs.lemmas.List.Elements.{recursion_from_All}
use Rattle.bs_net.specs.declared.net.NetId.{NetId}
use Rattle.bs_net.specs.declared.net.Const.{Const}
use Rattle.bs_net.specs.declared.net.Gate.{Gate}
use Rattle.bs_net.specs.Circuit.{Circuit, Fits, bit_at, shown, number, state_nets, drivers, is_zero_net}
use Rattle.bs_net.specs.Order.{IsChecked}
use Rattle.bs_sim.proofs.SourceLemmas.{all_first, all_last}
use Rattle.bs_wave.specs.declared.value.Value.{Value}
use Rattle.bs_wave.specs.Wave.{value_of, value_at, values_on, is_decided, IsLastMoment}
use Rattle.bs_wave.specs.Deciding.{value_where, values_where, marked, decided_marks}
use Rattle.bs_wave.proofs.ListLemmas.{any_append, any_at}

-- ---- marks

pub length-marked : (b : Bool) (t : List Bool) (ns : List ℕ) → length (marked b t ns) ≡ length t
length-marked b t [] = refl
length-marked b t (n ∷ ns) = length-marked b (set t n b) ns ∙ length-set t n b

abbrev has : ℕ → List ℕ → Bool
has n ns = list_any (λ m. nat_eq n m) ns

marked_at : (b : Bool) (t : List Bool) (ns : List ℕ) (n : ℕ) (d : Bool) → n < length t → get_or (marked b t ns) n d ≡ cond (has n ns) b (get_or t n d)
marked_at b t [] n d lt = refl
marked_at b t (m ∷ ns) n d lt =
    let wide : n < length (set t m b) = omega (arith, lt, length-set t m b) in
    marked_at b (set t m b) ns n d wide ∙ by (nat_eq n m) refl (has n ns)
  where
    here : n ≡ m → get_or (set t m b) n d ≡ b
    here e = ap (λ k. get_or (set t k b) n d) (sym e) ∙ get_or-set_same t n b d lt

    by : (z : Bool) → nat_eq n m ≡ z → (r : Bool) → cond r b (get_or (set t m b) n d) ≡ cond (z || r) b (get_or t n d)
    by true e true = refl
    by true e false = here (eqb-true n m e)
    by false e true = refl
    by false e false = get_or-set_other t m n b d (eqb-false n m e)

table : (z i q k o : Bool) → cond (z || false) true (cond k true (cond q true (cond o false (cond i false true)))) ≡
    (z || not (i || (q || (k || o)))) || (q || k)
table true i q k o = refl
table false true true true o = refl
table false true true false o = refl
table false true false true o = refl
table false true false false true = refl
table false true false false false = refl
table false false true true o = refl
table false false true false o = refl
table false false false true o = refl
table false false false false true = refl
table false false false false false = refl

-- what is marked is decided
pub decided_at : (c : Circuit) (n : ℕ) (d : Bool) → n < c.nets → get_or (decided_marks c) n d ≡ is_decided c n
decided_at c n d lt =
    let ins = map number c.inputs in
    let qs = map number (state_nets c) in
    let ks = map (λ (k : Const). k.net.0) c.constants in
    let outs = map (λ (g : Gate). g.out.0) c.gates in
    let t₀ : List Bool = replicate c.nets true in
    let t₁ = marked false t₀ ins in
    let t₂ = marked false t₁ outs in
    let t₃ = marked true t₂ qs in
    let t₄ = marked true t₃ ks in
    let l₀ : n < length t₀ = omega (arith, lt, length-replicate c.nets true) in
    let l₁ : n < length t₁ = omega (arith, l₀, length-marked false t₀ ins) in
    let l₂ : n < length t₂ = omega (arith, l₁, length-marked false t₁ outs) in
    let l₃ : n < length t₃ = omega (arith, l₂, length-marked true t₂ qs) in
    let l₄ : n < length t₄ = omega (arith, l₃, length-marked true t₃ ks) in
    let z = nat_eq n c.clock.0 in
    let driven : has n (ins ++ (qs ++ (ks ++ outs))) ≡ has n ins || (has n qs || (has n ks || has n outs)) =
    any_append (λ m. nat_eq n m) ins (qs ++ (ks ++ outs))
    ∙ ap (λ b. has n ins || b) (any_append (λ m. nat_eq n m) qs (ks ++ outs) ∙ ap (λ b. has n qs || b) (any_append (λ m. nat_eq n m) ks outs)) in
    let shown_first : has n (qs ++ ks) ≡ has n qs || has n ks = any_append (λ m. nat_eq n m) qs ks in
    marked_at true t₄ (c.clock.0 ∷ []) n d l₄
    ∙ (ap (λ b. cond (z || false) true b)
    (marked_at true t₃ ks n d l₃
    ∙ ap (λ b. cond (has n ks) true b)
    (marked_at true t₂ qs n d l₂
    ∙ ap (λ b. cond (has n qs) true b)
    (marked_at false t₁ outs n d l₁
    ∙ ap (λ b. cond (has n outs) false b)
    (marked_at false t₀ ins n d l₀ ∙ ap (λ b. cond (has n ins) false b) (get_or-replicate c.nets n true d lt)))))
    ∙ (table z (has n ins) (has n qs) (has n ks) (has n outs)
    ∙ sym (ap (λ b. (z || not b) || has n (qs ++ ks)) driven ∙ ap (λ b. (z || not (has n ins || (has n qs || (has n ks || has n outs)))) || b) shown_first)))

-- ---- values where they are known

pub one_more_value : (ks bs : List Bool) (n : ℕ) (k b : Bool) → n < length ks → n < length bs → k ≡ get_or ks n false → b ≡ get_or bs n false →
    values_where (take n ks) (take n bs) ++ value_where k b ∷ [] ≡ values_where (take (n + 1) ks) (take (n + 1) bs)
one_more_value ks bs n k b lk lb ek eb =
    let e : n + 1 ≡ suc n = omega arith in
    ap (λ x. values_where (take n ks) (take n bs) ++ value_where x b ∷ []) ek
    ∙ (ap (λ x. values_where (take n ks) (take n bs) ++ value_where (get_or ks n false) x ∷ []) eb
    ∙ (by ks bs n lk lb ∙ ap (λ m. values_where (take m ks) (take m bs)) (sym e)))
  where
    by : (ks bs : List Bool) (n : ℕ) → n < length ks → n < length bs →
        values_where (take n ks) (take n bs) ++ value_where (get_or ks n false) (get_or bs n false) ∷ [] ≡ values_where (take (suc n) ks) (take (suc n) bs)
    by [] bs n lk lb = absurd (omega arith)
    by (k ∷ ks) [] n lk lb = absurd (omega arith)
    by (k ∷ ks) (b ∷ bs) zero lk lb = refl
    by (k ∷ ks) (b ∷ bs) (suc n) lk lb = ap (λ l. value_where k b ∷ l) (by ks bs n (omega arith) (omega arith))

pub length-where : (ks bs : List Bool) → length ks ≡ length bs → length (values_where ks bs) ≡ length bs
length-where [] [] e = refl
length-where [] (b ∷ bs) e = absurd (omega (arith, e))
length-where (k ∷ ks) [] e = absurd (omega (arith, e))
length-where (k ∷ ks) (b ∷ bs) e = ap suc (length-where ks bs (omega (arith, e)))

where_at : (ks bs : List Bool) (n : ℕ) → n < length ks → n < length bs →
    value_at (values_where ks bs) n ≡ value_where (get_or ks n false) (get_or bs n false)
where_at [] bs n lk lb = absurd (omega arith)
where_at (k ∷ ks) [] n lk lb = absurd (omega arith)
where_at (k ∷ ks) (b ∷ bs) zero lk lb = refl
where_at (k ∷ ks) (b ∷ bs) (suc n) lk lb = where_at ks bs n (omega arith) (omega arith)

-- ---- the last moment

pub length-decided : (c : Circuit) → length (decided_marks c) ≡ c.nets
length-decided c =
    let ins = map number c.inputs in
    let qs = map number (state_nets c) in
    let ks = map (λ (k : Const). k.net.0) c.constants in
    let outs = map (λ (g : Gate). g.out.0) c.gates in
    let t₀ : List Bool = replicate c.nets true in
    let t₁ = marked false t₀ ins in
    let t₂ = marked false t₁ outs in
    let t₃ = marked true t₂ qs in
    let t₄ = marked true t₃ ks in
    length-marked true t₄ (c.clock.0 ∷ [])
    ∙ (length-marked true t₃ ks
    ∙ (length-marked true t₂ qs ∙ (length-marked false t₁ outs ∙ (length-marked false t₀ ins ∙ length-replicate c.nets true))))

-- the value of a net by its mark
value_is : (c : Circuit) (s x v : List Bool) → Fits c s x v → (n : ℕ) → n < c.nets →
    value_at (values_where (decided_marks c) v) n ≡ value_where (is_decided c n) (bit_at v n)
value_is c s x v fits n lt =
    let marks : n < length (decided_marks c) = omega (arith, lt, length-decided c) in
    let wide : n < length v = omega (arith, lt, fits.every_net) in
    where_at (decided_marks c) v n marks wide ∙ ap (λ b. value_where b (bit_at v n)) (decided_at c n false lt)

-- what is decided has the value of its bit
value_decided : (c : Circuit) (s x v : List Bool) → Fits c s x v → (n : ℕ) → n < c.nets → is_decided c n ≡ true →
    value_at (values_where (decided_marks c) v) n ≡ value_of (bit_at v n)
value_decided c s x v fits n lt e = value_is c s x v fits n lt ∙ ap (λ b. value_where b (bit_at v n)) e

either_true : (a b : Bool) → b ≡ true → a || b ≡ true
either_true true b e = refl
either_true false b e = e

first_true : (a b : Bool) → a ≡ true → a || b ≡ true
first_true a b e = ap (λ x. x || b) e

-- the flip-flops' outputs and the constants are nets
pub sources_below : (c : Circuit) → IsChecked c →
    AllByRecursion (λ n. n < c.nets) (map number c.inputs) × AllByRecursion (λ n. n < c.nets) (map number (state_nets c)) ×
    AllByRecursion (λ n. n < c.nets) (map (λ (k : Const). k.net.0) c.constants)
sources_below c checked =
    let P : ℕ → Type 0 = λ n. n < c.nets in
    let ins = map number c.inputs in
    let qs = map number (state_nets c) in
    let ks = map (λ (k : Const). k.net.0) c.constants in
    let outs = map (λ (g : Gate). g.out.0) c.gates in
    let all = recursion_from_All P (drivers c) checked.in_range in
    let late = all_last P ins (qs ++ (ks ++ outs)) all in
    let last = all_last P qs (ks ++ outs) late in
    (all_first P ins (qs ++ (ks ++ outs)) all, all_first P qs (ks ++ outs) late, all_first P ks outs last)

-- a place of a mapped list
pub at_mapped : {X : Type 0} (P : ℕ → Type 0) (f : X → ℕ) (xs : List X) → AllByRecursion P (map f xs) → (j : ℕ) (d : X) → j < length xs → P (f (get_or xs j d))
at_mapped P f [] h j d lt = absurd (omega arith)
at_mapped P f (x ∷ xs) h zero d lt = h.0
at_mapped P f (x ∷ xs) h (suc j) d lt = at_mapped P f xs h.1 j d (omega arith)

-- nets that all have the values of their bits
pub values_shown : (ns : List NetId) (values : List Value) (v : List Bool) → All (λ (n : NetId). value_at values n.0 ≡ value_of (bit_at v n.0)) ns →
    values_on values ns ≡ map value_of (shown v ns)
values_shown ns values v h = by ns (recursion_from_All (λ (n : NetId). value_at values n.0 ≡ value_of (bit_at v n.0)) ns h)
  where
    by : (ns : List NetId) → AllByRecursion (λ (n : NetId). value_at values n.0 ≡ value_of (bit_at v n.0)) ns → values_on values ns ≡ map value_of (shown v ns)
    by [] h = refl
    by (n ∷ ns) h = ap (λ x. x ∷ values_on values ns) h.0 ∙ ap (λ l. value_of (bit_at v n.0) ∷ l) (by ns h.1)

pub last_is : (c : Circuit) (s x v known : List Bool) (values : List Value) → IsChecked c → Fits c s x v → known ≡ decided_marks c →
    values ≡ values_where known v → IsLastMoment c s values
last_is c s x v known values checked fits marks are = subst (IsLastMoment c s) (sym (are ∙ ap (λ k. values_where k v) marks)) made
  where
    own : List Value
    own = values_where (decided_marks c) v

    below : AllByRecursion (λ n. n < c.nets) (map number c.inputs) × AllByRecursion (λ n. n < c.nets) (map number (state_nets c)) ×
        AllByRecursion (λ n. n < c.nets) (map (λ (k : Const). k.net.0) c.constants)
    below = sources_below c checked

    net_decided : (n : ℕ) → list_any (λ m. nat_eq n m) (map number (state_nets c) ++ map (λ (k : Const). k.net.0) c.constants) ≡ true → is_decided c n ≡ true
    net_decided n e = either_true (is_zero_net c n) _ e

    made : IsLastMoment c s own
    made = record {
      every_net = length-where (decided_marks c) v (length-decided c ∙ sym fits.every_net) ∙ fits.every_net;
      state =
          values_shown (state_nets c) own v
          (λ j d lt.
          let n = get_or (state_nets c) j d in
          value_decided c s x v fits n.0 (at_mapped (λ n. n < c.nets) number (state_nets c) below.1 j d lt)
          (net_decided n.0
          (any_append (λ m. nat_eq n.0 m) (map number (state_nets c)) (map (λ (k : Const). k.net.0) c.constants)
          ∙ first_true _ _ (any_at number (state_nets c) j d lt))))
          ∙ ap (map value_of) fits.state;
      constants =
          λ j d lt.
          let k = get_or c.constants j d in
          let f : Const → ℕ = λ k. k.net.0 in
          value_decided c s x v fits k.net.0 (at_mapped (λ n. n < c.nets) f c.constants below.2 j d lt)
          (net_decided k.net.0
          (any_append (λ m. nat_eq k.net.0 m) (map number (state_nets c)) (map f c.constants)
          ∙ either_true _ _ (any_at f c.constants j d lt)))
          ∙ ap value_of (fits.constants j d lt);
      zeros =
          λ n lt z.
          value_decided c s x v fits n lt (first_true (is_zero_net c n) _ z) ∙ ap value_of (fits.zeros n lt z);
      others = λ n lt e. value_is c s x v fits n lt ∙ ap (λ b. value_where b (bit_at v n)) e;
    }

-- the same of what the program answers
pub last_if : (c : Circuit) (s x v known : List Bool) {E : Type 0} (r : Result (List Value) E) → IsChecked c → Fits c s x v → known ≡ decided_marks c →
    IfOk r (λ values. values ≡ values_where known v) → IfOk r (IsLastMoment c s)
last_if c s x v known (Ok values) checked fits marks are = last_is c s x v known values checked fits marks are
last_if c s x v known (Err want) checked fits marks are = tt
