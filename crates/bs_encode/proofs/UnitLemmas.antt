-- The tables of units say what the definition says.
use Rattle.std.proofs.Common.{◌≡◌, ℕ, suc, zero, ◌<◌, ◌≤◌, ◌+◌, ◌==◌, Bool, true, false, not, ◌||◌, cond, List, [], ◌∷◌, ◌++◌, map, length, get_or}
use Rattle.std.proofs.Common.{set, replicate, refl, arith, subst, ap, sym, ◌∙◌, ⊎_elim, nat_eq, eq-eqb, ne_eqb, length-set, get_or-set_same}
use Rattle.std.proofs.Common.{get_or-set_other, Option, Some, None, append-nil, append_assoc}
use Rattle.std.specs.Prelude.{filter}
use Rattle.std.specs.List.{AllByRecursion, flat_map, range_with_len, list_any, IsDistinct}
use Rattle.std.proofs.lemmas.Bool.{cases_eq, eqb-false}
use Rattle.std.proofs.lemmas.Cmp.{nat_eq_equiv}
use Rattle.std.proofs.lemmas.List.{get_or-replicate, length-replicate}
use Rattle.std.proofs.lemmas.List.Concat.{flat_map-append}
use Rattle.std.proofs.lemmas.Map.Keys.{IsDistinct-head, IsDistinct-tail}
use Rattle.bs_clause.specs.Literal.{Clause}
use Rattle.bs_net.specs.declared.net.Const.{Const}
use Rattle.bs_net.specs.Circuit.{Circuit, is_zero_net, drivers, number, state_nets}
use Rattle.bs_bits.proofs.RangeLemmas.{range_push}
use Rattle.bs_net.proofs.NextLemmas.{range_from_below}
use Rattle.bs_encode.specs.Tables.{lit}
use Rattle.bs_encode.specs.Transition.{first_helper, first_next, gates_clauses, unit_clauses, next_clauses, cycle_clauses, transition_clauses, tidied}
use Rattle.bs_encode.specs.Units.{constant_unit, table_units, with_constants, AreZeros}

pub flat_map_more : (f : ℕ → List Clause) (i : ℕ) → flat_map f (range_with_len 0 (i + 1)) ≡ flat_map f (range_with_len 0 i) ++ f i
flat_map_more f i =
    ap (flat_map f) (range_push i)
    ∙ (flat_map-append f (range_with_len 0 i) (i ∷ []) ∙ ap (λ ys. flat_map f (range_with_len 0 i) ++ ys) (append-nil (f i)))

flat_map_same : (f g : ℕ → List Clause) (ns : List ℕ) → AllByRecursion (λ n. f n ≡ g n) ns → flat_map f ns ≡ flat_map g ns
flat_map_same f g [] h = refl
flat_map_same f g (n ∷ ns) h = ap (λ xs. xs ++ flat_map f ns) h.0 ∙ ap (λ ys. g n ++ ys) (flat_map_same f g ns h.1)

-- ---- constants

none_at : (n : ℕ) (ks : List Const) → AllByRecursion (λ y. nat_eq n y ≡ false) (map (λ (k : Const). k.net.0) ks) → filter (λ (k : Const). k.net.0 == n) ks ≡ []
none_at n [] a = refl
none_at n (k ∷ ks) a =
    ap (λ b. cond b (k ∷ filter (λ (i : Const). i.net.0 == n) ks) (filter (λ (i : Const). i.net.0 == n) ks)) (nat_eq_equiv.symm k.net.0 n ∙ a.0)
    ∙ none_at n ks a.1

kept_at : (n : ℕ) (ks : List Const) (table : List (Option Bool)) → AllByRecursion (λ y. nat_eq n y ≡ false) (map (λ (k : Const). k.net.0) ks) →
    get_or (with_constants table ks) n None ≡ get_or table n None
kept_at n [] table a = refl
kept_at n (k ∷ ks) table a = kept_at n ks (set table k.net.0 (Some k.value)) a.1
    ∙ get_or-set_other table k.net.0 n (Some k.value) None (eqb-false n k.net.0 a.0)

pub constants_at : (n : ℕ) (ks : List Const) (table : List (Option Bool)) → IsDistinct nat_eq (map (λ (k : Const). k.net.0) ks) →
    AllByRecursion (λ (k : Const). k.net.0 < length table) ks → get_or table n None ≡ None →
    map (λ (k : Const). lit (n + 1) k.value ∷ []) (filter (λ (k : Const). k.net.0 == n) ks) ≡ constant_unit (n + 1) (get_or (with_constants table ks) n None)
constants_at n [] table d p e = sym (ap (constant_unit (n + 1)) e)
constants_at n (k ∷ ks) table d p e =
    let unit : Const → Clause = λ i. lit (n + 1) i.value ∷ [] in
    let rest = filter (λ (i : Const). i.net.0 == n) ks in
    let P : ℕ → Type 0 = λ m. AllByRecursion (λ (i : Const). i.net.0 < m) ks in
    let head = IsDistinct-head nat_eq k.net.0 (map (λ (i : Const). i.net.0) ks) d in
    ⊎_elim
    (λ (same : n ≡ k.net.0).
    let Q : ℕ → Type 0 = λ m. AllByRecursion (λ y. nat_eq m y ≡ false) (map (λ (i : Const). i.net.0) ks) in
    let apart : AllByRecursion (λ y. nat_eq n y ≡ false) (map (λ (i : Const). i.net.0) ks) = subst Q (sym same) head in
    let value : get_or (with_constants (set table k.net.0 (Some k.value)) ks) n None ≡ Some k.value =
    kept_at n ks (set table k.net.0 (Some k.value)) apart
    ∙ (ap (λ m. get_or (set table k.net.0 (Some k.value)) m None) same ∙ get_or-set_same table k.net.0 (Some k.value) None p.0) in
    ap (λ b. map (λ (i : Const). lit (n + 1) i.value ∷ []) (cond b (k ∷ filter (λ (i : Const). i.net.0 == n) ks) (filter (λ (i : Const). i.net.0 == n) ks)))
    (eq-eqb k.net.0 n (sym same))
    ∙ (ap (λ (l : List Const). (lit (n + 1) k.value ∷ []) ∷ map (λ (i : Const). lit (n + 1) i.value ∷ []) l) (none_at n ks apart)
    ∙ sym (ap (constant_unit (n + 1)) value)))
    (λ (other : n ≡ k.net.0 → ⊥).
    ap (λ b. map (λ (i : Const). lit (n + 1) i.value ∷ []) (cond b (k ∷ filter (λ (i : Const). i.net.0 == n) ks) (filter (λ (i : Const). i.net.0 == n) ks)))
    (ne_eqb k.net.0 n (λ q. other (sym q)))
    ∙ constants_at n ks (set table k.net.0 (Some k.value)) (IsDistinct-tail nat_eq k.net.0 (map (λ (i : Const). i.net.0) ks) d)
    (subst P (sym (length-set table k.net.0 (Some k.value))) p.1)
    (get_or-set_other table k.net.0 n (Some k.value) None other ∙ e))
    (cases_eq n k.net.0)

-- ---- all units

pub units_are : (c : Circuit) (marks : List Bool) → AreZeros c marks → IsDistinct nat_eq (map (λ (k : Const). k.net.0) c.constants) →
    AllByRecursion (λ (k : Const). k.net.0 < c.nets) c.constants →
    flat_map (table_units marks (with_constants (replicate c.nets None) c.constants)) (range_with_len 0 c.nets) ≡ flat_map (unit_clauses c)
    (range_with_len 0 c.nets)
units_are c marks z d p =
    let none : Option Bool = None in
    let empty : List (Option Bool) = replicate c.nets none in
    let P : ℕ → Type 0 = λ m. AllByRecursion (λ (k : Const). k.net.0 < m) c.constants in
    flat_map_same (table_units marks (with_constants (replicate c.nets None) c.constants)) (unit_clauses c) (range_with_len 0 c.nets)
    (range_from_below (λ n. table_units marks (with_constants (replicate c.nets None) c.constants) n ≡ unit_clauses c n) c.nets
    (λ n lt.
    sym
    (ap (λ xs. xs ++ cond (is_zero_net c n) ((lit (n + 1) false ∷ []) ∷ []) [])
    (constants_at n c.constants (replicate c.nets none) d (subst P (sym (length-replicate c.nets none)) p) (get_or-replicate c.nets n none none lt))
    ∙ ap (λ b. constant_unit (n + 1) (get_or (with_constants (replicate c.nets None) c.constants) n None) ++ cond b ((lit (n + 1) false ∷ []) ∷ []) [])
    (sym (z.1 n lt)))))

-- ---- zero nets

pub zero_after : (c : Circuit) (table : List Bool) → length table ≡ c.nets →
    ((k : ℕ) → k < length table → get_or table k false ≡ not (list_any (λ m. k == m) (drivers c))) → AreZeros c (set table c.clock.0 true)
zero_after c table wide h = (
  length-set table c.clock.0 true ∙ wide,
  λ n below.
      ⊎_elim
      (λ (same : n ≡ c.clock.0).
      let lt : c.clock.0 < length table = omega (arith, same, below, wide) in
      ap (λ k. get_or (set table c.clock.0 true) k false) same
      ∙ (get_or-set_same table c.clock.0 true false lt ∙ sym (ap (λ b. b || not (list_any (λ m. n == m) (drivers c))) (eq-eqb n c.clock.0 same))))
      (λ (other : n ≡ c.clock.0 → ⊥).
      get_or-set_other table c.clock.0 n true false other
      ∙ (h n (omega (arith, wide, below)) ∙ sym (ap (λ b. b || not (list_any (λ m. n == m) (drivers c))) (ne_eqb n c.clock.0 other))))
      (cases_eq n c.clock.0),
)

-- ---- constants stand apart in a checked circuit

back_distinct : (xs ys : List ℕ) → IsDistinct nat_eq (xs ++ ys) → IsDistinct nat_eq ys
back_distinct [] ys d = d
back_distinct (x ∷ xs) ys d = back_distinct xs ys (IsDistinct-tail nat_eq x (xs ++ ys) d)

front_distinct : (xs ys : List ℕ) → IsDistinct nat_eq (xs ++ ys) → IsDistinct nat_eq xs
unfolding IsDistinct
front_distinct [] ys d = tt
front_distinct (x ∷ xs) ys d = (front xs (IsDistinct-head nat_eq x (xs ++ ys) d), front_distinct xs ys (IsDistinct-tail nat_eq x (xs ++ ys) d))
  where
    front : (zs : List ℕ) → AllByRecursion (λ y. nat_eq x y ≡ false) (zs ++ ys) → AllByRecursion (λ y. nat_eq x y ≡ false) zs
    front [] a = tt
    front (z ∷ zs) a = (a.0, front zs a.1)

pub constants_apart : (c : Circuit) → IsDistinct nat_eq (c.clock.0 ∷ drivers c) → IsDistinct nat_eq (map (λ (k : Const). k.net.0) c.constants)
constants_apart c d =
    front_distinct (map (λ (k : Const). k.net.0) c.constants) (map (λ g. g.out.0) c.gates)
    (back_distinct (map number (state_nets c)) _ (back_distinct (map number c.inputs) _ (IsDistinct-tail nat_eq c.clock.0 (drivers c) d)))

pub set_past : (xs : List Bool) (n : ℕ) (b : Bool) → length xs ≤ n → set xs n b ≡ xs
set_past [] n b le = refl
set_past (x ∷ xs) zero b le = absurd (omega arith)
set_past (x ∷ xs) (suc n) b le = ap (λ ys. x ∷ ys) (set_past xs n b (omega arith))

-- ---- the parts, one after another

pub parts_joined : (a b d i₁ i₂ i₃ : List Clause) → i₁ ≡ [] ++ a → i₂ ≡ i₁ ++ b → i₃ ≡ i₂ ++ d → i₃ ≡ a ++ (b ++ d)
parts_joined a b d i₁ i₂ i₃ e₁ e₂ e₃ = e₃ ∙ (ap (λ l. l ++ d) (e₂ ∙ ap (λ l. l ++ b) e₁) ∙ append_assoc a b d)

-- one part more at the end
pub part_joined : (a b d e i : List Clause) → i ≡ (a ++ (b ++ d)) ++ e → i ≡ a ++ (b ++ (d ++ e))
part_joined a b d e i is = is ∙ (append_assoc a (b ++ d) e ∙ ap (λ l. a ++ l) (append_assoc b d e))

-- without items
pub plain_tables : (c : Circuit) (clauses : List Clause) → clauses ≡ cycle_clauses c → tidied clauses ≡ transition_clauses c []
plain_tables c clauses is =
    ap tidied
    (is
    ∙ ap (λ l. gates_clauses (first_helper c) c.gates ++ (flat_map (unit_clauses c) (range_with_len 0 c.nets) ++ l))
    (sym (append-nil (next_clauses (first_next c) c.flops))))

pub units_in_tables : (c : Circuit) (marks : List Bool) (values : List (Option Bool)) → AreZeros c marks →
    values ≡ with_constants (replicate c.nets None) c.constants → IsDistinct nat_eq (map (λ (k : Const). k.net.0) c.constants) →
    AllByRecursion (λ (k : Const). k.net.0 < c.nets) c.constants →
    flat_map (table_units marks values) (range_with_len 0 (length marks)) ≡ flat_map (unit_clauses c) (range_with_len 0 c.nets)
units_in_tables c marks values z e d p =
    ap (λ (v : List (Option Bool)). flat_map (table_units marks v) (range_with_len 0 (length marks))) e
    ∙ (ap (λ n. flat_map (table_units marks (with_constants (replicate c.nets None) c.constants)) (range_with_len 0 n)) z.0
    ∙ units_are c marks z d p)
