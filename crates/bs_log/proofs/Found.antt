-- What an id names in a list of clauses.
use Rattle.std.proofs.Common.{◌≡◌, ◌≢◌, ℕ, zero, suc, ◌+◌, ◌<◌, ◌≤◌, arith, Bool, true, false, not, cond, eqb, List, [], ◌∷◌, ◌++◌, length, refl, sym, ap, ◌∙◌}
use Rattle.std.proofs.Common.{Option, Some, None}
use Rattle.std.specs.Prelude.{slice_get}
use Rattle.std.specs.Option.{option_or}
use Rattle.std.specs.List.{filter, AllByRecursion}
use Rattle.std.proofs.lemmas.Bool.{eqb-true, eq-eqb, ne_eqb}
use Rattle.bs_clause.specs.Literal.{Clause}
use Rattle.bs_log.specs.declared.origin.Origin.TheVariants.{Axiom}
use Rattle.bs_log.specs.History.{Entry, axioms_from}
use Rattle.bs_log.specs.Refusal.{entry_of}

pub found_filter : (gone : ℕ → Bool) (es : List Entry) (i : ℕ) → entry_of (filter (λ e. not (gone e.id)) es) i ≡ cond (gone i) None (entry_of es i)
found_filter gone [] i = by (gone i)
  where
    by : (b : Bool) → None ≡ cond {A = Option Entry} b None None
    by true = refl
    by false = refl
found_filter gone (e ∷ es) i = by (gone e.id) refl (eqb e.id i) refl (found_filter gone es i)
  where
    here : (b : Bool) → gone e.id ≡ b → eqb e.id i ≡ true → gone i ≡ b
    here b is same = ap gone (sym (eqb-true e.id i same)) ∙ is

    by : (g : Bool) → gone e.id ≡ g → (b : Bool) → eqb e.id i ≡ b → entry_of (filter (λ x. not (gone x.id)) es) i ≡ cond (gone i) None (entry_of es i) →
        entry_of (cond (not g) (e ∷ (filter (λ x. not (gone x.id)) es)) (filter (λ x. not (gone x.id)) es)) i ≡ cond (gone i) None (cond b (Some e) (entry_of es i))
    by true is true same later =
        later ∙ (ap (λ t. cond t None (entry_of es i)) (here true is same) ∙ sym (ap (λ t. cond t None (Some e)) (here true is same)))
    by true is false other later = later
    by false is true same later = ap (λ t. cond t (Some e) (entry_of (filter (λ x. not (gone x.id)) es) i)) same ∙ sym (ap (λ t. cond t None (Some e)) (here false is same))
    by false is false other later = ap (λ t. cond t (Some e) (entry_of (filter (λ x. not (gone x.id)) es) i)) other ∙ later

pub found_append : (xs ys : List Entry) (i : ℕ) → entry_of (xs ++ ys) i ≡ option_or (entry_of xs i) (entry_of ys i)
found_append [] ys i = refl
found_append (x ∷ xs) ys i = by (eqb x.id i) (found_append xs ys i)
  where
    by : (b : Bool) → entry_of (xs ++ ys) i ≡ option_or (entry_of xs i) (entry_of ys i) →
        cond b (Some x) (entry_of (xs ++ ys) i) ≡ option_or (cond b (Some x) (entry_of xs i)) (entry_of ys i)
    by true later = refl
    by false later = later

pub or_none : (o : Option Entry) → option_or o None ≡ o
or_none None = refl
or_none (Some e) = refl

-- one clause more, under another id
pub found_other : (xs : List Entry) (e : Entry) (i : ℕ) → e.id ≢ i → entry_of (xs ++ e ∷ []) i ≡ entry_of xs i
found_other xs e i other =
    found_append xs (e ∷ []) i
    ∙ (ap (λ b. option_or (entry_of xs i) (cond b (Some e) None)) (ne_eqb e.id i other) ∙ or_none (entry_of xs i))

-- an id above all of them names none
pub found_above : (last : ℕ) (es : List Entry) (i : ℕ) → AllByRecursion (λ e. e.id ≤ last) es → last < i → entry_of es i ≡ None
found_above last [] i all above = refl
found_above last (e ∷ es) i all above =
    let low = all.0 in
    ap (λ b. cond b (Some e) (entry_of es i)) (ne_eqb e.id i (λ same. omega (arith, same, low, above))) ∙ found_above last es i all.1 above

pub axiom_low : (m : ℕ) (cs : List Clause) (i : ℕ) → i < m → entry_of (axioms_from m cs) i ≡ None
axiom_low m [] i low = refl
axiom_low m (c ∷ cs) i low =
    ap (λ b. cond b (Some (record { id = m; origin = Axiom; literals = c })) (entry_of (axioms_from (m + 1) cs) i)) (ne_eqb m i (λ same. omega (arith, same, low)))
    ∙ axiom_low (m + 1) cs i (omega (arith, low))

pub axiom_high : (m : ℕ) (cs : List Clause) (i : ℕ) → m + length cs ≤ i → entry_of (axioms_from m cs) i ≡ None
axiom_high m [] i high = refl
axiom_high m (c ∷ cs) i high =
    ap (λ b. cond b (Some (record { id = m; origin = Axiom; literals = c })) (entry_of (axioms_from (m + 1) cs) i)) (ne_eqb m i (λ same. omega (arith, same, high)))
    ∙ axiom_high (m + 1) cs i (omega (arith, high))

pub axiom_at : (m : ℕ) (cs : List Clause) (k i : ℕ) (c : Clause) → slice_get cs k ≡ Some c → i ≡ m + k →
    entry_of (axioms_from m cs) i ≡ Some (record { id = i; origin = Axiom; literals = c })
axiom_at m [] k i c e at = cc
axiom_at m (x ∷ cs) zero i c e at =
    let same : x ≡ c = cc in
    let here : m ≡ i = omega (arith, at) in
    ap (λ b. cond b (Some (record { id = m; origin = Axiom; literals = x })) (entry_of (axioms_from (m + 1) cs) i)) (eq-eqb m i here)
    ∙ (λ t. Some (record { id = here t; origin = Axiom; literals = same t }))
axiom_at m (x ∷ cs) (suc k) i c e at =
    ap (λ b. cond b (Some (record { id = m; origin = Axiom; literals = x })) (entry_of (axioms_from (m + 1) cs) i)) (ne_eqb m i (λ same. omega (arith, same, at)))
    ∙ axiom_at (m + 1) cs k i c e (omega (arith, at))

pub axioms_append : (m : ℕ) (cs ds : List Clause) (k : ℕ) → k ≡ m + length cs → axioms_from m (cs ++ ds) ≡ axioms_from m cs ++ axioms_from k ds
axioms_append m [] ds k at = let same : m ≡ k = omega (arith, at) in ap (λ (n : ℕ). axioms_from n ds) same
axioms_append m (c ∷ cs) ds k at = ap (λ (es : List Entry). record { id = m; origin = Axiom; literals = c } ∷ es) (axioms_append (m + 1) cs ds k (omega (arith, at)))

-- ---- members of lists

pub get_behind : {X : Type 0} (xs ys : List X) (k i : ℕ) → i ≡ length xs + k → slice_get (xs ++ ys) i ≡ slice_get ys k
get_behind [] ys k i at = let same : i ≡ k = omega (arith, at) in ap (slice_get ys) same
get_behind (x ∷ xs) ys k zero at = absurd (omega (arith, at))
get_behind (x ∷ xs) ys k (suc i) at = get_behind xs ys k i (omega (arith, at))

pub get_front : {X : Type 0} (xs ys : List X) (k : ℕ) (x : X) → slice_get xs k ≡ Some x → slice_get (xs ++ ys) k ≡ Some x
get_front [] ys k x e = cc
get_front (y ∷ xs) ys zero x e = e
get_front (y ∷ xs) ys (suc k) x e = get_front xs ys k x e
