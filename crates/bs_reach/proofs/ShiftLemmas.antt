-- Ids and variables keep their order where they go.
use Rattle.std.proofs.Common.{◌≡◌, ℕ, ◌+◌, ◌<◌, ◌≤◌, arith, Bool, true, false, ◌&&◌, cond, eqb, ltb, leb, refl, sym, ap, ◌⊎◌, inl, inr}
use Rattle.std.specs.Bool.{beq}
use Rattle.std.proofs.lemmas.Bool.{cases_lt, eqb-true, eq-eqb, ltb-true, lt-ltb, leb-true, leb-false, false_from_ne_true, both_ways}
use Rattle.bs_clause.specs.Literal.{Literal, same_literal}
use Rattle.bs_clause.proofs.Literals.{literal_from_parts}
use Rattle.bs_reach.specs.declared.offsets.Shift.{Shift}
use Rattle.bs_reach.specs.Renamed.{new_id, new_variable, new_literal}

-- two tests that say the same
pub same_test : (a b : Bool) → (a ≡ true → b ≡ true) → (b ≡ true → a ≡ true) → a ≡ b
same_test true b f g = sym (f refl)
same_test false b f g = sym (false_from_ne_true b (λ e. both_ways false refl (g e)))

-- the clauses are in their order
pub record IsShift (s : Shift) : Type 0 where
  pub front : s.front ≤ s.listed
  pub goes : s.front_by ≤ s.listed_by

-- ---- ids

abbrev AtFront : Shift → ℕ → ℕ → Type 0
AtFront s id new = (id ≤ s.front) × (new ≡ id)

abbrev Listed : Shift → ℕ → ℕ → Type 0
Listed s id new = (s.front < id) × (id ≤ s.listed) × (new ≡ id + s.front_by)

abbrev Behind : Shift → ℕ → ℕ → Type 0
Behind s id new = (s.front < id) × (s.listed < id) × (new ≡ id + s.listed_by)

abbrev Place : Shift → ℕ → ℕ → Type 0
Place s id new = AtFront s id new ⊎ (Listed s id new ⊎ Behind s id new)

pub place_of : (s : Shift) (id : ℕ) → Place s id (new_id s id)
place_of s id = by (leb id s.front) refl (leb id s.listed) refl
  where
    by : (a : Bool) → leb id s.front ≡ a → (b : Bool) → leb id s.listed ≡ b → Place s id (cond a id (cond b (id + s.front_by) (id + s.listed_by)))
    by true e b f = inl (leb-true id s.front e, refl)
    by false e true f = inr (inl (leb-false id s.front e, leb-true id s.listed f, refl))
    by false e false f = inr (inr (leb-false id s.front e, leb-false id s.listed f, refl))

rising : (s : Shift) (a b x y : ℕ) → IsShift s → a < b → Place s a x → Place s b y → x < y
rising s a b x y ok lt (inl p) (inl q) = omega (arith, lt, p.0, p.1, q.0, q.1)
rising s a b x y ok lt (inl p) (inr (inl q)) = omega (arith, lt, p.0, p.1, q.0, q.1, q.2)
rising s a b x y ok lt (inl p) (inr (inr q)) = omega (arith, lt, p.0, p.1, q.0, q.1, q.2)
rising s a b x y ok lt (inr (inl p)) (inl q) = absurd (omega (arith, lt, p.0, q.0))
rising s a b x y ok lt (inr (inl p)) (inr (inl q)) = omega (arith, lt, p.2, q.2)
rising s a b x y ok lt (inr (inl p)) (inr (inr q)) = let by = ok.goes in omega (arith, lt, p.2, q.2, by)
rising s a b x y ok lt (inr (inr p)) (inl q) = absurd (omega (arith, lt, p.0, q.0))
rising s a b x y ok lt (inr (inr p)) (inr (inl q)) = absurd (omega (arith, lt, p.1, q.1))
rising s a b x y ok lt (inr (inr p)) (inr (inr q)) = omega (arith, lt, p.2, q.2)

pub rises : (s : Shift) (a b : ℕ) → IsShift s → a < b → new_id s a < new_id s b
rises s a b ok lt = rising s a b (new_id s a) (new_id s b) ok lt (place_of s a) (place_of s b)

pub same_back : (s : Shift) (a b : ℕ) → IsShift s → new_id s a ≡ new_id s b → a ≡ b
same_back s a b ok e = elim (cases_lt a b) [
  | inl less ↦ let up = rises s a b ok less in absurd (omega (arith, up, e))
  | inr most ↦ elim (cases_lt b a) [
    | inl more ↦ let up = rises s b a ok more in absurd (omega (arith, up, e))
    | inr least ↦ omega (arith, most, least)
  ]
]

pub less_back : (s : Shift) (a b : ℕ) → IsShift s → new_id s a < new_id s b → a < b
less_back s a b ok h = elim (cases_lt a b) [
  | inl less ↦ less
  | inr most ↦ elim (cases_lt b a) [
    | inl more ↦ let up = rises s b a ok more in absurd (omega (arith, up, h))
    | inr least ↦
        let same : a ≡ b = omega (arith, most, least) in
        let e : new_id s a ≡ new_id s b = ap (new_id s) same in
        absurd (omega (arith, e, h))
  ]
]

pub same_id : (s : Shift) (a b : ℕ) → IsShift s → eqb (new_id s a) (new_id s b) ≡ eqb a b
same_id s a b ok =
    same_test (eqb (new_id s a) (new_id s b)) (eqb a b)
    (λ e. eq-eqb a b (same_back s a b ok (eqb-true (new_id s a) (new_id s b) e)))
    (λ e. eq-eqb (new_id s a) (new_id s b) (ap (new_id s) (eqb-true a b e)))

pub less_id : (s : Shift) (a b : ℕ) → IsShift s → ltb (new_id s a) (new_id s b) ≡ ltb a b
less_id s a b ok =
    same_test (ltb (new_id s a) (new_id s b)) (ltb a b)
    (λ e. lt-ltb a b (less_back s a b ok (ltb-true (new_id s a) (new_id s b) e)))
    (λ e. lt-ltb (new_id s a) (new_id s b) (rises s a b ok (ltb-true a b e)))

behind_goes : (s : Shift) (id new : ℕ) → s.listed < id → s.front ≤ s.listed → Place s id new → new ≡ id + s.listed_by
behind_goes s id new lt low (inl p) = absurd (omega (arith, lt, low, p.0))
behind_goes s id new lt low (inr (inl p)) = absurd (omega (arith, lt, p.1))
behind_goes s id new lt low (inr (inr p)) = p.2

pub new_behind : (s : Shift) (id : ℕ) → IsShift s → s.listed < id → new_id s id ≡ id + s.listed_by
new_behind s id ok lt = behind_goes s id (new_id s id) lt ok.front (place_of s id)

front_goes : (s : Shift) (id new : ℕ) → id ≤ s.front → Place s id new → new ≡ id
front_goes s id new le (inl p) = p.1
front_goes s id new le (inr (inl p)) = absurd (omega (arith, le, p.0))
front_goes s id new le (inr (inr p)) = absurd (omega (arith, le, p.0))

pub new_at_front : (s : Shift) (id : ℕ) → id ≤ s.front → new_id s id ≡ id
new_at_front s id le = front_goes s id (new_id s id) le (place_of s id)

listed_goes : (s : Shift) (id new : ℕ) → s.front < id → id ≤ s.listed → Place s id new → new ≡ id + s.front_by
listed_goes s id new lt le (inl p) = absurd (omega (arith, lt, p.0))
listed_goes s id new lt le (inr (inl p)) = p.2
listed_goes s id new lt le (inr (inr p)) = absurd (omega (arith, le, p.1))

pub new_listed : (s : Shift) (id : ℕ) → s.front < id → id ≤ s.listed → new_id s id ≡ id + s.front_by
new_listed s id lt le = listed_goes s id (new_id s id) lt le (place_of s id)

most_goes : (s : Shift) (id new : ℕ) → s.front_by ≤ s.listed_by → Place s id new → (id ≤ new) × (new ≤ id + s.listed_by)
most_goes s id new ok (inl p) = (omega (arith, p.1), omega (arith, p.1))
most_goes s id new ok (inr (inl p)) = (omega (arith, p.2), omega (arith, p.2, ok))
most_goes s id new ok (inr (inr p)) = (omega (arith, p.2), omega (arith, p.2))

-- no id goes farther than those that a log gives
pub new_at_most : (s : Shift) (id : ℕ) → s.front_by ≤ s.listed_by → (id ≤ new_id s id) × (new_id s id ≤ id + s.listed_by)
new_at_most s id ok = most_goes s id (new_id s id) ok (place_of s id)

-- ---- variables

abbrev pub VariablePlace : Shift → ℕ → ℕ → Type 0
VariablePlace s v new = ((v ≤ s.vars) × (new ≡ v)) ⊎ ((s.vars < v) × (new ≡ v + s.vars_by))

pub variable_place : (s : Shift) (v : ℕ) → VariablePlace s v (new_variable s v)
variable_place s v = by (leb v s.vars) refl
  where
    by : (a : Bool) → leb v s.vars ≡ a → VariablePlace s v (cond a v (v + s.vars_by))
    by true e = inl (leb-true v s.vars e, refl)
    by false e = inr (leb-false v s.vars e, refl)

same_place : (s : Shift) (a b x y : ℕ) → VariablePlace s a x → VariablePlace s b y → x ≡ y → a ≡ b
same_place s a b x y (inl p) (inl q) e = omega (arith, p.1, q.1, e)
same_place s a b x y (inl p) (inr q) e = absurd (omega (arith, p.0, p.1, q.0, q.1, e))
same_place s a b x y (inr p) (inl q) e = absurd (omega (arith, p.0, p.1, q.0, q.1, e))
same_place s a b x y (inr p) (inr q) e = omega (arith, p.1, q.1, e)

pub variable_back : (s : Shift) (a b : ℕ) → new_variable s a ≡ new_variable s b → a ≡ b
variable_back s a b e = same_place s a b (new_variable s a) (new_variable s b) (variable_place s a) (variable_place s b) e

pub same_variable : (s : Shift) (a b : ℕ) → eqb (new_variable s a) (new_variable s b) ≡ eqb a b
same_variable s a b =
    same_test (eqb (new_variable s a) (new_variable s b)) (eqb a b)
    (λ e. eq-eqb a b (variable_back s a b (eqb-true (new_variable s a) (new_variable s b) e)))
    (λ e. eq-eqb (new_variable s a) (new_variable s b) (ap (new_variable s) (eqb-true a b e)))

stays : (s : Shift) (v new : ℕ) → v ≤ s.vars → VariablePlace s v new → new ≡ v
stays s v new le (inl p) = p.1
stays s v new le (inr p) = absurd (omega (arith, le, p.0))

pub variable_stays : (s : Shift) (v : ℕ) → v ≤ s.vars → new_variable s v ≡ v
variable_stays s v le = stays s v (new_variable s v) le (variable_place s v)

climbs : (s : Shift) (v new : ℕ) → s.vars < v → VariablePlace s v new → new ≡ v + s.vars_by
climbs s v new lt (inl p) = absurd (omega (arith, lt, p.0))
climbs s v new lt (inr p) = p.1

pub variable_climbs : (s : Shift) (v : ℕ) → s.vars < v → new_variable s v ≡ v + s.vars_by
variable_climbs s v lt = climbs s v (new_variable s v) lt (variable_place s v)

-- ---- literals

pub same_new_literal : (s : Shift) (a b : Literal) → same_literal (new_literal s a) (new_literal s b) ≡ same_literal a b
same_new_literal s a b = ap (λ t. t && beq a.positive b.positive) (same_variable s a.variable b.variable)

pub literal_back : (s : Shift) (a b : Literal) → new_literal s a ≡ new_literal s b → a ≡ b
literal_back s a b e =
    literal_from_parts a b (variable_back s a.variable b.variable (ap (λ (l : Literal). l.variable) e)) (ap (λ (l : Literal). l.positive) e)

pub literal_stays : (s : Shift) (l : Literal) → l.variable ≤ s.vars → new_literal s l ≡ l
literal_stays s l le = literal_from_parts (new_literal s l) l (variable_stays s l.variable le) refl
