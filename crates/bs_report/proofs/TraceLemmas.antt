-- The states of a trace, of which the last one may be known in part.
use Rattle.std.proofs.Common.{◌≡◌, ℕ, suc, zero, ◌<◌, ◌≤◌, ◌+◌, Bool, true, false, cond, List, [], ◌∷◌, ◌++◌, map, length, get_or, refl, arith, ap, sym, subst}
use Rattle.std.proofs.Common.{◌∙◌, inl, inr, add-one}
use Rattle.std.specs.Prelude.{◌==◌, ◌||◌}
use Rattle.std.proofs.lemmas.Bool.{cases_eq, eq-eqb, eqb-true, ne_eqb}
use Rattle.bs_scan.specs.declared.seen.Seen.{Seen}
use Rattle.bs_scan.specs.Seen.{whole, IsSeen}
use Rattle.bs_report.specs.declared.report.Report.{Report}
use Rattle.bs_report.specs.Reading.{may_stand}
use Rattle.bs_report.specs.Text.{state_at}

-- what is seen of states, of which the last one has these free places
abbrev pub seens : List (List Bool) → List Bool → List Seen
seens [] free = []
seens (s ∷ []) free = record { bits = s; free = free } ∷ []
seens (s ∷ t ∷ ss) free = whole s ∷ seens (t ∷ ss) free

pub seens_bits : (ss : List (List Bool)) (free : List Bool) → map (λ (s : Seen). s.bits) (seens ss free) ≡ ss
seens_bits [] free = refl
seens_bits (s ∷ []) free = refl
seens_bits (s ∷ t ∷ ss) free = ap (λ rest. s ∷ rest) (seens_bits (t ∷ ss) free)

pub seens_length : (ss : List (List Bool)) (free : List Bool) → length (seens ss free) ≡ length ss
seens_length [] free = refl
seens_length (s ∷ []) free = refl
seens_length (s ∷ t ∷ ss) free = ap suc (seens_length (t ∷ ss) free)

-- the free places of the last of them, or else these
abbrev pub free_of : List Bool → List Seen → List Bool
free_of free [] = free
free_of free (s ∷ ss) = free_of s.free ss

last_free : (ss : List (List Bool)) (free before : List Bool) → 1 ≤ length ss → free_of before (seens ss free) ≡ free
last_free [] free before h = absurd (omega (arith, h))
last_free (s ∷ []) free before h = refl
last_free (s ∷ t ∷ ss) free before h = last_free (t ∷ ss) free [] (omega arith)

pub seens_free : (ss : List (List Bool)) (free before : List Bool) (n : ℕ) → length ss ≡ n + 1 → free_of before (seens ss free) ≡ free
seens_free ss free before n e = last_free ss free before (omega (arith, e))

-- each has a text and may stand where so many come behind it
abbrev pub AreStates : List Seen → Type 0
AreStates [] = Unit {0}
AreStates (s ∷ ss) = IsSeen s × ((may_stand (length ss) s ≡ true) × AreStates ss)

or_true : (b : Bool) → (b || true) ≡ true
or_true true = refl
or_true false = refl

states_from : (ss : List (List Bool)) (free : List Bool) (n : ℕ) → length ss ≡ n + 1 → IsSeen (record { bits = get_or ss n []; free = free }) →
    AreStates (seens ss free)
states_from [] free n e last = absurd (omega (arith, e))
states_from (s ∷ []) free zero e last = (last, (or_true (length free == 0), tt))
states_from (s ∷ []) free (suc n) e last = absurd (omega (arith, e))
states_from (s ∷ t ∷ ss) free zero e last = absurd (omega (arith, e))
states_from (s ∷ t ∷ ss) free (suc n) e last = (inl refl, (refl, states_from (t ∷ ss) free n (omega (arith, e)) last))

-- a state by its place
at_end : (r : Report) (i : ℕ) → i ≡ length r.inputs → state_at r i ≡ record { bits = get_or r.states i []; free = r.free }
at_end r i e = ap (λ (b : Bool). record { bits = get_or r.states i []; free = cond b r.free [] }) (eq-eqb i (length r.inputs) e)

before_end : (r : Report) (i : ℕ) → (i ≡ length r.inputs → ⊥) → state_at r i ≡ whole (get_or r.states i [])
before_end r i ne = ap (λ (b : Bool). record { bits = get_or r.states i []; free = cond b r.free [] }) (ne_eqb i (length r.inputs) ne)

pub last_state : (r : Report) (i : ℕ) (s : List Bool) → i ≡ length r.inputs → s ≡ get_or r.states i [] →
    record { bits = s; free = r.free } ≡ state_at r i
last_state r i s e is = ap (λ (s : List Bool). record { bits = s; free = r.free }) is ∙ sym (at_end r i e)

pub earlier_state : (r : Report) (i : ℕ) (s : List Bool) → (i ≡ length r.inputs → ⊥) → s ≡ get_or r.states i [] → whole s ≡ state_at r i
earlier_state r i s ne is = ap (λ (s : List Bool). whole s) is ∙ sym (before_end r i ne)

pub are_states : (r : Report) → length r.states ≡ length r.inputs + 1 → IsSeen (state_at r (length r.inputs)) → AreStates (seens r.states r.free)
are_states r e last = states_from r.states r.free (length r.inputs) e (subst IsSeen (at_end r (length r.inputs) refl) last)

eq_suc : (i n : ℕ) → (suc i == suc n) ≡ (i == n)
eq_suc i n = elim (cases_eq i n) [
  | inl same ↦ eq-eqb (suc i) (suc n) (ap suc same) ∙ sym (eq-eqb i n same)
  | inr other ↦ ne_eqb (suc i) (suc n) (λ e. other (omega (arith, e))) ∙ sym (ne_eqb i n other)
]

-- the list has what the places have
seen_there : (ss : List (List Bool)) (free : List Bool) (n i : ℕ) (d : Seen) → length ss ≡ n + 1 → i ≤ n →
    get_or (seens ss free) i d ≡ record { bits = get_or ss i []; free = cond (i == n) free [] }
seen_there [] free n i d e le = absurd (omega (arith, e))
seen_there (s ∷ []) free zero zero d e le = refl
seen_there (s ∷ []) free zero (suc i) d e le = absurd (omega (arith, le))
seen_there (s ∷ []) free (suc n) i d e le = absurd (omega (arith, e))
seen_there (s ∷ t ∷ ss) free zero i d e le = absurd (omega (arith, e))
seen_there (s ∷ t ∷ ss) free (suc n) zero d e le =
    ap (λ (b : Bool). record { bits = s; free = cond b free [] }) (sym (ne_eqb 0 (suc n) (λ (e : 0 ≡ suc n). omega (arith, e))))
seen_there (s ∷ t ∷ ss) free (suc n) (suc i) d e le =
    seen_there (t ∷ ss) free n i d (omega (arith, e)) (omega (arith, le))
    ∙ ap (λ (b : Bool). record { bits = get_or (t ∷ ss) i []; free = cond b free [] }) (sym (eq_suc i n))

pub seen_at : (r : Report) (i : ℕ) (d : Seen) → length r.states ≡ length r.inputs + 1 → i ≤ length r.inputs →
    get_or (seens r.states r.free) i d ≡ state_at r i
seen_at r i d e le = seen_there r.states r.free (length r.inputs) i d e le

-- the first state and the others
pub record FirstSeen (r : Report) : Type 0 where
  pub first : Seen
  pub others : List Seen
  pub are : seens r.states r.free ≡ first ∷ others
  pub at_first : state_at r 0 ≡ first
  pub at_others : (i : ℕ) → i < length others → state_at r (i + 1) ≡ get_or others i (whole [])
  pub long : length others ≡ length r.inputs

pub first_seen : (r : Report) → length r.states ≡ length r.inputs + 1 → FirstSeen r
first_seen r e = by (seens r.states r.free) refl
  where
    by : (ss : List Seen) → seens r.states r.free ≡ ss → FirstSeen r
    by [] is = let long : 0 ≡ length r.states = ap length (sym is) ∙ seens_length r.states r.free in absurd (omega (arith, e, long))
    by (s ∷ ss) is =
        let count : suc (length ss) ≡ length r.states = ap length (sym is) ∙ seens_length r.states r.free in
        record {
          first = s;
          others = ss;
          are = is;
          at_first = sym (seen_at r 0 (whole []) e (omega arith)) ∙ ap (λ (l : List Seen). get_or l 0 (whole [])) is;
          at_others = λ i lt.
              sym (seen_at r (i + 1) (whole []) e (omega (arith, e, count, lt)))
              ∙ (ap (λ (l : List Seen). get_or l (i + 1) (whole [])) is ∙ ap (λ (k : ℕ). get_or (s ∷ ss) k (whole [])) (add-one i));
          long = omega (arith, e, count);
        }

-- one state more
pub seens_push : (ss : List (List Bool)) (s : Seen) → seens (ss ++ s.bits ∷ []) s.free ≡ map (λ (b : List Bool). whole b) ss ++ s ∷ []
seens_push [] s = refl
seens_push (t ∷ []) s = refl
seens_push (t ∷ u ∷ ss) s = ap (λ rest. whole t ∷ rest) (seens_push (u ∷ ss) s)

pub wholes_push : (ss : List (List Bool)) (s : Seen) → s.free ≡ [] → map (λ (b : List Bool). whole b) (ss ++ s.bits ∷ []) ≡ map (λ (b : List Bool). whole b) ss ++ s ∷ []
wholes_push [] s e = λ i. record { bits = s.bits; free = sym e i } ∷ []
wholes_push (t ∷ ss) s e = ap (λ rest. whole t ∷ rest) (wholes_push ss s e)

pub length_wholes : (ss : List (List Bool)) → length (map (λ (b : List Bool). whole b) ss) ≡ length ss
length_wholes [] = refl
length_wholes (s ∷ ss) = ap suc (length_wholes ss)
