-- The unrolled clauses are over the variables of the time frames, and no variable stands twice in one of them.
use Rattle.std.proofs.Common.{◌≡◌, ℕ, zero, suc, ◌+◌, ◌-◌, ◌*◌, ◌<◌, ◌≤◌, Bool, true, List, [], ◌∷◌, ◌++◌, map, length}
use Rattle.std.proofs.Common.{refl, ap, sym, subst, ◌∙◌, arith}
use Rattle.std.specs.List.{AllByRecursion, All, range_with_len, flat_map}
use Rattle.std.proofs.lemmas.List.Elements.{recursion_from_All, All-from_recursion, All-nil}
use Rattle.std.proofs.Math.Nat.{suc-mul}
use Rattle.bs_clause.specs.Literal.{Literal, Clause}
use Rattle.bs_clause.specs.Range.{IsWithin, HasVariables}
use Rattle.bs_log.specs.Refusal.{has_distinct_variables}
use Rattle.bs_net.specs.Circuit.{Circuit}
use Rattle.bs_encode.specs.Encoded.{Encoded, encoding_of}
use Rattle.bs_encode.specs.Cycle.{IsTransition, EncodesCycles}
use Rattle.bs_encode.specs.Assuming.{signed}
use Rattle.bs_encode.proofs.RangeLemmas.{InRange, join}
use Rattle.bs_encode.proofs.DistinctLemmas.{weaken, signed_all}
use Rattle.bs_reach_unrolled.specs.declared.limits.TheConstants.{MAX_FRAMES, MAX_FRAME_VARIABLES}
use Rattle.bs_encode.proofs.FrameLemmas.{raised_in, raised_within, raised_range, raised_distinct, links_range, links_distinct}
use Rattle.bs_reach_unrolled.specs.Unrolled.{base_of, frame_of, states_at, next_at, links_of, reset_units, unrolled}
use Rattle.bs_reach_unrolled.specs.Room.{IsUnrollable}
use Rattle.bs_reach_unrolled.proofs.ClauseLemmas.{flat_of}
use Rattle.bs_reach_unrolled.proofs.UnrollLemmas.{frames_fit}

-- ---- one time frame

pub one_frame : (c : Circuit) → EncodesCycles c → IsTransition c [] (encoding_of c [])
one_frame c cycles = cycles.each [] (All-nil (λ (item : List ℕ). All (λ i. i < length c.flops) item))

pub transition_unrolls : (c : Circuit) (e : Encoded) (k : ℕ) → IsTransition c [] e → k ≤ MAX_FRAMES → k * e.variables ≤ MAX_FRAME_VARIABLES → IsUnrollable e k
transition_unrolls c e k t few room =
    record {
      cycles = few;
      room = room;
      same_width = t.next_width ∙ sym t.states_width;
      clauses = t.clauses_range;
      states = t.states_range;
      next = t.next_range;
      inputs = t.inputs_range;
      clauses_distinct = t.clauses_distinct;
      states_distinct = t.states_distinct;
      next_distinct = t.next_distinct;
    }

abbrev Distinct : Clause → Type 0
Distinct d = has_distinct_variables d ≡ true

-- ---- ranges

units_range : (m : ℕ) (ls : List Literal) → AllByRecursion (IsWithin m) ls → AllByRecursion (HasVariables m) (map (λ (l : Literal). l ∷ []) ls)
units_range m [] h = tt
units_range m (l ∷ ls) h = (All-from_recursion (IsWithin m) (l ∷ []) (h.0, tt), units_range m ls h.1)

reset_range : (e : Encoded) (reset : List Bool) (k : ℕ) → HasVariables e.variables e.states →
    AllByRecursion (HasVariables (k * e.variables)) (reset_units e reset k)
reset_range e reset zero h = tt
reset_range e reset (suc k) h =
    let m : ℕ = suc k * e.variables in
    units_range m (signed e.states reset)
    (signed_all (InRange m) e.states reset
    (weaken (IsWithin e.variables) (IsWithin m) (λ l w. (w.0, omega (arith, w.1, suc-mul k e.variables))) e.states
    (recursion_from_All (IsWithin e.variables) e.states h)))

pub unrolled_range : (e : Encoded) (reset : List Bool) (k : ℕ) → IsUnrollable e k → All (HasVariables (k * e.variables)) (unrolled e reset k)
unrolled_range e reset k u =
    let n : ℕ = e.variables in
    let m : ℕ = k * n in
    All-from_recursion (HasVariables m) (unrolled e reset k)
    (join (HasVariables m) (flat_map (frame_of e) (range_with_len 0 k)) (reset_units e reset k ++ flat_map (links_of e) (range_with_len 0 (k - 1)))
    (flat_of (HasVariables m) (frame_of e) k
    (λ c lt. raised_range (base_of e c) n m e.clauses (recursion_from_All (HasVariables n) e.clauses u.clauses) (frames_fit n k c lt)))
    (join (HasVariables m) (reset_units e reset k) (flat_map (links_of e) (range_with_len 0 (k - 1)))
    (reset_range e reset k u.states)
    (flat_of (HasVariables m) (links_of e) (k - 1)
    (λ c lt.
    let one : c < k = omega (arith, lt) in
    let two : c + 1 < k = omega (arith, lt) in
    links_range m (next_at e c) (states_at e (c + 1))
    (raised_within (base_of e c) n m e.next (recursion_from_All (IsWithin n) e.next u.next) (frames_fit n k c one))
    (raised_within (base_of e (c + 1)) n m e.states (recursion_from_All (IsWithin n) e.states u.states) (frames_fit n k (c + 1) two))))))

-- ---- no variable twice

units_distinct : (ls : List Literal) → AllByRecursion Distinct (map (λ (l : Literal). l ∷ []) ls)
units_distinct [] = tt
units_distinct (l ∷ ls) = (refl, units_distinct ls)

reset_distinct : (e : Encoded) (reset : List Bool) (k : ℕ) → AllByRecursion Distinct (reset_units e reset k)
reset_distinct e reset zero = tt
reset_distinct e reset (suc k) = units_distinct (signed e.states reset)

next_base : (n c : ℕ) → c * n + n ≤ (c + 1) * n
next_base n c = let one : suc c ≡ c + 1 = omega arith in let more : (c + 1) * n ≡ c * n + n = ap (λ (m : ℕ). m * n) (sym one)
    ∙ suc-mul c n in omega (arith, more)

pub unrolled_distinct : (e : Encoded) (reset : List Bool) (k : ℕ) → IsUnrollable e k → All Distinct (unrolled e reset k)
unrolled_distinct e reset k u =
    let n : ℕ = e.variables in
    All-from_recursion Distinct (unrolled e reset k)
    (join Distinct (flat_map (frame_of e) (range_with_len 0 k)) (reset_units e reset k ++ flat_map (links_of e) (range_with_len 0 (k - 1)))
    (flat_of Distinct (frame_of e) k (λ c lt. raised_distinct (base_of e c) e.clauses (recursion_from_All Distinct e.clauses u.clauses_distinct)))
    (join Distinct (reset_units e reset k) (flat_map (links_of e) (range_with_len 0 (k - 1)))
    (reset_distinct e reset k)
    (flat_of Distinct (links_of e) (k - 1)
    (λ c lt.
    links_distinct (base_of e c) (base_of e (c + 1)) (base_of e (c + 1) + n) (next_at e c) (states_at e (c + 1))
    (raised_in (base_of e c) n (base_of e (c + 1)) e.next (recursion_from_All (IsWithin n) e.next u.next) (next_base n c))
    (raised_in (base_of e (c + 1)) n (base_of e (c + 1) + n) e.states (recursion_from_All (IsWithin n) e.states u.states) (omega arith))))))

-- ---- the same of a list that is the unrolled clauses, for a caller

pub solver_range : (e : Encoded) (reset : List Bool) (k n : ℕ) (cs : List Clause) → IsUnrollable e k → cs ≡ unrolled e reset k → n ≡ e.variables →
    All (HasVariables (k * n)) cs
solver_range e reset k n cs u is same =
    subst (λ (ds : List Clause). All (HasVariables (k * n)) ds) (sym is)
    (subst (λ (m : ℕ). All (HasVariables (k * m)) (unrolled e reset k)) (sym same) (unrolled_range e reset k u))

pub solver_distinct : (e : Encoded) (reset : List Bool) (k : ℕ) (cs : List Clause) → IsUnrollable e k → cs ≡ unrolled e reset k →
    All (λ d. has_distinct_variables d ≡ true) cs
solver_distinct e reset k cs u is = subst (λ (ds : List Clause). All (λ d. has_distinct_variables d ≡ true) ds) (sym is) (unrolled_distinct e reset k u)
