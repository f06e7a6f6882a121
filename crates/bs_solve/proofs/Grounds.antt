-- What stands on the trail for good stays there.
use Rattle.std.proofs.Common.{◌≡◌, ◌≢◌, ℕ, ◌-◌, ◌<◌, ◌≤◌, arith, true, List, [], ◌∷◌, ◌++◌, length, take, refl, sym, ap, subst, ◌∙◌, inl, inr, ◌⊎◌, Some, None}
use Rattle.std.specs.Prelude.{All, Contains, slice_get, is_some, option_map, unwrap_or, IsPermutation}
use Rattle.std.proofs.lemmas.Bool.{cases_lt, false≢true}
use Rattle.std.proofs.lemmas.List.Elements.{All-contains}
use Rattle.std.proofs.lemmas.List.Sorted.{Contains-permutation, length_permutation}
use Rattle.bs_clause.specs.Literal.{Literal, Clause, negation}
use Rattle.bs_log.specs.History.{Entry, step_of, activation_of}
use Rattle.bs_log.specs.Refusal.{entry_of}
use Rattle.bs_arena.specs.Arena.{Held, held_at, literals_at, KeepsOthers}
use Rattle.bs_watch.specs.declared.lists.Watcher.{Watcher}
use Rattle.bs_watch.specs.Trail.{IsTrueOn, IsFalseOn, IsOpenOn, Implies}
use Rattle.bs_watch.specs.Places.{Place, AreApart, literals_of}
use Rattle.bs_watch.specs.Scene.{AreShuffled}
use Rattle.bs_solve_lemmas.specs.Reasons.{IsReasoned, IsSpared}
use Rattle.bs_solve_lemmas.specs.ProofLog.{ProofLog}
use Rattle.bs_watch.proofs.Gets.{some_at, same_some, get_take, get_map_cases, get_from_Contains, Contains_from_get, get_within}
use Rattle.bs_watch.proofs.Literals.{negation-negation}
use Rattle.bs_solve_lemmas.proofs.Clauses.{all_from, nothing_in, contains_first, contains_cases}
use Rattle.bs_solve_lemmas.proofs.Entries.{found_still, found_stands}
use Rattle.bs_solve.specs.declared.database.Database.{Database}
use Rattle.bs_solve.specs.Database.{entries, is_live, id_in, HoldsEntries}
use Rattle.bs_solve.specs.Ground.{IsUnitAt, IsGround}
use Rattle.bs_solve.proofs.Seens.{id_shuffled}
use Rattle.bs_solve.proofs.Plains.{IsPlain, retired_live}

-- ---- clauses of one literal

pub sole_permuted : (l : Literal) (c : Clause) → IsPermutation (l ∷ []) c → c ≡ l ∷ []
sole_permuted l c p = by c (length_permutation (l ∷ []) c p) (Contains-permutation (l ∷ []) c l p (contains_first l []))
  where
    by : (d : Clause) → length d ≡ 1 → Contains d l → d ≡ l ∷ []
    by [] one there = absurd (omega (arith, one))
    by (x ∷ []) one there = elim (contains_cases x [] l there) [
      | inl is ↦ ap (λ y. y ∷ []) is
      | inr none ↦ absurd (nothing_in l none)
    ]
    by (x ∷ y ∷ d) one there = absurd (omega (arith, one))

-- ---- what stands

pub ground_take : (es : List Entry) (shorts : List ℕ) (clauses : List Held) (places : List Place) (n : ℕ) → IsGround es shorts clauses places →
    IsGround es shorts clauses (take n places)
ground_take es shorts clauses places n g = record { each = λ k p e. g.each k p (get_take n places k p e).1 }

pub ground_low : (es : List Entry) (shorts : List ℕ) (clauses : List Held) (places : List Place) → IsGround es shorts clauses places →
    length places ≤ length shorts
ground_low es shorts clauses places g = elim (cases_lt 0 (length places)) [
  | inl some ↦
      let (p, at) = some_at places (length places - 1) (omega (arith, some)) in
      let u = g.each (length places - 1) p at in
      let h = get_within shorts (length places - 1) u.ref u.at in omega (arith, h)
  | inr none ↦ omega (arith, none)
]

pub unit_is_live : (lists : List (List Watcher)) (clauses : List Held) (database : Database) (es : List Entry) (k : ℕ) (p : Place) →
    HoldsEntries lists clauses database es → (u : IsUnitAt es database.shorts.items clauses k p) → is_live clauses u.ref ≡ true
unit_is_live lists clauses database es k p s u =
    All-contains (λ r. is_live clauses r ≡ true) database.shorts.items u.ref s.listed (Contains_from_get database.shorts.items k u.ref u.at)

pub ground_shuffled : (es : List Entry) (shorts : List ℕ) (old new : List Held) (places : List Place) → AreShuffled old new →
    IsGround es shorts old places → IsGround es shorts new places
ground_shuffled es shorts old new places x g = record {
  each = λ k p e.
      let u = g.each k p e in
      record {
        ref = u.ref;
        entry = u.entry;
        at = u.at;
        reason = u.reason;
        sole = sole_permuted p.literal (literals_at new u.ref) (subst (λ c. IsPermutation c (literals_at new u.ref)) u.sole (x.same u.ref));
        found = ap (entry_of es) (ap (λ o. unwrap_or o 0) (id_shuffled old new x u.ref)) ∙ u.found;
        retired = u.retired;
      };
}

-- one more clause has come
pub ground_added : (lists : List (List Watcher)) (old new : List Held) (database : Database) (more : List ℕ) (es : List Entry) (e : Entry) (q : ℕ)
    (places : List Place) →
    HoldsEntries lists old database es → KeepsOthers old new q → held_at old q ≡ None →
    ((k r : ℕ) → k < length places → slice_get database.shorts.items k ≡ Some r → slice_get more k ≡ Some r) →
    IsGround es database.shorts.items old places → IsGround (es ++ e ∷ []) more new places
ground_added lists old new database more es e q places s others fresh front g = record {
  each = λ k p at.
      let u = g.each k p at in
      let live = unit_is_live lists old database es k p s u in
      let other : u.ref ≢ q = λ is. false≢true (ap is_some (sym fresh ∙ ap (held_at old) (sym is)) ∙ live) in
      let kept : held_at new u.ref ≡ held_at old u.ref = others.kept u.ref other in
      record {
        ref = u.ref;
        entry = u.entry;
        at = front k u.ref (get_within places k p at) u.at;
        reason = u.reason;
        sole = ap (λ o. unwrap_or (option_map (λ (h : Held). h.literals) o) []) kept ∙ u.sole;
        found = ap (entry_of (es ++ e ∷ [])) (ap (λ o. unwrap_or (option_map (λ (h : Held). h.id) o) 0) kept) ∙
            found_still es (e ∷ []) (id_in old u.ref) u.entry u.found;
        retired = u.retired;
      };
}

-- ---- the literals that stand

-- the negation of an activation literal of a step that has ended
pub ground_literal : (proof : ProofLog) (lists : List (List Watcher)) (clauses : List Held) (database : Database) (places : List Place) (k : ℕ) (p : Place) →
    HoldsEntries lists clauses database (entries proof) → IsGround (entries proof) database.shorts.items clauses places → slice_get places k ≡ Some p →
    (j : ℕ) × (1 ≤ j) × (j < step_of proof.history) × (p.literal ≡ negation (activation_of proof.problem j))
ground_literal proof lists clauses database places k p s g at =
    let u = g.each k p at in
    let live = unit_is_live lists clauses database (entries proof) k p s u in
    let (e, found, same) = s.spelled u.ref live in
    let one : e ≡ u.entry = same_some e u.entry (sym found ∙ u.found) in
    let (j, low, high, is) = retired_live proof.problem proof.history u.entry
    (found_stands (entries proof) (id_in clauses u.ref) u.entry u.found) u.retired in
    let same_one : IsPermutation (negation (activation_of proof.problem j) ∷ []) (p.literal ∷ []) =
    subst (λ c. IsPermutation c (p.literal ∷ [])) (ap (λ (x : Entry). x.literals) one ∙ is) (subst (IsPermutation e.literals) u.sole same) in
    let h = sole_permuted (negation (activation_of proof.problem j)) (p.literal ∷ []) same_one in
    (j, low, high, first_of p.literal (negation (activation_of proof.problem j)) h)
  where
    first_of : (a b : Literal) → (a ∷ []) ≡ (b ∷ []) → a ≡ b
    first_of a b same = same_some a b (ap (λ (xs : Clause). slice_get xs 0) same)

-- a literal that is false there is an activation literal
pub lost_there : (proof : ProofLog) (lists : List (List Watcher)) (clauses : List Held) (database : Database) (places : List Place) (l : Literal) →
    HoldsEntries lists clauses database (entries proof) → IsGround (entries proof) database.shorts.items clauses places → IsFalseOn (literals_of places) l →
    (l.positive ≡ true) × (proof.problem.vars < l.variable)
lost_there proof lists clauses database places l s g lost =
    let (k, found) = get_from_Contains (literals_of places) (negation l) lost in
    let (p, at, is) = get_map_cases (λ (x : Place). x.literal) places k (negation l) found in
    let (j, low, high, activation) = ground_literal proof lists clauses database places k p s g at in
    let l_is : l ≡ activation_of proof.problem j =
    sym (negation-negation l) ∙ ap negation (sym is ∙ activation) ∙ negation-negation (activation_of proof.problem j) in (
      ap (λ (x : Literal). x.positive) l_is,
      (let v = ap (λ (x : Literal). x.variable) l_is in omega (arith, v, low)),
    )

-- so none of a plain clause is
pub plain_spared : (proof : ProofLog) (lists : List (List Watcher)) (clauses : List Held) (database : Database) (places : List Place) (c : Clause) →
    HoldsEntries lists clauses database (entries proof) → IsGround (entries proof) database.shorts.items clauses places →
    All (IsPlain proof.problem.vars) c → IsSpared places c
plain_spared proof lists clauses database places c s g plain = all_from (λ l. ¬ IsFalseOn (literals_of places) l) c (λ l there lost.
    let (on, high) = lost_there proof lists clauses database places l s g lost in
    let low = All-contains (IsPlain proof.problem.vars) c l plain there on in
    omega (arith, high, low))

-- ---- places that are apart

-- the variable of a place stands in no earlier one
pub open_in_front : (places : List Place) (k : ℕ) (p : Place) → AreApart places → slice_get places k ≡ Some p →
    IsOpenOn (literals_of (take k places)) p.literal
open_in_front places k p a at = (gone p.literal refl, gone (negation p.literal) refl)
  where
    gone : (x : Literal) → x.variable ≡ p.literal.variable → IsTrueOn (literals_of (take k places)) x → ⊥
    gone x same holds =
        let (i, found) = get_from_Contains (literals_of (take k places)) x holds in
        let (q, there, is) = get_map_cases (λ (y : Place). y.literal) (take k places) i x found in
        let (before, in_all) = get_take k places i q there in
        let one = a.apart i k q p in_all at (ap (λ (y : Literal). y.variable) is ∙ same) in
        omega (arith, before, one)

-- a unit implies its literal
pub unit_implies : (clauses : List Held) (trail : List Literal) (r : ℕ) (l : Literal) → literals_at clauses r ≡ l ∷ [] → IsOpenOn trail l →
    Implies trail (literals_at clauses r) l
unit_implies clauses trail r l is open_l = record {
  stands = subst (λ c. Contains c l) (sym is) (contains_first l []);
  unassigned = open_l;
  others = subst (All (λ m. (m ≡ l) ⊎ IsFalseOn trail m)) (sym is) (all_from (λ m. (m ≡ l) ⊎ IsFalseOn trail m) (l ∷ []) (λ m there.
      elim (contains_cases l [] m there) [ inl same ↦ inl (sym same) | inr none ↦ absurd (nothing_in m none) ]));
}

pub ground_reasoned : (lists : List (List Watcher)) (clauses : List Held) (database : Database) (es : List Entry) (places : List Place) →
    HoldsEntries lists clauses database es → AreApart places → IsGround es database.shorts.items clauses places → IsReasoned clauses places
ground_reasoned lists clauses database es places s a g = record {
  reasoned = λ k p r e is.
      let u = g.each k p e in
      let one : u.ref ≡ r = same_some u.ref r (sym u.reason ∙ is) in
      subst (λ x. (is_some (held_at clauses x) ≡ true) × Implies (literals_of (take k places)) (literals_at clauses x) p.literal) one (
        unit_is_live lists clauses database es k p s u,
        unit_implies clauses (literals_of (take k places)) u.ref p.literal u.sole (open_in_front places k p a e),
      );
}
