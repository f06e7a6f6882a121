-- No clause of a log has an activation literal itself: it names activation literals only by their negations.
use Rattle.std.proofs.Common.{◌≡◌, ℕ, ◌+◌, ◌<◌, ◌≤◌, arith, Bool, true, false, not, List, [], ◌∷◌, refl, sym, ap, subst, ◌∙◌, inl, inr, Option, Some, None}
use Rattle.std.specs.Prelude.{All, Contains, nat_le, option_map}
use Rattle.std.specs.List.{list_all, cons_option}
use Rattle.std.proofs.lemmas.Bool.{false≢true, and_parts, leb-true}
use Rattle.std.proofs.lemmas.List.Elements.{All-contains}
use Rattle.bs_clause.specs.Literal.{Literal, Clause, negation, same_literal}
use Rattle.bs_clause.specs.Range.{HasVariables, IsWithin}
use Rattle.bs_clause.proofs.Literals.{same_literal-true}
use Rattle.bs_log.specs.declared.line.Line.TheVariants.{Solve, Lemma, Block, Finish, Retire, Delete}
use Rattle.bs_log.specs.declared.origin.Origin.{Origin}
use Rattle.bs_log.specs.declared.origin.Origin.TheVariants.{Axiom, Learnt, Blocked, Retired}
use Rattle.bs_log.specs.History.{Problem, History, Entry, axioms_from, added, live, step_of, activation_of, state_of, is_deleted}
use Rattle.bs_log.specs.Refusal.{NoneRefused, clauses_of, entry_of, is_block_of}
use Rattle.bs_log.specs.Lean.{LemmasAreLean, IsResolventOf}
use Rattle.bs_log.proofs.Tests.{right_from_none}
use Rattle.bs_solve_lemmas.proofs.Clauses.{nothing_in, contains_cases, cons_contains, contains_first, all_from, filter_cases}
use Rattle.bs_solve_lemmas.proofs.Entries.{found_stands}
use Rattle.bs_solve.specs.Ground.{IsOwn}
use Rattle.bs_solve.proofs.Entries.{push_cases}

-- a literal that is positive is of one of so many variables
abbrev pub IsPlain : ℕ → Literal → Type 0
IsPlain own l = l.positive ≡ true → l.variable ≤ own

-- each literal of the entry is
abbrev pub IsPlainEntry : ℕ → Entry → Type 0
IsPlainEntry own e = All (IsPlain own) e.literals

-- ---- the first clauses

axiom_clause : (n : ℕ) (cs : List Clause) (e : Entry) → Contains (axioms_from n cs) e → Contains cs e.literals × (e.origin ≡ Axiom)
axiom_clause n [] e there = absurd (nothing_in e there)
axiom_clause n (c ∷ cs) e there = elim (contains_cases (record { id = n; origin = Axiom; literals = c }) (axioms_from (n + 1) cs) e there) [
  | inl is ↦ (subst (Contains (c ∷ cs)) (ap (λ (x : Entry). x.literals) is) (contains_first c cs), sym (ap (λ (x : Entry). x.origin) is))
  | inr later ↦ let h = axiom_clause (n + 1) cs e later in (cons_contains c cs e.literals h.0, h.1)
]

-- ---- lemmas

-- a clause that an id names is an entry's
named_entry : (es : List Entry) (ids : List ℕ) (c : Clause) → Contains (clauses_of es ids) c → (e : Entry) × Contains es e × (e.literals ≡ c)
named_entry es [] c there = absurd (nothing_in c there)
named_entry es (id ∷ ids) c there = by (entry_of es id) refl there (named_entry es ids c)
  where
    by : (o : Option Entry) → entry_of es id ≡ o → Contains (cons_option (option_map (λ (e : Entry). e.literals) o) (clauses_of es ids)) c →
        (Contains (clauses_of es ids) c → (e : Entry) × Contains es e × (e.literals ≡ c)) → (e : Entry) × Contains es e × (e.literals ≡ c)
    by None found there rest = rest there
    by (Some e) found there rest = elim (contains_cases e.literals (clauses_of es ids) c there) [
      | inl same ↦ (e, found_stands es id e found, same)
      | inr later ↦ rest later
    ]

-- a resolvent has only literals of its hints
pub plain_resolvent : (own : ℕ) (es : List Entry) (lits : Clause) (ids : List ℕ) → IsResolventOf lits (clauses_of es ids) →
    ((e : Entry) → Contains es e → IsPlainEntry own e) → All (IsPlain own) lits
plain_resolvent own es lits ids r plain = all_from (IsPlain own) lits (λ l there.
    let any = ((r.literals l).0 there).0 in
    let (e, in_es, is) = named_entry es ids any.1 (any.0, any.2, any.3) in
    All-contains (IsPlain own) any.1 l (subst (All (IsPlain own)) is (plain e in_es)) any.4)

-- ---- blocks

block_plain : (p : Problem) (step : ℕ) (lits : Clause) → is_block_of p step lits ≡ true → All (IsPlain p.vars) lits
block_plain p step [] fits = absurd (false≢true fits)
block_plain p step (l ∷ ls) fits =
    let parts = and_parts (same_literal l (negation (activation_of p step))) (list_all (λ (m : Literal). nat_le m.variable p.vars) ls) fits in
    all_from (IsPlain p.vars) (l ∷ ls) (λ m there. elim (contains_cases l ls m there) [
      | inl first ↦ λ on. absurd (false≢true (ap (λ (x : Literal). x.positive) (sym (same_literal-true l (negation (activation_of p step)) parts.0)) ∙
          ap (λ (x : Literal). x.positive) first ∙ on))
      | inr later ↦ λ on. low ls parts.1 m later
    ])
  where
    low : (xs : Clause) → list_all (λ (m : Literal). nat_le m.variable p.vars) xs ≡ true → (m : Literal) → Contains xs m → m.variable ≤ p.vars
    low [] all m there = absurd (nothing_in m there)
    low (x ∷ xs) all m there =
        let parts = and_parts (nat_le x.variable p.vars) (list_all (λ (y : Literal). nat_le y.variable p.vars) xs) all in
        elim (contains_cases x xs m there) [
          | inl is ↦ subst (λ (y : Literal). y.variable ≤ p.vars) is (leb-true x.variable p.vars parts.0)
          | inr later ↦ low xs parts.1 m later
        ]

-- ---- a whole log

live_added : (p : Problem) (h : History) (e : Entry) → Contains (live p h) e → Contains (added p h) e
live_added p h e there = (filter_cases (λ (x : Entry). not (is_deleted h x.id)) (added p h) e there).0

plain_added : (p : Problem) (h : History) → IsOwn p → NoneRefused p h → LemmasAreLean p h → (e : Entry) → Contains (added p h) e → IsPlainEntry p.vars e
plain_added p [] own right lean e there =
    let c = axiom_clause 1 p.clauses e there in
    let range = All-contains (HasVariables p.vars) p.clauses e.literals own c.0 in
    all_from (IsPlain p.vars) e.literals (λ l in_e on. (All-contains (IsWithin p.vars) e.literals l range in_e).1)
plain_added p (Solve ∷ h) own right lean e there = plain_added p h own right.1 lean e there
plain_added p (Lemma id lits hints ∷ h) own right lean e there =
    elim (push_cases (added p h) (record { id = id; origin = Learnt; literals = lits }) e there) [
      | inl was ↦ plain_added p h own right.1 lean.2 e was
      | inr is ↦ subst (IsPlainEntry p.vars) is (plain_resolvent p.vars (live p h) lits hints lean.1 (λ x in_live.
          plain_added p h own right.1 lean.2 x (live_added p h x in_live)))
    ]
plain_added p (Block id lits ∷ h) own right lean e there =
    elim (push_cases (added p h) (record { id = id; origin = Blocked; literals = lits }) e there) [
      | inl was ↦ plain_added p h own right.1 lean e was
      | inr is ↦ subst (IsPlainEntry p.vars) is
          (block_plain p (step_of h) lits (right_from_none p (state_of p h) (Block id lits) right.0).block)
    ]
plain_added p (Finish id ∷ h) own right lean e there = plain_added p h own right.1 lean e there
plain_added p (Retire id ∷ h) own right lean e there =
    let n : Literal = negation (activation_of p (step_of h)) in
    elim (push_cases (added p h) (record { id = id; origin = Retired; literals = n ∷ [] }) e there) [
      | inl was ↦ plain_added p h own right.1 lean e was
      | inr is ↦ subst (IsPlainEntry p.vars) is (all_from (IsPlain p.vars) (n ∷ []) (λ l in_one. elim (contains_cases n [] l in_one) [
        | inl same ↦ λ on. absurd (false≢true (ap (λ (x : Literal). x.positive) same ∙ on))
        | inr none ↦ absurd (nothing_in l none)
      ]))
    ]
plain_added p (Delete ids ∷ h) own right lean e there = plain_added p h own right.1 lean e there

pub plain_live : (p : Problem) (h : History) → IsOwn p → NoneRefused p h → LemmasAreLean p h → (e : Entry) → Contains (live p h) e → IsPlainEntry p.vars e
plain_live p h own right lean e there = plain_added p h own right lean e (live_added p h e there)

-- ---- retired units

is_axiom_retired : (o : Origin) → o ≡ Axiom → o ≡ Retired → ⊥
is_axiom_retired o a r = false≢true (ap test (sym a ∙ r))
  where
    test : Origin → Bool
    test Retired = true
    test _ = false

is_learnt_retired : Learnt ≡ Retired → ⊥
is_learnt_retired r = false≢true (ap test r)
  where
    test : Origin → Bool
    test Retired = true
    test _ = false

is_blocked_retired : Blocked ≡ Retired → ⊥
is_blocked_retired r = false≢true (ap test r)
  where
    test : Origin → Bool
    test Retired = true
    test _ = false

-- the negation of the activation literal of a step that has ended
abbrev pub IsRetiredIn : Problem → ℕ → Entry → Type 0
IsRetiredIn p step e = (j : ℕ) × (1 ≤ j) × (j < step) × (e.literals ≡ negation (activation_of p j) ∷ [])

one_on : (p : Problem) (step : ℕ) (e : Entry) → IsRetiredIn p step e → IsRetiredIn p (step + 1) e
one_on p step e (j, low, high, is) = (j, low, omega (arith, high), is)

step_low : (h : History) → 1 ≤ step_of h
step_low [] = omega arith
step_low (Solve ∷ h) = step_low h
step_low (Lemma id lits hints ∷ h) = step_low h
step_low (Block id lits ∷ h) = step_low h
step_low (Finish id ∷ h) = step_low h
step_low (Retire id ∷ h) = let l = step_low h in omega (arith, l)
step_low (Delete ids ∷ h) = step_low h

retired_added : (p : Problem) (h : History) (e : Entry) → Contains (added p h) e → e.origin ≡ Retired → IsRetiredIn p (step_of h) e
retired_added p [] e there r = absurd (is_axiom_retired e.origin (axiom_clause 1 p.clauses e there).1 r)
retired_added p (Solve ∷ h) e there r = retired_added p h e there r
retired_added p (Lemma id lits hints ∷ h) e there r =
    elim (push_cases (added p h) (record { id = id; origin = Learnt; literals = lits }) e there) [
      | inl was ↦ retired_added p h e was r
      | inr is ↦ absurd (is_learnt_retired (ap (λ (x : Entry). x.origin) is ∙ r))
    ]
retired_added p (Block id lits ∷ h) e there r =
    elim (push_cases (added p h) (record { id = id; origin = Blocked; literals = lits }) e there) [
      | inl was ↦ retired_added p h e was r
      | inr is ↦ absurd (is_blocked_retired (ap (λ (x : Entry). x.origin) is ∙ r))
    ]
retired_added p (Finish id ∷ h) e there r = retired_added p h e there r
retired_added p (Retire id ∷ h) e there r =
    elim (push_cases (added p h) (record { id = id; origin = Retired; literals = negation (activation_of p (step_of h)) ∷ [] }) e there) [
      | inl was ↦ one_on p (step_of h) e (retired_added p h e was r)
      | inr is ↦ (step_of h, step_low h, omega arith, sym (ap (λ (x : Entry). x.literals) is))
    ]
retired_added p (Delete ids ∷ h) e there r = retired_added p h e there r

pub retired_live : (p : Problem) (h : History) (e : Entry) → Contains (live p h) e → e.origin ≡ Retired → IsRetiredIn p (step_of h) e
retired_live p h e there r = retired_added p h e (live_added p h e there) r
