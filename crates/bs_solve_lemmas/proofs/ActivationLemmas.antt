-- How far a unit run over a log's own clauses bounds the lemmas of a solve: the retired activation literals and the activation literal that is assumed go on with it.
use Rattle.std.proofs.Common.{◌≡◌, ◌≢◌, ℕ, suc, zero, ◌+◌, ◌-◌, ◌<◌, ◌≤◌, List, [], ◌∷◌, ◌++◌, length, refl, subst, ◌∙◌, ◌⊎◌, inl, inr, arith}
use Rattle.std.specs.Prelude.{Contains, All, ◌^◌}
use Rattle.std.proofs.lemmas.List.{length-append}
use Rattle.std.proofs.lemmas.List.Elements.{All-push, All-weaker, All-cons, All-nil}
use Rattle.std.proofs.lemmas.List.Quantifiers.{all_pairs_push}
use Rattle.bs_clause.specs.Literal.{Literal, Clause, negation, HasDistinctVariables}
use Rattle.bs_clause.specs.UnitRun.{IsUnitRun, RunsFrom, IsImplied}
use Rattle.bs_clause.specs.Range.{HasVariables, IsWithin}
use Rattle.bs_log.specs.History.{Problem, activation_of}
use Rattle.bs_solve_lemmas.proofs.Clauses.{contains_first}

-- a run over some clauses is one over more
implied_over : (from to : List Clause) → ((c : Clause) → Contains from c → Contains to c) → (earlier : List Literal) (l : Literal) →
    IsImplied from earlier l → IsImplied to earlier l
implied_over from to more earlier l h = (h.0, more h.0 h.1, h.2, h.3)

pub runs_over : (from to : List Clause) (a earlier run : List Literal) → ((c : Clause) → Contains from c → Contains to c) →
    RunsFrom from a earlier run → RunsFrom to a earlier run
runs_over from to a earlier [] more h = tt
runs_over from to a earlier (l ∷ run) more h = (by h.0, runs_over from to a (l ∷ earlier) run more h.1)
  where
    by : Contains a l ⊎ IsImplied from earlier l → Contains a l ⊎ IsImplied to earlier l
    by (inl there) = inl there
    by (inr implied) = inr (implied_over from to more earlier l implied)

-- a literal that is an assumption, or a clause of its own, may end a run
runs_push : (cs : List Clause) (a earlier run : List Literal) (l : Literal) → ((before : List Literal) → Contains a l ⊎ IsImplied cs before l) →
    RunsFrom cs a earlier run → RunsFrom cs a earlier (run ++ l ∷ [])
runs_push cs a earlier [] l last h = (last earlier, tt)
runs_push cs a earlier (m ∷ run) l last h = (h.0, runs_push cs a (m ∷ earlier) run l last h.1)

all_one : (P : Literal → Type 0) (l : Literal) → P l → All P (l ∷ [])
all_one P l h = All-cons P l [] h (All-nil P)

unit_implied : (cs : List Clause) (l : Literal) → Contains cs (l ∷ []) → (before : List Literal) → IsImplied cs before l
unit_implied cs l there before = (l ∷ [], there, contains_first l [], all_one (λ m. (m ≡ l) ⊎ Contains before (negation m)) l (inl refl))

-- the run, and then the negations of the first activation literals
abbrev pub with_activations : Problem → List Literal → ℕ → List Literal
with_activations p run zero = run
with_activations p run (suc j) = with_activations p run j ++ negation (activation_of p (suc j)) ∷ []

record IsGuarded (p : Problem) (cs : List Clause) (a run : List Literal) (j : ℕ) : Type 0 where
  long : length (with_activations p run j) ≡ length run + j
  low : All (λ l. l.variable ≤ p.vars + j) (with_activations p run j)
  distinct : HasDistinctVariables (with_activations p run j)
  runs : RunsFrom cs a [] (with_activations p run j)

distinct_push : (xs : List Literal) (l : Literal) (v : ℕ) → HasDistinctVariables xs → All (λ m. m.variable ≤ v) xs → v < l.variable →
    HasDistinctVariables (xs ++ l ∷ [])
distinct_push xs l v d low above = all_pairs_push (λ (a : Literal) (b : Literal). a.variable ≢ b.variable) xs l d
    (λ k d lt e. let small = low k d lt in omega (arith, small, above, e))

guarded : (p : Problem) (cs : List Clause) (a run : List Literal) → HasVariables p.vars run → IsUnitRun cs a run → (j : ℕ) →
    ((i : ℕ) → 1 ≤ i → i ≤ j → Contains cs (negation (activation_of p i) ∷ [])) → IsGuarded p cs a run j
guarded p cs a run range unit zero units =
    record {
      long = omega arith;
      low = All-weaker (IsWithin p.vars) (λ (l : Literal). l.variable ≤ p.vars + 0)
          (λ l h. omega (arith, h.1)) run range;
      distinct = unit.distinct;
      runs = unit.implied;
    }
guarded p cs a run range unit (suc j) units =
    let g : IsGuarded p cs a run j = guarded p cs a run range unit j (λ i from to. units i from (omega arith)) in
    let l : Literal = negation (activation_of p (suc j)) in
    record {
      long = length-append (with_activations p run j) (l ∷ []) ∙ omega (arith, g.long);
      low = All-push (λ (m : Literal). m.variable ≤ p.vars + suc j) (with_activations p run j) l
          (All-weaker (λ (m : Literal). m.variable ≤ p.vars + j) (λ (m : Literal). m.variable ≤ p.vars + suc j) (λ m h. omega (arith, h))
          (with_activations p run j) g.low) (omega arith);
      distinct = distinct_push (with_activations p run j) l (p.vars + j) g.distinct g.low (omega arith);
      runs = runs_push cs a [] (with_activations p run j) l (λ before. inr (unit_implied cs l (units (suc j) (omega arith) (omega arith)) before)) g.runs;
    }

-- The run over some clauses goes on over what stands by the units of the retired activation literals and the activation literal that is assumed, so
-- the variables that it leaves open are the clauses' own.
pub run_with_activations : (p : Problem) (axioms cs : List Clause) (a run : List Literal) (j : ℕ) → ((c : Clause) → Contains axioms c → Contains cs c) →
    ((i : ℕ) → 1 ≤ i → i ≤ j → Contains cs (negation (activation_of p i) ∷ [])) → Contains a (activation_of p (j + 1)) → HasVariables p.vars run →
    IsUnitRun axioms a run →
    (longer : List Literal) × IsUnitRun cs a longer × (length longer ≡ length run + (j + 1))
run_with_activations p axioms cs a run j more units assumed range unit =
    let over : IsUnitRun cs a run = record { distinct = unit.distinct; implied = runs_over axioms cs a [] run more unit.implied } in
    let g : IsGuarded p cs a run j = guarded p cs a run range over j units in
    let l : Literal = activation_of p (j + 1) in (
      with_activations p run j ++ l ∷ [],
      record {
        distinct = distinct_push (with_activations p run j) l (p.vars + j) g.distinct g.low (omega arith);
        implied = runs_push cs a [] (with_activations p run j) l (λ _. inl assumed) g.runs;
      },
      length-append (with_activations p run j) (l ∷ []) ∙ omega (arith, g.long),
    )

pub bound_is : (p : Problem) (axioms cs : List Clause) (a : Clause) (b j vars : ℕ) → ((c : Clause) → Contains axioms c → Contains cs c) →
    ((i : ℕ) → 1 ≤ i → i ≤ j → Contains cs (negation (activation_of p i) ∷ [])) → Contains a (activation_of p (j + 1)) → vars ≡ p.vars + (j + 1) →
    ((run : List Literal) → IsUnitRun cs a run → b < 2 ^ (vars - length run)) →
    (run : List Literal) → HasVariables p.vars run → IsUnitRun axioms a run → b < 2 ^ (p.vars - length run)
bound_is p axioms cs a b j vars more units assumed n bound run range unit =
    let longer = run_with_activations p axioms cs a run j more units assumed range unit in
    let same : vars - length longer.0 ≡ p.vars - length run = omega (arith, n, longer.2) in
    subst (λ (k : ℕ). b < 2 ^ k) same (bound longer.0 longer.1)
