-- A line is refused for none of the reasons exactly where it passes each test.
use Rattle.std.proofs.Common.{◌≡◌, Bool, true, false, cond, List, [], ◌∷◌, refl, Some, None}
use Rattle.std.specs.List.{AllByRecursion}
use Rattle.bs_log.specs.declared.line.Line.{Line}
use Rattle.bs_log.specs.declared.why.Why.{Why}
use Rattle.bs_log.specs.History.{Problem, State}
use Rattle.bs_log.specs.Refusal.{refusal, tests_of, first_failing, in_order, names_stand, names_no_variable_twice, block_fits, lemma_is_unit}
use Rattle.bs_log.specs.Refusal.{lemma_is_false, finish_fits}

pub record IsRight (p : Problem) (h : State) (line : Line) : Type 0 where
  pub order : in_order p h line ≡ true
  pub names : names_stand h line ≡ true
  pub distinct : names_no_variable_twice line ≡ true
  pub block : block_fits p h line ≡ true
  pub unit : lemma_is_unit h line ≡ true
  pub last : lemma_is_false h line ≡ true
  pub finish : finish_fits p h line ≡ true

all_pass : (ts : List (Bool × Why)) → first_failing ts ≡ None → AllByRecursion (λ t. t.0 ≡ true) ts
all_pass [] h = tt
all_pass (t ∷ ts) h =
    elim (t.0) as (λ b. cond b (first_failing ts) (Some t.1) ≡ None → (b ≡ true) × AllByRecursion (λ t. t.0 ≡ true) ts) [
      | true ↦ λ rest. (refl, all_pass ts rest)
      | false ↦ λ some. absurd (cc)
    ] h

none_fails : (ts : List (Bool × Why)) → AllByRecursion (λ t. t.0 ≡ true) ts → first_failing ts ≡ None
none_fails [] h = refl
none_fails (t ∷ ts) h =
    elim (t.0) as (λ b. b ≡ true → cond b (first_failing ts) (Some t.1) ≡ None) [
      | true ↦ λ _. none_fails ts h.1
      | false ↦ λ no. absurd (cc)
    ] h.0

pub right_from_none : (p : Problem) (h : State) (line : Line) → refusal p h line ≡ None → IsRight p h line
right_from_none p h line none =
    let t : AllByRecursion (λ t. t.0 ≡ true) (tests_of p h line) = all_pass (tests_of p h line) none in
    record { order = t.0; names = t.1.0; distinct = t.1.1.0; block = t.1.1.1.0; unit = t.1.1.1.1.0; last = t.1.1.1.1.1.0; finish = t.1.1.1.1.1.1.0 }

pub none_from_right : (p : Problem) (h : State) (line : Line) → IsRight p h line → refusal p h line ≡ None
none_from_right p h line r =
    none_fails (tests_of p h line) (r.order, (r.names, (r.distinct, (r.block, (r.unit, (r.last, (r.finish, tt)))))))
