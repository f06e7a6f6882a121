use Rattle.std.proofs.Common.{◌≡◌, ◌≤◌, ◌<◌, length, take, subst, arith, true}
use Rattle.std.specs.Prelude.{All}
use Rattle.std.proofs.lemmas.List.{take_all}
use Rattle.std.proofs.lemmas.List.Elements.{All-more}
use Rattle.bs_clause.specs.Literal.{Clause}
use Rattle.bs_clause.specs.Range.{HasVariables}
use Rattle.bs_log.specs.Refusal.{has_distinct_variables}
use Rattle.bs_rows_chip.proofs.solve_rows.are_fit.Goals as goal

pub loop-c-preserved : goal.loop-c-preserved
loop-c-preserved c = record {
  range = All-more (HasVariables c.args.vars) c.args.clauses.now c.loop-c.c-index c.c-item.result c.loop-c-test.true c.loop-c.invariant.range
      (subst (HasVariables c.args.vars) c.c-item.is (subst (HasVariables c.args.vars) c.slice.ensures c.if-not-is_fit.ensures.range));
  distinct = All-more (λ (x : Clause). has_distinct_variables x ≡
      true) c.args.clauses.now c.loop-c.c-index c.c-item.result c.loop-c-test.true c.loop-c.invariant.distinct
      (subst (λ (x : Clause). has_distinct_variables x ≡ true) c.c-item.is
      (subst (λ (x : Clause). has_distinct_variables x ≡ true) c.slice.ensures c.if-not-is_fit.ensures.distinct));
}

pub returns-clause-range : goal.returns-clause-range
returns-clause-range c = subst (All (HasVariables c.args.vars)) (take_all c.loop-c.c-index c.args.clauses.now (omega arith)) c.loop-c.invariant.range

pub returns-clause-distinct : goal.returns-clause-distinct
returns-clause-distinct c =
    subst (All (λ (x : Clause). has_distinct_variables x ≡ true)) (take_all c.loop-c.c-index c.args.clauses.now (omega arith)) c.loop-c.invariant.distinct
