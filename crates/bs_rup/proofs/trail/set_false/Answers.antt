use Rattle.std.proofs.Common.{◌≡◌, ◌+◌, ◌-◌, ◌∷◌, not, ◌&&◌, ap, sym, ◌∙◌, arith, drop, map, eqb}
use Rattle.std.specs.List.{list_any}
use Rattle.std.proofs.lemmas.List.{drop_more}
use Rattle.bs_clause.specs.Literal.{Literal, Clause, negation}
use Rattle.bs_log.specs.Refusal.{has_distinct_variables}
use Rattle.bs_rup.proofs.Distinct.{assigned}
use Rattle.bs_rup.proofs.trail.set_false.Goals as goal

pub literals-preserved : goal.literals-preserved
literals-preserved c =
    let k = c.literals.i - 1 in
    let clause : Clause = c.args.clause.now in
    let l : Literal = c.index-clause-i.result in
    let next : k + 1 ≡ c.literals.i = omega arith in
    let parts : drop k clause ≡ l ∷ drop c.literals.i clause =
    drop_more clause k l (omega arith) ∙ ap (λ x. x ∷ drop (k + 1) clause) (sym c.index-clause-i.is) ∙ ap (λ n. l ∷ drop n clause) next in
    record {
      trues =
          c.in_ok-set.ensures.ok ∙ ap (λ m. m ∷ c.literals.trail) c.negate.ensures ∙ ap (λ ts. negation l ∷ ts) c.literals.invariant.trues
          ∙ ap (map negation) (sym parts);
      distinct =
          ap (λ b. not b && c.literals.distinct) (c.is_assigned.ensures ∙ assigned (drop c.literals.i clause) l c.literals.trail c.literals.invariant.trues) ∙
          ap (λ b. not (list_any (λ m. eqb m.variable l.variable) (drop c.literals.i clause)) && b) c.literals.invariant.distinct
          ∙ ap has_distinct_variables (sym parts);
    }
