use Rattle.std.proofs.Common.{◌≡◌, ◌≤◌, List, ap, ◌∙◌, sym, subst, arith, get_or, Some}
use Rattle.std.specs.Prelude.{IfSome, IfNone}
use Rattle.std.proofs.lemmas.List.{get_or_default}
use Rattle.bs_clause.specs.Literal.{Literal}
use Rattle.bs_watch.specs.declared.cause.Cause.{Cause}
use Rattle.bs_watch.specs.Trail.{IsAssignedOn, IsOpenOn, IsValueOn}
use Rattle.bs_watch.specs.Places.{TrailState, IsImpliedBy, HasNoReason, literals_of}
use Rattle.bs_watch.specs.Tables.{cause_of, no_cause}
use Rattle.bs_watch.proofs.TableLemmas.{literals_in, value_assigned, implied_by, not_implied, open_not_implied}
use Rattle.bs_watch.proofs.trail.Trail.reason.Goals as goal

pub returns-in-Some-clause-some : goal.returns-in-Some-clause-some
returns-in-Some-clause-some c =
    let causes = c.self.inside.causes.items in
    let ls : List Literal = c.self.inside.literals.items in
    let same : ls ≡ literals_of c.args.self.now.places = sym (literals_in causes ls) ∙ ap (λ (s : TrailState). literals_of s.places) c.self.view_is in
    let assigned : IsAssignedOn ls c.args.l = value_assigned ls c.args.l c.in-Some.field-0
    (subst (λ xs. IsValueOn xs c.args.l (Some c.in-Some.field-0)) (sym same)
    (subst (IsValueOn (literals_of c.args.self.now.places) c.args.l) c.in-Some.is c.value.ensures)) in
    let range : c.args.l.variable ≤ c.self.inside.vars = subst (λ (s : TrailState). c.args.l.variable ≤ s.vars) (sym c.self.view_is) c.requires in
    let known : cause_of causes c.args.l ≡ c.index.result.now =
    ap (λ v. get_or causes v no_cause) (sym c.var.ensures.variable) ∙
    get_or_default causes c.var.result.0 no_cause c.index.result.now (omega (arith, range, c.var.ensures.variable, c.self.invariant.by_variable))
    ∙ sym c.index.ensures in
    subst (λ (s : TrailState). IfSome c.index.result.now.reason (IsImpliedBy s.places c.args.l)) c.self.view_is
    (implied_by causes ls c.args.l c.index.result.now.reason assigned (ap (λ (x : Cause). x.reason) known))

pub returns-in-Some-clause-none : goal.returns-in-Some-clause-none
returns-in-Some-clause-none c =
    let causes = c.self.inside.causes.items in
    let ls : List Literal = c.self.inside.literals.items in
    let range : c.args.l.variable ≤ c.self.inside.vars = subst (λ (s : TrailState). c.args.l.variable ≤ s.vars) (sym c.self.view_is) c.requires in
    let known : cause_of causes c.args.l ≡ c.index.result.now =
    ap (λ v. get_or causes v no_cause) (sym c.var.ensures.variable) ∙
    get_or_default causes c.var.result.0 no_cause c.index.result.now (omega (arith, range, c.var.ensures.variable, c.self.invariant.by_variable))
    ∙ sym c.index.ensures in
    subst (λ (s : TrailState). IfNone c.index.result.now.reason (HasNoReason s.places c.args.l)) c.self.view_is
    (not_implied causes ls c.args.l c.index.result.now.reason (ap (λ (x : Cause). x.reason) known))

pub returns-in-None-clause-none : goal.returns-in-None-clause-none
returns-in-None-clause-none c =
    let causes = c.self.inside.causes.items in
    let ls : List Literal = c.self.inside.literals.items in
    let same : ls ≡ literals_of c.args.self.now.places = sym (literals_in causes ls) ∙ ap (λ (s : TrailState). literals_of s.places) c.self.view_is in
    let free : IsOpenOn ls c.args.l =
    subst (λ xs. IsOpenOn xs c.args.l) (sym same) (subst (IsValueOn (literals_of c.args.self.now.places) c.args.l) c.in-None.is c.value.ensures) in
    subst (λ (s : TrailState). HasNoReason s.places c.args.l) c.self.view_is (open_not_implied causes ls c.args.l free)
