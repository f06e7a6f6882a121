use Rattle.std.proofs.Common.{◌≡◌, List, ap, ◌∙◌, sym, subst, arith, get_or}
use Rattle.std.proofs.lemmas.List.{get_or_default}
use Rattle.bs_clause.specs.Literal.{Literal}
use Rattle.bs_watch.specs.declared.cause.Cause.{Cause}
use Rattle.bs_watch.specs.Trail.{IsAssignedOn}
use Rattle.bs_watch.specs.Places.{TrailState, IsOnLevel, IsLevelOf, literals_of}
use Rattle.bs_watch.specs.Tables.{cause_of, no_cause, places_in}
use Rattle.bs_watch.proofs.TableLemmas.{literals_in, assigned_range, on_level, one_level, places_apart}
use Rattle.bs_watch.proofs.trail.Trail.level_of.Goals as goal

pub index-requires : goal.index-requires
index-requires c =
    let causes = c.self.inside.causes.items in
    let ls : List Literal = c.self.inside.literals.items in
    let same : ls ≡ literals_of c.args.self.now.places = sym (literals_in causes ls) ∙ ap (λ (s : TrailState). literals_of s.places) c.self.view_is in
    let range = assigned_range c.self.inside.vars ls c.args.l c.self.invariant.in_range (subst (λ xs. IsAssignedOn xs c.args.l) (sym same) c.requires) in
    omega (arith, range.1, c.var.ensures.variable, c.self.invariant.by_variable, c.self.inside.causes.ok.0)

pub returns : goal.returns
returns c =
    let causes = c.self.inside.causes.items in
    let ls : List Literal = c.self.inside.literals.items in
    let same : ls ≡ literals_of c.args.self.now.places = sym (literals_in causes ls) ∙ ap (λ (s : TrailState). literals_of s.places) c.self.view_is in
    let assigned : IsAssignedOn ls c.args.l = subst (λ xs. IsAssignedOn xs c.args.l) (sym same) c.requires in
    let range = assigned_range c.self.inside.vars ls c.args.l c.self.invariant.in_range assigned in
    let known : cause_of causes c.args.l ≡ c.index.result.now =
    ap (λ v. get_or causes v no_cause) (sym c.var.ensures.variable) ∙
    get_or_default causes c.var.result.0 no_cause c.index.result.now (omega (arith, range.1, c.var.ensures.variable, c.self.invariant.by_variable))
    ∙ sym c.index.ensures in
    let on : IsOnLevel (places_in causes ls) c.args.l c.index.result.now.level =
    subst (IsOnLevel (places_in causes ls) c.args.l) (ap (λ (x : Cause). x.level) known) (on_level causes ls c.args.l assigned) in
    subst (λ (s : TrailState). IsLevelOf s.places c.args.l c.index.result.now.level) c.self.view_is (record {
      on = on;
      only = λ n other. one_level (places_in causes ls) c.args.l n c.index.result.now.level (places_apart causes ls c.self.invariant.distinct) other on;
    })
