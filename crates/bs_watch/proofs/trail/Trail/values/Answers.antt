use Rattle.std.proofs.Common.{◌≡◌, List, ap, sym, ◌∙◌, subst}
use Rattle.bs_clause.specs.Literal.{Literal}
use Rattle.bs_watch.specs.Places.{TrailState, literals_of}
use Rattle.bs_watch.specs.Tables.{HasValues}
use Rattle.bs_watch.proofs.TableLemmas.{literals_in}
use Rattle.bs_watch.proofs.trail.Trail.values.Goals as goal

pub returns-clause-values : goal.returns-clause-values
returns-clause-values c =
    let ls : List Literal = c.self.inside.literals.items in
    let same : ls ≡ literals_of c.args.self.now.places =
    sym (literals_in c.self.inside.causes.items ls) ∙ ap (λ (s : TrailState). literals_of s.places) c.self.view_is in
    subst (λ vs. HasValues vs (literals_of c.args.self.now.places)) (sym c.as_slice.ensures.value)
    (subst (HasValues c.self.inside.values.items) same c.self.invariant.values_are)
