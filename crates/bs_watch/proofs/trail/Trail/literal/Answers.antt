use Rattle.std.proofs.Common.{◌<◌, length, refl, sym, subst, arith}
use Rattle.std.proofs.lemmas.Option.{slice_get_read}
use Rattle.std.proofs.lemmas.List.{length-map}
use Rattle.bs_clause.specs.Literal.{Literal}
use Rattle.bs_watch.specs.Places.{TrailState, IsLiteralAt}
use Rattle.bs_watch.specs.Tables.{place_with, cause_of}
use Rattle.bs_watch.proofs.TableLemmas.{place_there}
use Rattle.bs_watch.proofs.trail.Trail.literal.Goals as goal

pub returns-clause-literal : goal.returns-clause-literal
returns-clause-literal c =
    let causes = c.self.inside.causes.items in
    let ls = c.self.inside.literals.items in
    let inside : c.args.at < length ls =
    omega (
      arith,
      subst (λ (s : TrailState). c.args.at < length s.places) (sym c.self.view_is) c.requires,
      length-map ls (λ (l : Literal). place_with l (cause_of causes l)),
    ) in
    let there = slice_get_read ls (length ls) c.args.at c.index.result.now refl inside c.index.ensures in
    subst (λ (s : TrailState). IsLiteralAt s.places c.args.at c.index.result.now) c.self.view_is
    (place_with c.index.result.now (cause_of causes c.index.result.now), place_there causes ls c.args.at c.index.result.now there, refl)
