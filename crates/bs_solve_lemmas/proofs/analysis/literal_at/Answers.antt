use Rattle.std.proofs.Common.{◌≡◌, ◌<◌, length, refl, sym, ap, subst, ◌∙◌, Some}
use Rattle.std.specs.Prelude.{slice_get}
use Rattle.std.proofs.lemmas.Option.{slice_get_read}
use Rattle.std.proofs.lemmas.List.{length-map}
use Rattle.bs_watch.specs.Places.{Place, literals_of}
use Rattle.bs_watch.proofs.Gets.{get_map_cases}
use Rattle.bs_solve_lemmas.proofs.analysis.literal_at.Goals as goal

pub returns-clause-literal : goal.returns-clause-literal
returns-clause-literal c =
    let places = c.args.watch.now.trail.places in
    let trail = c.trail.result.now in
    let within : c.args.at < length trail =
    subst (λ n. c.args.at < n) (sym (ap length c.trail.ensures ∙ length-map places (λ (p : Place). p.literal))) c.requires in
    let there : slice_get (literals_of places) c.args.at ≡ Some c.index-trail-at.result =
    ap (λ ls. slice_get ls c.args.at) (sym c.trail.ensures) ∙
    slice_get_read trail (length trail) c.args.at c.index-trail-at.result refl within c.index-trail-at.is in
    get_map_cases (λ (p : Place). p.literal) places c.args.at c.index-trail-at.result there
