use Rattle.std.proofs.Common.{ap, sym, ◌∙◌}
use Rattle.bs_watch.specs.Places.{TrailState, literals_of}
use Rattle.bs_watch.proofs.TableLemmas.{literals_in}
use Rattle.bs_watch.proofs.trail.Trail.literals.Goals as goal

pub returns : goal.returns
returns c =
    c.as_slice.ensures.value ∙ sym (literals_in c.self.inside.causes.items c.self.inside.literals.items) ∙
    ap (λ (s : TrailState). literals_of s.places) c.self.view_is
