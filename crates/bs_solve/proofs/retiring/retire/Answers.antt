use Rattle.std.proofs.Common.{◌≡◌, ◌∙◌, length, ap, subst, refl}
use Rattle.bs_watch.specs.Places.{Place, literals_of}
use Rattle.std.proofs.lemmas.List.{length-map}
use Rattle.bs_solve.specs.Retiring.{IsPut}
use Rattle.bs_solve.proofs.Retirings.{retired, retired_passed}
use Rattle.bs_solve.proofs.retiring.retire.Goals as goal

pub returns-clause-retired : goal.returns-clause-retired
returns-clause-retired c =
    let stand : c.trail-stand.result.now ≡ literals_of c.args.watch.now.trail.places = c.trail-stand.ensures in
    let count = ap length stand ∙ length-map c.args.watch.now.trail.places (λ (p : Place). p.literal) in
    retired_passed c.args.watch.now c.assign.new.self c.pass.new.self c.args.arena.now.clauses c.add.new.self.clauses c.args.database.now _ c.args.id
    c.pass.new.self.head c.args.unit
    (retired c.args.watch.now c.assign.new.self c.args.arena.now.clauses c.add.new.self.clauses c.args.database.now _ c.args.id c.in_ok-r.r c.args.unit
    c.requires.serves c.in_ok-r.ensures.keeps c.in_ok-r.ensures.clauses c.in_ok-r.ensures.fresh c.in_ok-r.ensures.found
    (subst (λ n. IsPut c.args.database.now.shorts.items c.put_in.new.refs.items n c.in_ok-r.r) count c.in_ok-put_in.ensures) refl
    c.assign.ensures.new c.assign.ensures.serves) c.pass.ensures.new c.pass.ensures.serves
