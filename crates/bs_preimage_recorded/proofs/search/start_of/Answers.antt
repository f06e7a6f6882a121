use Rattle.std.proofs.Common.{arith, subst}
use Rattle.std.specs.Prelude.{option_map}
use Rattle.bs_preimage_recorded.specs.Finder.{Seeker, NonePassBefore}
use Rattle.bs_preimage_recorded.proofs.SearchLemmas.{none_led}
use Rattle.bs_preimage_recorded.proofs.search.start_of.Goals as goal

pub returns-then-start-limit-clause-none : goal.returns-then-start-limit-clause-none
returns-then-start-limit-clause-none c =
    none_led c.args.chip.now.recording c.args.query.now.present.now c.args.query.now.stored.now (option_map (λ bits. bits.now) c.args.query.now.older)
    c.in_ok-start.start c.in_ok-start.start
    (subst (λ (f : Seeker). NonePassBefore f.recording.circuit f.recording.runs f.present c.in_ok-start.start) c.requires.aimed
    c.in_ok-start.ensures.none) (omega arith)

pub returns-clause-none : goal.returns-clause-none
returns-clause-none c =
    none_led c.args.chip.now.recording c.args.query.now.present.now c.args.query.now.stored.now (option_map (λ bits. bits.now) c.args.query.now.older)
    c.in_ok-start.start c.args.limit
    (subst (λ (f : Seeker). NonePassBefore f.recording.circuit f.recording.runs f.present c.in_ok-start.start) c.requires.aimed
    c.in_ok-start.ensures.none) (omega (arith, c.if-start-limit.false))
