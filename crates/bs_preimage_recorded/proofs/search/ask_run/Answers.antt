use Rattle.std.proofs.Common.{arith, subst, sym}
use Rattle.std.specs.Prelude.{option_map}
use Rattle.bs_preimage_recorded.specs.Search.{alike_at, HasTurned, IsUnknownAt, TurnsTo}
use Rattle.bs_preimage_recorded.proofs.SearchLemmas.{open_at, tried_all, tried_one, turned}
use Rattle.bs_preimage_recorded.proofs.search.ask_run.Goals as goal

pub returns-then-tries-eq0-clause-turn : goal.returns-then-tries-eq0-clause-turn
returns-then-tries-eq0-clause-turn c =
    open_at c.args.chip.now.recording c.args.query.now.present.now c.args.query.now.stored.now (option_map (λ bits. bits.now) c.args.query.now.older)
    c.args.span.cycle c.args.span.from c.args.run c.requires.next

pub returns-clause-turn : goal.returns-clause-turn
returns-clause-turn c =
    subst (TurnsTo c.args.chip.now.recording c.args.query.now.present.now c.args.query.now.stored.now (option_map (λ bits. bits.now) c.args.query.now.older)
    c.args.span.cycle c.args.span.from c.args.span.below) (sym c.turn_of.ensures)
    (turned c.args.chip.now.recording c.args.query.now.present.now c.args.query.now.stored.now (option_map (λ bits. bits.now) c.args.query.now.older)
    c.args.query.now.b c.args.span.cycle c.args.span.from c.args.span.below c.args.run c.in_ok-said.said c.requires.next c.requires.within
    c.in_ok-said.ensures.said)

pub returns-then-tries-eq0-clause-tried : goal.returns-then-tries-eq0-clause-tried
returns-then-tries-eq0-clause-tried c =
    tried_all c.args.chip.now.recording c.args.query.now.stored.now c.args.tries.now c.args.span.cycle c.args.span.from c.args.run c.if-tries-eq0.true
    c.requires.next.behind

pub returns-clause-tried : goal.returns-clause-tried
returns-clause-tried c =
    subst (HasTurned c.args.tries.now _ (alike_at c.args.chip.now.recording c.args.query.now.stored.now c.args.span.cycle)
    (IsUnknownAt c.args.chip.now.recording c.args.query.now.present.now c.args.query.now.stored.now (option_map (λ bits. bits.now) c.args.query.now.older)
    c.args.query.now.b) c.args.span.from c.args.span.below)
    (sym c.turn_of.ensures)
    (tried_one c.args.chip.now.recording c.args.query.now.present.now c.args.query.now.stored.now (option_map (λ bits. bits.now) c.args.query.now.older)
    c.args.query.now.b c.args.tries.now _ c.args.span.cycle c.args.span.from c.args.span.below c.args.run
    c.in_ok-said.said (omega (arith, c.if-tries-eq0.false)) c.requires.next c.in_ok-said.ensures.said)
