use Rattle.std.proofs.Common.{◌+◌, arith, subst}
use Rattle.std.specs.Prelude.{option_map}
use Rattle.bs_scan.specs.Moments.{run_of, state_at}
use Rattle.bs_preimage_recorded.specs.Finder.{Seeker, LeadsPast}
use Rattle.bs_preimage_recorded.specs.Search.{alike_at}
use Rattle.bs_preimage_recorded.proofs.SearchLemmas.{none_within, passed, tried_none}
use Rattle.bs_preimage_recorded.proofs.search.try_run.Goals as goal

pub returns-then-span-run-clause-turn : goal.returns-then-span-run-clause-turn
returns-then-span-run-clause-turn c =
    none_within c.args.chip.now.recording c.args.query.now.present.now c.args.query.now.stored.now (option_map (λ bits. bits.now) c.args.query.now.older)
    c.args.span.cycle c.args.span.from c.args.span.below c.args.run c.requires.next c.if-span-run.true

pub returns-then-not-branch-clause-turn : goal.returns-then-not-branch-clause-turn
returns-then-not-branch-clause-turn c =
    passed c.args.chip.now.recording c.args.query.now.present.now c.args.query.now.stored.now (option_map (λ bits. bits.now) c.args.query.now.older)
    c.args.span.cycle c.args.span.from c.args.span.below c.args.run c.requires.next (omega (arith, c.if-span-run.false))
    (subst (λ (f : Seeker). LeadsPast f.recording.circuit
    (state_at f.recording.circuit (run_of f.recording.runs c.args.run) c.args.span.cycle) f.present) c.requires.aimed
    (c.in_ok-may_lead.ensures.lead c.if-not-branch.true))

pub returns-then-span-run-clause-tried : goal.returns-then-span-run-clause-tried
returns-then-span-run-clause-tried c =
    tried_none c.args.chip.now.recording c.args.query.now.stored.now
    (c.args.tries.now + alike_at c.args.chip.now.recording c.args.query.now.stored.now c.args.span.cycle c.args.span.from)
    c.args.tries.now c.args.span.cycle c.args.span.from c.args.span.below
    c.requires.order (omega arith)

pub returns-then-not-branch-clause-tried : goal.returns-then-not-branch-clause-tried
returns-then-not-branch-clause-tried c =
    tried_none c.args.chip.now.recording c.args.query.now.stored.now
    (c.args.tries.now + alike_at c.args.chip.now.recording c.args.query.now.stored.now c.args.span.cycle c.args.span.from)
    c.args.tries.now c.args.span.cycle c.args.span.from c.args.run
    (omega (arith, c.requires.next.behind)) (omega arith)
