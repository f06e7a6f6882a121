use Rattle.std.proofs.Common.{ℕ, ◌+◌, Bool, List, Option, arith, length, subst}
use Rattle.std.specs.Prelude.{IfOk, MatchOption, option_map}
use Rattle.bs_chip.specs.SignatureHashes.{NoneAlike, IsNextAlike}
use Rattle.bs_chip.specs.Stepped.{Stepped}
use Rattle.bs_preimage_recorded.specs.Finder.{Seeker}
use Rattle.bs_preimage_recorded.specs.Search.{alike_at, HasTurned, IsUnknownAt}
use Rattle.bs_preimage_recorded.proofs.SearchLemmas.{none_behind, tried_none}
use Rattle.bs_preimage_recorded.proofs.search.next_turn.Goals as goal

pub returns-in-None-clause-turn : goal.returns-in-None-clause-turn
returns-in-None-clause-turn c =
    none_behind c.args.chip.now.recording c.args.query.now.present.now c.args.query.now.stored.now (option_map (λ bits. bits.now) c.args.query.now.older)
    c.args.span.cycle c.args.span.from c.args.span.below
    (subst (λ (f : Seeker). NoneAlike f.recording f.stored c.args.span.cycle c.args.span.from (length f.recording.runs)) c.requires.aimed
    (subst (λ (o : Option ℕ). MatchOption o
    (NoneAlike c.args.finder.now.recording c.args.finder.now.stored c.args.span.cycle c.args.span.from (length c.args.finder.now.recording.runs))
    (IsNextAlike c.args.finder.now.recording c.args.finder.now.stored c.args.span.cycle c.args.span.from)) c.in-None.is
    c.in_ok-next_alike.ensures.alike))

pub returns-in-None-clause-tried : goal.returns-in-None-clause-tried
returns-in-None-clause-tried c =
    tried_none c.args.chip.now.recording c.args.query.now.stored.now
    (c.args.tries.now + alike_at c.args.chip.now.recording c.args.query.now.stored.now c.args.span.cycle c.args.span.from)
    c.args.tries.now c.args.span.cycle c.args.span.from c.args.span.below
    c.requires.order (omega arith)

pub returns-in-Some-clause-tried : goal.returns-in-Some-clause-tried
returns-in-Some-clause-tried c =
    let stored = c.args.query.now.stored.now in
    let present = c.args.query.now.present.now in
    let older : Option (List Bool) = option_map (λ bits. bits.now) c.args.query.now.older in
    subst (λ (k : Stepped). IfOk c.try_run.result (HasTurned c.args.tries.now c.try_run.new.tries (alike_at k.recording stored c.args.span.cycle)
    (IsUnknownAt k.recording present stored older c.args.query.now.b) c.args.span.from c.args.span.below)) c.in_ok-next_alike.ensures.chip
    c.try_run.ensures.tried
