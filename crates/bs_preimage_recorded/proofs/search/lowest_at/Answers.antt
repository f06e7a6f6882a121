use Rattle.std.proofs.Common.{◌-◌, ◌∙◌, arith, subst, Bool, List, Option}
use Rattle.std.specs.Prelude.{option_map}
use Rattle.bs_chip.specs.Stepped.{Stepped}
use Rattle.bs_preimage_recorded.specs.declared.search.RunResult.TheVariants.{GoOn, End}
use Rattle.bs_preimage_recorded.specs.Search.{alike_at, asked_in, HasTurned, IsUnknownAt, TurnsTo}
use Rattle.bs_preimage_recorded.proofs.SearchLemmas.{both_spans, tried_at, tried_further}
use Rattle.bs_preimage_recorded.proofs.search.lowest_at.Goals as goal

pub returns-in-End-clause-tried : goal.returns-in-End-clause-tried
returns-in-End-clause-tried c =
    let r = c.args.chip.now.recording in
    let stored = c.args.query.now.stored.now in
    let present = c.args.query.now.present.now in
    let older : Option (List Bool) = option_map (λ bits. bits.now) c.args.query.now.older in
    let b = c.args.query.now.b in
    let here : HasTurned c.runs.tries c.next_turn.new.tries (alike_at r stored c.args.cycle) (IsUnknownAt r present stored older b) c.runs.from c.args.below
    (End c.in-End.sought) =
    subst (λ (k : Stepped). HasTurned c.runs.tries c.next_turn.new.tries (alike_at k.recording stored c.args.cycle)
    (IsUnknownAt k.recording present stored older b) c.runs.from c.args.below (End c.in-End.sought)) c.runs.invariant.chip
    (rw c.in-End.is at c.in_ok-run.ensures.tried) in
    tried_at c.args.tries.now c.runs.tries c.next_turn.new.tries (alike_at r stored c.args.cycle c.runs.from) (alike_at r stored c.args.cycle c.args.below)
    (λ m. alike_at r stored c.args.cycle (m.run - 1)) (IsUnknownAt r present stored older b) c.in-End.sought c.runs.invariant.tried here

pub runs-preserved : goal.runs-preserved
runs-preserved c =
    let r = c.args.chip.now.recording in
    let stored = c.args.query.now.stored.now in
    let present = c.args.query.now.present.now in
    let older : Option (List Bool) = option_map (λ bits. bits.now) c.args.query.now.older in
    let b = c.args.query.now.b in
    let run = c.in-GoOn.run' in
    let turn : TurnsTo r present stored older c.args.cycle c.runs.from c.args.below (GoOn run) =
    subst (λ (k : Stepped). TurnsTo k.recording present stored older c.args.cycle c.runs.from c.args.below (GoOn run)) c.runs.invariant.chip
    (rw c.in-GoOn.is at c.in_ok-run.ensures.turn) in
    let tried : HasTurned c.runs.tries c.next_turn.new.tries (alike_at r stored c.args.cycle) (IsUnknownAt r present stored older b) c.runs.from c.args.below
    (GoOn run) =
    subst (λ (k : Stepped). HasTurned c.runs.tries c.next_turn.new.tries (alike_at k.recording stored c.args.cycle)
    (IsUnknownAt k.recording present stored older b) c.runs.from c.args.below (GoOn run)) c.runs.invariant.chip
    (rw c.in-GoOn.is at c.in_ok-run.ensures.tried) in
    record {
      chip = c.in_ok-run.ensures.chip ∙ c.runs.invariant.chip;
      finder = c.in_ok-run.ensures.finder ∙ c.runs.invariant.finder;
      far = omega (arith, c.runs.invariant.far, turn.0);
      within = turn.1;
      tried = tried_further r stored c.args.tries.now c.runs.tries c.next_turn.new.tries c.args.cycle c.runs.from run c.runs.invariant.tried tried;
      none = both_spans r (asked_in r present stored older) c.args.cycle c.runs.from run c.runs.invariant.none turn.2;
    }
