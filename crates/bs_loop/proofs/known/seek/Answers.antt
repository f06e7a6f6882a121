use Rattle.std.proofs.Common.{◌≤◌, Option, subst, sym}
use Rattle.std.specs.Prelude.{IfSome}
use Rattle.bs_stim.specs.declared.limits.TheConstants.{MAX_CYCLES}
use Rattle.bs_scan.specs.Moments.{Moment}
use Rattle.bs_preimage_recorded.specs.Search.{SoughtWithin}
use Rattle.bs_loop.proofs.KnownLemmas.{floor_may, few_cycles, is_asking}
use Rattle.bs_loop.proofs.known.seek.Goals as goal

pub first_recorded-requires-clause-before : goal.first_recorded-requires-clause-before
first_recorded-requires-clause-before c =
    subst (λ (o : Option Moment). IfSome o (λ m. (1 ≤ m.run) × (m.cycle ≤ MAX_CYCLES))) (sym c.floor_of.ensures)
    (floor_may c.args.chip.now.recording c.args.now.now c.args.at MAX_CYCLES c.requires.at (few_cycles c.args.chip.now.recording c.is_recording.ensures))

pub first_recorded-requires-clause-asking : goal.first_recorded-requires-clause-asking
first_recorded-requires-clause-asking c =
    rw c.lent.ensures
    (is_asking c.args.chip.now.recording c.args.now.now c.args.stored.now c.args.b c.requires.dump c.requires.stored c.requires.conflicts)

pub returns-clause-sought : goal.returns-clause-sought
returns-clause-sought c =
    subst (λ (o : Option Moment). SoughtWithin c.args.chip.now.recording c.args.now.now.state c.args.stored.now c.args.now.now.older o c.in_ok-sought.sought)
    c.floor_of.ensures (rw c.lent.ensures at c.in_ok-sought.ensures.sought)

pub returns-clause-cut : goal.returns-clause-cut
returns-clause-cut c = rw c.lent.ensures at c.in_ok-sought.ensures.cut
