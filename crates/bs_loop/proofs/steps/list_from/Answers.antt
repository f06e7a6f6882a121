use Rattle.std.proofs.Common.{refl, subst, sym, arith}
use Rattle.bs_net.specs.Circuit.{Circuit}
use Rattle.bs_scan.specs.Choice.{Chosen}
use Rattle.bs_scan.specs.Crash.{DumpFits}
use Rattle.bs_loop.proofs.MeetLemmas.{held_wide}
use Rattle.bs_loop.proofs.LookoutLemmas.{knows_right, listed_from}
use Rattle.bs_loop.proofs.steps.list_from.Goals as goal

pub list_asking-requires : goal.list_asking-requires
list_asking-requires c =
    let old = c.args.preimage.now in
    let wide = held_wide old.circuit old.choice c.args.now.now c.args.stored.now
    (subst (λ (k : Circuit). DumpFits k old.choice c.args.now.now) (sym c.requires.circuit)
    (subst (λ (k : Chosen). DumpFits c.args.chip.now.recording.circuit k c.args.now.now) (sym c.requires.choice) c.requires.dump)) c.requires.stored in
    record {
      state = wide.state;
      signature = wide.stored;
      older = rw c.lent.ensures wide.older;
      alone = rw c.lent.ensures wide.alone;
      ready = record {
        recording = c.requires.finder;
        dump = c.requires.dump;
        at = c.requires.at;
        stored = c.requires.stored;
        conflicts = c.requires.budgets.conflicts.0;
      };
      right = rw c.lent.ensures (knows_right _ old.circuit old.choice c.requires.circuit c.requires.choice);
      candidates = c.requires.budgets.candidates.0;
      conflicts = c.requires.budgets.conflicts.0;
      calls = omega (arith, c.requires.calls);
    }

pub returns-clause-listed : goal.returns-clause-listed
returns-clause-listed c =
    listed_from c.args.chip.now.recording c.args.budgets.now c.args.preimage.now c.list_asking.new.self _ _ c.in_ok-listing.listing refl refl refl
    c.list_asking.ensures.calls (rw c.lent.ensures at c.in_ok-listing.ensures.ok)
