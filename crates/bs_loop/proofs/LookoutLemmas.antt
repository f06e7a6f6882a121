-- What a list asks, and what it was answered.
use Rattle.std.proofs.Common.{◌≡◌, inl, inr, ℕ, ◌+◌, length, ap, subst, sym, ◌∙◌, None}
use Rattle.std.specs.Prelude.{IfSome}
use Rattle.bs_net.specs.Circuit.{Circuit}
use Rattle.bs_scan.specs.Choice.{Chosen}
use Rattle.bs_scan.specs.Crash.{Recording}
use Rattle.bs_report.specs.declared.report.Budgets.{Budgets}
use Rattle.bs_preimage.specs.declared.listing.Listing.{Listing}
use Rattle.bs_preimage.specs.Asking.{KnowsRight, HasAsked}
use Rattle.bs_preimage.specs.Listed.{HasListed, IsRightCand}
use Rattle.bs_preimage.specs.Preimage.{PreimageState}
use Rattle.bs_loop.specs.declared.recorded_source.Lookout.{Lookout}
use Rattle.bs_loop.specs.KnownCand.{IsAsked}
use Rattle.bs_loop.specs.Lookout.{Knows}
use Rattle.bs_loop.specs.Turn.{HasListedFrom}

-- what it knows is right, of a list about the same circuit
pub knows_right : (l : Lookout) (c : Circuit) (choice : Chosen) → c ≡ l.chip.now.recording.circuit → choice ≡ l.chip.now.recording.choice →
    KnowsRight Knows l (IsRightCand c choice l.now.now.state l.stored.now l.now.now.older)
knows_right l c choice circuits choices =
    record {
      right = λ known after knows.
          subst (λ (k : Circuit). IfSome known (IsRightCand k choice l.now.now.state l.stored.now l.now.now.older)) (sym circuits)
          (subst (λ (k : Chosen). IfSome known (IsRightCand l.chip.now.recording.circuit k l.now.now.state l.stored.now l.now.now.older)) (sym choices)
          knows.answered.known_is.right);
    }

-- a list that asked, or did not
pub listed_from : (r : Recording) (budgets : Budgets) (old new : PreimageState) (l after : Lookout) (listing : Listing) → l.chip.now.recording ≡ r →
    l.b ≡ budgets.conflicts → l.answer ≡ None → new.calls ≡ old.calls + 1 →
    HasAsked Knows l after (λ known. HasListed old new l.now.now.state l.stored.now l.now.now.older known budgets.candidates budgets.conflicts listing)
    budgets.candidates (length listing.cands) listing.end →
    HasListedFrom r budgets old new l.now.now l.stored.now l.at listing after.answer
listed_from r budgets old new l after listing is budget unasked calls (inl sooner) =
    record {
      known = None;
      listed = sooner.made;
      calls = calls;
      answered = record { either = inl (ap (λ (x : Lookout). x.answer) sooner.same ∙ unasked, sooner.sooner) };
    }
listed_from r budgets old new l after listing is budget unasked calls (inr asked) =
    record {
      known = asked.known;
      listed = asked.made;
      calls = calls;
      answered = record {
        either = inr (subst (λ (r : Recording). IsAsked r l.now.now l.stored.now budgets.conflicts l.at asked.known after.answer) is
            (subst (λ (b : ℕ). IsAsked l.chip.now.recording l.now.now l.stored.now b l.at asked.known after.answer) budget asked.answer.answered));
      };
    }
