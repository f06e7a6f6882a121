-- A step of the log, as a contract of the lists sees it.
use Rattle.std.proofs.Common.{◌≡◌, ℕ, Bool, false, List, Option, refl, subst}
use Rattle.bs_scan.specs.declared.seen.Seen.{Seen}
use Rattle.bs_net.specs.Circuit.{Circuit}
use Rattle.bs_scan.specs.Choice.{Chosen}
use Rattle.bs_solve_lemmas.specs.ProofLog.{ProofLog}
use Rattle.bs_report.specs.declared.report.Cand.{Cand}
use Rattle.bs_preimage.specs.Preimage.{PreimageState}
use Rattle.bs_preimage.specs.Listed.{HasListed}
use Rattle.bs_preimage.specs.Step.{seen}
use Rattle.bs_preimage.specs.declared.listing.Listing.{Listing}

-- what a contract sees
abbrev pub viewed : Circuit → Chosen → ProofLog → ℕ → Bool → PreimageState
viewed c choice proof calls failed =
    record {
      circuit = c;
      choice = choice;
      problem = proof.problem;
      history = proof.history;
      calls = calls;
      failed = failed;
    }

listed_seen : (c : Circuit) (choice : Chosen) (before after : ProofLog) (failed : Bool) (n m : ℕ) (present : Seen) (stored : List Bool)
    (older : Option (List Bool)) (known : Option Cand) (k b : ℕ) (listing : Listing) →
    failed ≡ false →
    HasListed (seen c choice before) (seen c choice after) present stored older known k b listing →
    HasListed (viewed c choice before n failed) (viewed c choice after m false) present stored older known k b listing
listed_seen c choice before after failed n m present stored older known k b listing well h =
    record {
      was_well = well;
      well = refl;
      goes_on = record {
        circuit = refl;
        choice = refl;
        vars = h.goes_on.vars;
        clauses = h.goes_on.clauses;
        more = h.goes_on.more;
        history = h.goes_on.history;
      };
      steps = h.steps;
      lines = h.lines;
      step_lines = h.step_lines;
      ascend = h.ascend;
      candidates = h.candidates;
      befores = h.befores;
      ends = h.ends;
      blocks = h.blocks;
      finish = h.finish;
      with_known = h.with_known;
      few = h.few;
      bound = h.bound;
    }

-- a list, where its old state is so seen
pub listed_again : (c : Circuit) (choice : Chosen) (before after : ProofLog) (old : PreimageState) (failed : Bool) (n m : ℕ)
    (present : Seen) (stored : List Bool) (older : Option (List Bool)) (known : Option Cand)
    (k b : ℕ) (listing : Listing) →
    viewed c choice before n failed ≡ old → failed ≡ false → HasListed (seen c choice before) (seen c choice after) present stored older known k b listing →
    HasListed old (viewed c choice after m false) present stored older known k b listing
listed_again c choice before after old failed n m present stored older known k b listing is well h =
    subst (λ (s : PreimageState). HasListed s (viewed c choice after m false) present stored older known k b listing) is
    (listed_seen c choice before after failed n m present stored older known k b listing well h)
