-- What the log owes to the steps.
use Rattle.std.specs.Prelude.{◌≡◌, ℕ, ◌+◌, Bool, true, false, nat_le, ◌&&◌, List, [], ◌∷◌, length, option_map, All, Option, Some, None}
use Rattle.bs_clause.specs.Literal.{Clause}
use Rattle.bs_log.specs.declared.line.Line.{Line}
use Rattle.bs_log.specs.Refusal.{denies}
use Rattle.bs_log.specs.declared.why.Why.{Why}
use Rattle.bs_log.specs.FirstRefused.{first_refused}
use Rattle.bs_log.specs.Shown.{Basis}
use Rattle.bs_log.specs.Steps.{lemma_of_line}
use Rattle.bs_scan.specs.declared.seen.Seen.{Seen}
use Rattle.bs_net.specs.Circuit.{Circuit}
use Rattle.bs_scan.specs.Present.{Present, present_in}
use Rattle.bs_encode.specs.Encoded.{Encoded}
use Rattle.bs_encode.specs.Tables.{lit}
use Rattle.bs_encode.specs.Assuming.{block_for, AreWide}
use Rattle.bs_report.specs.declared.report.Step.{Step}
use Rattle.bs_report.specs.declared.report.Report.{Report}
use Rattle.bs_report.specs.declared.part.Part.{Part}
use Rattle.bs_report.specs.declared.part.Part.TheVariants as parts
use Rattle.bs_report.specs.Step.{listed, Ascend}
use Rattle.bs_report.specs.Valid.{unless, first_of_all, cause_after, is_cause, is_right_trace, each_step, log_parts, are_right_blocks, blocks_due}
use Rattle.bs_report.specs.Valid.{blocks_in, is_right_finish, finishes_in}
use Rattle.bs_report.specs.WideCands.{HasWideCands}
use Rattle.bs_audit.specs.declared.steps.StepsWalk.{StepsWalk}
use Rattle.bs_audit.specs.declared.steps.StepsWalk.TheVariants.{Fails, Holds}

-- what a log is checked against, with the assumptions of each step
abbrev pub basis_with : Encoded → List Clause → Basis
basis_with e steps =
    record {
      problem = record { vars = e.variables; clauses = e.clauses; steps = steps };
      block = block_for e;
    }

-- whether a line's lemma, if it adds one, holds only negations of the assumptions
abbrev pub denies_in : Clause → Option Clause → Bool
denies_in assumptions None = false
denies_in assumptions (Some lemma) = denies assumptions lemma

abbrev pub ends_step : Clause → Line → Bool
ends_step assumptions line = denies_in assumptions (lemma_of_line line)

-- the parts of a step, counted from 0, against its lines; b is the budget of lemmas
abbrev pub lines_parts : Encoded → Clause → ℕ → ℕ → Step → List Line → List (Option Part)
lines_parts e assumptions b i step lines =
    unless (are_right_blocks (blocks_due (lit (e.variables + (i + 1)) true) (block_for e) step.cands) (blocks_in lines)) (parts.Blocks (i + 1)) ∷
    unless (is_right_finish b assumptions lines step.end (finishes_in lines)) (parts.Ended (i + 1)) ∷ []

-- a step whose states and signatures have the widths, with an older signature only where two are kept, and whose candidates ascend
pub record IsFit (c : Circuit) (items depth : ℕ) (step : Step) : Type 0 where
  pub present : length step.present.bits ≡ length c.flops
  pub stored : length step.stored ≡ items
  pub older : AreWide items step.older
  pub alone : depth ≡ 1 → step.older ≡ None
  pub ascend : Ascend (listed step.cands)
  pub cands : HasWideCands c step
  pub widths : All (λ s. length s ≡ length c.flops) (listed step.cands)

-- the same against an encoding's literals
pub record Suits (e : Encoded) (step : Step) : Type 0 where
  pub present : length step.present.bits ≡ length e.states
  pub stored : length step.stored ≡ length e.signatures
  pub older : AreWide (length e.older_signatures) step.older
  pub ascend : Ascend (listed step.cands)
  pub widths : All (λ s. length s ≡ length e.states) (listed step.cands)

-- the part that a verdict on the log is
abbrev pub refused_part : Option (ℕ × Why) → Option Part
refused_part refused = option_map (λ refused. parts.Log refused.0 refused.1) refused

-- each step of the report suits the encoding
abbrev pub AreFit : Encoded → List Step → Type 0
AreFit e steps = All (Suits e) steps

-- the parts of a report against its log
abbrev pub logged_parts : Basis → Report → List (Option Part)
logged_parts basis r = refused_part (first_refused basis.problem r.log) ∷ each_step (log_parts basis r) 0 r.steps

-- the parts behind the steps, after which the next step is due to begin at a present if at all, and whose trace ends in what is known of this state
abbrev pub behind_parts : Option Present → Seen → Basis → Report → List (Option Part)
behind_parts due last basis r =
    unless (nat_le (length r.steps) r.budgets.steps && is_cause r.stop (cause_after r.budgets r.steps due)) parts.Stop ∷
    unless (is_right_trace last r) parts.Trace ∷
    logged_parts basis r

-- the first part that fails, where this is found of the steps
abbrev pub first_after : StepsWalk → Seen → Basis → Report → Option Part
first_after (Fails part) last basis r = Some part
first_after (Holds due) last basis r = first_of_all (behind_parts (option_map present_in due) last basis r)

-- where all parts of the steps hold, the steps are fit
abbrev pub LeavesFit : Circuit → ℕ → ℕ → List Step → StepsWalk → Type 0
LeavesFit c items depth steps (Fails part) = Unit {0}
LeavesFit c items depth steps (Holds due) = All (IsFit c items depth) steps
