-- The evidence for a list of a report or for all of them, and why there is none.
use Rattle.std.specs.Prelude.{◌≡◌, ◌≢◌, ◌⊎◌, ℕ, ◌+◌, ◌-◌, ◌<◌, ◌≤◌, List, [], ◌∷◌, length, map, take, All, Contains, Some, None, Option, slice_get, unwrap_or}
use Rattle.std.specs.Prelude.{Bool, true, false, ◌==◌, ◌&&◌, nat_lt, nat_le, if◌then◌else◌, is_none, is_some, IsTrue, IfSome}
use Rattle.std.specs.List.{list_all}
use Rattle.bs_clause.specs.Literal.{Literal, Clause, negation, Satisfies}
use Rattle.bs_scan.specs.Seen as seen
use Rattle.bs_net.specs.Circuit.{Circuit, next}
use Rattle.bs_scan.specs.Choice.{Chosen, depth_of}
use Rattle.bs_scan.specs.Present.{Present}
use Rattle.bs_scan.specs.Signature.{agrees}
use Rattle.bs_log.specs.declared.line.Line.{Line}
use Rattle.bs_log.specs.FirstRefused.{first_refused}
use Rattle.bs_log.specs.History.{Problem, History, activation_of}
use Rattle.bs_log.specs.Refusal.{IsAccepted, history_of}
use Rattle.bs_log.specs.Refutation.{blocks_of}
use Rattle.bs_log.specs.Cnf.{cnf_of, cnf_text}
use Rattle.bs_log.specs.ShownLaw.{IsFinishAt, HasNoFinish}
use Rattle.bs_log.specs.Proof.{lrat_text, IsRefutation}
use Rattle.bs_log.specs.Walk.{IsOneOf}
use Rattle.bs_log.specs.declared.asked.TheConstants.{FEW}
use Rattle.bs_evidence.specs.WholeCnf.{finish_of, whole_cnf_of, whole_cnf_text}
use Rattle.bs_evidence.specs.WholeLaw.{OthersAreGuarded}
use Rattle.bs_evidence.specs.WholeProof.{whole_proof_of, whole_lrat_text}
use Rattle.bs_evidence.specs.WholeWalk.{has_finish}
use Rattle.bs_encode.specs.Assuming.{block_for, AreWide}
use Rattle.bs_encode.specs.Depth.{basis_of, encoding_by}
use Rattle.bs_encode.specs.Encoded.{Encoded}
use Rattle.bs_report.specs.declared.report.Step.{Step}
use Rattle.bs_report.specs.declared.report.Report.{Report}
use Rattle.bs_report.specs.Chain.{present_of}
use Rattle.bs_evidence.specs.declared.flaw.Evidence.{Evidence}
use Rattle.bs_evidence.specs.declared.flaw.Evidence.TheVariants.{Text, Flawed}
use Rattle.bs_evidence.specs.declared.flaw.Flaw.{Flaw}
use Rattle.bs_evidence.specs.declared.flaw.Flaw.TheVariants as flaws
use Rattle.bs_evidence.specs.declared.evidence.Format.{Format}
use Rattle.bs_evidence.specs.declared.evidence.Format.TheVariants.{Clauses, Proof}

-- ---- steps that fit

abbrev pub is_wide : ℕ → Option (List Bool) → Bool
is_wide items None = true
is_wide items (Some t) = length t == items

-- at depth 1 there is no older signature, and else one that may be there has the width
abbrev pub is_held : (items depth : ℕ) → Option (List Bool) → Bool
is_held items depth older = if depth == 1 then is_none older else is_wide items older

abbrev pub has_signatures : (items depth : ℕ) → Step → Bool
has_signatures items depth step = (length step.stored == items) && is_held items depth step.older

-- the present state and the signatures have the widths
abbrev pub is_fit : (flops items depth : ℕ) → Step → Bool
is_fit flops items depth step = (length step.present.bits == flops) && has_signatures items depth step

-- why a step, counted from 1, does not fit
abbrev pub misfit_of : (flops items depth number : ℕ) → Step → Option Flaw
misfit_of flops items depth number step =
    if length step.present.bits == flops then (if has_signatures items depth step then None else Some (flaws.Stored number)) else Some (flaws.Present number)

-- this is so of one of the steps
pub record IsMisfit (flops items depth : ℕ) (steps : List Step) (flaw : Flaw) : Type 0 where
  pub place : ℕ
  pub step : Step
  pub there : slice_get steps place ≡ Some step
  pub is : misfit_of flops items depth (place + 1) step ≡ Some flaw

-- the same against an encoding's literals
pub record Suits (e : Encoded) (step : Step) : Type 0 where
  pub present : length step.present.bits ≡ length e.next
  pub stored : length step.stored ≡ length e.signatures
  pub older : AreWide (length e.older_signatures) step.older

-- ---- evidence

-- the problem of a report's log
abbrev pub problem_for : Circuit → Chosen → Report → Problem
problem_for c choice r = (basis_of c choice (map present_of r.steps)).problem

-- What is asked for is a step by its number, or nothing: all finished lists at once.

-- the text of a step that the lemma of this id finishes, of which these are the lines before
abbrev pub text_of : Format → Problem → History → (step id : ℕ) → List ℕ
text_of Clauses p h step id = cnf_text p h step
text_of Proof p h step id = lrat_text p h step id

-- the text of all finished lists of a log with these lines
abbrev pub whole_text_of : Format → Problem → History → List ℕ
whole_text_of Clauses p h = whole_cnf_text p h
whole_text_of Proof p h = whole_lrat_text p h

-- what is asked for assumes less than 2^32 literals a step, where these are the assumptions of each step
abbrev pub assumes_few : List Clause → Option ℕ → Bool
assumes_few steps (Some step) = nat_lt (length (unwrap_or (slice_get steps (step - 1)) [])) FEW
assumes_few steps None = list_all (λ c. nat_lt (length c) FEW) steps

-- all parts have fewer members than 2^32
abbrev pub is_short : Problem → List Line → Option ℕ → Bool
is_short p log asked = nat_lt (length p.clauses) FEW && (assumes_few p.steps asked && nat_lt (length log) FEW)

-- the log is accepted and finishes the step, and this is the text
pub record ShowsStep (kind : Format) (p : Problem) (log : List Line) (step : ℕ) (text : List ℕ) : Type 0 where
  pub accepted : IsAccepted p log
  pub place : ℕ
  pub id : ℕ
  pub finish : IsFinishAt log step place id
  pub is : text ≡ text_of kind p (history_of (take place log)) step id

-- the log is accepted and finishes a step, and this is the text of all that it finishes
pub record ShowsAll (kind : Format) (p : Problem) (log : List Line) (text : List ℕ) : Type 0 where
  pub accepted : IsAccepted p log
  pub finish : IsTrue (has_finish log)
  pub is : text ≡ whole_text_of kind p (history_of log)

abbrev pub ShowsLog : Format → Problem → List Line → Option ℕ → List ℕ → Type 0
ShowsLog kind p log (Some step) text = ShowsStep kind p log step text
ShowsLog kind p log None text = ShowsAll kind p log text

-- the log does not finish what is asked for
abbrev pub IsUnfinished : List Line → Option ℕ → Type 0
IsUnfinished log (Some step) = HasNoFinish log step
IsUnfinished log None = has_finish log ≡ false

-- why a log gives no text
abbrev pub IsLogFlaw : Problem → List Line → Option ℕ → Flaw → Type 0
IsLogFlaw p log asked (flaws.Log line why) = first_refused p log ≡ Some (line, why)
IsLogFlaw p log asked flaws.Unfinished = IsUnfinished log asked
IsLogFlaw p log asked flaws.Long = is_short p log asked ≡ false
IsLogFlaw p log asked flaw = ⊥

abbrev pub IsLogEvidence : Format → Problem → List Line → Option ℕ → Evidence → Type 0
IsLogEvidence kind p log asked (Text text) = ShowsLog kind p log asked text.items
IsLogEvidence kind p log asked (Flawed flaw) = IsLogFlaw p log asked flaw

-- the report is of the depth of the signature, and its steps fit and are as many as asked for at most
pub record HasFit (c : Circuit) (choice : Chosen) (r : Report) : Type 0 where
  pub depth : r.depth ≡ depth_of choice
  pub few : length r.steps ≤ r.budgets.steps
  pub fit : All (λ step. IsTrue (is_fit (length c.flops) (length choice.items) (depth_of choice) step)) r.steps

-- and it has the step that is asked for
pub record HasAsked (c : Circuit) (choice : Chosen) (r : Report) (asked : Option ℕ) : Type 0 where
  pub fits : HasFit c choice r
  pub there : IfSome asked (IsOneOf (length r.steps))

-- What is asked for is there, its log is accepted and finishes it, and this is the text.
pub record Shows (kind : Format) (c : Circuit) (choice : Chosen) (r : Report) (asked : Option ℕ) (text : List ℕ) : Type 0 where
  pub there : HasAsked c choice r asked
  pub log : ShowsLog kind (problem_for c choice r) r.log asked text

-- why a report does not fit
abbrev pub IsUnfit : Circuit → Chosen → Report → Flaw → Type 0
IsUnfit c choice r flaws.Format = r.depth ≢ depth_of choice
IsUnfit c choice r flaws.Stop = r.budgets.steps < length r.steps
IsUnfit c choice r (flaws.Present i) = IsMisfit (length c.flops) (length choice.items) (depth_of choice) r.steps (flaws.Present i)
IsUnfit c choice r (flaws.Stored i) = IsMisfit (length c.flops) (length choice.items) (depth_of choice) r.steps (flaws.Stored i)
IsUnfit c choice r flaw = ⊥

-- the report fits, or why not
abbrev pub IsFitOr : Circuit → Chosen → Report → Option Flaw → Type 0
IsFitOr c choice r None = HasFit c choice r
IsFitOr c choice r (Some flaw) = IsUnfit c choice r flaw

-- what is asked for is all lists, or one of so many steps
abbrev pub is_there : (count : ℕ) → Option ℕ → Bool
is_there count (Some step) = nat_le 1 step && nat_le step count
is_there count None = true

-- a step that is asked for is none of so many
abbrev pub IsNoStep : (count : ℕ) → Option ℕ → Type 0
IsNoStep count (Some step) = (step ≡ 0) ⊎ (count < step)
IsNoStep count None = ⊥

-- why there is no text: each but the first four is one of a report that fits and has what is asked for
abbrev pub IsFlawed : Circuit → Chosen → Report → Option ℕ → Flaw → Type 0
IsFlawed c choice r asked flaws.Format = IsUnfit c choice r flaws.Format
IsFlawed c choice r asked flaws.Stop = IsUnfit c choice r flaws.Stop
IsFlawed c choice r asked (flaws.Present i) = IsUnfit c choice r (flaws.Present i)
IsFlawed c choice r asked (flaws.Stored i) = IsUnfit c choice r (flaws.Stored i)
IsFlawed c choice r asked flaws.NoStep = IsNoStep (length r.steps) asked
IsFlawed c choice r asked flaw = HasAsked c choice r asked × IsLogFlaw (problem_for c choice r) r.log asked flaw

-- the report has what is asked for, or why not
abbrev pub IsMissing : Circuit → Chosen → Report → Option ℕ → Option Flaw → Type 0
IsMissing c choice r asked None = HasAsked c choice r asked
IsMissing c choice r asked (Some flaw) = IsFlawed c choice r asked flaw

-- the text, or why there is none
abbrev pub IsEvidence : Format → Circuit → Chosen → Report → Option ℕ → Evidence → Type 0
IsEvidence kind c choice r asked (Text text) = Shows kind c choice r asked text.items
IsEvidence kind c choice r asked (Flawed flaw) = IsFlawed c choice r asked flaw

-- ---- the law

-- the clause is the block of one of these states
pub record IsListedBlock (activation : Literal) (block : List Bool → Clause) (states : List (List Bool)) (c : Clause) : Type 0 where
  pub state : List Bool
  pub listed : Contains states state
  pub is : c ≡ negation activation ∷ block state

-- Where each block of a step is that of a listed state, a state that is not listed, agrees with the stored signatures and leads to
-- one that shows the present one gives an assignment that meets the step's clauses: who refutes them has shown that the list is complete.
abbrev pub UnlistedAreShown : Circuit → Chosen → Type 0
UnlistedAreShown c choice =
    (presents : List Present) (step : ℕ) (q : Present) (h : History) (states : List (List Bool)) (s x : List Bool) →
    1 ≤ step → slice_get presents (step - 1) ≡ Some q → All (λ t. length t ≡ length c.flops) states →
    All (IsListedBlock (activation_of (basis_of c choice presents).problem step) (block_for (encoding_by c choice)) states) (blocks_of h step) →
    ¬ Contains states s → length s ≡ length c.flops → length x ≡ length c.inputs → agrees c choice q.stored s ≡ true → seen.Shows q.state (next c s x) →
    (v : ℕ → Bool) × All (Satisfies v) (cnf_of (basis_of c choice presents).problem h step)

-- The same over the clauses of all finished lists, where the step is one of them and the blocks of the other steps have the literals that turn
-- those steps off.
abbrev pub AllUnlistedAreShown : Circuit → Chosen → Type 0
AllUnlistedAreShown c choice =
    (presents : List Present) (step : ℕ) (q : Present) (h : History) (states : List (List Bool)) (s x : List Bool) →
    1 ≤ step → slice_get presents (step - 1) ≡ Some q → IsTrue (is_some (finish_of h step)) → All (λ t. length t ≡ length c.flops) states →
    All (IsListedBlock (activation_of (basis_of c choice presents).problem step) (block_for (encoding_by c choice)) states) (blocks_of h step) →
    OthersAreGuarded (basis_of c choice presents).problem h step →
    ¬ Contains states s → length s ≡ length c.flops → length x ≡ length c.inputs → agrees c choice q.stored s ≡ true → seen.Shows q.state (next c s x) →
    (v : ℕ → Bool) × All (Satisfies v) (whole_cnf_of (basis_of c choice presents).problem h)

-- The proof of all finished lists of an accepted log over an encoding is right, line by line up to the empty clause, and so nothing meets
-- their clauses.
pub record ReportProofsAreRight (c : Circuit) (choice : Chosen) : Type 0 where
  pub right : (presents : List Present) (log : List Line) → IsAccepted (basis_of c choice presents).problem log →
      IsRefutation (whole_cnf_of (basis_of c choice presents).problem (history_of log)) (whole_proof_of (basis_of c choice presents).problem (history_of log))
  pub unmet : (presents : List Present) (log : List Line) (v : ℕ → Bool) → IsAccepted (basis_of c choice presents).problem log →
      All (Satisfies v) (whole_cnf_of (basis_of c choice presents).problem (history_of log)) → ⊥
