-- A state that is not listed.
use Rattle.std.proofs.Common.{◌≡◌, ℕ, ◌+◌, ◌-◌, ◌≤◌, arith, true, List, [], length, drop, get_or, refl, ap, sym, subst, ◌∙◌, Option, Some, None}
use Rattle.std.specs.Prelude.{All, Contains, slice_get, unwrap_or, Bool}
use Rattle.std.proofs.lemmas.List.Elements.{All-contains, All-weaker}
use Rattle.std.proofs.lemmas.Option.{slice_get_within, slice_get-get_or}
use Rattle.bs_clause.specs.Literal.{Clause}
use Rattle.bs_log.specs.History.{Problem, activation_of}
use Rattle.bs_log.specs.Refusal.{assumptions_of, has_distinct_variables}
use Rattle.bs_log.specs.Refutation.{blocks_of}
use Rattle.bs_log.specs.Shown.{Basis, Shown}
use Rattle.bs_log.specs.ShownLaw.{BlocksOther}
use Rattle.bs_log.proofs.ShownLaws.{unlisted_meets}
use Rattle.bs_evidence.specs.WholeLaw.{IsLed, AreLed}
use Rattle.bs_evidence.proofs.Right.{whole_proofs_are_right, accepted_is_unmet}
use Rattle.bs_evidence.proofs.Unlisted.{unlisted_meets_whole}
use Rattle.bs_net.specs.Circuit.{Circuit, next}
use Rattle.bs_scan.specs.Choice.{Chosen}
use Rattle.bs_scan.specs.Seen.{whole, Shows}
use Rattle.bs_scan.specs.Present.{Present}
use Rattle.bs_scan.specs.Signature.{agrees}
use Rattle.bs_encode.specs.Tables.{lit}
use Rattle.bs_encode.specs.Encoded.{Encoded}
use Rattle.bs_encode.specs.Assuming.{assumptions_for, block_for}
use Rattle.bs_encode.specs.Depth.{basis_of, encoding_by}
use Rattle.bs_encode.specs.Listing.{IsTidy, PredecessorsAreShown}
use Rattle.bs_encode.proofs.AssumingLemmas.{length_steps_from, assumptions_at}
use Rattle.bs_evidence.specs.Evidence.{IsListedBlock, UnlistedAreShown, AllUnlistedAreShown, ReportProofsAreRight}

-- a state that leads to a present is shown in its step
shown_in : (c : Circuit) (choice : Chosen) → PredecessorsAreShown c choice (encoding_by c choice) → (presents : List Present) (step : ℕ) (q : Present)
    (s x : List Bool) → 1 ≤ step → slice_get presents (step - 1) ≡ Some q → length s ≡ length c.flops → length x ≡ length c.inputs →
    agrees c choice q.stored s ≡ true → Shows q.state (next c s x) → Shown (basis_of c choice presents) (length c.flops) step s
shown_in c choice shows presents step q s x low at ws wx agree next =
    let e : Encoded = encoding_by c choice in
    let basis : Basis = basis_of c choice presents in
    let p : Problem = basis.problem in
    let same : step - 1 + 1 ≡ step = omega (arith, low) in
    let turned : 1 + (step - 1) ≡ step - 1 + 1 = omega arith in
    let steps : slice_get p.steps (step - 1) ≡ Some (assumptions_for e (activation_of p (step - 1 + 1)) q) =
    assumptions_at e 1 presents (step - 1) q at ∙ ap (λ (k : ℕ). Some (assumptions_for e (lit (e.variables + k) true) q)) turned in
    subst (λ (k : ℕ). Shown basis (length c.flops) k s) same (shows p (step - 1) q s x refl refl steps ws wx agree next)

-- the step is one of the problem's
last_in : (c : Circuit) (choice : Chosen) (presents : List Present) (step : ℕ) (q : Present) → 1 ≤ step → slice_get presents (step - 1) ≡ Some q →
    step ≤ length (basis_of c choice presents).problem.steps
last_in c choice presents step q low at =
    let many = length_steps_from (encoding_by c choice) 1 presents in
    let within = slice_get_within presents (step - 1) q at in
    omega (arith, many, within)

-- the blocks of listed states are those of others
others_in : (c : Circuit) (choice : Chosen) (presents : List Present) (step : ℕ) (states : List (List Bool)) (s : List Bool) (clauses : List Clause) →
    All (λ t. length t ≡ length c.flops) states →
    All (IsListedBlock (activation_of (basis_of c choice presents).problem step) (block_for (encoding_by c choice)) states) clauses →
    ¬ Contains states s → All (BlocksOther (basis_of c choice presents) (length c.flops) step s) clauses
others_in c choice presents step states s clauses wide blocks other =
    All-weaker (IsListedBlock (activation_of (basis_of c choice presents).problem step) (block_for (encoding_by c choice)) states)
    (BlocksOther (basis_of c choice presents) (length c.flops) step s)
    (λ clause b.
    record {
      state = b.state;
      wide = All-contains (λ (t : List Bool). length t ≡ length c.flops) states b.state wide b.listed;
      other = λ is. other (subst (Contains states) is b.listed);
      is = b.is;
    }) clauses blocks

pub unlisted : (c : Circuit) (choice : Chosen) → PredecessorsAreShown c choice (encoding_by c choice) → UnlistedAreShown c choice
unlisted c choice shows presents step q h states s x low at wide blocks other ws wx agree next =
    unlisted_meets (basis_of c choice presents) (length c.flops) step s h low (last_in c choice presents step q low at)
    (shown_in c choice shows presents step q s x low at ws wx agree next) (others_in c choice presents step states s (blocks_of h step) wide blocks other)

pub all_unlisted : (c : Circuit) (choice : Chosen) → PredecessorsAreShown c choice (encoding_by c choice) → AllUnlistedAreShown c choice
all_unlisted c choice shows presents step q h states s x low at finished wide blocks guarded other ws wx agree next =
    unlisted_meets_whole (basis_of c choice presents) (length c.flops) step s h low (last_in c choice presents step q low at) finished
    (shown_in c choice shows presents step q s x low at ws wx agree next) (others_in c choice presents step states s (blocks_of h step) wide blocks other) guarded

-- ---- what steps assume

module _ (c : Circuit) (choice : Chosen) (tidy : IsTidy c choice (encoding_by c choice)) (presents : List Present) where
  abbrev pub p : Problem
  p = (basis_of c choice presents).problem

  led_by : (step : ℕ) (o : Option Present) → slice_get presents (step - 1) ≡ o → 1 ≤ step → step ≤ length p.steps → IsLed p step
  led_by step None none low high =
      let many = length_steps_from (encoding_by c choice) 1 presents in
      let other : Present = record { state = whole []; stored = [] } in
      let lost : None ≡ Some (get_or presents (step - 1) other) = sym none ∙ slice_get-get_or presents (step - 1) other (omega (arith, many, low, high)) in
      absurd (cc)
  led_by step (Some q) at low high =
      let e : Encoded = encoding_by c choice in
      let turned : 1 + (step - 1) ≡ step = omega (arith, low) in
      let steps : slice_get p.steps (step - 1) ≡ Some (assumptions_for e (activation_of p step) q) =
      assumptions_at e 1 presents (step - 1) q at ∙ ap (λ (k : ℕ). Some (assumptions_for e (lit (e.variables + k) true) q)) turned in
      let is : assumptions_of p step ≡ assumptions_for e (activation_of p step) q = ap (λ (o : Option Clause). unwrap_or o []) steps in
      record {
        rest = drop 1 (assumptions_for e (activation_of p step) q);
        is = is;
        distinct = ap has_distinct_variables is ∙ tidy.assumptions_distinct (activation_of p step) q (omega (arith, low));
      }

  pub are_led : AreLed p
  are_led = record { each = λ step low high. led_by step (slice_get presents (step - 1)) refl low high }

pub proofs_right : (c : Circuit) (choice : Chosen) → IsTidy c choice (encoding_by c choice) → ReportProofsAreRight c choice
proofs_right c choice tidy =
    record {
      right = λ presents log ok. whole_proofs_are_right (basis_of c choice presents).problem log ok (are_led c choice tidy presents);
      unmet = λ presents log v ok met. accepted_is_unmet (basis_of c choice presents).problem log v ok (are_led c choice tidy presents) met;
    }
