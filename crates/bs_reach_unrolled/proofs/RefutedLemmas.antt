-- An accepted log that finishes the step of a length refutes that the state is reached in this length.
use Rattle.std.proofs.Common.{◌≡◌, ℕ, zero, suc, ◌+◌, ◌-◌, ◌*◌, ◌≤◌, Bool, true, eqb, List, [], ◌∷◌, map, length, get_or}
use Rattle.std.proofs.Common.{refl, sym, ap, ◌∙◌, arith, subst}
use Rattle.std.specs.Prelude.{IsTrue, slice_get, unwrap_or}
use Rattle.std.specs.Bool.{beq}
use Rattle.std.specs.List.{All, range_with_len}
use Rattle.std.proofs.lemmas.Bool.{eq-eqb, ne_eqb}
use Rattle.std.proofs.lemmas.List.Elements.{All-cons, All-nil}
use Rattle.std.proofs.lemmas.List.FromFn.{length-map-range_with_len, get_or-map-range_with_len}
use Rattle.bs_clause.specs.Literal.{Clause, literal_value, Satisfies}
use Rattle.bs_log.specs.declared.line.Line.TheVariants.{Finish}
use Rattle.bs_log.specs.History.{Problem, History, step_of}
use Rattle.bs_log.specs.Refusal.{history_of, assumptions_of}
use Rattle.bs_log.specs.Refutation.{Suits, blocks_of}
use Rattle.bs_log.specs.Steps.{HasNoBlock}
use Rattle.bs_log.proofs.Finishes.{no_blocks, no_block_before, no_block_reversed, finish_is_inside}
use Rattle.bs_log.proofs.Laws.{finished_steps_are_refuted, step_of-positive}
use Rattle.bs_scan.specs.declared.seen.Seen.{Seen}
use Rattle.bs_net.specs.Circuit.{Circuit, reset_state}
use Rattle.bs_encode.specs.Tables.{lit}
use Rattle.bs_encode.specs.Encoded.{Encoded}
use Rattle.bs_encode.specs.Assuming.{signed_seen}
use Rattle.bs_reach_unrolled.specs.Unrolled.{next_at, length_assumes, reach_problem}
use Rattle.bs_encode.specs.Cycle.{IsTransition}
use Rattle.bs_reach_unrolled.specs.Laws.{ShowsReached, FinishedIsNotReached}
use Rattle.bs_reach_unrolled.proofs.ReachedLemmas.{reached_is_shown}

-- ---- the assumptions of a step

got : {X : Type 0} (xs : List X) (i : ℕ) (d : X) → unwrap_or (slice_get xs i) d ≡ get_or xs i d
got [] i d = refl
got (x ∷ xs) zero d = refl
got (x ∷ xs) (suc i) d = got xs i d

assumed_at : (e : Encoded) (reset : List Bool) (k : ℕ) (p : Seen) (count j : ℕ) → 1 ≤ j → j ≤ count →
    assumptions_of (reach_problem e reset k p count) j ≡ length_assumes e k p j
assumed_at e reset k p count j one few =
    got (map (length_assumes e k p) (range_with_len 1 count)) (j - 1) []
    ∙ get_or-map-range_with_len (length_assumes e k p) 1 count (j - 1) j [] (omega (arith, one, few)) (omega (arith, one))

-- of the variables above the time frames the activation literal of a step alone
abbrev only : ℕ → ℕ → Bool
only activation v = eqb v activation

pub finished_is_not_reached : (c : Circuit) (e : Encoded) → IsTransition c [] e → FinishedIsNotReached c e
finished_is_not_reached c e t k count p log before after id few ok none parts reached =
    let q : Problem = reach_problem e (reset_state c) k p count in
    let h : History = history_of before in
    let j : ℕ = step_of h in
    let base : ℕ = k * e.variables in
    let one : 1 ≤ j = step_of-positive h in
    let steps : length q.steps ≡ count = length-map-range_with_len (length_assumes e k p) 1 count in
    let inside : j ≤ length q.steps = finish_is_inside q log before after id ok parts in
    let low : j ≤ count = omega (arith, inside, steps) in
    let shown : ShowsReached c e k j p (only (base + j)) = reached_is_shown c e t k j p (only (base + j)) one (omega (arith, low, few)) reached in
    let v : ℕ → Bool = shown.value in
    let activation_is : v (base + j) ≡ true = shown.above (base + j) (omega (arith, one)) ∙ eq-eqb (base + j) (base + j) refl in
    let front : HasNoBlock before = no_block_before before (Finish id ∷ after) (subst HasNoBlock parts none) in
    let blocks : blocks_of h j ≡ [] = no_blocks h j (no_block_reversed before front) in
    let suits : Suits q h j v = record {
      in_range = inside;
      clauses = shown.clauses;
      blocks = subst (λ (cs : List Clause). All (Satisfies v) cs) (sym blocks) (All-nil (Satisfies v));
      activation = activation_is;
      other_activations =
          λ other from to differ.
          shown.above (base + other) (omega (arith, from)) ∙ ne_eqb (base + other) (base + j) (λ same. differ (omega (arith, same)));
    } in
    let true_ones : All (λ l. IsTrue (literal_value v l)) (length_assumes e k p j) =
    All-cons (λ l. IsTrue (literal_value v l)) (lit (base + j) true) (signed_seen (next_at e (j - 1)) p) (ap (λ b. beq b true) activation_is) shown.next in
    finished_steps_are_refuted q log before after id v ok parts suits
    (subst (λ (a : Clause). All (λ l. IsTrue (literal_value v l)) a) (sym (assumed_at e (reset_state c) k p count j one low)) true_ones)
