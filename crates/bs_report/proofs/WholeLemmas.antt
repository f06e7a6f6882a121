-- In a valid report a finished list is whole: the log refutes every other predecessor.
use Rattle.std.proofs.Common.{◌≡◌, ℕ, suc, zero, ◌<◌, ◌+◌, Bool, true, false, List, [], ◌∷◌, map, length, refl, ap, subst, sym, ◌∙◌, inl, inr, Some, arith}
use Rattle.std.specs.Prelude.{slice_get, filter_map, ◌||◌, ◌==◌, IsTrue}
use Rattle.std.specs.Bool.{beq, Decides}
use Rattle.std.specs.Cmp.{booleans_Decides}
use Rattle.std.specs.Cmp.Lexicographic.{pointwise, pointwise_decides}
use Rattle.std.specs.List.{AllByRecursion as Each, list_all}
use Rattle.std.proofs.lemmas.Bool.{true≢false, false≢true}
use Rattle.std.proofs.lemmas.Bool.Decides.{Decides-eqb, Decides-and}
use Rattle.std.proofs.lemmas.List.Elements.{All-from_recursion, recursion_from_All}
use Rattle.bs_bits.specs.Bits.{bits_eq}
use Rattle.bs_clause.specs.Literal.{Literal, Clause, negation, same_literal, Satisfies}
use Rattle.bs_log.specs.History.{Problem, activation_of}
use Rattle.bs_log.specs.Refusal.{history_of, assumptions_of}
use Rattle.bs_log.specs.Refutation.{Suits}
use Rattle.bs_log.specs.Steps.{block_of_line, finish_of_line}
use Rattle.bs_log.proofs.Laws.{finished_steps_are_refuted}
use Rattle.bs_log.proofs.StepLemmas.{accepted, finish_at}
use Rattle.bs_net.proofs.NextLemmas.{Member}
use Rattle.bs_scan.specs.Seen.{Shows}
use Rattle.bs_net.specs.Circuit.{next}
use Rattle.bs_scan.specs.Moments.{is_listed}
use Rattle.bs_scan.specs.Signature.{agrees}
use Rattle.bs_scan.proofs.MomentLemmas.{each_member}
use Rattle.bs_scan.proofs.SignatureLemmas.{any_member, bits_same}
use Rattle.std.specs.Prelude.{All}
use Rattle.std.proofs.lemmas.List.{length-map}
use Rattle.bs_clause.specs.Literal.{literal_value}
use Rattle.bs_report.specs.declared.report.Cand.{Cand}
use Rattle.bs_report.specs.declared.part.Part.TheVariants as parts
use Rattle.bs_report.specs.declared.report.ListEnd.{ListEnd}
use Rattle.bs_report.specs.declared.report.ListEnd.TheVariants.{Finished}
use Rattle.bs_report.specs.declared.report.Step.{Step}
use Rattle.bs_report.specs.declared.report.Report.{Report}
use Rattle.bs_scan.specs.Crash.{Crash}
use Rattle.bs_report.specs.Step.{stored_of, listed}
use Rattle.bs_report.specs.Valid.{has_clause, blocks_due, are_right_blocks, is_right_finish, lines_at}
use Rattle.bs_log.specs.Shown.{Basis, Shown}
use Rattle.bs_report.specs.ValidLaw.{IsEncoded}
use Rattle.bs_report.proofs.ValidLemmas.{AllIsRight, cand_is, state_at_place, holds, both}

pub literal_decides : (a b : Literal) → Decides (same_literal a b) (a ≡ b)
literal_decides a b =
    let d = Decides-and (a.variable == b.variable) (beq a.positive b.positive) (Decides-eqb a.variable b.variable) (booleans_Decides a.positive b.positive) in (
      λ e. let h = d.0 e in λ i. record { variable = h.0 i; positive = h.1 i },
      λ p. d.1 (ap (λ (l : Literal). l.variable) p, ap (λ (l : Literal). l.positive) p),
    )

clause_is : (c d : Clause) → pointwise same_literal c d ≡ true → c ≡ d
clause_is c d e = (pointwise_decides literal_decides c d).0 e

record BlockOf (f : List Bool → Clause) (states : List (List Bool)) (b : Clause) : Type 0 where
  state : List Bool
  member : Member state states
  is : b ≡ f state

block_is : (f : List Bool → Clause) (states : List (List Bool)) (b : Clause) → has_clause (map f states) b ≡ true → BlockOf f states b
block_is f [] b e = absurd (false≢true e)
block_is f (t ∷ ts) b e = by (pointwise same_literal b (f t)) refl e (block_is f ts b)
  where
    by : (z : Bool) → pointwise same_literal b (f t) ≡ z → (z || has_clause (map f ts) b) ≡ true → (has_clause (map f ts) b ≡ true → BlockOf f ts b) →
        BlockOf f (t ∷ ts) b
    by true z e rest = record { state = t; member = inl refl; is = clause_is b (f t) z }
    by false z e rest = let r = rest e in record { state = r.state; member = inr r.member; is = r.is }

each_pass : {X : Type 0} (P : X → Type 0) (test : X → Bool) → ((x : X) → test x ≡ true → P x) → (xs : List X) → list_all test xs ≡ true → Each P xs
each_pass P test f [] e = tt
each_pass P test f (x ∷ xs) e = let h = both (test x) (list_all test xs) e in (f x h.0, each_pass P test f xs h.1)

below : (steps : List Step) (k : ℕ) (step : Step) → slice_get steps k ≡ Some step → k < length steps
below [] k step e = cc
below (s ∷ ss) zero step e = omega arith
below (s ∷ ss) (suc k) step e = omega (arith, below ss k step e)

pub refuted : (crash : Crash) (basis : Basis) (r : Report) → IsEncoded crash basis r.steps → AllIsRight crash basis r →
    (k : ℕ) (step : Step) (id : ℕ) → slice_get r.steps k ≡ Some step → step.end ≡ Finished id →
    (s x : List Bool) → length s ≡ length crash.circuit.flops → length x ≡ length crash.circuit.inputs →
    agrees crash.circuit crash.choice (stored_of step) s ≡ true → Shows step.present (next crash.circuit s x) → is_listed (listed step.cands) s ≡ false → ⊥
refuted crash basis r enc h k step id e fin s x ls lx ag nx out =
    let shown : Shown basis (length crash.circuit.flops) (k + 1) s = enc.shown k step s x e ls lx ag nx in
    let v : ℕ → Bool = shown.value in
    let p : Problem = basis.problem in
    let f : List Bool → Clause = λ t. negation (activation_of p (k + 1)) ∷ basis.block t in
    let widths : Each (λ (t : List Bool). length t ≡ length crash.circuit.flops) (listed step.cands) =
    recursion_from_All (λ (t : List Bool). length t ≡ length crash.circuit.flops) (listed step.cands)
    (λ j d lt. ap length (state_at_place step.cands j d lt)
    ∙ (cand_is crash r.budgets step j ((h.steps k step e).cands j (omega (arith, lt, length-map step.cands (λ (c : Cand). c.state))))).state) in
    let test = holds (are_right_blocks (blocks_due (activation_of p (k + 1)) basis.block step.cands) (filter_map block_of_line (lines_at r k)))
    (parts.Blocks (k + 1)) (h.logs k step e).0 in
    let first = both _ (list_all (has_clause (filter_map block_of_line (lines_at r k))) (blocks_due (activation_of p (k + 1)) basis.block step.cands)) test in
    let second = both _ (list_all (has_clause (blocks_due (activation_of p (k + 1)) basis.block step.cands)) (filter_map block_of_line (lines_at r k))) first.0 in
    let blocks : Each (Satisfies v) (filter_map block_of_line (lines_at r k)) =
    each_pass (Satisfies v) (has_clause (blocks_due (activation_of p (k + 1)) basis.block step.cands))
    (λ b t.
    let one = block_is f (listed step.cands) b t in
    subst (Satisfies v) (sym one.is)
    (shown.blocks one.state (each_member (λ (t : List Bool). length t ≡ length crash.circuit.flops) one.state (listed step.cands) widths one.member)
    (λ (same : one.state ≡ s).
    true≢false (sym (any_member (bits_eq s) one.state (listed step.cands) one.member (ap (bits_eq s) same ∙ bits_same s)) ∙ out))))
    (filter_map block_of_line (lines_at r k)) second.1 in
    let finish = holds (is_right_finish r.budgets.conflicts (assumptions_of p (k + 1)) (lines_at r k) step.end (filter_map finish_of_line (lines_at r k)))
    (parts.Ended (k + 1)) (h.logs k step e).1.0 in
    let named : filter_map finish_of_line (lines_at r k) ≡ id ∷ [] =
    (pointwise_decides Decides-eqb (filter_map finish_of_line (lines_at r k)) (id ∷ [])).0
    (subst (λ (x : ListEnd). is_right_finish r.budgets.conflicts (assumptions_of p (k + 1)) (lines_at r k) x
    (filter_map finish_of_line (lines_at r k)) ≡ true) fin finish) in
    let spot = finish_at (Satisfies v) id r.log [] k (k + 1) (omega arith) named blocks tt in
    let suits : Suits p (history_of spot.before) (k + 1) v = record {
      in_range = omega (arith, enc.each_step, below r.steps k step e);
      clauses = shown.clauses;
      blocks = All-from_recursion (Satisfies v) _ spot.blocks;
      activation = shown.activation;
      other_activations = shown.other_activations;
    } in
    finished_steps_are_refuted p r.log spot.before spot.after id v (accepted p r.log h.log) spot.parts
    (subst (λ (n : ℕ). Suits p (history_of spot.before) n v) (sym spot.step) suits)
    (subst (λ (n : ℕ). All (λ l. IsTrue (literal_value v l)) (assumptions_of p n)) (sym spot.step) shown.assumptions)
