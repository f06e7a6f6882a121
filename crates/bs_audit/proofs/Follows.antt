-- Parts one after another, and the first of them that fails.
use Rattle.std.proofs.Common.{◌≡◌, ℕ, suc, zero, ◌<◌, ◌≤◌, ◌+◌, ◌-◌, Bool, true, false, List, [], ◌∷◌, ◌++◌, map, length, get_or, drop, refl, ap}
use Rattle.std.proofs.Common.{subst, sym, ◌∙◌, ◌⊎◌, inl, inr, Option, Some, None, arith}
use Rattle.std.specs.Prelude.{Result, Ok, Err, IfOk, option_map, ◌&&◌, ◌==◌, All}
use Rattle.std.specs.Option.{option_or}
use Rattle.std.specs.List.{range_with_len, AllByRecursion as Each}
use Rattle.std.proofs.lemmas.List.Elements.{All-from_recursion, recursion_from_All}
use Rattle.std.proofs.Math.Nat.{eq-or-lt_of_le}
use Rattle.std.proofs.lemmas.Bool.{false≢true, eqb-true}
use Rattle.std.proofs.lemmas.List.{length-map, drop_more, get_or_default}
use Rattle.bs_bits.specs.Bits.{bits_eq}
use Rattle.bs_chip.specs.declared.first_hit.Hit.{Hit}
use Rattle.bs_scan.specs.declared.dump.Dump.{Dump}
use Rattle.bs_scan.specs.Present.{Present, present_in}
use Rattle.bs_scan.proofs.SignatureLemmas.{bits_same_is}
use Rattle.bs_report.specs.declared.report.Cand.{Cand}
use Rattle.bs_report.specs.declared.report.HitLine.{HitLine}
use Rattle.bs_report.specs.declared.report.Step.{Step}
use Rattle.bs_report.specs.declared.report.Budgets.{Budgets}
use Rattle.bs_report.specs.declared.part.Part.{Part}
use Rattle.bs_report.specs.declared.part.Part.TheVariants as parts
use Rattle.bs_scan.specs.Crash.{Crash}
use Rattle.bs_report.specs.Step.{listed, hit_of}
use Rattle.bs_report.specs.Chain.{present_of_hit, present_after, last_present}
use Rattle.bs_report.specs.Valid.{unless, no_cand, is_right_cand, is_right_count, same_hit, first_of_all}
use Rattle.bs_report.proofs.ValidLemmas.{both, cand_is, state_at_place}
use Rattle.bs_audit.specs.declared.steps.StepsWalk.{StepsWalk}
use Rattle.bs_audit.specs.declared.steps.StepsWalk.TheVariants.{Fails, Holds}
use Rattle.bs_audit.specs.Following.{begin_parts, cand_parts, list_parts, parts_from, following_parts, first_from, line_of, IsListed, IsTried}

pub first_append : (xs ys : List (Option Part)) → first_of_all (xs ++ ys) ≡ option_or (first_of_all xs) (first_of_all ys)
first_append [] ys = refl
first_append (None ∷ xs) ys = first_append xs ys
first_append (Some p ∷ xs) ys = refl

range_at : (j n : ℕ) → j < n → range_with_len j (n - j) ≡ j ∷ range_with_len (j + 1) (n - (j + 1))
range_at j n lt = let e : n - j ≡ suc (n - (j + 1)) = omega (arith, lt) in ap (range_with_len j) e

-- one candidate and the others
pub cands_from : (crash : Crash) (budgets : Budgets) (i : ℕ) (step : Step) (j n : ℕ) (right : Bool) → j < n → right ≡ is_right_cand crash budgets step j →
    first_of_all (cand_parts crash budgets i step j (n - j)) ≡ option_or (unless right (parts.Candidate (i + 1) (j + 1)))
    (first_of_all (cand_parts crash budgets i step (j + 1) (n - (j + 1))))
cands_from crash budgets i step j n right lt e =
    ap (λ (js : List ℕ). first_of_all (map (λ j. unless (is_right_cand crash budgets step j) (parts.Candidate (i + 1) (j + 1))) js)) (range_at j n lt)
    ∙ ap (λ (b : Bool). option_or (unless b (parts.Candidate (i + 1) (j + 1))) (first_of_all (cand_parts crash budgets i step (j + 1) (n - (j + 1))))) (sym e)

-- where no candidate is wrong, each is right
pub cand_holds : (crash : Crash) (budgets : Budgets) (i : ℕ) (step : Step) (from count : ℕ) → first_of_all (cand_parts crash budgets i step from count) ≡ None →
    (j : ℕ) → from ≤ j → j < from + count → is_right_cand crash budgets step j ≡ true
cand_holds crash budgets i step from zero e j low high = absurd (omega arith)
cand_holds crash budgets i step from (suc count) e j low high =
    by (is_right_cand crash budgets step from) refl e (λ h lt. cand_holds crash budgets i step (from + 1) count h j (omega (arith, lt)) (omega arith))
  where
    at : is_right_cand crash budgets step from ≡ true → (from < j → is_right_cand crash budgets step j ≡ true) → (from ≡ j) ⊎ (from < j) →
        is_right_cand crash budgets step j ≡ true
    at right later (inl same) = ap (is_right_cand crash budgets step) (sym same) ∙ right
    at right later (inr lt) = later lt

    by : (b : Bool) → is_right_cand crash budgets step from ≡ b →
        option_or (unless b (parts.Candidate (i + 1) (from + 1))) (first_of_all (cand_parts crash budgets i step (from + 1) count)) ≡ None →
        (first_of_all (cand_parts crash budgets i step (from + 1) count) ≡ None → from < j → is_right_cand crash budgets step j ≡ true) →
        is_right_cand crash budgets step j ≡ true
    by true right h later = at right (later h) (eq-or-lt_of_le low)
    by false right h later = cc

-- so all states have the width
pub right_widths : (crash : Crash) (budgets : Budgets) (i : ℕ) (step : Step) → first_of_all (cand_parts crash budgets i step 0 (length step.cands)) ≡ None →
    All (λ state. length state ≡ length crash.circuit.flops) (listed step.cands)
right_widths crash budgets i step e j d lt =
    let long : length (listed step.cands) ≡ length step.cands = length-map step.cands (λ (c : Cand). c.state) in
    let right = cand_is crash budgets step j (cand_holds crash budgets i step 0 (length step.cands) e j (omega arith) (omega (arith, lt, long))) in
    ap length (state_at_place step.cands j d lt) ∙ right.state

-- and all inputs have theirs
pub right_inputs : (crash : Crash) (budgets : Budgets) (i : ℕ) (step : Step) → first_of_all (cand_parts crash budgets i step 0 (length step.cands)) ≡ None →
    All (λ cand. length cand.input ≡ length crash.circuit.inputs) step.cands
right_inputs crash budgets i step e j d lt =
    let right = cand_is crash budgets step j (cand_holds crash budgets i step 0 (length step.cands) e j (omega arith) (omega (arith, lt))) in
    subst (λ (cand : Cand). length cand.input ≡ length crash.circuit.inputs) (get_or_default step.cands j no_cand d lt) right.input

each_width : (n : ℕ) (cands : List Cand) → Each (λ s. length s ≡ n) (listed cands) → Each (λ cand. length cand.state ≡ n) cands
each_width n [] h = tt
each_width n (cand ∷ cands) h = (h.0, each_width n cands h.1)

-- and so have the states that the candidates lend
pub lent_widths : (n : ℕ) (cands : List Cand) → All (λ s. length s ≡ n) (listed cands) → All (λ cand. length cand.state ≡ n) cands
lent_widths n cands all =
    All-from_recursion (λ (cand : Cand). length cand.state ≡ n) cands
    (each_width n cands (recursion_from_All (λ (s : List Bool). length s ≡ n) (listed cands) all))

-- ---- one step and those behind it

-- a step whose first parts hold, and the parts behind them
parts_after : (crash : Crash) (budgets : Budgets) (i : ℕ) (due : Option Present) (step : Step) → first_of_all (parts_from crash budgets i due step)
    ≡ option_or (first_of_all (begin_parts i due step))
    (option_or (first_of_all (cand_parts crash budgets i step 0 (length step.cands))) (first_of_all (list_parts crash budgets i step)))
parts_after crash budgets i due step =
    first_append (begin_parts i due step) (cand_parts crash budgets i step 0 (length step.cands) ++ list_parts crash budgets i step)
    ∙ ap (option_or (first_of_all (begin_parts i due step)))
    (first_append (cand_parts crash budgets i step 0 (length step.cands)) (list_parts crash budgets i step))

pub tried_begin : (crash : Crash) (budgets : Budgets) (i : ℕ) (due : Option Present) (step : Step) (part : Part) →
    Some part ≡ first_of_all (begin_parts i due step) →
    first_of_all (parts_from crash budgets i due step) ≡ Some part
tried_begin crash budgets i due step part e =
    parts_after crash budgets i due step
    ∙ ap (λ o. option_or o
    (option_or (first_of_all (cand_parts crash budgets i step 0 (length step.cands))) (first_of_all (list_parts crash budgets i step)))) (sym e)

pub tried_cands : (crash : Crash) (budgets : Budgets) (i : ℕ) (due : Option Present) (step : Step) (part : Part) →
    None ≡ first_of_all (begin_parts i due step) →
    Some part ≡ first_of_all (cand_parts crash budgets i step 0 (length step.cands)) → first_of_all (parts_from crash budgets i due step) ≡ Some part
tried_cands crash budgets i due step part e f =
    parts_after crash budgets i due step
    ∙ (ap (λ o. option_or o
    (option_or (first_of_all (cand_parts crash budgets i step 0 (length step.cands))) (first_of_all (list_parts crash budgets i step)))) (sym e)
    ∙ ap (λ o. option_or o (first_of_all (list_parts crash budgets i step))) (sym f))

pub tried_list : (crash : Crash) (budgets : Budgets) (i : ℕ) (due : Option Present) (step : Step) (walk : StepsWalk) → None ≡ first_of_all (begin_parts i due step) →
    None ≡ first_of_all (cand_parts crash budgets i step 0 (length step.cands)) → IsListed crash budgets i step walk → IsTried crash budgets i due step walk
tried_list crash budgets i due step walk e f h = by walk h
  where
    same : first_of_all (parts_from crash budgets i due step) ≡ first_of_all (list_parts crash budgets i step)
    same =
        parts_after crash budgets i due step
        ∙ (ap (λ o. option_or o
        (option_or (first_of_all (cand_parts crash budgets i step 0 (length step.cands))) (first_of_all (list_parts crash budgets i step)))) (sym e)
        ∙ ap (λ o. option_or o (first_of_all (list_parts crash budgets i step))) (sym f))

    by : (walk : StepsWalk) → IsListed crash budgets i step walk → IsTried crash budgets i due step walk
    by (Fails part) k = same ∙ k
    by (Holds next) k = (same ∙ k.0, k.1)

-- the first part of a step and of those behind it
pub steps_at : (crash : Crash) (budgets : Budgets) (i : ℕ) (due : Option Present) (steps : List Step) (step : Step) → i < length steps →
    step ≡ get_or steps i step →
    first_from crash budgets i due (drop i steps) ≡ option_or (first_of_all (parts_from crash budgets i due step))
    (first_from crash budgets (i + 1) (present_after crash step) (drop (i + 1) steps))
steps_at crash budgets i due steps step lt e =
    ap (first_from crash budgets i due) (drop_more steps i step lt ∙ ap (λ (s : Step). s ∷ drop (i + 1) steps) (sym e))
    ∙ first_append (parts_from crash budgets i due step) (following_parts crash budgets (i + 1) (present_after crash step) (drop (i + 1) steps))

pub last_at : (crash : Crash) (i : ℕ) (due : Option Present) (steps : List Step) (step : Step) → i < length steps → step ≡ get_or steps i step →
    last_present crash due (drop i steps) ≡ last_present crash (present_after crash step) (drop (i + 1) steps)
last_at crash i due steps step lt e = ap (last_present crash due) (drop_more steps i step lt ∙ ap (λ (s : Step). s ∷ drop (i + 1) steps) (sym e))

-- ---- a hit

pub hit_line_is : (a b : Option HitLine) → same_hit a b ≡ true → a ≡ b
hit_line_is None None e = refl
hit_line_is None (Some b) e = absurd (false≢true e)
hit_line_is (Some a) None e = absurd (false≢true e)
hit_line_is (Some a) (Some b) e =
    let h = both ((a.run == b.run) && (a.cycle == b.cycle)) (bits_eq a.state b.state) e in
    let k = both (a.run == b.run) (a.cycle == b.cycle) h.0 in
    let p : a.run ≡ b.run = eqb-true a.run b.run k.0 in
    let q : a.cycle ≡ b.cycle = eqb-true a.cycle b.cycle k.1 in
    let s : a.state ≡ b.state = bits_same_is a.state b.state h.1 in
    λ i. Some (record { run = p i; cycle = q i; state = s i })

-- the dumps of a hit
dump_in : (hit : Option Hit) → option_map present_in (option_map (λ (hit : Hit). hit.dump) hit) ≡ option_map (λ (hit : Hit). present_in hit.dump) hit
dump_in None = refl
dump_in (Some hit) = refl

pub list_holds : (crash : Crash) (budgets : Budgets) (i : ℕ) (step : Step) (hit : Option Hit) (next : Option Dump) →
    is_right_count budgets step.end (length step.cands) ≡ true →
    same_hit step.hit (option_map line_of hit) ≡ true → hit_of crash step.cands ≡ option_map line_of hit →
    option_map (present_of_hit crash) (hit_of crash step.cands) ≡ option_map (λ hit. present_in hit.dump) hit → next ≡ option_map (λ hit. hit.dump) hit →
    IsListed crash budgets i step (Holds next)
list_holds crash budgets i step hit next count same first dump e =
    let right : same_hit step.hit (hit_of crash step.cands) ≡ true = ap (same_hit step.hit) first ∙ same in (
      ap (λ (b : Bool). option_or (unless b (parts.Listed (i + 1)))
          (option_or (unless (same_hit step.hit (hit_of crash step.cands)) (parts.Hit (i + 1))) None)) count
          ∙ ap (λ (b : Bool). option_or (unless b (parts.Hit (i + 1))) None) right,
      ap (option_map (present_of_hit crash)) (hit_line_is step.hit (hit_of crash step.cands) right)
          ∙ (dump ∙ (sym (dump_in hit) ∙ ap (option_map present_in) (sym e))),
    )

-- ---- the walk

pub walk_fails : (crash now : Crash) → now ≡ crash →
    (budgets : Budgets) (i : ℕ) (due : Option Present) (steps : List Step) (step : Step) (walk : StepsWalk) (part : Part) → walk ≡ Fails part →
    IsTried now budgets i due step walk → i < length steps → step ≡ get_or steps i step → first_from crash budgets i due (drop i steps) ≡ Some part
walk_fails crash now same budgets i due steps step walk part is tried lt e =
    let here : IsTried crash budgets i due step (Fails part) =
    subst (λ (k : Crash). IsTried k budgets i due step (Fails part)) same (subst (IsTried now budgets i due step) is tried) in
    steps_at crash budgets i due steps step lt e ∙ ap (λ o. option_or o (first_from crash budgets (i + 1) (present_after crash step) (drop (i + 1) steps))) here

pub record GoesOn (crash : Crash) (budgets : Budgets) (i : ℕ) (due : Option Present) (steps : List Step) (next : Option Dump) : Type 0 where
  pub rest : first_from crash budgets i due (drop i steps) ≡ first_from crash budgets (i + 1) (option_map present_in next) (drop (i + 1) steps)
  pub last : last_present crash due (drop i steps) ≡ last_present crash (option_map present_in next) (drop (i + 1) steps)

pub walk_goes_on : (crash now : Crash) → now ≡ crash →
    (budgets : Budgets) (i : ℕ) (due : Option Present) (steps : List Step) (step : Step) (walk : StepsWalk) (next : Option Dump) → walk ≡ Holds next →
    IsTried now budgets i due step walk → i < length steps → step ≡ get_or steps i step → GoesOn crash budgets i due steps next
walk_goes_on crash now same budgets i due steps step walk next is tried lt e =
    let here : IsTried crash budgets i due step (Holds next) =
    subst (λ (k : Crash). IsTried k budgets i due step (Holds next)) same (subst (IsTried now budgets i due step) is tried) in
    record {
      rest =
          steps_at crash budgets i due steps step lt e
          ∙ (ap (λ o. option_or o (first_from crash budgets (i + 1) (present_after crash step) (drop (i + 1) steps))) here.0
          ∙ ap (λ o. first_from crash budgets (i + 1) o (drop (i + 1) steps)) here.1);
      last = last_at crash i due steps step lt e ∙ ap (λ o. last_present crash o (drop (i + 1) steps)) here.1;
    }

pub tried_lists : {E : Type 0} (crash now : Crash) → now ≡ crash → (budgets : Budgets) (i : ℕ) (due : Option Present) (step : Step) (result : Result StepsWalk E) →
    None ≡ first_of_all (begin_parts i due step) → None ≡ first_of_all (cand_parts crash budgets i step 0 (length step.cands)) →
    IfOk result (IsListed now budgets i step) → IfOk result (IsTried crash budgets i due step)
tried_lists crash now same budgets i due step (Ok walk) e f h =
    tried_list crash budgets i due step walk e f (subst (λ (k : Crash). IsListed k budgets i step walk) same h)
tried_lists crash now same budgets i due step (Err error) e f h = tt
