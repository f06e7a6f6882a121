-- Whether candidates lead to a present state, and which is the first that does not.
use Rattle.std.proofs.Common.{◌≡◌, ℕ, suc, ◌<◌, ◌≤◌, ◌+◌, ◌==◌, Bool, true, false, not, List, [], ◌∷◌, length, get_or, slice_get, Option, Some, None, refl, ap, sym, ◌∙◌, ⊎_elim, arith}
use Rattle.std.specs.Prelude.{option_and_then, option_map, if◌then◌else◌}
use Rattle.std.specs.List.{position, position_or_len}
use Rattle.std.proofs.lemmas.Bool.{cases_eq, eq-eqb, ne_eqb}
use Rattle.std.proofs.lemmas.List.{get_or_default}
use Rattle.std.proofs.lemmas.List.Sums.{position_or_len_is}
use Rattle.bs_net.specs.Circuit.{Circuit}
use Rattle.bs_report.specs.declared.report.Cand.{Cand}
use Rattle.bs_report.specs.declared.report.Report.{Report}
use Rattle.bs_report.specs.declared.report.Step.{Step}
use Rattle.bs_scan.specs.declared.seen.Seen.{Seen}
use Rattle.bs_inspect_report_texts.specs.Fits.{leads_into, stray_in, stray_of}
use Rattle.bs_inspect_report_texts.proofs.PlaceLemmas.{position_is, position_none}

-- the first of some candidates lead there
pub record LeadBefore (c : Circuit) (present : Seen) (cands : List Cand) (count : ℕ) : Type 0 where
  pub each : (k : ℕ) (d : Cand) → k < count → leads_into c present (get_or cands k d) ≡ true

pub lead_none : (c : Circuit) (present : Seen) (cands : List Cand) → LeadBefore c present cands 0
lead_none c present cands = record { each = λ k d lt. absurd (omega (arith, lt)) }

pub lead_more : (c : Circuit) (present : Seen) (cands : List Cand) (i : ℕ) (cand : Cand) → i < length cands → cand ≡ get_or cands i cand →
    true ≡ leads_into c present cand → LeadBefore c present cands i → LeadBefore c present cands (i + 1)
lead_more c present cands i cand lt at is before = record {
  each = λ k d less.
      ⊎_elim
      (λ (same : k ≡ i).
      ap (λ (n : ℕ). leads_into c present (get_or cands n d)) same
      ∙ (ap (leads_into c present) (sym (at ∙ get_or_default cands i cand d lt)) ∙ sym is))
      (λ (other : k ≡ i → ⊥). before.each k d (omega (arith, less, other)))
      (cases_eq k i);
}

no_cand : Cand
no_cand = record { state = []; input = []; before = None }

abbrev strays : Circuit → Seen → Cand → Bool
strays c present cand = not (leads_into c present cand)

pub stray_found : (c : Circuit) (present : Seen) (cands : List Cand) (i : ℕ) (cand : Cand) (leads : Bool) → i < length cands →
    cand ≡ get_or cands i cand → leads ≡ leads_into c present cand → leads ≡ false → LeadBefore c present cands i →
    Some (i + 1) ≡ option_map (λ (n : ℕ). n + 1) (position (λ cand. not (leads_into c present cand)) cands)
stray_found c present cands i cand leads lt at is off before =
    let here : strays c present (get_or cands i cand) ≡ true = ap (strays c present) (sym at) ∙ ap not (sym is ∙ off) in
    let at_i : position_or_len (strays c present) cands ≡ i =
    position_or_len_is (strays c present) cands i cand (omega (arith, lt)) (λ k less. ap not (before.each k cand less)) (λ less. here) in
    ap (option_map (λ (n : ℕ). n + 1)) (position_is (strays c present) cands i at_i lt)

pub stray_none : (c : Circuit) (present : Seen) (cands : List Cand) (i : ℕ) → length cands ≤ i → LeadBefore c present cands i →
    None ≡ option_map (λ (n : ℕ). n + 1) (position (λ cand. not (leads_into c present cand)) cands)
stray_none c present cands i le before =
    let past : position_or_len (strays c present) cands ≡ length cands =
    position_or_len_is (strays c present) cands (length cands) no_cand (omega arith)
    (λ k less. ap not (before.each k no_cand (omega (arith, less, le)))) (λ less. absurd (omega (arith, less))) in
    ap (option_map (λ (n : ℕ). n + 1)) (position_none (strays c present) cands past)

-- ---- the first step

pub longer : (c : Circuit) (report : Report) → (length report.inputs ≡ 0 → ⊥) → None ≡ stray_of c report
longer c report other =
    sym (ap (λ (b : Bool). if b then option_and_then (stray_in c) (slice_get report.steps 0) else None) (ne_eqb (length report.inputs) 0 other))

no_head : {A : Type 0} (xs : List A) → length xs ≡ 0 → None ≡ slice_get xs 0
no_head [] e = refl
no_head (x ∷ xs) e = absurd (omega (arith, e))

alone : (c : Circuit) (report : Report) → length report.inputs ≡ 0 → option_and_then (stray_in c) (slice_get report.steps 0) ≡ stray_of c report
alone c report e =
    sym (ap (λ (b : Bool). if b then option_and_then (stray_in c) (slice_get report.steps 0) else None) (eq-eqb (length report.inputs) 0 e))

pub no_step : (c : Circuit) (report : Report) → length report.inputs ≡ 0 → length report.steps ≡ 0 → None ≡ stray_of c report
no_step c report e none = ap (option_and_then (stray_in c)) (no_head report.steps none) ∙ alone c report e

pub first_step : (c : Circuit) (report : Report) (step : Step) (stray : Option ℕ) → length report.inputs ≡ 0 → slice_get report.steps 0 ≡ Some step →
    stray ≡ stray_in c step → stray ≡ stray_of c report
first_step c report step stray e at is = is ∙ (ap (option_and_then (stray_in c)) (sym at) ∙ alone c report e)
