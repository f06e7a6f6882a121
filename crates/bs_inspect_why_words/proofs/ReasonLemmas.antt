-- What is told of each cycle.
use Rattle.std.proofs.Common.{◌≡◌, ℕ, ◌<◌, ◌≤◌, ◌+◌, List, [], ◌∷◌, ◌++◌, length, get_or, refl, ap, sym, subst, ◌∙◌, ◌⊎◌, inl, inr, arith, append_assoc}
use Rattle.std.specs.Prelude.{codes, decimal}
use Rattle.std.proofs.lemmas.Bool.{cases_lt}
use Rattle.std.proofs.lemmas.List.{get_or_append_left, get_or_push, length_push}
use Rattle.bs_net.specs.Parts.{Parts}
use Rattle.bs_net_facts.specs.declared.fact.Fact.{Fact}
use Rattle.bs_inspect_why_words.specs.declared.reason.Reason.{Reason}
use Rattle.std.specs.List.{flat_map}
use Rattle.bs_inspect_why_words.specs.Blocks.{Appends}
use Rattle.bs_inspect_why_words.specs.Causes.{first_cycle}
use Rattle.bs_inspect_why_words.specs.Facts.{TellsFirst}
use Rattle.bs_inspect_why_words.specs.Reasons.{AreReasons, IsReason}
use Rattle.bs_inspect_why_words.specs.Stretches.{starts, stretch_back}
use Rattle.bs_inspect_why_words.specs.Throughout.{TellsStills, still_line}

pub reason_is : (raw : Parts) (most : ℕ) (facts : List Fact) (words : List ℕ) (cycle : ℕ) → TellsFirst raw most facts words → cycle ≡ first_cycle facts →
    IsReason raw most facts (record { words = words; cycle = cycle })
reason_is raw most facts words cycle tells e = record { cycle = e; tells = tells }

pub reasons_begin : (raw : Parts) (most : ℕ) (facts : List Fact) (begins : List ℕ) (reasons : List Reason) → reasons ≡ [] →
    AreReasons raw most facts begins 0 reasons
reasons_begin raw most facts begins reasons e = record { size = ap length e; each = λ j d lt. absurd (omega (arith, lt)) }

pub reasons_more : (raw : Parts) (most : ℕ) (facts : List Fact) (begins : List ℕ) (j : ℕ) (part : List Fact) (r : Reason) (reasons after : List Reason) →
    part ≡ stretch_back facts begins j → AreReasons raw most facts begins j reasons → IsReason raw most part r → after ≡ reasons ++ r ∷ [] →
    AreReasons raw most facts begins (j + 1) after
reasons_more raw most facts begins j part r reasons after at are is goes =
    subst (AreReasons raw most facts begins (j + 1)) (sym goes)
    (record {
      size = length_push reasons r ∙ (let h : length reasons + 1 ≡ j + 1 = omega (arith, are.size) in h);
      each = λ k d less. by k d less (cases_lt k j);
    })
  where
    by : (k : ℕ) (d : Reason) → k < j + 1 → (k < j) ⊎ (j ≤ k) → IsReason raw most (stretch_back facts begins k) (get_or (reasons ++ r ∷ []) k d)
    by k d less (inl before) =
        subst (IsReason raw most (stretch_back facts begins k))
        (sym (get_or_append_left reasons (r ∷ []) d k (omega (arith, before, are.size)))) (are.each k d before)
    by k d less (inr le) =
        let same : j ≡ k = omega (arith, less, le) in
        subst (λ (n : ℕ). IsReason raw most (stretch_back facts begins n) (get_or (reasons ++ r ∷ []) n d)) same
        (subst (IsReason raw most (stretch_back facts begins j)) (sym (get_or_push reasons r d j are.size))
        (subst (λ (fs : List Fact). IsReason raw most fs r) at is))

pub stills_told : (raw : Parts) (most : ℕ) (stills : List Fact) (reasons : List Reason) (old new : List ℕ) →
    AreReasons raw most stills (starts stills) (length (starts stills)) reasons → new ≡ old ++ flat_map still_line reasons →
    Appends (TellsStills raw most stills) old new
stills_told raw most stills reasons old new are goes = record {
  words = flat_map still_line reasons;
  says = record { reasons = reasons; are = are; says = refl };
  appended = goes;
}

-- the line of facts that stand still, in five pieces
pub still_put : (r : Reason) (words : List ℕ) (n : ℕ) (t t₁ t₂ t₃ t₄ t₅ : List ℕ) → words ≡ r.words → n ≡ r.cycle → t₁ ≡ t ++ codes "throughout " → t₂ ≡ t₁ ++ words → t₃ ≡ t₂ ++ codes ", since " →
    t₄ ≡ t₃ ++ decimal n → t₅ ≡ t₄ ++ 10 ∷ [] → t₅ ≡ t ++ still_line r
unfolding still_line
still_put r words n t t₁ t₂ t₃ t₄ t₅ same at h₁ g₂ h₃ g₄ h₅ =
    let h₂ : t₂ ≡ t₁ ++ r.words = g₂ ∙ ap (λ (x : List ℕ). t₁ ++ x) same in
    let h₄ : t₄ ≡ t₃ ++ decimal r.cycle = g₄ ∙ ap (λ (m : ℕ). t₃ ++ decimal m) at in
    let four : t₄ ≡ t ++ (codes "throughout " ++ (r.words ++ (codes ", since " ++ decimal r.cycle))) =
    h₄
    ∙ (ap (λ (x : List ℕ). x ++ decimal r.cycle) (h₃ ∙ ap (λ (x : List ℕ). x ++ codes ", since ") (h₂ ∙ ap (λ (x : List ℕ). x ++ r.words) h₁))
    ∙ (append_assoc ((t ++ codes "throughout ") ++ r.words) (codes ", since ") (decimal r.cycle)
    ∙ (append_assoc (t ++ codes "throughout ") r.words (codes ", since " ++ decimal r.cycle)
    ∙ append_assoc t (codes "throughout ") (r.words ++ (codes ", since " ++ decimal r.cycle))))) in
    h₅
    ∙ (ap (λ (x : List ℕ). x ++ 10 ∷ []) four
    ∙ append_assoc t (codes "throughout " ++ (r.words ++ (codes ", since " ++ decimal r.cycle))) (10 ∷ []))
