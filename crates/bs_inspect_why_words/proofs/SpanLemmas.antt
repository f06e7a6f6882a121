-- The lines of groups.
use Rattle.std.proofs.Common.{◌≡◌, ℕ, ◌<◌, ◌≤◌, ◌+◌, ◌-◌, Bool, List, [], ◌∷◌, ◌++◌, length, take, refl, ap, sym, subst, ◌∙◌, ◌⊎◌, inl, inr, arith, append_assoc}
use Rattle.std.specs.Prelude.{nat_lt, if◌then◌else◌}
use Rattle.std.specs.List.{flat_map}
use Rattle.std.proofs.lemmas.Bool.{cases_lt, le-ltb, lt-ltb}
use Rattle.std.proofs.lemmas.Grind.{flat_map-append}
use Rattle.std.proofs.lemmas.List.{append-nil, length_push, take-append-le, take_all}
use Rattle.bs_net.specs.Parts.{Parts}
use Rattle.bs_net_facts.specs.declared.fact.Fact.{Fact}
use Rattle.bs_inspect_why_words.specs.declared.reason.Reason.{Reason}
use Rattle.bs_inspect_why_words.specs.declared.group.Group.{Group}
use Rattle.bs_inspect_why_words.specs.declared.group.CycleSpan.{CycleSpan}
use Rattle.bs_inspect_why_words.specs.Facts.{more_words}
use Rattle.bs_inspect_why_words.specs.Blocks.{Appends}
use Rattle.bs_inspect_why_words.specs.Groups.{AreFronted, AreGroups, TellsGroups, group_spans, groups_lines, groups_of, span, span_words, spans_words}
use Rattle.bs_inspect_why_words.specs.Reasons.{AreReasons}
use Rattle.bs_inspect_why_words.specs.Stretches.{starts}

pub groups_are : (raw : Parts) (most : ℕ) (facts : List Fact) (reasons : List Reason) (groups fronts : List Group) →
    AreReasons raw most facts (starts facts) (length (starts facts)) reasons → groups ≡ groups_of reasons → AreFronted reasons groups fronts →
    AreGroups raw most facts fronts
groups_are raw most facts reasons groups fronts are e first = record {
  reasons = reasons;
  are = are;
  grouped = subst (λ (gs : List Group). AreFronted reasons gs fronts) e first;
}

pub groups_told : (raw : Parts) (lead : List ℕ) (facts_most most spans : ℕ) (facts : List Fact) (groups : List Group) (old new : List ℕ) →
    AreGroups raw facts_most facts groups → new ≡ old ++ groups_lines lead most spans groups →
    Appends (TellsGroups raw lead facts_most most spans facts) old new
groups_told raw lead facts_most most spans facts groups old new are goes = record {
  words = groups_lines lead most spans groups;
  says = record { groups = groups; are = are; says = refl };
  appended = goes;
}

-- ---- spans

-- the last of some spans, unless enough went before
abbrev last_words : Bool → CycleSpan → List ℕ
last_words told x = if told then span_words x else []

first_push : (most : ℕ) (xs : List CycleSpan) (x : CycleSpan) →
    flat_map span_words (take most (xs ++ x ∷ [])) ≡ flat_map span_words (take most xs) ++ last_words (nat_lt (length xs) most) x
first_push most xs x = by (cases_lt (length xs) most)
  where
    by : (length xs < most) ⊎ (most ≤ length xs) →
        flat_map span_words (take most (xs ++ x ∷ [])) ≡ flat_map span_words (take most xs) ++ last_words (nat_lt (length xs) most) x
    by (inl lt) =
        ap (flat_map span_words) (take_all most (xs ++ x ∷ []) (omega (arith, lt, length_push xs x)))
        ∙ (flat_map-append span_words xs (x ∷ [])
        ∙ (ap (λ (t : List ℕ). flat_map span_words xs ++ t) (append-nil (span_words x))
        ∙ (ap (λ (ys : List CycleSpan). flat_map span_words ys ++ span_words x) (sym (take_all most xs (omega (arith, lt))))
        ∙ ap (λ (b : Bool). flat_map span_words (take most xs) ++ last_words b x) (sym (lt-ltb (length xs) most lt)))))
    by (inr le) =
        ap (flat_map span_words) (take-append-le most xs (x ∷ []) le)
        ∙ (sym (append-nil (flat_map span_words (take most xs)))
        ∙ ap (λ (b : Bool). flat_map span_words (take most xs) ++ last_words b x) (sym (le-ltb (length xs) most le)))

pub spans_told : (most count : ℕ) (g : Group) (slice few : List CycleSpan) (t t₁ t₂ t₃ : List ℕ) → slice ≡ g.closed → few ≡ take most slice →
    count ≡ length slice → t₁ ≡ t ++ flat_map span_words few →
    t₂ ≡ t₁ ++ (if nat_lt count most then span_words (span g.from g.to) else []) → t₃ ≡ t₂ ++ more_words (count + 1 - most) →
    t₃ ≡ t ++ spans_words most (group_spans g)
spans_told most count g slice few t t₁ t₂ t₃ same first n h₁ h₂ h₃ =
    let x : CycleSpan = span g.from g.to in
    let closed : List ℕ = flat_map span_words (take most g.closed) in
    let last : List ℕ = last_words (nat_lt (length g.closed) most) x in
    let size : count ≡ length g.closed = n ∙ ap length same in
    let front : t₁ ≡ t ++ closed = h₁ ∙ ap (λ (ys : List CycleSpan). t ++ flat_map span_words ys) (first ∙ ap (take most) same) in
    let both : t₂ ≡ (t ++ closed) ++ last =
    h₂
    ∙ (ap (λ (k : ℕ). t₁ ++ last_words (nat_lt k most) x) size ∙ ap (λ (u : List ℕ). u ++ last) front) in
    let rest : count + 1 - most ≡ length (g.closed ++ x ∷ []) - most = omega (arith, size, length_push g.closed x) in
    h₃
    ∙ (ap (λ (k : ℕ). t₂ ++ more_words k) rest
    ∙ (ap (λ (u : List ℕ). u ++ more_words (length (g.closed ++ x ∷ []) - most)) (both ∙ append_assoc t closed last)
    ∙ (append_assoc t (closed ++ last) (more_words (length (g.closed ++ x ∷ []) - most))
    ∙ ap (λ (u : List ℕ). t ++ (u ++ more_words (length (g.closed ++ x ∷ []) - most))) (sym (first_push most g.closed x)))))
