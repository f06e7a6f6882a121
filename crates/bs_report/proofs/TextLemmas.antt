-- Pieces that are appended one after another.
use Rattle.std.proofs.Common.{◌≡◌, ℕ, suc, zero, ◌<◌, ◌+◌, List, [], ◌∷◌, ◌++◌, length, take, get_or, ap, sym, ◌∙◌, arith, append_assoc, add-one}
use Rattle.std.specs.Prelude.{Result, Ok, Err, OnOk}
use Rattle.std.specs.List.{flat_map, range_with_len}
use Rattle.std.proofs.lemmas.List.{take_more, append-nil, length-take-le}
use Rattle.bs_report.specs.declared.report.Step.{Step}
use Rattle.bs_report.specs.Text.{step_text, steps_text}

pub steps_text_append : (d n : ℕ) (steps : List Step) (step : Step) →
    steps_text d n (steps ++ step ∷ []) ≡ steps_text d n steps ++ step_text d (n + length steps) step
steps_text_append d n [] step =
    append-nil (step_text d n step) ∙ ap (λ (k : ℕ). step_text d k step) (let e : n ≡ n + 0 = omega arith in e)
steps_text_append d n (s ∷ ss) step =
    let place : n + 1 + length ss ≡ n + suc (length ss) = omega arith in
    ap (λ (rest : List ℕ). step_text d n s ++ rest) (steps_text_append d (n + 1) ss step)
    ∙ (sym (append_assoc (step_text d n s) (steps_text d (n + 1) ss) (step_text d (n + 1 + length ss) step))
    ∙ ap (λ (k : ℕ). (step_text d n s ++ steps_text d (n + 1) ss) ++ step_text d k step) place)

-- one step more
pub steps_text_more : (d : ℕ) (steps : List Step) (i number : ℕ) (step : Step) → i < length steps → step ≡ get_or steps i step → number ≡ i + 1 →
    steps_text d 1 (take (i + 1) steps) ≡ steps_text d 1 (take i steps) ++ step_text d number step
steps_text_more d steps i number step lt e n =
    let more : take (i + 1) steps ≡ take i steps ++ step ∷ [] = take_more steps i step lt ∙ ap (λ (s : Step). take i steps ++ s ∷ []) (sym e) in
    let long : 1 + length (take i steps) ≡ number = omega (arith, length-take-le i steps (omega arith)) in
    ap (steps_text d 1) more ∙ (steps_text_append d 1 (take i steps) step ∙ ap (λ (k : ℕ). steps_text d 1 (take i steps) ++ step_text d k step) long)

-- what a step appends
pub steps_step : (d : ℕ) (old before after : List ℕ) (steps : List Step) (i number : ℕ) (step : Step) → before ≡ old ++ steps_text d 1 (take i steps) →
    after ≡ before ++ step_text d number step → i < length steps → step ≡ get_or steps i step → number ≡ i + 1 →
    after ≡ old ++ steps_text d 1 (take (i + 1) steps)
steps_step d old before after steps i number step e f lt is n =
    f ∙ (ap (λ (t : List ℕ). t ++ step_text d number step) e
    ∙ (append_assoc old (steps_text d 1 (take i steps)) (step_text d number step)
    ∙ ap (λ (t : List ℕ). old ++ t) (sym (steps_text_more d steps i number step lt is n))))

four : (old a b c new p q r s : List ℕ) → a ≡ old ++ p → b ≡ a ++ q → c ≡ b ++ r → new ≡ c ++ s → new ≡ old ++ (p ++ (q ++ (r ++ s)))
four old a b c new p q r s e f g h =
    h ∙ (ap (λ (t : List ℕ). t ++ s) (g ∙ (ap (λ (t : List ℕ). t ++ r) (f ∙ ap (λ (t : List ℕ). t ++ q) e)))
    ∙ (append_assoc ((old ++ p) ++ q) r s ∙ (append_assoc (old ++ p) q (r ++ s) ∙ append_assoc old p (q ++ (r ++ s)))))

-- four pieces, of which the last may fail
pub four_ok : {A E : Type 0} (x : Result A E) (old a b c new p q r s : List ℕ) → a ≡ old ++ p → b ≡ a ++ q → c ≡ b ++ r → OnOk x (new ≡ c ++ s) →
    OnOk x (new ≡ old ++ (p ++ (q ++ (r ++ s))))
four_ok (Ok u) old a b c new p q r s e f g h = four old a b c new p q r s e f g h
four_ok (Err u) old a b c new p q r s e f g h = h
