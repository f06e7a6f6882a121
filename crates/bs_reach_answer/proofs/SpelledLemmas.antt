-- What is read of a text has that text.
use Rattle.std.proofs.Common.{◌≡◌, ℕ, ◌<◌, ◌≤◌, ◌+◌, ◌-◌, ◌^◌, Bool, true, false, cond, List, [], ◌∷◌, ◌++◌, length, refl, arith, ap}
use Rattle.std.proofs.Common.{sym, subst, ◌∙◌, Option, Some, None, append_assoc}
use Rattle.std.specs.Prelude.{◌==◌, codes, decimal, Result, Ok, Err}
use Rattle.std.specs.List.{AllByRecursion as Each, flat_map}
use Rattle.std.specs.Str.{bytes_eq}
use Rattle.std.proofs.lemmas.Bool.{false≢true, eqb-true, eqb-false}
use Rattle.std.proofs.lemmas.List.{append-nil, length-append}
use Rattle.std.proofs.lemmas.List.Elements.{All-from_recursion}
use Rattle.bs_bits.specs.Text.{bits_text}
use Rattle.bs_bits.specs.Lines.{line, pieces_of}
use Rattle.bs_bits.specs.Reading.{◌>>=◌}
use Rattle.bs_bits.proofs.LineLemmas.{nothing_left}
use Rattle.bs_log.specs.declared.line.Line.{Line}
use Rattle.bs_log.specs.LineForms.{HasText}
use Rattle.bs_log.specs.LineText.{line_text}
use Rattle.bs_report.specs.declared.fault.ReportFault.{ReportFault}
use Rattle.bs_report.specs.declared.fault.ReportFault.TheVariants.{Extra as extra, Short as short}
use Rattle.bs_report.specs.declared.limits.TheConstants.{MAX_CONFLICTS}
use Rattle.bs_report.specs.Forms.{count_in, bits_in}
use Rattle.bs_report.proofs.SpellingLemmas.{unmap, same_text, count_is, bits_line_is}
use Rattle.bs_report.proofs.SpelledLemmas.{glued, glued_pieces}
use Rattle.bs_reach_unrolled.specs.declared.limits.TheConstants.{MAX_FRAMES}
use Rattle.bs_reach.specs.declared.reach.Outcome.{Outcome}
use Rattle.bs_reach.specs.declared.reach.Outcome.TheVariants.{Reached, Unreached, Unknown}
use Rattle.bs_reach.specs.declared.reach.Reach.{Reach}
use Rattle.bs_reach.specs.Text.{asked_text, outcome_text, state_text, execution_text, head_text, log_text, reach_text}
use Rattle.bs_reach_answer.specs.declared.place.NextLine.{NextLine}
use Rattle.bs_reach_answer.specs.declared.place.NextLine.TheVariants as places
use Rattle.bs_reach_answer.specs.Forms.{asked_in, outcome_in, plain_line_in}
use Rattle.bs_reach_answer.specs.Reading.{Progress, behind_outcome, behind_state, log_place, taken, is_done, line_or_fault, ended, answer_from, nothing_read}
use Rattle.bs_reach_answer.specs.Reading.{answer_in}
use Rattle.bs_reach_answer.specs.ReadingLaw.{HasExecution, HasAnswerText, TextsAreAnswers}
use Rattle.bs_reach_answer.proofs.FormLemmas.{Within, HasPlainText, plain_texts, plain_no_block}
use Rattle.bs_reach_answer.proofs.ReadBackLemmas.{cycles_text, first_state, outcome_line}
use Rattle.bs_reach_answer.proofs.SpellingLemmas.{asked_is, outcome_is, plain_line_is}

-- ---- the text so far

abbrev title_line : List ℕ
title_line = line (codes "reach 1")

abbrev log_line : ℕ → List ℕ
log_line n = line (codes "log " ++ decimal n)

abbrev input_text : List Bool → List ℕ
input_text x = line (codes "input " ++ bits_text x)

abbrev lines_text : List Line → List ℕ
lines_text log = flat_map (λ l. line (line_text l)) log

-- states and inputs by turns
abbrev woven : List (List Bool) → List (List Bool) → List ℕ
woven [] xs = []
woven (s ∷ ss) [] = state_text s ++ woven ss []
woven (s ∷ ss) (x ∷ xs) = state_text s ++ (input_text x ++ woven ss xs)

-- what was asked for is within the limits
pub record HasAsked (r : Reach) : Type 0 where
  pub asked : r.asked ≤ MAX_FRAMES
  pub some : 1 ≤ r.conflicts
  pub most : r.conflicts ≤ MAX_CONFLICTS

-- nothing is read behind the head
pub record NoBody (r : Reach) : Type 0 where
  pub states : r.states ≡ []
  pub inputs : r.inputs ≡ []
  pub log : r.log ≡ []

-- an execution is under way, of which so many inputs are left
pub record InExecution (r : Reach) (left : ℕ) : Type 0 where
  pub head : HasAsked r
  pub log : r.log ≡ []
  pub outcome : r.outcome ≡ Reached (length r.inputs + left)
  pub short : length r.inputs + left ≤ r.asked

pub record BehindExecution (r : Reach) : Type 0 where
  pub head : HasAsked r
  pub execution : HasExecution r.asked r.outcome r.states r.inputs

-- what is read, and the text of it
abbrev pub Fits : NextLine → Reach → List ℕ → Type 0
Fits places.Title r text = (r ≡ nothing_read) × (text ≡ [])
Fits places.Asked r text = (r ≡ nothing_read) × (text ≡ title_line)
Fits places.Outcome r text = HasAsked r × NoBody r × (text ≡ title_line ++ asked_text r.asked r.conflicts)
Fits (places.State left) r text = InExecution r left × (length r.states ≡ length r.inputs) × (text ≡ head_text r ++ woven r.states r.inputs)
Fits (places.Input left) r text =
    InExecution r left × (length r.states ≡ length r.inputs + 1) × (1 ≤ left) × (text ≡ head_text r ++ woven r.states r.inputs)
Fits places.Log r text = BehindExecution r × (r.log ≡ []) × (text ≡ head_text r ++ woven r.states r.inputs)
Fits (places.Lines left) r text =
    BehindExecution r × Each HasPlainText r.log × (length r.log + left < 2 ^ 64) × (1 ≤ left)
    × (text ≡ head_text r ++ (woven r.states r.inputs ++ (log_line (length r.log + left) ++ lines_text r.log)))
Fits places.End r text =
    BehindExecution r × Each HasPlainText r.log × (length r.log < 2 ^ 64)
    × (text ≡ head_text r ++ (woven r.states r.inputs ++ (log_line (length r.log) ++ lines_text r.log)))
Fits places.Done r text =
    BehindExecution r × Each HasPlainText r.log × (length r.log < 2 ^ 64)
    × (text ≡ head_text r ++ (woven r.states r.inputs ++ (log_line (length r.log) ++ (lines_text r.log ++ line (codes "end")))))

-- ---- pieces behind others

two : (t p q a : List ℕ) → t ≡ p ++ q → t ++ a ≡ p ++ (q ++ a)
two t p q a e = ap (λ t. t ++ a) e ∙ append_assoc p q a

three : (t p q r a : List ℕ) → t ≡ p ++ (q ++ r) → t ++ a ≡ p ++ (q ++ (r ++ a))
three t p q r a e = two t p (q ++ r) a e ∙ ap (λ x. p ++ x) (append_assoc q r a)

four : (t p q r s a : List ℕ) → t ≡ p ++ (q ++ (r ++ s)) → t ++ a ≡ p ++ (q ++ (r ++ (s ++ a)))
four t p q r s a e = three t p q (r ++ s) a e ∙ ap (λ x. p ++ (q ++ x)) (append_assoc r s a)

flat_more : {X : Type 0} (f : X → List ℕ) (xs : List X) (x : X) → flat_map f (xs ++ x ∷ []) ≡ flat_map f xs ++ f x
flat_more f [] x = append-nil (f x)
flat_more f (y ∷ ys) x = ap (λ t. f y ++ t) (flat_more f ys x) ∙ sym (append_assoc (f y) (flat_map f ys) (f x))

each_more : {X : Type 0} (P : X → Type 0) (xs : List X) (x : X) → Each P xs → P x → Each P (xs ++ x ∷ [])
each_more P [] x h p = (p, tt)
each_more P (y ∷ ys) x h p = (h.0, each_more P ys x h.1 p)

state_more : (ss xs : List (List Bool)) (s : List Bool) → length ss ≡ length xs → woven (ss ++ s ∷ []) xs ≡ woven ss xs ++ state_text s
state_more [] [] s e = append-nil (state_text s)
state_more [] (x ∷ xs) s e = absurd (omega (arith, e))
state_more (t ∷ ss) [] s e = absurd (omega (arith, e))
state_more (t ∷ ss) (x ∷ xs) s e =
    ap (λ r. state_text t ++ (input_text x ++ r)) (state_more ss xs s (omega (arith, e)))
    ∙ sym (three (woven (t ∷ ss) (x ∷ xs)) (state_text t) (input_text x) (woven ss xs) (state_text s) refl)

input_more : (ss xs : List (List Bool)) (x : List Bool) → length ss ≡ length xs + 1 → woven ss (xs ++ x ∷ []) ≡ woven ss xs ++ input_text x
input_more [] xs x e = absurd (omega (arith, e))
input_more (s ∷ []) [] x e = ap (λ r. state_text s ++ r) (append-nil (input_text x)) ∙ ap (λ r. r ++ input_text x) (sym (append-nil (state_text s)))
input_more (s ∷ t ∷ ss) [] x e = absurd (omega (arith, e))
input_more (s ∷ ss) (y ∷ xs) x e =
    ap (λ r. state_text s ++ (input_text y ++ r)) (input_more ss xs x (omega (arith, e)))
    ∙ sym (three (woven (s ∷ ss) (y ∷ xs)) (state_text s) (input_text y) (woven ss xs) (input_text x) refl)

-- the execution by turns is the execution by places
woven_cycles : (s : List Bool) (ss xs : List (List Bool)) → length ss ≡ length xs → woven (s ∷ ss) xs ≡ state_text s ++ cycles_text xs ss
woven_cycles s [] [] e = refl
woven_cycles s [] (x ∷ xs) e = absurd (omega (arith, e))
woven_cycles s (t ∷ ss) [] e = absurd (omega (arith, e))
woven_cycles s (t ∷ ss) (x ∷ xs) e =
    ap (λ r. state_text s ++ r) (ap (λ r. input_text x ++ r) (woven_cycles t ss xs (omega (arith, e)))
    ∙ sym (append_assoc (input_text x) (state_text t) (cycles_text xs ss)))

execution_is_woven : (o : Outcome) (r : Reach) → HasExecution r.asked o r.states r.inputs → execution_text o r ≡ woven r.states r.inputs
execution_is_woven (Reached j) r h =
    let f = first_state r (omega (arith, h.1, h.2)) in
    f.spells ∙ (sym (woven_cycles f.first f.others r.inputs f.long) ∙ ap (λ (ss : List (List Bool)). woven ss r.inputs) (sym f.states))
execution_is_woven Unreached r h = ap (λ (ss : List (List Bool)). woven ss r.inputs) (sym h.0)
execution_is_woven (Unknown j) r h = ap (λ (ss : List (List Bool)). woven ss r.inputs) (sym h.1)

-- ---- a line at each place

-- what fits behind a line
abbrev Next : Progress → List ℕ → List ℕ → Type 0
Next progress text a = Fits progress.0 progress.1 (text ++ line a)

if_so : (b : Bool) (x y : Progress) → cond {A = Option Progress} b (Some x) None ≡ Some y → (b ≡ true) × (x ≡ y)
if_so true x y e = (refl, cc)
if_so false x y e = cc

at_title : (r : Reach) (text a : List ℕ) (y : Progress) → Fits places.Title r text → taken places.Title r a ≡ Some y → Next y text a
at_title r text a y h e =
    let z = if_so (bytes_eq a (codes "reach 1")) (places.Asked, r) y e in
    subst (λ (y : Progress). Next y text a) z.1
    (h.0, ap (λ t. t ++ line a) h.1 ∙ ap line (same_text a (codes "reach 1") z.0))

at_asked : (r : Reach) (text a : List ℕ) (y : Progress) → Fits places.Asked r text → taken places.Asked r a ≡ Some y → Next y text a
at_asked r text a y h e =
    let m = unmap (λ (asked : ℕ × ℕ). (places.Outcome, record r { asked = asked.0; conflicts = asked.1 })) (asked_in a) y e in
    let after : Reach = record r { asked = m.value.0; conflicts = m.value.1 } in
    let gives : Some (places.Outcome, after) ≡ Some y = m.gives in
    let same : (places.Outcome, after) ≡ y = cc in
    let k = asked_is a m.value m.is in
    subst (λ (y : Progress). Next y text a) same (
      record { asked = k.most_asked; some = k.some_conflicts; most = k.most_conflicts },
      record {
        states = ap (λ (r : Reach). r.states) h.0;
        inputs = ap (λ (r : Reach). r.inputs) h.0;
        log = ap (λ (r : Reach). r.log) h.0;
      },
      ap (λ t. t ++ line a) h.1 ∙ ap (λ t. title_line ++ line t) k.spells,
    )

at_outcome : (r : Reach) (text a : List ℕ) (y : Progress) → Fits places.Outcome r text → taken places.Outcome r a ≡ Some y → Next y text a
unfolding head_text
at_outcome r text a y h e =
    let m = unmap (λ (outcome : Outcome). (behind_outcome outcome, record r { outcome = outcome })) (outcome_in r.asked a) y e in
    let after : Reach = record r { outcome = m.value } in
    let gives : Some (behind_outcome m.value, after) ≡ Some y = m.gives in
    let same : (behind_outcome m.value, after) ≡ y = cc in
    let k = outcome_is r.asked a m.value m.is in
    let is_text : text ++ line a ≡ title_line ++ (asked_text r.asked r.conflicts ++ outcome_text m.value) =
    two text title_line (asked_text r.asked r.conflicts) (line a) h.2
    ∙ ap (λ t. title_line ++ (asked_text r.asked r.conflicts ++ t)) (ap line k.1 ∙ sym (outcome_line m.value)) in
    subst (λ (y : Progress). Next y text a) same (by m.value k.0 is_text)
  where
    head : (o : Outcome) → HasAsked (record r { outcome = o })
    head o = record { asked = h.0.asked; some = h.0.some; most = h.0.most }

    nothing : woven r.states r.inputs ≡ []
    nothing = ap (λ (ss : List (List Bool)). woven ss r.inputs) h.1.states

    whole : (o : Outcome) → text ++ line a ≡ title_line ++ (asked_text r.asked r.conflicts ++ outcome_text o) →
        text ++ line a ≡ (title_line ++ (asked_text r.asked r.conflicts ++ outcome_text o)) ++ woven r.states r.inputs
    whole o t =
        t ∙ (sym (append-nil (title_line ++ (asked_text r.asked r.conflicts ++ outcome_text o)))
        ∙ ap (λ t. (title_line ++ (asked_text r.asked r.conflicts ++ outcome_text o)) ++ t) (sym nothing))

    by : (o : Outcome) → Within r.asked o → text ++ line a ≡ title_line ++ (asked_text r.asked r.conflicts ++ outcome_text o) →
        Fits (behind_outcome o) (record r { outcome = o }) (text ++ line a)
    by (Reached j) k t =
        let none : length r.inputs ≡ 0 = ap length h.1.inputs in
        let count : j ≡ length r.inputs + j = omega (arith, none) in (
          record { head = head (Reached j); log = h.1.log; outcome = ap (λ (n : ℕ). Reached n) count; short = omega (arith, none, k) },
          ap length h.1.states ∙ sym none,
          whole (Reached j) t,
        )
    by Unreached k t = (record { head = head Unreached; execution = (h.1.states, h.1.inputs) }, h.1.log, whole Unreached t)
    by (Unknown j) k t = (record { head = head (Unknown j); execution = (k, h.1.states, h.1.inputs) }, h.1.log, whole (Unknown j) t)

-- the execution is whole
whole_execution : (asked n : ℕ) (o : Outcome) (states inputs : List (List Bool)) → o ≡ Reached n → n ≤ asked → length inputs ≡ n →
    length states ≡ length inputs + 1 → HasExecution asked o states inputs
whole_execution asked n o states inputs is within many more =
    subst (λ (o : Outcome). HasExecution asked o states inputs) (sym is) (within, many, more ∙ ap (λ (k : ℕ). k + 1) many)

at_state : (left : ℕ) (r : Reach) (text a : List ℕ) (y : Progress) → Fits (places.State left) r text → taken (places.State left) r a ≡ Some y → Next y text a
unfolding head_text
at_state left r text a y h e =
    let m = unmap (λ (s : List Bool). (behind_state left, record r { states = r.states ++ s ∷ [] })) (bits_in (codes "state") a) y e in
    let after : Reach = record r { states = r.states ++ m.value ∷ [] } in
    let gives : Some (behind_state left, after) ≡ Some y = m.gives in
    let same : (behind_state left, after) ≡ y = cc in
    let more : length (r.states ++ m.value ∷ []) ≡ length r.inputs + 1 = length-append r.states (m.value ∷ []) ∙ ap (λ (n : ℕ). n + 1) h.1 in
    let is_text : text ++ line a ≡ head_text r ++ woven (r.states ++ m.value ∷ []) r.inputs =
    two text (head_text r) (woven r.states r.inputs) (line a) h.2
    ∙ ap (λ t. head_text r ++ t)
    (ap (λ t. woven r.states r.inputs ++ line t) (bits_line_is (codes "state") a m.value m.is) ∙ sym (state_more r.states r.inputs m.value h.1)) in
    subst (λ (y : Progress). Next y text a) same (by (left == 0) refl after m.value refl more is_text)
  where
    by : (b : Bool) → (left == 0) ≡ b → (after : Reach) (s : List Bool) → after ≡ record r { states = r.states ++ s ∷ [] } →
        length (r.states ++ s ∷ []) ≡ length r.inputs + 1 → text ++ line a ≡ head_text r ++ woven (r.states ++ s ∷ []) r.inputs →
        Fits (cond b places.Log (places.Input left)) after (text ++ line a)
    by true z after s is more t =
        let none : left ≡ 0 = eqb-true left 0 z in
        let count : length r.inputs ≡ length r.inputs + left = omega (arith, none) in
        subst (λ (after : Reach). Fits places.Log after (text ++ line a)) (sym is) (
          record {
            head = record { asked = h.0.head.asked; some = h.0.head.some; most = h.0.head.most };
            execution = whole_execution r.asked (length r.inputs + left) r.outcome (r.states ++ s ∷ []) r.inputs h.0.outcome h.0.short count more;
          },
          h.0.log,
          t,
        )
    by false z after s is more t =
        let some : left ≡ 0 → ⊥ = eqb-false left 0 z in
        subst (λ (after : Reach). Fits (places.Input left) after (text ++ line a)) (sym is) (
          record {
            head = record { asked = h.0.head.asked; some = h.0.head.some; most = h.0.head.most };
            log = h.0.log;
            outcome = h.0.outcome;
            short = h.0.short;
          },
          more,
          omega (arith, some),
          t,
        )

at_input : (left : ℕ) (r : Reach) (text a : List ℕ) (y : Progress) → Fits (places.Input left) r text → taken (places.Input left) r a ≡ Some y → Next y text a
unfolding head_text
at_input left r text a y h e =
    let m = unmap (λ (x : List Bool). (places.State (left - 1), record r { inputs = r.inputs ++ x ∷ [] })) (bits_in (codes "input") a) y e in
    let after : Reach = record r { inputs = r.inputs ++ m.value ∷ [] } in
    let gives : Some (places.State (left - 1), after) ≡ Some y = m.gives in
    let same : (places.State (left - 1), after) ≡ y = cc in
    let more : length (r.inputs ++ m.value ∷ []) ≡ length r.inputs + 1 = length-append r.inputs (m.value ∷ []) in
    let count : length r.inputs + left ≡ length (r.inputs ++ m.value ∷ []) + (left - 1) = omega (arith, more, h.2) in
    subst (λ (y : Progress). Next y text a) same (
      record {
        head = record { asked = h.0.head.asked; some = h.0.head.some; most = h.0.head.most };
        log = h.0.log;
        outcome = h.0.outcome ∙ ap (λ (n : ℕ). Reached n) count;
        short = omega (arith, h.0.short, count);
      },
      h.1 ∙ sym more,
      two text (head_text r) (woven r.states r.inputs) (line a) h.3
          ∙ ap (λ t. head_text r ++ t)
          (ap (λ t. woven r.states r.inputs ++ line t) (bits_line_is (codes "input") a m.value m.is) ∙ sym (input_more r.states r.inputs m.value h.1)),
    )

-- behind the execution, where so many log lines are left
lines_left : (left : ℕ) (r : Reach) (text : List ℕ) → BehindExecution r → Each HasPlainText r.log → length r.log + left < 2 ^ 64 →
    text ≡ head_text r ++ (woven r.states r.inputs ++ (log_line (length r.log + left) ++ lines_text r.log)) → Fits (log_place left) r text
lines_left left r text b each small t = by (left == 0) refl
  where
    by : (z : Bool) → (left == 0) ≡ z → Fits (cond z places.End (places.Lines left)) r text
    by true z =
        let none : left ≡ 0 = eqb-true left 0 z in
        let count : length r.log + left ≡ length r.log = omega (arith, none) in (
          b,
          each,
          omega (arith, small, none),
          t ∙ ap (λ (n : ℕ). head_text r ++ (woven r.states r.inputs ++ (log_line n ++ lines_text r.log))) count,
        )
    by false z = let some : left ≡ 0 → ⊥ = eqb-false left 0 z in (b, each, small, omega (arith, some), t)

at_log : (r : Reach) (text a : List ℕ) (y : Progress) → Fits places.Log r text → taken places.Log r a ≡ Some y → Next y text a
at_log r text a y h e =
    let m = unmap (λ (n : ℕ). (log_place n, r)) (count_in (codes "log") a) y e in
    let gives : Some (log_place m.value, r) ≡ Some y = m.gives in
    let same : (log_place m.value, r) ≡ y = cc in
    let c = count_is (codes "log") a m.value m.is in
    let none : length r.log ≡ 0 = ap length h.1 in
    let nothing : lines_text r.log ≡ [] = ap lines_text h.1 in
    let count : m.value ≡ length r.log + m.value = omega (arith, none) in
    subst (λ (y : Progress). Next y text a) same
    (lines_left m.value r (text ++ line a) h.0 (subst (λ (log : List Line). Each HasPlainText log) (sym h.1) tt) (omega (arith, none, c.1))
    (two text (head_text r) (woven r.states r.inputs) (line a) h.2
    ∙ (ap (λ t. head_text r ++ (woven r.states r.inputs ++ line t)) c.0
    ∙ (ap (λ (n : ℕ). head_text r ++ (woven r.states r.inputs ++ log_line n)) count
    ∙ ap (λ t. head_text r ++ (woven r.states r.inputs ++ t))
    (sym (append-nil (log_line (length r.log + m.value))) ∙ ap (λ t. log_line (length r.log + m.value) ++ t) (sym nothing))))))

at_lines : (left : ℕ) (r : Reach) (text a : List ℕ) (y : Progress) → Fits (places.Lines left) r text → taken (places.Lines left) r a ≡ Some y → Next y text a
unfolding head_text
at_lines left r text a y h e =
    let m = unmap (λ (l : Line). (log_place (left - 1), record r { log = r.log ++ l ∷ [] })) (plain_line_in a) y e in
    let after : Reach = record r { log = r.log ++ m.value ∷ [] } in
    let gives : Some (log_place (left - 1), after) ≡ Some y = m.gives in
    let same : (log_place (left - 1), after) ≡ y = cc in
    let l = plain_line_is a m.value m.is in
    let more : length (r.log ++ m.value ∷ []) ≡ length r.log + 1 = length-append r.log (m.value ∷ []) in
    let count : length r.log + left ≡ length (r.log ++ m.value ∷ []) + (left - 1) = omega (arith, more, h.3) in
    subst (λ (y : Progress). Next y text a) same
    (lines_left (left - 1) after (text ++ line a)
    (record { head = record { asked = h.0.head.asked; some = h.0.head.some; most = h.0.head.most }; execution = h.0.execution })
    (each_more HasPlainText r.log m.value h.1 l.0) (omega (arith, count, h.2))
    (four text (head_text r) (woven r.states r.inputs) (log_line (length r.log + left)) (lines_text r.log) (line a) h.4
    ∙ (ap (λ t. head_text r ++ (woven r.states r.inputs ++ (log_line (length r.log + left) ++ t)))
    (ap (λ t. lines_text r.log ++ line t) (sym l.1) ∙ sym (flat_more (λ (l : Line). line (line_text l)) r.log m.value))
    ∙ ap (λ (n : ℕ). head_text r ++ (woven r.states r.inputs ++ (log_line n ++ lines_text (r.log ++ m.value ∷ [])))) count)))

at_end : (r : Reach) (text a : List ℕ) (y : Progress) → Fits places.End r text → taken places.End r a ≡ Some y → Next y text a
at_end r text a y h e =
    let z = if_so (bytes_eq a (codes "end")) (places.Done, r) y e in
    subst (λ (y : Progress). Next y text a) z.1 (
      h.0,
      h.1,
      h.2,
      four text (head_text r) (woven r.states r.inputs) (log_line (length r.log)) (lines_text r.log) (line a) h.3
          ∙ ap (λ t. head_text r ++ (woven r.states r.inputs ++ (log_line (length r.log) ++ (lines_text r.log ++ line t)))) (same_text a (codes "end") z.0),
    )

line_fits : (place : NextLine) (r : Reach) (text a : List ℕ) (y : Progress) → Fits place r text → taken place r a ≡ Some y → Next y text a
line_fits places.Title r text a y h e = at_title r text a y h e
line_fits places.Asked r text a y h e = at_asked r text a y h e
line_fits places.Outcome r text a y h e = at_outcome r text a y h e
line_fits (places.State left) r text a y h e = at_state left r text a y h e
line_fits (places.Input left) r text a y h e = at_input left r text a y h e
line_fits places.Log r text a y h e = at_log r text a y h e
line_fits (places.Lines left) r text a y h e = at_lines left r text a y h e
line_fits places.End r text a y h e = at_end r text a y h e
line_fits places.Done r text a y h e = cc

-- ---- all lines

done_is : (place : NextLine) → is_done place ≡ true → place ≡ places.Done
done_is places.Title e = absurd (false≢true e)
done_is places.Asked e = absurd (false≢true e)
done_is places.Outcome e = absurd (false≢true e)
done_is (places.State left) e = absurd (false≢true e)
done_is (places.Input left) e = absurd (false≢true e)
done_is places.Log e = absurd (false≢true e)
done_is (places.Lines left) e = absurd (false≢true e)
done_is places.End e = absurd (false≢true e)
done_is places.Done e = refl

at_text_end : (place : NextLine) (r : Reach) (text rest : List ℕ) (all : Reach) → Fits place r text → ended place r rest ≡ Ok all →
    Fits places.Done all (text ++ rest)
at_text_end place r text rest all h e = by (is_done place) refl (length rest == 0) refl e
  where
    by : (d : Bool) → is_done place ≡ d → (n : Bool) → (length rest == 0) ≡ n →
        cond {A = Result Reach ReportFault} d (cond {A = Result Reach ReportFault} n (Ok r) (Err extra)) (Err short) ≡ Ok all →
        Fits places.Done all (text ++ rest)
    by true d true n e =
        let same : r ≡ all = cc in
        let no_rest : text ++ rest ≡ text = ap (λ t. text ++ t) (nothing_left rest n) ∙ append-nil text in
        subst (λ (t : List ℕ). Fits places.Done all t) (sym no_rest)
        (subst (λ (all : Reach). Fits places.Done all text) same (subst (λ (p : NextLine). Fits p r text) (done_is place d) h))
    by true d false n e = cc
    by false d n nn e = cc

pieces_fit : (pieces : List (List ℕ)) (n : ℕ) (place : NextLine) (r : Reach) (text : List ℕ) (all : Reach) → Fits place r text →
    answer_from n place r pieces ≡ Ok all → Fits places.Done all (text ++ glued pieces)
pieces_fit [] n place r text all h e = at_text_end place r text [] all h e
pieces_fit (rest ∷ []) n place r text all h e = at_text_end place r text rest all h e
pieces_fit (a ∷ q ∷ ps) n place r text all h e = by (λ y text h e. pieces_fit (q ∷ ps) (n + 1) y.0 y.1 text all h e) (is_done place) (taken place r a) refl e
  where
    Rest : Type 0
    Rest = (y : Progress) (text : List ℕ) → Fits y.0 y.1 text → answer_from (n + 1) y.0 y.1 (q ∷ ps) ≡ Ok all → Fits places.Done all (text ++ glued (q ∷ ps))

    by : Rest → (d : Bool) (o : Option Progress) → taken place r a ≡ o →
        ◌>>=◌ (cond {A = Result Progress ReportFault} d (Err extra) (line_or_fault n o)) (λ (y : Progress). answer_from (n + 1) y.0 y.1 (q ∷ ps)) ≡ Ok all →
        Fits places.Done all (text ++ (line a ++ glued (q ∷ ps)))
    by rest true o t e = cc
    by rest false None t e = cc
    by rest false (Some y) t e =
        subst (λ (text : List ℕ). Fits places.Done all text) (append_assoc text (line a) (glued (q ∷ ps)))
        (rest y (text ++ line a) (line_fits place r text a y h t) e)

-- what is read up to the end is an answer that has the text
done_is_answer : (r : Reach) (bytes : List ℕ) → Fits places.Done r bytes → HasAnswerText r × (reach_text r ≡ bytes)
unfolding log_text
done_is_answer r bytes h =
    let b = h.0 in (
      record {
        most_asked = b.head.asked;
        some_conflicts = b.head.some;
        most_conflicts = b.head.most;
        execution = b.execution;
        each_line = All-from_recursion HasText r.log (plain_texts r.log h.1);
        no_block = plain_no_block r.log h.1;
        few_lines = h.2;
      },
      ap (λ t. head_text r ++ (t ++ (log_line (length r.log) ++ (lines_text r.log ++ line (codes "end"))))) (execution_is_woven r.outcome r b.execution)
          ∙ sym h.3,
    )

pub texts_are_answers : TextsAreAnswers
unfolding answer_in
texts_are_answers bytes r e =
    done_is_answer r bytes
    (subst (λ (t : List ℕ). Fits places.Done r t) (glued_pieces bytes) (pieces_fit (pieces_of bytes) 1 places.Title nothing_read [] r (refl, refl) e))
