-- What is read of a text has that text.
use Rattle.std.proofs.Common.{◌≡◌, ℕ, suc, ◌<◌, ◌≤◌, ◌+◌, ◌-◌, ◌^◌, Bool, true, false, cond, List, [], ◌∷◌, ◌++◌, map, length, get_or, refl, arith, ap}
use Rattle.std.proofs.Common.{sym, subst, ◌∙◌, Option, Some, None, append_assoc}
use Rattle.std.specs.Prelude.{◌==◌, ◌||◌, codes, decimal, option_map, Result, Ok, Err}
use Rattle.std.specs.List.{AllByRecursion as Each, flat_map}
use Rattle.std.specs.Str.{bytes_eq}
use Rattle.std.proofs.lemmas.Bool.{false≢true, eqb-true, eqb-false}
use Rattle.std.proofs.lemmas.List.{append-nil, length-append, get_or_at, nil_from_length}
use Rattle.std.proofs.lemmas.List.Elements.{All-from_recursion}
use Rattle.bs_bits.specs.Text.{bits_text}
use Rattle.bs_bits.specs.Lines.{line, onto_first, pieces_of}
use Rattle.bs_bits.specs.Reading.{◌>>=◌}
use Rattle.bs_bits.proofs.LineLemmas.{nothing_left}
use Rattle.bs_scan.specs.declared.seen.Seen.{Seen}
use Rattle.bs_scan.specs.Seen.{whole, IsSeen}
use Rattle.bs_scan.specs.SeenText.{seen_text}
use Rattle.bs_log.specs.declared.line.Line.{Line}
use Rattle.bs_log.specs.LineForms.{HasText}
use Rattle.bs_log.specs.LineReading.{line_in}
use Rattle.bs_log.specs.LineText.{line_text}
use Rattle.bs_report.specs.declared.fault.ReportFault.{ReportFault}
use Rattle.bs_report.specs.declared.fault.ReportFault.TheVariants.{Extra as extra, Short as short}
use Rattle.bs_scan.specs.Choice.{IsDepth}
use Rattle.bs_scan.specs.DumpText.{signature_text}
use Rattle.bs_report.specs.declared.place.PartialStep.{PartialStep}
use Rattle.bs_report.specs.declared.place.NextLine.{NextLine}
use Rattle.bs_report.specs.declared.place.NextLine.TheVariants as places
use Rattle.bs_report.specs.declared.report.Budgets.{Budgets}
use Rattle.bs_report.specs.declared.report.Cand.{Cand}
use Rattle.bs_report.specs.declared.report.HitLine.{HitLine}
use Rattle.bs_report.specs.declared.report.ListEnd.{ListEnd}
use Rattle.bs_report.specs.declared.report.Stop.{Stop}
use Rattle.bs_report.specs.declared.report.Step.{Step}
use Rattle.bs_report.specs.declared.report.Report.{Report}
use Rattle.bs_report.specs.Forms.{depth_in, count_in, bits_in, seen_in, older_in, cand_in, end_in, hit_in, stop_in, budgets_in}
use Rattle.bs_report.specs.Reading.{Reached, begins, turned, begun, behind_stored, more_listed, step_of, with_step, behind_state, log_place, taken}
use Rattle.bs_report.specs.Reading.{may_stand, standing, state_in, with_state}
use Rattle.bs_report.specs.Reading.{is_done, line_or_fault, ended, report_from, nothing_read, report_in}
use Rattle.bs_report.specs.Text.{title, cand_text, older_text, end_word, step_text, steps_text, stop_word, state_text, state_at, trace_text}
use Rattle.bs_report.specs.Text.{budgets_text, head_text, tail_text, report_text, IsOfDepth, HasEndText, HasStepText, HasReportText}
use Rattle.bs_report.specs.ReadingLaw.{TextsAreReports}
use Rattle.bs_report.proofs.TextLemmas.{steps_text_append}
use Rattle.bs_report.proofs.TraceLemmas.{seens, FirstSeen, first_seen, last_state, seens_push, wholes_push, length_wholes}
use Rattle.bs_report.proofs.ReadBackLemmas.{moves_text, trace_is_moves}
use Rattle.bs_report.proofs.ReadingLemmas.{some_piece}
use Rattle.bs_report.proofs.SpellingLemmas.{unmap, same_text, count_is, bits_line_is, AreBudgets, budgets_are, depth_is, older_is, cand_is, end_is}
use Rattle.bs_report.proofs.SpellingLemmas.{hit_is, stop_is, log_line_is, seen_line_is}

-- ---- the text so far

abbrev title_line : ℕ → List ℕ
title_line depth = line (title depth)

-- the lines up to the last whole step
abbrev top : Report → List ℕ
top r = title_line r.depth ++ (budgets_text r.budgets ++ steps_text r.depth 1 r.steps)

abbrev step_line : Report → List ℕ
step_line r = line (codes "step " ++ decimal (length r.steps + 1))

abbrev present_line : Seen → List ℕ
present_line s = line (codes "present " ++ seen_text s)

abbrev stored_line : List Bool → List ℕ
stored_line s = line (codes "stored " ++ bits_text s)

abbrev list_line : ListEnd → List ℕ
list_line e = line (codes "list " ++ end_word e)

abbrev trace_line : ℕ → List ℕ
trace_line n = line (codes "trace " ++ decimal n)

abbrev log_line : ℕ → List ℕ
log_line n = line (codes "log " ++ decimal n)

abbrev input_text : List Bool → List ℕ
input_text x = line (codes "input " ++ bits_text x)

abbrev lines_text : List Line → List ℕ
lines_text log = flat_map (λ l. line (line_text l)) log

-- states of which all is known
abbrev wholes : List (List Bool) → List Seen
wholes ss = map (λ (s : List Bool). whole s) ss

-- states and inputs by turns
abbrev woven : List Seen → List (List Bool) → List ℕ
woven [] xs = []
woven (s ∷ ss) [] = state_text s ++ woven ss []
woven (s ∷ ss) (x ∷ xs) = state_text s ++ (input_text x ++ woven ss xs)

-- the budgets are in their ranges, and each step has a text
pub record HasHead (r : Report) : Type 0 where
  pub budgets : AreBudgets (codes "asked "
      ++ (decimal r.budgets.steps ++ (codes " candidates " ++ (decimal r.budgets.candidates ++ (codes " conflicts " ++ decimal r.budgets.conflicts)))))
      r.budgets
  pub depth : IsDepth r.depth
  pub steps : Each (HasStepText r.depth) r.steps
  pub few : length r.steps < 2 ^ 64

-- nothing is read behind the head
pub record NoTail (r : Report) : Type 0 where
  pub states : r.states ≡ []
  pub inputs : r.inputs ≡ []
  pub free : r.free ≡ []
  pub log : r.log ≡ []

pub record InStep (r : Report) : Type 0 where
  pub head : HasHead r
  pub tail : NoTail r
  pub counted : length r.steps + 1 < 2 ^ 64

pub record InTrace (r : Report) (n : ℕ) : Type 0 where
  pub head : HasHead r
  pub free : r.free ≡ []
  pub log : r.log ≡ []
  pub small : n < 2 ^ 64

pub record BehindTrace (r : Report) : Type 0 where
  pub head : HasHead r
  pub small : length r.inputs < 2 ^ 64
  pub more : length r.states ≡ length r.inputs + 1
  pub last : IsSeen (state_at r (length r.inputs))

-- nothing but the first line is read
abbrev pub titled : ℕ → Report
titled depth = record nothing_read { depth = depth }

-- the list of a step so far, in a report of this depth
pub record InList (depth : ℕ) (h : PartialStep) (cands : List Cand) : Type 0 where
  pub present : IsSeen h.present
  pub older : IsOfDepth depth h.older
  pub befores : Each (λ cand. IsOfDepth depth cand.before) cands

-- what is read, and the text of it
abbrev pub Fits : NextLine → Report → List ℕ → Type 0
Fits places.Title r text = (r ≡ nothing_read) × (text ≡ [])
Fits places.Asked r text = (r ≡ titled r.depth) × IsDepth r.depth × (text ≡ title_line r.depth)
Fits places.Turn r text = HasHead r × NoTail r × (text ≡ top r)
Fits places.Present r text = InStep r × (text ≡ top r ++ step_line r)
Fits (places.Stored p) r text = InStep r × IsSeen p × (text ≡ top r ++ (step_line r ++ present_line p))
Fits (places.Older p s) r text = InStep r × IsSeen p × ((r.depth == 1) ≡ false) × (text ≡ top r ++ (step_line r ++ (present_line p ++ stored_line s)))
Fits (places.Listing h cands) r text =
    InStep r × InList r.depth h cands
    × (text ≡ top r ++ (step_line r ++ (present_line h.present ++ (stored_line h.stored ++ (older_text r.depth h.older ++ flat_map cand_text cands)))))
Fits (places.Hit h cands e) r text =
    InStep r × InList r.depth h cands × HasEndText e
    × (text ≡ top r ++ (step_line r ++ (present_line h.present
    ++ (stored_line h.stored ++ (older_text r.depth h.older ++ (flat_map cand_text cands ++ list_line e))))))
Fits places.Trace r text = HasHead r × NoTail r × (text ≡ head_text r)
Fits (places.State left) r text =
    InTrace r (length r.inputs + left) × (length r.states ≡ length r.inputs)
    × (text ≡ head_text r ++ (trace_line (length r.inputs + left) ++ woven (wholes r.states) r.inputs))
Fits (places.Input left) r text =
    InTrace r (length r.inputs + left) × (length r.states ≡ length r.inputs + 1) × (1 ≤ left)
    × (text ≡ head_text r ++ (trace_line (length r.inputs + left) ++ woven (wholes r.states) r.inputs))
Fits places.Log r text = BehindTrace r × (r.log ≡ []) × (text ≡ head_text r ++ (trace_line (length r.inputs) ++ woven (seens r.states r.free) r.inputs))
Fits (places.Lines left) r text =
    BehindTrace r × Each HasText r.log × (length r.log + left < 2 ^ 64) × (1 ≤ left)
    × (text ≡ head_text r ++ (trace_line (length r.inputs) ++ (woven (seens r.states r.free) r.inputs ++ (log_line (length r.log + left) ++ lines_text r.log))))
Fits places.End r text =
    BehindTrace r × Each HasText r.log × (length r.log < 2 ^ 64)
    × (text ≡ head_text r ++ (trace_line (length r.inputs) ++ (woven (seens r.states r.free) r.inputs ++ (log_line (length r.log) ++ lines_text r.log))))
Fits places.Done r text =
    BehindTrace r × Each HasText r.log × (length r.log < 2 ^ 64)
    × (text ≡ head_text r ++ (trace_line (length r.inputs)
    ++ (woven (seens r.states r.free) r.inputs ++ (log_line (length r.log) ++ (lines_text r.log ++ line (codes "end"))))))

-- ---- pieces behind others

two : (t p q a : List ℕ) → t ≡ p ++ q → t ++ a ≡ p ++ (q ++ a)
two t p q a e = ap (λ t. t ++ a) e ∙ append_assoc p q a

three : (t p q r a : List ℕ) → t ≡ p ++ (q ++ r) → t ++ a ≡ p ++ (q ++ (r ++ a))
three t p q r a e = two t p (q ++ r) a e ∙ ap (λ x. p ++ x) (append_assoc q r a)

four : (t p q r s a : List ℕ) → t ≡ p ++ (q ++ (r ++ s)) → t ++ a ≡ p ++ (q ++ (r ++ (s ++ a)))
four t p q r s a e = three t p q (r ++ s) a e ∙ ap (λ x. p ++ (q ++ x)) (append_assoc r s a)

five : (t p q r s u a : List ℕ) → t ≡ p ++ (q ++ (r ++ (s ++ u))) → t ++ a ≡ p ++ (q ++ (r ++ (s ++ (u ++ a))))
five t p q r s u a e = four t p q r (s ++ u) a e ∙ ap (λ x. p ++ (q ++ (r ++ x))) (append_assoc s u a)

six : (t p q r s u v a : List ℕ) → t ≡ p ++ (q ++ (r ++ (s ++ (u ++ v)))) → t ++ a ≡ p ++ (q ++ (r ++ (s ++ (u ++ (v ++ a)))))
six t p q r s u v a e = five t p q r s (u ++ v) a e ∙ ap (λ x. p ++ (q ++ (r ++ (s ++ x)))) (append_assoc u v a)

seven : (t p q r s u v w a : List ℕ) → t ≡ p ++ (q ++ (r ++ (s ++ (u ++ (v ++ w))))) → t ++ a ≡ p ++ (q ++ (r ++ (s ++ (u ++ (v ++ (w ++ a))))))
seven t p q r s u v w a e = six t p q r s u (v ++ w) a e ∙ ap (λ x. p ++ (q ++ (r ++ (s ++ (u ++ x))))) (append_assoc v w a)

flat_more : {X : Type 0} (f : X → List ℕ) (xs : List X) (x : X) → flat_map f (xs ++ x ∷ []) ≡ flat_map f xs ++ f x
flat_more f [] x = append-nil (f x)
flat_more f (y ∷ ys) x = ap (λ t. f y ++ t) (flat_more f ys x) ∙ sym (append_assoc (f y) (flat_map f ys) (f x))

each_more : {X : Type 0} (P : X → Type 0) (xs : List X) (x : X) → Each P xs → P x → Each P (xs ++ x ∷ [])
each_more P [] x h p = (p, tt)
each_more P (y ∷ ys) x h p = (h.0, each_more P ys x h.1 p)

state_more : (ss : List Seen) (xs : List (List Bool)) (s : Seen) → length ss ≡ length xs → woven (ss ++ s ∷ []) xs ≡ woven ss xs ++ state_text s
state_more [] [] s e = append-nil (state_text s)
state_more [] (x ∷ xs) s e = absurd (omega (arith, e))
state_more (t ∷ ss) [] s e = absurd (omega (arith, e))
state_more (t ∷ ss) (x ∷ xs) s e =
    ap (λ r. state_text t ++ (input_text x ++ r)) (state_more ss xs s (omega (arith, e)))
    ∙ sym (three (woven (t ∷ ss) (x ∷ xs)) (state_text t) (input_text x) (woven ss xs) (state_text s) refl)

input_more : (ss : List Seen) (xs : List (List Bool)) (x : List Bool) → length ss ≡ length xs + 1 → woven ss (xs ++ x ∷ []) ≡ woven ss xs ++ input_text x
input_more [] xs x e = absurd (omega (arith, e))
input_more (s ∷ []) [] x e = ap (λ r. state_text s ++ r) (append-nil (input_text x)) ∙ ap (λ r. r ++ input_text x) (sym (append-nil (state_text s)))
input_more (s ∷ t ∷ ss) [] x e = absurd (omega (arith, e))
input_more (s ∷ ss) (y ∷ xs) x e =
    ap (λ r. state_text s ++ (input_text y ++ r)) (input_more ss xs x (omega (arith, e)))
    ∙ sym (three (woven (s ∷ ss) (y ∷ xs)) (state_text s) (input_text y) (woven ss xs) (input_text x) refl)

-- the trace by turns is the trace by places
woven_moves : (s : Seen) (ss : List Seen) (xs : List (List Bool)) → length ss ≡ length xs → woven (s ∷ ss) xs ≡ state_text s ++ moves_text xs ss
woven_moves s [] [] e = refl
woven_moves s [] (x ∷ xs) e = absurd (omega (arith, e))
woven_moves s (t ∷ ss) [] e = absurd (omega (arith, e))
woven_moves s (t ∷ ss) (x ∷ xs) e =
    ap (λ r. state_text s ++ r) (ap (λ r. input_text x ++ r) (woven_moves t ss xs (omega (arith, e)))
    ∙ sym (append_assoc (input_text x) (state_text t) (moves_text xs ss)))

trace_is_woven : (r : Report) → length r.states ≡ length r.inputs + 1 → trace_text r ≡ trace_line (length r.inputs) ++ woven (seens r.states r.free) r.inputs
trace_is_woven r e =
    let f : FirstSeen r = first_seen r e in
    trace_is_moves r f
    ∙ ap (λ (t : List ℕ). trace_line (length r.inputs) ++ t)
    (sym (woven_moves f.first f.others r.inputs f.long) ∙ ap (λ (ss : List Seen). woven ss r.inputs) (sym f.are))

-- ---- a line at each place

-- what fits behind a line
abbrev Next : Reached → List ℕ → List ℕ → Type 0
Next reached text a = Fits reached.0 reached.1 (text ++ line a)

if_so : (b : Bool) (x y : Reached) → cond {A = Option Reached} b (Some x) None ≡ Some y → (b ≡ true) × (x ≡ y)
if_so true x y e = (refl, cc)
if_so false x y e = cc

at_title : (r : Report) (text a : List ℕ) (y : Reached) → Fits places.Title r text → taken places.Title r a ≡ Some y → Next y text a
at_title r text a y h e =
    let m = unmap (λ (depth : ℕ). (places.Asked, record r { depth = depth })) (depth_in a) y e in
    let gives : Some (places.Asked, record r { depth = m.value }) ≡ Some y = m.gives in
    let same : (places.Asked, record r { depth = m.value }) ≡ y = cc in
    let d = depth_is a m.value m.is in
    subst (λ (y : Reached). Next y text a) same
    (ap (λ (r : Report). record r { depth = m.value }) h.0, d.0, ap (λ t. t ++ line a) h.1 ∙ ap line d.1)

at_asked : (r : Report) (text a : List ℕ) (y : Reached) → Fits places.Asked r text → taken places.Asked r a ≡ Some y → Next y text a
at_asked r text a y h e =
    let m = unmap (λ (budgets : Budgets). (places.Turn, record r { budgets = budgets })) (budgets_in a) y e in
    let gives : Some (places.Turn, record r { budgets = m.value }) ≡ Some y = m.gives in
    let same : (places.Turn, record r { budgets = m.value }) ≡ y = cc in
    let b = budgets_are a m.value m.is in
    let is_text : text ++ line a ≡ title_line r.depth ++ (budgets_text m.value ++ []) =
    ap (λ t. t ++ line a) h.2
    ∙ (ap (λ t. title_line r.depth ++ line t) b.spells ∙ ap (λ t. title_line r.depth ++ t) (sym (append-nil (budgets_text m.value)))) in
    subst (λ (y : Reached). Next y text a) same
    (subst (λ (q : Report). HasHead (record q { budgets = m.value }) × NoTail (record q { budgets = m.value })
    × (text ++ line a ≡ top (record q { budgets = m.value }))) (sym h.0)
    ((
      record {
        budgets = record {
          spells = refl;
          some_steps = b.some_steps;
          max_steps = b.max_steps;
          some_candidates = b.some_candidates;
          max_candidates = b.max_candidates;
          some_conflicts = b.some_conflicts;
          max_conflicts = b.max_conflicts;
        };
        depth = h.1;
        steps = tt;
        few = omega arith;
      },
      record { states = refl; inputs = refl; free = refl; log = refl },
      is_text,
    )))

begins_is : (number : ℕ) (o : Option ℕ) → begins number o ≡ true → o ≡ Some number
begins_is number None e = absurd (false≢true e)
begins_is number (Some n) e = ap Some (eqb-true n number e)

at_turn : (r : Report) (text a : List ℕ) (y : Reached) → Fits places.Turn r text → taken places.Turn r a ≡ Some y → Next y text a
unfolding head_text
at_turn r text a y h e = by (stop_in a) refl e
  where
    by : (o : Option Stop) → stop_in a ≡ o → turned r a o ≡ Some y → Next y text a
    by None s e =
        let z = if_so (begins (length r.steps + 1) (count_in (codes "step") a)) (places.Present, r) y e in
        let c = count_is (codes "step") a (length r.steps + 1) (begins_is (length r.steps + 1) (count_in (codes "step") a) z.0) in
        subst (λ (y : Reached). Next y text a) z.1 (record { head = h.0; tail = h.1; counted = c.1 }, ap (λ t. t ++ line a) h.2 ∙ ap (λ t. top r ++ line t) c.0)
    by (Some stop) s e =
        let same : (places.Trace, record r { stop = stop }) ≡ y = cc in
        let spells : a ≡ codes "stop " ++ stop_word stop = stop_is a stop s in
        let is_text : text ++ line a ≡ head_text (record r { stop = stop }) =
        three text (title_line r.depth) (budgets_text r.budgets) (steps_text r.depth 1 r.steps) (line a) h.2
        ∙ ap (λ t. title_line r.depth ++ (budgets_text r.budgets ++ (steps_text r.depth 1 r.steps ++ line t))) spells in
        subst (λ (y : Reached). Next y text a) same (
          record { budgets = h.0.budgets; depth = h.0.depth; steps = h.0.steps; few = h.0.few },
          record {
            states = h.1.states;
            inputs = h.1.inputs;
            free = h.1.free;
            log = h.1.log;
          },
          is_text,
        )

at_present : (r : Report) (text a : List ℕ) (y : Reached) → Fits places.Present r text → taken places.Present r a ≡ Some y → Next y text a
at_present r text a y h e =
    let m = unmap (λ (place : NextLine). (place, r)) (option_map (λ (s : Seen). places.Stored s) (seen_in (codes "present") a)) y e in
    let k = unmap (λ (s : Seen). places.Stored s) (seen_in (codes "present") a) m.value m.is in
    let gives : Some (m.value, r) ≡ Some y = m.gives in
    let gives_place : Some (places.Stored k.value) ≡ Some m.value = k.gives in
    let place : places.Stored k.value ≡ m.value = cc in
    let reached : (m.value, r) ≡ y = cc in
    let same : (places.Stored k.value, r) ≡ y = ap (λ (p : NextLine). (p, r)) place ∙ reached in
    let l = seen_line_is (codes "present") a k.value k.is in
    subst (λ (y : Reached). Next y text a) same
    (h.0, l.0, two text (top r) (step_line r) (line a) h.1 ∙ ap (λ t. top r ++ (step_line r ++ line t)) l.1)

at_stored : (p : Seen) (r : Report) (text a : List ℕ) (y : Reached) → Fits (places.Stored p) r text → taken (places.Stored p) r a ≡ Some y → Next y text a
at_stored p r text a y h e =
    let m = unmap (λ (place : NextLine). (place, r)) (option_map (λ (s : List Bool). behind_stored r.depth p s) (bits_in (codes "stored") a)) y e in
    let k = unmap (λ (s : List Bool). behind_stored r.depth p s) (bits_in (codes "stored") a) m.value m.is in
    let gives : Some (m.value, r) ≡ Some y = m.gives in
    let gives_place : Some (behind_stored r.depth p k.value) ≡ Some m.value = k.gives in
    let place : behind_stored r.depth p k.value ≡ m.value = cc in
    let reached : (m.value, r) ≡ y = cc in
    let same : (behind_stored r.depth p k.value, r) ≡ y = ap (λ (p : NextLine). (p, r)) place ∙ reached in
    let is_text : text ++ line a ≡ top r ++ (step_line r ++ (present_line p ++ stored_line k.value)) =
    three text (top r) (step_line r) (present_line p) (line a) h.2
    ∙ ap (λ t. top r ++ (step_line r ++ (present_line p ++ line t))) (bits_line_is (codes "stored") a k.value k.is) in
    subst (λ (y : Reached). Next y text a) same (by (r.depth == 1) refl k.value is_text)
  where
    by : (one : Bool) → (r.depth == 1) ≡ one → (s : List Bool) → text ++ line a ≡ top r ++ (step_line r ++ (present_line p ++ stored_line s)) →
        Fits (cond one (places.Listing (begun p s None) []) (places.Older p s)) r (text ++ line a)
    by true z s t =
        let no_older : [] ≡ older_text r.depth None =
        ap (λ (b : Bool). cond {A = List ℕ} b [] (line (codes "older " ++ signature_text None))) (sym z) in (
          h.0,
          record { present = h.1; older = λ _. refl; befores = tt },
          t ∙ ap (λ t. top r ++ (step_line r ++ (present_line p ++ t)))
              (sym (append-nil (stored_line s)) ∙ ap (λ t. stored_line s ++ t) (no_older ∙ sym (append-nil (older_text r.depth None)))),
        )
    by false z s t = (h.0, h.1, z, t)

at_older : (p : Seen) (s : List Bool) (r : Report) (text a : List ℕ) (y : Reached) → Fits (places.Older p s) r text → taken (places.Older p s) r a ≡ Some y →
    Next y text a
at_older p s r text a y h e =
    let m = unmap (λ (place : NextLine). (place, r))
    (option_map (λ (older : Option (List Bool)). places.Listing (begun p s older) []) (older_in a)) y e in
    let k = unmap (λ (older : Option (List Bool)). places.Listing (begun p s older) []) (older_in a) m.value m.is in
    let gives : Some (m.value, r) ≡ Some y = m.gives in
    let gives_place : Some (places.Listing (begun p s k.value) []) ≡ Some m.value = k.gives in
    let place : places.Listing (begun p s k.value) [] ≡ m.value = cc in
    let reached : (m.value, r) ≡ y = cc in
    let same : (places.Listing (begun p s k.value) [], r) ≡ y = ap (λ (p : NextLine). (p, r)) place ∙ reached in
    let older : line a ≡ older_text r.depth k.value =
    ap line (older_is a k.value k.is) ∙ ap (λ (b : Bool). cond {A = List ℕ} b [] (line (codes "older " ++ signature_text k.value))) (sym h.2) in
    let no_cands : line a ≡ older_text r.depth k.value ++ [] = older ∙ sym (append-nil (older_text r.depth k.value)) in
    subst (λ (y : Reached). Next y text a) same (
      h.0,
      record { present = h.1; older = λ one. absurd (eqb-false r.depth 1 h.2 one); befores = tt },
      four text (top r) (step_line r) (present_line p) (stored_line s) (line a) h.3
          ∙ ap (λ t. top r ++ (step_line r ++ (present_line p ++ (stored_line s ++ t)))) no_cands,
    )

at_listing : (b : PartialStep) (cands : List Cand) (r : Report) (text a : List ℕ) (y : Reached) → Fits (places.Listing b cands) r text →
    taken (places.Listing b cands) r a ≡ Some y → Next y text a
at_listing b cands r text a y h e = by (cand_in r.depth a) refl e
  where
    by : (o : Option Cand) → cand_in r.depth a ≡ o → option_map (λ (place : NextLine). (place, r)) (more_listed b cands a o) ≡ Some y → Next y text a
    by None c e =
        let m = unmap (λ (place : NextLine). (place, r)) (option_map (λ (ended : ListEnd). places.Hit b cands ended) (end_in a)) y e in
        let k = unmap (λ (ended : ListEnd). places.Hit b cands ended) (end_in a) m.value m.is in
        let gives : Some (m.value, r) ≡ Some y = m.gives in
        let gives_place : Some (places.Hit b cands k.value) ≡ Some m.value = k.gives in
        let place : places.Hit b cands k.value ≡ m.value = cc in
        let reached : (m.value, r) ≡ y = cc in
        let same : (places.Hit b cands k.value, r) ≡ y = ap (λ (p : NextLine). (p, r)) place ∙ reached in
        let l = end_is a k.value k.is in
        subst (λ (y : Reached). Next y text a) same (
          h.0,
          h.1,
          l.0,
          six text (top r) (step_line r) (present_line b.present) (stored_line b.stored) (older_text r.depth b.older) (flat_map cand_text cands) (line a) h.2
              ∙ ap (λ t. top r ++ (step_line r ++ (present_line b.present
              ++ (stored_line b.stored ++ (older_text r.depth b.older ++ (flat_map cand_text cands ++ line t)))))) l.1,
        )
    by (Some cand) c e =
        let same : (places.Listing b (cands ++ cand ∷ []), r) ≡ y = cc in
        let l = cand_is r.depth a cand c in
        subst (λ (y : Reached). Next y text a) same (
          h.0,
          record { present = h.1.present; older = h.1.older; befores = each_more (λ cand. IsOfDepth r.depth cand.before) cands cand h.1.befores l.0 },
          six text (top r) (step_line r) (present_line b.present) (stored_line b.stored) (older_text r.depth b.older) (flat_map cand_text cands) (line a) h.2
              ∙ ap (λ t. top r ++ (step_line r ++ (present_line b.present ++ (stored_line b.stored ++ (older_text r.depth b.older ++ t)))))
              (ap (λ t. flat_map cand_text cands ++ line t) l.1 ∙ sym (flat_more cand_text cands cand)),
        )

at_hit : (b : PartialStep) (cands : List Cand) (e : ListEnd) (r : Report) (text a : List ℕ) (y : Reached) → Fits (places.Hit b cands e) r text →
    taken (places.Hit b cands e) r a ≡ Some y → Next y text a
at_hit b cands e r text a y h t =
    let m = unmap (λ (hit : Option HitLine). (places.Turn, with_step r b cands e hit)) (hit_in a) y t in
    let gives : Some (places.Turn, with_step r b cands e m.value) ≡ Some y = m.gives in
    let same : (places.Turn, with_step r b cands e m.value) ≡ y = cc in
    let l = hit_is a m.value m.is in
    let step : Step = step_of b cands e m.value in
    let place : 1 + length r.steps ≡ length r.steps + 1 = omega arith in
    let steps : steps_text r.depth 1 (r.steps ++ step ∷ []) ≡ steps_text r.depth 1 r.steps ++ step_text r.depth (length r.steps + 1) step =
    steps_text_append r.depth 1 r.steps step ∙ ap (λ (n : ℕ). steps_text r.depth 1 r.steps ++ step_text r.depth n step) place in
    let is_text : text ++ line a ≡ top r ++ step_text r.depth (length r.steps + 1) step =
    seven text (top r) (step_line r) (present_line b.present) (stored_line b.stored) (older_text r.depth b.older) (flat_map cand_text cands)
    (list_line e) (line a) h.3
    ∙ ap (λ t. top r ++ (step_line r ++ (present_line b.present
    ++ (stored_line b.stored ++ (older_text r.depth b.older ++ (flat_map cand_text cands ++ (list_line e ++ t))))))) l.1 in
    let in_top : top r ++ step_text r.depth (length r.steps + 1) step ≡ top (with_step r b cands e m.value) =
    three (top r) (title_line r.depth) (budgets_text r.budgets) (steps_text r.depth 1 r.steps) (step_text r.depth (length r.steps + 1) step) refl
    ∙ ap (λ t. title_line r.depth ++ (budgets_text r.budgets ++ t)) (sym steps) in
    subst (λ (y : Reached). Next y text a) same (
      record {
        budgets = h.0.head.budgets;
        depth = h.0.head.depth;
        steps =
            each_more (HasStepText r.depth) r.steps step h.0.head.steps (record {
              present = h.1.present;
              older = h.1.older;
              befores = All-from_recursion (λ cand. IsOfDepth r.depth cand.before) cands h.1.befores;
              list = h.2;
              hit = l.0;
            });
        few = let more : length (r.steps ++ step ∷ []) ≡ length r.steps + 1 = length-append r.steps (step ∷ []) in omega (arith, more, h.0.counted);
      },
      record { states = h.0.tail.states; inputs = h.0.tail.inputs; free = h.0.tail.free; log = h.0.tail.log },
      is_text ∙ in_top,
    )

at_trace : (r : Report) (text a : List ℕ) (y : Reached) → Fits places.Trace r text → taken places.Trace r a ≡ Some y → Next y text a
at_trace r text a y h e =
    let m = unmap (λ (place : NextLine). (place, r)) (option_map (λ (n : ℕ). places.State n) (count_in (codes "trace") a)) y e in
    let k = unmap (λ (n : ℕ). places.State n) (count_in (codes "trace") a) m.value m.is in
    let gives : Some (m.value, r) ≡ Some y = m.gives in
    let gives_place : Some (places.State k.value) ≡ Some m.value = k.gives in
    let place : places.State k.value ≡ m.value = cc in
    let reached : (m.value, r) ≡ y = cc in
    let same : (places.State k.value, r) ≡ y = ap (λ (p : NextLine). (p, r)) place ∙ reached in
    let c = count_is (codes "trace") a k.value k.is in
    let none : length r.inputs ≡ 0 = ap length h.1.inputs in
    let nothing : woven (wholes r.states) r.inputs ≡ [] = ap (λ (ss : List (List Bool)). woven (wholes ss) r.inputs) h.1.states in
    let count : k.value ≡ length r.inputs + k.value = omega (arith, none) in
    subst (λ (y : Reached). Next y text a) same (
      record { head = h.0; free = h.1.free; log = h.1.log; small = omega (arith, none, c.1) },
      ap length h.1.states ∙ sym none,
      ap (λ t. t ++ line a) h.2
          ∙ (ap (λ t. head_text r ++ line t) c.0
          ∙ (ap (λ (n : ℕ). head_text r ++ trace_line n) count
          ∙ ap (λ t. head_text r ++ t) (sym (append-nil (trace_line (length r.inputs + k.value)))
          ∙ ap (λ t. trace_line (length r.inputs + k.value) ++ t) (sym nothing)))),
    )

-- what is seen, and that it may stand where it does
stood : (left : ℕ) (o : Option Seen) (s : Seen) → standing left o ≡ Some s → (o ≡ Some s) × (may_stand left s ≡ true)
stood left None s e = cc
stood left (Some t) s e = by (may_stand left t) refl e
  where
    by : (b : Bool) → may_stand left t ≡ b → cond {A = Option Seen} b (Some t) None ≡ Some s → (Some t ≡ Some s) × (may_stand left s ≡ true)
    by true m e = let same : t ≡ s = cc in (e, ap (may_stand left) (sym same) ∙ m)
    by false m e = cc

-- where inputs are left all is known
known_there : (left : ℕ) (s : Seen) → may_stand left s ≡ true → (left == 0) ≡ false → s.free ≡ []
known_there left s m z = by (length s.free == 0) refl (left == 0) z m
  where
    by : (a : Bool) → (length s.free == 0) ≡ a → (b : Bool) → b ≡ false → (a || b) ≡ true → s.free ≡ []
    by true e b z m = nil_from_length s.free (eqb-true (length s.free) 0 e)
    by false e true z m = cc
    by false e false z m = cc

at_state : (left : ℕ) (r : Report) (text a : List ℕ) (y : Reached) → Fits (places.State left) r text → taken (places.State left) r a ≡ Some y → Next y text a
unfolding head_text
at_state left r text a y h e =
    let m = unmap (λ (s : Seen). (behind_state left, with_state r s)) (state_in left a) y e in
    let o = stood left (seen_in (codes "state") a) m.value m.is in
    let l = seen_line_is (codes "state") a m.value o.0 in
    let gives : Some (behind_state left, with_state r m.value) ≡ Some y = m.gives in
    let same : (behind_state left, with_state r m.value) ≡ y = cc in
    let more : length (r.states ++ m.value.bits ∷ []) ≡ length r.inputs + 1 = length-append r.states (m.value.bits ∷ []) ∙ ap (λ (n : ℕ). n + 1) h.1 in
    let is_text : text ++ line a ≡ head_text r ++ (trace_line (length r.inputs + left) ++ woven (wholes r.states ++ m.value ∷ []) r.inputs) =
    three text (head_text r) (trace_line (length r.inputs + left)) (woven (wholes r.states) r.inputs) (line a) h.2
    ∙ ap (λ t. head_text r ++ (trace_line (length r.inputs + left) ++ t))
    (ap (λ t. woven (wholes r.states) r.inputs ++ line t) l.1 ∙ sym (state_more (wholes r.states) r.inputs m.value (length_wholes r.states ∙ h.1))) in
    subst (λ (y : Reached). Next y text a) same (by (left == 0) refl m.value l.0 o.1 more is_text)
  where
    by : (b : Bool) → (left == 0) ≡ b → (s : Seen) → IsSeen s → may_stand left s ≡ true →
        length (r.states ++ s.bits ∷ []) ≡ length r.inputs + 1 →
        text ++ line a ≡ head_text r ++ (trace_line (length r.inputs + left) ++ woven (wholes r.states ++ s ∷ []) r.inputs) →
        Fits (cond b places.Log (places.Input left)) (with_state r s) (text ++ line a)
    by true z s sound may more t =
        let none : left ≡ 0 = eqb-true left 0 z in
        let count : length r.inputs + left ≡ length r.inputs = omega (arith, none) in
        let here : get_or (r.states ++ s.bits ∷ []) (length r.inputs) [] ≡ s.bits = get_or_at r.states s.bits [] [] (length r.inputs) h.1 in
        let last : s ≡ state_at (with_state r s) (length r.inputs) = last_state (with_state r s) (length r.inputs) s.bits refl (sym here) in (
          record {
            head = record { budgets = h.0.head.budgets; depth = h.0.head.depth; steps = h.0.head.steps; few = h.0.head.few };
            small = omega (arith, none, h.0.small);
            more = more;
            last = subst IsSeen last sound;
          },
          h.0.log,
          t
              ∙ (ap (λ (n : ℕ). head_text r ++ (trace_line n ++ woven (wholes r.states ++ s ∷ []) r.inputs)) count
              ∙ ap (λ (ss : List Seen). head_text r ++ (trace_line (length r.inputs) ++ woven ss r.inputs)) (sym (seens_push r.states s))),
        )
    by false z s sound may more t =
        let some : left ≡ 0 → ⊥ = eqb-false left 0 z in
        let known : s.free ≡ [] = known_there left s may z in (
          record {
            head = record { budgets = h.0.head.budgets; depth = h.0.head.depth; steps = h.0.head.steps; few = h.0.head.few };
            free = known;
            log = h.0.log;
            small = h.0.small;
          },
          more,
          omega (arith, some),
          t
              ∙ ap (λ (ss : List Seen). head_text r ++ (trace_line (length r.inputs + left) ++ woven ss r.inputs)) (sym (wholes_push r.states s known)),
        )

at_input : (left : ℕ) (r : Report) (text a : List ℕ) (y : Reached) → Fits (places.Input left) r text → taken (places.Input left) r a ≡ Some y → Next y text a
unfolding head_text
at_input left r text a y h e =
    let m = unmap (λ (x : List Bool). (places.State (left - 1), record r { inputs = r.inputs ++ x ∷ [] })) (bits_in (codes "input") a) y e in
    let after : Report = record r { inputs = r.inputs ++ m.value ∷ [] } in
    let gives : Some (places.State (left - 1), after) ≡ Some y = m.gives in
    let same : (places.State (left - 1), after) ≡ y = cc in
    let more : length (r.inputs ++ m.value ∷ []) ≡ length r.inputs + 1 = length-append r.inputs (m.value ∷ []) in
    let count : length r.inputs + left ≡ length (r.inputs ++ m.value ∷ []) + (left - 1) = omega (arith, more, h.2) in
    subst (λ (y : Reached). Next y text a) same (
      record {
        head = record { budgets = h.0.head.budgets; depth = h.0.head.depth; steps = h.0.head.steps; few = h.0.head.few };
        free = h.0.free;
        log = h.0.log;
        small =
            omega (arith, h.0.small, count);
      },
      h.1 ∙ sym more,
      three text (head_text r) (trace_line (length r.inputs + left)) (woven (wholes r.states) r.inputs) (line a) h.3
          ∙ (ap (λ t. head_text r ++ (trace_line (length r.inputs + left) ++ t))
          (ap (λ t. woven (wholes r.states) r.inputs ++ line t) (bits_line_is (codes "input") a m.value m.is) ∙ sym (input_more (wholes r.states) r.inputs m.value (length_wholes r.states ∙ h.1)))
          ∙ ap (λ (n : ℕ). head_text r ++ (trace_line n ++ woven (wholes r.states) (r.inputs ++ m.value ∷ []))) count),
    )

-- behind the trace, where so many log lines are left
lines_left : (left : ℕ) (r : Report) (text : List ℕ) → BehindTrace r → Each HasText r.log → length r.log + left < 2 ^ 64 →
    text ≡ head_text r ++ (trace_line (length r.inputs) ++ (woven (seens r.states r.free) r.inputs ++ (log_line (length r.log + left) ++ lines_text r.log))) →
    Fits (log_place left) r text
lines_left left r text b each small t = by (left == 0) refl
  where
    by : (z : Bool) → (left == 0) ≡ z → Fits (cond z places.End (places.Lines left)) r text
    by true z =
        let none : left ≡ 0 = eqb-true left 0 z in
        let count : length r.log + left ≡ length r.log = omega (arith, none) in (
          b,
          each,
          omega (arith, small, none),
          t
              ∙ ap (λ (n : ℕ). head_text r ++ (trace_line (length r.inputs) ++ (woven (seens r.states r.free) r.inputs ++ (log_line n ++ lines_text r.log)))) count,
        )
    by false z = let some : left ≡ 0 → ⊥ = eqb-false left 0 z in (b, each, small, omega (arith, some), t)

at_log : (r : Report) (text a : List ℕ) (y : Reached) → Fits places.Log r text → taken places.Log r a ≡ Some y → Next y text a
at_log r text a y h e =
    let m = unmap (λ (place : NextLine). (place, r)) (option_map (λ (n : ℕ). log_place n) (count_in (codes "log") a)) y e in
    let k = unmap (λ (n : ℕ). log_place n) (count_in (codes "log") a) m.value m.is in
    let gives : Some (m.value, r) ≡ Some y = m.gives in
    let gives_place : Some (log_place k.value) ≡ Some m.value = k.gives in
    let place : log_place k.value ≡ m.value = cc in
    let reached : (m.value, r) ≡ y = cc in
    let same : (log_place k.value, r) ≡ y = ap (λ (p : NextLine). (p, r)) place ∙ reached in
    let c = count_is (codes "log") a k.value k.is in
    let none : length r.log ≡ 0 = ap length h.1 in
    let nothing : lines_text r.log ≡ [] = ap lines_text h.1 in
    let count : k.value ≡ length r.log + k.value = omega (arith, none) in
    subst (λ (y : Reached). Next y text a) same
    (lines_left k.value r (text ++ line a) h.0 (subst (λ (log : List Line). Each HasText log) (sym h.1) tt) (omega (arith, none, c.1))
    (three text (head_text r) (trace_line (length r.inputs)) (woven (seens r.states r.free) r.inputs) (line a) h.2
    ∙ (ap (λ t. head_text r ++ (trace_line (length r.inputs) ++ (woven (seens r.states r.free) r.inputs ++ line t))) c.0
    ∙ (ap (λ (n : ℕ). head_text r ++ (trace_line (length r.inputs) ++ (woven (seens r.states r.free) r.inputs ++ log_line n))) count
    ∙ ap (λ t. head_text r ++ (trace_line (length r.inputs) ++ (woven (seens r.states r.free) r.inputs ++ t)))
    (sym (append-nil (log_line (length r.log + k.value))) ∙ ap (λ t. log_line (length r.log + k.value) ++ t) (sym nothing))))))

at_lines : (left : ℕ) (r : Report) (text a : List ℕ) (y : Reached) → Fits (places.Lines left) r text → taken (places.Lines left) r a ≡ Some y → Next y text a
unfolding head_text
at_lines left r text a y h e =
    let m = unmap (λ (l : Line). (log_place (left - 1), record r { log = r.log ++ l ∷ [] })) (line_in a) y e in
    let after : Report = record r { log = r.log ++ m.value ∷ [] } in
    let gives : Some (log_place (left - 1), after) ≡ Some y = m.gives in
    let same : (log_place (left - 1), after) ≡ y = cc in
    let l = log_line_is a m.value m.is in
    let more : length (r.log ++ m.value ∷ []) ≡ length r.log + 1 = length-append r.log (m.value ∷ []) in
    let count : length r.log + left ≡ length (r.log ++ m.value ∷ []) + (left - 1) = omega (arith, more, h.3) in
    subst (λ (y : Reached). Next y text a) same
    (lines_left (left - 1) after (text ++ line a)
    (record {
      head = record { budgets = h.0.head.budgets; depth = h.0.head.depth; steps = h.0.head.steps; few = h.0.head.few };
      small = h.0.small;
      more = h.0.more;
      last = h.0.last;
    })
    (each_more HasText r.log m.value h.1 l.0) (omega (arith, count, h.2))
    (five text (head_text r) (trace_line (length r.inputs)) (woven (seens r.states r.free) r.inputs) (log_line (length r.log + left)) (lines_text r.log) (line a) h.4
    ∙ (ap (λ t. head_text r ++ (trace_line (length r.inputs) ++ (woven (seens r.states r.free) r.inputs ++ (log_line (length r.log + left) ++ t))))
    (ap (λ t. lines_text r.log ++ line t) (sym l.1) ∙ sym (flat_more (λ (l : Line). line (line_text l)) r.log m.value))
    ∙ ap (λ (n : ℕ). head_text r ++ (trace_line (length r.inputs) ++ (woven (seens r.states r.free) r.inputs ++ (log_line n ++ lines_text (r.log ++ m.value ∷ []))))) count)))

at_end : (r : Report) (text a : List ℕ) (y : Reached) → Fits places.End r text → taken places.End r a ≡ Some y → Next y text a
at_end r text a y h e =
    let z = if_so (bytes_eq a (codes "end")) (places.Done, r) y e in
    subst (λ (y : Reached). Next y text a) z.1 (
      h.0,
      h.1,
      h.2,
      five text (head_text r) (trace_line (length r.inputs)) (woven (seens r.states r.free) r.inputs) (log_line (length r.log)) (lines_text r.log) (line a) h.3
          ∙ ap (λ t. head_text r ++ (trace_line (length r.inputs) ++ (woven (seens r.states r.free) r.inputs ++ (log_line (length r.log) ++ (lines_text r.log ++ line t)))))
          (same_text a (codes "end") z.0),
    )

pub line_fits : (place : NextLine) (r : Report) (text a : List ℕ) (y : Reached) → Fits place r text → taken place r a ≡ Some y → Next y text a
line_fits places.Title r text a y h e = at_title r text a y h e
line_fits places.Asked r text a y h e = at_asked r text a y h e
line_fits places.Turn r text a y h e = at_turn r text a y h e
line_fits places.Present r text a y h e = at_present r text a y h e
line_fits (places.Stored p) r text a y h e = at_stored p r text a y h e
line_fits (places.Older p s) r text a y h e = at_older p s r text a y h e
line_fits (places.Listing b cands) r text a y h e = at_listing b cands r text a y h e
line_fits (places.Hit b cands l) r text a y h e = at_hit b cands l r text a y h e
line_fits places.Trace r text a y h e = at_trace r text a y h e
line_fits (places.State left) r text a y h e = at_state left r text a y h e
line_fits (places.Input left) r text a y h e = at_input left r text a y h e
line_fits places.Log r text a y h e = at_log r text a y h e
line_fits (places.Lines left) r text a y h e = at_lines left r text a y h e
line_fits places.End r text a y h e = at_end r text a y h e
line_fits places.Done r text a y h e = cc

-- ---- all lines

-- a text from its pieces
abbrev pub glued : List (List ℕ) → List ℕ
glued [] = []
glued (rest ∷ []) = rest
glued (p ∷ q ∷ ps) = line p ++ glued (q ∷ ps)

glue_onto : (b : ℕ) (p : List ℕ) (ps : List (List ℕ)) → glued ((b ∷ p) ∷ ps) ≡ b ∷ glued (p ∷ ps)
glue_onto b p [] = refl
glue_onto b p (q ∷ qs) = refl

glue_first : (b : ℕ) (ps : List (List ℕ)) → glued (onto_first b ps) ≡ b ∷ glued ps
glue_first b [] = refl
glue_first b (p ∷ ps) = glue_onto b p ps

glue_empty : (bs : List ℕ) → glued ([] ∷ pieces_of bs) ≡ 10 ∷ glued (pieces_of bs)
glue_empty bs = by (pieces_of bs) (some_piece bs)
  where
    by : (pieces : List (List ℕ)) → ((p : List ℕ) × (ps : List (List ℕ)) × (pieces ≡ p ∷ ps)) → glued ([] ∷ pieces) ≡ 10 ∷ glued pieces
    by [] s = cc
    by (p ∷ ps) s = refl

pub glued_pieces : (bs : List ℕ) → glued (pieces_of bs) ≡ bs
glued_pieces [] = refl
glued_pieces (b ∷ bs) = by (b == 10) refl (glued_pieces bs)
  where
    by : (z : Bool) → (b == 10) ≡ z → glued (pieces_of bs) ≡ bs → glued (cond z ([] ∷ pieces_of bs) (onto_first b (pieces_of bs))) ≡ b ∷ bs
    by true z rest = glue_empty bs ∙ (ap (λ t. 10 ∷ t) rest ∙ ap (λ c. c ∷ bs) (sym (eqb-true b 10 z)))
    by false z rest = glue_first b (pieces_of bs) ∙ ap (λ t. b ∷ t) rest

pub done_is : (place : NextLine) → is_done place ≡ true → place ≡ places.Done
done_is places.Title e = absurd (false≢true e)
done_is places.Asked e = absurd (false≢true e)
done_is places.Turn e = absurd (false≢true e)
done_is places.Present e = absurd (false≢true e)
done_is (places.Stored p) e = absurd (false≢true e)
done_is (places.Older p s) e = absurd (false≢true e)
done_is (places.Listing b cands) e = absurd (false≢true e)
done_is (places.Hit b cands l) e = absurd (false≢true e)
done_is places.Trace e = absurd (false≢true e)
done_is (places.State left) e = absurd (false≢true e)
done_is (places.Input left) e = absurd (false≢true e)
done_is places.Log e = absurd (false≢true e)
done_is (places.Lines left) e = absurd (false≢true e)
done_is places.End e = absurd (false≢true e)
done_is places.Done e = refl

at_text_end : (place : NextLine) (r : Report) (text rest : List ℕ) (all : Report) → Fits place r text → ended place r rest ≡ Ok all →
    Fits places.Done all (text ++ rest)
at_text_end place r text rest all h e = by (is_done place) refl (length rest == 0) refl e
  where
    by : (d : Bool) → is_done place ≡ d → (n : Bool) → (length rest == 0) ≡ n →
        cond {A = Result Report ReportFault} d (cond {A = Result Report ReportFault} n (Ok r) (Err extra)) (Err short) ≡ Ok all →
        Fits places.Done all (text ++ rest)
    by true d true n e =
        let same : r ≡ all = cc in
        let no_rest : text ++ rest ≡ text = ap (λ t. text ++ t) (nothing_left rest n) ∙ append-nil text in
        subst (λ (t : List ℕ). Fits places.Done all t) (sym no_rest)
        (subst (λ (all : Report). Fits places.Done all text) same (subst (λ (p : NextLine). Fits p r text) (done_is place d) h))
    by true d false n e = cc
    by false d n nn e = cc

pieces_fit : (pieces : List (List ℕ)) (n : ℕ) (place : NextLine) (r : Report) (text : List ℕ) (all : Report) → Fits place r text →
    report_from n place r pieces ≡ Ok all → Fits places.Done all (text ++ glued pieces)
pieces_fit [] n place r text all h e = at_text_end place r text [] all h e
pieces_fit (rest ∷ []) n place r text all h e = at_text_end place r text rest all h e
pieces_fit (a ∷ q ∷ ps) n place r text all h e = by (λ y text h e. pieces_fit (q ∷ ps) (n + 1) y.0 y.1 text all h e) (is_done place) (taken place r a) refl e
  where
    Rest : Type 0
    Rest = (y : Reached) (text : List ℕ) → Fits y.0 y.1 text → report_from (n + 1) y.0 y.1 (q ∷ ps) ≡ Ok all → Fits places.Done all (text ++ glued (q ∷ ps))

    by : Rest → (d : Bool) (o : Option Reached) → taken place r a ≡ o →
        ◌>>=◌ (cond {A = Result Reached ReportFault} d (Err extra) (line_or_fault n o)) (λ (y : Reached). report_from (n + 1) y.0 y.1 (q ∷ ps)) ≡ Ok all →
        Fits places.Done all (text ++ (line a ++ glued (q ∷ ps)))
    by rest true o t e = cc
    by rest false None t e = cc
    by rest false (Some y) t e =
        subst (λ (text : List ℕ). Fits places.Done all text) (append_assoc text (line a) (glued (q ∷ ps)))
        (rest y (text ++ line a) (line_fits place r text a y h t) e)

-- what is read up to the end is a report that has the text
pub done_is_report : (r : Report) (bytes : List ℕ) → Fits places.Done r bytes → HasReportText r × (report_text r ≡ bytes)
unfolding head_text tail_text
done_is_report r bytes h =
    let b = h.0 in
    let trace : trace_text r ≡ trace_line (length r.inputs) ++ woven (seens r.states r.free) r.inputs = trace_is_woven r b.more in
    let tail : tail_text r ≡ trace_line (length r.inputs)
    ++ (woven (seens r.states r.free) r.inputs ++ (log_line (length r.log) ++ (lines_text r.log ++ line (codes "end")))) =
    ap (λ t. t ++ (log_line (length r.log) ++ (lines_text r.log ++ line (codes "end")))) trace
    ∙ append_assoc (trace_line (length r.inputs)) (woven (seens r.states r.free) r.inputs) (log_line (length r.log) ++ (lines_text r.log ++ line (codes "end"))) in (
      record {
        depth = b.head.depth;
        some_steps = b.head.budgets.some_steps;
        max_steps = b.head.budgets.max_steps;
        some_candidates = b.head.budgets.some_candidates;
        max_candidates = b.head.budgets.max_candidates;
        some_conflicts = b.head.budgets.some_conflicts;
        max_conflicts = b.head.budgets.max_conflicts;
        each_step = All-from_recursion (HasStepText r.depth) r.steps b.head.steps;
        few_steps = b.head.few;
        one_state_more = b.more;
        few_inputs = b.small;
        last = b.last;
        each_line = All-from_recursion HasText r.log h.1;
        few_lines = h.2;
      },
      ap (λ t. head_text r ++ t) tail ∙ sym h.3,
    )

pub texts_are_reports : TextsAreReports
unfolding report_in
texts_are_reports bytes r e =
    done_is_report r bytes
    (subst (λ (t : List ℕ). Fits places.Done r t) (glued_pieces bytes) (pieces_fit (pieces_of bytes) 1 places.Title nothing_read [] r (refl, refl) e))
