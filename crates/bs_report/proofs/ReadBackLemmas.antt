-- A report that has a text is read back from it.
use Rattle.std.proofs.Common.{◌≡◌, ℕ, suc, ◌<◌, ◌+◌, ◌-◌, ◌^◌, Bool, true, false, cond, List, [], ◌∷◌, ◌++◌, map, length, get_or, refl, arith, ap, sym, subst}
use Rattle.std.proofs.Common.{◌∙◌, Option, Some, None, append_assoc}
use Rattle.std.specs.Prelude.{◌==◌, codes, decimal, option_map, Err}
use Rattle.std.specs.List.{AllByRecursion as Each, flat_map, range_with_len}
use Rattle.std.proofs.lemmas.Bool.{eq-eqb, eqb-true, ne_eqb}
use Rattle.std.proofs.lemmas.List.{append-nil, length-append}
use Rattle.std.proofs.lemmas.List.Elements.{recursion_from_All}
use Rattle.bs_bits.specs.Text.{bits_text}
use Rattle.bs_bits.specs.Lines.{line, pieces_of}
use Rattle.bs_bits.specs.Reading.{◌>>=◌}
use Rattle.bs_bits.proofs.LineTextLemmas.{Lacks, lacks_append, piece_first, bits_lack, number_lacks}
use Rattle.bs_scan.specs.declared.seen.Seen.{Seen}
use Rattle.bs_scan.specs.Seen.{whole, IsSeen}
use Rattle.bs_scan.specs.SeenText.{seen_text}
use Rattle.bs_scan.proofs.TextLemmas.{seen_lacks}
use Rattle.bs_log.specs.declared.line.Line.{Line}
use Rattle.bs_log.specs.LineForms.{HasText}
use Rattle.bs_log.specs.LineText.{line_text}
use Rattle.bs_log.proofs.RoundTrip.{lines_read_back}
use Rattle.bs_report.specs.declared.fault.ReportFault.{ReportFault}
use Rattle.bs_scan.specs.DumpText.{signature_text}
use Rattle.bs_report.specs.declared.place.PartialStep.{PartialStep}
use Rattle.bs_report.specs.declared.place.NextLine.{NextLine}
use Rattle.bs_report.specs.declared.place.NextLine.TheVariants as places
use Rattle.bs_report.specs.declared.report.Budgets.{Budgets}
use Rattle.bs_report.specs.declared.report.Cand.{Cand}
use Rattle.bs_report.specs.declared.report.HitLine.{HitLine}
use Rattle.bs_report.specs.declared.report.ListEnd.{ListEnd}
use Rattle.bs_report.specs.declared.report.ListEnd.TheVariants.{Finished, Candidates as ByCandidates, Conflicts as ByConflicts}
use Rattle.bs_report.specs.declared.report.Stop.{Stop}
use Rattle.bs_report.specs.declared.report.Stop.TheVariants as stops
use Rattle.bs_report.specs.declared.report.Step.{Step}
use Rattle.bs_report.specs.declared.report.Report.{Report}
use Rattle.bs_report.specs.Reading.{Reached, begins, turned, begun, behind_stored, more_listed, with_step, may_stand, standing, with_state}
use Rattle.bs_report.specs.Reading.{behind_state, log_place, taken, is_done}
use Rattle.bs_report.specs.Reading.{line_or_fault, ended, report_from, nothing_read, report_in}
use Rattle.bs_report.specs.Text.{title, cand_words, cand_text, older_text, end_word, hit_text, step_text, steps_text, stop_word, state_text, state_at, move_text}
use Rattle.bs_report.specs.Text.{trace_text, budgets_text, head_text, tail_text, IsOfDepth, HasEndText, HasHitText, HasStepText, HasReportText}
use Rattle.bs_report.specs.ReadingLaw.{ReportsReadBack}
use Rattle.bs_report.proofs.TraceLemmas.{seens, seens_bits, seens_free, free_of, AreStates, are_states, FirstSeen, first_seen}
use Rattle.bs_report.proofs.FormLemmas.{seen_line_again, words_of_seen}
use Rattle.bs_report.proofs.FormLemmas.{count_again, bits_line_again, budgets_again, title_again, title_lacks, older_again, older_lacks, cand_again}
use Rattle.bs_report.proofs.FormLemmas.{cand_lacks, end_again, hit_again, stop_again, words_of_count, words_of_bits, log_line_lacks}
use Rattle.bs_report.proofs.ReadingLemmas.{line_from}

-- ---- lines one after another

-- reading goes on from one place to another
record Goes (place : NextLine) (r : Report) (text : List ℕ) (next : NextLine) (after : Report) (rest : List ℕ) : Type 0 where
  to : (n : ℕ) → (m : ℕ) × (report_from n place r (pieces_of text) ≡ report_from m next after (pieces_of rest))

stays : (place : NextLine) (r : Report) (text : List ℕ) → Goes place r text place r text
stays place r text = record { to = λ n. (n, refl) }

on : {place next last : NextLine} {r after end : Report} {text rest behind : List ℕ} → Goes place r text next after rest → Goes next after rest last end behind →
    Goes place r text last end behind
on g h = record { to = λ n. let a = g.to n in let b = h.to a.0 in (b.0, a.1 ∙ b.1) }

-- one line
one : (place next : NextLine) (r after : Report) (a rest : List ℕ) → Lacks 10 a → is_done place ≡ false → taken place r a ≡ Some (next, after) →
    Goes place r (line a ++ rest) next after rest
one place next r after a rest lacks undone t =
    record {
      to = λ n. (
        n + 1,
        ap (report_from n place r) (piece_first a rest lacks)
            ∙ (line_from n place r a rest
            ∙ (ap (λ (b : Bool). ◌>>=◌ (cond b (Err extra) (line_or_fault n (taken place r a)))
            (λ (y : Reached). report_from (n + 1) y.0 y.1 (pieces_of rest))) undone
            ∙ ap (λ (o : Option Reached). ◌>>=◌ (line_or_fault n o) (λ (y : Reached). report_from (n + 1) y.0 y.1 (pieces_of rest))) t)),
      );
    }
  where
    extra : ReportFault
    extra = Rattle.bs_report.specs.declared.fault.ReportFault.TheVariants.Extra

-- one line of more
one_of : (place next : NextLine) (r after : Report) (a b rest : List ℕ) → Lacks 10 a → is_done place ≡ false → taken place r a ≡ Some (next, after) →
    Goes place r ((line a ++ b) ++ rest) next after (b ++ rest)
one_of place next r after a b rest lacks undone t =
    subst (λ (text : List ℕ). Goes place r text next after (b ++ rest)) (sym (append_assoc (line a) b rest))
    (one place next r after a (b ++ rest) lacks undone t)

-- ---- a step

-- behind the stored signature
older_goes : (r : Report) (p : Seen) (s : List Bool) (older : Option (List Bool)) (b rest : List ℕ) → IsOfDepth r.depth older →
    Goes (behind_stored r.depth p s) r ((older_text r.depth older ++ b) ++ rest) (places.Listing (begun p s older) []) r (b ++ rest)
older_goes r p s older b rest h = by (r.depth == 1) refl
  where
    by : (one : Bool) → (r.depth == 1) ≡ one →
        Goes (cond one (places.Listing (begun p s None) []) (places.Older p s)) r
        ((cond one [] (line (codes "older " ++ signature_text older)) ++ b) ++ rest) (places.Listing (begun p s older) []) r (b ++ rest)
    by true z =
        subst (λ (o : Option (List Bool)). Goes (places.Listing (begun p s None) []) r (b ++ rest) (places.Listing (begun p s o) []) r (b ++ rest))
        (sym (h (eqb-true r.depth 1 z))) (stays (places.Listing (begun p s None) []) r (b ++ rest))
    by false z =
        one_of (places.Older p s) (places.Listing (begun p s older) []) r r (codes "older " ++ signature_text older) b rest (older_lacks older) refl
        (ap (λ (o : Option (Option (List Bool))). option_map (λ (place : NextLine). (place, r))
        (option_map (λ (older : Option (List Bool)). places.Listing (begun p s older) []) o)) (older_again older))

cands_go : (h : PartialStep) (done cands : List Cand) (r : Report) (rest : List ℕ) → Each (λ cand. IsOfDepth r.depth cand.before) cands →
    Goes (places.Listing h done) r (flat_map cand_text cands ++ rest) (places.Listing h (done ++ cands)) r rest
cands_go h done [] r rest of = subst (λ (cs : List Cand). Goes (places.Listing h done) r rest (places.Listing h cs) r rest) (sym (append-nil done))
    (stays (places.Listing h done) r rest)
cands_go h done (c ∷ cs) r rest of =
    on
    (one_of (places.Listing h done) (places.Listing h (done ++ c ∷ [])) r r (cand_words c) (flat_map cand_text cs) rest (cand_lacks c) refl
    (ap (λ (o : Option Cand). option_map (λ (place : NextLine). (place, r)) (more_listed h done (cand_words c) o)) (cand_again r.depth c of.0)))
    (subst (λ (all : List Cand). Goes (places.Listing h (done ++ c ∷ [])) r (flat_map cand_text cs ++ rest) (places.Listing h all) r rest)
    (append_assoc done (c ∷ []) cs)
    (cands_go h (done ++ c ∷ []) cs r rest of.1))

list_goes : (head : PartialStep) (cands : List Cand) (e : ListEnd) (r : Report) (b rest : List ℕ) → HasEndText e →
    Goes (places.Listing head cands) r ((line (codes "list " ++ end_word e) ++ b) ++ rest) (places.Hit head cands e) r (b ++ rest)
list_goes head cands e r b rest h =
    one_of (places.Listing head cands) (places.Hit head cands e) r r (codes "list " ++ end_word e) b rest (lacks e h) refl
    (ap (λ (o : Option ListEnd). option_map (λ (place : NextLine). (place, r)) (option_map (λ (ended : ListEnd). places.Hit head cands ended) o)) (end_again e h))
  where
    lacks : (e : ListEnd) → HasEndText e → Lacks 10 (codes "list " ++ end_word e)
    lacks (Finished id) h = (
      refl,
      (refl, (refl, (refl, (refl, (refl, (refl, (refl, (refl, (refl, (refl, (refl, (refl, (refl, number_lacks 10 id (omega arith) h.1))))))))))))),
    )
    lacks ByCandidates h = (refl, (refl, (refl, (refl, (refl, (refl, (refl, (refl, (refl, (refl, (refl, (refl, (refl, (refl, (refl, tt)))))))))))))))
    lacks ByConflicts h = (refl, (refl, (refl, (refl, (refl, (refl, (refl, (refl, (refl, (refl, (refl, (refl, (refl, (refl, tt))))))))))))))

hit_goes : (head : PartialStep) (cands : List Cand) (e : ListEnd) (hit : Option HitLine) (r : Report) (rest : List ℕ) → HasHitText hit →
    Goes (places.Hit head cands e) r (hit_text hit ++ rest) places.Turn (with_step r head cands e hit) rest
hit_goes head cands e None r rest h =
    one (places.Hit head cands e) places.Turn r (with_step r head cands e None) (codes "nohit") rest (refl, (refl, (refl, (refl, (refl, tt))))) refl refl
hit_goes head cands e (Some hit) r rest h =
    one (places.Hit head cands e) places.Turn r (with_step r head cands e (Some hit))
    (codes "hit " ++ (decimal hit.run ++ (codes " " ++ (decimal hit.cycle ++ (codes " " ++ bits_text hit.state))))) rest lacks refl
    (ap (option_map (λ (hit : Option HitLine). (places.Turn, with_step r head cands e hit))) (hit_again hit h.0 h.1 h.2))
  where
    lacks : Lacks 10 (codes "hit " ++ (decimal hit.run ++ (codes " " ++ (decimal hit.cycle ++ (codes " " ++ bits_text hit.state)))))
    lacks =
        lacks_append 10 (codes "hit ") _ (refl, (refl, (refl, (refl, tt))))
        (lacks_append 10 (decimal hit.run) _ (number_lacks 10 hit.run (omega arith) (let u = h.1 in omega (arith, u)))
        (lacks_append 10 (codes " ") _ (refl, tt)
        (lacks_append 10 (decimal hit.cycle) _ (number_lacks 10 hit.cycle (omega arith) (let u = h.2 in omega (arith, u)))
        (lacks_append 10 (codes " ") (bits_text hit.state) (refl, tt) (bits_lack 10 hit.state (omega arith))))))

abbrev with_steps : Report → List Step → Report
with_steps r steps = record r { steps = steps }

step_goes : (r : Report) (number : ℕ) (step : Step) (rest : List ℕ) → HasStepText r.depth step → number ≡ length r.steps + 1 → number < 2 ^ 64 →
    Goes places.Turn r (step_text r.depth number step ++ rest) places.Turn (with_steps r (r.steps ++ step ∷ [])) rest
step_goes r number step rest h e small =
    on
    (one_of places.Turn places.Present r r (codes "step " ++ decimal number) rest1 rest
    (lacks_append 10 (codes "step ") (decimal number) (refl, (refl, (refl, (refl, (refl, tt))))) (number_lacks 10 number (omega arith) small)) refl begins_it)
    (on
    (one_of places.Present (places.Stored step.present) r r (codes "present " ++ seen_text step.present) rest2 rest
    (lacks_append 10 (codes "present ") (seen_text step.present) (refl, (refl, (refl, (refl, (refl, (refl, (refl, (refl, tt))))))))
    (seen_lacks 10 step.present (omega arith))) refl
    (ap (λ (o : Option Seen). option_map (λ (place : NextLine). (place, r)) (option_map (λ (s : Seen). places.Stored s) o))
    (seen_line_again (codes "present") (codes "present " ++ seen_text step.present) step.present h.present
    (words_of_seen (codes "present") step.present refl) refl)))
    (on
    (one_of (places.Stored step.present) (behind_stored r.depth step.present step.stored) r r (codes "stored " ++ bits_text step.stored) rest3 rest
    (lacks_append 10 (codes "stored ") (bits_text step.stored) (refl, (refl, (refl, (refl, (refl, (refl, (refl, tt)))))))
    (bits_lack 10 step.stored (omega arith))) refl
    (ap (λ (o : Option (List Bool)). option_map (λ (place : NextLine). (place, r))
    (option_map (λ (s : List Bool). behind_stored r.depth step.present s) o))
    (bits_line_again (codes "stored") (codes "stored " ++ bits_text step.stored) step.stored (words_of_bits (codes "stored") step.stored refl) refl)))
    (on (older_goes r step.present step.stored step.older rest4 rest h.older)
    (on
    (subst (λ (text : List ℕ). Goes (places.Listing head []) r text (places.Listing head step.cands) r (rest5 ++ rest))
    (sym (append_assoc (flat_map cand_text step.cands) rest5 rest))
    (cands_go head [] step.cands r (rest5 ++ rest) (recursion_from_All (λ (cand : Cand). IsOfDepth r.depth cand.before) step.cands h.befores)))
    (on (list_goes head step.cands step.end r (hit_text step.hit) rest h.list)
    (hit_goes head step.cands step.end step.hit r rest h.hit))))))
  where
    head : PartialStep
    head = begun step.present step.stored step.older

    rest5 : List ℕ
    rest5 = line (codes "list " ++ end_word step.end) ++ hit_text step.hit

    rest4 : List ℕ
    rest4 = flat_map cand_text step.cands ++ rest5

    rest3 : List ℕ
    rest3 = older_text r.depth step.older ++ rest4

    rest2 : List ℕ
    rest2 = line (codes "stored " ++ bits_text step.stored) ++ rest3

    rest1 : List ℕ
    rest1 = line (codes "present " ++ seen_text step.present) ++ rest2

    begins_it : taken places.Turn r (codes "step " ++ decimal number) ≡ Some (places.Present, r)
    begins_it =
        ap (λ (o : Option ℕ). cond {A = Option Reached} (begins (length r.steps + 1) o) (Some (places.Present, r)) None)
        (count_again (codes "step") (codes "step " ++ decimal number) number (words_of_count (codes "step") number refl small) refl small)
        ∙ ap (λ (b : Bool). cond {A = Option Reached} b (Some (places.Present, r)) None) (eq-eqb number (length r.steps + 1) e)

steps_go : (r : Report) (number : ℕ) (steps : List Step) (rest : List ℕ) → Each (HasStepText r.depth) steps → number ≡ length r.steps + 1 →
    length r.steps + length steps < 2 ^ 64 →
    Goes places.Turn r (steps_text r.depth number steps ++ rest) places.Turn (with_steps r (r.steps ++ steps)) rest
steps_go r number [] rest h e few =
    subst (λ (steps : List Step). Goes places.Turn r rest places.Turn (with_steps r steps) rest) (sym (append-nil r.steps)) (stays places.Turn r rest)
steps_go r number (s ∷ ss) rest h e few =
    let longer : length (r.steps ++ s ∷ []) ≡ length r.steps + 1 = length-append r.steps (s ∷ []) in
    on
    (subst (λ (text : List ℕ). Goes places.Turn r text places.Turn (with_steps r (r.steps ++ s ∷ [])) (steps_text r.depth (number + 1) ss ++ rest))
    (sym (append_assoc (step_text r.depth number s) (steps_text r.depth (number + 1) ss) rest))
    (step_goes r number s (steps_text r.depth (number + 1) ss ++ rest) h.0 e (omega (arith, few, e))))
    (subst (λ (steps : List Step). Goes places.Turn (with_steps r (r.steps ++ s ∷ [])) (steps_text r.depth (number + 1) ss ++ rest) places.Turn
    (with_steps r steps) rest) (append_assoc r.steps (s ∷ []) ss)
    (steps_go (with_steps r (r.steps ++ s ∷ [])) (number + 1) ss rest h.1 (omega (arith, e, longer)) (omega (arith, few, longer))))

-- ---- the trace

abbrev with_trace : Report → List (List Bool) → List (List Bool) → List Bool → Report
with_trace r states inputs free = record r { states = states; inputs = inputs; free = free }

state_goes : (r : Report) (s : Seen) (left : ℕ) (next : NextLine) (rest : List ℕ) → IsSeen s → may_stand left s ≡ true → behind_state left ≡ next →
    Goes (places.State left) r (state_text s ++ rest) next (with_state r s) rest
state_goes r s left next rest sound may e =
    one (places.State left) next r (with_state r s) (codes "state " ++ seen_text s) rest
    (lacks_append 10 (codes "state ") (seen_text s) (refl, (refl, (refl, (refl, (refl, (refl, tt)))))) (seen_lacks 10 s (omega arith))) refl
    (ap (λ (o : Option Seen). option_map (λ (s : Seen). (behind_state left, with_state r s)) (standing left o))
    (seen_line_again (codes "state") (codes "state " ++ seen_text s) s sound (words_of_seen (codes "state") s refl) refl)
    ∙ (ap (λ (b : Bool). option_map (λ (s : Seen). (behind_state left, with_state r s)) (cond {A = Option Seen} b (Some s) None)) may
    ∙ ap (λ (place : NextLine). Some (place, with_state r s)) e))

input_goes : (r : Report) (x : List Bool) (left : ℕ) (b rest : List ℕ) →
    Goes (places.Input left) r ((line (codes "input " ++ bits_text x) ++ b) ++ rest) (places.State (left - 1))
    (with_trace r r.states (r.inputs ++ x ∷ []) r.free) (b ++ rest)
input_goes r x left b rest =
    one_of (places.Input left) (places.State (left - 1)) r (with_trace r r.states (r.inputs ++ x ∷ []) r.free) (codes "input " ++ bits_text x) b rest
    (lacks_append 10 (codes "input ") (bits_text x) (refl, (refl, (refl, (refl, (refl, (refl, tt)))))) (bits_lack 10 x (omega arith))) refl
    (ap (option_map (λ (x : List Bool). (places.State (left - 1), record r { inputs = r.inputs ++ x ∷ [] })))
    (bits_line_again (codes "input") (codes "input " ++ bits_text x) x (words_of_bits (codes "input") x refl) refl))

-- the moves of a trace, over its inputs and the states behind them
abbrev pub moves_text : List (List Bool) → List Seen → List ℕ
moves_text [] ss = []
moves_text (x ∷ xs) [] = []
moves_text (x ∷ xs) (s ∷ ss) = (line (codes "input " ++ bits_text x) ++ state_text s) ++ moves_text xs ss

behind_move : (left : ℕ) → behind_state (suc left) ≡ places.Input (suc left)
behind_move left = ap (λ (b : Bool). cond b places.Log (places.Input (suc left))) (ne_eqb (suc left) 0 (λ e. omega (arith, e)))

abbrev bits_in : List Seen → List (List Bool)
bits_in ss = map (λ (s : Seen). s.bits) ss

-- from a state that is behind, with these inputs and states to come
moves_go : (r : Report) (xs : List (List Bool)) (ss : List Seen) (rest : List ℕ) → length ss ≡ length xs → AreStates ss →
    Goes (behind_state (length xs)) r (moves_text xs ss ++ rest) places.Log (with_trace r (r.states ++ bits_in ss) (r.inputs ++ xs) (free_of r.free ss)) rest
moves_go r [] [] rest e h =
    subst (λ (states : List (List Bool)). Goes places.Log r rest places.Log (with_trace r states (r.inputs ++ []) r.free) rest) (sym (append-nil r.states))
    (subst (λ (inputs : List (List Bool)). Goes places.Log r rest places.Log (with_trace r r.states inputs r.free) rest) (sym (append-nil r.inputs))
    (stays places.Log r rest))
moves_go r [] (s ∷ ss) rest e h = absurd (omega (arith, e))
moves_go r (x ∷ xs) [] rest e h = absurd (omega (arith, e))
moves_go r (x ∷ xs) (s ∷ ss) rest e h =
    subst (λ (place : NextLine). Goes place r (moves_text (x ∷ xs) (s ∷ ss) ++ rest) places.Log end rest)
    (sym (behind_move (length xs)))
    (subst (λ (text : List ℕ). Goes (places.Input (suc (length xs))) r text places.Log end rest)
    (sym (append_assoc (line (codes "input " ++ bits_text x) ++ state_text s) (moves_text xs ss) rest))
    (on (input_goes r x (suc (length xs)) (state_text s) (moves_text xs ss ++ rest))
    (subst (λ (left : ℕ). Goes (places.State left) moved (state_text s ++ (moves_text xs ss ++ rest)) places.Log end rest) fewer
    (on (state_goes moved s (length xs) (behind_state (length xs)) (moves_text xs ss ++ rest) h.0 (ap (λ (n : ℕ). may_stand n s) (sym long) ∙ h.1.0) refl)
    (subst (λ (states : List (List Bool)). Goes (behind_state (length xs)) (with_state moved s)
    (moves_text xs ss ++ rest) places.Log (with_trace r states (r.inputs ++ x ∷ xs) (free_of s.free ss)) rest) (append_assoc r.states (s.bits ∷ []) (bits_in ss))
    (subst (λ (inputs : List (List Bool)). Goes (behind_state (length xs)) (with_state moved s)
    (moves_text xs ss ++ rest) places.Log (with_trace r ((r.states ++ s.bits ∷ []) ++ bits_in ss) inputs (free_of s.free ss)) rest)
    (append_assoc r.inputs (x ∷ []) xs)
    (moves_go (with_state moved s) xs ss rest (omega (arith, e)) h.1.1)))))))
  where
    fewer : length xs ≡ suc (length xs) - 1
    fewer = omega arith

    long : length ss ≡ length xs
    long = omega (arith, e)

    moved : Report
    moved = with_trace r r.states (r.inputs ++ x ∷ []) r.free

    end : Report
    end = with_trace r (r.states ++ s.bits ∷ bits_in ss) (r.inputs ++ x ∷ xs) (free_of s.free ss)

-- the same by places
pub range_moves : (r : Report) (xs : List (List Bool)) (ss : List Seen) (a : ℕ) → ((i : ℕ) → get_or r.inputs (a + i) [] ≡ get_or xs i []) →
    ((i : ℕ) → i < length ss → state_at r (a + i + 1) ≡ get_or ss i (whole [])) → length ss ≡ length xs →
    flat_map (move_text r) (range_with_len a (length xs)) ≡ moves_text xs ss
range_moves r [] [] a hx hs e = refl
range_moves r [] (s ∷ ss) a hx hs e = absurd (omega (arith, e))
range_moves r (x ∷ xs) [] a hx hs e = absurd (omega (arith, e))
range_moves r (x ∷ xs) (s ∷ ss) a hx hs e =
    let at_a : a ≡ a + 0 = omega arith in
    let input : get_or r.inputs a [] ≡ x = ap (λ (i : ℕ). get_or r.inputs i []) at_a ∙ hx 0 in
    let state : state_at r (a + 1) ≡ s = ap (λ (i : ℕ). state_at r (i + 1)) at_a ∙ hs 0 (omega arith) in
    ap (λ (t : List Bool). (line (codes "input " ++ bits_text t) ++ state_text (state_at r (a + 1)))
    ++ flat_map (move_text r) (range_with_len (a + 1) (length xs))) input
    ∙ (ap (λ (t : Seen). (line (codes "input " ++ bits_text x) ++ state_text t) ++ flat_map (move_text r) (range_with_len (a + 1) (length xs))) state
    ∙ ap (λ (t : List ℕ). (line (codes "input " ++ bits_text x) ++ state_text s) ++ t)
    (range_moves r xs ss (a + 1)
    (λ i. let place : a + 1 + i ≡ a + suc i = omega arith in ap (λ (k : ℕ). get_or r.inputs k []) place ∙ hx (suc i))
    (λ i lt. let place : a + 1 + i + 1 ≡ a + suc i + 1 = omega arith in ap (λ (k : ℕ). state_at r k) place ∙ hs (suc i) (omega (arith, lt)))
    (omega (arith, e))))

-- the trace by its moves
pub trace_is_moves : (r : Report) (f : FirstSeen r) →
    trace_text r ≡ line (codes "trace " ++ decimal (length r.inputs)) ++ (state_text f.first ++ moves_text r.inputs f.others)
trace_is_moves r f =
    let n : ℕ = length r.inputs in
    let moves : flat_map (move_text r) (range_with_len 0 n) ≡ moves_text r.inputs f.others =
    range_moves r r.inputs f.others 0 (λ i. let same : 0 + i ≡ i = omega arith in ap (λ (k : ℕ). get_or r.inputs k []) same)
    (λ i lt. let same : 0 + i + 1 ≡ i + 1 = omega arith in ap (λ (k : ℕ). state_at r k) same ∙ f.at_others i lt) f.long in
    ap (λ (s : Seen). line (codes "trace " ++ decimal n) ++ (state_text s ++ flat_map (move_text r) (range_with_len 0 n))) f.at_first
    ∙ ap (λ (t : List ℕ). line (codes "trace " ++ decimal n) ++ (state_text f.first ++ t)) moves

-- ---- the log

abbrev with_log : Report → List Line → Report
with_log r log = record r { log = log }

behind_line : (left : ℕ) → log_place (suc left) ≡ places.Lines (suc left)
behind_line left = ap (λ (b : Bool). cond b places.End (places.Lines (suc left))) (ne_eqb (suc left) 0 (λ e. omega (arith, e)))

log_goes : (r : Report) (log : List Line) (rest : List ℕ) → Each HasText log →
    Goes (log_place (length log)) r (flat_map (λ l. line (line_text l)) log ++ rest) places.End (with_log r (r.log ++ log)) rest
log_goes r [] rest h = subst (λ (log : List Line). Goes places.End r rest places.End (with_log r log) rest) (sym (append-nil r.log)) (stays places.End r rest)
log_goes r (l ∷ ls) rest h =
    subst (λ (place : NextLine). Goes place r (flat_map (λ l. line (line_text l)) (l ∷ ls) ++ rest) places.End (with_log r (r.log ++ l ∷ ls)) rest)
    (sym (behind_line (length ls)))
    (on
    (one_of (places.Lines (suc (length ls))) (log_place (length ls)) r (with_log r (r.log ++ l ∷ [])) (line_text l)
    (flat_map (λ l. line (line_text l)) ls) rest (log_line_lacks l h.0) refl
    (ap (option_map (λ (l : Line). (log_place (suc (length ls) - 1), record r { log = r.log ++ l ∷ [] }))) (lines_read_back l h.0)
    ∙ ap (λ (left : ℕ). Some (log_place left, with_log r (r.log ++ l ∷ []))) fewer))
    (subst (λ (log : List Line). Goes (log_place (length ls)) (with_log r (r.log ++ l ∷ [])) (flat_map (λ l. line (line_text l)) ls ++ rest) places.End
    (with_log r log) rest) (append_assoc r.log (l ∷ []) ls)
    (log_goes (with_log r (r.log ++ l ∷ [])) ls rest h.1)))
  where
    fewer : suc (length ls) - 1 ≡ length ls
    fewer = omega arith

-- ---- the whole text

abbrev with_budgets : Report → Budgets → Report
with_budgets r b = record r { budgets = b }

abbrev with_stop : Report → Stop → Report
with_stop r stop = record r { stop = stop }

abbrev with_depth : Report → ℕ → Report
with_depth r depth = record r { depth = depth }

-- before the budgets
abbrev titled : Report → Report
titled r = with_depth nothing_read r.depth

head_goes : (r : Report) (rest : List ℕ) → HasReportText r →
    Goes places.Title nothing_read (head_text r ++ rest) places.Trace (with_stop (with_steps (with_budgets (titled r) r.budgets) r.steps) r.stop) rest
unfolding head_text
head_goes r rest h =
    on
    (one_of places.Title places.Asked nothing_read (titled r) (title r.depth) rest1 rest (title_lacks r.depth) refl
    (ap (option_map (λ (depth : ℕ). (places.Asked, with_depth nothing_read depth))) (title_again r.depth h.depth)))
    (on
    (one_of places.Asked places.Turn (titled r) (with_budgets (titled r) r.budgets) asked rest2 rest asked_lacks refl
    (ap (option_map (λ (b : Budgets). (places.Turn, with_budgets (titled r) b)))
    (budgets_again r.budgets h.some_steps h.max_steps h.some_candidates h.max_candidates h.some_conflicts h.max_conflicts)))
    (on
    (subst (λ (text : List ℕ). Goes places.Turn (with_budgets (titled r) r.budgets) text places.Turn
    (with_steps (with_budgets (titled r) r.budgets) r.steps) (rest3 ++ rest))
    (sym (append_assoc (steps_text r.depth 1 r.steps) rest3 rest))
    (steps_go (with_budgets (titled r) r.budgets) 1 r.steps (rest3 ++ rest) (recursion_from_All (HasStepText r.depth) r.steps h.each_step) refl
    (omega (arith, h.few_steps))))
    (one places.Turn places.Trace (with_steps (with_budgets (titled r) r.budgets) r.steps)
    (with_stop (with_steps (with_budgets (titled r) r.budgets) r.steps) r.stop)
    (codes "stop " ++ stop_word r.stop) rest (stop_lacks r.stop) refl
    (ap (turned (with_steps (with_budgets (titled r) r.budgets) r.steps) (codes "stop " ++ stop_word r.stop)) (stop_again r.stop)))))
  where
    rest3 : List ℕ
    rest3 = line (codes "stop " ++ stop_word r.stop)

    rest2 : List ℕ
    rest2 = steps_text r.depth 1 r.steps ++ rest3

    rest1 : List ℕ
    rest1 = budgets_text r.budgets ++ rest2

    asked : List ℕ
    asked = codes "asked " ++ (decimal r.budgets.steps
        ++ (codes " candidates " ++ (decimal r.budgets.candidates ++ (codes " conflicts " ++ decimal r.budgets.conflicts))))

    asked_lacks : Lacks 10 asked
    asked_lacks =
        lacks_append 10 (codes "asked ") _ (refl, (refl, (refl, (refl, (refl, (refl, tt))))))
        (lacks_append 10 (decimal r.budgets.steps) _ (number_lacks 10 r.budgets.steps (omega arith) (omega (arith, h.max_steps)))
        (lacks_append 10 (codes " candidates ") _ (refl, (refl, (refl, (refl, (refl, (refl, (refl, (refl, (refl, (refl, (refl, (refl, tt))))))))))))
        (lacks_append 10 (decimal r.budgets.candidates) _ (number_lacks 10 r.budgets.candidates (omega arith) (omega (arith, h.max_candidates)))
        (lacks_append 10 (codes " conflicts ") _ (refl, (refl, (refl, (refl, (refl, (refl, (refl, (refl, (refl, (refl, (refl, tt)))))))))))
        (number_lacks 10 r.budgets.conflicts (omega arith) (omega (arith, h.max_conflicts)))))))

    stop_lacks : (stop : Stop) → Lacks 10 (codes "stop " ++ stop_word stop)
    stop_lacks stops.Reset = (refl, (refl, (refl, (refl, (refl, (refl, (refl, (refl, (refl, (refl, tt))))))))))
    stop_lacks stops.Length = (refl, (refl, (refl, (refl, (refl, (refl, (refl, (refl, (refl, (refl, (refl, tt)))))))))))
    stop_lacks stops.Nohit = (refl, (refl, (refl, (refl, (refl, (refl, (refl, (refl, (refl, (refl, tt))))))))))
    stop_lacks stops.Empty = (refl, (refl, (refl, (refl, (refl, (refl, (refl, (refl, (refl, (refl, tt))))))))))
    stop_lacks stops.Candidates = (refl, (refl, (refl, (refl, (refl, (refl, (refl, (refl, (refl, (refl, (refl, (refl, (refl, (refl, (refl, tt)))))))))))))))
    stop_lacks stops.Conflicts = (refl, (refl, (refl, (refl, (refl, (refl, (refl, (refl, (refl, (refl, (refl, (refl, (refl, (refl, tt))))))))))))))

trace_goes : (q r : Report) (rest : List ℕ) → q.states ≡ [] → q.inputs ≡ [] → length r.states ≡ length r.inputs + 1 →
    IsSeen (state_at r (length r.inputs)) → length r.inputs < 2 ^ 64 →
    Goes places.Trace q (trace_text r ++ rest) places.Log (with_trace q r.states r.inputs r.free) rest
trace_goes q r rest no_states no_inputs e last few =
    let f = first_seen r e in
    let n : ℕ = length r.inputs in
    let states : AreStates (f.first ∷ f.others) = subst AreStates f.are (are_states r e last) in
    let start : q.states ++ f.first.bits ∷ [] ≡ f.first.bits ∷ [] = ap (λ (ss : List (List Bool)). ss ++ f.first.bits ∷ []) no_states in
    let all_states : f.first.bits ∷ bits_in f.others ≡ r.states = ap (λ (ss : List Seen). bits_in ss) (sym f.are) ∙ seens_bits r.states r.free in
    let all_free : free_of f.first.free f.others ≡ r.free = ap (λ (ss : List Seen). free_of q.free ss) (sym f.are) ∙ seens_free r.states r.free q.free (length r.inputs) e in
    let go : Goes (behind_state n) (with_state q f.first) (moves_text r.inputs f.others ++ rest) places.Log
    (with_trace q ((q.states ++ f.first.bits ∷ []) ++ bits_in f.others) (q.inputs ++ r.inputs) (free_of f.first.free f.others)) rest =
    moves_go (with_state q f.first) r.inputs f.others rest f.long states.1.1 in
    let whole_end : with_trace q ((q.states ++ f.first.bits ∷ []) ++ bits_in f.others) (q.inputs ++ r.inputs) (free_of f.first.free f.others)
    ≡ with_trace q r.states r.inputs r.free =
    let p : (q.states ++ f.first.bits ∷ []) ++ bits_in f.others ≡ r.states = ap (λ (ss : List (List Bool)). ss ++ bits_in f.others) start ∙ all_states in
    let x : q.inputs ++ r.inputs ≡ r.inputs = ap (λ (xs : List (List Bool)). xs ++ r.inputs) no_inputs in
    λ i. with_trace q (p i) (x i) (all_free i) in
    subst (λ (t : List ℕ). Goes places.Trace q (t ++ rest) places.Log (with_trace q r.states r.inputs r.free) rest) (sym (trace_is_moves r f))
    (on
    (one_of places.Trace (places.State n) q q (codes "trace " ++ decimal n) (state_text f.first ++ moves_text r.inputs f.others) rest
    (lacks_append 10 (codes "trace ") (decimal n) (refl, (refl, (refl, (refl, (refl, (refl, tt)))))) (number_lacks 10 n (omega arith) few)) refl
    (ap (λ (o : Option ℕ). option_map (λ (place : NextLine). (place, q)) (option_map (λ (n : ℕ). places.State n) o))
    (count_again (codes "trace") (codes "trace " ++ decimal n) n (words_of_count (codes "trace") n refl few) refl few)))
    (subst (λ (t : List ℕ). Goes (places.State n) q t places.Log (with_trace q r.states r.inputs r.free) rest)
    (sym (append_assoc (state_text f.first) (moves_text r.inputs f.others) rest))
    (on
    (state_goes q f.first n (behind_state n) (moves_text r.inputs f.others ++ rest) states.0 (ap (λ (k : ℕ). may_stand k f.first) (sym f.long) ∙ states.1.0) refl)
    (subst (λ (end : Report). Goes (behind_state n) (with_state q f.first) (moves_text r.inputs f.others ++ rest) places.Log end rest) whole_end go))))

tail_goes : (q r : Report) → HasReportText r → q.states ≡ [] → q.inputs ≡ [] → q.log ≡ [] →
    Goes places.Trace q (tail_text r) places.Done (with_log (with_trace q r.states r.inputs r.free) r.log) []
unfolding tail_text
tail_goes q r h no_states no_inputs no_log =
    let n : ℕ = length r.log in
    on (trace_goes q r (line (codes "log " ++ decimal n) ++ (flat_map (λ l. line (line_text l)) r.log ++ line (codes "end")))
    no_states no_inputs h.one_state_more h.last h.few_inputs)
    (on
    (one places.Log (log_place n) (with_trace q r.states r.inputs r.free) (with_trace q r.states r.inputs r.free) (codes "log " ++ decimal n)
    (flat_map (λ l. line (line_text l)) r.log ++ line (codes "end"))
    (lacks_append 10 (codes "log ") (decimal n) (refl, (refl, (refl, (refl, tt)))) (number_lacks 10 n (omega arith) h.few_lines)) undone
    (ap (λ (o : Option ℕ). option_map (λ (place : NextLine). (place, with_trace q r.states r.inputs r.free)) (option_map (λ (n : ℕ). log_place n) o))
    (count_again (codes "log") (codes "log " ++ decimal n) n (words_of_count (codes "log") n refl h.few_lines) refl h.few_lines)))
    (on
    (subst (λ (log : List Line). Goes (log_place n) (with_trace q r.states r.inputs r.free)
    (flat_map (λ l. line (line_text l)) r.log ++ line (codes "end")) places.End (with_log (with_trace q r.states r.inputs r.free) log) (line (codes "end")))
    (ap (λ (log : List Line). log ++ r.log) no_log)
    (log_goes (with_trace q r.states r.inputs r.free) r.log (line (codes "end")) (recursion_from_All HasText r.log h.each_line)))
    (one places.End places.Done (with_log (with_trace q r.states r.inputs r.free) r.log) (with_log (with_trace q r.states r.inputs r.free) r.log) (codes "end") []
    (refl, (refl, (refl, tt))) refl refl)))
  where
    undone : is_done places.Log ≡ false
    undone = refl

pub read_back : ReportsReadBack
unfolding report_in
read_back r h =
    let g = on (head_goes r (tail_text r) h) (tail_goes (with_stop (with_steps (with_budgets (titled r) r.budgets) r.steps) r.stop) r h refl refl refl) in
    (g.to 1).1
