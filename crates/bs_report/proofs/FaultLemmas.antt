-- Each fault of a report's text comes exactly where the words of texts say.
use Rattle.std.proofs.Common.{◌≡◌, ◌≢◌, ◌↔◌, ℕ, suc, zero, ◌<◌, ◌≤◌, ◌+◌, ◌-◌, ◌^◌, Bool, true, false, cond, List, [], ◌∷◌, ◌++◌, length, take, refl}
use Rattle.std.proofs.Common.{arith, ap, sym, subst, ◌∙◌, Option, Some, None, append_assoc}
use Rattle.std.specs.Prelude.{◌==◌, codes, Result, Ok, Err}
use Rattle.std.specs.Option.{option_and_then}
use Rattle.std.specs.List.{AllByRecursion as Each, flat_map}
use Rattle.std.proofs.lemmas.Bool.{false≢true, true≢false, ne_eqb}
use Rattle.std.proofs.lemmas.Grind.{flat_map-append}
use Rattle.std.proofs.lemmas.List.{append-nil, length-append, length-take-le}
use Rattle.std.proofs.Math.Seq.{take-append_seam, take-append-add}
use Rattle.bs_bits.specs.Lines.{line, onto_first, pieces_of}
use Rattle.bs_bits.specs.Reading.{◌>>=◌}
use Rattle.bs_bits.proofs.LineLemmas.{nothing_left}
use Rattle.bs_bits.proofs.LineTextLemmas.{Lacks, piece_first}
use Rattle.bs_log.specs.declared.line.Line.TheVariants as lines
use Rattle.bs_scan.specs.declared.seen.Seen.{Seen}
use Rattle.bs_scan.specs.Seen.{whole}
use Rattle.bs_report.specs.declared.fault.ReportFault.{ReportFault}
use Rattle.bs_report.specs.declared.fault.ReportFault.TheVariants as faults
use Rattle.bs_report.specs.declared.place.PartialStep.{PartialStep}
use Rattle.bs_report.specs.declared.place.NextLine.{NextLine}
use Rattle.bs_report.specs.declared.place.NextLine.TheVariants as places
use Rattle.bs_report.specs.declared.report.Cand.{Cand}
use Rattle.bs_report.specs.declared.report.ListEnd.{ListEnd}
use Rattle.bs_report.specs.declared.report.ListEnd.TheVariants as ends
use Rattle.bs_report.specs.declared.report.Report.{Report}
use Rattle.bs_report.specs.declared.report.Stop.TheVariants as stops
use Rattle.bs_report.specs.Reading.{Reached, behind_state, log_place, taken, is_done, line_or_fault, followed, ended, report_from, nothing_read}
use Rattle.bs_report.specs.Reading.{report_in, begun, behind_stored, with_step}
use Rattle.bs_report.specs.Text.{report_text}
use Rattle.bs_report.specs.FaultLaw.{line_count, first_lines, Begins, IsWrongLine, IsShort, HasExtra, WrongLinesAreNamed, ShortTextsAreNamed}
use Rattle.bs_report.specs.FaultLaw.{ExtraBytesAreNamed}
use Rattle.bs_report.proofs.ReadingLemmas.{some_piece}
use Rattle.bs_report.proofs.ReadBackLemmas.{read_back}
use Rattle.bs_report.proofs.SpelledLemmas.{Fits, line_fits, done_is, done_is_report, glued, glued_pieces}

-- ---- whole lines

-- what whole lines give from a place on; none where one of them is of a form that its place does not allow
abbrev lines_on : NextLine → Report → List (List ℕ) → Option Reached
lines_on place r [] = Some (place, r)
lines_on place r (a ∷ ls) = option_and_then (λ (y : Reached). lines_on y.0 y.1 ls) (taken place r a)

lines_on_append : (place : NextLine) (r : Report) (ls bs : List (List ℕ)) (y : Reached) → lines_on place r ls ≡ Some y →
    lines_on place r (ls ++ bs) ≡ lines_on y.0 y.1 bs
lines_on_append place r [] bs y e = let same : (place, r) ≡ y = cc in ap (λ (y : Reached). lines_on y.0 y.1 bs) same
lines_on_append place r (a ∷ ls) bs y e = by (taken place r a) e (λ (z : Reached) f. lines_on_append z.0 z.1 ls bs y f)
  where
    by : (o : Option Reached) → option_and_then (λ (y : Reached). lines_on y.0 y.1 ls) o ≡ Some y →
        ((z : Reached) → lines_on z.0 z.1 ls ≡ Some y → lines_on z.0 z.1 (ls ++ bs) ≡ lines_on y.0 y.1 bs) →
        option_and_then (λ (y : Reached). lines_on y.0 y.1 (ls ++ bs)) o ≡ lines_on y.0 y.1 bs
    by None e on = cc
    by (Some z) e on = on z e

lines_fit : (ls : List (List ℕ)) (place : NextLine) (r : Report) (text : List ℕ) (y : Reached) → Fits place r text → lines_on place r ls ≡ Some y →
    Fits y.0 y.1 (text ++ flat_map line ls)
lines_fit [] place r text y h e =
    let same : (place, r) ≡ y = cc in
    subst (λ (t : List ℕ). Fits y.0 y.1 t) (sym (append-nil text)) (subst (λ (y : Reached). Fits y.0 y.1 text) same h)
lines_fit (a ∷ ls) place r text y h e = by (taken place r a) refl e (λ (z : Reached) t f. lines_fit ls z.0 z.1 (text ++ line a) y t f)
  where
    by : (o : Option Reached) → taken place r a ≡ o → option_and_then (λ (y : Reached). lines_on y.0 y.1 ls) o ≡ Some y →
        ((z : Reached) → Fits z.0 z.1 (text ++ line a) → lines_on z.0 z.1 ls ≡ Some y → Fits y.0 y.1 ((text ++ line a) ++ flat_map line ls)) →
        Fits y.0 y.1 (text ++ (line a ++ flat_map line ls))
    by None t e on = cc
    by (Some z) t e on = subst (λ (t : List ℕ). Fits y.0 y.1 t) (append_assoc text (line a) (flat_map line ls)) (on z (line_fits place r text a z h t) e)

-- nothing is allowed behind the end
undone : (place : NextLine) (r : Report) (a : List ℕ) (y : Reached) → taken place r a ≡ Some y → is_done place ≡ false
undone place r a y e = by (is_done place) refl
  where
    by : (b : Bool) → is_done place ≡ b → is_done place ≡ false
    by false f = f
    by true f = let t : taken places.Done r a ≡ Some y = ap (λ (p : NextLine). taken p r a) (sym (done_is place f)) ∙ e in cc

reads : (n : ℕ) (place : NextLine) (r : Report) (a : List ℕ) (y : Reached) → taken place r a ≡ Some y → followed n place r a ≡ Ok y
reads n place r a y e =
    ap (λ (b : Bool). cond {A = Result Reached ReportFault} b (Err faults.Extra) (line_or_fault n (taken place r a))) (undone place r a y e)
    ∙ ap (line_or_fault n) e

one_line : (n : ℕ) (place : NextLine) (r : Report) (a : List ℕ) (tail : List (List ℕ)) → 0 < length tail →
    report_from n place r (a ∷ tail) ≡ ◌>>=◌ (followed n place r a) (λ (y : Reached). report_from (n + 1) y.0 y.1 tail)
one_line n place r a [] h = absurd (omega (arith, h))
one_line n place r a (q ∷ qs) h = refl

some_more : (ls : List (List ℕ)) (p : List ℕ) (ps : List (List ℕ)) → 0 < length (ls ++ p ∷ ps)
some_more ls p ps = omega (arith, length-append ls (p ∷ ps))

-- reading goes on behind whole lines
through : (n : ℕ) (place : NextLine) (r : Report) (ls : List (List ℕ)) (p : List ℕ) (ps : List (List ℕ)) (y : Reached) → lines_on place r ls ≡ Some y →
    report_from n place r (ls ++ p ∷ ps) ≡ report_from (n + length ls) y.0 y.1 (p ∷ ps)
through n place r [] p ps y e =
    let same : (place, r) ≡ y = cc in
    let none : n ≡ n + 0 = omega arith in
    ap (λ (y : Reached). report_from n y.0 y.1 (p ∷ ps)) same ∙ ap (λ (m : ℕ). report_from m y.0 y.1 (p ∷ ps)) none
through n place r (a ∷ ls) p ps y e = by (taken place r a) refl e (λ (z : Reached) f. through (n + 1) z.0 z.1 ls p ps y f)
  where
    by : (o : Option Reached) → taken place r a ≡ o → option_and_then (λ (y : Reached). lines_on y.0 y.1 ls) o ≡ Some y →
        ((z : Reached) → lines_on z.0 z.1 ls ≡ Some y → report_from (n + 1) z.0 z.1 (ls ++ p ∷ ps) ≡ report_from (n + 1 + length ls) y.0 y.1 (p ∷ ps)) →
        report_from n place r (a ∷ (ls ++ p ∷ ps)) ≡ report_from (n + suc (length ls)) y.0 y.1 (p ∷ ps)
    by None t e on = cc
    by (Some z) t e on =
        let count : n + 1 + length ls ≡ n + suc (length ls) = omega arith in
        one_line n place r a (ls ++ p ∷ ps) (some_more ls p ps)
        ∙ (ap (λ (x : Result Reached ReportFault). ◌>>=◌ x (λ (y : Reached). report_from (n + 1) y.0 y.1 (ls ++ p ∷ ps))) (reads n place r a z t)
        ∙ (on z e ∙ ap (λ (m : ℕ). report_from m y.0 y.1 (p ∷ ps)) count))

-- the whole lines of a text that is a report's are each allowed
record Passed (place : NextLine) (r : Report) (ls : List (List ℕ)) : Type 0 where
  reached : Reached
  by_lines : lines_on place r ls ≡ Some reached

passes : (n : ℕ) (place : NextLine) (r : Report) (ls : List (List ℕ)) (p : List ℕ) (ps : List (List ℕ)) (all : Report) →
    report_from n place r (ls ++ p ∷ ps) ≡ Ok all → Passed place r ls
passes n place r [] p ps all e = record { reached = (place, r); by_lines = refl }
passes n place r (a ∷ ls) p ps all e =
    by (is_done place) (taken place r a) refl (sym (one_line n place r a (ls ++ p ∷ ps) (some_more ls p ps)) ∙ e)
    (λ (z : Reached) f. passes (n + 1) z.0 z.1 ls p ps all f)
  where
    by : (d : Bool) (o : Option Reached) → taken place r a ≡ o →
        ◌>>=◌ (cond {A = Result Reached ReportFault} d (Err faults.Extra) (line_or_fault n o))
        (λ (y : Reached). report_from (n + 1) y.0 y.1 (ls ++ p ∷ ps)) ≡ Ok all →
        ((z : Reached) → report_from (n + 1) z.0 z.1 (ls ++ p ∷ ps) ≡ Ok all → Passed z.0 z.1 ls) → Passed place r (a ∷ ls)
    by true o t e on = cc
    by false None t e on = cc
    by false (Some z) t e on =
        let s = on z e in
        record { reached = s.reached; by_lines = ap (option_and_then (λ (y : Reached). lines_on y.0 y.1 ls)) t ∙ s.by_lines }

-- ---- the piece that settles the answer

abbrev Here : Result Report ReportFault → ℕ → Reached → List ℕ → List (List ℕ) → Type 0
Here answer n y piece [] = ended y.0 y.1 piece ≡ answer
Here (Ok all) n y piece (q ∷ qs) = ⊥
Here (Err fault) n y piece (q ∷ qs) = followed n y.0 y.1 piece ≡ Err fault

record Settled (answer : Result Report ReportFault) (n : ℕ) (place : NextLine) (r : Report) (pieces : List (List ℕ)) : Type 0 where
  before : List (List ℕ)
  reached : Reached
  piece : List ℕ
  behind : List (List ℕ)
  number : ℕ
  parts : pieces ≡ before ++ piece ∷ behind
  passed : lines_on place r before ≡ Some reached
  counted : number ≡ n + length before
  here : Here answer number reached piece behind

settled : (n : ℕ) (place : NextLine) (r : Report) (piece : List ℕ) (ps : List (List ℕ)) (answer : Result Report ReportFault) →
    report_from n place r (piece ∷ ps) ≡ answer → Settled answer n place r (piece ∷ ps)
settled n place r piece [] answer e =
    record { before = []; reached = (place, r); piece = piece; behind = []; number = n; parts = refl; passed = refl; counted = omega arith; here = e }
settled n place r piece (q ∷ qs) answer e =
    by (is_done place) (taken place r piece) refl refl answer e (λ (z : Reached) f. settled (n + 1) z.0 z.1 q qs answer f)
  where
    Rest : Result Report ReportFault → Type 0
    Rest answer = (z : Reached) → report_from (n + 1) z.0 z.1 (q ∷ qs) ≡ answer → Settled answer (n + 1) z.0 z.1 (q ∷ qs)

    at_once : (fault : ReportFault) → followed n place r piece ≡ Err fault → Settled (Err fault) n place r (piece ∷ q ∷ qs)
    at_once fault h =
        record { before = []; reached = (place, r); piece = piece; behind = q ∷ qs; number = n; parts = refl; passed = refl; counted = omega arith; here = h }

    by : (d : Bool) (o : Option Reached) → is_done place ≡ d → taken place r piece ≡ o → (answer : Result Report ReportFault) →
        ◌>>=◌ (cond {A = Result Reached ReportFault} d (Err faults.Extra) (line_or_fault n o))
        (λ (y : Reached). report_from (n + 1) y.0 y.1 (q ∷ qs)) ≡ answer →
        Rest answer → Settled answer n place r (piece ∷ q ∷ qs)
    by true o d t (Ok all) e on = cc
    by true o d t (Err fault) e on =
        let first : Err faults.Extra ≡ Err fault = cc in
        at_once fault (ap (λ (b : Bool). cond {A = Result Reached ReportFault} b (Err faults.Extra) (line_or_fault n (taken place r piece))) d ∙ first)
    by false None d t (Ok all) e on = cc
    by false None d t (Err fault) e on =
        let first : Err (faults.Line n) ≡ Err fault = cc in
        at_once fault
        (ap (λ (b : Bool). cond {A = Result Reached ReportFault} b (Err faults.Extra) (line_or_fault n (taken place r piece))) d
        ∙ (ap (line_or_fault n) t ∙ first))
    by false (Some z) d t answer e on =
        let s = on z e in
        record {
          before = piece ∷ s.before;
          reached = s.reached;
          piece = s.piece;
          behind = s.behind;
          number = s.number;
          parts = ap (λ (ps : List (List ℕ)). piece ∷ ps) s.parts;
          passed = ap (option_and_then (λ (y : Reached). lines_on y.0 y.1 s.before)) t ∙ s.passed;
          counted = omega (arith, s.counted);
          here = s.here;
        }

-- ---- lines that end a report from any place

record Completes (place : NextLine) (r : Report) : Type 0 where
  more : List (List ℕ)
  all : Report
  to_end : lines_on place r more ≡ Some (places.Done, all)

by_line : (place : NextLine) (r : Report) (a : List ℕ) (y : Reached) → taken place r a ≡ Some y → Completes y.0 y.1 → Completes place r
by_line place r a y e c =
    record { more = a ∷ c.more; all = c.all; to_end = ap (option_and_then (λ (y : Reached). lines_on y.0 y.1 c.more)) e ∙ c.to_end }

from_done : (r : Report) → Completes places.Done r
from_done r = record { more = []; all = r; to_end = refl }

from_end : (r : Report) → Completes places.End r
from_end r = by_line places.End r (codes "end") (places.Done, r) refl (from_done r)

abbrev with_solve : Report → Report
with_solve r = record r { log = r.log ++ lines.Solve ∷ [] }

from_lines : (left : ℕ) (r : Report) → Completes (log_place left) r
from_lines zero r = from_end r
from_lines (suc left) r =
    let here : log_place (suc left) ≡ places.Lines (suc left) =
    ap (λ (b : Bool). cond b places.End (places.Lines (suc left))) (ne_eqb (suc left) 0 (λ e. omega (arith, e))) in
    let fewer : left ≡ suc left - 1 = omega arith in
    subst (λ (place : NextLine). Completes place r) (sym here)
    (by_line (places.Lines (suc left)) r (codes "s") (log_place (suc left - 1), with_solve r) refl
    (subst (λ (k : ℕ). Completes (log_place k) (with_solve r)) fewer (from_lines left (with_solve r))))

from_log_line : (left : ℕ) (r : Report) → Completes (places.Lines left) r
from_log_line left r = by_line (places.Lines left) r (codes "s") (log_place (left - 1), with_solve r) refl (from_lines (left - 1) (with_solve r))

from_log : (r : Report) → Completes places.Log r
from_log r = by_line places.Log r (codes "log 0") (log_place 0, r) refl (from_lines 0 r)

abbrev with_state : Report → Report
with_state r = record r { states = r.states ++ [] ∷ []; free = [] }

abbrev with_input : Report → Report
with_input r = record r { inputs = r.inputs ++ [] ∷ [] }

from_moves : (left : ℕ) (r : Report) → Completes (behind_state left) r
from_moves zero r = from_log r
from_moves (suc left) r =
    let here : behind_state (suc left) ≡ places.Input (suc left) =
    ap (λ (b : Bool). cond b places.Log (places.Input (suc left))) (ne_eqb (suc left) 0 (λ e. omega (arith, e))) in
    let fewer : left ≡ suc left - 1 = omega arith in
    subst (λ (place : NextLine). Completes place r) (sym here)
    (by_line (places.Input (suc left)) r (codes "input .") (places.State (suc left - 1), with_input r) refl
    (subst (λ (k : ℕ). Completes (places.State k) (with_input r)) fewer
    (by_line (places.State left) (with_input r) (codes "state .") (behind_state left, with_state (with_input r)) refl
    (from_moves left (with_state (with_input r))))))

from_state : (left : ℕ) (r : Report) → Completes (places.State left) r
from_state left r = by_line (places.State left) r (codes "state .") (behind_state left, with_state r) refl (from_moves left (with_state r))

from_input : (left : ℕ) (r : Report) → Completes (places.Input left) r
from_input left r = by_line (places.Input left) r (codes "input .") (places.State (left - 1), with_input r) refl (from_state (left - 1) (with_input r))

from_trace : (r : Report) → Completes places.Trace r
from_trace r = by_line places.Trace r (codes "trace 0") (places.State 0, r) refl (from_state 0 r)

from_turn : (r : Report) → Completes places.Turn r
from_turn r = by_line places.Turn r (codes "stop reset") (places.Trace, record r { stop = stops.Reset }) refl (from_trace (record r { stop = stops.Reset }))

from_hit : (b : PartialStep) (cands : List Cand) (e : ListEnd) (r : Report) → Completes (places.Hit b cands e) r
from_hit b cands e r =
    by_line (places.Hit b cands e) r (codes "nohit") (places.Turn, with_step r b cands e None) refl (from_turn (with_step r b cands e None))

from_listing : (b : PartialStep) (cands : List Cand) (r : Report) → Completes (places.Listing b cands) r
from_listing b cands r =
    by_line (places.Listing b cands) r (codes "list candidates") (places.Hit b cands ends.Candidates, r) refl (from_hit b cands ends.Candidates r)

from_older : (p : Seen) (s : List Bool) (r : Report) → Completes (places.Older p s) r
from_older p s r = by_line (places.Older p s) r (codes "older none") (places.Listing (begun p s None) [], r) refl (from_listing (begun p s None) [] r)

from_stored : (p : Seen) (r : Report) → Completes (places.Stored p) r
from_stored p r = by_line (places.Stored p) r (codes "stored .") (behind_stored r.depth p [], r) refl (by (r.depth == 1))
  where
    by : (one : Bool) → Completes (cond one (places.Listing (begun p [] None) []) (places.Older p [])) r
    by true = from_listing (begun p [] None) [] r
    by false = from_older p [] r

from_present : (r : Report) → Completes places.Present r
from_present r = by_line places.Present r (codes "present .") (places.Stored (whole []), r) refl (from_stored (whole []) r)

abbrev with_least : Report → Report
with_least r = record r { budgets = record { steps = 1; candidates = 1; conflicts = 1 } }

from_asked : (r : Report) → Completes places.Asked r
from_asked r = by_line places.Asked r (codes "asked 1 candidates 1 conflicts 1") (places.Turn, with_least r) refl (from_turn (with_least r))

completes : (place : NextLine) (r : Report) → Completes place r
completes places.Title r =
    by_line places.Title r (codes "backspace 1") (places.Asked, record r { depth = 1 }) refl (from_asked (record r { depth = 1 }))
completes places.Asked r = from_asked r
completes places.Turn r = from_turn r
completes places.Present r = from_present r
completes (places.Stored p) r = from_stored p r
completes (places.Older p s) r = from_older p s r
completes (places.Listing b cands) r = from_listing b cands r
completes (places.Hit b cands e) r = from_hit b cands e r
completes places.Trace r = from_trace r
completes (places.State left) r = from_state left r
completes (places.Input left) r = from_input left r
completes places.Log r = from_log r
completes (places.Lines left) r = from_log_line left r
completes places.End r = from_end r
completes places.Done r = from_done r

-- ---- lines that are allowed begin the text of a report

abbrev same_bytes : {bytes other : List ℕ} → other ≡ bytes → Begins bytes → Begins other
same_bytes e b = record { report = b.report; has_text = b.has_text; rest = b.rest; spells = b.spells ∙ ap (λ (t : List ℕ). t ++ b.rest) (sym e) }

record Opened (ls : List (List ℕ)) (y : Reached) : Type 0 where
  begins : Begins (flat_map line ls)
  goes_on : is_done y.0 ≡ false → begins.rest ≢ []

some_bytes : (a rest : List ℕ) → line a ++ rest ≢ []
some_bytes a rest e = absurd (omega (arith, ap length e, length-append (line a) rest, length-append a (10 ∷ [])))

opened : (ls : List (List ℕ)) (y : Reached) → lines_on places.Title nothing_read ls ≡ Some y → Opened ls y
opened ls y e =
    let c = completes y.0 y.1 in
    let fits = lines_fit (ls ++ c.more) places.Title nothing_read [] (places.Done, c.all) (refl, refl)
    (lines_on_append places.Title nothing_read ls c.more y e ∙ c.to_end) in
    let f = done_is_report c.all (flat_map line (ls ++ c.more)) fits in
    record {
      begins = record { report = c.all; has_text = f.0; rest = flat_map line c.more; spells = f.1 ∙ flat_map-append line ls c.more };
      goes_on = λ undone none. by c.more c.all c.to_end none undone;
    }
  where
    by : (more : List (List ℕ)) (all : Report) → lines_on y.0 y.1 more ≡ Some (places.Done, all) → flat_map line more ≡ [] → is_done y.0 ≡ false → ⊥
    by [] all e none undone =
        let same : (y.0, y.1) ≡ (places.Done, all) = cc in
        true≢false (sym (ap (λ (y : Reached). is_done y.0) same) ∙ undone)
    by (a ∷ ls) all e none undone = some_bytes a (flat_map line ls) none

-- ---- lines that begin the text of a report are allowed

pieces_lack : (bs : List ℕ) → Each (Lacks 10) (pieces_of bs)
pieces_lack [] = (tt, tt)
pieces_lack (b ∷ bs) = by (b == 10) refl (pieces_of bs) (pieces_lack bs)
  where
    by : (z : Bool) → (b == 10) ≡ z → (ps : List (List ℕ)) → Each (Lacks 10) ps → Each (Lacks 10) (cond z ([] ∷ ps) (onto_first b ps))
    by true e ps h = (tt, h)
    by false e [] h = ((e, tt), tt)
    by false e (p ∷ ps) h = ((e, h.0), h.1)

pieces_again : (ls : List (List ℕ)) (rest : List ℕ) → Each (Lacks 10) ls → pieces_of (flat_map line ls ++ rest) ≡ ls ++ pieces_of rest
pieces_again [] rest h = refl
pieces_again (a ∷ ls) rest h =
    ap pieces_of (append_assoc (line a) (flat_map line ls) rest)
    ∙ (piece_first a (flat_map line ls ++ rest) h.0 ∙ ap (λ (ps : List (List ℕ)). a ∷ ps) (pieces_again ls rest h.1))

each_front : {X : Type 0} (P : X → Type 0) (xs ys : List X) → Each P (xs ++ ys) → Each P xs
each_front P [] ys h = tt
each_front P (x ∷ xs) ys h = (h.0, each_front P xs ys h.1)

glued_front : (ls : List (List ℕ)) (p : List ℕ) (ps : List (List ℕ)) → glued (ls ++ p ∷ ps) ≡ flat_map line ls ++ glued (p ∷ ps)
glued_front [] p ps = refl
glued_front (a ∷ ls) p ps = by (ls ++ p ∷ ps) (some_more ls p ps)
    ∙ (ap (λ (t : List ℕ). line a ++ t) (glued_front ls p ps) ∙ sym (append_assoc (line a) (flat_map line ls) (glued (p ∷ ps))))
  where
    by : (tail : List (List ℕ)) → 0 < length tail → glued (a ∷ tail) ≡ line a ++ glued tail
    by [] h = absurd (omega (arith, h))
    by (q ∷ qs) h = refl

-- behind the end only nothing is right
done_answer : (n : ℕ) (y : Reached) (p : List ℕ) (ps : List (List ℕ)) → is_done y.0 ≡ true → glued (p ∷ ps) ≢ [] →
    report_from n y.0 y.1 (p ∷ ps) ≡ Err faults.Extra
done_answer n y p [] d some = by (length p == 0) refl
  where
    by : (z : Bool) → (length p == 0) ≡ z → ended y.0 y.1 p ≡ Err faults.Extra
    by true e = absurd (some (nothing_left p e))
    by false e =
        ap (λ (b : Bool). cond {A = Result Report ReportFault} b (cond {A = Result Report ReportFault} (length p == 0) (Ok y.1) (Err faults.Extra))
        (Err faults.Short)) d
        ∙ ap (λ (b : Bool). cond {A = Result Report ReportFault} b (Ok y.1) (Err faults.Extra)) e
done_answer n y p (q ∷ qs) d some =
    ap (λ (b : Bool). ◌>>=◌ (cond {A = Result Reached ReportFault} b (Err faults.Extra) (line_or_fault n (taken y.0 y.1 p)))
    (λ (y : Reached). report_from (n + 1) y.0 y.1 (q ∷ qs))) d

record Reaches (ls : List (List ℕ)) (rest : List ℕ) : Type 0 where
  reached : Reached
  by_lines : lines_on places.Title nothing_read ls ≡ Some reached
  at_end : is_done reached.0 ≡ true → rest ≢ [] → ⊥

report_is : (text : List ℕ) → report_in text ≡ report_from 1 places.Title nothing_read (pieces_of text)
unfolding report_in
report_is text = refl

-- the answer, from the pieces of a text
from_pieces : (text : List ℕ) (pieces : List (List ℕ)) (answer : Result Report ReportFault) → pieces_of text ≡ pieces → report_in text ≡ answer →
    report_from 1 places.Title nothing_read pieces ≡ answer
from_pieces text pieces answer parts e = ap (report_from 1 places.Title nothing_read) (sym parts) ∙ (sym (report_is text) ∙ e)

reaches : (ls : List (List ℕ)) (b : Begins (flat_map line ls)) → Each (Lacks 10) ls → Reaches ls b.rest
reaches ls b lacks =
    let s = some_piece b.rest in
    let parts : pieces_of (report_text b.report) ≡ ls ++ s.0 ∷ s.1 =
    ap pieces_of b.spells ∙ (pieces_again ls b.rest lacks ∙ ap (λ (ps : List (List ℕ)). ls ++ ps) s.2) in
    let whole = from_pieces (report_text b.report) (ls ++ s.0 ∷ s.1) (Ok b.report) parts (read_back b.report b.has_text) in
    let p = passes 1 places.Title nothing_read ls s.0 s.1 b.report whole in
    record {
      reached = p.reached;
      by_lines = p.by_lines;
      at_end = λ d some.
          let glue : glued (s.0 ∷ s.1) ≡ b.rest = ap glued (sym s.2) ∙ glued_pieces b.rest in
          let no : report_from (1 + length ls) p.reached.0 p.reached.1 (s.0 ∷ s.1) ≡ Err faults.Extra =
          done_answer (1 + length ls) p.reached s.0 s.1 d (λ e. some (sym glue ∙ e)) in
          let yes : report_from (1 + length ls) p.reached.0 p.reached.1 (s.0 ∷ s.1) ≡ Ok b.report =
          sym (through 1 places.Title nothing_read ls s.0 s.1 p.reached p.by_lines) ∙ whole in
          cc;
    }

not_done : {ls : List (List ℕ)} {rest : List ℕ} (r : Reaches ls rest) → rest ≢ [] → is_done r.reached.0 ≡ false
not_done r some = by (is_done r.reached.0) refl
  where
    by : (b : Bool) → is_done r.reached.0 ≡ b → is_done r.reached.0 ≡ false
    by true d = absurd (r.at_end d some)
    by false d = d

-- ---- a wrong line

record Refused (n k : ℕ) (y : Reached) (piece : List ℕ) : Type 0 where
  number : k ≡ n
  undone : is_done y.0 ≡ false
  none : taken y.0 y.1 piece ≡ None

refused : (n k : ℕ) (y : Reached) (piece : List ℕ) → followed k y.0 y.1 piece ≡ Err (faults.Line n) → Refused n k y piece
refused n k y piece e = by (is_done y.0) (taken y.0 y.1 piece) refl refl e
  where
    by : (d : Bool) (o : Option Reached) → is_done y.0 ≡ d → taken y.0 y.1 piece ≡ o →
        cond {A = Result Reached ReportFault} d (Err faults.Extra) (line_or_fault k o) ≡ Err (faults.Line n) → Refused n k y piece
    by true o d t e = cc
    by false None d t e = record { number = cc; undone = d; none = t }
    by false (Some z) d t e = cc

never_line : (n : ℕ) (y : Reached) (piece : List ℕ) → ended y.0 y.1 piece ≡ Err (faults.Line n) → ⊥
never_line n y piece e = by (is_done y.0) (length piece == 0) e
  where
    by : (d z : Bool) → cond {A = Result Report ReportFault} d (cond {A = Result Report ReportFault} z (Ok y.1) (Err faults.Extra)) (Err faults.Short) ≡ Err
        (faults.Line n) → ⊥
    by true true e = cc
    by true false e = cc
    by false z e = cc

front_is : (ls : List (List ℕ)) (p : List ℕ) (ps : List (List ℕ)) (text : List ℕ) (k : ℕ) → pieces_of text ≡ ls ++ p ∷ ps → k ≡ length ls →
    take k (pieces_of text) ≡ ls
front_is ls p ps text k parts e = ap (take k) parts ∙ (ap (λ (k : ℕ). take k (ls ++ p ∷ ps)) e ∙ take-append_seam ls (p ∷ ps))

with_next : (ls : List (List ℕ)) (p : List ℕ) (ps : List (List ℕ)) (text : List ℕ) (k : ℕ) → pieces_of text ≡ ls ++ p ∷ ps → k ≡ length ls + 1 →
    take k (pieces_of text) ≡ ls ++ p ∷ []
with_next ls p ps text k parts e = ap (take k) parts ∙ (ap (λ (k : ℕ). take k (ls ++ p ∷ ps)) e ∙ take-append-add ls (p ∷ ps) 1)

none_some : (y : Reached) → None ≡ Some y → ⊥
none_some y e = cc

wrong_line : (text : List ℕ) (n : ℕ) → report_in text ≡ Err (faults.Line n) → IsWrongLine text n
wrong_line text n e =
    let s = some_piece text in
    let at = settled 1 places.Title nothing_read s.0 s.1 (Err (faults.Line n)) (from_pieces text (s.0 ∷ s.1) (Err (faults.Line n)) s.2 e) in
    by at.before at.reached at.piece at.behind at.number (s.2 ∙ at.parts) at.passed at.counted at.here
  where
    by : (before : List (List ℕ)) (y : Reached) (piece : List ℕ) (behind : List (List ℕ)) (k : ℕ) → pieces_of text ≡ before ++ piece ∷ behind →
        lines_on places.Title nothing_read before ≡ Some y → k ≡ 1 + length before → Here (Err (faults.Line n)) k y piece behind → IsWrongLine text n
    by before y piece [] k parts passed counted here = absurd (never_line n y piece here)
    by before y piece (q ∷ qs) k parts passed counted here =
        let r = refused n k y piece here in
        let g = opened before y passed in
        let front : first_lines (n - 1) text ≡ flat_map line before =
        ap (flat_map line) (front_is before piece (q ∷ qs) text (n - 1) parts (omega (arith, r.number, counted))) in
        let lacks : Each (Lacks 10) (before ++ piece ∷ []) =
        each_front (Lacks 10) (before ++ piece ∷ []) (q ∷ qs)
        (subst (λ (ps : List (List ℕ)). Each (Lacks 10) ps) (parts ∙ sym (append_assoc before (piece ∷ []) (q ∷ qs))) (pieces_lack text)) in
        let nothing : lines_on places.Title nothing_read (before ++ piece ∷ []) ≡ None =
        lines_on_append places.Title nothing_read before (piece ∷ []) y passed ∙ ap (option_and_then (λ (y : Reached). lines_on y.0 y.1 [])) r.none in
        record {
          counted = omega (arith, r.number, counted);
          whole = omega (arith, r.number, counted, ap length parts, length-append before (piece ∷ q ∷ qs));
          before = same_bytes front g.begins;
          goes_on = g.goes_on r.undone;
          wrong = λ b.
              let lines : flat_map line (before ++ piece ∷ []) ≡ first_lines n text =
              ap (flat_map line) (sym (with_next before piece (q ∷ qs) text n parts (omega (arith, r.number, counted)))) in
              let reach = reaches (before ++ piece ∷ []) (same_bytes lines b) lacks in
              none_some reach.reached (sym nothing ∙ reach.by_lines);
        }

record Split (k : ℕ) (ps : List (List ℕ)) : Type 0 where
  piece : List ℕ
  next : List ℕ
  behind : List (List ℕ)
  parts : ps ≡ take k ps ++ piece ∷ next ∷ behind

split_at : (k : ℕ) (ps : List (List ℕ)) → k + 1 < length ps → Split k ps
split_at k [] h = absurd (omega (arith, h))
split_at zero (p ∷ []) h = absurd (omega (arith, h))
split_at zero (p ∷ q ∷ qs) h = record { piece = p; next = q; behind = qs; parts = refl }
split_at (suc k) (p ∷ ps) h =
    let s = split_at k ps (omega (arith, h)) in
    record { piece = s.piece; next = s.next; behind = s.behind; parts = ap (λ (ps : List (List ℕ)). p ∷ ps) s.parts }

is_wrong_line : (text : List ℕ) (n : ℕ) → IsWrongLine text n → report_in text ≡ Err (faults.Line n)
is_wrong_line text n w =
    let ls : List (List ℕ) = take (n - 1) (pieces_of text) in
    let s = split_at (n - 1) (pieces_of text) (omega (arith, w.counted, w.whole)) in
    let lacks = each_front (Lacks 10) ls (s.piece ∷ s.next ∷ s.behind) (subst (λ (ps : List (List ℕ)). Each (Lacks 10) ps) s.parts (pieces_lack text)) in
    let r = reaches ls w.before lacks in
    let long : length ls ≡ n - 1 = length-take-le (n - 1) (pieces_of text) (omega (arith, w.counted, w.whole)) in
    let number : 1 + length ls ≡ n = omega (arith, long, w.counted) in
    report_is text
    ∙ (ap (report_from 1 places.Title nothing_read) s.parts
    ∙ (through 1 places.Title nothing_read ls s.piece (s.next ∷ s.behind) r.reached r.by_lines
    ∙ by s.piece s.next s.behind s.parts r.reached r.by_lines (not_done r w.goes_on) (omega (arith, long, w.counted)) number
    (taken r.reached.0 r.reached.1 s.piece) refl))
  where
    ls : List (List ℕ)
    ls = take (n - 1) (pieces_of text)

    by : (piece next : List ℕ) (behind : List (List ℕ)) → pieces_of text ≡ ls ++ piece ∷ next ∷ behind → (y : Reached) →
        lines_on places.Title nothing_read ls ≡ Some y →
        is_done y.0 ≡ false → n ≡ length ls + 1 → 1 + length ls ≡ n → (o : Option Reached) → taken y.0 y.1 piece ≡ o →
        report_from (1 + length ls) y.0 y.1 (piece ∷ next ∷ behind) ≡ Err (faults.Line n)
    by piece next behind parts y passed undone long number None t =
        ap (λ (b : Bool). ◌>>=◌ (cond {A = Result Reached ReportFault} b (Err faults.Extra) (line_or_fault (1 + length ls) (taken y.0 y.1 piece)))
        (λ (y : Reached). report_from (1 + length ls + 1) y.0 y.1 (next ∷ behind))) undone
        ∙ (ap (λ (o : Option Reached). ◌>>=◌ (line_or_fault (1 + length ls) o) (λ (y : Reached). report_from (1 + length ls + 1) y.0 y.1 (next ∷ behind))) t
        ∙ ap (λ (k : ℕ). Err (faults.Line k)) number)
    by piece next behind parts y passed undone long number (Some z) t =
        let on : lines_on places.Title nothing_read (ls ++ piece ∷ []) ≡ Some z =
        lines_on_append places.Title nothing_read ls (piece ∷ []) y passed ∙ ap (option_and_then (λ (y : Reached). lines_on y.0 y.1 [])) t in
        let lines : first_lines n text ≡ flat_map line (ls ++ piece ∷ []) = ap (flat_map line) (with_next ls piece (next ∷ behind) text n parts long) in
        absurd (w.wrong (same_bytes lines (opened (ls ++ piece ∷ []) z on).begins))

pub wrong_lines : WrongLinesAreNamed
wrong_lines text n = (λ e. wrong_line text n e, λ w. is_wrong_line text n w)

-- ---- a text that ends before its end

short_only : (k : ℕ) (y : Reached) (piece : List ℕ) → followed k y.0 y.1 piece ≡ Err faults.Short → ⊥
short_only k y piece e = by (is_done y.0) (taken y.0 y.1 piece) e
  where
    by : (d : Bool) (o : Option Reached) → cond {A = Result Reached ReportFault} d (Err faults.Extra) (line_or_fault k o) ≡ Err faults.Short → ⊥
    by true o e = cc
    by false None e = cc
    by false (Some z) e = cc

short_undone : (y : Reached) (piece : List ℕ) → ended y.0 y.1 piece ≡ Err faults.Short → is_done y.0 ≡ false
short_undone y piece e = by (is_done y.0) (length piece == 0) refl e
  where
    by : (d z : Bool) → is_done y.0 ≡ d →
        cond {A = Result Report ReportFault} d (cond {A = Result Report ReportFault} z (Ok y.1) (Err faults.Extra)) (Err faults.Short) ≡ Err faults.Short →
        is_done y.0 ≡ false
    by true true d e = cc
    by true false d e = cc
    by false z d e = d

short : (text : List ℕ) → report_in text ≡ Err faults.Short → IsShort text
short text e =
    let s = some_piece text in
    let at = settled 1 places.Title nothing_read s.0 s.1 (Err faults.Short) (from_pieces text (s.0 ∷ s.1) (Err faults.Short) s.2 e) in
    by at.before at.reached at.piece at.behind at.number (s.2 ∙ at.parts) at.passed at.here
  where
    by : (before : List (List ℕ)) (y : Reached) (piece : List ℕ) (behind : List (List ℕ)) (k : ℕ) → pieces_of text ≡ before ++ piece ∷ behind →
        lines_on places.Title nothing_read before ≡ Some y → Here (Err faults.Short) k y piece behind → IsShort text
    by before y piece [] k parts passed here =
        let g = opened before y passed in
        let front : first_lines (line_count text) text ≡ flat_map line before =
        ap (flat_map line) (front_is before piece [] text (line_count text) parts (omega (arith, ap length parts, length-append before (piece ∷ [])))) in
        record { before = same_bytes front g.begins; goes_on = g.goes_on (short_undone y piece here) }
    by before y piece (q ∷ qs) k parts passed here = absurd (short_only k y piece here)

record SplitLast (k : ℕ) (ps : List (List ℕ)) : Type 0 where
  last : List ℕ
  parts : ps ≡ take k ps ++ last ∷ []

split_last : (k : ℕ) (ps : List (List ℕ)) → length ps ≡ k + 1 → SplitLast k ps
split_last k [] h = absurd (omega (arith, h))
split_last zero (p ∷ []) h = record { last = p; parts = refl }
split_last zero (p ∷ q ∷ qs) h = absurd (omega (arith, h))
split_last (suc k) (p ∷ ps) h = let s = split_last k ps (omega (arith, h)) in record { last = s.last; parts = ap (λ (ps : List (List ℕ)). p ∷ ps) s.parts }

is_short : (text : List ℕ) → IsShort text → report_in text ≡ Err faults.Short
is_short text w =
    let k : ℕ = line_count text in
    let ls : List (List ℕ) = take k (pieces_of text) in
    let some = some_piece text in
    let s = split_last k (pieces_of text) (omega (arith, ap length some.2)) in
    let lacks = each_front (Lacks 10) ls (s.last ∷ []) (subst (λ (ps : List (List ℕ)). Each (Lacks 10) ps) s.parts (pieces_lack text)) in
    let r = reaches ls w.before lacks in
    report_is text
    ∙ (ap (report_from 1 places.Title nothing_read) s.parts
    ∙ (through 1 places.Title nothing_read ls s.last [] r.reached r.by_lines
    ∙ ap (λ (b : Bool). cond {A = Result Report ReportFault} b (cond {A = Result Report ReportFault} (length s.last == 0) (Ok r.reached.1) (Err faults.Extra))
    (Err faults.Short)) (not_done r w.goes_on)))

pub short_texts : ShortTextsAreNamed
short_texts text = (λ e. short text e, λ w. is_short text w)

-- ---- bytes behind the end

extra_done : (k : ℕ) (y : Reached) (piece : List ℕ) → followed k y.0 y.1 piece ≡ Err faults.Extra → is_done y.0 ≡ true
extra_done k y piece e = by (is_done y.0) (taken y.0 y.1 piece) refl e
  where
    by : (d : Bool) (o : Option Reached) → is_done y.0 ≡ d →
        cond {A = Result Reached ReportFault} d (Err faults.Extra) (line_or_fault k o) ≡ Err faults.Extra → is_done y.0 ≡ true
    by true o d e = d
    by false None d e = cc
    by false (Some z) d e = cc

extra_ended : (y : Reached) (piece : List ℕ) → ended y.0 y.1 piece ≡ Err faults.Extra → (is_done y.0 ≡ true) × (piece ≢ [])
extra_ended y piece e = by (is_done y.0) (length piece == 0) refl refl e
  where
    by : (d z : Bool) → is_done y.0 ≡ d → (length piece == 0) ≡ z →
        cond {A = Result Report ReportFault} d (cond {A = Result Report ReportFault} z (Ok y.1) (Err faults.Extra)) (Err faults.Short) ≡ Err faults.Extra →
        (is_done y.0 ≡ true) × (piece ≢ [])
    by true true d z e = cc
    by true false d z e = (d, λ none. true≢false (sym (ap (λ (p : List ℕ). length p == 0) none) ∙ z))
    by false z d f e = cc

extra : (text : List ℕ) → report_in text ≡ Err faults.Extra → HasExtra text
extra text e =
    let s = some_piece text in
    let at = settled 1 places.Title nothing_read s.0 s.1 (Err faults.Extra) (from_pieces text (s.0 ∷ s.1) (Err faults.Extra) s.2 e) in
    by at.before at.reached at.piece at.behind at.number (s.2 ∙ at.parts) at.passed at.here
  where
    whole : (before : List (List ℕ)) (y : Reached) (piece : List ℕ) (behind : List (List ℕ)) → pieces_of text ≡ before ++ piece ∷ behind →
        lines_on places.Title nothing_read before ≡ Some y → is_done y.0 ≡ true → glued (piece ∷ behind) ≢ [] → HasExtra text
    whole before y piece behind parts passed done some =
        let fits : Fits y.0 y.1 (flat_map line before) = lines_fit before places.Title nothing_read [] y (refl, refl) passed in
        let f = done_is_report y.1 (flat_map line before) (subst (λ (p : NextLine). Fits p y.1 (flat_map line before)) (done_is y.0 done) fits) in
        record {
          report = y.1;
          has_text = f.0;
          rest = glued (piece ∷ behind);
          more = some;
          spells = sym (glued_pieces text) ∙ (ap glued parts ∙ (glued_front before piece behind ∙ ap (λ (t : List ℕ). t ++ glued (piece ∷ behind)) (sym f.1)));
        }

    by : (before : List (List ℕ)) (y : Reached) (piece : List ℕ) (behind : List (List ℕ)) (k : ℕ) → pieces_of text ≡ before ++ piece ∷ behind →
        lines_on places.Title nothing_read before ≡ Some y → Here (Err faults.Extra) k y piece behind → HasExtra text
    by before y piece [] k parts passed here = let h = extra_ended y piece here in whole before y piece [] parts passed h.0 h.1
    by before y piece (q ∷ qs) k parts passed here =
        whole before y piece (q ∷ qs) parts passed (extra_done k y piece here) (some_bytes piece (glued (q ∷ qs)))

ok_done : (y : Reached) (piece : List ℕ) (all : Report) → ended y.0 y.1 piece ≡ Ok all → (is_done y.0 ≡ true) × (piece ≡ [])
ok_done y piece all e = by (is_done y.0) (length piece == 0) refl refl e
  where
    by : (d z : Bool) → is_done y.0 ≡ d → (length piece == 0) ≡ z →
        cond {A = Result Report ReportFault} d (cond {A = Result Report ReportFault} z (Ok y.1) (Err faults.Extra)) (Err faults.Short) ≡ Ok all →
        (is_done y.0 ≡ true) × (piece ≡ [])
    by true true d z e = (d, nothing_left piece z)
    by true false d z e = cc
    by false z d f e = cc

has_extra : (text : List ℕ) → HasExtra text → report_in text ≡ Err faults.Extra
has_extra text w =
    let s = some_piece (report_text w.report) in
    let at = settled 1 places.Title nothing_read s.0 s.1 (Ok w.report)
    (from_pieces (report_text w.report) (s.0 ∷ s.1) (Ok w.report) s.2 (read_back w.report w.has_text)) in
    by at.before at.reached at.piece at.behind at.number (s.2 ∙ at.parts) at.passed at.here
  where
    by : (before : List (List ℕ)) (y : Reached) (piece : List ℕ) (behind : List (List ℕ)) (k : ℕ) →
        pieces_of (report_text w.report) ≡ before ++ piece ∷ behind →
        lines_on places.Title nothing_read before ≡ Some y → Here (Ok w.report) k y piece behind → report_in text ≡ Err faults.Extra
    by before y piece (q ∷ qs) k parts passed here = absurd here
    by before y piece [] k parts passed here =
        let h = ok_done y piece w.report here in
        let lacks = each_front (Lacks 10) before (piece ∷ []) (subst (λ (ps : List (List ℕ)). Each (Lacks 10) ps) parts (pieces_lack (report_text w.report))) in
        let lines : report_text w.report ≡ flat_map line before =
        sym (glued_pieces (report_text w.report))
        ∙ (ap glued parts ∙ (glued_front before piece [] ∙ (ap (λ (t : List ℕ). flat_map line before ++ t) h.1 ∙ append-nil (flat_map line before)))) in
        let rest = some_piece w.rest in
        let all : pieces_of text ≡ before ++ rest.0 ∷ rest.1 =
        ap pieces_of (w.spells ∙ ap (λ (t : List ℕ). t ++ w.rest) lines)
        ∙ (pieces_again before w.rest lacks ∙ ap (λ (ps : List (List ℕ)). before ++ ps) rest.2) in
        let glue : glued (rest.0 ∷ rest.1) ≡ w.rest = ap glued (sym rest.2) ∙ glued_pieces w.rest in
        report_is text
        ∙ (ap (report_from 1 places.Title nothing_read) all
        ∙ (through 1 places.Title nothing_read before rest.0 rest.1 y passed
        ∙ done_answer (1 + length before) y rest.0 rest.1 h.0 (λ e. w.more (sym glue ∙ e))))

pub extra_bytes : ExtraBytesAreNamed
extra_bytes text = (λ e. extra text e, λ w. has_extra text w)
