-- One reading behind another, in the words of a refusal line and in those of a note.
use Rattle.std.proofs.Common.{◌≡◌, inl, inr, ℕ, Bool, true, false, List, Option, Some, None, Result, Ok, Err, refl, sym, subst}
use Rattle.std.specs.Prelude.{◌⊎◌, if◌then◌else◌}
use Rattle.bs_bits.specs.Reading.{◌>>=◌}
use Rattle.bs_report.specs.declared.fault.ReportFault.{ReportFault}
use Rattle.bs_report.specs.declared.fault.ReportFault.TheVariants as faults
use Rattle.bs_report.specs.declared.report.Report.{Report}
use Rattle.bs_reach.specs.declared.reach.Reach.{Reach}
use Rattle.bs_reach_answer.specs.Reading.{answer_in}
use Rattle.bs_outside.specs.declared.file_fetch.Refusal.{Refusal}
use Rattle.bs_outside.specs.declared.file_fetch.Refusal.TheVariants as Q
use Rattle.bs_outside.specs.Plan.{Reason, exactly, any_of, Says}
use Rattle.bs_outside.specs.Walks.{Reads}
use Rattle.bs_top_files.specs.Causes.{Case, CheckSays, HasNote, NoteSays, stated, with_reason}
use Rattle.bs_top_files.specs.Refusals.{HasWords, report_words}
use Rattle.bs_reach_answer.specs.Readings.{answer_read, report_or}
use Rattle.bs_reach_answer.specs.Words.{answer_reason}

-- the report that there is
pub some_reads : (reason : Reason Case) (found : Option Report) (report : Report) → Some report ≡ found → report_or reason found ≡ Ok report
some_reads reason found report e = subst (λ (o : Option Report). report_or reason o ≡ Ok report) e refl

-- that there is none
words_of : (these text : List ℕ) (q : Refusal) → HasWords these q →
    Reads {R = Case} {T = Report} CheckSays (λ (r : Report). r) (Err (any_of (stated these text))) (Err q)
words_of these text Q.NoMemory h = tt
words_of these text (Q.Why why) h = h

note_of : (these text : List ℕ) (q : Refusal) → HasNote (exactly text) q →
    Reads {R = Case} {T = Report} NoteSays (λ (r : Report). r) (Err (any_of (stated these text))) (Err q)
note_of these text Q.NoMemory h = tt
note_of these text (Q.Why why) h = h

pub none_words : (these text : List ℕ) (found : Option Report) (q : Refusal) → None ≡ found → HasWords these q →
    Reads CheckSays (λ (r : Report). r) (report_or (any_of (stated these text)) found) (Err q)
none_words these text found q e h =
    subst (λ (o : Option Report). Reads {T = Report} CheckSays (λ (r : Report). r) (report_or (any_of (stated these text)) o) (Err q)) e
    (words_of these text q h)

pub none_note : (these text : List ℕ) (found : Option Report) (q : Refusal) → None ≡ found → HasNote (exactly text) q →
    Reads NoteSays (λ (r : Report). r) (report_or (any_of (stated these text)) found) (Err q)
none_note these text found q e h =
    subst (λ (o : Option Report). Reads {T = Report} NoteSays (λ (r : Report). r) (report_or (any_of (stated these text)) o) (Err q)) e
    (note_of these text q h)

-- a second reading goes on from the value of the first
pub reads_on : {R A B : Type 0} (says : R → List ℕ → Type 0) (wanted : Result A (Reason R)) (next : A → Result B (Reason R)) (a : A)
    (result : Result B Refusal) → wanted ≡ Ok a → Reads says (λ (b : B). b) (next a) result → Reads says (λ (b : B). b) (wanted >>= next) result
reads_on {R} {A} {B} says wanted next a result e h =
    subst (λ (w : Result A (Reason R)). Reads says (λ (b : B). b) (w >>= next) result) (sym e) h

-- and what the first refuses is refused
pub reads_off : {R A B : Type 0} (says : R → List ℕ → Type 0) (wanted : Result A (Reason R)) (next : A → Result B (Reason R)) (q : Refusal) →
    Reads {T = A} says (λ (a : A). a) wanted (Err q) → Reads {T = B} says (λ (b : B). b) (wanted >>= next) (Err q)
reads_off says wanted next Q.NoMemory h = tt
reads_off says (Ok a) next (Q.Why why) h = absurd h
reads_off says (Err reason) next (Q.Why why) h = h

-- a reading by what a text is
pub reads_then : {R B : Type 0} (says : R → List ℕ → Type 0) (is : Bool) (one other : Result B (Reason R)) (result : Result B Refusal) → is ≡ true →
    Reads says (λ (b : B). b) one result → Reads says (λ (b : B). b) (if is then one else other) result
reads_then {R} {B} says is one other result e h =
    subst (λ (z : Bool). Reads says (λ (b : B). b) (if z then one else other) result) (sym e) h

pub reads_else : {R B : Type 0} (says : R → List ℕ → Type 0) (is : Bool) (one other : Result B (Reason R)) (result : Result B Refusal) → is ≡ false →
    Reads says (λ (b : B). b) other result → Reads says (λ (b : B). b) (if is then one else other) result
reads_else {R} {B} says is one other result e h =
    subst (λ (z : Bool). Reads says (λ (b : B). b) (if z then one else other) result) (sym e) h

-- ---- an answer

-- the words of a fault go with the reason
answer_says : (path text : List ℕ) (fault : ReportFault) (why : List ℕ) → why ≡ report_words fault → Says CheckSays (answer_reason path text fault) why
answer_says path text (faults.Line number) why e = e
answer_says path text faults.Short why e = e
answer_says path text faults.Extra why e = e
answer_says path text faults.NoMemory why e = e

abbrev failed : ReportFault → Result Reach ReportFault
failed fault = Err fault

refused_says : (path text : List ℕ) (fault : ReportFault) (refusal : Refusal) → HasWords (report_words fault) refusal →
    Reads {T = Reach} CheckSays (λ (answer : Reach). answer) (with_reason (answer_reason path text) (failed fault)) (Err refusal)
refused_says path text fault Q.NoMemory h = tt
refused_says path text fault (Q.Why why) h = answer_says path text fault why.items h

-- a text that is no answer is refused in the words of its fault
pub answer_words : (path text : List ℕ) (fault : ReportFault) (refusal : Refusal) → (fault ≡ faults.NoMemory) ⊎ (answer_in text ≡ Err fault) →
    HasWords (report_words fault) refusal → (fault ≡ faults.NoMemory → refusal ≡ Q.NoMemory) →
    Reads CheckSays (λ (answer : Reach). answer) (answer_read path text) (Err refusal)
answer_words path text fault refusal (inl none) h want =
    subst (λ (q : Refusal). Reads {T = Reach} CheckSays (λ (answer : Reach). answer) (answer_read path text) (Err q)) (sym (want none)) tt
answer_words path text fault refusal (inr is) h want =
    subst (λ (r : Result Reach ReportFault).
    Reads {T = Reach} CheckSays (λ (answer : Reach). answer) (with_reason (answer_reason path text) r) (Err refusal)) (sym is)
    (refused_says path text fault refusal h)
