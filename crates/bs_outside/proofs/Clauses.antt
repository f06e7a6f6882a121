-- The clauses of a call that does a job, from the answer that was prepared and what was delivered.
use Rattle.std.proofs.Common.{◌≡◌, ◌≢◌, ◌↔◌, ℕ, true, refl, List, Option, Some, None, Ok, Err, sym, ◌∙◌, ap, subst, codes}
use Rattle.std.specs.Prelude.{IfSome}
use Rattle.std.specs.Io.KnownBytes.{Appends}
use Rattle.bs_bits.specs.declared.memory.NoMemory.{NoMemory}
use Rattle.bs_outside.specs.Calls.{FetchCall, PutCall}
use Rattle.bs_outside.specs.declared.file.File.{File}
use Rattle.bs_outside.specs.declared.file.File.TheVariants.{Netlist, Signature, Stimulus, Dump, Report, State, Vcd, Map, Name}
use Rattle.bs_outside.specs.declared.status.Status.{Status}
use Rattle.bs_outside.specs.declared.status.Status.TheVariants.{Words, ReadFault, WriteFault}
use Rattle.bs_outside.specs.declared.reply.Reply.{Reply}
use Rattle.bs_outside.specs.PlanFiles.{refusal_line, refusal_status, refused_file, is_work_status}
use Rattle.bs_outside.specs.Plan.{Tells, Counts, Reason, Plan, PlanOutcome, ready, refused, faulted, Ends, told_end}
use Rattle.bs_outside.specs.Answers.{Answers, CallsFor, CallsByTold}
use Rattle.bs_outside.specs.Prepared.{Prepares, Prepared, IsWork}
use Rattle.bs_outside.specs.Delivery.{Delivers, PutsLines}
use Rattle.bs_outside.specs.Clauses.{Answered, AnsweredAsTold, AnsweredWhole, CallByCall, CallsWanting, FailedToRead, ReadFaultOf, IsCalm, IsWordsOnlyFor}
use Rattle.bs_outside.specs.Clauses.{Refuses, RefusesFirstOf}
use Rattle.bs_outside.proofs.Plans.{ready_in, refused_in, faulted_in, ends_as_told, ends_by_fault}
use Rattle.bs_outside.proofs.Preparing.{IsPlain, work_plain, refusal_plain, refused_again}
use Rattle.std.specs.Option.{option_map}

if_some_weaker : {A : Type 0} (o : Option A) (P Q : A → Type 0) → ((a : A) → P a → Q a) → IfSome o P → IfSome o Q
if_some_weaker None P Q step h = h
if_some_weaker (Some a) P Q step h = step a h

-- whatever the files are
pub answered : {R W : Type 0} {allows : R → List ℕ → Type 0} {finishes : W → Status → List ℕ →
    Type 0} {told : Tells} {before now : Counts} {plan : Option (Plan R W)} {answer : Reply} {w0 w1 : Option (List ℕ)} {f0 f1 : ℕ} {status : Status} →
    Prepares allows finishes told before now plan answer → Delivers answer.status answer.text.items w0 w1 f0 f1 status →
    Answered allows finishes told before now plan w0 w1 status
answered {answer = answer} made sent = record {
  called_for = answer.status;
  text = answer.text.items;
  calls = made.calls;
  part = sent.part;
  wrote = sent.wrote;
  whole = sent.whole;
  cut = sent.cut;
}

-- but for a read fault, the answer is the one by what the shelf tells
calls_by_told : {R W : Type 0} (allows : R → List ℕ → Type 0) (finishes : W → Status → List ℕ →
    Type 0) (told : Tells) (before now : Counts) (plan : Option (Plan R W)) (status : Status) (text : List ℕ) →
    CallsFor allows finishes told before now plan status text → status ≢ ReadFault → CallsByTold allows finishes told plan status text
calls_by_told allows finishes told before now None status text h calm = h
calls_by_told {R = R} {W = W} allows finishes told before now (Some plan) status text h calm =
    let no_fault : (file : File) → h.outcome ≢ faulted file =
    λ file is. calm (subst (λ (o : PlanOutcome R W). Answers allows finishes o status text) is h.answers).0 in
    if_some_weaker (told_end told plan) (λ o. h.outcome ≡ o) (λ o. Answers allows finishes o status text)
    (λ o is. subst (λ (o' : PlanOutcome R W). Answers allows finishes o' status text) is h.answers) (ends_as_told told before now plan h.outcome h.ends no_fault)

pub answered_as_told : {R W : Type 0} {allows : R → List ℕ → Type 0} {finishes : W → Status → List ℕ →
    Type 0} {told : Tells} {before now : Counts} {plan : Option (Plan R W)} {answer : Reply} {w0 w1 : Option (List ℕ)} {f0 f1 : ℕ} {status : Status} →
    Prepares allows finishes told before now plan answer → Delivers answer.status answer.text.items w0 w1 f0 f1 status → status ≢ ReadFault →
    status ≢ WriteFault → AnsweredAsTold allows finishes told plan w0 w1 status
answered_as_told {allows = allows} {finishes = finishes} {told = told} {before = before} {now = now} {plan = plan} {answer = answer} {w0 = w0} {w1 =
    w1} {status = status} made sent read write =
    let whole = sent.whole write in
    record {
      text = answer.text.items;
      calls =
          subst (λ s. CallsByTold allows finishes told plan s answer.text.items) (sym whole.0)
          (calls_by_told allows finishes told before now plan answer.status answer.text.items made.calls (λ e. read (whole.0 ∙ e)));
      wrote = subst (λ (l : List ℕ). Appends w0 w1 l) whole.1 sent.wrote;
    }

-- ---- faults

-- only a fault is answered by ReadFault
answers_plain : {R W : Type 0} (allows : R → List ℕ → Type 0) (finishes : W → Status → List ℕ →
    Type 0) (outcome : PlanOutcome R W) (status : Status) (text : List ℕ) → IsWork finishes → Answers allows finishes outcome status text →
    ((file : File) → outcome ≢ faulted file) → IsPlain status
answers_plain allows finishes (ready work) status text kind h calm = work_plain status (kind.status work status text h)
answers_plain allows finishes (refused file why) status text kind h calm = refusal_plain status file h.0
answers_plain allows finishes (faulted file) status text kind h calm = absurd (calm file refl)

failed : {R W : Type 0} (allows : R → List ℕ → Type 0) (finishes : W → Status → List ℕ →
    Type 0) (told : Tells) (before now : Counts) (plan : Plan R W) (outcome : PlanOutcome R W) (w0 w1 : Option (List ℕ)) (status : Status)
    (text : List ℕ) → IsWork finishes → Ends told before now plan outcome → Answers allows finishes outcome status text → status ≡ ReadFault →
    Appends w0 w1 text → FailedToRead told before now plan w0 w1
failed allows finishes told before now plan (ready work) w0 w1 status text kind ends h is wrote =
    absurd ((answers_plain allows finishes (ready work) status text kind h (λ file e. cc)).read is)
failed allows finishes told before now plan (refused file why) w0 w1 status text kind ends h is wrote =
    absurd ((answers_plain allows finishes (refused file why) status text kind h (λ f e. cc)).read is)
failed allows finishes told before now plan (faulted file) w0 w1 status text kind ends h is wrote =
    let f = ends_by_fault told before now plan file ends in
    record {
      wanted = f.wanted;
      reached = f.reached;
      cause = f.cause;
      wrote = subst (λ (l : List ℕ). Appends w0 w1 l) (h.1 ∙ ap (λ (g : File). refusal_line g (codes "ReadFault")) (sym f.is)) wrote;
    }

failed_of : {R W : Type 0} (allows : R → List ℕ → Type 0) (finishes : W → Status → List ℕ →
    Type 0) (told : Tells) (before now : Counts) (plan : Option (Plan R W)) (w0 w1 : Option (List ℕ)) (status : Status) (text : List ℕ) →
    IsWork finishes → CallsFor allows finishes told before now plan status text → status ≡ ReadFault → Appends w0 w1 text →
    ReadFaultOf told before now plan w0 w1
failed_of allows finishes told before now None w0 w1 status text kind h is wrote = absurd (wrong (sym h.0 ∙ is))
  where
    wrong : Words ≡ ReadFault → ⊥
    wrong e = cc
failed_of allows finishes told before now (Some plan) w0 w1 status text kind h is wrote =
    failed allows finishes told before now plan h.outcome w0 w1 status text kind h.ends h.answers is wrote

read_no_write : (status : Status) → status ≡ ReadFault → status ≢ WriteFault
read_no_write status e f = wrong (sym e ∙ f)
  where
    wrong : ReadFault ≡ WriteFault → ⊥
    wrong e = cc

-- a read fault is one of a file of the job
pub read_fault_of : {R W : Type 0} {allows : R → List ℕ → Type 0} {finishes : W → Status → List ℕ →
    Type 0} {told : Tells} {before now : Counts} {plan : Option (Plan R W)} {answer : Reply} {w0 w1 : Option (List ℕ)} {f0 f1 : ℕ} {status : Status} →
    IsWork finishes → Prepares allows finishes told before now plan answer → Delivers answer.status answer.text.items w0 w1 f0 f1 status →
    status ≡ ReadFault → ReadFaultOf told before now plan w0 w1
read_fault_of {allows = allows} {finishes = finishes} {told = told} {before = before} {now = now} {plan = plan} {answer = answer} {w0 = w0} {w1 =
    w1} {status = status} kind made sent is =
    let whole = sent.whole (read_no_write status is) in
    failed_of allows finishes told before now plan w0 w1 answer.status answer.text.items kind made.calls (sym whole.0 ∙ is)
    (subst (λ (l : List ℕ). Appends w0 w1 l) whole.1 sent.wrote)

-- a count of the shelf rose only where a fault is answered
pub read_counted : {R W : Type 0} {allows : R → List ℕ → Type 0} {finishes : W → Status → List ℕ →
    Type 0} {told : Tells} {before now : Counts} {plan : Option (Plan R W)} {answer : Reply} {w0 w1 : Option (List ℕ)} {f0 f1 : ℕ} {status : Status} →
    Prepares allows finishes told before now plan answer → Delivers answer.status answer.text.items w0 w1 f0 f1 status → status ≢ ReadFault →
    status ≢ WriteFault → (name : List ℕ) → now name ≡ before name
read_counted made sent read write name = made.steady (λ e. read ((sent.whole write).0 ∙ e)) name

-- with no fault there is no read fault
no_read_fault : {R W : Type 0} (told : Tells) (before now : Counts) (plan : Option (Plan R W)) (w0 w1 : Option (List ℕ)) (s0 s1 : ℕ) →
    IsCalm told before now plan s0 s1 → ReadFaultOf told before now plan w0 w1 → ⊥
no_read_fault told before now None w0 w1 s0 s1 calm h = h
no_read_fault told before now (Some plan) w0 w1 s0 s1 calm h = calm.files h.wanted h.reached h.cause

-- with no fault, the answer is whole
pub complete : {R W : Type 0} {allows : R → List ℕ → Type 0} {finishes : W → Status → List ℕ →
    Type 0} {told : Tells} {before now : Counts} {plan : Option (Plan R W)} {answer : Reply} {w0 w1 : Option (List ℕ)} {f0 f1 : ℕ} {status : Status} →
    IsWork finishes → Prepares allows finishes told before now plan answer → Delivers answer.status answer.text.items w0 w1 f0 f1 status →
    IsCalm told before now plan f0 f1 → AnsweredAsTold allows finishes told plan w0 w1 status
complete {told = told} {before = before} {now = now} {plan = plan} {w0 = w0} {w1 = w1} {f0 = f0} {f1 = f1} kind made sent calm =
    answered_as_told made sent (λ is. no_read_fault told before now plan w0 w1 f0 f1 calm (read_fault_of kind made sent is)) (λ is. calm.sink (sent.fault is))

-- ---- refusals

-- no outcome of a plan is answered by Words
not_words : {R W : Type 0} (allows : R → List ℕ → Type 0) (finishes : W → Status → List ℕ →
    Type 0) (outcome : PlanOutcome R W) (status : Status) (text : List ℕ) → IsWork finishes → Answers allows finishes outcome status text → status ≢ Words
not_words allows finishes (ready work) status text kind h = (work_plain status (kind.status work status text h)).words
not_words allows finishes (refused file why) status text kind h = (refusal_plain status file h.0).words
not_words allows finishes (faulted file) status text kind h = λ e. wrong (sym h.0 ∙ e)
  where
    wrong : ReadFault ≡ Words → ⊥
    wrong e = cc

words_called : {J R W : Type 0} (allows : R → List ℕ → Type 0) (finishes : W → Status → List ℕ →
    Type 0) (told : Tells) (before now : Counts) (plan_of : J → Plan R W) (job : Option J) (status : Status) (text : List ℕ) → IsWork finishes →
    CallsFor allows finishes told before now (option_map plan_of job) status text → IsWordsOnlyFor job status
words_called allows finishes told before now plan_of None status text kind h = record { refused = λ _. h.0; only = λ _. refl }
words_called allows finishes told before now plan_of (Some job) status text kind h =
    record { refused = λ e. cc; only = λ e. absurd (not_words allows finishes h.outcome status text kind h.answers e) }

pub words_only : {J R W : Type 0} {allows : R → List ℕ → Type 0} {finishes : W → Status → List ℕ →
    Type 0} {told : Tells} {before now : Counts} {answer : Reply} {w0 w1 : Option (List ℕ)} {f0 f1 : ℕ} {status : Status} (plan_of : J → Plan R W)
    (job : Option J) → IsWork finishes → Prepares allows finishes told before now (option_map plan_of job) answer →
    Delivers answer.status answer.text.items w0 w1 f0 f1 status → status ≢ WriteFault → IsWordsOnlyFor job status
words_only {allows = allows} {finishes = finishes} {told = told} {before = before} {now = now} {answer = answer} plan_of job kind made sent write =
    subst (λ s. IsWordsOnlyFor job s) (sym (sent.whole write).0)
    (words_called allows finishes told before now plan_of job answer.status answer.text.items kind made.calls)

-- a status names no file but the one that it refuses
same_file : (file file' : File) → refusal_status file ≡ refusal_status file' → file ≡ file'
same_file file file' e =
    let both : Some file ≡ Some file' = sym (refused_again file) ∙ (ap refused_file e ∙ refused_again file') in
    cc

work_no_file : (status : Status) (file : File) → is_work_status status ≡ true → status ≢ refusal_status file
work_no_file status file work is = none file (ap is_work_status (sym is) ∙ work)
  where
    none : (f : File) → is_work_status (refusal_status f) ≡ true → ⊥
    none Netlist e = cc
    none Signature e = cc
    none Stimulus e = cc
    none Dump e = cc
    none Report e = cc
    none State e = cc
    none Vcd e = cc
    none Map e = cc
    none Name e = cc

-- the status of a refusal comes exactly where the outcome refuses what it names
refuses_exactly : {R W : Type 0} (allows : R → List ℕ → Type 0) (finishes : W → Status → List ℕ →
    Type 0) (outcome : PlanOutcome R W) (status : Status) (text : List ℕ) → IsWork finishes → Answers allows finishes outcome status text →
    (file : File) → (status ≡ refusal_status file) ↔ Refuses outcome file
refuses_exactly allows finishes (ready work) status text kind h file =
    (λ is. absurd (work_no_file status file (kind.status work status text h) is), λ r. absurd (unready r.1))
  where
    unready : {R W : Type 0} {work : W} {file : File} {why : Reason R} → ready_in R W work ≡ refused_in R W file why → ⊥
    unready e = cc
refuses_exactly {R = R} {W = W} allows finishes (refused file' why) status text kind h file =
    (λ is. (why, ap (λ f. refused_in R W f why) (same_file file' file (sym h.0 ∙ is))), λ r. h.0 ∙ ap refusal_status (file_same R W file' file why r.0 r.1))
  where
    file_same : (Q V : Type 0) (f g : File) (y z : Reason Q) → refused_in Q V f y ≡ refused_in Q V g z → f ≡ g
    file_same Q V f g y z e = cc
refuses_exactly allows finishes (faulted file') status text kind h file = (λ is. absurd ((refusal_plain status file is).read h.0), λ r. absurd (unfaulted r.1))
  where
    unfaulted : {R W : Type 0} {f g : File} {why : Reason R} → faulted_in R W f ≡ refused_in R W g why → ⊥
    unfaulted e = cc

refuses_first : {R W : Type 0} (allows : R → List ℕ → Type 0) (finishes : W → Status → List ℕ →
    Type 0) (told : Tells) (before now : Counts) (plan : Option (Plan R W)) (status : Status) (text : List ℕ) → IsWork finishes →
    CallsFor allows finishes told before now plan status text → status ≢ ReadFault → RefusesFirstOf told before now plan status
refuses_first allows finishes told before now None status text kind h read = λ file is. (refusal_plain status file is).words h.0
refuses_first {R = R} {W = W} allows finishes told before now (Some plan) status text kind h read = record {
  exact =
      if_some_weaker (told_end told plan) (λ o. h.outcome ≡ o) (λ o. (file : File) → (status ≡ refusal_status file) ↔ Refuses o file)
      (λ o is. subst (λ (o' : PlanOutcome R W). (file : File) → (status ≡ refusal_status file) ↔ Refuses o' file) is each)
      (ends_as_told told before now plan h.outcome h.ends no_fault);
  some_way = λ file is. let r = (each file).0 is in (r.0, subst (λ (o : PlanOutcome R W). Ends told before now plan o) r.1 h.ends);
}
  where
    each : (file : File) → (status ≡ refusal_status file) ↔ Refuses h.outcome file
    each = refuses_exactly allows finishes h.outcome status text kind h.answers

    no_fault : (file : File) → h.outcome ≢ faulted file
    no_fault file is = read (subst (λ (o : PlanOutcome R W). Answers allows finishes o status text) is h.answers).0

-- each refusal status is exactly the walk's first refusal
pub refuses_first_of : {R W : Type 0} {allows : R → List ℕ → Type 0} {finishes : W → Status → List ℕ →
    Type 0} {told : Tells} {before now : Counts} {plan : Option (Plan R W)} {answer : Reply} {w0 w1 : Option (List ℕ)} {f0 f1 : ℕ} {status : Status} →
    IsWork finishes → Prepares allows finishes told before now plan answer → Delivers answer.status answer.text.items w0 w1 f0 f1 status →
    status ≢ ReadFault → status ≢ WriteFault → RefusesFirstOf told before now plan status
refuses_first_of {allows = allows} {finishes = finishes} {told = told} {before = before} {now = now} {plan = plan} {answer = answer} kind made sent read write =
    let whole = sent.whole write in
    subst (λ s. RefusesFirstOf told before now plan s) (sym whole.0)
    (refuses_first allows finishes told before now plan answer.status answer.text.items kind made.calls (λ e. read (whole.0 ∙ e)))

-- ---- whole answers, and calls

-- with no fault the whole text is written, whatever the shelf tells
pub complete_whole : {R W : Type 0} {allows : R → List ℕ → Type 0} {finishes : W → Status → List ℕ →
    Type 0} {told : Tells} {before now : Counts} {plan : Option (Plan R W)} {answer : Reply} {w0 w1 : Option (List ℕ)} {f0 f1 : ℕ} {status : Status} →
    IsWork finishes → Prepares allows finishes told before now plan answer → Delivers answer.status answer.text.items w0 w1 f0 f1 status →
    IsCalm told before now plan f0 f1 → AnsweredWhole allows finishes told before now plan w0 w1 status
complete_whole {allows = allows} {finishes = finishes} {told = told} {before = before} {now = now} {plan = plan} {answer = answer} {w0 = w0} {w1 =
    w1} {f0 = f0} {f1 = f1} {status = status} kind made sent calm =
    record {
      text = answer.text.items;
      calls = subst (λ s. CallsFor allows finishes told before now plan s answer.text.items) (sym whole.0) made.calls;
      wrote = subst (λ (l : List ℕ). Appends w0 w1 l) whole.1 sent.wrote;
      read = λ is. no_read_fault told before now plan w0 w1 f0 f1 calm (read_fault_of kind made sent is);
      write = no_write;
    }
  where
    no_write : status ≢ WriteFault
    no_write is = calm.sink (sent.fault is)

    whole : (status ≡ answer.status) × (sent.part ≡ answer.text.items)
    whole = sent.whole no_write

-- call by call
pub call_by_call : {S K R W : Type 0} {allows : R → List ℕ → Type 0} {finishes : W → Status → List ℕ → Type 0} {held : S → Tells} {faults : S →
    Counts} {leads : S → FetchCall → S → Type 0} {before now : S} {put_leads : K → PutCall → K →
    Type 0} {sink_before sink_now : K} {plan : Option (Plan R W)} {answer : Reply} {w0 w1 : Option (List ℕ)} {f0 f1 : ℕ} {status : Status} →
    Prepared allows finishes held faults leads before now plan (Ok answer) → Delivers answer.status answer.text.items w0 w1 f0 f1 status →
    PutsLines put_leads sink_before sink_now answer.text.items status → CallByCall allows finishes leads before now put_leads sink_before sink_now plan status
call_by_call {answer = answer} made sent lines = record {
  called_for = answer.status;
  text = answer.text.items;
  fetches = made.fetches;
  asked = made.asked;
  along = made.along;
  lines = lines;
  answered = λ write. (sent.whole write).0;
}

pub calls_wanting : {S K R W : Type 0} {allows : R → List ℕ → Type 0} {finishes : W → Status → List ℕ → Type 0} {held : S → Tells} {faults : S →
    Counts} {leads : S → FetchCall → S → Type 0} {before now : S} {sink : K} {plan : Option (Plan R W)} {want : NoMemory} →
    Prepared allows finishes held faults leads before now plan (Err want) → CallsWanting leads before now sink sink plan
calls_wanting made = record { fetches = made.fetches; asked = made.asked; along = made.along; none_put = refl }
