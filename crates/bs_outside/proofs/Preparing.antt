-- From the end of a plan to the answer of the job.
use Rattle.std.proofs.Common.{◌≡◌, ◌≢◌, ℕ, true, false, List, [], Option, Some, None, Result, Ok, Err, refl, sym, ◌∙◌, ap}
use Rattle.std.specs.Prelude.{IfOk}
use Rattle.bs_bits.specs.declared.memory.NoMemory.{NoMemory}
use Rattle.bs_outside.specs.Calls.{FetchCall}
use Rattle.bs_outside.specs.declared.file.File.{File}
use Rattle.bs_outside.specs.declared.file.File.TheVariants.{Netlist, Signature, Stimulus, Dump, Report, State, Vcd, Map, Name}
use Rattle.bs_outside.specs.declared.status.Status.{Status}
use Rattle.bs_outside.specs.declared.status.Status.TheVariants as T
use Rattle.bs_outside.specs.declared.reply.Reply.{Reply}
use Rattle.bs_outside.specs.declared.file_fetch.JobFault.{JobFault}
use Rattle.bs_outside.specs.declared.file_fetch.JobFault.TheVariants as S
use Rattle.bs_outside.specs.PlanFiles.{refusal_status, refused_file, is_work_status}
use Rattle.bs_outside.specs.Plan.{Tells, Counts, Plan, ready, refused, faulted}
use Rattle.bs_outside.specs.Walks.{WalksTo, Walks, WalksAlone}
use Rattle.bs_outside.specs.Answers.{RefusesWords}
use Rattle.bs_outside.specs.Asking.{Along, AsksTo, GoesTo}
use Rattle.bs_outside.specs.Prepared.{Prepares, PreparesAlone, Prepared, AnswersStop, IsWork}
use Rattle.bs_outside.proofs.AskingLemmas.{along_none, along_weak}

-- a status of a refusal is of no other kind
pub refused_again : (file : File) → refused_file (refusal_status file) ≡ Some file
refused_again Netlist = refl
refused_again Signature = refl
refused_again Stimulus = refl
refused_again Dump = refl
refused_again Report = refl
refused_again State = refl
refused_again Vcd = refl
refused_again Map = refl
refused_again Name = refl

-- a status of work is no fault, no refusal, and not Words
pub record IsPlain (status : Status) : Type 0 where
  pub read : status ≢ T.ReadFault
  pub write : status ≢ T.WriteFault
  pub words : status ≢ T.Words

pub work_plain : (status : Status) → is_work_status status ≡ true → IsPlain status
work_plain status work = record {
  read = λ e. other T.ReadFault (sym (ap is_work_status e) ∙ work) refl;
  write = λ e. other T.WriteFault (sym (ap is_work_status e) ∙ work) refl;
  words = λ e. other T.Words (sym (ap is_work_status e) ∙ work) refl;
}
  where
    other : (s : Status) → is_work_status s ≡ true → is_work_status s ≡ false → ⊥
    other s a b = cc

pub refusal_plain : (status : Status) (file : File) → status ≡ refusal_status file → IsPlain status
refusal_plain status file is = record {
  read = λ e. none T.ReadFault refl (ap refused_file (sym is ∙ e));
  write = λ e. none T.WriteFault refl (ap refused_file (sym is ∙ e));
  words = λ e. none T.Words refl (ap refused_file (sym is ∙ e));
}
  where
    none : (s : Status) → refused_file s ≡ None → refused_file (refusal_status file) ≡ refused_file s → ⊥
    none s empty same =
        let both : Some file ≡ None = sym (refused_again file) ∙ (same ∙ empty) in
        cc

-- the work that a walk made ready for
work_prepares : {R W T : Type 0} (allows : R → List ℕ → Type 0) (finishes : W → Status → List ℕ →
    Type 0) (told told' : Tells) (before now : Counts) (plan : Plan R W) (view : T → W) (t : T) (answer : Reply) → IsWork finishes →
    WalksTo allows told told' before now plan view (Ok t) → finishes (view t) answer.status answer.text.items →
    Prepares allows finishes told before now (Some plan) answer
work_prepares allows finishes told told' before now plan view t answer kind walks done = record {
  calls = record { outcome = ready (view t); ends = walks.1; answers = done };
  steady = λ _. walks.0.counts;
  no_write = (work_plain answer.status (kind.status (view t) answer.status answer.text.items done)).write;
}

pub prepares_work : {R W T : Type 0} {allows : R → List ℕ → Type 0} {finishes : W → Status → List ℕ → Type 0} {S : Type 0} {held : S →
    Tells} {faults : S → Counts} {leads : S → FetchCall → S → Type 0} {before now : S} {plan : Plan R W} {view : T →
    W} {t : T} (r : Result Reply NoMemory) → IsWork finishes → Walks allows held faults leads before now plan view (Ok t) →
    IfOk r (λ answer. finishes (view t) answer.status answer.text.items) → Prepared allows finishes held faults leads before now (Some plan) r
prepares_work {allows = allows} {finishes = finishes} {held = held} {faults = faults} {before = before} {now = now} {plan = plan} {view = view} {t = t}
    (Ok answer) kind walks done =
    record {
      answer = work_prepares allows finishes (held before) (held now) (faults before) (faults now) plan view t answer kind walks.is done;
      fetches = walks.fetches;
      asked = walks.asked;
      along = record { outcome = ready (view t); along = walks.along; answers = done };
    }
prepares_work {plan = plan} {view = view} {t = t} (Err want) kind walks done = record {
  answer = tt;
  fetches = walks.fetches;
  asked = walks.asked;
  along = along_weak plan walks.fetches (ready (view t)) walks.along;
}

-- a stop of the walk
stop_prepares : {R W T : Type 0} (allows : R → List ℕ → Type 0) (finishes : W → Status → List ℕ →
    Type 0) (told told' : Tells) (before now : Counts) (plan : Plan R W) (view : T → W) (stop : JobFault) (answer : Reply) →
    WalksTo allows told told' before now plan view (Err stop) → AnswersStop stop answer.status answer.text.items →
    Prepares allows finishes told before now (Some plan) answer
stop_prepares allows finishes told told' before now plan view S.NoMemory answer h line = absurd line
stop_prepares allows finishes told told' before now plan view (S.Faulted file) answer h line = record {
  calls = record { outcome = faulted file; ends = h.1; answers = line };
  steady = λ other. absurd (other line.0);
  no_write = λ e. read_no_write (sym line.0 ∙ e);
}
  where
    read_no_write : T.ReadFault ≡ T.WriteFault → ⊥
    read_no_write e = cc
stop_prepares allows finishes told told' before now plan view (S.Refused file why) answer h line = record {
  calls = record { outcome = refused file h.1.0; ends = h.1.2; answers = (line.0, (why.items, h.1.1, line.1)) };
  steady = λ _. h.0.counts;
  no_write = (refusal_plain answer.status file line.0).write;
}

-- what a stopped walk asked for
stop_asks : {R W T : Type 0} (allows : R → List ℕ → Type 0) (finishes : W → Status → List ℕ → Type 0) (plan : Plan R W) (view : T →
    W) (calls : List FetchCall) (stop : JobFault) (status : Status) (text : List ℕ) → GoesTo allows plan view calls (Err stop) →
    AnswersStop stop status text → AsksTo allows finishes plan calls status text
stop_asks allows finishes plan view calls S.NoMemory status text h line = absurd line
stop_asks allows finishes plan view calls (S.Faulted file) status text h line = record { outcome = faulted file; along = h; answers = line }
stop_asks allows finishes plan view calls (S.Refused file why) status text h line =
    record { outcome = refused file h.0; along = h.2; answers = (line.0, (why.items, h.1, line.1)) }

stop_short : {R W T : Type 0} (allows : R → List ℕ → Type 0) (plan : Plan R W) (view : T → W) (calls : List FetchCall) (stop : JobFault) →
    GoesTo allows plan view calls (Err stop) → Along plan calls None
stop_short allows plan view calls S.NoMemory h = h
stop_short allows plan view calls (S.Faulted file) h = along_weak plan calls (faulted file) h
stop_short allows plan view calls (S.Refused file why) h = along_weak plan calls (refused file h.0) h.2

pub prepares_stop : {R W T : Type 0} {allows : R → List ℕ → Type 0} {S : Type 0} {held : S → Tells} {faults : S → Counts} {leads : S → FetchCall → S →
    Type 0} {before now : S} {plan : Plan R W} {view : T → W} {stop : JobFault} (finishes : W → Status → List ℕ → Type 0)
    (r : Result Reply NoMemory) → Walks allows held faults leads before now plan view (Err stop) →
    IfOk r (λ answer. AnswersStop stop answer.status answer.text.items) → Prepared allows finishes held faults leads before now (Some plan) r
prepares_stop {allows = allows} {held = held} {faults = faults} {before = before} {now = now} {plan = plan} {view = view} {stop = stop} finishes
    (Ok answer) walks line =
    record {
      answer = stop_prepares allows finishes (held before) (held now) (faults before) (faults now) plan view stop answer walks.is line;
      fetches = walks.fetches;
      asked = walks.asked;
      along = stop_asks allows finishes plan view walks.fetches stop answer.status answer.text.items walks.along line;
    }
prepares_stop {allows = allows} {plan = plan} {view = view} {stop = stop} finishes (Err want) walks line = record {
  answer = tt;
  fetches = walks.fetches;
  asked = walks.asked;
  along = stop_short allows plan view walks.fetches stop walks.along;
}

-- the same of a plan that asks no shelf
pub alone_work : {R W T : Type 0} {allows : R → List ℕ → Type 0} {finishes : W → Status → List ℕ → Type 0} {plan : Plan R W} {view : T →
    W} {t : T} (r : Result Reply NoMemory) → IsWork finishes → WalksAlone allows plan view (Ok t) →
    IfOk r (λ answer. finishes (view t) answer.status answer.text.items) → IfOk r (PreparesAlone allows finishes plan)
alone_work {allows = allows} {finishes = finishes} {plan = plan} {view = view} {t = t} (Ok answer) kind walks done = record {
  is = λ told before. work_prepares allows finishes told told before before plan view t answer kind (walks.is told before) done;
  along = record { outcome = ready (view t); along = walks.along; answers = done };
}
alone_work (Err want) kind walks done = tt

pub alone_stop : {R W T : Type 0} {allows : R → List ℕ → Type 0} {plan : Plan R W} {view : T → W} {stop : JobFault} (finishes : W → Status → List ℕ →
    Type 0) (r : Result Reply NoMemory) → WalksAlone allows plan view (Err stop) →
    IfOk r (λ answer. AnswersStop stop answer.status answer.text.items) → IfOk r (PreparesAlone allows finishes plan)
alone_stop {allows = allows} {plan = plan} {view = view} {stop = stop} finishes (Ok answer) walks line = record {
  is = λ told before. stop_prepares allows finishes told told before before plan view stop answer (walks.is told before) line;
  along = stop_asks allows finishes plan view [] stop answer.status answer.text.items walks.along line;
}
alone_stop finishes (Err want) walks line = tt

-- a job that asks no shelf, over any shelf
pub prepares_alone : {R W : Type 0} {allows : R → List ℕ → Type 0} {finishes : W → Status → List ℕ → Type 0} {S : Type 0} {held : S →
    Tells} {faults : S → Counts} {leads : S → FetchCall → S → Type 0} {before : S} {plan : Plan R W} (r : Result Reply NoMemory) →
    IfOk r (PreparesAlone allows finishes plan) → Prepared allows finishes held faults leads before before (Some plan) r
prepares_alone {held = held} {faults = faults} {before = before} (Ok answer) h =
    record { answer = h.is (held before) (faults before); fetches = []; asked = refl; along = h.along }
prepares_alone {plan = plan} (Err want) h = record { answer = tt; fetches = []; asked = refl; along = along_none plan }

-- words that are no job
words_prepare : {R W : Type 0} (allows : R → List ℕ → Type 0) (finishes : W → Status → List ℕ →
    Type 0) (told : Tells) (before : Counts) (answer : Reply) → RefusesWords answer.status answer.text.items → Prepares {R =
    R} allows finishes told before before None answer
words_prepare allows finishes told before answer refuses = record {
  calls = refuses;
  steady = λ _ name. refl;
  no_write = λ e. words_no_write (sym refuses.0 ∙ e);
}
  where
    words_no_write : T.Words ≡ T.WriteFault → ⊥
    words_no_write e = cc

pub prepares_words : {R W : Type 0} {allows : R → List ℕ → Type 0} {finishes : W → Status → List ℕ → Type 0} {S : Type 0} {held : S →
    Tells} {faults : S → Counts} {leads : S → FetchCall → S → Type 0} {before : S} (r : Result Reply NoMemory) →
    IfOk r (λ answer. RefusesWords answer.status answer.text.items) → Prepared {R =
    R} allows finishes held faults leads before before None r
prepares_words {allows = allows} {finishes = finishes} {held = held} {faults = faults} {before = before} (Ok answer) h =
    record { answer = words_prepare allows finishes (held before) (faults before) answer h; fetches = []; asked = refl; along = (refl, h) }
prepares_words (Err want) h = record { answer = tt; fetches = []; asked = refl; along = refl }

-- words that could not be read because memory ran out
pub prepares_nothing : {R W : Type 0} {allows : R → List ℕ → Type 0} {finishes : W → Status → List ℕ → Type 0} {S : Type 0} {held : S →
    Tells} {faults : S → Counts} {leads : S → FetchCall → S → Type 0} {before : S} {want : NoMemory} (plan : Option (Plan R W)) →
    Prepared allows finishes held faults leads before before plan (Err want)
prepares_nothing None = record { answer = tt; fetches = []; asked = refl; along = refl }
prepares_nothing (Some plan) = record { answer = tt; fetches = []; asked = refl; along = along_none plan }
