-- One refusal with two texts, and a walk along a plan that both see.
use Rattle.std.proofs.Common.{◌≡◌, ◌∙◌, ◌++◌, ap, ℕ, List, [], ◌∷◌, Option, Some, None, Result, Ok, Err, Vec, refl, sym, subst}
use Rattle.std.specs.declared.alloc.Global.{Global}
use Rattle.bs_bits.specs.declared.memory.NoMemory.{NoMemory as WantsMemory}
use Rattle.bs_outside.specs.Calls.{FetchCall}
use Rattle.bs_outside.specs.declared.file.File.{File}
use Rattle.bs_outside.specs.declared.file_fetch.Refusal.{Refusal}
use Rattle.bs_outside.specs.declared.file_fetch.Refusal.TheVariants as Q
use Rattle.bs_outside.specs.Plan.{Tells, Counts, Plan, end, ◌>>=◌, Reason, Says, fetched, read_as}
use Rattle.bs_outside.specs.Walks.{FetchedTo, Reads, Walks, settled}
use Rattle.bs_outside.specs.declared.file_fetch.JobFault.{JobFault}
use Rattle.bs_outside.proofs.Walking.{fetch_walks, reads_walk, walks_stop, walks_then}
use Rattle.bs_outside.proofs.AskingLemmas.{in_turn_then, file_goes, read_goes, stop_goes, then_goes}
use Rattle.bs_outside.specs.Diagnostic.{both_of, settled_diagnostic, word_refusal, worded, line_stop, lined, refusal_in, note_refusal, noted, fault_in, note_stop, note_seen}
use Rattle.bs_outside.specs.Telling.{WalksDiagnosed}
use Rattle.bs_outside.specs.declared.diagnostic.Unread.{Unread}
use Rattle.bs_outside.specs.declared.diagnostic.Unread.TheVariants as U
use Rattle.bs_outside.specs.declared.diagnostic.WalkStop.{WalkStop}
use Rattle.bs_outside.specs.declared.diagnostic.WalkStop.TheVariants as K

-- ---- both texts of one refusal

pub word_both : (words : Refusal) (note : Result (Vec ℕ Global) WantsMemory) → word_refusal (both_of words note) ≡ words
word_both Q.NoMemory note = refl
word_both (Q.Why why) note = refl

-- where memory ran out, both say so
pub both_want : (words : Refusal) (note : Result (Vec ℕ Global) WantsMemory) (unread : Unread) → unread ≡ both_of words note → words ≡ Q.NoMemory →
    unread ≡ U.NoMemory
both_want words note unread e want = e ∙ ap (λ (w : Refusal). both_of w note) want

-- ---- a walk, with the line and the note of what stops it

line_settled : {T : Type 0} (file : File) (r : Result T Unread) → lined (settled_diagnostic file r) ≡ settled file (worded r)
line_settled file (Ok v) = refl
line_settled file (Err U.NoMemory) = refl
line_settled file (Err (U.Refused told)) = refl

note_settled : {T : Type 0} (file : File) (r : Result T Unread) → note_seen (settled_diagnostic file r) ≡ settled file (noted r)
note_settled file (Ok v) = refl
note_settled file (Err U.NoMemory) = refl
note_settled {T = T} file (Err (U.Refused told)) = by told.note
  where
    failing : JobFault → Result T JobFault
    failing fault = Err fault

    unread : Refusal → Result T Refusal
    unread refusal = Err refusal

    by : (note : Option (Vec ℕ Global)) → failing (fault_in file note) ≡ settled file (unread (refusal_in note))
    by None = refl
    by (Some n) = refl

-- the walk as the line sees it, and as the note does
pub line_walks : {S R T V : Type 0} {says notes : R → List ℕ → Type 0} {held : S → Tells} {faults : S → Counts} {leads : S → FetchCall → S → Type 0}
    {before now : S} {plan : Plan R V} {view : T → V} {result : Result T WalkStop} →
    WalksDiagnosed says notes held faults leads before now plan view result → Walks says held faults leads before now plan view (lined result)
line_walks h = record { is = h.line; fetches = h.fetches; asked = h.asked; along = h.line_along }

pub line_walked : {S R T V : Type 0} {says notes : R → List ℕ → Type 0} {held : S → Tells} {faults : S → Counts} {leads : S → FetchCall → S → Type 0}
    {before now : S} {plan : Plan R V} {view : T → V} {result : Result T WalkStop} (line : Result T JobFault) → line ≡ lined result →
    WalksDiagnosed says notes held faults leads before now plan view result → Walks says held faults leads before now plan view line
line_walked {says = says} {held = held} {faults = faults} {leads = leads} {before = before} {now = now} {plan = plan} {view = view} line e h =
    subst (Walks says held faults leads before now plan view) (sym e) (line_walks h)

pub note_walks : {S R T V : Type 0} {says notes : R → List ℕ → Type 0} {held : S → Tells} {faults : S → Counts} {leads : S → FetchCall → S → Type 0}
    {before now : S} {plan : Plan R V} {view : T → V} {result : Result T WalkStop} →
    WalksDiagnosed says notes held faults leads before now plan view result → Walks notes held faults leads before now plan view (note_seen result)
note_walks h = record { is = h.note; fetches = h.fetches; asked = h.asked; along = h.note_along }

-- a stop in the first part is the whole walk's
pub diagnosed_stop : {S R A B T U : Type 0} {says notes : R → List ℕ → Type 0} {held : S → Tells} {faults : S → Counts}
    {leads : S → FetchCall → S → Type 0} {before now : S} {plan : Plan R A} {view : T → A} {next_view : U → B} {stop : WalkStop} (f : A → Plan R B) →
    WalksDiagnosed says notes held faults leads before now plan view (Err stop) →
    WalksDiagnosed says notes held faults leads before now (plan >>= f) next_view (Err stop)
diagnosed_stop {says = says} {notes = notes} {plan = plan} {view = view} {next_view = next_view} {stop = stop} f h = record {
  line = (walks_stop {next_view = next_view} f (line_walks h)).is;
  note = (walks_stop {next_view = next_view} f (note_walks h)).is;
  fetches = h.fetches;
  asked = h.asked;
  line_along = stop_goes says plan f view next_view h.fetches (line_stop stop) h.line_along;
  note_along = stop_goes notes plan f view next_view h.fetches (note_stop stop) h.note_along;
}

-- a part that went to its end, and then the rest
pub diagnosed_then : {S R A B T U : Type 0} {says notes : R → List ℕ → Type 0} {held : S → Tells} {faults : S → Counts}
    {leads : S → FetchCall → S → Type 0} {before mid now : S} {plan : Plan R A} {view : T → A} {a : T} {next_view : U → B} {result : Result U WalkStop}
    (f : A → Plan R B) → WalksDiagnosed says notes held faults leads before mid plan view (Ok a) →
    WalksDiagnosed says notes held faults leads mid now (f (view a)) next_view result →
    WalksDiagnosed says notes held faults leads before now (plan >>= f) next_view result
diagnosed_then {says = says} {notes = notes} {leads = leads} {before = before} {mid = mid} {now = now} {plan = plan} {view = view} {a = a} {next_view =
    next_view} {result = result} f first h =
    record {
      line = (walks_then f (line_walks first) (line_walks h)).is;
      note = (walks_then f (note_walks first) (note_walks h)).is;
      fetches = first.fetches ++ h.fetches;
      asked = in_turn_then leads before mid now first.fetches h.fetches first.asked h.asked;
      line_along = then_goes says plan f (view a) next_view first.fetches h.fetches (lined result) first.line_along h.line_along;
      note_along = then_goes notes plan f (view a) next_view first.fetches h.fetches (note_seen result) first.note_along h.note_along;
    }

-- the end of a plan
pub diagnosed_end : {S R B U : Type 0} {says notes : R → List ℕ → Type 0} {held : S → Tells} {faults : S → Counts} {leads : S → FetchCall → S → Type 0}
    {before : S} {view : U → B} {u : U} → WalksDiagnosed says notes held faults leads before before (end (view u)) view (Ok u)
diagnosed_end {held = held} {faults = faults} {leads = leads} {before = before} {view = view} {u = u} = record {
  line = (record { told = λ n. refl; counts = λ n. refl }, refl);
  note = (record { told = λ n. refl; counts = λ n. refl }, refl);
  fetches = [];
  asked = refl;
  line_along = (refl, refl);
  note_along = (refl, refl);
}

-- a file came, or its fetch stops the walk
pub diagnosed_fetched : {S R : Type 0} {says notes : R → List ℕ → Type 0} {held : S → Tells} {faults : S → Counts} {leads : S → FetchCall → S → Type 0}
    {before now : S} {file : File} {name : List ℕ} (result : Result (Vec ℕ Global) JobFault) (told : Result (Vec ℕ Global) WalkStop) →
    lined told ≡ result → note_seen told ≡ result → FetchedTo held faults leads before now file name result →
    WalksDiagnosed says notes held faults leads before now (fetched file name) (λ (b : Vec ℕ Global). b.items) told
diagnosed_fetched {says = says} {notes = notes} {held = held} {faults = faults} {before = before} {now = now} {file = file} {name = name} result told line note h = record {
  line = rw line (fetch_walks {allows = says} h).is;
  note = rw note (fetch_walks {allows = notes} h).is;
  fetches = h.call ∷ [];
  asked = (now, h.asked, refl);
  line_along = rw line (file_goes says (held before) (held now) (faults before) (faults now) file name h.call result h.is h.answer);
  note_along = rw note (file_goes notes (held before) (held now) (faults before) (faults now) file name h.call result h.is h.answer);
}

-- a file whose fetch stops the walk
pub diagnosed_fetch_stop : {S R B U : Type 0} {says notes : R → List ℕ → Type 0} {held : S → Tells} {faults : S → Counts}
    {leads : S → FetchCall → S → Type 0} {before now : S} {file : File} {name : List ℕ} {next_view : U → B} {stop : JobFault} (f : List ℕ → Plan R B) →
    FetchedTo held faults leads before now file name (Err stop) →
    WalksDiagnosed says notes held faults leads before now (fetched file name >>= f) next_view (Err (K.Plain stop))
diagnosed_fetch_stop {stop = stop} f h = diagnosed_stop f (diagnosed_fetched (Err stop) (Err (K.Plain stop)) refl refl h)

-- what a reader answers
pub diagnosed_read : {S R T V : Type 0} {says notes : R → List ℕ → Type 0} {held : S → Tells} {faults : S → Counts} {leads : S → FetchCall → S → Type 0}
    {before : S} {view : T → V} {result : Result T WalkStop} (file : File) (wanted : Result V (Reason R)) (r : Result T Unread) →
    result ≡ settled_diagnostic file r → Reads says view wanted (worded r) → Reads notes view wanted (noted r) →
    WalksDiagnosed says notes held faults leads before before (read_as file wanted) view result
diagnosed_read {says = says} {notes = notes} {held = held} {faults = faults} {leads = leads} {before = before} {view = view} {result = result}
    file wanted r settles words note =
    let line_is : lined result ≡ settled file (worded r) = ap lined settles ∙ line_settled file r in
    let note_is : note_seen result ≡ settled file (noted r) = ap note_seen settles ∙ note_settled file r in
    record {
      line = (reads_walk {held = held} {faults = faults} {leads = leads} {before = before} file wanted (worded r) line_is words).is;
      note = (reads_walk {held = held} {faults = faults} {leads = leads} {before = before} file wanted (noted r) note_is note).is;
      fetches = [];
      asked = refl;
      line_along = rw line_is (read_goes says file wanted view (worded r) words);
      note_along = rw note_is (read_goes notes file wanted view (noted r) note);
    }

-- a file that is fetched and then read
pub diagnosed_reads : {S R T V : Type 0} {says notes : R → List ℕ → Type 0} {held : S → Tells} {faults : S → Counts} {leads : S → FetchCall → S → Type 0}
    {before now : S} {file : File} {name : List ℕ} {bytes : Vec ℕ Global} {view : T → V} {result : Result T WalkStop} (read : List ℕ →
    Result V (Reason R)) (text : List ℕ) (r : Result T Unread) → text ≡ bytes.items → result ≡ settled_diagnostic file r →
    FetchedTo held faults leads before now file name (Ok bytes) → Reads says view (read text) (worded r) → Reads notes view (read text) (noted r) →
    WalksDiagnosed says notes held faults leads before now (fetched file name >>= (λ b. read_as file (read b))) view result
diagnosed_reads {says = says} {notes = notes} {file = file} {bytes = bytes} {view = view} read text r same settles so_far words note =
    diagnosed_then (λ b. read_as file (read b)) (diagnosed_fetched (Ok bytes) (Ok bytes) refl refl so_far)
    (diagnosed_read file (read bytes.items) r settles (subst (λ (b : List ℕ). Reads says view (read b) (worded r)) same words)
    (subst (λ (b : List ℕ). Reads notes view (read b) (noted r)) same note))
