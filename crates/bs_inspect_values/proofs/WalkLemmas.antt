-- A walk along a plan: out of memory at any place, a file that is fetched and then the rest, and equal plans.
use Rattle.std.proofs.Common.{◌≡◌, ℕ, List, [], Result, Ok, Err, refl, subst, sym, Vec}
use Rattle.std.specs.Result.{IfErr, IfOk, OnOk}
use Rattle.std.specs.declared.alloc.Global.{Global}
use Rattle.bs_outside.specs.Calls.{FetchCall}
use Rattle.bs_outside.specs.declared.file.File.{File}
use Rattle.bs_outside.specs.declared.file_fetch.JobFault.TheVariants.{NoMemory}
use Rattle.bs_outside.specs.declared.diagnostic.WalkStop.{WalkStop}
use Rattle.bs_outside.specs.declared.diagnostic.WalkStop.TheVariants as K
use Rattle.bs_outside.specs.declared.diagnostic.Unread.{Unread}
use Rattle.bs_outside.specs.declared.diagnostic.Unread.TheVariants as U
use Rattle.bs_outside.specs.Plan.{Tells, Counts, Plan, Reason, ◌>>=◌, end, fetched, read_as}
use Rattle.bs_outside.specs.Telling.{WalksDiagnosed}
use Rattle.bs_outside.specs.Diagnostic.{note_refusal, settled_diagnostic, word_refusal}
use Rattle.bs_outside.specs.Walks.{FetchedTo, Reads}
use Rattle.bs_outside.proofs.AskingLemmas.{along_none}
use Rattle.bs_outside.proofs.TellingLemmas.{diagnosed_end, diagnosed_fetched, diagnosed_read, diagnosed_stop, diagnosed_then}

-- memory ran out before anything was asked for
pub diagnosed_want : {S R V U : Type 0} {says notes : R → List ℕ → Type 0} {held : S → Tells} {faults : S → Counts}
    {leads : S → FetchCall → S → Type 0} {before : S} {view : U → V} (plan : Plan R V) →
    WalksDiagnosed says notes held faults leads before before plan view (Err (K.Plain NoMemory))
diagnosed_want plan = record {
  line = record { told = λ n. refl; counts = λ n. refl };
  note = record { told = λ n. refl; counts = λ n. refl };
  fetches = [];
  asked = refl;
  line_along = along_none plan;
  note_along = along_none plan;
}

-- what a plan of something walks to, where that is this
pub diagnosed_with : {S R A B U : Type 0} {says notes : R → List ℕ → Type 0} {held : S → Tells} {faults : S → Counts}
    {leads : S → FetchCall → S → Type 0} {before now : S} {view : U → B} {result : Result U WalkStop} (plan : A → Plan R B) (a b : A) → a ≡ b →
    WalksDiagnosed says notes held faults leads before now (plan a) view result →
    WalksDiagnosed says notes held faults leads before now (plan b) view result
diagnosed_with {A = A} {says = says} {notes = notes} {held = held} {faults = faults} {leads = leads} {before = before} {now = now} {view = view}
    {result = result} plan a b is h =
    subst (λ (x : A). WalksDiagnosed says notes held faults leads before now (plan x) view result) is h

-- a file that is fetched, and then the rest
pub diagnosed_fetch_then : {S R B U : Type 0} {says notes : R → List ℕ → Type 0} {held : S → Tells} {faults : S → Counts}
    {leads : S → FetchCall → S → Type 0} {before mid now : S} {file : File} {name : List ℕ} {bytes : Vec ℕ Global} {view : U → B}
    {result : Result U WalkStop} (f : List ℕ → Plan R B) (text : List ℕ) → text ≡ bytes.items →
    FetchedTo held faults leads before mid file name (Ok bytes) →
    WalksDiagnosed says notes held faults leads mid now (f text) view result →
    WalksDiagnosed says notes held faults leads before now (fetched file name >>= f) view result
diagnosed_fetch_then {bytes = bytes} f text same so_far rest =
    diagnosed_then f (diagnosed_fetched (Ok bytes) (Ok bytes) refl refl so_far) (diagnosed_with f text bytes.items same rest)

-- a reader that refuses a file stops the walk, whatever was to come of it
pub diagnosed_refused : {S R T V B U : Type 0} {says notes : R → List ℕ → Type 0} {held : S → Tells} {faults : S → Counts}
    {leads : S → FetchCall → S → Type 0} {before : S} {next_view : U → B} (view : T → V) (file : File) (wanted : Result V (Reason R))
    (f : V → Plan R B) (unread : Unread) → Reads {T = T} says view wanted (Err (word_refusal unread)) →
    Reads {T = T} notes view wanted (Err (note_refusal unread)) →
    WalksDiagnosed says notes held faults leads before before (read_as file wanted >>= f) next_view (settled_diagnostic {T = U} file (Err unread))
diagnosed_refused {T = T} view file wanted f U.NoMemory words note =
    diagnosed_stop f (diagnosed_read {T = T} {view = view} file wanted (Err U.NoMemory) refl words note)
diagnosed_refused {T = T} view file wanted f (U.Refused diagnostic) words note =
    diagnosed_stop f (diagnosed_read {T = T} {view = view} file wanted (Err (U.Refused diagnostic)) refl words note)

-- the walk is over with this
pub diagnosed_ends : {S R B U : Type 0} {says notes : R → List ℕ → Type 0} {held : S → Tells} {faults : S → Counts}
    {leads : S → FetchCall → S → Type 0} {before : S} (view : U → B) (wanted : B) (u : U) → view u ≡ wanted →
    WalksDiagnosed says notes held faults leads before before (end wanted) view (Ok u)
diagnosed_ends {says = says} {notes = notes} {held = held} {faults = faults} {leads = leads} {before = before} view wanted u is =
    subst (λ w. WalksDiagnosed says notes held faults leads before before (end w) view (Ok u)) is (diagnosed_end {view = view} {u = u})

-- the same, unless memory ran out for it
pub diagnosed_put : {S R B U : Type 0} {says notes : R → List ℕ → Type 0} {held : S → Tells} {faults : S → Counts}
    {leads : S → FetchCall → S → Type 0} {before : S} (got wanted : B) (r : Result U WalkStop) → OnOk r (got ≡ wanted) →
    IfErr r (λ stop. stop ≡ K.Plain NoMemory) → WalksDiagnosed says notes held faults leads before before (end wanted) (λ _. got) r
diagnosed_put {U = U} got wanted (Ok u) is want = diagnosed_ends (λ (x : U). got) wanted u is
diagnosed_put {U = U} {says = says} {notes = notes} {held = held} {faults = faults} {leads = leads} {before = before} got wanted (Err stop) is want =
    subst (λ (s : WalkStop). WalksDiagnosed {T = U} says notes held faults leads before before (end wanted) (λ _. got) (Err s)) (sym want)
    (diagnosed_want (end wanted))

-- what holds of a reader's answer holds of the walk's
pub settled_if : {T : Type 0} (P : T → Type 0) (file : File) (r : Result T Unread) → IfOk r P → IfOk (settled_diagnostic file r) P
settled_if P file (Ok x) h = h
settled_if P file (Err U.NoMemory) h = tt
settled_if P file (Err (U.Refused diagnostic)) h = tt
