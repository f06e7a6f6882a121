-- A plan is followed a file at a time.
use Rattle.std.proofs.Common.{◌≡◌, inl, inr, ℕ, ◌<◌, ◌≤◌, List, [], ◌∷◌, ◌++◌, length, drop, Option, Some, None, Result, Ok, Err, codes, refl, sym}
use Rattle.std.proofs.Common.{◌∙◌, ap, subst, arith, Vec}
use Rattle.std.proofs.lemmas.Bool.{le-ltb, lt-ltb, false≢true}
use Rattle.std.proofs.lemmas.List.{length-take}
use Rattle.std.specs.Prelude.{IfSome, IsSome}
use Rattle.std.specs.Io.{StartsWith, appended_bytes}
use Rattle.std.specs.declared.alloc.Global.{Global}
use Rattle.bs_outside.specs.Calls.{FetchCall}
use Rattle.bs_outside.specs.Faults.{Rose}
use Rattle.std.specs.Option.{option_and_then}
use Rattle.bs_outside.specs.declared.never_failing.SureShelf.{SureShelf}
use Rattle.bs_outside.specs.Files.{sure_count}
use Rattle.bs_outside.specs.Memory.{sure_held, sure_faults}
use Rattle.bs_outside.specs.Fetching.{FetchesAll, FetchesTooMany, CountsFaults}
use Rattle.bs_outside.specs.declared.shelf.Fetch.TheVariants.{Done, Failed, TooLong, NoMemory as Unfilled}
use Rattle.bs_outside.specs.declared.file.File.{File}
use Rattle.bs_outside.specs.declared.file_fetch.Refusal.{Refusal}
use Rattle.bs_outside.specs.declared.file_fetch.Refusal.TheVariants as Q
use Rattle.bs_outside.specs.declared.file_fetch.JobFault.{JobFault}
use Rattle.bs_outside.specs.declared.file_fetch.JobFault.TheVariants as S
use Rattle.bs_outside.specs.PlanFiles.{limit_of}
use Rattle.bs_outside.specs.Plan.{Tells, Counts, Wanted, Comes, Reason, exactly, Says, Plan, fetch, refuse, end, ◌>>=◌, fetched, given_next, with_texts}
use Rattle.bs_outside.specs.Plan.{AllTold, read_as, PlanOutcome, ready, refused, faulted, Ends}
use Rattle.bs_outside.specs.Asking.{AsksFor, CallTo}
use Rattle.bs_outside.specs.Walks.{IsSame, IsLater, IsTooLong, ComesTo, FetchedTo, WalksTo, Walks, WalksAlone, Reads, settled}
use Rattle.bs_outside.proofs.Plans.{ends_along, ends_then, ends_refused, ends_faulted}
use Rattle.bs_outside.proofs.AskingLemmas.{in_turn_then, file_goes, read_goes, stop_goes, then_goes, goes_as, texts_ask_nothing, alone_goes, reason_of}

if_some_weaker : (told : Option (List ℕ)) (P Q : List ℕ → Type 0) → ((all : List ℕ) → P all → Q all) → IfSome told P → IfSome told Q
if_some_weaker None P Q step h = h
if_some_weaker (Some all) P Q step h = step all h

-- ---- the three answers of a fetch

pub fetched_all : (told told' : Tells) (before now : Counts) (file : File) (name old new : List ℕ) (limit : ℕ) → limit ≡ limit_of file → old ≡ [] →
    ((other : List ℕ) → told' other ≡ told other) → FetchesAll (told name) limit old new → CountsFaults before now name Done →
    IsSame told told' before now × Comes told (record { file = file; name = name }) new
fetched_all told told' before now file name old new limit is empty same all counts =
    let new_is : new ≡ all.bytes = all.appended ∙ ap (λ (l : List ℕ). l ++ all.bytes) empty in (
      record { told = same; counts = counts.steady (λ e. cc) },
      record {
        within = omega (arith, all.within, ap length new_is);
        shown =
            subst (λ (l : List ℕ). IfSome (told name) (λ every. every ≡ l)) (sym new_is) all.told;
      },
    )

longer : (limit : ℕ) (bytes every : List ℕ) → limit < length bytes → StartsWith every bytes → limit < length every
longer limit bytes every beyond starts = omega (arith, beyond, ap length starts, length-take (length bytes) every)

pub fetched_long : (told told' : Tells) (before now : Counts) (file : File) (name old new : List ℕ) (limit : ℕ)
    (result : Result (Vec ℕ Global) JobFault) → limit ≡ limit_of file → IsTooLong file result → ((other : List ℕ) → told' other ≡ told other) →
    FetchesTooMany (told name) limit old new → CountsFaults before now name TooLong → ComesTo told told' before now (record { file = file; name = name }) result
fetched_long told told' before now file name old new limit (Ok v) is long same many counts = absurd long
fetched_long told told' before now file name old new limit (Err S.NoMemory) is long same many counts = record { told = same; counts = counts.steady (λ e. cc) }
fetched_long told told' before now file name old new limit (Err (S.Faulted other)) is long same many counts = absurd long
fetched_long told told' before now file name old new limit (Err (S.Refused other why)) is long same many counts = (
  record { told = same; counts = counts.steady (λ e. cc) },
  if_some_weaker (told name) (λ every. StartsWith every many.bytes) (λ every. limit_of file < length every)
      (λ every starts. longer (limit_of file) many.bytes every (omega (arith, many.beyond, is)) starts) many.told,
  long.0,
  long.1,
)

pub fetched_failed : (told told' : Tells) (before now : Counts) (file : File) (name : List ℕ) → ((other : List ℕ) → told' other ≡ told other) →
    CountsFaults before now name Failed → ComesTo told told' before now (record { file = file; name = name }) (Err (S.Faulted file))
fetched_failed told told' before now file name same counts = (record { told = same; counts = counts.later }, counts.failed refl, refl)

pub fetched_none : (told told' : Tells) (before now : Counts) (name : List ℕ) → ((other : List ℕ) → told' other ≡ told other) →
    CountsFaults before now name Unfilled → IsSame told told' before now
fetched_none told told' before now name same counts = record { told = same; counts = counts.steady (λ e. cc) }

-- all was appended to nothing
pub all_appended : (old new : List ℕ) → old ≡ [] → appended_bytes old new ≡ new
all_appended old new none = ap (λ (l : List ℕ). drop (length l) new) none

-- the call for a file that is too long
pub long_call : (file : File) (w : Wanted) (call : FetchCall) (result : Result (Vec ℕ Global) JobFault) → IsTooLong file result → AsksFor w call →
    call.answer ≡ TooLong → CallTo w call result
long_call file w call (Ok v) long asks is = absurd long
long_call file w call (Err S.NoMemory) long asks is = asks
long_call file w call (Err (S.Faulted other)) long asks is = absurd long
long_call file w call (Err (S.Refused other why)) long asks is = (asks, is)

-- a fetch is the plan of one file
fetch_to : {R : Type 0} (allows : R → List ℕ →
    Type 0) (told told' : Tells) (before now : Counts) (file : File) (name : List ℕ) (result : Result (Vec ℕ Global) JobFault) →
    ComesTo told told' before now (record { file = file; name = name }) result →
    WalksTo allows told told' before now (fetched file name) (λ (b : Vec ℕ Global). b.items) result
fetch_to allows told told' before now file name (Ok bytes) h = (h.0, inl (bytes.items, h.1, refl))
fetch_to allows told told' before now file name (Err S.NoMemory) h = h
fetch_to {R = R} allows told told' before now file name (Err (S.Faulted other)) h = (h.0, inr (inr (h.1, ap (λ f. faulted_of R f) h.2)))
  where
    faulted_of : (P : Type 0) → File → PlanOutcome P (List ℕ)
    faulted_of P f = faulted f
fetch_to {R = R} allows told told' before now file name (Err (S.Refused other why)) h =
    (h.0, (exactly (codes "TooLong"), h.3, inr (inl (h.1, ap (λ f. long_of R f) h.2))))
  where
    long_of : (P : Type 0) → File → PlanOutcome P (List ℕ)
    long_of P f = refused f (exactly (codes "TooLong"))

pub fetch_walks : {R : Type 0} {allows : R → List ℕ → Type 0} {S : Type 0} {held : S → Tells} {faults : S → Counts} {leads : S → FetchCall → S →
    Type 0} {before now : S} {file : File} {name : List ℕ} {result : Result (Vec ℕ Global) JobFault} →
    FetchedTo held faults leads before now file name result →
    Walks allows held faults leads before now (fetched file name) (λ (b : Vec ℕ Global). b.items) result
fetch_walks {R} {allows} {S} {held} {faults} {leads} {before} {now} {file} {name} {result} h = record {
  is = fetch_to allows (held before) (held now) (faults before) (faults now) file name result h.is;
  fetches = h.call ∷ [];
  asked = (now, h.asked, refl);
  along = file_goes allows (held before) (held now) (faults before) (faults now) file name h.call result h.is h.answer;
}

-- ---- readers

reads_to : {R T V : Type 0} (allows : R → List ℕ → Type 0) (told : Tells) (before : Counts) (file : File) (wanted : Result V (Reason R)) (view : T →
    V) (r : Result T Refusal) → Reads allows view wanted r → WalksTo allows told told before before (read_as file wanted) view (settled file r)
reads_to {R = R} {V = V} allows told before file wanted view (Ok v) is = (
  record { told = λ n. refl; counts = λ n. refl },
  subst (λ (x : Result V (Reason R)). Ends told before before (read_as file x) (ready (view v))) (sym is) refl,
)
reads_to allows told before file wanted view (Err Q.NoMemory) is = record { told = λ n. refl; counts = λ n. refl }
reads_to {R = R} {V = V} allows told before file wanted view (Err (Q.Why why)) is =
    let r = reason_of wanted (λ reason. Says allows reason why.items) is in (
      record { told = λ n. refl; counts = λ n. refl },
      (r.0, r.1, subst (λ (x : Result V (Reason R)). Ends told before before (read_as file x) (refused file r.0)) (sym r.2) refl),
    )

-- what a reader answers is a plan of its own
pub reads_walk : {R T V : Type 0} {allows : R → List ℕ → Type 0} {S : Type 0} {held : S → Tells} {faults : S → Counts} {leads : S → FetchCall → S →
    Type 0} {before : S} {view : T → V} {result : Result T JobFault} (file : File) (wanted : Result V (Reason R)) (r : Result T Refusal) →
    result ≡ settled file r → Reads allows view wanted r → Walks allows held faults leads before before (read_as file wanted) view result
reads_walk {allows = allows} {held = held} {faults = faults} {before = before} {view = view} file wanted r settles reads = record {
  is = rw settles (reads_to allows (held before) (faults before) file wanted view r reads);
  fetches = [];
  asked = refl;
  along = rw settles (read_goes allows file wanted view r reads);
}

-- ---- one part, and then the next

-- a stop in the first part is the whole plan's
stops_to : {R A B T U : Type 0} (allows : R → List ℕ → Type 0) (told told' : Tells) (before now : Counts) (plan : Plan R A) (f : A →
    Plan R B) (view : T → A) (next_view : U → B) (stop : JobFault) → WalksTo allows told told' before now plan view (Err stop) →
    WalksTo allows told told' before now (plan >>= f) next_view (Err stop)
stops_to allows told told' before now plan f view next_view S.NoMemory h = h
stops_to allows told told' before now plan f view next_view (S.Faulted file) h = (h.0, ends_faulted told before now plan f file h.1)
stops_to allows told told' before now plan f view next_view (S.Refused file why) h = (h.0, (h.1.0, h.1.1, ends_refused told before now plan f file h.1.0 h.1.2))

pub walks_stop : {R A B T U : Type 0} {allows : R → List ℕ → Type 0} {S : Type 0} {held : S → Tells} {faults : S → Counts} {leads : S → FetchCall →
    S → Type 0} {before now : S} {plan : Plan R A} {view : T → A} {next_view : U → B} {stop : JobFault} (f : A → Plan R B) →
    Walks allows held faults leads before now plan view (Err stop) → Walks allows held faults leads before now (plan >>= f) next_view (Err stop)
walks_stop {allows = allows} {held = held} {faults = faults} {before = before} {now = now} {plan = plan} {view = view} {next_view =
    next_view} {stop = stop} f h =
    record {
      is = stops_to allows (held before) (held now) (faults before) (faults now) plan f view next_view stop h.is;
      fetches = h.fetches;
      asked = h.asked;
      along = stop_goes allows plan f view next_view h.fetches stop h.along;
    }

same_then : (told told' told'' : Tells) (before mid now : Counts) → IsSame told told' before mid → IsSame told' told'' mid now → IsSame told told'' before now
same_then told told' told'' before mid now first next = record { told = λ n. next.told n ∙ first.told n; counts = λ n. next.counts n ∙ first.counts n }

later_then : (told told' told'' : Tells) (before mid now : Counts) → IsSame told told' before mid → IsLater told' told'' mid now →
    IsLater told told'' before now
later_then told told' told'' before mid now first next =
    record { told = λ n. next.told n ∙ first.told n; counts = λ n. omega (arith, first.counts n, next.counts n) }

ends_on : {R A B : Type 0} (told told' : Tells) (before mid now : Counts) (plan : Plan R A) (f : A → Plan R B) (a : A) (outcome : PlanOutcome R B) →
    IsSame told told' before mid → ((n : List ℕ) → mid n ≤ now n) → Ends told before mid plan (ready a) → Ends told' mid now (f a) outcome →
    Ends told before now (plan >>= f) outcome
ends_on told told' before mid now plan f a outcome same later first next =
    ends_then told before now plan f a outcome (ends_along told told before before mid now plan (ready a) (λ n. refl) (λ n. refl) later first)
    (ends_along told told' before mid now now (f a) outcome same.told same.counts (λ n. omega arith) next)

then_to : {R A B U : Type 0} (allows : R → List ℕ → Type 0) (told told' told'' : Tells) (before mid now : Counts) (plan : Plan R A) (f : A →
    Plan R B) (a : A) (next_view : U → B) (result : Result U JobFault) → IsSame told told' before mid × Ends told before mid plan (ready a) →
    WalksTo allows told' told'' mid now (f a) next_view result → WalksTo allows told told'' before now (plan >>= f) next_view result
then_to allows told told' told'' before mid now plan f a next_view (Ok u) first h = (
  same_then told told' told'' before mid now first.0 h.0,
  ends_on told told' before mid now plan f a (ready (next_view u)) first.0 (λ n. omega (arith, h.0.counts n)) first.1 h.1,
)
then_to allows told told' told'' before mid now plan f a next_view (Err S.NoMemory) first h = same_then told told' told'' before mid now first.0 h
then_to allows told told' told'' before mid now plan f a next_view (Err (S.Faulted file)) first h =
    (later_then told told' told'' before mid now first.0 h.0, ends_on told told' before mid now plan f a (faulted file) first.0 h.0.counts first.1 h.1)
then_to allows told told' told'' before mid now plan f a next_view (Err (S.Refused file why)) first h = (
  same_then told told' told'' before mid now first.0 h.0,
  (h.1.0, h.1.1, ends_on told told' before mid now plan f a (refused file h.1.0) first.0 (λ n. omega (arith, h.0.counts n)) first.1 h.1.2),
)

-- a part that went to its end, and then the rest
pub walks_then : {R A B T U : Type 0} {allows : R → List ℕ → Type 0} {S : Type 0} {held : S → Tells} {faults : S → Counts} {leads : S → FetchCall →
    S → Type 0} {before mid now : S} {plan : Plan R A} {view : T → A} {a : T} {next_view : U → B} {result : Result U JobFault} (f : A → Plan R B) →
    Walks allows held faults leads before mid plan view (Ok a) → Walks allows held faults leads mid now (f (view a)) next_view result →
    Walks allows held faults leads before now (plan >>= f) next_view result
walks_then {allows = allows} {held = held} {faults = faults} {leads = leads} {before = before} {mid = mid} {now = now} {plan = plan} {view = view} {a =
    a} {next_view = next_view} {result = result} f first h =
    record {
      is = then_to allows (held before) (held mid) (held now) (faults before) (faults mid) (faults now) plan f (view a) next_view result first.is h.is;
      fetches = first.fetches ++ h.fetches;
      asked = in_turn_then leads before mid now first.fetches h.fetches first.asked h.asked;
      along = then_goes allows plan f (view a) next_view first.fetches h.fetches result first.along h.along;
    }

-- the end of a plan
pub walks_end : {R B U : Type 0} {allows : R → List ℕ → Type 0} {S : Type 0} {held : S → Tells} {faults : S → Counts} {leads : S → FetchCall → S →
    Type 0} {before : S} {view : U → B} {u : U} → Walks allows held faults leads before before (end (view u)) view (Ok u)
walks_end {R} {B} {U} {allows} {S} {held} {faults} {leads} {before} {view} {u} =
    record { is = (record { told = λ n. refl; counts = λ n. refl }, refl); fetches = []; asked = refl; along = (refl, refl) }

-- a file that is fetched and then read
pub reads_then : {R T V : Type 0} {allows : R → List ℕ → Type 0} {S : Type 0} {held : S → Tells} {faults : S → Counts} {leads : S → FetchCall → S →
    Type 0} {before now : S} {file : File} {name : List ℕ} {bytes : Vec ℕ Global} {view : T → V} {result : Result T JobFault} (read : List ℕ →
    Result V (Reason R)) (seen : List ℕ) (r : Result T Refusal) → seen ≡ bytes.items → result ≡ settled file r →
    FetchedTo held faults leads before now file name (Ok bytes) → Reads allows view (read seen) r →
    Walks allows held faults leads before now (fetched file name >>= (λ b. read_as file (read b))) view result
reads_then {allows = allows} {file = file} {bytes = bytes} {view = view} read seen r same settles so_far reads =
    walks_then (λ b. read_as file (read b)) (fetch_walks so_far)
    (reads_walk file (read bytes.items) r settles (subst (λ (b : List ℕ). Reads allows view (read b) r) same reads))

-- one whose fetch stops the job
pub fetch_stop : {R B U : Type 0} {allows : R → List ℕ → Type 0} {S : Type 0} {held : S → Tells} {faults : S → Counts} {leads : S → FetchCall → S →
    Type 0} {before now : S} {file : File} {name : List ℕ} {next_view : U → B} {stop : JobFault} (f : List ℕ → Plan R B) →
    FetchedTo held faults leads before now file name (Err stop) → Walks allows held faults leads before now (fetched file name >>= f) next_view (Err stop)
fetch_stop f h = walks_stop f (fetch_walks h)

-- the value of a plan, seen as the work that it makes ready for
as_to : {R A B T : Type 0} (allows : R → List ℕ → Type 0) (told told' : Tells) (before now : Counts) (plan : Plan R A) (g : A → B) (view : T →
    A) (result : Result T JobFault) → WalksTo allows told told' before now plan view result →
    WalksTo allows told told' before now (plan >>= (λ v. end (g v))) (λ t. g (view t)) result
as_to allows told told' before now plan g view (Ok t) h = (h.0, ends_then told before now plan (λ v. end (g v)) (view t) (ready (g (view t))) h.1 refl)
as_to allows told told' before now plan g view (Err stop) h = stops_to allows told told' before now plan (λ v. end (g v)) view (λ t. g (view t)) stop h

pub walks_as : {R A B T : Type 0} {allows : R → List ℕ → Type 0} {S : Type 0} {held : S → Tells} {faults : S → Counts} {leads : S → FetchCall → S →
    Type 0} {before now : S} {plan : Plan R A} {view : T → A} {result : Result T JobFault} (g : A → B) →
    Walks allows held faults leads before now plan view result → Walks allows held faults leads before now (plan >>= (λ v. end (g v))) (λ t. g (view t)) result
walks_as {allows = allows} {held = held} {faults = faults} {before = before} {now = now} {plan = plan} {view = view} {result = result} g h = record {
  is = as_to allows (held before) (held now) (faults before) (faults now) plan g view result h.is;
  fetches = h.fetches;
  asked = h.asked;
  along = goes_as allows plan g view h.fetches result h.along;
}

pub alone_as : {R A B T : Type 0} {allows : R → List ℕ → Type 0} {plan : Plan R A} {view : T → A} {result : Result T JobFault} (g : A → B) →
    WalksAlone allows plan view result → WalksAlone allows (plan >>= (λ v. end (g v))) (λ t. g (view t)) result
alone_as {allows = allows} {plan = plan} {view = view} {result = result} g h = record {
  is = λ told before. as_to allows told told before before plan g view result (h.is told before);
  along = goes_as allows plan g view [] result h.along;
}

-- ---- texts of the program's own, walked over a shelf that tells them and does not fail

pub told_then : {R A B : Type 0} (told : Tells) (plan : Plan R A) (f : A → Plan R B) → AllTold told plan → ((a : A) → AllTold told (f a)) →
    AllTold told (plan >>= f)
told_then told (end v) f h k = k v
told_then told (refuse file why) f h k = tt
told_then told (fetch w next) f h k = (h.0, λ bytes. told_then told (next bytes) f (h.1 bytes) k)

pub told_fetched : (R : Type 0) (told : Tells) (file : File) (name : List ℕ) → IsSome (told name) → AllTold {R = R} told (fetched file name)
told_fetched R told file name h = (h, λ bytes. tt)

pub told_read : {R V : Type 0} (told : Tells) (file : File) (r : Result V (Reason R)) → AllTold told (read_as file r)
told_read told file (Ok v) = tt
told_read told file (Err why) = tt

-- a plan ends over the texts as over a shelf that tells them, without a fault
ends_with_texts : {R V : Type 0} (told told' : Tells) (before now before' : Counts) (plan : Plan R V) (outcome : PlanOutcome R V) → AllTold told plan →
    ((name : List ℕ) → IsSome (told name) → Rose (before name) (now name) → ⊥) → Ends told before now plan outcome →
    Ends told' before' before' (with_texts told plan) outcome
ends_with_texts told told' before now before' (end v) outcome all calm h = h
ends_with_texts told told' before now before' (refuse file why) outcome all calm h = h
ends_with_texts {R} {V} told told' before now before' (fetch w next) outcome all calm (inl (bytes, comes, rest)) =
    by (told w.name) all.0 comes.shown (ends_with_texts told told' before now before' (next bytes) outcome (all.1 bytes) calm rest)
  where
    by : (t : Option (List ℕ)) → IsSome t → IfSome t (λ every. every ≡ bytes) → Ends told' before' before' (with_texts told (next bytes)) outcome →
        Ends told' before' before' (given_next w t (λ b. with_texts told (next b))) outcome
    by None is shown so = absurd (false≢true is)
    by (Some every) is shown so = rw (shown, le-ltb (limit_of w.file) (length bytes) comes.within) so
ends_with_texts {R} {V} told told' before now before' (fetch w next) outcome all calm (inr (inl (over, ended))) = by (told w.name) all.0 over
  where
    by : (t : Option (List ℕ)) → IsSome t → IfSome t (λ every. limit_of w.file < length every) →
        Ends told' before' before' (given_next w t (λ b. with_texts told (next b))) outcome
    by None is long = absurd (false≢true is)
    by (Some every) is long = rw (lt-ltb (limit_of w.file) (length every) long) ended
ends_with_texts told told' before now before' (fetch w next) outcome all calm (inr (inr (rose, ended))) = absurd (calm w.name all.0 rose)

same_here : (told : Tells) (before : Counts) → IsSame told told before before
same_here told before = record { told = λ n. refl; counts = λ n. refl }

later_here : (told : Tells) (before : Counts) → IsLater told told before before
later_here told before = record { told = λ n. refl; counts = λ n. omega arith }

-- no fault is counted of a name that the shelf tells, before and now
abbrev pub IsSure : (told told' : Tells) (before now : Counts) → Type 0
IsSure told told' before now = (name : List ℕ) → IsSome (told name) → IsSome (told' name) → Rose (before name) (now name) → ⊥

sure_now : (told told' : Tells) (before now : Counts) → IsSure told told' before now → ((name : List ℕ) → told' name ≡ told name) → (name : List ℕ) →
    IsSome (told name) → Rose (before name) (now name) → ⊥
sure_now told told' before now sure same name some rose = sure name some (subst (λ (t : Option (List ℕ)). IsSome t) (sym (same name)) some) rose

alone_to : {R T V : Type 0} (allows : R → List ℕ → Type 0) (told told' told2 : Tells) (before now before2 : Counts) (plan : Plan R V) (view : T →
    V) (result : Result T JobFault) → AllTold told plan → IsSure told told' before now → WalksTo allows told told' before now plan view result →
    WalksTo allows told2 told2 before2 before2 (with_texts told plan) view result
alone_to allows told told' told2 before now before2 plan view (Ok v) all sure h =
    (same_here told2 before2, ends_with_texts told told2 before now before2 plan (ready (view v)) all (sure_now told told' before now sure h.0.told) h.1)
alone_to allows told told' told2 before now before2 plan view (Err S.NoMemory) all sure h = same_here told2 before2
alone_to allows told told' told2 before now before2 plan view (Err (S.Faulted file)) all sure h =
    (later_here told2 before2, ends_with_texts told told2 before now before2 plan (faulted file) all (sure_now told told' before now sure h.0.told) h.1)
alone_to allows told told' told2 before now before2 plan view (Err (S.Refused file why)) all sure h = (
  same_here told2 before2,
  (h.1.0, h.1.1, ends_with_texts told told2 before now before2 plan (refused file h.1.0) all (sure_now told told' before now sure h.0.told) h.1.2),
)

-- a walk over such a shelf is one over the texts alone
pub walks_alone : {R T V : Type 0} {allows : R → List ℕ → Type 0} {S : Type 0} {held : S → Tells} {faults : S → Counts} {leads : S → FetchCall → S →
    Type 0} {before now : S} {plan : Plan R V} {view : T → V} {result : Result T JobFault} → AllTold (held before) plan →
    IsSure (held before) (held now) (faults before) (faults now) → Walks allows held faults leads before now plan view result →
    WalksAlone allows (with_texts (held before) plan) view result
walks_alone {allows = allows} {held = held} {faults = faults} {before = before} {now = now} {plan = plan} {view = view} {result = result} all sure h =
    let is : (told2 : Tells) (before2 : Counts) → WalksTo allows told2 told2 before2 before2 (with_texts (held before) plan) view result =
    λ told2 before2. alone_to allows (held before) (held now) told2 (faults before) (faults now) before2 plan view result all sure h.is in
    record {
      is = is;
      along = alone_goes allows (λ _. None) (λ _. 0) (with_texts (held before) plan) view result
          (texts_ask_nothing (held before) plan all) (is (λ _. None) (λ _. 0));
    }

-- a `SureShelf` is such a shelf
zero_faults : (place : Option ℕ) (f : ℕ → Option (List ℕ)) → IsSome (option_and_then f place) → sure_count place ≡ 0
zero_faults None f h = absurd (false≢true h)
zero_faults (Some at) f h = refl

none_rose : (a b : ℕ) → a ≡ 0 → b ≡ 0 → Rose a b → ⊥
none_rose a b za zb rose = none (subst (λ (x : ℕ). Rose x 0) za (subst (λ (y : ℕ). Rose a y) zb rose))
  where
    none : Rose 0 0 → ⊥
    none h = absurd (omega (arith, h))

pub sure_shelf : (before now : SureShelf) → IsSure (sure_held before) (sure_held now) (sure_faults before) (sure_faults now)
sure_shelf before now name told told' rose = none_rose (sure_faults before name) (sure_faults now name) (zero_faults _ _ told) (zero_faults _ _ told') rose
