-- The fetches along a plan.
use Rattle.std.proofs.Common.{◌≡◌, ℕ, Bool, true, false, List, [], ◌∷◌, ◌++◌, codes, length, Option, Some, None, Result, Ok, Err, refl, sym, ap, subst, Vec}
use Rattle.std.proofs.lemmas.Bool.{false≢true}
use Rattle.std.proofs.lemmas.List.{append-nil}
use Rattle.std.specs.Prelude.{IfSome, IsSome, MatchResult, nat_lt, if◌then◌else◌}
use Rattle.std.specs.declared.alloc.Global.{Global}
use Rattle.bs_outside.specs.Calls.{FetchCall, InTurn}
use Rattle.bs_outside.specs.declared.shelf.Fetch.{Fetch}
use Rattle.bs_outside.specs.declared.shelf.Fetch.TheVariants as F
use Rattle.bs_outside.specs.declared.file.File.{File}
use Rattle.bs_outside.specs.declared.file_fetch.Refusal.{Refusal}
use Rattle.bs_outside.specs.declared.file_fetch.Refusal.TheVariants as Q
use Rattle.bs_outside.specs.declared.file_fetch.JobFault.{JobFault}
use Rattle.bs_outside.specs.declared.file_fetch.JobFault.TheVariants as S
use Rattle.bs_outside.specs.PlanFiles.{limit_of}
use Rattle.bs_outside.specs.Plan.{Tells, Counts, Wanted, Reason, exactly, Says, Plan, fetch, refuse, end, ◌>>=◌, fetched, given_next, with_texts, AllTold}
use Rattle.bs_outside.specs.Plan.{read_as, PlanOutcome, ready, refused, faulted, Ends}
use Rattle.bs_outside.specs.Walks.{ComesTo, WalksTo, Reads, settled}
use Rattle.bs_outside.specs.Asking.{AfterFetch, Along, CallTo, GoesTo}
use Rattle.bs_outside.proofs.Plans.{ready_in, refused_in, faulted_in, ready_same, refused_same, faulted_same}

-- ---- calls in turn

pub in_turn_then : {S C : Type 0} (leads : S → C → S → Type 0) (a b c : S) (first next : List C) → InTurn leads a first b → InTurn leads b next c →
    InTurn leads a (first ++ next) c
in_turn_then leads a b c [] next h k = subst (λ s. InTurn leads s next c) h k
in_turn_then leads a b c (call ∷ calls) next (mid, led, rest) k = (mid, led, in_turn_then leads mid b c calls next rest k)

-- ---- fetches along a plan

pub along_none : {R V : Type 0} (plan : Plan R V) → Along plan [] None
along_none (end v) = (refl, tt)
along_none (refuse file why) = (refl, tt)
along_none (fetch w next) = refl

-- memory may run out at any end
after_weak : {R V : Type 0} (w : Wanted) (answer : Fetch) (calls : List FetchCall) (outcome : PlanOutcome R V) (P Q : Type 0) → (P → Q) →
    AfterFetch w answer calls (Some outcome) P → AfterFetch {R = R} {V = V} w answer calls None Q
after_weak w F.Done calls outcome P Q step h = step h
after_weak w F.TooLong calls outcome P Q step h = (h.0, tt)
after_weak w F.Failed calls outcome P Q step h = (h.0, tt)
after_weak w F.NoMemory calls outcome P Q step h = (h.0, refl)

pub along_weak : {R V : Type 0} (plan : Plan R V) (calls : List FetchCall) (outcome : PlanOutcome R V) → Along plan calls (Some outcome) → Along plan calls None
along_weak (end v) calls outcome h = (h.0, tt)
along_weak (refuse file why) calls outcome h = (h.0, tt)
along_weak (fetch w next) [] outcome h = refl
along_weak (fetch w next) (call ∷ calls) outcome (asks, after) =
    (asks, after_weak w call.answer calls outcome _ _ (λ rest. along_weak (next call.bytes) calls outcome rest) after)

-- a plan that went to its end goes on
pub record CameWhole (answer : Fetch) (P : Type 0) : Type 0 where
  pub came : answer ≡ F.Done
  pub on : P

after_ready : (R V : Type 0) (w : Wanted) (answer : Fetch) (calls : List FetchCall) (v : V) (P : Type 0) →
    AfterFetch w answer calls (Some (ready_in R V v)) P → CameWhole answer P
after_ready R V w F.Done calls v P h = record { came = refl; on = h }
after_ready R V w F.TooLong calls v P (none, is) = absurd (wrong is)
  where
    wrong : ready_in R V v ≡ refused_in R V w.file (exactly (codes "TooLong")) → ⊥
    wrong e = cc
after_ready R V w F.Failed calls v P (none, is) = absurd (wrong is)
  where
    wrong : ready_in R V v ≡ faulted_in R V w.file → ⊥
    wrong e = cc
after_ready R V w F.NoMemory calls v P (none, is) = absurd (wrong is)
  where
    wrong : Some (ready_in R V v) ≡ None → ⊥
    wrong e = cc

after_done : {R V : Type 0} (w : Wanted) (answer : Fetch) (calls : List FetchCall) (outcome : Option (PlanOutcome R V)) (P : Type 0) → answer ≡ F.Done →
    P → AfterFetch w answer calls outcome P
after_done {R} {V} w answer calls outcome P e p = subst (λ (a : Fetch). AfterFetch {R = R} {V = V} w a calls outcome P) (sym e) p

pub along_then : {R A B : Type 0} (plan : Plan R A) (f : A → Plan R B) (a : A) (calls more : List FetchCall) (outcome : Option (PlanOutcome R B)) →
    Along plan calls (Some (ready a)) → Along (f a) more outcome → Along (plan >>= f) (calls ++ more) outcome
along_then {R} {A} {B} (end v) f a calls more outcome (none, is) k =
    subst (λ (l : List FetchCall). Along (f v) (l ++ more) outcome) (sym none) (subst (λ x. Along (f x) more outcome) (ready_same R A a v is) k)
along_then {R} {A} {B} (refuse file why) f a calls more outcome (none, is) k = absurd (wrong is)
  where
    wrong : ready_in R A a ≡ refused_in R A file why → ⊥
    wrong e = cc
along_then {R} {A} {B} (fetch w next) f a [] more outcome h k = absurd (wrong h)
  where
    wrong : Some (ready_in R A a) ≡ None → ⊥
    wrong e = cc
along_then {R} {A} {B} (fetch w next) f a (call ∷ calls) more outcome (asks, after) k =
    let whole = after_ready R A w call.answer calls a (Along (next call.bytes) calls (Some (ready a))) after in (
      asks,
      after_done w call.answer (calls ++ more) outcome (Along (next call.bytes >>= f) (calls ++ more) outcome) whole.came
          (along_then (next call.bytes) f a calls more outcome whole.on k),
    )

-- one end stands for another, where neither is a value
pub record StopsAs {R A B : Type 0} (one : Option (PlanOutcome R A)) (other : Option (PlanOutcome R B)) : Type 0 where
  pub ended : (v : A) → IfSome one (λ o. o ≡ ready v) → other ≡ None
  pub refuses : (file : File) (why : Reason R) → IfSome one (λ o. o ≡ refused file why) → IfSome other (λ o. o ≡ refused file why)
  pub faults : (file : File) → IfSome one (λ o. o ≡ faulted file) → IfSome other (λ o. o ≡ faulted file)
  pub wants : one ≡ None → other ≡ None

stops_none : (R A B : Type 0) → StopsAs {R = R} {A = A} {B = B} None None
stops_none R A B = record { ended = λ v h. refl; refuses = λ file why h. tt; faults = λ file h. tt; wants = λ h. refl }

stops_refused : (R A B : Type 0) (file : File) (why : Reason R) → StopsAs (Some (refused_in R A file why)) (Some (refused_in R B file why))
stops_refused R A B file why = record {
  ended = λ v h. absurd (ended v h);
  refuses = λ file' why' h. refused_same R A B file file' why why' h;
  faults = λ file' h. absurd (faults file' h);
  wants = λ h. absurd (wants h);
}
  where
    ended : (v : A) → refused_in R A file why ≡ ready_in R A v → ⊥
    ended v e = cc

    faults : (file' : File) → refused_in R A file why ≡ faulted_in R A file' → ⊥
    faults file' e = cc

    wants : Some (refused_in R A file why) ≡ None → ⊥
    wants e = cc

stops_faulted : (R A B : Type 0) (file : File) → StopsAs (Some (faulted_in R A file)) (Some (faulted_in R B file))
stops_faulted R A B file = record {
  ended = λ v h. absurd (ended v h);
  refuses = λ file' why' h. absurd (refuses file' why' h);
  faults = λ file' h. ap (faulted_in R B) (faulted_same R A file file' h);
  wants = λ h. absurd (wants h);
}
  where
    ended : (v : A) → faulted_in R A file ≡ ready_in R A v → ⊥
    ended v e = cc

    refuses : (file' : File) (why' : Reason R) → faulted_in R A file ≡ refused_in R A file' why' → ⊥
    refuses file' why' e = cc

    wants : Some (faulted_in R A file) ≡ None → ⊥
    wants e = cc

after_stop : {R A B : Type 0} (w : Wanted) (answer : Fetch) (calls : List FetchCall) (one : Option (PlanOutcome R A)) (other : Option (PlanOutcome R B))
    (P Q : Type 0) → StopsAs one other → (P → Q) → AfterFetch w answer calls one P → AfterFetch w answer calls other Q
after_stop w F.Done calls one other P Q stands step h = step h
after_stop w F.TooLong calls one other P Q stands step h = (h.0, stands.refuses w.file (exactly (codes "TooLong")) h.1)
after_stop w F.Failed calls one other P Q stands step h = (h.0, stands.faults w.file h.1)
after_stop w F.NoMemory calls one other P Q stands step h = (h.0, stands.wants h.1)

along_stop : {R A B : Type 0} (plan : Plan R A) (f : A →
    Plan R B) (calls : List FetchCall) (one : Option (PlanOutcome R A)) (other : Option (PlanOutcome R B)) → StopsAs one other → Along plan calls one →
    Along (plan >>= f) calls other
along_stop {R} {A} {B} (end v) f calls one other stands (none, is) =
    subst (λ (l : List FetchCall). Along (f v) l other) (sym none)
    (subst (λ (o : Option (PlanOutcome R B)). Along (f v) [] o) (sym (stands.ended v is)) (along_none (f v)))
along_stop (refuse file why) f calls one other stands (none, is) = (none, stands.refuses file why is)
along_stop (fetch w next) f [] one other stands h = stands.wants h
along_stop (fetch w next) f (call ∷ calls) one other stands (asks, after) =
    (asks, after_stop w call.answer calls one other _ _ stands (λ rest. along_stop (next call.bytes) f calls one other stands rest) after)

-- ---- fetches along a plan to a result

-- the fetch of one file
pub file_goes : {R : Type 0} (allows : R → List ℕ →
    Type 0) (told told' : Tells) (before now : Counts) (file : File) (name : List ℕ) (call : FetchCall) (result : Result (Vec ℕ Global) JobFault) →
    ComesTo told told' before now (record { file = file; name = name }) result → CallTo (record { file = file; name = name }) call result →
    GoesTo allows (fetched file name) (λ (b : Vec ℕ Global). b.items) (call ∷ []) result
file_goes {R} allows told told' before now file name call (Ok bytes) h k = (
  k.0,
  after_done (record { file = file; name = name }) call.answer [] (Some (ready bytes.items))
      (Along (end call.bytes) [] (Some (ready bytes.items))) k.1 (refl, ap (λ b. ready_in R (List ℕ) b) (sym k.2)),
)
file_goes {R} allows told told' before now file name call (Err S.NoMemory) h k = (k, by call.answer)
  where
    by : (a : Fetch) → AfterFetch {R = R} {V = List ℕ} (record { file = file; name = name }) a [] None (Along {R = R} (end call.bytes) [] None)
    by F.Done = (refl, tt)
    by F.TooLong = (refl, tt)
    by F.Failed = (refl, tt)
    by F.NoMemory = (refl, refl)
file_goes {R} allows told told' before now file name call (Err (S.Faulted other)) h k = (
  k.0,
  subst (λ (a : Fetch). AfterFetch {R = R} {V = List ℕ} (record { file = file; name = name }) a [] (Some (faulted_in R (List ℕ) other))
      (Along {R = R} (end call.bytes) [] (Some (faulted_in R (List ℕ) other)))) (sym k.1) (refl, ap (λ f. faulted_in R (List ℕ) f) h.2),
)
file_goes {R} allows told told' before now file name call (Err (S.Refused other why)) h k = (
  exactly (codes "TooLong"),
  h.3,
  (
    k.0,
    subst (λ (a : Fetch). AfterFetch {R = R} {V = List ℕ} (record { file = file; name = name }) a [] (Some (long_of other))
        (Along {R = R} (end call.bytes) [] (Some (long_of other)))) (sym k.1) (refl, ap long_of h.2),
  ),
)
  where
    long_of : File → PlanOutcome R (List ℕ)
    long_of f = refused_in R (List ℕ) f (exactly (codes "TooLong"))

-- why the bytes are refused
pub reason_of : {R V : Type 0} (r : Result V (Reason R)) (P : Reason R → Type 0) → MatchResult r (λ _. ⊥) P → (reason : Reason R) × P reason × (r ≡ Err reason)
reason_of (Ok v) P h = absurd h
reason_of (Err reason) P h = (reason, h, refl)

-- what a reader answers asks for nothing
pub read_goes : {R T V : Type 0} (allows : R → List ℕ → Type 0) (file : File) (wanted : Result V (Reason R)) (view : T → V) (r : Result T Refusal) →
    Reads allows view wanted r → GoesTo allows (read_as file wanted) view [] (settled file r)
read_goes {R = R} {V = V} allows file wanted view (Ok v) is =
    subst (λ (x : Result V (Reason R)). Along (read_as file x) [] (Some (ready_in R V (view v)))) (sym is) (refl, refl)
read_goes allows file wanted view (Err Q.NoMemory) is = along_none (read_as file wanted)
read_goes {R = R} {V = V} allows file wanted view (Err (Q.Why why)) is =
    let r = reason_of wanted (λ reason. Says allows reason why.items) is in
    (r.0, r.1, subst (λ (x : Result V (Reason R)). Along (read_as file x) [] (Some (refused_in R V file r.0))) (sym r.2) (refl, refl))

pub stop_goes : {R A B T U : Type 0} (allows : R → List ℕ → Type 0) (plan : Plan R A) (f : A → Plan R B) (view : T → A) (next_view : U →
    B) (calls : List FetchCall) (stop : JobFault) → GoesTo allows plan view calls (Err stop) → GoesTo allows (plan >>= f) next_view calls (Err stop)
stop_goes {R = R} {A = A} {B = B} allows plan f view next_view calls S.NoMemory h = along_stop plan f calls None None (stops_none R A B) h
stop_goes {R = R} {A = A} {B = B} allows plan f view next_view calls (S.Faulted file) h =
    along_stop plan f calls (Some (faulted file)) (Some (faulted file)) (stops_faulted R A B file) h
stop_goes {R = R} {A = A} {B = B} allows plan f view next_view calls (S.Refused file why) h =
    (h.0, h.1, along_stop plan f calls (Some (refused file h.0)) (Some (refused file h.0)) (stops_refused R A B file h.0) h.2)

pub then_goes : {R A B U : Type 0} (allows : R → List ℕ → Type 0) (plan : Plan R A) (f : A → Plan R B) (a : A) (next_view : U →
    B) (calls more : List FetchCall) (result : Result U JobFault) → Along plan calls (Some (ready a)) → GoesTo allows (f a) next_view more result →
    GoesTo allows (plan >>= f) next_view (calls ++ more) result
then_goes allows plan f a next_view calls more (Ok u) first h = along_then plan f a calls more (Some (ready (next_view u))) first h
then_goes allows plan f a next_view calls more (Err S.NoMemory) first h = along_then plan f a calls more None first h
then_goes allows plan f a next_view calls more (Err (S.Faulted file)) first h = along_then plan f a calls more (Some (faulted file)) first h
then_goes allows plan f a next_view calls more (Err (S.Refused file why)) first h =
    (h.0, h.1, along_then plan f a calls more (Some (refused file h.0)) first h.2)

pub goes_as : {R A B T : Type 0} (allows : R → List ℕ → Type 0) (plan : Plan R A) (g : A → B) (view : T →
    A) (calls : List FetchCall) (result : Result T JobFault) → GoesTo allows plan view calls result →
    GoesTo allows (plan >>= (λ v. end (g v))) (λ t. g (view t)) calls result
goes_as allows plan g view calls (Ok t) h =
    subst (λ (l : List FetchCall). Along (plan >>= (λ v. end (g v))) l (Some (ready (g (view t))))) (append-nil calls)
    (along_then plan (λ v. end (g v)) (view t) calls [] (Some (ready (g (view t)))) h (refl, refl))
goes_as allows plan g view calls (Err stop) h = stop_goes allows plan (λ v. end (g v)) view (λ t. g (view t)) calls stop h

-- ---- plans that ask for nothing

pub record AsksNothing {R V : Type 0} (plan : Plan R V) : Type 0 where
  pub is : (told : Tells) (before now : Counts) (outcome : PlanOutcome R V) → Ends told before now plan outcome → Along plan [] (Some outcome)

-- one over texts of the program's own
pub texts_ask_nothing : {R V : Type 0} (told : Tells) (plan : Plan R V) → AllTold told plan → AsksNothing (with_texts told plan)
texts_ask_nothing told (end v) all = record { is = λ told' before now outcome h. (refl, h) }
texts_ask_nothing told (refuse file why) all = record { is = λ told' before now outcome h. (refl, h) }
texts_ask_nothing {R} {V} told (fetch w next) all = by (told w.name) all.0 (λ bytes. texts_ask_nothing told (next bytes) (all.1 bytes))
  where
    either : (long : Bool) (bytes : List ℕ) → AsksNothing (with_texts told (next bytes)) →
        AsksNothing (if long then refuse w.file (exactly (codes "TooLong")) else with_texts told (next bytes))
    either true bytes so = record { is = λ told' before now outcome h. (refl, h) }
    either false bytes so = so

    by : (t : Option (List ℕ)) → IsSome t → ((bytes : List ℕ) → AsksNothing (with_texts told (next bytes))) →
        AsksNothing (given_next w t (λ b. with_texts told (next b)))
    by None is so = absurd (false≢true is)
    by (Some bytes) is so = either (nat_lt (limit_of w.file) (length bytes)) bytes (so bytes)

pub alone_goes : {R T V : Type 0} (allows : R → List ℕ → Type 0) (told : Tells) (before : Counts) (plan : Plan R V) (view : T →
    V) (result : Result T JobFault) → AsksNothing plan → WalksTo allows told told before before plan view result → GoesTo allows plan view [] result
alone_goes allows told before plan view (Ok v) nothing h = nothing.is told before before (ready (view v)) h.1
alone_goes allows told before plan view (Err S.NoMemory) nothing h = along_none plan
alone_goes allows told before plan view (Err (S.Faulted file)) nothing h = nothing.is told before before (faulted file) h.1
alone_goes allows told before plan view (Err (S.Refused file why)) nothing h = (h.1.0, h.1.1, nothing.is told before before (refused file h.1.0) h.1.2)
