-- How plans end.
use Rattle.std.proofs.Common.{◌≡◌, ◌≢◌, inl, inr, ℕ, ◌<◌, ◌≤◌, List, length, codes, Option, Some, None, refl, sym, ap, subst, arith}
use Rattle.std.proofs.lemmas.Bool.{le-ltb, lt-ltb}
use Rattle.std.specs.Prelude.{Bool, true, false, nat_lt, if◌then◌else◌, IfSome}
use Rattle.bs_outside.specs.Faults.{Rose}
use Rattle.bs_outside.specs.declared.file.File.{File}
use Rattle.bs_outside.specs.PlanFiles.{limit_of}
use Rattle.bs_outside.specs.Plan.{Tells, Counts, Wanted, Reason, exactly, Plan, fetch, refuse, end, ◌>>=◌, PlanOutcome, ready, refused, faulted, Ends}
use Rattle.bs_outside.specs.Plan.{told_next, told_end, Reaches}

if_some_along : (told told' : Option (List ℕ)) (P : List ℕ → Type 0) → told' ≡ told → IfSome told' P → IfSome told P
if_some_along told told' P same h = subst (λ (t : Option (List ℕ)). IfSome t P) same h

-- it ends so also where the shelf tells the same and has counted more since
pub ends_along : {R V : Type 0} (told told' : Tells) (before before' now now' : Counts) (plan : Plan R V) (outcome : PlanOutcome R V) →
    ((n : List ℕ) → told' n ≡ told n) → ((n : List ℕ) → before' n ≡ before n) → ((n : List ℕ) → now n ≤ now' n) →
    Ends told' before' now plan outcome → Ends told before now' plan outcome
ends_along told told' before before' now now' (end v) outcome same is later h = h
ends_along told told' before before' now now' (refuse file why) outcome same is later h = h
ends_along told told' before before' now now' (fetch w next) outcome same is later (inl (bytes, comes, rest)) =
    inl (
      bytes,
      record { within = comes.within; shown = if_some_along (told w.name) (told' w.name) (λ all. all ≡ bytes) (same w.name) comes.shown },
      ends_along told told' before before' now now' (next bytes) outcome same is later rest,
    )
ends_along told told' before before' now now' (fetch w next) outcome same is later (inr (inl (over, ended))) =
    inr (inl (if_some_along (told w.name) (told' w.name) (λ all. limit_of w.file < length all) (same w.name) over, ended))
ends_along told told' before before' now now' (fetch w next) outcome same is later (inr (inr (rose, ended))) =
    inr (inr (omega (arith, rose, is w.name, later w.name), ended))

abbrev pub ready_in : (R A : Type 0) → A → PlanOutcome R A
ready_in R A a = ready a

abbrev pub refused_in : (R A : Type 0) → File → Reason R → PlanOutcome R A
refused_in R A file why = refused file why

abbrev pub faulted_in : (R A : Type 0) → File → PlanOutcome R A
faulted_in R A file = faulted file

pub ready_same : (R A : Type 0) (x y : A) → ready_in R A x ≡ ready_in R A y → x ≡ y
ready_same R A x y e = cc

pub refused_same : (R A B : Type 0) (file file' : File) (why why' : Reason R) → refused_in R A file why ≡ refused_in R A file' why' →
    refused_in R B file why ≡ refused_in R B file' why'
refused_same R A B file file' why why' e =
    let f : file ≡ file' = cc in
    let w : why ≡ why' = cc in
    cc

pub faulted_same : (R A : Type 0) (file file' : File) → faulted_in R A file ≡ faulted_in R A file' → file ≡ file'
faulted_same R A file file' e = cc

-- a plan that went to its end goes on
pub ends_then : {R A B : Type 0} (told : Tells) (before now : Counts) (plan : Plan R A) (f : A → Plan R B) (a : A) (outcome : PlanOutcome R B) →
    Ends told before now plan (ready a) → Ends told before now (f a) outcome → Ends told before now (plan >>= f) outcome
ends_then {R} {A} told before now (end v) f a outcome h k = subst (λ x. Ends told before now (f x) outcome) (ready_same R A a v h) k
ends_then told before now (refuse file why) f a outcome h k = absurd (cc)
ends_then told before now (fetch w next) f a outcome (inl (bytes, comes, rest)) k =
    inl (bytes, comes, ends_then told before now (next bytes) f a outcome rest k)
ends_then told before now (fetch w next) f a outcome (inr (inl (over, ended))) k = absurd (cc)
ends_then told before now (fetch w next) f a outcome (inr (inr (rose, ended))) k = absurd (cc)

-- one that was refused or failed is the whole plan's end
pub ends_refused : {R A B : Type 0} (told : Tells) (before now : Counts) (plan : Plan R A) (f : A → Plan R B) (file : File) (why : Reason R) →
    Ends told before now plan (refused file why) → Ends told before now (plan >>= f) (refused file why)
ends_refused told before now (end v) f file why h = absurd (cc)
ends_refused {R = R} {A = A} {B = B} told before now (refuse file' why') f file why h = refused_same R A B file file' why why' h
ends_refused told before now (fetch w next) f file why (inl (bytes, comes, rest)) =
    inl (bytes, comes, ends_refused told before now (next bytes) f file why rest)
ends_refused {R = R} {A = A} {B = B} told before now (fetch w next) f file why (inr (inl (over, ended))) =
    inr (inl (over, refused_same R A B file w.file why (exactly (codes "TooLong")) ended))
ends_refused told before now (fetch w next) f file why (inr (inr (rose, ended))) = absurd (cc)

pub ends_faulted : {R A B : Type 0} (told : Tells) (before now : Counts) (plan : Plan R A) (f : A → Plan R B) (file : File) →
    Ends told before now plan (faulted file) → Ends told before now (plan >>= f) (faulted file)
ends_faulted told before now (end v) f file h = absurd (cc)
ends_faulted told before now (refuse file' why') f file h = absurd (cc)
ends_faulted told before now (fetch w next) f file (inl (bytes, comes, rest)) = inl (bytes, comes, ends_faulted told before now (next bytes) f file rest)
ends_faulted told before now (fetch w next) f file (inr (inl (over, ended))) = absurd (cc)
ends_faulted {R = R} {A = A} {B = B} told before now (fetch w next) f file (inr (inr (rose, ended))) =
    inr (inr (rose, ap (faulted_in R B) (faulted_same R A file w.file ended)))

-- without a fault it ends as the shelf tells, where it tells each file that the plan comes to
pub ends_as_told : {R V : Type 0} (told : Tells) (before now : Counts) (plan : Plan R V) (outcome : PlanOutcome R V) → Ends told before now plan outcome →
    ((file : File) → outcome ≢ faulted file) → IfSome (told_end told plan) (λ by_told. outcome ≡ by_told)
ends_as_told told before now (end v) outcome h calm = h
ends_as_told told before now (refuse file why) outcome h calm = h
ends_as_told {R} {V} told before now (fetch w next) outcome (inl (bytes, comes, rest)) calm =
    by (told w.name) comes.shown (ends_as_told told before now (next bytes) outcome rest calm)
  where
    by : (t : Option (List ℕ)) → IfSome t (λ all. all ≡ bytes) → IfSome (told_end told (next bytes)) (λ by_told. outcome ≡ by_told) →
        IfSome (told_next w t (λ b. told_end told (next b))) (λ by_told. outcome ≡ by_told)
    by None is so = tt
    by (Some all) is so = rw (is, le-ltb (limit_of w.file) (length bytes) comes.within) so
ends_as_told {R} {V} told before now (fetch w next) outcome (inr (inl (over, ended))) calm = by (told w.name) over
  where
    by : (t : Option (List ℕ)) → IfSome t (λ all. limit_of w.file < length all) →
        IfSome (told_next w t (λ b. told_end told (next b))) (λ by_told. outcome ≡ by_told)
    by None is = tt
    by (Some all) is = rw (lt-ltb (limit_of w.file) (length all) is) ended
ends_as_told told before now (fetch w next) outcome (inr (inr (rose, ended))) calm = absurd (calm w.file ended)

-- a fault is one of a file that the plan reaches, as far as the shelf tells, and whose count rose
pub record FaultOf {R V : Type 0} (told : Tells) (before now : Counts) (plan : Plan R V) (file : File) : Type 0 where
  pub wanted : Wanted
  pub is : wanted.file ≡ file
  pub reached : Reaches told plan wanted
  pub cause : Rose (before wanted.name) (now wanted.name)

pub ends_by_fault : {R V : Type 0} (told : Tells) (before now : Counts) (plan : Plan R V) (file : File) → Ends told before now plan (faulted file) →
    FaultOf told before now plan file
ends_by_fault told before now (end v) file h = absurd (cc)
ends_by_fault told before now (refuse file' why) file h = absurd (cc)
ends_by_fault told before now (fetch w next) file (inl (bytes, comes, rest)) =
    let f = ends_by_fault told before now (next bytes) file rest in
    record { wanted = f.wanted; is = f.is; reached = inr (bytes, comes, f.reached); cause = f.cause }
ends_by_fault told before now (fetch w next) file (inr (inl (over, ended))) = absurd (cc)
ends_by_fault {R} {V} told before now (fetch w next) file (inr (inr (rose, ended))) =
    record { wanted = w; is = sym (faulted_same R V file w.file ended); reached = inl refl; cause = rose }

-- ---- how a plan ends by what the shelf tells, one part after the other

next_some : {R A B : Type 0} (w : Wanted) (t : Option (List ℕ)) (go : List ℕ → Option (PlanOutcome R A)) (on : List ℕ →
    Option (PlanOutcome R B)) (a : A) (z : Option (PlanOutcome R B)) → told_next w t go ≡ Some (ready_in R A a) →
    ((bytes : List ℕ) → go bytes ≡ Some (ready_in R A a) → on bytes ≡ z) → told_next w t on ≡ z
next_some {R} {A} w None go on a z h step = absurd (wrong h)
  where
    wrong : None ≡ Some (ready_in R A a) → ⊥
    wrong e = cc
next_some {R} {A} {B} w (Some bytes) go on a z h step = by (nat_lt (limit_of w.file) (length bytes)) h
  where
    wrong : Some (refused_in R A w.file (exactly (codes "TooLong"))) ≡ Some (ready_in R A a) → ⊥
    wrong e = cc

    by : (long : Bool) → (if long then Some (refused w.file (exactly (codes "TooLong"))) else go bytes) ≡ Some (ready_in R A a) →
        (if long then Some (refused w.file (exactly (codes "TooLong"))) else on bytes) ≡ z
    by true e = absurd (wrong e)
    by false e = step bytes e

pub some_same : (R A : Type 0) (x y : A) → Some (ready_in R A x) ≡ Some (ready_in R A y) → x ≡ y
some_same R A x y e = cc

-- a part that comes to a value goes on from it
pub told_end_then : {R A B : Type 0} (told : Tells) (plan : Plan R A) (f : A → Plan R B) (a : A) → told_end told plan ≡ Some (ready a) →
    told_end told (plan >>= f) ≡ told_end told (f a)
told_end_then {R} {A} told (end v) f a h = ap (λ x. told_end told (f x)) (some_same R A v a h)
told_end_then {R} {A} told (refuse file why) f a h = absurd (wrong h)
  where
    wrong : Some (refused_in R A file why) ≡ Some (ready_in R A a) → ⊥
    wrong e = cc
told_end_then told (fetch w next) f a h =
    next_some w (told w.name) (λ bytes. told_end told (next bytes)) (λ bytes. told_end told (next bytes >>= f)) a (told_end told (f a)) h
    (λ bytes e. told_end_then told (next bytes) f a e)

-- a plan whose value is made of another's comes to it only where that one comes to its own
pub record CameFrom {R A B : Type 0} (told : Tells) (plan : Plan R A) (g : A → B) (b : B) : Type 0 where
  pub value : A
  pub came : told_end told plan ≡ Some (ready value)
  pub is : b ≡ g value

from_next : {R A B : Type 0} (w : Wanted) (t : Option (List ℕ)) (go : List ℕ → Option (PlanOutcome R A)) (on : List ℕ → Option (PlanOutcome R B)) (g : A →
    B) (b : B) → told_next w t on ≡ Some (ready_in R B b) →
    ((bytes : List ℕ) → on bytes ≡ Some (ready_in R B b) → (a : A) × (go bytes ≡ Some (ready_in R A a)) × (b ≡ g a)) →
    (a : A) × (told_next w t go ≡ Some (ready_in R A a)) × (b ≡ g a)
from_next {R} {A} {B} w None go on g b h step = absurd (wrong h)
  where
    wrong : None ≡ Some (ready_in R B b) → ⊥
    wrong e = cc
from_next {R} {A} {B} w (Some bytes) go on g b h step = by (nat_lt (limit_of w.file) (length bytes)) h
  where
    wrong : Some (refused_in R B w.file (exactly (codes "TooLong"))) ≡ Some (ready_in R B b) → ⊥
    wrong e = cc

    by : (long : Bool) → (if long then Some (refused w.file (exactly (codes "TooLong"))) else on bytes) ≡ Some (ready_in R B b) →
        (a : A) × ((if long then Some (refused w.file (exactly (codes "TooLong"))) else go bytes) ≡ Some (ready_in R A a)) × (b ≡ g a)
    by true e = absurd (wrong e)
    by false e = step bytes e

came_from : {R A B : Type 0} (told : Tells) (plan : Plan R A) (g : A → B) (b : B) →
    told_end told (plan >>= (λ v. end (g v))) ≡ Some (ready_in R B b) → (a : A) × (told_end told plan ≡ Some (ready_in R A a)) × (b ≡ g a)
came_from {R} {A} {B} told (end v) g b h = (v, refl, sym (some_same R B (g v) b h))
came_from {R} {A} {B} told (refuse file why) g b h = absurd (wrong h)
  where
    wrong : Some (refused_in R B file why) ≡ Some (ready_in R B b) → ⊥
    wrong e = cc
came_from told (fetch w next) g b h =
    from_next w (told w.name) (λ bytes. told_end told (next bytes)) (λ bytes. told_end told (next bytes >>= (λ v. end (g v)))) g b h
    (λ bytes e. came_from told (next bytes) g b e)

pub told_came_from : {R A B : Type 0} (told : Tells) (plan : Plan R A) (g : A → B) (b : B) →
    told_end told (plan >>= (λ v. end (g v))) ≡ Some (ready b) → CameFrom told plan g b
told_came_from told plan g b h = let c = came_from told plan g b h in record { value = c.0; came = c.1; is = c.2 }
