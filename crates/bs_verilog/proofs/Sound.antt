-- Readings that have a property wherever they have a value, put together as readings are.
use Rattle.std.proofs.Common.{◌≡◌, Bool, true, false, cond, Result, Ok, Err, refl}
use Rattle.bs_bits.specs.Reading.{◌>>=◌}

-- the value has the property, where there is one
abbrev pub Each : {A F : Type 0} → Result A F → (A → Type 0) → Type 0
Each (Ok x) Q = Q x
Each (Err e) Q = Unit {0}

-- the same as a record
pub record Sound {A F : Type 0} (r : Result A F) (Q : A → Type 0) : Type 0 where
  pub is : Each r Q

pub value : {A F : Type 0} (x : A) (Q : A → Type 0) → Q x → Sound {A = A} {F = F} (Ok x) Q
value x Q h = record { is = h }

pub fault : {A F : Type 0} (e : F) (Q : A → Type 0) → Sound {A = A} {F = F} (Err e) Q
fault e Q = record { is = tt }

pub and_then : {A B F : Type 0} (r : Result A F) (f : A → Result B F) (Q : A → Type 0) (R : B → Type 0) → Sound r Q
    → ((x : A) → Q x → Sound (f x) R) → Sound (r >>= f) R
and_then (Ok x) f Q R s g = g x s.is
and_then (Err e) f Q R s g = record { is = tt }

pub if_so : {A F : Type 0} (b : Bool) (p q : Result A F) (R : A → Type 0) → (b ≡ true → Sound p R) → (b ≡ false → Sound q R) → Sound (cond b p q) R
if_so true p q R f g = f refl
if_so false p q R f g = g refl

-- a property of each value, with an equation
pub holds : {A F : Type 0} (r : Result A F) (Q : A → Type 0) (x : A) → Sound r Q → r ≡ Ok x → Q x
holds (Ok y) Q x s e = let same : y ≡ x = cc in rw (← same) s.is
holds (Err f) Q x s e = absurd cc

pub weaker : {A F : Type 0} (r : Result A F) (Q R : A → Type 0) → Sound r Q → ((x : A) → Q x → R x) → Sound r R
weaker (Ok x) Q R s g = record { is = g x s.is }
weaker (Err e) Q R s g = record { is = tt }

-- with the equation that the first reading has its value
pub and_known : {A B F : Type 0} (r : Result A F) (f : A → Result B F) (R : B → Type 0) → ((x : A) → r ≡ Ok x → Sound (f x) R) → Sound (r >>= f) R
and_known (Ok x) f R g = g x refl
and_known (Err e) f R g = record { is = tt }

pub both : {A F : Type 0} (r : Result A F) (Q R : A → Type 0) → Sound r Q → Sound r R → Sound r (λ x. Q x × R x)
both (Ok x) Q R s t = record { is = (s.is, t.is) }
both (Err e) Q R s t = record { is = tt }
