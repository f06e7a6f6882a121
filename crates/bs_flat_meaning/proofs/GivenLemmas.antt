-- What a value keeps that is given by a reading, where one is given.
use Rattle.std.proofs.Common.{◌≡◌, ℕ, ◌-◌, length, Bool, true, false, cond, List, [], ◌∷◌, Result, Ok, Err, refl, subst}
use Rattle.std.specs.List.{AllByRecursion}
use Rattle.std.specs.Prelude.{nat_lt}
use Rattle.bs_bits.specs.Reading.{◌>>=◌}
use Rattle.bs_net.specs.Parts.{Parts}
use Rattle.bs_verilog_syntax.specs.declared.tree.Module as code
use Rattle.bs_verilog_syntax.specs.declared.fault.VerilogFault.{VerilogFault}
use Rattle.bs_flat_meaning.specs.declared.fault.FlatFault.{FlatFault}
use Rattle.bs_flat_meaning.specs.declared.fault.FlatFault.TheVariants.{OwnNets}
use Rattle.bs_flat_meaning.specs.Reading.{◌then◌, as_verilog, fitting, owns_within}

-- the value, if there is one, keeps this
pub record Gives {A F : Type 0} (P : A → Type 0) (r : Result A F) : Type 0 where
  pub is : (x : A) → r ≡ Ok x → P x

pub gives_ok : {A F : Type 0} (P : A → Type 0) (x : A) → P x → Gives {F = F} P (Ok x)
gives_ok P x p = record { is = λ y e. let same : x ≡ y = cc in subst P same p }

pub gives_err : {A F : Type 0} (P : A → Type 0) (fault : F) → Gives P (Err fault)
gives_err P fault = record { is = λ x e. absurd cc }

pub gives_on : {A B F : Type 0} (P : A → Type 0) (R : B → Type 0) (r : Result A F) (f : A → Result B F) → Gives P r → ((x : A) → P x → Gives R (f x))
    → Gives R (r >>= f)
gives_on P R (Ok x) f g h = h x (g.is x refl)
gives_on P R (Err fault) f g h = gives_err R fault

pub gives_if : {A F : Type 0} (P : A → Type 0) (b : Bool) (x y : Result A F) → (b ≡ true → Gives P x) → (b ≡ false → Gives P y) → Gives P (cond b x y)
gives_if P true x y f g = f refl
gives_if P false x y f g = g refl

-- a value of which nothing is said
pub gives_any : {A F : Type 0} (r : Result A F) → Gives (λ _. Unit {0}) r
gives_any r = record { is = λ x e. tt }

pub gives_then : {A B : Type 0} (P : A → Type 0) (R : B → Type 0) (r : Result A FlatFault) (f : A → Result B FlatFault) → Gives P r
    → ((x : A) → P x → Gives R (f x)) → Gives R (r then f)
gives_then P R (Ok x) f g h = h x (g.is x refl)
gives_then P R (Err fault) f g h = gives_err R fault

pub gives_verilog : {A : Type 0} (P : A → Type 0) (r : Result A VerilogFault) → Gives P r → Gives P (as_verilog r)
gives_verilog P (Ok x) g = gives_ok P x (g.is x refl)
gives_verilog P (Err fault) g = record { is = λ x e. absurd cc }

pub gives_fitting : {A : Type 0} (R : A → Type 0) (b : Bool) (place : ℕ) (r : Result A FlatFault) → Gives R r → Gives R (fitting b place r)
gives_fitting R true place r g = gives_err R (OwnNets place)
gives_fitting R false place r g = g

pub gives_owns : {A : Type 0} (Q : code.Module × Parts → Type 0) (place : A → ℕ) (f : A → Result (code.Module × Parts) FlatFault) (room : ℕ) (xs : List A)
    → ((x : A) → Gives Q (f x)) → Gives (AllByRecursion Q) (owns_within place f room xs)
unfolding owns_within
gives_owns Q place f room [] g = gives_ok (AllByRecursion Q) [] tt
gives_owns Q place f room (x ∷ xs) g =
    gives_then Q (AllByRecursion Q) (f x) _ (g x)
    (λ y q.
    gives_fitting (AllByRecursion Q) (nat_lt room (length y.1.names)) (place x) _
    (gives_then (AllByRecursion Q) (AllByRecursion Q) (owns_within place f (room - length y.1.names) xs) (λ ys. Ok (y ∷ ys))
    (gives_owns Q place f (room - length y.1.names) xs g) (λ ys qs. gives_ok (AllByRecursion Q) (y ∷ ys) (q, qs))))
