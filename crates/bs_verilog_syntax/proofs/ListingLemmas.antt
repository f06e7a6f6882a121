-- Reading a list with commas, one after the other, as a loop does.
use Rattle.std.proofs.Common.{◌≡◌, ℕ, zero, suc, ◌<◌, ◌≤◌, true, false, cond, List, [], ◌∷◌, ◌++◌, length, Ok, Err, refl, sym, ap, ◌∙◌, append_assoc}
use Rattle.std.proofs.Common.{arith, ◌⊎◌, inl, inr}
use Rattle.bs_verilog_syntax.specs.declared.fault.VerilogFault.{VerilogFault}
use Rattle.bs_verilog_syntax.specs.declared.fault.VerilogFault.TheVariants.{NoMemory}
use Rattle.bs_bits.specs.Reading.{◌>>=◌}
use Rattle.bs_verilog_syntax.specs.Reading.{Rest, Read, is_at, rest, with_commas, listed}

-- what was read before, and what is still read
abbrev pub with_front : {A : Type 0} → List A → Read (List A) → Read (List A)
with_front front read = read >>= λ x. Ok (front ++ x.0, x.1)

-- the members so far, and those that are still to read, are all
abbrev pub IsListed : {A : Type 0} → (Rest → Read A) → List A → Rest → Rest → Type 0
IsListed one items here ts = (n : ℕ) × (length here ≤ n) × (length here ≤ length ts) × (with_front items (with_commas one (suc n) here) ≡ listed one ts)

pub at_start : {A : Type 0} (one : Rest → Read A) (ts : Rest) → IsListed one [] ts ts
at_start one ts = (length ts, omega arith, omega arith, same (with_commas one (suc (length ts)) ts))
  where
    same : {A : Type 0} (r : Read (List A)) → with_front [] r ≡ r
    same (Ok x) = refl
    same (Err e) = refl

after_one : {A : Type 0} (one : Rest → Read A) (n : ℕ) (ts after : Rest) (x : A) → one ts ≡ Ok (x, after)
    → with_commas one (suc n) ts ≡ cond (is_at "," after) (with_commas one n (rest after) >>= λ others. Ok (x ∷ others.0, others.1)) (Ok (x ∷ [], after))
unfolding with_commas
after_one one n ts after x e = rw e refl

regrouped : {A : Type 0} (front : List A) (x : A) (read : Read (List A))
    → with_front front (read >>= λ others. Ok (x ∷ others.0, others.1)) ≡ with_front (front ++ x ∷ []) read
regrouped {A = A} front x (Ok others) = ap (λ (xs : List A). Ok (xs, others.1)) (sym (append_assoc front (x ∷ []) others.0))
regrouped front x (Err e) = refl

pub goes_on : {A : Type 0} (one : Rest → Read A) (front : List A) (here after next ts : Rest) (x : A) → IsListed one front here ts → one here ≡ Ok (x, after)
    → length after ≤ length here → (is_at "," after ≡ true) × (next ≡ rest after) × (length next < length after) → IsListed one (front ++ x ∷ []) next ts
goes_on one front here after next ts x (zero, bound, within, so_far) e less comma = absurd (omega (arith, bound, less, comma.2))
goes_on one front here after next ts x (suc n, bound, within, so_far) e less comma =
    let rest_of = with_commas one (suc n) (rest after) >>= λ others. Ok (x ∷ others.0, others.1) in
    let step : with_commas one (suc (suc n)) here ≡ rest_of =
    after_one one (suc n) here after x e ∙ ap (λ b. cond b rest_of (Ok (x ∷ [], after))) comma.0 in (
      n,
      omega (arith, bound, less, comma.2),
      omega (arith, within, less, comma.2),
      rw comma.1 (sym (ap (with_front front) step ∙ regrouped front x (with_commas one (suc n) (rest after))) ∙ so_far),
    )

pub at_end : {A : Type 0} (one : Rest → Read A) (front : List A) (here after ts : Rest) (x : A) → IsListed one front here ts → one here ≡ Ok (x, after)
    → is_at "," after ≡ false → listed one ts ≡ Ok (front ++ x ∷ [], after)
at_end one front here after ts x l e open_end =
    let rest_of = with_commas one l.0 (rest after) >>= λ others. Ok (x ∷ others.0, others.1) in
    sym l.3 ∙ ap (with_front front) (after_one one l.0 here after x e ∙ ap (λ b. cond b rest_of (Ok (x ∷ [], after))) open_end)

pub at_fault : {A : Type 0} (one : Rest → Read A) (front : List A) (here ts : Rest) (e : VerilogFault) → IsListed one front here ts → one here ≡ Err e
    → listed one ts ≡ Err e
unfolding with_commas
at_fault one front here ts e l h = sym l.3 ∙ rw h refl

pub fault_in : {A : Type 0} (one : Rest → Read A) (front : List A) (here ts : Rest) (e : VerilogFault) → IsListed one front here ts
    → (e ≡ NoMemory) ⊎ (one here ≡ Err e) → (e ≡ NoMemory) ⊎ (listed one ts ≡ Err e)
fault_in one front here ts e l (inl memory) = inl memory
fault_in one front here ts e l (inr h) = inr (at_fault one front here ts e l h)
