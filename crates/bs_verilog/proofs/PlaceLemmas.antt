-- Steps one after the other, as a loop does them, and the room for a new key.
use Rattle.std.proofs.Common.{◌≡◌, ℕ, ◌+◌, ◌<◌, ◌≤◌, false, List, length, get_or, drop, Option, Some, None, Ok, Err, Result, refl, sym, ap, ◌∙◌, inl, inr, ◌⊎◌}
use Rattle.std.specs.Prelude.{IsSome, not, ◌&&◌, nat_le, is_some}
use Rattle.std.proofs.lemmas.Bool.{leb-false}
use Rattle.std.proofs.lemmas.List.{drop_more, drop_all}
use Rattle.bs_net.specs.Names.{number_of}
use Rattle.bs_verilog_syntax.specs.declared.fault.VerilogFault.{VerilogFault}
use Rattle.bs_verilog_syntax.specs.declared.fault.VerilogFault.TheVariants.{NoMemory}
use Rattle.bs_bits.specs.Reading.{◌>>=◌}
use Rattle.bs_verilog.specs.Building.{each, is_full}

-- one step more
each_step : {A B : Type 0} (step : B → A → Result B VerilogFault) (b : B) (xs : List A) (i : ℕ) (d : A) → i < length xs
    → each step b (drop i xs) ≡ step b (get_or xs i d) >>= λ more. each step more (drop (i + 1) xs)
unfolding each
each_step step b xs i d h = rw (drop_more xs i d h) refl

pub each_on : {A B : Type 0} (step : B → A → Result B VerilogFault) (b more : B) (xs : List A) (i : ℕ) (d : A) (total : Result B VerilogFault) → i < length xs
    → step b (get_or xs i d) ≡ Ok more → each step b (drop i xs) ≡ total → each step more (drop (i + 1) xs) ≡ total
each_on step b more xs i d total h e so_far =
    sym (each_step step b xs i d h ∙ ap (λ r. r >>= λ next. each step next (drop (i + 1) xs)) e) ∙ so_far

pub each_fault : {A B : Type 0} (step : B → A → Result B VerilogFault) (b : B) (fault : VerilogFault) (xs : List A) (i : ℕ) (d : A)
    (total : Result B VerilogFault) → i < length xs
    → (fault ≡ NoMemory) ⊎ (step b (get_or xs i d) ≡ Err fault) → each step b (drop i xs) ≡ total → (fault ≡ NoMemory) ⊎ (total ≡ Err fault)
each_fault step b fault xs i d total h (inl memory) so_far = inl memory
each_fault step b fault xs i d total h (inr e) so_far =
    inr (sym so_far ∙ each_step step b xs i d h ∙ ap (λ r. r >>= λ next. each step next (drop (i + 1) xs)) e)

pub each_end : {A B : Type 0} (step : B → A → Result B VerilogFault) (b : B) (xs : List A) (i : ℕ) (total : Result B VerilogFault) → length xs ≤ i
    → each step b (drop i xs) ≡ total → total ≡ Ok b
unfolding each
each_end step b xs i total h so_far = sym so_far ∙ ap (each step b) (drop_all i xs h)

-- there is room for one more, or it is there
pub room : (names : List (List ℕ)) (key : List ℕ) → is_full names key ≡ false → (length names < 100000) ⊎ IsSome (number_of names key)
room names key e = by (number_of names key) e
  where
    by : (o : Option ℕ) → (not (is_some o) && nat_le 100000 (length names)) ≡ false → (length names < 100000) ⊎ IsSome o
    by (Some n) e = inr cc
    by None e = inl (leb-false 100000 (length names) e)

-- the same where the member is lent

pub each_on_item : {A B : Type 0} (step : B → A → Result B VerilogFault) (b more : B) (xs : List A) (i : ℕ) (item : A) (total : Result B VerilogFault)
    → i < length xs
    → item ≡ get_or xs i item → step b item ≡ Ok more → each step b (drop i xs) ≡ total → each step more (drop (i + 1) xs) ≡ total
each_on_item step b more xs i item total h is e so_far = each_on step b more xs i item total h (ap (step b) (sym is) ∙ e) so_far

pub each_fault_item : {A B : Type 0} (step : B → A → Result B VerilogFault) (b : B) (fault : VerilogFault) (xs : List A) (i : ℕ) (item : A)
    (total : Result B VerilogFault) → i < length xs
    → item ≡ get_or xs i item → (fault ≡ NoMemory) ⊎ (step b item ≡ Err fault) → each step b (drop i xs) ≡ total → (fault ≡ NoMemory) ⊎ (total ≡ Err fault)
each_fault_item step b fault xs i item total h is (inl memory) so_far = inl memory
each_fault_item step b fault xs i item total h is (inr e) so_far = each_fault step b fault xs i item total h (inr (ap (step b) (sym is) ∙ e)) so_far
