-- Reading items one after the other, as a loop does.
use Rattle.std.proofs.Common.{◌≡◌, ℕ, suc, ◌+◌, ◌-◌, ◌<◌, ◌≤◌, true, false, [], length, Ok, Err, refl, sym, ◌∙◌, append_assoc, arith, ◌⊎◌, inl, inr}
use Rattle.std.proofs.lemmas.List.{append-nil}
use Rattle.bs_verilog_syntax.specs.declared.fault.VerilogFault.{VerilogFault}
use Rattle.bs_verilog_syntax.specs.declared.fault.VerilogFault.TheVariants.{NoMemory}
use Rattle.bs_verilog_syntax.specs.declared.reading.Due.TheVariants.{Nothing}
use Rattle.bs_verilog_syntax.specs.declared.tree.Adds.{Adds}
use Rattle.bs_bits.specs.Reading.{◌>>=◌}
use Rattle.bs_verilog_syntax.specs.Reading.{Rest, Read, sort, rest, refused}
use Rattle.bs_verilog_syntax.specs.Terms.{attributes}
use Rattle.bs_verilog_syntax.specs.Modules.{item, items, together, is_endmodule}

-- what the items so far add, and what those add that are still to read
abbrev pub with_adds : Adds → Read Adds → Read Adds
with_adds front read = read >>= λ x. Ok (together front x.0, x.1)

abbrev pub AreItems : Adds → ℕ → Rest → Rest → Type 0
AreItems front n here ts = with_adds front (items n here) ≡ items (length ts + 1) ts

pub none_yet : (n : ℕ) (front : Adds) (here : Rest) → front.declared ≡ [] → front.parts ≡ [] → with_adds front (items n here) ≡ items n here
none_yet n front here ds ps = same front (items n here) ds ps
  where
    same : (front : Adds) (r : Read Adds) → front.declared ≡ [] → front.parts ≡ [] → with_adds front r ≡ r
    same front (Ok x) ds ps = rw (ds, ps) refl
    same front (Err e) ds ps = refl

regrouped : (front a : Adds) (r : Read Adds) → with_adds front (r >>= λ x. Ok (together a x.0, x.1)) ≡ with_adds (together front a) r
regrouped front a (Ok x) =
    rw (append_assoc front.declared a.declared x.0.declared, append_assoc front.parts a.parts x.0.parts) refl
regrouped front a (Err e) = refl

one_less : (bound i : ℕ) → i < bound → bound - i ≡ suc (bound - (i + 1))
one_less bound i h = omega arith

pub items_end : (front : Adds) (bound i : ℕ) (here ts : Rest) → i < bound → is_endmodule (sort here) ≡ true → AreItems front (bound - i) here ts
    → items (length ts + 1) ts ≡ Ok (front, rest here)
unfolding items
items_end front bound i here ts h ends so_far =
    let one : with_adds front (items (bound - i) here) ≡ Ok (front, rest here) =
    rw (one_less bound i h, ends, append-nil front.declared, append-nil front.parts) refl in
    sym so_far ∙ one

pub items_on : (front a : Adds) (bound i : ℕ) (here inside after ts : Rest) → i < bound → is_endmodule (sort here) ≡ false → attributes here ≡ Ok inside
    → item inside ≡ Ok (a, after) → AreItems front (bound - i) here ts → AreItems (together front a) (bound - (i + 1)) after ts
unfolding items
items_on front a bound i here inside after ts h going attrs it so_far =
    let one : with_adds front (items (bound - i) here) ≡ with_adds front (items (bound - (i + 1)) after >>= λ x. Ok (together a x.0, x.1)) =
    rw (one_less bound i h, going, attrs, it) refl in
    sym (regrouped front a (items (bound - (i + 1)) after)) ∙ sym one ∙ so_far

pub items_attributes : (front : Adds) (bound i : ℕ) (here ts : Rest) (e : VerilogFault) → i < bound → is_endmodule (sort here) ≡ false
    → (e ≡ NoMemory) ⊎ (attributes here ≡ Err e) → AreItems front (bound - i) here ts → (e ≡ NoMemory) ⊎ (items (length ts + 1) ts ≡ Err e)
unfolding items
items_attributes front bound i here ts e h going (inl memory) so_far = inl memory
items_attributes front bound i here ts e h going (inr attrs) so_far =
    let one : with_adds front (items (bound - i) here) ≡ Err e = rw (one_less bound i h, going, attrs) refl in
    inr (sym so_far ∙ one)

pub items_item : (front : Adds) (bound i : ℕ) (here inside ts : Rest) (e : VerilogFault) → i < bound → is_endmodule (sort here) ≡ false
    → attributes here ≡ Ok inside
    → (e ≡ NoMemory) ⊎ (item inside ≡ Err e) → AreItems front (bound - i) here ts → (e ≡ NoMemory) ⊎ (items (length ts + 1) ts ≡ Err e)
unfolding items
items_item front bound i here inside ts e h going attrs (inl memory) so_far = inl memory
items_item front bound i here inside ts e h going attrs (inr it) so_far =
    let one : with_adds front (items (bound - i) here) ≡ Err e = rw (one_less bound i h, going, attrs, it) refl in
    inr (sym so_far ∙ one)

pub items_bound : (front : Adds) (bound i : ℕ) (here ts : Rest) → bound ≤ i → AreItems front (bound - i) here ts
    → items (length ts + 1) ts ≡ Err (refused Nothing here)
unfolding items
items_bound front bound i here ts h so_far =
    let none : bound - i ≡ 0 = omega arith in
    let one : with_adds front (items (bound - i) here) ≡ Err (refused Nothing here) = rw none refl in
    sym so_far ∙ one
