-- Skipped cells, as loops pass over them.
use Rattle.std.proofs.Common.{◌≡◌, ℕ, suc, ◌+◌, ◌-◌, ◌<◌, ◌≤◌, true, false, cond, [], ◌∷◌, length, Ok, Err, refl, sym, ◌∙◌, arith, ◌⊎◌, inl, inr}
use Rattle.bs_verilog_syntax.specs.declared.fault.VerilogFault.{VerilogFault}
use Rattle.bs_verilog_syntax.specs.declared.fault.VerilogFault.TheVariants.{NoMemory, Syntax}
use Rattle.bs_verilog_syntax.specs.declared.reading.Due.TheVariants.{Nothing}
use Rattle.bs_verilog_syntax.specs.Reading.{Rest, Skip, sort, rest, at, refused}
use Rattle.bs_verilog_syntax.specs.Modules.{skipped, further, cells, leading, begun, is_end, is_endmodule, is_cell}

pub skipped_step : (ts : Rest) → 0 < length ts → skipped ts ≡ cond (is_endmodule (sort ts)) (Ok (rest ts))
    (cond (is_end (sort ts)) (Err (Syntax (at ts))) (skipped (rest ts)))
unfolding skipped
skipped_step [] h = absurd (omega arith)
skipped_step (t ∷ ts) h = refl

pub skipped_end : (ts : Rest) (total : Skip) → length ts ≡ 0 → skipped ts ≡ total → total ≡ Ok ts
unfolding skipped
skipped_end [] total h e = sym e
skipped_end (t ∷ ts) total h e = absurd (omega arith)

pub skipped_on : (ts : Rest) (total : Skip) → 0 < length ts → is_endmodule (sort ts) ≡ false → is_end (sort ts) ≡ false → skipped ts ≡ total
    → skipped (rest ts) ≡ total
skipped_on ts total h a b e = sym (skipped_step ts h ∙ rw (a, b) refl) ∙ e

pub skipped_found : (ts : Rest) (total : Skip) → 0 < length ts → is_endmodule (sort ts) ≡ true → skipped ts ≡ total → total ≡ Ok (rest ts)
skipped_found ts total h a e = sym e ∙ skipped_step ts h ∙ rw a refl

pub skipped_fault : (ts : Rest) (total : Skip) → 0 < length ts → is_endmodule (sort ts) ≡ false → is_end (sort ts) ≡ true → skipped ts ≡ total
    → total ≡ Err (Syntax (at ts))
skipped_fault ts total h a b e = sym e ∙ skipped_step ts h ∙ rw (a, b) refl

one_less : (bound i : ℕ) → i < bound → bound - i ≡ suc (bound - (i + 1))
one_less bound i h = omega arith

pub cells_end : (bound i : ℕ) (here : Rest) (total : Skip) → i < bound → is_end (sort here) ≡ true → cells (bound - i) here ≡ total → total ≡ Ok here
unfolding cells
cells_end bound i here total h a e = sym e ∙ rw (one_less bound i h, a) refl

pub cells_on : (bound i : ℕ) (here after : Rest) (total : Skip) → i < bound → is_end (sort here) ≡ false → further here ≡ Ok after
    → cells (bound - i) here ≡ total → cells (bound - (i + 1)) after ≡ total
unfolding cells
cells_on bound i here after total h a f e =
    let one : cells (bound - i) here ≡ cells (bound - (i + 1)) after = rw (one_less bound i h, a, f) refl in
    sym one ∙ e

pub cells_fault : (bound i : ℕ) (here : Rest) (total : Skip) (fault : VerilogFault) → i < bound → is_end (sort here) ≡ false
    → (fault ≡ NoMemory) ⊎ (further here ≡ Err fault)
    → cells (bound - i) here ≡ total → (fault ≡ NoMemory) ⊎ (total ≡ Err fault)
unfolding cells
cells_fault bound i here total fault h a (inl memory) e = inl memory
cells_fault bound i here total fault h a (inr f) e =
    let one : cells (bound - i) here ≡ Err fault = rw (one_less bound i h, a, f) refl in
    inr (sym e ∙ one)

pub cells_bound : (bound i : ℕ) (here : Rest) (total : Skip) → bound ≤ i → cells (bound - i) here ≡ total → total ≡ Err (refused Nothing here)
unfolding cells
cells_bound bound i here total h e = let none : bound - i ≡ 0 = omega arith in sym e ∙ rw none refl

pub leading_end : (bound i : ℕ) (here inside : Rest) (total : Skip) → i < bound → begun here ≡ Ok inside → is_cell (sort inside) ≡ false
    → leading (bound - i) here ≡ total → total ≡ Ok inside
unfolding leading
leading_end bound i here inside total h b a e = sym e ∙ rw (one_less bound i h, b, a) refl

pub leading_on : (bound i : ℕ) (here inside after : Rest) (total : Skip) → i < bound → begun here ≡ Ok inside → is_cell (sort inside) ≡ true
    → skipped inside ≡ Ok after
    → leading (bound - i) here ≡ total → leading (bound - (i + 1)) after ≡ total
unfolding leading
leading_on bound i here inside after total h b a s e =
    let one : leading (bound - i) here ≡ leading (bound - (i + 1)) after = rw (one_less bound i h, b, a, s) refl in
    sym one ∙ e

pub leading_begun : (bound i : ℕ) (here : Rest) (total : Skip) (fault : VerilogFault) → i < bound → (fault ≡ NoMemory) ⊎ (begun here ≡ Err fault)
    → leading (bound - i) here ≡ total → (fault ≡ NoMemory) ⊎ (total ≡ Err fault)
unfolding leading
leading_begun bound i here total fault h (inl memory) e = inl memory
leading_begun bound i here total fault h (inr b) e =
    let one : leading (bound - i) here ≡ Err fault = rw (one_less bound i h, b) refl in
    inr (sym e ∙ one)

pub leading_skipped : (bound i : ℕ) (here inside : Rest) (total : Skip) (fault : VerilogFault) → i < bound → begun here ≡ Ok inside
    → is_cell (sort inside) ≡ true
    → (fault ≡ NoMemory) ⊎ (skipped inside ≡ Err fault) → leading (bound - i) here ≡ total → (fault ≡ NoMemory) ⊎ (total ≡ Err fault)
unfolding leading
leading_skipped bound i here inside total fault h b a (inl memory) e = inl memory
leading_skipped bound i here inside total fault h b a (inr s) e =
    let one : leading (bound - i) here ≡ Err fault = rw (one_less bound i h, b, a, s) refl in
    inr (sym e ∙ one)

pub leading_bound : (bound i : ℕ) (here : Rest) (total : Skip) → bound ≤ i → leading (bound - i) here ≡ total → total ≡ Err (refused Nothing here)
unfolding leading
leading_bound bound i here total h e = let none : bound - i ≡ 0 = omega arith in sym e ∙ rw none refl
