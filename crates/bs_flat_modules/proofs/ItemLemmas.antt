-- The items of a module, one after another.
use Rattle.std.proofs.Common.{◌≡◌, ℕ, suc, ◌+◌, ◌-◌, ◌<◌, ◌≤◌, Bool, true, false, cond, List, [], ◌∷◌, ◌++◌, length, take, drop, Result}
use Rattle.std.proofs.Common.{Ok, Err, refl, sym, ap, ◌∙◌, arith, append_assoc, inl, inr, ◌⊎◌}
use Rattle.std.specs.List.{flat_map}
use Rattle.std.proofs.lemmas.List.{length-drop, drop_all, append-nil}
use Rattle.bs_bits.specs.Reading.{◌>>=◌}
use Rattle.std.proofs.Math.Path.{subst}
use Rattle.bs_lex.specs.Packed.{Lexeme}
use Rattle.bs_verilog_syntax.specs.declared.fault.VerilogFault.{VerilogFault}
use Rattle.bs_verilog_syntax.specs.declared.fault.VerilogFault.TheVariants.{NoMemory}
use Rattle.bs_verilog_syntax.specs.Reading.{Rest, sort}
use Rattle.bs_verilog_syntax.specs.Modules.{is_endmodule}
use Rattle.bs_flat_meaning.specs.declared.statements.Written.{Written}
use Rattle.bs_flat_meaning.specs.Pieces.{Item, to_semicolon, items_from}
use Rattle.bs_flat_modules.specs.Copying.{part}
use Rattle.bs_flat_modules.specs.Items.{stays_inside, is_semicolon, IsItem, kept, own_items, with_item, written_items}
use Rattle.bs_flat_modules.specs.Owns.{own_body, written}
use Rattle.bs_flat_modules.proofs.PieceLemmas.{next_of, drop_drop, drop_all_of, same_sort}

-- ---- an item

-- what is found behind so many lexemes
abbrev pub reached : ℕ → Rest → Rest × Rest → Rest × Rest
reached n ts r = (take n ts ++ r.0, r.1)

abbrev longer : Lexeme → Rest × Rest → Rest × Rest
longer t r = (t ∷ r.0, r.1)

semi_is : (inside : Bool) (t : Lexeme) (ts : Rest)
    → to_semicolon inside (t ∷ ts)
    ≡ cond (is_endmodule t.sort) ([], t ∷ ts)
    (cond (is_semicolon inside (t ∷ ts)) (t ∷ [], ts) (longer t (to_semicolon (stays_inside inside t.sort) ts)))
unfolding to_semicolon
semi_is inside t ts = refl

pub semi_start : (ts : Rest) → reached 0 ts (to_semicolon false ts) ≡ to_semicolon false ts
semi_start ts = refl

-- the item so far, and what is still to pass
pub record IsOpen (inside : Bool) (at : ℕ) (ts : Rest) : Type 0 where
  pub within : at ≤ length ts
  pub so_far : reached at ts (to_semicolon inside (drop at ts)) ≡ to_semicolon false ts

pub open_start : (ts : Rest) → IsOpen false 0 ts
open_start ts = record { within = omega arith; so_far = semi_start ts }

open_on_at : (inside : Bool) (at : ℕ) (ts : Rest) → at < length ts → is_endmodule (sort (drop at ts)) ≡ false → is_semicolon inside (drop at ts) ≡ false
    → IsOpen inside at ts → IsOpen (stays_inside inside (sort (drop at ts))) (at + 1) ts
open_on_at inside at ts h e s o =
    let w = next_of at ts h in
    let later = drop (at + 1) ts in
    let next : to_semicolon inside (drop at ts) ≡ longer w.0 (to_semicolon (stays_inside inside w.0.sort) later) =
    ap (to_semicolon inside) w.1.0 ∙ semi_is inside w.0 later
    ∙ ap (λ b. cond b ([], w.0 ∷ later) (cond (is_semicolon inside (w.0 ∷ later)) (w.0 ∷ [], later)
    (longer w.0 (to_semicolon (stays_inside inside w.0.sort) later)))) (sym (ap (λ xs. is_endmodule (sort xs)) w.1.0) ∙ e)
    ∙ ap (λ b. cond b (w.0 ∷ [], later) (longer w.0 (to_semicolon (stays_inside inside w.0.sort) later)))
    (sym (ap (is_semicolon inside) w.1.0) ∙ s) in
    let more = to_semicolon (stays_inside inside w.0.sort) later in
    record {
      within = omega arith;
      so_far =
          ap (λ x. reached (at + 1) ts (to_semicolon (stays_inside inside x) later)) (ap sort w.1.0)
          ∙ ap (λ (xs : Rest). (xs ++ more.0, more.1)) w.1.1
          ∙ ap (λ (xs : Rest). (xs, more.1)) (append_assoc (take at ts) (w.0 ∷ []) more.0)
          ∙ sym (ap (reached at ts) next)
          ∙ o.so_far;
    }

item_at_end_at : (inside : Bool) (at : ℕ) (ts : Rest) → at < length ts → is_endmodule (sort (drop at ts)) ≡ true → IsOpen inside at ts → IsItem ts at
item_at_end_at inside at ts h e o =
    let w = next_of at ts h in
    let later = drop (at + 1) ts in
    let next : to_semicolon inside (drop at ts) ≡ ([], w.0 ∷ later) =
    ap (to_semicolon inside) w.1.0 ∙ semi_is inside w.0 later
    ∙ ap (λ b. cond b ([], w.0 ∷ later) (cond (is_semicolon inside (w.0 ∷ later)) (w.0 ∷ [], later)
    (longer w.0 (to_semicolon (stays_inside inside w.0.sort) later)))) (sym (ap (λ xs. is_endmodule (sort xs)) w.1.0) ∙ e) in (
      sym o.so_far ∙ ap (reached at ts) next ∙ ap (λ (xs : Rest). (xs, w.0 ∷ later)) (append-nil (take at ts))
          ∙ ap (λ (xs : Rest). (take at ts, xs)) (sym w.1.0),
      omega arith,
    )

item_here_at : (inside : Bool) (at : ℕ) (ts : Rest) → at < length ts → is_endmodule (sort (drop at ts)) ≡ false → is_semicolon inside (drop at ts) ≡ true
    → IsOpen inside at ts → IsItem ts (at + 1)
item_here_at inside at ts h e s o =
    let w = next_of at ts h in
    let later = drop (at + 1) ts in
    let next : to_semicolon inside (drop at ts) ≡ (w.0 ∷ [], later) =
    ap (to_semicolon inside) w.1.0 ∙ semi_is inside w.0 later
    ∙ ap (λ b. cond b ([], w.0 ∷ later) (cond (is_semicolon inside (w.0 ∷ later)) (w.0 ∷ [], later)
    (longer w.0 (to_semicolon (stays_inside inside w.0.sort) later)))) (sym (ap (λ xs. is_endmodule (sort xs)) w.1.0) ∙ e)
    ∙ ap (λ b. cond b (w.0 ∷ [], later) (longer w.0 (to_semicolon (stays_inside inside w.0.sort) later)))
    (sym (ap (is_semicolon inside) w.1.0) ∙ s) in (
      sym o.so_far ∙ ap (reached at ts) next ∙ ap (λ (xs : Rest). (xs, later)) (sym w.1.1),
      omega arith,
    )

pub item_all : (inside : Bool) (at : ℕ) (ts : Rest) → length ts ≤ at → IsOpen inside at ts → IsItem ts (length ts)
unfolding to_semicolon
item_all inside at ts h o =
    let same : at ≡ length ts = omega (arith, o.within) in (
      sym o.so_far ∙ ap (λ xs. reached at ts (to_semicolon inside xs)) (drop_all at ts h)
          ∙ ap (λ (xs : Rest). (xs, [])) (append-nil (take at ts))
          ∙ ap (λ k. (take k ts, [])) same
          ∙ ap (λ (xs : Rest). (take (length ts) ts, xs)) (sym (drop_all_of ts)),
      omega arith,
    )

-- ---- what the own text keeps

abbrev items_with : ℕ → Rest → Rest × Rest → List Item × Rest
items_with n ts first = let others = items_from n first.1 in (record { lexemes = first.0; from = ts } ∷ others.0, others.1)

pub items_is : (n : ℕ) (ts : Rest) → items_from (suc n) ts ≡ cond (is_endmodule (sort ts)) ([], ts) (items_with n ts (to_semicolon false ts))
unfolding items_from
items_is n ts = refl

items_next : (n size : ℕ) (ts : Rest) → is_endmodule (sort ts) ≡ false → IsItem ts size
    → items_from (suc n) ts ≡ items_with n ts (take size ts, drop size ts)
items_next n size ts e item = items_is n ts ∙ ap (λ b. cond b ([], ts) (items_with n ts (to_semicolon false ts))) e ∙ ap (items_with n ts) item.0

abbrev kept_of : (ℕ → Bool) → List Item × Rest → Rest
kept_of marks all = flat_map (λ i. kept marks i.lexemes) all.0 ++ all.1

own_next : (marks : ℕ → Bool) (n size : ℕ) (ts : Rest) → is_endmodule (sort ts) ≡ false → IsItem ts size
    → own_items marks (suc n) ts ≡ kept marks (take size ts) ++ own_items marks n (drop size ts)
own_next marks n size ts e item =
    let others = items_from n (drop size ts) in
    ap (kept_of marks) (items_next n size ts e item)
    ∙ append_assoc (kept marks (take size ts)) (flat_map (λ i. kept marks i.lexemes) others.0) others.1

one_less : (bound counter : ℕ) → counter < bound → bound - counter ≡ suc (bound - (counter + 1))
one_less bound counter h = omega arith

same_part : (size : ℕ) (ts : Rest) → take size ts ≡ part ts 0 size
same_part size ts = let k : size ≡ size - 0 = omega arith in ap (λ n. take n ts) k

-- what is kept so far, and of the items from a place on, is all
pub record IsOwning (marks : ℕ → Bool) (own : Rest) (left at : ℕ) (ts total : Rest) : Type 0 where
  pub within : at ≤ length ts
  pub so_far : own ++ own_items marks left (drop at ts) ≡ total

own_on_at : (marks : ℕ → Bool) (own more total : Rest) (bound counter at size : ℕ) (ts item : Rest) → counter < bound
    → is_endmodule (sort (drop at ts)) ≡ false → IsItem (drop at ts) size → item ≡ part (drop at ts) 0 size → more ≡ own ++ kept marks item
    → IsOwning marks own (bound - counter) at ts total → IsOwning marks more (bound - (counter + 1)) (at + size) ts total
own_on_at marks own more total bound counter at size ts item h e is cut added o =
    let n = bound - (counter + 1) in
    let later = own_items marks n (drop (at + size) ts) in
    let next : own_items marks (bound - counter) (drop at ts) ≡ kept marks item ++ later =
    ap (λ k. own_items marks k (drop at ts)) (one_less bound counter h) ∙ own_next marks n size (drop at ts) e is
    ∙ ap (λ (xs : Rest). kept marks xs ++ own_items marks n (drop size (drop at ts))) (same_part size (drop at ts) ∙ sym cut)
    ∙ ap (λ (xs : Rest). kept marks item ++ own_items marks n xs) (drop_drop at size ts) in
    let within = o.within in
    let count = is.1 in
    record {
      within = omega (arith, within, count, length-drop at ts);
      so_far =
          ap (λ (xs : Rest). xs ++ later) added ∙ append_assoc own (kept marks item) later ∙ ap (λ (xs : Rest). own ++ xs) (sym next) ∙ o.so_far;
    }

own_end_at : (marks : ℕ → Bool) (own total : Rest) (bound counter at : ℕ) (ts : Rest) → counter < bound → is_endmodule (sort (drop at ts)) ≡ true
    → IsOwning marks own (bound - counter) at ts total → own ++ drop at ts ≡ total
own_end_at marks own total bound counter at ts h e o =
    let n = bound - (counter + 1) in
    let all : own_items marks (bound - counter) (drop at ts) ≡ drop at ts =
    ap (λ k. own_items marks k (drop at ts)) (one_less bound counter h)
    ∙ ap (kept_of marks) (items_is n (drop at ts)
    ∙ ap (λ b. cond b ([], drop at ts) (items_with n (drop at ts) (to_semicolon false (drop at ts)))) e) in
    ap (λ (xs : Rest). own ++ xs) (sym all) ∙ o.so_far

own_bound_at : (marks : ℕ → Bool) (own total : Rest) (bound counter at : ℕ) (ts : Rest) → bound ≤ counter
    → IsOwning marks own (bound - counter) at ts total → own ++ drop at ts ≡ total
unfolding items_from
own_bound_at marks own total bound counter at ts h o =
    let none : bound - counter ≡ 0 = omega arith in
    sym (ap (λ k. own ++ own_items marks k (drop at ts)) none) ∙ o.so_far

-- ---- the instances

abbrev Instances : Type 0
Instances = Result (List Written) VerilogFault

abbrev written_with : (ℕ → Bool) → ℕ → List Written → Rest → Rest × Rest → Instances
written_with marks n all ts first = with_item marks all first.0 ts >>= λ more. written_items marks n more first.1

written_is : (marks : ℕ → Bool) (n : ℕ) (all : List Written) (ts : Rest)
    → written_items marks (suc n) all ts ≡ cond (is_endmodule (sort ts)) (Ok all) (written_with marks n all ts (to_semicolon false ts))
unfolding written_items
written_is marks n all ts = refl

written_next : (marks : ℕ → Bool) (n size : ℕ) (all : List Written) (ts : Rest) (item : Instances) → is_endmodule (sort ts) ≡ false → IsItem ts size
    → with_item marks all (part ts 0 size) ts ≡ item
    → written_items marks (suc n) all ts ≡ (item >>= λ more. written_items marks n more (drop size ts))
written_next marks n size all ts item e is reads =
    written_is marks n all ts ∙ ap (λ b. cond b (Ok all) (written_with marks n all ts (to_semicolon false ts))) e
    ∙ ap (written_with marks n all ts) is.0
    ∙ ap (λ (i : Instances). i >>= λ more. written_items marks n more (drop size ts))
    (ap (λ (xs : Rest). with_item marks all xs ts) (same_part size ts) ∙ reads)

-- the instances so far, and those of the items from a place on, are all
pub record IsWriting (marks : ℕ → Bool) (all : List Written) (left at : ℕ) (ts : Rest) (total : Instances) : Type 0 where
  pub within : at ≤ length ts
  pub so_far : written_items marks left all (drop at ts) ≡ total

written_on_at : (marks : ℕ → Bool) (all more : List Written) (total : Instances) (bound counter at size : ℕ) (ts lexemes : Rest) → counter < bound
    → is_endmodule (sort (drop at ts)) ≡ false → IsItem (drop at ts) size → lexemes ≡ part (drop at ts) 0 size
    → with_item marks all lexemes (drop at ts) ≡ Ok more
    → IsWriting marks all (bound - counter) at ts total
    → IsWriting marks more (bound - (counter + 1)) (at + size) ts total
written_on_at marks all more total bound counter at size ts lexemes h e item cut found w =
    let n = bound - (counter + 1) in
    let reads : with_item marks all (part (drop at ts) 0 size) (drop at ts) ≡ Ok more =
    sym (ap (λ xs. with_item marks all xs (drop at ts)) cut) ∙ found in
    let within = w.within in
    let count = item.1 in
    record {
      within = omega (arith, within, count, length-drop at ts);
      so_far =
          ap (λ (xs : Rest). written_items marks n more xs) (sym (drop_drop at size ts))
          ∙ sym (ap (λ k. written_items marks k all (drop at ts)) (one_less bound counter h)
          ∙ written_next marks n size all (drop at ts) (Ok more) e item reads)
          ∙ w.so_far;
    }

written_fault_at : (marks : ℕ → Bool) (all : List Written) (total : Instances) (bound counter at size : ℕ) (ts lexemes : Rest) (fault : VerilogFault)
    → counter < bound → is_endmodule (sort (drop at ts)) ≡ false → IsItem (drop at ts) size → lexemes ≡ part (drop at ts) 0 size
    → (fault ≡ NoMemory) ⊎ (with_item marks all lexemes (drop at ts) ≡ Err fault)
    → IsWriting marks all (bound - counter) at ts total → (fault ≡ NoMemory) ⊎ (total ≡ Err fault)
written_fault_at marks all total bound counter at size ts lexemes fault h e item cut (inl memory) w = inl memory
written_fault_at marks all total bound counter at size ts lexemes fault h e item cut (inr found) w =
    let n = bound - (counter + 1) in
    let reads : with_item marks all (part (drop at ts) 0 size) (drop at ts) ≡ Err fault =
    sym (ap (λ xs. with_item marks all xs (drop at ts)) cut) ∙ found in
    inr (sym w.so_far ∙ ap (λ k. written_items marks k all (drop at ts)) (one_less bound counter h)
    ∙ written_next marks n size all (drop at ts) (Err fault) e item reads)

written_end_at : (marks : ℕ → Bool) (all : List Written) (total : Instances) (bound counter at : ℕ) (ts : Rest) → counter < bound
    → is_endmodule (sort (drop at ts)) ≡ true → IsWriting marks all (bound - counter) at ts total → total ≡ Ok all
written_end_at marks all total bound counter at ts h e w =
    let n = bound - (counter + 1) in
    sym w.so_far ∙ ap (λ k. written_items marks k all (drop at ts)) (one_less bound counter h) ∙ written_is marks n all (drop at ts)
    ∙ ap (λ b. cond b (Ok all) (written_with marks n all (drop at ts) (to_semicolon false (drop at ts)))) e

pub written_bound : (marks : ℕ → Bool) (all : List Written) (total : Instances) (bound counter at : ℕ) (ts : Rest) → bound ≤ counter
    → IsWriting marks all (bound - counter) at ts total → total ≡ Ok all
unfolding written_items
written_bound marks all total bound counter at ts h w =
    let none : bound - counter ≡ 0 = omega arith in
    sym w.so_far ∙ ap (λ k. written_items marks k all (drop at ts)) none

-- ---- a body, behind its header

own_whole_at : (marks : ℕ → Bool) (own first more body item : Rest) (size : ℕ) → IsItem body size → item ≡ part body 0 size → first ≡ own ++ item
    → more ≡ first ++ own_items marks (length (drop size body)) (drop size body) → more ≡ own ++ own_body marks body
own_whole_at marks own first more body item size is cut head tail =
    let later = own_items marks (length (drop size body)) (drop size body) in
    tail ∙ ap (λ (xs : Rest). xs ++ later) head ∙ append_assoc own item later
    ∙ ap (λ (xs : Rest). own ++ (xs ++ later)) (cut ∙ sym (same_part size body))
    ∙ ap (λ (h : Rest × Rest). own ++ (h.0 ++ own_items marks (length h.1) h.1)) (sym is.0)

written_whole_at : (marks : ℕ → Bool) (body : Rest) (size : ℕ) → IsItem body size
    → written_items marks (length (drop size body)) [] (drop size body) ≡ written marks body
written_whole_at marks body size is = ap (λ (h : Rest × Rest). written_items marks (length h.1) [] h.1) (sym is.0)

written_whole_fault_at : (marks : ℕ → Bool) (body : Rest) (size : ℕ) (fault : VerilogFault) → IsItem body size
    → (fault ≡ NoMemory) ⊎ (written_items marks (length (drop size body)) [] (drop size body) ≡ Err fault)
    → (fault ≡ NoMemory) ⊎ (written marks body ≡ Err fault)
written_whole_fault_at marks body size fault is (inl memory) = inl memory
written_whole_fault_at marks body size fault is (inr reads) = inr (sym (written_whole_at marks body size is) ∙ reads)

-- ---- the same of what is left, as it is lent

pub open_on : (inside : Bool) (at : ℕ) (ts here : Rest) → here ≡ drop at ts → at < length ts → is_endmodule (sort here) ≡ false
    → is_semicolon inside here ≡ false → IsOpen inside at ts → IsOpen (stays_inside inside (sort here)) (at + 1) ts
open_on inside at ts here same h e s o =
    subst (λ xs. IsOpen (stays_inside inside (sort xs)) (at + 1) ts) (sym same) (open_on_at inside at ts h
    (same_sort is_endmodule here (drop at ts) false same e) (sym (ap (is_semicolon inside) same) ∙ s) o)

pub item_at_end : (inside : Bool) (at : ℕ) (ts here : Rest) → here ≡ drop at ts → at < length ts → is_endmodule (sort here) ≡ true
    → IsOpen inside at ts → IsItem ts at
item_at_end inside at ts here same h e o = item_at_end_at inside at ts h (same_sort is_endmodule here (drop at ts) true same e) o

pub item_here : (inside : Bool) (at : ℕ) (ts here : Rest) → here ≡ drop at ts → at < length ts → is_endmodule (sort here) ≡ false
    → is_semicolon inside here ≡ true → IsOpen inside at ts → IsItem ts (at + 1)
item_here inside at ts here same h e s o =
    item_here_at inside at ts h (same_sort is_endmodule here (drop at ts) false same e) (sym (ap (is_semicolon inside) same) ∙ s) o

pub own_on : (marks : ℕ → Bool) (own more total : Rest) (bound counter at size : ℕ) (ts here item : Rest) → here ≡ drop at ts → counter < bound
    → is_endmodule (sort here) ≡ false → IsItem here size → item ≡ part here 0 size → more ≡ own ++ kept marks item
    → IsOwning marks own (bound - counter) at ts total → IsOwning marks more (bound - (counter + 1)) (at + size) ts total
own_on marks own more total bound counter at size ts here item same h e is cut added o =
    own_on_at marks own more total bound counter at size ts item h (same_sort is_endmodule here (drop at ts) false same e)
    (subst (λ xs. IsItem xs size) same is) (cut ∙ ap (λ (xs : Rest). part xs 0 size) same) added o

pub own_end : (marks : ℕ → Bool) (own total : Rest) (bound counter at : ℕ) (ts here : Rest) → here ≡ drop at ts → counter < bound
    → is_endmodule (sort here) ≡ true → IsOwning marks own (bound - counter) at ts total → own ++ here ≡ total
own_end marks own total bound counter at ts here same h e o =
    ap (λ (xs : Rest). own ++ xs) same
    ∙ own_end_at marks own total bound counter at ts h (same_sort is_endmodule here (drop at ts) true same e) o

pub own_bound : (marks : ℕ → Bool) (own total : Rest) (bound counter at : ℕ) (ts here : Rest) → here ≡ drop at ts → bound ≤ counter
    → IsOwning marks own (bound - counter) at ts total → own ++ here ≡ total
own_bound marks own total bound counter at ts here same h o =
    ap (λ (xs : Rest). own ++ xs) same ∙ own_bound_at marks own total bound counter at ts h o

pub written_on : (marks : ℕ → Bool) (all more : List Written) (total : Instances) (bound counter at size : ℕ) (ts here lexemes : Rest) → here ≡ drop at ts
    → counter < bound → is_endmodule (sort here) ≡ false → IsItem here size → lexemes ≡ part here 0 size → with_item marks all lexemes here ≡ Ok more
    → IsWriting marks all (bound - counter) at ts total → IsWriting marks more (bound - (counter + 1)) (at + size) ts total
written_on marks all more total bound counter at size ts here lexemes same h e item cut found w =
    written_on_at marks all more total bound counter at size ts lexemes h (same_sort is_endmodule here (drop at ts) false same e)
    (subst (λ xs. IsItem xs size) same item) (cut ∙ ap (λ (xs : Rest). part xs 0 size) same) (sym (ap (with_item marks all lexemes) same) ∙ found) w

pub written_fault : (marks : ℕ → Bool) (all : List Written) (total : Instances) (bound counter at size : ℕ) (ts here lexemes : Rest) (fault : VerilogFault)
    → here ≡ drop at ts → counter < bound → is_endmodule (sort here) ≡ false → IsItem here size → lexemes ≡ part here 0 size
    → (fault ≡ NoMemory) ⊎ (with_item marks all lexemes here ≡ Err fault)
    → IsWriting marks all (bound - counter) at ts total → (fault ≡ NoMemory) ⊎ (total ≡ Err fault)
written_fault marks all total bound counter at size ts here lexemes fault same h e item cut found w =
    written_fault_at marks all total bound counter at size ts lexemes fault h (same_sort is_endmodule here (drop at ts) false same e)
    (subst (λ xs. IsItem xs size) same item) (cut ∙ ap (λ (xs : Rest). part xs 0 size) same)
    (subst (λ xs. (fault ≡ NoMemory) ⊎ (with_item marks all lexemes xs ≡ Err fault)) same found) w

pub written_end : (marks : ℕ → Bool) (all : List Written) (total : Instances) (bound counter at : ℕ) (ts here : Rest) → here ≡ drop at ts → counter < bound
    → is_endmodule (sort here) ≡ true → IsWriting marks all (bound - counter) at ts total → total ≡ Ok all
written_end marks all total bound counter at ts here same h e w =
    written_end_at marks all total bound counter at ts h (same_sort is_endmodule here (drop at ts) true same e) w

pub own_whole : (marks : ℕ → Bool) (own first more body item tail : Rest) (size : ℕ) → tail ≡ drop size body → IsItem body size → item ≡ part body 0 size
    → first ≡ own ++ item → more ≡ first ++ own_items marks (length tail) tail → more ≡ own ++ own_body marks body
own_whole marks own first more body item tail size same is cut head rest =
    own_whole_at marks own first more body item size is cut head (rest ∙ ap (λ (xs : Rest). first ++ own_items marks (length xs) xs) same)

pub written_whole : (marks : ℕ → Bool) (body tail : Rest) (size : ℕ) → tail ≡ drop size body → IsItem body size
    → written_items marks (length tail) [] tail ≡ written marks body
written_whole marks body tail size same is =
    ap (λ (xs : Rest). written_items marks (length xs) [] xs) same ∙ written_whole_at marks body size is

pub written_whole_fault : (marks : ℕ → Bool) (body tail : Rest) (size : ℕ) (fault : VerilogFault) → tail ≡ drop size body → IsItem body size
    → (fault ≡ NoMemory) ⊎ (written_items marks (length tail) [] tail ≡ Err fault) → (fault ≡ NoMemory) ⊎ (written marks body ≡ Err fault)
written_whole_fault marks body tail size fault same is found =
    written_whole_fault_at marks body size fault is
    (subst (λ (xs : Rest). (fault ≡ NoMemory) ⊎ (written_items marks (length xs) [] xs ≡ Err fault)) same found)
