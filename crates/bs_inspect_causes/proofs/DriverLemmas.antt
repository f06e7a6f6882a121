-- Which nets are marked.
use Rattle.std.proofs.Common.{◌≡◌, ℕ, ◌<◌, ◌≤◌, ◌+◌, Bool, true, false, ◌||◌, ◌==◌, List, [], ◌∷◌, ◌++◌, map, length, get_or, set, take, replicate, refl, subst, ap, sym, ◌∙◌, ◌⊎◌, inl, inr, ⊎_elim, arith}
use Rattle.std.specs.List.{All}
use Rattle.std.proofs.lemmas.Bool.{cases_eq, cases_lt, eq-eqb, ne_eqb, or_right}
use Rattle.std.proofs.lemmas.List.{get_or-map, get_or-replicate, get_or-set_other, get_or-set_same, get_or_default, get_or_past, length-map, length-replicate, map_more, take_all}
use Rattle.std.proofs.lemmas.List.Folds.{list_any_more}
use Rattle.bs_net.specs.declared.net.NetId.{NetId}
use Rattle.bs_net.specs.declared.net.Flop.{Flop}
use Rattle.bs_net.specs.declared.net.Gate.{Gate}
use Rattle.bs_net.specs.declared.net.Const.{Const}
use Rattle.bs_net.specs.declared.raw.Raw.{Raw}
use Rattle.bs_net.specs.Circuit.{Circuit, number, state_nets}
use Rattle.bs_net.specs.Netlist.{Checked, circuit, parts_of}
use Rattle.bs_net.specs.Order.{IsChecked}
use Rattle.bs_net.specs.Parts.{Parts}
use Rattle.bs_net_facts.proofs.PassLemmas.{all_left, all_right}
use Rattle.bs_inspect_causes.specs.Accounts.{has_net}
use Rattle.bs_inspect_causes.specs.Layers.{AreDrivers, MarksThese}

or_none : (x y : Bool) → y ≡ false → (x || y) ≡ x
or_none true y e = refl
or_none false y e = e

-- ---- marks

pub none_marked : (count : ℕ) → MarksThese [] (replicate count false)
none_marked count = record { each = λ n. by n.0 (cases_lt n.0 count) }
  where
    by : (k : ℕ) → (k < count) ⊎ (count ≤ k) → get_or (replicate count false) k false ≡ false
    by k (inl lt) = get_or-replicate count k false false lt
    by k (inr le) = get_or_past (replicate count false) k false (omega (arith, le, length-replicate count false))

pub marks_none : (nets : List NetId) (marks : List Bool) → MarksThese [] marks → MarksThese (take 0 nets) marks
marks_none nets marks h = h

pub marks_more : (nets : List NetId) (j : ℕ) (d : NetId) (now : List Bool) → j < length nets → (get_or nets j d).0 < length now →
    MarksThese (take j nets) now → MarksThese (take (j + 1) nets) (set now (get_or nets j d).0 true)
marks_more nets j d now lt below h = record {
  each = λ p.
      let n : ℕ = (get_or nets j d).0 in
      let more : has_net (take (j + 1) nets) p ≡ (has_net (take j nets) p || (n == p.0)) = list_any_more (λ (m : NetId). m.0 == p.0) nets j d lt in
      ⊎_elim
      (λ (same : p.0 ≡ n).
      let on : get_or (set now n true) p.0 false ≡ true =
      subst (λ (k : ℕ). get_or (set now n true) k false ≡ true) (sym same) (get_or-set_same now n true false below) in
      on ∙ sym (more ∙ or_right (has_net (take j nets) p) (n == p.0) (eq-eqb n p.0 (sym same))))
      (λ (other : p.0 ≡ n → ⊥).
      get_or-set_other now n p.0 true false other
      ∙ (h.each p ∙ sym (more ∙ or_none (has_net (take j nets) p) (n == p.0) (ne_eqb n p.0 (λ e. other (sym e))))))
      (cases_eq p.0 n);
}

pub marks_put : (nets : List NetId) (j : ℕ) (d : NetId) (old now : List Bool) → j < length nets → All (λ (n : NetId). n.0 < length old) nets →
    length now ≡ length old → MarksThese (take j nets) now → MarksThese (take (j + 1) nets) (set now (get_or nets j d).0 true)
marks_put nets j d old now lt placed long h =
    marks_more nets j d now lt (subst (λ (n : ℕ). (get_or nets j d).0 < n) (sym long) (placed j d lt)) h

pub marks_all : (nets : List NetId) (j : ℕ) (marks : List Bool) → length nets ≤ j → MarksThese (take j nets) marks → MarksThese nets marks
marks_all nets j marks le h = subst (λ (ns : List NetId). MarksThese ns marks) (take_all j nets le) h

pub mark_there : (marks : List Bool) (p : ℕ) (m : Bool) → p < length marks → m ≡ get_or marks p m → m ≡ get_or marks p false
mark_there marks p m lt e = e ∙ get_or_default marks p m false lt

pub mark_past : (marks : List Bool) (p : ℕ) → length marks ≤ p → false ≡ get_or marks p false
mark_past marks p le = sym (get_or_past marks p false le)

-- ---- nets that are driven are nets

unmap : {X Y : Type 0} (P : Y → Type 0) (f : X → Y) (xs : List X) → All P (map f xs) → All (λ x. P (f x)) xs
unmap P f xs h = λ k d lt. subst P (get_or-map f xs k d (f d) lt) (h k (f d) (omega (arith, lt, length-map xs f)))

pub inputs_below : (c : Circuit) → IsChecked c → All (λ (n : NetId). n.0 < c.nets) c.inputs
inputs_below c h =
    let P : ℕ → Type 0 = λ k. k < c.nets in
    let rest : List ℕ = map number (state_nets c) ++ (map (λ (k : Const). k.net.0) c.constants ++ map (λ (g : Gate). g.out.0) c.gates) in
    unmap P number c.inputs (all_left P (map number c.inputs) rest h.in_range)

pub flops_below : (c : Circuit) → IsChecked c → All (λ (n : NetId). n.0 < c.nets) (state_nets c)
flops_below c h =
    let P : ℕ → Type 0 = λ k. k < c.nets in
    let last : List ℕ = map (λ (k : Const). k.net.0) c.constants ++ map (λ (g : Gate). g.out.0) c.gates in
    unmap P number (state_nets c)
    (all_left P (map number (state_nets c)) last (all_right P (map number c.inputs) (map number (state_nets c) ++ last) h.in_range))

-- the number of nets, as the parts say it
count_is : (n : Checked) (r : Raw) (count : ℕ) → parts_of r ≡ n.raw → count ≡ length r.names → (circuit n).nets ≡ count
count_is n r count same e = sym (e ∙ ap (λ (p : Parts). length p.names) same)

pub inputs_placed : (n : Checked) (r : Raw) (nets : List NetId) (count : ℕ) → IsChecked (circuit n) → parts_of r ≡ n.raw → count ≡ length r.names →
    nets ≡ (circuit n).inputs → All (λ (m : NetId). m.0 < count) nets
inputs_placed n r nets count checked same e are =
    subst (λ (ns : List NetId). All (λ (m : NetId). m.0 < count) ns) (sym are)
    (subst (λ (k : ℕ). All (λ (m : NetId). m.0 < k) (circuit n).inputs) (count_is n r count same e) (inputs_below (circuit n) checked))

pub flops_placed : (n : Checked) (r : Raw) (nets : List NetId) (count : ℕ) → IsChecked (circuit n) → parts_of r ≡ n.raw → count ≡ length r.names →
    nets ≡ state_nets (circuit n) → All (λ (m : NetId). m.0 < count) nets
flops_placed n r nets count checked same e are =
    subst (λ (ns : List NetId). All (λ (m : NetId). m.0 < count) ns) (sym are)
    (subst (λ (k : ℕ). All (λ (m : NetId). m.0 < k) (state_nets (circuit n))) (count_is n r count same e) (flops_below (circuit n) checked))

-- ---- the outputs of flip-flops

pub outputs_more : (flops : List Flop) (i : ℕ) (d : Flop) (old new : List NetId) → i < length flops → new ≡ old ++ (get_or flops i d).q ∷ [] →
    old ≡ map (λ (f : Flop). f.q) (take i flops) → new ≡ map (λ (f : Flop). f.q) (take (i + 1) flops)
outputs_more flops i d old new lt goes before =
    goes ∙ (ap (λ (ns : List NetId). ns ++ (get_or flops i d).q ∷ []) before ∙ sym (map_more (λ (f : Flop). f.q) flops i d lt))

pub outputs_all : (flops : List Flop) (i : ℕ) (nets : List NetId) → length flops ≤ i → nets ≡ map (λ (f : Flop). f.q) (take i flops) →
    nets ≡ map (λ (f : Flop). f.q) flops
outputs_all flops i nets le e = e ∙ ap (λ (fs : List Flop). map (λ (f : Flop). f.q) fs) (take_all i flops le)

-- ---- all together

pub drivers_are : (c : Circuit) (flops nets : List NetId) (by_flop by_input : List Bool) → IsChecked c → flops ≡ state_nets c → nets ≡ flops →
    MarksThese nets by_flop → MarksThese c.inputs by_input →
    AreDrivers c (record { flops = flops; by_flop = by_flop; by_input = by_input })
drivers_are c flops nets by_flop by_input checked are e flop input = record {
  checked = checked;
  flops = are;
  by_flop = subst (λ (ns : List NetId). MarksThese ns by_flop) (e ∙ are) flop;
  by_input = input;
}
