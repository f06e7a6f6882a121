-- The writes that settle a netlist make the one valuation that fits.
use Rattle.std.proofs.Common.{◌≡◌, ◌≢◌, ℕ, ◌<◌, ◌≤◌, Bool, true, false, not, ◌||◌, List, [], ◌∷◌, ◌++◌, map, length, get_or, replicate, refl, arith}
use Rattle.std.proofs.Common.{subst, ap, sym, ◌∙◌, ⊎_elim, nat_eq}
use Rattle.std.specs.List.{AllByRecursion, All, range_with_len, IsDistinct, list_any}
use Rattle.std.specs.List.Sorted.{IsPermutation}
use Rattle.std.proofs.lemmas.Bool.{cases_eq, cases_lt, true≢false, not-true, eqb-false, ne_eqb}
use Rattle.std.proofs.lemmas.Cmp.{nat_eq_equiv}
use Rattle.std.proofs.lemmas.List.{map-append, length-replicate, get_or-replicate, get_or_past, length-map}
use Rattle.std.proofs.lemmas.List.Elements.{All-from_recursion, recursion_from_All}
use Rattle.std.proofs.lemmas.List.FromFn.{fill_by_all}
use Rattle.std.proofs.lemmas.List.Sorted.{IsPermutation-map, IsPermutation-append_right, IsPermutation-sym, All-permutation}
use Rattle.std.proofs.lemmas.Map.Keys.{IsDistinct-head, IsDistinct-tail, IsDistinct-IsPermutation}
use Rattle.bs_net.specs.declared.net.NetId.{NetId}
use Rattle.bs_net.specs.declared.net.Gate.{Gate}
use Rattle.bs_net.specs.declared.net.Const.{Const}
use Rattle.bs_net.specs.Circuit.{Circuit, Fits, Shows, IsSettled, bit_at, shown, drivers, number, state_nets, is_zero_net}
use Rattle.bs_net.specs.Order.{IsOrder, IsLevelled, gates_in, no_gate, ExactlyOneFits}
use Rattle.bs_net.specs.Steps.{Step, puts, constant_step, gate_write, steps, settled_by}
use Rattle.bs_net.proofs.StepLemmas.{Misses, Holds, ReadsEarlier, Apart, Placed, length-run, run_other, run_holds, run_unique}

-- ---- targets

abbrev targets : List Step → List ℕ
targets ss = map (λ s. s.target) ss

targets-puts : (ns : List NetId) (bs : List Bool) → length bs ≡ length ns → targets (puts ns bs) ≡ map number ns
targets-puts [] bs l = refl
targets-puts (n ∷ ns) [] l = absurd (omega arith)
targets-puts (n ∷ ns) (b ∷ bs) l = ap (λ ts. n.0 ∷ ts) (targets-puts ns bs (omega arith))

targets-constants : (ks : List Const) → targets (map constant_step ks) ≡ map (λ k. k.net.0) ks
targets-constants [] = refl
targets-constants (k ∷ ks) = ap (λ ts. k.net.0 ∷ ts) (targets-constants ks)

targets-gates : (gs : List Gate) → targets (map gate_write gs) ≡ map (λ g. g.out.0) gs
targets-gates [] = refl
targets-gates (g ∷ gs) = ap (λ ts. g.out.0 ∷ ts) (targets-gates gs)

-- the nets that the writes drive, with the gates in order
abbrev driven : Circuit → List ℕ → List ℕ
driven c order =
    map number c.inputs ++ (map number (state_nets c) ++ (map (λ k. k.net.0) c.constants ++ map (λ g. g.out.0) (gates_in order c.gates)))

targets-steps : (c : Circuit) (s x : List Bool) (order : List ℕ) → length s ≡ length (state_nets c) → length x ≡ length c.inputs →
    targets (steps c s x order) ≡ driven c order
targets-steps c s x order ls lx =
    let f : Step → ℕ = λ t. t.target in
    let a = puts c.inputs x in
    let b = puts (state_nets c) s in
    let k = map constant_step c.constants in
    let g = map gate_write (gates_in order c.gates) in
    map-append f a (b ++ (k ++ g))
    ∙ (ap (λ u. u ++ map f (b ++ (k ++ g))) (targets-puts c.inputs x lx)
    ∙ ap (λ u. map number c.inputs ++ u)
    (map-append f b (k ++ g)
    ∙ (ap (λ u. u ++ map f (k ++ g)) (targets-puts (state_nets c) s ls)
    ∙ ap (λ u. map number (state_nets c) ++ u)
    (map-append f k g
    ∙ (ap (λ u. u ++ map f g) (targets-constants c.constants)
    ∙ ap (λ u. map (λ n. n.net.0) c.constants ++ u) (targets-gates (gates_in order c.gates)))))))

-- an order of the gates moves them only
pub gates_move : (gates : List Gate) (order : List ℕ) → IsOrder gates order → IsPermutation gates (gates_in order gates)
gates_move gates order o =
    let f : ℕ → Gate = λ i. get_or gates i no_gate in
    let same : gates ≡ map f (range_with_len 0 (length gates)) = fill_by_all f gates (length gates) no_gate refl (λ k h. refl) in
    let P : List Gate → Type 0 = λ gs. IsPermutation gs (map f order) in
    subst P (sym same) (IsPermutation-map f _ _ o.each_once)

drivers_move : (c : Circuit) (order : List ℕ) → IsOrder c.gates order → IsPermutation (drivers c) (driven c order)
drivers_move c order o =
    IsPermutation-append_right (map number c.inputs) _ _
    (IsPermutation-append_right (map number (state_nets c)) _ _
    (IsPermutation-append_right (map (λ k. k.net.0) c.constants) _ _
    (IsPermutation-map (λ g. g.out.0) _ _ (gates_move c.gates order o))))

-- what holds of each driver holds of each target
pub of_targets : (P : ℕ → Type 0) (c : Circuit) (s x : List Bool) (order : List ℕ) → IsOrder c.gates order → length s ≡ length (state_nets c) →
    length x ≡ length c.inputs → AllByRecursion P (drivers c) → AllByRecursion P (targets (steps c s x order))
of_targets P c s x order o ls lx h =
    let Q : List ℕ → Type 0 = λ ts. AllByRecursion P ts in
    subst Q (sym (targets-steps c s x order ls lx))
    (recursion_from_All P _ (All-permutation P _ _ (drivers_move c order o) (All-from_recursion P _ h)))

-- and the other way round
pub of_drivers : (P : ℕ → Type 0) (c : Circuit) (s x : List Bool) (order : List ℕ) → IsOrder c.gates order → length s ≡ length (state_nets c) →
    length x ≡ length c.inputs → AllByRecursion P (targets (steps c s x order)) → AllByRecursion P (drivers c)
of_drivers P c s x order o ls lx h =
    let Q : List ℕ → Type 0 = λ ts. AllByRecursion P ts in
    let moved = IsPermutation-sym _ _ (drivers_move c order o) in
    recursion_from_All P _ (All-permutation P _ _ moved (All-from_recursion P _ (subst Q (targets-steps c s x order ls lx) h)))

-- ---- no target

pub misses_from : (ss : List Step) (n : ℕ) → AllByRecursion (λ y. nat_eq n y ≡ false) (targets ss) → Misses ss n
misses_from [] n h = tt
misses_from (s ∷ ss) n h = (λ e. eqb-false n s.target h.0 (sym e), misses_from ss n h.1)

pub from_misses : (ss : List Step) (n : ℕ) → Misses ss n → AllByRecursion (λ y. nat_eq n y ≡ false) (targets ss)
from_misses [] n h = tt
from_misses (s ∷ ss) n h = (ne_eqb n s.target (λ e. h.0 (sym e)), from_misses ss n h.1)

apart_from : (ss : List Step) → IsDistinct nat_eq (targets ss) → Apart ss
apart_from [] h = tt
apart_from (s ∷ ss) h =
    (misses_from ss s.target (IsDistinct-head nat_eq s.target (targets ss) h), apart_from ss (IsDistinct-tail nat_eq s.target (targets ss) h))

pub placed_from : (m : ℕ) (ss : List Step) → AllByRecursion (λ t. t < m) (targets ss) → Placed m ss
placed_from m [] h = tt
placed_from m (s ∷ ss) h = (h.0, placed_from m ss h.1)

or_false : (a b : Bool) → (a || b) ≡ false → (a ≡ false) × (b ≡ false)
or_false true b h = absurd (true≢false h)
or_false false b h = (refl, h)

none_of : (n : ℕ) (ns : List ℕ) → list_any (λ m. nat_eq n m) ns ≡ false → AllByRecursion (λ y. nat_eq n y ≡ false) ns
none_of n [] h = tt
none_of n (m ∷ ns) h =
    let parts : (nat_eq n m ≡ false) × (list_any (λ k. nat_eq n k) ns ≡ false) = or_false _ _ h in
    (parts.0, none_of n ns parts.1)

any_of : (n : ℕ) (ns : List ℕ) → AllByRecursion (λ y. nat_eq n y ≡ false) ns → list_any (λ m. nat_eq n m) ns ≡ false
any_of n [] h = refl
any_of n (m ∷ ns) h = ap (λ b. b || list_any (λ m. nat_eq n m) ns) h.0 ∙ any_of n ns h.1

-- ---- what the writes read

reads_earlier-puts : (ns : List NetId) (bs : List Bool) (ss : List Step) → ReadsEarlier ss → ReadsEarlier (puts ns bs ++ ss)
reads_earlier-puts [] bs ss h = h
reads_earlier-puts (n ∷ ns) [] ss h = h
reads_earlier-puts (n ∷ ns) (b ∷ bs) ss h = (tt, reads_earlier-puts ns bs ss h)

reads_earlier-constants : (ks : List Const) (ss : List Step) → ReadsEarlier ss → ReadsEarlier (map constant_step ks ++ ss)
reads_earlier-constants [] ss h = h
reads_earlier-constants (k ∷ ks) ss h = (tt, reads_earlier-constants ks ss h)

misses_gates : (gs : List Gate) (n : ℕ) → AllByRecursion (λ (h : Gate). h.out.0 ≢ n) gs → Misses (map gate_write gs) n
misses_gates [] n h = tt
misses_gates (g ∷ gs) n h = (h.0, misses_gates gs n h.1)

pub reads_missed : (gs : List Gate) (ns : List NetId) → AllByRecursion (λ (n : NetId). All (λ (h : Gate). h.out.0 ≢ n.0) gs) ns →
    AllByRecursion (λ (n : NetId). Misses (map gate_write gs) n.0) ns
reads_missed gs [] h = tt
reads_missed gs (n ∷ ns) h =
    (misses_gates gs n.0 (recursion_from_All (λ (k : Gate). k.out.0 ≢ n.0) gs h.0), reads_missed gs ns h.1)

pub reads_earlier-gates : (gs : List Gate) → IsLevelled gs → ReadsEarlier (map gate_write gs)
reads_earlier-gates [] h = tt
reads_earlier-gates (g ∷ gs) h =
    (reads_missed (g ∷ gs) g.ins (recursion_from_All (λ (n : NetId). All (λ (k : Gate). k.out.0 ≢ n.0) (g ∷ gs)) g.ins h.0), reads_earlier-gates gs h.1)

pub reads_earlier-steps : (c : Circuit) (s x : List Bool) (order : List ℕ) → IsOrder c.gates order → ReadsEarlier (steps c s x order)
reads_earlier-steps c s x order o =
    reads_earlier-puts c.inputs x _
    (reads_earlier-puts (state_nets c) s _ (reads_earlier-constants c.constants _ (reads_earlier-gates (gates_in order c.gates) o.earlier)))

-- ---- the equations of the writes are those of the netlist

holds_append : (w : List Bool) (xs ys : List Step) → Holds w xs → Holds w ys → Holds w (xs ++ ys)
holds_append w [] ys h k = k
holds_append w (x ∷ xs) ys h k = (h.0, holds_append w xs ys h.1 k)

holds_split : (w : List Bool) (xs ys : List Step) → Holds w (xs ++ ys) → Holds w xs × Holds w ys
holds_split w [] ys h = (tt, h)
holds_split w (x ∷ xs) ys h = let k : Holds w xs × Holds w ys = holds_split w xs ys h.1 in ((h.0, k.0), k.1)

pub holds_puts : (w : List Bool) (ns : List NetId) (bs : List Bool) → shown w ns ≡ bs → Holds w (puts ns bs)
holds_puts w [] bs e = tt
holds_puts w (n ∷ ns) [] e = tt
holds_puts w (n ∷ ns) (b ∷ bs) e =
    let head : bit_at w n.0 ≡ b = cc in
    let rest : shown w ns ≡ bs = cc in
    (head, holds_puts w ns bs rest)

shown_puts : (w : List Bool) (ns : List NetId) (bs : List Bool) → length bs ≡ length ns → Holds w (puts ns bs) → shown w ns ≡ bs
shown_puts w [] [] l h = refl
shown_puts w [] (b ∷ bs) l h = absurd (omega arith)
shown_puts w (n ∷ ns) [] l h = absurd (omega arith)
shown_puts w (n ∷ ns) (b ∷ bs) l h =
    ap (λ a. a ∷ shown w ns) h.0 ∙ ap (λ rest. b ∷ rest) (shown_puts w ns bs (omega arith) h.1)

pub holds_constants : (w : List Bool) (ks : List Const) → AllByRecursion (λ (k : Const). bit_at w k.net.0 ≡ k.value) ks → Holds w (map constant_step ks)
holds_constants w [] h = tt
holds_constants w (k ∷ ks) h = (h.0, holds_constants w ks h.1)

constants_hold : (w : List Bool) (ks : List Const) → Holds w (map constant_step ks) → AllByRecursion (λ (k : Const). bit_at w k.net.0 ≡ k.value) ks
constants_hold w [] h = tt
constants_hold w (k ∷ ks) h = (h.0, constants_hold w ks h.1)

pub holds_gates : (w : List Bool) (gs : List Gate) → AllByRecursion (IsSettled w) gs → Holds w (map gate_write gs)
holds_gates w [] h = tt
holds_gates w (g ∷ gs) h = (h.0, holds_gates w gs h.1)

pub gates_hold : (w : List Bool) (gs : List Gate) → Holds w (map gate_write gs) → AllByRecursion (IsSettled w) gs
gates_hold w [] h = tt
gates_hold w (g ∷ gs) h = (h.0, gates_hold w gs h.1)

-- a valuation that fits meets the equation of each write
pub fits_holds : (c : Circuit) (s x w : List Bool) (order : List ℕ) → IsOrder c.gates order → Fits c s x w → Holds w (steps c s x order)
fits_holds c s x w order o f =
    let gs : AllByRecursion (IsSettled w) (gates_in order c.gates) =
    recursion_from_All (IsSettled w) _ (All-permutation (IsSettled w) _ _ (gates_move c.gates order o) f.gates) in
    holds_append w _ _ (holds_puts w c.inputs x f.input)
    (holds_append w _ _ (holds_puts w (state_nets c) s f.state)
    (holds_append w _ _
    (holds_constants w c.constants (recursion_from_All (λ (k : Const). bit_at w k.net.0 ≡ k.value) c.constants f.constants))
    (holds_gates w _ gs)))

-- ---- nets that show 0

-- a zero net has no driver, since the clock has none
pub zero_undriven : (c : Circuit) (n : ℕ) → IsDistinct nat_eq (c.clock.0 ∷ drivers c) → is_zero_net c n ≡ true →
    AllByRecursion (λ y. nat_eq n y ≡ false) (drivers c)
zero_undriven c n d z =
    ⊎_elim
    (λ (e : n ≡ c.clock.0).
    let P : ℕ → Type 0 = λ m. AllByRecursion (λ y. nat_eq m y ≡ false) (drivers c) in
    subst P (sym e) (IsDistinct-head nat_eq c.clock.0 (drivers c) d))
    (λ (ne : n ≡ c.clock.0 → ⊥).
    let none : not (list_any (λ m. nat_eq n m) (drivers c)) ≡ true =
    ap (λ b. b || not (list_any (λ m. nat_eq n m) (drivers c))) (sym (ne_eqb n c.clock.0 ne)) ∙ z in
    none_of n (drivers c) (not-true _ none))
    (cases_eq n c.clock.0)

pub undriven_zero : (c : Circuit) (n : ℕ) → AllByRecursion (λ y. nat_eq n y ≡ false) (drivers c) → is_zero_net c n ≡ true
undriven_zero c n h = either (nat_eq n c.clock.0)
  where
    either : (b : Bool) → (b || not (list_any (λ m. nat_eq n m) (drivers c))) ≡ true
    either true = refl
    either false = ap not (any_of n (drivers c) h)

-- ---- the law

module _ (c : Circuit) (s x : List Bool) (order : List ℕ) (o : IsOrder c.gates order) (d : IsDistinct nat_eq (c.clock.0 ∷ drivers c))
    (p : All (λ n. n < c.nets) (drivers c)) (ls : length s ≡ length (state_nets c)) (lx : length x ≡ length c.inputs) where
  abbrev zeros : List Bool
  zeros = replicate c.nets false

  pub placed : Placed (length zeros) (steps c s x order)
  placed =
      let P : ℕ → Type 0 = λ m. Placed m (steps c s x order) in
      subst P (sym (length-replicate c.nets false))
      (placed_from c.nets _ (of_targets (λ n. n < c.nets) c s x order o ls lx (recursion_from_All (λ n. n < c.nets) _ p)))

  apart : Apart (steps c s x order)
  apart =
      let P : List ℕ → Type 0 = λ ts. IsDistinct nat_eq ts in
      apart_from _
      (subst P (sym (targets-steps c s x order ls lx))
      (IsDistinct-IsPermutation nat_eq nat_eq_equiv.symm _ _ (drivers_move c order o) (IsDistinct-tail nat_eq c.clock.0 (drivers c) d)))

  bit-zeros : (n : ℕ) → bit_at zeros n ≡ false
  bit-zeros n =
      ⊎_elim
      (λ (lt : n < c.nets). get_or-replicate c.nets n false false lt)
      (λ (ge : c.nets ≤ n). get_or_past zeros n false (rw (length-replicate c.nets false) ge))
      (cases_lt n c.nets)

  -- what the writes make fits
  pub settled_fits : Fits c s x (settled_by c s x order)
  settled_fits =
      let v = settled_by c s x order in
      let all : Holds v (steps c s x order) = run_holds (steps c s x order) zeros apart (reads_earlier-steps c s x order o) placed in
      let first = holds_split v (puts c.inputs x) _ all in
      let second = holds_split v (puts (state_nets c) s) _ first.1 in
      let third = holds_split v (map constant_step c.constants) _ second.1 in
      let gs : All (IsSettled v) (gates_in order c.gates) = All-from_recursion (IsSettled v) _ (gates_hold v _ third.1) in
      let shows : Shows c s x v =
      record {
        every_net = length-run (steps c s x order) zeros ∙ length-replicate c.nets false;
        input = shown_puts v c.inputs x lx first.0;
        state = shown_puts v (state_nets c) s ls second.0;
        constants = All-from_recursion (λ (k : Const). bit_at v k.net.0 ≡ k.value) c.constants (constants_hold v c.constants third.0);
        zeros =
            λ n lt z.
            run_other (steps c s x order) zeros n
            (misses_from _ n (of_targets (λ y. nat_eq n y ≡ false) c s x order o ls lx (zero_undriven c n d z)))
            ∙ bit-zeros n;
      } in
      record {
        sources = shows;
        gates = All-permutation (IsSettled v) _ _ (IsPermutation-sym _ _ (gates_move c.gates order o)) gs;
      }

  -- and nothing else does
  pub settled_unique : (w : List Bool) → Fits c s x w → settled_by c s x order ≡ w
  settled_unique w f =
      run_unique (steps c s x order) zeros w (reads_earlier-steps c s x order o) placed
      (length-replicate c.nets false ∙ sym f.every_net) (fits_holds c s x w order o f)
      (λ n m.
      bit-zeros n
      ∙ sym
      (⊎_elim
      (λ (lt : n < c.nets). f.zeros n lt (undriven_zero c n (of_drivers (λ y. nat_eq n y ≡ false) c s x order o ls lx (from_misses _ n m))))
      (λ (ge : c.nets ≤ n). get_or_past w n false (rw f.every_net ge))
      (cases_lt n c.nets)))

-- exactly one valuation fits
pub exactly_one_fits : ExactlyOneFits
exactly_one_fits c s x checked ls lx =
    let order = checked.acyclic.0 in
    let o : IsOrder c.gates order = checked.acyclic.1 in
    let ls' : length s ≡ length (state_nets c) = ls ∙ sym (length-map c.flops (λ f. f.q)) in (
      settled_by c s x order,
      settled_fits c s x order o checked.single_driver checked.in_range ls' lx,
      λ w f. sym (settled_unique c s x order o checked.single_driver checked.in_range ls' lx w f),
    )

-- ---- the writes of the gates alone

apart_last : (xs ys : List Step) → Apart (xs ++ ys) → Apart ys
apart_last [] ys h = h
apart_last (x ∷ xs) ys h = apart_last xs ys h.1

pub placed_end : (m : ℕ) (xs ys : List Step) → Placed m (xs ++ ys) → Placed m ys
placed_end m [] ys h = h
placed_end m (x ∷ xs) ys h = placed_end m xs ys h.1

module _ (c : Circuit) (order : List ℕ) (o : IsOrder c.gates order) where
  -- some state and some input
  abbrev some_state : List Bool
  some_state = map (λ (n : NetId). false) (state_nets c)

  abbrev some_input : List Bool
  some_input = map (λ (n : NetId). false) c.inputs

  pub gates_apart : IsDistinct nat_eq (c.clock.0 ∷ drivers c) → Apart (map gate_write (gates_in order c.gates))
  gates_apart d =
      let ls = length-map (state_nets c) (λ (n : NetId). false) in
      let lx = length-map c.inputs (λ (n : NetId). false) in
      let P : List ℕ → Type 0 = λ ts. IsDistinct nat_eq ts in
      let all : Apart (steps c some_state some_input order) =
      apart_from _
      (subst P (sym (targets-steps c some_state some_input order ls lx))
      (IsDistinct-IsPermutation nat_eq nat_eq_equiv.symm _ _ (drivers_move c order o) (IsDistinct-tail nat_eq c.clock.0 (drivers c) d))) in
      apart_last (map constant_step c.constants) _ (apart_last (puts (state_nets c) some_state) _ (apart_last (puts c.inputs some_input) _ all))

  pub gates_placed : All (λ n. n < c.nets) (drivers c) → Placed c.nets (map gate_write (gates_in order c.gates))
  gates_placed p =
      let ls = length-map (state_nets c) (λ (n : NetId). false) in
      let lx = length-map c.inputs (λ (n : NetId). false) in
      let all : Placed c.nets (steps c some_state some_input order) =
      placed_from c.nets _ (of_targets (λ n. n < c.nets) c some_state some_input order o ls lx (recursion_from_All (λ n. n < c.nets) _ p)) in
      placed_end c.nets (map constant_step c.constants) _
      (placed_end c.nets (puts (state_nets c) some_state) _ (placed_end c.nets (puts c.inputs some_input) _ all))
