-- Nets with at most one driver each are distinct.
use Rattle.std.proofs.Common.{◌≡◌, ℕ, ◌<◌, ◌≤◌, ◌+◌, Bool, true, false, cond, List, [], ◌∷◌, ◌++◌, map, length, refl, arith, ap, sym, ◌∙◌, ⊎_elim}
use Rattle.std.proofs.Common.{nat_eq, eq-eqb, ne_eqb, subst, zero-add}
use Rattle.std.specs.List.{AllByRecursion, IsDistinct}
use Rattle.std.proofs.lemmas.Bool.{cases_lt, ltb-false}
use Rattle.std.proofs.lemmas.Map.Keys.{IsDistinct-tail}
use Rattle.bs_net.specs.declared.net.NetId.{NetId}
use Rattle.bs_net.specs.declared.net.Gate.{Gate}
use Rattle.bs_net.specs.Circuit.{number}
use Rattle.bs_net.specs.Parts.{Parts, PartsArePlaced}
use Rattle.bs_net.specs.Check.{times_in, driver_nets, is_shared}
use Rattle.bs_net.specs.Lowest.{NonePasses}
use Rattle.bs_net.proofs.TallyLemmas.{times_more}
use Rattle.bs_net.proofs.PlacedLemmas.{Within, drivers_within}

apart_from_none : (n : ℕ) (ns : List NetId) → times_in ns n ≡ 0 → AllByRecursion (λ y. nat_eq n y ≡ false) (map number ns)
apart_from_none n [] e = tt
apart_from_none n (m ∷ ns) e = by (nat_eq n m.0) refl (sym (times_more n m ns) ∙ e) (apart_from_none n ns)
  where
    by : (b : Bool) → nat_eq n m.0 ≡ b → cond b 1 0 + times_in ns n ≡ 0 →
        (times_in ns n ≡ 0 → AllByRecursion (λ y. nat_eq n y ≡ false) (map number ns)) →
        (nat_eq n m.0 ≡ false) × AllByRecursion (λ y. nat_eq n y ≡ false) (map number ns)
    by true k none rest = absurd (omega (arith, none))
    by false k none rest = (k, rest (sym (zero-add _) ∙ none))

own_time : (m : NetId) (ns : List NetId) → times_in (m ∷ ns) m.0 ≡ 1 + times_in ns m.0
own_time m ns = times_more m.0 m ns ∙ ap (λ b. cond b 1 0 + times_in ns m.0) (eq-eqb m.0 m.0 refl)

fewer_times : (n : ℕ) (m : NetId) (ns : List NetId) → times_in ns n ≤ times_in (m ∷ ns) n
fewer_times n m ns = by (nat_eq n m.0) (times_more n m ns)
  where
    by : (b : Bool) → times_in (m ∷ ns) n ≡ cond b 1 0 + times_in ns n → times_in ns n ≤ times_in (m ∷ ns) n
    by true e = omega (arith, e)
    by false e = omega (arith, e)

distinct_from_once : (ns : List NetId) → ((n : ℕ) → times_in ns n ≤ 1) → IsDistinct nat_eq (map number ns)
unfolding IsDistinct
distinct_from_once [] once = tt
distinct_from_once (m ∷ ns) once =
    let none : times_in ns m.0 ≡ 0 = omega (arith, own_time m ns, once m.0) in
    (apart_from_none m.0 ns none, distinct_from_once ns (λ n. omega (arith, fewer_times n m ns, once n)))

none_past : (k n : ℕ) (ns : List NetId) → k ≤ n → Within k ns → times_in ns n ≡ 0
none_past k n [] le w = refl
none_past k n (m ∷ ns) le w =
    let lt : m.0 < k = w.0 in
    times_more n m ns ∙ (ap (λ b. cond b 1 0 + times_in ns n) (ne_eqb n m.0 (λ e. omega (arith, e, lt, le))) ∙ (zero-add _ ∙ none_past k n ns le w.1))

-- where no net has two drivers, the driven nets are distinct
pub single_distinct : (r : Parts) → PartsArePlaced r → NonePasses (is_shared r) (length r.names) → IsDistinct nat_eq (map number (driver_nets r))
single_distinct r p single =
    distinct_from_once (driver_nets r)
    (λ n.
    ⊎_elim
    (λ (lt : n < length r.names). ltb-false 1 (times_in (driver_nets r) n) (single.each n lt))
    (λ (ge : length r.names ≤ n). omega (arith, none_past (length r.names) n (driver_nets r) ge (drivers_within r p)))
    (cases_lt n (length r.names)))

last_distinct : (ns ms : List NetId) → IsDistinct nat_eq (map number (ns ++ ms)) → IsDistinct nat_eq (map number ms)
last_distinct [] ms h = h
last_distinct (n ∷ ns) ms h = last_distinct ns ms (IsDistinct-tail nat_eq n.0 _ h)

pub outs_are : (gs : List Gate) → map number (map (λ (g : Gate). g.out) gs) ≡ map (λ (g : Gate). g.out.0) gs
outs_are [] = refl
outs_are (g ∷ gs) = ap (λ u. g.out.0 ∷ u) (outs_are gs)

-- and so are the gates' outputs
pub outs_distinct : (r : Parts) → PartsArePlaced r → NonePasses (is_shared r) (length r.names) → IsDistinct nat_eq (map (λ (g : Gate). g.out.0) r.gates)
outs_distinct r p single =
    let P : List ℕ → Type 0 = λ ns. IsDistinct nat_eq ns in
    let all = single_distinct r p single in
    let after_inputs = last_distinct r.inputs _ all in
    let after_states = last_distinct (map (λ f. f.q) r.flops) _ after_inputs in
    subst P (outs_are r.gates) (last_distinct (map (λ k. k.net) r.consts) (map (λ (g : Gate). g.out) r.gates) after_states)
