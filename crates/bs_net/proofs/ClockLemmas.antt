-- The net of a mixed clock has a name.
use Rattle.std.proofs.Common.{◌≡◌, ◌≢◌, ℕ, ◌<◌, Bool, true, false, not, cond, List, [], ◌∷◌, length, refl, subst, nat_eq, Option, Some, None}
use Rattle.std.specs.Prelude.{find}
use Rattle.std.specs.List.{AllByRecursion, list_any}
use Rattle.std.specs.Option.{option_map}
use Rattle.std.proofs.lemmas.List.Elements.{recursion_from_All}
use Rattle.bs_net.specs.declared.net.NetId.{NetId}
use Rattle.bs_net.specs.declared.net.Flop.{Flop}
use Rattle.bs_net.specs.Netlist.{clock_of}
use Rattle.bs_net.specs.Parts.{Parts, PartsArePlaced}
use Rattle.bs_net.specs.Check.{mixed_clock, other_clock, data_clock, first_of, is_data}
use Rattle.bs_net.proofs.PlacedLemmas.{clocks_in}

-- each clock is below the count
abbrev Clocked : ℕ → List Flop → Type 0
Clocked k fs = AllByRecursion (λ (f : Flop). f.ck.0 < k) fs

first_placed : (k : ℕ) (fs : List Flop) → fs ≢ [] → Clocked k fs → (clock_of fs).0 < k
first_placed k [] some h = absurd (some refl)
first_placed k (f ∷ fs) some h = h.0

found_placed : (k : ℕ) (p : Flop → Bool) (fs : List Flop) (n : NetId) → Clocked k fs → option_map (λ f. f.ck) (find p fs) ≡ Some n → n.0 < k
found_placed k p [] n h e = absurd cc
found_placed k p (f ∷ fs) n h e = by (p f) e (found_placed k p fs n h.1)
  where
    by : (b : Bool) → option_map (λ (f : Flop). f.ck) (cond b (Some f) (find p fs)) ≡ Some n →
        (option_map (λ (f : Flop). f.ck) (find p fs) ≡ Some n → n.0 < k) → n.0 < k
    by true e' rest = let same : f.ck ≡ n = cc in let P : NetId → Type 0 = λ m. m.0 < k in subst P same h.0
    by false e' rest = rest e'

pub mixed_placed : (r : Parts) (n : NetId) → PartsArePlaced r → r.flops ≢ [] → mixed_clock r ≡ Some n → n.0 < length r.names
mixed_placed r n p some e =
    by_port (list_any (λ (m : NetId). nat_eq (clock_of r.flops).0 m.0) r.inputs) e
  where
    clocks : Clocked (length r.names) r.flops
    clocks = recursion_from_All (λ (f : Flop). f.ck.0 < length r.names) r.flops (clocks_in r p (length r.names) refl)

    own : (m : NetId) → clock_of r.flops ≡ m → m.0 < length r.names
    own m same = let P : NetId → Type 0 = λ i. i.0 < length r.names in subst P same (first_placed (length r.names) r.flops some clocks)

    by_data : (b : Bool) → cond b (Some (clock_of r.flops)) None ≡ Some n → n.0 < length r.names
    by_data true k = own n cc
    by_data false k = absurd cc

    by_other : (o : Option NetId) → other_clock r ≡ o → first_of o (data_clock r) ≡ Some n → n.0 < length r.names
    by_other None is k = by_data (is_data r (clock_of r.flops)) k
    by_other (Some m) is k =
        let same : m ≡ n = cc in
        let P : NetId → Type 0 = λ i. i.0 < length r.names in
        subst P same (found_placed (length r.names) (λ f. not (nat_eq f.ck.0 (clock_of r.flops).0)) r.flops m clocks is)

    by_port : (b : Bool) → cond (not b) (Some (clock_of r.flops)) (first_of (other_clock r) (data_clock r)) ≡ Some n → n.0 < length r.names
    by_port true k = by_other (other_clock r) refl k
    by_port false k = own n cc
