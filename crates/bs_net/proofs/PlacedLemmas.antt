-- The nets of a netlist's parts have names.
use Rattle.std.proofs.Common.{◌≡◌, ℕ, ◌<◌, ◌^◌, List, [], ◌∷◌, ◌++◌, map, length, refl, sym, subst}
use Rattle.std.specs.List.{AllByRecursion, All}
use Rattle.std.proofs.lemmas.List.Elements.{recursion_from_All}
use Rattle.bs_net.specs.declared.net.NetId.{NetId}
use Rattle.bs_net.specs.declared.net.Gate.{Gate}
use Rattle.bs_net.specs.declared.net.Flop.{Flop}
use Rattle.bs_net.specs.declared.net.Const.{Const}
use Rattle.bs_net.specs.Parts.{Parts, PartsArePlaced, IsModePlaced}
use Rattle.bs_net.specs.Check.{driver_nets}

-- each net is below the count
abbrev pub Within : ℕ → List NetId → Type 0
Within k ns = AllByRecursion (λ (n : NetId). n.0 < k) ns

join : (k : ℕ) (xs ys : List NetId) → Within k xs → Within k ys → Within k (xs ++ ys)
join k [] ys h i = i
join k (x ∷ xs) ys h i = (h.0, join k xs ys h.1 i)

each_q : (k : ℕ) (fs : List Flop) → AllByRecursion (λ (f : Flop). f.q.0 < k) fs → Within k (map (λ f. f.q) fs)
each_q k [] h = tt
each_q k (f ∷ fs) h = (h.0, each_q k fs h.1)

each_constant : (k : ℕ) (cs : List Const) → AllByRecursion (λ (c : Const). c.net.0 < k) cs → Within k (map (λ c. c.net) cs)
each_constant k [] h = tt
each_constant k (c ∷ cs) h = (h.0, each_constant k cs h.1)

each_out : (k : ℕ) (gs : List Gate) → AllByRecursion (λ (g : Gate). g.out.0 < k) gs → Within k (map (λ g. g.out) gs)
each_out k [] h = tt
each_out k (g ∷ gs) h = (h.0, each_out k gs h.1)

-- the parts, in a table of as many places as there are names

pub inputs_in : (r : Parts) (p : PartsArePlaced r) (m : ℕ) → m ≡ length r.names → All (λ (n : NetId). n.0 < m) r.inputs
inputs_in r p m e = let P : ℕ → Type 0 = λ k. All (λ (n : NetId). n.0 < k) r.inputs in subst P (sym e) p.inputs.1

pub outputs_in : (r : Parts) (p : PartsArePlaced r) (m : ℕ) → m ≡ length r.names → All (λ (n : NetId). n.0 < m) r.outputs
outputs_in r p m e = let P : ℕ → Type 0 = λ k. All (λ (n : NetId). n.0 < k) r.outputs in subst P (sym e) p.outputs.1

pub constants_in : (r : Parts) (p : PartsArePlaced r) (m : ℕ) → m ≡ length r.names → All (λ (c : Const). c.net.0 < m) r.consts
constants_in r p m e = let P : ℕ → Type 0 = λ k. All (λ (c : Const). c.net.0 < k) r.consts in subst P (sym e) p.consts.1

pub states_in : (r : Parts) (p : PartsArePlaced r) (m : ℕ) → m ≡ length r.names → All (λ (f : Flop). f.q.0 < m) r.flops
states_in r p m e = let P : ℕ → Type 0 = λ k. All (λ (f : Flop). f.q.0 < k) r.flops in subst P (sym e) (λ i d lt. (p.flops.1 i d lt).0)

pub loads_in : (r : Parts) (p : PartsArePlaced r) (m : ℕ) → m ≡ length r.names → All (λ (f : Flop). (f.d.0 < m) × IsModePlaced m f.mode) r.flops
loads_in r p m e =
    let P : ℕ → Type 0 = λ k. All (λ (f : Flop). (f.d.0 < k) × IsModePlaced k f.mode) r.flops in
    subst P (sym e) (λ i d lt. let h = p.flops.1 i d lt in (h.1, h.3))

pub clocks_in : (r : Parts) (p : PartsArePlaced r) (m : ℕ) → m ≡ length r.names → All (λ (f : Flop). f.ck.0 < m) r.flops
clocks_in r p m e = let P : ℕ → Type 0 = λ k. All (λ (f : Flop). f.ck.0 < k) r.flops in subst P (sym e) (λ i d lt. (p.flops.1 i d lt).2)

pub outs_in : (r : Parts) (p : PartsArePlaced r) (m : ℕ) → m ≡ length r.names → All (λ (g : Gate). g.out.0 < m) r.gates
outs_in r p m e = let P : ℕ → Type 0 = λ k. All (λ (g : Gate). g.out.0 < k) r.gates in subst P (sym e) (λ i d lt. (p.gates.1 i d lt).0)

pub ins_in : (r : Parts) (p : PartsArePlaced r) (m : ℕ) → m ≡ length r.names → All (λ (g : Gate). All (λ (n : NetId). n.0 < m) g.ins) r.gates
ins_in r p m e =
    let P : ℕ → Type 0 = λ k. All (λ (g : Gate). All (λ (n : NetId). n.0 < k) g.ins) r.gates in
    subst P (sym e) (λ i d lt. (p.gates.1 i d lt).1.1)

-- no gate has more inputs than a number holds
pub ins_short : (r : Parts) → PartsArePlaced r → All (λ (g : Gate). length g.ins < 2 ^ 32) r.gates
ins_short r p i d lt = (p.gates.1 i d lt).1.0

pub drivers_within : (r : Parts) → PartsArePlaced r → Within (length r.names) (driver_nets r)
drivers_within r p =
    let k = length r.names in
    let e : length r.names ≡ k = refl in
    join k r.inputs _ (recursion_from_All (λ (n : NetId). n.0 < k) r.inputs (inputs_in r p k e))
    (join k (map (λ f. f.q) r.flops) _ (each_q k r.flops (recursion_from_All (λ (f : Flop). f.q.0 < k) r.flops (states_in r p k e)))
    (join k (map (λ c. c.net) r.consts) _
    (each_constant k r.consts (recursion_from_All (λ (c : Const). c.net.0 < k) r.consts (constants_in r p k e)))
    (each_out k r.gates (recursion_from_All (λ (g : Gate). g.out.0 < k) r.gates (outs_in r p k e)))))
