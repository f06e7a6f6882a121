-- All flip-flops and data inputs of a cycle.
use Rattle.std.proofs.Common.{◌≡◌, ℕ, ◌<◌, ◌+◌, Bool, List, [], ◌∷◌, ◌++◌, map, length, get_or, refl, subst, ap, sym, ◌∙◌, arith}
use Rattle.std.specs.List.{All, AllByRecursion}
use Rattle.std.proofs.lemmas.List.Elements.{All-append, recursion_from_All}
use Rattle.bs_net.specs.declared.net.NetId.{NetId}
use Rattle.bs_net.specs.Circuit.{Fits, bit_at, shown, state_nets}
use Rattle.bs_net.specs.Netlist.{Checked, circuit}
use Rattle.bs_net.specs.Order.{IsChecked}
use Rattle.bs_net.proofs.CallerLemmas.{exactly_one_fits}
use Rattle.bs_net_facts.specs.declared.fact.Fact.{Fact}
use Rattle.bs_net_facts.specs.Facts.{FitsMoment}
use Rattle.bs_net_facts.specs.Seen.{Seen}
use Rattle.bs_net_facts.specs.Sources.{facts_of, sources}
use Rattle.bs_inspect_causes.specs.declared.drivers.Drivers.{Drivers}
use Rattle.bs_inspect_causes.specs.Accounts.{AreFactsOf, IsRealIn}
use Rattle.bs_inspect_causes.specs.Layers.{IsReady}
use Rattle.bs_inspect_causes.proofs.DriverLemmas.{flops_below, inputs_below}

-- ---- their nets are nets

pub flops_there : (m : Seen) (d : Drivers) (nets : List NetId) → IsReady m d → nets ≡ d.flops → All (λ (n : NetId). n.0 < (circuit m.net).nets) nets
flops_there m d nets ready e =
    subst (λ (ns : List NetId). All (λ (n : NetId). n.0 < (circuit m.net).nets) ns) (sym (e ∙ ready.drivers.flops))
    (flops_below (circuit m.net) ready.drivers.checked)

pub inputs_there : (m : Seen) (d : Drivers) (k : Checked) (nets : List NetId) → IsReady m d → k ≡ m.net → nets ≡ (circuit k).inputs →
    All (λ (n : NetId). n.0 < (circuit m.net).nets) nets
inputs_there m d k nets ready same e =
    subst (λ (ns : List NetId). All (λ (n : NetId). n.0 < (circuit m.net).nets) ns) (sym (e ∙ ap (λ (x : Checked). (circuit x).inputs) same))
    (inputs_below (circuit m.net) ready.drivers.checked)

pub inputs_in : (m : Seen) (k : Checked) (nets : List NetId) → k ≡ m.net → IsChecked (circuit k) → nets ≡ (circuit k).inputs →
    All (λ (n : NetId). n.0 < (circuit m.net).nets) nets
inputs_in m k nets same checked e =
    subst (λ (ns : List NetId). All (λ (n : NetId). n.0 < (circuit m.net).nets) ns) (sym e)
    (subst (λ (x : Checked). All (λ (n : NetId). n.0 < (circuit x).nets) (circuit k).inputs) same (inputs_below (circuit k) checked))

pub facts_in : (m : Seen) (k : Checked) (nets : List NetId) (t : ℕ) (facts : List Fact) → k ≡ m.net → nets ≡ (circuit k).inputs →
    AreFactsOf m nets t facts → AreFactsOf m (circuit m.net).inputs t facts
facts_in m k nets t facts same e are =
    subst (λ (ns : List NetId). AreFactsOf m ns t facts) (e ∙ ap (λ (x : Checked). (circuit x).inputs) same) are

-- ---- the valuation of a moment

pub state_wide : (m : Seen) (d : Drivers) (t : ℕ) → IsReady m d → t < length m.states → length (get_or m.states t []) ≡ length (circuit m.net).flops
state_wide m d t ready lt = ready.way.state_widths t [] lt

pub input_wide : (m : Seen) (d : Drivers) (t : ℕ) → IsReady m d → t < length m.inputs → length (get_or m.inputs t []) ≡ length (circuit m.net).inputs
input_wide m d t ready lt = ready.way.input_widths t [] lt

pub in_states : (m : Seen) (d : Drivers) (t : ℕ) → IsReady m d → t < length m.inputs → t < length m.states
in_states m d t ready lt = omega (arith, lt, ready.way.one_more)

pub fits_moment : (m : Seen) (d : Drivers) (t : ℕ) → IsReady m d → t < length m.inputs →
    (v : List Bool) × Fits (circuit m.net) (get_or m.states t []) (get_or m.inputs t []) v
fits_moment m d t ready lt =
    let one =
    exactly_one_fits (circuit m.net) (get_or m.states t []) (get_or m.inputs t []) ready.drivers.checked
    (state_wide m d t ready (in_states m d t ready lt)) (input_wide m d t ready lt) in
    (one.0, one.1)

pub at_moment : (m : Seen) (t : ℕ) (v : List Bool) → Fits (circuit m.net) (get_or m.states t []) (get_or m.inputs t []) v →
    FitsMoment (circuit m.net) m.states m.inputs t v
at_moment m t v fits = record { input = get_or m.inputs t []; same = λ _. refl; fits = fits }

-- ---- facts that are the trace's are those of its lists

told_facts : (m : Seen) (t : ℕ) (v : List Bool) → FitsMoment (circuit m.net) m.states m.inputs t v → (facts : List Fact) →
    AllByRecursion (λ (f : Fact). f.cycle ≡ t) facts → AllByRecursion (IsRealIn m) facts →
    facts ≡ facts_of (map (λ (f : Fact). f.net) facts) (shown v (map (λ (f : Fact). f.net) facts)) t
told_facts m t v fit [] at real = refl
told_facts m t v fit (f ∷ facts) at real =
    let there : FitsMoment (circuit m.net) m.states m.inputs f.cycle v =
    subst (λ (k : ℕ). FitsMoment (circuit m.net) m.states m.inputs k v) (sym at.0) fit in
    let same : f.bit ≡ bit_at v f.net.0 = sym (real.0.each v there) in
    let cycle : f.cycle ≡ t = at.0 in
    let rest = told_facts m t v fit facts at.1 real.1 in
    λ i. record { net = f.net; cycle = cycle i; bit = same i } ∷ rest i

facts_are : (m : Seen) (t : ℕ) (v : List Bool) (nets : List NetId) (bits : List Bool) (facts : List Fact) →
    FitsMoment (circuit m.net) m.states m.inputs t v → shown v nets ≡ bits → AreFactsOf m nets t facts → facts ≡ facts_of nets bits t
facts_are m t v nets bits facts fit e h =
    subst (λ (ns : List NetId). facts ≡ facts_of ns (shown v ns) t) h.nets_are
    (told_facts m t v fit facts (recursion_from_All (λ (f : Fact). f.cycle ≡ t) facts h.at_cycle) (recursion_from_All (IsRealIn m) facts h.real))
    ∙ ap (λ (bs : List Bool). facts_of nets bs t) e

pub sources_are : (m : Seen) (d : Drivers) (t : ℕ) (flops nets : List NetId) (facts inputs after : List Fact) → IsReady m d → t < length m.inputs →
    flops ≡ d.flops → nets ≡ (circuit m.net).inputs → AreFactsOf m flops t facts → AreFactsOf m nets t inputs → after ≡ facts ++ inputs →
    after ≡ sources (circuit m.net) m.states m.inputs t
sources_are m d t flops nets facts inputs after ready lt are ins first second e =
    let c = circuit m.net in
    let one = fits_moment m d t ready lt in
    let v : List Bool = one.0 in
    let fits : Fits c (get_or m.states t []) (get_or m.inputs t []) v = one.1 in
    let fit : FitsMoment c m.states m.inputs t v = at_moment m t v fits in
    let first' : AreFactsOf m (state_nets c) t facts = subst (λ (ns : List NetId). AreFactsOf m ns t facts) (are ∙ ready.drivers.flops) first in
    let second' : AreFactsOf m c.inputs t inputs = subst (λ (ns : List NetId). AreFactsOf m ns t inputs) ins second in
    let a : facts ≡ facts_of (state_nets c) (get_or m.states t []) t = facts_are m t v (state_nets c) (get_or m.states t []) facts fit fits.state first' in
    let b : inputs ≡ facts_of c.inputs (get_or m.inputs t []) t = facts_are m t v c.inputs (get_or m.inputs t []) inputs fit fits.input second' in
    e ∙ (λ i. a i ++ b i)

pub sources_real : (m : Seen) (flops nets : List NetId) (t : ℕ) (facts inputs after : List Fact) → AreFactsOf m flops t facts → AreFactsOf m nets t inputs →
    after ≡ facts ++ inputs → All (IsRealIn m) after
sources_real m flops nets t facts inputs after first second e =
    subst (λ (fs : List Fact). All (IsRealIn m) fs) (sym e) (All-append (IsRealIn m) facts inputs first.real second.real)
