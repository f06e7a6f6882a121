-- All flip-flops and data inputs of a cycle force all nets of it, and all flip-flops of the next one.
use Rattle.std.proofs.Common.{◌≡◌, ℕ, ◌<◌, ◌+◌, Bool, false, List, [], ◌∷◌, length, get_or, refl, subst, ap, sym, ◌∙◌, arith}
use Rattle.std.specs.List.{All, AllByRecursion}
use Rattle.std.proofs.lemmas.List.{length-map}
use Rattle.std.proofs.lemmas.List.Elements.{All-append, All-from_recursion, recursion_from_All}
use Rattle.bs_net.specs.declared.net.NetId.{NetId}
use Rattle.bs_net.specs.declared.net.Flop.{Flop}
use Rattle.bs_net.specs.Circuit.{Circuit, Fits, bit_at, shown, state_nets, next}
use Rattle.bs_net.specs.Order.{IsChecked}
use Rattle.bs_net.proofs.CallerLemmas.{next_from_fits}
use Rattle.bs_net_facts.specs.declared.fact.Fact.{Fact}
use Rattle.bs_net_facts.specs.Facts.{HoldsIn, FitsSome, Follow, Force, ForcesCompose, MoreForce, IsWayOf, IsReal, valuation_at}
use Rattle.bs_net_facts.specs.Sources.{facts_of, sources, SourcesForce}
use Rattle.bs_net_facts.proofs.CycleLemmas.{flop_shows}
use Rattle.bs_net_facts.proofs.PassLemmas.{all_left, all_right}

shown_facts : (vs : List (List Bool)) (t : ℕ) (nets : List NetId) (bits : List Bool) → length bits ≡ length nets →
    AllByRecursion (HoldsIn vs) (facts_of nets bits t) → shown (valuation_at vs t) nets ≡ bits
shown_facts vs t [] [] e h = refl
shown_facts vs t [] (b ∷ bits) e h = absurd (omega (arith, e))
shown_facts vs t (n ∷ nets) [] e h = absurd (omega (arith, e))
shown_facts vs t (n ∷ nets) (b ∷ bits) e h =
    ap (λ a. a ∷ shown (valuation_at vs t) nets) h.0 ∙ ap (λ rest. b ∷ rest) (shown_facts vs t nets bits (omega (arith, e)) h.1)

shows : (vs : List (List Bool)) (t : ℕ) (nets : List NetId) (bits : List Bool) → length bits ≡ length nets →
    All (HoldsIn vs) (facts_of nets bits t) → shown (valuation_at vs t) nets ≡ bits
shows vs t nets bits e h = shown_facts vs t nets bits e (recursion_from_All (HoldsIn vs) (facts_of nets bits t) h)

module _ (c : Circuit) (states inputs : List (List Bool)) (t : ℕ) (checked : IsChecked c) (way : IsWayOf c states inputs) (lt : t < length inputs) where
  abbrev state : List Bool
  state = get_or states t []

  abbrev input : List Bool
  input = get_or inputs t []

  in_states : t < length states
  in_states = subst (λ (n : ℕ). t < n) (sym way.one_more) (omega (arith, lt))

  state_wide : length state ≡ length c.flops
  state_wide = way.state_widths t [] in_states

  input_wide : length input ≡ length c.inputs
  input_wide = way.input_widths t [] lt

  -- the valuation of the cycle fits the trace's state and input
  pub fits_there : (vs : List (List Bool)) → length vs ≡ length states → Follow c vs → All (HoldsIn vs) (sources c states inputs t) →
      Fits c state input (valuation_at vs t)
  fits_there vs e follow given =
      let v = valuation_at vs t in
      let fitting : FitsSome c v = follow.fit t (subst (λ (n : ℕ). t < n) (sym e) in_states) in
      let first : shown v (state_nets c) ≡ state =
      shows vs t (state_nets c) state (state_wide ∙ sym (length-map c.flops (λ (f : Flop). f.q)))
      (all_left (HoldsIn vs) (facts_of (state_nets c) state t) (facts_of c.inputs input t) given) in
      let second : shown v c.inputs ≡ input =
      shows vs t c.inputs input input_wide (all_right (HoldsIn vs) (facts_of (state_nets c) state t) (facts_of c.inputs input t) given) in
      subst (λ (x : List Bool). Fits c state x v) (sym fitting.fits.input ∙ second)
      (subst (λ (s : List Bool). Fits c s fitting.input v) (sym fitting.fits.state ∙ first) fitting.fits)

  now_forced : (f : Fact) → f.cycle ≡ t → IsReal c states inputs f → Force c (length states) (sources c states inputs t) (f ∷ [])
  now_forced f same real =
      record {
        each = λ vs e follow given.
            let there : Fits c state input (valuation_at vs t) = fits_there vs e follow given in
            let fits : Fits c (get_or states f.cycle []) input (valuation_at vs f.cycle) =
            subst (λ (k : ℕ). Fits c (get_or states k []) input (valuation_at vs k)) (sym same) there in
            let holds : HoldsIn vs f =
            real.each (valuation_at vs f.cycle) (record { input = input; same = λ _. ap (λ k. get_or inputs k []) (sym same); fits = fits }) in
            All-from_recursion (HoldsIn vs) (f ∷ []) (holds, tt);
      }

  next_forced : (f : Fact) (k : ℕ) (g : Flop) → f.cycle ≡ t + 1 → k < length c.flops → g ≡ get_or c.flops k g → f.net ≡ g.q →
      f.bit ≡ get_or (next c state input) k false → Force c (length states) (sources c states inputs t) (f ∷ [])
  next_forced f k g at_next below is net bit =
      record {
        each = λ vs e follow given.
            let v = valuation_at vs t in
            let there : Fits c state input v = fits_there vs e follow given in
            let later : t + 1 < length vs = subst (λ (n : ℕ). t + 1 < n) (sym (e ∙ way.one_more)) (omega (arith, lt)) in
            let w = valuation_at vs (t + 1) in
            let loads : shown w (state_nets c) ≡ next c state input =
            follow.lead t later ∙ next_from_fits c state input v checked state_wide input_wide there in
            let q : bit_at w g.q.0 ≡ get_or (next c state input) k false =
            flop_shows w (next c state input) c.flops k g loads below is in
            let here : bit_at w f.net.0 ≡ f.bit = ap (λ (n : NetId). bit_at w n.0) net ∙ (q ∙ sym bit) in
            let holds : HoldsIn vs f = subst (λ (j : ℕ). bit_at (valuation_at vs j) f.net.0 ≡ f.bit) (sym at_next) here in
            All-from_recursion (HoldsIn vs) (f ∷ []) (holds, tt);
      }

pub sources_force : SourcesForce
sources_force c states inputs t checked way lt =
    (now_forced c states inputs t checked way lt, next_forced c states inputs t checked way lt)

-- ---- blocks compose

pub forces_compose : ForcesCompose
forces_compose c cycles given facts more first second =
    record {
      each = λ vs e follow holds.
          let here = first.each vs e follow holds in
          let both = All-append (HoldsIn vs) given facts holds here in
          All-append (HoldsIn vs) facts more here (second.each vs e follow both);
    }

pub more_force : MoreForce
more_force c cycles given others facts first =
    record { each = λ vs e follow holds. first.each vs e follow (all_right (HoldsIn vs) others given holds) }
