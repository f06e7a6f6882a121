-- The executions of a design are those of its flat parts.
use Rattle.std.proofs.Common.{◌≡◌, ℕ, zero, suc, ◌+◌, ◌<◌, Bool, List, [], length, get_or, subst, ap, sym, ◌∙◌, zero-add, arith}
use Rattle.std.specs.List.{range_with_len}
use Rattle.std.proofs.lemmas.List.{length-map, get_or-map}
use Rattle.std.proofs.lemmas.List.FromFn.{length-range_with_len, get_or-range_with_len, fill_by_all}
use Rattle.std.proofs.lemmas.List.Elements.{All-from_get_or}
use Rattle.bs_net.specs.declared.net.Flop.{Flop}
use Rattle.bs_net.specs.Parts.{PartsArePlaced}
use Rattle.bs_net.specs.Check.{Passes}
use Rattle.bs_net.specs.Circuit.{Circuit, next, reset_state, loaded, settled}
use Rattle.bs_net.specs.Netlist.{circuit_of}
use Rattle.bs_flat_meaning.specs.Design.{Design, net_on, flops}
use Rattle.bs_flat_meaning.specs.Meaning.{data_inputs, LeadsDesign}
use Rattle.bs_flat_meaning.specs.Flat.{IsDesign, flat_flop, flat_parts}
use Rattle.bs_flat_meaning.specs.Law.{FlatMeans}
use Rattle.bs_flat_meaning.specs.Executions.{reset_of, IsDesignExecution, AreStatesAt, AreStatesUnder, RunsAs, FlatKeepsExecutions}
use Rattle.bs_flat_meaning.proofs.MemberLemmas.{map_twice}
use Rattle.bs_flat_meaning.proofs.LawLemmas.{means, flop_count, input_count}

length-next : (c : Circuit) (s x : List Bool) → length (next c s x) ≡ length c.flops
unfolding next
length-next c s x = length-map c.flops (loaded (settled c s x))

-- an input under which a design leads on has a bit for each data input
wide_input : (d : Design) (s x p : List Bool) → LeadsDesign d s x p → length x ≡ length (data_inputs d)
wide_input d s x p led = sym (ap length led.1.input) ∙ length-map (data_inputs d) (λ n. led.0 (net_on [] n))

plus_one : (i : ℕ) → i + 1 ≡ suc i
plus_one i = omega arith

module _ (d : Design) (h : IsDesign d) (placed : PartsArePlaced (flat_parts d)) (passes : Passes (flat_parts d)) where
  abbrev c : Circuit
  c = circuit_of (flat_parts d)

  reset_is : reset_state c ≡ reset_of d
  unfolding flat_parts
  reset_is = map_twice (flat_flop d) (λ (f : Flop). f.reset) (flops d)

  module _ (states inputs : List (List Bool)) (state : ℕ → List Bool) (at : AreStatesAt c inputs state) where
    -- each state of the circuit has a bit for each flip-flop
    wide : (i : ℕ) → length (state i) ≡ length (flops d)
    wide zero = ap length at.reset ∙ (length-map c.flops (λ (f : Flop). f.reset) ∙ flop_count d h placed passes)
    wide (suc i) =
        subst (λ (n : ℕ). length (state n) ≡ length (flops d)) (plus_one i)
        (ap length (at.next_is i) ∙ (length-next c (state i) (get_or inputs i []) ∙ flop_count d h placed passes))

    means_at : (i : ℕ) → length (get_or inputs i []) ≡ length (data_inputs d) → FlatMeans d (state i) (get_or inputs i [])
    means_at i lx = means d h placed passes (state i) (get_or inputs i []) (wide i) lx

    -- an execution of the design goes through the circuit's states
    through : IsDesignExecution d states inputs → (i : ℕ) → i < length inputs + 1 → get_or states i [] ≡ state i
    through e zero lt = e.first ∙ sym (at.reset ∙ reset_is)
    through e (suc i) lt =
        let here : get_or states i [] ≡ state i = through e i (omega (arith, lt)) in
        let led : LeadsDesign d (get_or states i []) (get_or inputs i []) (get_or states (i + 1) []) = e.leads i (omega (arith, lt)) in
        let led_on : LeadsDesign d (state i) (get_or inputs i []) (get_or states (i + 1) []) =
        subst (λ (s : List Bool). LeadsDesign d s (get_or inputs i []) (get_or states (i + 1) [])) here led in
        let step : get_or states (i + 1) [] ≡ next c (state i) (get_or inputs i []) =
        ((means_at i (wide_input d _ _ _ led)).next (get_or states (i + 1) [])).0 led_on in
        subst (λ (n : ℕ). get_or states n [] ≡ state n) (plus_one i) (step ∙ sym (at.next_is i))

    to_circuit : IsDesignExecution d states inputs → AreStatesUnder c states inputs state
    to_circuit e =
        record {
          widths =
              All-from_get_or (λ (x : List Bool). length x ≡ length c.inputs) inputs []
              (λ i lt. wide_input d _ _ _ (e.leads i lt) ∙ sym (input_count d h placed passes));
          states_are = fill_by_all state states (length inputs + 1) [] e.count (through e);
        }

    from_circuit : AreStatesUnder c states inputs state → IsDesignExecution d states inputs
    from_circuit r = record { count = count; first = there 0 (omega arith) ∙ (at.reset ∙ reset_is); leads = leads }
      where
        count : length states ≡ length inputs + 1
        count = ap length r.states_are ∙ (length-map (range_with_len 0 (length inputs + 1)) state ∙ length-range_with_len 0 (length inputs + 1))

        there : (i : ℕ) → i < length inputs + 1 → get_or states i [] ≡ state i
        there i lt =
            let within : i < length (range_with_len 0 (length inputs + 1)) = rw (length-range_with_len 0 (length inputs + 1)) lt in
            ap (λ (l : List (List Bool)). get_or l i []) r.states_are
            ∙ (get_or-map state (range_with_len 0 (length inputs + 1)) i 0 [] within
            ∙ ap state (get_or-range_with_len 0 (length inputs + 1) i 0 lt ∙ zero-add i))

        leads : (i : ℕ) → i < length inputs → LeadsDesign d (get_or states i []) (get_or inputs i []) (get_or states (i + 1) [])
        leads i lt =
            let here : get_or states i [] ≡ state i = there i (omega (arith, lt)) in
            let next_is : get_or states (i + 1) [] ≡ next c (state i) (get_or inputs i []) = there (i + 1) (omega (arith, lt)) ∙ at.next_is i in
            let lx : length (get_or inputs i []) ≡ length (data_inputs d) = r.widths i [] lt ∙ input_count d h placed passes in
            subst (λ (s : List Bool). LeadsDesign d s (get_or inputs i []) (get_or states (i + 1) [])) (sym here)
            (((means_at i lx).next (get_or states (i + 1) [])).1 next_is)

  runs_as : RunsAs d c
  runs_as =
      record {
        flops = flop_count d h placed passes;
        inputs = input_count d h placed passes;
        reset = reset_is;
        executions = λ states inputs state at. (to_circuit states inputs state at, from_circuit states inputs state at);
      }

pub flat_keeps_executions : FlatKeepsExecutions
flat_keeps_executions d h placed passes = runs_as d h placed passes
