-- The marks of a netlist's nets, and the flip-flops whose next bits they tell.
use Rattle.std.proofs.Common.{◌≡◌, ℕ, ◌<◌, ◌≤◌, Bool, true, false, List, [], ◌∷◌, map, length, get_or, set, subst, ap, sym, ◌∙◌, ⊎_elim, length-set}
use Rattle.std.specs.Prelude.{IsTrue}
use Rattle.std.specs.List.{All, AllByRecursion}
use Rattle.std.proofs.lemmas.Bool.{cases_lt, false≢true}
use Rattle.std.proofs.lemmas.List.{get_or-map, get_or_past, length-map}
use Rattle.std.proofs.lemmas.List.Elements.{All-from_recursion}
use Rattle.bs_net.specs.declared.net.NetId.{NetId}
use Rattle.bs_net.specs.declared.net.Gate.{Gate}
use Rattle.bs_net.specs.declared.net.Flop.{Flop}
use Rattle.bs_net.specs.declared.net.Mode.TheVariants.{Plain}
use Rattle.bs_net.specs.Circuit.{Circuit, IsSettled, bit_at, shown, loaded}
use Rattle.bs_net.specs.Gate.{gate_value, takes}
use Rattle.bs_net.specs.Order.{IsChecked}
use Rattle.bs_net.proofs.CallerLemmas.{exactly_one_fits, next_from_fits}
use Rattle.bs_sim.specs.declared.mark.Mark.{Mark}
use Rattle.bs_preimage_recorded.specs.Independent.{IsIndependent}
use Rattle.bs_sim.specs.Marks.{SayNothing, StayHeld, AreSettled, AreShown, flop_mark, is_known}
use Rattle.bs_preimage_recorded.specs.Marked.{ShowSame, ShowInput, AreMarked}
use Rattle.bs_sim.proofs.MarkLemmas.{flop_holds, known_same}

-- ---- all nets

same_from : (flops : List Flop) (v w s : List Bool) → shown v (map (λ f. f.q) flops) ≡ s → shown w (map (λ f. f.q) flops) ≡ s →
    AllByRecursion (λ (f : Flop). bit_at v f.q.0 ≡ bit_at w f.q.0) flops
same_from [] v w s a b = tt
same_from (f ∷ flops) v w [] a b = absurd cc
same_from (f ∷ flops) v w (s ∷ rest) a b =
    let one : bit_at v f.q.0 ≡ s = cc in
    let other : bit_at w f.q.0 ≡ s = cc in
    let first : shown v (map (λ (f : Flop). f.q) flops) ≡ rest = cc in
    let second : shown w (map (λ (f : Flop). f.q) flops) ≡ rest = cc in
    (one ∙ sym other, same_from flops v w rest first second)

pub all_marked : (c : Circuit) (input : ℕ) (value : Bool) (m₀ m₁ m₂ m₃ m₄ : List Mark) → length m₀ ≡ c.nets →
    SayNothing m₀ → StayHeld (ShowInput c.inputs input value) m₀ m₁ → StayHeld (ShowSame c.flops) m₁ m₂ →
    StayHeld (AreShown c.constants) m₂ m₃ → StayHeld (AreSettled c.gates) m₃ m₄ → AreMarked c input value m₄
all_marked c input value m₀ m₁ m₂ m₃ m₄ size start inputs states constants gates =
    record {
      size = gates.size ∙ (constants.size ∙ (states.size ∙ (inputs.size ∙ size)));
      each = λ state a b v w f g ea eb.
          let shows : ShowInput c.inputs input value v w = record {
            each = λ d lt. (
              sym (get_or-map (λ (n : NetId). bit_at v n.0) c.inputs input d false lt) ∙ (ap (λ x. get_or x input false) f.input ∙ ea),
              sym (get_or-map (λ (n : NetId). bit_at w n.0) c.inputs input d false lt) ∙ (ap (λ x. get_or x input false) g.input ∙ eb),
            );
          } in
          let same : ShowSame c.flops v w =
          All-from_recursion (λ (f : Flop). bit_at v f.q.0 ≡ bit_at w f.q.0) c.flops (same_from c.flops v w state f.state g.state) in
          gates.each v w (f.gates, g.gates)
          (constants.each v w (f.constants, g.constants) (states.each v w same (inputs.each v w shows (start.each v w))));
    }

-- ---- flip-flops that are known to load the same

some_flop : Flop
some_flop = record { q = record { 0 = 0 }; d = record { 0 = 0 }; ck = record { 0 = 0 }; reset = false; mode = Plain }

pub known_independent : (c : Circuit) (input : ℕ) (value : Bool) (marks : List Mark) (flags : List Bool) → IsChecked c → AreMarked c input value marks →
    flags ≡ map (λ f. is_known (flop_mark marks f)) c.flops → IsIndependent c input value flags
known_independent c input value marks flags checked marked e =
    record {
      size = size;
      same = λ k on state a b ls la lb ea eb.
          let lt : k < length c.flops =
          ⊎_elim
          (λ (less : k < length c.flops). less)
          (λ (ge : length c.flops ≤ k). absurd (false≢true (sym (get_or_past flags k false (rw size ge)) ∙ on)))
          (cases_lt k (length c.flops)) in
          let f = get_or c.flops k some_flop in
          let known : is_known (flop_mark marks f) ≡ true =
          sym (ap (λ bits. get_or bits k false) e ∙ get_or-map (λ (g : Flop). is_known (flop_mark marks g)) c.flops k some_flop false lt) ∙ on in
          let one = exactly_one_fits c state a checked ls la in
          let other = exactly_one_fits c state b checked ls lb in
          let v = one.0 in
          let w = other.0 in
          let hold = marked.each state a b v w one.1 other.1 ea eb in
          let loads : loaded v f ≡ loaded w f = known_same (flop_mark marks f) (loaded v f) (loaded w f) known (flop_holds marks v w hold f) in
          ap (λ bits. get_or bits k false) (sym (next_from_fits c state a v checked ls la one.1))
          ∙ (get_or-map (loaded v) c.flops k some_flop false lt
          ∙ (loads
          ∙ (sym (get_or-map (loaded w) c.flops k some_flop false lt)
          ∙ ap (λ bits. get_or bits k false) (next_from_fits c state b w checked ls lb other.1))));
    }
  where
    size : length flags ≡ length c.flops
    size = ap length e ∙ length-map c.flops (λ (f : Flop). is_known (flop_mark marks f))
