-- What the transition clauses say: exactly the valuations that fit, with their next states and signatures.
use Rattle.std.specs.Prelude.{◌≡◌, ℕ, ◌+◌, ◌<◌, Bool, true, List, length, map, All}
use Rattle.std.specs.List.{range_with_len}
use Rattle.bs_clause.specs.Literal.{literal_value, Satisfies}
use Rattle.bs_net.specs.Circuit.{Circuit, Fits, shown, state_nets, next_state}
use Rattle.bs_net.specs.Parts.{IsFlopPlaced}
use Rattle.bs_scan.specs.Signature.{parity_of}
use Rattle.bs_encode.specs.Transition.{transition_clauses, variables, first_next, first_item, item_vars}
use Rattle.bs_encode.specs.Encoded.{encoding_of}
use Rattle.bs_encode.specs.Frame.{lowered}
use Rattle.bs_encode.specs.Depth.{link_of, linked_clauses}

-- every net of the circuit, and every flip-flop of the items, is there
pub record IsClosed (c : Circuit) (items : List (List ℕ)) : Type 0 where
  pub outs : All (λ g. g.out.0 < c.nets) c.gates
  pub ins : All (λ g. All (λ n. n.0 < c.nets) g.ins) c.gates
  pub inputs : All (λ n. n.0 < c.nets) c.inputs
  pub flops : All (IsFlopPlaced c.nets) c.flops
  pub constants : All (λ k. k.net.0 < c.nets) c.constants
  pub items_placed : All (λ item. All (λ i. i < length c.flops) item) items

-- the bits that an assignment shows on the nets, on the next variables, and on the signature variables
abbrev pub nets_of : Circuit → (ℕ → Bool) → List Bool
nets_of c a = map (λ n. a (n + 1)) (range_with_len 0 c.nets)

abbrev pub next_of : Circuit → (ℕ → Bool) → List Bool
next_of c a = map a (range_with_len (first_next c) (length c.flops))

abbrev pub signature_of : Circuit → List (List ℕ) → (ℕ → Bool) → List Bool
signature_of c items a = map a (item_vars (first_item c) items)

-- the assignment shows a valuation that fits the state and the input, its next state, and the state's signature
pub record ShowsStep (c : Circuit) (items : List (List ℕ)) (s x v : List Bool) (a : ℕ → Bool) : Type 0 where
  pub valuation : nets_of c a ≡ v
  pub fits : Fits c s x v
  pub next : next_of c a ≡ next_state c v
  pub signature : signature_of c items a ≡ map (parity_of s) items

-- clauses equal gates: every valuation that fits extends to an assignment that meets the clauses, and every assignment
-- that meets them shows a valuation that fits its own state and input
pub record ClausesEqualGates (c : Circuit) (items : List (List ℕ)) : Type 0 where
  pub extends : (s x v : List Bool) → Fits c s x v → (a : ℕ → Bool) × All (Satisfies a) (transition_clauses c items) × ShowsStep c items s x v a
  pub fits : (a : ℕ → Bool) → All (Satisfies a) (transition_clauses c items) →
      ShowsStep c items (shown (nets_of c a) (state_nets c)) (shown (nets_of c a) c.inputs) (nets_of c a) a

-- ---- two time frames

-- what an assignment gives to the second time frame, and to the link
abbrev pub before_of : Circuit → List (List ℕ) → (ℕ → Bool) → ℕ → Bool
before_of c items a = lowered a (variables c items)

abbrev pub link_value : Circuit → List (List ℕ) → (ℕ → Bool) → Bool
link_value c items a = literal_value a (link_of (encoding_of c items))

-- The assignment shows one step, and in the second time frame another one, and this on the link.
pub record ShowsSteps (c : Circuit) (items : List (List ℕ)) (s x v u y w : List Bool) (joined : Bool) (a : ℕ → Bool) : Type 0 where
  pub last : ShowsStep c items s x v a
  pub before : ShowsStep c items u y w (before_of c items a)
  pub link : link_value c items a ≡ joined

-- The same of two time frames and their link: two valuations that fit extend to an assignment that meets the clauses with the link
-- false, and also with the link true where the second one's next state is the first one's state; and every assignment that meets
-- them shows two valuations that fit, and under the link the second one's next state is the first one's state.
pub record FramesEqualGates (c : Circuit) (items : List (List ℕ)) : Type 0 where
  pub extends : (s x v u y w : List Bool) (joined : Bool) → Fits c s x v → Fits c u y w → (joined ≡ true → next_state c w ≡ s) →
      (a : ℕ → Bool) × All (Satisfies a) (linked_clauses (encoding_of c items)) × ShowsSteps c items s x v u y w joined a
  pub fits : (a : ℕ → Bool) → All (Satisfies a) (linked_clauses (encoding_of c items)) →
      ShowsSteps c items (shown (nets_of c a) (state_nets c)) (shown (nets_of c a) c.inputs) (nets_of c a)
      (shown (nets_of c (before_of c items a)) (state_nets c)) (shown (nets_of c (before_of c items a)) c.inputs)
      (nets_of c (before_of c items a)) (link_value c items a) a
  pub joins : (a : ℕ → Bool) → All (Satisfies a) (linked_clauses (encoding_of c items)) → link_value c items a ≡ true →
      next_state c (nets_of c (before_of c items a)) ≡ shown (nets_of c a) (state_nets c)
