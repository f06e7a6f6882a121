-- What an encoding says in words of states, inputs and signatures: one cycle of the circuit.
use Rattle.std.specs.Prelude.{◌≡◌, ℕ, ◌<◌, Bool, true, List, length, map, All}
use Rattle.bs_clause.specs.Literal.{Literal, Satisfies}
use Rattle.bs_clause.specs.Range.{HasVariables}
use Rattle.bs_log.specs.Refusal.{has_distinct_variables}
use Rattle.bs_net.specs.Circuit.{Circuit, next}
use Rattle.bs_scan.specs.Signature.{parity_of}
use Rattle.bs_encode.specs.Encoded.{Encoded, encoding_of}
use Rattle.bs_encode.specs.Assuming.{signed}

-- the bits that an assignment gives to the variables of some literals
abbrev pub bits_on : (ℕ → Bool) → List Literal → List Bool
bits_on value literals = map (λ l. value l.variable) literals

-- an assignment that meets the clauses and shows this state, input, next state and signature
pub record ShowsCycle (e : Encoded) (s x p t : List Bool) : Type 0 where
  pub value : ℕ → Bool
  pub clauses : All (Satisfies value) e.clauses
  pub state : bits_on value e.states ≡ s
  pub input : bits_on value e.inputs ≡ x
  pub next : bits_on value e.next ≡ p
  pub signature : bits_on value e.signatures ≡ t

-- One time frame of the transition: every assignment that meets the clauses shows a state, an input, the state to which this leads,
-- and the state's signature, and each state is so shown with each input. All literals are over the encoding's variables, and no
-- variable stands twice in a clause, in the state or in the next state.
pub record IsTransition (c : Circuit) (items : List (List ℕ)) (e : Encoded) : Type 0 where
  pub states_width : length e.states ≡ length c.flops
  pub inputs_width : length e.inputs ≡ length c.inputs
  pub next_width : length e.next ≡ length c.flops
  pub signatures_width : length e.signatures ≡ length items
  pub clauses_range : All (HasVariables e.variables) e.clauses
  pub states_range : HasVariables e.variables e.states
  pub inputs_range : HasVariables e.variables e.inputs
  pub next_range : HasVariables e.variables e.next
  pub signatures_range : HasVariables e.variables e.signatures
  pub clauses_distinct : All (λ d. has_distinct_variables d ≡ true) e.clauses
  pub states_distinct : (bits : List Bool) → has_distinct_variables (signed e.states bits) ≡ true
  pub next_distinct : (bits : List Bool) → has_distinct_variables (signed e.next bits) ≡ true
  pub leads : (value : ℕ → Bool) → All (Satisfies value) e.clauses →
      next c (bits_on value e.states) (bits_on value e.inputs) ≡ bits_on value e.next
  pub agrees : (value : ℕ → Bool) → All (Satisfies value) e.clauses →
      map (parity_of (bits_on value e.states)) items ≡ bits_on value e.signatures
  pub shown : (s x : List Bool) → length s ≡ length c.flops → length x ≡ length c.inputs →
      ShowsCycle e s x (next c s x) (map (parity_of s) items)

-- the encoding of a circuit is its transition, whatever its signature is taken of
pub record EncodesCycles (c : Circuit) : Type 0 where
  pub each : (items : List (List ℕ)) → All (λ item. All (λ i. i < length c.flops) item) items → IsTransition c items (encoding_of c items)
