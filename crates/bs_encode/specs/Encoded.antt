-- What a contract sees of an encoding.
use Rattle.std.specs.Prelude.{ℕ, true, List, [], map, length, Option, None}
use Rattle.std.specs.List.{range_with_len}
use Rattle.bs_clause.specs.Literal.{Literal, Clause}
use Rattle.bs_net.specs.Circuit.{Circuit}
use Rattle.bs_encode.specs.Tables.{lit}
use Rattle.bs_encode.specs.Transition.{transition_clauses, variables, net_var, state_vars, first_next, first_item, item_vars}

-- the clauses, the number of variables, and the literals of the state, the next state, the signature and the inputs; where there
-- is a second time frame, for the cycle before, its link and its literals, and the state literals that are true at reset
pub record Encoded : Type 0 where
  pub clauses : List Clause
  pub variables : ℕ
  pub states : List Literal
  pub next : List Literal
  pub signatures : List Literal
  pub inputs : List Literal
  pub link : Option Literal
  pub older_states : List Literal
  pub older_inputs : List Literal
  pub older_signatures : List Literal
  pub at_reset : List Literal

-- the literals of some variables
abbrev pub literals : List ℕ → List Literal
literals vs = map (λ v. lit v true) vs

-- clauses over so many variables and these literals, with no signature and no second copy
abbrev pub unsigned : List Clause → ℕ → List Literal → List Literal → List Literal → Encoded
unsigned clauses variables states next inputs =
    record {
      clauses = clauses;
      variables = variables;
      states = states;
      next = next;
      signatures = [];
      inputs = inputs;
      link = None;
      older_states = [];
      older_inputs = [];
      older_signatures = [];
      at_reset = [];
    }

-- so many variables and these clauses and signatures, over the literals of a circuit
abbrev pub joined : Circuit → List Clause → ℕ → List Literal → Encoded
joined c clauses variables signatures =
    record {
      clauses = clauses;
      variables = variables;
      next = literals (range_with_len (first_next c) (length c.flops));
      states = literals (state_vars c);
      signatures = signatures;
      inputs = literals (map net_var c.inputs);
      link = None;
      older_states = [];
      older_inputs = [];
      older_signatures = [];
      at_reset = [];
    }

-- one time frame: the encoding of a circuit and of what a signature is taken of
abbrev pub encoding_of : Circuit → List (List ℕ) → Encoded
encoding_of c items = joined c (transition_clauses c items) (variables c items) (literals (item_vars (first_item c) items))
