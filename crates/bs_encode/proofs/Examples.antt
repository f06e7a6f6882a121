-- The clauses of small circuits, computed by the definitions.
use Rattle.std.proofs.Common.{◌≡◌, ℕ, true, false, List, [], ◌∷◌, length, refl, None, Some}
use Rattle.bs_net.specs.declared.net.NetId.{NetId}
use Rattle.bs_net.specs.declared.gate.Kind.TheVariants.{And, Nand, Or, Nor, Not, Xnor}
use Rattle.bs_net.specs.declared.gate.Kind.{Kind}
use Rattle.bs_net.specs.declared.net.Gate.{Gate}
use Rattle.bs_net.specs.declared.net.Flop.{Flop}
use Rattle.bs_net.specs.declared.net.Mode.{Mode}
use Rattle.bs_net.specs.declared.net.Mode.TheVariants.{Plain, Enable, Clear}
use Rattle.bs_net.specs.Circuit.{Circuit}
use Rattle.bs_scan.specs.Choice.{Chosen}
use Rattle.bs_scan.specs.Seen.{whole}
use Rattle.bs_encode.specs.Tables.{lit}
use Rattle.bs_encode.specs.Transition.{transition_clauses, variables}
use Rattle.bs_encode.specs.Encoded.{Encoded, encoding_of}
use Rattle.bs_encode.specs.Assuming.{asking, problem_of}
use Rattle.bs_encode.specs.Depth.{encoding_by, basis_of}

abbrev net : ℕ → NetId
net n = record { 0 = n }

abbrev choice : ℕ → ℕ → List (List ℕ) → Chosen
choice width depth items = record { width = width; depth = depth; items = items }

-- the inverter of q drives d: nets ck, d, q
abbrev toggle : Circuit
toggle =
    record {
      nets = 3;
      clock = net 0;
      inputs = [];
      flops = record { q = net 2; d = net 1; ck = net 0; reset = false; mode = Plain } ∷ [];
      gates = record { kind = Not; out = net 1; ins = net 2 ∷ [] } ∷ [];
      constants = [];
    }

toggle_clauses : transition_clauses toggle [] ≡
    (lit 2 false ∷ lit 3 false ∷ []) ∷ (lit 2 true ∷ lit 3 true ∷ []) ∷ (lit 1 false ∷ []) ∷ (lit 4 false ∷ lit 2 true ∷ []) ∷ (lit 4 true ∷ lit 2 false ∷ [])
    ∷ []
toggle_clauses = refl

toggle_variables : variables toggle [] ≡ 4
toggle_variables = refl

-- two steps: from the state 1, and from the state 0
toggle_steps : (problem_of (encoding_of toggle [])
    (record { state = whole (true ∷ []); stored = [] ∷ [] } ∷ record { state = whole (false ∷ []); stored = [] ∷ [] } ∷ [])).steps ≡
    (lit 5 true ∷ lit 4 true ∷ []) ∷ (lit 6 true ∷ lit 4 false ∷ []) ∷ []
toggle_steps = refl

toggle_block_of_0 : (basis_of toggle (choice 1 1 []) []).block (false ∷ []) ≡ lit 3 true ∷ []
toggle_block_of_0 = refl

toggle_block_of_1 : (basis_of toggle (choice 1 1 []) []).block (true ∷ []) ≡ lit 3 false ∷ []
toggle_block_of_1 = refl

-- with a signature of two cycles: the second time frame has the variables 5 to 8, and 9 is the link
abbrev toggle_twice : Encoded
toggle_twice = encoding_by toggle (choice 1 2 [])

toggle_twice_variables : toggle_twice.variables ≡ 9
toggle_twice_variables = refl

toggle_twice_clauses : toggle_twice.clauses ≡
    (lit 2 false ∷ lit 3 false ∷ []) ∷ (lit 2 true ∷ lit 3 true ∷ []) ∷ (lit 1 false ∷ []) ∷ (lit 4 false ∷ lit 2 true ∷ []) ∷ (lit 4 true ∷ lit 2 false ∷ [])
    ∷ (lit 6 false ∷ lit 7 false ∷ []) ∷ (lit 6 true ∷ lit 7 true ∷ []) ∷ (lit 5 false ∷ []) ∷ (lit 8 false ∷ lit 6 true ∷ []) ∷ (lit 8 true ∷ lit 6 false ∷ [])
    ∷ (lit 9 false ∷ lit 8 false ∷ lit 3 true ∷ []) ∷ (lit 9 false ∷ lit 8 true ∷ lit 3 false ∷ []) ∷ []
toggle_twice_clauses = refl

-- a step with an older signature, and one without
toggle_twice_steps : (problem_of toggle_twice (asking (whole (true ∷ [])) [] (Some []) ∷ asking (whole (true ∷ [])) [] None ∷ [])).steps ≡
    (lit 10 true ∷ lit 4 true ∷ lit 9 true ∷ []) ∷ (lit 11 true ∷ lit 4 true ∷ lit 9 false ∷ lit 3 false ∷ []) ∷ []
toggle_twice_steps = refl

-- a step whose present is not known assumes its signatures alone
unknown_steps : (problem_of toggle_twice (asking (record { bits = false ∷ []; free = true ∷ [] }) [] (Some []) ∷ [])).steps ≡
    (lit 10 true ∷ lit 9 true ∷ []) ∷ []
unknown_steps = refl

-- a flip-flop that is named twice in an item makes two tautologies, which take no id
twice_clauses : transition_clauses toggle ((0 ∷ 0 ∷ []) ∷ []) ≡
    (lit 2 false ∷ lit 3 false ∷ []) ∷ (lit 2 true ∷ lit 3 true ∷ []) ∷ (lit 1 false ∷ []) ∷ (lit 4 false ∷ lit 2 true ∷ []) ∷ (lit 4 true ∷ lit 2 false ∷ [])
    ∷ (lit 5 false ∷ lit 3 true ∷ []) ∷ (lit 5 false ∷ lit 3 false ∷ []) ∷ []
twice_clauses = refl

-- a flip-flop alone, which loads the data input d by a mode: nets ck, q, d, e
abbrev alone : Mode → ℕ → Circuit
alone mode d =
    record {
      nets = 4;
      clock = net 0;
      inputs = net 2 ∷ net 3 ∷ [];
      flops = record { q = net 1; d = net d; ck = net 0; reset = false; mode = mode } ∷ [];
      gates = [];
      constants = [];
    }

enable_clauses : transition_clauses (alone (Enable (net 3)) 2) [] ≡
    (lit 1 false ∷ []) ∷ (lit 5 false ∷ lit 4 false ∷ lit 3 true ∷ []) ∷ (lit 5 true ∷ lit 4 false ∷ lit 3 false ∷ [])
    ∷ (lit 5 false ∷ lit 4 true ∷ lit 2 true ∷ []) ∷ (lit 5 true ∷ lit 4 true ∷ lit 2 false ∷ []) ∷ []
enable_clauses = refl

clear_clauses : transition_clauses (alone (Clear (net 3)) 2) [] ≡
    (lit 1 false ∷ []) ∷ (lit 5 false ∷ lit 3 true ∷ []) ∷ (lit 5 false ∷ lit 4 false ∷ []) ∷ (lit 5 true ∷ lit 3 false ∷ lit 4 true ∷ []) ∷ []
clear_clauses = refl

-- an enable that is its own d, or its own q, makes a tautology and a repeated literal
enabled_by_d : transition_clauses (alone (Enable (net 2)) 2) [] ≡
    (lit 1 false ∷ []) ∷ (lit 5 true ∷ lit 3 false ∷ []) ∷ (lit 5 false ∷ lit 3 true ∷ lit 2 true ∷ []) ∷ (lit 5 true ∷ lit 3 true ∷ lit 2 false ∷ []) ∷ []
enabled_by_d = refl

enabled_by_q : transition_clauses (alone (Enable (net 1)) 2) [] ≡
    (lit 1 false ∷ []) ∷ (lit 5 false ∷ lit 2 false ∷ lit 3 true ∷ []) ∷ (lit 5 true ∷ lit 2 false ∷ lit 3 false ∷ []) ∷ (lit 5 false ∷ lit 2 true ∷ []) ∷ []
enabled_by_q = refl

-- a clear that is its own d
cleared_by_d : transition_clauses (alone (Clear (net 2)) 2) [] ≡ (lit 1 false ∷ []) ∷ (lit 5 false ∷ lit 3 true ∷ []) ∷ (lit 5 false ∷ lit 3 false ∷ []) ∷ []
cleared_by_d = refl

-- s27 (GND VDD CK G0 G1 G17 G2 G3 G5 G10 G6 G11 G7 G13 G14 G8 G15 G12 G16 G9), with the item of G5
abbrev gate : Kind → ℕ → List NetId → Gate
gate k z ins = record { kind = k; out = net z; ins = ins }

abbrev flop : ℕ → ℕ → Flop
flop q d = record { q = net q; d = net d; ck = net 2; reset = false; mode = Plain }

abbrev s27 : Circuit
s27 =
    record {
      nets = 20;
      clock = net 2;
      inputs = net 0 ∷ net 1 ∷ net 3 ∷ net 4 ∷ net 6 ∷ net 7 ∷ [];
      flops = flop 8 9 ∷ flop 10 11 ∷ flop 12 13 ∷ [];
      gates =
          gate Not 14 (net 3 ∷ []) ∷ gate Not 5 (net 11 ∷ []) ∷ gate And 15 (net 14 ∷ net 10 ∷ []) ∷ gate Or 16 (net 17 ∷ net 15 ∷ [])
          ∷ gate Or 18 (net 7 ∷ net 15 ∷ []) ∷ gate Nand 19 (net 18 ∷ net 16 ∷ []) ∷ gate Nor 9 (net 14 ∷ net 11 ∷ [])
          ∷ gate Nor 11 (net 8 ∷ net 19 ∷ []) ∷ gate Nor 17 (net 4 ∷ net 12 ∷ []) ∷ gate Nor 13 (net 6 ∷ net 17 ∷ []) ∷ [];
      constants = [];
    }

s27_variables : variables s27 ((0 ∷ []) ∷ []) ≡ 24
s27_variables = refl

s27_clauses : length (transition_clauses s27 ((0 ∷ []) ∷ [])) ≡ 37
s27_clauses = refl

-- the state 010 after one with the signature 1: the next variables are 21 to 23, and the item's is 24
s27_steps : (problem_of (encoding_of s27 ((0 ∷ []) ∷ [])) (record { state = whole (false ∷ true ∷ false ∷ []); stored = (true ∷ []) ∷ [] } ∷ [])).steps ≡
    (lit 25 true ∷ lit 21 false ∷ lit 22 true ∷ lit 23 false ∷ lit 24 true ∷ []) ∷ []
s27_steps = refl

s27_block : (basis_of s27 (choice 3 1 ((0 ∷ []) ∷ [])) []).block (false ∷ true ∷ false ∷ []) ≡ lit 9 true ∷ lit 11 false ∷ lit 13 true ∷ []
s27_block = refl

-- an xnor of three inputs, one of them the constant 0: nets ck, q0, q1, d0, d1, 1'b0
abbrev xnor_of_three : Circuit
xnor_of_three =
    record {
      nets = 6;
      clock = net 0;
      inputs = [];
      flops = record { q = net 1; d = net 3; ck = net 0; reset = false; mode = Plain } ∷ record {
        q = net 2;
        d = net 4;
        ck = net 0;
        reset = false;
        mode = Plain;
      } ∷ [];
      gates = gate Xnor 3 (net 1 ∷ net 2 ∷ net 5 ∷ []) ∷ gate Nand 4 (net 1 ∷ []) ∷ [];
      constants = record { net = net 5; value = false } ∷ [];
    }

xnor_variables : variables xnor_of_three [] ≡ 9
xnor_variables = refl

xnor_clauses : length (transition_clauses xnor_of_three []) ≡ 16
xnor_clauses = refl
