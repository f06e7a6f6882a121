-- The nets that connections add, step by step.
use Rattle.std.specs.Prelude.{ℕ, Bool, List, [], ◌∷◌, ◌++◌, length, if◌then◌else◌, Option, Some, None}
use Rattle.std.specs.List.{flat_map}
use Rattle.bs_net.specs.Parts.{Parts}
use Rattle.bs_net.specs.declared.net.Const.{Const}
use Rattle.bs_net.specs.Names.{with_key}
use Rattle.bs_verilog_syntax.specs.declared.tree.Says.{Says}
use Rattle.bs_verilog_syntax.specs.declared.tree.Term.{Term}
use Rattle.bs_verilog_syntax.specs.declared.tree.Connection.{Connection}
use Rattle.bs_verilog_scope.specs.Keys.{constant_key}
use Rattle.bs_verilog.specs.Building.{has_key}
use Rattle.bs_verilog.specs.Terminals.{term_of}
use Rattle.bs_flat_meaning.specs.declared.statements.Written.{Written}
use Rattle.bs_flat_meaning.specs.Connecting.{with_term, terms_of}
use Rattle.bs_flat_connect.specs.declared.growing.ModuleNets.{ModuleNets}

-- keys and constants as parts of nothing else
abbrev pub bare_of : List (List ℕ) → List Const → Parts
bare_of names consts = record { names = names; inputs = []; outputs = []; consts = consts; gates = []; flops = [] }

abbrev pub bare : ModuleNets → Parts
bare made = bare_of made.keys made.consts

-- the parts with a constant
abbrev pub with_constant : Parts → Bool → Parts
with_constant parts b =
    if has_key parts.names (constant_key b) then parts
    else record parts {
      names = with_key parts.names (constant_key b);
      consts = parts.consts ++ record { net = record { 0 = length parts.names }; value = b } ∷ [];
    }

-- the parts with the net of a term, if there is one
abbrev pub with_maybe : List (List ℕ) → (ℕ → Option Says) → Parts → Option Term → Parts
with_maybe table scope parts None = parts
with_maybe table scope parts (Some t) = with_term table scope parts t

-- the parts with the net of a connection
abbrev pub with_connection : List (List ℕ) → (ℕ → Option Says) → Parts → Connection → Parts
with_connection table scope parts c = with_maybe table scope parts (term_of c)

-- the terms of all instances, in order
abbrev pub terms_in : List Written → List Term
terms_in ws = flat_map (λ w. terms_of w.connections) ws
