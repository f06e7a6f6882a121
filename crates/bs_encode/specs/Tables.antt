-- The clauses of one gate: z is its output, and every net and helper is a variable.
use Rattle.std.specs.Prelude.{ℕ, ◌+◌, ◌-◌, Bool, true, false, not, List, [], ◌∷◌, ◌++◌, map}
use Rattle.bs_clause.specs.Literal.{Literal, Clause}
use Rattle.bs_net.specs.declared.gate.Kind.{Kind}
use Rattle.bs_net.specs.declared.gate.Kind.TheVariants.{And, Nand, Or, Nor, Xor, Xnor, Buf, Not}

-- the literal that is true where the variable has that value
abbrev pub lit : ℕ → Bool → Literal
lit v b = record { variable = v; positive = b }

-- z has the value `sense` exactly where every input is 1
abbrev pub all_clauses : Bool → ℕ → List ℕ → List Clause
all_clauses sense z ins =
    map (λ a. lit z (not sense) ∷ lit a true ∷ []) ins ++ (lit z sense ∷ map (λ a. lit a false) ins) ∷ []

-- z has the value `sense` exactly where some input is 1
abbrev pub any_clauses : Bool → ℕ → List ℕ → List Clause
any_clauses sense z ins =
    map (λ a. lit z sense ∷ lit a false ∷ []) ins ++ (lit z (not sense) ∷ map (λ a. lit a true) ins) ∷ []

-- z has the value `sense` exactly where a is 1
abbrev pub same_clauses : Bool → ℕ → ℕ → List Clause
same_clauses sense z a = (lit z false ∷ lit a sense ∷ []) ∷ (lit z true ∷ lit a (not sense) ∷ []) ∷ []

-- z has the value `sense` exactly where a and b differ
abbrev pub differ_clauses : Bool → ℕ → ℕ → ℕ → List Clause
differ_clauses sense z a b =
    (lit z (not sense) ∷ lit a true ∷ lit b true ∷ [])
    ∷ (lit z (not sense) ∷ lit a false ∷ lit b false ∷ [])
    ∷ (lit z sense ∷ lit a false ∷ lit b true ∷ [])
    ∷ (lit z sense ∷ lit a true ∷ lit b false ∷ [])
    ∷ []

-- z has the value `sense` exactly where an odd number of a and the rest are 1; helpers from h on
abbrev pub odd_from : Bool → ℕ → ℕ → ℕ → List ℕ → List Clause
odd_from sense h z a [] = same_clauses sense z a
odd_from sense h z a (b ∷ []) = differ_clauses sense z a b
odd_from sense h z a (b ∷ e ∷ rest) = differ_clauses true h a b ++ odd_from sense (h + 1) z h (e ∷ rest)

-- the same of a list, which is never empty in a netlist
abbrev pub odd_clauses : Bool → ℕ → ℕ → List ℕ → List Clause
odd_clauses sense h z [] = (lit z (not sense) ∷ []) ∷ []
odd_clauses sense h z (a ∷ rest) = odd_from sense h z a rest

-- the same of the first of a list
abbrev pub first_clauses : Bool → ℕ → List ℕ → List Clause
first_clauses sense z [] = (lit z (not sense) ∷ []) ∷ []
first_clauses sense z (a ∷ rest) = same_clauses sense z a

-- z has the value of a where `on` is 1, and that of b where it is 0
abbrev pub either_clauses : ℕ → ℕ → ℕ → ℕ → List Clause
either_clauses z on a b =
    (lit z false ∷ lit on false ∷ lit a true ∷ [])
    ∷ (lit z true ∷ lit on false ∷ lit a false ∷ [])
    ∷ (lit z false ∷ lit on true ∷ lit b true ∷ [])
    ∷ (lit z true ∷ lit on true ∷ lit b false ∷ [])
    ∷ []

-- z is 0 where `off` is 1, and has the value of a where it is 0
abbrev pub unless_clauses : ℕ → ℕ → ℕ → List Clause
unless_clauses z off a =
    (lit z false ∷ lit a true ∷ []) ∷ (lit z false ∷ lit off false ∷ []) ∷ (lit z true ∷ lit a false ∷ lit off true ∷ []) ∷ []

-- z shows the value of a gate of this kind on these inputs; helpers from h on
abbrev pub gate_clauses : Kind → ℕ → ℕ → List ℕ → List Clause
gate_clauses And h z ins = all_clauses true z ins
gate_clauses Nand h z ins = all_clauses false z ins
gate_clauses Or h z ins = any_clauses true z ins
gate_clauses Nor h z ins = any_clauses false z ins
gate_clauses Xor h z ins = odd_clauses true h z ins
gate_clauses Xnor h z ins = odd_clauses false h z ins
gate_clauses Buf h z ins = first_clauses true z ins
gate_clauses Not h z ins = first_clauses false z ins

-- how many helpers that takes
abbrev pub helpers_of : Kind → ℕ → ℕ
helpers_of Xor count = count - 2
helpers_of Xnor count = count - 2
helpers_of _ count = 0
