-- The clauses of a list beside those of a netlist, and the text of a clause as DIMACS has it (docs/FORMATS.md, "Clauses for other checkers").
use Rattle.std.specs.Prelude.{ℕ, ◌+◌, ◌==◌, false, cond, List, [], ◌∷◌, ◌++◌, map, codes}
use Rattle.std.specs.List.{flat_map, range_with_len}
use Rattle.bs_bits.specs.Lines.{line}
use Rattle.bs_clause.specs.Literal.{Literal, Clause}
use Rattle.bs_log.specs.declared.line.Line.{Line}
use Rattle.bs_log.specs.declared.line.Line.TheVariants.{Block}
use Rattle.bs_log.specs.LineText.{literal_text}

-- the block that a line adds to the step, where this step is under way
abbrev pub block_at : Line → (now step : ℕ) → List Clause
block_at (Block id lits) now step = cond (now == step) (lits ∷ []) []
block_at line now step = []

-- the literal that turns a step off
abbrev pub off : (vars step : ℕ) → Literal
off vars step = record { variable = vars + step; positive = false }

-- the clauses that turn so many steps off, from one on
abbrev pub closed_from : (vars first count : ℕ) → List Clause
closed_from vars first count = map (λ step. off vars step ∷ []) (range_with_len first count)

-- ---- the text

abbrev pub clause_text : Clause → List ℕ
clause_text c = flat_map literal_text c ++ line (codes "0")
