-- Where the ids, variables and lines of a log go.
use Rattle.std.specs.Prelude.{ℕ, ◌+◌, ◌<◌, ◌^◌, nat_le, cond, map, All}
use Rattle.bs_clause.specs.declared.literal.TheConstants.{VARIABLE_LIMIT}
use Rattle.bs_clause.specs.Literal.{Literal, Clause}
use Rattle.bs_log.specs.declared.line.Line.{Line}
use Rattle.bs_log.specs.declared.line.Line.TheVariants.{Solve, Lemma, Block, Finish, Retire, Delete}
use Rattle.bs_reach.specs.declared.offsets.Shift.{Shift}

-- the clauses up to `front` stay, those behind, up to `listed`, go `front_by` up, and what a log adds goes `listed_by` up
abbrev pub new_id : Shift → ℕ → ℕ
new_id s id = cond (nat_le id s.front) id (cond (nat_le id s.listed) (id + s.front_by) (id + s.listed_by))

-- the variables up to `vars` stay, and the activation literals above them go `vars_by` up
abbrev pub new_variable : Shift → ℕ → ℕ
new_variable s v = cond (nat_le v s.vars) v (v + s.vars_by)

abbrev pub new_literal : Shift → Literal → Literal
new_literal s l = record { variable = new_variable s l.variable; positive = l.positive }

abbrev pub new_clause : Shift → Clause → Clause
new_clause s c = map (new_literal s) c

abbrev pub new_line : Shift → Line → Line
new_line s Solve = Solve
new_line s (Lemma id lits hints) = Lemma (new_id s id) (new_clause s lits) (map (new_id s) hints)
new_line s (Block id lits) = Block (new_id s id) (new_clause s lits)
new_line s (Finish id) = Finish (new_id s id)
new_line s (Retire id) = Retire (new_id s id)
new_line s (Delete ids) = Delete (map (new_id s) ids)

-- ---- room

abbrev pub IdFits : Shift → ℕ → Type 0
IdFits s id = id + s.listed_by < 2 ^ 64

abbrev pub LiteralFits : Shift → Literal → Type 0
LiteralFits s l = l.variable + s.vars_by < VARIABLE_LIMIT

-- the ids and variables of the line are small enough for those that it gets
abbrev pub HasRoom : Shift → Line → Type 0
HasRoom s Solve = Unit {0}
HasRoom s (Lemma id lits hints) = IdFits s id × All (LiteralFits s) lits × All (IdFits s) hints
HasRoom s (Block id lits) = IdFits s id × All (LiteralFits s) lits
HasRoom s (Finish id) = IdFits s id
HasRoom s (Retire id) = IdFits s id
HasRoom s (Delete ids) = All (IdFits s) ids
