-- Literals, clauses, and the assignments that meet them.
use Rattle.bs_clause.specs.declared.literal.TheConstants.{VARIABLE_LIMIT}
use Rattle.std.specs.Prelude.{◌≢◌, ℕ, ◌+◌, ◌-◌, ◌*◌, ◌/◌, ◌%◌, ◌<◌, ◌≤◌, ◌==◌, Bool, not, ◌&&◌, cond, List, IsTrue, All, AllPairs, Option, slice_get}
use Rattle.std.specs.Bool.{beq}
use Rattle.std.specs.List.{list_any}

-- a variable, or its negation
pub record Literal : Type 0 where
  pub variable : ℕ
  pub positive : Bool

-- a clause says that one of its literals is true
abbrev pub Clause : Type 0
Clause = List Literal

abbrev pub negation : Literal → Literal
negation l = record { variable = l.variable; positive = not l.positive }

abbrev pub IsVariable : ℕ → Type 0
IsVariable v = (1 ≤ v) × (v < VARIABLE_LIMIT)

-- twice the variable, and one more for a negation
abbrev pub code_of : Literal → ℕ
code_of l = 2 * l.variable + cond l.positive 0 1

-- the codes of the variables' literals
abbrev pub IsCode : ℕ → Type 0
IsCode code = (2 ≤ code) × (code < 2 * VARIABLE_LIMIT)

abbrev pub AreCodes : List ℕ → Type 0
AreCodes codes = All IsCode codes

-- the literal of a code
abbrev pub literal_of : ℕ → Literal
literal_of code = record { variable = code / 2; positive = code % 2 == 0 }

abbrev pub same_literal : Literal → Literal → Bool
same_literal a b = (a.variable == b.variable) && beq a.positive b.positive

-- whether the literal stands in the clause
abbrev pub has_literal : Clause → Literal → Bool
has_literal c l = list_any (λ m. same_literal l m) c

-- ---- an assignment gives each variable a value

abbrev pub literal_value : (ℕ → Bool) → Literal → Bool
literal_value v l = beq (v l.variable) l.positive

-- one of the clause's literals is true
abbrev pub Satisfies : (ℕ → Bool) → Clause → Type 0
Satisfies v c = IsTrue (list_any (literal_value v) c)

-- no variable stands in the clause twice
abbrev pub HasDistinctVariables : Clause → Type 0
HasDistinctVariables c = AllPairs (λ a b. a.variable ≢ b.variable) c

-- ---- an assignment that may leave variables open: the value of variable v stands at place v - 1

abbrev pub value_at : List (Option Bool) → ℕ → Option (Option Bool)
value_at values v = slice_get values (v - 1)
