-- How a trail is kept: its literals, a table of values by literal code, and one of causes by
-- variable.
use Rattle.std.specs.Prelude.{◌≡◌, ℕ, ◌+◌, ◌*◌, ◌^◌, ◌<◌, ◌≤◌, Bool, true, false, List, map, length, Some, None, option_map}
use Rattle.std.specs.Prelude.{unwrap_or, slice_get, slice_index_or, Contains}
use Rattle.bs_clause.specs.Literal.{Literal, code_of}
use Rattle.bs_clause.specs.Range.{HasVariables}
use Rattle.bs_arena.specs.Renaming.{new_name}
use Rattle.bs_watch.specs.Places.{Place}
use Rattle.bs_watch.specs.declared.cause.Cause.{Cause}
use Rattle.bs_arena.specs.Open.{HoldsOpen}

-- the cause that stands where there is none
abbrev pub no_cause : Cause
no_cause = record { reason = None; level = 0 }

abbrev pub cause_of : List Cause → Literal → Cause
cause_of causes l = slice_index_or causes l.variable no_cause

-- a literal with its variable's cause
abbrev pub place_with : Literal → Cause → Place
place_with l c = record { literal = l; reason = c.reason; level = c.level }

abbrev pub places_in : List Cause → List Literal → List Place
places_in causes literals = map (λ l. place_with l (cause_of causes l)) literals

-- whether the literal is true, by its code
abbrev pub value_of : List Bool → Literal → Bool
value_of values l = slice_index_or values (code_of l) false

-- with the reason's new reference
abbrev pub renamed_cause : List (ℕ × ℕ) → Cause → Cause
renamed_cause names c = record {
  reason = option_map (λ r. unwrap_or (new_name names r) r) c.reason;
  level = c.level;
}

-- the values are those of a list of literals
pub record HasValues (values : List Bool) (literals : List Literal) : Type 0 where
  pub holds : (l : Literal) → value_of values l ≡ true → Contains literals l
  pub noted : (l : Literal) → Contains literals l → value_of values l ≡ true

-- no two literals are of one variable
pub record AreDistinct (literals : List Literal) : Type 0 where
  pub apart : (i j : ℕ) (l m : Literal) → slice_get literals i ≡ Some l →
      slice_get literals j ≡ Some m → l.variable ≡ m.variable → i ≡ j

-- the tables are right, there is room for a literal a variable, and each variable without a value waits in the order of
-- decisions, where that is kept up
pub record IsTrail (vars : ℕ) (values : List Bool) (causes : List Cause) (literals : List Literal)
    (order : List Bool) (is_ordered : Bool) (capacity : ℕ) : Type 0 where
  pub small : vars < 2 ^ 30
  pub values_are : HasValues values literals
  pub distinct : AreDistinct literals
  pub in_range : HasVariables vars literals
  pub by_code : length values ≡ 2 * vars + 2
  pub by_variable : length causes ≡ vars + 1
  pub in_order : length order ≡ vars + 1
  pub waits : is_ordered ≡ true → HoldsOpen order values
  pub room : vars ≤ capacity
