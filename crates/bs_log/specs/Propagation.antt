-- Reverse unit propagation: a lemma is right where its hints, taken in order, lead from its negation to a false clause.
use Rattle.std.specs.Prelude.{Bool, false, not, cond, List, [], ◌∷◌, map, Option, Some, None, option_and_then, is_some}
use Rattle.std.specs.List.{list_all, filter}
use Rattle.bs_clause.specs.Literal.{Literal, Clause, negation, has_literal}

-- the literals that are not false, where these literals are true
abbrev pub open_literals : List Literal → Clause → Clause
open_literals trues c = filter (λ l. not (has_literal trues (negation l))) c

-- the one literal of the list, if it is unassigned
abbrev pub sole_unassigned : List Literal → Clause → Option Literal
sole_unassigned trues [] = None
sole_unassigned trues (l ∷ []) = cond (has_literal trues l) None (Some l)
sole_unassigned trues (l ∷ m ∷ ms) = None

-- the literal that a unit clause makes true: it is unassigned, and all others are false
abbrev pub unit_literal : List Literal → Clause → Option Literal
unit_literal trues c = sole_unassigned trues (open_literals trues c)

abbrev pub is_false : List Literal → Clause → Bool
is_false trues c = list_all (λ l. has_literal trues (negation l)) c

-- the literals that are true after the hints but the last, the newest first; none where one of these hints is not unit
abbrev pub after_hints : List Literal → List Clause → Option (List Literal)
after_hints trues [] = Some trues
after_hints trues (last ∷ []) = Some trues
after_hints trues (c ∷ d ∷ cs) = option_and_then (λ l. after_hints (l ∷ trues) (d ∷ cs)) (unit_literal trues c)

abbrev pub ends_false : List Clause → List Literal → Bool
ends_false [] trues = false
ends_false (last ∷ []) trues = is_false trues last
ends_false (c ∷ d ∷ cs) trues = ends_false (d ∷ cs) trues

-- all literals of the lemma are set false
abbrev pub start_of : Clause → List Literal
start_of lemma = map negation lemma

-- each hint but the last is unit in its turn
abbrev pub hints_are_unit : Clause → List Clause → Bool
hints_are_unit lemma hints = is_some (after_hints (start_of lemma) hints)

abbrev pub ends_false_after : List Clause → Option (List Literal) → Bool
ends_false_after hints None = false
ends_false_after hints (Some trues) = ends_false hints trues

-- the last hint is false then
abbrev pub last_is_false : Clause → List Clause → Bool
last_is_false lemma hints = ends_false_after hints (after_hints (start_of lemma) hints)
