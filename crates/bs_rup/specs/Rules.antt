-- The rules behind the order of lines, for each kind of line: the reason of the first one that is broken.
use Rattle.std.specs.Prelude.{ℕ, Bool, List, [], ◌∷◌, Option, is_some}
use Rattle.std.specs.List.{list_all}
use Rattle.bs_clause.specs.Literal.{Clause}
use Rattle.bs_log.specs.declared.why.Why.{Why}
use Rattle.bs_log.specs.declared.why.Why.TheVariants.{NoClause, Duplicate, BadBlock, NotUnit, NotFalse, BadEnd}
use Rattle.bs_log.specs.History.{Problem, Entry}
use Rattle.bs_log.specs.Propagation.{after_hints, ends_false_after, hints_are_unit, last_is_false}
use Rattle.bs_log.specs.Refusal.{clauses_of, denies, entry_of, first_failing, has_distinct_variables, is_block_of, is_lemma, is_lemma_or_block, passes}

-- each id names a live clause
abbrev pub all_stand : List Entry → List ℕ → Bool
all_stand live ids = list_all (λ id. is_some (entry_of live id)) ids

-- each id names a live lemma or block
abbrev pub all_may_go : List Entry → List ℕ → Bool
all_may_go live ids = list_all (λ id. passes is_lemma_or_block (entry_of live id)) ids

-- of the hints of a lemma, where these literals are true and these are the hints' clauses
abbrev pub hints_refusal : Clause → List Clause → Option Why
hints_refusal trues clauses =
    first_failing (
    (is_some (after_hints trues clauses), NotUnit) ∷
    (ends_false_after clauses (after_hints trues clauses), NotFalse) ∷ [])

abbrev pub lemma_refusal : List Entry → Clause → List ℕ → Option Why
lemma_refusal live lits hints =
    first_failing (
    (all_stand live hints, NoClause) ∷ (has_distinct_variables lits, Duplicate) ∷
    (hints_are_unit lits (clauses_of live hints), NotUnit) ∷ (last_is_false lits (clauses_of live hints), NotFalse) ∷ [])

abbrev pub block_refusal : Problem → ℕ → Clause → Option Why
block_refusal p step lits = first_failing ((has_distinct_variables lits, Duplicate) ∷ (is_block_of p step lits, BadBlock) ∷ [])

-- under these assumptions
abbrev pub finish_refusal : List Entry → Clause → ℕ → Option Why
finish_refusal live assumptions id =
    first_failing (
    (passes is_lemma (entry_of live id), NoClause) ∷
    (passes (λ e. denies assumptions e.literals) (entry_of live id), BadEnd) ∷ [])

abbrev pub delete_refusal : List Entry → List ℕ → Option Why
delete_refusal live ids = first_failing ((all_may_go live ids, NoClause) ∷ [])
