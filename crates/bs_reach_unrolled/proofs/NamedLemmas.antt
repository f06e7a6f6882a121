-- Rows are the clauses of their ids among the entries of a list.
use Rattle.std.proofs.Common.{◌≡◌, ℕ, zero, suc, ◌+◌, arith, true, cond, List, [], ◌∷◌, length, refl, ap, ◌∙◌, Some}
use Rattle.std.specs.Prelude.{All, Option, option_map, is_some, slice_get}
use Rattle.std.specs.List.{cons_option}
use Rattle.std.proofs.lemmas.Bool.{eq-eqb, ne_eqb}
use Rattle.std.proofs.lemmas.List.Elements.{All-nil, All-cons}
use Rattle.bs_clause.specs.Literal.{Clause}
use Rattle.bs_log.specs.declared.origin.Origin.TheVariants.{Axiom}
use Rattle.bs_log.specs.History.{Entry, axioms_from}
use Rattle.bs_log.specs.Refusal.{entry_of, clauses_of}
use Rattle.bs_watch.proofs.Gets.{same_some, none_is_not_some}
use Rattle.bs_reach_unrolled.specs.Rows.{clause_at, AreRows}

abbrev axiom_at : ℕ → Clause → Entry
axiom_at n c = record { id = n; origin = Axiom; literals = c }

entry_found : (n : ℕ) (all : List Clause) (i id : ℕ) (c : Clause) → id ≡ n + i → slice_get all i ≡ Some c →
    entry_of (axioms_from n all) id ≡ Some (axiom_at id c)
entry_found n [] i id c is at = absurd (none_is_not_some c at)
entry_found n (x ∷ all) zero id c is at =
    let same : n ≡ id = omega (arith, is) in
    ap (λ t. cond t (Some (axiom_at n x)) (entry_of (axioms_from (n + 1) all) id)) (eq-eqb n id same) ∙
    (ap (λ m. Some (axiom_at m x)) same ∙ ap (λ d. Some (axiom_at id d)) (same_some x c at))
entry_found n (x ∷ all) (suc i) id c is at =
    ap (λ t. cond t (Some (axiom_at n x)) (entry_of (axioms_from (n + 1) all) id)) (ne_eqb n id (λ same. omega (arith, is, same))) ∙
    entry_found (n + 1) all i id c (omega (arith, is)) at

row_found : (all : List Clause) (id : ℕ) (c : Clause) → clause_at all id ≡ Some c → entry_of (axioms_from 1 all) id ≡ Some (axiom_at id c)
row_found all zero c at = absurd (none_is_not_some c at)
row_found all (suc n) c at = entry_found 1 all n (suc n) c (omega arith) at

abbrev tail : List (Option Clause) → List (Option Clause)
tail [] = []
tail (x ∷ xs) = xs

pub rows_named : (all : List Clause) (ids : List ℕ) (clauses : List Clause) → AreRows all ids clauses →
    All (λ id. is_some (entry_of (axioms_from 1 all) id) ≡ true) ids × (clauses_of (axioms_from 1 all) ids ≡ clauses)
rows_named all [] [] rows = (All-nil (λ id. is_some (entry_of (axioms_from 1 all) id) ≡ true), refl)
rows_named all [] (c ∷ clauses) rows = absurd (let n = ap length rows in omega (arith, n))
rows_named all (id ∷ ids) [] rows = absurd (let n = ap length rows in omega (arith, n))
rows_named all (id ∷ ids) (c ∷ clauses) rows =
    let here : clause_at all id ≡ Some c = same_some (clause_at all id) (Some c) (ap (λ xs. slice_get xs 0) rows) in
    let rest : AreRows all ids clauses = ap (λ (xs : List (Option Clause)). tail xs) rows in
    let found = row_found all id c here in
    let (named, same) = rows_named all ids clauses rest in (
      All-cons (λ n. is_some (entry_of (axioms_from 1 all) n) ≡ true) id ids (ap is_some found) named,
      ap (λ o. cons_option (option_map (λ (x : Entry). x.literals) o) (clauses_of (axioms_from 1 all) ids)) found ∙ ap (λ cs. c ∷ cs) same,
    )
