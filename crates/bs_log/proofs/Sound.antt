-- What has a right proof is met by no assignment.
use Rattle.std.proofs.Common.{◌≡◌, ℕ, ◌+◌, Bool, not, eqb, List, [], ◌∷◌, ◌++◌, refl, Some, None}
use Rattle.std.specs.Prelude.{All, option_map}
use Rattle.std.specs.List.{cons_option, AllByRecursion}
use Rattle.std.proofs.lemmas.Bool.{false≢true}
use Rattle.std.proofs.lemmas.List.Elements.{recursion_from_All}
use Rattle.bs_clause.specs.Literal.{Clause, Satisfies}
use Rattle.bs_log.specs.declared.line.Line.TheVariants.{Solve, Lemma, Block, Finish, Retire, Delete}
use Rattle.bs_log.specs.History.{Problem, History, Entry, axioms_from, added, live, is_deleted}
use Rattle.bs_log.specs.Refusal.{entry_of, clauses_of}
use Rattle.bs_log.proofs.Elements.{AllByRecursion-find, AllByRecursion-filter}
use Rattle.bs_log.proofs.Propagates.{Satisfies-lemma}
use Rattle.bs_log.specs.Proof.{IsProof, IsRefutation, EndsEmpty, alone}
use Rattle.bs_log.proofs.ShownLaws.{each_append}

module _ (v : ℕ → Bool) where
  -- the assignment meets the clause of the entry
  abbrev Holds : Entry → Type 0
  Holds e = Satisfies v e.literals

  axioms_hold : (n : ℕ) (cs : List Clause) → AllByRecursion (Satisfies v) cs → AllByRecursion Holds (axioms_from n cs)
  axioms_hold n [] all = tt
  axioms_hold n (c ∷ cs) all = (all.0, axioms_hold (n + 1) cs all.1)

  hints_hold : (entries : List Entry) (ids : List ℕ) → AllByRecursion Holds entries → AllByRecursion (Satisfies v) (clauses_of entries ids)
  hints_hold entries [] all = tt
  hints_hold entries (id ∷ ids) all =
      elim (entry_of entries id) as (λ o. entry_of entries id ≡ o →
      AllByRecursion (Satisfies v) (cons_option (option_map (λ (e : Entry). e.literals) o) (clauses_of entries ids))) [
        | None ↦ λ _. hints_hold entries ids all
        | Some e ↦ λ found. (AllByRecursion-find Holds (λ x. eqb x.id id) entries e all found, hints_hold entries ids all)
      ] refl

  added_hold : (q : Problem) (h : History) → IsProof q h → AllByRecursion (Satisfies v) q.clauses → AllByRecursion Holds (added q h)
  added_hold q [] right met = axioms_hold 1 q.clauses met
  added_hold q (Solve ∷ h) right met = absurd right.0
  added_hold q (Block id lits ∷ h) right met = absurd right.0
  added_hold q (Finish id ∷ h) right met = absurd right.0
  added_hold q (Retire id ∷ h) right met = absurd right.0
  added_hold q (Delete ids ∷ h) right met = added_hold q h right.1 met
  added_hold q (Lemma id lits hints ∷ h) right met =
      let earlier : AllByRecursion Holds (added q h) = added_hold q h right.1 met in
      each_append Holds (added q h) _ earlier (
        Satisfies-lemma v lits (clauses_of (live q h) hints) right.0.3
            (hints_hold (live q h) hints (AllByRecursion-filter Holds (λ x. not (is_deleted h x.id)) (added q h) earlier)),
        tt,
      )

  last_of : (xs : List Entry) (e : Entry) → AllByRecursion Holds (xs ++ e ∷ []) → Holds e
  last_of [] e all = all.0
  last_of (x ∷ xs) e all = last_of xs e all.1

  ends : (q : Problem) (h : History) → EndsEmpty h → AllByRecursion Holds (added q h) → ⊥
  ends q [] end all = end
  ends q (Solve ∷ h) end all = end
  ends q (Block id lits ∷ h) end all = end
  ends q (Finish id ∷ h) end all = end
  ends q (Retire id ∷ h) end all = end
  ends q (Delete ids ∷ h) end all = end
  ends q (Lemma id [] hints ∷ h) end all = false≢true (last_of (added q h) _ all)
  ends q (Lemma id (l ∷ ls) hints ∷ h) end all = end

  pub refuted_is_unmet : (clauses : List Clause) (h : History) → IsRefutation clauses h → All (Satisfies v) clauses → ⊥
  refuted_is_unmet clauses h r met = ends (alone clauses) h r.last (added_hold (alone clauses) h r.right (recursion_from_All (Satisfies v) clauses met))
