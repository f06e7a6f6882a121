-- A lemma that is known ends the step.
use Rattle.std.proofs.Common.{◌≡◌, ℕ, true, List, [], ◌∷◌, ◌++◌, sym, ap, subst, ◌∙◌, Some, None}
use Rattle.bs_clause.specs.Literal.{Clause}
use Rattle.bs_arena.specs.Arena.{Held}
use Rattle.bs_log.specs.declared.origin.Origin.TheVariants.{Learnt as FromConflict}
use Rattle.bs_log.specs.History.{live}
use Rattle.bs_log.specs.Refusal.{entry_of, denies}
use Rattle.bs_watch.specs.Places.{TrailState}
use Rattle.bs_watch.specs.Watch.{WatchState, Serves}
use Rattle.bs_solve_lemmas.specs.Walk.{IsLoggedLearnt}
use Rattle.bs_solve_lemmas.specs.ProofLog.{ProofLog, next_id, with_lemma}
use Rattle.bs_solve_lemmas.specs.Search.{assumed}
use Rattle.bs_solve_lemmas.proofs.Searching.{learnt_range}
use Rattle.bs_solve.specs.declared.database.Database.{Database}
use Rattle.bs_solve.specs.Database.{entries, HoldsEntries}
use Rattle.bs_solve.specs.Ground.{HasAdded, IsGround}
use Rattle.bs_solve.specs.Learning.{IsAtRest}
use Rattle.bs_solve.specs.Searching.{HasEndedBy}
use Rattle.bs_solve.proofs.Entries.{stands_grown}

pub ended_at_rest : (proof new_proof : ProofLog) (w new : WatchState) (clauses after : List Held) (database more : Database) (id other : ℕ) (lits : Clause) (hints : List ℕ) →
    IsAtRest proof w clauses database → IsLoggedLearnt (entries proof) lits hints → denies (assumed proof) lits ≡ true →
    Serves new after → new.trail ≡ w.trail → new.levels ≡ w.levels → HasAdded w.lists new.lists clauses after database more
    (record { id = other; origin = FromConflict; literals = lits }) → other ≡ id → entry_of (entries proof) other ≡ None → id ≡ next_id proof →
    new_proof ≡ with_lemma proof id lits hints →
    entries new_proof ≡ entries proof ++ record { id = id; origin = FromConflict; literals = lits } ∷ [] →
    entry_of (live new_proof.problem new_proof.history) id ≡ Some (record { id = id; origin = FromConflict; literals = lits }) →
    HasEndedBy proof new_proof w.trail.vars new after more id
ended_at_rest proof new_proof w new clauses after database more id other lits hints r learnt ends serves trail levels holds_entries is_other unused is line grown entry =
    let es : entries proof ++ record { id = other; origin = FromConflict; literals = lits } ∷ [] ≡ entries new_proof =
    ap (λ n. entries proof ++ record { id = n; origin = FromConflict; literals = lits } ∷ []) is_other ∙ sym grown in
    record {
      refuted = record {
        lemma = lits;
        logged = record {
          hints = hints;
          proof = line;
          next = is;
          grown = grown;
          stands = stands_grown proof new_proof (record { id = id; origin = FromConflict; literals = lits }) grown;
          entry = entry;
        };
        ends = ends;
        distinct = learnt.distinct;
        range = λ n all. learnt_range (entries proof) n lits hints learnt all;
      };
      rest = record {
        holds_entries = subst (HoldsEntries new.lists after more) es (holds_entries.more (entries proof) unused r.holds_entries);
        serves = serves;
        ground = subst (IsGround (entries new_proof) more.shorts.items after) (sym (ap (λ (t : TrailState). t.places) trail))
            (subst (λ xs. IsGround xs more.shorts.items after w.trail.places) es
            (holds_entries.ground (entries proof) unused r.holds_entries w.trail.places r.ground));
        levels = levels ∙ r.levels;
      };
      vars_is = ap (λ (t : TrailState). t.vars) trail;
    }
