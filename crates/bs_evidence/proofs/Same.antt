-- What stands behind the lines of a proof does not depend on their hints.
use Rattle.std.proofs.Common.{◌≡◌, ℕ, ◌+◌, ◌<◌, ◌≤◌, true, not, ◌||◌, eqb, List, [], ◌∷◌, ◌++◌, map, refl, ap, ◌∙◌}
use Rattle.std.specs.Prelude.{option_map, is_some}
use Rattle.std.specs.List.{list_any, list_all, filter}
use Rattle.bs_log.specs.declared.line.Line.TheVariants.{Solve, Lemma, Block, Finish, Retire, Delete}
use Rattle.bs_log.specs.declared.origin.Origin.TheVariants.{Learnt}
use Rattle.bs_log.specs.History.{Problem, History, Entry, axioms_from, step_of, added, live, is_deleted, last_id}
use Rattle.bs_log.specs.Refusal.{NoneRefused, entry_of, clauses_of, passes, is_lemma_or_block}
use Rattle.bs_log.specs.declared.id_offsets.Frame.{Frame}
use Rattle.bs_log.specs.Cnf.{closed}
use Rattle.bs_log.specs.Lines.{raised}
use Rattle.bs_log.specs.Proof.{shown}
use Rattle.bs_log.proofs.Standing.{Fits, new_entry, named, kept, same_hints, hints_stand, deleted_stand, new_last}
use Rattle.bs_evidence.specs.WholeProof.{whole_shown}

module _ (f : Frame) (p q : Problem) where
  same_added : (h : History) → added q (whole_shown f p h) ≡ added q (shown f p h)
  same_added [] = refl
  same_added (Solve ∷ h) = same_added h
  same_added (Finish id ∷ h) = same_added h
  same_added (Delete ids ∷ h) = same_added h
  same_added (Lemma id lits hints ∷ h) =
      ap (λ (es : List Entry). es ++ record { id = raised f id; origin = Learnt; literals = lits } ∷ []) (same_added h)
  same_added (Block id lits ∷ h) =
      ap (λ (es : List Entry). es ++ record { id = raised f id; origin = Learnt; literals = lits } ∷ []) (same_added h)
  same_added (Retire id ∷ h) =
      ap (λ (es : List Entry). es ++ record { id = raised f id; origin = Learnt; literals = closed p (step_of h) } ∷ []) (same_added h)

  same_deleted : (h : History) (i : ℕ) → is_deleted (whole_shown f p h) i ≡ is_deleted (shown f p h) i
  same_deleted [] i = refl
  same_deleted (Solve ∷ h) i = same_deleted h i
  same_deleted (Finish id ∷ h) i = same_deleted h i
  same_deleted (Lemma id lits hints ∷ h) i = same_deleted h i
  same_deleted (Block id lits ∷ h) i = same_deleted h i
  same_deleted (Retire id ∷ h) i = same_deleted h i
  same_deleted (Delete ids ∷ h) i = ap (λ t. list_any (λ d. eqb i d) (map (raised f) ids) || t) (same_deleted h i)

  pub same_live : (h : History) → live q (whole_shown f p h) ≡ live q (shown f p h)
  same_live h = λ i. filter (λ (e : Entry). not (same_deleted h e.id i)) (same_added h i)

  pub same_last : (h : History) → last_id q (whole_shown f p h) ≡ last_id q (shown f p h)
  same_last [] = refl
  same_last (Solve ∷ h) = same_last h
  same_last (Finish id ∷ h) = same_last h
  same_last (Delete ids ∷ h) = same_last h
  same_last (Lemma id lits hints ∷ h) = refl
  same_last (Block id lits ∷ h) = refl
  same_last (Retire id ∷ h) = refl

  module _ (w : Fits f p q) where
    -- what an id of the log names stands under its new id
    pub whole_named : (h : History) (i : ℕ) → entry_of (live q (whole_shown f p h)) (raised f i) ≡ option_map (new_entry f) (entry_of (live p h) i)
    whole_named h i = ap (λ (es : List Entry). entry_of es (raised f i)) (same_live h) ∙ named f p q w h i

    -- the clauses between stand
    pub whole_kept : (h : History) (j : ℕ) → f.front < j → j ≤ f.front + f.by → entry_of (live q (whole_shown f p h)) j ≡ entry_of (axioms_from 1 q.clauses) j
    whole_kept h j low high = ap (λ (es : List Entry). entry_of es j) (same_live h) ∙ kept f p q w h j low high

    pub whole_hints : (h : History) (ids : List ℕ) → clauses_of (live q (whole_shown f p h)) (map (raised f) ids) ≡ clauses_of (live p h) ids
    whole_hints h ids = ap (λ (es : List Entry). clauses_of es (map (raised f) ids)) (same_live h) ∙ same_hints f p q w h ids

    pub whole_hints_stand : (h : History) (ids : List ℕ) → list_all (λ i. is_some (entry_of (live p h) i)) ids ≡ true →
        list_all (λ i. is_some (entry_of (live q (whole_shown f p h)) i)) (map (raised f) ids) ≡ true
    whole_hints_stand h ids all =
        ap (λ (es : List Entry). list_all (λ i. is_some (entry_of es i)) (map (raised f) ids)) (same_live h) ∙ hints_stand f p q w h ids all

    pub whole_deleted_stand : (h : History) (ids : List ℕ) → list_all (λ i. passes is_lemma_or_block (entry_of (live p h) i)) ids ≡ true →
        list_all (λ i. passes is_lemma_or_block (entry_of (live q (whole_shown f p h)) i)) (map (raised f) ids) ≡ true
    whole_deleted_stand h ids all =
        ap (λ (es : List Entry). list_all (λ i. passes is_lemma_or_block (entry_of es i)) (map (raised f) ids)) (same_live h) ∙ deleted_stand f p q w h ids all

    pub whole_last : (h : History) → NoneRefused p h → last_id q (whole_shown f p h) ≡ last_id p h + f.by
    whole_last h right = same_last h ∙ new_last f p q w h right
