-- The lines inside a step.
use Rattle.std.proofs.Common.{◌≡◌, true, List, [], ◌∷◌, ◌++◌, refl}
use Rattle.std.specs.List.{AllByRecursion as Each}
use Rattle.std.proofs.lemmas.Bool.{false≢true}
use Rattle.bs_log.specs.declared.line.Line.{Line}
use Rattle.bs_log.specs.declared.line.Line.TheVariants.{Solve, Lemma, Block, Finish, Retire, Delete}
use Rattle.bs_log.specs.History.{History, step_of}
use Rattle.bs_log.specs.Steps.{is_lemma_line}
use Rattle.bs_preimage.specs.Finding.{is_inner}

-- the lines inside a step do not change its number
pub inner_step : (lines : List Line) (h : History) → Each (λ line. is_inner line ≡ true) lines → step_of (lines ++ h) ≡ step_of h
inner_step [] h all = refl
inner_step (Solve ∷ lines) h all = inner_step lines h all.1
inner_step (Lemma id lits hints ∷ lines) h all = inner_step lines h all.1
inner_step (Block id lits ∷ lines) h all = inner_step lines h all.1
inner_step (Finish id ∷ lines) h all = absurd (false≢true all.0)
inner_step (Retire id ∷ lines) h all = absurd (false≢true all.0)
inner_step (Delete ids ∷ lines) h all = absurd (false≢true all.0)

lemma_inner : (line : Line) → is_lemma_line line ≡ true → is_inner line ≡ true
lemma_inner (Lemma id lits hints) e = refl
lemma_inner Solve e = refl
lemma_inner (Block id lits) e = refl
lemma_inner (Finish id) e = e
lemma_inner (Retire id) e = e
lemma_inner (Delete ids) e = e

pub lemmas_inner : (lines : List Line) → Each (λ line. is_lemma_line line ≡ true) lines → Each (λ line. is_inner line ≡ true) lines
lemmas_inner [] all = tt
lemmas_inner (line ∷ lines) all = (lemma_inner line all.0, lemmas_inner lines all.1)
