-- Pieces of a note that are appended one after the other, and notes under other clauses.
use Rattle.std.proofs.Common.{◌≡◌, ◌∙◌, inr, ℕ, ◌+◌, List, ◌++◌, Result, Ok, Err, Vec, ap, arith, refl, subst}
use Rattle.std.proofs.lemmas.List.{append_assoc}
use Rattle.std.specs.Prelude.{IfOk}
use Rattle.std.specs.declared.alloc.Global.{Global}
use Rattle.bs_bits.specs.declared.memory.NoMemory.{NoMemory}
use Rattle.bs_note_files.specs.Notes.{Saying, IsNoteOn}
use Rattle.bs_note_files.specs.Flaws.{IsClean, IsFlawNote}

-- five pieces
pub five_pieces : (a b c d e p q r s t : List ℕ) → p ≡ a → q ≡ p ++ b → r ≡ q ++ c → s ≡ r ++ d → t ≡ s ++ e → t ≡ a ++ (b ++ (c ++ (d ++ e)))
five_pieces a b c d e p q r s t is_p is_q is_r is_s is_t =
    let whole : t ≡ a ++ b ++ c ++ d ++ e =
    is_t ∙ ap (λ (l : List ℕ). l ++ e) (is_s ∙ ap (λ (l : List ℕ). l ++ d) (is_r ∙ ap (λ (l : List ℕ). l ++ c) (is_q ∙ ap (λ (l : List ℕ). l ++ b) is_p))) in
    whole ∙ (append_assoc (a ++ b ++ c) d e ∙ (append_assoc (a ++ b) c (d ++ e) ∙ append_assoc a b (c ++ (d ++ e))))

-- a note on the front of a line with no flaw is one on its form
pub clean_flaw : (path text : List ℕ) (start : ℕ) (line : List ℕ) (form : Saying) (note : Result (Vec ℕ Global) NoMemory) → IsClean line →
    IfOk note (λ n. IsNoteOn path text start form n.items) → IfOk note (λ n. IsFlawNote path text start line form n.items)
clean_flaw path text start line form (Ok n) clean on =
    let same : start ≡ start + 0 = omega arith in
    record { at = 0; says = form; is = inr (clean, refl, refl); placed = subst (λ (k : ℕ). IsNoteOn path text k form n.items) same on }
clean_flaw path text start line form (Err want) clean on = tt
