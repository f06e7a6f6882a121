-- The text of a proof, line by line.
use Rattle.std.proofs.Common.{◌≡◌, ℕ, ◌+◌, arith, cond, eqb, List, [], ◌∷◌, ◌++◌, length, refl, sym, ap, ◌∙◌}
use Rattle.std.proofs.lemmas.List.{append-nil, append_assoc, length-append}
use Rattle.bs_log.specs.declared.line.Line.{Line}
use Rattle.bs_log.specs.declared.line.Line.TheVariants.{Solve, Lemma, Block, Finish, Retire, Delete}
use Rattle.bs_log.specs.History.{Problem, History, step_of, last_id}
use Rattle.bs_log.specs.Refutation.{blocks_of}
use Rattle.bs_log.specs.declared.id_offsets.Frame.{Frame}
use Rattle.bs_log.specs.declared.walk.At.{At}
use Rattle.bs_log.specs.Cnf.{closed}
use Rattle.bs_log.specs.Lines.{raised}
use Rattle.bs_log.specs.Proof.{shown, shown_line, block_hint, proof_text}
use Rattle.bs_log.specs.Clauses.{block_at}
use Rattle.bs_log.specs.Walk.{step_behind, at_behind, block_hint_at, shown_at, lines_text, last_behind, IsAt}
use Rattle.bs_log.proofs.Walking.{step_next, blocks_next}

module _ (f : Frame) (p q : Problem) where
  same_hint : (h : History) (at : At) → IsAt f p q h at → block_hint_at f at ≡ block_hint f h
  same_hint h at is =
      ap (λ n. cond (eqb n f.step) (f.own + at.blocks + 1) (f.closed + n)) is.step_is
      ∙ ap (λ n. cond (eqb (step_of h) f.step) (f.own + n + 1) (f.closed + step_of h)) is.blocks_are

  same_line : (h : History) (at : At) (line : Line) → IsAt f p q h at → shown_at f p.vars at line ≡ shown_line f p h line
  same_line h at Solve is = refl
  same_line h at (Lemma id lits hints) is = refl
  same_line h at (Block id lits) is = ap (λ n. Lemma (raised f id) lits (n ∷ []) ∷ []) (same_hint h at is)
  same_line h at (Finish id) is = refl
  same_line h at (Retire id) is = ap (λ n. Lemma (raised f id) (closed p n) ((f.closed + n) ∷ []) ∷ []) is.step_is
  same_line h at (Delete ids) is = refl

  text_of_line : (h : History) (line : Line) →
      proof_text q (shown f p (line ∷ h)) ≡ proof_text q (shown f p h) ++ lines_text (last_id q (shown f p h)) (shown_line f p h line)
  text_of_line h Solve = sym (append-nil (proof_text q (shown f p h)))
  text_of_line h (Lemma id lits hints) = refl
  text_of_line h (Block id lits) = refl
  text_of_line h (Finish id) = sym (append-nil (proof_text q (shown f p h)))
  text_of_line h (Retire id) = refl
  text_of_line h (Delete ids) = refl

  -- one line more
  pub text_more : (h : History) (at : At) (line : Line) (start before after : List ℕ) → IsAt f p q h at → before ≡ start ++ proof_text q (shown f p h) →
      after ≡ before ++ lines_text at.last (shown_at f p.vars at line) → after ≡ start ++ proof_text q (shown f p (line ∷ h))
  text_more h at line start before after is texts new =
      new
      ∙ (ap (λ t. t ++ lines_text at.last (shown_at f p.vars at line)) texts
      ∙ (append_assoc start (proof_text q (shown f p h)) (lines_text at.last (shown_at f p.vars at line))
      ∙ ap (λ t. start ++ t)
      (ap (λ n. proof_text q (shown f p h) ++ lines_text n (shown_at f p.vars at line)) is.last_is
      ∙ (ap (λ (ls : List Line). proof_text q (shown f p h) ++ lines_text (last_id q (shown f p h)) ls) (same_line h at line is)
      ∙ sym (text_of_line h line)))))

  last_next : (h : History) (last : ℕ) (line : Line) → last ≡ last_id q (shown f p h) → last_behind f last line ≡ last_id q (shown f p (line ∷ h))
  last_next h last Solve is = is
  last_next h last (Lemma id lits hints) is = refl
  last_next h last (Block id lits) is = refl
  last_next h last (Finish id) is = is
  last_next h last (Retire id) is = refl
  last_next h last (Delete ids) is = is

  pub at_next : (h : History) (at new : At) (line : Line) → IsAt f p q h at → new ≡ at_behind f at line → IsAt f p q (line ∷ h) new
  at_next h at new line is next =
      record {
        step_is = ap (λ (a : At). a.step) next ∙ (ap (step_behind line) is.step_is ∙ sym (step_next line h));
        blocks_are =
            let long = length-append (block_at line (step_of h) f.step) (blocks_of h f.step) in
            let all : length (blocks_of (line ∷ h) f.step) ≡ length (block_at line (step_of h) f.step ++ blocks_of h f.step) =
            ap length (blocks_next line h f.step) in
            let here : length (block_at line at.step f.step) ≡ length (block_at line (step_of h) f.step) =
            ap (λ n. length (block_at line n f.step)) is.step_is in
            let many = is.blocks_are in
            ap (λ (a : At). a.blocks) next ∙ omega (arith, long, all, here, many);
        last_is = ap (λ (a : At). a.last) next ∙ last_next h at.last line is.last_is;
      }
