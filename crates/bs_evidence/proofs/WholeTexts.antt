-- The texts of all finished lists, line by line.
use Rattle.std.proofs.Common.{◌≡◌, ℕ, ◌+◌, ◌<◌, List, [], ◌∷◌, ◌++◌, map, length, take, get_or, refl, sym, ap, ◌∙◌, Result, Ok, Err}
use Rattle.std.specs.Prelude.{OnOk}
use Rattle.std.specs.List.{flat_map}
use Rattle.std.proofs.lemmas.List.{append-nil, append_assoc, map-append, take_more}
use Rattle.std.proofs.lemmas.List.Elements.{filter-append}
use Rattle.std.proofs.lemmas.Grind.{flat_map-append}
use Rattle.bs_clause.specs.Literal.{Literal, Clause}
use Rattle.bs_log.specs.declared.line.Line.{Line}
use Rattle.bs_log.specs.declared.line.Line.TheVariants.{Solve, Lemma, Block, Finish, Retire, Delete}
use Rattle.bs_log.specs.LineText.{id_text, literal_text}
use Rattle.bs_log.specs.History.{Problem, History, activation_of, last_id}
use Rattle.bs_log.specs.Refusal.{history_of, IsAccepted}
use Rattle.bs_log.specs.declared.id_offsets.Frame.{Frame}
use Rattle.bs_log.specs.Clauses.{clause_text}
use Rattle.bs_log.specs.Proof.{lemma_in, proof_text, unit_id}
use Rattle.bs_log.specs.Walk.{lines_text, last_behind}
use Rattle.bs_log.proofs.Walking.{history_more}
use Rattle.bs_evidence.specs.declared.whole_walk.Under.{Under}
use Rattle.bs_evidence.specs.declared.whole_walk.At.{At}
use Rattle.bs_evidence.specs.WholeCnf.{finished, one_of, whole_behind}
use Rattle.bs_evidence.specs.WholeProof.{under_of, so_far, place_of, besides, line_at, whole_shown, ended_at, ended}
use Rattle.bs_evidence.specs.WholeWalk.{under_behind, IsAt}
use Rattle.bs_evidence.proofs.Giving.{under_next, step_in, finished_are, behind_is}

-- members more
pub texts_more : {X : Type 0} (g : X → List ℕ) (old new all : List X) (start before after : List ℕ) → all ≡ old ++ new →
    before ≡ start ++ flat_map g old → after ≡ before ++ flat_map g new → after ≡ start ++ flat_map g all
texts_more g old new all start before after is texts more =
    more
    ∙ (ap (λ t. t ++ flat_map g new) texts
    ∙ (append_assoc start (flat_map g old) (flat_map g new)
    ∙ ap (λ t. start ++ t) (sym (flat_map-append g old new) ∙ ap (flat_map g) (sym is))))

pub ended_more : (lines : List Line) (i : ℕ) (line : Line) (under : Under) → i < length lines → line ≡ get_or lines i line →
    under ≡ under_of (history_of (take i lines)) → ended (history_of (take (i + 1) lines)) ≡ ended (history_of (take i lines)) ++ ended_at under line
ended_more lines i line under less is so =
    ap ended (history_more lines i line less is) ∙ ap (λ (u : Under). ended (history_of (take i lines)) ++ ended_at u line) (sym so)

-- the same through a function of what ends finished steps
pub ended_texts_more : {X : Type 0} (g : X → List ℕ) (k : ℕ × ℕ → X) (lines : List Line) (i : ℕ) (line : Line) (under : Under) (start before after : List ℕ) →
    i < length lines → line ≡ get_or lines i line → under ≡ under_of (history_of (take i lines)) →
    before ≡ start ++ flat_map g (map k (ended (history_of (take i lines)))) → after ≡ before ++ flat_map g (map k (ended_at under line)) →
    after ≡ start ++ flat_map g (map k (ended (history_of (take (i + 1) lines))))
ended_texts_more g k lines i line under start before after less is so texts more =
    texts_more g (map k (ended (history_of (take i lines)))) (map k (ended_at under line)) (map k (ended (history_of (take (i + 1) lines)))) start before after
    (ap (map k) (ended_more lines i line under less is so) ∙ map-append k (ended (history_of (take i lines))) (ended_at under line)) texts more

pub besides_texts_more : (place : ℕ) (rest : Clause) (variable : ℕ) (lemma : Clause) (i : ℕ) (l : Literal) (start before after : List ℕ) → i < length lemma →
    l ≡ get_or lemma i l → before ≡ start ++ flat_map id_text (map (unit_id place rest) (besides variable (take i lemma))) →
    after ≡ before ++ flat_map id_text (map (unit_id place rest) (besides variable (l ∷ []))) →
    after ≡ start ++ flat_map id_text (map (unit_id place rest) (besides variable (take (i + 1) lemma)))
besides_texts_more place rest variable lemma i l start before after less is texts more =
    texts_more id_text (map (unit_id place rest) (besides variable (take i lemma))) (map (unit_id place rest) (besides variable (l ∷ [])))
    (map (unit_id place rest) (besides variable (take (i + 1) lemma))) start before after
    (ap (λ (c : Clause). map (unit_id place rest) (besides variable c)) (take_more lemma i l less ∙ ap (λ (m : Literal). take i lemma ++ m ∷ []) (sym is))
    ∙ (ap (map (unit_id place rest)) (filter-append _ (take i lemma) (l ∷ []))
    ∙ map-append (unit_id place rest) (besides variable (take i lemma)) (besides variable (l ∷ [])))) texts more

module _ (f : Frame) (p q : Problem) where
  text_of_line : (h : History) (line : Line) → proof_text q (whole_shown f p (line ∷ h)) ≡
      proof_text q (whole_shown f p h) ++ lines_text (last_id q (whole_shown f p h)) (line_at f p (lemma_in h) (under_of h) (place_of p h) line)
  text_of_line h Solve = sym (append-nil (proof_text q (whole_shown f p h)))
  text_of_line h (Lemma id lits hints) = refl
  text_of_line h (Block id lits) = refl
  text_of_line h (Finish id) = sym (append-nil (proof_text q (whole_shown f p h)))
  text_of_line h (Retire id) = refl
  text_of_line h (Delete ids) = refl

  same_line : (h : History) (at : At) (line : Line) → IsAt f p q h at →
      line_at f p (lemma_in h) at.under at.place line ≡ line_at f p (lemma_in h) (under_of h) (place_of p h) line
  same_line h at line is = λ i. line_at f p (lemma_in h) (is.under_is i) (is.place_is i) line

  -- one line more
  pub text_more : (h : History) (at : At) (line : Line) (start before after : List ℕ) → IsAt f p q h at → before ≡ start ++ proof_text q (whole_shown f p h) →
      after ≡ before ++ lines_text at.last (line_at f p (lemma_in h) at.under at.place line) → after ≡ start ++ proof_text q (whole_shown f p (line ∷ h))
  text_more h at line start before after is texts new =
      let own : List Line = line_at f p (lemma_in h) at.under at.place line in
      new
      ∙ (ap (λ t. t ++ lines_text at.last own) texts
      ∙ (append_assoc start (proof_text q (whole_shown f p h)) (lines_text at.last own)
      ∙ ap (λ t. start ++ t)
      (ap (λ n. proof_text q (whole_shown f p h) ++ lines_text n own) is.last_is
      ∙ (ap (λ (ls : List Line). proof_text q (whole_shown f p h) ++ lines_text (last_id q (whole_shown f p h)) ls) (same_line h at line is)
      ∙ sym (text_of_line h line)))))

  last_next : (h : History) (last : ℕ) (line : Line) → last ≡ last_id q (whole_shown f p h) → last_behind f last line ≡ last_id q (whole_shown f p (line ∷ h))
  last_next h last Solve is = is
  last_next h last (Lemma id lits hints) is = refl
  last_next h last (Block id lits) is = refl
  last_next h last (Finish id) is = is
  last_next h last (Retire id) is = refl
  last_next h last (Delete ids) is = is

  pub at_next : (h : History) (at new : At) (line : Line) → IsAt f p q h at → new.under ≡ under_behind line at.under → new.place ≡ place_of p (line ∷ h) →
      new.last ≡ last_behind f at.last line → IsAt f p q (line ∷ h) new
  at_next h at new line is under place last =
      record {
        under_is = under ∙ (ap (under_behind line) is.under_is ∙ sym (under_next line h));
        place_is = place;
        last_is = last ∙ last_next h at.last line is.last_is;
      }

-- ---- the text of what stands behind the clauses

on_ok : {T E X Y : Type 0} (r : Result T E) → (X → Y) → OnOk r X → OnOk r Y
on_ok (Ok t) to x = to x
on_ok (Err e) to x = tt

map_twice : {X Y Z : Type 0} (g : Y → Z) (k : X → Y) (xs : List X) → map (λ x. g (k x)) xs ≡ map g (map k xs)
map_twice g k [] = refl
map_twice {X} {Y} {Z} g k (x ∷ xs) = ap (λ (zs : List Z). g (k x) ∷ zs) (map_twice g k xs)

module _ (p : Problem) (log : List Line) (ok : IsAccepted p log) where
  ones_are : map (λ (e : ℕ × ℕ). activation_of p e.1) (ended (history_of log)) ≡ one_of p (finished p (history_of log))
  ones_are = map_twice (activation_of p) step_in (ended (history_of log)) ∙ ap (map (activation_of p)) (finished_are p log ok)

  -- the last clause
  pub one_joined : {T E : Type 0} (r : Result T E) (start one text end : List ℕ) →
      one ≡ start ++ flat_map literal_text (map (λ (e : ℕ × ℕ). activation_of p e.1) (ended (history_of log))) → OnOk r (text ≡ one ++ end) →
      OnOk r (text ≡ start ++ (flat_map literal_text (one_of p (finished p (history_of log))) ++ end))
  one_joined r start one text end first last =
      on_ok r (λ e.
      e
      ∙ (ap (λ t. t ++ end) (first ∙ ap (λ (c : Clause). start ++ flat_map literal_text c) ones_are)
      ∙ append_assoc start (flat_map literal_text (one_of p (finished p (history_of log)))) end)) last

  -- all of it
  pub behind_joined : {T E : Type 0} (r : Result T E) (start parts text : List ℕ) →
      parts ≡ start ++ flat_map clause_text (so_far p (history_of log)) →
      OnOk r (text ≡ parts ++ clause_text (one_of p (finished p (history_of log)))) →
      OnOk r (text ≡ start ++ flat_map clause_text (whole_behind p (history_of log)))
  behind_joined r start parts text first last =
      on_ok r (λ e.
      e
      ∙ (ap (λ t. t ++ clause_text (one_of p (finished p (history_of log)))) first
      ∙ (append_assoc start (flat_map clause_text (so_far p (history_of log))) (clause_text (one_of p (finished p (history_of log))))
      ∙ ap (λ t. start ++ t)
      (ap (λ t. flat_map clause_text (so_far p (history_of log)) ++ t) (sym (append-nil (clause_text (one_of p (finished p (history_of log))))))
      ∙ (sym (flat_map-append clause_text (so_far p (history_of log)) (one_of p (finished p (history_of log)) ∷ []))
      ∙ ap (flat_map clause_text) (sym (behind_is p log ok))))))) last
