-- Each line of an answer's head is read back, and lacks line feeds.
use Rattle.std.proofs.Common.{◌≡◌, ℕ, ◌≤◌, Bool, true, false, cond, List, [], ◌∷◌, ◌++◌, refl, arith, ap, ◌∙◌, Option, Some, None}
use Rattle.std.specs.Prelude.{codes, decimal, option_map, filter_map}
use Rattle.std.specs.List.{AllByRecursion as Each}
use Rattle.std.proofs.lemmas.Bool.{true≢false}
use Rattle.bs_bits.specs.Lines.{words_of}
use Rattle.bs_bits.proofs.LineTextLemmas.{Lacks, lacks_append, number_lacks}
use Rattle.bs_log.specs.declared.line.Line.{Line}
use Rattle.bs_log.specs.declared.line.Line.TheVariants as lines
use Rattle.bs_log.specs.LineForms.{HasText}
use Rattle.bs_log.specs.LineText.{line_text}
use Rattle.bs_log.specs.Steps.{HasNoBlock, block_of_line}
use Rattle.bs_log.proofs.RoundTrip.{lines_read_back}
use Rattle.bs_log.proofs.WordLemmas.{words_joined}
use Rattle.bs_report.specs.declared.limits.TheConstants.{MAX_CONFLICTS}
use Rattle.bs_report.specs.Forms.{◌>>=◌, behind, at_end, number_within, number_behind}
use Rattle.bs_report.proofs.FormLemmas.{given, number_word, within_again, number_behind_again}
use Rattle.bs_reach_unrolled.specs.declared.limits.TheConstants.{MAX_FRAMES}
use Rattle.bs_reach.specs.declared.reach.Outcome.{Outcome}
use Rattle.bs_reach.specs.declared.reach.Outcome.TheVariants.{Reached, Unreached, Unknown}
use Rattle.bs_reach_answer.specs.Forms.{asked_in, length_in, outcome_of, outcome_in, is_block, plain, plain_line_in}

-- the lines without their line feeds
abbrev pub asked_words : ℕ → ℕ → List ℕ
asked_words a b = codes "asked " ++ (decimal a ++ (codes " conflicts " ++ decimal b))

abbrev pub outcome_words : Outcome → List ℕ
outcome_words (Reached j) = codes "result reached " ++ decimal j
outcome_words Unreached = codes "result unreached"
outcome_words (Unknown j) = codes "result unknown " ++ decimal j

-- the length is one that was asked for
abbrev pub Within : ℕ → Outcome → Type 0
Within asked (Reached j) = j ≤ asked
Within asked Unreached = Unit {0}
Within asked (Unknown j) = j ≤ asked

pub asked_again : (a b : ℕ) → a ≤ MAX_FRAMES → 1 ≤ b → b ≤ MAX_CONFLICTS → asked_in (asked_words a b) ≡ Some (a, b)
asked_again a b ha lb hb =
    ap (λ (ws : List (List ℕ)). number_behind (codes "asked") 0 MAX_FRAMES ws >>= first) words
    ∙ (given _ (a, after) first (number_behind_again (codes "asked") 0 MAX_FRAMES a after refl (omega arith) ha (omega (arith, ha)))
    ∙ given _ (b, []) (second a) (number_behind_again (codes "conflicts") 1 MAX_CONFLICTS b [] refl lb hb (omega (arith, hb))))
  where
    after : List (List ℕ)
    after = codes "conflicts" ∷ decimal b ∷ []

    second : ℕ → ℕ × List (List ℕ) → Option (ℕ × ℕ)
    second a conflicts = at_end conflicts.1 (a, conflicts.0)

    first : ℕ × List (List ℕ) → Option (ℕ × ℕ)
    first asked = number_behind (codes "conflicts") 1 MAX_CONFLICTS asked.1 >>= second asked.0

    words : words_of (codes "asked " ++ (decimal a ++ (codes " conflicts " ++ decimal b))) ≡ codes "asked" ∷ decimal a ∷ after
    words = words_joined (codes "asked") (decimal a ∷ after) (refl, (number_word a (omega (arith, ha)), (refl, (number_word b (omega (arith, hb)), tt))))

pub asked_lacks : (a b : ℕ) → a ≤ MAX_FRAMES → b ≤ MAX_CONFLICTS → Lacks 10 (asked_words a b)
asked_lacks a b ha hb =
    lacks_append 10 (codes "asked ") _ (refl, (refl, (refl, (refl, (refl, (refl, tt))))))
    (lacks_append 10 (decimal a) _ (number_lacks 10 a (omega arith) (omega (arith, ha)))
    (lacks_append 10 (codes " conflicts ") _ (refl, (refl, (refl, (refl, (refl, (refl, (refl, (refl, (refl, (refl, (refl, tt)))))))))))
    (number_lacks 10 b (omega arith) (omega (arith, hb)))))

length_again : (asked j : ℕ) → j ≤ asked → asked ≤ MAX_FRAMES → length_in asked (decimal j ∷ []) ≡ Some j
length_again asked j h a =
    given (number_within 0 asked (decimal j)) j (λ j. at_end [] j) (within_again 0 asked j (omega arith) h (omega (arith, h, a)))

pub outcome_again : (asked : ℕ) (o : Outcome) → asked ≤ MAX_FRAMES → Within asked o → outcome_in asked (outcome_words o) ≡ Some o
outcome_again asked (Reached j) a h =
    ap (λ (ws : List (List ℕ)). behind (codes "result") ws >>= λ found. outcome_of asked found.0 found.1)
    (words_joined (codes "result") (codes "reached" ∷ decimal j ∷ []) (refl, (refl, (number_word j (omega (arith, h, a)), tt))))
    ∙ ap (option_map (λ (j : ℕ). Reached j)) (length_again asked j h a)
outcome_again asked Unreached a h = refl
outcome_again asked (Unknown j) a h =
    ap (λ (ws : List (List ℕ)). behind (codes "result") ws >>= λ found. outcome_of asked found.0 found.1)
    (words_joined (codes "result") (codes "unknown" ∷ decimal j ∷ []) (refl, (refl, (number_word j (omega (arith, h, a)), tt))))
    ∙ ap (option_map (λ (j : ℕ). Unknown j)) (length_again asked j h a)

pub outcome_lacks : (asked : ℕ) (o : Outcome) → asked ≤ MAX_FRAMES → Within asked o → Lacks 10 (outcome_words o)
outcome_lacks asked (Reached j) a h =
    lacks_append 10 (codes "result reached ") (decimal j) (refl, (refl, (refl, (refl, (refl, (refl, (refl, (refl, (refl, (refl, (refl, (refl, (refl, (refl, (refl, tt)))))))))))))))
    (number_lacks 10 j (omega arith) (omega (arith, h, a)))
outcome_lacks asked Unreached a h = (refl, (refl, (refl, (refl, (refl, (refl, (refl, (refl, (refl, (refl, (refl, (refl, (refl, (refl, (refl, (refl, tt))))))))))))))))
outcome_lacks asked (Unknown j) a h =
    lacks_append 10 (codes "result unknown ") (decimal j) (refl, (refl, (refl, (refl, (refl, (refl, (refl, (refl, (refl, (refl, (refl, (refl, (refl, (refl, (refl, tt)))))))))))))))
    (number_lacks 10 j (omega arith) (omega (arith, h, a)))

-- ---- log lines

-- the line has a text and is no block
abbrev pub HasPlainText : Line → Type 0
HasPlainText l = HasText l × (is_block l ≡ false)

pub line_again : (l : Line) → HasPlainText l → plain_line_in (line_text l) ≡ Some l
line_again l h =
    ap (λ (o : Option Line). o >>= plain) (lines_read_back l h.0) ∙ ap (λ (b : Bool). cond {A = Option Line} b None (Some l)) h.1

some_block : {X : Type 0} (x : X) (xs : List X) → x ∷ xs ≡ [] → ⊥
some_block x xs e = cc

pub plain_lines : (log : List Line) → Each HasText log → HasNoBlock log → Each HasPlainText log
plain_lines [] h e = tt
plain_lines (lines.Solve ∷ log) h e = ((h.0, refl), plain_lines log h.1 e)
plain_lines (lines.Lemma id lits hints ∷ log) h e = ((h.0, refl), plain_lines log h.1 e)
plain_lines (lines.Block id lits ∷ log) h e = absurd (some_block lits (filter_map block_of_line log) e)
plain_lines (lines.Finish id ∷ log) h e = ((h.0, refl), plain_lines log h.1 e)
plain_lines (lines.Retire id ∷ log) h e = ((h.0, refl), plain_lines log h.1 e)
plain_lines (lines.Delete ids ∷ log) h e = ((h.0, refl), plain_lines log h.1 e)

pub plain_texts : (log : List Line) → Each HasPlainText log → Each HasText log
plain_texts [] h = tt
plain_texts (l ∷ log) h = (h.0.0, plain_texts log h.1)

pub plain_no_block : (log : List Line) → Each HasPlainText log → HasNoBlock log
plain_no_block [] h = refl
plain_no_block (lines.Solve ∷ log) h = plain_no_block log h.1
plain_no_block (lines.Lemma id lits hints ∷ log) h = plain_no_block log h.1
plain_no_block (lines.Block id lits ∷ log) h = absurd (true≢false h.0.1)
plain_no_block (lines.Finish id ∷ log) h = plain_no_block log h.1
plain_no_block (lines.Retire id ∷ log) h = plain_no_block log h.1
plain_no_block (lines.Delete ids ∷ log) h = plain_no_block log h.1
