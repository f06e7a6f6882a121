-- A line of an answer's head that is read is spelled by what was read.
use Rattle.std.proofs.Common.{◌≡◌, ℕ, ◌≤◌, true, List, [], ◌∷◌, length, refl, arith, ap, sym, subst, ◌∙◌, Option, Some, None}
use Rattle.std.specs.Prelude.{◌==◌, ◌&&◌, codes, decimal, nat_le, option_map}
use Rattle.std.specs.Str.{bytes_eq}
use Rattle.std.proofs.lemmas.Bool.{and_parts, leb-true, eqb-true}
use Rattle.bs_bits.specs.Lines.{words_of, number_in}
use Rattle.bs_log.specs.declared.line.Line.{Line}
use Rattle.bs_log.specs.LineReading.{line_in}
use Rattle.bs_log.specs.LineText.{line_text}
use Rattle.bs_log.proofs.WordLemmas.{joined, joined_words, number_text}
use Rattle.bs_report.specs.declared.limits.TheConstants.{MAX_CONFLICTS}
use Rattle.bs_report.specs.Forms.{◌>>=◌, next_in, behind, at_end, within, number_within, number_behind}
use Rattle.bs_report.proofs.SpellingLemmas.{bound, same_text, unmap, branch, log_line_is}
use Rattle.bs_reach_unrolled.specs.declared.limits.TheConstants.{MAX_FRAMES}
use Rattle.bs_reach.specs.declared.reach.Outcome.{Outcome}
use Rattle.bs_reach.specs.declared.reach.Outcome.TheVariants.{Reached, Unreached, Unknown}
use Rattle.bs_reach_answer.specs.Forms.{asked_in, length_in, outcome_of, outcome_in, is_block, plain, plain_line_in}
use Rattle.bs_reach_answer.proofs.FormLemmas.{asked_words, outcome_words, Within, HasPlainText}

never : {A G : Type 0} (a : A) → None ≡ Some a → G
never a e = cc

next_is : (ws : List (List ℕ)) (found : List ℕ × List (List ℕ)) → next_in ws ≡ Some found → ws ≡ found.0 ∷ found.1
next_is [] found e = cc
next_is (w ∷ ws) found e = let same : (w, ws) ≡ found = cc in ap (λ (x : List ℕ × List (List ℕ)). x.0 ∷ x.1) same

behind_is : (tag : List ℕ) (ws : List (List ℕ)) (found : List ℕ × List (List ℕ)) → behind tag ws ≡ Some found → ws ≡ tag ∷ found.0 ∷ found.1
behind_is tag [] found e = cc
behind_is tag (w ∷ ws) found e =
    branch (bytes_eq w tag) (next_in ws) None found e
    (λ t e. ap (λ x. x ∷ ws) (same_text w tag t) ∙ ap (λ r. tag ∷ r) (next_is ws found e))
    (λ t e. never found e)

end_is_here : {A : Type 0} (ws : List (List ℕ)) (a b : A) → at_end ws a ≡ Some b → (ws ≡ []) × (a ≡ b)
end_is_here ws a b e = branch (length ws == 0) (Some a) None b e (λ t e. (none ws t, some e)) (λ t e. never b e)
  where
    none : (ws : List (List ℕ)) → (length ws == 0) ≡ true → ws ≡ []
    none [] t = refl
    none (w ∷ ws) t = let zero_long : length (w ∷ ws) ≡ 0 = eqb-true _ _ t in absurd (omega arith)

    some : Some a ≡ Some b → a ≡ b
    some e = cc

from_words : (text : List ℕ) (ws : List (List ℕ)) → words_of text ≡ ws → text ≡ joined ws
from_words text ws e = sym (joined_words text) ∙ ap joined e

-- ---- numbers

record IsNumber (low high : ℕ) (w : List ℕ) (n : ℕ) : Type 0 where
  text : w ≡ decimal n
  from : low ≤ n
  to : n ≤ high

within_is : (low high : ℕ) (w : List ℕ) (n : ℕ) → number_within low high w ≡ Some n → IsNumber low high w n
within_is low high w n e = by (number_in w) refl e
  where
    by : (o : Option ℕ) → number_in w ≡ o → within low high o ≡ Some n → IsNumber low high w n
    by None is e = never n e
    by (Some m) is e =
        branch (nat_le low m && nat_le m high) (Some m) None n e
        (λ t e.
        let same : m ≡ n = cc in
        let range = and_parts (nat_le low m) (nat_le m high) t in
        subst (IsNumber low high w) same
        (record { text = sym (number_text w m is); from = leb-true low m range.0; to = leb-true m high range.1 }))
        (λ t e. never n e)

record IsNumberBehind (tag : List ℕ) (low high : ℕ) (ws : List (List ℕ)) (found : ℕ × List (List ℕ)) : Type 0 where
  words : ws ≡ tag ∷ decimal found.0 ∷ found.1
  from : low ≤ found.0
  to : found.0 ≤ high

number_behind_is : (tag : List ℕ) (low high : ℕ) (ws : List (List ℕ)) (found : ℕ × List (List ℕ)) → number_behind tag low high ws ≡ Some found →
    IsNumberBehind tag low high ws found
number_behind_is tag low high ws found e =
    let a = bound (behind tag ws) (λ found. number_within low high found.0 >>= λ n. Some (n, found.1)) found e in
    let b = bound (number_within low high a.value.0) (λ n. Some (n, a.value.1)) found a.gives in
    let n = within_is low high a.value.0 b.value b.is in
    let gives : Some (b.value, a.value.1) ≡ Some found = b.gives in
    let same : (b.value, a.value.1) ≡ found = cc in
    subst (IsNumberBehind tag low high ws) same
    (record { words = behind_is tag ws a.value a.is ∙ ap (λ w. tag ∷ w ∷ a.value.1) n.text; from = n.from; to = n.to })

-- ---- lines

pub record IsAsked (text : List ℕ) (asked : ℕ × ℕ) : Type 0 where
  pub spells : text ≡ asked_words asked.0 asked.1
  pub most_asked : asked.0 ≤ MAX_FRAMES
  pub some_conflicts : 1 ≤ asked.1
  pub most_conflicts : asked.1 ≤ MAX_CONFLICTS

pub asked_is : (text : List ℕ) (asked : ℕ × ℕ) → asked_in text ≡ Some asked → IsAsked text asked
asked_is text asked e =
    let a = bound (number_behind (codes "asked") 0 MAX_FRAMES (words_of text)) first asked e in
    let b = bound (number_behind (codes "conflicts") 1 MAX_CONFLICTS a.value.1) (second a.value.0) asked a.gives in
    let z = end_is_here b.value.1 (a.value.0, b.value.0) asked b.gives in
    let pa = number_behind_is (codes "asked") 0 MAX_FRAMES (words_of text) a.value a.is in
    let pb = number_behind_is (codes "conflicts") 1 MAX_CONFLICTS a.value.1 b.value b.is in
    subst (IsAsked text) z.1
    (record {
      spells =
          from_words text (codes "asked" ∷ decimal a.value.0 ∷ codes "conflicts" ∷ decimal b.value.0 ∷ [])
          (pa.words
          ∙ (ap (λ ws. codes "asked" ∷ decimal a.value.0 ∷ ws) pb.words
          ∙ ap (λ ws. codes "asked" ∷ decimal a.value.0 ∷ codes "conflicts" ∷ decimal b.value.0 ∷ ws) z.0));
      most_asked = pa.to;
      some_conflicts = pb.from;
      most_conflicts = pb.to;
    })
  where
    second : ℕ → ℕ × List (List ℕ) → Option (ℕ × ℕ)
    second a conflicts = at_end conflicts.1 (a, conflicts.0)

    first : ℕ × List (List ℕ) → Option (ℕ × ℕ)
    first asked = number_behind (codes "conflicts") 1 MAX_CONFLICTS asked.1 >>= second asked.0

length_is : (asked : ℕ) (ws : List (List ℕ)) (j : ℕ) → length_in asked ws ≡ Some j → (ws ≡ decimal j ∷ []) × (j ≤ asked)
length_is asked ws j e =
    let a = bound (next_in ws) (λ found. number_within 0 asked found.0 >>= λ j. at_end found.1 j) j e in
    let b = bound (number_within 0 asked a.value.0) (λ j. at_end a.value.1 j) j a.gives in
    let n = within_is 0 asked a.value.0 b.value b.is in
    let z = end_is_here a.value.1 b.value j b.gives in
    subst (λ (j : ℕ). (ws ≡ decimal j ∷ []) × (j ≤ asked)) z.1
    ((next_is ws a.value a.is ∙ (ap (λ w. w ∷ a.value.1) n.text ∙ ap (λ ws. decimal b.value ∷ ws) z.0), n.to))

abbrev SpellsOutcome : ℕ → List ℕ → List (List ℕ) → Outcome → Type 0
SpellsOutcome asked word ws o = Within asked o × (joined (codes "result" ∷ word ∷ ws) ≡ outcome_words o)

outcome_of_is : (asked : ℕ) (word : List ℕ) (ws : List (List ℕ)) (o : Outcome) → outcome_of asked word ws ≡ Some o → SpellsOutcome asked word ws o
outcome_of_is asked word ws o h =
    branch (bytes_eq word (codes "unreached")) (at_end ws Unreached) _ o h
    (λ t h.
    let z = end_is_here ws Unreached o h in
    subst (SpellsOutcome asked word ws) z.1 ((
      tt,
      ap (λ w. joined (codes "result" ∷ w ∷ ws)) (same_text word (codes "unreached") t)
          ∙ ap (λ ws. joined (codes "result" ∷ codes "unreached" ∷ ws)) z.0,
    )))
    (λ t h.
    branch (bytes_eq word (codes "reached")) (option_map (λ (j : ℕ). Reached j) (length_in asked ws)) _ o h
    (λ t h.
    let m = unmap (λ (j : ℕ). Reached j) (length_in asked ws) o h in
    let gives : Some (Reached m.value) ≡ Some o = m.gives in
    let same : Reached m.value ≡ o = cc in
    let l = length_is asked ws m.value m.is in
    subst (SpellsOutcome asked word ws) same ((
      l.1,
      ap (λ w. joined (codes "result" ∷ w ∷ ws)) (same_text word (codes "reached") t)
          ∙ ap (λ ws. joined (codes "result" ∷ codes "reached" ∷ ws)) l.0,
    )))
    (λ t h.
    branch (bytes_eq word (codes "unknown")) (option_map (λ (j : ℕ). Unknown j) (length_in asked ws)) None o h
    (λ t h.
    let m = unmap (λ (j : ℕ). Unknown j) (length_in asked ws) o h in
    let gives : Some (Unknown m.value) ≡ Some o = m.gives in
    let same : Unknown m.value ≡ o = cc in
    let l = length_is asked ws m.value m.is in
    subst (SpellsOutcome asked word ws) same ((
      l.1,
      ap (λ w. joined (codes "result" ∷ w ∷ ws)) (same_text word (codes "unknown") t)
          ∙ ap (λ ws. joined (codes "result" ∷ codes "unknown" ∷ ws)) l.0,
    )))
    (λ t h. never o h)))

pub outcome_is : (asked : ℕ) (text : List ℕ) (o : Outcome) → outcome_in asked text ≡ Some o → Within asked o × (text ≡ outcome_words o)
outcome_is asked text o e =
    let a = bound (behind (codes "result") (words_of text)) (λ found. outcome_of asked found.0 found.1) o e in
    let s = outcome_of_is asked a.value.0 a.value.1 o a.gives in
    (s.0, from_words text (codes "result" ∷ a.value.0 ∷ a.value.1) (behind_is (codes "result") (words_of text) a.value a.is) ∙ s.1)

pub plain_line_is : (text : List ℕ) (l : Line) → plain_line_in text ≡ Some l → HasPlainText l × (line_text l ≡ text)
plain_line_is text l e =
    let a = bound (line_in text) plain l e in
    branch (is_block a.value) None (Some a.value) l a.gives (λ t e. never l e) (λ t e.
    let same : a.value ≡ l = cc in
    let k = log_line_is text a.value a.is in
    subst (λ (l : Line). HasPlainText l × (line_text l ≡ text)) same ((k.0, t), k.1))
