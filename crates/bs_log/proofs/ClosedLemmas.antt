-- The clauses that turn steps off, one more.
use Rattle.std.proofs.Common.{◌≡◌, ℕ, suc, ◌+◌, arith, List, [], ◌∷◌, ◌++◌, map, sym, ap, ◌∙◌}
use Rattle.std.specs.List.{flat_map, range_with_len}
use Rattle.std.proofs.lemmas.List.{append-nil, append_assoc, map-append}
use Rattle.std.proofs.lemmas.Grind.{flat_map-append}
use Rattle.bs_bits.proofs.RangeLemmas.{range_more}
use Rattle.bs_log.specs.Clauses.{clause_text, closed_from, off}

pub closed_texts_more : (vars first i : ℕ) (start before after : List ℕ) → before ≡ start ++ flat_map clause_text (closed_from vars first i) →
    after ≡ before ++ clause_text (off vars (first + i) ∷ []) → after ≡ start ++ flat_map clause_text (closed_from vars first (i + 1))
closed_texts_more vars first i start before after texts new =
    let next : i + 1 ≡ suc i = omega arith in
    let own : List ℕ = clause_text (off vars (first + i) ∷ []) in
    new
    ∙ (ap (λ t. t ++ own) texts
    ∙ (append_assoc start (flat_map clause_text (closed_from vars first i)) own
    ∙ ap (λ t. start ++ t)
    (ap (λ t. flat_map clause_text (closed_from vars first i) ++ t) (sym (append-nil own))
    ∙ (sym (flat_map-append clause_text (closed_from vars first i) ((off vars (first + i) ∷ []) ∷ []))
    ∙ ap (flat_map clause_text)
    (sym (map-append (λ step. off vars step ∷ []) (range_with_len first i) ((first + i) ∷ []))
    ∙ (ap (map (λ step. off vars step ∷ [])) (sym (range_more first i)) ∙ ap (λ n. closed_from vars first n) (sym next)))))))
