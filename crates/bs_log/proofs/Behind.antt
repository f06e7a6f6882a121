-- The text of what stands behind the clauses.
use Rattle.std.proofs.Common.{◌≡◌, ℕ, ◌+◌, ◌-◌, List, ◌++◌, map, length, reverse, sym, ap, ◌∙◌, Result, Ok, Err}
use Rattle.std.specs.Prelude.{OnOk}
use Rattle.std.specs.List.{flat_map, range_with_len}
use Rattle.std.proofs.lemmas.List.{append_assoc, map-append}
use Rattle.std.proofs.lemmas.Grind.{flat_map-append}
use Rattle.bs_clause.specs.Literal.{Clause}
use Rattle.bs_log.specs.History.{Problem, History}
use Rattle.bs_log.specs.Refusal.{assumptions_of}
use Rattle.bs_log.specs.Refutation.{blocks_of}
use Rattle.bs_log.specs.Clauses.{clause_text, closed_from}
use Rattle.bs_log.specs.Cnf.{units, behind, closed, others}

-- the parts one behind another
texts_of : (p : Problem) (h : History) (step : ℕ) → flat_map clause_text (behind p h step) ≡
    flat_map clause_text (units (assumptions_of p step)) ++ (flat_map clause_text (reverse (blocks_of h step))
    ++ (flat_map clause_text (closed_from p.vars 1 (step - 1)) ++ flat_map clause_text (closed_from p.vars (step + 1) (length p.steps - step))))
texts_of p h step =
    flat_map-append clause_text (units (assumptions_of p step)) (reverse (blocks_of h step) ++ map (closed p) (others (length p.steps) step))
    ∙ ap (λ t. flat_map clause_text (units (assumptions_of p step)) ++ t)
    (flat_map-append clause_text (reverse (blocks_of h step)) (map (closed p) (others (length p.steps) step))
    ∙ ap (λ t. flat_map clause_text (reverse (blocks_of h step)) ++ t)
    (ap (flat_map clause_text) (map-append (closed p) (range_with_len 1 (step - 1)) (range_with_len (step + 1) (length p.steps - step)))
    ∙ flat_map-append clause_text (map (closed p) (range_with_len 1 (step - 1))) (map (closed p) (range_with_len (step + 1) (length p.steps - step)))))

four : (a b c d e : List ℕ) → (((a ++ b) ++ c) ++ d) ++ e ≡ a ++ (b ++ (c ++ (d ++ e)))
four a b c d e =
    append_assoc ((a ++ b) ++ c) d e ∙ (append_assoc (a ++ b) c (d ++ e) ∙ append_assoc a b (c ++ (d ++ e)))

on_ok : {T E X Y : Type 0} (r : Result T E) → (X → Y) → OnOk r X → OnOk r Y
on_ok (Ok t) to x = to x
on_ok (Err e) to x = tt

pub behind_joined : {T E : Type 0} (p : Problem) (h : History) (step : ℕ) (start one two three text : List ℕ) (assumed : Clause) (count : ℕ) (r : Result T E) →
    assumed ≡ assumptions_of p step → count ≡ length p.steps → one ≡ start ++ flat_map clause_text (units assumed) →
    two ≡ one ++ flat_map clause_text (reverse (blocks_of h step)) → three ≡ two ++ flat_map clause_text (closed_from p.vars 1 (step - 1)) →
    OnOk r (text ≡ three ++ flat_map clause_text (closed_from p.vars (step + 1) (count - step))) →
    OnOk r (text ≡ start ++ flat_map clause_text (behind p h step))
behind_joined p h step start one two three text assumed count r is many first second third last =
    on_ok r (λ e.
    e
    ∙ (ap (λ n. three ++ flat_map clause_text (closed_from p.vars (step + 1) (n - step))) many
    ∙ (ap (λ t. t ++ flat_map clause_text (closed_from p.vars (step + 1) (length p.steps - step)))
    (third
    ∙ ap (λ t. t ++ flat_map clause_text (closed_from p.vars 1 (step - 1)))
    (second ∙ ap (λ t. t ++ flat_map clause_text (reverse (blocks_of h step))) (first ∙ ap (λ (a : Clause). start ++ flat_map clause_text (units a)) is)))
    ∙ (four start (flat_map clause_text (units (assumptions_of p step))) (flat_map clause_text (reverse (blocks_of h step)))
    (flat_map clause_text (closed_from p.vars 1 (step - 1))) (flat_map clause_text (closed_from p.vars (step + 1) (length p.steps - step)))
    ∙ ap (λ t. start ++ t) (sym (texts_of p h step)))))) last
