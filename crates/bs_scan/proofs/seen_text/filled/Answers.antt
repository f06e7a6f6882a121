use Rattle.std.proofs.Common.{◌≡◌, ◌++◌, ◌∷◌, [], ◌∙◌, ℕ, List, ap, arith, get_or, sym}
use Rattle.std.proofs.lemmas.List.{map_more}
use Rattle.bs_scan.specs.SeenText.{filled, filled_in}
use Rattle.bs_scan.proofs.seen_text.filled.Goals as goal

pub characters-preserved : goal.characters-preserved
characters-preserved c =
    let text : List ℕ = c.args.text.now in
    let i : ℕ = c.characters.character-index in
    c.in_ok-push.ensures.items
    ∙ (ap (λ (d : ℕ). c.characters.digits.items ++ d ∷ []) c.fill.ensures
    ∙ (ap (λ (ds : List ℕ). ds ++ filled_in (get_or text i 0) ∷ []) c.characters.invariant
    ∙ sym (map_more filled_in text i 0 (omega (arith, c.characters-test.true)))))
