use Rattle.std.proofs.Common.{◌≡◌, ◌++◌, ◌∷◌, [], ℕ, Bool, List, map, take, get_or, false, ap, sym, ◌∙◌, append_assoc, append-nil, rules}
use Rattle.bs_bits.specs.Text.{digit_of}
use Rattle.bs_scan.specs.SeenText.{dash_or, marked}
use Rattle.bs_scan.proofs.TextLemmas.{marked_more, marked_nothing}
use Rattle.bs_scan.proofs.seen_text.push_marked.Goals as goal

pub places-init : goal.places-init
places-init c =
    sym (ap (λ (l : List ℕ). c.args.into.now.items ++ l) (marked_nothing c.args.free.now) ∙ append-nil c.args.into.now.items)

pub places-preserved : goal.places-preserved
places-preserved c =
    let fs = c.args.free.now in
    let bs = c.args.bits.now in
    let base : List ℕ = c.args.into.now.items in
    let so_far : List ℕ = marked fs (map digit_of (take c.places.i bs)) in
    let grown : c.push.new.self.items ≡ c.places.into.items ++ c.character_of.result ∷ [] = search rules in
    grown
    ∙ (ap (λ (l : List ℕ). l ++ c.character_of.result ∷ []) c.places.invariant
    ∙ (append_assoc base so_far (c.character_of.result ∷ [])
    ∙ ap (λ (l : List ℕ). base ++ l)
    (ap (λ (x : ℕ). so_far ++ x ∷ []) c.character_of.ensures
    ∙ (ap (λ (free : Bool). so_far ++ dash_or free (digit_of c.get.result) ∷ []) c.is_free_in.ensures
    ∙ (ap (λ (bit : Bool). so_far ++ dash_or (get_or fs c.places.i false) (digit_of bit) ∷ []) c.get.ensures.value
    ∙ sym (marked_more fs bs c.places.i (rw c.len-i-end.ensures at c.places-test.true)))))))
