-- A list or a text after one piece more.
use Rattle.std.proofs.Common.{◌≡◌, ◌<◌, ◌+◌, ◌++◌, ◌∷◌, [], ℕ, List, length, map, take, get_or, ap, sym, ◌∙◌}
use Rattle.std.specs.List.{flat_map}
use Rattle.std.proofs.lemmas.List.{flat_map_more, map_more, take_more}

pub one_more_piece : {X : Type 0} (f : X → List ℕ) (xs : List X) (k : ℕ) (d x : X) (old mid new : List ℕ) → k < length xs → x ≡ get_or xs k d →
    mid ≡ old ++ flat_map f (take k xs) → new ≡ mid ++ f x → new ≡ old ++ flat_map f (take (k + 1) xs)
one_more_piece f xs k d x old mid new lt is e put =
    put
    ∙ (ap (λ t. t ++ f x) e
    ∙ (flat_map_more f old (take k xs) x ∙ ap (λ ys. old ++ flat_map f ys) (ap (λ y. take k xs ++ y ∷ []) is ∙ sym (take_more xs k d lt))))

pub one_more : {X Y : Type 0} (f : X → Y) (xs : List X) (k : ℕ) (d x : X) (mid new : List Y) → k < length xs → x ≡ get_or xs k d →
    mid ≡ map f (take k xs) → new ≡ mid ++ f x ∷ [] → new ≡ map f (take (k + 1) xs)
one_more f xs k d x mid new lt is e put =
    put ∙ (ap (λ ys. ys ++ f x ∷ []) e ∙ (ap (λ y. map f (take k xs) ++ f y ∷ []) is ∙ sym (map_more f xs k d lt)))
