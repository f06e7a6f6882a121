-- Lines, one after another.
use Rattle.std.proofs.Common.{◌≡◌, ℕ, ◌<◌, ◌+◌, List, [], ◌∷◌, ◌++◌, length, map, take, get_or, ap, sym, ◌∙◌, append_assoc}
use Rattle.std.specs.Borrow.{Bor}
use Rattle.std.specs.List.{flat_map}
use Rattle.std.proofs.lemmas.Grind.{flat_map-append}
use Rattle.std.proofs.lemmas.List.{take_more, append-nil, length-map}
use Rattle.bs_inspect_signature.specs.Mixed.{mixed_items}
use Rattle.bs_inspect_signature.specs.Proposal.{mixed_lines, xor_line}

pieces_more : {X : Type 0} (f : X → List ℕ) (xs : List X) (old before after : List ℕ) (i : ℕ) (d : X) → i < length xs →
    before ≡ old ++ flat_map f (take i xs) → after ≡ before ++ f (get_or xs i d) → after ≡ old ++ flat_map f (take (i + 1) xs)
pieces_more {X} f xs old before after i d lt e goes =
    let more : flat_map f (take (i + 1) xs) ≡ flat_map f (take i xs) ++ f (get_or xs i d) =
    ap (flat_map f) (take_more xs i d lt)
    ∙ (flat_map-append f (take i xs) (get_or xs i d ∷ []) ∙ ap (λ (t : List ℕ). flat_map f (take i xs) ++ t) (append-nil (f (get_or xs i d)))) in
    goes
    ∙ (ap (λ (t : List ℕ). t ++ f (get_or xs i d)) e
    ∙ (append_assoc old (flat_map f (take i xs)) (f (get_or xs i d)) ∙ ap (λ (t : List ℕ). old ++ t) (sym more)))

pub piece_more : (f : ℕ → List ℕ) (xs : List ℕ) (old before after : List ℕ) (i d : ℕ) → i < length xs → before ≡ old ++ flat_map f (take i xs) →
    after ≡ before ++ f (get_or xs i d) → after ≡ old ++ flat_map f (take (i + 1) xs)
piece_more f xs old before after i d lt e goes = pieces_more f xs old before after i d lt e goes

pub xor_more : (keys : List (List ℕ)) (items : List (List ℕ)) (old before after : List ℕ) (i : ℕ) (d : List ℕ) → i < length items →
    before ≡ old ++ flat_map (xor_line keys) (take i items) → after ≡ before ++ xor_line keys (get_or items i d) →
    after ≡ old ++ flat_map (xor_line keys) (take (i + 1) items)
xor_more keys items old before after i d lt e goes = pieces_more (xor_line keys) items old before after i d lt e goes

-- the lines of the items that are mixed
pub mixed_as : (keys : List (Bor (List ℕ))) (items : List (List ℕ)) (count : ℕ) (text : List ℕ) → items ≡ mixed_items (length keys) count →
    text ≡ flat_map (xor_line (map (λ s. s.now) keys)) items → text ≡ mixed_lines (map (λ s. s.now) keys) count
mixed_as keys items count text e says =
    let now : List (List ℕ) = map (λ (s : Bor (List ℕ)). s.now) keys in
    let wide : length keys ≡ length now = sym (length-map keys (λ (s : Bor (List ℕ)). s.now)) in
    says ∙ ap (flat_map (xor_line now)) (e ∙ ap (λ (n : ℕ). mixed_items n count) wide)

-- lines by the same keys
pub lines_as : (ks keys : List (List ℕ)) (count : ℕ) (text : List ℕ) → ks ≡ keys → text ≡ mixed_lines ks count → text ≡ mixed_lines keys count
lines_as ks keys count text e is = is ∙ ap (λ (k : List (List ℕ)). mixed_lines k count) e
