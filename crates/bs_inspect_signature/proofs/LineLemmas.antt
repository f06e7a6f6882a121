-- Lists, one after another.
use Rattle.std.proofs.Common.{◌≡◌, ℕ, ◌<◌, ◌+◌, List, [], ◌∷◌, ◌++◌, length, take, get_or, ap, sym, ◌∙◌, arith, append_assoc}
use Rattle.std.specs.List.{flat_map, sum_by}
use Rattle.std.proofs.lemmas.Grind.{flat_map-append}
use Rattle.std.proofs.lemmas.List.{take_more, append-nil}
use Rattle.std.proofs.lemmas.List.Sums.{sum_by-append}
use Rattle.bs_inspect_signature.specs.Lines.{list_line}
use Rattle.bs_inspect_signature.specs.MomentCount.{number_of}
use Rattle.bs_inspect_signature.specs.declared.lists.MomentCount.{MomentCount}

piece_more : {X : Type 0} (f : X → List ℕ) (xs : List X) (old before after : List ℕ) (i : ℕ) (d : X) → i < length xs →
    before ≡ old ++ flat_map f (take i xs) → after ≡ before ++ f (get_or xs i d) → after ≡ old ++ flat_map f (take (i + 1) xs)
piece_more {X} f xs old before after i d lt e goes =
    let more : flat_map f (take (i + 1) xs) ≡ flat_map f (take i xs) ++ f (get_or xs i d) =
    ap (flat_map f) (take_more xs i d lt)
    ∙ (flat_map-append f (take i xs) (get_or xs i d ∷ []) ∙ ap (λ (t : List ℕ). flat_map f (take i xs) ++ t) (append-nil (f (get_or xs i d)))) in
    goes
    ∙ (ap (λ (t : List ℕ). t ++ f (get_or xs i d)) e
    ∙ (append_assoc old (flat_map f (take i xs)) (f (get_or xs i d)) ∙ ap (λ (t : List ℕ). old ++ t) (sym more)))

pub list_more : (all : List MomentCount) (old before after : List ℕ) (i : ℕ) (d : MomentCount) → i < length all → before ≡ old ++ flat_map list_line (take i all) →
    after ≡ before ++ list_line (get_or all i d) → after ≡ old ++ flat_map list_line (take (i + 1) all)
list_more all old before after i d lt e goes = piece_more list_line all old before after i d lt e goes

pub sum_more : (all : List MomentCount) (i before n : ℕ) (d : MomentCount) → i < length all → before ≡ sum_by (λ (entry : MomentCount). number_of entry.count) (take i all) →
    n ≡ number_of (get_or all i d).count → before + n ≡ sum_by (λ (entry : MomentCount). number_of entry.count) (take (i + 1) all)
sum_more all i before n d lt e is =
    let f : MomentCount → ℕ = λ entry. number_of entry.count in
    (λ j. e j + is j)
    ∙ sym (ap (sum_by f) (take_more all i d lt) ∙ (sum_by-append f (take i all) (get_or all i d ∷ []) ∙ grind arith))
