-- Lists whose members are all of one length.
use Rattle.std.proofs.Common.{◌≡◌, ℕ, ◌+◌, ◌<◌, ◌≤◌, List, length, get_or, take}
use Rattle.std.specs.List.{All}
use Rattle.std.proofs.lemmas.List.{take_all}
use Rattle.std.proofs.lemmas.List.Elements.{All-more}

pub wide_more : {A : Type 0} (width : ℕ) (list : List (List A)) (i : ℕ) (item : List A) → i < length list → item ≡ get_or list i item → length item ≡ width →
    All (λ (b : List A). length b ≡ width) (take i list) → All (λ (b : List A). length b ≡ width) (take (i + 1) list)
wide_more {A = A} width list i item h is e so_far = All-more (λ (b : List A). length b ≡ width) list i item h so_far (rw (← is) e)

pub wide_all : {A : Type 0} (width : ℕ) (list : List (List A)) (i : ℕ) → length list ≤ i → All (λ (b : List A). length b ≡ width) (take i list) →
    All (λ (b : List A). length b ≡ width) list
wide_all width list i h so_far = rw (take_all i list h) at so_far
