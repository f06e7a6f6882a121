-- Modules by what they instance, each by its number: a ring of them, and those that none instances.
use Rattle.std.specs.Prelude.{◌≡◌, ℕ, zero, suc, ◌<◌, Bool, true, not, List, [], ◌∷◌, length, filter, slice_index_or, nat_eq}
use Rattle.std.specs.List.{IsDistinct, list_any, range_with_len}

-- the modules that a module instances
abbrev pub instanced_by : List (List ℕ) → ℕ → List ℕ
instanced_by below m = slice_index_or below m []

-- whether a module instances another
abbrev pub instances : List (List ℕ) → ℕ → ℕ → Bool
instances below m n = list_any (nat_eq n) (instanced_by below m)

-- each module of a list instances the next, from m on, and the last one the first; all behind m have greater numbers than the first
abbrev pub FollowFrom : List (List ℕ) → ℕ → ℕ → List ℕ → Type 0
FollowFrom below first m [] = instances below m first ≡ true
FollowFrom below first m (n ∷ ns) = (first < n) × (instances below m n ≡ true) × FollowFrom below first n ns

-- modules that instance each other in a ring: distinct, the earliest first, each instancing the next and the last one the first
abbrev pub IsRing : List (List ℕ) → List ℕ → Type 0
IsRing below [] = ⊥
IsRing below (m ∷ ns) = IsDistinct nat_eq (m ∷ ns) × FollowFrom below m m ns

-- from a module instances lead on to modules so many times
unfoldable pub leads_on : ℕ → List (List ℕ) → ℕ → Bool
leads_on zero below m = true
leads_on (suc n) below m = list_any (leads_on n below) (instanced_by below m)

-- from some module instances lead on as often as there are modules, and so come back to one
unfoldable pub has_ring : List (List ℕ) → Bool
has_ring below = list_any (leads_on (length below) below) (range_with_len 0 (length below))

-- modules that instance each other in a ring are found so
abbrev pub RingsAreFound : Type 0
RingsAreFound = (below : List (List ℕ)) (ring : List ℕ) → IsRing below ring → has_ring below ≡ true

-- whether a module of the list instances another
abbrev pub is_instanced : List (List ℕ) → ℕ → Bool
is_instanced below n = list_any (λ ns. list_any (nat_eq n) ns) below

-- the modules that none instances
abbrev pub tops : List (List ℕ) → List ℕ
tops below = filter (λ n. not (is_instanced below n)) (range_with_len 0 (length below))
