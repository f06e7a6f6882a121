-- What is seen of a state where some flip-flops are not known (docs/DEFINITIONS.md, "Seen").
use Rattle.std.specs.Prelude.{◌≡◌, ◌⊎◌, ℕ, Bool, true, false, ◌&&◌, List, [], ◌∷◌, length, slice_index_or, if◌then◌else◌}
use Rattle.std.specs.List.{list_any}
use Rattle.bs_bits.specs.Bits.{bits_eq}
use Rattle.bs_scan.specs.declared.seen.Seen.{Seen}

-- the items at the places that are not free; those behind the end of the list are not
abbrev pub kept : {A : Type 0} → List Bool → List A → List A
kept [] xs = xs
kept (free ∷ frees) [] = []
kept (free ∷ frees) (x ∷ xs) = if free then kept frees xs else x ∷ kept frees xs

-- an item, where its place is not free
abbrev pub kept_one : {A : Type 0} → Bool → A → List A
kept_one free x = if free then [] else x ∷ []

-- everything is known
abbrev pub whole : List Bool → Seen
whole bits = record { bits = bits; free = [] }

-- A state shows what is seen: at the known places it has these bits. Where all is known it is these bits.
abbrev pub Shows : Seen → List Bool → Type 0
Shows seen state = kept seen.free state ≡ kept seen.free seen.bits

-- whether it does
abbrev pub is_shown : Seen → List Bool → Bool
is_shown seen state = bits_eq (kept seen.free state) (kept seen.free seen.bits)

-- whether both see the same
abbrev pub seen_eq : Seen → Seen → Bool
seen_eq a b = bits_eq a.bits b.bits && bits_eq a.free b.free

-- how many bits are known
abbrev pub known_count : Seen → ℕ
known_count seen = length (kept seen.free seen.bits)

-- some place is free, each has a bit, and that of a free place is 0
pub record IsPartial (seen : Seen) : Type 0 where
  pub width : length seen.free ≡ length seen.bits
  pub some : list_any (λ free. free) seen.free ≡ true
  pub blank : (place : ℕ) → slice_index_or seen.free place false ≡ true → slice_index_or seen.bits place false ≡ false

-- all is known, or it is partial: then it is what its text stands for
abbrev pub IsSeen : Seen → Type 0
IsSeen seen = (seen.free ≡ []) ⊎ IsPartial seen
