-- The lane of a run, bit by bit.
use Rattle.std.proofs.Common.{◌≡◌, ℕ, ◌<◌, ◌≤◌, ◌+◌, ◌*◌, ◌/◌, ◌%◌, ◌^◌, Bool, false, List, length, get_or, set, refl, arith, ap, ap₂, sym, subst}
use Rattle.std.proofs.Common.{◌∙◌, ⊎_elim, length-set, get_or-set_same, get_or-set_other}
use Rattle.std.specs.Prelude.{◌==◌}
use Rattle.std.specs.Int.Bits.{bit_and}
use Rattle.std.proofs.lemmas.Bool.{cases_eq}
use Rattle.std.proofs.lemmas.List.FromFn.{fill_by_all}
use Rattle.bs_stim.specs.Packing.{bit_in}
use Rattle.bs_stim.proofs.PackingLemmas.{bit_read}
use Rattle.bs_lanes.specs.Planes.{lane, bit_place}

pub bit_of_word : (words : List ℕ) (at low : ℕ) → low < 64 → (bit_and (get_or words at 0 / 2 ^ low) 1 == 1) ≡ bit_in words (at * 64 + low)
bit_of_word words at low small =
    let q : (at * 64 + low) / 64 ≡ at = omega (arith, small) in
    let r : (at * 64 + low) % 64 ≡ low = omega (arith, small) in
    ap₂ (λ i j. bit_and (get_or words i 0 / 2 ^ j) 1 == 1) (sym q) (sym r) ∙ bit_read words (at * 64 + low)

pub place_of : (wide i r : ℕ) → (i * wide + r / 64) * 64 + r % 64 ≡ bit_place wide i r
place_of wide i r = omega arith

-- so many bits of a lane are read
pub record LaneRead (wide : ℕ) (words : List ℕ) (r : ℕ) (old new : List Bool) (i : ℕ) : Type 0 where
  pub size : length new ≡ length old
  pub done : (k : ℕ) → k < i → k < length old → get_or new k false ≡ bit_in words (bit_place wide k r)

pub none_read : (wide : ℕ) (words : List ℕ) (r : ℕ) (old : List Bool) → LaneRead wide words r old old 0
none_read wide words r old = record { size = refl; done = λ k lt small. absurd (omega (arith, lt)) }

pub one_more_read : (wide : ℕ) (words : List ℕ) (r : ℕ) (old mid : List Bool) (i : ℕ) (bit : Bool) → i < length old →
    bit ≡ bit_in words ((i * wide + r / 64) * 64 + r % 64) → LaneRead wide words r old mid i → LaneRead wide words r old (set mid i bit) (i + 1)
one_more_read wide words r old mid i bit lt e h =
    let here : bit ≡ bit_in words (bit_place wide i r) = e ∙ ap (bit_in words) (place_of wide i r) in
    record {
      size = length-set mid i bit ∙ h.size;
      done = λ k less small.
          ⊎_elim
          (λ (same : k ≡ i).
          let P : ℕ → Type 0 = λ n. get_or (set mid i bit) n false ≡ bit_in words (bit_place wide n r) in
          subst P (sym same) (get_or-set_same mid i bit false (omega (arith, lt, h.size)) ∙ here))
          (λ (other : k ≡ i → ⊥). get_or-set_other mid i k bit false other ∙ h.done k (omega (arith, less, other)) small)
          (cases_eq k i);
    }

pub all_read : (wide : ℕ) (words : List ℕ) (r : ℕ) (old new : List Bool) (i : ℕ) → length old ≤ i → LaneRead wide words r old new i →
    new ≡ lane wide (length old) words r
all_read wide words r old new i le h =
    fill_by_all (λ k. bit_in words (bit_place wide k r)) new (length old) false h.size (λ k lt. h.done k (omega (arith, lt, le)) lt)
