-- The hash of a state: a number that equal states share, and other states hardly ever.
use Rattle.std.specs.Prelude.{◌≡◌, ℕ, ◌<◌, ◌+◌, ◌*◌, ◌%◌, ◌^◌, Bool, List, length, fold, slice_index_or, if◌then◌else◌}
use Rattle.bs_chip.specs.declared.hashes.TheConstants.{HASH_FACTOR}

-- a hash with one bit more
unfoldable pub hash_more : ℕ → Bool → ℕ
hash_more hash bit = ((hash * HASH_FACTOR) % 2 ^ 64 + (if bit then 1 else 0)) % 2 ^ 64

abbrev pub hash_of : List Bool → ℕ
hash_of bits = fold hash_more 0 bits

-- a list has, for each number below a count, what a function gives of it
pub record ListsEach (of : ℕ → ℕ) (list : List ℕ) (count : ℕ) : Type 0 where
  pub size : length list ≡ count
  pub each : (n : ℕ) → n < count → slice_index_or list n 0 ≡ of n
