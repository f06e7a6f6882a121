-- The key that stands at a net's place.
use Rattle.std.proofs.Common.{◌≡◌, ℕ, List, [], sym, slice_get, Some}
use Rattle.std.proofs.lemmas.Option.{get_or_from_slice_get}
use Rattle.bs_net.specs.Parts.{Parts, key_at}

-- what stands at a net's place is its key
pub key_is : (r : Parts) (n : ℕ) (key : List ℕ) → slice_get r.names n ≡ Some key → key ≡ key_at r n
key_is r n key e = sym (get_or_from_slice_get r.names n key [] e)
