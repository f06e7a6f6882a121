-- Worked names: of bits, vectors, words of a memory, ranges and memories.
use Rattle.std.proofs.Common.{◌≡◌, List, ℕ, Bool, true, false, refl}
use Rattle.std.specs.Prelude.{codes}
use Rattle.bs_net_names.specs.Keys.{key_parts}
use Rattle.bs_net_names.specs.Naming.{is_named}

abbrev names : List ℕ → List ℕ → Bool
names name key = is_named (key_parts key) name

word : names (codes "box[3]") (codes "[5]\\box[3]") ≡ true
word = refl

word_pasted : names (codes "\\box[3] ") (codes "[5]\\box[3]") ≡ true
word_pasted = refl

other_word : names (codes "box[2]") (codes "[5]\\box[3]") ≡ false
other_word = refl

bit_of_word : names (codes "\\box[3] [5]") (codes "[5]\\box[3]") ≡ true
bit_of_word = refl

other_bit : names (codes "box[3][4]") (codes "[5]\\box[3]") ≡ false
other_bit = refl

range_of_word : names (codes "box[3][7:4]") (codes "[5]\\box[3]") ≡ true
range_of_word = refl

range_turned : names (codes "\\box[3] [4:7]") (codes "[5]\\box[3]") ≡ true
range_turned = refl

range_past : names (codes "count[7:4]") (codes "count[3]") ≡ false
range_past = refl

memory : names (codes "box") (codes "[5]\\box[3]") ≡ true
memory = refl

bit : names (codes "count[3]") (codes "count[3]") ≡ true
bit = refl

vector : names (codes "count") (codes "count[3]") ≡ true
vector = refl
