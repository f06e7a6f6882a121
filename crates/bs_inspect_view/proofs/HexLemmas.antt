-- The digits of a number, one after another.
use Rattle.std.proofs.Common.{◌≡◌, ℕ, ◌+◌, ◌*◌, Bool, List, [], ◌∷◌, ◌++◌, length, map, ap, sym, ◌∙◌, append_assoc, zero-add}
use Rattle.std.specs.List.{range_with_len}
use Rattle.std.proofs.lemmas.List.FromFn.{map-range_with_len_more}
use Rattle.bs_inspect_view.specs.Values.{four_bits, hex_digit, zeros_for}

abbrev pub digit : List Bool → ℕ → ℕ
digit bits k = hex_digit (four_bits (zeros_for (length bits)) bits (4 * k))

pub digit_more : (bits : List Bool) (old before after : List ℕ) (k : ℕ) → before ≡ old ++ map (digit bits) (range_with_len 0 k) →
    after ≡ before ++ digit bits k ∷ [] → after ≡ old ++ map (digit bits) (range_with_len 0 (k + 1))
digit_more bits old before after k e f =
    f ∙ (ap (λ (t : List ℕ). t ++ digit bits k ∷ []) e
    ∙ (append_assoc old (map (digit bits) (range_with_len 0 k)) (digit bits k ∷ [])
    ∙ ap (λ (t : List ℕ). old ++ t) (sym (map-range_with_len_more (digit bits) 0 k k (zero-add k)))))
