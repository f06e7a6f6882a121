-- Digits, one by one.
use Rattle.std.proofs.Common.{◌≡◌, ℕ, suc, ◌<◌, ◌≤◌, ◌+◌, ◌-◌, ◌/◌, ◌%◌, ◌==◌, Bool, List, [], ◌∷◌, ◌++◌, length, drop, get_or, refl, ap, sym, ◌∙◌, append_assoc, arith}
use Rattle.std.proofs.lemmas.List.{append-nil, drop_all, drop_more}
use Rattle.bs_inspect_seen.specs.declared.value.Base.{Base}
use Rattle.bs_inspect_seen.specs.Value.{binary, digit_bits, digits_bits}

-- no digit yet
pub binary_none : (bits : List Bool) (count n : ℕ) → bits ++ binary (count - 0) n ≡ bits ++ binary count n
binary_none bits count n = let same : count - 0 ≡ count = omega arith in ap (λ (k : ℕ). bits ++ binary k n) same

-- a digit more
pub binary_more : (old before : List Bool) (count i n left : ℕ) → i < count → before ++ binary (count - i) left ≡ old ++ binary count n →
    (before ++ (left % 2 == 1) ∷ []) ++ binary (count - (i + 1)) (left / 2) ≡ old ++ binary count n
binary_more old before count i n left lt e =
    let next : count - i ≡ suc (count - (i + 1)) = omega (arith, lt) in
    append_assoc before ((left % 2 == 1) ∷ []) (binary (count - (i + 1)) (left / 2))
    ∙ (ap (λ (k : ℕ). before ++ binary k left) (sym next) ∙ e)

pub binary_end : (old before : List Bool) (count i n left : ℕ) → count ≤ i → before ++ binary (count - i) left ≡ old ++ binary count n →
    before ≡ old ++ binary count n
binary_end old before count i n left le e =
    let none : count - i ≡ 0 = omega (arith, le) in
    sym (append-nil before) ∙ (ap (λ (k : ℕ). before ++ binary k left) (sym none) ∙ e)

-- no digit yet
pub digits_none : (base : Base) (digits : List ℕ) (n : ℕ) → n ≡ length digits → [] ≡ digits_bits base (drop n digits)
digits_none base digits n e = sym (ap (digits_bits base) (drop_all n digits (omega (arith, e))))

-- a digit more, before the others
pub digits_more : (base : Base) (digits : List ℕ) (before after : List Bool) (left d : ℕ) → 0 < left → left ≤ length digits →
    before ≡ digits_bits base (drop left digits) → after ≡ before ++ digit_bits base (get_or digits (left - 1) d) →
    after ≡ digits_bits base (drop (left - 1) digits)
digits_more base digits before after left d some le e f =
    let next : left ≡ (left - 1) + 1 = omega (arith, some) in
    let lt : left - 1 < length digits = omega (arith, some, le) in
    f
    ∙ (ap (λ (t : List Bool). t ++ digit_bits base (get_or digits (left - 1) d)) (e ∙ ap (λ (k : ℕ). digits_bits base (drop k digits)) next)
    ∙ sym (ap (digits_bits base) (drop_more digits (left - 1) d lt)))

-- all digits
pub digits_all : (base : Base) (digits : List ℕ) (bits : List Bool) (left : ℕ) → left ≤ 0 → bits ≡ digits_bits base (drop left digits) →
    bits ≡ digits_bits base digits
digits_all base digits bits left le e = let none : left ≡ 0 = omega (arith, le) in e ∙ ap (λ (k : ℕ). digits_bits base (drop k digits)) none
