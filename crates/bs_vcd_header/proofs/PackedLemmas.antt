-- The number of an identifier code, byte by byte.
use Rattle.std.proofs.Common.{◌≡◌, ℕ, suc, zero, ◌<◌, ◌≤◌, ◌+◌, ◌*◌, ◌^◌, Bool, true, false, cond, nat_lt, Some, None, List, [], ◌∷◌, length, drop, get_or, fold, refl, arith, ap, sym, ◌∙◌}
use Rattle.std.proofs.lemmas.Bool.{ltb-true, ltb-false}
use Rattle.bs_vcd_header.specs.Words.{packed, if_small}

-- the number that bytes stand for behind those of n
abbrev pub after : ℕ → List ℕ → ℕ
after n text = fold (λ n b. 256 * n + b) n text

grows : (n : ℕ) (text : List ℕ) → n ≤ after n text
grows n [] = omega arith
grows n (b ∷ bs) = omega (arith, grows (256 * n + b) bs)

grows_at : (n : ℕ) (text : List ℕ) (i : ℕ) → i < length text → 256 * n + get_or text i 0 ≤ after n (drop i text)
grows_at n [] i h = absurd (omega arith)
grows_at n (b ∷ bs) zero h = grows (256 * n + b) bs
grows_at n (b ∷ bs) (suc i) h = grows_at n bs i (omega arith)

pub one_more : (n : ℕ) (text : List ℕ) (i : ℕ) → i < length text → after (256 * n + get_or text i 0) (drop (suc i) text) ≡ after n (drop i text)
one_more n [] i h = absurd (omega arith)
one_more n (b ∷ bs) zero h = refl
one_more n (b ∷ bs) (suc i) h = one_more n bs i (omega arith)

pub too_large : (n : ℕ) (text : List ℕ) (i : ℕ) → i < length text → after n (drop i text) ≡ packed text →
    2 ^ 64 ≤ 256 * n + get_or text i 0 → None ≡ if_small (packed text)
too_large n text i h whole large = by (nat_lt (packed text) (2 ^ 64)) refl
  where
    by : (b : Bool) → nat_lt (packed text) (2 ^ 64) ≡ b → None ≡ cond b (Some (packed text)) None
    by false e = refl
    by true e = absurd (omega (arith, ltb-true (packed text) (2 ^ 64) e, grows_at n text i h, whole))

none_left : (i : ℕ) (text : List ℕ) → length text ≤ i → drop i text ≡ []
none_left zero [] h = refl
none_left zero (b ∷ bs) h = absurd (omega arith)
none_left (suc i) [] h = refl
none_left (suc i) (b ∷ bs) h = none_left i bs (omega arith)

pub all_read : (n : ℕ) (text : List ℕ) (i : ℕ) → length text ≤ i → after n (drop i text) ≡ packed text → n < 2 ^ 64 → Some n ≡ if_small (packed text)
all_read n text i h whole small =
    let no_more : drop i text ≡ [] = none_left i text h in
    let same : n ≡ packed text = ap (after n) (sym no_more) ∙ whole in
    rw (← same) (by (nat_lt n (2 ^ 64)) refl)
  where
    by : (b : Bool) → nat_lt n (2 ^ 64) ≡ b → Some n ≡ cond b (Some n) None
    by true e = refl
    by false e = absurd (omega (arith, ltb-false n (2 ^ 64) e, small))
