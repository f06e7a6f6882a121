-- A text that grows keeps the bytes that it had.
use Rattle.std.proofs.Common.{◌≡◌, ◌<◌, ◌≤◌, ◌^◌, arith, ℕ, List, [], ◌∷◌, ◌++◌, length, take, refl, sym, ap, ◌∙◌}
use Rattle.std.proofs.lemmas.List.{append-nil, append_assoc}
use Rattle.std.specs.Prelude.{OnErr, Result, Ok, Err}
use Rattle.std.specs.Fmt.{decimal}
use Rattle.std.proofs.lemmas.Fmt.{length-decimal-le}
use Rattle.bs_log.specs.Writing.{Keeps}

pub keeps_same : (old new : List ℕ) → new ≡ old → Keeps old new
keeps_same old new same = record { more = []; is = same ∙ sym (append-nil old) }

-- behind a piece
pub keeps_after : (old mid new piece : List ℕ) → mid ≡ old ++ piece → Keeps mid new → Keeps old new
keeps_after old mid new piece is kept = record { more = piece ++ kept.more; is = kept.is ∙ ap (λ m. m ++ kept.more) is ∙ append_assoc old piece kept.more }

pub keeps_piece : (old mid new piece : List ℕ) → mid ≡ old ++ piece → new ≡ mid → Keeps old new
keeps_piece old mid new piece is same = record { more = piece; is = same ∙ is }

-- the old bytes are the first
pub cut_back : (old new : List ℕ) → Keeps old new → take (length old) new ≡ old
cut_back old new kept = ap (take (length old)) kept.is ∙ front old kept.more
  where
    front : (bytes more : List ℕ) → take (length bytes) (bytes ++ more) ≡ bytes
    front [] more = refl
    front (b ∷ bs) more = ap (λ r. b ∷ r) (front bs more)

-- a fact, where a result is an error
pub on_err : {T E : Type 0} (r : Result T E) (X : Type 0) → X → OnErr r X
on_err (Ok t) X x = tt
on_err (Err e) X x = x

-- a variable has at most ten digits
pub few_digits : (n : ℕ) → n < 2 ^ 30 → length (decimal n) ≤ 10
few_digits n small = length-decimal-le 10 n (omega arith) (omega (arith, small)) (omega (arith, small))
