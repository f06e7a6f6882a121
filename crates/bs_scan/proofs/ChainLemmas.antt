-- A chain as a list of bits that begins at some place and goes on at the first.
use Rattle.std.proofs.Common.{◌≡◌, ℕ, suc, zero, ◌<◌, ◌+◌, Bool, false, List, [], ◌∷◌, ◌++◌, length, take, drop, set, get_or, refl, arith, ap, sym}
use Rattle.std.proofs.Common.{◌∙◌, ◌⊎◌, inl, inr, append-nil, append_assoc, length-append, add-one}
use Rattle.std.proofs.lemmas.List.{take-append-drop}
use Rattle.bs_scan.specs.Chain.{ShiftsOut, FullShiftsUnload}

drop_first : (bs : List Bool) (f : ℕ) → f < length bs → drop f bs ≡ get_or bs f false ∷ drop (suc f) bs
drop_first [] f h = absurd (omega arith)
drop_first (b ∷ bs) zero h = refl
drop_first (b ∷ bs) (suc f) h = drop_first bs f (omega arith)

take_written : (bs : List Bool) (f : ℕ) (s : Bool) → f < length bs → take (suc f) (set bs f s) ≡ take f bs ++ s ∷ []
take_written [] f s h = absurd (omega arith)
take_written (b ∷ bs) zero s h = refl
take_written (b ∷ bs) (suc f) s h = ap (λ t. b ∷ t) (take_written bs f s (omega arith))

drop_written : (bs : List Bool) (f : ℕ) (s : Bool) → f < length bs → drop (suc f) (set bs f s) ≡ drop (suc f) bs
drop_written [] f s h = absurd (omega arith)
drop_written (b ∷ bs) zero s h = refl
drop_written (b ∷ bs) (suc f) s h = drop_written bs f s (omega arith)

drop_none : (bs : List Bool) (n : ℕ) → n ≡ length bs → drop n bs ≡ []
drop_none [] zero h = refl
drop_none [] (suc n) h = refl
drop_none (b ∷ bs) zero h = absurd (omega arith)
drop_none (b ∷ bs) (suc n) h = drop_none bs n (omega arith)

-- the same wherever the bits are cut
front_last : (bs : List Bool) (f : ℕ) (s : Bool) → f < length bs →
    (drop f bs ++ take f bs) ++ s ∷ [] ≡ get_or bs f false ∷ (drop (suc f) (set bs f s) ++ take (suc f) (set bs f s))
front_last bs f s h =
    append_assoc (drop f bs) (take f bs) (s ∷ [])
    ∙ (ap (λ t. t ++ (take f bs ++ s ∷ [])) (drop_first bs f h)
    ∙ (ap (λ t. get_or bs f false ∷ (t ++ (take f bs ++ s ∷ []))) (sym (drop_written bs f s h))
    ∙ ap (λ t. get_or bs f false ∷ (drop (suc f) (set bs f s) ++ t)) (sym (take_written bs f s h))))

wrapped : (bs : List Bool) (n : ℕ) → n ≡ length bs → drop n bs ++ take n bs ≡ drop 0 bs ++ take 0 bs
wrapped bs n e =
    let none : drop n bs ≡ [] = drop_none bs n e in
    let all : take n bs ≡ bs = sym (append-nil (take n bs)) ∙ (ap (λ t. take n bs ++ t) (sym none) ∙ take-append-drop n bs) in
    ap (λ t. t ++ take n bs) none ∙ (all ∙ sym (append-nil bs))

pub shifted : (chain bs new : List Bool) (f next : ℕ) (s out : Bool) → f < length bs → chain ≡ drop f bs ++ take f bs → out ≡ get_or bs f false →
    new ≡ set bs f s →
    ((next ≡ f + 1) × (f + 1 < length new)) ⊎ ((next ≡ 0) × (f + 1 ≡ length new)) →
    chain ++ s ∷ [] ≡ out ∷ (drop next new ++ take next new)
shifted chain bs new f next s out h e o w (inl p) =
    rw (e, o, w, p.0, add-one) (front_last bs f s h)
shifted chain bs new f next s out h e o w (inr p) =
    let whole : suc f ≡ length (set bs f s) = omega (arith, p.1, ap length w) in
    rw (e, o, w, p.0) (front_last bs f s h ∙ ap (λ t. get_or bs f false ∷ t) (wrapped (set bs f s) (suc f) whole))

pub turned_length : (chain bs : List Bool) (f : ℕ) → chain ≡ drop f bs ++ take f bs → length chain ≡ length bs
turned_length chain bs f e =
    let parts : length (take f bs) + length (drop f bs) ≡ length bs = sym (length-append (take f bs) (drop f bs)) ∙ ap length (take-append-drop f bs) in
    omega (arith, parts, ap length e, length-append (drop f bs) (take f bs))

-- ---- a full shift

through : (chain ins outs after : List Bool) → ShiftsOut chain ins outs after → chain ++ ins ≡ outs ++ after
through chain [] [] after h = append-nil chain ∙ h
through chain [] (o ∷ os) after h = absurd h
through chain (i ∷ is) [] after h = absurd h
through chain (i ∷ is) (o ∷ os) after h =
    sym (append_assoc chain (i ∷ []) is) ∙ (ap (λ t. t ++ is) h.1 ∙ ap (λ t. o ∷ t) (through h.0 is os after h.2))

as_many : (chain ins outs after : List Bool) → ShiftsOut chain ins outs after → length outs ≡ length ins
as_many chain [] [] after h = refl
as_many chain [] (o ∷ os) after h = absurd h
as_many chain (i ∷ is) [] after h = absurd h
as_many chain (i ∷ is) (o ∷ os) after h = ap suc (as_many h.0 is os after h.2)

pub parts : (a b c d : List Bool) → length a ≡ length c → a ++ b ≡ c ++ d → (c ≡ a) × (d ≡ b)
parts [] b [] d n e = (refl, sym e)
parts [] b (x ∷ c) d n e = absurd (omega (arith, n))
parts (x ∷ a) b [] d n e = absurd (omega (arith, n))
parts (x ∷ a) b (y ∷ c) d n e =
    let head : y ≡ x = cc in
    let tail : a ++ b ≡ c ++ d = cc in
    let rest = parts a b c d (omega (arith, n)) tail in
    (ap (λ z. z ∷ c) head ∙ ap (λ t. x ∷ t) rest.0, rest.1)

pub full_shifts_unload : FullShiftsUnload
full_shifts_unload chain ins outs after same h =
    parts chain ins outs after (sym (as_many chain ins outs after h ∙ same)) (through chain ins outs after h)
