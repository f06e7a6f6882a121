-- Flip-flops by their output nets.
use Rattle.std.proofs.Common.{◌≡◌, ℕ, suc, zero, ◌<◌, ◌≤◌, ◌+◌, Bool, true, false, not, cond, List, [], ◌∷◌, ◌++◌, length, take, set, get_or}
use Rattle.std.proofs.Common.{replicate, refl, arith, ap, sym, ◌∙◌, Option, Some, None, add-one, length-append}
use Rattle.std.specs.Prelude.{◌==◌, nat_lt, is_none}
use Rattle.std.specs.List.{position, position_or_len}
use Rattle.std.proofs.lemmas.Bool.{eqb-true, eqb-false, eq-eqb, ne_eqb, lt-ltb, le-ltb, ltb-true, ltb-false}
use Rattle.std.proofs.lemmas.List.{get_or-set_same, get_or-set_other, length-set}
use Rattle.std.proofs.lemmas.List.Folds.{position_or_len_push}
use Rattle.std.proofs.lemmas.List.Sums.{prefix_len-le-length}
use Rattle.std.proofs.lemmas.List.Quantifiers.{position-Some}
use Rattle.bs_net.specs.declared.net.Flop.{Flop}
use Rattle.bs_scan.specs.ChoiceText.{flop_of_net}
use Rattle.bs_scan.specs.Reading.{noted}

abbrev or_else : Option ℕ → Option ℕ → Option ℕ
or_else (Some x) o = Some x
or_else None o = o

-- the first place in a list with one member more
position_push : {X : Type 0} (p : X → Bool) (xs : List X) (x : X) → position p (xs ++ x ∷ []) ≡ or_else (position p xs) (cond (p x) (Some (length xs)) None)
position_push {X} p xs x = by (nat_lt (position_or_len p xs) (length xs)) refl
  where
    longer : length (xs ++ x ∷ []) ≡ length xs + 1
    longer = length-append xs (x ∷ [])

    by : (b : Bool) → nat_lt (position_or_len p xs) (length xs) ≡ b →
        position p (xs ++ x ∷ []) ≡ or_else (cond b (Some (position_or_len p xs)) None) (cond (p x) (Some (length xs)) None)
    by true e =
        let lt : position_or_len p xs < length xs = ltb-true _ _ e in
        let here : position_or_len p (xs ++ x ∷ []) ≡ position_or_len p xs =
        position_or_len_push p xs x
        ∙ ap (λ z. cond z (length xs + cond (p x) 0 1) (position_or_len p xs)) (ne_eqb _ _ (λ (q : position_or_len p xs ≡ length xs). omega (arith, q, lt))) in
        rw (here, lt-ltb (position_or_len p xs) (length (xs ++ x ∷ [])) (omega (arith, longer, lt))) refl
    by false e =
        let le : length xs ≤ position_or_len p xs = ltb-false _ _ e in
        let all : position_or_len p xs ≡ length xs = omega (arith, le, prefix_len-le-length (λ x. not (p x)) xs) in
        let here : position_or_len p (xs ++ x ∷ []) ≡ length xs + cond (p x) 0 1 =
        position_or_len_push p xs x ∙ ap (λ z. cond z (length xs + cond (p x) 0 1) (position_or_len p xs)) (eq-eqb _ _ all) in
        rw here (last (p x))
      where
        last : (z : Bool) → cond (nat_lt (length xs + cond z 0 1) (length (xs ++ x ∷ []))) (Some (length xs + cond z 0 1)) None ≡ cond z (Some (length xs)) None
        last true =
            let plus : length xs + 0 ≡ length xs = omega arith in
            rw (plus, lt-ltb (length xs) (length (xs ++ x ∷ [])) (omega (arith, longer))) refl
        last false = rw (le-ltb (length xs + 1) (length (xs ++ x ∷ [])) (omega (arith, longer))) refl

take_push : {X : Type 0} (xs : List X) (i : ℕ) (d : X) → i < length xs → take (suc i) xs ≡ take i xs ++ get_or xs i d ∷ []
take_push [] i d h = absurd (omega arith)
take_push (x ∷ xs) zero d h = refl
take_push (x ∷ xs) (suc i) d h = ap (λ t. x ∷ t) (take_push xs i d (omega arith))

length_front : {X : Type 0} (xs : List X) (i : ℕ) → i < length xs → length (take i xs) ≡ i
length_front [] i h = absurd (omega arith)
length_front (x ∷ xs) zero h = refl
length_front (x ∷ xs) (suc i) h = ap suc (length_front xs i (omega arith))

or_none : (o : Option ℕ) → o ≡ or_else o None
or_none None = refl
or_none (Some x) = refl

same_net : (t : List (Option ℕ)) (n i : ℕ) → n < length t → (o : Option ℕ) → get_or t n None ≡ o →
    get_or (cond (is_none o) (set t n (Some i)) t) n None ≡ or_else o (Some i)
same_net t n i h None f = get_or-set_same t n (Some i) None h
same_net t n i h (Some x) f = f

other_net : (t : List (Option ℕ)) (q n i : ℕ) → (n ≡ q → ⊥) → (b : Bool) → get_or (cond b (set t q (Some i)) t) n None ≡ get_or t n None
other_net t q n i apart true = get_or-set_other t q n (Some i) None apart
other_net t q n i apart false = refl

-- what a table has at a net after a flip-flop is noted
noted_at : (t : List (Option ℕ)) (q i n : ℕ) → n < length t → get_or (noted t q i) n None ≡ or_else (get_or t n None) (cond (q == n) (Some i) None)
noted_at t q i n h = by (q == n) refl
  where
    by : (z : Bool) → (q == n) ≡ z → get_or (noted t q i) n None ≡ or_else (get_or t n None) (cond z (Some i) None)
    by true z =
        let here : q ≡ n = eqb-true _ _ z in
        rw here (same_net t n i h (get_or t n None) refl)
    by false z = other_net t q n i (λ (e : n ≡ q). eqb-false _ _ z (sym e)) (is_none (get_or t q None)) ∙ or_none (get_or t n None)

-- one flip-flop more is noted
pub noted_step : (flops : List Flop) (i : ℕ) (d : Flop) (t : List (Option ℕ)) (m : ℕ) → i < length flops → length t ≡ m →
    ((n : ℕ) → n < m → get_or t n None ≡ flop_of_net (take i flops) n) → (n : ℕ) → n < m →
    get_or (noted t (get_or flops i d).q.0 i) n None ≡ flop_of_net (take (i + 1) flops) n
noted_step flops i d t m lt all so n h =
    let flop : Flop = get_or flops i d in
    let front : take (i + 1) flops ≡ take i flops ++ flop ∷ [] = rw add-one (take_push flops i d lt) in
    let grown : flop_of_net (take (i + 1) flops) n ≡ or_else (get_or t n None) (cond (flop.q.0 == n) (Some i) None) =
    ap (λ fs. flop_of_net fs n) front
    ∙ (position_push (λ f. f.q.0 == n) (take i flops) flop
    ∙ (ap (λ k. or_else (flop_of_net (take i flops) n) (cond (flop.q.0 == n) (Some k) None)) (length_front flops i lt)
    ∙ ap (λ o. or_else o (cond (flop.q.0 == n) (Some i) None)) (sym (so n h)))) in
    noted_at t flop.q.0 i n (omega (arith, h, all)) ∙ sym grown

pub length_noted : (t : List (Option ℕ)) (n flop : ℕ) → length (noted t n flop) ≡ length t
length_noted t n flop = by (is_none (get_or t n None))
  where
    by : (b : Bool) → length (cond b (set t n (Some flop)) t) ≡ length t
    by true = length-set t n (Some flop)
    by false = refl

-- nothing is noted before the first
abbrev pub nothing : Option ℕ
nothing = None

pub none_noted : (m n : ℕ) → get_or (replicate m nothing) n nothing ≡ nothing
none_noted zero n = refl
none_noted (suc m) zero = refl
none_noted (suc m) (suc n) = none_noted m n

-- the flip-flop that is found is one
pub flop_within : (flops : List Flop) (n flop : ℕ) (some : Flop) → flop_of_net flops n ≡ Some flop → flop < length flops
flop_within flops n flop some e = (position-Some (λ f. f.q.0 == n) flops flop some e).0
