-- What loops over a list append, and the first members of a list.
use Rattle.std.proofs.Common.{◌≡◌, ℕ, ◌<◌, ◌≤◌, ◌+◌, Bool, false, List, [], ◌∷◌, ◌++◌, length, map, get_or, take, zero, suc, ap, sym, ◌∙◌, arith, append_assoc}
use Rattle.std.specs.List.{All, flat_map}
use Rattle.std.specs.Prelude.{◌==◌, codes, if◌then◌else◌}
use Rattle.std.proofs.lemmas.Bool.{ne_eqb}
use Rattle.std.proofs.lemmas.Grind.{flat_map-append}
use Rattle.std.proofs.lemmas.List.{append-nil, map-append, take_all, take_more}
use Rattle.bs_inspect_view.specs.Signals.{Signal, signal_in}
use Rattle.bs_inspect_view.specs.declared.signal.Signal.{Signal as CodeSignal}

-- one member more
pub step_more : {A : Type 0} (f : A → List ℕ) (xs : List A) (i : ℕ) (d : A) (old text after : List ℕ) → i < length xs →
    text ≡ old ++ flat_map f (take i xs) → after ≡ text ++ f (get_or xs i d) → after ≡ old ++ flat_map f (take (i + 1) xs)
step_more f xs i d old text after lt e goes =
    let put : flat_map f (take (i + 1) xs) ≡ flat_map f (take i xs) ++ f (get_or xs i d) =
    ap (flat_map f) (take_more xs i d lt)
    ∙ (flat_map-append f (take i xs) (get_or xs i d ∷ []) ∙ ap (λ (t : List ℕ). flat_map f (take i xs) ++ t) (append-nil (f (get_or xs i d)))) in
    goes
    ∙ (ap (λ (t : List ℕ). t ++ f (get_or xs i d)) e
    ∙ (append_assoc old (flat_map f (take i xs)) (f (get_or xs i d)) ∙ ap (λ (t : List ℕ). old ++ t) (sym put)))

-- the same of a member that is read
pub step_item : {A : Type 0} (f : A → List ℕ) (xs : List A) (i : ℕ) (x : A) (old text after : List ℕ) → i < length xs → x ≡ get_or xs i x →
    text ≡ old ++ flat_map f (take i xs) → after ≡ text ++ f x → after ≡ old ++ flat_map f (take (i + 1) xs)
step_item f xs i x old text after lt at e goes = step_more f xs i x old text after lt e (goes ∙ ap (λ y. text ++ f y) at)

-- one signal more
pub signals_more : (f : Signal → List ℕ) (signals : List CodeSignal) (i : ℕ) (d : CodeSignal) (old text after : List ℕ) → i < length signals →
    d ≡ get_or signals i d → text ≡ old ++ flat_map f (map signal_in (take i signals)) → after ≡ text ++ f (signal_in d) →
    after ≡ old ++ flat_map f (map signal_in (take (i + 1) signals))
signals_more f signals i d old text after lt at e told =
    let goes : after ≡ text ++ f (signal_in (get_or signals i d)) = told ∙ ap (λ (s : CodeSignal). text ++ f (signal_in s)) at in
    let more : map signal_in (take (i + 1) signals) ≡ map signal_in (take i signals) ++ signal_in (get_or signals i d) ∷ [] =
    ap (map signal_in) (take_more signals i d lt) ∙ map-append signal_in (take i signals) (get_or signals i d ∷ []) in
    let put : flat_map f (map signal_in (take (i + 1) signals)) ≡ flat_map f (map signal_in (take i signals)) ++ f (signal_in (get_or signals i d)) =
    ap (flat_map f) more
    ∙ (flat_map-append f (map signal_in (take i signals)) (signal_in (get_or signals i d) ∷ [])
    ∙ ap (λ (t : List ℕ). flat_map f (map signal_in (take i signals)) ++ t) (append-nil (f (signal_in (get_or signals i d))))) in
    goes
    ∙ (ap (λ (t : List ℕ). t ++ f (signal_in (get_or signals i d))) e
    ∙ (append_assoc old (flat_map f (map signal_in (take i signals))) (f (signal_in (get_or signals i d))) ∙ ap (λ (t : List ℕ). old ++ t) (sym put)))

-- all of a list, where more are asked for
pub all_first : {A : Type 0} (xs : List A) (most n : ℕ) → n ≡ length xs → n ≤ most → xs ≡ take most xs
all_first xs most n e le = sym (take_all most xs (omega (arith, e, le)))

-- ---- what holds of all members

pub all_head : {A : Type 0} (P : A → Type 0) (x : A) (xs : List A) → All P (x ∷ xs) → P x
all_head P x xs h = h 0 x (omega arith)

pub all_tail : {A : Type 0} (P : A → Type 0) (x : A) (xs : List A) → All P (x ∷ xs) → All P xs
all_tail P x xs h = λ k d lt. h (suc k) d (omega (arith, lt))

-- one member more, of a list that begins empty
pub flat_more : {A B : Type 0} (f : A → List B) (xs : List A) (i : ℕ) (d : A) (before after : List B) → i < length xs →
    before ≡ flat_map f (take i xs) → after ≡ before ++ f (get_or xs i d) → after ≡ flat_map f (take (i + 1) xs)
flat_more f xs i d before after lt e goes =
    goes
    ∙ (ap (λ t. t ++ f (get_or xs i d)) e
    ∙ sym (ap (flat_map f) (take_more xs i d lt)
    ∙ (flat_map-append f (take i xs) (get_or xs i d ∷ []) ∙ ap (λ t. flat_map f (take i xs) ++ t) (append-nil (f (get_or xs i d))))))

-- ---- members of a list with commas between

abbrev pub comma_before : ℕ → List ℕ
comma_before i = if i == 0 then [] else codes ", "

abbrev pub behind : {A : Type 0} → (A → List ℕ) → A → List ℕ
behind f x = codes ", " ++ f x

abbrev pub listed : {A : Type 0} → (A → List ℕ) → List A → List ℕ
listed f [] = []
listed f (x ∷ xs) = f x ++ flat_map (behind f) xs

listed_push : {A : Type 0} (f : A → List ℕ) (xs : List A) (i : ℕ) (d : A) → i < length xs →
    listed f (take (i + 1) xs) ≡ listed f (take i xs) ++ (comma_before i ++ f (get_or xs i d))
listed_push f [] i d lt = absurd (omega (arith, lt))
listed_push f (x ∷ []) zero d lt = append-nil (f x)
listed_push f (x ∷ y ∷ xs) zero d lt = append-nil (f x)
listed_push f (x ∷ xs) (suc k) d lt =
    let at : suc k + 1 ≡ suc (k + 1) = omega arith in
    let some : (suc k == 0) ≡ false = ne_eqb (suc k) 0 (λ e. omega (arith, e)) in
    let y = get_or xs k d in
    ap (λ (n : ℕ). listed f (take n (x ∷ xs))) at
    ∙ (ap (λ ys. f x ++ flat_map (behind f) ys) (take_more xs k d (omega (arith, lt)))
    ∙ (ap (λ (t : List ℕ). f x ++ t)
    (flat_map-append (behind f) (take k xs) (y ∷ []) ∙ ap (λ (t : List ℕ). flat_map (behind f) (take k xs) ++ t) (append-nil (behind f y)))
    ∙ (sym (append_assoc (f x) (flat_map (behind f) (take k xs)) (behind f y))
    ∙ ap (λ (b : Bool). (f x ++ flat_map (behind f) (take k xs)) ++ ((if b then [] else codes ", ") ++ f y)) (sym some))))

-- one member more
pub listed_more : {A : Type 0} (f : A → List ℕ) (xs : List A) (i : ℕ) (d : A) (old text mid after : List ℕ) → i < length xs →
    text ≡ old ++ listed f (take i xs) → mid ≡ text ++ comma_before i → after ≡ mid ++ f (get_or xs i d) → after ≡ old ++ listed f (take (i + 1) xs)
listed_more f xs i d old text mid after lt e comma goes =
    let here : List ℕ = f (get_or xs i d) in
    let front : List ℕ = listed f (take i xs) in
    goes
    ∙ (ap (λ (t : List ℕ). t ++ here) (comma ∙ ap (λ (t : List ℕ). t ++ comma_before i) e)
    ∙ (append_assoc (old ++ front) (comma_before i) here
    ∙ (append_assoc old front (comma_before i ++ here) ∙ ap (λ (t : List ℕ). old ++ t) (sym (listed_push f xs i d lt)))))
