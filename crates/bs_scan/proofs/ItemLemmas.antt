-- The items of a signature file, line by line.
use Rattle.std.proofs.Common.{◌≡◌, ◌⊎◌, inl, inr, ℕ, suc, ◌≤◌, ◌+◌, Bool, true, false, cond, List, [], ◌∷◌, ◌++◌, length, refl, arith, ap, sym, ◌∙◌}
use Rattle.std.proofs.Common.{Some, None, append-nil, append_assoc}
use Rattle.std.specs.Prelude.{◌==◌, Result, Ok, Err}
use Rattle.std.proofs.lemmas.List.Sums.{sum_by-cons, sum_by_push}
use Rattle.bs_bits.specs.Reading.{◌>>=◌}
use Rattle.bs_bits.specs.Lines.{words_of, lines_of, onto_first}
use Rattle.bs_net.specs.Parts.{Parts}
use Rattle.bs_scan.specs.declared.fault.ChoiceFault.{ChoiceFault}
use Rattle.bs_scan.specs.declared.fault.ChoiceFault.TheVariants.{UnknownFlop, NoMemory}
use Rattle.bs_scan.specs.Choice.{numbers_of}
use Rattle.bs_scan.specs.ChoiceText.{flop_named, known, flops_of, names_of, item_of, items_of}
use Rattle.bs_scan.specs.Reading.{with_front, bytes_in}

abbrev put : {A : Type 0} → A → List A → Result (List A) ChoiceFault
put x xs = Ok (x ∷ xs)

front_more : {A : Type 0} (xs : List A) (x : A) (o : Result (List A) ChoiceFault) → with_front xs (o >>= put x) ≡ with_front (xs ++ x ∷ []) o
front_more xs x (Err f) = refl
front_more xs x (Ok ys) = ap Ok (sym (append_assoc xs (x ∷ []) ys))

pub front_none : {A : Type 0} (o : Result (List A) ChoiceFault) → o ≡ with_front [] o
front_none (Err f) = refl
front_none (Ok xs) = refl

-- ---- the flip-flops of one line

abbrev Flops : Type 0
Flops = Result (List ℕ) ChoiceFault

pub flop_step : (whole : Flops) (net : Parts) (number : ℕ) (item : List ℕ) (ws more : List (List ℕ)) (name : List ℕ) (flop : ℕ) →
    whole ≡ with_front item (flops_of net number ws) → ws ≡ name ∷ more → Some flop ≡ flop_named net name →
    whole ≡ with_front (item ++ flop ∷ []) (flops_of net number more)
unfolding flops_of
flop_step whole net number item ws more name flop e l r =
    e ∙ (ap (λ ws. with_front item (flops_of net number ws)) l
    ∙ (ap (λ o. with_front item (known number o >>= λ flop. flops_of net number more >>= put flop)) (sym r) ∙ front_more item flop (flops_of net number more)))

pub flop_fault : (whole : Flops) (net : Parts) (number : ℕ) (item : List ℕ) (ws more : List (List ℕ)) (name : List ℕ) →
    whole ≡ with_front item (flops_of net number ws) → ws ≡ name ∷ more → None ≡ flop_named net name → whole ≡ Err (UnknownFlop number)
unfolding flops_of
flop_fault whole net number item ws more name e l r =
    e ∙ (ap (λ ws. with_front item (flops_of net number ws)) l
    ∙ ap (λ o. with_front item (known number o >>= λ flop. flops_of net number more >>= put flop)) (sym r))

pub flops_end : (whole : Flops) (net : Parts) (number : ℕ) (item : List ℕ) (ws : List (List ℕ)) →
    whole ≡ with_front item (flops_of net number ws) → ws ≡ [] → whole ≡ Ok item
unfolding flops_of
flops_end whole net number item ws e l = e ∙ (ap (λ ws. with_front item (flops_of net number ws)) l ∙ ap Ok (append-nil item))

-- ---- lines

abbrev Items : Type 0
Items = Result (List (List ℕ)) ChoiceFault

pub item_step : (whole : Items) (net : Parts) (at number : ℕ) (items : List (List ℕ)) (lines more : List (List ℕ)) (line : List ℕ) (item : List ℕ) →
    whole ≡ with_front items (items_of net at number lines) → lines ≡ line ∷ more → item_of net at number (names_of (words_of line)) ≡ Ok item →
    whole ≡ with_front (items ++ item ∷ []) (items_of net (at + 1) (number + 1) more)
unfolding items_of
item_step whole net at number items lines more line item e l r =
    e ∙ (ap (λ ls. with_front items (items_of net at number ls)) l
    ∙ (ap (λ o. with_front items (o >>= λ item. items_of net (at + 1) (number + 1) more >>= put item)) r ∙ front_more items item (items_of net
    (at + 1) (number + 1) more)))

pub item_refused : (whole : Items) (net : Parts) (at number : ℕ) (items : List (List ℕ)) (lines more : List (List ℕ)) (line : List ℕ) (f : ChoiceFault) →
    whole ≡ with_front items (items_of net at number lines) → lines ≡ line ∷ more →
    (f ≡ NoMemory) ⊎ (item_of net at number (names_of (words_of line)) ≡ Err f) →
    (f ≡ NoMemory) ⊎ (whole ≡ Err f)
unfolding items_of
item_refused whole net at number items lines more line f e l (inl none) = inl none
item_refused whole net at number items lines more line f e l (inr r) =
    inr (e ∙ (ap (λ ls. with_front items (items_of net at number ls)) l
    ∙ ap (λ o. with_front items (o >>= λ item. items_of net (at + 1) (number + 1) more >>= put item)) r))

pub items_end : (whole : Items) (net : Parts) (at number : ℕ) (items : List (List ℕ)) (lines : List (List ℕ)) →
    whole ≡ with_front items (items_of net at number lines) → lines ≡ [] → whole ≡ Ok items
unfolding items_of
items_end whole net at number items lines e l = e ∙ (ap (λ ls. with_front items (items_of net at number ls)) l ∙ ap Ok (append-nil items))

-- the lines of a text have no more bytes than the text
pub bytes_within : (bs : List ℕ) → bytes_in (lines_of bs) ≤ length bs
bytes_within [] = omega arith
bytes_within (b ∷ bs) = by (b == 10) (lines_of bs) (bytes_within bs)
  where
    by : (z : Bool) (ls : List (List ℕ)) → bytes_in ls ≤ length bs → bytes_in (cond z ([] ∷ ls) (onto_first b ls)) ≤ suc (length bs)
    by true ls h = omega (arith, sum_by-cons (λ (l : List ℕ). length l) [] ls)
    by false [] h = omega (arith, sum_by-cons (λ (l : List ℕ). length l) (b ∷ []) [])
    by false (l ∷ ls) h = omega (arith, sum_by-cons (λ (l : List ℕ). length l) (b ∷ l) ls, sum_by-cons (λ (l : List ℕ). length l) l ls)

-- nor have those behind the first
pub bytes_behind : (bs line : List ℕ) (more : List (List ℕ)) → lines_of bs ≡ line ∷ more → bytes_in more ≤ length bs
bytes_behind bs line more e =
    let cut : bytes_in (lines_of bs) ≡ length line + bytes_in more = ap bytes_in e ∙ sum_by-cons (λ (l : List ℕ). length l) line more in
    omega (arith, cut, bytes_within bs)

-- an item has no more numbers than its line has bytes
pub bytes_step : (items : List (List ℕ)) (item : List ℕ) (lines : List (List ℕ)) (line : List ℕ) (more : List (List ℕ)) (n : ℕ) →
    lines ≡ line ∷ more → length item ≤ length line →
    numbers_of items + bytes_in lines ≤ n → numbers_of (items ++ item ∷ []) + bytes_in more ≤ n
bytes_step items item lines line more n e short h =
    let cut : bytes_in lines ≡ length line + bytes_in more = ap bytes_in e ∙ sum_by-cons (λ (l : List ℕ). length l) line more in
    omega (arith, cut, short, h, sum_by_push (λ (l : List ℕ). length l) items item)
