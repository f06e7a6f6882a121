-- Items, one after another.
use Rattle.std.proofs.Common.{◌≡◌, ℕ, zero, suc, ◌<◌, ◌≤◌, ◌+◌, Bool, true, false, cond, List, [], ◌∷◌, ◌++◌, length, map, get_or, refl, ap, sym, subst, ◌∙◌, arith}
use Rattle.std.specs.Prelude.{All, filter, nat_le}
use Rattle.std.specs.List.{range_with_len}
use Rattle.std.proofs.lemmas.Bool.{le-leb, lt-leb}
use Rattle.std.proofs.lemmas.List.{map-append}
use Rattle.std.proofs.lemmas.List.Elements.{All-filter, filter-append}
use Rattle.std.proofs.lemmas.List.FromFn.{get_or-range_with_len, get_or-map-range_with_len, length-map-range_with_len, length-range_with_len}
use Rattle.bs_bits.proofs.RangeLemmas.{range_push}
use Rattle.bs_inspect_signature.specs.Deck.{hand_of}
use Rattle.bs_inspect_signature.specs.Items.{AreWithin}
use Rattle.bs_inspect_signature.specs.Mixed.{drawn_items, has_item, is_drawn, members, mixed_items, single}

-- what a further place gives
pub mapped_place : {X : Type 0} (f : ℕ → X) (n : ℕ) (before after : List X) (x : X) → before ≡ map f (range_with_len 0 n) → x ≡ f n →
    after ≡ before ++ x ∷ [] → after ≡ map f (range_with_len 0 (n + 1))
mapped_place {X} f n before after x e is goes =
    goes
    ∙ (ap (λ (t : List X). t ++ x ∷ []) e
    ∙ (ap (λ (y : X). map f (range_with_len 0 n) ++ y ∷ []) is
    ∙ (sym (map-append f (range_with_len 0 n) (n ∷ [])) ∙ ap (map f) (sym (range_push n)))))

-- what a further element keeps
kept_more : {X : Type 0} (p : X → Bool) (xs before after : List X) (x : X) → before ≡ filter p xs → after ≡ before ++ cond (p x) (x ∷ []) [] →
    after ≡ filter p (xs ++ x ∷ [])
kept_more {X} p xs before after x e goes =
    goes ∙ (ap (λ (t : List X). t ++ cond (p x) (x ∷ []) []) e ∙ sym (filter-append p xs (x ∷ [])))

-- ---- the flip-flops of an item

-- those of the first flip-flops
abbrev pub first_members : (count item n : ℕ) → List ℕ
first_members count item n = filter (λ f. has_item (hand_of count f) item) (range_with_len 0 n)

pub no_members : (count item : ℕ) (own : List ℕ) → own ≡ [] → own ≡ first_members count item 0
no_members count item own e = e

pub dealt_wide : (count width : ℕ) (hands : List (List ℕ)) → hands ≡ map (hand_of count) (range_with_len 0 width) → length hands ≡ width
dealt_wide count width hands e = ap length e ∙ length-map-range_with_len (hand_of count) 0 width

dealt : (count width n : ℕ) (hands : List (List ℕ)) (d : List ℕ) → hands ≡ map (hand_of count) (range_with_len 0 width) → n < length hands →
    get_or hands n d ≡ hand_of count n
dealt count width n hands d e lt =
    let there : n < width = omega (arith, lt, dealt_wide count width hands e) in
    ap (λ (hs : List (List ℕ)). get_or hs n d) e ∙ get_or-map-range_with_len (hand_of count) 0 width n n d there (omega arith)

pub member_more : (count width item n : ℕ) (hands : List (List ℕ)) (d before after : List ℕ) → hands ≡ map (hand_of count) (range_with_len 0 width) →
    n < length hands → before ≡ first_members count item n → after ≡ before ++ cond (has_item (get_or hands n d) item) (n ∷ []) [] →
    after ≡ first_members count item (n + 1)
member_more count width item n hands d before after e lt so goes =
    kept_more (λ (f : ℕ). has_item (hand_of count f) item) (range_with_len 0 n) before after n so
    (goes ∙ ap (λ (h : List ℕ). before ++ cond (has_item h item) (n ∷ []) []) (dealt count width n hands d e lt))
    ∙ ap (filter (λ (f : ℕ). has_item (hand_of count f) item)) (sym (range_push n))

pub members_all : (count width item n : ℕ) (hands : List (List ℕ)) (own : List ℕ) → hands ≡ map (hand_of count) (range_with_len 0 width) →
    n ≤ length hands → length hands ≤ n → own ≡ first_members count item n → own ≡ members width count item
members_all count width item n hands own e le ge so =
    let all : n ≡ width = omega (arith, le, ge, dealt_wide count width hands e) in
    so ∙ ap (first_members count item) all

-- ---- the items

pub item_more : (width count n : ℕ) (before after : List (List ℕ)) (one : List ℕ) → before ≡ filter is_drawn (map (members width count) (range_with_len 0 n)) →
    one ≡ members width count n → after ≡ before ++ cond (is_drawn one) (one ∷ []) [] →
    after ≡ filter is_drawn (map (members width count) (range_with_len 0 (n + 1)))
item_more width count n before after one e is goes =
    kept_more is_drawn (map (members width count) (range_with_len 0 n)) before after one e goes
    ∙ ap (filter is_drawn)
    (mapped_place (members width count) n (map (members width count) (range_with_len 0 n)) (map (members width count) (range_with_len 0 n) ++ one ∷ []) one refl is refl)

pub all_single : (width count : ℕ) (items : List (List ℕ)) → width ≤ count → items ≡ map single (range_with_len 0 width) → items ≡ mixed_items width count
all_single width count items le e =
    e ∙ ap (λ (b : Bool). cond b (map single (range_with_len 0 width)) (drawn_items width count)) (sym (le-leb width count le))

pub all_drawn : (width count : ℕ) (items : List (List ℕ)) → count < width → items ≡ drawn_items width count → items ≡ mixed_items width count
all_drawn width count items lt e =
    e ∙ ap (λ (b : Bool). cond b (map single (range_with_len 0 width)) (drawn_items width count)) (sym (lt-leb width count lt))

-- ---- items name flip-flops

pub item_under : (width : ℕ) (items : List (List ℕ)) (i : ℕ) (d : List ℕ) → AreWithin width items → i < length items →
    All (λ flop. flop < width) (get_or items i d)
item_under width items i d within lt = within.is i d lt

range_within : (width : ℕ) → All (λ f. f < width) (range_with_len 0 width)
range_within width = λ k d lt.
    (let there : k < width = omega (arith, lt, length-range_with_len 0 width) in
    omega (arith, get_or-range_with_len 0 width k d there, there))

alone : (width flop : ℕ) → flop < width → All (λ f. f < width) (single flop)
alone width flop lt zero d h = lt
alone width flop lt (suc k) d h = absurd (omega (arith, h))

singles_within : (width : ℕ) → All (λ item. All (λ f. f < width) item) (map single (range_with_len 0 width))
singles_within width = λ k d lt.
    (let there : k < width = omega (arith, lt, length-map-range_with_len single 0 width) in
    let here : get_or (map single (range_with_len 0 width)) k d ≡ single k = get_or-map-range_with_len single 0 width k k d there (omega arith) in
    rw here (alone width k there))

members_within : (width count : ℕ) → All (λ item. All (λ f. f < width) item) (map (members width count) (range_with_len 0 count))
members_within width count = λ k d lt.
    (let there : k < count = omega (arith, lt, length-map-range_with_len (members width count) 0 count) in
    let here : get_or (map (members width count) (range_with_len 0 count)) k d ≡ members width count k =
    get_or-map-range_with_len (members width count) 0 count k k d there (omega arith) in
    rw here (All-filter (λ (f : ℕ). has_item (hand_of count f) k) (λ (f : ℕ). f < width) (range_with_len 0 width) (range_within width)))

pub mixed_within : (width count : ℕ) (items : List (List ℕ)) → items ≡ mixed_items width count → AreWithin width items
mixed_within width count items e = record { is = subst (All (λ item. All (λ f. f < width) item)) (sym e) (by (nat_le width count)) }
  where
    by : (b : Bool) → All (λ item. All (λ f. f < width) item) (cond b (map single (range_with_len 0 width)) (drawn_items width count))
    by true = singles_within width
    by false =
        All-filter is_drawn (λ (item : List ℕ). All (λ f. f < width) item) (map (members width count) (range_with_len 0 count)) (members_within width count)
