-- The parities of items in all lanes, word by word.
use Rattle.std.proofs.Common.{◌≡◌, ℕ, ◌<◌, ◌≤◌, ◌+◌, ◌*◌, ◌/◌, ◌%◌, Bool, false, not, List, [], ◌∷◌, ◌++◌, zero, suc, length, map, take, get_or, set, refl}
use Rattle.std.proofs.Common.{arith, ap, ap₂, sym, subst, ◌∙◌, ⊎_elim, get_or-set_same, get_or-set_other, length-append}
use Rattle.std.specs.Prelude.{◌==◌, All}
use Rattle.std.specs.Bool.{beq}
use Rattle.std.specs.List.{AllByRecursion}
use Rattle.std.specs.Int.{bit_at}
use Rattle.std.specs.Int.Bits.{bit_xor}
use Rattle.std.proofs.lemmas.Bool.{cases_eq}
use Rattle.std.proofs.lemmas.List.{get_or-map, length-map, map_more}
use Rattle.std.proofs.lemmas.List.Elements.{All-get_or, recursion_from_All}
use Rattle.std.proofs.lemmas.List.FromFn.{fill_by_all}
use Rattle.std.proofs.lemmas.Nat.{row_fits, div-mul-add, mod-mul-add}
use Rattle.bs_net.specs.Gate.{is_odd}
use Rattle.bs_stim.specs.Packing.{bit_in}
use Rattle.bs_lanes.proofs.SettlingLemmas.{odd_more}
use Rattle.bs_lanes.specs.Planes.{bit_place, lane}
use Rattle.bs_lanes.proofs.PlaneLemmas.{bit_from, bit_in_xor, lane_at}
use Rattle.bs_scan.specs.Choice.{Chosen}
use Rattle.bs_scan.specs.Signature.{parity_of, signature}
use Rattle.bs_break.specs.Masks.{has}
use Rattle.bs_break.proofs.MaskLemmas.{nothing}
use Rattle.bs_chip.specs.Parities.{HaveParities, IsParityWord}
use Rattle.bs_chip.specs.Hashes.{ListsEach}

-- ---- a word

one_word : (word b : ℕ) → b < 64 → bit_in (word ∷ []) b ≡ has word b
one_word word b lt =
    let at : b / 64 ≡ 0 = omega (arith, lt) in
    let low : b % 64 ≡ b = omega (arith, lt) in
    ap₂ (λ (i j : ℕ). bit_at (get_or (word ∷ []) i 0) j == 1) at low

xor_bit : (one other b : ℕ) → b < 64 → has (bit_xor one other) b ≡ not (beq (has one b) (has other b))
xor_bit one other b lt =
    sym (one_word (bit_xor one other) b lt)
    ∙ (bit_in_xor (one ∷ []) (other ∷ []) b refl
    ∙ ap₂ (λ (x y : Bool). not (beq x y)) (one_word one b lt) (one_word other b lt))

pub parity_none : (planes : List ℕ) (wide word : ℕ) → IsParityWord [] planes wide word 0
parity_none planes wide word = record { each = λ b lt. nothing b }

pub parity_more : (item planes : List ℕ) (wide word mask i : ℕ) → i < length item → word < wide → IsParityWord (take i item) planes wide word mask →
    IsParityWord (take (i + 1) item) planes wide word (bit_xor mask (get_or planes (get_or item i 0 * wide + word) 0))
parity_more item planes wide word mask i lt small h =
    let flop : ℕ = get_or item i 0 in
    let bits : ℕ = get_or planes (flop * wide + word) 0 in
    record {
      each = λ b low.
          let f : ℕ → Bool = λ n. bit_in planes (bit_place wide n (word * 64 + b)) in
          let at : flop * wide + word ≡ flop * wide + (word * 64 + b) / 64 = omega (arith, low) in
          let from : b ≡ (word * 64 + b) % 64 = omega (arith, low) in
          let here : has bits b ≡ f flop =
          ap₂ (λ (i j : ℕ). bit_at (get_or planes i 0) j == 1) at from ∙ sym (bit_from planes (flop * wide) (word * 64 + b)) in
          xor_bit mask bits b low
          ∙ (ap₂ (λ (x y : Bool). not (beq x y)) (h.each b low) here
          ∙ (sym (odd_more (map f (take i item)) (f flop)) ∙ sym (ap is_odd (map_more f item i 0 lt))));
    }

-- ---- all words

pub parities_none : (items : List (List ℕ)) (planes words : List ℕ) (wide : ℕ) → HaveParities items planes wide 0 words
parities_none items planes words wide = record { each = λ k lt. absurd (omega (arith, lt)) }

pub parities_more : (items : List (List ℕ)) (planes words : List ℕ) (wide at word : ℕ) → at < length words → HaveParities items planes wide at words →
    IsParityWord (get_or items (at / wide) []) planes wide (at % wide) word → HaveParities items planes wide (at + 1) (set words at word)
parities_more items planes words wide at word lt h here =
    record {
      each = λ k less.
          ⊎_elim
          (λ (same : k ≡ at).
          let P : ℕ → Type 0 = λ n. IsParityWord (get_or items (n / wide) []) planes wide (n % wide) (get_or (set words at word) n 0) in
          subst P (sym same)
          (subst (λ (w : ℕ). IsParityWord (get_or items (at / wide) []) planes wide (at % wide) w) (sym (get_or-set_same words at word 0 lt)) here))
          (λ (other : k ≡ at → ⊥).
          subst (λ (w : ℕ). IsParityWord (get_or items (k / wide) []) planes wide (k % wide) w) (sym (get_or-set_other words at k word 0 other))
          (h.each k (omega (arith, less, other))))
          (cases_eq k at);
    }

pub parities_all : (items : List (List ℕ)) (planes words : List ℕ) (wide at count : ℕ) → count ≤ at → HaveParities items planes wide at words →
    HaveParities items planes wide count words
parities_all items planes words wide at count le h = record { each = λ k lt. h.each k (omega (arith, lt, le)) }

-- ---- a lane

same_map : (f g : ℕ → Bool) (ns : List ℕ) → AllByRecursion (λ n. f n ≡ g n) ns → map f ns ≡ map g ns
same_map f g [] h = refl
same_map f g (n ∷ ns) h = ap (λ b. b ∷ map f ns) h.0 ∙ ap (λ bs. g n ∷ bs) (same_map f g ns h.1)

each_weaker : (P Q : ℕ → Type 0) → ((n : ℕ) → P n → Q n) → (ns : List ℕ) → AllByRecursion P ns → AllByRecursion Q ns
each_weaker P Q f [] h = tt
each_weaker P Q f (n ∷ ns) h = (f n h.0, each_weaker P Q f ns h.1)

-- the bit of a lane in an item's word is the parity of the lane
pub parity_in_lane : (choice : Chosen) (planes item : List ℕ) (wide r mask : ℕ) → All (λ flop. flop < choice.width) item →
    IsParityWord item planes wide (r / 64) mask → has mask (r % 64) ≡ parity_of (lane wide choice.width planes r) item
parity_in_lane choice planes item wide r mask range is =
    let s : List Bool = lane wide choice.width planes r in
    let q : ℕ = r / 64 in
    let back : q * 64 + r % 64 ≡ r = omega arith in
    let f : ℕ → Bool = λ flop. get_or s flop false in
    let g : ℕ → Bool = λ flop. bit_in planes (bit_place wide flop (q * 64 + r % 64)) in
    let same : map f item ≡ map g item =
    same_map f g item
    (each_weaker (λ flop. flop < choice.width) (λ flop. f flop ≡ g flop)
    (λ flop below. lane_at wide choice.width planes r flop below ∙ ap (λ (n : ℕ). bit_in planes (bit_place wide flop n)) (sym back)) item
    (recursion_from_All (λ flop. flop < choice.width) item range)) in
    is.each (r % 64) (omega arith) ∙ sym (ap is_odd same)

-- the lane of the items' planes is the signature of the lane
pub signature_lane : (choice : Chosen) (planes words : List ℕ) (wide count r : ℕ) → All (λ item. All (λ flop. flop < choice.width) item) choice.items →
    count ≡ length choice.items * wide → HaveParities choice.items planes wide count words → r < 64 * wide →
    lane wide (length choice.items) words r ≡ signature choice (lane wide choice.width planes r)
signature_lane choice planes words wide count r range whole have small =
    let s : List Bool = lane wide choice.width planes r in
    let q : ℕ = r / 64 in
    let low : q < wide = omega (arith, small) in
    let back : q * 64 + r % 64 ≡ r = omega arith in
    sym
    (fill_by_all (λ k. bit_in words (bit_place wide k r)) (signature choice s) (length choice.items) false (length-map choice.items (parity_of s))
    (λ k lt.
    let item : List ℕ = get_or choice.items k [] in
    let at : ℕ = k * wide + q in
    let fits : k * wide + wide ≤ count = rw whole (row_fits k wide (length choice.items) wide lt (omega arith)) in
    let is : IsParityWord (get_or choice.items (at / wide) []) planes wide (at % wide) (get_or words at 0) = have.each at (omega (arith, low, fits)) in
    let P : ℕ → Type 0 = λ n. IsParityWord (get_or choice.items (at / wide) []) planes wide n (get_or words at 0) in
    let Q : ℕ → Type 0 = λ n. IsParityWord (get_or choice.items n []) planes wide q (get_or words at 0) in
    let here : IsParityWord item planes wide q (get_or words at 0) = subst Q (div-mul-add k wide q low) (subst P (mod-mul-add k wide q low) is) in
    let f : ℕ → Bool = λ flop. get_or s flop false in
    let g : ℕ → Bool = λ flop. bit_in planes (bit_place wide flop (q * 64 + r % 64)) in
    let same : map f item ≡ map g item =
    same_map f g item
    (each_weaker (λ flop. flop < choice.width) (λ flop. f flop ≡ g flop)
    (λ flop below. lane_at wide choice.width planes r flop below ∙ ap (λ (n : ℕ). bit_in planes (bit_place wide flop n)) (sym back)) item
    (recursion_from_All (λ flop. flop < choice.width) item
    (All-get_or (λ (item : List ℕ). All (λ flop. flop < choice.width) item) choice.items k [] lt range))) in
    get_or-map (parity_of s) choice.items k [] false lt
    ∙ (ap is_odd same ∙ (sym (here.each (r % 64) (omega arith)) ∙ sym (bit_from words (k * wide) r)))))

-- ---- lists of hashes

at_end : (xs : List ℕ) (x d : ℕ) → get_or (xs ++ x ∷ []) (length xs) d ≡ x
at_end [] x d = refl
at_end (y ∷ xs) x d = at_end xs x d

at_front : (xs : List ℕ) (x d k : ℕ) → k < length xs → get_or (xs ++ x ∷ []) k d ≡ get_or xs k d
at_front [] x d k lt = absurd (omega (arith, lt))
at_front (y ∷ xs) x d zero lt = refl
at_front (y ∷ xs) x d (suc k) lt = at_front xs x d k (omega (arith, lt))

pub each_none : (of : ℕ → ℕ) → ListsEach of [] 0
each_none of = record { size = refl; each = λ n lt. absurd (omega (arith, lt)) }

pub each_more : (of : ℕ → ℕ) (list : List ℕ) (k x : ℕ) → ListsEach of list k → x ≡ of k → ListsEach of (list ++ x ∷ []) (k + 1)
each_more of list k x h e =
    record {
      size = length-append list (x ∷ []) ∙ ap (λ (n : ℕ). n + 1) h.size;
      each = λ n lt.
          ⊎_elim
          (λ (same : n ≡ k).
          ap (λ (i : ℕ). get_or (list ++ x ∷ []) i 0) (same ∙ sym h.size) ∙ (at_end list x 0 ∙ (e ∙ ap of (sym same))))
          (λ (other : n ≡ k → ⊥). at_front list x 0 n (omega (arith, lt, other, h.size)) ∙ h.each n (omega (arith, lt, other)))
          (cases_eq n k);
    }
