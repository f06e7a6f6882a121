-- What the shared bits and the others leave of a mask.
use Rattle.std.proofs.Common.{◌≡◌, ℕ, suc, zero, ◌<◌, ◌≤◌, ◌+◌, ◌*◌, ◌/◌, ◌%◌, Bool, true, false, not, cond, ◌&&◌, ◌||◌, List, [], ◌∷◌, length, map}
use Rattle.std.proofs.Common.{get_or, refl, arith, ap, ap₂, sym, subst, ◌∙◌, set, length-set, get_or-set_same, get_or-set_other, ⊎_elim}
use Rattle.std.specs.Prelude.{filter, ◌==◌}
use Rattle.std.specs.Bool.{beq}
use Rattle.std.specs.Int.{bit_at}
use Rattle.std.specs.List.{All, list_all, list_any, range_with_len}
use Rattle.std.proofs.lemmas.Bool.{true≢false, eqb-true, cases_eq}
use Rattle.std.proofs.lemmas.List.{get_or-map, length-map}
use Rattle.bs_bits.specs.Bits.{bits_eq}
use Rattle.bs_stim.specs.Packing.{bit_in}
use Rattle.bs_lanes.specs.Planes.{lane}
use Rattle.bs_lanes.proofs.PlaneLemmas.{length_lane, lane_at, bit_from}
use Rattle.bs_scan.specs.Moments.{is_listed}
use Rattle.bs_break.specs.Bank.{Banked, Hits, PlaneHits, IsBank}
use Rattle.bs_break.specs.Masks.{has, shows, Agrees, IsUnion}
use Rattle.bs_break.specs.Places.{is_shared}
use Rattle.bs_break.proofs.MaskLemmas.{nothing}
use Rattle.bs_break.proofs.PlaceLemmas.{kept_within}

-- ---- two lists of bits, place by place

same_tests : (p q : ℕ → Bool) (a n : ℕ) → ((k : ℕ) → a ≤ k → k < a + n → p k ≡ q k) → list_all p (range_with_len a n) ≡ list_all q (range_with_len a n)
same_tests p q a zero h = refl
same_tests p q a (suc n) h =
    ap₂ (λ t u. t && u) (h a (omega arith) (omega arith)) (same_tests p q (a + 1) n (λ k le lt. h k (omega (arith, le)) (omega (arith, lt))))

shifted : (p : ℕ → Bool) (a n : ℕ) → list_all p (range_with_len (a + 1) n) ≡ list_all (λ k. p (suc k)) (range_with_len a n)
shifted p a zero = refl
shifted p a (suc n) = let e : a + 1 ≡ suc a = omega arith in ap₂ (λ t u. t && u) (ap p e) (shifted p (a + 1) n)

by_places : (s x : List Bool) → length s ≡ length x →
    bits_eq s x ≡ list_all (λ k. beq (get_or s k false) (get_or x k false)) (range_with_len 0 (length x))
by_places [] [] e = refl
by_places [] (b ∷ x) e = absurd (omega (arith, e))
by_places (a ∷ s) [] e = absurd (omega (arith, e))
by_places (a ∷ s) (b ∷ x) e =
    ap (λ t. beq a b && t)
    (by_places s x (omega (arith, e)) ∙ sym (shifted (λ k. beq (get_or (a ∷ s) k false) (get_or (b ∷ x) k false)) 0 (length x)))

-- a test of the places that pass, and another of those that do not
parted : (p q r : ℕ → Bool) (t : ℕ → Bool) (a n : ℕ) → ((k : ℕ) → a ≤ k → k < a + n → t k ≡ true → p k ≡ r k) → ((k : ℕ) → q k ≡ r k) →
    (list_all p (filter t (range_with_len a n)) && list_all q (filter (λ k. not (t k)) (range_with_len a n))) ≡ list_all r (range_with_len a n)
parted p q r t a zero h g = refl
parted p q r t a (suc n) h g =
    by (t a) refl
    (parted p q r t (a + 1) n (λ k le lt. h k (omega (arith, le)) (omega (arith, lt))) g)
  where
    ones : List ℕ
    ones = filter t (range_with_len (a + 1) n)

    zeros : List ℕ
    zeros = filter (λ k. not (t k)) (range_with_len (a + 1) n)

    grouped : (x y z : Bool) → ((x && y) && z) ≡ (x && (y && z))
    grouped true y z = refl
    grouped false y z = refl

    swapped : (x y z : Bool) → (x && (y && z)) ≡ (y && (x && z))
    swapped true y z = refl
    swapped false true z = refl
    swapped false false z = refl

    by : (b : Bool) → t a ≡ b → (list_all p ones && list_all q zeros) ≡ list_all r (range_with_len (a + 1) n) →
        (list_all p (cond b (a ∷ ones) ones) && list_all q (cond (not b) (a ∷ zeros) zeros)) ≡ (r a && list_all r (range_with_len (a + 1) n))
    by true e rest =
        grouped (p a) (list_all p ones) (list_all q zeros) ∙ ap₂ (λ x y. x && y) (h a (omega arith) (omega arith) e) rest
    by false e rest =
        swapped (list_all p ones) (q a) (list_all q zeros) ∙ ap₂ (λ x y. x && y) (g a) rest

-- ---- a member of the states

all_at : (p : List Bool → Bool) (xs : List (List Bool)) (k : ℕ) (d : List Bool) → list_all p xs ≡ true → k < length xs → p (get_or xs k d) ≡ true
all_at p [] k d e lt = absurd (omega (arith, lt))
all_at p (x ∷ xs) zero d e lt = first (p x) (list_all p xs) e
  where
    first : (a b : Bool) → (a && b) ≡ true → a ≡ true
    first true b e = refl
    first false b e = e
all_at p (x ∷ xs) (suc k) d e lt = all_at p xs k d (second (p x) (list_all p xs) e) (omega (arith, lt))
  where
    second : (a b : Bool) → (a && b) ≡ true → b ≡ true
    second true b e = e
    second false true e = refl
    second false false e = e

equal : (a b : Bool) → beq a b ≡ true → a ≡ b
equal true true e = refl
equal true false e = sym e
equal false true e = e
equal false false e = refl

-- a bit that is shared is the first state's
same_bit : (states : List (List Bool)) (k i : ℕ) (d : List Bool) → k < length states → is_shared states i ≡ true →
    get_or (get_or states 0 []) i false ≡ get_or (get_or states k d) i false
same_bit states k i d lt e =
    sym (equal _ _ (all_at (λ s. beq (get_or s i false) (get_or (get_or states 0 []) i false)) states k d e lt))

-- the bit of a lane at a place
bit_of_lane : (wide width : ℕ) (planes : List ℕ) (word b k : ℕ) → b < 64 → k < width →
    has (get_or planes (k * wide + word) 0) b ≡ get_or (lane wide width planes (word * 64 + b)) k false
bit_of_lane wide width planes word b k small lt =
    let q : (word * 64 + b) / 64 ≡ word = omega (arith, small) in
    let r : (word * 64 + b) % 64 ≡ b = omega (arith, small) in
    sym
    (lane_at wide width planes (word * 64 + b) k lt
    ∙ (bit_from planes (k * wide) (word * 64 + b)
    ∙ ap₂ (λ i j. bit_at (get_or planes (k * wide + i) 0) j == 1) q r))

-- a listed state is a lane's exactly where the shared bits and the others are
listed_one : (wide width : ℕ) (planes : List ℕ) (word b : ℕ) (states : List (List Bool)) (shared others : List ℕ) (k : ℕ) (d : List Bool) → b < 64 →
    IsBank width states shared others → k < length states →
    bits_eq (lane wide width planes (word * 64 + b)) (get_or states k d)
    ≡ (shows wide planes word b shared (get_or states 0 []) && shows wide planes word b others (get_or states k d))
listed_one wide width planes word b states shared others k d small bank lt =
    let s : List Bool = lane wide width planes (word * 64 + b) in
    let x : List Bool = get_or states k d in
    let first : List Bool = get_or states 0 [] in
    let wide_x : length x ≡ width = bank.widths k d lt in
    let bit : ℕ → Bool = λ i. has (get_or planes (i * wide + word) 0) b in
    by_places s x (length_lane wide width planes (word * 64 + b) ∙ sym wide_x)
    ∙ (ap (λ n. list_all (λ i. beq (get_or s i false) (get_or x i false)) (range_with_len 0 n)) wide_x
    ∙ (same_tests (λ i. beq (get_or s i false) (get_or x i false)) (λ i. beq (bit i) (get_or x i false)) 0 width
    (λ i le less. ap (λ t. beq t (get_or x i false)) (sym (bit_of_lane wide width planes word b i small (omega (arith, less)))))
    ∙ (sym
    (parted (λ i. beq (bit i) (get_or first i false)) (λ i. beq (bit i) (get_or x i false)) (λ i. beq (bit i) (get_or x i false)) (is_shared states) 0 width
    (λ i le less e. ap (beq (bit i)) (same_bit states k i d lt e)) (λ i. refl))
    ∙ ap₂ (λ ps qs. shows wide planes word b ps first && shows wide planes word b qs x) (sym bank.shared_are) (sym bank.others_are))))

-- a test that is a shared part and another part
any_both : (p q : List Bool → Bool) (a : Bool) (xs : List (List Bool)) →
    ((k : ℕ) (d : List Bool) → k < length xs → p (get_or xs k d) ≡ (a && q (get_or xs k d))) →
    list_any p xs ≡ (a && list_any q xs)
any_both p q a [] h = sym (none a)
  where
    none : (a : Bool) → (a && false) ≡ false
    none true = refl
    none false = refl
any_both p q a (x ∷ xs) h =
    ap₂ (λ t u. t || u) (h 0 x (omega arith)) (any_both p q a xs (λ k d lt. h (suc k) d (omega (arith, lt)))) ∙ both a (q x) (list_any q xs)
  where
    both : (a b c : Bool) → ((a && b) || (a && c)) ≡ (a && (b || c))
    both true b c = refl
    both false b c = refl

listed_is : (wide width : ℕ) (planes : List ℕ) (word b : ℕ) (states : List (List Bool)) (shared others : List ℕ) → b < 64 →
    IsBank width states shared others →
    is_listed states (lane wide width planes (word * 64 + b))
    ≡ (shows wide planes word b shared (get_or states 0 []) && list_any (shows wide planes word b others) states)
listed_is wide width planes word b states shared others small bank =
    any_both (bits_eq (lane wide width planes (word * 64 + b))) (shows wide planes word b others) (shows wide planes word b shared (get_or states 0 [])) states
    (λ k d lt. listed_one wide width planes word b states shared others k d small bank lt)

-- ---- hits

-- a bank as its fields tell it
pub no_states : (bank : Banked) (wide : ℕ) (planes : List ℕ) (word live : ℕ) → bank.states ≡ [] → Hits bank wide planes word live 0
no_states bank wide planes word live e =
    record {
      each = λ b lt.
          nothing b ∙ sym (ap (λ states. has live b && is_listed states (lane wide bank.width planes (word * 64 + b))) e ∙ none (has live b));
    }
  where
    none : (a : Bool) → (a && false) ≡ false
    none true = refl
    none false = refl

grouped : (a b c : Bool) → (a && (b && c)) ≡ ((a && b) && c)
grouped true b c = refl
grouped false b c = refl

pub no_hits : (width : ℕ) (states : List (List Bool)) (shared others : List ℕ) (wide : ℕ) (planes : List ℕ) (word live mask : ℕ) (first : List Bool) →
    IsBank width states shared others → first ≡ get_or states 0 [] → Agrees wide planes word shared first live mask → mask ≡ 0 →
    Hits (record { width = width; states = states }) wide planes word live 0
no_hits width states shared others wide planes word live mask first bank e h none =
    record {
      each = λ b lt.
          nothing b
          ∙ sym
          (ap (λ t. has live b && t) (listed_is wide width planes word b states shared others lt bank)
          ∙ (grouped (has live b) (shows wide planes word b shared (get_or states 0 [])) (list_any (shows wide planes word b others) states)
          ∙ ap (λ t. t && list_any (shows wide planes word b others) states)
          (ap (λ s. has live b && shows wide planes word b shared s) (sym e) ∙ (sym (h.each b lt) ∙ (ap (λ n. has n b) none ∙ nothing b)))));
    }

pub all_hits : (width : ℕ) (states : List (List Bool)) (shared others : List ℕ) (wide : ℕ) (planes : List ℕ) (word live mask hits : ℕ) (first : List Bool) →
    IsBank width states shared others → first ≡ get_or states 0 [] → Agrees wide planes word shared first live mask →
    IsUnion wide planes word others states mask hits →
    Hits (record { width = width; states = states }) wide planes word live hits
all_hits width states shared others wide planes word live mask hits first bank e h u =
    record {
      each = λ b lt.
          u.each b lt
          ∙ (ap (λ t. t && list_any (shows wide planes word b others) states)
          (h.each b lt ∙ ap (λ s. has live b && shows wide planes word b shared s) e)
          ∙ (sym (grouped (has live b) (shows wide planes word b shared (get_or states 0 [])) (list_any (shows wide planes word b others) states))
          ∙ ap (λ t. has live b && t) (sym (listed_is wide width planes word b states shared others lt bank))));
    }

-- the places of a bank lie in its states
pub shared_within : (width : ℕ) (states : List (List Bool)) (shared others : List ℕ) → IsBank width states shared others → All (λ place. place < width) shared
shared_within width states shared others bank =
    let P : List ℕ → Type 0 = λ places. All (λ place. place < width) places in
    subst P (sym bank.shared_are) (kept_within (is_shared states) 0 width width (omega arith))

pub others_within : (width : ℕ) (states : List (List Bool)) (shared others : List ℕ) → IsBank width states shared others → All (λ place. place < width) others
others_within width states shared others bank =
    let P : List ℕ → Type 0 = λ places. All (λ place. place < width) places in
    subst P (sym bank.others_are) (kept_within (λ k. not (is_shared states k)) 0 width width (omega arith))

-- ---- the states that a bank is lent

pub some_states : {X : Type 0} (f : X → List Bool) (xs : List X) (empty : Bool) → empty ≡ (length xs == 0) → empty ≡ false → 0 < length (map f xs)
some_states f [] empty e none = absurd (true≢false (sym e ∙ none))
some_states f (x ∷ xs) empty e none = omega arith

pub first_state : {X : Type 0} (f : X → List Bool) (xs : List X) (x : X) (s : List Bool) (empty : Bool) → empty ≡ (length xs == 0) → empty ≡ false →
    s ≡ f (get_or xs 0 x) → s ≡ get_or (map f xs) 0 []
first_state f [] x s empty e none g = absurd (true≢false (sym e ∙ none))
first_state f (y ∷ ys) x s empty e none g = g

pub none_lent : {X : Type 0} (f : X → List Bool) (xs : List X) (empty : Bool) → empty ≡ (length xs == 0) → empty ≡ true → map f xs ≡ []
none_lent f [] empty e none = refl
none_lent f (x ∷ xs) empty e none = let two : length (x ∷ xs) ≡ 0 = eqb-true _ _ (sym e ∙ none) in absurd (omega (arith, two))

pub width_of : {X : Type 0} (f : X → List Bool) (xs : List X) (width : ℕ) → All (λ s. length s ≡ width) (map f xs) → (k : ℕ) (d : X) → k < length xs →
    length (f (get_or xs k d)) ≡ width
width_of f xs width h k d lt = ap length (sym (get_or-map f xs k d [] lt)) ∙ h k [] (omega (arith, lt, length-map xs f))

pub first_within : (width : ℕ) (states : List (List Bool)) (shared others places : List ℕ) (s : List Bool) → IsBank width states shared others →
    places ≡ shared → s ≡ get_or states 0 [] → 0 < length states → All (λ place. place < length s) places
first_within width states shared others places s bank e f some =
    let P : List ℕ → Type 0 = λ ps. All (λ p. p < width) ps in
    let wide : length s ≡ width = ap length f ∙ bank.widths 0 [] some in
    λ k d lt. omega (arith, subst P (sym e) (shared_within width states shared others bank) k d lt, wide)

-- ---- all words

-- so many words of the hits are found
pub record HitsSo (bank : Banked) (wide : ℕ) (planes live hits : List ℕ) (words : ℕ) : Type 0 where
  pub long : length hits ≡ 4
  pub done : (k : ℕ) → k < words → Hits bank wide planes k (get_or live k 0) (get_or hits k 0)
  pub rest : (k : ℕ) → words ≤ k → get_or hits k 0 ≡ 0

pub no_words_so : (bank : Banked) (wide : ℕ) (planes live : List ℕ) → HitsSo bank wide planes live (0 ∷ 0 ∷ 0 ∷ 0 ∷ []) 0
no_words_so bank wide planes live = record { long = refl; done = λ k lt. absurd (omega (arith, lt)); rest = λ k le. none k }
  where
    none : (k : ℕ) → get_or {A = ℕ} (0 ∷ 0 ∷ 0 ∷ 0 ∷ []) k 0 ≡ 0
    none zero = refl
    none (suc zero) = refl
    none (suc (suc zero)) = refl
    none (suc (suc (suc zero))) = refl
    none (suc (suc (suc (suc k)))) = refl

pub one_more_so : (bank : Banked) (wide : ℕ) (planes live hits : List ℕ) (word found : ℕ) → word < 4 → HitsSo bank wide planes live hits word →
    Hits bank wide planes word (get_or live word 0) found → HitsSo bank wide planes live (set hits word found) (word + 1)
one_more_so bank wide planes live hits word found lt h here =
    record {
      long = length-set hits word found ∙ h.long;
      done = λ k small.
          ⊎_elim
          (λ (same : k ≡ word).
          let P : ℕ → Type 0 = λ n. Hits bank wide planes n (get_or live n 0) (get_or (set hits word found) n 0) in
          subst P (sym same)
          (subst (λ n. Hits bank wide planes word (get_or live word 0) n) (sym (get_or-set_same hits word found 0 (omega (arith, lt, h.long)))) here))
          (λ (other : k ≡ word → ⊥).
          subst (λ n. Hits bank wide planes k (get_or live k 0) n) (sym (get_or-set_other hits word k found 0 other)) (h.done k (omega (arith, small, other))))
          (cases_eq k word);
      rest = λ k le. get_or-set_other hits word k found 0 (λ e. omega (arith, e, le)) ∙ h.rest k (omega (arith, le));
    }

pub all_so : (bank : Banked) (wide : ℕ) (planes live hits : List ℕ) (words : ℕ) → wide ≤ words → words ≤ wide → HitsSo bank wide planes live hits words →
    PlaneHits bank wide planes live hits
all_so bank wide planes live hits words le ge h =
    record {
      each = λ r lt.
          let e : (r / 64) * 64 + r % 64 ≡ r = omega arith in
          (h.done (r / 64) (omega (arith, lt, le))).each (r % 64) (omega arith)
          ∙ ap (λ n. bit_in live r && is_listed bank.states (lane wide bank.width planes n)) e;
      beyond = λ r past. ap (λ n. has n (r % 64)) (h.rest (r / 64) (omega (arith, past, ge))) ∙ nothing (r % 64);
    }
