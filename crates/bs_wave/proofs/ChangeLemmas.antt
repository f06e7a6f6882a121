-- The lines of a wave as the reading comes to them: one net, one moment and one change more.
use Rattle.std.proofs.Common.{◌≡◌, ℕ, zero, suc, ◌<◌, ◌≤◌, ◌+◌, false, cond, List, [], ◌∷◌, ◌++◌, length, get_or, set, refl, arith}
use Rattle.std.proofs.Common.{ap, sym, ◌∙◌}
use Rattle.std.proofs.Common.{append_assoc, append-nil}
use Rattle.bs_wave.specs.declared.value.Value.{Value}
use Rattle.bs_wave.specs.declared.value.Value.TheVariants.{Unknown}
use Rattle.bs_wave.specs.WaveText.{net_line, net_lines, time_line, value_line, same_value, change_lines, moment_lines}
use Rattle.bs_wave.proofs.FormLemmas.{value_same}

-- ---- nets

pub net_snoc : (n : ℕ) (keys : List (List ℕ)) (key : List ℕ) → net_lines n (keys ++ key ∷ []) ≡ net_lines n keys ++ net_line (n + length keys) key ∷ []
net_snoc n [] key = ap (λ m. net_line m key ∷ []) (omega arith)
net_snoc n (k ∷ ks) key =
    ap (λ t. net_line n k ∷ t)
    (net_snoc (suc n) ks key ∙ ap (λ m. net_lines (suc n) ks ++ net_line m key ∷ []) (omega arith))

-- ---- the values of the first moment

pub first_snoc : (n : ℕ) (values : List Value) (v : Value) →
    change_lines n [] (values ++ v ∷ []) ≡ change_lines n [] values ++ value_line (n + length values) v ∷ []
first_snoc n [] v = ap (λ m. value_line m v ∷ []) (omega arith)
first_snoc n (w ∷ ws) v =
    ap (λ t. value_line n w ∷ t)
    (first_snoc (suc n) ws v ∙ ap (λ m. change_lines (suc n) [] ws ++ value_line m v ∷ []) (omega arith))

-- ---- changes

-- the same values have no lines
pub no_changes : (n : ℕ) (values : List Value) → change_lines n values values ≡ []
no_changes n [] = refl
no_changes n (v ∷ vs) = ap (λ b. cond b [] (value_line n v ∷ []) ++ change_lines (suc n) vs vs) (value_same v) ∙ no_changes (suc n) vs

-- two lists of values are the same from a net on
abbrev pub Agree : ℕ → List Value → List Value → Type 0
Agree next before values = (n : ℕ) → next ≤ n → n < length values → get_or before n Unknown ≡ get_or values n Unknown

agree_tail : (next : ℕ) (u w : Value) (us ws : List Value) → Agree (suc next) (u ∷ us) (w ∷ ws) → Agree next us ws
agree_tail next u w us ws h = λ n le lt. h (suc n) (omega (arith, le)) (omega (arith, lt))

agree_all : (u w : Value) (us ws : List Value) → Agree 0 (u ∷ us) (w ∷ ws) → Agree 0 us ws
agree_all u w us ws h = λ n le lt. h (suc n) (omega arith) (omega (arith, lt))

pub agreed : (us ws : List Value) → length us ≡ length ws → Agree 0 us ws → us ≡ ws
agreed [] [] e h = refl
agreed [] (w ∷ ws) e h = absurd (omega (arith, e))
agreed (u ∷ us) [] e h = absurd (omega (arith, e))
agreed (u ∷ us) (w ∷ ws) e h =
    let head : u ≡ w = h 0 (omega arith) (omega arith) in
    ap (λ x. x ∷ us) head ∙ ap (λ t. w ∷ t) (agreed us ws (omega (arith, e)) (agree_all u w us ws h))

change_next : (k : ℕ) (u w : Value) (us ws : List Value) (m : ℕ) (v : Value) →
    change_lines (suc k) us (set ws m v) ≡ change_lines (suc k) us ws ++ value_line (suc k + m) v ∷ [] →
    change_lines k (u ∷ us) (set (w ∷ ws) (suc m) v) ≡ change_lines k (u ∷ us) (w ∷ ws) ++ value_line (k + suc m) v ∷ []
change_next k u w us ws m v rest =
    let first : List (List ℕ) = cond (same_value u w) [] (value_line k w ∷ []) in
    ap (λ t. first ++ t) (rest ∙ ap (λ n. change_lines (suc k) us ws ++ value_line n v ∷ []) (omega arith))
    ∙ sym (append_assoc first (change_lines (suc k) us ws) (value_line (k + suc m) v ∷ []))

-- one more change, of a net from which on the values were those before
pub change_more : (k : ℕ) (before values : List Value) (next m : ℕ) (v : Value) → length before ≡ length values → Agree next before values → next ≤ m →
    m < length values → same_value (get_or values m Unknown) v ≡ false →
    change_lines k before (set values m v) ≡ change_lines k before values ++ value_line (k + m) v ∷ []
change_more k before [] next m v e h le lt other = absurd (omega (arith, lt))
change_more k [] (w ∷ ws) next m v e h le lt other = absurd (omega (arith, e))
change_more k (u ∷ us) (w ∷ ws) zero zero v e h le lt other =
    let head : u ≡ w = h 0 (omega arith) (omega arith) in
    let rest : us ≡ ws = agreed us ws (omega (arith, e)) (agree_all u w us ws h) in
    let none : change_lines (suc k) us ws ≡ [] = ap (λ t. change_lines (suc k) t ws) rest ∙ no_changes (suc k) ws in
    let kept : change_lines k (u ∷ us) (w ∷ ws) ≡ [] =
    ap (λ x. cond (same_value x w) [] (value_line k w ∷ []) ++ change_lines (suc k) us ws) head
    ∙ (ap (λ b. cond b [] (value_line k w ∷ []) ++ change_lines (suc k) us ws) (value_same w) ∙ none) in
    ap (λ x. cond (same_value x v) [] (value_line k v ∷ []) ++ change_lines (suc k) us ws) head
    ∙ (ap (λ b. cond b [] (value_line k v ∷ []) ++ change_lines (suc k) us ws) other
    ∙ (ap (λ t. value_line k v ∷ t) none
    ∙ (ap (λ n. value_line n v ∷ []) (omega arith) ∙ ap (λ t. t ++ value_line (k + 0) v ∷ []) (sym kept))))
change_more k (u ∷ us) (w ∷ ws) (suc next) zero v e h le lt other = absurd (omega (arith, le))
change_more k (u ∷ us) (w ∷ ws) zero (suc m) v e h le lt other =
    change_next k u w us ws m v
    (change_more (suc k) us ws zero m v (omega (arith, e)) (agree_all u w us ws h) (omega arith) (omega (arith, lt)) other)
change_more k (u ∷ us) (w ∷ ws) (suc next) (suc m) v e h le lt other =
    change_next k u w us ws m v
    (change_more (suc k) us ws next m v (omega (arith, e)) (agree_tail next u w us ws h) (omega (arith, le)) (omega (arith, lt)) other)

-- ---- moments

-- the last member, or else this
abbrev pub last_of : {X : Type 0} → X → List X → X
last_of d [] = d
last_of d (x ∷ xs) = last_of x xs

pub moment_snoc : (i : ℕ) (before : List Value) (ms : List (List Value)) (m : List Value) →
    moment_lines i before (ms ++ m ∷ []) ≡ moment_lines i before ms ++ time_line (i + length ms) ∷ change_lines 0 (last_of before ms) m
moment_snoc i before [] m =
    ap (λ t. time_line i ∷ t) (append-nil (change_lines 0 before m)) ∙ ap (λ j. time_line j ∷ change_lines 0 before m) (omega arith)
moment_snoc i before (x ∷ xs) m =
    ap (λ t. time_line i ∷ (change_lines 0 before x ++ t))
    (moment_snoc (suc i) x xs m ∙ ap (λ j. moment_lines (suc i) x xs ++ time_line j ∷ change_lines 0 (last_of x xs) m) (omega arith))
    ∙ ap (λ t. time_line i ∷ t)
    (sym (append_assoc (change_lines 0 before x) (moment_lines (suc i) x xs) (time_line (i + suc (length xs)) ∷ change_lines 0 (last_of x xs) m)))
