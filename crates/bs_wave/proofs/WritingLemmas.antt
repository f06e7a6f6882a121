-- What stays of a text where more is appended, and the lines of a wave one after another.
use Rattle.std.proofs.Common.{◌≡◌, ℕ, zero, suc, ◌<◌, ◌≤◌, ◌+◌, ◌-◌, ◌/◌, ◌%◌, Bool, true, false, cond, not, List, [], ◌∷◌, ◌++◌, length, take}
use Rattle.std.proofs.Common.{get_or, refl, arith}
use Rattle.std.proofs.Common.{ap, sym, ◌∙◌, append_assoc, append-nil, zero-add}
use Rattle.std.specs.Prelude.{codes, slice_get, Result, Ok, Err, OnOk}
use Rattle.std.specs.List.{flat_map}
use Rattle.std.proofs.lemmas.List.{take_all, get_or_default}
use Rattle.std.proofs.lemmas.Grind.{flat_map-append}
use Rattle.bs_bits.specs.Lines.{line}
use Rattle.bs_wave.specs.declared.value.Value.{Value}
use Rattle.bs_wave.specs.declared.wave.Wave.{Wave}
use Rattle.bs_wave.specs.WaveText.{id_of, net_line, net_lines, head_lines, time_line, value_line, same_value, change_lines, moment_lines, wave_text}
use Rattle.bs_wave.specs.Appending.{Begins, is_new, before_at}
use Rattle.bs_wave.proofs.IdLemmas.{next_digit}

pub begins_more : (old more : List ℕ) → Begins old (old ++ more)
begins_more [] more = refl
begins_more (b ∷ old) more = ap (λ t. b ∷ t) (begins_more old more)

-- what begins with more begins with less
pub begins_then : (old more new : List ℕ) → Begins (old ++ more) new → Begins old new
begins_then [] more new h = refl
begins_then (b ∷ old) more [] h = absurd cc
begins_then (b ∷ old) more (c ∷ new) h =
    let head : c ≡ b = cc in
    let tail : take (length (old ++ more)) new ≡ old ++ more = cc in
    ap (λ t. c ∷ t) (begins_then old more new tail) ∙ ap (λ x. x ∷ old) head

pub begins_after : (old more mid new : List ℕ) → mid ≡ old ++ more → Begins mid new → Begins old new
begins_after old more mid new e h = begins_then old more new (rw e at h)

-- what begins a text begins a longer one
pub begins_longer : (old mid new more : List ℕ) → Begins old mid → new ≡ mid ++ more → Begins old new
begins_longer old mid new more h e = rw e (on old mid h)
  where
    on : (old mid : List ℕ) → Begins old mid → Begins old (mid ++ more)
    on [] mid h = refl
    on (b ∷ old) [] h = absurd cc
    on (b ∷ old) (c ∷ mid) h =
        let head : c ≡ b = cc in
        let tail : take (length old) mid ≡ old = cc in
        ap (λ t. c ∷ t) (on old mid tail) ∙ ap (λ x. x ∷ old) head

pub begins_same : (old : List ℕ) → Begins old old
begins_same [] = refl
begins_same (b ∷ old) = ap (λ t. b ∷ t) (begins_same old)

pub on_ok : {A E P Q : Type 0} (r : Result A E) → (P → Q) → OnOk r P → OnOk r Q
on_ok (Ok a) f h = f h
on_ok (Err e) f h = tt

-- one digit of an id more
pub more_digits : (all mid new : List ℕ) (left : ℕ) → 94 ≤ left → mid ++ id_of left ≡ all → new ≡ mid ++ (33 + left % 94) ∷ [] → new ++ id_of (left / 94) ≡ all
more_digits all mid new left le e f =
    ap (λ t. t ++ id_of (left / 94)) f
    ∙ (append_assoc mid ((33 + left % 94) ∷ []) (id_of (left / 94)) ∙ (ap (λ t. mid ++ t) (sym (next_digit left le)) ∙ e))

-- ---- lines

-- a text after one line more
pub one_line : (old mid new : List ℕ) (lines more : List (List ℕ)) → mid ≡ old ++ flat_map line lines → new ≡ mid ++ flat_map line more →
    new ≡ old ++ flat_map line (lines ++ more)
one_line old mid new lines more e f =
    f ∙ (ap (λ t. t ++ flat_map line more) e
    ∙ (append_assoc old (flat_map line lines) (flat_map line more) ∙ ap (λ t. old ++ t) (sym (flat_map-append line lines more))))

-- ---- nets

net_last : (n : ℕ) (keys : List (List ℕ)) (k : ℕ) → k < length keys →
    net_lines n (take (suc k) keys) ≡ net_lines n (take k keys) ++ net_line (n + k) (get_or keys k []) ∷ []
net_last n [] k lt = absurd (omega arith)
net_last n (key ∷ keys) zero lt = ap (λ m. net_line m key ∷ []) (omega arith)
net_last n (key ∷ keys) (suc k) lt =
    ap (λ t. net_line n key ∷ t)
    (net_last (suc n) keys k (omega arith) ∙ ap (λ m. net_lines (suc n) (take k keys) ++ net_line m (get_or keys k []) ∷ []) (omega arith))

pub one_more_net : (keys : List (List ℕ)) (k : ℕ) (old mid new key d : List ℕ) → k < length keys → mid ≡ old ++ flat_map line (net_lines 0 (take k keys)) →
    key ≡ get_or keys k d → new ≡ mid ++ line (net_line k key) → new ≡ old ++ flat_map line (net_lines 0 (take (k + 1) keys))
one_more_net keys k old mid new key d lt e read f =
    let next : k + 1 ≡ suc k = omega arith in
    let same : key ≡ get_or keys k [] = read ∙ get_or_default keys k d [] lt in
    one_line old mid new (net_lines 0 (take k keys)) (net_line k key ∷ []) e (f ∙ ap (λ t. mid ++ t) (sym (append-nil (line (net_line k key)))))
    ∙ ap (λ ls. old ++ flat_map line ls)
    (ap (λ x. net_lines 0 (take k keys) ++ net_line k x ∷ []) same ∙
    (sym (net_last 0 keys k lt ∙ ap (λ m. net_lines 0 (take k keys) ++ net_line m (get_or keys k []) ∷ []) (zero-add k)) ∙
    ap (λ m. net_lines 0 (take m keys)) (sym next)))

pub all_nets : (keys : List (List ℕ)) (k : ℕ) → length keys ≤ k → net_lines 0 (take k keys) ≡ net_lines 0 keys
all_nets keys k le = ap (net_lines 0) (take_all k keys le)

-- ---- changes

change_last : (n : ℕ) (before values : List Value) (k : ℕ) (d : Value) → k < length values →
    change_lines n before (take (suc k) values)
    ≡ change_lines n before (take k values) ++ cond (is_new (slice_get before k) (get_or values k d)) (value_line (n + k) (get_or values k d) ∷ []) []
change_last n before [] k d lt = absurd (omega arith)
change_last n [] (v ∷ vs) zero d lt = ap (λ m. value_line m v ∷ []) (omega arith)
change_last n (u ∷ us) (v ∷ vs) zero d lt = by (same_value u v)
  where
    by : (b : Bool) → cond b [] (value_line n v ∷ []) ++ [] ≡ cond (not b) (value_line (n + 0) v ∷ []) []
    by true = refl
    by false = ap (λ m. value_line m v ∷ []) (omega arith)
change_last n [] (v ∷ vs) (suc k) d lt =
    ap (λ t. value_line n v ∷ t)
    (change_last (suc n) [] vs k d (omega arith)
    ∙ ap (λ m. change_lines (suc n) [] (take k vs) ++ cond (is_new (slice_get [] k) (get_or vs k d)) (value_line m (get_or vs k d) ∷ []) []) (omega arith))
change_last n (u ∷ us) (v ∷ vs) (suc k) d lt =
    let first : List (List ℕ) = cond (same_value u v) [] (value_line n v ∷ []) in
    ap (λ t. first ++ t)
    (change_last (suc n) us vs k d (omega arith)
    ∙ ap (λ m. change_lines (suc n) us (take k vs) ++ cond (is_new (slice_get us k) (get_or vs k d)) (value_line m (get_or vs k d) ∷ []) []) (omega arith))
    ∙ sym (append_assoc first (change_lines (suc n) us (take k vs)) _)

change_at : (before values : List Value) (k : ℕ) (v : Value) (b : Bool) → k < length values → v ≡ get_or values k v → is_new (slice_get before k) v ≡ b →
    change_lines 0 before (take (k + 1) values) ≡ change_lines 0 before (take k values) ++ cond b (value_line k v ∷ []) []
change_at before values k v b lt same is =
    let next : k + 1 ≡ suc k = omega arith in
    ap (λ m. change_lines 0 before (take m values)) next
    ∙ (change_last 0 before values k v lt
    ∙ (ap (λ m. change_lines 0 before (take k values) ++ cond (is_new (slice_get before k) (get_or values k v)) (value_line m (get_or values k v) ∷ []) [])
    (zero-add k)
    ∙ ap (λ x. change_lines 0 before (take k values) ++ cond (is_new (slice_get before k) x) (value_line k x ∷ []) []) (sym same)
    ∙ ap (λ c. change_lines 0 before (take k values) ++ cond c (value_line k v ∷ []) []) is))

pub one_more_change : (before values : List Value) (k : ℕ) (v d : Value) (old mid new : List ℕ) → k < length values → v ≡ get_or values k d →
    mid ≡ old ++ flat_map line (change_lines 0 before (take k values)) →
    new ≡ mid ++ flat_map line (cond (is_new (slice_get before k) v) (value_line k v ∷ []) []) →
    new ≡ old ++ flat_map line (change_lines 0 before (take (k + 1) values))
one_more_change before values k v d old mid new lt same e f =
    one_line old mid new (change_lines 0 before (take k values)) (cond (is_new (slice_get before k) v) (value_line k v ∷ []) []) e f
    ∙ ap (λ ls. old ++ flat_map line ls) (sym (change_at before values k v (is_new (slice_get before k) v) lt (same ∙ get_or_default values k d v lt) refl))

-- the line of a value that is new, and none of one that is not
pub new_value : (b : Bool) (k : ℕ) (v : Value) (old new : List ℕ) → b ≡ true → new ≡ old ++ line (value_line k v) →
    new ≡ old ++ flat_map line (cond b (value_line k v ∷ []) [])
new_value b k v old new is e = e ∙ ap (λ t. old ++ t) (sym (ap (λ c. flat_map line (cond c (value_line k v ∷ []) [])) is ∙ append-nil (line (value_line k v))))

pub old_value : (b : Bool) (k : ℕ) (v : Value) (old : List ℕ) → b ≡ false → old ≡ old ++ flat_map line (cond b (value_line k v ∷ []) [])
old_value b k v old is = sym (ap (λ c. old ++ flat_map line (cond c (value_line k v ∷ []) [])) is ∙ append-nil old)

-- ---- moments

moment_last : (i : ℕ) (before : List Value) (ms : List (List Value)) (k : ℕ) → k < length ms →
    moment_lines i before (take (suc k) ms)
    ≡ moment_lines i before (take k ms) ++ time_line (i + k) ∷ change_lines 0 (before_at before ms k) (get_or ms k [])
moment_last i before [] k lt = absurd (omega arith)
moment_last i before (m ∷ ms) zero lt =
    ap (λ j. time_line j ∷ (change_lines 0 before m ++ [])) (omega arith) ∙ ap (λ t. time_line (i + 0) ∷ t) (append-nil (change_lines 0 before m))
moment_last i before (m ∷ ms) (suc k) lt =
    let first = change_lines 0 before m in
    ap (λ t. time_line i ∷ (first ++ t))
    (moment_last (suc i) m ms k (omega arith)
    ∙ ap (λ j. moment_lines (suc i) m (take k ms) ++ time_line j ∷ change_lines 0 (before_at m ms k) (get_or ms k [])) (omega arith))
    ∙ ap (λ t. time_line i ∷ t) (sym (append_assoc first (moment_lines (suc i) m (take k ms)) _))

pub one_more_moment : (ms : List (List Value)) (k : ℕ) (before values d : List Value) (old mid new : List ℕ) → k < length ms →
    mid ≡ old ++ flat_map line (moment_lines 0 [] (take k ms)) → before ≡ before_at [] ms k → values ≡ get_or ms k d →
    new ≡ mid ++ (line (time_line k) ++ flat_map line (change_lines 0 before values)) →
    new ≡ old ++ flat_map line (moment_lines 0 [] (take (k + 1) ms))
one_more_moment ms k before values d old mid new lt e was read f =
    let next : k + 1 ≡ suc k = omega arith in
    let is : values ≡ get_or ms k [] = read ∙ get_or_default ms k d [] lt in
    one_line old mid new (moment_lines 0 [] (take k ms)) (time_line k ∷ change_lines 0 before values) e f
    ∙ ap (λ ls. old ++ flat_map line ls)
    (ap (λ b. moment_lines 0 [] (take k ms) ++ time_line k ∷ change_lines 0 b values) was
    ∙ (ap (λ v. moment_lines 0 [] (take k ms) ++ time_line k ∷ change_lines 0 (before_at [] ms k) v) is
    ∙ (sym
    (moment_last 0 [] ms k lt
    ∙ ap (λ m. moment_lines 0 [] (take k ms) ++ time_line m ∷ change_lines 0 (before_at [] ms k) (get_or ms k [])) (zero-add k)) ∙
    ap (λ m. moment_lines 0 [] (take m ms)) (sym next))))

-- the values before a later moment are those of the one before
pub before_later : (before : List Value) (ms : List (List Value)) (k : ℕ) → suc k < length ms → get_or ms k [] ≡ before_at before ms (suc k)
before_later before [] k lt = absurd (omega arith)
before_later before (m ∷ ms) zero lt = refl
before_later before (m ∷ ms) (suc k) lt = before_later m ms k (omega arith)

pub before_is : (ms : List (List Value)) (k : ℕ) (v : List Value) → k < length ms → 1 ≤ k → v ≡ get_or ms (k - 1) v → v ≡ before_at [] ms k
before_is ms zero v lt some e = absurd (omega (arith, some))
before_is ms (suc k) v lt some e =
    let same : suc k - 1 ≡ k = omega arith in
    e ∙ (ap (λ j. get_or ms j v) same ∙ (get_or_default ms k v [] (omega (arith, lt)) ∙ before_later [] ms k lt))

pub all_moments : (ms : List (List Value)) (k : ℕ) → length ms ≤ k → moment_lines 0 [] (take k ms) ≡ moment_lines 0 [] ms
all_moments ms k le = ap (moment_lines 0 []) (take_all k ms le)

pub all_changes : (before values : List Value) (k : ℕ) → length values ≤ k → change_lines 0 before (take k values) ≡ change_lines 0 before values
all_changes before values k le = ap (change_lines 0 before) (take_all k values le)

-- ---- a whole net, and a whole wave

pub whole_net : (old key t₁ t₂ t₃ t₄ t₅ : List ℕ) (n : ℕ) → t₁ ≡ old ++ codes "$var wire 1 " → t₂ ≡ t₁ ++ id_of n → t₃ ≡ t₂ ++ codes " " →
    t₄ ≡ t₃ ++ key → t₅ ≡ t₄ ++ line (codes " $end") → t₅ ≡ old ++ line (net_line n key)
whole_net old key t₁ t₂ t₃ t₄ t₅ n e₁ e₂ e₃ e₄ e₅ =
    let p : List ℕ = codes "$var wire 1 " in
    let i : List ℕ = id_of n in
    let s : List ℕ = codes " " in
    let e : List ℕ = codes " $end" in
    let feed : List ℕ = 10 ∷ [] in
    let last : List ℕ = line e in
    let right : (p ++ (i ++ (s ++ (key ++ e)))) ++ feed ≡ p ++ (i ++ (s ++ (key ++ last))) =
    append_assoc p (i ++ (s ++ (key ++ e))) feed
    ∙ ap (λ t. p ++ t)
    (append_assoc i (s ++ (key ++ e)) feed ∙ ap (λ t. i ++ t) (append_assoc s (key ++ e) feed ∙ ap (λ t. s ++ t) (append_assoc key e feed))) in
    e₅
    ∙ (ap (λ t. t ++ last) (e₄ ∙ ap (λ t. t ++ key) (e₃ ∙ ap (λ t. t ++ s) (e₂ ∙ ap (λ t. t ++ i) e₁)))
    ∙ (append_assoc (((old ++ p) ++ i) ++ s) key last
    ∙ (append_assoc ((old ++ p) ++ i) s (key ++ last)
    ∙ (append_assoc (old ++ p) i (s ++ (key ++ last)) ∙ (append_assoc old p (i ++ (s ++ (key ++ last))) ∙ ap (λ t. old ++ t) (sym right))))))

pub whole_head : (keys : List (List ℕ)) (old t₁ t₂ t₃ t₄ t₅ : List ℕ) → t₁ ≡ old ++ line (codes "$timescale 1ns $end") →
    t₂ ≡ t₁ ++ line (codes "$scope module trace $end") → t₃ ≡ t₂ ++ flat_map line (net_lines 0 keys) → t₄ ≡ t₃ ++ line (codes "$upscope $end") →
    t₅ ≡ t₄ ++ line (codes "$enddefinitions $end") → t₅ ≡ old ++ flat_map line (head_lines keys)
whole_head keys old t₁ t₂ t₃ t₄ t₅ e₁ e₂ e₃ e₄ e₅ =
    let one : (l : List ℕ) → line l ≡ flat_map line (l ∷ []) = λ l. sym (append-nil (line l)) in
    let a : List (List ℕ) = codes "$timescale 1ns $end" ∷ [] in
    let b : List (List ℕ) = codes "$scope module trace $end" ∷ [] in
    let c : List (List ℕ) = codes "$upscope $end" ∷ [] in
    let d : List (List ℕ) = codes "$enddefinitions $end" ∷ [] in
    let n : List (List ℕ) = net_lines 0 keys in
    let s₁ : t₁ ≡ old ++ flat_map line a = e₁ ∙ ap (λ t. old ++ t) (one (codes "$timescale 1ns $end")) in
    let s₂ : t₂ ≡ old ++ flat_map line (a ++ b) =
    one_line old t₁ t₂ a b s₁ (e₂ ∙ ap (λ t. t₁ ++ t) (one (codes "$scope module trace $end"))) in
    let s₃ : t₃ ≡ old ++ flat_map line ((a ++ b) ++ n) = one_line old t₂ t₃ (a ++ b) n s₂ e₃ in
    let s₄ : t₄ ≡ old ++ flat_map line (((a ++ b) ++ n) ++ c) =
    one_line old t₃ t₄ ((a ++ b) ++ n) c s₃ (e₄ ∙ ap (λ t. t₃ ++ t) (one (codes "$upscope $end"))) in
    one_line old t₄ t₅ (((a ++ b) ++ n) ++ c) d s₄ (e₅ ∙ ap (λ t. t₄ ++ t) (one (codes "$enddefinitions $end")))
    ∙ ap (λ ls. old ++ flat_map line ls) (append_assoc ((a ++ b) ++ n) c d ∙ append_assoc (a ++ b) n (c ++ d))

pub whole_wave : (wave : Wave) (old mid new : List ℕ) → mid ≡ old ++ flat_map line (head_lines wave.keys) →
    new ≡ mid ++ flat_map line (moment_lines 0 [] wave.moments) → new ≡ old ++ wave_text wave
whole_wave wave old mid new e f = one_line old mid new (head_lines wave.keys) (moment_lines 0 [] wave.moments) e f
