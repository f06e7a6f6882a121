-- A text read backwards from a place.
use Rattle.std.proofs.Common.{◌≡◌, ◌≤◌, ◌<◌, ◌+◌, ◌-◌, ℕ, zero, suc, arith, Bool, true, false, cond, List, [], ◌∷◌, length, drop, reverse, Option, Some, None, ap, sym, subst, ◌∙◌}
use Rattle.std.specs.Prelude.{find, nat_lt, ◌&&◌}
use Rattle.std.specs.List.{range_with_len}
use Rattle.std.specs.Str.{bytes_eq}
use Rattle.std.proofs.lemmas.Bool.{lt-ltb}
use Rattle.std.proofs.lemmas.List.{drop_all, reverse-append}
use Rattle.bs_bits.proofs.RangeLemmas.{range_push}
use Rattle.bs_verilog_scope.specs.Before.{front_name, is_module, is_named_at, is_own, last_module, module_name}

-- ---- the last module

-- the numbers below one more, the greatest first
numbers_more : (k : ℕ) → reverse (range_with_len 0 (suc k)) ≡ k ∷ reverse (range_with_len 0 k)
numbers_more k =
    let one : suc k ≡ k + 1 = omega arith in
    ap (λ (n : ℕ). reverse (range_with_len 0 n)) one
    ∙ (ap (λ (ns : List ℕ). reverse ns) (range_push k) ∙ reverse-append (range_with_len 0 k) (k ∷ []))

last_more : (text : List ℕ) (k : ℕ) → last_module text (suc k) ≡ cond (is_module text k) (Some k) (last_module text k)
last_more text k = ap (find (is_module text)) (numbers_more k)

place_step : (text : List ℕ) (end : ℕ) (goal : Option ℕ) (stands : Bool) → 0 < end → stands ≡ is_module text (end - 1) →
    last_module text end ≡ goal → cond stands (Some (end - 1)) (last_module text (end - 1)) ≡ goal
place_step text zero goal stands lt is e = absurd (omega (arith, lt))
place_step text (suc k) goal stands lt is e =
    let here : suc k - 1 ≡ k = omega arith in
    let same : is_module text k ≡ stands = ap (is_module text) (sym here) ∙ sym is in
    subst (λ (j : ℕ). cond stands (Some j) (last_module text j) ≡ goal) (sym here)
    (subst (λ (b : Bool). cond b (Some k) (last_module text k) ≡ goal) same (sym (last_more text k) ∙ e))

pub place_found : (text : List ℕ) (end : ℕ) (goal : Option ℕ) (stands : Bool) → 0 < end → stands ≡ is_module text (end - 1) →
    last_module text end ≡ goal → stands ≡ true → Some (end - 1) ≡ goal
place_found text end goal stands lt is e t =
    subst (λ (b : Bool). cond b (Some (end - 1)) (last_module text (end - 1)) ≡ goal) t (place_step text end goal stands lt is e)

pub place_next : (text : List ℕ) (end : ℕ) (goal : Option ℕ) (stands : Bool) → 0 < end → stands ≡ is_module text (end - 1) →
    last_module text end ≡ goal → stands ≡ false → last_module text (end - 1) ≡ goal
place_next text end goal stands lt is e f =
    subst (λ (b : Bool). cond b (Some (end - 1)) (last_module text (end - 1)) ≡ goal) f (place_step text end goal stands lt is e)

pub place_none : (text : List ℕ) (end : ℕ) (goal : Option ℕ) → end ≤ 0 → last_module text end ≡ goal → None ≡ goal
place_none text zero goal le e = e
place_none text (suc k) goal le e = absurd (omega (arith, le))

-- ---- the module

pub nothing_behind : (text : List ℕ) (at : ℕ) → length text < at → [] ≡ drop at text
nothing_behind text at lt = sym (drop_all at text (omega (arith, lt)))

own_is : (text : List ℕ) (at : ℕ) (found : Option ℕ) → at < length text → found ≡ last_module text at →
    is_named_at text at found ≡ is_own text at
own_is text at found lt is =
    ap (is_named_at text at) is ∙ sym (ap (λ (b : Bool). b && is_named_at text at (last_module text at)) (lt-ltb at (length text) lt))

pub own_module : (text : List ℕ) (at place : ℕ) (b : Bool) → at < length text → Some place ≡ last_module text at →
    b ≡ bytes_eq (module_name text place) (front_name (drop at text)) → b ≡ is_own text at
own_module text at place b lt is e = e ∙ own_is text at (Some place) lt is

pub no_module : (text : List ℕ) (at : ℕ) → at < length text → None ≡ last_module text at → false ≡ is_own text at
no_module text at lt is = own_is text at None lt is
