-- States that runs are in, and runs that stand still.
use Rattle.std.proofs.Common.{◌≡◌, ◌≢◌, ℕ, zero, suc, ◌<◌, ◌≤◌, ◌+◌, ◌-◌, Bool, true, false, not, List, [], ◌∷◌, length, get_or, Some, None}
use Rattle.std.proofs.Common.{refl, ap, sym, subst, ◌∙◌, ⊎_elim, arith}
use Rattle.std.specs.Prelude.{◌==◌, count_by}
use Rattle.std.specs.Bool.{beq}
use Rattle.std.specs.List.{range_with_len}
use Rattle.std.proofs.lemmas.Bool.{cases_eq, eq-eqb, eqb-true, true≢false}
use Rattle.std.proofs.lemmas.List.{get_or_default, get_or-map, length-map}
use Rattle.bs_net.specs.Circuit.{Circuit, bit_at, reset_state}
use Rattle.bs_net.specs.declared.net.Flop.{Flop}
use Rattle.bs_scan.specs.declared.seen.Seen.{Seen}
use Rattle.bs_scan.specs.Seen.{whole}
use Rattle.bs_scan.specs.Moments.{IsMoment, Moment, Run, state_of}
use Rattle.bs_inspect_near.specs.Counters.{one_if}
use Rattle.bs_inspect_near.specs.Distance.{differs, distance}
use Rattle.bs_inspect_near.specs.Hints.{AreHeld, Finds, IsUnrecorded, TellsHeld, asked, inverse, inverted, shifts}
use Rattle.bs_inspect_near.specs.Nearest.{AreNearest, IsNearest, moment_of, no_near, no_state}
use Rattle.bs_inspect_near.specs.declared.search.Near.{Near}
use Rattle.bs_inspect_near.proofs.CountLemmas.{count_push}

-- ---- the moments that are nearest to what is asked

pub asked_nearest : (c : Circuit) (runs : List Run) (states asked : List Seen) (nears slice : List Near) → states ≡ asked → slice ≡ nears →
    AreNearest c runs states nears → AreNearest c runs asked slice
asked_nearest c runs states asked nears slice e is are =
    subst (λ (ns : List Near). AreNearest c runs asked ns) (sym is) (subst (λ (ss : List Seen). AreNearest c runs ss nears) e are)

pub asked_there : (c : Circuit) (runs : List Run) (reset : List Bool) (seen : Seen) (nears : List Near) (i : ℕ) → AreNearest c runs (asked reset seen) nears →
    i < 7 → i < length nears
asked_there c runs reset seen nears i are lt = omega (arith, are.count, lt)

at_place : (c : Circuit) (runs : List Run) (states : List Seen) (nears : List Near) (i : ℕ) (near : Near) → AreNearest c runs states nears →
    i < length states → near ≡ get_or nears i near → IsNearest c runs (get_or states i no_state) near
at_place c runs states nears i near are lt at =
    let here : get_or nears i no_near ≡ near = sym (at ∙ get_or_default nears i near no_near (omega (arith, are.count, lt))) in
    subst (λ (n : Near). IsNearest c runs (get_or states i no_state) n) here (are.each i lt)

pub first_near : (c : Circuit) (runs : List Run) (reset : List Bool) (seen : Seen) (nears : List Near) (near : Near) → AreNearest c runs (asked reset seen) nears →
    near ≡ get_or nears 0 near → IsNearest c runs seen near
first_near c runs reset seen nears near are at = at_place c runs (asked reset seen) nears 0 near are (omega arith) at

-- ---- one state after another

-- no run is in one of the first states
pub record NoneSo (c : Circuit) (runs : List Run) (states : List Seen) (i : ℕ) : Type 0 where
  pub each : (j : ℕ) → j < i → IsUnrecorded c runs (get_or states j no_state)

pub found_begin : (c : Circuit) (runs : List Run) (states : List Seen) → NoneSo c runs states 0
found_begin c runs states = record { each = λ j lt. absurd (omega (arith, lt)) }

found_more : (c : Circuit) (runs : List Run) (states : List Seen) (i : ℕ) (near : Near) → IsNearest c runs (get_or states i no_state) near →
    near.count ≢ 0 → NoneSo c runs states i → NoneSo c runs states (i + 1)
found_more c runs states i near is some so = record {
  each = λ j less.
      ⊎_elim
      (λ (same : j ≡ i).
      subst (λ (n : ℕ). IsUnrecorded c runs (get_or states n no_state)) (sym same)
      (record { is = λ m there. omega (arith, some, (is.nearest m there).more) }))
      (λ (other : j ≡ i → ⊥). so.each j (omega (arith, less, other))) (cases_eq j i);
}

found_here : (c : Circuit) (runs : List Run) (states : List Seen) (i : ℕ) (near : Near) → i < length states →
    IsNearest c runs (get_or states i no_state) near → near.count ≡ 0 → NoneSo c runs states i → Finds c runs states (Some near)
found_here c runs states i near lt is none so = record {
  is = record {
    place = i;
    there = lt;
    recorded = record { nearest = is; same = none };
    before = so.each;
  };
}

found_none : (c : Circuit) (runs : List Run) (states : List Seen) (i : ℕ) → length states ≤ i → NoneSo c runs states i →
    Finds c runs states None
found_none c runs states i le so = record { is = record { each = λ j lt. so.each j (omega (arith, lt, le)) } }

-- ---- the known bits inverted

inverse_near : (c : Circuit) (runs : List Run) (reset : List Bool) (seen : Seen) (nears : List Near) (near : Near) → AreNearest c runs (asked reset seen) nears →
    near ≡ get_or nears 1 near → IsNearest c runs (inverse seen) near
inverse_near c runs reset seen nears near are at = at_place c runs (asked reset seen) nears 1 near are (omega arith) at

pub inverted_here : (c : Circuit) (runs : List Run) (reset : List Bool) (seen : Seen) (nears : List Near) (near : Near) → AreNearest c runs (asked reset seen) nears →
    near ≡ get_or nears 1 near → near.count ≡ 0 → Finds c runs (inverse seen ∷ []) (Some near)
inverted_here c runs reset seen nears near are at none =
    found_here c runs (inverse seen ∷ []) 0 near (omega arith) (inverse_near c runs reset seen nears near are at) none
    (found_begin c runs (inverse seen ∷ []))

pub inverted_none : (c : Circuit) (runs : List Run) (reset : List Bool) (seen : Seen) (nears : List Near) (near : Near) → AreNearest c runs (asked reset seen) nears →
    near ≡ get_or nears 1 near → near.count ≢ 0 → Finds c runs (inverse seen ∷ []) None
inverted_none c runs reset seen nears near are at some =
    found_none c runs (inverse seen ∷ []) (0 + 1) (omega arith)
    (found_more c runs (inverse seen ∷ []) 0 near (inverse_near c runs reset seen nears near are at) some (found_begin c runs (inverse seen ∷ [])))

-- ---- the known bits shifted

-- those that are shifted are asked behind two others
shift_near : (c : Circuit) (runs : List Run) (reset : List Bool) (seen : Seen) (nears : List Near) (i : ℕ) (near : Near) → AreNearest c runs (asked reset seen) nears →
    i < 4 → near ≡ get_or nears (2 + i) near → IsNearest c runs (get_or (shifts seen) i no_state) near
shift_near c runs reset seen nears zero near are lt at = at_place c runs (asked reset seen) nears 2 near are (omega arith) at
shift_near c runs reset seen nears (suc zero) near are lt at = at_place c runs (asked reset seen) nears 3 near are (omega arith) at
shift_near c runs reset seen nears (suc (suc zero)) near are lt at = at_place c runs (asked reset seen) nears 4 near are (omega arith) at
shift_near c runs reset seen nears (suc (suc (suc zero))) near are lt at = at_place c runs (asked reset seen) nears 5 near are (omega arith) at
shift_near c runs reset seen nears (suc (suc (suc (suc i)))) near are lt at = absurd (omega (arith, lt))

pub shifted_more : (c : Circuit) (runs : List Run) (reset : List Bool) (seen : Seen) (nears : List Near) (i : ℕ) (near : Near) → AreNearest c runs (asked reset seen) nears →
    i < 4 → near ≡ get_or nears (2 + i) near → near.count ≢ 0 → NoneSo c runs (shifts seen) i → NoneSo c runs (shifts seen) (i + 1)
shifted_more c runs reset seen nears i near are lt at some so =
    found_more c runs (shifts seen) i near (shift_near c runs reset seen nears i near are lt at) some so

pub shifted_here : (c : Circuit) (runs : List Run) (reset : List Bool) (seen : Seen) (nears : List Near) (i : ℕ) (near : Near) → AreNearest c runs (asked reset seen) nears →
    i < 4 → near ≡ get_or nears (2 + i) near → near.count ≡ 0 → NoneSo c runs (shifts seen) i → Finds c runs (shifts seen) (Some near)
shifted_here c runs reset seen nears i near are lt at none so =
    found_here c runs (shifts seen) i near lt (shift_near c runs reset seen nears i near are lt at) none so

pub shifted_none : (c : Circuit) (runs : List Run) (seen : Seen) (i : ℕ) → 4 ≤ i → NoneSo c runs (shifts seen) i → Finds c runs (shifts seen) None
shifted_none c runs seen i le so = found_none c runs (shifts seen) i le so

-- ---- runs that stand still

-- what differs from the other bits is the same
counts_both : (s t : List Bool) (n : ℕ) → n ≤ length t →
    count_by (differs s (whole (inverted t))) (range_with_len 0 n) + count_by (differs s (whole t)) (range_with_len 0 n) ≡ n
counts_both s t zero le = refl
counts_both s t (suc n) le =
    let on : suc n ≡ n + 1 = omega arith in
    let bit : bit_at (inverted t) n ≡ not (bit_at t n) = get_or-map not t n false false (omega (arith, le)) in
    let two : one_if (differs s (whole (inverted t)) n) + one_if (differs s (whole t) n) ≡ 1 =
    ap (λ (b : Bool). one_if (not (beq (bit_at s n) b)) + one_if (differs s (whole t) n)) bit ∙ either (bit_at s n) (bit_at t n) in
    let rest = counts_both s t n (omega (arith, le)) in
    let one : count_by (differs s (whole (inverted t))) (range_with_len 0 (suc n)) ≡
    count_by (differs s (whole (inverted t))) (range_with_len 0 n) + one_if (differs s (whole (inverted t)) n) =
    ap (λ (k : ℕ). count_by (differs s (whole (inverted t))) (range_with_len 0 k)) on ∙ count_push (differs s (whole (inverted t))) n in
    let other : count_by (differs s (whole t)) (range_with_len 0 (suc n)) ≡ count_by (differs s (whole t)) (range_with_len 0 n) + one_if (differs s (whole t) n) =
    ap (λ (k : ℕ). count_by (differs s (whole t)) (range_with_len 0 k)) on ∙ count_push (differs s (whole t)) n in
    omega (arith, one, other, two, rest)
  where
    either : (a b : Bool) → one_if (not (beq a (not b))) + one_if (not (beq a b)) ≡ 1
    either true true = refl
    either true false = refl
    either false true = refl
    either false false = refl

pub distances : (s t : List Bool) → distance s (whole (inverted t)) + distance s (whole t) ≡ length t
distances s t =
    let long : length (inverted t) ≡ length t = length-map t not in
    ap (λ (n : ℕ). count_by (differs s (whole (inverted t))) (range_with_len 0 n) + distance s (whole t)) long ∙ counts_both s t (length t) (omega arith)

held_is : (c : Circuit) (runs : List Run) (near : Near) (n : ℕ) (held : Bool) → IsNearest c runs (whole (inverted (reset_state c))) near → n ≡ length c.flops →
    held ≡ (near.count == n) → TellsHeld c runs held
held_is c runs near n held all width h = record {
  yes = λ is_so. record { each = λ m there. still is_so m there };
  no = λ is_not held_so. moved is_not held_so;
}
  where
    wide : length (reset_state c) ≡ n
    wide = length-map c.flops (λ (f : Flop). f.reset) ∙ sym width

    still : held ≡ true → (m : Moment) → IsMoment runs m → distance (state_of c runs m) (whole (reset_state c)) ≡ 0
    still is_so m there =
        let full : near.count ≡ n = eqb-true near.count n (sym h ∙ is_so) in
        omega (arith, full, wide, (all.nearest m there).more, distances (state_of c runs m) (reset_state c))

    moved : held ≡ false → AreHeld c runs → ⊥
    moved is_not held_so =
        let at_near : distance (state_of c runs (moment_of near)) (whole (reset_state c)) ≡ 0 = held_so.each (moment_of near) all.recorded in
        let full : near.count ≡ n = omega (arith, all.counted, at_near, wide, distances (state_of c runs (moment_of near)) (reset_state c)) in
        true≢false (sym (h ∙ eq-eqb near.count n full) ∙ is_not)

pub held_told : (c : Circuit) (runs : List Run) (seen : Seen) (nears : List Near) (near : Near) (n : ℕ) (held : Bool) →
    AreNearest c runs (asked (reset_state c) seen) nears → near ≡ get_or nears 6 near → n ≡ length c.flops → held ≡ (near.count == n) →
    TellsHeld c runs held
held_told c runs seen nears near n held are at width h =
    held_is c runs near n held (at_place c runs (asked (reset_state c) seen) nears 6 near are (omega arith) at) width h
