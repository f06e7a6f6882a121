-- What is counted is what the cycles are.
use Rattle.std.proofs.Common.{◌≡◌, ℕ, ◌+◌, ◌*◌, ◌^◌, ◌<◌, ◌≤◌, suc, min, Bool, true, false, cond, nat_le, nat_lt, List, [], ◌∷◌, ◌++◌, length, filter, slice_index_or, refl, ap, sym, ◌∙◌, arith, append-nil, zero-add}
use Rattle.std.specs.Prelude.{◌==◌, ◌&&◌}
use Rattle.std.proofs.lemmas.Bool.{cond-true, cond-false, false≢true, le-leb, leb-true, ltb-true, ltb-false, and_from, and_left, and_right}
use Rattle.std.proofs.lemmas.List.{length_push}
use Rattle.std.proofs.lemmas.List.Elements.{filter-append}
use Rattle.std.proofs.lemmas.List.Sums.{sum_by_push}
use Rattle.bs_net.specs.Circuit.{Circuit, next}
use Rattle.bs_scan.specs.Moments.{Run, state_at}
use Rattle.bs_stim.specs.declared.limits.TheConstants.{MAX_CYCLES}
use Rattle.bs_inspect_check.specs.declared.level.FlopLevel.{FlopLevel}
use Rattle.bs_inspect_check.specs.declared.tally.CycleEnd.{CycleEnd}
use Rattle.bs_inspect_check.specs.declared.tally.RunTally.{RunTally as CodeTally}
use Rattle.bs_inspect_check.specs.Flops.{agreeing, count_unknown, cycle_end, differs, ends_from, first_different, is_different, is_recorded, shared, sum_unknown, unknown_at}
use Rattle.bs_inspect_check.specs.Tallies.{agreed, different, is_open, IsSmall, looked, next_state, passed, stepped, tally_in, tally_of, RunTally}
use Rattle.bs_inspect_check.proofs.ListLemmas.{before_all, before_push, first_push, none_first}

right_part : (x y : Bool) → (x && y) ≡ true → y ≡ true
right_part true y e = e
right_part false y e = absurd (false≢true e)

-- ---- one cycle more

ends_push : (c : Circuit) (run : Run) (t : ℕ) (done : List (List FlopLevel)) (levels : List FlopLevel) →
    ends_from c run t (done ++ levels ∷ []) ≡ ends_from c run t done ++ cycle_end c run (t + length done) levels ∷ []
ends_push c run t [] levels = ap (λ (n : ℕ). cycle_end c run n levels ∷ []) (let e : t ≡ t + 0 = omega arith in e)
ends_push c run t (l ∷ done) levels =
    ap (λ (es : List CycleEnd). cycle_end c run t l ∷ es)
    (ends_push c run (t + 1) done levels
    ∙ ap (λ (n : ℕ). ends_from c run (t + 1) done ++ cycle_end c run n levels ∷ []) (let e : (t + 1) + length done ≡ t + suc (length done) = omega arith in e))

shared_push : (c : Circuit) (run : Run) (done : List (List FlopLevel)) (levels : List FlopLevel) →
    shared c run (done ++ levels ∷ [])
    ≡ shared c run done ++ cond (nat_le (length done) (length run)) (cycle_end c run (length done) levels ∷ []) []
shared_push c run done levels =
    ap (filter (is_recorded run))
    (ends_push c run 0 done levels ∙ ap (λ (n : ℕ). ends_from c run 0 done ++ cycle_end c run n levels ∷ []) (zero-add (length done)))
    ∙ filter-append (is_recorded run) (ends_from c run 0 done) (cycle_end c run (length done) levels ∷ [])

ends_length : (c : Circuit) (run : Run) (t : ℕ) (done : List (List FlopLevel)) → length (ends_from c run t done) ≡ length done
ends_length c run t [] = refl
ends_length c run t (l ∷ done) = ap suc (ends_length c run (t + 1) done)

-- cycles of the run are all shared
all_shared : (c : Circuit) (run : Run) (t : ℕ) (done : List (List FlopLevel)) → t + length done ≤ length run + 1 →
    filter (is_recorded run) (ends_from c run t done) ≡ ends_from c run t done
all_shared c run t [] le = refl
all_shared c run t (l ∷ done) le =
    cond-true (nat_le t (length run)) (cycle_end c run t l ∷ filter (is_recorded run) (ends_from c run (t + 1) done))
    (filter (is_recorded run) (ends_from c run (t + 1) done)) (le-leb t (length run) (omega (arith, le)))
    ∙ ap (λ (es : List CycleEnd). cycle_end c run t l ∷ es) (all_shared c run (t + 1) done (omega (arith, le)))

shared_length : (c : Circuit) (run : Run) (done : List (List FlopLevel)) → length done ≤ length run → length (shared c run done) ≡ length done
shared_length c run done le = ap length (all_shared c run 0 done (omega (arith, le))) ∙ ends_length c run 0 done

-- ---- what is counted

-- what is counted of cycles
abbrev counted : Circuit → Run → ℕ → (agree first : List CycleEnd) → RunTally
counted c run ended agree first =
    record {
      ended = ended;
      agreed = length agree;
      unknown = sum_unknown agree;
      differing = first;
      state = state_at c run (min (length agree) (length run));
    }

-- with one cycle more, which the run has or not
more_of : (c : Circuit) (run : Run) (done : List (List FlopLevel)) (levels : List FlopLevel) (r : Bool) → nat_le (length done) (length run) ≡ r →
    tally_of c run (done ++ levels ∷ [])
    ≡ counted c run (length done + 1)
    (agreeing (shared c run done ++ cond r (cycle_end c run (length done) levels ∷ []) []))
    (first_different (shared c run done ++ cond r (cycle_end c run (length done) levels ∷ []) []))
more_of c run done levels r e =
    let moved : shared c run (done ++ levels ∷ []) ≡ shared c run done ++ cond r (cycle_end c run (length done) levels ∷ []) [] =
    shared_push c run done levels ∙ ap (λ (b : Bool). shared c run done ++ cond b (cycle_end c run (length done) levels ∷ []) []) e in
    λ i. counted c run (length_push done levels i) (agreeing (moved i)) (first_different (moved i))

-- a cycle behind those of the run
push_past : (c : Circuit) (run : Run) (done : List (List FlopLevel)) (levels : List FlopLevel) → nat_le (length done) (length run) ≡ false →
    stepped c run (tally_of c run done) levels ≡ tally_of c run (done ++ levels ∷ [])
push_past c run done levels off =
    let xs : List CycleEnd = shared c run done in
    cond-false (is_open (length run) (length done) (first_different xs)) (looked c run (tally_of c run done) levels) (passed (tally_of c run done))
    (and_right (length (first_different xs) == 0) (nat_le (length done) (length run)) off)
    ∙ sym (more_of c run done levels false off
    ∙ ap (λ (es : List CycleEnd). counted c run (length done + 1) (agreeing es) (first_different es)) (append-nil xs))

-- a cycle behind one that differs
push_behind : (c : Circuit) (run : Run) (done : List (List FlopLevel)) (levels : List FlopLevel) → nat_le (length done) (length run) ≡ true →
    (length (first_different (shared c run done)) == 0) ≡ false →
    stepped c run (tally_of c run done) levels ≡ tally_of c run (done ++ levels ∷ [])
push_behind c run done levels on some =
    let xs : List CycleEnd = shared c run done in
    let e : CycleEnd = cycle_end c run (length done) levels in
    let agree : agreeing (xs ++ e ∷ []) ≡ agreeing xs =
    before_push is_different xs e
    ∙ cond-false (length (first_different xs) == 0) (agreeing xs ++ cond (is_different e) [] (e ∷ [])) (agreeing xs) some in
    let first : first_different (xs ++ e ∷ []) ≡ first_different xs =
    first_push is_different xs e ∙ cond-false (length (first_different xs) == 0) (cond (is_different e) (e ∷ []) []) (first_different xs) some in
    cond-false (is_open (length run) (length done) (first_different xs)) (looked c run (tally_of c run done) levels) (passed (tally_of c run done))
    (and_left (length (first_different xs) == 0) (nat_le (length done) (length run)) some)
    ∙ sym (more_of c run done levels true on ∙ λ i. counted c run (length done + 1) (agree i) (first i))

-- the state in which a run stands whose cycles all agree
open_state : (c : Circuit) (run : Run) (done : List (List FlopLevel)) → length done ≤ length run →
    (length (first_different (shared c run done)) == 0) ≡ true → length (agreeing (shared c run done)) ≡ length done
open_state c run done le none = ap length (before_all is_different (shared c run done) none) ∙ shared_length c run done le

-- the state of the next cycle
state_next : (c : Circuit) (run : Run) (n : ℕ) → next c (state_at c run n) (slice_index_or run n []) ≡ state_at c run (suc n)
unfolding state_at
state_next c run n = refl

-- the state behind a cycle
state_more : (c : Circuit) (run : Run) (n m : ℕ) → n ≤ length run → m ≡ n + 1 →
    next_state c run n (state_at c run n) ≡ state_at c run (min m (length run))
state_more c run n m le e = by (nat_lt n (length run)) refl
  where
    by : (b : Bool) → nat_lt n (length run) ≡ b → next_state c run n (state_at c run n) ≡ state_at c run (min m (length run))
    by true lt =
        cond-true (nat_lt n (length run)) (next c (state_at c run n) (slice_index_or run n [])) (state_at c run n) lt
        ∙ (state_next c run n
        ∙ ap (state_at c run) (let h : suc n ≡ min m (length run) = omega (arith, e, ltb-true n (length run) lt) in h))
    by false ge =
        cond-false (nat_lt n (length run)) (next c (state_at c run n) (slice_index_or run n [])) (state_at c run n) ge
        ∙ ap (state_at c run) (let h : n ≡ min m (length run) = omega (arith, e, le, ltb-false n (length run) ge) in h)

abbrev by_look : RunTally → List FlopLevel → List Bool → Bool → RunTally
by_look t levels behind b = cond b (different t levels) (agreed t (count_unknown levels) behind)

-- a cycle at which the run is looked at
push_open : (c : Circuit) (run : Run) (done : List (List FlopLevel)) (levels : List FlopLevel) → nat_le (length done) (length run) ≡ true →
    (length (first_different (shared c run done)) == 0) ≡ true →
    looked c run (tally_of c run done) levels ≡ tally_of c run (done ++ levels ∷ [])
push_open c run done levels on none = by (is_different e) refl
  where
    xs : List CycleEnd
    xs = shared c run done

    e : CycleEnd
    e = cycle_end c run (length done) levels

    here : length (agreeing xs) ≡ length done
    here = open_state c run done (leb-true (length done) (length run) on) none

    stands : state_at c run (min (length (agreeing xs)) (length run)) ≡ state_at c run (length done)
    stands = ap (state_at c run) (let h : min (length (agreeing xs)) (length run) ≡ length done = omega (arith, here, leb-true (length done) (length run) on) in h)

    agree : (b : Bool) → is_different e ≡ b → agreeing (xs ++ e ∷ []) ≡ agreeing xs ++ cond b [] (e ∷ [])
    agree b is =
        before_push is_different xs e
        ∙ (cond-true (length (first_different xs) == 0) (agreeing xs ++ cond (is_different e) [] (e ∷ [])) (agreeing xs) none
        ∙ ap (λ (d : Bool). agreeing xs ++ cond d [] (e ∷ [])) is)

    first : (b : Bool) → is_different e ≡ b → first_different (xs ++ e ∷ []) ≡ cond b (e ∷ []) []
    first b is =
        first_push is_different xs e
        ∙ (cond-true (length (first_different xs) == 0) (cond (is_different e) (e ∷ []) []) (first_different xs) none
        ∙ ap (λ (d : Bool). cond d (e ∷ []) []) is)

    behind : List Bool
    behind = next_state c run (length done) (state_at c run (min (length (agreeing xs)) (length run)))

    seen : (b : Bool) → is_different e ≡ b → looked c run (tally_of c run done) levels ≡ by_look (tally_of c run done) levels behind b
    seen b is = ap (by_look (tally_of c run done) levels behind) (ap (λ (s : List Bool). differs s levels) stands ∙ is)

    by : (b : Bool) → is_different e ≡ b → looked c run (tally_of c run done) levels ≡ tally_of c run (done ++ levels ∷ [])
    by true is =
        seen true is
        ∙ ((λ i. record {
          ended = length done + 1;
          agreed = length (agreeing xs);
          unknown = sum_unknown (agreeing xs);
          differing = none_first is_different xs none i ++ (record { cycle = length done; state = stands i; levels = levels }) ∷ [];
          state = state_at c run (min (length (agreeing xs)) (length run));
        })
        ∙ sym (more_of c run done levels true on
        ∙ λ i. counted c run (length done + 1) ((agree true is ∙ append-nil (agreeing xs)) i) (first true is i)))
    by false is =
        seen false is
        ∙ ((λ i. record {
          ended = length done + 1;
          agreed = sym (length_push (agreeing xs) e) i;
          unknown = sym (sum_by_push unknown_at (agreeing xs) e) i;
          differing = none_first is_different xs none i;
          state =
              (ap (next_state c run (length done)) stands
              ∙ state_more c run (length done) (length (agreeing xs ++ e ∷ [])) (leb-true (length done) (length run) on)
              (length_push (agreeing xs) e ∙ ap (λ (n : ℕ). n + 1) here))
              i;
        })
        ∙ sym (more_of c run done levels true on ∙ λ i. counted c run (length done + 1) (agree false is i) (first false is i)))

-- one cycle more
pub tally_push : (c : Circuit) (run : Run) (done : List (List FlopLevel)) (levels : List FlopLevel) →
    stepped c run (tally_of c run done) levels ≡ tally_of c run (done ++ levels ∷ [])
tally_push c run done levels = by (nat_le (length done) (length run)) refl (length (first_different (shared c run done)) == 0) refl
  where
    by : (r : Bool) → nat_le (length done) (length run) ≡ r → (q : Bool) → (length (first_different (shared c run done)) == 0) ≡ q →
        stepped c run (tally_of c run done) levels ≡ tally_of c run (done ++ levels ∷ [])
    by false off q is = push_past c run done levels off
    by true on false some = push_behind c run done levels on some
    by true on true none =
        cond-true (is_open (length run) (length done) (first_different (shared c run done))) (looked c run (tally_of c run done) levels)
        (passed (tally_of c run done))
        (and_from (length (first_different (shared c run done)) == 0) (nat_le (length done) (length run)) none on)
        ∙ push_open c run done levels on none

-- ---- the counts are small

pub small_differs : (old new : CodeTally) → IsSmall old → new.agreed ≡ old.agreed → new.unknown ≡ old.unknown → new.ended ≡ old.ended + 1 → IsSmall new
small_differs old new small a u e = record {
  agreed = omega (arith, small.agreed, a, e);
  unknown = omega (arith, small.unknown, a, u);
}

pub small_agrees : (old new : CodeTally) (n : ℕ) → IsSmall old → n < 2 ^ 32 → new.agreed ≡ old.agreed + 1 → new.unknown ≡ old.unknown + n →
    new.ended ≡ old.ended + 1 → IsSmall new
small_agrees old new n small few a u e = record {
  agreed = omega (arith, small.agreed, a, e);
  unknown = omega (arith, small.unknown, few, a, u);
}

pub small_passed : (old new : CodeTally) → IsSmall old → new.ended ≡ old.ended + 1 → new.agreed ≡ old.agreed → new.unknown ≡ old.unknown → IsSmall new
small_passed old new small e a u = small_differs old new small a u e

pub unknown_fits : (t : CodeTally) (n : ℕ) → IsSmall t → t.ended ≤ MAX_CYCLES → n < 2 ^ 32 → t.unknown + n < 2 ^ 64
unknown_fits t n small le few = omega (arith, small.agreed, small.unknown, le, few)

pub agreed_fits : (t : CodeTally) → IsSmall t → t.ended ≤ MAX_CYCLES → t.agreed < 2 ^ 63
agreed_fits t small le = omega (arith, small.agreed, le)

-- ---- the code's steps

pub differs_is : (old new : CodeTally) (state : List Bool) (levels : List FlopLevel) (e : CycleEnd) → e ≡ record { cycle = old.ended; state = state; levels = levels } →
    new.ended ≡ old.ended + 1 → new.agreed ≡ old.agreed → new.unknown ≡ old.unknown → new.differing ≡ old.differing ++ e ∷ [] →
    tally_in new state ≡ different (tally_in old state) levels
differs_is old new state levels e is ended agreed unknown differing = λ i. record {
  ended = ended i;
  agreed = agreed i;
  unknown = unknown i;
  differing = (differing ∙ ap (λ (x : CycleEnd). old.differing ++ x ∷ []) is) i;
  state = state;
}

pub looked_differs : (c : Circuit) (run : Run) (t u : RunTally) (levels : List FlopLevel) (d : Bool) → d ≡ differs t.state levels → d ≡ true →
    u ≡ different t levels → u ≡ looked c run t levels
looked_differs c run t u levels d is on goes =
    goes
    ∙ sym (cond-true (differs t.state levels) (different t levels) (agreed t (count_unknown levels) (next_state c run t.ended t.state)) (sym is ∙ on))

pub looked_agrees : (c : Circuit) (run : Run) (old new : CodeTally) (state after : List Bool) (levels : List FlopLevel) (d : Bool) (n : ℕ) →
    d ≡ differs state levels → d ≡ false → n ≡ count_unknown levels → after ≡ next_state c run old.ended state → new.ended ≡ old.ended + 1 →
    new.agreed ≡ old.agreed + 1 → new.unknown ≡ old.unknown + n → new.differing ≡ old.differing → tally_in new after ≡ looked c run (tally_in old state) levels
looked_agrees c run old new state after levels d n is off count moved ended more unknown differing =
    (λ i. record {
      ended = ended i;
      agreed = more i;
      unknown = (unknown ∙ ap (λ (k : ℕ). old.unknown + k) count) i;
      differing = differing i;
      state = moved i;
    })
    ∙ sym (cond-false (differs state levels) (different (tally_in old state) levels)
    (agreed (tally_in old state) (count_unknown levels) (next_state c run old.ended state)) (sym is ∙ off))

pub open_cycle : (cycles ended : ℕ) (differing : List CycleEnd) (b : Bool) → b ≡ is_open cycles ended differing → b ≡ true → cycles ≤ MAX_CYCLES → ended ≤ MAX_CYCLES
open_cycle cycles ended differing b is on few =
    omega (arith, leb-true ended cycles (right_part (length differing == 0) (nat_le ended cycles) (sym is ∙ on)), few)

pub stepped_open : (c : Circuit) (run : Run) (t u : RunTally) (levels : List FlopLevel) (cycles : ℕ) (b : Bool) → cycles ≡ length run →
    b ≡ is_open cycles t.ended t.differing → b ≡ true → u ≡ looked c run t levels → u ≡ stepped c run t levels
stepped_open c run t u levels cycles b n is on goes =
    goes
    ∙ sym (cond-true (is_open (length run) t.ended t.differing) (looked c run t levels) (passed t)
    (ap (λ (k : ℕ). is_open k t.ended t.differing) (sym n) ∙ (sym is ∙ on)))

pub stepped_passed : (c : Circuit) (run : Run) (old new : CodeTally) (state : List Bool) (levels : List FlopLevel) (cycles : ℕ) (b : Bool) →
    cycles ≡ length run → b ≡ is_open cycles old.ended old.differing → b ≡ false → new.ended ≡ old.ended + 1 → new.agreed ≡ old.agreed →
    new.unknown ≡ old.unknown → new.differing ≡ old.differing → tally_in new state ≡ stepped c run (tally_in old state) levels
stepped_passed c run old new state levels cycles b n is off ended same unknown differing =
    (λ i. record { ended = ended i; agreed = same i; unknown = unknown i; differing = differing i; state = state })
    ∙ sym (cond-false (is_open (length run) old.ended old.differing) (looked c run (tally_in old state) levels) (passed (tally_in old state))
    (ap (λ (k : ℕ). is_open k old.ended old.differing) (sym n) ∙ (sym is ∙ off)))
