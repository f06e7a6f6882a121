-- The lowest run in a listed state: bits of a mask, words of planes, and cycles.
use Rattle.std.proofs.Common.{◌≡◌, ℕ, ◌<◌, ◌≤◌, ◌+◌, ◌-◌, ◌*◌, Bool, true, false, ◌&&◌, List, length, arith, ap, sym, subst, ◌∙◌, ⊎_elim, Option}
use Rattle.std.proofs.Common.{Some, None}
use Rattle.std.specs.Prelude.{◌==◌, MatchOption}
use Rattle.std.specs.Int.{trailing_zeros, w64}
use Rattle.std.proofs.lemmas.Bool.{cases_eq, cases_lt, and_parts}
use Rattle.std.proofs.lemmas.Nat.Bits.{bit_at-trailing_zeros, bit_at-zero}
use Rattle.bs_net.specs.Circuit.{Circuit}
use Rattle.bs_lanes.specs.Planes.{lane}
use Rattle.bs_scan.specs.Moments.{Run, run_of, is_listed}
use Rattle.bs_break.specs.Bank.{Banked, Hits}
use Rattle.bs_break.specs.Masks.{has}
use Rattle.bs_chip.specs.Live.{Lasting, lasts, IsLiveWord}
use Rattle.bs_chip.specs.Lockstep.{wide_of, is_hit, ShowsCycle, IsLowest, IsLowestHit, NoneAmong, NoneBefore, NoneHits}
use Rattle.bs_chip.specs.Replay.{lists}
use Rattle.bs_chip.proofs.LiveLemmas.{lasting, lasts_is}

-- ---- bits of a mask

hit_is : (live : Lasting) (bank : Banked) (wide : ℕ) (planes : List ℕ) (word mask hits b : ℕ) → IsLiveWord live.runs live.cycle word mask →
    Hits bank wide planes word mask hits → b < 64 → has hits b ≡ is_hit live bank wide planes (word * 64 + b)
hit_is live bank wide planes word mask hits b m h lt =
    h.each b lt ∙ ap (λ t. t && is_listed bank.states (lane wide bank.width planes (word * 64 + b))) (m.each b lt)

none_of : (live : Lasting) (bank : Banked) (wide : ℕ) (planes : List ℕ) (word mask hits below : ℕ) → IsLiveWord live.runs live.cycle word mask →
    Hits bank wide planes word mask hits → below ≤ 64 → ((b : ℕ) → b < below → has hits b ≡ false) →
    NoneHits live bank wide planes (word * 64) (word * 64 + below)
none_of live bank wide planes word mask hits below m h few none =
    record {
      each = λ r lo hi.
          let e : word * 64 + (r - word * 64) ≡ r = omega (arith, lo) in
          ap (is_hit live bank wide planes) (sym e)
          ∙ (sym (hit_is live bank wide planes word mask hits (r - word * 64) m h (omega (arith, lo, hi, few)))
          ∙ none (r - word * 64) (omega (arith, lo, hi)));
    }

pub no_hit : (live : Lasting) (bank : Banked) (wide : ℕ) (planes : List ℕ) (word mask hits : ℕ) → IsLiveWord live.runs live.cycle word mask →
    Hits bank wide planes word mask hits → hits ≡ 0 → NoneHits live bank wide planes (word * 64) (word * 64 + 64)
no_hit live bank wide planes word mask hits m h zero_hits =
    none_of live bank wide planes word mask hits 64 m h (omega arith) (λ b lt. ap (λ n. has n b) zero_hits ∙ ap (λ n. n == 1) (bit_at-zero b))

pub lowest_hit : (live : Lasting) (bank : Banked) (wide : ℕ) (planes : List ℕ) (word mask hits : ℕ) → IsLiveWord live.runs live.cycle word mask →
    Hits bank wide planes word mask hits → 0 < hits → hits < 18446744073709551616 →
    IsLowestHit live bank wide planes (word * 64) (word * 64 + trailing_zeros w64 hits + 1)
lowest_hit live bank wide planes word mask hits m h some_hit small =
    let low = bit_at-trailing_zeros w64 hits some_hit small in
    let b : ℕ = trailing_zeros w64 hits in
    let back : word * 64 + b ≡ word * 64 + b + 1 - 1 = omega arith in
    let P : ℕ → Type 0 = λ n. is_hit live bank wide planes n ≡ true in
    let Q : ℕ → Type 0 = λ n. NoneHits live bank wide planes (word * 64) n in
    record {
      some = omega arith;
      behind = omega arith;
      hit = subst P back (sym (hit_is live bank wide planes word mask hits b m h low.0) ∙ ap (λ n. n == 1) low.1);
      before =
          subst Q back
          (none_of live bank wide planes word mask hits b m h (omega (arith, low.0)) (λ i lt. ap (λ n. n == 1) (low.2 i lt)));
    }

-- ---- words

pub no_words : (live : Lasting) (bank : Banked) (wide : ℕ) (planes : List ℕ) → NoneHits live bank wide planes 0 (0 * 64)
no_words live bank wide planes = record { each = λ r lo hi. absurd (omega (arith, hi)) }

joined : (live : Lasting) (bank : Banked) (wide : ℕ) (planes : List ℕ) (mid below : ℕ) → NoneHits live bank wide planes 0 mid →
    NoneHits live bank wide planes mid below → NoneHits live bank wide planes 0 below
joined live bank wide planes mid below a b =
    record { each = λ r lo hi. ⊎_elim (λ (lt : r < mid). a.each r lo lt) (λ (le : mid ≤ r). b.each r le hi) (cases_lt r mid) }

pub one_more_word : (live : Lasting) (bank : Banked) (wide : ℕ) (planes : List ℕ) (word : ℕ) → NoneHits live bank wide planes 0 (word * 64) →
    NoneHits live bank wide planes (word * 64) (word * 64 + 64) → NoneHits live bank wide planes 0 ((word + 1) * 64)
one_more_word live bank wide planes word a b =
    let e : word * 64 + 64 ≡ (word + 1) * 64 = omega arith in
    let P : ℕ → Type 0 = λ k. NoneHits live bank wide planes 0 k in
    subst P e (joined live bank wide planes (word * 64) (word * 64 + 64) a b)

pub no_more_words : (live : Lasting) (bank : Banked) (wide : ℕ) (planes : List ℕ) (word : ℕ) → wide ≤ word → NoneHits live bank wide planes 0 (word * 64) →
    NoneHits live bank wide planes 0 (wide * 64)
no_more_words live bank wide planes word le a = record { each = λ r lo hi. a.each r lo (omega (arith, hi, le)) }

pub lowest_of_all : (live : Lasting) (bank : Banked) (wide : ℕ) (planes : List ℕ) (word run : ℕ) → NoneHits live bank wide planes 0 (word * 64) →
    IsLowestHit live bank wide planes (word * 64) run → IsLowestHit live bank wide planes 0 run
lowest_of_all live bank wide planes word run a low =
    record {
      some = low.some;
      behind = omega arith;
      hit = low.hit;
      before = joined live bank wide planes (word * 64) (run - 1) a low.before;
    }

-- ---- runs

-- a lane whose run lasts to a cycle is a hit where the state of the run is listed
hit_is_listed : (c : Circuit) (runs : List Run) (bank : Banked) (planes : List ℕ) (cycle r : ℕ) → bank.width ≡ length c.flops →
    ShowsCycle c runs planes cycle → 1 ≤ r → r ≤ length runs → cycle ≤ length (run_of runs r) →
    is_hit (record { runs = runs; cycle = cycle }) bank (wide_of (length runs)) planes (r - 1) ≡ lists c (run_of runs r) bank.states cycle
hit_is_listed c runs bank planes cycle r width shows from there last =
    let back : r ≡ r - 1 + 1 = omega (arith, from) in
    let P : ℕ → Type 0 = λ k. cycle ≤ length (run_of runs k) in
    let wide : ℕ = wide_of (length runs) in
    ap (λ t. t && is_listed bank.states (lane wide bank.width planes (r - 1))) (lasts_is runs cycle (r - 1) (omega (arith, from, there)) (subst P back last))
    ∙ (ap (λ w. is_listed bank.states (lane wide w planes (r - 1))) width ∙ ap (is_listed bank.states) (shows.each r from there last))

-- what is found among lanes, said of runs
of_runs : (c : Circuit) (runs : List Run) (bank : Banked) (planes : List ℕ) (cycle : ℕ) (found : Option ℕ) → bank.width ≡ length c.flops →
    length runs ≤ 64 * wide_of (length runs) → ShowsCycle c runs planes cycle →
    MatchOption found (NoneHits (record { runs = runs; cycle = cycle }) bank (wide_of (length runs)) planes 0 (wide_of (length runs) * 64))
    (IsLowestHit (record { runs = runs; cycle = cycle }) bank (wide_of (length runs)) planes 0) →
    MatchOption found (NoneAmong c runs bank.states cycle 0 (length runs)) (IsLowest c runs bank.states cycle 0)
of_runs c runs bank planes cycle None width room shows none =
    record {
      each = λ r lo hi there last.
          sym (hit_is_listed c runs bank planes cycle r width shows (omega (arith, lo)) there last)
          ∙ none.each (r - 1) (omega arith) (omega (arith, lo, there, room));
    }
of_runs c runs bank planes cycle (Some r) width room shows low =
    let parts = and_parts (lasts runs cycle (r - 1)) (is_listed bank.states (lane (wide_of (length runs)) bank.width planes (r - 1))) low.hit in
    let there = lasting runs cycle (r - 1) parts.0 in
    let back : r - 1 + 1 ≡ r = omega (arith, low.some) in
    let P : ℕ → Type 0 = λ k. cycle ≤ length (run_of runs k) in
    let last : cycle ≤ length (run_of runs r) = subst P back there.1 in
    let recorded : r ≤ length runs = omega (arith, there.0, low.some) in
    record {
      behind = omega (arith, low.some);
      recorded = recorded;
      lasts = last;
      listed = sym (hit_is_listed c runs bank planes cycle r width shows low.some recorded last) ∙ low.hit;
      before = record {
        each = λ k lo hi is_there still.
            sym (hit_is_listed c runs bank planes cycle k width shows (omega (arith, lo)) is_there still)
            ∙ low.before.each (k - 1) (omega arith) (omega (arith, lo, hi));
      };
    }

pub found_in : (c : Circuit) (runs : List Run) (bank : Banked) (live : Lasting) (planes : List ℕ) (cycle wide : ℕ) (found : Option ℕ) →
    bank.width ≡ length c.flops → length runs ≤ 64 * wide_of (length runs) → ShowsCycle c runs planes cycle →
    live ≡ record { runs = runs; cycle = cycle } → wide ≡ wide_of (length runs) →
    MatchOption found (NoneHits live bank wide planes 0 (wide * 64)) (IsLowestHit live bank wide planes 0) →
    MatchOption found (NoneAmong c runs bank.states cycle 0 (length runs)) (IsLowest c runs bank.states cycle 0)
found_in c runs bank live planes cycle wide found width room shows e f h =
    let P : Lasting → Type 0 = λ l. MatchOption found (NoneHits l bank wide planes 0 (wide * 64)) (IsLowestHit l bank wide planes 0) in
    let Q : ℕ → Type 0 = λ w. MatchOption found (NoneHits (record { runs = runs; cycle = cycle }) bank w planes 0 (w * 64))
    (IsLowestHit (record { runs = runs; cycle = cycle }) bank w planes 0) in
    of_runs c runs bank planes cycle found width room shows (subst Q f (subst P e h))

-- ---- cycles

pub no_cycles : (c : Circuit) (runs : List Run) (states : List (List Bool)) → NoneBefore c runs states 0
no_cycles c runs states = record { each = λ k lt. absurd (omega (arith, lt)) }

pub one_more_cycle : (c : Circuit) (runs : List Run) (states : List (List Bool)) (limit : ℕ) → NoneBefore c runs states limit →
    NoneAmong c runs states limit 0 (length runs) → NoneBefore c runs states (limit + 1)
one_more_cycle c runs states limit h here =
    record {
      each = λ k lt.
          ⊎_elim
          (λ (same : k ≡ limit). (let P : ℕ → Type 0 = λ j. NoneAmong c runs states j 0 (length runs) in subst P (sym same) here))
          (λ (apart : k ≡ limit → ⊥). h.each k (omega (arith, lt, apart)))
          (cases_eq k limit);
    }

pub fewer_cycles : (c : Circuit) (runs : List Run) (states : List (List Bool)) (limit below : ℕ) → below ≤ limit → NoneBefore c runs states limit →
    NoneBefore c runs states below
fewer_cycles c runs states limit below le h = record { each = λ k lt. h.each k (omega (arith, lt, le)) }
