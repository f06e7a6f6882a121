-- The runs that last to a cycle.
use Rattle.std.proofs.Common.{◌≡◌, ℕ, ◌<◌, ◌≤◌, ◌+◌, ◌-◌, ◌*◌, ◌/◌, ◌%◌, Bool, true, false, ◌&&◌, List, length, get_or, arith, ap, ap₂, sym, subst}
use Rattle.std.proofs.Common.{◌∙◌, refl, ⊎_elim, min, max}
use Rattle.std.specs.Prelude.{◌==◌, nat_lt, nat_le, if◌then◌else◌}
use Rattle.std.specs.Int.{bit_at}
use Rattle.std.proofs.lemmas.Bool.{cases_eq, cases_lt, and_parts, ltb-true, lt-ltb, le-ltb, leb-true, le-leb, lt-leb}
use Rattle.bs_stim.specs.Packing.{bit_in, HasPut, IsClear}
use Rattle.bs_scan.specs.Moments.{Run, run_of}
use Rattle.bs_break.specs.Masks.{has}
use Rattle.bs_chip.specs.Live.{lasts, AreLive, IsLive, IsLiveWord, LastTo}
use Rattle.bs_chip.specs.Lockstep.{IsLongest}

-- ---- one lane

pub lasts_there : (runs : List Run) (cycle lane : ℕ) → lane < length runs → lasts runs cycle lane ≡ nat_le cycle (length (run_of runs (lane + 1)))
lasts_there runs cycle lane lt = ap (λ t. t && nat_le cycle (length (run_of runs (lane + 1)))) (lt-ltb lane (length runs) lt)

pub lasts_beyond : (runs : List Run) (cycle lane : ℕ) → length runs ≤ lane → lasts runs cycle lane ≡ false
lasts_beyond runs cycle lane le = ap (λ t. t && nat_le cycle (length (run_of runs (lane + 1)))) (le-ltb lane (length runs) le)

pub lasting : (runs : List Run) (cycle lane : ℕ) → lasts runs cycle lane ≡ true → (lane < length runs) × (cycle ≤ length (run_of runs (lane + 1)))
lasting runs cycle lane h =
    let parts = and_parts (nat_lt lane (length runs)) (nat_le cycle (length (run_of runs (lane + 1)))) h in
    (ltb-true lane (length runs) parts.0, leb-true cycle (length (run_of runs (lane + 1))) parts.1)

pub lasts_is : (runs : List Run) (cycle lane : ℕ) → lane < length runs → cycle ≤ length (run_of runs (lane + 1)) → lasts runs cycle lane ≡ true
lasts_is runs cycle lane lt le = lasts_there runs cycle lane lt ∙ le-leb cycle (length (run_of runs (lane + 1))) le

-- ---- all lanes, one after another

-- the lanes below a number are marked, and those of no run are clear
pub record Marked (runs : List Run) (cycle : ℕ) (old words : List ℕ) (lane : ℕ) : Type 0 where
  pub size : length words ≡ length old
  pub done : (k : ℕ) → k < lane → k < length runs → bit_in words k ≡ nat_le cycle (length (run_of runs (k + 1)))
  pub clear : IsClear (length runs) words

pub none_marked : (runs : List Run) (cycle : ℕ) (old : List ℕ) → IsClear (length runs) old → Marked runs cycle old old 0
none_marked runs cycle old clear = record { size = refl; done = λ k lt. absurd (omega (arith, lt)); clear = clear }

pub one_more_marked : (runs : List Run) (cycle : ℕ) (old mid new : List ℕ) (lane cycles : ℕ) (bit : Bool) → lane < length runs →
    cycles ≡ length (run_of runs (lane + 1)) → bit ≡ nat_le cycle cycles → Marked runs cycle old mid lane →
    HasPut (lane / 64 * 64 + lane % 64) bit mid new → Marked runs cycle old new (lane + 1)
one_more_marked runs cycle old mid new lane cycles bit here e f h put =
    let at : lane / 64 * 64 + lane % 64 ≡ lane = omega arith in
    let p : HasPut lane bit mid new = (let P : ℕ → Type 0 = λ n. HasPut n bit mid new in subst P at put) in
    record {
      size = p.size ∙ h.size;
      done = λ k lt there.
          ⊎_elim
          (λ (same : k ≡ lane).
          let P : ℕ → Type 0 = λ n. bit_in new n ≡ nat_le cycle (length (run_of runs (n + 1))) in
          subst P (sym same) (p.here ∙ (f ∙ ap (nat_le cycle) e)))
          (λ (other : k ≡ lane → ⊥). p.others k other ∙ h.done k (omega (arith, lt, other)) there)
          (cases_eq k lane);
      clear = record { each = λ place le. p.others place (λ e. omega (arith, e, le, here)) ∙ h.clear.each place le };
    }

pub all_marked : (runs : List Run) (cycle : ℕ) (old words : List ℕ) (lane : ℕ) → length runs ≤ lane → Marked runs cycle old words lane →
    AreLive runs cycle words
all_marked runs cycle old words lane le h =
    record {
      each = λ k.
          ⊎_elim (λ (lt : k < length runs). h.done k (omega (arith, lt, le)) lt ∙ sym (lasts_there runs cycle k lt))
          (λ (beyond : length runs ≤ k). h.clear.each k beyond ∙ sym (lasts_beyond runs cycle k beyond))
          (cases_lt k (length runs));
    }

pub clear_beyond : (runs : List Run) (words : List ℕ) (cycle until : ℕ) → IsLive runs words cycle until → IsClear (length runs) words
clear_beyond runs words cycle until h = record { each = λ place le. h.live.each place ∙ lasts_beyond runs cycle place le }

-- of the runs below a number, those that last to a cycle last to another one
pub record LastSo (runs : List Run) (cycle until lane : ℕ) : Type 0 where
  pub each : (k : ℕ) → k < lane → k < length runs → cycle ≤ length (run_of runs (k + 1)) → until ≤ length (run_of runs (k + 1))

pub none_last : (runs : List Run) (cycle until : ℕ) → LastSo runs cycle until 0
none_last runs cycle until = record { each = λ k lt. absurd (omega (arith, lt)) }

pub one_more_last : (runs : List Run) (cycle until lane cycles new : ℕ) → LastSo runs cycle until lane → cycles ≡ length (run_of runs (lane + 1)) →
    new ≡ (if nat_le cycle cycles then min until cycles else until) → LastSo runs cycle new (lane + 1)
one_more_last runs cycle until lane cycles new h e f =
    record {
      each = λ k lt there last.
          ⊎_elim
          (λ (same : k ≡ lane).
          let P : ℕ → Type 0 = λ n. cycle ≤ length (run_of runs (n + 1)) → new ≤ length (run_of runs (n + 1)) in
          subst P (sym same) here last)
          (λ (other : k ≡ lane → ⊥). omega (arith, h.each k (omega (arith, lt, other)) there last, less))
          (cases_eq k lane);
    }
  where
    less : new ≤ until
    less = by (nat_le cycle cycles) f
      where
        by : (t : Bool) → new ≡ (if t then min until cycles else until) → new ≤ until
        by true g = omega (arith, g)
        by false g = omega (arith, g)

    here : cycle ≤ length (run_of runs (lane + 1)) → new ≤ length (run_of runs (lane + 1))
    here le =
        let yes_it : nat_le cycle cycles ≡ true = le-leb cycle cycles (omega (arith, le, e)) in
        let g : new ≡ min until cycles = f ∙ ap (λ t. if t then min until cycles else until) yes_it in
        omega (arith, g, e)

pub all_last : (runs : List Run) (cycle until lane : ℕ) → length runs ≤ lane → LastSo runs cycle until lane → LastTo runs cycle until
all_last runs cycle until lane le h =
    record {
      each = λ k t.
          let there = lasting runs cycle k t in
          h.each k (omega (arith, there.0, le)) there.0 there.1;
    }

-- none of the runs below a number has more cycles
pub record LongestSo (runs : List Run) (lane most : ℕ) : Type 0 where
  pub each : (k : ℕ) → k < lane → k < length runs → length (run_of runs (k + 1)) ≤ most

pub longest_first : (runs : List Run) → LongestSo runs 0 0
longest_first runs = record { each = λ k lt. absurd (omega (arith, lt)) }

pub longest_more : (runs : List Run) (lane most cycles new : ℕ) → LongestSo runs lane most → cycles ≡ length (run_of runs (lane + 1)) →
    new ≡ max most cycles → LongestSo runs (lane + 1) new
longest_more runs lane most cycles new h e f =
    record {
      each = λ k lt there.
          ⊎_elim
          (λ (same : k ≡ lane). (let P : ℕ → Type 0 = λ n. length (run_of runs (n + 1)) ≤ new in subst P (sym same) (omega (arith, e, f))))
          (λ (other : k ≡ lane → ⊥). omega (arith, h.each k (omega (arith, lt, other)) there, f))
          (cases_eq k lane);
    }

pub longest_all : (runs : List Run) (lane most : ℕ) → length runs ≤ lane → LongestSo runs lane most → IsLongest runs most
longest_all runs lane most le h =
    record {
      each = λ r from there.
          let back : r - 1 + 1 ≡ r = omega (arith, from) in
          let P : ℕ → Type 0 = λ n. length (run_of runs n) ≤ most in
          subst P back (h.each (r - 1) (omega (arith, from, there, le)) (omega (arith, from, there)));
    }

-- ---- the words of a cycle

-- the words of a cycle are those of a later one, up to which all runs last that last to the first
pub still_live : (runs : List Run) (words : List ℕ) (from until cycle : ℕ) → from ≤ cycle → cycle ≤ until → IsLive runs words from until →
    IsLive runs words cycle until
still_live runs words from until cycle le lasts_it h =
    record {
      size = h.size;
      few = h.few;
      live = record {
        each = λ k.
            ⊎_elim (λ (lt : k < length runs). h.live.each k ∙ (lasts_there runs from k lt ∙ (same k lt ∙ sym (lasts_there runs cycle k lt))))
            (λ (beyond : length runs ≤ k). h.live.each k ∙ (lasts_beyond runs from k beyond ∙ sym (lasts_beyond runs cycle k beyond)))
            (cases_lt k (length runs));
      };
      last = record {
        each = λ k t.
            let there = lasting runs cycle k t in
            h.last.each k (lasts_is runs from k there.0 (omega (arith, there.1, le)));
      };
    }
  where
    same : (k : ℕ) → k < length runs → nat_le from (length (run_of runs (k + 1))) ≡ nat_le cycle (length (run_of runs (k + 1)))
    same k lt =
        ⊎_elim
        (λ (short : length (run_of runs (k + 1)) < from).
        lt-leb from (length (run_of runs (k + 1))) short ∙ sym (lt-leb cycle (length (run_of runs (k + 1))) (omega (arith, short, le))))
        (λ (long : from ≤ length (run_of runs (k + 1))).
        le-leb from (length (run_of runs (k + 1))) long
        ∙ sym (le-leb cycle (length (run_of runs (k + 1))) (omega (arith, h.last.each k (lasts_is runs from k lt long), lasts_it))))
        (cases_lt (length (run_of runs (k + 1))) from)

-- a bit of a word, by its lane
pub bit_of_lane : (words : List ℕ) (word b : ℕ) → b < 64 → bit_in words (word * 64 + b) ≡ has (get_or words word 0) b
bit_of_lane words word b lt =
    let q : (word * 64 + b) / 64 ≡ word = omega (arith, lt) in
    let r : (word * 64 + b) % 64 ≡ b = omega (arith, lt) in
    ap₂ (λ i j. bit_at (get_or words i 0) j == 1) q r

pub live_word : (runs : List Run) (words : List ℕ) (cycle until word : ℕ) → IsLive runs words cycle until → IsLiveWord runs cycle word (get_or words word 0)
live_word runs words cycle until word h = record { each = λ b lt. sym (bit_of_lane words word b lt) ∙ h.live.each (word * 64 + b) }
