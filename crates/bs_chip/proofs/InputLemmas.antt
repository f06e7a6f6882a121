-- The planes of the data inputs, word by word.
use Rattle.std.proofs.Common.{◌≡◌, ℕ, ◌<◌, ◌≤◌, ◌+◌, ◌-◌, ◌*◌, ◌/◌, ◌%◌, ◌^◌, Bool, true, false, ◌||◌, List, [], length, get_or, set, refl}
use Rattle.std.proofs.Common.{arith, ap, sym, subst, ◌∙◌, ⊎_elim, min, get_or-set_same, get_or-set_other}
use Rattle.std.specs.Prelude.{◌==◌}
use Rattle.std.specs.Int.{w64}
use Rattle.std.specs.Int.Bits.{bit_or}
use Rattle.std.proofs.lemmas.Bool.{cases_eq, or_right, true≢false}
use Rattle.std.proofs.lemmas.List.{length-map}
use Rattle.std.proofs.lemmas.List.Elements.{All-get_or}
use Rattle.std.proofs.lemmas.List.FromFn.{fill_by_all}
use Rattle.std.proofs.lemmas.Nat.{row_fits, div-mul-add, mod-mul-add}
use Rattle.std.proofs.lemmas.Nat.Bits.{bit_at-zero, bit_at_set_same, bit_at_set_other}
use Rattle.bs_net.specs.Circuit.{Circuit}
use Rattle.bs_stim.specs.Packing.{bit_in}
use Rattle.bs_stim.specs.Runs.{Recorded, Stimulus, IsRecorded, IsStimulus, inputs_of, no_run, run_at}
use Rattle.bs_lanes.specs.Planes.{bit_place}
use Rattle.bs_lanes.proofs.PlaneLemmas.{bit_from}
use Rattle.bs_scan.specs.Moments.{Run, run_of}
use Rattle.bs_scan.proofs.CrashLemmas.{run_inputs}
use Rattle.bs_break.specs.Masks.{has}
use Rattle.bs_chip.specs.Inputs.{AreInputs, HasBit, HaveInputs, IsInputWord}
use Rattle.bs_chip.specs.Live.{lasts, IsLiveWord}
use Rattle.bs_chip.specs.Lockstep.{wide_of}
use Rattle.bs_chip.proofs.LiveLemmas.{lasting, lasts_is}

-- ---- one bit more

pub bit_wanted : (mask bit : ℕ) (wanted : Bool) → bit < 64 → wanted ≡ true →
    HasBit mask (bit_or mask (1 * 2 ^ bit % 18446744073709551616)) bit wanted
bit_wanted mask bit wanted lt e =
    record {
      here = ap (λ n. n == 1) (bit_at_set_same w64 mask bit lt) ∙ sym (or_right (has mask bit) wanted e);
      others = λ b small other. ap (λ n. n == 1) (bit_at_set_other w64 mask bit lt b other);
    }

same_or : (x y : Bool) → y ≡ false → x ≡ (x || y)
same_or true y e = refl
same_or false y e = sym e

pub bit_unwanted : (mask bit : ℕ) (wanted : Bool) → wanted ≡ false → HasBit mask mask bit wanted
bit_unwanted mask bit wanted e = record { here = same_or (has mask bit) wanted e; others = λ b small other. refl }

-- ---- a word

-- the bits below a number are right, and the others are 0
pub record WordSo (runs : List Run) (cycle word place bit mask : ℕ) : Type 0 where
  pub done : (b : ℕ) → b < bit → b < 64 → lasts runs (cycle + 1) (word * 64 + b) ≡ true →
      has mask b ≡ get_or (get_or (run_of runs (word * 64 + b + 1)) cycle []) place false
  pub clear : (b : ℕ) → bit ≤ b → b < 64 → has mask b ≡ false

pub word_first : (runs : List Run) (cycle word place : ℕ) → WordSo runs cycle word place 0 0
word_first runs cycle word place =
    record { done = λ b lt. absurd (omega (arith, lt)); clear = λ b le small. ap (λ n. n == 1) (bit_at-zero b) }

pub word_more : (runs : List Run) (cycle word place bit run mid new : ℕ) (value : Bool) → bit < 64 → run ≡ word * 64 + bit + 1 →
    value ≡ get_or (get_or (run_of runs run) cycle []) place false → HasBit mid new bit value → WordSo runs cycle word place bit mid →
    WordSo runs cycle word place (bit + 1) new
word_more runs cycle word place bit run mid new value lt e f put h =
    record {
      done = λ b less small last.
          ⊎_elim
          (λ (same : b ≡ bit).
          let P : ℕ → Type 0 = λ n. has new n ≡ get_or (get_or (run_of runs (word * 64 + n + 1)) cycle []) place false in
          subst P (sym same)
          (put.here
          ∙ (ap (λ t. t || value) (h.clear bit (omega arith) lt)
          ∙ (f ∙ ap (λ k. get_or (get_or (run_of runs k) cycle []) place false) e))))
          (λ (other : b ≡ bit → ⊥). put.others b small other ∙ h.done b (omega (arith, less, other)) small last)
          (cases_eq b bit);
      clear = λ b le small. put.others b small (λ s. omega (arith, s, le)) ∙ h.clear b (omega (arith, le)) small;
    }

pub word_skip : (runs : List Run) (cycle word place bit mask live : ℕ) (t : Bool) → bit < 64 → IsLiveWord runs (cycle + 1) word live → t ≡ has live bit →
    t ≡ false → WordSo runs cycle word place bit mask → WordSo runs cycle word place (bit + 1) mask
word_skip runs cycle word place bit mask live t lt l e f h =
    record {
      done = λ b less small last.
          ⊎_elim
          (λ (same : b ≡ bit).
          absurd (true≢false (sym last ∙ (ap (λ n. lasts runs (cycle + 1) (word * 64 + n)) same ∙ (sym (l.each bit lt) ∙ (sym e ∙ f))))))
          (λ (other : b ≡ bit → ⊥). h.done b (omega (arith, less, other)) small last)
          (cases_eq b bit);
      clear = λ b le small. h.clear b (omega (arith, le)) small;
    }

pub word_all : (runs : List Run) (cycle word place bit mask count : ℕ) → count ≡ length runs → min (count - 64 * word) 64 ≤ bit →
    WordSo runs cycle word place bit mask → IsInputWord runs cycle word place mask
word_all runs cycle word place bit mask count e le h =
    record {
      each = λ b small last.
          h.done b (omega (arith, (lasting runs (cycle + 1) (word * 64 + b) last).0, small, le, e)) small last;
    }

-- the run of a lane that is live lasts to the next cycle
pub word_there : (runs : List Run) (cycle word bit run live : ℕ) (t : Bool) → IsLiveWord runs (cycle + 1) word live → bit < 64 → t ≡ has live bit →
    t ≡ true → run ≡ word * 64 + bit + 1 → (run ≤ length runs) × (cycle < length (run_of runs run))
word_there runs cycle word bit run live t l lt e f g =
    let there = lasting runs (cycle + 1) (word * 64 + bit) (sym (l.each bit lt) ∙ (sym e ∙ f)) in
    let P : ℕ → Type 0 = λ n. cycle + 1 ≤ length (run_of runs n) in
    (omega (arith, g, there.0), omega (arith, subst P (sym g) there.1))

-- ---- all words

pub have_none : (runs : List Run) (cycle wide : ℕ) (words : List ℕ) → HaveInputs runs cycle wide 0 words
have_none runs cycle wide words = record { each = λ k lt. absurd (omega (arith, lt)) }

pub have_more : (runs : List Run) (cycle wide at word : ℕ) (words : List ℕ) → at < length words → HaveInputs runs cycle wide at words →
    IsInputWord runs cycle (at % wide) (at / wide) word → HaveInputs runs cycle wide (at + 1) (set words at word)
have_more runs cycle wide at word words lt h here =
    record {
      each = λ k less.
          ⊎_elim
          (λ (same : k ≡ at).
          let P : ℕ → Type 0 = λ n. IsInputWord runs cycle (n % wide) (n / wide) (get_or (set words at word) n 0) in
          subst P (sym same) (subst (λ (w : ℕ). IsInputWord runs cycle (at % wide) (at / wide) w) (sym (get_or-set_same words at word 0 lt)) here))
          (λ (other : k ≡ at → ⊥).
          subst (λ (w : ℕ). IsInputWord runs cycle (k % wide) (k / wide) w) (sym (get_or-set_other words at k word 0 other))
          (h.each k (omega (arith, less, other))))
          (cases_eq k at);
    }

pub have_all : (runs : List Run) (cycle wide at count : ℕ) (words : List ℕ) → count ≤ at → HaveInputs runs cycle wide at words →
    HaveInputs runs cycle wide count words
have_all runs cycle wide at count words le h = record { each = λ k lt. h.each k (omega (arith, lt, le)) }

-- ---- the lanes of the planes

-- an input line has its width
input_width : (s : Stimulus) (r cycle : ℕ) → IsStimulus s → 1 ≤ r → r ≤ length (inputs_of s) → cycle < length (run_of (inputs_of s) r) →
    length (get_or (run_of (inputs_of s) r) cycle []) ≡ s.width
input_width s r cycle sound from there last =
    let few : r - 1 < length s.runs = omega (arith, from, there, length-map s.runs (λ (run : Recorded). run.inputs)) in
    let same : run_of (inputs_of s) r ≡ (run_at s r).inputs = run_inputs s r in
    let is = All-get_or (IsRecorded s.width) s.runs (r - 1) no_run few sound.recorded in
    let P : Run → Type 0 = λ run. length (get_or run cycle []) ≡ s.width in
    subst P (sym same)
    (All-get_or (λ (input : List Bool). length input ≡ s.width) (run_at s r).inputs cycle [] (omega (arith, last, ap length same)) is.widths)

-- the bit of a lane in the plane of a data input
pub input_at : (runs : List Run) (planes : List ℕ) (cycle wide count place r : ℕ) → 1 ≤ r → r ≤ length runs → r ≤ 64 * wide →
    cycle < length (run_of runs r) → place * wide + wide ≤ count → HaveInputs runs cycle wide count planes →
    bit_in planes (bit_place wide place (r - 1)) ≡ get_or (get_or (run_of runs r) cycle []) place false
input_at runs planes cycle wide count place r from there room last fits h =
    let q : ℕ = r - 1 in
    let word : ℕ = q / 64 in
    let low : word < wide = omega (arith, from, room) in
    let k : ℕ = place * wide + word in
    let is : IsInputWord runs cycle (k % wide) (k / wide) (get_or planes k 0) = h.each k (omega (arith, low, fits)) in
    let P : ℕ → Type 0 = λ n. IsInputWord runs cycle n (k / wide) (get_or planes k 0) in
    let Q : ℕ → Type 0 = λ n. IsInputWord runs cycle word n (get_or planes k 0) in
    let here : IsInputWord runs cycle word place (get_or planes k 0) =
    subst Q (div-mul-add place wide word low) (subst P (mod-mul-add place wide word low) is) in
    let back : word * 64 + q % 64 ≡ q = omega arith in
    let number : word * 64 + q % 64 + 1 ≡ r = omega (arith, from) in
    let lasts_it : lasts runs (cycle + 1) (word * 64 + q % 64) ≡ true =
    ap (lasts runs (cycle + 1)) back
    ∙ lasts_is runs (cycle + 1) q (omega (arith, from, there))
    (let R : ℕ → Type 0 = λ n. cycle + 1 ≤ length (run_of runs n) in let e : r ≡ q + 1 = omega (arith, from) in subst R e (omega (arith, last))) in
    bit_from planes (place * wide) q
    ∙ (here.each (q % 64) (omega arith) lasts_it ∙ ap (λ n. get_or (get_or (run_of runs n) cycle []) place false) number)

pub inputs_are : (c : Circuit) (s : Stimulus) (planes : List ℕ) (cycle wide count : ℕ) → IsStimulus s → s.width ≡ length c.inputs →
    wide ≡ wide_of (length (inputs_of s)) → length (inputs_of s) ≤ 64 * wide_of (length (inputs_of s)) →
    count ≡ length c.inputs * wide_of (length (inputs_of s)) → length planes ≡ count → HaveInputs (inputs_of s) cycle wide count planes →
    AreInputs c (inputs_of s) cycle planes
inputs_are c s planes cycle wide count sound width w room n size have =
    let runs : List Run = inputs_of s in
    let W : ℕ = wide_of (length runs) in
    let P : ℕ → Type 0 = λ k. HaveInputs runs cycle k count planes in
    let h : HaveInputs runs cycle W count planes = subst P w have in
    record {
      size = size ∙ n;
      each = λ r from there last.
          sym
          (fill_by_all (λ k. bit_in planes (bit_place W k (r - 1))) (get_or (run_of runs r) cycle []) (length c.inputs) false
          (input_width s r cycle sound from there last ∙ width)
          (λ k lt.
          sym
          (input_at runs planes cycle W count k r from there (omega (arith, there, room)) last
          (subst (λ (m : ℕ). k * W + W ≤ m) (sym n) (row_fits k W (length c.inputs) W lt (omega arith))) h)));
    }
