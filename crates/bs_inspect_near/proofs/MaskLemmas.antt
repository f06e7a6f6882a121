-- Which lanes are looked at, and one word of each plane.
use Rattle.std.proofs.Common.{◌≡◌, ℕ, ◌<◌, ◌≤◌, ◌+◌, ◌-◌, ◌*◌, ◌/◌, ◌%◌, Bool, false, not, ◌&&◌, List, [], length, get_or, set}
use Rattle.std.proofs.Common.{refl, ap, sym, subst, ◌∙◌, ⊎_elim, arith}
use Rattle.std.specs.Prelude.{◌==◌, nat_le}
use Rattle.std.specs.Int.{bit_at}
use Rattle.std.proofs.lemmas.Bool.{cases_eq, le-ltb, lt-ltb}
use Rattle.std.proofs.lemmas.List.{get_or_default, get_or-map, get_or-set_other, get_or-set_same, length-map, length-set}
use Rattle.std.proofs.lemmas.Nat.{row_fits}
use Rattle.bs_stim.specs.Packing.{HasPut, bit_in}
use Rattle.bs_stim.specs.Runs.{Recorded, Stimulus, inputs_of, no_run, run_at}
use Rattle.bs_scan.specs.Moments.{Run}
use Rattle.bs_inspect_near.specs.Shown.{IsColumn, IsMask, is_viewed, lane_run}

-- ---- a lane

pub run_is : (s : Stimulus) (k : ℕ) → k < length s.runs → (run_at s (k + 1)).inputs ≡ get_or (inputs_of s) k []
run_is s k lt =
    let place : k + 1 - 1 ≡ k = omega arith in
    ap (λ (n : ℕ). (get_or s.runs n no_run).inputs) place ∙ sym (get_or-map (λ (run : Recorded). run.inputs) s.runs k no_run [] lt)

runs_count : (s : Stimulus) → length (inputs_of s) ≡ length s.runs
runs_count s = length-map s.runs (λ (run : Recorded). run.inputs)

pub viewed_none : (s : Stimulus) (first number cycle k n : ℕ) → n ≡ length s.runs → n ≤ first + k → false ≡ is_viewed (inputs_of s) first number cycle k
viewed_none s first number cycle k n e le =
    sym
    (ap (λ (b : Bool). b && (not (first + k + 1 == number) && nat_le cycle (length (lane_run (inputs_of s) first k))))
    (le-ltb (first + k) (length (inputs_of s)) (omega (arith, e, le, runs_count s))))

pub viewed_one : (s : Stimulus) (first number cycle k n m : ℕ) (b : Bool) → b ≡ (not (first + k + 1 == number) && nat_le cycle m) →
    n ≡ length s.runs → first + k < n → m ≡ length (run_at s (first + k + 1)).inputs → b ≡ is_viewed (inputs_of s) first number cycle k
viewed_one s first number cycle k n m b both e lt is =
    let there : first + k < length s.runs = omega (arith, e, lt) in
    both
    ∙ (ap (λ (x : ℕ). not (first + k + 1 == number) && nat_le cycle x) (is ∙ ap length (run_is s (first + k) there))
    ∙ sym
    (ap (λ (x : Bool). x && (not (first + k + 1 == number) && nat_le cycle (length (lane_run (inputs_of s) first k))))
    (lt-ltb (first + k) (length (inputs_of s)) (omega (arith, there, runs_count s)))))

-- ---- a mask that is made bit by bit

pub record MaskSo (runs : List Run) (first number cycle i : ℕ) (words : List ℕ) : Type 0 where
  pub size : length words ≡ 1
  pub done : (p : ℕ) → p < i → bit_in words p ≡ is_viewed runs first number cycle p

pub mask_begin : (runs : List Run) (first number cycle : ℕ) (words : List ℕ) → length words ≡ 1 → MaskSo runs first number cycle 0 words
mask_begin runs first number cycle words e = record { size = e; done = λ p lt. absurd (omega (arith, lt)) }

pub mask_put : (runs : List Run) (first number cycle i : ℕ) (words after : List ℕ) (bit : Bool) → MaskSo runs first number cycle i words →
    HasPut (0 * 64 + i) bit words after → bit ≡ is_viewed runs first number cycle i → MaskSo runs first number cycle (i + 1) after
mask_put runs first number cycle i words after bit so put is = record {
  size = here.size ∙ so.size;
  done = λ p lt.
      ⊎_elim (λ (same : p ≡ i). subst (λ (q : ℕ). bit_in after q ≡ is_viewed runs first number cycle q) (sym same) (here.here ∙ is))
      (λ (differs : p ≡ i → ⊥). here.others p differs ∙ so.done p (omega (arith, lt, differs)))
      (cases_eq p i);
}
  where
    here : HasPut i bit words after
    here = let place : 0 * 64 + i ≡ i = omega arith in subst (λ (n : ℕ). HasPut n bit words after) place put

pub mask_made : (runs : List Run) (first number cycle i : ℕ) (words : List ℕ) → 64 ≤ i → MaskSo runs first number cycle i words →
    IsMask runs first number cycle (get_or words 0 0)
mask_made runs first number cycle i words le so = record {
  each = λ k small.
      let word : k / 64 ≡ 0 = omega (arith, small) in
      let low : k % 64 ≡ k = omega (arith, small) in
      sym (λ j. bit_at (get_or words (word j) 0) (low j) == 1) ∙ so.done k (omega (arith, small, le));
}

-- ---- one word of each plane

pub record ColumnSo (planes : List ℕ) (wide word i : ℕ) (old words : List ℕ) : Type 0 where
  pub size : length words ≡ length old
  pub done : (k : ℕ) → k < i → get_or words k 0 ≡ get_or planes (k * wide + word) 0

pub word_fits : (place wide word flops size : ℕ) → place < flops → word < wide → size ≡ flops * wide → place * wide + word < size
word_fits place wide word flops size lt small e = omega (arith, row_fits place wide flops wide lt (omega arith), small, e)

pub column_begin : (planes : List ℕ) (wide word : ℕ) (words : List ℕ) → ColumnSo planes wide word 0 words words
column_begin planes wide word words = record { size = refl; done = λ k lt. absurd (omega (arith, lt)) }

pub column_more : (planes : List ℕ) (wide word i w : ℕ) (old words : List ℕ) → i < length old → length planes ≡ length old * wide → word < wide →
    w ≡ get_or planes (i * wide + word) w → ColumnSo planes wide word i old words → ColumnSo planes wide word (i + 1) old (set words i w)
column_more planes wide word i w old words lt size small at so = record {
  size = length-set words i w ∙ so.size;
  done = λ k less.
      ⊎_elim
      (λ (same : k ≡ i).
      subst (λ (n : ℕ). get_or (set words i w) n 0 ≡ get_or planes (n * wide + word) 0) (sym same)
      (get_or-set_same words i w 0 (omega (arith, lt, so.size))
      ∙ (at ∙ get_or_default planes (i * wide + word) w 0 (word_fits i wide word (length old) (length planes) lt small size))))
      (λ (other : k ≡ i → ⊥). get_or-set_other words i k w 0 other ∙ so.done k (omega (arith, less, other)))
      (cases_eq k i);
}

pub column_all : (planes : List ℕ) (wide word i : ℕ) (old words : List ℕ) → length old ≤ i → ColumnSo planes wide word i old words →
    IsColumn planes wide word words
column_all planes wide word i old words le so = record { each = λ k lt. so.done k (omega (arith, lt, le, so.size)) }
