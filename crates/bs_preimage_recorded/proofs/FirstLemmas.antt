-- The first cycles of hashes, and what a hash says that comes later.
use Rattle.std.proofs.Common.{◌≡◌, ℕ, ◌<◌, ◌≤◌, ◌+◌, ◌-◌, Bool, List, length, get_or, arith, sym, subst, ⊎_elim, Option, Some, None, nat_eq}
use Rattle.std.specs.Prelude.{slice_get}
use Rattle.std.specs.HashMap.{get, HashMap}
use Rattle.std.specs.Option.{unwrap_or}
use Rattle.std.proofs.lemmas.Bool.{cases_eq}
use Rattle.bs_chip.specs.Index.{HasBy, Keeps}
use Rattle.bs_chip.specs.Lockstep.{Passing}
use Rattle.bs_chip.specs.Hashes.{hash_of}
use Rattle.bs_preimage_recorded.specs.declared.forward.PresentHashes.{PresentHashes}
use Rattle.bs_preimage_recorded.specs.declared.forward.NextStateHashes.{NextStateHashes}
use Rattle.bs_preimage_recorded.specs.Firsts.{AreNoted, HaveBy}
use Rattle.bs_preimage_recorded.specs.Forward.{no_row, Holding, IsForward, NoneLeadBefore, TellsRow}
use Rattle.bs_preimage_recorded.specs.Groups.{parities_of}
use Rattle.bs_preimage_recorded.proofs.ForwardLemmas.{led_nowhere, row_there}

-- a cycle before that of a hash is none at which a run leads to it
late : (o : Option ℕ) (from cycles k : ℕ) → from ≤ unwrap_or o cycles → k < from → unwrap_or o (k + 1) ≤ k → ⊥
late None from cycles k within lt h = omega (arith, h)
late (Some c) from cycles k within lt h = omega (arith, within, lt, h)

module _ {S : Type 0} where
  have_kept : (old new : HashMap ℕ ℕ S) (hashes : List ℕ) (cycle count : ℕ) → Keeps old new → HaveBy old hashes cycle count →
      HaveBy new hashes cycle count
  have_kept old new hashes cycle count keeps h = record { each = λ n lt. keeps.each (get_or hashes n 0) cycle (h.each n lt) }

  pub have_none : (first : HashMap ℕ ℕ S) (hashes : List ℕ) (cycle : ℕ) → HaveBy first hashes cycle 0
  have_none first hashes cycle = record { each = λ n lt. absurd (omega (arith, lt)) }

  pub have_more : (old new : HashMap ℕ ℕ S) (hashes : List ℕ) (cycle i : ℕ) → Keeps old new → HasBy new (get_or hashes i 0) cycle →
      HaveBy old hashes cycle i → HaveBy new hashes cycle (i + 1)
  have_more old new hashes cycle i keeps here h =
      record {
        each = λ n lt.
            ⊎_elim (λ (same : n ≡ i). subst (λ (m : ℕ). HasBy new (get_or hashes m 0) cycle) (sym same) here)
            (λ (other : n ≡ i → ⊥). keeps.each (get_or hashes n 0) cycle (h.each n (omega (arith, lt, other))))
            (cases_eq n i);
      }

  pub noted_none : (low high : HashMap ℕ ℕ S) (cycles : ℕ) (rows : List NextStateHashes) → cycles ≡ 0 → AreNoted low high cycles rows
  noted_none low high cycles rows none =
      record { within = omega (arith, none); lows = λ k lt. absurd (omega (arith, none, lt)); highs = λ k lt. absurd (omega (arith, none, lt)) }

  pub noted_kept : (low low_new high high_new : HashMap ℕ ℕ S) (cycles : ℕ) (rows : List NextStateHashes) → Keeps low low_new → Keeps high high_new →
      AreNoted low high cycles rows → AreNoted low_new high_new cycles rows
  noted_kept low low_new high high_new cycles rows one other h =
      record {
        within = h.within;
        lows = λ k lt. have_kept low low_new (get_or rows k no_row).low k (length (get_or rows k no_row).low) one (h.lows k lt);
        highs = λ k lt. have_kept high high_new (get_or rows k no_row).high k (length (get_or rows k no_row).high) other (h.highs k lt);
      }

  pub noted_more : (low low_new high high_new : HashMap ℕ ℕ S) (cycles n : ℕ) (rows : List NextStateHashes) (row : NextStateHashes) → Keeps low low_new →
      Keeps high high_new → slice_get rows cycles ≡ Some row → HaveBy low_new row.low cycles (length row.low) →
      HaveBy high_new row.high cycles (length row.high) → n ≡ cycles + 1 → cycles < length rows → AreNoted low high cycles rows →
      AreNoted low_new high_new n rows
  noted_more low low_new high high_new cycles n rows row one other look lows highs next there h =
      let is : row ≡ get_or rows cycles no_row = sym (row_there rows cycles row look) in
      let kept : AreNoted low_new high_new cycles rows = noted_kept low low_new high high_new cycles rows one other h in
      let L : NextStateHashes → ℕ → Type 0 = λ r k. HaveBy low_new r.low k (length r.low) in
      let H : NextStateHashes → ℕ → Type 0 = λ r k. HaveBy high_new r.high k (length r.high) in
      record {
        within = omega (arith, next, there);
        lows = λ k lt.
            ⊎_elim
            (λ (same : k ≡ cycles). subst (λ (m : ℕ). L (get_or rows m no_row) m) (sym same) (subst (λ (r : NextStateHashes). L r cycles) is lows))
            (λ (less : k ≡ cycles → ⊥). kept.lows k (omega (arith, lt, next, less)))
            (cases_eq k cycles);
        highs = λ k lt.
            ⊎_elim
            (λ (same : k ≡ cycles). subst (λ (m : ℕ). H (get_or rows m no_row) m) (sym same) (subst (λ (r : NextStateHashes). H r cycles) is highs))
            (λ (less : k ≡ cycles → ⊥). kept.highs k (omega (arith, lt, next, less)))
            (cases_eq k cycles);
      }

  -- no run leads to a present before the first cycles of its hashes
  pub none_before : (p : Passing) (low high : Holding) (rows : List NextStateHashes) (lows highs : HashMap ℕ ℕ S) (cycles from : ℕ) (aim : PresentHashes)
      (present : List Bool) → IsForward p low high rows → AreNoted lows highs cycles rows → aim.low ≡ hash_of (parities_of low.groups present) →
      aim.high ≡ hash_of (parities_of high.groups present) → from ≤ cycles → from ≤ unwrap_or (get nat_eq lows aim.low) cycles →
      from ≤ unwrap_or (get nat_eq highs aim.high) cycles → NoneLeadBefore p.circuit p.runs present from
  none_before p low high rows lows highs cycles from aim present f noted one other within low_late high_late =
      record {
        each = λ run k lt m.
            let row : NextStateHashes = get_or rows k no_row in
            let told : TellsRow p low high row k = f.show k (omega (arith, lt, within, noted.within)) in
            let here : run - 1 < length p.runs = omega (arith, m.from_one, m.recorded) in
            led_nowhere p low high row aim present run k f.low_side f.high_side f.input told m one other
            (λ (e : get_or row.low (run - 1) 0 ≡ aim.low).
            late (get nat_eq lows aim.low) from cycles k low_late lt
            (subst (λ (n : ℕ). HasBy lows n k) e ((noted.lows k (omega (arith, lt, within))).each (run - 1) (omega (arith, here, told.lows.size)))))
            (λ (e : get_or row.high (run - 1) 0 ≡ aim.high).
            late (get nat_eq highs aim.high) from cycles k high_late lt
            (subst (λ (n : ℕ). HasBy highs n k) e ((noted.highs k (omega (arith, lt, within))).each (run - 1) (omega (arith, here, told.highs.size)))));
      }
