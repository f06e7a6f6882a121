-- Hashes of states, notes of them, and where a look may begin.
use Rattle.std.proofs.Common.{◌≡◌, ℕ, ◌<◌, ◌≤◌, ◌+◌, ◌-◌, ◌*◌, ◌/◌, ◌%◌, ◌^◌, Bool, true, false, List, [], ◌∷◌, ◌++◌, length, map, take, get_or, refl}
use Rattle.std.proofs.Common.{arith, ap, ap₂, sym, subst, ◌∙◌, ⊎_elim, Option, Some, None, min, cond, suc, inl, inr, ◌||◌, ◌⊎◌}
use Rattle.std.proofs.Math.Nat.{mul-suc, mul_assoc, add-mul, div-mul-le_self, div-eq_of_lt, lt-div-mul-add}
use Rattle.std.specs.Prelude.{nat_eq, All}
use Rattle.std.specs.HashMap.{get, hash_map_len, HashMap}
use Rattle.std.specs.Map.{lookup}
use Rattle.std.specs.Option.{unwrap_or}
use Rattle.std.proofs.lemmas.Bool.{cases_eq, cases_lt}
use Rattle.std.proofs.lemmas.List.{take_all, take_more}
use Rattle.std.proofs.lemmas.List.Elements.{All-more, All-map, All-weaker}
use Rattle.std.specs.List.{list_any}
use Rattle.std.proofs.lemmas.List.Folds.{list_any_kept, list_any_more, list_any_none}
use Rattle.std.proofs.lemmas.List.FromFn.{map-range_with_len_more}
use Rattle.std.proofs.lemmas.List.Sums.{fold-append}
use Rattle.bs_bits.specs.Bits.{bits_eq}
use Rattle.bs_net.specs.Circuit.{Circuit}
use Rattle.bs_stim.specs.Packing.{bit_in}
use Rattle.bs_lanes.specs.Planes.{lane, bit_place}
use Rattle.bs_scan.specs.Moments.{Run, run_of, state_at}
use Rattle.bs_scan.proofs.SignatureLemmas.{bits_same_is}
use Rattle.bs_chip.specs.Index.{HasBy, Keeps, NotesLanes, NotesCycle, NotesCycles, HasNoneBefore, IsNoted, IsPaid, is_cycle}
use Rattle.bs_chip.specs.Index.{AddsLanes, AddsHash, IsAdded, IsFirstHashed, NotesFirsts}
use Rattle.bs_chip.specs.Lockstep.{wide_of, ShowsCycle, NoneBefore}
use Rattle.bs_chip.specs.Hashes.{hash_more, hash_of}
use Rattle.bs_chip.proofs.LaneLemmas.{place_of}

-- ---- hashes

pub hash_snoc : (bits : List Bool) (bit : Bool) → hash_of (bits ++ bit ∷ []) ≡ hash_more (hash_of bits) bit
hash_snoc bits bit = fold-append hash_more 0 bits (bit ∷ [])

pub hash_next : (bits : List Bool) (i hash next : ℕ) (bit : Bool) → i < length bits → bit ≡ get_or bits i false → hash ≡ hash_of (take i bits) →
    next ≡ hash_more hash bit → next ≡ hash_of (take (i + 1) bits)
hash_next bits i hash next bit lt e h n =
    n ∙ (ap₂ hash_more h e ∙ (sym (hash_snoc (take i bits) (get_or bits i false)) ∙ sym (ap hash_of (take_more bits i false lt))))

pub lane_next : (wide i r hash next : ℕ) (words : List ℕ) (bit : Bool) → bit ≡ bit_in words ((i * wide + r / 64) * 64 + r % 64) →
    hash ≡ hash_of (lane wide i words r) → next ≡ hash_more hash bit → next ≡ hash_of (lane wide (i + 1) words r)
lane_next wide i r hash next words bit e h n =
    let f : ℕ → Bool = λ plane. bit_in words (bit_place wide plane r) in
    let here : bit ≡ f i = e ∙ ap (bit_in words) (place_of wide i r) in
    n
    ∙ (ap₂ hash_more h here
    ∙ (sym (hash_snoc (lane wide i words r) (f i)) ∙ sym (ap hash_of (map-range_with_len_more f 0 i i (omega arith)))))

-- ---- notes

same_number : (a b : ℕ) → nat_eq a b ≡ true → a ≡ b
same_number a b e = ⊎_elim (λ (same : a ≡ b). same) (λ (other : a ≡ b → ⊥). absurd (grind (arith, e, other))) (cases_eq a b)

sooner : (o : Option ℕ) (cycle k : ℕ) → cycle < unwrap_or o (cycle + 1) → unwrap_or o (k + 1) ≤ k → cycle ≤ k
sooner None cycle k late h = absurd (omega (arith, h))
sooner (Some c) cycle k late h = omega (arith, late, h)

later : (o : Option ℕ) (k cycle : ℕ) → k < cycle → unwrap_or o (k + 1) ≤ k → unwrap_or o (cycle + 1) ≤ cycle
later None k cycle lt h = absurd (omega (arith, h))
later (Some c) k cycle lt h = omega (arith, h, lt)

before_all : (o : Option ℕ) (from k : ℕ) → k < min from (unwrap_or o from) → unwrap_or o (k + 1) ≤ k → ⊥
before_all None from k lt h = omega (arith, h)
before_all (Some c) from k lt h = omega (arith, lt, h)

module _ {S : Type 0} where
  pub keeps_same : (old : HashMap ℕ ℕ S) → Keeps old old
  keeps_same old = record { each = λ hash cycle h. h }

  pub keeps_more : (old mid new : HashMap ℕ ℕ S) → Keeps old mid → Keeps mid new → Keeps old new
  keeps_more old mid new f g = record { each = λ hash cycle h. g.each hash cycle (f.each hash cycle h) }

  pub keeps_unchanged : (old new : HashMap ℕ ℕ S) → new.entries ≡ old.entries → Keeps old new
  keeps_unchanged old new e =
      record {
        each = λ hash cycle h.
            let P : List (ℕ × ℕ) → Type 0 = λ es. unwrap_or (lookup (nat_eq hash) es) (cycle + 1) ≤ cycle in subst P (sym e) h;
      }

  pub put_keeps : (old new : HashMap ℕ ℕ S) (hash cycle : ℕ) → cycle < unwrap_or (get nat_eq old hash) (cycle + 1) →
      ((q : ℕ) → get nat_eq new q ≡ cond (nat_eq hash q) (Some cycle) (get nat_eq old q)) → Keeps old new
  put_keeps old new hash cycle late puts = record { each = each }
    where
      by : (b : Bool) (q k : ℕ) → nat_eq hash q ≡ b → unwrap_or (get nat_eq old q) (k + 1) ≤ k →
          unwrap_or (cond {A = Option ℕ} b (Some cycle) (get nat_eq old q)) (k + 1) ≤ k
      by true q k e h =
          let P : ℕ → Type 0 = λ n. cycle < unwrap_or (get nat_eq old n) (cycle + 1) in
          sooner (get nat_eq old q) cycle k (subst P (same_number hash q e) late) h
      by false q k e h = h

      each : (q k : ℕ) → HasBy old q k → HasBy new q k
      each q k h =
          let P : Option ℕ → Type 0 = λ o. unwrap_or o (k + 1) ≤ k in
          subst P (sym (puts q)) (by (nat_eq hash q) q k refl h)

  pub put_notes : (new : HashMap ℕ ℕ S) (hash cycle : ℕ) → get nat_eq new hash ≡ Some cycle → HasBy new hash cycle
  put_notes new hash cycle e = (let P : Option ℕ → Type 0 = λ o. unwrap_or o (cycle + 1) ≤ cycle in subst P (sym e) (omega arith))

  pub lanes_none : (runs : List Run) (first : HashMap ℕ ℕ S) (planes : List ℕ) (width cycle : ℕ) → NotesLanes runs first planes width cycle 0
  lanes_none runs first planes width cycle = record { each = λ r from below last. absurd (omega (arith, from, below)) }

  pub lanes_keep : (runs : List Run) (old new : HashMap ℕ ℕ S) (planes : List ℕ) (width cycle below : ℕ) → Keeps old new →
      NotesLanes runs old planes width cycle below → NotesLanes runs new planes width cycle below
  lanes_keep runs old new planes width cycle below keeps h = record { each = λ r from within last. keeps.each _ cycle (h.each r from within last) }

  pub lanes_more : (runs : List Run) (old new : HashMap ℕ ℕ S) (planes : List ℕ) (width cycle at wide hash : ℕ) → wide ≡ wide_of (length runs) →
      hash ≡ hash_of (lane wide width planes at) → Keeps old new → HasBy new hash cycle → NotesLanes runs old planes width cycle at →
      NotesLanes runs new planes width cycle (at + 1)
  lanes_more runs old new planes width cycle at wide hash w p keeps here h =
      let back : at ≡ at + 1 - 1 = omega arith in
      let P : ℕ → Type 0 = λ n. HasBy new (hash_of (lane (wide_of (length runs)) width planes n)) cycle in
      let Q : ℕ → Type 0 = λ n. HasBy new (hash_of (lane n width planes at)) cycle in
      let R : ℕ → Type 0 = λ n. HasBy new n cycle in
      let mine : P (at + 1 - 1) = subst P back (subst Q w (subst R p here)) in
      record {
        each = λ r from within last.
            ⊎_elim (λ (same : r ≡ at + 1). (let T : ℕ → Type 0 = λ n. P (n - 1) in subst T (sym same) mine))
            (λ (other : r ≡ at + 1 → ⊥). keeps.each _ cycle (h.each r from (omega (arith, within, other)) last))
            (cases_eq r (at + 1));
      }

  pub lanes_ended : (runs : List Run) (first : HashMap ℕ ℕ S) (planes : List ℕ) (width cycle at : ℕ) → length (run_of runs (at + 1)) < cycle →
      NotesLanes runs first planes width cycle at → NotesLanes runs first planes width cycle (at + 1)
  lanes_ended runs first planes width cycle at ended h =
      record {
        each = λ r from within last.
            ⊎_elim
            (λ (same : r ≡ at + 1).
            let long : cycle ≤ length (run_of runs (at + 1)) = (let T : ℕ → Type 0 = λ n. cycle ≤ length (run_of runs n) in subst T same last) in
            absurd (omega (arith, long, ended)))
            (λ (other : r ≡ at + 1 → ⊥). h.each r from (omega (arith, within, other)) last)
            (cases_eq r (at + 1));
      }

  pub lanes_shown : (c : Circuit) (runs : List Run) (first : HashMap ℕ ℕ S) (planes : List ℕ) (width cycle : ℕ) → width ≡ length c.flops →
      ShowsCycle c runs planes cycle → NotesLanes runs first planes width cycle (length runs) → NotesCycle c runs first cycle
  lanes_shown c runs first planes width cycle w shows h =
      record {
        each = λ r from there last.
            let P : ℕ → Type 0 = λ n. HasBy first (hash_of (lane (wide_of (length runs)) n planes (r - 1))) cycle in
            let Q : List Bool → Type 0 = λ s. HasBy first (hash_of s) cycle in
            subst Q (shows.each r from there last) (subst P w (h.each r from there last));
      }

  -- ---- what has come

  pub adds_none : (old : HashMap ℕ ℕ S) (hash cycle : ℕ) → AddsHash old old hash cycle
  adds_none old hash cycle = record { each = λ other at e. inl e }

  pub adds_unchanged : (old new : HashMap ℕ ℕ S) (hash cycle : ℕ) → new.entries ≡ old.entries → AddsHash old new hash cycle
  adds_unchanged old new hash cycle same =
      record { each = λ other at e. inl (ap (λ (es : List (ℕ × ℕ)). lookup (nat_eq other) es) (sym same) ∙ e) }

  pub adds_put : (old new : HashMap ℕ ℕ S) (hash cycle : ℕ) → cycle < unwrap_or (get nat_eq old hash) (cycle + 1) →
      ((q : ℕ) → get nat_eq new q ≡ cond (nat_eq hash q) (Some cycle) (get nat_eq old q)) → AddsHash old new hash cycle
  adds_put old new hash cycle late puts = record { each = λ other at e. by other at (nat_eq hash other) refl (sym (puts other) ∙ e) }
    where
      by : (other at : ℕ) (b : Bool) → nat_eq hash other ≡ b → cond {A = Option ℕ} b (Some cycle) (get nat_eq old other) ≡ Some at →
          (get nat_eq old other ≡ Some at) ⊎ ((other ≡ hash) × (at ≡ cycle) × (HasBy old hash cycle → ⊥))
      by other at true e is =
          let same : cycle ≡ at = cc in
          inr (sym (same_number hash other e), sym same, λ (has : HasBy old hash cycle). omega (arith, has, late))
      by other at false e is = inl is

  pub added_none : (runs : List Run) (old : HashMap ℕ ℕ S) (planes : List ℕ) (width cycle : ℕ) → AddsLanes runs old old planes width cycle 0
  added_none runs old planes width cycle = record { each = λ hash at e. inl e }

  pub added_wider : (runs : List Run) (old new : HashMap ℕ ℕ S) (planes : List ℕ) (width cycle below more : ℕ) → below ≤ more →
      AddsLanes runs old new planes width cycle below → AddsLanes runs old new planes width cycle more
  added_wider runs old new planes width cycle below more le h =
      record {
        each = λ hash at e.
            ⊎_elim (λ (was : get nat_eq old hash ≡ Some at). inl was)
            (λ (a : IsAdded runs old planes width cycle below hash at).
            inr
            (record {
              here = a.here;
              late = a.late;
              run = a.run;
              from_one = a.from_one;
              recorded = omega (arith, a.recorded, le);
              lasts = a.lasts;
              is = a.is;
            }))
            (h.each hash at e);
      }

  pub added_more : (runs : List Run) (old mid new : HashMap ℕ ℕ S) (planes : List ℕ) (width cycle lanes wide mark : ℕ) → wide ≡ wide_of (length runs) →
      mark ≡ hash_of (lane wide width planes lanes) → cycle ≤ length (run_of runs (lanes + 1)) → Keeps old mid →
      AddsLanes runs old mid planes width cycle lanes → AddsHash mid new mark cycle → AddsLanes runs old new planes width cycle (lanes + 1)
  added_more runs old mid new planes width cycle lanes wide mark w p last keeps h adds =
      let wider = added_wider runs old mid planes width cycle lanes (lanes + 1) (omega arith) h in
      let back : lanes + 1 - 1 ≡ lanes = omega arith in
      let shown : hash_of (lane (wide_of (length runs)) width planes (lanes + 1 - 1)) ≡ mark =
      ap₂ (λ (a b : ℕ). hash_of (lane a width planes b)) (sym w) back ∙ sym p in
      record {
        each = λ hash at e.
            ⊎_elim (λ (was : get nat_eq mid hash ≡ Some at). wider.each hash at was)
            (λ (a : (hash ≡ mark) × (at ≡ cycle) × (HasBy mid mark cycle → ⊥)).
            inr
            (record {
              here = a.1;
              late = λ has. a.2 (keeps.each mark cycle (subst (λ (q : ℕ). HasBy old q cycle) a.0 has));
              run = lanes + 1;
              from_one = omega arith;
              recorded = omega arith;
              lasts = last;
              is = shown ∙ sym a.0;
            }))
            (adds.each hash at e);
      }

  -- what comes at a cycle is first there, where all cycles before are noted
  pub firsts_more : (c : Circuit) (runs : List Run) (old new : HashMap ℕ ℕ S) (planes : List ℕ) (width cycle : ℕ) → width ≡ length c.flops →
      ShowsCycle c runs planes cycle → NotesCycles c runs old cycle → NotesFirsts c runs old →
      AddsLanes runs old new planes width cycle (length runs) → NotesFirsts c runs new
  firsts_more c runs old new planes width cycle w shows notes firsts adds =
      record {
        each = λ hash at e.
            ⊎_elim (λ (was : get nat_eq old hash ≡ Some at). firsts.each hash at was)
            (λ (a : IsAdded runs old planes width cycle (length runs) hash at).
            let state : lane (wide_of (length runs)) width planes (a.run - 1) ≡ state_at c (run_of runs a.run) cycle =
            ap (λ (n : ℕ). lane (wide_of (length runs)) n planes (a.run - 1)) w ∙ shows.each a.run a.from_one a.recorded a.lasts in
            let first : IsFirstHashed c runs hash cycle =
            record {
              there = record { run = a.run; from_one = a.from_one; recorded = a.recorded; lasts = a.lasts; is = sym (ap hash_of state) ∙ a.is };
              before = λ k lt hashed.
                  let has : HasBy old hash k =
                  subst (λ (q : ℕ). HasBy old q k) hashed.is ((notes.each k lt).each hashed.run hashed.from_one hashed.recorded hashed.lasts) in
                  a.late (later (get nat_eq old hash) k cycle lt has);
            } in
            subst (λ (k : ℕ). IsFirstHashed c runs hash k) (sym a.here) first)
            (adds.each hash at e);
      }

  pub firsts_none : (c : Circuit) (runs : List Run) (first : HashMap ℕ ℕ S) → hash_map_len first ≡ 0 → NotesFirsts c runs first
  firsts_none c runs first none = record { each = λ hash cycle e. by hash cycle first.entries none e }
    where
      by : (hash cycle : ℕ) (es : List (ℕ × ℕ)) → length es ≡ 0 → lookup (nat_eq hash) es ≡ Some cycle → IsFirstHashed c runs hash cycle
      by hash cycle [] l e = absurd cc
      by hash cycle (x ∷ es) l e = absurd (omega (arith, l))

  -- ---- cycles

  pub cycles_none : (c : Circuit) (runs : List Run) (first : HashMap ℕ ℕ S) (cycles : ℕ) → cycles ≡ 0 → NotesCycles c runs first cycles
  cycles_none c runs first cycles e = record { each = λ k lt. absurd (omega (arith, lt, e)) }

  pub cycles_keep : (c : Circuit) (runs : List Run) (old new : HashMap ℕ ℕ S) (cycles : ℕ) → Keeps old new → NotesCycles c runs old cycles →
      NotesCycles c runs new cycles
  cycles_keep c runs old new cycles keeps h =
      record { each = λ k lt. record { each = λ r from there last. keeps.each _ k ((h.each k lt).each r from there last) } }

  pub cycles_more : (c : Circuit) (runs : List Run) (old new : HashMap ℕ ℕ S) (at : ℕ) → Keeps old new → NotesCycle c runs new at →
      NotesCycles c runs old at → NotesCycles c runs new (at + 1)
  cycles_more c runs old new at keeps here h =
      record {
        each = λ k lt.
            ⊎_elim (λ (same : k ≡ at). (let P : ℕ → Type 0 = λ n. NotesCycle c runs new n in subst P (sym same) here))
            (λ (other : k ≡ at → ⊥). (cycles_keep c runs old new at keeps h).each k (omega (arith, lt, other)))
            (cases_eq k at);
      }

  -- ---- where a look may begin

  pub start_more : {X : Type 0} (f : X → List Bool) (first : HashMap ℕ ℕ S) (xs : List X) (i from next hash cycle : ℕ) (x : X) (s : List Bool) →
      i < length xs →
      x ≡ get_or xs i x → s ≡ f x → hash ≡ hash_of s → cycle ≡ unwrap_or (get nat_eq first hash) from → next ≡ min from cycle →
      All (λ x. HasNoneBefore first from (hash_of (f x))) (take i xs) → All (λ x. HasNoneBefore first next (hash_of (f x))) (take (i + 1) xs)
  start_more {X} f first xs i from next hash cycle x s lt is same p e n h =
      let P : X → Type 0 = λ x. HasNoneBefore first from (hash_of (f x)) in
      let Q : X → Type 0 = λ x. HasNoneBefore first next (hash_of (f x)) in
      let less : next ≤ from = omega (arith, n) in
      let R : ℕ → Type 0 = λ q. HasNoneBefore first next q in
      let mine : R hash =
      record {
        each = λ k below has.
            before_all (get nat_eq first hash) from k (let T : ℕ → Type 0 = λ c. k < min from c in subst T e
            (let U : ℕ → Type 0 = λ m. k < m in subst U n below)) has;
      } in
      let here : Q x = subst R (p ∙ ap hash_of same) mine in
      All-more Q xs i x lt
      (All-weaker P Q (λ y g. record { each = λ k below has. g.each k (omega (arith, below, less)) has }) (take i xs) h)
      (subst Q is here)

  pub none_started : {X : Type 0} (f : X → List Bool) (c : Circuit) (runs : List Run) (first : HashMap ℕ ℕ S) (xs : List X) (cycles from : ℕ) → from ≤ cycles →
      NotesCycles c runs first cycles → All (λ x. HasNoneBefore first from (hash_of (f x))) xs → NoneBefore c runs (map f xs) from
  none_started f c runs first xs cycles from le notes none = record {
    each = λ k lt. record {
      each = λ r behind below there last. each k r lt behind
          there last;
    };
  }
    where
      unlike : (s t : List Bool) (k : ℕ) (b : Bool) → bits_eq s t ≡ b → k < from → HasBy first (hash_of s) k →
          HasNoneBefore first from (hash_of t) → b ≡ false
      unlike s t k false e lt has without = refl
      unlike s t k true e lt has without =
          let P : List Bool → Type 0 = λ u. HasBy first (hash_of u) k in
          absurd (without.each k lt (subst P (bits_same_is s t e) has))

      each : (k r : ℕ) → k < from → 0 < r → r ≤ length runs → k ≤ length (run_of runs r) → list_any (bits_eq (state_at c (run_of runs r) k)) (map f xs) ≡ false
      each k r lt behind there last =
          let s = state_at c (run_of runs r) k in
          let has : HasBy first (hash_of s) k = (notes.each k (omega (arith, lt, le))).each r (omega (arith, behind)) there last in
          list_any_none (bits_eq s) (map f xs)
          (All-weaker (λ t. HasNoneBefore first from (hash_of t)) (λ t. bits_eq s t ≡ false) (λ t without. unlike s t k
          (bits_eq s t) refl lt has without) (map f xs)
          (All-map (λ t. HasNoneBefore first from (hash_of t)) f xs none))

pub none_sooner : (c : Circuit) (runs : List Run) (states : List (List Bool)) (late from : ℕ) → from ≤ late → NoneBefore c runs states late →
    NoneBefore c runs states from
none_sooner c runs states late from le h = record { each = λ k lt. h.each k (omega (arith, lt, le)) }

-- ---- the cycle at which a look begins

or_true : (b : Bool) → (b || true) ≡ true
or_true true = refl
or_true false = refl

module _ {S X : Type 0} where
  noted_still : (first : HashMap ℕ ℕ S) (hash : X → ℕ) (xs : List X) (i cycles from next : ℕ) → next ≡ from →
      IsNoted first cycles from hash (take i xs) → IsNoted first cycles next hash (take (i + 1) xs)
  noted_still first hash xs i cycles from next e h =
      let R : ℕ → Type 0 = λ q. IsNoted first cycles q hash (take (i + 1) xs) in
      let p : X → Bool = λ x. is_cycle (get nat_eq first (hash x)) from in
      subst R (sym e)
      (record {
        either =
            ⊎_elim (λ (same : from ≡ cycles). inl same)
            (λ (there : list_any p (take i xs) ≡ true). inr (list_any_kept p xs i there)) h.either;
      })

  noted_here : (first : HashMap ℕ ℕ S) (hash : X → ℕ) (xs : List X) (i cycles next : ℕ) (x : X) → i < length xs → x ≡ get_or xs i x →
      is_cycle (get nat_eq first (hash x)) next ≡ true → IsNoted first cycles next hash (take (i + 1) xs)
  noted_here first hash xs i cycles next x lt is e =
      let p : X → Bool = λ y. is_cycle (get nat_eq first (hash y)) next in
      let more : Bool → Bool = λ b. list_any p (take i xs) || b in
      record {
        either =
            inr (list_any_more p xs i x lt ∙ (ap (λ y. more (p y)) (sym is) ∙ (ap more e ∙ or_true (list_any p (take i xs)))));
      }

  pub noted_more : (first : HashMap ℕ ℕ S) (hash : X → ℕ) (xs : List X) (i cycles from next mark cycle : ℕ) (x : X) → i < length xs →
      x ≡ get_or xs i x → mark ≡ hash x → cycle ≡ unwrap_or (get nat_eq first mark) from → next ≡ min from cycle →
      IsNoted first cycles from hash (take i xs) → IsNoted first cycles next hash (take (i + 1) xs)
  noted_more first hash xs i cycles from next mark cycle x lt is m e n h = by (get nat_eq first mark) refl
    where
      by : (o : Option ℕ) → get nat_eq first mark ≡ o → IsNoted first cycles next hash (take (i + 1) xs)
      by None g =
          let same : cycle ≡ from = e ∙ ap (λ o. unwrap_or o from) g in
          noted_still first hash xs i cycles from next (omega (arith, n, same)) h
      by (Some c) g =
          let same : cycle ≡ c = e ∙ ap (λ o. unwrap_or o from) g in
          ⊎_elim
          (λ (less : c < from).
          noted_here first hash xs i cycles next x lt is
          (ap (λ q. is_cycle (get nat_eq first q) next) (sym m) ∙ (ap (λ o. is_cycle o next) g ∙ grind (arith, n, same, less))))
          (λ (more : from ≤ c). noted_still first hash xs i cycles from next (omega (arith, n, same, more)) h)
          (cases_lt c from)

  pub noted_all : (first : HashMap ℕ ℕ S) (hash : X → ℕ) (xs : List X) (i cycles from : ℕ) → length xs ≤ i →
      IsNoted first cycles from hash (take i xs) → IsNoted first cycles from hash xs
  noted_all first hash xs i cycles from le h =
      let R : List X → Type 0 = λ ys. IsNoted first cycles from hash ys in
      subst R (take_all i xs le) h

-- ---- the price of notes

after_one : (from to : ℕ) → from ≤ to → to + 1 - from ≡ suc (to - from)
after_one from to le = omega (arith, le)

pub paid_more : (price credit left from to : ℕ) → price ≤ left → IsPaid price credit left from to → IsPaid price credit (left - price) from (to + 1)
paid_more price credit left from to le p =
    let more : price * (to + 1 - from) ≡ price * (to - from) + price = ap (λ n. price * n) (after_one from to p.grown) ∙ mul-suc price (to - from) in
    record { grown = omega (arith, p.grown); paid = omega (arith, le, more, p.paid) }

-- ---- how many cycles are kept

product : (q w : ℕ) → q * (w * 8) ≡ q * w * 8
product q w = sym (mul_assoc q w 8)

one_more_product : (q w : ℕ) → (q + 1) * (w * 8) ≡ (q * w + w) * 8
one_more_product q w =
    let a : (q + 1) * (w * 8) ≡ q * (w * 8) + 1 * (w * 8) = add-mul q 1 (w * 8) in
    let b : (q * w + w) * 8 ≡ q * w * 8 + w * 8 = add-mul (q * w) w 8 in
    omega (arith, a, b, product q w)

pub cycles_fit : (bytes words room : ℕ) → bytes < 2 ^ 64 → room ≡ min (words + 8) (2 ^ 64 - 1) → bytes / 8 / room * ((words + 8) * 8) ≤ bytes
cycles_fit bytes words room small is =
    ⊎_elim
    (λ (lt : words + 8 < 2 ^ 64).
    let same : room ≡ words + 8 = omega (arith, is, lt) in
    let whole : bytes / 8 / room * (words + 8) ≤ bytes / 8 =
    subst (λ (n : ℕ). bytes / 8 / room * n ≤ bytes / 8) same (div-mul-le_self (bytes / 8) room) in
    let e : bytes / 8 / room * ((words + 8) * 8) ≡ bytes / 8 / room * (words + 8) * 8 = product (bytes / 8 / room) (words + 8) in
    omega (arith, whole, e))
    (λ (ge : 2 ^ 64 ≤ words + 8).
    let none : bytes / 8 / room ≡ 0 = div-eq_of_lt (let lt : bytes / 8 < room = omega (arith, is, ge, small) in lt) in
    let e : bytes / 8 / room * ((words + 8) * 8) ≡ 0 * ((words + 8) * 8) = ap (λ (n : ℕ). n * ((words + 8) * 8)) none in
    omega (arith, e))
    (cases_lt (words + 8) (2 ^ 64))

pub cycles_most : (bytes words room : ℕ) → bytes < 2 ^ 64 → room ≡ min (words + 8) (2 ^ 64 - 1) → bytes < (bytes / 8 / room + 1) * ((words + 8) * 8)
cycles_most bytes words room small is =
    ⊎_elim
    (λ (lt : words + 8 < 2 ^ 64).
    let same : room ≡ words + 8 = omega (arith, is, lt) in
    let whole : bytes / 8 < bytes / 8 / room * (words + 8) + (words + 8) =
    subst (λ (n : ℕ). bytes / 8 < bytes / 8 / room * n + n) same (lt-div-mul-add (let some : 0 < room = omega (arith, same) in some)) in
    let e : (bytes / 8 / room + 1) * ((words + 8) * 8) ≡ (bytes / 8 / room * (words + 8) + (words + 8)) * 8 = one_more_product (bytes / 8 / room) (words + 8) in
    omega (arith, whole, e))
    (λ (ge : 2 ^ 64 ≤ words + 8).
    let none : bytes / 8 / room ≡ 0 = div-eq_of_lt (let lt : bytes / 8 < room = omega (arith, is, ge, small) in lt) in
    let e : (bytes / 8 / room + 1) * ((words + 8) * 8) ≡ (0 + 1) * ((words + 8) * 8) = ap (λ (n : ℕ). (n + 1) * ((words + 8) * 8)) none in
    omega (arith, e, ge, small))
    (cases_lt (words + 8) (2 ^ 64))
