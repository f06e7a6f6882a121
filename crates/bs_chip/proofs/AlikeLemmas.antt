-- The runs whose state has a signature, lane by lane.
use Rattle.std.proofs.Common.{◌≡◌, ◌≢◌, ℕ, ◌<◌, ◌≤◌, ◌-◌, ◌/◌, ◌%◌, Bool, true, false, not, List, [], length, get_or, arith, refl}
use Rattle.std.proofs.Common.{ap, sym, subst, ◌∙◌, Option, Some, None}
use Rattle.std.specs.Prelude.{All, MatchOption, slice_get}
use Rattle.std.specs.Bool.{beq}
use Rattle.std.proofs.lemmas.Bool.{eq-eqb, false≢true}
use Rattle.std.proofs.lemmas.List.{get_or-map, length-map, ext_get_or}
use Rattle.std.proofs.lemmas.Option.{get_or_from_slice_get}
use Rattle.bs_bits.specs.Bits.{bits_eq}
use Rattle.bs_break.specs.Masks.{has}
use Rattle.bs_lanes.specs.Planes.{lane}
use Rattle.bs_net.specs.Circuit.{Circuit}
use Rattle.bs_scan.specs.Choice.{Chosen}
use Rattle.bs_scan.specs.Crash.{Recording}
use Rattle.bs_scan.specs.Moments.{Run, run_of}
use Rattle.bs_scan.specs.Signature.{parity_of, signature}
use Rattle.bs_scan.proofs.SignatureLemmas.{bits_same, bits_same_is}
use Rattle.bs_chip.specs.declared.index.Index.{Index}
use Rattle.bs_chip.specs.Alike.{shows_signature, IsNextShowing, NoneShowing}
use Rattle.bs_chip.specs.Chip.{IsChip}
use Rattle.bs_chip.specs.Hashes.{hash_of}
use Rattle.bs_chip.specs.Lockstep.{wide_of, Passing, ShowsCycle}
use Rattle.bs_chip.specs.Parities.{IsParityWord}
use Rattle.bs_chip.specs.SignatureHashes.{recorded_by, signature_at, IsNextAlike, NoneAlike}
use Rattle.bs_chip.proofs.ParityLemmas.{parity_in_lane}

-- ---- a lane

-- the bit of an item
pub item_bit_is : (choice : Chosen) (planes item : List ℕ) (wide r i mask : ℕ) → i < length choice.items → slice_get choice.items i ≡ Some item →
    All (λ flop. flop < choice.width) item → IsParityWord item planes wide (r / 64) mask →
    has mask (r % 64) ≡ get_or (signature choice (lane wide choice.width planes r)) i false
item_bit_is choice planes item wide r i mask within there range is =
    let s : List Bool = lane wide choice.width planes r in
    parity_in_lane choice planes item wide r mask range is
    ∙ (ap (parity_of s) (sym (get_or_from_slice_get choice.items i item [] there)) ∙ sym (get_or-map (parity_of s) choice.items i [] false within))

-- all bits agree
pub shown_where : (choice : Chosen) (planes : List ℕ) (wide r : ℕ) (stored : List Bool) → length stored ≡ length choice.items →
    ((i : ℕ) → i < length stored → get_or (signature choice (lane wide choice.width planes r)) i false ≡ get_or stored i false) →
    true ≡ shows_signature choice planes wide stored r
unfolding shows_signature
shown_where choice planes wide r stored size each =
    let s : List Bool = lane wide choice.width planes r in
    let long : length (signature choice s) ≡ length stored = length-map choice.items (parity_of s) ∙ sym size in
    let same : signature choice s ≡ stored = ext_get_or false (signature choice s) stored long (λ i lt. each i (omega (arith, lt, long))) in
    sym (subst (λ (t : List Bool). bits_eq (signature choice s) t ≡ true) same (bits_same (signature choice s)))

-- one does not
pub not_shown_where : (choice : Chosen) (planes : List ℕ) (wide r i : ℕ) (stored : List Bool) →
    get_or (signature choice (lane wide choice.width planes r)) i false ≢ get_or stored i false → false ≡ shows_signature choice planes wide stored r
unfolding shows_signature
not_shown_where choice planes wide r i stored differ = by (bits_eq (signature choice s) stored) refl
  where
    s : List Bool
    s = lane wide choice.width planes r

    by : (b : Bool) → bits_eq (signature choice s) stored ≡ b → false ≡ bits_eq (signature choice s) stored
    by true e = absurd (differ (ap (λ (t : List Bool). get_or t i false) (bits_same_is (signature choice s) stored e)))
    by false e = sym e

differ : (x y : Bool) → not (beq x y) ≡ true → x ≡ y → ⊥
differ true true d e = false≢true d
differ false false d e = false≢true d
differ true false d e = false≢true (sym e)
differ false true d e = false≢true e

pub not_shown_at : (choice : Chosen) (planes : List ℕ) (wide r i : ℕ) (stored : List Bool) (x y : Bool) →
    x ≡ get_or (signature choice (lane wide choice.width planes r)) i false → y ≡ get_or stored i false → not (beq x y) ≡ true →
    false ≡ shows_signature choice planes wide stored r
not_shown_at choice planes wide r i stored x y at_x at_y d =
    not_shown_where choice planes wide r i stored (λ same. differ x y d (at_x ∙ (same ∙ sym at_y)))

-- ---- the runs

-- the lane of a run that lasts to the cycle is its state
lane_is : (p : Passing) (choice : Chosen) (planes : List ℕ) (cycle n : ℕ) → choice.width ≡ length p.circuit.flops → ShowsCycle p.circuit p.runs planes cycle →
    1 ≤ n → n ≤ length p.runs → cycle ≤ length (run_of p.runs n) →
    signature choice (lane (wide_of (length p.runs)) choice.width planes (n - 1)) ≡ signature_at (recorded_by p choice) n cycle
lane_is p choice planes cycle n width shows low high last =
    ap (λ (w : ℕ). signature choice (lane (wide_of (length p.runs)) w planes (n - 1))) width ∙ ap (signature choice) (shows.each n low high last)

shown_is : (p : Passing) (choice : Chosen) (planes : List ℕ) (stored : List Bool) (cycle n : ℕ) → choice.width ≡ length p.circuit.flops →
    ShowsCycle p.circuit p.runs planes cycle → 1 ≤ n → n ≤ length p.runs → cycle ≤ length (run_of p.runs n) →
    shows_signature choice planes (wide_of (length p.runs)) stored (n - 1) ≡ bits_eq (signature_at (recorded_by p choice) n cycle) stored
unfolding shows_signature
shown_is p choice planes stored cycle n width shows low high last =
    ap (λ (t : List Bool). bits_eq t stored) (lane_is p choice planes cycle n width shows low high last)

none_alike : (p : Passing) (choice : Chosen) (planes : List ℕ) (stored : List Bool) (cycle from below : ℕ) → choice.width ≡ length p.circuit.flops →
    ShowsCycle p.circuit p.runs planes cycle → NoneShowing choice p.runs planes stored cycle from below →
    NoneAlike (recorded_by p choice) stored cycle from below
none_alike p choice planes stored cycle from below width shows none =
    record {
      each = λ n lo hi there last same.
          false≢true
          (sym (none.each n lo hi there last)
          ∙ (shown_is p choice planes stored cycle n width shows (omega (arith, lo)) there last
          ∙ subst (λ (t : List Bool). bits_eq (signature_at (recorded_by p choice) n cycle) t ≡ true) same (bits_same (signature_at (recorded_by p choice) n cycle))));
    }

pub alike_in : (p : Passing) (choice : Chosen) (planes : List ℕ) (stored : List Bool) (cycle from : ℕ) (found : Option ℕ) →
    choice.width ≡ length p.circuit.flops → ShowsCycle p.circuit p.runs planes cycle →
    MatchOption found (NoneShowing choice p.runs planes stored cycle from (length p.runs)) (IsNextShowing choice p.runs planes stored cycle from) →
    MatchOption found (NoneAlike (recorded_by p choice) stored cycle from (length p.runs)) (IsNextAlike (recorded_by p choice) stored cycle from)
alike_in p choice planes stored cycle from None width shows h = none_alike p choice planes stored cycle from (length p.runs) width shows h
alike_in p choice planes stored cycle from (Some n) width shows h =
    let is = h.is_moment in
    let same : signature_at (recorded_by p choice) n cycle ≡ stored =
    bits_same_is (signature_at (recorded_by p choice) n cycle) stored
    (sym (shown_is p choice planes stored cycle n width shows is.from_one is.recorded is.lasts) ∙ h.shows) in
    record {
      behind = h.behind;
      is_moment = is;
      alike = eq-eqb (hash_of (signature_at (recorded_by p choice) n cycle)) (hash_of stored) (ap hash_of same);
      before = none_alike p choice planes stored cycle from (n - 1) width shows h.before;
    }

-- ---- the parts of a chip

pub asked_width : (r : Recording) (choice : Chosen) (p : Passing) (track : List (List ℕ)) (index : Index) → IsChip r choice p track index →
    choice.width ≡ length p.circuit.flops
asked_width r choice p track index is =
    ap (λ (choice : Chosen). choice.width) is.choice_is ∙ (is.recording.states ∙ ap (λ (c : Circuit). length c.flops) (sym is.circuit))

pub asked_items : (r : Recording) (choice : Chosen) (p : Passing) (track : List (List ℕ)) (index : Index) (stored : List Bool) →
    IsChip r choice p track index → length stored ≡ length r.choice.items → length stored ≡ length choice.items
asked_items r choice p track index stored is items = items ∙ ap (λ (choice : Chosen). length choice.items) (sym is.choice_is)

pub asked_shows : (r : Recording) (choice : Chosen) (p : Passing) (track : List (List ℕ)) (index : Index) (planes : List ℕ) (cycle : ℕ) →
    IsChip r choice p track index → ShowsCycle r.circuit r.runs planes cycle → ShowsCycle p.circuit p.runs planes cycle
asked_shows r choice p track index planes cycle is shows =
    subst (λ (c : Circuit). ShowsCycle c p.runs planes cycle) (sym is.circuit)
    (subst (λ (runs : List Run). ShowsCycle r.circuit runs planes cycle) (sym is.runs) shows)

pub alike_at : (r : Recording) (choice : Chosen) (p : Passing) (track : List (List ℕ)) (index : Index) (stored : List Bool) (cycle from : ℕ)
    (found : Option ℕ) → IsChip r choice p track index →
    MatchOption found (NoneAlike (recorded_by p choice) stored cycle from (length p.runs)) (IsNextAlike (recorded_by p choice) stored cycle from) →
    MatchOption found (NoneAlike r stored cycle from (length r.runs)) (IsNextAlike r stored cycle from)
alike_at r choice p track index stored cycle from found is h =
    let same : recorded_by p choice ≡ r = λ i. record { circuit = is.circuit i; choice = is.choice_is i; runs = is.runs i } in
    subst (λ (x : Recording). MatchOption found (NoneAlike x stored cycle from (length x.runs)) (IsNextAlike x stored cycle from)) same h
