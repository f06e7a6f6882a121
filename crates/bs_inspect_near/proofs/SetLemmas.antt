-- The values of other runs, of each signal, word by word and cycle by cycle.
use Rattle.std.proofs.Common.{◌≡◌, ◌≢◌, ℕ, zero, suc, ◌<◌, ◌≤◌, ◌+◌, ◌-◌, ◌*◌, ◌/◌, ◌%◌, Bool, true, false, not, ◌&&◌, List, [], ◌∷◌, ◌++◌, length, map, get_or, set}
use Rattle.std.proofs.Common.{refl, ap, sym, subst, ◌∙◌, ◌⊎◌, inl, inr, ⊎_elim, arith}
use Rattle.std.specs.Prelude.{◌==◌}
use Rattle.std.specs.Int.{bit_at}
use Rattle.std.specs.List.{range_with_len}
use Rattle.std.proofs.lemmas.Bool.{cases_eq, cases_lt, eqb-true, le-leb, lt-ltb}
use Rattle.std.proofs.lemmas.List.{get_or_append_left, get_or_default, get_or_push, get_or-set_other, get_or-set_same, length-map, length_push, length-set}
use Rattle.bs_net.specs.Circuit.{Circuit}
use Rattle.bs_inspect_view.specs.declared.signal.Signal.{Signal as CodeSignal}
use Rattle.bs_stim.specs.Packing.{bit_in}
use Rattle.bs_lanes.specs.Planes.{bit_place, lane}
use Rattle.bs_break.specs.Masks.{has}
use Rattle.bs_scan.specs.Moments.{IsMoment, Moment, Run, is_listed, state_at}
use Rattle.bs_chip.specs.Lockstep.{IsLongest, Passing, ShowsCycle, wide_of}
use Rattle.bs_inspect_near.specs.declared.novelty.TheConstants.{MAX_VALUES}
use Rattle.bs_inspect_near.specs.Values.{AreElsewhere, value_at}
use Rattle.bs_inspect_near.specs.Shown.{AreEmpty, AreSets, Grows, IsColumn, IsFull, IsMask, IsSet, ShowsWords, is_viewed, lane_run}
use Rattle.bs_inspect_near.specs.Known.{AreWhole, all_places}
use Rattle.bs_inspect_near.proofs.ValueLemmas.{words_are}
use Rattle.bs_inspect_near.proofs.NoveltyLemmas.{places_here}

-- ---- one set

-- a run that lasts to a cycle, and is not the one, is looked at
viewed : (runs : List Run) (first number cycle k : ℕ) → first + k < length runs → (first + k + 1 ≢ number) → cycle ≤ length (lane_run runs first k) →
    is_viewed runs first number cycle k ≡ true
viewed runs first number cycle k there differs lasts =
    λ i. (lt-ltb (first + k) (length runs) there i) && (apart i && le-leb cycle (length (lane_run runs first k)) lasts i)
  where
    apart : not (first + k + 1 == number) ≡ true
    apart = by (first + k + 1 == number) refl
      where
        by : (b : Bool) → (first + k + 1 == number) ≡ b → not (first + k + 1 == number) ≡ true
        by false e = ap not e
        by true e = absurd (differs (eqb-true (first + k + 1) number e))

pub set_parts : (c : Circuit) (runs : List Run) (number : ℕ) (places : List ℕ) (cycle upto : ℕ) (values : List (List Bool)) →
    IsSet c runs number places cycle upto values → AreElsewhere c runs number places values
set_parts c runs number places cycle upto values set = set.elsewhere

pub set_done : (c : Circuit) (runs : List Run) (first number cycle : ℕ) (words places : List ℕ) (mask : ℕ) (old new : List (List Bool)) →
    ShowsWords c runs first words cycle → IsMask runs first number cycle mask → IsSet c runs number places cycle first old →
    AreElsewhere c runs number places new → Grows old new → IsFull words places mask new → IsSet c runs number places cycle (first + 64) new
set_done c runs first number cycle words places mask old new shows is set elsewhere grows full = record {
  elsewhere = elsewhere;
  all = λ few m there done other. by few m there done other;
}
  where
    before : length new ≤ MAX_VALUES → (m : Moment) → IsMoment runs m → (m.cycle < cycle) ⊎ ((m.cycle ≡ cycle) × (m.run ≤ first)) → m.run ≢ number →
        is_listed new (value_at c runs places m.run m.cycle) ≡ true
    before few m there done other =
        grows.listed (value_at c runs places m.run m.cycle) (set.all (omega (arith, few, grows.longer)) m there done other)

    here : length new ≤ MAX_VALUES → (m : Moment) → IsMoment runs m → m.cycle ≡ cycle → first < m.run → m.run ≤ first + 64 → m.run ≢ number →
        is_listed new (value_at c runs places m.run m.cycle) ≡ true
    here few m there at behind le other =
        let k : ℕ = m.run - first - 1 in
        let number_is : m.run ≡ first + k + 1 = omega (arith, behind) in
        let place : m.run - 1 ≡ first + k = omega (arith, behind) in
        let small : k < 64 = omega (arith, le, behind) in
        let recorded : first + k < length runs = omega (arith, there.recorded, behind) in
        let lasts : cycle ≤ length (lane_run runs first k) =
        subst (λ (n : ℕ). n ≤ length (lane_run runs first k)) at (subst (λ (n : ℕ). m.cycle ≤ length (get_or runs n [])) place there.lasts) in
        let on : has mask k ≡ true = is.each k small ∙ viewed runs first number cycle k recorded (λ e. other (number_is ∙ e)) lasts in
        ap (λ (n : ℕ). is_listed new (value_at c runs places m.run n)) at
        ∙ (ap (is_listed new) (sym (words_are c runs first cycle words places k m.run shows small recorded lasts number_is))
        ∙ (full.is few).each k small on)

    by : length new ≤ MAX_VALUES → (m : Moment) → IsMoment runs m → (m.cycle < cycle) ⊎ ((m.cycle ≡ cycle) × (m.run ≤ first + 64)) → m.run ≢ number →
        is_listed new (value_at c runs places m.run m.cycle) ≡ true
    by few m there (inl less) other = before few m there (inl less) other
    by few m there (inr p) other =
        ⊎_elim (λ (behind : first < m.run). here few m there p.0 behind p.1 other)
        (λ (le : m.run ≤ first). before few m there (inr (p.0, le)) other)
        (cases_lt first m.run)

pub set_passed : (c : Circuit) (runs : List Run) (number : ℕ) (places : List ℕ) (cycle few many : ℕ) (values : List (List Bool)) →
    MAX_VALUES < length values → IsSet c runs number places cycle few values → IsSet c runs number places cycle many values
set_passed c runs number places cycle few many values over set = record {
  elsewhere = set.elsewhere;
  all = λ small m there done other. absurd (omega (arith, over, small));
}

-- ---- all sets

pub sets_begin : (c : Circuit) (runs : List Run) (number cycle upto more : ℕ) (places : List (List ℕ)) (sets : List (List (List Bool))) →
    AreSets c runs number places cycle 0 upto 0 sets → AreSets c runs number places cycle 0 upto more sets
sets_begin c runs number cycle upto more places sets are = record {
  long = are.long;
  first = λ i lt none. absurd (omega (arith, none));
  rest = are.rest;
}

pub sets_done : (c : Circuit) (runs : List Run) (number cycle upto more i : ℕ) (places : List (List ℕ)) (sets : List (List (List Bool))) →
    length sets ≤ i → AreSets c runs number places cycle i upto more sets → AreSets c runs number places cycle 0 (upto + more) 0 sets
sets_done c runs number cycle upto more i places sets le are = record {
  long = are.long;
  first = λ j lt none. absurd (omega (arith, none));
  rest = λ j lt low. are.first j lt (omega (arith, lt, le));
}

pub signal_there : (c : Circuit) (runs : List Run) (number cycle upto more done i : ℕ) (signals : List CodeSignal) (sets : List (List (List Bool))) →
    AreSets c runs number (all_places signals) cycle done upto more sets → i < length sets → i < length signals
signal_there c runs number cycle upto more done i signals sets are lt =
    omega (arith, lt, are.long, length-map signals (λ (x : CodeSignal). x.places))

pub sets_here : (c : Circuit) (runs : List Run) (number cycle upto more i : ℕ) (signals : List CodeSignal) (s : CodeSignal) (places : List ℕ)
    (sets : List (List (List Bool))) (set : List (List Bool)) → i < length sets → s ≡ get_or signals i s → places ≡ s.places →
    set ≡ get_or sets i set → AreSets c runs number (all_places signals) cycle i upto more sets → IsSet c runs number places cycle upto set
sets_here c runs number cycle upto more i signals s places sets set lt at e here are =
    let there : i < length signals = signal_there c runs number cycle upto more i i signals sets are lt in
    subst (IsSet c runs number places cycle upto) (sym (here ∙ get_or_default sets i set [] lt))
    (subst (λ (ps : List ℕ). IsSet c runs number ps cycle upto (get_or sets i [])) (sym (places_here signals i s places there at e))
    (are.rest i lt (omega arith)))

pub sets_more : (c : Circuit) (runs : List Run) (number cycle upto more i : ℕ) (signals : List CodeSignal) (s : CodeSignal) (places : List ℕ)
    (sets : List (List (List Bool))) (new : List (List Bool)) → i < length sets → s ≡ get_or signals i s → places ≡ s.places →
    IsSet c runs number places cycle (upto + more) new → AreSets c runs number (all_places signals) cycle i upto more sets →
    AreSets c runs number (all_places signals) cycle (i + 1) upto more (set sets i new)
sets_more c runs number cycle upto more i signals s places sets new lt at e is are = record {
  long = length-set sets i new ∙ are.long;
  first = λ j less done.
      ⊎_elim
      (λ (same : j ≡ i).
      subst (λ (n : ℕ). IsSet c runs number (get_or (all_places signals) n []) cycle (upto + more) (get_or (set sets i new) n [])) (sym same)
      (subst (IsSet c runs number (get_or (all_places signals) i []) cycle (upto + more)) (sym (get_or-set_same sets i new [] lt))
      (subst (λ (ps : List ℕ). IsSet c runs number ps cycle (upto + more) new) (places_here signals i s places there at e) is)))
      (λ (other : j ≡ i → ⊥).
      subst (IsSet c runs number (get_or (all_places signals) j []) cycle (upto + more)) (sym (get_or-set_other sets i j new [] other))
      (are.first j (omega (arith, less, length-set sets i new)) (omega (arith, done, other))))
      (cases_eq j i);
  rest = λ j less low.
      let other : j ≢ i = λ same. omega (arith, same, low) in
      subst (IsSet c runs number (get_or (all_places signals) j []) cycle upto) (sym (get_or-set_other sets i j new [] other))
      (are.rest j (omega (arith, less, length-set sets i new)) (omega (arith, low)));
}
  where
    there : i < length signals
    there = signal_there c runs number cycle upto more i i signals sets are lt

-- ---- word by word

pub planes_room : (c : Circuit) (runs : List Run) (planes words : List ℕ) (cycle wide : ℕ) → ShowsCycle c runs planes cycle → wide ≡ wide_of (length runs) →
    length words ≡ length c.flops → length planes ≡ length words * wide
planes_room c runs planes words cycle wide shows e size = shows.size ∙ (λ i. sym size i * sym e i)

mapped_alike : (f g : ℕ → Bool) (a n : ℕ) → ((k : ℕ) → k < a + n → f k ≡ g k) → map f (range_with_len a n) ≡ map g (range_with_len a n)
mapped_alike f g a zero h = refl
mapped_alike f g a (suc n) h = λ i. (h a (omega arith) i) ∷ (mapped_alike f g (a + 1) n (λ k lt. h k (omega (arith, lt))) i)

-- a lane of one word is that of the planes
column_lane : (planes words : List ℕ) (wide word k : ℕ) → k < 64 → IsColumn planes wide word words →
    lane 1 (length words) words k ≡ lane wide (length words) planes (word * 64 + k)
column_lane planes words wide word k small is =
    mapped_alike (λ p. bit_in words (bit_place 1 p k)) (λ p. bit_in planes (bit_place wide p (word * 64 + k))) 0 (length words)
    (λ p lt. one p ∙ (ap (λ (w : ℕ). has w k) (is.each p (omega (arith, lt))) ∙ sym (all p)))
  where
    one : (p : ℕ) → bit_in words (bit_place 1 p k) ≡ has (get_or words p 0) k
    one p =
        let at : bit_place 1 p k / 64 ≡ p = omega (arith, small) in
        let low : bit_place 1 p k % 64 ≡ k = omega (arith, small) in
        λ i. bit_at (get_or words (at i) 0) (low i) == 1

    all : (p : ℕ) → bit_in planes (bit_place wide p (word * 64 + k)) ≡ has (get_or planes (p * wide + word) 0) k
    all p =
        let at : bit_place wide p (word * 64 + k) / 64 ≡ p * wide + word = omega (arith, small) in
        let low : bit_place wide p (word * 64 + k) % 64 ≡ k = omega (arith, small) in
        λ i. bit_at (get_or planes (at i) 0) (low i) == 1

pub column_shows : (c : Circuit) (runs : List Run) (planes words : List ℕ) (cycle wide word first : ℕ) → ShowsCycle c runs planes cycle →
    wide ≡ wide_of (length runs) → length words ≡ length c.flops → IsColumn planes wide word words → first ≡ word * 64 →
    ShowsWords c runs first words cycle
column_shows c runs planes words cycle wide word first shows e size is f = record {
  size = size;
  each = λ k small there lasts.
      let place : first + k + 1 - 1 ≡ first + k = omega arith in
      let lane_is : word * 64 + k ≡ first + k + 1 - 1 = omega (arith, f) in
      ap (λ (n : ℕ). lane 1 n words k) (sym size)
      ∙ (column_lane planes words wide word k small is
      ∙ ((λ i. lane (e i) (size i) planes (lane_is i))
      ∙ (shows.each (first + k + 1) (omega arith) (omega (arith, there)) (subst (λ (n : ℕ). cycle ≤ length (get_or runs n [])) (sym place) lasts)
      ∙ ap (λ (n : ℕ). state_at c (get_or runs n []) cycle) place)));
}

pub sets_first : (c : Circuit) (runs : List Run) (number cycle word first : ℕ) (places : List (List ℕ)) (sets : List (List (List Bool))) →
    first ≡ word * 64 → AreSets c runs number places cycle 0 (word * 64) 0 sets → AreSets c runs number places cycle 0 first 0 sets
sets_first c runs number cycle word first places sets e are = subst (λ (n : ℕ). AreSets c runs number places cycle 0 n 0 sets) (sym e) are

pub sets_next : (c : Circuit) (runs : List Run) (number cycle word first : ℕ) (places : List (List ℕ)) (sets : List (List (List Bool))) →
    first ≡ word * 64 → AreSets c runs number places cycle 0 (first + 64) 0 sets → AreSets c runs number places cycle 0 ((word + 1) * 64) 0 sets
sets_next c runs number cycle word first places sets e are =
    let f : first + 64 ≡ (word + 1) * 64 = omega (arith, e) in subst (λ (n : ℕ). AreSets c runs number places cycle 0 n 0 sets) f are

pub sets_zero : (c : Circuit) (runs : List Run) (number cycle : ℕ) (places : List (List ℕ)) (sets : List (List (List Bool))) →
    AreSets c runs number places cycle 0 0 0 sets → AreSets c runs number places cycle 0 (0 * 64) 0 sets
sets_zero c runs number cycle places sets are = are

-- ---- cycle by cycle

set_next : (c : Circuit) (runs : List Run) (number cycle upto : ℕ) (places : List ℕ) (values : List (List Bool)) → length runs ≤ upto →
    IsSet c runs number places cycle upto values → IsSet c runs number places (cycle + 1) 0 values
set_next c runs number cycle upto places values all set = record {
  elsewhere = set.elsewhere;
  all = λ few m there done other. set.all few m there (turned m there done) other;
}
  where
    turned : (m : Moment) → IsMoment runs m → (m.cycle < cycle + 1) ⊎ ((m.cycle ≡ cycle + 1) × (m.run ≤ 0)) →
        (m.cycle < cycle) ⊎ ((m.cycle ≡ cycle) × (m.run ≤ upto))
    turned m there (inl less) =
        ⊎_elim (λ (lt : m.cycle < cycle). inl lt) (λ (le : cycle ≤ m.cycle). inr (omega (arith, less, le), omega (arith, there.recorded, all)))
        (cases_lt m.cycle cycle)
    turned m there (inr p) = absurd (omega (arith, p.1, there.from_one))

pub cycle_done : (c : Circuit) (runs : List Run) (number cycle wide word : ℕ) (places : List (List ℕ)) (sets : List (List (List Bool))) → wide ≤ word →
    length runs ≤ 64 * wide → AreSets c runs number places cycle 0 (word * 64) 0 sets → AreSets c runs number places (cycle + 1) 0 0 0 sets
cycle_done c runs number cycle wide word places sets le room are = record {
  long = are.long;
  first = λ i lt none. absurd (omega (arith, none));
  rest = λ i lt low. set_next c runs number cycle (word * 64) (get_or places i []) (get_or sets i []) (omega (arith, room, le)) (are.rest i lt low);
}

pub sets_whole : (c : Circuit) (runs : List Run) (number cycle most : ℕ) (places : List (List ℕ)) (sets : List (List (List Bool))) → most + 1 ≤ cycle →
    IsLongest runs most → AreSets c runs number places cycle 0 0 0 sets → AreWhole c runs number places sets
sets_whole c runs number cycle most places sets le longest are = record {
  long = are.long;
  each = λ i lt. record {
    elsewhere = (are.rest i lt (omega arith)).elsewhere;
    all = λ few m there other.
        (are.rest i lt (omega arith)).all few m there
        (inl (omega (arith, le, there.lasts, longest.each m.run there.from_one there.recorded))) other;
  };
}

-- ---- the pass

pub pass_shows : (c : Circuit) (runs : List Run) (p : Passing) (planes : List ℕ) (cycle : ℕ) → p.circuit ≡ c → p.runs ≡ runs → p.cycle ≡ cycle →
    ShowsCycle p.circuit p.runs planes p.cycle → ShowsCycle c runs planes cycle
pass_shows c runs p planes cycle e f g shows =
    subst (λ (n : ℕ). ShowsCycle c runs planes n) g
    (subst (λ (rs : List Run). ShowsCycle c rs planes p.cycle) f (subst (λ (d : Circuit). ShowsCycle d p.runs planes p.cycle) e shows))

pub pass_wide : (runs : List Run) (p : Passing) (wide : ℕ) → p.runs ≡ runs → wide ≡ wide_of (length p.runs) → wide ≡ wide_of (length runs)
pass_wide runs p wide e is = is ∙ ap (λ (rs : List Run). wide_of (length rs)) e

pub pass_room : (runs : List Run) (p : Passing) (wide n : ℕ) → p.runs ≡ runs → wide ≡ wide_of (length p.runs) → n ≡ length p.runs →
    n ≤ 64 * wide_of (length p.runs) → length runs ≤ 64 * wide
pass_room runs p wide n e is count room = omega (arith, ap length e, is, count, room)

-- ---- empty sets

pub empty_none : (sets : List (List (List Bool))) → sets ≡ [] → AreEmpty sets
empty_none sets e = record { each = λ i lt. absurd (omega (arith, lt, ap length e)) }

pub empty_more : (sets after : List (List (List Bool))) (values : List (List Bool)) → AreEmpty sets → values ≡ [] → after ≡ sets ++ values ∷ [] →
    AreEmpty after
empty_more sets after values empty e goes =
    subst AreEmpty (sym goes) (record { each = λ i lt. by i lt (cases_lt i (length sets)) })
  where
    by : (i : ℕ) → i < length (sets ++ values ∷ []) → (i < length sets) ⊎ (length sets ≤ i) → get_or (sets ++ values ∷ []) i [] ≡ []
    by i lt (inl less) = get_or_append_left sets (values ∷ []) [] i less ∙ empty.each i less
    by i lt (inr le) = get_or_push sets values [] i (omega (arith, lt, le, length_push sets values)) ∙ e

pub sets_none : (c : Circuit) (runs : List Run) (number : ℕ) (signals : List CodeSignal) (sets : List (List (List Bool))) → length sets ≡ length signals →
    AreEmpty sets → AreSets c runs number (all_places signals) 0 0 0 0 sets
sets_none c runs number signals sets long empty = record {
  long = long ∙ sym (length-map signals (λ (x : CodeSignal). x.places));
  first = λ i lt none. absurd (omega (arith, none));
  rest = λ i lt low. subst (IsSet c runs number (get_or (all_places signals) i []) 0 0) (sym (empty.each i lt)) (none (get_or (all_places signals) i []));
}
  where
    none : (places : List ℕ) → IsSet c runs number places 0 0 []
    none places = record {
      elsewhere = record {
        each = λ j lt. absurd (omega (arith, lt));
        once = record { is = λ i j li lj e. absurd (omega (arith, li)) };
      };
      all = λ few m there done other. nowhere m there done;
    }
      where
        nowhere : (m : Moment) → IsMoment runs m → (m.cycle < 0) ⊎ ((m.cycle ≡ 0) × (m.run ≤ 0)) → is_listed [] (value_at c runs places m.run m.cycle) ≡ true
        nowhere m there (inl less) = absurd (omega (arith, less))
        nowhere m there (inr p) = absurd (omega (arith, p.1, there.from_one))
