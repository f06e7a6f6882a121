-- The track of planes, one cycle on.
use Rattle.std.proofs.Common.{◌≡◌, ℕ, suc, zero, ◌<◌, ◌≤◌, ◌+◌, ◌-◌, Bool, List, [], ◌∷◌, ◌++◌, length, take, get_or, refl, arith}
use Rattle.std.proofs.Common.{ap, sym, subst, ◌∙◌, ◌⊎◌, inl, inr, ⊎_elim, length-append}
use Rattle.std.specs.Prelude.{Result, Ok, Err, IfOk, Some, slice_get}
use Rattle.std.proofs.lemmas.Bool.{cases_eq, cases_lt}
use Rattle.std.proofs.lemmas.List.{take_all}
use Rattle.bs_net.specs.Circuit.{Circuit}
use Rattle.bs_stim.specs.declared.limits.TheConstants.{MAX_CYCLES}
use Rattle.bs_scan.specs.Choice.{Chosen, depth_of}
use Rattle.bs_scan.specs.Crash.{Recording, IsRecording}
use Rattle.bs_scan.specs.Moments.{Run, moment, state_at}
use Rattle.bs_scan.specs.Register.{Register, cleared, clocked}
use Rattle.bs_scan.specs.Signature.{signature, signatures_before, stored_at}
use Rattle.bs_scan.proofs.CrashLemmas.{few_before}
use Rattle.bs_chip.specs.declared.index.Index.{Index}
use Rattle.bs_chip.specs.Chip.{IsChip}
use Rattle.std.specs.HashMap.{hash_map_len}
use Rattle.bs_chip.proofs.IndexLemmas.{cycles_none, firsts_none}
use Rattle.bs_chip.specs.Lockstep.{Passing, IsSamePass, ShowsCycle, TrackShows, Extends, IsFirstIn, IsLongest, IsLowest, NoneAmong, NoneBefore, NoneReached}

pub ok_weaker : {A E : Type 0} (P Q : A → Type 0) (r : Result A E) → ((a : A) → P a → Q a) → IfOk r P → IfOk r Q
ok_weaker P Q (Ok a) f h = f a h
ok_weaker P Q (Err e) f h = h

-- ---- the track

first_shows : (c : Circuit) (runs : List Run) (planes : List ℕ) (track : List (List ℕ)) → ShowsCycle c runs planes 0 → track ≡ planes ∷ [] →
    TrackShows c runs track
first_shows c runs planes track h e = subst (λ (t : List (List ℕ)). TrackShows c runs t) (sym e) only
  where
    each : (k : ℕ) → k < 1 → ShowsCycle c runs (get_or (planes ∷ []) k []) k
    each zero lt = h
    each (suc k) lt = absurd (omega (arith, lt))

    only : TrackShows c runs (planes ∷ [])
    only = record { some = omega arith; few = omega arith; each = each }

-- the same of a pass that stands at reset
pub starts_with : (p : Passing) (c : Circuit) (runs : List Run) (planes : List ℕ) (track : List (List ℕ)) →
    p ≡ record { circuit = c; runs = runs; cycle = 0 } → ShowsCycle p.circuit p.runs planes p.cycle → track ≡ planes ∷ [] → TrackShows c runs track
starts_with p c runs planes track e h =
    first_shows c runs planes track (subst (λ (q : Passing). ShowsCycle q.circuit q.runs planes q.cycle) e h)

at_end : (track : List (List ℕ)) (planes : List ℕ) → get_or (track ++ planes ∷ []) (length track) [] ≡ planes
at_end [] planes = refl
at_end (p ∷ track) planes = at_end track planes

at_front : (track : List (List ℕ)) (planes : List ℕ) (k : ℕ) → k < length track → get_or (track ++ planes ∷ []) k [] ≡ get_or track k []
at_front [] planes k lt = absurd (omega (arith, lt))
at_front (p ∷ track) planes zero lt = refl
at_front (p ∷ track) planes (suc k) lt = at_front track planes k (omega (arith, lt))

pub still_shows : (c : Circuit) (runs : List Run) (old new : List (List ℕ)) (planes : List ℕ) (cycle : ℕ) → cycle ≤ MAX_CYCLES → TrackShows c runs old →
    ShowsCycle c runs planes cycle → Extends old new planes cycle → TrackShows c runs new
still_shows c runs old new planes cycle few h here x = by x.either
  where
    longer : length old ≡ cycle → TrackShows c runs (old ++ planes ∷ [])
    longer e =
        record {
          some = omega (arith, length-append old (planes ∷ []));
          few = omega (arith, length-append old (planes ∷ []), e, few);
          each = λ k lt.
              ⊎_elim
              (λ (less : k < length old). subst (λ (p : List ℕ). ShowsCycle c runs p k) (sym (at_front old planes k less)) (h.each k less))
              (λ (le : length old ≤ k).
              let same : length old ≡ k = omega (arith, le, lt, length-append old (planes ∷ [])) in
              let P : ℕ → Type 0 = λ n. ShowsCycle c runs (get_or (old ++ planes ∷ []) n []) n in
              subst P same
              (subst (λ (p : List ℕ). ShowsCycle c runs p (length old)) (sym (at_end old planes))
              (subst (λ (n : ℕ). ShowsCycle c runs planes n) (sym e) here)))
              (cases_lt k (length old));
        }

    by : (new ≡ old) ⊎ ((length old ≡ cycle) × (new ≡ old ++ planes ∷ [])) → TrackShows c runs new
    by (inl e) = subst (λ (t : List (List ℕ)). TrackShows c runs t) (sym e) h
    by (inr e) = subst (λ (t : List (List ℕ)). TrackShows c runs t) (sym e.1) (longer e.0)

-- a pass over the same runs goes on beside a track
pub track_same : (old new : Passing) (track : List (List ℕ)) → IsSamePass old new → TrackShows old.circuit old.runs track →
    TrackShows new.circuit new.runs track
track_same old new track same h =
    subst (λ (c : Circuit). TrackShows c new.runs track) (sym same.circuit)
    (subst (λ (runs : List Run). TrackShows old.circuit runs track) (sym same.runs) h)

-- what a pass showed before it went on
pub shows_back : (old new : Passing) (planes words : List ℕ) (at : ℕ) → IsSamePass old new → at ≡ old.cycle → words ≡ planes →
    ShowsCycle old.circuit old.runs planes old.cycle → ShowsCycle new.circuit new.runs words at
shows_back old new planes words at same here is h =
    subst (λ (ws : List ℕ). ShowsCycle new.circuit new.runs ws at) (sym is)
    (subst (λ (n : ℕ). ShowsCycle new.circuit new.runs planes n) (sym here)
    (subst (λ (c : Circuit). ShowsCycle c new.runs planes old.cycle) (sym same.circuit)
    (subst (λ (runs : List Run). ShowsCycle old.circuit runs planes old.cycle) (sym same.runs) h)))

-- it stands there again
pub back_there : (old mid new : Passing) (at : ℕ) → IsSamePass old mid → at ≡ old.cycle →
    new ≡ record { circuit = mid.circuit; runs = mid.runs; cycle = at } → new ≡ old
back_there old mid new at same here is = is ∙ (λ i. record { circuit = same.circuit i; runs = same.runs i; cycle = here i })

-- ---- the look behind the track

pub behind_more : (c : Circuit) (runs : List Run) (states : List (List Bool)) (at : ℕ) → NoneBefore c runs states (at + 1) →
    NoneAmong c runs states (at + 1) 0 (length runs) → NoneBefore c runs states (at + 1 + 1)
behind_more c runs states at none among =
    record {
      each = λ k lt.
          ⊎_elim
          (λ (same : k ≡ at + 1). (let P : ℕ → Type 0 = λ n. NoneAmong c runs states n 0 (length runs) in subst P (sym same) among))
          (λ (other : k ≡ at + 1 → ⊥). none.each k (omega (arith, lt, other)))
          (cases_eq k (at + 1));
    }

pub behind_hit : (c : Circuit) (runs : List Run) (states : List (List Bool)) (at cycle r : ℕ) → cycle ≡ at + 1 → NoneBefore c runs states (at + 1) →
    IsLowest c runs states cycle 0 r → IsFirstIn c runs states (moment r cycle)
behind_hit c runs states at cycle r e none low =
    record { lowest = low; before = record { each = λ k lt. none.each k (omega (arith, lt, e)) } }

pub behind_all : (c : Circuit) (runs : List Run) (states : List (List Bool)) (at most : ℕ) → most ≤ at → IsLongest runs most →
    NoneBefore c runs states (at + 1) →
    NoneReached c runs states
behind_all c runs states at most le longest none =
    record {
      each = λ k.
          ⊎_elim (λ (lt : k < at + 1). none.each k lt)
          (λ (ge : at + 1 ≤ k).
          record { each = λ r from hi there last. absurd (omega (arith, ge, le, last, longest.each r (omega (arith, from)) there)) })
          (cases_lt k (at + 1));
    }

-- ---- the register

pub track_at : (track : List (List ℕ)) (k : ℕ) (planes : List ℕ) → slice_get track k ≡ Some planes → get_or track k [] ≡ planes
track_at [] k planes e = absurd (cc)
track_at (p ∷ track) zero planes e = cc
track_at (p ∷ track) (suc k) planes e = track_at track k planes e

abbrev filled : Circuit → Chosen → Run → ℕ → ℕ → Register
filled c choice run count k = record { choice = choice; stored = signatures_before c choice run count k }

-- a register that is cleared has been clocked from no cycle
pub filled_none : (c : Circuit) (run : Run) (k : ℕ) (r old : Register) → r ≡ cleared old → r ≡ filled c old.choice run (k - k) k
filled_none c run k r old e =
    let none : 0 ≡ k - k = omega arith in
    let P : ℕ → Type 0 = λ n. r ≡ filled c old.choice run n k in
    subst P none e

-- it is clocked once more, as long as it keeps what it has
pub filled_more : (c : Circuit) (choice : Chosen) (run : Run) (first k : ℕ) (r next : Register) (s : List Bool) → first ≤ k →
    k + 1 - first ≤ depth_of choice → r ≡ filled c choice run (k - first) k → s ≡ state_at c run k → next ≡ clocked r s →
    next ≡ filled c choice run (k + 1 - first) (k + 1)
filled_more c choice run first k r next s le fits e f g =
    let t : List (List Bool) = signatures_before c choice run (k - first) k in
    let few : length t ≤ k - first = few_before c choice run (k - first) k in
    let all : take (depth_of choice) (signature choice (state_at c run k) ∷ t) ≡ signature choice (state_at c run k) ∷ t =
    take_all (depth_of choice) (signature choice (state_at c run k) ∷ t) (omega (arith, few, fits, le)) in
    let count : suc (k - first) ≡ k + 1 - first = omega (arith, le) in
    let later : suc k ≡ k + 1 = omega arith in
    let put : clocked r s ≡ record { choice = choice; stored = signature choice (state_at c run k) ∷ t } =
    (λ i. clocked (e i) (f i)) ∙ (λ i. record { choice = choice; stored = all i }) in
    g ∙ (put ∙ (λ i. filled c choice run (count i) (later i)))

-- all cycles, where it keeps more signatures than there are
from_reset : (c : Circuit) (choice : Chosen) (run : Run) (n k : ℕ) → k ≤ n → signatures_before c choice run k k ≡ signatures_before c choice run n k
from_reset c choice run zero zero h = refl
from_reset c choice run (suc n) zero h = refl
from_reset c choice run zero (suc k) h = absurd (omega (arith, h))
from_reset c choice run (suc n) (suc k) h =
    ap (λ (l : List (List Bool)). signature choice (state_at c run k) ∷ l) (from_reset c choice run n k (omega (arith, h)))

-- it has been clocked from as many cycles before as it keeps signatures, or from reset
pub filled_all : (c : Circuit) (choice : Chosen) (run : Run) (first cycle k : ℕ) (r : Register) → first ≡ cycle - depth_of choice → k ≡ cycle →
    r ≡ filled c choice run (k - first) k → r ≡ record { choice = choice; stored = stored_at c choice run cycle }
filled_all c choice run first cycle k r e same f =
    f ∙ (λ i. record { choice = choice; stored = held i })
  where
    here : (P : ℕ → ℕ → Type 0) → P (cycle - (cycle - depth_of choice)) cycle → P (k - first) k
    here P p = subst (λ (n : ℕ). P (n - first) n) (sym same) (subst (λ (n : ℕ). P (cycle - n) cycle) (sym e) p)

    by : (cycle < depth_of choice) ⊎ (depth_of choice ≤ cycle) →
        signatures_before c choice run (cycle - (cycle - depth_of choice)) cycle ≡ stored_at c choice run cycle
    by (inl less) =
        let whole : cycle - (cycle - depth_of choice) ≡ cycle = omega (arith, less) in
        ap (λ (n : ℕ). signatures_before c choice run n cycle) whole ∙ from_reset c choice run (depth_of choice) cycle (omega (arith, less))
    by (inr le) =
        let depth : cycle - (cycle - depth_of choice) ≡ depth_of choice = omega (arith, le) in
        ap (λ (n : ℕ). signatures_before c choice run n cycle) depth

    held : signatures_before c choice run (k - first) k ≡ stored_at c choice run cycle
    held = here (λ n m. signatures_before c choice run n m ≡ stored_at c choice run cycle) (by (cases_lt cycle (depth_of choice)))

-- ---- a chip

-- a new chip stands at reset and keeps that cycle
pub new_chip : (made : Recording) (choice : Chosen) (p : Passing) (track : List (List ℕ)) (index : Index) → IsRecording made → choice ≡ made.choice →
    p.circuit ≡ made.circuit → p.runs ≡ made.runs → TrackShows made.circuit made.runs track → index.cycles ≡ 0 →
    hash_map_len index.first ≡ 0 → IsChip made choice p track index
new_chip made choice p track index recording is e f shows none empty =
    record {
      recording = recording;
      choice_is = is;
      circuit = e;
      runs = f;
      shows = shows;
      notes = cycles_none made.circuit made.runs index.first index.cycles none;
      firsts = firsts_none made.circuit made.runs index.first empty;
      bound = omega (arith, empty);
    }
