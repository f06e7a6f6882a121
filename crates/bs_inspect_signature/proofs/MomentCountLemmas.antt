-- What a list counts.
use Rattle.std.proofs.Common.{◌≡◌, ◌≢◌, inl, inr, ℕ, zero, suc, ◌<◌, ◌≤◌, ◌+◌, Bool, true, false, List, [], ◌∷◌, ◌++◌, length, map, take, get_or, refl, ap, sym, subst, ◌∙◌, arith, min, Option, Some, None}
use Rattle.std.specs.Prelude.{All, IfSome, nat_lt, slice_get}
use Rattle.std.proofs.lemmas.Bool.{false≢true, ltb-true, ltb-false}
use Rattle.std.specs.Option.{option_to_list}
use Rattle.std.proofs.lemmas.List.{length-append, length-map, map-append, take-append-le, take_all}
use Rattle.std.proofs.lemmas.List.Sums.{sum_by_push}
use Rattle.std.specs.List.{range_with_len}
use Rattle.std.proofs.lemmas.List.Elements.{All-append}
use Rattle.std.proofs.lemmas.List.FromFn.{map-range_with_len_more}
use Rattle.bs_scan.specs.declared.seen.Seen.{Seen}
use Rattle.bs_scan.specs.Seen.{whole}
use Rattle.bs_net.specs.Circuit.{Circuit}
use Rattle.bs_log.specs.declared.line.Line.{Line}
use Rattle.bs_scan.specs.Choice.{Chosen, depth_of}
use Rattle.bs_scan.specs.Crash.{Recording, dump_at, recording_of}
use Rattle.bs_net.specs.Netlist.{circuit_of}
use Rattle.bs_net.specs.Parts.{Parts}
use Rattle.bs_stim.specs.Runs.{Stimulus, inputs_of}
use Rattle.bs_scan.specs.Moments.{IsMoment, Moment, Run, run_of, state_at, state_of}
use Rattle.bs_scan.specs.Signature.{predecessors, signature, signatures_before, stored_at}
use Rattle.bs_scan.specs.declared.dump.Dump.{Dump}
use Rattle.bs_scan.proofs.SignatureLemmas.{length_state}
use Rattle.bs_report.specs.declared.report.Cand.{Cand}
use Rattle.bs_report.specs.declared.report.ListEnd.{ListEnd}
use Rattle.bs_report.specs.declared.report.ListEnd.TheVariants.{Finished, Candidates, Conflicts}
use Rattle.bs_report.specs.Step.{IsRightEnd}
use Rattle.bs_preimage.specs.Listed.{HasListed}
use Rattle.bs_preimage.specs.Preimage.{PreimageState, next_activation}
use Rattle.bs_preimage.specs.declared.listing.Listing.{Listing}
use Rattle.bs_inspect_signature.specs.Spread.{later_moments, moment_taken}
use Rattle.bs_inspect_signature.specs.MomentCount.{AreMomentCounts, Counts, IsCountOf, IsMomentCount, counted_as, most_lemmas, most_listed, most_moments, room_of, taken_of, weight_of, weights_of}
use Rattle.bs_inspect_signature.specs.declared.counting.ListPurpose.{ListPurpose}
use Rattle.bs_inspect_signature.specs.declared.counting.TheConstants.{MAX_LISTED}
use Rattle.bs_inspect_signature.specs.declared.counting.PredecessorCount.{PredecessorCount}
use Rattle.bs_inspect_signature.specs.declared.counting.PredecessorCount.TheVariants.{Whole, More, Spent}
use Rattle.bs_inspect_signature.specs.declared.lists.MomentCount.{MomentCount}

ends_count : (aim : ListPurpose) (asked : List (List Bool)) (b : ℕ) (lines : List Line) (cands : List Cand) (end : ListEnd) →
    IsRightEnd asked (most_listed aim + 1) b lines cands end → Counts aim asked cands (counted_as cands end)
ends_count aim asked b lines cands (Finished id) h = (h.0, refl)
ends_count aim asked b lines cands Candidates h = h
ends_count aim asked b lines cands Conflicts h = (refl, omega (arith, h.0))

abbrev is_spent : PredecessorCount → Bool
is_spent (Whole n) = false
is_spent More = false
is_spent (Spent n) = true

-- a list is counted as spent by its end
ends_spent : (cands : List Cand) (end : ListEnd) (n : ℕ) → counted_as cands end ≡ Spent n → end ≡ Conflicts
ends_spent cands (Finished id) n e = absurd (false≢true (ap is_spent e))
ends_spent cands Candidates n e = absurd (false≢true (ap is_spent e))
ends_spent cands Conflicts n e = refl

is_count : (aim : ListPurpose) (old new : PreimageState) (present : Seen) (stored : List Bool) (listing : Listing) (count : PredecessorCount) →
    HasListed old new present stored None None (most_listed aim + 1) (most_lemmas aim) listing → count ≡ counted_as listing.cands listing.end →
    IsCountOf aim old.circuit old.choice present (stored ∷ []) count
is_count aim old new present stored listing count h e =
    subst (IsCountOf aim old.circuit old.choice present (stored ∷ [])) (sym e)
    (record {
      cands = listing.cands;
      ascend = h.ascend;
      right = h.candidates;
      is = ends_count aim (predecessors old.circuit old.choice present (stored ∷ [])) (most_lemmas aim) h.lines listing.cands listing.end h.ends;
      spent = λ n spent. record {
        held = stored;
        is = refl;
        hard = record { activation = next_activation old.problem; many = h.bound (ends_spent listing.cands listing.end n spent) };
      };
    })

-- the same with the bounds by other names
pub is_count_by : (aim : ListPurpose) (most lemmas : ℕ) (old new : PreimageState) (present : Seen) (stored : List Bool) (listing : Listing) (count : PredecessorCount) →
    most ≡ most_listed aim → lemmas ≡ most_lemmas aim → HasListed old new present stored None None (most + 1) lemmas listing →
    count ≡ counted_as listing.cands listing.end → IsCountOf aim old.circuit old.choice present (stored ∷ []) count
is_count_by aim most lemmas old new present stored listing count m l h e =
    is_count aim old new present stored listing count
    (subst (λ (n : ℕ). HasListed old new present stored None None (most_listed aim + 1) n listing) l
    (subst (λ (n : ℕ). HasListed old new present stored None None (n + 1) lemmas listing) m h)) e

-- what a register of one signature holds
held_by : (c : Circuit) (choice : Chosen) (run : Run) (d cycle : ℕ) → d ≡ 1 →
    option_to_list (slice_get (signatures_before c choice run d cycle) 0) ≡ signatures_before c choice run d cycle
held_by c choice run zero cycle e = refl
held_by c choice run (suc zero) zero e = refl
held_by c choice run (suc zero) (suc cycle) e = refl
held_by c choice run (suc (suc d)) cycle e = absurd (omega (arith, e))

-- behind reset it holds one
some_by : (c : Circuit) (choice : Chosen) (run : Run) (d cycle : ℕ) → d ≡ 1 → 1 ≤ cycle → slice_get (signatures_before c choice run d cycle) 0 ≢ None
some_by c choice run zero cycle e later = absurd (omega (arith, e))
some_by c choice run (suc d) zero e later = absurd (omega (arith, later))
some_by c choice run (suc d) (suc cycle) e later = is_there (signature choice (state_at c run cycle))
  where
    is_there : (t : List Bool) → Some t ≢ None
    is_there t h = cc

pub held_there : (r : Recording) (raw : Parts) (choice : Chosen) (s : Stimulus) (m : Moment) (dump : Dump) → r ≡ recording_of raw choice s →
    depth_of choice ≡ 1 → 1 ≤ m.cycle → dump ≡ dump_at r m → dump.stored ≢ None
held_there r raw choice s m dump is one later e none =
    some_by (circuit_of raw) choice (run_of (inputs_of s) m.run) (depth_of choice) m.cycle one later
    (sym (ap (λ (d : Dump). d.stored) e ∙ ap (λ (q : Recording). (dump_at q m).stored) is) ∙ none)

wide_by : (c : Circuit) (choice : Chosen) (run : Run) (d cycle : ℕ) →
    IfSome (slice_get (signatures_before c choice run d cycle) 0) (λ t. length t ≡ length choice.items)
wide_by c choice run zero cycle = tt
wide_by c choice run (suc d) zero = tt
wide_by c choice run (suc d) (suc cycle) = length-map choice.items _

pub stored_wide : (r : Recording) (raw : Parts) (choice : Chosen) (s : Stimulus) (m : Moment) (dump : Dump) (p : PreimageState) → r ≡ recording_of raw choice s →
    p.choice ≡ choice → dump ≡ dump_at r m → IfSome dump.stored (λ t. length t ≡ length p.choice.items)
stored_wide r raw choice s m dump p is same e =
    let held : dump.stored ≡ (dump_at (recording_of raw choice s) m).stored =
    ap (λ (d : Dump). d.stored) e ∙ ap (λ (q : Recording). (dump_at q m).stored) is in
    subst (λ (ch : Chosen). IfSome dump.stored (λ t. length t ≡ length ch.items)) (sym same)
    (subst (λ (o : Option (List Bool)). IfSome o (λ t. length t ≡ length choice.items)) (sym held)
    (wide_by (circuit_of raw) choice (run_of (inputs_of s) m.run) (depth_of choice) m.cycle))

pub state_wide : (r : Recording) (raw : Parts) (choice : Chosen) (s : Stimulus) (m : Moment) (dump : Dump) (p : PreimageState) → r ≡ recording_of raw choice s →
    p.circuit ≡ circuit_of raw → dump ≡ dump_at r m → length dump.state.bits ≡ length p.circuit.flops
state_wide r raw choice s m dump p is same e =
    ap (λ (d : Dump). length d.state.bits) e
    ∙ (ap (λ (q : Recording). length (dump_at q m).state.bits) is
    ∙ (length_state (circuit_of raw) (run_of (inputs_of s) m.run) m.cycle ∙ ap (λ (c : Circuit). length c.flops) (sym same)))

moment_counted_is : (aim : ListPurpose) (raw : Parts) (choice : Chosen) (s : Stimulus) (r : Recording) (m : Moment) (dump : Dump) (count : PredecessorCount) → r ≡ recording_of raw choice s →
    depth_of choice ≡ 1 → dump ≡ dump_at r m → IsCountOf aim (circuit_of raw) choice dump.state (option_to_list dump.stored) count →
    IsCountOf aim (circuit_of raw) choice (whole (state_of (circuit_of raw) (inputs_of s) m)) (stored_at (circuit_of raw) choice (run_of (inputs_of s) m.run) m.cycle) count
moment_counted_is aim raw choice s r m dump count is one e h =
    let shown : dump ≡ dump_at (recording_of raw choice s) m = e ∙ ap (λ (q : Recording). dump_at q m) is in
    let state : dump.state ≡ whole (state_of (circuit_of raw) (inputs_of s) m) = ap (λ (d : Dump). d.state) shown in
    let stored : option_to_list dump.stored ≡ stored_at (circuit_of raw) choice (run_of (inputs_of s) m.run) m.cycle =
    ap (λ (d : Dump). option_to_list d.stored) shown ∙ held_by (circuit_of raw) choice (run_of (inputs_of s) m.run) (depth_of choice) m.cycle one in
    subst (λ (t : List (List Bool)). IsCountOf aim (circuit_of raw) choice (whole (state_of (circuit_of raw) (inputs_of s) m)) t count) stored
    (subst (λ (x : Seen). IsCountOf aim (circuit_of raw) choice x (option_to_list dump.stored) count) state h)

-- the same of the circuit and the choice that a search is about
pub moment_counted_as : (aim : ListPurpose) (r : Recording) (raw : Parts) (choice : Chosen) (s : Stimulus) (m : Moment) (dump : Dump) (p : PreimageState) (count : PredecessorCount) → r ≡ recording_of raw choice s →
    p.circuit ≡ circuit_of raw → p.choice ≡ choice → depth_of choice ≡ 1 → dump ≡ dump_at r m →
    IsCountOf aim p.circuit p.choice dump.state (option_to_list dump.stored) count →
    IsCountOf aim (circuit_of raw) choice (whole (state_of (circuit_of raw) (inputs_of s) m)) (stored_at (circuit_of raw) choice (run_of (inputs_of s) m.run) m.cycle) count
moment_counted_as aim r raw choice s m dump p count is circuit same one e h =
    moment_counted_is aim raw choice s r m dump count is one e
    (subst (λ (c : Circuit). IsCountOf aim c choice dump.state (option_to_list dump.stored) count) circuit
    (subst (λ (ch : Chosen). IsCountOf aim p.circuit ch dump.state (option_to_list dump.stored) count) same h))

pub moment_there : (r : Recording) (raw : Parts) (choice : Chosen) (s : Stimulus) (m : Moment) → r ≡ recording_of raw choice s →
    IsMoment (inputs_of s) m → IsMoment r.runs m
moment_there r raw choice s m is h = subst (λ (q : Recording). IsMoment q.runs m) (sym is) h

pub few_listed : (most : ℕ) (old new : PreimageState) (present : Seen) (stored : List Bool) (b : ℕ) (listing : Listing) →
    most ≤ MAX_LISTED → HasListed old new present stored None None (most + 1) b listing → length listing.cands ≤ MAX_LISTED + 1
few_listed most old new present stored b listing le h = by listing.end h.ends
  where
    by : (end : ListEnd) → IsRightEnd (predecessors old.circuit old.choice present (stored ∷ [])) (most + 1) b h.lines listing.cands end → length listing.cands ≤ MAX_LISTED + 1
    by (Finished id) e = omega (arith, e.1, le)
    by Candidates e = omega (arith, e, le)
    by Conflicts e = omega (arith, e.0, le)

-- ---- moments, one after another

pub none_counted : (aim : ListPurpose) (c : Circuit) (choice : Chosen) (runs : List Run) (counts : List MomentCount) → counts ≡ [] → All (IsMomentCount aim c choice runs) counts
none_counted aim c choice runs counts e = subst (All (IsMomentCount aim c choice runs)) (sym e) (λ k d lt. absurd (omega (arith, lt)))

pub one_counted : (aim : ListPurpose) (c : Circuit) (choice : Chosen) (runs : List Run) (counts after : List MomentCount) (one : MomentCount) → All (IsMomentCount aim c choice runs) counts →
    IsMomentCount aim c choice runs one → after ≡ counts ++ one ∷ [] → All (IsMomentCount aim c choice runs) after
one_counted aim c choice runs counts after one all is e =
    subst (All (IsMomentCount aim c choice runs)) (sym e) (All-append (IsMomentCount aim c choice runs) counts (one ∷ []) all (λ k d lt. alone k d lt))
  where
    alone : (k : ℕ) (d : MomentCount) → k < 1 → IsMomentCount aim c choice runs (get_or (one ∷ []) k d)
    alone zero d lt = is
    alone (suc k) d lt = absurd (omega (arith, lt))

-- the moments of the first places that are taken
-- the first moments that are taken are counted
pub record TellsSo (aim : ListPurpose) (c : Circuit) (choice : Chosen) (runs : List Run) (counts : List MomentCount) (spent k : ℕ) : Type 0 where
  pub long : length counts ≡ k
  pub moments : map (λ (t : MomentCount). t.moment) counts ≡ map (moment_taken (most_moments aim (length c.flops)) (later_moments runs)) (range_with_len 0 k)
  pub each : All (IsMomentCount aim c choice runs) counts
  pub spent_is : spent ≡ weights_of aim counts
  pub begun : (i : ℕ) → i < length counts → weights_of aim (take i counts) < room_of aim (length c.flops) (taken_of aim (length c.flops) runs)

pub tells_none : (aim : ListPurpose) (c : Circuit) (choice : Chosen) (runs : List Run) (counts : List MomentCount) → counts ≡ [] → TellsSo aim c choice runs counts 0 0
tells_none aim c choice runs counts e = rw e record {
  long = refl;
  moments = refl;
  each = none_counted aim c choice runs [] refl;
  spent_is = refl;
  begun = λ i lt. absurd (omega (arith, lt));
}

pub tells_more : (aim : ListPurpose) (c : Circuit) (choice : Chosen) (runs : List Run) (counts after : List MomentCount) (one : MomentCount) (m : Moment) (spent weight room k : ℕ) →
    TellsSo aim c choice runs counts spent k → IsMomentCount aim c choice runs one → one.moment ≡ m →
    m ≡ moment_taken (most_moments aim (length c.flops)) (later_moments runs) k → weight ≡ weight_of aim one.count → spent < room →
    room ≡ room_of aim (length c.flops) (taken_of aim (length c.flops) runs) → after ≡ counts ++ one ∷ [] →
    TellsSo aim c choice runs after (spent + weight) (k + 1)
tells_more aim c choice runs counts after one m spent weight room k so is at here weighs less rooms goes = rw goes record {
  long = length-append counts (one ∷ []) ∙ omega (arith, so.long);
  moments =
      map-append (λ (t : MomentCount). t.moment) counts (one ∷ [])
      ∙ ((λ i. so.moments i ++ (at ∙ here) i ∷ [])
      ∙ sym (map-range_with_len_more (moment_taken (most_moments aim (length c.flops)) (later_moments runs)) 0 k k (omega arith)));
  each = one_counted aim c choice runs counts (counts ++ one ∷ []) one so.each is refl;
  spent_is = (λ i. so.spent_is i + weighs i) ∙ sym (sum_by_push (λ (t : MomentCount). weight_of aim t.count) counts one);
  begun = λ i lt. before i (nat_lt i (length counts)) refl (omega (arith, lt, length-append counts (one ∷ [])));
}
  where
    whole_room : ℕ
    whole_room = room_of aim (length c.flops) (taken_of aim (length c.flops) runs)

    same_part : (i : ℕ) → i ≤ length counts → weights_of aim (take i counts) < whole_room → weights_of aim (take i (counts ++ one ∷ [])) < whole_room
    same_part i le h = subst (λ (t : List MomentCount). weights_of aim t < whole_room) (sym (take-append-le i counts (one ∷ []) le)) h

    before : (i : ℕ) (b : Bool) → nat_lt i (length counts) ≡ b → i ≤ length counts → weights_of aim (take i (counts ++ one ∷ [])) < whole_room
    before i true e le = same_part i le (so.begun i (ltb-true i (length counts) e))
    before i false e le =
        same_part i le
        (omega (
          arith,
          less,
          rooms,
          so.spent_is,
          ap (weights_of aim) (take_all i counts (ltb-false i (length counts) e)),
        ))

-- ---- which moments, and how many

-- how many are taken, by their number
pub taken_is : (aim : ListPurpose) (c : Circuit) (runs : List Run) (all width most count : ℕ) → all ≡ length (later_moments runs) → width ≡ length c.flops →
    most ≡ most_moments aim width → count ≡ min all most → count ≡ taken_of aim (length c.flops) runs
taken_is aim c runs all width most count long wide at_most least =
    least
    ∙ ((λ i. min (long i) (at_most i)) ∙ ap (λ (w : ℕ). min (length (later_moments runs)) (most_moments aim w)) wide)

pub number_is : (aim : ListPurpose) (c : Circuit) (runs : List Run) (all width most count k : ℕ) → all ≡ length (later_moments runs) → width ≡ length c.flops →
    most ≡ most_moments aim width → count ≡ min all most → k < taken_of aim (length c.flops) runs → k < count
number_is aim c runs all width most count k long wide at_most least lt =
    omega (arith, lt, taken_is aim c runs all width most count long wide at_most least)

pub moment_is : (aim : ListPurpose) (c : Circuit) (runs : List Run) (width most k : ℕ) (m : Moment) → width ≡ length c.flops → most ≡ most_moments aim width →
    m ≡ moment_taken most (later_moments runs) k → m ≡ moment_taken (most_moments aim (length c.flops)) (later_moments runs) k
moment_is aim c runs width most k m wide at_most is =
    is ∙ ap (λ (n : ℕ). moment_taken n (later_moments runs) k) (at_most ∙ ap (most_moments aim) wide)

-- the room, by the number of flip-flops and of moments
pub room_is : (aim : ListPurpose) (c : Circuit) (runs : List Run) (width taken room : ℕ) → width ≡ length c.flops → taken ≡ taken_of aim (length c.flops) runs →
    room ≡ room_of aim width taken → room ≡ room_of aim (length c.flops) (taken_of aim (length c.flops) runs)
room_is aim c runs width taken room wide so is = is ∙ (λ i. room_of aim (wide i) (so i))

-- ---- all that are counted

pub all_are_counted : (aim : ListPurpose) (c : Circuit) (choice : Chosen) (runs : List Run) (counts : List MomentCount) (count spent k : ℕ) →
    count ≡ taken_of aim (length c.flops) runs → count ≤ k → k ≤ count → TellsSo aim c choice runs counts spent k → AreMomentCounts aim c choice runs counts
all_are_counted aim c choice runs counts count spent k taken le ge so = record {
  moments =
      so.moments ∙ ap (λ (m : ℕ). map (moment_taken (most_moments aim (length c.flops)) (later_moments runs)) (range_with_len 0 m)) (sym so.long);
  each = so.each;
  few = omega (arith, so.long, ge, taken);
  begun = so.begun;
  ended = inl (omega (arith, so.long, ge, le, taken));
}

pub enough_counted : (aim : ListPurpose) (c : Circuit) (choice : Chosen) (runs : List Run) (counts : List MomentCount) (count spent room k : ℕ) →
    count ≡ taken_of aim (length c.flops) runs → k < count → room ≡ room_of aim (length c.flops) (taken_of aim (length c.flops) runs) → room ≤ spent →
    TellsSo aim c choice runs counts spent k → AreMomentCounts aim c choice runs counts
enough_counted aim c choice runs counts count spent room k taken lt rooms le so = record {
  moments =
      so.moments ∙ ap (λ (m : ℕ). map (moment_taken (most_moments aim (length c.flops)) (later_moments runs)) (range_with_len 0 m)) (sym so.long);
  each = so.each;
  few = omega (arith, so.long, lt, taken);
  begun = so.begun;
  ended = inr (omega (arith, le, rooms, so.spent_is));
}
