-- What a search makes known, and what a list with it is met at.
use Rattle.std.proofs.Common.{◌≡◌, ◌≢◌, ◌⊎◌, inl, inr, ℕ, ◌-◌, ◌<◌, ◌≤◌, Bool, true, false, List, [], ◌∷◌, length, refl, ap, subst, sym, ◌∙◌, arith, ⊎_elim, Option, Some, None}
use Rattle.std.specs.Prelude.{All, IfSome, MatchOption, if◌then◌else◌}
use Rattle.std.specs.Option.{option_to_list}
use Rattle.std.specs.List.{AllByRecursion as Each}
use Rattle.std.proofs.lemmas.Bool.{cases_eq, cases_lt, true≢false, eq-eqb, ne_eqb}
use Rattle.std.proofs.lemmas.List.Elements.{All-weaker, recursion_from_All}
use Rattle.bs_scan.specs.declared.dump.Dump.{Dump}
use Rattle.bs_scan.specs.Crash.{Recording, IsRecording, DumpFits}
use Rattle.bs_scan.specs.Dump.{signatures_of}
use Rattle.bs_scan.specs.Moments.{Moment, moment, IsMoment, run_of, state_at, state_of, is_listed, first_moment}
use Rattle.bs_scan.specs.Signature.{predecessors}
use Rattle.bs_scan.proofs.MomentLemmas.{each_member}
use Rattle.bs_chip.specs.Lockstep.{IsFirstIn, NoneAmong, NoneBefore, NoneReached}
use Rattle.bs_chip.specs.Replay.{lists}
use Rattle.bs_chip.proofs.MomentLemmas.{first_found, none_found}
use Rattle.bs_report.specs.declared.report.Cand.{Cand}
use Rattle.bs_report.specs.declared.report.ListEnd.{ListEnd}
use Rattle.bs_report.specs.declared.report.ListEnd.TheVariants.{Finished, Candidates, Conflicts}
use Rattle.bs_report.specs.Step.{listed, IsCandidate, IsRightEnd}
use Rattle.bs_report.proofs.GoodLemmas.{listed_member}
use Rattle.bs_stim.specs.declared.limits.TheConstants.{MAX_CYCLES}
use Rattle.bs_preimage.specs.declared.listing.Listing.{Listing}
use Rattle.bs_preimage.specs.Preimage.{PreimageState}
use Rattle.bs_preimage.specs.Listed.{HasListed, IsRightCand}
use Rattle.bs_preimage_recorded.specs.declared.search.Sought.{Sought}
use Rattle.bs_preimage_recorded.specs.declared.search.Sought.TheVariants.{Found, NoMoment, Cut, Unsaid}
use Rattle.bs_preimage_recorded.specs.declared.search.TheConstants.{MAX_ASKS}
use Rattle.bs_preimage_recorded.specs.Finder.{IsAsking}
use Rattle.bs_preimage_recorded.specs.Search.{asked_in, IsCutAt, SoughtSooner, SoughtOfAll, SoughtWithin}
use Rattle.bs_loop.specs.Recorded.{cand_at, known_before, StandsIn}
use Rattle.bs_loop.proofs.MeetLemmas.{IsHeld, held_wide}
use Rattle.bs_loop.specs.declared.known.SearchAnswer.{SearchAnswer}
use Rattle.bs_loop.specs.declared.known.SearchExtent.{SearchExtent}
use Rattle.bs_loop.specs.declared.known.SearchExtent.TheVariants.{Whole, Limited, Unanswered}
use Rattle.bs_loop.specs.KnownCand.{floor_of, known_by, seen_at, seen_by, sight_by, IsOfFirst, IsOfNone, HasSooner, IsKnown, IsAsked, IsAnswered, Reaches, Sees}
use Rattle.bs_loop.proofs.RecordedLemmas.{earlier_moment, known_is_right, known_is}

-- what has been found is of the first moment
of_first : (r : Recording) (now : Dump) (stored : List Bool) (run cycle : ℕ) (cand : Cand) →
    IsFirstIn r.circuit r.runs (asked_in r now.state stored now.older) (moment run cycle) →
    cand.state ≡ state_at r.circuit (run_of r.runs run) cycle → IsOfFirst r (asked_in r now.state stored now.older) (Some (moment run cycle)) cand
of_first r now stored run cycle cand first state = record { there = moment run cycle; is = refl; first_in = first; state = state }

nothing_here : (m : Moment) → None ≡ Some m → ⊥
nothing_here m e = cc

-- ---- where no moment before the present is at hand

known_alone : (r : Recording) (now : Dump) (stored : List Bool) (b : ℕ) (at : Option Moment) (sought : Sought) →
    ((m : Moment) → at ≡ Some m → 1 ≤ m.cycle → ⊥) → SoughtOfAll r now.state stored now.older sought →
    IsCutAt r now.state stored now.older b MAX_ASKS sought →
    IsKnown r now stored b at (known_by sought None None).cand (known_by sought None None).answer
known_alone r now stored b at (Found f) never h far =
    record {
      right = h.recorded.cand;
      reach = of_first r now stored f.run f.cycle f.cand h.first h.recorded.state;
      sooner = λ m e low. absurd (never m e low);
    }
known_alone r now stored b at NoMoment never h far =
    record { right = tt; reach = record { is = refl; none = h }; sooner = λ m e low. absurd (never m e low) }
known_alone r now stored b at (Cut m) never h far =
    record { right = tt; reach = record { stays = h; far = far }; sooner = λ m e low. absurd (never m e low) }
known_alone r now stored b at (Unsaid m) never h far =
    record { right = tt; reach = record { stays = h; unknown = far }; sooner = λ m e low. absurd (never m e low) }

-- ---- where it is

-- the moment before the present
record IsFloor (r : Recording) (now : Dump) (stored : List Bool) (m : Moment) (cand : Cand) : Type 0 where
  above : 1 ≤ m.cycle
  recorded : IsMoment r.runs (moment m.run (m.cycle - 1))
  right : IsRightCand r.circuit r.choice now.state stored now.older cand
  state : cand.state ≡ state_at r.circuit (run_of r.runs m.run) (m.cycle - 1)

-- its state is a predecessor
floor_listed : (r : Recording) (now : Dump) (stored : List Bool) (m : Moment) (cand : Cand) → IsFloor r now stored m cand →
    lists r.circuit (run_of r.runs m.run) (asked_in r now.state stored now.older) (m.cycle - 1) ≡ true
floor_listed r now stored m cand floor =
    subst (λ (s : List Bool). is_listed (asked_in r now.state stored now.older) s ≡ true) floor.state floor.right.candidate.predecessor

-- what is first of all is not behind it
not_behind : (r : Recording) (now : Dump) (stored : List Bool) (m : Moment) (cand : Cand) (first : Moment) → IsFloor r now stored m cand →
    IsFirstIn r.circuit r.runs (asked_in r now.state stored now.older) first → first.cycle < m.cycle
not_behind r now stored m cand first floor is =
    ⊎_elim
    (λ (behind : m.cycle - 1 < first.cycle).
    absurd
    (true≢false
    (sym (floor_listed r now stored m cand floor)
    ∙ (is.before.each (m.cycle - 1) behind).each m.run floor.recorded.from_one floor.recorded.recorded floor.recorded.recorded floor.recorded.lasts)))
    (λ (le : first.cycle ≤ m.cycle - 1). omega (arith, le, floor.above)) (cases_lt (m.cycle - 1) first.cycle)

same_moment : (m o : Moment) → Some m ≡ Some o → m ≡ o
same_moment m o e = cc

sooner_at : (r : Recording) (known : Option Cand) (m : Moment) → HasSooner r known m → (o : Moment) → Some m ≡ Some o → 1 ≤ o.cycle → HasSooner r known o
sooner_at r known m h o e low = subst (HasSooner r known) (same_moment m o e) h

-- the moment before the present is sooner
floor_sooner : (r : Recording) (now : Dump) (stored : List Bool) (m : Moment) (cand : Cand) → IsFloor r now stored m cand →
    (o : Moment) → Some m ≡ Some o → 1 ≤ o.cycle → HasSooner r (Some cand) o
floor_sooner r now stored m cand floor =
    sooner_at r (Some cand) m
    (record {
      cand = cand;
      is = refl;
      there = moment m.run (m.cycle - 1);
      recorded = floor.recorded;
      sooner = omega (arith, floor.above);
      state = floor.state;
    })

-- the moment found is
found_sooner : (r : Recording) (now : Dump) (stored : List Bool) (m : Moment) (cand found : Cand) (run cycle : ℕ) → IsFloor r now stored m cand →
    IsFirstIn r.circuit r.runs (asked_in r now.state stored now.older) (moment run cycle) →
    found.state ≡ state_at r.circuit (run_of r.runs run) cycle → (o : Moment) → Some m ≡ Some o → 1 ≤ o.cycle → HasSooner r (Some found) o
found_sooner r now stored m cand found run cycle floor first state =
    sooner_at r (Some found) m
    (record {
      cand = found;
      is = refl;
      there = moment run cycle;
      recorded = record { from_one = omega (arith, first.lowest.behind); recorded = first.lowest.recorded; lasts = first.lowest.lasts };
      sooner = not_behind r now stored m cand (moment run cycle) floor first;
      state = state;
    })

known_above : (r : Recording) (now : Dump) (stored : List Bool) (b : ℕ) (m : Moment) (cand : Cand) (sought : Sought) → IsFloor r now stored m cand →
    SoughtSooner r now.state stored now.older (moment m.run (m.cycle - 1)) sought → IsCutAt r now.state stored now.older b MAX_ASKS sought →
    IsKnown r now stored b (Some m) (known_by sought (Some (moment m.run (m.cycle - 1))) (Some cand)).cand
    (known_by sought (Some (moment m.run (m.cycle - 1))) (Some cand)).answer
known_above r now stored b m cand (Found f) floor h far =
    let first : IsFirstIn r.circuit r.runs (asked_in r now.state stored now.older) (moment f.run f.cycle) = h.first in
    record {
      right = h.recorded.cand;
      reach = of_first r now stored f.run f.cycle f.cand first h.recorded.state;
      sooner = found_sooner r now stored m cand f.cand f.run f.cycle floor first h.recorded.state;
    }
known_above r now stored b m cand NoMoment floor h far =
    record {
      right = floor.right;
      reach = of_first r now stored m.run (m.cycle - 1) cand
          (record {
            lowest = record {
              behind = omega (arith, floor.recorded.from_one);
              recorded = floor.recorded.recorded;
              lasts = floor.recorded.lasts;
              listed = floor_listed r now stored m cand floor;
              before = h.runs;
            };
            before = h.cycles;
          }) floor.state;
      sooner = floor_sooner r now stored m cand floor;
    }
known_above r now stored b m cand (Cut o) floor h far =
    record { right = floor.right; reach = record { stays = h; far = far }; sooner = floor_sooner r now stored m cand floor }
known_above r now stored b m cand (Unsaid o) floor h far =
    record { right = floor.right; reach = record { stays = h; unknown = far }; sooner = floor_sooner r now stored m cand floor }

-- ---- in any case

none_at_zero : (r : Recording) (m : Moment) → m.cycle ≡ 0 → known_before r (Some m) ≡ None
none_at_zero r m zero_cycle = ap (λ (b : Bool). if b then None else Some (cand_at r m.run (m.cycle - 1))) (eq-eqb m.cycle 0 zero_cycle)

no_floor : (m : Moment) → m.cycle ≡ 0 → floor_of (Some m) ≡ None
no_floor m zero_cycle = ap (λ (b : Bool). if b then None else Some (moment m.run (m.cycle - 1))) (eq-eqb m.cycle 0 zero_cycle)

a_floor : (m : Moment) → (m.cycle ≡ 0 → ⊥) → floor_of (Some m) ≡ Some (moment m.run (m.cycle - 1))
a_floor m above = ap (λ (b : Bool). if b then None else Some (moment m.run (m.cycle - 1))) (ne_eqb m.cycle 0 above)

-- what the moment before a present is asked for
pub floor_may : (r : Recording) (now : Dump) (at : Option Moment) (most : ℕ) → IfSome at (StandsIn r now) → ((m : Moment) → IsMoment r.runs m → m.cycle ≤ most) →
    IfSome (floor_of at) (λ m. (1 ≤ m.run) × (m.cycle ≤ most))
floor_may r now None most stands few = tt
floor_may r now (Some m) most stands few =
    ⊎_elim
    (λ (zero_cycle : m.cycle ≡ 0). subst (λ (o : Option Moment). IfSome o (λ (q : Moment). (1 ≤ q.run) × (q.cycle ≤ most))) (sym (no_floor m zero_cycle)) tt)
    (λ (above : m.cycle ≡ 0 → ⊥).
    let low : m.cycle ≤ most = few m stands.moment in
    subst (λ (o : Option Moment). IfSome o (λ (q : Moment). (1 ≤ q.run) × (q.cycle ≤ most))) (sym (a_floor m above))
    (stands.moment.from_one, omega (arith, low))) (cases_eq m.cycle 0)

pub is_known : (r : Recording) (now : Dump) (stored : List Bool) (b : ℕ) (at : Option Moment) (sought : Sought) → IsRecording r → IfSome at (StandsIn r now) →
    signatures_of now ≡ stored ∷ option_to_list now.older → SoughtWithin r now.state stored now.older (floor_of at) sought →
    IsCutAt r now.state stored now.older b MAX_ASKS sought →
    IsKnown r now stored b at (known_by sought (floor_of at) (known_before r at)).cand (known_by sought (floor_of at) (known_before r at)).answer
is_known r now stored b None sought sound stands held h far = known_alone r now stored b None sought (λ m e low. nothing_here m e) h far
is_known r now stored b (Some m) sought sound stands held h far =
    let Is : Option Moment → Option Cand → Type 0 =
    λ place floor. IsKnown r now stored b (Some m) (known_by sought place floor).cand (known_by sought place floor).answer in
    ⊎_elim
    (λ (zero_cycle : m.cycle ≡ 0).
    subst (λ (place : Option Moment). Is place (known_before r (Some m))) (sym (no_floor m zero_cycle))
    (subst (Is None) (sym (none_at_zero r m zero_cycle))
    (known_alone r now stored b (Some m) sought
    (λ o e low. let same : m.cycle ≡ o.cycle = ap (λ (x : Moment). x.cycle) (same_moment m o e) in omega (arith, same, zero_cycle, low))
    (subst (λ (o : Option Moment). SoughtWithin r now.state stored now.older o sought) (no_floor m zero_cycle) h) far)))
    (λ (above : m.cycle ≡ 0 → ⊥).
    let low : 1 ≤ m.cycle = omega (arith, above) in
    let cand : Cand = cand_at r m.run (m.cycle - 1) in
    let is : known_before r (Some m) ≡ Some cand = known_is r m.run m.cycle low in
    let floor : IsFloor r now stored m cand = record {
      above = low;
      recorded = earlier_moment r.runs m.run m.cycle (m.cycle - 1) stands.moment (omega arith);
      right = subst (λ (o : Option Cand). IfSome o (IsRightCand r.circuit r.choice now.state stored now.older)) is
          (known_is_right r now stored (Some m) sound stands held);
      state = refl;
    } in
    subst (λ (place : Option Moment). Is place (known_before r (Some m))) (sym (a_floor m above))
    (subst (Is (Some (moment m.run (m.cycle - 1)))) (sym is)
    (known_above r now stored b m cand sought floor (subst (λ (o : Option Moment). SoughtWithin r now.state stored now.older o sought) (a_floor m above) h)
    far)))
    (cases_eq m.cycle 0)

-- where the present is a moment, it is one of the runs
pub at_moments : (r : Recording) (now : Dump) (at : Option Moment) → IfSome at (StandsIn r now) → IfSome at (IsMoment r.runs)
at_moments r now None stands = tt
at_moments r now (Some m) stands = stands.moment

-- ---- what a search asks for

pub few_cycles : (r : Recording) → IsRecording r → (m : Moment) → IsMoment r.runs m → m.cycle ≤ MAX_CYCLES
few_cycles r sound m is =
    let few : length (run_of r.runs m.run) ≤ MAX_CYCLES = sound.few_cycles (m.run - 1) [] (omega (arith, is.from_one, is.recorded)) in
    omega (arith, is.lasts, few)

pub is_asking : (r : Recording) (now : Dump) (stored : List Bool) (b : ℕ) → DumpFits r.circuit r.choice now →
    signatures_of now ≡ stored ∷ option_to_list now.older → 1 ≤ b → IsAsking r now.state stored now.older b
is_asking r now stored b fits held some =
    let wide : IsHeld r.circuit r.choice now stored = held_wide r.circuit r.choice now stored fits held in
    record { present_wide = wide.state; stored_wide = wide.stored; older_wide = wide.older; conflicts = some }

-- ---- where a list is met

-- a listed state is a predecessor
listed_asked : (asked : List (List Bool)) (cands : List Cand) → Each (λ cand. is_listed asked cand.state ≡ true) cands →
    Each (λ s. is_listed asked s ≡ true) (listed cands)
listed_asked asked [] h = tt
listed_asked asked (c ∷ cs) h = (h.0, listed_asked asked cs h.1)

within : (asked : List (List Bool)) (cands : List Cand) → All (λ cand. is_listed asked cand.state ≡ true) cands → (s : List Bool) →
    is_listed asked s ≡ false → is_listed (listed cands) s ≡ false
within asked cands all s out = by (is_listed (listed cands) s) refl
  where
    by : (b : Bool) → is_listed (listed cands) s ≡ b → is_listed (listed cands) s ≡ false
    by false is = is
    by true is =
        absurd
        (true≢false
        (sym (each_member (λ (s : List Bool). is_listed asked s ≡ true) s (listed cands)
        (listed_asked asked cands (recursion_from_All (λ (cand : Cand). is_listed asked cand.state ≡ true) cands all))
        (listed_member s (listed cands) is)) ∙ out))

-- what none of many is, none of fewer is
fewer_among : (r : Recording) (few many : List (List Bool)) (cycle from below : ℕ) → ((s : List Bool) → is_listed many s ≡ false → is_listed few s ≡ false) →
    NoneAmong r.circuit r.runs many cycle from below → NoneAmong r.circuit r.runs few cycle from below
fewer_among r few many cycle from below out none =
    record { each = λ n lo hi there last. out (state_at r.circuit (run_of r.runs n) cycle) (none.each n lo hi there last) }

fewer_before : (r : Recording) (few many : List (List Bool)) (limit : ℕ) → ((s : List Bool) → is_listed many s ≡ false → is_listed few s ≡ false) →
    NoneBefore r.circuit r.runs many limit → NoneBefore r.circuit r.runs few limit
fewer_before r few many limit out none =
    record { each = λ cycle lt. fewer_among r few many cycle 0 (length r.runs) out (none.each cycle lt) }

-- the first moment in one of many states, where its state is one of fewer of them
met_first : (r : Recording) (few many : List (List Bool)) (m : Moment) → ((s : List Bool) → is_listed many s ≡ false → is_listed few s ≡ false) →
    IsFirstIn r.circuit r.runs many m → is_listed few (state_of r.circuit r.runs m) ≡ true → first_moment r.circuit r.runs few ≡ first_moment r.circuit r.runs many
met_first r few many m out first there =
    let here : IsFirstIn r.circuit r.runs few m = record {
      lowest = record {
        behind = first.lowest.behind;
        recorded = first.lowest.recorded;
        lasts = first.lowest.lasts;
        listed = there;
        before = fewer_among r few many m.cycle 0 (m.run - 1) out first.lowest.before;
      };
      before = fewer_before r few many m.cycle out first.before;
    } in
    sym (first_found r.circuit r.runs few m here) ∙ first_found r.circuit r.runs many m first

met_none : (r : Recording) (few many : List (List Bool)) → ((s : List Bool) → is_listed many s ≡ false → is_listed few s ≡ false) →
    NoneReached r.circuit r.runs many → first_moment r.circuit r.runs few ≡ first_moment r.circuit r.runs many
met_none r few many out none =
    sym (none_found r.circuit r.runs few (record { each = λ cycle. fewer_among r few many cycle 0 (length r.runs) out (none.each cycle) }))
    ∙ none_found r.circuit r.runs many none

met_known : (r : Recording) (asked : List (List Bool)) (cands : List Cand) (known : Option Cand) (first : Option Moment) →
    MatchOption known (IsOfNone r asked first) (IsOfFirst r asked first) → All (λ cand. is_listed asked cand.state ≡ true) cands →
    ((cand : Cand) → known ≡ Some cand → is_listed (listed cands) cand.state ≡ true) →
    first_moment r.circuit r.runs (listed cands) ≡ first_moment r.circuit r.runs asked
met_known r asked cands None first h all there = met_none r (listed cands) asked (within asked cands all) h.none
met_known r asked cands (Some cand) first h all there =
    met_first r (listed cands) asked h.there (within asked cands all) h.first_in
    (subst (λ (s : List Bool). is_listed (listed cands) s ≡ true) h.state (there cand refl))

-- a whole search has found the first moment
found_whole : (r : Recording) (asked : List (List Bool)) (known : Option Cand) (first : Option Moment) →
    MatchOption known (IsOfNone r asked first) (IsOfFirst r asked first) → first_moment r.circuit r.runs asked ≡ first
found_whole r asked None first h = sym (none_found r.circuit r.runs asked h.none) ∙ sym h.is
found_whole r asked (Some cand) first h = sym (first_found r.circuit r.runs asked h.there h.first_in) ∙ sym h.is

whole_moment : (r : Recording) (asked : List (List Bool)) (known : Option Cand) (first : Option Moment) →
    MatchOption known (IsOfNone r asked first) (IsOfFirst r asked first) → IfSome first (IsMoment r.runs)
whole_moment r asked None first h = subst (λ (o : Option Moment). IfSome o (IsMoment r.runs)) (sym h.is) tt
whole_moment r asked (Some cand) first h =
    let low = h.first_in.lowest in
    subst (λ (o : Option Moment). IfSome o (IsMoment r.runs)) (sym h.is)
    (record { from_one = omega (arith, low.behind); recorded = low.recorded; lasts = low.lasts })

-- a list that is finished is met where all predecessors are
pub met_finished : (r : Recording) (now : Dump) (stored : List Bool) (known : Option Cand) (old new : PreimageState) (k b id : ℕ)
    (listing : Listing) → old.circuit ≡ r.circuit → old.choice ≡ r.choice →
    HasListed old new now.state stored now.older known k b listing → listing.end ≡ Finished id →
    first_moment r.circuit r.runs (listed listing.cands) ≡ first_moment r.circuit r.runs (asked_in r now.state stored now.older)
met_finished r now stored known old new k b id listing circuits choices l e =
    let asked_is : predecessors old.circuit old.choice now.state (stored ∷ option_to_list now.older) ≡ asked_in r now.state stored now.older =
    λ i. predecessors (circuits i) (choices i) now.state (stored ∷ option_to_list now.older) in
    let ends : IsRightEnd (predecessors old.circuit old.choice now.state (stored ∷ option_to_list now.older)) k b l.lines listing.cands (Finished id) =
    subst (IsRightEnd (predecessors old.circuit old.choice now.state (stored ∷ option_to_list now.older)) k b l.lines listing.cands) e l.ends in
    ap (first_moment r.circuit r.runs) (ends.0 ∙ asked_is)

-- so is one that ended by its count, where the search was whole
pub met_counted : (r : Recording) (now : Dump) (stored : List Bool) (known : Option Cand) (first : Option Moment) (old new : PreimageState) (k b : ℕ)
    (listing : Listing) → old.circuit ≡ r.circuit → old.choice ≡ r.choice →
    MatchOption known (IsOfNone r (asked_in r now.state stored now.older) first) (IsOfFirst r (asked_in r now.state stored now.older) first) →
    HasListed old new now.state stored now.older known k b listing → listing.end ≡ Candidates →
    first_moment r.circuit r.runs (listed listing.cands) ≡ first_moment r.circuit r.runs (asked_in r now.state stored now.older)
met_counted r now stored known first old new k b listing circuits choices whole l e =
    let asked_is : predecessors old.circuit old.choice now.state (stored ∷ option_to_list now.older) ≡ asked_in r now.state stored now.older =
    λ i. predecessors (circuits i) (choices i) now.state (stored ∷ option_to_list now.older) in
    met_known r (asked_in r now.state stored now.older) listing.cands known first whole
    (All-weaker (IsCandidate old.circuit old.choice now.state (stored ∷ option_to_list now.older))
    (λ (cand : Cand). is_listed (asked_in r now.state stored now.older) cand.state ≡ true)
    (λ cand right. subst (λ (asked : List (List Bool)). is_listed asked cand.state ≡ true) asked_is right.predecessor) listing.cands l.candidates)
    (λ cand same. l.with_known cand same e)

-- ---- what a search has seen of a list

seen_whole : (r : Recording) (now : Dump) (stored : List Bool) (b : ℕ) (known : Option Cand) (cands : List Cand) (first : Option Moment) (reach : SearchExtent) →
    Reaches r now.state stored now.older b known first reach →
    (MatchOption known (IsOfNone r (asked_in r now.state stored now.older) first) (IsOfFirst r (asked_in r now.state stored now.older) first) →
    first_moment r.circuit r.runs (listed cands) ≡ first_moment r.circuit r.runs (asked_in r now.state stored now.older)) →
    Sees r cands (seen_at first reach)
seen_whole r now stored b known cands first Whole h met = (
  met h ∙ found_whole r (asked_in r now.state stored now.older) known first h,
  whole_moment r (asked_in r now.state stored now.older) known first h,
)
seen_whole r now stored b known cands first (Limited m) h met = tt
seen_whole r now stored b known cands first (Unanswered m) h met = tt

seen_given : (r : Recording) (now : Dump) (stored : List Bool) (known : Option Cand) (answer : SearchAnswer) (old new : PreimageState) (k b : ℕ)
    (listing : Listing) → old.circuit ≡ r.circuit → old.choice ≡ r.choice →
    Reaches r now.state stored now.older b known answer.first answer.reach →
    HasListed old new now.state stored now.older known k b listing → (end : ListEnd) → listing.end ≡ end →
    Sees r listing.cands (seen_by (Some answer) end)
seen_given r now stored known answer old new k b listing circuits choices h l (Finished id) e =
    seen_whole r now stored b known listing.cands answer.first answer.reach h
    (λ whole. met_finished r now stored known old new k b id listing circuits choices l e)
seen_given r now stored known answer old new k b listing circuits choices h l Candidates e =
    seen_whole r now stored b known listing.cands answer.first answer.reach h
    (λ whole. met_counted r now stored known answer.first old new k b listing circuits choices whole l e)
seen_given r now stored known answer old new k b listing circuits choices h l Conflicts e = tt

seen : (r : Recording) (now : Dump) (stored : List Bool) (at : Option Moment) (known : Option Cand) (answer : Option SearchAnswer)
    (old new : PreimageState) (k b : ℕ) (listing : Listing) → old.circuit ≡ r.circuit → old.choice ≡ r.choice →
    HasListed old new now.state stored now.older known k b listing → IsAnswered r now stored b at listing.end known answer →
    Sees r listing.cands (seen_by answer listing.end)
seen r now stored at known answer old new k b listing circuits choices l answered = by answered.either
  where
    by : ((answer ≡ None) × (listing.end ≢ Candidates)) ⊎ IsAsked r now stored b at known answer → Sees r listing.cands (seen_by answer listing.end)
    by (inl none) = subst (λ (o : Option SearchAnswer). Sees r listing.cands (seen_by o listing.end)) (sym none.0) tt
    by (inr asked) =
        subst (λ (o : Option SearchAnswer). Sees r listing.cands (seen_by o listing.end)) (sym asked.is)
        (seen_given r now stored known asked.given old new k b listing circuits choices asked.known_is.reach l listing.end refl)

pub sees : (r : Recording) (now : Dump) (stored : List Bool) (at : Option Moment) (known : Option Cand) (answer : Option SearchAnswer)
    (old new : PreimageState) (k b : ℕ) (listing : Listing) → old.circuit ≡ r.circuit → old.choice ≡ r.choice →
    HasListed old new now.state stored now.older known k b listing → IsAnswered r now stored b at listing.end known answer →
    Sees r listing.cands (sight_by at answer listing.end)
sees r now stored None known answer old new k b listing circuits choices l answered = tt
sees r now stored (Some m) known answer old new k b listing circuits choices l answered =
    seen r now stored (Some m) known answer old new k b listing circuits choices l answered
