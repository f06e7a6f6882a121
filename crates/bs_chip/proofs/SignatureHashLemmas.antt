-- The signature hashes of the runs, run by run and cycle by cycle.
use Rattle.std.proofs.Common.{◌≡◌, ◌≢◌, ℕ, suc, zero, ◌<◌, ◌≤◌, ◌+◌, ◌-◌, ◌*◌, Bool, List, [], ◌∷◌, ◌++◌, length, get_or, refl, arith}
use Rattle.std.proofs.Common.{ap, ap₂, sym, subst, ◌∙◌, ◌⊎◌, ⊎_elim, length-append, Option, Some, None}
use Rattle.std.specs.Prelude.{MatchOption, OnOk, OnErr, Result, Ok, Err, slice_get}
use Rattle.std.proofs.lemmas.Bool.{cases_eq, eq-eqb}
use Rattle.bs_lanes.specs.Planes.{lane}
use Rattle.bs_net.specs.Circuit.{Circuit}
use Rattle.bs_scan.specs.Choice.{Chosen, IsChoice}
use Rattle.bs_scan.specs.Crash.{Recording, IsRecording}
use Rattle.bs_scan.specs.Moments.{Run, run_of, state_at}
use Rattle.bs_scan.specs.Signature.{signature}
use Rattle.bs_chip.specs.Lockstep.{wide_of, Passing, IsSamePass, ShowsCycle}
use Rattle.bs_chip.specs.Parities.{HaveParities}
use Rattle.bs_chip.specs.Hashes.{hash_of, ListsEach}
use Rattle.bs_chip.proofs.ParityLemmas.{signature_lane}
use Rattle.bs_chip.proofs.TrackLemmas.{track_at}
use Rattle.bs_chip.specs.SignatureHashes.{recorded_by, signature_at, HaveSignatureHashes, SignatureHashesShow, AreSignatureHashes, NoneWithHash, IsNextWithHash, NoneAlike, IsNextAlike}

-- ---- the runs of a cycle

-- the same machine and runs
pub have_same : (old new : Passing) (choice : Chosen) (signature_hashes : List ℕ) → IsSamePass old new →
    HaveSignatureHashes (recorded_by new choice) signature_hashes new.cycle (length new.runs) → HaveSignatureHashes (recorded_by old choice) signature_hashes new.cycle (length old.runs)
have_same old new choice signature_hashes same h =
    let is : recorded_by new choice ≡ recorded_by old choice = λ i. record { circuit = same.circuit i; choice = choice; runs = same.runs i } in
    subst (λ (r : Recording). HaveSignatureHashes r signature_hashes new.cycle (length r.runs)) is h

-- the hashes of the items' lanes are the signature hashes
pub have_signature_hashes : (p : Passing) (choice : Chosen) (planes items words signature_hashes : List ℕ) (wide count n lanes : ℕ) → IsChoice choice →
    choice.width ≡ length p.circuit.flops → wide ≡ wide_of (length p.runs) → count ≡ length choice.items * wide_of (length p.runs) →
    lanes ≤ 64 * wide_of (length p.runs) → ShowsCycle p.circuit p.runs planes p.cycle → HaveParities choice.items planes wide count items →
    words ≡ items → n ≡ length choice.items → lanes ≡ length p.runs → ListsEach (λ r. hash_of (lane wide n words r)) signature_hashes lanes →
    HaveSignatureHashes (recorded_by p choice) signature_hashes p.cycle (length p.runs)
have_signature_hashes p choice planes items words signature_hashes wide count n lanes sound width w size room shows have is number all hashes =
    let whole : count ≡ length choice.items * wide = size ∙ ap (λ (n : ℕ). length choice.items * n) (sym w) in
    record {
      size = hashes.size ∙ all;
      each = λ k low high. record {
        is = λ last.
            let there : k - 1 < 64 * wide = omega (arith, low, high, room, w, all) in
            let state : lane wide choice.width planes (k - 1) ≡ state_at p.circuit (run_of p.runs k) p.cycle =
            ap₂ (λ (a b : ℕ). lane a b planes (k - 1)) w width ∙ shows.each k low high last in
            hashes.each (k - 1) (omega (arith, low, high, all))
            ∙ ((λ i. hash_of (lane wide (number i) (is i) (k - 1)))
            ∙ (ap hash_of (signature_lane choice planes items wide count (k - 1) sound.in_range whole have there)
            ∙ ap (λ (s : List Bool). hash_of (signature choice s)) state));
      };
    }

at_end : {X : Type 0} (xs : List X) (x d : X) → get_or (xs ++ x ∷ []) (length xs) d ≡ x
at_end [] x d = refl
at_end (y ∷ xs) x d = at_end xs x d

at_front : {X : Type 0} (xs : List X) (x d : X) (k : ℕ) → k < length xs → get_or (xs ++ x ∷ []) k d ≡ get_or xs k d
at_front [] x d k lt = absurd (omega (arith, lt))
at_front (y ∷ xs) x d zero lt = refl
at_front (y ∷ xs) x d (suc k) lt = at_front xs x d k (omega (arith, lt))

-- ---- the cycles

pub nothing_shown : (r : Recording) → SignatureHashesShow r []
nothing_shown r = record { each = λ k lt. absurd (omega (arith, lt)) }

shows_more : (r : Recording) (signature_hashes : List (List ℕ)) (next : List ℕ) → SignatureHashesShow r signature_hashes → HaveSignatureHashes r next (length signature_hashes) (length r.runs) →
    SignatureHashesShow r (signature_hashes ++ next ∷ [])
shows_more r signature_hashes next show here =
    record {
      each = λ k lt.
          ⊎_elim
          (λ (same : k ≡ length signature_hashes).
          subst (λ (s : List ℕ). HaveSignatureHashes r s k (length r.runs))
          (sym (ap (λ (i : ℕ). get_or (signature_hashes ++ next ∷ []) i []) same ∙ at_end signature_hashes next []))
          (subst (λ (m : ℕ). HaveSignatureHashes r next m (length r.runs)) (sym same) here))
          (λ (other : k ≡ length signature_hashes → ⊥).
          let less : k < length signature_hashes = omega (arith, lt, other, length-append signature_hashes (next ∷ [])) in
          subst (λ (s : List ℕ). HaveSignatureHashes r s k (length r.runs)) (sym (at_front signature_hashes next [] k less)) (show.each k less))
          (cases_eq k (length signature_hashes));
    }

-- a pass that stands at the cycle behind the signature hashes
pub still_signed : (r : Recording) (old p : Passing) (signature_hashes : List (List ℕ)) → AreSignatureHashes r old signature_hashes → IsSamePass old p → p.cycle ≡ length signature_hashes →
    AreSignatureHashes r p signature_hashes
still_signed r old p signature_hashes s same there =
    record {
      recording = s.recording;
      circuit = same.circuit ∙ s.circuit;
      runs = same.runs ∙ s.runs;
      noted = omega (arith, there);
      near = omega (arith, there);
      show = s.show;
    }

-- a pass that was brought to the cycle behind the signature hashes, or has stayed
pub brought_signed : (old p : Passing) (choice : Chosen) (signature_hashes : List (List ℕ)) (next : ℕ) → AreSignatureHashes (recorded_by old choice) old signature_hashes →
    IsSamePass old p → next ≡ length signature_hashes → (p.cycle ≡ old.cycle) ⊎ (p.cycle ≡ next) → AreSignatureHashes (recorded_by p choice) p signature_hashes
brought_signed old p choice signature_hashes next s same is moved =
    record {
      recording = subst IsRecording (λ i. record { circuit = sym same.circuit i; choice = choice; runs = sym same.runs i }) s.recording;
      circuit = refl;
      runs = refl;
      noted = ⊎_elim (λ (e : p.cycle ≡ old.cycle). omega (arith, e, s.noted)) (λ (e : p.cycle ≡ next). omega (arith, e, is)) moved;
      near = ⊎_elim (λ (e : p.cycle ≡ old.cycle). omega (arith, e, s.near)) (λ (e : p.cycle ≡ next). omega (arith, e, is)) moved;
      show = subst (λ (r : Recording). SignatureHashesShow r signature_hashes) (λ i. record { circuit = sym same.circuit i; choice = choice; runs = sym same.runs i }) s.show;
    }

-- the same signature hashes are of the pass that went on
pub signed_back : (old mid p : Passing) (choice : Chosen) (signature_hashes : List (List ℕ)) → IsSamePass old mid → AreSignatureHashes (recorded_by mid choice) p signature_hashes →
    AreSignatureHashes (recorded_by old choice) p signature_hashes
signed_back old mid p choice signature_hashes same s =
    subst (λ (r : Recording). AreSignatureHashes r p signature_hashes) (λ i. record { circuit = same.circuit i; choice = choice; runs = same.runs i }) s

one_more_signed : (r : Recording) (p : Passing) (signature_hashes more : List (List ℕ)) (next : List ℕ) → AreSignatureHashes r p signature_hashes → p.cycle ≡ length signature_hashes →
    HaveSignatureHashes r next p.cycle (length r.runs) → more ≡ signature_hashes ++ next ∷ [] → AreSignatureHashes r p more
one_more_signed r p signature_hashes more next s there here is =
    let longer : length (signature_hashes ++ next ∷ []) ≡ length signature_hashes + 1 = length-append signature_hashes (next ∷ []) in
    subst (AreSignatureHashes r p) (sym is)
    (record {
      recording = s.recording;
      circuit = s.circuit;
      runs = s.runs;
      noted = omega (arith, there, longer);
      near = omega (arith, there, longer);
      show = shows_more r signature_hashes next s.show (subst (λ (n : ℕ). HaveSignatureHashes r next n (length r.runs)) there here);
    })

-- the signature hashes of a cycle are put to the others, or nothing has changed
pub pushed_signed : {A E : Type 0} (r : Recording) (p : Passing) (signature_hashes more : List (List ℕ)) (next : List ℕ) (put : Result A E) → AreSignatureHashes r p signature_hashes →
    p.cycle ≡ length signature_hashes → HaveSignatureHashes r next p.cycle (length r.runs) → OnOk put (more ≡ signature_hashes ++ next ∷ []) → OnErr put (more ≡ signature_hashes) →
    AreSignatureHashes r p more
pushed_signed r p signature_hashes more next (Ok done) s there here is same = one_more_signed r p signature_hashes more next s there here is
pushed_signed r p signature_hashes more next (Err want) s there here is same = subst (AreSignatureHashes r p) (sym same) s

pub shows_there : (r : Recording) (p : Passing) (signature_hashes : List (List ℕ)) (planes : List ℕ) → AreSignatureHashes r p signature_hashes →
    ShowsCycle p.circuit p.runs planes p.cycle → ShowsCycle r.circuit r.runs planes p.cycle
shows_there r p signature_hashes planes s shows =
    subst (λ (c : Circuit). ShowsCycle c r.runs planes p.cycle) s.circuit (subst (λ (runs : List Run). ShowsCycle p.circuit runs planes p.cycle) s.runs shows)

-- ---- the next run with a signature hash

pub none_yet : (runs : List Run) (signature_hashes : List ℕ) (cycle hash from : ℕ) → NoneWithHash runs signature_hashes cycle hash from from
none_yet runs signature_hashes cycle hash from = record { each = λ n lo hi. absurd (omega (arith, lo, hi)) }

pub none_more : (runs : List Run) (signature_hashes : List ℕ) (cycle hash from lane : ℕ) → NoneWithHash runs signature_hashes cycle hash from lane →
    (cycle ≤ length (run_of runs (lane + 1)) → get_or signature_hashes lane 0 ≢ hash) → NoneWithHash runs signature_hashes cycle hash from (lane + 1)
none_more runs signature_hashes cycle hash from lane none here =
    record {
      each = λ n lo hi there last same.
          ⊎_elim
          (λ (e : n ≡ lane + 1).
          let at : n - 1 ≡ lane = omega (arith, e) in
          here (subst (λ (m : ℕ). cycle ≤ length (run_of runs m)) e last) (ap (λ (i : ℕ). get_or signature_hashes i 0) (sym at) ∙ same))
          (λ (other : n ≡ lane + 1 → ⊥). none.each n lo (omega (arith, hi, other)) there last same)
          (cases_eq n (lane + 1));
    }

pub none_behind : (runs : List Run) (signature_hashes : List ℕ) (cycle hash from lane : ℕ) → length runs ≤ lane → NoneWithHash runs signature_hashes cycle hash from lane →
    NoneWithHash runs signature_hashes cycle hash from (length runs)
none_behind runs signature_hashes cycle hash from lane le none = record { each = λ n lo hi there last. none.each n lo (omega (arith, hi, le)) there last }

pub next_is : (runs : List Run) (signature_hashes : List ℕ) (cycle hash from lane : ℕ) → from ≤ lane → lane < length runs → cycle ≤ length (run_of runs (lane + 1)) →
    get_or signature_hashes lane 0 ≡ hash → NoneWithHash runs signature_hashes cycle hash from lane → IsNextWithHash runs signature_hashes cycle hash from (lane + 1)
next_is runs signature_hashes cycle hash from lane le there last same none =
    let back : lane + 1 - 1 ≡ lane = omega arith in
    record {
      behind = omega (arith, le);
      is_moment = record { from_one = omega arith; recorded = omega (arith, there); lasts = last };
      same = ap (λ (i : ℕ). get_or signature_hashes i 0) back ∙ same;
      before = subst (λ (n : ℕ). NoneWithHash runs signature_hashes cycle hash from n) (sym back) none;
    }

-- ---- the next run in a state with a signature

none_alike : (r : Recording) (stored : List Bool) (signature_hashes : List ℕ) (cycle hash from below : ℕ) → HaveSignatureHashes r signature_hashes cycle (length r.runs) →
    hash ≡ hash_of stored → NoneWithHash r.runs signature_hashes cycle hash from below → NoneAlike r stored cycle from below
none_alike r stored signature_hashes cycle hash from below have is none =
    record {
      each = λ n lo hi there last same.
          none.each n lo hi there last ((have.each n (omega (arith, lo)) there).is last ∙ (ap hash_of same ∙ sym is));
    }

alike_by : (r : Recording) (stored : List Bool) (signature_hashes : List ℕ) (cycle hash from : ℕ) (found : Option ℕ) → HaveSignatureHashes r signature_hashes cycle (length r.runs) →
    hash ≡ hash_of stored → MatchOption found (NoneWithHash r.runs signature_hashes cycle hash from (length r.runs)) (IsNextWithHash r.runs signature_hashes cycle hash from) →
    MatchOption found (NoneAlike r stored cycle from (length r.runs)) (IsNextAlike r stored cycle from)
alike_by r stored signature_hashes cycle hash from None have is h = none_alike r stored signature_hashes cycle hash from (length r.runs) have is h
alike_by r stored signature_hashes cycle hash from (Some n) have is h =
    record {
      behind = h.behind;
      is_moment = h.is_moment;
      alike = eq-eqb (hash_of (signature_at r n cycle)) (hash_of stored)
          (sym ((have.each n h.is_moment.from_one h.is_moment.recorded).is h.is_moment.lasts) ∙ (h.same ∙ is));
      before = none_alike r stored signature_hashes cycle hash from (n - 1) have is h.before;
    }

pub alike_found : (self : Recording) (p q : Passing) (choice : Chosen) (signature_hashes : List (List ℕ)) (pass : Passing) (row : List ℕ) (stored : List Bool)
    (cycle hash from : ℕ) (found : Option ℕ) → recorded_by p choice ≡ self → IsSamePass p q → AreSignatureHashes (recorded_by p choice) pass signature_hashes →
    cycle < length signature_hashes → slice_get signature_hashes cycle ≡ Some row → hash ≡ hash_of stored →
    MatchOption found (NoneWithHash q.runs row cycle hash from (length q.runs)) (IsNextWithHash q.runs row cycle hash from) →
    MatchOption found (NoneAlike self stored cycle from (length self.runs)) (IsNextAlike self stored cycle from)
alike_found self p q choice signature_hashes pass row stored cycle hash from found view same signature_hashed lt look is h =
    let r : Recording = recorded_by p choice in
    subst (λ (x : Recording). MatchOption found (NoneAlike x stored cycle from (length x.runs)) (IsNextAlike x stored cycle from)) view
    (alike_by r stored row cycle hash from found
    (subst (λ (s : List ℕ). HaveSignatureHashes r s cycle (length r.runs)) (track_at signature_hashes cycle row look) (signature_hashed.show.each cycle lt)) is
    (subst (λ (runs : List Run). MatchOption found (NoneWithHash runs row cycle hash from (length runs)) (IsNextWithHash runs row cycle hash from))
    same.runs h))

-- ---- a new one

pub new_signature_hashes : (made r : Recording) (p : Passing) → IsRecording r → p.circuit ≡ r.circuit → p.runs ≡ r.runs → p.cycle ≡ 0 → made ≡ r → AreSignatureHashes made p []
new_signature_hashes made r p recording circuits runs reset is =
    subst (λ (x : Recording). AreSignatureHashes x p []) (sym is)
    (record { recording = recording; circuit = circuits; runs = runs; noted = omega (arith, reset); near = omega arith; show = nothing_shown r })
