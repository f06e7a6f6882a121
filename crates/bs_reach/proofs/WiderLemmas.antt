-- The answer that few time frames gave is one of more.
use Rattle.std.proofs.Common.{◌≡◌, ℕ, ◌+◌, ◌-◌, ◌*◌, ◌≤◌, Bool, true, ◌&&◌, leb, List, [], ◌∷◌, map, length, reverse, refl, ap, subst, sym, ◌∙◌, arith}
use Rattle.std.specs.Prelude.{All}
use Rattle.std.specs.List.{range_with_len}
use Rattle.std.proofs.lemmas.Bool.{and_parts, leb-true, false≢true}
use Rattle.std.proofs.lemmas.List.{length-map}
use Rattle.std.proofs.lemmas.List.FromFn.{length-map-range_with_len}
use Rattle.std.proofs.lemmas.Nat.{mul-le}
use Rattle.bs_scan.specs.declared.seen.Seen.{Seen}
use Rattle.bs_log.specs.declared.line.Line.{Line}
use Rattle.bs_log.specs.declared.line.Line.TheVariants.{Solve, Lemma, Block, Finish, Retire, Delete}
use Rattle.bs_log.specs.History.{Problem, History}
use Rattle.bs_log.specs.Lean.{IsLean}
use Rattle.bs_log.specs.Refusal.{history_of, IsAccepted}
use Rattle.bs_log.specs.Steps.{finished_in}
use Rattle.bs_net.specs.declared.net.Flop.{Flop}
use Rattle.bs_net.specs.Circuit.{Circuit, reset_state}
use Rattle.bs_solve.specs.Budget.{last_lemmas, HasFewLemmas}
use Rattle.bs_encode.specs.Encoded.{Encoded, encoding_of}
use Rattle.bs_encode.specs.Tables.{lit}
use Rattle.bs_encode.specs.Transition.{net_var, state_vars}
use Rattle.bs_reach_unrolled.specs.declared.limits.TheConstants.{MAX_FRAMES}
use Rattle.bs_reach_unrolled.specs.Execution.{NotBefore, IsExecution}
use Rattle.bs_reach_unrolled.specs.Room.{IsUnrollable}
use Rattle.bs_reach_unrolled.specs.Unrolled.{length_assumes, reach_problem}
use Rattle.bs_reach.specs.declared.offsets.Shift.{Shift}
use Rattle.bs_reach.specs.Renamed.{new_line, HasRoom}
use Rattle.bs_reach.specs.Widened.{IsWidened, StaysRight, LogsStayRight, LogsHaveRoom}
use Rattle.bs_reach.proofs.EntryLemmas.{new_lines}
use Rattle.bs_reach.proofs.LogLemmas.{reversed_lines}
use Rattle.bs_reach.proofs.StateLemmas.{listed_all}
use Rattle.bs_reach.specs.declared.wider.TheConstants.{ID_ROOM}
use Rattle.bs_reach.specs.declared.reach.Outcome.{Outcome}
use Rattle.bs_reach.specs.declared.reach.Outcome.TheVariants.{Reached, Unreached, Unknown}
use Rattle.bs_reach.specs.declared.reach.Reach.{Reach}
use Rattle.bs_reach.specs.Reach.{IsOutcome, problem_in, refuted_of, IsReach}
use Rattle.bs_reach.specs.Wider.{shift_between, has_small_ids, is_reached}
use Rattle.bs_reach.proofs.WidenedLemmas.{unrolled_widened}

-- ---- the budget

same_last : (s : Shift) (h : History) → last_lemmas (new_lines s h) ≡ last_lemmas h
same_last s [] = refl
same_last s (Solve ∷ h) = refl
same_last s (Lemma id lits hints ∷ h) = ap (λ n. n + 1) (same_last s h)
same_last s (Block id lits ∷ h) = refl
same_last s (Finish id ∷ h) = refl
same_last s (Retire id ∷ h) = refl
same_last s (Delete ids ∷ h) = refl

still_few : (limit : ℕ) (s : Shift) (h : History) → HasFewLemmas limit h → HasFewLemmas limit (new_lines s h)
still_few limit s [] few = tt
still_few limit s (Solve ∷ h) few = still_few limit s h few
still_few limit s (Lemma id lits hints ∷ h) few =
    let same = same_last s h in
    let less = few.0 in
    (omega (arith, same, less), still_few limit s h few.1)
still_few limit s (Block id lits ∷ h) few =
    let same = same_last s h in
    let less = few.0 in
    (omega (arith, same, less), still_few limit s h few.1)
still_few limit s (Finish id ∷ h) few = still_few limit s h few
still_few limit s (Retire id ∷ h) few = still_few limit s h few
still_few limit s (Delete ids ∷ h) few = still_few limit s h few

-- ---- room

pub times_small : (n size : ℕ) → n ≤ MAX_FRAMES → size ≤ 2 * ID_ROOM → n * size ≤ MAX_FRAMES * (2 * ID_ROOM)
times_small n size few small = mul-le n size MAX_FRAMES (2 * ID_ROOM) few small

pub record HasSmallIds (e : Encoded) (log : List Line) : Type 0 where
  pub clauses : length e.clauses ≤ ID_ROOM
  pub states : length e.states ≤ ID_ROOM
  pub lines : length log ≤ ID_ROOM

pub small_ids : (e : Encoded) (log : List Line) → has_small_ids e log ≡ true → HasSmallIds e log
small_ids e log h =
    let one = and_parts (leb (length e.clauses) ID_ROOM && leb (length e.states) ID_ROOM) (leb (length log) ID_ROOM) h in
    let two = and_parts (leb (length e.clauses) ID_ROOM) (leb (length e.states) ID_ROOM) one.0 in
    record {
      clauses = leb-true (length e.clauses) ID_ROOM two.0;
      states = leb-true (length e.states) ID_ROOM two.1;
      lines = leb-true (length log) ID_ROOM one.1;
    }

module _ (c : Circuit) (p : Seen) (j k b : ℕ) (r : Reach) (u : IsUnrollable (encoding_of c []) k) (some : 1 ≤ j) (fewer : j ≤ k)
    (small : HasSmallIds (encoding_of c []) r.log) (is : IsReach c p j b r) where
  abbrev e : Encoded
  e = encoding_of c []

  abbrev s : Shift
  s = shift_between e j k

  width : length e.states ≡ length (reset_state c)
  width =
      length-map (state_vars c) (λ v. lit v true)
      ∙ (length-map c.flops (λ (f : Flop). net_var f.q) ∙ sym (length-map c.flops (λ (f : Flop). f.reset)))

  widens : (i : ℕ) → i ≤ j → IsWidened s (reach_problem e (reset_state c) j p i) (reach_problem e (reset_state c) k p i)
  widens i le = unrolled_widened e (reset_state c) p j k i u some fewer le width

  -- the parts of the answer, where its outcome is this
  record Reaches (i : ℕ) : Type 0 where
    within : i ≤ j
    run : IsExecution c i p r.states r.inputs
    first : NotBefore c i p
    accepted : IsAccepted (reach_problem e (reset_state c) j p i) r.log
    lean : IsLean (reach_problem e (reset_state c) j p i) (history_of r.log)
    finished : finished_in (history_of r.log) ≡ range_with_len 1 (i - 1)

  reaches : (i : ℕ) → r.outcome ≡ Reached i → Reaches i
  reaches i same =
      let parts = subst (IsOutcome c p j b r) same is.outcome_is in
      record {
        within = parts.0;
        run = parts.1;
        first = parts.2;
        accepted = subst (λ (o : Outcome). IsAccepted (problem_in c p j o) r.log) same is.accepted;
        lean = subst (λ (o : Outcome). IsLean (problem_in c p j o) (history_of r.log)) same is.lean;
        finished = is.finished ∙ ap (λ (o : Outcome). range_with_len 1 (refuted_of j o)) same;
      }

  room_of : LogsHaveRoom → (i : ℕ) → Reaches i → All (HasRoom s) r.log
  room_of law i h =
      let narrow : Problem = reach_problem e (reset_state c) j p i in
      let all = u.cycles in
      let room = u.room in
      let few = small.clauses in
      let states = small.states in
      let lines = small.lines in
      let within = h.within in
      let listed = listed_all s narrow (reach_problem e (reset_state c) k p i) (widens i h.within) in
      let front = times_small j (length e.clauses) (omega (arith, all, fewer)) (omega (arith, few)) in
      let front_by = times_small (k - j) (length e.clauses) (omega (arith, all)) (omega (arith, few)) in
      let between = times_small (j - 1) (2 * length e.states) (omega (arith, all, fewer)) (omega (arith, states)) in
      let between_by = times_small (k - j) (2 * length e.states) (omega (arith, all)) (omega (arith, states)) in
      let steps : length narrow.steps ≡ i = length-map-range_with_len (length_assumes e j p) 1 i in
      let vars = (widens i h.within).vars_go in
      law s narrow (reach_problem e (reset_state c) k p i) r.log (widens i h.within) h.accepted h.lean
      (omega (arith, listed, front, front_by, between, between_by, states, lines))
      (omega (arith, steps, vars, room, all, fewer, within))

  pub has_room : LogsHaveRoom → is_reached r.outcome ≡ true → All (HasRoom s) r.log
  has_room law reached = by r.outcome refl reached
    where
      by : (o : Outcome) → r.outcome ≡ o → is_reached o ≡ true → All (HasRoom s) r.log
      by (Reached i) same h = room_of law i (reaches i same)
      by Unreached same h = absurd (false≢true h)
      by (Unknown i) same h = absurd (false≢true h)

  abbrev new : Reach
  new = record r { asked = k; log = map (new_line s) r.log }

  wider : LogsStayRight → All (HasRoom s) r.log → (i : ℕ) → r.outcome ≡ Reached i → Reaches i → IsReach c p k b new
  wider law room i same h =
      let within = h.within in
      let stays : StaysRight s (reach_problem e (reset_state c) k p i) r.log =
      law s (reach_problem e (reset_state c) j p i) (reach_problem e (reset_state c) k p i) r.log (widens i h.within) h.accepted h.lean is.texts room in
      record {
        asked_is = refl;
        conflicts_is = is.conflicts_is;
        outcome_is = subst (IsOutcome c p k b new) (sym same) (omega (arith, within, fewer), h.run, h.first);
        accepted = subst (λ (o : Outcome). IsAccepted (problem_in c p k o) new.log) (sym same) stays.accepted;
        lean = subst (λ (o : Outcome). IsLean (problem_in c p k o) (history_of new.log)) (sym same) stays.lean;
        texts = stays.texts;
        no_block = stays.no_block is.no_block;
        finished = stays.finished ∙ (h.finished ∙ ap (λ (o : Outcome). range_with_len 1 (refuted_of k o)) (sym same));
        few = subst (HasFewLemmas b) (sym (reversed_lines s r.log)) (still_few b s (reverse r.log) is.few);
      }

  pub wider_is : LogsStayRight → All (HasRoom s) r.log → is_reached r.outcome ≡ true → IsReach c p k b new
  wider_is law room reached = by r.outcome refl reached
    where
      by : (o : Outcome) → r.outcome ≡ o → is_reached o ≡ true → IsReach c p k b new
      by (Reached i) same h = wider law room i same (reaches i same)
      by Unreached same h = absurd (false≢true h)
      by (Unknown i) same h = absurd (false≢true h)

-- ---- for a caller

module _ (c : Circuit) (e : Encoded) (p : Seen) (j k b : ℕ) (r : Reach) (t : Shift) (same : e ≡ encoding_of c []) (shift_is : t ≡ shift_between e j k)
    (u : IsUnrollable (encoding_of c []) k) (some : 1 ≤ j) (fewer : j ≤ k) (small : has_small_ids e r.log ≡ true) (is : IsReach c p j b r)
    (reached : is_reached r.outcome ≡ true) where
  small_there : HasSmallIds (encoding_of c []) r.log
  small_there = small_ids (encoding_of c []) r.log (subst (λ (d : Encoded). has_small_ids d r.log ≡ true) same small)

  shift_there : t ≡ shift_between (encoding_of c []) j k
  shift_there = shift_is ∙ ap (λ (d : Encoded). shift_between d j k) same

  pub room_for : LogsHaveRoom → All (HasRoom t) r.log
  room_for law =
      subst (λ (x : Shift). All (HasRoom x) r.log) (sym shift_there) (has_room c p j k b r u some fewer small_there is law reached)

  pub widened_is : LogsStayRight → LogsHaveRoom → (told : Reach) → told ≡ record r { asked = k; log = map (new_line t) r.log } → IsReach c p k b told
  widened_is right law told retold =
      let room = has_room c p j k b r u some fewer small_there is law reached in
      subst (IsReach c p k b) (sym (retold ∙ ap (λ (x : Shift). record r { asked = k; log = map (new_line x) r.log }) shift_there))
      (wider_is c p j k b r u some fewer small_there is right room reached)
