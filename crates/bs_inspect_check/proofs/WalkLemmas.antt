-- From moment to moment.
use Rattle.std.proofs.Common.{◌≡◌, ℕ, ◌+◌, ◌^◌, ◌<◌, ◌≤◌, subst, arith, Bool, true, false, cond, List, [], ◌∷◌, ◌++◌, map, fold, filter, Option, Some, None, Result, Ok, Err, refl, ap, sym, ◌∙◌, ◌⊎◌, inl, inr, append_assoc, append-nil}
use Rattle.std.specs.Option.{option_or}
use Rattle.bs_net.specs.Circuit.{Circuit}
use Rattle.bs_scan.specs.Moments.{Run}
use Rattle.bs_vcd_header.specs.declared.fault.VcdFault.{VcdFault}
use Rattle.bs_vcd_header.specs.declared.fault.VcdFault.TheVariants.{NoMemory}
use Rattle.bs_vcd_header.specs.declared.sources.BitSource.{BitSource}
use Rattle.bs_vcd.specs.declared.changes.ValueChange.{ValueChange as CodeValueChange}
use Rattle.bs_vcd.specs.History.{ValueChange, Moment, History, before, begin_of, change_in, stopped, time_if}
use Rattle.bs_vcd.specs.Levels.{Known, known_by}
use Rattle.bs_vcd.specs.Sampled.{Cut, cuts_from, is_edge, rises}
use Rattle.bs_vcd.specs.Watching.{known_after}
use Rattle.bs_vcd.proofs.LevelLemmas.{known_append}
use Rattle.bs_inspect_check.specs.declared.level.FlopLevel.{FlopLevel}
use Rattle.bs_inspect_check.specs.declared.moments.MomentStart.{MomentStart}
use Rattle.bs_inspect_check.specs.Samples.{changes_of, edge_levels, levels_before, levels_by}
use Rattle.bs_inspect_check.specs.Taking.{history_at, last_line, left, moment_in}
use Rattle.bs_inspect_check.specs.Tallies.{closed, moved, stepped, RunTally, tally_of, walked, RunWatch}
use Rattle.bs_inspect_check.proofs.TallyLemmas.{tally_push}

abbrev Flops : Type 0
Flops = List (Option BitSource)

abbrev watch : Option ℕ → Known → RunTally → RunWatch
watch first known tally = record { first = first; known = known; tally = tally }

-- the moment behind, from its parts
pub moved_on : (clock : BitSource) (flops : List (Option BitSource)) (c : Circuit) (run : Run) (time : ℕ) (changes : List CodeValueChange) (first now at : Option ℕ)
    (known behind : Known) (old new : RunTally) → at ≡ time_if (map change_in changes) time → now ≡ option_or first at →
    behind ≡ known_after known (map change_in changes) → new ≡ closed clock flops c run known (known_after known (map change_in changes)) old →
    record { first = now; known = behind; tally = new } ≡ moved clock flops c run (record { first = first; known = known; tally = old }) (moment_in time changes)
moved_on clock flops c run time changes first now at known behind old new t f k e =
    λ i. watch ((f ∙ ap (option_or first) t) i) (k i) (e i)

pub moment_walked : (clock : BitSource) (flops : List (Option BitSource)) (c : Circuit) (run : Run) (w v : RunWatch) (h later : History) (time : ℕ)
    (items slice : List CodeValueChange) → h ≡ before (moment_in time items) later → slice ≡ items → v ≡ moved clock flops c run w (moment_in time slice) →
    walked clock flops c run w h ≡ walked clock flops c run v later
moment_walked clock flops c run w v h later time items slice e same goes =
    ap (walked clock flops c run w) e
    ∙ ap (λ (x : RunWatch). walked clock flops c run x later) (ap (λ (xs : List CodeValueChange). moved clock flops c run w (moment_in time xs)) (sym same) ∙ sym goes)

pub moment_faulty : (clock : BitSource) (flops : List (Option BitSource)) (c : Circuit) (run : Run) (w : RunWatch) (h : History) (fault : VcdFault) →
    (fault ≡ NoMemory) ⊎ (h ≡ stopped fault) → (fault ≡ NoMemory) ⊎ (walked clock flops c run w h ≡ Err fault)
moment_faulty clock flops c run w h fault (inl want) = inl want
moment_faulty clock flops c run w h fault (inr e) = inr (ap (walked clock flops c run w) e)

pub walk_more : (clock : BitSource) (flops : List (Option BitSource)) (c d : Circuit) (run other : Run) (all : Result RunWatch VcdFault) (w v : RunWatch) (at next : Option MomentStart)
    (spot : MomentStart) → d ≡ c → other ≡ run → all ≡ walked clock flops c run w (history_at at) → at ≡ Some spot →
    walked clock flops d other w (history_at (Some spot)) ≡ walked clock flops d other v (history_at next) →
    all ≡ walked clock flops c run v (history_at next)
walk_more clock flops c d run other all w v at next spot e f is here goes =
    is
    ∙ (ap (λ (a : Option MomentStart). walked clock flops c run w (history_at a)) here
    ∙ ((λ i. walked clock flops (sym e i) (sym f i) w (history_at (Some spot)))
    ∙ (goes ∙ λ i. walked clock flops (e i) (f i) v (history_at next))))

pub walk_faulty : (clock : BitSource) (flops : List (Option BitSource)) (c d : Circuit) (run other : Run) (all : Result RunWatch VcdFault) (w : RunWatch) (at : Option MomentStart)
    (spot : MomentStart) (fault : VcdFault) → d ≡ c → other ≡ run → all ≡ walked clock flops c run w (history_at at) → at ≡ Some spot →
    (fault ≡ NoMemory) ⊎ (walked clock flops d other w (history_at (Some spot)) ≡ Err fault) → (fault ≡ NoMemory) ⊎ (all ≡ Err fault)
walk_faulty clock flops c d run other all w at spot fault e f is here (inl want) = inl want
walk_faulty clock flops c d run other all w at spot fault e f is here (inr goes) =
    inr (is
    ∙ (ap (λ (a : Option MomentStart). walked clock flops c run w (history_at a)) here
    ∙ ((λ i. walked clock flops (sym e i) (sym f i) w (history_at (Some spot))) ∙ goes)))

-- ---- how far the text is

pub counted_more : (ended more n : ℕ) (at next : Option MomentStart) (spot : MomentStart) → at ≡ Some spot → ended + left at ≤ n → more ≤ ended + 1 →
    left next < left (Some spot) → more + left next ≤ n
counted_more ended more n at next spot here so one less =
    let e : left at ≡ left (Some spot) = ap left here in
    omega (arith, e, so, one, less)

pub ended_fits : (ended m n : ℕ) → ended + m ≤ n + 1 → n < 2 ^ 62 → ended < 2 ^ 63
ended_fits ended m n so short = omega (arith, so, short)

pub line_fits : (at : Option MomentStart) (spot : MomentStart) → at ≡ Some spot → last_line at < 2 ^ 64 → last_line (Some spot) < 2 ^ 64
line_fits at spot here fits = subst (λ (a : Option MomentStart). last_line a < 2 ^ 64) here fits

pub left_less : (at next : Option MomentStart) (spot : MomentStart) → at ≡ Some spot → left next < left (Some spot) → left next < left at
left_less at next spot here less = subst (λ (a : Option MomentStart). left next < left a) (sym here) less

pub walk_ends : (clock : BitSource) (flops : List (Option BitSource)) (c : Circuit) (run : Run) (all : Result RunWatch VcdFault) (w : RunWatch) (at : Option MomentStart) →
    all ≡ walked clock flops c run w (history_at at) → at ≡ None → all ≡ Ok w
walk_ends clock flops c run all w at e none = e ∙ ap (λ (a : Option MomentStart). walked clock flops c run w (history_at a)) none

-- ---- what is counted is what the moments give

none_behind : (o : Option ℕ) → option_or o None ≡ o
none_behind None = refl
none_behind (Some n) = refl

or_assoc : (x y z : Option ℕ) → option_or (option_or x y) z ≡ option_or x (option_or y z)
or_assoc None y z = refl
or_assoc (Some n) y z = refl

-- a moment, where the clock rises in it or not
closed_is : (clock : BitSource) (flops : Flops) (c : Circuit) (run : Run) (earlier : List ValueChange) (done : List (List FlopLevel)) (m : Moment) (b : Bool) →
    cond b (stepped c run (tally_of c run done) (levels_by flops (known_by earlier))) (tally_of c run done)
    ≡ tally_of c run (done ++ cond b (levels_by flops (known_by earlier) ∷ []) [])
closed_is clock flops c run earlier done m true = tally_push c run done (levels_by flops (known_by earlier))
closed_is clock flops c run earlier done m false = ap (tally_of c run) (sym (append-nil done))

edges_first : (flops : Flops) (b : Bool) (u : Cut) (rest : List Cut) →
    cond b (levels_before flops u ∷ []) [] ++ map (levels_before flops) rest ≡ map (levels_before flops) (cond b (u ∷ rest) rest)
edges_first flops true u rest = refl
edges_first flops false u rest = refl

pub moments_counted : (clock : BitSource) (flops : List (Option BitSource)) (c : Circuit) (run : Run) (first : Option ℕ) (earlier : List ValueChange)
    (done : List (List FlopLevel)) (ms : List Moment) →
    fold (moved clock flops c run) (record { first = first; known = known_by earlier; tally = tally_of c run done }) ms
    ≡ record {
      first = option_or first (begin_of ms);
      known = known_by (earlier ++ changes_of ms);
      tally = tally_of c run (done ++ edge_levels clock flops earlier ms);
    }
moments_counted clock flops c run first earlier done [] =
    λ i. watch (sym (none_behind first) i) (known_by (sym (append-nil earlier) i)) (tally_of c run (sym (append-nil done) i))
moments_counted clock flops c run first earlier done (m ∷ ms) =
    let behind : List ValueChange = earlier ++ m.changes in
    let edge : Bool = rises clock (known_by earlier) (known_by behind) in
    let more : List (List FlopLevel) = cond edge (levels_by flops (known_by earlier) ∷ []) [] in
    let rest : List Cut = filter (is_edge clock) (cuts_from behind ms) in
    let begun : Option ℕ = option_or first (time_if m.changes m.time) in
    ap (λ (w : RunWatch). fold (moved clock flops c run) w ms)
    ((λ i. watch begun (known_append earlier m.changes i)
    (closed clock flops c run (known_by earlier) (known_append earlier m.changes i) (tally_of c run done)))
    ∙ ap (watch begun (known_by behind)) (closed_is clock flops c run earlier done m edge))
    ∙ (moments_counted clock flops c run begun behind (done ++ more) ms
    ∙ λ i. watch (or_assoc first (time_if m.changes m.time) (begin_of ms) i) (known_by (append_assoc earlier m.changes (changes_of ms) i))
    (tally_of c run
    ((append_assoc done more (map (levels_before flops) rest)
    ∙ ap (λ (ls : List (List FlopLevel)). done ++ ls) (edges_first flops edge (record { earlier = earlier; moment = m }) rest))
    i)))
