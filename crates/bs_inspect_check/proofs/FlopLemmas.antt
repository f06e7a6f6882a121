-- What is counted is the comparison.
use Rattle.std.proofs.Common.{◌≡◌, ◌+◌, ◌-◌, ◌≤◌, min, Bool, List, [], ◌∷◌, ◌++◌, length, map, fold, Option, Some, None, Result, Ok, Err, refl, ap, sym, subst, ◌∙◌, ◌⊎◌, inl, inr, arith}
use Rattle.bs_bits.specs.Reading.{◌>>=◌}
use Rattle.bs_net.specs.Circuit.{Circuit, reset_state}
use Rattle.bs_scan.specs.Moments.{Run, state_at}
use Rattle.bs_vcd_header.specs.declared.fault.VcdFault.{VcdFault}
use Rattle.bs_vcd_header.specs.declared.fault.VcdFault.TheVariants.{NoMemory}
use Rattle.bs_vcd_header.specs.declared.sources.BitSource.{BitSource}
use Rattle.bs_vcd.specs.History.{History, Moment, begin_of}
use Rattle.bs_vcd.specs.Levels.{known_by}
use Rattle.bs_vcd.specs.Sampled.{or_fault}
use Rattle.bs_inspect_check.specs.declared.flops.FlopComparison.{FlopComparison}
use Rattle.bs_inspect_check.specs.declared.tally.RunTally.{RunTally as CodeTally}
use Rattle.bs_inspect_check.specs.declared.walk.RunWatch.{RunWatch as CodeWatch}
use Rattle.bs_inspect_check.specs.Flops.{compared_by, comparison}
use Rattle.bs_vcd.specs.Found.{is_found}
use Rattle.bs_inspect_check.specs.Samples.{changes_of, edge_levels, levels_by, samples}
use Rattle.bs_inspect_check.specs.Tallies.{comparison_by, comparison_in, IsBegin, IsSmall, lasted, moved, Replayed, stepped, RunTally, tally_of, walked, RunWatch, watch_in, whole}
use Rattle.bs_inspect_check.proofs.TallyLemmas.{tally_push}
use Rattle.bs_inspect_check.proofs.WalkLemmas.{moments_counted}

-- nothing is counted before the first moment
pub nothing_small : (w : CodeWatch) → IsBegin w → IsSmall w.tally
nothing_small w begun = subst IsSmall (sym begun.tally) (record { agreed = omega arith; unknown = omega arith })

pub nothing_ended : (w : CodeWatch) → IsBegin w → w.tally.ended ≡ 0
nothing_ended w begun = ap (λ (t : CodeTally). t.ended) begun.tally

abbrev started : Circuit → Run → RunWatch
started c run = record { first = None; known = known_by []; tally = tally_of c run [] }

-- a run begins at reset
reset_is : (c : Circuit) (run : Run) → reset_state c ≡ state_at c run 0
unfolding state_at
reset_is c run = refl

start_is : (c : Circuit) (run : Run) (w : CodeWatch) (state : List Bool) → IsBegin w → state ≡ reset_state c → watch_in w state ≡ started c run
start_is c run w state begun e =
    let low : 0 ≡ min 0 (length run) = omega arith in
    let at : state ≡ state_at c run (min 0 (length run)) = e ∙ (reset_is c run ∙ ap (state_at c run) low) in
    λ i. record {
      first = begun.first i;
      known = begun.known i;
      tally = record {
        ended = (begun.tally i).ended;
        agreed = (begun.tally i).agreed;
        unknown = (begun.tally i).unknown;
        differing = (begun.tally i).differing;
        state = at i;
      };
    }

-- ---- the whole

abbrev answered : Circuit → Run → List (Option BitSource) → Result RunWatch VcdFault → Result FlopComparison VcdFault
answered c run flops r = r >>= λ w. Ok (comparison_by (length run) (map is_found flops) w)

-- the last cycle
last_is : (c : Circuit) (run : Run) (clock : BitSource) (flops : List (Option BitSource)) (ms : List Moment) →
    lasted flops c run (fold (moved clock flops c run) (started c run) ms)
    ≡ record { first = begin_of ms; known = known_by (changes_of ms); tally = tally_of c run (samples clock flops ms) }
last_is c run clock flops ms =
    ap (lasted flops c run) (moments_counted clock flops c run None [] [] ms)
    ∙ λ i. record {
      first = begin_of ms;
      known = known_by (changes_of ms);
      tally = tally_push c run (edge_levels clock flops [] ms) (levels_by flops (known_by (changes_of ms))) i;
    }

pub compared_is : (c : Circuit) (run : Run) (clock : BitSource) (flops : List (Option BitSource)) (h : History) →
    compared_by c run clock flops h ≡ answered c run flops (whole clock flops c run (started c run) h)
compared_is c run clock flops h = by h.fault
  where
    by : (fault : Option VcdFault) →
        or_fault fault (comparison c run clock flops h)
        ≡ answered c run flops (or_fault fault (fold (moved clock flops c run) (started c run) h.moments) >>= λ v. Ok (lasted flops c run v))
    by None = ap (λ (w : RunWatch). Ok (comparison_by (length run) (map is_found flops) w)) (sym (last_is c run clock flops h.moments))
    by (Some fault) = refl

-- what a replay that begins at reset gives
whole_is : (c : Circuit) (run : Run) (clock : BitSource) (flops : List (Option BitSource)) (h : History) (w : CodeWatch) (r : Replayed) →
    r ≡ record { circuit = c; run = run; state = reset_state c } → IsBegin w →
    compared_by c run clock flops h ≡ answered c run flops (whole clock flops r.circuit r.run (watch_in w r.state) h)
whole_is c run clock flops h w r e begun =
    compared_is c run clock flops h
    ∙ ap (answered c run flops)
    (ap (λ (v : RunWatch). whole clock flops c run v h) (sym (start_is c run w (reset_state c) begun refl))
    ∙ ap (λ (p : Replayed). whole clock flops p.circuit p.run (watch_in w p.state) h) (sym e))

pub run_watched : (c : Circuit) (run : Run) (clock : BitSource) (flops : List (Option BitSource)) (h : History) (w v : CodeWatch) (r : Replayed) (state : List Bool) →
    r ≡ record { circuit = c; run = run; state = reset_state c } → IsBegin w →
    whole clock flops r.circuit r.run (watch_in w r.state) h ≡ Ok (watch_in v state) →
    compared_by c run clock flops h ≡ Ok (comparison_in (length run) (map is_found flops) v)
run_watched c run clock flops h w v r state e begun goes = whole_is c run clock flops h w r e begun ∙ ap (answered c run flops) goes

pub run_faulty : (c : Circuit) (run : Run) (clock : BitSource) (flops : List (Option BitSource)) (h : History) (w : CodeWatch) (r : Replayed) (fault : VcdFault) →
    r ≡ record { circuit = c; run = run; state = reset_state c } → IsBegin w →
    (fault ≡ NoMemory) ⊎ (whole clock flops r.circuit r.run (watch_in w r.state) h ≡ Err fault) →
    (fault ≡ NoMemory) ⊎ (compared_by c run clock flops h ≡ Err fault)
run_faulty c run clock flops h w r fault e begun (inl want) = inl want
run_faulty c run clock flops h w r fault e begun (inr goes) = inr (whole_is c run clock flops h w r e begun ∙ ap (answered c run flops) goes)

-- all cycles, the last of which the end of the text ends
pub all_walked : (clock : BitSource) (flops : List (Option BitSource)) (c d : Circuit) (run other : Run) (w v : RunWatch) (h : History) (t : RunTally) → d ≡ c →
    other ≡ run → walked clock flops c run w h ≡ Ok v → t ≡ stepped d other v.tally (levels_by flops v.known) →
    whole clock flops c run w h ≡ Ok (record { first = v.first; known = v.known; tally = t })
all_walked clock flops c d run other w v h t e f goes is =
    ap (λ (r : Result RunWatch VcdFault). r >>= λ u. Ok (lasted flops c run u)) goes
    ∙ λ i. Ok (record { first = v.first; known = v.known; tally = sym (is ∙ λ j. stepped (e j) (f j) v.tally (levels_by flops v.known)) i })

pub all_faulty : (clock : BitSource) (flops : List (Option BitSource)) (c : Circuit) (run : Run) (w : RunWatch) (h : History) (fault : VcdFault) →
    (fault ≡ NoMemory) ⊎ (walked clock flops c run w h ≡ Err fault) → (fault ≡ NoMemory) ⊎ (whole clock flops c run w h ≡ Err fault)
all_faulty clock flops c run w h fault (inl want) = inl want
all_faulty clock flops c run w h fault (inr goes) = inr (ap (λ (r : Result RunWatch VcdFault). r >>= λ u. Ok (lasted flops c run u)) goes)
