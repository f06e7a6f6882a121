-- The text of all signals.
use Rattle.std.proofs.Common.{◌≡◌, ℕ, ◌<◌, ◌≤◌, ◌-◌, List, [], ◌∷◌, length, map, get_or, take, Option, Some, None}
use Rattle.std.proofs.Common.{refl, ap, sym, subst, ◌∙◌, arith, zero, suc}
use Rattle.std.specs.Prelude.{All}
use Rattle.std.specs.List.{flat_map}
use Rattle.std.specs.List.Sorted.{IsPermutation, IsSorted}
use Rattle.std.proofs.lemmas.List.{length-map}
use Rattle.std.proofs.lemmas.List.Elements.{All-append, All-nil, All-take}
use Rattle.std.proofs.lemmas.List.Sorted.{All-permutation}
use Rattle.bs_net.specs.Circuit.{Circuit}
use Rattle.bs_inspect_view.specs.Signals.{AreSignals, Signal, signal_in}
use Rattle.bs_inspect_view.specs.declared.signal.Signal.{Signal as CodeSignal}
use Rattle.bs_net.specs.Parts.{Parts}
use Rattle.bs_net.specs.Netlist.{circuit_of}
use Rattle.bs_stim.specs.Runs.{Recorded, Stimulus, inputs_of}
use Rattle.bs_scan.specs.Moments.{Run}
use Rattle.bs_inspect_report.specs.Keys.{flop_keys}
use Rattle.bs_inspect_near.specs.declared.novelty.Novelty.{Novelty}
use Rattle.bs_inspect_near.specs.Novelties.{AreNovelties, novelty_cmp, one_or_none}
use Rattle.bs_inspect_near.specs.Novel.{TellsNovel, TellsOf, TellsSignals, alone_text, novelties_text}
use Rattle.bs_inspect_near.specs.Shown.{IsShowable}

-- ---- novelties are shown

-- each member of a list of options has a property
somes_all : (P : Novelty → Type 0) (all : List (Option Novelty)) → ((i : ℕ) (f : Novelty) → i < length all → get_or all i None ≡ Some f → P f) →
    All P (flat_map one_or_none all)
somes_all P [] h = All-nil P
somes_all P (o ∷ all) h =
    All-append P (one_or_none o) (flat_map one_or_none all) (here o refl) (somes_all P all (λ i f lt e. h (suc i) f (omega (arith, lt)) e))
  where
    here : (p : Option Novelty) → o ≡ p → All P (one_or_none p)
    here None e = All-nil P
    here (Some f) e = λ k d lt. alone k d lt
      where
        alone : (k : ℕ) (d : Novelty) → k < 1 → P (get_or (f ∷ []) k d)
        alone zero d lt = h zero f (omega arith) e
        alone (suc k) d lt = absurd (omega (arith, lt))

showable : (c : Circuit) (runs : List Run) (number : ℕ) (signals : List Signal) (count : ℕ) (novelties : List Novelty) →
    AreNovelties c runs number signals count novelties → All (λ f. IsShowable runs number count f) novelties
showable c runs number signals count novelties are =
    subst (λ (fs : List Novelty). All (λ f. IsShowable runs number count f) fs) (sym are.are)
    (somes_all (λ f. IsShowable runs number count f) are.all
    (λ i f lt e.
    let within : i < count = omega (arith, lt, are.long) in
    let is = are.each i within in
    record { place = omega (arith, is.place f e, within); lasts = (is.novel f e).lasts }))

pub first_showable : (c : Circuit) (runs : List Run) (number most : ℕ) (signals : List CodeSignal) (novelties ordered first : List Novelty) →
    AreNovelties c runs number (map signal_in signals) (length signals) novelties → IsPermutation novelties ordered → first ≡ take most ordered →
    All (λ f. IsShowable runs number (length signals) f) first
first_showable c runs number most signals novelties ordered first are moved is =
    let P : Novelty → Type 0 = λ f. IsShowable runs number (length signals) f in
    subst (All P) (sym is)
    (All-take P most ordered (All-permutation P novelties ordered moved (showable c runs number (map signal_in signals) (length signals) novelties are)))

pub tells_of : (c : Circuit) (runs : List Run) (number most : ℕ) (signals : List CodeSignal) (novelties ordered first : List Novelty) (text : List ℕ) →
    AreNovelties c runs number (map signal_in signals) (length signals) novelties → IsPermutation novelties ordered → IsSorted novelty_cmp ordered →
    first ≡ take most ordered → text ≡ novelties_text c runs number (map signal_in signals) first → TellsOf c runs number most (map signal_in signals) text
tells_of c runs number most signals novelties ordered first text are moved sorted is says = record {
  novelties = novelties;
  found =
      subst (λ (n : ℕ). AreNovelties c runs number (map signal_in signals) n novelties) (sym (length-map signals signal_in)) are;
  ordered = ordered;
  same = moved;
  in_order = sorted;
  says = says ∙ ap (novelties_text c runs number (map signal_in signals)) is;
}

-- ---- the whole text

pub run_there : (s : Stimulus) (number : ℕ) → number ≤ length s.runs → number ≤ length (inputs_of s)
run_there s number le = omega (arith, le, length-map s.runs (λ (run : Recorded). run.inputs))

pub tells_signals : (raw : Parts) (runs : List Run) (number most : ℕ) (keys : List (List ℕ)) (signals : List Signal) (text : List ℕ) →
    AreSignals [] keys signals → keys ≡ flop_keys raw → TellsOf (circuit_of raw) runs number most signals text → TellsSignals raw runs number most text
tells_signals raw runs number most keys signals text are e tells = record {
  signals = signals;
  are = subst (λ (ks : List (List ℕ)). AreSignals [] ks signals) e are;
  tells = tells;
}

pub tells_alone : (raw : Parts) (s : Stimulus) (number most n : ℕ) (text : List ℕ) → n ≡ length s.runs → n ≤ 1 → text ≡ alone_text →
    TellsNovel raw s number most text
tells_alone raw s number most n text e le says = record { alone = λ few. says; several = λ many. absurd (omega (arith, e, le, many)) }

pub tells_several : (raw : Parts) (s : Stimulus) (number most n : ℕ) (text : List ℕ) → n ≡ length s.runs → 1 < n →
    TellsSignals raw (inputs_of s) number most text → TellsNovel raw s number most text
tells_several raw s number most n text e lt says = record { alone = λ few. absurd (omega (arith, e, lt, few)); several = λ many. says }
