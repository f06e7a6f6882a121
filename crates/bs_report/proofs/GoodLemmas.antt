-- A valid report is good.
use Rattle.std.proofs.Common.{◌≡◌, ℕ, Bool, true, false, cond, List, [], ◌∷◌, length, refl, ap, ◌∙◌, ◌⊎◌, inl, inr}
use Rattle.std.specs.Prelude.{filter, ◌&&◌, ◌||◌}
use Rattle.std.specs.List.{AllByRecursion as Each, list_any}
use Rattle.std.proofs.lemmas.Bool.{false≢true}
use Rattle.std.proofs.lemmas.List.Elements.{recursion_from_All}
use Rattle.bs_bits.specs.Bits.{bits_eq}
use Rattle.bs_scan.specs.Seen.{is_shown}
use Rattle.bs_scan.proofs.SeenLemmas.{shows_where}
use Rattle.bs_net.specs.Circuit.{next, all_bits}
use Rattle.bs_net.proofs.CallerLemmas.{all_bits_widths}
use Rattle.bs_net.proofs.NextLemmas.{Member}
use Rattle.bs_scan.specs.Moments.{is_listed}
use Rattle.bs_scan.specs.Signature.{agrees, some_input_shows, predecessors}
use Rattle.bs_scan.proofs.MomentLemmas.{each_member}
use Rattle.bs_scan.proofs.SignatureLemmas.{bits_same_is}
use Rattle.bs_report.specs.declared.report.Cand.{Cand}
use Rattle.bs_report.specs.declared.report.ListEnd.{ListEnd}
use Rattle.bs_report.specs.declared.report.ListEnd.TheVariants.{Finished, Candidates, Conflicts}
use Rattle.bs_report.specs.declared.report.Step.{Step}
use Rattle.bs_report.specs.declared.report.Report.{Report}
use Rattle.bs_scan.specs.Crash.{Crash, IsCrash}
use Rattle.bs_report.specs.Step.{stored_of, listed, asked_of, IsCandidate}
use Rattle.bs_report.specs.Stop.{IsFinished}
use Rattle.bs_log.specs.Shown.{Basis}
use Rattle.bs_report.specs.ValidLaw.{IsEncoded, ValidIsGood}
use Rattle.bs_report.proofs.SortedLemmas.{asc_of_pairs, asc_filter, asc_all_bits, same_lists}
use Rattle.bs_report.proofs.ValidLemmas.{AllIsRight, all_is_right, right_step, FinishedAreWhole, good_where_whole, both}
use Rattle.bs_report.proofs.WholeLemmas.{refuted}

pub listed_member : (s : List Bool) (xs : List (List Bool)) → is_listed xs s ≡ true → Member s xs
listed_member s [] e = absurd (false≢true e)
listed_member s (x ∷ xs) e = by (bits_eq s x) refl e (listed_member s xs)
  where
    by : (b : Bool) → bits_eq s x ≡ b → (b || is_listed xs s) ≡ true → (is_listed xs s ≡ true → Member s xs) → (s ≡ x) ⊎ Member s xs
    by true b e rest = inl (bits_same_is s x b)
    by false b e rest = inr (rest e)

-- an item of the list that passes the test
pub record Passing {X : Type 0} (p : X → Bool) (xs : List X) : Type 0 where
  pub item : X
  pub member : Member item xs
  pub passes : p item ≡ true

pub passing : {X : Type 0} (p : X → Bool) (xs : List X) → list_any p xs ≡ true → Passing p xs
passing p [] e = absurd (false≢true e)
passing {X} p (x ∷ xs) e = by (p x) refl e (passing p xs)
  where
    by : (b : Bool) → p x ≡ b → (b || list_any p xs) ≡ true → (list_any p xs ≡ true → Passing p xs) → Passing p (x ∷ xs)
    by true b e rest = record { item = x; member = inl refl; passes = b }
    by false b e rest = let r = rest e in record { item = r.item; member = inr r.member; passes = r.passes }

pub filter_member : (q : List Bool → Bool) (s : List Bool) (xs : List (List Bool)) → Member s (filter q xs) → (q s ≡ true) × Member s xs
filter_member q s [] m = absurd m
filter_member q s (x ∷ xs) m = by (q x) refl m (filter_member q s xs)
  where
    by : (b : Bool) → q x ≡ b → Member s (cond b (x ∷ filter q xs) (filter q xs)) → (Member s (filter q xs) → (q s ≡ true) × Member s xs) →
        (q s ≡ true) × ((s ≡ x) ⊎ Member s xs)
    by true b (inl same) rest = (ap q same ∙ b, inl same)
    by true b (inr k) rest = let r = rest k in (r.0, inr r.1)
    by false b k rest = let r = rest k in (r.0, inr r.1)

pub all_bits_length : (n : ℕ) (s : List Bool) → Member s (all_bits n) → length s ≡ n
all_bits_length n s m = each_member (λ (s : List Bool). length s ≡ n) s (all_bits n)
    (recursion_from_All (λ (s : List Bool). length s ≡ n) (all_bits n) (all_bits_widths n)) m

each_predecessor : (crash : Crash) (step : Step) (cands : List Cand) → Each (IsCandidate crash.circuit crash.choice step.present (stored_of step)) cands →
    Each (λ (s : List Bool). is_listed (asked_of crash step) s ≡ true) (listed cands)
each_predecessor crash step [] h = tt
each_predecessor crash step (c ∷ cs) h = (h.0.predecessor, each_predecessor crash step cs h.1)

finished_id : (e : ListEnd) → IsFinished e → (id : ℕ) × (e ≡ Finished id)
finished_id (Finished id) h = (id, refl)
finished_id Candidates h = absurd h
finished_id Conflicts h = absurd h

whole : (crash : Crash) (basis : Basis) (r : Report) → IsCrash crash → IsEncoded crash basis r.steps → AllIsRight crash basis r → FinishedAreWhole crash r
unfolding predecessors
whole crash basis r is enc h k step e fin =
    let right = right_step crash is r k step (h.steps k step e) in
    let q : List Bool → Bool = λ s. agrees crash.circuit crash.choice (stored_of step) s && some_input_shows crash.circuit s step.present in
    let id = finished_id step.end fin in
    same_lists (listed step.cands) (asked_of crash step) (asc_of_pairs (listed step.cands) right.ascend)
    (asc_filter q (all_bits (length crash.circuit.flops)) (asc_all_bits (length crash.circuit.flops)))
    (λ s m.
    listed_member s (asked_of crash step)
    (each_member (λ (s : List Bool). is_listed (asked_of crash step) s ≡ true) s (listed step.cands)
    (each_predecessor crash step step.cands
    (recursion_from_All (IsCandidate crash.circuit crash.choice step.present (stored_of step)) step.cands right.candidates)) m))
    (λ s m.
    let found = filter_member q s (all_bits (length crash.circuit.flops)) m in
    let tests = both (agrees crash.circuit crash.choice (stored_of step) s) (some_input_shows crash.circuit s step.present) found.0 in
    let x = passing (λ (x : List Bool). is_shown step.present (next crash.circuit s x)) (all_bits (length crash.circuit.inputs)) tests.1 in
    by s (is_listed (listed step.cands) s) refl
    (refuted crash basis r enc h k step id.0 e id.1 s x.item (all_bits_length (length crash.circuit.flops) s found.1)
    (all_bits_length (length crash.circuit.inputs) x.item x.member)
    tests.0 (shows_where step.present (next crash.circuit s x.item) x.passes)))
  where
    by : (s : List Bool) (b : Bool) → is_listed (listed step.cands) s ≡ b → (is_listed (listed step.cands) s ≡ false → ⊥) → Member s (listed step.cands)
    by s true e out = listed_member s (listed step.cands) e
    by s false e out = absurd (out e)

pub valid_is_good : ValidIsGood
valid_is_good crash basis r is enc valid = good_where_whole crash basis r is valid (whole crash basis r is enc (all_is_right crash basis r valid))
