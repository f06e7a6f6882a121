-- How far was searched for the steps, one step on.
use Rattle.std.proofs.Common.{◌≡◌, ◌≢◌, ℕ, suc, zero, Bool, List, [], ◌∷◌, ◌++◌, ◌+◌, length, refl, ap, subst, sym, ◌∙◌, ◌⊎◌, inl, inr, arith}
use Rattle.std.proofs.Common.{length-append, Option, Some, None}
use Rattle.std.specs.Prelude.{Result, Ok, Err, IfOk, option_map, slice_get}
use Rattle.bs_scan.specs.declared.dump.Dump.{Dump}
use Rattle.bs_scan.specs.Crash.{Recording}
use Rattle.bs_scan.specs.Moments.{Moment, state_of, first_moment}
use Rattle.bs_chip.specs.declared.first_hit.Hit.{Hit}
use Rattle.bs_report.specs.declared.report.Budgets.{Budgets}
use Rattle.bs_report.specs.declared.report.Cand.{Cand}
use Rattle.bs_report.specs.declared.report.HitLine.{HitLine}
use Rattle.bs_report.specs.declared.report.ListEnd.{ListEnd}
use Rattle.bs_report.specs.declared.report.ListEnd.TheVariants.{Finished, Candidates, Conflicts}
use Rattle.bs_report.specs.declared.report.Step.{Step}
use Rattle.bs_report.specs.Step.{listed}
use Rattle.bs_preimage.specs.declared.listing.Listing.{Listing}
use Rattle.bs_preimage.specs.Preimage.{PreimageState}
use Rattle.bs_preimage.specs.Listed.{HasListed}
use Rattle.bs_preimage_recorded.specs.Search.{asked_in}
use Rattle.bs_loop.specs.declared.known.SearchAnswer.{SearchAnswer}
use Rattle.bs_loop.specs.declared.known.SearchExtent.{SearchExtent}
use Rattle.bs_loop.specs.declared.known.SearchExtent.TheVariants.{Whole, Limited, Unanswered}
use Rattle.bs_loop.specs.KnownCand.{reach_by, IsAsked, Reaches}
use Rattle.bs_loop.specs.Searched.{HitsBy, HitsFirst, AreSearched, WereSearched, IsOneSearched, IsTurnSearched, is_last_cut, TellsCut}
use Rattle.bs_loop.specs.Turn.{step_of, HasLookedFrom}
use Rattle.bs_loop.proofs.KnownLemmas.{met_finished, met_counted}

-- the line of a moment, if there is one
abbrev line_at : Recording → Option Moment → Option HitLine
line_at r = option_map (λ (m : Moment). record { run = m.run; cycle = m.cycle; state = state_of r.circuit r.runs m })

-- a list that did not end by its count
unasked_met : (r : Recording) (now : Dump) (stored : List Bool) (known : Option Cand) (old new : PreimageState) (k b : ℕ) (listing : Listing) →
    old.circuit ≡ r.circuit → old.choice ≡ r.choice → HasListed old new now.state stored now.older known k b listing → (end : ListEnd) →
    listing.end ≡ end → end ≢ Candidates → end ≢ Conflicts →
    first_moment r.circuit r.runs (listed listing.cands) ≡ first_moment r.circuit r.runs (asked_in r now.state stored now.older)
unasked_met r now stored known old new k b listing circuits choices l (Finished id) e counted spent =
    met_finished r now stored known old new k b id listing circuits choices l e
unasked_met r now stored known old new k b listing circuits choices l Candidates e counted spent = absurd (counted refl)
unasked_met r now stored known old new k b listing circuits choices l Conflicts e counted spent = absurd (spent refl)

-- one that a whole search answered
asked_met : (r : Recording) (now : Dump) (stored : List Bool) (known : Option Cand) (first : Option Moment) (old new : PreimageState) (k b : ℕ)
    (listing : Listing) → old.circuit ≡ r.circuit → old.choice ≡ r.choice → Reaches r now.state stored now.older b known first Whole →
    HasListed old new now.state stored now.older known k b listing → (end : ListEnd) → listing.end ≡ end → end ≢ Conflicts →
    first_moment r.circuit r.runs (listed listing.cands) ≡ first_moment r.circuit r.runs (asked_in r now.state stored now.older)
asked_met r now stored known first old new k b listing circuits choices h l (Finished id) e spent =
    met_finished r now stored known old new k b id listing circuits choices l e
asked_met r now stored known first old new k b listing circuits choices h l Candidates e spent =
    met_counted r now stored known first old new k b listing circuits choices h l e
asked_met r now stored known first old new k b listing circuits choices h l Conflicts e spent = absurd (spent refl)

given_hits : (r : Recording) (budgets : Budgets) (old new : PreimageState) (now : Dump) (stored : List Bool) (at : Option Moment) (listing : Listing)
    (hit : Option Hit) (reach : SearchExtent) (answer : SearchAnswer) (given_reach : SearchExtent) → old.circuit ≡ r.circuit → old.choice ≡ r.choice →
    (from : HasLookedFrom r budgets old new now stored at listing hit reach) →
    Reaches r now.state stored now.older budgets.conflicts from.known answer.first given_reach →
    HitsBy r budgets.conflicts (step_of now stored listing hit) given_reach
given_hits r budgets old new now stored at listing hit reach answer Whole circuits choices from h =
    λ spent.
    from.back.line
    ∙ ap (line_at r)
    (asked_met r now stored from.known answer.first old new budgets.candidates budgets.conflicts listing circuits choices h from.back.listed
    listing.end refl spent)
given_hits r budgets old new now stored at listing hit reach answer (Limited m) circuits choices from h = h
given_hits r budgets old new now stored at listing hit reach answer (Unanswered m) circuits choices from h = h

looked_hits : (r : Recording) (budgets : Budgets) (old new : PreimageState) (now : Dump) (stored : List Bool) (at : Option Moment) (listing : Listing)
    (hit : Option Hit) (reach : SearchExtent) → old.circuit ≡ r.circuit → old.choice ≡ r.choice →
    HasLookedFrom r budgets old new now stored at listing hit reach → HitsBy r budgets.conflicts (step_of now stored listing hit) reach
looked_hits r budgets old new now stored at listing hit reach circuits choices from = by from.answered.either
  where
    by : ((from.answer ≡ None) × (listing.end ≢ Candidates)) ⊎ IsAsked r now stored budgets.conflicts at from.known from.answer →
        HitsBy r budgets.conflicts (step_of now stored listing hit) reach
    by (inl none) =
        let is : reach ≡ Whole = from.reach_is ∙ ap reach_by none.0 in
        subst (HitsBy r budgets.conflicts (step_of now stored listing hit)) (sym is)
        (λ spent.
        from.back.line
        ∙ ap (line_at r)
        (unasked_met r now stored from.known old new budgets.candidates budgets.conflicts listing circuits choices from.back.listed listing.end refl
        none.1 spent))
    by (inr asked) =
        let is : reach ≡ asked.given.reach = from.reach_is ∙ ap reach_by asked.is in
        subst (HitsBy r budgets.conflicts (step_of now stored listing hit)) (sym is)
        (given_hits r budgets old new now stored at listing hit reach asked.given asked.given.reach circuits choices from asked.known_is.reach)

-- the step of a list
pub step_hits : (r : Recording) (budgets : Budgets) (old new : PreimageState) (now : Dump) (stored : List Bool) (at : Option Moment) (listing : Listing)
    (hit : Option Hit) (reach : SearchExtent) (step : Step) → old.circuit ≡ r.circuit → old.choice ≡ r.choice →
    HasLookedFrom r budgets old new now stored at listing hit reach → step ≡ step_of now stored listing hit → HitsFirst r budgets.conflicts step reach
step_hits r budgets old new now stored at listing hit reach step circuits choices from is =
    subst (λ (s : Step). HitsFirst r budgets.conflicts s reach) (sym is)
    (record { hit = looked_hits r budgets old new now stored at listing hit reach circuits choices from })

pub turn_searched : {A E : Type 0} (r : Recording) (b : ℕ) (steps more : List Step) (reaches longer : List SearchExtent) (step : Step) (reach : SearchExtent)
    (result : Result A E) → IfOk result (λ _. more ≡ steps ++ step ∷ []) → IfOk result (λ _. longer ≡ reaches ++ reach ∷ []) →
    HitsFirst r b step reach → IfOk result (λ _. IsTurnSearched r b steps more reaches longer)
turn_searched r b steps more reaches longer step reach (Ok done) made noted hits =
    record { either = inr (record { step = step; reach = reach; made = made; noted = noted; hits = hits }) }
turn_searched r b steps more reaches longer step reach (Err want) made noted hits = tt

pub none_searched : (r : Recording) (b : ℕ) (reaches : List SearchExtent) → reaches ≡ [] → AreSearched r b [] reaches
none_searched r b reaches is = subst (AreSearched r b []) (sym is) (record { count = refl; each = λ i step reach e f. cc })

each_more : (P : SearchExtent → Step → Type 0) (steps : List Step) (step : Step) (reaches : List SearchExtent) (reach : SearchExtent) → length reaches ≡ length steps →
    ((i : ℕ) (s : Step) (x : SearchExtent) → slice_get steps i ≡ Some s → slice_get reaches i ≡ Some x → P x s) → P reach step →
    (i : ℕ) (s : Step) (x : SearchExtent) → slice_get (steps ++ step ∷ []) i ≡ Some s → slice_get (reaches ++ reach ∷ []) i ≡ Some x → P x s
each_more P [] step [] reach e h p zero s x is at =
    let same : step ≡ s = cc in let noted : reach ≡ x = cc in subst (P x) same (subst (λ (y : SearchExtent). P y step) noted p)
each_more P [] step [] reach e h p (suc i) s x is at = cc
each_more P [] step (b ∷ bs) reach e h p i s x is at = absurd (omega (arith, e))
each_more P (t ∷ ts) step [] reach e h p i s x is at = absurd (omega (arith, e))
each_more P (t ∷ ts) step (b ∷ bs) reach e h p zero s x is at = h zero s x is at
each_more P (t ∷ ts) step (b ∷ bs) reach e h p (suc i) s x is at =
    each_more P ts step bs reach (omega (arith, e)) (λ j s x q a. h (suc j) s x q a) p i s x is at

one_more : (r : Recording) (b : ℕ) (steps more : List Step) (reaches longer : List SearchExtent) → AreSearched r b steps reaches →
    IsOneSearched r b steps more reaches longer → AreSearched r b more longer
one_more r b steps more reaches longer all one =
    subst (λ (l : List Step). AreSearched r b l longer) (sym one.made)
    (subst (AreSearched r b (steps ++ one.step ∷ [])) (sym one.noted)
    (record {
      count = length-append reaches (one.reach ∷ []) ∙ (ap (λ (n : ℕ). n + 1) all.count ∙ sym (length-append steps (one.step ∷ [])));
      each = each_more (λ x s. HitsFirst r b s x) steps one.step reaches one.reach all.count all.each one.hits;
    }))

pub searched_more : (r : Recording) (b : ℕ) (steps more : List Step) (reaches longer : List SearchExtent) → AreSearched r b steps reaches →
    IsTurnSearched r b steps more reaches longer → AreSearched r b more longer
searched_more r b steps more reaches longer all turn = by turn.either
  where
    by : ((more ≡ steps) × (longer ≡ reaches)) ⊎ IsOneSearched r b steps more reaches longer → AreSearched r b more longer
    by (inl same) = subst (λ (l : List Step). AreSearched r b l longer) (sym same.0) (subst (AreSearched r b steps) (sym same.1) all)
    by (inr one) = one_more r b steps more reaches longer all one

-- what was searched for the steps of a result
pub were_searched : {A E : Type 0} (r : Recording) (b : ℕ) (steps : A → List Step) (reaches : List SearchExtent) (result : Result A E) →
    IfOk result (λ way. AreSearched r b (steps way) reaches) → IfOk result (λ way. WereSearched r b (steps way))
were_searched r b steps reaches (Ok way) are = record { reaches = reaches; are = are }
were_searched r b steps reaches (Err want) are = tt

-- and whether the search for the last of them was cut
pub tells_cut : {A E : Type 0} (r : Recording) (b : ℕ) (steps : A → List Step) (reaches : List SearchExtent) (cut : Bool) (result : Result A E) →
    cut ≡ is_last_cut reaches → IfOk result (λ way. AreSearched r b (steps way) reaches) → IfOk result (λ way. TellsCut r b (steps way) cut)
tells_cut r b steps reaches cut (Ok way) is are = record { searched = record { reaches = reaches; are = are }; last = is }
tells_cut r b steps reaches cut (Err want) is are = tt
