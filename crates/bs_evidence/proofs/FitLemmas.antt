-- Steps that fit.
use Rattle.std.proofs.Common.{◌≡◌, ℕ, ◌+◌, ◌<◌, Bool, true, false, List, [], ◌∷◌, length, get_or, take, refl, ap, sym, subst, ◌∙◌, eqb, Option, Some, None, inl, inr}
use Rattle.std.specs.Prelude.{All, IsTrue, ◌&&◌, is_none, cond}
use Rattle.std.proofs.lemmas.Bool.{and_parts, eqb-true, eq-eqb, false≢true}
use Rattle.std.proofs.lemmas.List.Elements.{All-more, All-from_recursion, All-weaker}
use Rattle.std.proofs.lemmas.Option.{slice_get-get_or}
use Rattle.bs_encode.specs.Assuming.{AreWide}
use Rattle.bs_encode.specs.Encoded.{Encoded}
use Rattle.bs_encode.specs.Listing.{IsTidy}
use Rattle.bs_net.specs.Circuit.{Circuit}
use Rattle.bs_scan.specs.Choice.{Chosen, depth_of, IsDepth}
use Rattle.bs_report.specs.declared.report.Step.{Step}
use Rattle.bs_evidence.specs.declared.flaw.Flaw.{Flaw}
use Rattle.bs_evidence.specs.declared.flaw.Flaw.TheVariants as flaws
use Rattle.bs_evidence.specs.Evidence.{is_wide, is_held, has_signatures, is_fit, misfit_of, IsMisfit, Suits}

fit_of_none : (flops items depth number : ℕ) (step : Step) → misfit_of flops items depth number step ≡ None → is_fit flops items depth step ≡ true
fit_of_none flops items depth number step = by (eqb (length step.present.bits) flops) (has_signatures items depth step)
  where
    by : (a b : Bool) → cond a (cond b None (Some (flaws.Stored number))) (Some (flaws.Present number)) ≡ None → (a && b) ≡ true
    by true true e = refl
    by true false e = absurd (cc)
    by false b e = absurd (cc)

pub fits_more : (flops items depth number : ℕ) (steps : List Step) (i : ℕ) (step : Step) → i < length steps → step ≡ get_or steps i step →
    All (λ step. IsTrue (is_fit flops items depth step)) (take i steps) → misfit_of flops items depth number step ≡ None →
    All (λ step. IsTrue (is_fit flops items depth step)) (take (i + 1) steps)
fits_more flops items depth number steps i step less is so_far none =
    All-more (λ step. IsTrue (is_fit flops items depth step)) steps i step less so_far
    (subst (λ (s : Step). is_fit flops items depth s ≡ true) is (fit_of_none flops items depth number step none))

pub misfit_at : (flops items depth : ℕ) (steps : List Step) (i : ℕ) (step : Step) (flaw : Flaw) → i < length steps → step ≡ get_or steps i step →
    misfit_of flops items depth (i + 1) step ≡ Some flaw → IsMisfit flops items depth steps flaw
misfit_at flops items depth steps i step flaw less is found =
    record { place = i; step = step; there = slice_get-get_or steps i step less ∙ ap (λ (s : Step). Some s) (sym is); is = found }

-- ---- against an encoding

wide_of : (items : ℕ) (older : Option (List Bool)) → is_wide items older ≡ true → AreWide items older
wide_of items None e = All-from_recursion (λ (t : List Bool). length t ≡ items) [] tt
wide_of items (Some t) e = All-from_recursion (λ (t : List Bool). length t ≡ items) (t ∷ []) (eqb-true (length t) items e, tt)

none_wide : (n : ℕ) (older : Option (List Bool)) → is_none older ≡ true → AreWide n older
none_wide n None e = All-from_recursion (λ (t : List Bool). length t ≡ n) [] tt
none_wide n (Some t) e = absurd (false≢true e)

held_suits : (c : Circuit) (choice : Chosen) (e : Encoded) (older : Option (List Bool)) → IsDepth (depth_of choice) → IsTidy c choice e →
    is_held (length choice.items) (depth_of choice) older ≡ true → AreWide (length e.older_signatures) older
held_suits c choice e older (inl one) tidy held =
    none_wide (length e.older_signatures) older
    (ap (λ b. cond b (is_none older) (is_wide (length choice.items) older)) (sym (eq-eqb (depth_of choice) 1 one)) ∙ held)
held_suits c choice e older (inr two) tidy held =
    subst (λ (n : ℕ). AreWide n older) (sym (tidy.older_signatures_width two))
    (wide_of (length choice.items) older
    (ap (λ b. cond b (is_none older) (is_wide (length choice.items) older)) (sym (ap (λ n. eqb n 1) two)) ∙ held))

pub fits_suit : (c : Circuit) (choice : Chosen) (e : Encoded) (steps : List Step) → IsDepth (depth_of choice) → IsTidy c choice e →
    All (λ step. IsTrue (is_fit (length c.flops) (length choice.items) (depth_of choice) step)) steps → All (Suits e) steps
fits_suit c choice e steps kept tidy all =
    All-weaker (λ step. IsTrue (is_fit (length c.flops) (length choice.items) (depth_of choice) step)) (Suits e)
    (λ step fit.
    let parts = and_parts (eqb (length step.present.bits) (length c.flops)) (has_signatures (length choice.items) (depth_of choice) step) fit in
    let held = and_parts (eqb (length step.stored) (length choice.items)) (is_held (length choice.items) (depth_of choice) step.older) parts.1 in
    record {
      present = eqb-true (length step.present.bits) (length c.flops) parts.0 ∙ sym tidy.next_width;
      stored = eqb-true (length step.stored) (length choice.items) held.0 ∙ sym tidy.signatures_width;
      older = held_suits c choice e step.older kept tidy held.1;
    }) steps all
