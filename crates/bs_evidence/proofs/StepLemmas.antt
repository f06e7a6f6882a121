-- What each step assumes.
use Rattle.std.proofs.Common.{◌≡◌, ℕ, ◌<◌, ◌+◌, true, List, [], ◌∷◌, ◌++◌, map, length, get_or, take, ap, sym, ◌∙◌, arith}
use Rattle.std.proofs.lemmas.List.{map_more, length-map, length-take-le}
use Rattle.bs_clause.specs.Literal.{Clause, Literal}
use Rattle.bs_encode.specs.Tables.{lit}
use Rattle.bs_encode.specs.Encoded.{Encoded}
use Rattle.bs_encode.specs.Assuming.{assumptions_for, steps_from}
use Rattle.bs_encode.proofs.AssumingLemmas.{steps_from_more}
use Rattle.bs_report.specs.declared.report.Step.{Step}
use Rattle.bs_report.specs.Chain.{present_of}

pub assumptions_more : (e : Encoded) (steps : List Step) (i : ℕ) (step : Step) (all new : List Clause) (own : Clause) (activation : Literal) →
    i < length steps → step ≡ get_or steps i step →
    all ≡ steps_from e 1 (map present_of (take i steps)) → activation ≡ lit (e.variables + (i + 1)) true →
    own ≡ assumptions_for e activation (present_of step) → new ≡ all ++ own ∷ [] →
    new ≡ steps_from e 1 (map present_of (take (i + 1) steps))
assumptions_more e steps i step all new own activation lt is a g o n =
    let more : map present_of (take (i + 1) steps) ≡ map present_of (take i steps) ++ present_of step ∷ [] =
    map_more present_of steps i step lt ∙ ap (λ (s : Step). map present_of (take i steps) ++ present_of s ∷ []) (sym is) in
    let long : i + 1 ≡ 1 + length (map present_of (take i steps)) =
    omega (arith, length-map (take i steps) present_of, length-take-le i steps (omega (arith, lt))) in
    n ∙ (ap (λ (l : List Clause). l ++ own ∷ []) a
    ∙ (ap (λ (c : Clause). steps_from e 1 (map present_of (take i steps)) ++ c ∷ [])
    (o ∙ ap (λ (l : Literal). assumptions_for e l (present_of step)) (g ∙ ap (λ (k : ℕ). lit (e.variables + k) true) long))
    ∙ sym (ap (steps_from e 1) more ∙ steps_from_more e 1 (map present_of (take i steps)) (present_of step))))
