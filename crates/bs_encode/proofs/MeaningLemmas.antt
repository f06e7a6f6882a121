-- The clauses of two time frames and their link say exactly which two valuations fit.
use Rattle.std.proofs.Common.{◌≡◌, ℕ, ◌+◌, Bool, true, List, [], ◌∷◌, map, length, refl, sym, ap, ◌∙◌, arith, subst}
use Rattle.std.specs.List.{AllByRecursion, All, range_with_len}
use Rattle.std.proofs.lemmas.List.Elements.{All-from_recursion, recursion_from_All}
use Rattle.bs_clause.specs.Literal.{Satisfies}
use Rattle.bs_net.specs.Circuit.{Circuit, Fits, shown, state_nets, next_state}
use Rattle.bs_net.specs.Order.{IsChecked}
use Rattle.bs_net.proofs.NextLemmas.{range_from_below}
use Rattle.bs_encode.specs.Transition.{variables, first_next, first_item, item_vars}
use Rattle.bs_encode.specs.Encoded.{Encoded, encoding_of}
use Rattle.bs_encode.specs.Depth.{IsLinkable, linked_clauses}
use Rattle.bs_encode.specs.Cycle.{bits_on}
use Rattle.bs_encode.specs.Meaning.{IsClosed, ShowsStep, ShowsSteps, FramesEqualGates, nets_of, next_of, signature_of, before_of, link_value}
use Rattle.bs_encode.proofs.PartLemmas.{OnNets}
use Rattle.bs_encode.proofs.LawLemmas.{fitting_extends, meeting_fits}
use Rattle.bs_encode.proofs.RangeLemmas.{InRange, numbers_ranged, item_vars_ranged}
use Rattle.bs_encode.proofs.DistinctLemmas.{weaken}
use Rattle.bs_encode.proofs.CycleLemmas.{on_own_nets, states_on, next_on}
use Rattle.bs_encode.proofs.FrameLemmas.{Agree}
use Rattle.bs_encode.proofs.OlderLemmas.{both, both_met, first_is, second_is, link_is, first_met, second_met, second_leads}

same_over : (f g : ℕ → Bool) (vs : List ℕ) → AllByRecursion (λ v. f v ≡ g v) vs → map f vs ≡ map g vs
same_over f g [] h = refl
same_over f g (v ∷ vs) h = ap (λ b. b ∷ map f vs) h.0 ∙ ap (λ bs. g v ∷ bs) (same_over f g vs h.1)

-- an assignment with the same values on the variables shows the same step
shows_same : (c : Circuit) (items : List (List ℕ)) (s x v : List Bool) (a b : ℕ → Bool) → Agree (variables c items) a b → ShowsStep c items s x v b →
    ShowsStep c items s x v a
shows_same c items s x v a b same shows =
    let n : ℕ = variables c items in
    let at : (u : ℕ) → InRange n u → a u ≡ b u = λ u r. same u r.0 r.1 in
    let nets : nets_of c a ≡ nets_of c b =
    same_over (λ k. a (k + 1)) (λ k. b (k + 1)) (range_with_len 0 c.nets)
    (range_from_below (λ k. a (k + 1) ≡ b (k + 1)) c.nets (λ k lt. same (k + 1) (omega arith) (omega (arith, lt)))) in
    let nexts : next_of c a ≡ next_of c b =
    same_over a b (range_with_len (first_next c) (length c.flops))
    (weaken (InRange n) (λ u. a u ≡ b u) at (range_with_len (first_next c) (length c.flops))
    (numbers_ranged n (first_next c) (length c.flops) (omega arith) (omega arith))) in
    let signatures : signature_of c items a ≡ signature_of c items b =
    same_over a b (item_vars (first_item c) items)
    (weaken (InRange n) (λ u. a u ≡ b u) at (item_vars (first_item c) items) (item_vars_ranged n (first_item c) items (omega arith) (omega arith))) in
    record {
      valuation = nets ∙ shows.valuation;
      fits = shows.fits;
      next = nexts ∙ shows.next;
      signature = signatures ∙ shows.signature;
    }

module _ (c : Circuit) (items : List (List ℕ)) (checked : IsChecked c) (p : IsClosed c items) (k : IsLinkable (encoding_of c items)) where
  abbrev e : Encoded
  e = encoding_of c items

  two_extend : (s x v u y w : List Bool) (joined : Bool) → Fits c s x v → Fits c u y w → (joined ≡ true → next_state c w ≡ s) →
      (a : ℕ → Bool) × All (Satisfies a) (linked_clauses e) × ShowsSteps c items s x v u y w joined a
  two_extend s x v u y w joined fv fw leads =
      let one = fitting_extends c items s x v p fv in
      let two = fitting_extends c items u y w p fw in
      let f : ℕ → Bool = one.0 in
      let g : ℕ → Bool = two.0 in
      let Q : List Bool → Type 0 = λ t. OnNets f t c.nets in
      let on : OnNets f v c.nets = subst Q one.2.valuation (on_own_nets c f) in
      let state : bits_on f e.states ≡ s = states_on c items checked p f v on ∙ fv.state in
      let next : bits_on g e.next ≡ next_state c w = next_on c items checked p g ∙ two.2.next in (
        both e k f g joined,
        All-from_recursion (Satisfies (both e k f g joined)) (linked_clauses e)
            (both_met e k f g joined (recursion_from_All (Satisfies f) e.clauses one.1) (recursion_from_All (Satisfies g) e.clauses two.1)
            (λ true_link. next ∙ (leads true_link ∙ sym state))),
        record {
          last = shows_same c items s x v (both e k f g joined) f (first_is e k f g joined) one.2;
          before = shows_same c items u y w (before_of c items (both e k f g joined)) g (second_is e k f g joined) two.2;
          link = link_is e k f g joined;
        },
      )

  two_join : (a : ℕ → Bool) → All (Satisfies a) (linked_clauses e) → link_value c items a ≡ true →
      next_state c (nets_of c (before_of c items a)) ≡ shown (nets_of c a) (state_nets c)
  two_join a met on =
      let met' : AllByRecursion (Satisfies a) (linked_clauses e) = recursion_from_All (Satisfies a) (linked_clauses e) met in
      let low : ℕ → Bool = before_of c items a in
      let shows = meeting_fits c items low p (All-from_recursion (Satisfies low) e.clauses (second_met e k a met')) in
      sym shows.next ∙ (sym (next_on c items checked p low)
      ∙ (second_leads e k a met' on ∙ states_on c items checked p a (nets_of c a) (on_own_nets c a)))

  pub frames_equal : FramesEqualGates c items
  frames_equal = record {
    extends = two_extend;
    fits =
        λ a met.
        let met' : AllByRecursion (Satisfies a) (linked_clauses e) = recursion_from_All (Satisfies a) (linked_clauses e) met in
        let low : ℕ → Bool = before_of c items a in
        record {
          last = meeting_fits c items a p (All-from_recursion (Satisfies a) e.clauses (first_met e k a met'));
          before = meeting_fits c items low p (All-from_recursion (Satisfies low) e.clauses (second_met e k a met'));
          link = refl;
        };
    joins = two_join;
  }
