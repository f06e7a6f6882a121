use Rattle.std.proofs.Common.{◌≡◌, ◌+◌, List, false, length, ap, ◌∙◌, sym, subst, arith}
use Rattle.std.specs.Prelude.{vec_capacity}
use Rattle.bs_clause.specs.Literal.{Literal}
use Rattle.bs_clause.specs.declared.literal.Var.{Var}
use Rattle.bs_arena.specs.Open.{HoldsOpen, AreAllAssigned, is_assigned}
use Rattle.bs_watch.specs.Trail.{AreAssignedBelow, IsOpenVariable}
use Rattle.bs_watch.specs.Places.{TrailState, literals_of}
use Rattle.bs_watch.proofs.TableLemmas.{literals_in, filled_trail, open_here, all_here, if_some_more, if_none_more}
use Rattle.bs_watch.proofs.trail.Trail.first_open.Goals as goal

pub invariant_of-self : goal.invariant_of-self
invariant_of-self c =
    filled_trail c.self.inside.vars c.self.inside.values.items c.self.inside.causes.items c.self.inside.literals.items c.self.inside.order
    c.first_in-first.new.order c.self.inside.is_ordered (vec_capacity c.self.inside.literals) c.self.invariant c.first_in-first.ensures.width
    (subst (HoldsOpen c.first_in-first.new.order) c.as_slice.ensures.value c.first_in-first.ensures.holds)

pub returns-clause-some : goal.returns-clause-some
returns-clause-some c =
    let values = c.self.inside.values.items in
    let ls : List Literal = c.self.inside.literals.items in
    let vars = c.self.inside.vars in
    let same : ls ≡ literals_of c.args.self.now.places =
    sym (literals_in c.self.inside.causes.items ls) ∙ ap (λ (s : TrailState). literals_of s.places) c.self.view_is in
    if_some_more _ _ c.first_in-first.result (λ (v : Var) is.
    subst (λ n. IsOpenVariable (literals_of c.args.self.now.places) n v.0) (ap (λ (s : TrailState). s.vars) c.self.view_is)
    (subst (λ xs. IsOpenVariable xs vars v.0) same (record {
      low = is.0;
      in_range = let within = is.1 in omega (arith, within, c.self.invariant.in_order);
      here = λ l at.
          open_here values ls v.0 c.self.invariant.values_are (subst (λ vs. is_assigned vs v.0 ≡ false) c.as_slice.ensures.value is.2) l at;
    }))) c.first_in-first.ensures.some

pub returns-clause-none : goal.returns-clause-none
returns-clause-none c =
    let values = c.self.inside.values.items in
    let ls : List Literal = c.self.inside.literals.items in
    let same : ls ≡ literals_of c.args.self.now.places =
    sym (literals_in c.self.inside.causes.items ls) ∙ ap (λ (s : TrailState). literals_of s.places) c.self.view_is in
    if_none_more _ _ c.first_in-first.result (λ all.
    subst (λ n. AreAssignedBelow (literals_of c.args.self.now.places) (n + 1)) (ap (λ (s : TrailState). s.vars) c.self.view_is)
    (subst (λ xs. AreAssignedBelow xs (c.self.inside.vars + 1)) same
    (subst (AreAssignedBelow ls) c.self.invariant.in_order
    (all_here values ls (length c.self.inside.order) c.self.invariant.values_are
    (subst (AreAllAssigned (length c.self.inside.order)) c.as_slice.ensures.value all))))) c.first_in-first.ensures.none
