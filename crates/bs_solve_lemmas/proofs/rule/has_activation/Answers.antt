use Rattle.std.proofs.Common.{◌≡◌, ◌+◌, ◌&&◌, false, suc, map, take, get_or, sym, subst, ◌∙◌, arith, ltb, leb}
use Rattle.std.specs.List.{list_any}
use Rattle.bs_clause.specs.Literal.{Literal}
use Rattle.bs_arena.specs.Arena.{literal_of}
use Rattle.bs_solve_lemmas.proofs.Rules.{any_found, any_push, code_there}
use Rattle.bs_solve_lemmas.proofs.rule.has_activation.Goals as goal

pub returns-then-is_activation : goal.returns-then-is_activation
returns-then-is_activation c =
    sym (any_found (λ (m : Literal). ltb c.args.activations.own m.variable && leb m.variable (c.args.activations.own + c.args.activations.steps))
    (map literal_of c.args.codes.now) c.loop-place.place (literal_of (get_or c.args.codes.now c.loop-place.place 0))
    (code_there c.args.codes.now c.loop-place.place c.loop-place-test.true) (sym c.is_activation.ensures ∙ c.if-is_activation.true))

pub loop-place-preserved : goal.loop-place-preserved
loop-place-preserved c =
    subst (λ n. list_any (λ (m : Literal). ltb c.args.activations.own m.variable && leb m.variable (c.args.activations.own + c.args.activations.steps))
    (take n (map literal_of c.args.codes.now)) ≡ false) (let e : suc c.loop-place.place ≡ c.loop-place.place + 1 = omega arith in e)
    (any_push (λ (m : Literal). ltb c.args.activations.own m.variable && leb m.variable (c.args.activations.own + c.args.activations.steps))
    (map literal_of c.args.codes.now) c.loop-place.place (literal_of (get_or c.args.codes.now c.loop-place.place 0))
    (code_there c.args.codes.now c.loop-place.place c.loop-place-test.true) (sym c.is_activation.ensures ∙ c.if-is_activation.false) c.loop-place.invariant)
