use Rattle.std.proofs.Common.{◌≡◌, map, refl, sym, subst, ◌∙◌, inl, inr, Some}
use Rattle.std.specs.Prelude.{slice_get}
use Rattle.std.proofs.lemmas.Bool.{false≢true}
use Rattle.bs_clause.specs.Literal.{Literal}
use Rattle.bs_arena.specs.Arena.{literal_of}
use Rattle.bs_watch.specs.Choice.{IsNoLower}
use Rattle.bs_watch.proofs.Codes.{read_code, range_at}
use Rattle.bs_watch.proofs.Gets.{same_some}
use Rattle.bs_watch.proofs.Choices.{higher_of, no_lower_same}
use Rattle.bs_watch.proofs.choice.higher.Goals as goal

pub is_higher-requires-clause-first : goal.is_higher-requires-clause-first
is_higher-requires-clause-first c =
    let there : slice_get (map literal_of c.args.codes.now) c.args.b ≡ Some c.from_code.result =
    read_code c.args.codes.now c.args.b c.from_code.result c.requires.second c.from_code.ensures in
    (range_at c.args.trail.now.vars (map literal_of c.args.codes.now) c.args.b c.from_code.result c.requires.range there).1

pub is_higher-requires-clause-second : goal.is_higher-requires-clause-second
is_higher-requires-clause-second c =
    let there : slice_get (map literal_of c.args.codes.now) c.args.a ≡ Some c.from_code-2.result =
    read_code c.args.codes.now c.args.a c.from_code-2.result c.requires.first c.from_code-2.ensures in
    (range_at c.args.trail.now.vars (map literal_of c.args.codes.now) c.args.a c.from_code-2.result c.requires.range there).1

pub returns-then-is_higher : goal.returns-then-is_higher
returns-then-is_higher c =
    let places = c.args.trail.now.places in
    let at_b : slice_get (map literal_of c.args.codes.now) c.args.b ≡ Some c.from_code.result =
    read_code c.args.codes.now c.args.b c.from_code.result c.requires.second c.from_code.ensures in
    let at_a : slice_get (map literal_of c.args.codes.now) c.args.a ≡ Some c.from_code-2.result =
    read_code c.args.codes.now c.args.a c.from_code-2.result c.requires.first c.from_code-2.ensures in
    higher_of c.args.trail.now.places (map literal_of c.args.codes.now) c.args.a c.args.b c.args.b c.from_code-2.result c.from_code.result
    c.requires.apart (inr refl) at_a at_b (λ z at_z.
    let same : z ≡ c.from_code.result = same_some z c.from_code.result (sym at_z ∙ at_b) in (
      subst (λ (x : Literal). IsNoLower c.args.trail.now.places x c.from_code-2.result) (sym same) (c.is_higher.ensures.higher c.if-is_higher.true),
      no_lower_same c.args.trail.now.places z c.from_code.result c.requires.apart same,
    ))

pub returns-else-is_higher : goal.returns-else-is_higher
returns-else-is_higher c =
    let at_b : slice_get (map literal_of c.args.codes.now) c.args.b ≡ Some c.from_code.result =
    read_code c.args.codes.now c.args.b c.from_code.result c.requires.second c.from_code.ensures in
    let at_a : slice_get (map literal_of c.args.codes.now) c.args.a ≡ Some c.from_code-2.result =
    read_code c.args.codes.now c.args.a c.from_code-2.result c.requires.first c.from_code-2.ensures in
    higher_of c.args.trail.now.places (map literal_of c.args.codes.now) c.args.a c.args.b c.args.a c.from_code-2.result c.from_code.result
    c.requires.apart (inl refl) at_a at_b (λ z at_z.
    let same : z ≡ c.from_code-2.result = same_some z c.from_code-2.result (sym at_z ∙ at_a) in (
      no_lower_same c.args.trail.now.places z c.from_code-2.result c.requires.apart same,
      subst (λ (x : Literal). IsNoLower c.args.trail.now.places x c.from_code.result) (sym same)
          (c.is_higher.ensures.not_higher (λ yes. false≢true (sym c.if-is_higher.false ∙ yes))),
    ))
