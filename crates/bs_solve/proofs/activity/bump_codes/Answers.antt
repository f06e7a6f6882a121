use Rattle.std.proofs.Common.{◌≡◌, map, ap, arith, Some}
use Rattle.std.specs.Prelude.{slice_get}
use Rattle.std.proofs.lemmas.List.Elements.{All-contains}
use Rattle.bs_clause.specs.Range.{IsWithin}
use Rattle.bs_arena.specs.Arena.{literal_of}
use Rattle.bs_watch.specs.Watch.{WatchState}
use Rattle.bs_watch.proofs.Codes.{read_code}
use Rattle.bs_watch.proofs.Gets.{Contains_from_get}
use Rattle.bs_solve.proofs.activity.bump_codes.Goals as goal

pub bump-requires : goal.bump-requires
bump-requires c =
    let clause = map literal_of c.args.codes.now in
    let m = c.from_code.result in
    let vars = c.args.watch.now.trail.vars in
    let there : slice_get clause c.places.place ≡ Some m = read_code c.args.codes.now c.places.place m c.places-test.true c.from_code.ensures in
    let within : IsWithin vars m = All-contains (IsWithin vars) clause m c.requires.range (Contains_from_get clause c.places.place m there) in
    let same : c.places.watch.trail.vars ≡ vars = ap (λ (w : WatchState). w.trail.vars) c.places.invariant in
    let high = within.1 in
    omega (arith, high, same, c.var.ensures.variable)
