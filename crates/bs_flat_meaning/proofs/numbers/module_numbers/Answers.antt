use Rattle.std.proofs.Common.{ℕ, ◌<◌, List, Option, length, subst, sym}
use Rattle.std.specs.List.{All}
use Rattle.std.proofs.lemmas.List.Elements.{All-from_recursion}
use Rattle.bs_flat_meaning.specs.Places.{ArePlaces}
use Rattle.bs_flat_meaning.proofs.ModuleNumberLemmas.{found_each}
use Rattle.bs_flat_meaning.proofs.numbers.module_numbers.Goals as goal

pub returns-clause-numbers : goal.returns-clause-numbers
returns-clause-numbers c =
    (found_each c.args.ids.now c.as_slice.result.now c.in_ok-below.below c.args.written.now
    (subst (λ (t : List (Option ℕ)). ArePlaces c.args.ids.now t) (sym c.as_slice.ensures.value) c.in_ok-table.ensures) c.in_ok-below.ensures).0

pub returns-clause-there : goal.returns-clause-there
returns-clause-there c =
    All-from_recursion (λ ns. All (λ n. n < length c.args.ids.now) ns) c.in_ok-below.below
    (found_each c.args.ids.now c.as_slice.result.now c.in_ok-below.below c.args.written.now
    (subst (λ (t : List (Option ℕ)). ArePlaces c.args.ids.now t) (sym c.as_slice.ensures.value) c.in_ok-table.ensures) c.in_ok-below.ensures).1
