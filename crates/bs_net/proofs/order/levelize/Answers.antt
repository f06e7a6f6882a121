use Rattle.std.proofs.Common.{◌≡◌, ◌∙◌, sym, ap, ◌<◌, subst, length, true, List, ℕ, Option, None, replicate, IfNone, IfSome, [], ◌++◌, take, drop}
use Rattle.std.specs.List.{All}
use Rattle.std.proofs.lemmas.List.{length-replicate}
use Rattle.bs_net.specs.Loops.{is_in, up_to}
use Rattle.bs_net.specs.Order.{IsOrder}
use Rattle.bs_net.specs.Search.{State, filled, IsSearch, IsDriverTable, ClosesLoop}
use Rattle.bs_net.proofs.LevelLemmas.{search_orders}
use Rattle.bs_net.proofs.TableLemmas.{table_is, start_searches, length-filled, loop_found}
use Rattle.bs_net.proofs.order.levelize.Goals as goal

pub run-requires-clause-search : goal.run-requires-clause-search
run-requires-clause-search c =
    let P : State → Type 0 = λ s. IsSearch c.args.gates.now c.as_slice.result.now s in
    subst P (sym c.in_ok-search.ensures) (start_searches c.args.gates.now c.as_slice.result.now)

pub run-requires-clause-drivers : goal.run-requires-clause-drivers
run-requires-clause-drivers c =
    let same : c.as_slice.result.now ≡ filled (replicate c.args.nets None) 0 c.args.gates.now =
    c.as_slice.ensures.value ∙ (c.fill_table.ensures ∙ ap (λ (t : List (Option ℕ)). filled t 0 c.args.gates.now) c.in_ok-table.ensures) in
    let P : List (Option ℕ) → Type 0 = λ t. IsDriverTable c.args.gates.now t in
    subst P (sym same) (table_is c.args.gates.now c.args.nets c.requires.outs c.requires.single)

pub run-requires-clause-covers : goal.run-requires-clause-covers
run-requires-clause-covers c =
    let same : c.as_slice.result.now ≡ filled (replicate c.args.nets None) 0 c.args.gates.now =
    c.as_slice.ensures.value ∙ (c.fill_table.ensures ∙ ap (λ (t : List (Option ℕ)). filled t 0 c.args.gates.now) c.in_ok-table.ensures) in
    let none : Option ℕ = None in
    let size : length c.as_slice.result.now ≡ c.args.nets = ap (λ (t : List (Option ℕ)). length t) same ∙
    (length-filled (replicate c.args.nets none) 0 c.args.gates.now ∙ length-replicate c.args.nets none) in
    let P : ℕ → Type 0 = λ m. All (λ g. All (λ n. n.0 < m) g.ins) c.args.gates.now in
    subst P (sym size) c.requires.ins

pub returns-in-None : goal.returns-in-None
returns-in-None c =
    let same : c.as_slice.result.now ≡ filled (replicate c.args.nets None) 0 c.args.gates.now =
    c.as_slice.ensures.value ∙ (c.fill_table.ensures ∙ ap (λ (t : List (Option ℕ)). filled t 0 c.args.gates.now) c.in_ok-table.ensures) in
    let T : List (Option ℕ) → Type 0 = λ t. IsDriverTable c.args.gates.now t in
    let drivers : IsDriverTable c.args.gates.now c.as_slice.result.now =
    subst T (sym same) (table_is c.args.gates.now c.args.nets c.requires.outs c.requires.single) in
    let D : Option ℕ → Type 0 = λ o. IfNone o (c.run.new.self.path ≡ []) in
    let A : Option ℕ → Type 0 = λ o. IfNone o ((g : ℕ) → g < length c.args.gates.now → is_in g c.run.new.self.listed ≡ true) in
    let none : c.run.new.self.path ≡ [] = subst D c.in-None.is c.in_ok-run.ensures.done in
    let all : (g : ℕ) → g < length c.args.gates.now → is_in g c.run.new.self.listed ≡ true = subst A c.in-None.is c.in_ok-run.ensures.all in
    let order = search_orders c.args.gates.now c.as_slice.result.now c.run.new.self c.in_ok-run.ensures.search drivers none all in
    let O : List ℕ → Type 0 = λ l. IsOrder c.args.gates.now l in
    subst O (sym (c.in_ok-list_of-in-None.ensures ∙ c.listed.ensures)) order

pub returns : goal.returns
returns c =
    let C : Option ℕ → Type 0 = λ o. IfSome o (λ h. ClosesLoop c.args.gates.now c.run.new.self h) in
    let closes : ClosesLoop c.args.gates.now c.run.new.self c.in-Some.h = subst C c.in-Some.is c.in_ok-run.ensures.closes in
    let part : c.slice.result.now ≡ up_to c.in-Some.h c.run.new.self.path =
    c.slice.ensures ∙ (c.in_ok-part-in-Some.ensures ∙ ap (up_to c.in-Some.h) c.path.ensures) in
    let turned = c.in_ok-from_lowest-in-Some.ensures.rotated in
    let rotated : c.in_ok-from_lowest-in-Some.field-0 ≡ drop turned.0 (up_to c.in-Some.h c.run.new.self.path) ++
    take turned.0 (up_to c.in-Some.h c.run.new.self.path) =
    turned.1 ∙ ap (λ (l : List ℕ). drop turned.0 l ++ take turned.0 l) part in
    loop_found c.args.gates.now c.as_slice.result.now c.run.new.self c.in-Some.h turned.0 c.in_ok-from_lowest-in-Some.field-0
    c.in_ok-run.ensures.search closes rotated c.in_ok-from_lowest-in-Some.ensures.least_first
