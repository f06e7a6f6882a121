use Rattle.std.proofs.Common.{ℕ, ◌<◌, List, subst}
use Rattle.std.specs.List.{All}
use Rattle.bs_net.specs.Netlist.{circuit}
use Rattle.bs_encode.proofs.LawLemmas.{equal_gates, parts_placed}
use Rattle.bs_encode.proofs.law.clauses_equal_gates.Goals as goal

pub returns : goal.returns
returns c =
    let P : ℕ → Type 0 = λ width. All (λ (item : List ℕ). All (λ i. i < width) item) c.args.choice.now.items in
    equal_gates (circuit c.args.net.now) c.args.choice.now.items
    (parts_placed c.args.net.now.raw c.raw-raw.ensures.placed c.args.choice.now.items (subst P c.requires c.items-items.ensures.sound.in_range))
