use Rattle.std.proofs.Common.{ℕ, List, map, arith}
use Rattle.std.specs.Borrow.{Bor}
use Rattle.std.proofs.lemmas.List.{length-map}
use Rattle.bs_inspect_near.proofs.PlaceLemmas.{few_of}
use Rattle.bs_inspect_near.proofs.novel.all_signals.Goals as goal

pub returns-clause-narrow : goal.returns-clause-narrow
returns-clause-narrow c =
    few_of _ (map (λ s. s.now) c.args.keys.now) c.in_ok-signals.signals.items
    (omega (arith, c.requires, length-map c.args.keys.now (λ (s : Bor (List ℕ)). s.now))) c.in_ok-signals.ensures
