use Rattle.std.proofs.Common.{map, arith, List, ℕ}
use Rattle.std.specs.Borrow.{Bor}
use Rattle.std.proofs.lemmas.List.{length-map}
use Rattle.bs_inspect_report.proofs.SignalLemmas.{few_of}
use Rattle.bs_inspect_report.proofs.trace.named_signals.Goals as goal

pub returns-clause-few : goal.returns-clause-few
returns-clause-few c =
    few_of (map (λ s. s.now) c.args.only.now) (map (λ s. s.now) c.args.keys.now) c.in_ok-signals.signals.items
    (omega (arith, length-map c.args.keys.now (λ (s : Bor (List ℕ)). s.now), c.requires)) c.in_ok-signals.ensures
