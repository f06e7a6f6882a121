use Rattle.std.proofs.Common.{ℕ, List, Option, map}
use Rattle.std.specs.Option.{option_map}
use Rattle.std.proofs.lemmas.Result.{err_from_is_err_and}
use Rattle.bs_outside.proofs.TellingLemmas.{diagnosed_fetch_stop, diagnosed_reads}
use Rattle.bs_inspect_values.specs.Simulated.{lines_read}
use Rattle.bs_inspect_values.proofs.simulated.load_lines.Goals as goal

pub returns-in_err-bytes : goal.returns-in_err-bytes
returns-in_err-bytes g c =
    let p = err_from_is_err_and c.from_residual.result c.from_residual.ensures.1 in
    rw (p.1, p.2) (diagnosed_fetch_stop _ c.in_err-bytes.ensures)

pub returns : goal.returns
returns g c =
    let keys : List (List ℕ) = map (λ k. k.now) c.args.keys.now in
    let names : List (List ℕ) = map (λ n. n.now) c.args.names.now in
    let scope : Option (List ℕ) = option_map (λ s. s.now) c.args.at.scope in
    let clock : List ℕ = c.args.at.clock.now in
    diagnosed_reads (lines_read c.args.vcd.now keys names scope clock) _ _
    c.deref.ensures.value c.settle_diagnostic.ensures c.in_ok-bytes.ensures c.lines_or_diagnostic.ensures.words c.lines_or_diagnostic.ensures.note
