use Rattle.std.proofs.Common.{ℕ, List, Option, length, map, ◌<◌, ◌≡◌, sym, subst}
use Rattle.std.specs.List.{All}
use Rattle.std.specs.Result.{IfOk}
use Rattle.std.specs.Option.{option_map}
use Rattle.std.proofs.lemmas.Result.{err_from_is_err_and}
use Rattle.bs_outside.specs.declared.file.File.TheVariants as files
use Rattle.bs_outside.proofs.TellingLemmas.{diagnosed_fetch_stop, diagnosed_reads}
use Rattle.bs_vcd.specs.declared.cycles.MarkedStates.{MarkedStates}
use Rattle.bs_inspect_values.specs.Dumped.{states_read}
use Rattle.bs_inspect_values.proofs.WalkLemmas.{settled_if}
use Rattle.bs_inspect_values.proofs.dumping.load_states.Goals as goal

pub returns-in_err-bytes-clause-walks : goal.returns-in_err-bytes-clause-walks
returns-in_err-bytes-clause-walks g c =
    let p = err_from_is_err_and c.from_residual.result c.from_residual.ensures.1 in
    rw (p.1, p.2) (diagnosed_fetch_stop _ c.in_err-bytes.ensures)

pub returns-clause-walks : goal.returns-clause-walks
returns-clause-walks g c =
    let keys : List (List ℕ) = map (λ k. k.now) c.args.keys.now in
    let names : List (List ℕ) = map (λ n. n.now) c.args.names.now in
    let scope : Option (List ℕ) = option_map (λ s. s.now) c.args.taking.scope in
    let clock : List ℕ = c.args.taking.clock.now in
    diagnosed_reads (states_read c.args.taking.vcd.now keys names scope clock c.args.taking.at c.args.taking.back c.args.taking.partial) _ _
    c.deref.ensures.value c.settle_diagnostic.ensures c.in_ok-bytes.ensures c.states_or_diagnostic.ensures.words c.states_or_diagnostic.ensures.note

pub returns-clause-some : goal.returns-clause-some
returns-clause-some g c =
    subst (λ r. IfOk r (λ taken. 0 < length taken.states)) (sym c.settle_diagnostic.ensures)
    (settled_if (λ (taken : MarkedStates). 0 < length taken.states) files.Vcd c.states_or_diagnostic.result c.states_or_diagnostic.ensures.some)

pub returns-clause-wide : goal.returns-clause-wide
returns-clause-wide g c =
    subst (λ r. IfOk r (λ taken. All (λ s. length s ≡ length c.args.names.now) taken.states)) (sym c.settle_diagnostic.ensures)
    (settled_if (λ (taken : MarkedStates). All (λ s. length s ≡ length c.args.names.now) taken.states) files.Vcd c.states_or_diagnostic.result
    c.states_or_diagnostic.ensures.wide)
