use Rattle.std.proofs.Common.{◌≡◌, ◌<◌, ◌+◌, ◌∙◌, Bool, List, ◌++◌, None, ap, sym, subst, length, replicate}
use Rattle.std.specs.Prelude.{sum_by}
use Rattle.std.specs.List.{flat_map, range_with_len}
use Rattle.std.proofs.lemmas.List.Elements.{recursion_from_All}
use Rattle.bs_clause.specs.Literal.{Clause}
use Rattle.bs_net.specs.declared.net.Gate.{Gate}
use Rattle.bs_net.specs.declared.net.Flop.{Flop}
use Rattle.bs_net.specs.declared.net.Const.{Const}
use Rattle.bs_net.specs.Netlist.{circuit}
use Rattle.bs_encode.specs.Transition.{first_helper, first_next, gate_helpers, gates_clauses, unit_clauses, next_clauses}
use Rattle.bs_encode.specs.Units.{AreZeros, with_constants}
use Rattle.bs_encode.proofs.UnitLemmas.{parts_joined, units_in_tables, constants_apart}
use Rattle.bs_encode.proofs.encoding.encode_cycle.Goals as goal

pub returns-clause-clauses : goal.returns-clause-clauses
returns-clause-clauses c =
    let gates : c.slice-2.result.now ≡ (circuit c.args.net.now).gates = c.slice-2.ensures ∙ ap (λ r. r.gates) c.raw-raw.ensures.parts in
    let flops : c.slice-3.result.now ≡ (circuit c.args.net.now).flops = c.slice-3.ensures ∙ ap (λ r. r.flops) c.raw-raw.ensures.parts in
    let consts : c.slice.result.now ≡ (circuit c.args.net.now).constants = c.slice.ensures ∙ ap (λ r. r.consts) c.raw-raw.ensures.parts in
    let nets : c.len.result ≡ (circuit c.args.net.now).nets = c.len.ensures ∙ ap (λ r. length r.names) c.raw-raw.ensures.parts in
    let nets' : c.len-2.result ≡ (circuit c.args.net.now).nets = c.len-2.ensures ∙ ap (λ r. length r.names) c.raw-raw.ensures.parts in
    let helper : c.len-2.result + 1 ≡ first_helper (circuit c.args.net.now) = ap (λ n. n + 1) nets' in
    let next : c.in_ok-next.next ≡ first_next (circuit c.args.net.now) =
    c.in_ok-next.ensures.after ∙ (ap (λ n. n + sum_by gate_helpers c.slice-2.result.now) helper
    ∙ ap (λ (gs : List Gate). first_helper (circuit c.args.net.now) + sum_by gate_helpers gs) gates) in
    let Z : List Bool → Type 0 = λ t. AreZeros (circuit c.args.net.now) t in
    let zeros : AreZeros (circuit c.args.net.now) c.as_slice.result.now = subst Z (sym c.as_slice.ensures.value) c.in_ok-zero.ensures in
    let values : c.as_slice-2.result.now ≡ with_constants (replicate (circuit c.args.net.now).nets None) (circuit c.args.net.now).constants =
    c.as_slice-2.ensures.value
    ∙ (c.in_ok-values.ensures.value
    ∙ (ap (λ n. with_constants (replicate n None) c.slice.result.now) nets
    ∙ ap (λ (ks : List Const). with_constants (replicate (circuit c.args.net.now).nets None) ks) consts)) in
    let placed = recursion_from_All (λ (k : Const). k.net.0 < (circuit c.args.net.now).nets)
    (circuit c.args.net.now).constants c.raw-raw.ensures.placed.consts.1 in
    let units = units_in_tables (circuit c.args.net.now) c.as_slice.result.now c.as_slice-2.result.now zeros values
    (constants_apart (circuit c.args.net.now) c.order-order.ensures.checked.single_driver) placed in
    parts_joined
    (gates_clauses (first_helper (circuit c.args.net.now)) (circuit c.args.net.now).gates)
    (flat_map (unit_clauses (circuit c.args.net.now)) (range_with_len 0 (circuit c.args.net.now).nets))
    (next_clauses (first_next (circuit c.args.net.now)) (circuit c.args.net.now).flops)
    _ _ _
    (c.in_ok-next.ensures.clauses
    ∙ (ap (λ (l : List Clause). l ++ gates_clauses (c.len-2.result + 1) c.slice-2.result.now) c.new-into.ensures
    ∙ (ap (λ n. gates_clauses n c.slice-2.result.now) helper ∙ ap (λ (gs : List Gate). gates_clauses (first_helper (circuit c.args.net.now)) gs) gates)))
    (c.in_ok-add_units.ensures ∙ ap (λ (l : List Clause). c.add_gates.new.into ++ l) units)
    (c.in_ok-add_next.ensures
    ∙ ap (λ (l : List Clause). c.add_units.new.into ++ l)
    (ap (λ n. next_clauses n c.slice-3.result.now) next ∙ ap (λ (fs : List Flop). next_clauses (first_next (circuit c.args.net.now)) fs) flops))
