use Rattle.std.proofs.Common.{◌*◌, ◌<◌, ℕ, List, map, ap, sym, subst, arith}
use Rattle.std.specs.List.{All}
use Rattle.bs_break.specs.Bank.{Banked, Hits}
use Rattle.bs_break.specs.Masks.{Agrees, IsUnion}
use Rattle.bs_break.proofs.BankLemmas.{no_hits, all_hits, others_within, some_states, first_state, width_of, first_within}
use Rattle.bs_break.proofs.bank.Bank.word_hits.Goals as goal

pub agreeing-mask-requires-clause-places : goal.agreeing-mask-requires-clause-places
agreeing-mask-requires-clause-places g c =
    let i = c.self.inside in
    let shown = g.S.HasState.shown in
    first_within i.width (map shown i.states.now) i.shared.items i.others.items c.as_slice-shared.result.now c.state.result.now c.self.invariant
    c.as_slice-shared.ensures.value
    (first_state shown i.states.now c.index-self-0.result c.state.result.now c.is_empty.result c.is_empty.ensures c.if-is_empty.false c.state.ensures)
    (some_states shown i.states.now c.is_empty.result c.is_empty.ensures c.if-is_empty.false)

pub returns-then-mask-eq0 : goal.returns-then-mask-eq0
returns-then-mask-eq0 g c =
    let i = c.self.inside in
    let shown = g.S.HasState.shown in
    let P : List ℕ → Type 0 = λ places. Agrees c.args.wide c.args.planes.now c.args.word places c.state.result.now c.args.live c.agreeing-mask.result in
    subst (λ (bank : Banked). Hits bank c.args.wide c.args.planes.now c.args.word c.args.live 0) c.self.view_is
    (no_hits i.width (map shown i.states.now) i.shared.items i.others.items c.args.wide c.args.planes.now c.args.word c.args.live c.agreeing-mask.result
    c.state.result.now c.self.invariant
    (first_state shown i.states.now c.index-self-0.result c.state.result.now c.is_empty.result c.is_empty.ensures c.if-is_empty.false c.state.ensures)
    (subst P c.as_slice-shared.ensures.value c.agreeing-mask.ensures) c.if-mask-eq0.true)

pub agreeing_with_one-requires-clause-room : goal.agreeing_with_one-requires-clause-room
agreeing_with_one-requires-clause-room g c =
    let i = c.self.inside in
    let shown = g.S.HasState.shown in
    λ k d lt.
    omega (
      arith,
      ap (λ n. n * c.args.wide) (width_of shown i.states.now i.width c.self.invariant.widths k d lt),
      ap (λ (b : Banked). b.width * c.args.wide) c.self.view_is,
      c.requires.planes,
    )

pub agreeing_with_one-requires-clause-places : goal.agreeing_with_one-requires-clause-places
agreeing_with_one-requires-clause-places g c =
    let i = c.self.inside in
    let shown = g.S.HasState.shown in
    let P : List ℕ → Type 0 = λ places. All (λ place. place < i.width) places in
    let within = subst P (sym c.as_slice.ensures.value)
    (others_within i.width (map shown i.states.now) i.shared.items i.others.items c.self.invariant) in
    λ k d lt n m small. omega (arith, within n m small, width_of shown i.states.now i.width c.self.invariant.widths k d lt)

pub returns : goal.returns
returns g c =
    let i = c.self.inside in
    let shown = g.S.HasState.shown in
    let P : List ℕ → Type 0 = λ places. Agrees c.args.wide c.args.planes.now c.args.word places c.state.result.now c.args.live c.agreeing-mask.result in
    let Q : List ℕ → Type 0 = λ places.
    IsUnion c.args.wide c.args.planes.now c.args.word places (map shown i.states.now) c.agreeing-mask.result c.agreeing_with_one.result in
    subst (λ (bank : Banked). Hits bank c.args.wide c.args.planes.now c.args.word c.args.live c.agreeing_with_one.result) c.self.view_is
    (all_hits i.width (map shown i.states.now) i.shared.items i.others.items c.args.wide c.args.planes.now c.args.word c.args.live c.agreeing-mask.result
    c.agreeing_with_one.result c.state.result.now c.self.invariant
    (first_state shown i.states.now c.index-self-0.result c.state.result.now c.is_empty.result c.is_empty.ensures c.if-is_empty.false c.state.ensures)
    (subst P c.as_slice-shared.ensures.value c.agreeing-mask.ensures) (subst Q c.as_slice.ensures.value c.agreeing_with_one.ensures))
