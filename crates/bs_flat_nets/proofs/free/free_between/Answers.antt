use Rattle.std.proofs.Common.{◌≡◌, ◌∙◌, ◌+◌, ◌-◌, ◌++◌, ap, sym, subst, take, List, ℕ, [], refl, get_or}
use Rattle.std.specs.Prelude.{filter}
use Rattle.std.specs.List.{range_with_len}
use Rattle.std.proofs.lemmas.List.{take_more, take_all}
use Rattle.bs_flat_nets.specs.declared.blocks.JoinedNets.{JoinedNets}
use Rattle.bs_flat_nets.proofs.GapLemmas.{IsLeft, is_left, left_none, left_more, left_all}
use Rattle.bs_flat_nets.proofs.free.free_between.Goals as goal

pub runs-init : goal.runs-init
runs-init c = subst (λ (l : List ℕ). IsLeft [] 0 l) (sym c.new-nets.ensures) (left_none 0 refl)

pub runs-preserved : goal.runs-preserved
runs-preserved c =
    let rs = c.args.runs.now in
    let i = c.runs.run-index in
    let none : JoinedNets = record { inner = 0; outer = 0; width = 0 } in
    let r = get_or rs i none in
    let more = left_more (take i rs) c.runs.next c.runs.nets r c.if-first-next.false c.runs.invariant in
    subst (λ (l : List ℕ). IsLeft (take (i + 1) rs) (r.inner + r.width) l) (sym c.in_ok-push_range.ensures)
    (subst (λ (l : List JoinedNets). IsLeft l (r.inner + r.width) (c.runs.nets ++ range_with_len c.runs.next (r.inner - c.runs.next)))
    (sym (take_more rs i none c.runs-test.true)) more)

pub returns : goal.returns
returns c =
    let rs = c.args.runs.now in
    let all : take c.runs.run-index rs ≡ rs = take_all c.runs.run-index rs c.runs-test.false in
    c.in_ok-push_range-2.ensures
    ∙ (left_all (take c.runs.run-index rs) c.runs.next c.args.count c.runs.nets c.if-count-next.false c.runs.invariant
    ∙ ap (λ (l : List JoinedNets). filter (is_left l) (range_with_len 0 c.args.count)) all)
