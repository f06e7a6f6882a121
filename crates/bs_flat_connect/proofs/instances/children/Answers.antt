use Rattle.std.proofs.Common.{◌++◌, ◌∷◌, [], ◌+◌, ◌<◌, List, Result, Ok, Err, ap, sym, subst, ◌∙◌, take, length, get_or, arith}
use Rattle.std.proofs.lemmas.List.{take_more, map-append}
use Rattle.bs_flat_nets.specs.Blocks.{numbers_of}
use Rattle.bs_flat_nets.specs.declared.blocks.Child.{Child}
use Rattle.bs_flat_connect.specs.declared.ports.Ports.{Ports}
use Rattle.bs_flat_connect.specs.declared.fault.Fault.{Fault}
use Rattle.bs_flat_connect.specs.Instances.{TellsChild, TellsChildren}
use Rattle.bs_flat_connect.proofs.LoopLemmas.{fails}
use Rattle.bs_flat_connect.proofs.ChildLemmas.{ChildrenSoFar, children_none, children_more, children_stop, children_all}
use Rattle.bs_flat_connect.proofs.instances.children.Goals as goal

pub written-init : goal.written-init
written-init c =
    record {
      tells =
          subst (λ (l : List Child). ChildrenSoFar c.args.table.now c.args.wiring.now c.args.ports.now c.args.below.now c.args.written.now 0 l)
          (sym c.new-all.ensures) (children_none c.args.table.now c.args.wiring.now c.args.ports.now c.args.below.now c.args.written.now);
      numbers = ap numbers_of c.new-all.ensures;
    }

pub returns-in_err-child-clause-tells : goal.returns-in_err-child-clause-tells
returns-in_err-child-clause-tells c =
    let n = get_or c.args.below.now c.written.i 0 in
    let f = c.in_err-child.field-0.0 in
    let here : TellsChild c.args.table.now c.args.wiring.now (get_or c.args.ports.now n c.index-ports-of.result) n c.index-written-i.result (Err f) =
    subst (λ (p : Ports). TellsChild c.args.table.now c.args.wiring.now p n c.index-written-i.result (Err f)) c.index-ports-of.is
    c.in_err-child.ensures.tells in
    subst (λ (r : Result (List Child) Fault). TellsChildren c.args.table.now c.args.wiring.now c.args.ports.now c.args.below.now c.args.written.now r)
    (sym (fails c.from_residual.result f c.from_residual.ensures))
    (children_stop c.args.table.now c.args.wiring.now c.args.ports.now c.args.below.now c.args.written.now c.written.i c.index-written-i.result
    c.index-written-i.result c.index-ports-of.result c.written.all f c.written-test.true c.index-written-i.is
    (c.requires.there c.written.i 0 (omega (arith, c.requires.each, c.written-test.true))) here c.written.invariant.tells)

pub written-preserved : goal.written-preserved
written-preserved c =
    let n = get_or c.args.below.now c.written.i 0 in
    let child = c.in_ok-child.child in
    let within : c.written.i < length c.args.below.now = omega (arith, c.requires.each, c.written-test.true) in
    let here : TellsChild c.args.table.now c.args.wiring.now (get_or c.args.ports.now n c.index-ports-of.result) n c.index-written-i.result (Ok child) =
    subst (λ (p : Ports). TellsChild c.args.table.now c.args.wiring.now p n c.index-written-i.result (Ok child)) c.index-ports-of.is
    c.in_ok-child.ensures.tells in
    record {
      tells =
          subst (λ (l : List Child). ChildrenSoFar c.args.table.now c.args.wiring.now c.args.ports.now c.args.below.now c.args.written.now (c.written.i + 1) l)
          (sym c.in_ok-push.ensures.ok)
          (children_more c.args.table.now c.args.wiring.now c.args.ports.now c.args.below.now c.args.written.now c.written.i c.index-written-i.result
          c.index-written-i.result c.index-ports-of.result c.written.all child c.written-test.true c.index-written-i.is
          (c.requires.there c.written.i 0 within) here c.written.invariant.tells);
      numbers =
          ap numbers_of c.in_ok-push.ensures.ok
          ∙ (map-append (λ (k : Child). k.of) c.written.all (child ∷ [])
          ∙ (ap (λ l. l ++ child.of ∷ []) c.written.invariant.numbers
          ∙ (ap (λ k. take c.written.i c.args.below.now ++ k ∷ []) c.in_ok-child.ensures.of ∙ sym (take_more c.args.below.now c.written.i 0 within))));
    }

pub returns-clause-tells : goal.returns-clause-tells
returns-clause-tells c =
    children_all c.args.table.now c.args.wiring.now c.args.ports.now c.args.below.now c.args.written.now c.written.i c.written.all c.written-test.false
    c.written.invariant.tells
