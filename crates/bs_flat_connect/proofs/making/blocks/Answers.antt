use Rattle.std.proofs.Common.{◌++◌, ◌∷◌, [], ◌+◌, ◌<◌, List, Result, Ok, Err, ap, sym, subst, ◌∙◌, take, length, get_or, arith}
use Rattle.std.specs.List.{All}
use Rattle.std.proofs.lemmas.List.{take_more, map-append}
use Rattle.std.proofs.lemmas.List.Elements.{All-nil, All-push}
use Rattle.bs_flat_nets.specs.Blocks.{numbers_of}
use Rattle.bs_flat_nets.specs.Order.{below_blocks}
use Rattle.bs_flat_nets.specs.declared.blocks.FlatModule.{FlatModule}
use Rattle.bs_flat_connect.specs.declared.fault.Fault.{Fault}
use Rattle.bs_flat_connect.specs.Connecting.{TellsBlock, TellsBlocks}
use Rattle.bs_flat_connect.proofs.LoopLemmas.{fails}
use Rattle.bs_flat_connect.proofs.MakeLemmas.{BlocksSoFar, Takes, blocks_none, blocks_more, blocks_stop, blocks_all, lengths_at, counted, told_here}
use Rattle.bs_flat_connect.proofs.making.blocks.Goals as goal

pub modules-init : goal.modules-init
modules-init c =
    record {
      tells =
          subst (λ (l : List FlatModule). BlocksSoFar c.args.table.now c.args.ports.now c.args.below.now c.args.owns.now c.args.written.now 0 l)
          (sym c.new-all.ensures) (blocks_none c.args.table.now c.args.ports.now c.args.below.now c.args.owns.now c.args.written.now);
      takes = subst (λ (l : List FlatModule). All Takes l) (sym c.new-all.ensures) (All-nil Takes);
      numbers = ap below_blocks c.new-all.ensures;
    }

pub block-requires-clause-each : goal.block-requires-clause-each
block-requires-clause-each c =
    ap length c.slice-numbers.ensures
    ∙ (ap length c.index-below-k.is
    ∙ (lengths_at c.args.below.now c.args.written.now c.modules.k c.index-below-k.result c.index-written-k.result
    (omega (arith, c.modules-test.true, c.requires.owns)) c.requires.each
    ∙ sym (ap length c.slice-instances.ensures ∙ ap length c.index-written-k.is)))

pub returns-in_err-block-clause-tells : goal.returns-in_err-block-clause-tells
returns-in_err-block-clause-tells c =
    let f = c.in_err-block.field-0.0 in
    let here : TellsBlock c.args.table.now c.args.ports.now (get_or c.args.below.now c.modules.k []) (get_or c.args.owns.now c.modules.k c.index-owns-k.result)
    (get_or c.args.written.now c.modules.k []) (Err f) =
    told_here c.args.table.now c.args.ports.now c.args.below.now c.args.owns.now c.args.written.now c.modules.k c.slice-numbers.result.now
    c.index-below-k.result c.index-owns-k.result c.slice-instances.result.now c.index-written-k.result (Err f) c.modules-test.true c.requires.owns c.requires.each
    (c.slice-numbers.ensures ∙ c.index-below-k.is) c.index-owns-k.is (c.slice-instances.ensures ∙ c.index-written-k.is) c.in_err-block.ensures.tells in
    subst (λ (r : Result (List FlatModule) Fault). TellsBlocks c.args.table.now c.args.ports.now c.args.below.now c.args.owns.now c.args.written.now r)
    (sym (fails c.from_residual.result f c.from_residual.ensures))
    (blocks_stop c.args.table.now c.args.ports.now c.args.below.now c.args.owns.now c.args.written.now c.modules.k c.index-owns-k.result c.modules.all f
    c.modules-test.true c.requires.owns here c.modules.invariant.tells)

pub modules-preserved : goal.modules-preserved
modules-preserved c =
    let block = c.in_ok-block.block in
    let here : TellsBlock c.args.table.now c.args.ports.now (get_or c.args.below.now c.modules.k []) (get_or c.args.owns.now c.modules.k c.index-owns-k.result)
    (get_or c.args.written.now c.modules.k []) (Ok block) =
    told_here c.args.table.now c.args.ports.now c.args.below.now c.args.owns.now c.args.written.now c.modules.k c.slice-numbers.result.now
    c.index-below-k.result c.index-owns-k.result c.slice-instances.result.now c.index-written-k.result (Ok block) c.modules-test.true c.requires.owns c.requires.each
    (c.slice-numbers.ensures ∙ c.index-below-k.is) c.index-owns-k.is (c.slice-instances.ensures ∙ c.index-written-k.is) c.in_ok-block.ensures.tells in
    let within : c.modules.k < length c.args.below.now =
    omega (arith, c.modules-test.true, c.requires.owns, counted c.args.below.now c.args.written.now c.requires.each) in
    record {
      tells =
          subst (λ (l : List FlatModule). BlocksSoFar c.args.table.now c.args.ports.now c.args.below.now c.args.owns.now c.args.written.now (c.modules.k + 1) l)
          (sym c.in_ok-push.ensures.ok)
          (blocks_more c.args.table.now c.args.ports.now c.args.below.now c.args.owns.now c.args.written.now c.modules.k c.index-owns-k.result c.modules.all block
          c.modules-test.true c.requires.owns here c.modules.invariant.tells);
      takes =
          subst (λ (l : List FlatModule). All Takes l) (sym c.in_ok-push.ensures.ok)
          (All-push Takes c.modules.all block c.modules.invariant.takes c.in_ok-block.ensures.takes);
      numbers =
          ap below_blocks c.in_ok-push.ensures.ok
          ∙ (map-append (λ (b : FlatModule). numbers_of b.children) c.modules.all (block ∷ [])
          ∙ (ap (λ l. l ++ numbers_of block.children ∷ []) c.modules.invariant.numbers
          ∙ (ap (λ ns. take c.modules.k c.args.below.now ++ ns ∷ [])
          (c.in_ok-block.ensures.numbers ∙ (c.slice-numbers.ensures ∙ c.index-below-k.is))
          ∙ sym (take_more c.args.below.now c.modules.k c.index-below-k.result within))));
    }

pub returns-clause-tells : goal.returns-clause-tells
returns-clause-tells c =
    blocks_all c.args.table.now c.args.ports.now c.args.below.now c.args.owns.now c.args.written.now c.modules.k c.modules.all c.modules-test.false
    c.requires.owns c.modules.invariant.tells
