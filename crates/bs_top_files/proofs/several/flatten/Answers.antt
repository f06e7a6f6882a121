use Rattle.std.proofs.Common.{◌<◌, ◌∙◌, ℕ, List, length, subst, sym}
use Rattle.std.specs.List.{All}
use Rattle.bs_top_files.proofs.FlattenLemmas.{order_is, design_is_whole, flattens_blocks, flattens_fault}
use Rattle.bs_top_files.proofs.several.flatten.Goals as goal

pub connect-requires-clause-below : goal.connect-requires-clause-below
connect-requires-clause-below c = c.slice.ensures ∙ c.requires.ranked.ranked.below

pub connect-requires-clause-there : goal.connect-requires-clause-there
connect-requires-clause-there c =
    subst (λ (below : List (List ℕ)). All (λ ns. All (λ n. n < length c.args.modules.owns) ns) below) (sym c.slice.ensures)
    (subst (λ (k : ℕ). All (λ ns. All (λ n. n < k) ns) c.args.ranked.below) (sym c.requires.owns) c.requires.ranked.ranked.there)

pub flat-requires-clause-order : goal.flat-requires-clause-order
flat-requires-clause-order c =
    order_is c.args.ids.now c.args.modules.written c.slice.result.now c.args.ranked c.in-Ok.blocks c.requires.ranked
    (c.slice.ensures ∙ c.requires.ranked.ranked.below) c.in-Ok.ensures.numbers

pub flat-requires-clause-design : goal.flat-requires-clause-design
flat-requires-clause-design c =
    design_is_whole c.args.table.now c.args.ids.now c.args.modules c.args.ranked c.in-Ok.blocks c.requires.owns c.requires.written c.requires.named
    c.requires.read c.requires.ranked c.in-Ok.ensures.blocks

pub returns-in-Ok : goal.returns-in-Ok
returns-in-Ok c =
    flattens_blocks c.args.table.now c.args.ids.now c.args.modules c.args.ranked c.in-Ok.blocks c.flat.result c.requires.owns c.requires.written
    c.requires.ranked c.in-Ok.ensures.blocks c.flat.ensures

pub returns-in-Err : goal.returns-in-Err
returns-in-Err c =
    flattens_fault c.args.table.now c.args.ids.now c.args.modules c.args.ranked c.in-Err.fault c.requires.owns c.requires.written c.requires.ranked
    c.in-Err.ensures.blocks
