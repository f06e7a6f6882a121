use Rattle.std.proofs.Common.{subst, ◌⊎◌, ◌≡◌, List}
use Rattle.bs_flat_meaning.specs.declared.fault.FlatFault.TheVariants.{NoMemory}
use Rattle.bs_flat_meaning.specs.declared.statements.Written.{Written}
use Rattle.bs_flat_meaning.specs.Refusals.{HasOneTop, IsRefused}
use Rattle.bs_top_files.proofs.FlattenLemmas.{answers_flat, answers_refused}
use Rattle.bs_top_files.proofs.several.answer.Goals as goal

pub returns-in-Ok : goal.returns-in-Ok
returns-in-Ok c =
    answers_flat c.args.table.now c.args.ids.now c.args.modules c.in-Ok.ranked c.flatten.result c.requires.owns c.requires.written
    (subst (λ (w : List (List Written)). HasOneTop c.args.ids.now w c.in-Ok.ranked) c.slice.ensures c.in-Ok.ensures) c.flatten.ensures

pub returns-in-Err : goal.returns-in-Err
returns-in-Err c =
    answers_refused c.args.table.now c.args.ids.now c.args.modules c.in-Err.fault c.requires.owns c.requires.written
    (subst (λ (w : List (List Written)). (c.in-Err.fault ≡ NoMemory) ⊎ IsRefused c.args.table.now c.args.ids.now w c.in-Err.fault) c.slice.ensures c.in-Err.ensures)
