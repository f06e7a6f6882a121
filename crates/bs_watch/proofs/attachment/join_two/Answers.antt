use Rattle.std.proofs.Common.{◌≡◌, ◌-◌, ◌++◌, ◌∷◌, [], length, set, ap, ◌∙◌, arith}
use Rattle.std.proofs.lemmas.List.{length_push}
use Rattle.bs_watch.specs.declared.lists.Watcher.{Watcher}
use Rattle.bs_clause.specs.Literal.{code_of}
use Rattle.bs_watch.specs.Lists.{row}
use Rattle.bs_watch.proofs.Rows.{row_now}
use Rattle.bs_watch.proofs.Joins.{taken_back}
use Rattle.bs_watch.proofs.attachment.join_two.Goals as goal

pub returns-in-Err-clause-err : goal.returns-in-Err-clause-err
returns-in-Err-clause-err c =
    let w : Watcher = record { clause = c.args.clause; blocker = c.args.second } in
    let same : c.push-pushed.new.self ≡ c.push.new.self = c.in-Err.ensures.err in
    let mid : c.push-pushed.new.self ≡ set c.args.lists.now (code_of c.args.first) (row c.args.lists.now c.args.first ++ w ∷ []) =
    same ∙ c.in_ok-push.ensures.ok in
    let here : row c.push-pushed.new.self c.args.first ≡ row c.args.lists.now c.args.first ++ w ∷ [] =
    ap (λ ls. row ls c.args.first) mid ∙ row_now c.args.lists.now c.args.first (row c.args.lists.now c.args.first ++ w ∷ []) c.requires.first in
    taken_back c.args.lists.now c.push-pushed.new.self c.remove.new.self c.args.first w c.remove.result (c.len-last.result - 1) c.requires.first mid
    (omega (arith, c.len-last.ensures, ap length here, length_push (row c.args.lists.now c.args.first) w)) c.remove.ensures
