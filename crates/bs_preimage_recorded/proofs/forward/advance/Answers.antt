use Rattle.std.proofs.Common.{◌≡◌, ◌∙◌, length}
use Rattle.bs_preimage_recorded.proofs.ForwardLemmas.{still_ahead, pushed_ahead}
use Rattle.bs_preimage_recorded.proofs.forward.advance.Goals as goal

pub returns-clause-ahead : goal.returns-clause-ahead
returns-clause-ahead c =
    let old = c.args.pass.now in
    let p = c.step_to.new.pass in
    let low = c.args.low.now in
    let high = c.args.high.now in
    let there : p.cycle ≡ length c.args.rows.now = c.step_to.ensures.there ∙ c.len.ensures in
    pushed_ahead p low high c.args.rows.now c.push.new.self c.in_ok-row.row c.push.result
    (still_ahead old p low high c.args.rows.now c.requires.ahead c.step_to.ensures.same there) there c.requires.few c.in_ok-row.ensures.row c.push.ensures.ok
    c.push.ensures.err
