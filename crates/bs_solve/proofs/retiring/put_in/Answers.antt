use Rattle.std.proofs.Common.{◌≡◌, ◌<◌, length, ap, refl, ◌∙◌, arith, Some}
use Rattle.std.specs.Prelude.{slice_get, slice_set}
use Rattle.std.proofs.lemmas.Option.{slice_get_read}
use Rattle.bs_solve.proofs.Retirings.{put_inside}
use Rattle.bs_solve.proofs.retiring.put_in.Goals as goal

pub returns : goal.returns
returns c =
    let old = c.args.refs.now.items in
    let within : c.args.at < length old = omega (arith, c.if-at-len.false, c.len.ensures, c.requires) in
    let first : slice_get old c.args.at ≡ Some c.index-first.result.now =
    slice_get_read old (length old) c.args.at c.index-first.result.now refl within c.index-first.ensures in
    put_inside old c.put_ref.new.refs.items c.args.at c.args.r c.index-first.result.now within first
    (c.put_ref.ensures ∙ ap (λ xs. slice_set xs c.args.at c.args.r) c.in_ok-push-2.ensures.items)
