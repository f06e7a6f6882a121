use Rattle.std.proofs.Common.{◌<◌, ap, length, arith}
use Rattle.std.proofs.lemmas.List.{length-map}
use Rattle.bs_watch.proofs.Rows.{row_same}
use Rattle.bs_watch.proofs.lists.WatchLists.reserve.Goals as goal

pub returns-in_err-reserve : goal.returns-in_err-reserve
returns-in_err-reserve c =
    let within : c.args.code < length c.args.self.now =
    omega (arith, c.if-code-len.true, c.len.ensures, ap length c.self.view_is, length-map c.self.inside.rows.items (λ v. v.items)) in
    row_same (λ v. v.items) c.self.inside.rows.items c.args.code c.index_mut.result.now c.reserve.new.self c.args.self.now within
    c.index_mut.ensures.value c.in_err-reserve.ensures.items c.self.view_is

pub returns-in_ok-reserve : goal.returns-in_ok-reserve
returns-in_ok-reserve c =
    let within : c.args.code < length c.args.self.now =
    omega (arith, c.if-code-len.true, c.len.ensures, ap length c.self.view_is, length-map c.self.inside.rows.items (λ v. v.items)) in
    row_same (λ v. v.items) c.self.inside.rows.items c.args.code c.index_mut.result.now c.reserve.new.self c.args.self.now within
    c.index_mut.ensures.value c.in_ok-reserve.ensures.items c.self.view_is
