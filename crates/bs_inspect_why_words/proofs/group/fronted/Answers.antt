use Rattle.std.proofs.Common.{arith}
use Rattle.bs_inspect_why_words.proofs.FrontLemmas.{fronted_here, fronted_past}
use Rattle.bs_inspect_why_words.proofs.group.fronted.Goals as goal

pub returns-then-place-len : goal.returns-then-place-len
returns-then-place-len c =
    fronted_past c.args.reasons.now c.args.groups.items c.as_slice.result.now c.first_of.result.now c.widest-place.result c.as_slice.ensures.value
    c.first_of.ensures c.widest-place.ensures (omega (arith, c.if-place-len.true, c.len.ensures))

pub returns : goal.returns
returns c =
    fronted_here c.args.reasons.now c.args.groups.items c.as_slice.result.now c.first_of.result.now c.remove-group.new.self.items c.insert.new.self.items
    c.widest-place.result c.remove-group.result c.as_slice.ensures.value c.first_of.ensures c.widest-place.ensures
    (omega (arith, c.if-place-len.false, c.len.ensures)) c.remove-group.ensures.value c.remove-group.ensures.items c.in_ok-insert.ensures.items
