use Rattle.std.proofs.Common.{◌≡◌, ◌<◌, ◌∙◌, ◌+◌, ℕ, length, ap, arith, length-append, refl}
use Rattle.std.specs.Prelude.{All}
use Rattle.std.proofs.lemmas.Result.{err_from_is_err_and}
use Rattle.std.proofs.lemmas.List.Elements.{All-push, All-nil}
use Rattle.bs_bits.specs.Lines.{lines_of}
use Rattle.bs_scan.specs.ChoiceText.{items_of}
use Rattle.bs_scan.specs.Reading.{bytes_in}
use Rattle.bs_scan.proofs.ItemLemmas.{front_none, item_step, item_refused, items_end, bytes_step}
use Rattle.bs_scan.proofs.choice_text.read_items.Goals as goal

pub lines-init : goal.lines-init
lines-init c =
    rw c.new-items.ensures
    (record {
      whole = front_none (items_of c.args.flops.now c.args.first 1 (lines_of c.args.bytes.now));
      placed = omega arith;
      numbered = refl;
      few = omega arith;
      range = All-nil (All (λ (flop : ℕ). flop < length c.args.flops.now.flops));
      bytes = omega arith;
    })

pub returns-in_err-read_item-clause-reads : goal.returns-in_err-read_item-clause-reads
returns-in_err-read_item-clause-reads c =
    let p = err_from_is_err_and c.from_residual.result c.from_residual.ensures.1 in
    rw (p.1, p.2)
    (item_refused (items_of c.args.flops.now c.args.first 1 (lines_of c.args.bytes.now)) c.args.flops.now c.lines.at c.lines.number c.lines.items
    (lines_of c.lines.rest.now)
    (lines_of c.in-Some.behind.now) c.in-Some.line.now _
    c.lines.invariant.whole c.in-Some.ensures c.in_err-read_item.ensures.reads)

pub lines-preserved : goal.lines-preserved
lines-preserved c =
    let more : length c.push.new.self ≡ length c.lines.items + 1 = ap length c.in_ok-push.ensures.ok ∙ length-append _ _ in
    record {
      whole =
          rw c.in_ok-push.ensures.ok
          (item_step (items_of c.args.flops.now c.args.first 1 (lines_of c.args.bytes.now)) c.args.flops.now c.lines.at c.lines.number c.lines.items
          (lines_of c.lines.rest.now) (lines_of c.in-Some.behind.now) c.in-Some.line.now _
          c.lines.invariant.whole c.in-Some.ensures c.in_ok-read_item.ensures.reads);
      placed = omega (arith, more, c.lines.invariant.placed);
      numbered = omega (arith, more, c.lines.invariant.numbered);
      few = omega (arith, more, c.lines.invariant.numbered, c.in_ok-read_item.ensures.few);
      range =
          rw c.in_ok-push.ensures.ok
          (All-push (All (λ (flop : ℕ). flop < length c.args.flops.now.flops)) c.lines.items _ c.lines.invariant.range c.in_ok-read_item.ensures.range);
      bytes =
          rw c.in_ok-push.ensures.ok
          (bytes_step c.lines.items _ (lines_of c.lines.rest.now) c.in-Some.line.now (lines_of c.in-Some.behind.now) (bytes_in (lines_of c.args.bytes.now))
          c.in-Some.ensures c.in_ok-read_item.ensures.short c.lines.invariant.bytes);
    }

pub returns-clause-reads : goal.returns-clause-reads
returns-clause-reads c =
    items_end (items_of c.args.flops.now c.args.first 1 (lines_of c.args.bytes.now)) c.args.flops.now c.lines.at c.lines.number c.lines.items
    (lines_of c.lines.rest.now)
    c.lines.invariant.whole c.in_default.ensures
