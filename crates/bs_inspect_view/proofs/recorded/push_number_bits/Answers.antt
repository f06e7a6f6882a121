use Rattle.std.proofs.Common.{ℕ, ◌-◌, ◌==◌, ◌++◌, Bool, ap, ◌∙◌}
use Rattle.std.specs.Int.{bit_at}
use Rattle.bs_bits.proofs.RangeLemmas.{places_step}
use Rattle.bs_inspect_view.specs.Recorded.{bit_piece}
use Rattle.bs_inspect_view.proofs.recorded.push_number_bits.Goals as goal

pub bits-preserved : goal.bits-preserved
bits-preserved c =
    places_step (λ (k : ℕ). bit_piece (bit_at c.args.number (c.args.count - 1 - k) == 1)) c.args.text.now.items c.bits.text.items c.push_bit.new.text.items c.bits.k
    c.bits.invariant (c.in_ok-push_bit.ensures ∙ ap (λ (b : Bool). c.bits.text.items ++ bit_piece b) c.has_bit.ensures)
