use Rattle.std.proofs.Common.{◌++◌, Bool, List, take, get_or, false, ap, sym, ◌∙◌}
use Rattle.bs_scan.specs.Seen.{kept, kept_one}
use Rattle.bs_scan.proofs.KeptLemmas.{kept_more, kept_nothing}
use Rattle.bs_scan.proofs.seen.Seen.known_of.Goals as goal

pub places-init : goal.places-init
places-init c = c.new-known.ensures ∙ sym (kept_nothing c.args.self.now.free)

pub places-preserved : goal.places-preserved
places-preserved c =
    let fs = c.args.self.now.free in
    let so_far : List Bool = kept fs (take c.places.i c.args.state.now) in
    c.in_ok-push_known.ensures
    ∙ (ap (λ (l : List Bool). l ++ kept_one c.is_free.result c.get.result) c.places.invariant
    ∙ (ap (λ (free : Bool). so_far ++ kept_one free c.get.result) c.is_free.ensures
    ∙ (ap (λ (bit : Bool). so_far ++ kept_one (get_or fs c.places.i false) bit) c.get.ensures.value
    ∙ sym (kept_more fs c.args.state.now c.places.i false (rw c.len-i-end.ensures at c.places-test.true)))))
