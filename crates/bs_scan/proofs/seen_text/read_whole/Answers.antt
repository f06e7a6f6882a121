use Rattle.std.proofs.Common.{ap, sym, ◌∙◌, Some}
use Rattle.std.specs.Prelude.{option_map}
use Rattle.bs_scan.specs.Seen.{whole}
use Rattle.bs_scan.proofs.TextLemmas.{undashed}
use Rattle.bs_scan.proofs.seen_text.read_whole.Goals as goal

pub returns-in-None : goal.returns-in-None
returns-in-None c =
    sym
    (undashed c.args.text.now c.requires ∙ ap (option_map (λ bits. whole bits)) (sym c.in_ok-read_text.ensures.value ∙ c.in-None.is))

pub returns-in-Some : goal.returns-in-Some
returns-in-Some c =
    ap Some c.whole.ensures
    ∙ sym
    (undashed c.args.text.now c.requires ∙ ap (option_map (λ bits. whole bits)) (sym c.in_ok-read_text.ensures.value ∙ c.in-Some.is))
