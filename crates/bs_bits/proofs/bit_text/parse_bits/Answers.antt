use Rattle.std.proofs.Common.{◌≡◌, ◌∷◌, [], true, ◌∙◌, sym}
use Rattle.std.proofs.lemmas.Bool.Decides.{Decides-eqb}
use Rattle.std.proofs.lemmas.Slice.Eq.{slice_eq-Decides}
use Rattle.bs_bits.proofs.TextLemmas.{other_char}
use Rattle.bs_bits.proofs.bit_text.parse_bits.Goals as goal

pub returns-in-None : goal.returns-in-None
returns-in-None c =
    other_char _ c.loop-character.character-index
    (λ (e : c.args.text.now ≡ 46 ∷ []).
    let same : c.eq.result ≡ true = (slice_eq-Decides Decides-eqb _ _ _ c.eq.ensures).1 (e ∙ sym c.as_slice.ensures) in
    cc)
    c.loop-character-test.true c.in-None.ensures
