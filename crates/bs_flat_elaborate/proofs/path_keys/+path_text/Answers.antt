use Rattle.std.proofs.Common.{◌++◌, ◌∙◌, ap, arith, List, ℕ, string_bytes}
use Rattle.std.specs.Prelude.{codes}
use Rattle.bs_flat_elaborate.proofs.TextLemmas.{text_top, text_more}
use Rattle.bs_flat_elaborate.proofs.path_keys.+path_text.Goals as goal

pub returns-then-at-eq0 : goal.returns-then-at-eq0
returns-then-at-eq0 t c = text_top c.args.blocks.now c.args.nodes.now c.args.at (string_bytes c.new.result) c.if-at-eq0.true c.new.ensures.bytes

pub returns : goal.returns
returns t c =
    let before = string_bytes c.in_ok-text.text in
    text_more c.args.blocks.now c.args.nodes.now c.args.at before (string_bytes c.in_ok-text-2.text) (omega (arith, c.if-at-eq0.false)) c.requires.there
    c.in_ok-text.ensures
    (c.in_ok-text-2.ensures ∙ ap (λ (name : List ℕ). before ++ (name ++ codes ".")) c.name_of.ensures)
