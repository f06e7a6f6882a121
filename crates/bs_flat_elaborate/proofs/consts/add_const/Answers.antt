use Rattle.std.proofs.Common.{◌≡◌, ◌++◌, ◌∙◌, [], ◌∷◌, ap, cond, arith, Bool, length, map, get_or, string_bytes}
use Rattle.std.specs.Str.{bytes_eq}
use Rattle.std.specs.Prelude.{not, ◌&&◌}
use Rattle.bs_net.specs.declared.net.NetId.{NetId}
use Rattle.bs_verilog_scope.specs.Keys.{constant_key}
use Rattle.bs_flat_meaning.specs.Design.{on}
use Rattle.bs_flat_meaning.specs.Flat.{flat_number, is_repeat}
use Rattle.bs_flat_nets.specs.Blocks.{design_of}
use Rattle.bs_flat_nets.specs.Climbing.{path_in}
use Rattle.bs_flat_elaborate.specs.Parts.{is_root_at, is_itself}
use Rattle.bs_flat_elaborate.proofs.PartLemmas.{repeat_is}
use Rattle.bs_flat_elaborate.proofs.consts.add_const.Goals as goal

pub returns : goal.returns
returns c =
    let blocks = c.args.blocks.now in
    let nodes = c.args.nodes.now in
    let d = design_of blocks c.args.top in
    let p = path_in d c.args.node in
    let k = c.args.constant in
    let n = c.args.numbering.now in
    let b = c.block_of.result.now in
    let names = c.slice-names.ensures in
    let number : c.in_ok-number.number.0 ≡ flat_number d (on p k.net.0) = ap (λ (m : NetId). m.0) c.in_ok-number.ensures.is in
    let inside = ap (λ l. length l) names in
    let repeat : c.is_repeat-repeat.result ≡ is_repeat d (on p k) =
    c.is_repeat-repeat.ensures
    ∙ (ap
    (λ l. is_root_at blocks nodes c.args.node k.net.0
    && bytes_eq (get_or (map string_bytes l) k.net.0 []) (constant_key k.value)
    && not (is_itself n c.in_ok-number.number.0 c.args.node k.net.0)) names
    ∙ repeat_is blocks nodes c.args.top n c.args.node b k c.in_ok-number.number.0 c.requires.laid c.requires.there c.block_of.ensures
    (omega (arith, inside, c.if-constant-names.false)) number) in
    c.in_ok-push_first.ensures
    ∙ (ap (λ (t : Bool). c.args.all.now ++ cond t [] (record { net = c.in_ok-number.number; value = k.value } ∷ [])) repeat
    ∙ ap (λ (m : NetId). c.args.all.now ++ cond (is_repeat d (on p k)) [] (record { net = m; value = k.value } ∷ [])) c.in_ok-number.ensures.is)
