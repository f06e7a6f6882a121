use Rattle.std.proofs.Common.{◌≡◌, ℕ, Bool, ◌<◌, ◌∙◌, ap, sym, subst, cond, length, map, take, get_or, set, List, None, Some, arith, false}
use Rattle.std.specs.Prelude.{string_bytes, unwrap_or}
use Rattle.std.proofs.lemmas.List.{length-map, take_all}
use Rattle.bs_net.specs.declared.net.Const.{Const}
use Rattle.bs_flat_meaning.specs.Flat.{constant_bit}
use Rattle.bs_flat_nets.specs.Blocks.{own_of}
use Rattle.bs_flat_nets.proofs.BitLemmas.{bit_in, is_named, bit_noted, table_is, noted_wide}
use Rattle.bs_flat_nets.proofs.constants.bit_table.Goals as goal

pub consts-preserved : goal.consts-preserved
consts-preserved c =
    let ks = c.slice-consts.result.now in
    let names = map string_bytes c.slice-names.result.now in
    let none : Const = record { net = record { 0 = 0 }; value = false } in
    let k = get_or ks c.consts.constant-index none in
    let table = c.consts.table.items in
    let after : c.note.new.table.items ≡ cond (is_named names k) (set table k.net.0 (Some (unwrap_or (get_or table k.net.0 None) k.value))) table =
    c.note.ensures ∙ ap (λ (b : Bool). cond b (set table k.net.0 (Some (unwrap_or (get_or table k.net.0 None) k.value))) table) c.is_named_so-named.ensures in
    let inside : k.net.0 < length c.args.block.now.names =
    subst (λ (l : List Const). (get_or l c.consts.constant-index none).net.0 < length c.args.block.now.names) (sym c.slice-consts.ensures)
    (c.requires c.consts.constant-index none (subst (λ (l : List Const). c.consts.constant-index < length l) c.slice-consts.ensures c.consts-test.true)) in
    let wide = ap length c.slice-names.ensures in
    record {
      wide =
          ap length after
          ∙ (noted_wide (is_named names k) table k.net.0 (Some (unwrap_or (get_or table k.net.0 None) k.value)) ∙ c.consts.invariant.wide);
      is =
          bit_noted names ks table c.note.new.table.items c.consts.constant-index none c.consts-test.true (omega (arith, inside, c.consts.invariant.wide, wide))
          c.consts.invariant.is after;
    }

pub returns : goal.returns
returns c =
    let names = map string_bytes c.args.block.now.names in
    let ks = c.slice-consts.result.now in
    let wide : length c.consts.table.items ≡ length names =
    c.consts.invariant.wide ∙ (ap length c.slice-names.ensures ∙ sym (length-map c.args.block.now.names string_bytes)) in
    table_is (constant_bit (own_of c.args.block.now)) (length names) c.consts.table.items wide
    (λ k lt.
    let lt2 : k < length (map string_bytes c.slice-names.result.now) =
    omega (arith, lt, length-map c.slice-names.result.now string_bytes, length-map c.args.block.now.names string_bytes, ap length c.slice-names.ensures) in
    c.consts.invariant.is k lt2
    ∙ (ap (λ (u : List (List ℕ)). bit_in u (take c.consts.constant-index ks) k) (ap (map string_bytes) c.slice-names.ensures)
    ∙ ap (λ (l : List Const). bit_in names l k) (take_all c.consts.constant-index ks c.consts-test.false ∙ c.slice-consts.ensures)))
