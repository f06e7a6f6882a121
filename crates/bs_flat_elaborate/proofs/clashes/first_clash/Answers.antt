use Rattle.std.proofs.Common.{◌≡◌, ◌<◌, ◌-◌, ◌∙◌, ap, sym, arith, cond, Bool, Some, List, ℕ, [], get_or, length, string_bytes, refl}
use Rattle.std.specs.List.{list_any}
use Rattle.std.specs.Str.{bytes_eq}
use Rattle.bs_net.specs.Names.{with_key}
use Rattle.bs_flat_nets.specs.Blocks.{design_of}
use Rattle.bs_flat_nets.specs.declared.climbing.NetOnPath.{NetOnPath}
use Rattle.bs_flat_elaborate.specs.Keys.{key_of_place}
use Rattle.bs_flat_elaborate.specs.Naming.{keys_of}
use Rattle.bs_flat_elaborate.proofs.NamingLemmas.{key_read, keys_count, searched_none, searched_more}
use Rattle.bs_flat_elaborate.proofs.clashes.first_clash.Goals as goal

pub nets-init : goal.nets-init
nets-init c =
    record {
      label = c.first_label-label.ensures;
      searched =
          searched_none (keys_of (design_of c.args.blocks.now c.args.top)) c.len-at.result c.new-later.result
          (c.len-at.ensures ∙ sym (keys_count c.args.blocks.now c.args.nodes.now c.args.top c.args.numbering.now c.requires.laid)) c.new-later.ensures;
    }

pub nets-preserved : goal.nets-preserved
nets-preserved c =
    let d = design_of c.args.blocks.now c.args.top in
    let keys = keys_of d in
    let now = c.nets.at - 1 in
    let key = string_bytes c.in_ok-key.key in
    let later = c.nets.later in
    let count = keys_count c.args.blocks.now c.args.nodes.now c.args.top c.args.numbering.now c.requires.laid in
    let few = c.nets.invariant.searched.few in
    let low : now < length c.args.numbering.now.places = omega (arith, count, few, c.nets-test.true) in
    let read : key ≡ get_or keys now [] =
    c.in_ok-key.ensures.is
    ∙ (ap (λ (p : NetOnPath). key_of_place d p) c.get-place.ensures.value
    ∙ sym (key_read c.args.blocks.now c.args.nodes.now c.args.top c.args.numbering.now now c.get-place.result.now c.requires.laid low)) in
    let has : c.has_key.result ≡ list_any (bytes_eq key) later =
    c.has_key.ensures ∙ ap (λ (k : List ℕ). list_any (bytes_eq k) later) c.deref.ensures in
    record {
      label = c.in_ok-key.ensures.label;
      searched =
          searched_more keys c.nets.at now key later c.add.new.self c.nets.first c.noted-first.result c.nets-test.true refl read
          c.nets.invariant.searched
          (c.in_ok-add.ensures.ok ∙ ap (λ (k : List ℕ). with_key later k) c.deref-in-nets.ensures)
          (c.noted-first.ensures ∙ ap (λ (b : Bool). cond b (Some now) c.nets.first) has);
    }
