use Rattle.std.proofs.Common.{◌≡◌, ◌<◌, ◌+◌, ◌∙◌, ap, sym, subst, arith, map, List, ℕ, length, string_bytes}
use Rattle.std.proofs.lemmas.Bool.{ltb-true, ltb-false}
use Rattle.bs_flat_meaning.specs.declared.limits.TheConstants.{MAX_KEY_BYTES}
use Rattle.bs_flat_nets.specs.Blocks.{design_of}
use Rattle.bs_flat_elaborate.specs.Keys.{key_of_place}
use Rattle.bs_flat_elaborate.specs.Naming.{keys_of, bytes_of, added, IsMade}
use Rattle.bs_flat_elaborate.proofs.NamingLemmas.{keys_are, keys_count, made_more, made_all, long_is}
use Rattle.bs_flat_elaborate.proofs.naming.name_nets.Goals as goal

pub returns-then-is_long : goal.returns-then-is_long
returns-then-is_long c =
    let d = design_of c.args.blocks.now c.args.top in
    let f = key_of_place d in
    let places = c.slice-places.result.now in
    let keys : keys_of d ≡ map f places =
    keys_are c.args.blocks.now c.args.nodes.now c.args.top c.args.numbering.now c.requires.laid ∙ ap (map f) (sym c.slice-places.ensures) in
    let key = string_bytes c.in_ok-key.key in
    let same = ap (λ (k : List ℕ). length k) c.deref.ensures in
    let gt = ltb-true MAX_KEY_BYTES (c.nets.made.bytes + length c.deref.result.now) (sym c.is_long.ensures ∙ c.if-is_long.true) in
    subst (λ (l : List (List ℕ)). MAX_KEY_BYTES < bytes_of l) (sym keys)
    (long_is f places c.nets.place-index _ key c.nets.made c.nets-test.true c.in_ok-key.ensures.is c.nets.invariant.made (omega (arith, gt, same)))

pub nets-preserved : goal.nets-preserved
nets-preserved c =
    let d = design_of c.args.blocks.now c.args.top in
    let f = key_of_place d in
    let places = c.slice-places.result.now in
    let key = string_bytes c.in_ok-key.key in
    let same = ap (λ (k : List ℕ). length k) c.deref.ensures in
    let le = ltb-false MAX_KEY_BYTES (c.nets.made.bytes + length c.deref.result.now) (sym c.is_long.ensures ∙ c.if-is_long.false) in
    record {
      label = c.in_ok-key.ensures.label;
      made =
          made_more f places c.nets.place-index _ key c.nets.made c.add.new.made c.nets-test.true c.in_ok-key.ensures.is c.nets.invariant.made
          (omega (arith, le, same)) (c.in_ok-add.ensures ∙ ap (λ (k : List ℕ). added c.nets.made k) c.deref-in-nets.ensures);
    }

pub returns : goal.returns
returns c =
    let d = design_of c.args.blocks.now c.args.top in
    let f = key_of_place d in
    let places = c.slice-places.result.now in
    let keys : keys_of d ≡ map f places =
    keys_are c.args.blocks.now c.args.nodes.now c.args.top c.args.numbering.now c.requires.laid ∙ ap (map f) (sym c.slice-places.ensures) in
    let all : IsMade (keys_of d) c.nets.made =
    subst (λ (l : List (List ℕ)). IsMade l c.nets.made) (sym keys) (made_all f places c.nets.place-index c.nets.made c.nets-test.false c.nets.invariant.made) in
    let count = keys_count c.args.blocks.now c.args.nodes.now c.args.top c.args.numbering.now c.requires.laid in
    (all.names c.if-made.false, omega (arith, all.bytes, all.low), all.apart c.if-made.false, omega (arith, count, c.requires.few))
