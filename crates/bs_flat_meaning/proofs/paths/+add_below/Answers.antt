use Rattle.std.proofs.Common.{◌≡◌, ℕ, suc, ◌<◌, ◌+◌, ◌-◌, length, get_or, List, [], ◌∷◌, ◌++◌, subst, sym, ap, ◌∙◌, arith}
use Rattle.std.proofs.lemmas.List.{length_push, get_or_default}
use Rattle.bs_flat_meaning.specs.declared.paths.Instanced.{Instanced}
use Rattle.bs_flat_meaning.specs.declared.paths.Node.{Node}
use Rattle.bs_flat_meaning.specs.Paths.{Adds, AddsFirst, no_node}
use Rattle.bs_flat_meaning.proofs.PathLemmas.{adds_nothing, adds_more, adds_all, push_within, instance_within, node_read}
use Rattle.bs_flat_meaning.proofs.paths.+add_below.Goals as goal

pub returns-then-levels-eq0-clause-ok : goal.returns-then-levels-eq0-clause-ok
returns-then-levels-eq0-clause-ok t c =
    subst (λ n. Adds c.args.modules.now c.args.nodes.now c.args.nodes.now c.args.at n) (sym c.if-levels-eq0.true)
    (adds_nothing c.args.modules.now c.args.nodes.now c.args.at)

pub add_below-requires : goal.add_below-requires
add_below-requires t c =
    let s = c.index-modules-get.result in
    let here : c.len-here.result ≡ length c.instances.nodes = c.len-here.ensures in
    let pushed = c.in_ok-push.ensures.ok in
    let longer = ap length pushed ∙ length_push c.instances.nodes _ in
    let k : c.get.result.now.of < length c.args.modules.now =
    subst (λ (p : Node). p.of < length c.args.modules.now) (sym c.get.ensures.value) (c.requires.within c.args.at c.get.result.now c.requires.there) in
    let is : c.slice-instances.result.now ≡ s.instances = c.slice-instances.ensures ∙ ap (λ (u : Instanced). u.instances) (sym c.index-modules-get.is) in
    let lt : c.instances.i < length s.instances = subst (λ (l : List ℕ). c.instances.i < length l) is c.instances-test.true in
    let of : get_or c.slice-instances.result.now c.instances.i 0 < length c.args.modules.now =
    subst (λ (l : List ℕ). get_or l c.instances.i 0 < length c.args.modules.now) (sym is)
    (instance_within c.args.modules.now s c.get.result.now.of c.instances.i c.requires.instanced k c.index-modules-get.is lt) in (
      omega (arith, c.decreases, c.if-levels-eq0.false),
      (
        omega (arith, here, longer),
        (
          c.requires.instanced,
          push_within c.args.modules.now c.instances.nodes c.push.new.self _ pushed c.instances.invariant.within of,
        ),
      ),
    )

pub instances-preserved : goal.instances-preserved
instances-preserved t c =
    let modules = c.args.modules.now in
    let s = c.index-modules-get.result in
    let m = get_or c.slice-instances.result.now c.instances.i 0 in
    let here : c.len-here.result ≡ length c.instances.nodes = c.len-here.ensures in
    let pushed = c.in_ok-push.ensures.ok in
    let pl : Node = record { parent = c.args.at; instance = c.instances.i; of = m } in
    let longer = ap length pushed ∙ length_push c.instances.nodes _ in
    let read : get_or c.args.nodes.now c.args.at no_node ≡ c.get.result.now =
    node_read c.args.nodes.now c.args.at c.get.result.now c.requires.there c.get.ensures.value in
    let k : (get_or c.args.nodes.now c.args.at no_node).of < length modules = c.requires.within c.args.at no_node c.requires.there in
    let shape : s ≡ get_or modules (get_or c.args.nodes.now c.args.at no_node).of s =
    subst (λ (p : Node). s ≡ get_or modules p.of s) (sym read) c.index-modules-get.is in
    let is : c.slice-instances.result.now ≡ s.instances = c.slice-instances.ensures ∙ ap (λ (u : Instanced). u.instances) (sym c.index-modules-get.is) in
    let lt : c.instances.i < length s.instances = subst (λ (l : List ℕ). c.instances.i < length l) is c.instances-test.true in
    let item : m ≡ get_or s.instances c.instances.i m = ap (λ (l : List ℕ). get_or l c.instances.i 0) is ∙ get_or_default s.instances c.instances.i 0 m lt in
    let n = c.args.levels - 1 in
    let one : c.args.levels ≡ suc n = omega (arith, c.if-levels-eq0.false) in
    let first : AddsFirst modules c.args.nodes.now c.instances.nodes c.args.at (suc n) c.instances.i =
    subst (λ l. AddsFirst modules c.args.nodes.now c.instances.nodes c.args.at l c.instances.i) one c.instances.invariant.adds in
    let rest : Adds modules (c.instances.nodes ++ pl ∷ []) c.add_below.new.nodes (length c.instances.nodes) n =
    subst (λ h. Adds modules (c.instances.nodes ++ pl ∷ []) c.add_below.new.nodes h n) here
    (subst (λ (ps : List Node). Adds modules ps c.add_below.new.nodes c.len-here.result n) pushed c.in_ok-add_below.ensures.ok) in
    let more = adds_more modules c.args.nodes.now c.instances.nodes c.add_below.new.nodes c.args.at n c.instances.i m s c.requires.there
    c.instances.invariant.longer k shape lt item first rest in
    record {
      within = c.in_ok-add_below.ensures.within;
      longer = omega (arith, longer, c.in_ok-add_below.ensures.longer, c.instances.invariant.longer);
      adds = subst (λ l. AddsFirst modules c.args.nodes.now c.add_below.new.nodes c.args.at l (c.instances.i + 1)) (sym one) more;
    }

pub returns-clause-ok : goal.returns-clause-ok
returns-clause-ok t c =
    let modules = c.args.modules.now in
    let s = c.index-modules-get.result in
    let read : get_or c.args.nodes.now c.args.at no_node ≡ c.get.result.now =
    node_read c.args.nodes.now c.args.at c.get.result.now c.requires.there c.get.ensures.value in
    let k : (get_or c.args.nodes.now c.args.at no_node).of < length modules = c.requires.within c.args.at no_node c.requires.there in
    let shape : s ≡ get_or modules (get_or c.args.nodes.now c.args.at no_node).of s =
    subst (λ (p : Node). s ≡ get_or modules p.of s) (sym read) c.index-modules-get.is in
    let is : c.slice-instances.result.now ≡ s.instances = c.slice-instances.ensures ∙ ap (λ (u : Instanced). u.instances) (sym c.index-modules-get.is) in
    let all : c.instances.i ≡ length s.instances = omega (arith, c.instances-test.false, c.instances.auto.i-end, ap length is) in
    adds_all modules c.args.nodes.now c.instances.nodes c.args.at c.args.levels c.instances.i s c.requires.there k shape all c.instances.invariant.adds
