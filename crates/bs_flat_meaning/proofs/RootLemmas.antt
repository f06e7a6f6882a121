-- Paths, and the uppermost net to which joins lead.
use Rattle.std.proofs.Common.{◌≡◌, ℕ, zero, suc, ◌+◌, add-one, ◌<◌, ◌≤◌, Bool, true, false, cond, List, [], ◌∷◌, map, length, refl, arith, subst, ap, sym}
use Rattle.std.proofs.Common.{◌∙◌, ◌⊎◌, inl}
use Rattle.std.proofs.Common.{inr, ⊎_elim, nat_eq, Option, Some, None, eq-eqb}
use Rattle.std.specs.Prelude.{find, is_none, option_map}
use Rattle.std.specs.List.{AllByRecursion, range_with_len, flat_map, IsDistinct}
use Rattle.std.specs.Str.{bytes_eq}
use Rattle.std.specs.Cmp.Lexicographic.{bytes_decides}
use Rattle.std.proofs.lemmas.Bool.{true≢false, false≢true, eqb-true, cases_lt, and_parts, and_from}
use Rattle.std.proofs.lemmas.List.{get_or_past}
use Rattle.std.proofs.lemmas.List.Elements.{recursion_from_All, All-nil}
use Rattle.std.proofs.lemmas.Map.Keys.{IsDistinct-head, IsDistinct-tail}
use Rattle.bs_flat_meaning.specs.declared.limits.TheConstants.{MAX_DEPTH}
use Rattle.bs_flat_meaning.specs.Design.{Design, Module, Join, Path, At, PathNet, on, own, no_module, no_instance, module_in, module_at, instance_in, joins_at}
use Rattle.bs_flat_meaning.specs.Design.{parent, paths_from, paths, on_each, path_nets, joins, outer, inner}
use Rattle.bs_flat_meaning.specs.Meaning.{IsLinked, IsLinked.{itself, outward, inward}, joined_with, root, root_of, is_same, Valuation}
use Rattle.bs_flat_meaning.specs.Flat.{IsDesign, IsModule, IsInstance, IsJoin, HasNets, is_root}
use Rattle.bs_flat_meaning.proofs.MemberLemmas.{Member, all_member, contained, contains, member_flat, flattened, member_map, mapped, in_range, ranged}

-- ---- the same net on the same path

pub same_from : (a b : PathNet) → is_same a b ≡ true → a ≡ b
same_from a b e =
    let parts = and_parts (bytes_eq a.path b.path) (nat_eq a.it b.it) e in
    let p : a.path ≡ b.path = (bytes_decides a.path b.path).0 parts.0 in
    let q : a.it ≡ b.it = eqb-true a.it b.it parts.1 in
    λ i. record { path = p i; it = q i }

pub same_to : (a b : PathNet) → a ≡ b → is_same a b ≡ true
same_to a b e =
    and_from (bytes_eq a.path b.path) (nat_eq a.it b.it) ((bytes_decides a.path b.path).1 (ap (λ (s : PathNet). s.path) e))
    (eq-eqb a.it b.it (ap (λ (s : PathNet). s.it) e))

-- ---- modules keep what a design keeps

no_parts : HasNets no_module.own
no_parts = record { inputs = All-nil _; outputs = All-nil _; consts = All-nil _; gates = All-nil _; flops = All-nil _ }

no_module_is : (d : Design) → IsModule d no_module
no_module_is d =
    record {
      nets = no_parts;
      instances = All-nil _;
    }

module_is : (d : Design) → IsDesign d → (n : ℕ) → IsModule d (module_in d n)
module_is d h n =
    ⊎_elim
    (λ (lt : n < length d.modules). h n no_module lt)
    (λ (ge : length d.modules ≤ n). subst (λ (m : Module). IsModule d m) (sym (get_or_past d.modules n no_module ge)) (no_module_is d))
    (cases_lt n (length d.modules))

pub module_at_is : (d : Design) → IsDesign d → (p : Path) → IsModule d (module_at d p)
unfolding module_at
module_at_is d h [] = module_is d h d.top
module_at_is d h (i ∷ p) = module_is d h (instance_in (module_at d p) i).of

-- an instance in a module, with the module that it is of
pub instance_is : (d : Design) → IsDesign d → (i : ℕ) (p : Path) → i < length (module_at d p).instances →
    IsInstance (module_at d p) (module_at d (i ∷ p)) (instance_in (module_at d p) i)
unfolding module_at
instance_is d h i p lt = (module_at_is d h p).instances i no_instance lt

-- ---- the paths of a design

-- a path is the top's, or ends in an instance of the module on a path of the list
abbrev pub Rooted : Design → List Path → Path → Type 0
Rooted d ps [] = Unit {0}
Rooted d ps (i ∷ p) = Member p ps × (i < length (module_at d p).instances)

rooted_more : (d : Design) (ps qs : List Path) → ((p : Path) → Member p ps → Member p qs) → (r : Path) → Rooted d ps r → Rooted d qs r
rooted_more d ps qs f [] h = tt
rooted_more d ps qs f (i ∷ p) h = (f p h.0, h.1)

rooted_from : (n : ℕ) (d : Design) (q r : Path) → Member r (paths_from n d q) → (r ≡ q) ⊎ Rooted d (paths_from n d q) r
unfolding paths_from
rooted_from zero d q r m = absurd m
rooted_from (suc n) d q r m =
    ⊎_elim
    (λ (e : r ≡ q). inl e)
    (λ (l : Member r (flat_map (λ i. paths_from n d (i ∷ q)) (range_with_len 0 (length (module_at d q).instances)))).
    let f = flattened (λ i. paths_from n d (i ∷ q)) r (range_with_len 0 (length (module_at d q).instances)) l in
    let lt : f.0 < length (module_at d q).instances = omega (arith, (ranged 0 _ f.0 f.1).1) in
    let whole = paths_from (suc n) d q in
    inr (⊎_elim
    (λ (e : r ≡ f.0 ∷ q). subst (λ (u : Path). Rooted d whole u) (sym e) (inl refl, lt))
    (λ (k : Rooted d (paths_from n d (f.0 ∷ q)) r).
    rooted_more d (paths_from n d (f.0 ∷ q)) whole (λ p pm. inr (member_flat (λ i. paths_from n d (i ∷ q)) f.0 p _ f.1 pm)) r k)
    (rooted_from n d (f.0 ∷ q) r f.2)))
    m

pub rooted : (d : Design) (r : Path) → Member r (paths d) → Rooted d (paths d) r
unfolding paths
rooted d r m =
    ⊎_elim
    (λ (e : r ≡ []). subst (λ (u : Path). Rooted d (paths_from (MAX_DEPTH + 1) d []) u) (sym e) tt)
    (λ (k : Rooted d (paths_from (MAX_DEPTH + 1) d []) r). k)
    (rooted_from (MAX_DEPTH + 1) d [] r m)

top_from : (n : ℕ) (d : Design) (p : Path) → Member p (paths_from (n + 1) d p)
unfolding paths_from
top_from n d p = rw add-one (inl refl)

pub top_is_path : (d : Design) → Member [] (paths d)
unfolding paths
top_is_path d = top_from MAX_DEPTH d []

-- ---- what stands on each path

pub on_member : {A : Type 0} (d : Design) (f : Path → List A) (p : Path) (a : A) → Member p (paths d) → Member a (f p) → Member (on p a) (on_each d f)
on_member d f p a mp ma = member_flat (λ q. map (on q) (f q)) p (on p a) (paths d) mp (member_map (on p) a (f p) ma)

pub on_of : {A : Type 0} (d : Design) (f : Path → List A) (b : At A) → Member b (on_each d f) → Member b.path (paths d) × Member b.it (f b.path)
on_of {A} d f b m =
    let r = flattened (λ q. map (on q) (f q)) b (paths d) m in
    let k = mapped (on r.0) b (f r.0) r.2 in
    subst (λ (c : At A). Member c.path (paths d) × Member c.it (f c.path)) (sym k.2) (r.1, k.1)

-- a net on a path of the design
abbrev pub Valid : Design → PathNet → Type 0
Valid d a = Member a.path (paths d) × (a.it < length (own d a.path).names)

pub valid_member : (d : Design) (a : PathNet) → Valid d a → Member a (path_nets d)
valid_member d a v =
    on_member d (λ p. range_with_len 0 (length (own d p).names)) a.path a.it v.0 (in_range 0 _ a.it (omega arith) (omega (arith, v.1)))

pub member_valid : (d : Design) (a : PathNet) → Member a (path_nets d) → Valid d a
member_valid d a m =
    let r = on_of d (λ p. range_with_len 0 (length (own d p).names)) a m in
    (r.0, omega (arith, (ranged 0 _ a.it r.1).1))

-- ---- joins

joined_some : (js : List Join) (n m : ℕ) → joined_with js n ≡ Some m → (j : Join) × Member j js × (j.inner.0 ≡ n) × (j.outer.0 ≡ m)
joined_some [] n m e = absurd cc
joined_some (j ∷ js) n m e = by (nat_eq j.inner.0 n) refl e (joined_some js n m)
  where
    Found : List Join → Type 0
    Found ks = (k : Join) × Member k ks × (k.inner.0 ≡ n) × (k.outer.0 ≡ m)

    by : (b : Bool) → nat_eq j.inner.0 n ≡ b → option_map (λ (k : Join). k.outer.0)
        (cond b (Some j) (find (λ (k : Join). nat_eq k.inner.0 n) js)) ≡ Some m →
        (joined_with js n ≡ Some m → (k : Join) × Member k js × (k.inner.0 ≡ n) × (k.outer.0 ≡ m)) → (k : Join) × Member k (j ∷ js) × (k.inner.0 ≡ n)
        × (k.outer.0 ≡ m)
    by true t k rest = let same : j.outer.0 ≡ m = cc in (j, inl refl, eqb-true j.inner.0 n t, same)
    by false t k rest = let r = rest k in (r.0, inr r.1, r.2, r.3)

joined_one : (js : List Join) (j : Join) → IsDistinct nat_eq (map (λ (k : Join). k.inner.0) js) → Member j js → joined_with js j.inner.0 ≡ Some j.outer.0
joined_one [] j h m = absurd m
joined_one (k ∷ ks) j h m = by (nat_eq k.inner.0 j.inner.0) refl (joined_one ks j (IsDistinct-tail nat_eq k.inner.0 _ h))
  where
    by : (b : Bool) → nat_eq k.inner.0 j.inner.0 ≡ b → (Member j ks → joined_with ks j.inner.0 ≡ Some j.outer.0) →
        option_map (λ (i : Join). i.outer.0) (cond b (Some k) (find (λ (i : Join). nat_eq i.inner.0 j.inner.0) ks)) ≡ Some j.outer.0
    by true t rest =
        ⊎_elim
        (λ (e : j ≡ k). ap (λ (i : Join). Some i.outer.0) (sym e))
        (λ (l : Member j ks).
        let apart : nat_eq k.inner.0 j.inner.0 ≡ false =
        all_member (λ y. nat_eq k.inner.0 y ≡ false) _ j.inner.0 (IsDistinct-head nat_eq k.inner.0 _ h) (member_map (λ (i : Join). i.inner.0) j ks l) in
        absurd (true≢false (sym t ∙ apart)))
        m
    by false t rest =
        ⊎_elim
        (λ (e : j ≡ k). absurd (false≢true (sym t ∙ eq-eqb k.inner.0 j.inner.0 (ap (λ (i : Join). i.inner.0) (sym e)))))
        (λ (l : Member j ks). rest l)
        m

-- ---- roots

-- what joined bits keep equal
module _ (d : Design) (h : IsDesign d) where
  -- the root of a net: a net on a path, joined with none of its parent, to which joins lead
  pub record IsRootOf (a r : PathNet) : Type 0 where
    pub valid : Valid d r
    pub bare : is_root d r ≡ true
    pub links : IsLinked d a r

  root_is_from : (p : Path) (n : ℕ) → Member p (paths d) → n < length (own d p).names → IsRootOf (on p n) (root d p n)
  unfolding root
  root_is_from [] n mp lt = record { valid = (mp, lt); bare = refl; links = itself (on [] n) }
  root_is_from (i ∷ p) n mp lt = by (joined_with (joins_at d (i ∷ p)) n) refl
      (λ m pm lm. root_is_from p m pm lm)
    where
      by : (o : Option ℕ) → joined_with (joins_at d (i ∷ p)) n ≡ o →
          ((m : ℕ) → Member p (paths d) → m < length (own d p).names → IsRootOf (on p m) (root d p m)) →
          IsRootOf (on (i ∷ p) n) (elim o [ Some m ↦ root d p m | None ↦ on (i ∷ p) n ])
      by (Some m) e rest =
          let up : Rooted d (paths d) (i ∷ p) = rooted d (i ∷ p) mp in
          let j = joined_some (joins_at d (i ∷ p)) n m e in
          let inst = instance_is d h i p up.1 in
          let js = joins_at d (i ∷ p) in
          let Inside : Join → Type 0 = IsJoin (module_at d p) (module_at d (i ∷ p)) in
          let within : IsJoin (module_at d p) (module_at d (i ∷ p)) j.0 = all_member Inside js j.0 (recursion_from_All Inside js inst.within) j.1 in
          let lm : m < length (own d p).names = subst (λ k. k < length (own d p).names) j.3 within.0 in
          let r = rest m up.0 lm in
          let wire : At Join = on (i ∷ p) j.0 in
          let there = contains (joins d) wire (on_member d (joins_at d) (i ∷ p) j.0 mp j.1) in
          let from : IsLinked d (outer wire) (root d p m) = subst (λ k. IsLinked d (on p k) (root d p m)) (sym j.3) r.links in
          let to : IsLinked d (inner wire) (root d p m) = outward wire (root d p m) there from in
          record {
            valid = r.valid;
            bare = r.bare;
            links = subst (λ k. IsLinked d (on (i ∷ p) k) (root d p m)) j.2 to;
          }
      by None e rest = record { valid = (mp, lt); bare = ap is_none e; links = itself (on (i ∷ p) n) }

  pub root_is : (a : PathNet) → Valid d a → IsRootOf a (root_of d a)
  root_is a v = root_is_from a.path a.it v.0 v.1

  -- two joined nets have one root
  wire_root_from : (p : Path) (j : Join) → Member p (paths d) → Member j (joins_at d p) → root d p j.inner.0 ≡ root d (parent p) j.outer.0
  unfolding root
  wire_root_from [] j mp mj = absurd mj
  wire_root_from (i ∷ p) j mp mj =
      let up : Rooted d (paths d) (i ∷ p) = rooted d (i ∷ p) mp in
      let inst = instance_is d h i p up.1 in
      ap (λ (o : Option ℕ). elim o as (λ _. PathNet) [ Some m ↦ root d p m | None ↦ on (i ∷ p) j.inner.0 ]) (joined_one (joins_at d (i ∷ p)) j inst.once mj)

  pub wire_root : (j : At Join) → Member j (joins d) → root_of d (inner j) ≡ root_of d (outer j)
  wire_root j m = let r = on_of d (joins_at d) j m in wire_root_from j.path j.it r.0 r.1

  -- a net without a join is its own root
  root_bare_from : (p : Path) (n : ℕ) → is_root d (on p n) ≡ true → root d p n ≡ on p n
  unfolding root
  root_bare_from [] n e = refl
  root_bare_from (i ∷ p) n e = by (joined_with (joins_at d (i ∷ p)) n) e
    where
      by : (o : Option ℕ) → is_none o ≡ true → elim o as (λ _. PathNet) [ Some m ↦ root d p m | None ↦ on (i ∷ p) n ] ≡ on (i ∷ p) n
      by (Some m) t = absurd (false≢true t)
      by None t = refl

  pub root_bare : (a : PathNet) → is_root d a ≡ true → root_of d a ≡ a
  root_bare a e = root_bare_from a.path a.it e

  -- what joins lead to shows the same bit
  pub linked_same : (v : Valuation) → AllByRecursion (λ (j : At Join). v (outer j) ≡ v (inner j)) (joins d) → (a b : PathNet) → IsLinked d a b → v a ≡ v b
  linked_same v eq a b (itself c) = refl
  linked_same v eq a b (outward j c m l) =
      sym (all_member (λ (k : At Join). v (outer k) ≡ v (inner k)) (joins d) j eq (contained (joins d) j m)) ∙ linked_same v eq (outer j) c l
  linked_same v eq a b (inward j c m l) =
      all_member (λ (k : At Join). v (outer k) ≡ v (inner k)) (joins d) j eq (contained (joins d) j m) ∙ linked_same v eq (inner j) c l

  pub linked_root : (a b : PathNet) → IsLinked d a b → root_of d a ≡ root_of d b
  linked_root a b (itself c) = refl
  linked_root a b (outward j c m l) = wire_root j (contained (joins d) j m) ∙ linked_root (outer j) c l
  linked_root a b (inward j c m l) = sym (wire_root j (contained (joins d) j m)) ∙ linked_root (inner j) c l

  pub linked_trans : (a b c : PathNet) → IsLinked d a b → IsLinked d b c → IsLinked d a c
  linked_trans a b c (itself e) k = k
  linked_trans a b c (outward j e m l) k = outward j c m (linked_trans (outer j) b c l k)
  linked_trans a b c (inward j e m l) k = inward j c m (linked_trans (inner j) b c l k)

  pub linked_sym : (a b : PathNet) → IsLinked d a b → IsLinked d b a
  linked_sym a b (itself c) = itself c
  linked_sym a b (outward j c m l) =
      linked_trans c (outer j) (inner j) (linked_sym (outer j) c l) (inward j (inner j) m (itself (inner j)))
  linked_sym a b (inward j c m l) =
      linked_trans c (inner j) (outer j) (linked_sym (inner j) c l) (outward j (outer j) m (itself (outer j)))
