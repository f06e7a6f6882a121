-- The keys of flat nets are of bytes 33 to 126, where those of the modules and the names of instances are.
use Rattle.std.proofs.Common.{ℕ, zero, suc, ◌+◌, ◌<◌, ◌≤◌, true, not, ◌||◌, ◌==◌, List, [], ◌∷◌, ◌++◌, length, map, take, drop}
use Rattle.std.proofs.Common.{◌⊎◌, inl, inr, refl, arith, sym, subst}
use Rattle.std.specs.Prelude.{codes, is_some, slice_index_or}
use Rattle.std.specs.List.{All, prefix_len, range_with_len}
use Rattle.std.proofs.lemmas.Bool.{and_parts, and_from, cond_both, cases_lt}
use Rattle.std.proofs.lemmas.List.{get_or_past}
use Rattle.std.proofs.lemmas.List.Elements.{All-nil, All-from_recursion}
use Rattle.bs_bits.specs.Lines.{is_visible}
use Rattle.bs_lex.specs.Bytes.{is_graphic}
use Rattle.bs_verilog.specs.Law.{AreNames}
use Rattle.bs_verilog.proofs.NamedLemmas.{IsNamed, PartsNamed, named, named_append, visible_append}
use Rattle.bs_verilog.proofs.SpellingLemmas.{IsVisible}
use Rattle.bs_flat_meaning.specs.Design.{Design, Instance, Module, Path, PathNet, instance_in, module_at, module_in, no_instance, no_module, own, path_nets}
use Rattle.bs_flat_meaning.specs.Flat.{bit_of, flat_key, flat_nets, flat_parts, home, key_below, path_text}
use Rattle.bs_flat_meaning.specs.Meaning.{is_same}
use Rattle.bs_flat_meaning.proofs.MemberLemmas.{Member, all_of, filtered, mapped, ranged}
use Rattle.bs_flat_meaning.proofs.RootLemmas.{on_of}

-- ---- texts

visible_taken : (n : ℕ) (text : List ℕ) → IsVisible text → IsVisible (take n text)
visible_taken zero text v = refl
visible_taken (suc n) [] v = refl
visible_taken (suc n) (c ∷ text) v =
    let p = and_parts (is_graphic c) (is_visible text) v in
    and_from (is_graphic c) (is_visible (take n text)) p.0 (visible_taken n text p.1)

visible_dropped : (n : ℕ) (text : List ℕ) → IsVisible text → IsVisible (drop n text)
visible_dropped zero text v = v
visible_dropped (suc n) [] v = refl
visible_dropped (suc n) (c ∷ text) v = visible_dropped n text (and_parts (is_graphic c) (is_visible text) v).1

-- a text with `\` before it is a name
escaped_named : (text : List ℕ) → IsVisible text → IsNamed (codes "\\" ++ text)
escaped_named text v = named 92 text (and_from true (is_visible text) refl v)

below_named : (path key : List ℕ) → IsVisible path → IsVisible key → IsNamed (key_below path key)
below_named path key p k =
    let index = prefix_len (λ c. not (c == 92)) key in
    let name = prefix_len (λ c. not (c == 91)) key in
    cond_both (index == length key) _ _ IsNamed
    (λ _.
    named_append (drop name key) (codes "\\" ++ (path ++ take name key)) (visible_dropped name key k)
    (escaped_named (path ++ take name key) (visible_append path (take name key) p (visible_taken name key k))))
    (λ _.
    named_append (take index key) (codes "\\" ++ (path ++ drop (index + 1) key)) (visible_taken index key k)
    (escaped_named (path ++ drop (index + 1) key) (visible_append path (drop (index + 1) key) p (visible_dropped (index + 1) key k))))

-- ---- designs

-- the nets of a module have names, and the names of its instances are of such bytes
pub record IsNamedModule (m : Module) : Type 0 where
  pub nets : AreNames m.own.names
  pub instances : All (λ i. IsVisible i.name) m.instances

no_module_named : IsNamedModule no_module
no_module_named =
    record {
      nets = All-nil IsNamed;
      instances = All-nil (λ (i : Instance). IsVisible i.name);
    }

module _ (d : Design) (h : All IsNamedModule d.modules) where
  module_named : (n : ℕ) → IsNamedModule (module_in d n)
  module_named n = by (cases_lt n (length d.modules))
    where
      by : (n < length d.modules) ⊎ (length d.modules ≤ n) → IsNamedModule (module_in d n)
      by (inl within) = h n no_module within
      by (inr past) = subst IsNamedModule (sym (get_or_past d.modules n no_module past)) no_module_named

  named_at : (p : Path) → IsNamedModule (module_at d p)
  unfolding module_at
  named_at [] = module_named d.top
  named_at (i ∷ p) = module_named (instance_in (module_at d p) i).of

  instance_visible : (m : Module) (i : ℕ) → IsNamedModule m → IsVisible (instance_in m i).name
  instance_visible m i k = by (cases_lt i (length m.instances))
    where
      by : (i < length m.instances) ⊎ (length m.instances ≤ i) → IsVisible (instance_in m i).name
      by (inl within) = k.instances i no_instance within
      by (inr past) = subst (λ (j : Instance). IsVisible j.name) (sym (get_or_past m.instances i no_instance past)) refl

  path_visible : (p : Path) → IsVisible (path_text d p)
  unfolding path_text
  path_visible [] = refl
  path_visible (i ∷ p) =
      let name = (instance_in (module_at d p) i).name in
      visible_append (path_text d p) (name ++ codes ".") (path_visible p)
      (visible_append name (codes ".") (instance_visible (module_at d p) i (named_at p)) refl)

  key_named : (a : PathNet) → a.it < length (own d a.path).names → IsNamed (flat_key d a)
  unfolding flat_key
  key_named a within =
      let key = slice_index_or (own d a.path).names a.it [] in
      let k : IsNamed key = (named_at a.path).nets a.it [] within in
      cond_both (length a.path == 0 || is_some (bit_of d a)) key (key_below (path_text d a.path) key) IsNamed (λ _. k)
      (λ _. below_named (path_text d a.path) key (path_visible a.path) (and_parts _ (is_visible key) k).1)

  net_within : (a : PathNet) → Member a (flat_nets d) → a.it < length (own d a.path).names
  unfolding flat_nets
  net_within a m =
      let there = (filtered (λ (b : PathNet). is_same (home d b) b) a (path_nets d) m).0 in
      let r = ranged 0 (length (own d a.path).names) a.it (on_of d (λ p. range_with_len 0 (length (own d p).names)) a there).1 in
      omega (arith, r.1)

  pub design_named : PartsNamed (flat_parts d)
  unfolding flat_parts
  design_named =
      All-from_recursion IsNamed (map (flat_key d) (flat_nets d))
      (all_of IsNamed (map (flat_key d) (flat_nets d))
      (λ key m.
      let a = mapped (flat_key d) key (flat_nets d) m in
      subst IsNamed (sym a.2) (key_named a.0 (net_within a.0 a.1))))
