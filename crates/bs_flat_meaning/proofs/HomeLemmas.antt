-- The net that stands for each net, and its number.
use Rattle.std.proofs.Common.{◌≡◌, ℕ, ◌<◌, Bool, true, false, ◌&&◌, List, [], length, get_or, refl, subst, ap, sym, ◌∙◌, nat_eq, Option, Some, None, eq-eqb}
use Rattle.std.specs.Prelude.{find, unwrap_or, option_map}
use Rattle.std.specs.List.{AllByRecursion, position_or_len}
use Rattle.std.specs.Str.{bytes_eq}
use Rattle.std.specs.Cmp.Lexicographic.{bytes_decides}
use Rattle.bs_net.specs.Parts.{Parts}
use Rattle.bs_verilog_scope.specs.Keys.{constant_key}
use Rattle.std.proofs.lemmas.Bool.{false≢true, and_parts, and_from, eqb-true}
use Rattle.bs_net.specs.declared.net.Const.{Const}
use Rattle.bs_flat_meaning.specs.Design.{Design, At, PathNet, net_on, on, own, path_nets, constants, joins, outer, inner, Join}
use Rattle.bs_flat_meaning.specs.Meaning.{IsLinked, root_of, is_same, Valuation}
use Rattle.bs_flat_meaning.specs.Flat.{IsDesign, bit_of, is_named_so, is_root, is_bit, first_constant, home, home_from, flat_nets, flat_number}
use Rattle.bs_flat_meaning.proofs.MemberLemmas.{Member, all_member, member_filter, found, missed, first_passes}
use Rattle.bs_flat_meaning.proofs.RootLemmas.{same_from, same_to, Valid, valid_member, member_valid, on_member, on_of, root_is, root_bare, linked_root, linked_same}

pub is_bit_same : (b : Bool) → is_bit b (Some b) ≡ true
is_bit_same true = refl
is_bit_same false = refl

bit_is : (b : Bool) (o : Option Bool) → is_bit b o ≡ true → o ≡ Some b
bit_is b None e = absurd (false≢true e)
bit_is true (Some true) e = refl
bit_is true (Some false) e = absurd (false≢true e)
bit_is false (Some true) e = absurd (false≢true e)
bit_is false (Some false) e = refl

-- a key is that of one constant at most
one_bit : (key : List ℕ) (b c : Bool) → bytes_eq key (constant_key b) ≡ true → bytes_eq key (constant_key c) ≡ true → b ≡ c
one_bit key true true e f = refl
one_bit key false false e f = refl
one_bit key true false e f =
    let same : constant_key true ≡ constant_key false = sym ((bytes_decides key (constant_key true)).0 e) ∙ (bytes_decides key (constant_key false)).0 f in
    absurd (false≢true ((bytes_decides (constant_key true) (constant_key false)).1 same))
one_bit key false true e f =
    let same : constant_key false ≡ constant_key true = sym ((bytes_decides key (constant_key false)).0 e) ∙ (bytes_decides key (constant_key true)).0 f in
    absurd (false≢true ((bytes_decides (constant_key false) (constant_key true)).1 same))

module _ (d : Design) (h : IsDesign d) where
  -- a net without a join to its parent that is a constant
  abbrev pub IsConstant : Bool → PathNet → Type 0
  IsConstant b s = Valid d s × (is_root d s ≡ true) × (bit_of d s ≡ Some b)

  pub first_is : (c : PathNet) (b : Bool) → IsConstant b c → IsConstant b (first_constant d b)
  unfolding first_constant
  first_is c b v = by (find test (path_nets d)) refl
    where
      test : PathNet → Bool
      test a = is_root d a && is_bit b (bit_of d a)

      passes : test c ≡ true
      passes = and_from (is_root d c) (is_bit b (bit_of d c)) v.1 (ap (is_bit b) v.2 ∙ is_bit_same b)

      by : (o : Option PathNet) → find test (path_nets d) ≡ o → IsConstant b (unwrap_or o (record { path = []; it = 0 }))
      by (Some s) e =
          let f = found test (path_nets d) s e in
          let parts = and_parts (is_root d s) (is_bit b (bit_of d s)) f.1 in
          (member_valid d s f.0, parts.0, bit_is b (bit_of d s) parts.1)
      by None e = absurd (false≢true (sym (missed test (path_nets d) c e (valid_member d c v.0)) ∙ passes))

  pub home_none : (a : PathNet) → bit_of d (root_of d a) ≡ None → home d a ≡ root_of d a
  unfolding home
  home_none a e = ap (home_from d (root_of d a)) e

  pub home_some : (a : PathNet) (b : Bool) → bit_of d (root_of d a) ≡ Some b → home d a ≡ first_constant d b
  unfolding home
  home_some a b e = ap (home_from d (root_of d a)) e

  pub data HomeCases (a : PathNet) : Type 0 where
    at_root : bit_of d (root_of d a) ≡ None → home d a ≡ root_of d a → HomeCases a
    at_constant : (b : Bool) → bit_of d (root_of d a) ≡ Some b → home d a ≡ first_constant d b → HomeCases a

  pub home_cases : (a : PathNet) → HomeCases a
  home_cases a = by (bit_of d (root_of d a)) refl
    where
      by : (o : Option Bool) → bit_of d (root_of d a) ≡ o → HomeCases a
      by None e = at_root e (home_none a e)
      by (Some b) e = at_constant b e (home_some a b e)

  -- the root of a net with a constant's key
  pub root_constant : (a : PathNet) (b : Bool) → Valid d a → bit_of d (root_of d a) ≡ Some b → IsConstant b (root_of d a)
  root_constant a b v e = let r = root_is d h a v in (r.valid, r.bare, e)

  pub record IsHome (a : PathNet) : Type 0 where
    pub valid : Valid d (home d a)
    pub bare : is_root d (home d a) ≡ true
    pub again : home d (home d a) ≡ home d a

  pub home_is : (a : PathNet) → Valid d a → IsHome a
  home_is a v = by (home_cases a)
    where
      by : HomeCases a → IsHome a
      by (at_root e same) =
          let r = root_is d h a v in
          let bare : is_root d (home d a) ≡ true = subst (λ (s : PathNet). is_root d s ≡ true) (sym same) r.bare in
          let own_root : root_of d (home d a) ≡ home d a = root_bare d h (home d a) bare in
          let plain : bit_of d (root_of d (home d a)) ≡ None = ap (bit_of d) (own_root ∙ same) ∙ e in
          record {
            valid = subst (λ (s : PathNet). Valid d s) (sym same) r.valid;
            bare = bare;
            again = home_none (home d a) plain ∙ own_root;
          }
      by (at_constant b e same) =
          let f = first_is (root_of d a) b (root_constant a b v e) in
          let bare : is_root d (home d a) ≡ true = subst (λ (s : PathNet). is_root d s ≡ true) (sym same) f.1 in
          let own_root : root_of d (home d a) ≡ home d a = root_bare d h (home d a) bare in
          let bit : bit_of d (root_of d (home d a)) ≡ Some b = ap (bit_of d) (own_root ∙ same) ∙ f.2 in
          record {
            valid = subst (λ (s : PathNet). Valid d s) (sym same) f.0;
            bare = bare;
            again = home_some (home d a) b bit ∙ sym same;
          }

  -- ---- numbers

  home_kept : (a : PathNet) → Valid d a → Member (home d a) (flat_nets d)
  unfolding flat_nets
  home_kept a v =
      let k = home_is a v in
      member_filter (λ s. is_same (home d s) s) (home d a) (path_nets d) (valid_member d (home d a) k.valid) (same_to (home d (home d a)) (home d a) k.again)

  number_first : (a e : PathNet) → Valid d a → (flat_number d a < length (flat_nets d)) × (is_same (home d a) (get_or (flat_nets d) (flat_number d a) e) ≡ true)
  unfolding flat_number
  number_first a e v =
      first_passes (is_same (home d a)) (flat_nets d) (home d a) e (home_kept a v) (same_to (home d a) (home d a) refl)

  pub number_within : (a : PathNet) → Valid d a → flat_number d a < length (flat_nets d)
  number_within a v = (number_first a a v).0

  pub number_home : (a e : PathNet) → Valid d a → get_or (flat_nets d) (flat_number d a) e ≡ home d a
  number_home a e v = sym (same_from (home d a) _ (number_first a e v).1)

  pub same_home : (a b : PathNet) → Valid d a → Valid d b → flat_number d a ≡ flat_number d b → home d a ≡ home d b
  same_home a b v w e =
      sym (number_home a a v) ∙ (ap (λ (n : ℕ). get_or (flat_nets d) n a) e ∙ number_home b a w)

  pub same_number : (a b : PathNet) → home d a ≡ home d b → flat_number d a ≡ flat_number d b
  unfolding flat_number
  same_number a b e = ap (λ (s : PathNet). position_or_len (is_same s) (flat_nets d)) e

  root_home : (a b : PathNet) → root_of d a ≡ root_of d b → home d a ≡ home d b
  unfolding home
  root_home a b e = ap (λ (r : PathNet). home_from d r (bit_of d r)) e

  pub root_number : (a b : PathNet) → root_of d a ≡ root_of d b → flat_number d a ≡ flat_number d b
  root_number a b e = same_number a b (root_home a b e)

  pub linked_number : (a b : PathNet) → IsLinked d a b → flat_number d a ≡ flat_number d b
  linked_number a b l = root_number a b (linked_root d h a b l)

  -- ---- constants

  -- the constant that a net with a constant's key is
  abbrev pub constant_at : PathNet → Bool → At Const
  constant_at r b = on r.path (record { net = record { 0 = r.it }; value = b })

  pub constant_there : (r : PathNet) (b : Bool) → Valid d r → bit_of d r ≡ Some b → Member (constant_at r b) (constants d)
  constant_there r b v e =
      let parts = own d r.path in
      let test : Const → Bool = λ k. nat_eq k.net.0 r.it && is_named_so parts k in
      let k = value_of (find test parts.consts) b e in
      let f = found test parts.consts k.0 k.1 in
      let at_net : k.0.net.0 ≡ r.it = eqb-true k.0.net.0 r.it (and_parts (nat_eq k.0.net.0 r.it) (is_named_so parts k.0) f.1).0 in
      let same : k.0 ≡ record { net = record { 0 = r.it }; value = b } = λ i. record { net = record { 0 = at_net i }; value = k.2 i } in
      on_member d (λ p. (own d p).consts) r.path (record { net = record { 0 = r.it }; value = b }) v.0 (subst (λ (c : Const). Member c parts.consts) same f.0)
    where
      value_of : (o : Option Const) (c : Bool) → option_map (λ (k : Const). k.value) o ≡ Some c → (k : Const) × (o ≡ Some k) × (k.value ≡ c)
      value_of None c q = absurd cc
      value_of (Some k) c q = let same : k.value ≡ c = cc in (k, refl, same)

  -- the bit of a constant's net, where that is no supply
  pub constant_known : (k : At Const) → Member k (constants d) → is_named_so (own d k.path) k.it ≡ true → bit_of d (net_on k.path k.it.net) ≡ Some k.it.value
  constant_known k m named = by (find test parts.consts) refl
    where
      parts : Parts
      parts = own d k.path

      test : Const → Bool
      test c = nat_eq c.net.0 k.it.net.0 && is_named_so parts c

      passes : test k.it ≡ true
      passes = and_from (nat_eq k.it.net.0 k.it.net.0) (is_named_so parts k.it) (eq-eqb k.it.net.0 k.it.net.0 refl) named

      key : List ℕ
      key = get_or parts.names k.it.net.0 []

      by : (o : Option Const) → find test parts.consts ≡ o → option_map (λ (c : Const). c.value) o ≡ Some k.it.value
      by None e =
          absurd (false≢true (sym (missed test parts.consts k.it e (on_of d (λ p. (own d p).consts) k m).1) ∙ passes))
      by (Some c) e =
          let f = found test parts.consts c e in
          let both = and_parts (nat_eq c.net.0 k.it.net.0) (is_named_so parts c) f.1 in
          let other : bytes_eq key (constant_key c.value) ≡ true =
          subst (λ (n : ℕ). bytes_eq (get_or parts.names n []) (constant_key c.value) ≡ true) (eqb-true c.net.0 k.it.net.0 both.0) both.1 in
          ap Some (one_bit key c.value k.it.value other named)

  -- a valuation that joins and constants agree with shows one bit on all nets of one number
  module _ (v : Valuation) (wires : AllByRecursion (λ (j : At Join). v (outer j) ≡ v (inner j)) (joins d))
      (values : AllByRecursion (λ (k : At Const). v (net_on k.path k.it.net) ≡ k.it.value) (constants d)) where
    constant_shown : (r : PathNet) (b : Bool) → Valid d r → bit_of d r ≡ Some b → v r ≡ b
    constant_shown r b w e = all_member (λ (k : At Const). v (net_on k.path k.it.net) ≡ k.it.value) (constants d) (constant_at r b) values
        (constant_there r b w e)

    pub home_shown : (a : PathNet) → Valid d a → v a ≡ v (home d a)
    home_shown a w = by (home_cases a)
      where
        up : v a ≡ v (root_of d a)
        up = linked_same d h v wires a (root_of d a) (root_is d h a w).links

        by : HomeCases a → v a ≡ v (home d a)
        by (at_root e same) = up ∙ ap v (sym same)
        by (at_constant b e same) =
            let r = root_constant a b w e in
            let f = first_is (root_of d a) b r in
            up ∙ (constant_shown (root_of d a) b r.0 r.2 ∙ (sym (constant_shown (first_constant d b) b f.0 f.2) ∙ ap v (sym same)))

    pub same_shown : (a b : PathNet) → Valid d a → Valid d b → flat_number d a ≡ flat_number d b → v a ≡ v b
    same_shown a b wa wb e = home_shown a wa ∙ (ap v (same_home a b wa wb e) ∙ sym (home_shown b wb))
