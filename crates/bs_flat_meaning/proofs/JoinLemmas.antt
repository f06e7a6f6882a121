-- The design that is read keeps what the law of flattening asks for.
use Rattle.std.proofs.Common.{◌≡◌, ℕ, zero, suc, ◌<◌, ◌≤◌, ◌+◌, Bool, true, false, not, cond, ◌&&◌, ◌||◌, List, [], ◌∷◌, ◌++◌, map, length, refl, arith}
use Rattle.std.proofs.Common.{subst, ap, sym, ◌∙◌, ◌⊎◌, inl, inr, ⊎_elim, nat_eq, Option, Some, None, ne_eqb}
use Rattle.std.specs.Prelude.{find, is_some, unwrap_or}
use Rattle.std.specs.List.{AllByRecursion, All, IsDistinct, list_any, flat_map, range_with_len}
use Rattle.std.proofs.lemmas.Bool.{true≢false, false≢true, eqb-true, eqb-false, or_parts, and_parts, cases_lt}
use Rattle.std.proofs.lemmas.List.{map-append, get_or-map, get_or_past, length_push}
use Rattle.std.specs.Str.{bytes_eq}
use Rattle.std.proofs.lemmas.List.Quantifiers.{position-Some}
use Rattle.std.proofs.lemmas.List.Elements.{All-from_recursion, recursion_from_All, All-weaker, All-push}
use Rattle.bs_net.specs.declared.net.NetId.{NetId}
use Rattle.bs_net.specs.declared.net.Const.{Const}
use Rattle.bs_net.specs.declared.net.Gate.{Gate}
use Rattle.bs_net.specs.Parts.{Parts, IsFlopPlaced, mode_nets}
use Rattle.bs_net.specs.Names.{with_key, number_of}
use Rattle.bs_net.proofs.CallerLemmas.{with_key-grows, appended}
use Rattle.bs_lex.specs.declared.lexeme.Name.{Name}
use Rattle.bs_verilog_syntax.specs.declared.tree.Says.{Says}
use Rattle.bs_verilog_syntax.specs.declared.tree.Term.{Term}
use Rattle.bs_verilog_syntax.specs.declared.tree.Term.TheVariants.{Constant, Named}
use Rattle.bs_verilog_syntax.specs.declared.tree.Connection.{Connection}
use Rattle.bs_verilog_syntax.specs.declared.tree.Connection.TheVariants.{Empty, Place, Pin}
use Rattle.bs_verilog_scope.specs.Keys.{text, scalar_key, constant_key}
use Rattle.bs_verilog_scope.specs.Nets.{net_of}
use Rattle.bs_verilog.specs.Building.{has_key}
use Rattle.bs_flat_meaning.specs.Design.{Module, Instance, Join, no_module, module_in}
use Rattle.bs_flat_meaning.specs.Flat.{IsDesign, IsModule, IsInstance, IsJoin, HasNets}
use Rattle.bs_verilog_syntax.specs.declared.tree.Direction.TheVariants as directions
use Rattle.bs_verilog_scope.specs.Declaring.{direction_of}
use Rattle.bs_verilog.specs.Netlist.{is_towards}
use Rattle.bs_flat_meaning.specs.Pieces.{Piece}
use Rattle.bs_flat_meaning.specs.declared.statements.Written.{Written}
use Rattle.bs_flat_meaning.specs.Connecting.{ReadModule, Port, Connected, scope_of, width_of, ports_from, ports_of, term_by_place, is_id, by_places, by_pins}
use Rattle.bs_flat_meaning.specs.Connecting.{has_pins, connected, term_keys, goes, term_fault, pin_fault, connected_fault, with_term, with_terms, terms_of}
use Rattle.bs_flat_meaning.specs.Connecting.{whole_parts, joins_from, keys_for, joins_with, joins_of, term_place, is_constant_term}
use Rattle.bs_flat_meaning.specs.Reading.{IsRead, DesignsAreWhole, read_at, no_read_module, place_in, connections_of, instance_of, module_from, design_of}
use Rattle.bs_flat_meaning.specs.Reading.{connect_fault, first_of}
use Rattle.bs_flat_meaning.proofs.MemberLemmas.{Member, all_member, all_of, member_map, mapped, member_left, member_right, member_split, member_flat, flattened}
use Rattle.bs_flat_meaning.proofs.MemberLemmas.{member_at, ranged, found}

-- ---- numbers

-- the net of a key is one of the names, where there are any
net_within : (names : List (List ℕ)) (key : List ℕ) → 0 < length names → (net_of names key).0 < length names
net_within names key h = by (number_of names key) refl
  where
    by : (o : Option ℕ) → number_of names key ≡ o → unwrap_or o 0 < length names
    by (Some i) e = (position-Some (bytes_eq key) names i [] e).0
    by None e = h

abbrev inners : List Join → List ℕ
inners js = map (λ (j : Join). j.inner.0) js

distinct_append : (xs ys : List ℕ) → IsDistinct nat_eq xs → IsDistinct nat_eq ys → ((n : ℕ) → Member n xs → Member n ys → ⊥) → IsDistinct nat_eq (xs ++ ys)
unfolding IsDistinct
distinct_append [] ys a b f = b
distinct_append (x ∷ xs) ys a b f = (
  all_of (λ y. nat_eq x y ≡ false) (xs ++ ys)
      (λ y m.
      ⊎_elim
      (λ (l : Member y xs). all_member (λ z. nat_eq x z ≡ false) xs y a.0 l)
      (λ (r : Member y ys). ne_eqb x y (λ e. f x (inl refl) (subst (λ z. Member z ys) (sym e) r)))
      (member_split y xs ys m)),
  distinct_append xs ys a.1 b (λ n l r. f n (inr l) r),
)

range_distinct : (a k : ℕ) → IsDistinct nat_eq (range_with_len a k)
unfolding IsDistinct
range_distinct a zero = tt
range_distinct a (suc k) = (
  all_of (λ y. nat_eq a y ≡ false) (range_with_len (a + 1) k) (λ y m. let r = ranged (a + 1) k y m in ne_eqb a y (λ e. omega (arith, e, r.0))),
  range_distinct (a + 1) k,
)

joins_inner : (names : List (List ℕ)) (first : ℕ) (ks : List (List ℕ)) → inners (joins_from names first ks) ≡ range_with_len first (length ks)
unfolding joins_from
joins_inner names first [] = refl
joins_inner names first (k ∷ ks) = ap (λ u. first ∷ u) (joins_inner names (first + 1) ks)

inners_flat : {X : Type 0} (f : X → List Join) (xs : List X) → inners (flat_map f xs) ≡ flat_map (λ x. inners (f x)) xs
inners_flat f [] = refl
inners_flat f (x ∷ xs) = map-append (λ (j : Join). j.inner.0) (f x) (flat_map f xs) ∙ ap (λ u. inners (f x) ++ u) (inners_flat f xs)

-- ---- ports

-- two ports have no bit in common
abbrev pub AreApart : Port → Port → Type 0
AreApart p q = (p.first + p.width ≤ q.first) ⊎ (q.first + q.width ≤ p.first)

ports_after : (width : Name → ℕ) (first : ℕ) (ns : List Name) (p : Port) → Member p (ports_from width first ns) → first ≤ p.first
unfolding ports_from
ports_after width first [] p m = absurd m
ports_after width first (n ∷ ns) p m =
    ⊎_elim
    (λ (e : p ≡ record { name = n; first = first; width = width n }). let same : p.first ≡ first = ap (λ (q : Port). q.first) e in omega (arith, same))
    (λ (l : Member p (ports_from width (first + width n) ns)). let k = ports_after width (first + width n) ns p l in omega (arith, k))
    m

ports_apart : (width : Name → ℕ) (first : ℕ) (ns : List Name) (p q : Port) → Member p (ports_from width first ns) → Member q (ports_from width first ns) →
    (p.name.id ≡ q.name.id → ⊥) → AreApart p q
unfolding ports_from
ports_apart width first [] p q m k ne = absurd m
ports_apart width first (n ∷ ns) p q m k ne =
    let head : Port = record { name = n; first = first; width = width n } in
    let rest = ports_from width (first + width n) ns in
    ⊎_elim
    (λ (e : p ≡ head).
    ⊎_elim
    (λ (f : q ≡ head). absurd (ne (ap (λ (r : Port). r.name.id) (e ∙ sym f))))
    (λ (l : Member q rest).
    let a = ports_after width (first + width n) ns q l in
    inl (subst (λ (r : Port). r.first + r.width ≤ q.first) (sym e) a))
    k)
    (λ (l : Member p rest).
    ⊎_elim
    (λ (f : q ≡ head).
    let a = ports_after width (first + width n) ns p l in
    inr (subst (λ (r : Port). r.first + r.width ≤ p.first) (sym f) a))
    (λ (r : Member q rest). ports_apart width (first + width n) ns p q l r ne)
    k)
    m

-- ---- the ports of connections

-- no two connections have a port in common
abbrev PortsApart : Option Port → Option Port → Type 0
PortsApart (Some p) (Some q) = AreApart p q
PortsApart _ _ = Unit {0}

abbrev EachApart : List Connected → Type 0
EachApart [] = Unit {0}
EachApart (c ∷ cs) = AllByRecursion (λ (k : Connected). PortsApart c.port k.port) cs × EachApart cs

-- a connection's port is one of the list
abbrev IsOneOf : List Port → Option Port → Type 0
IsOneOf ports (Some p) = Member p ports
IsOneOf ports None = Unit {0}

one_more : (p : Port) (ps : List Port) (o : Option Port) → IsOneOf ps o → IsOneOf (p ∷ ps) o
one_more p ps (Some q) m = inr m
one_more p ps None m = tt

places_ports : (ports : List Port) (cs : List Connection) → AllByRecursion (λ (k : Connected). IsOneOf ports k.port) (by_places ports cs)
unfolding by_places
places_ports ports [] = tt
places_ports [] (c ∷ cs) = (tt, places_ports [] cs)
places_ports (p ∷ ps) (c ∷ cs) = (
  inl refl,
  all_of (λ (k : Connected). IsOneOf (p ∷ ps) k.port) (by_places ps cs)
      (λ k m. one_more p ps k.port (all_member (λ (k' : Connected). IsOneOf ps k'.port) (by_places ps cs) k (places_ports ps cs) m)),
)

places_apart : (width : Name → ℕ) (first : ℕ) (ns : List Name) (cs : List Connection) → EachApart (by_places (ports_from width first ns) cs)
unfolding ports_from by_places
places_apart width first ns [] = tt
places_apart width first [] (c ∷ cs) = (none (by_places [] cs), places_apart width first [] cs)
  where
    none : (ks : List Connected) → AllByRecursion (λ (k : Connected). PortsApart None k.port) ks
    none [] = tt
    none (k ∷ ks) = (tt, none ks)
places_apart width first (n ∷ ns) (c ∷ cs) =
    let rest = ports_from width (first + width n) ns in (
      all_of (λ (k : Connected). PortsApart (Some (record { name = n; first = first; width = width n })) k.port) (by_places rest cs)
          (λ k m. later k.port (all_member (λ (k' : Connected). IsOneOf rest k'.port) (by_places rest cs) k (places_ports rest cs) m)),
      places_apart width (first + width n) ns cs,
    )
  where
    later : (o : Option Port) → IsOneOf (ports_from width (first + width n) ns) o → PortsApart (Some (record { name = n; first = first; width = width n })) o
    later (Some q) m = inl (ports_after width (first + width n) ns q m)
    later None m = tt

-- a pin's port has its name
abbrev HasName : Option Name → Option Port → Type 0
HasName (Some n) (Some p) = p.name.id ≡ n.id
HasName _ _ = Unit {0}

-- a connection has a pin that is none of these
abbrev IsNew : List Name → Connected → Type 0
IsNew given k = (n : Name) × (k.pin ≡ Some n) × (k.is_second ≡ false → list_any (is_id n.id) given ≡ false)

found_port : (ports : List Port) (n : Name) (o : Option Port) → find (λ (p : Port). is_id n.id p.name) ports ≡ o → IsOneOf ports o × HasName (Some n) o
found_port ports n (Some p) e =
    let f = found (λ (q : Port). is_id n.id q.name) ports p e in
    (f.0, eqb-true p.name.id n.id f.1)
found_port ports n None e = (tt, tt)

pins_ports : (ports : List Port) (given : List Name) (cs : List Connection) →
    AllByRecursion (λ (k : Connected). IsOneOf ports k.port × HasName k.pin k.port × IsNew given k) (by_pins ports given cs)
unfolding by_pins
pins_ports ports given [] = tt
pins_ports ports given (Pin n t ∷ cs) =
    let f = found_port ports n (find (λ (p : Port). is_id n.id p.name) ports) refl in (
      (f.0, f.1, (n, refl, λ e. e)),
      all_of (λ (k : Connected). IsOneOf ports k.port × HasName k.pin k.port × IsNew given k) (by_pins ports (n ∷ given) cs)
          (λ k m.
          let a = all_member (λ (k' : Connected). IsOneOf ports k'.port × HasName k'.pin k'.port
          × IsNew (n ∷ given) k') (by_pins ports (n ∷ given) cs) k (pins_ports ports (n ∷ given) cs) m in
          (a.0, a.1, (a.2.0, a.2.1, λ e. (or_parts (is_id a.2.0.id n) (list_any (is_id a.2.0.id) given) (a.2.2 e)).1))),
    )
pins_ports ports given (Empty ∷ cs) = pins_ports ports given cs
pins_ports ports given (Place t ∷ cs) = pins_ports ports given cs

pins_apart : (width : Name → ℕ) (first : ℕ) (ns given : List Name) (cs : List Connection) →
    AllByRecursion (λ (k : Connected). k.is_second ≡ false) (by_pins (ports_from width first ns) given cs) →
    EachApart (by_pins (ports_from width first ns) given cs)
unfolding by_pins
pins_apart width first ns given [] s = tt
pins_apart width first ns given (Pin n t ∷ cs) s =
    let ports = ports_from width first ns in
    let f = found_port ports n (find (λ (p : Port). is_id n.id p.name) ports) refl in (
      all_of (λ (k : Connected). PortsApart (find (λ (p : Port). is_id n.id p.name) ports) k.port) (by_pins ports (n ∷ given) cs)
          (λ k m.
          let a = all_member (λ (k' : Connected). IsOneOf ports k'.port × HasName k'.pin k'.port
          × IsNew (n ∷ given) k') (by_pins ports (n ∷ given) cs) k (pins_ports ports (n ∷ given) cs) m in
          let fresh = a.2.2 (all_member (λ (k' : Connected). k'.is_second ≡ false) (by_pins ports (n ∷ given) cs) k s.1 m) in
          let other = (or_parts (is_id a.2.0.id n) (list_any (is_id a.2.0.id) given) fresh).0 in
          two (find (λ (p : Port). is_id n.id p.name) ports) k.port a.2.0 f.0 f.1 a.0 (subst (λ (o : Option Name). HasName o k.port) a.2.1 a.1)
          (eqb-false n.id a.2.0.id other)),
      pins_apart width first ns (n ∷ given) cs s.1,
    )
  where
    two : (o w : Option Port) (m : Name) → IsOneOf (ports_from width first ns) o → HasName (Some n) o → IsOneOf (ports_from width first ns) w →
        HasName (Some m) w → (n.id ≡ m.id → ⊥) → PortsApart o w
    two (Some p) (Some q) m a b c' e ne = ports_apart width first ns p q a c' (λ same. ne (sym b ∙ (same ∙ e)))
    two (Some p) None m a b c' e ne = tt
    two None w m a b c' e ne = tt
pins_apart width first ns given (Empty ∷ cs) s = pins_apart width first ns given cs s
pins_apart width first ns given (Place t ∷ cs) s = pins_apart width first ns given cs s

-- ---- connections that go with their ports

module _ (table : List (List ℕ)) (m below : ReadModule) where
  abbrev GoesWell : Connected → Type 0
  GoesWell c = connected_fault table m below c ≡ None

  no_some : {X : Type 0} (b : Bool) (x : X) (o : Option X) → cond b (Some x) o ≡ None → (b ≡ false) × (o ≡ None)
  no_some true x o e = absurd cc
  no_some false x o e = (refl, e)

  goes_width : (p : Port) (t : Term) → goes table m below p t ≡ true → length (keys_for table m (Some t)) ≡ p.width
  unfolding goes
  goes_width p t e = by (term_keys table (scope_of m) t) e
    where
      fits : List (List ℕ) → Bool
      fits ks =
          nat_eq (length ks) p.width
          && not (is_constant_term t && is_towards directions.Output (direction_of (scope_of below p.name.id)))

      by : (o : Option (List (List ℕ))) → elim o as (λ _. Bool) [ None ↦ false | Some ks ↦ fits ks ] ≡ true → length (unwrap_or o []) ≡ p.width
      by None k = absurd (false≢true k)
      by (Some ks) k = eqb-true (length ks) p.width (and_parts (nat_eq (length ks) p.width) _ k).0

  term_fits : (p : Port) (t : Option Term) → term_fault table m below (Some p) t ≡ None → length (keys_for table m t) ≤ p.width
  term_fits p None e = omega arith
  term_fits p (Some t) e = by (goes table m below p t) refl e
    where
      by : (b : Bool) → goes table m below p t ≡ b → cond b None (Some (term_place t)) ≡ None → length (keys_for table m (Some t)) ≤ p.width
      by true g k = let same = goes_width p t g in omega (arith, same)
      by false g k = absurd cc

  well_term : (c : Connected) → GoesWell c → term_fault table m below c.port c.term ≡ None
  well_term c e = by c.pin e
    where
      by : (o : Option Name) → pin_fault table m below c o ≡ None → term_fault table m below c.port c.term ≡ None
      by None k = k
      by (Some n) k = (no_some (not (is_some c.port) || c.is_second) n.at (term_fault table m below c.port c.term) k).1

  well_fits : (c : Connected) (p : Port) → GoesWell c → c.port ≡ Some p → length (keys_for table m c.term) ≤ p.width
  well_fits c p e same =
      term_fits p c.term (subst (λ (o : Option Port). term_fault table m below o c.term ≡ None) same (well_term c e))

  well_first : (c : Connected) (n : Name) → GoesWell c → c.pin ≡ Some n → c.is_second ≡ false
  well_first c n e same =
      let k = no_some (not (is_some c.port) || c.is_second) n.at (term_fault table m below c.port c.term)
      (subst (λ (o : Option Name). pin_fault table m below c o ≡ None) same e) in
      (or_parts (not (is_some c.port)) c.is_second k.0).1

  -- the bits that a connection joins lie in its port
  record IsIn (c : Connected) (n : ℕ) : Type 0 where
    port : Port
    is : c.port ≡ Some port
    from : port.first ≤ n
    to : n < port.first + port.width

  span : (c : Connected) (n : ℕ) → GoesWell c → Member n (inners (joins_of table m c)) → IsIn c n
  span c n e k = by c.port refl k
    where
      by : (o : Option Port) → c.port ≡ o → Member n (inners (joins_with (whole_parts table m).names o (keys_for table m c.term))) → IsIn c n
      by None same l = absurd l
      by (Some p) same l =
          let ks = keys_for table m c.term in
          let r = ranged p.first (length ks) n (subst (λ (ns : List ℕ). Member n ns) (joins_inner (whole_parts table m).names p.first ks) l) in
          let fits = well_fits c p e same in
          record { port = p; is = same; from = r.0; to = omega (arith, r.1, fits) }

  one_distinct : (c : Connected) → IsDistinct nat_eq (inners (joins_of table m c))
  one_distinct c = by c.port
    where
      by : (o : Option Port) → IsDistinct nat_eq (inners (joins_with (whole_parts table m).names o (keys_for table m c.term)))
      by None = range_distinct 0 0
      by (Some p) =
          subst (λ (ns : List ℕ). IsDistinct nat_eq ns) (sym (joins_inner (whole_parts table m).names p.first (keys_for table m c.term)))
          (range_distinct p.first (length (keys_for table m c.term)))

  apart_bits : (c k : Connected) (n : ℕ) → PortsApart c.port k.port → IsIn c n → IsIn k n → ⊥
  apart_bits c k n a i j =
      let b = subst (λ (o : Option Port). PortsApart o k.port) i.is a in
      let both : AreApart i.port j.port = subst (λ (o : Option Port). PortsApart (Some i.port) o) j.is b in
      ⊎_elim (λ (l : i.port.first + i.port.width ≤ j.port.first). omega (arith, l, i.to, j.from))
      (λ (r : j.port.first + j.port.width ≤ i.port.first). omega (arith, r, i.from, j.to)) both

  joins_distinct : (cs : List Connected) → EachApart cs → AllByRecursion GoesWell cs → IsDistinct nat_eq (inners (flat_map (joins_of table m) cs))
  joins_distinct [] a w = range_distinct 0 0
  joins_distinct (c ∷ cs) a w =
      let rest = flat_map (joins_of table m) cs in
      subst (λ (ns : List ℕ). IsDistinct nat_eq ns) (sym (map-append (λ (j : Join). j.inner.0) (joins_of table m c) rest))
      (distinct_append (inners (joins_of table m c)) (inners rest) (one_distinct c) (joins_distinct cs a.1 w.1)
      (λ n l r.
      let f = flattened (λ (k : Connected). inners (joins_of table m k)) n cs (subst (λ (ns : List ℕ). Member n ns) (inners_flat (joins_of table m) cs) r) in
      apart_bits c f.0 n (all_member (λ (k : Connected). PortsApart c.port k.port) cs f.0 a.0 f.1) (span c n w.0 l)
      (span f.0 n (all_member GoesWell cs f.0 w.1 f.1) f.2)))

-- ---- the nets that connections add

grows_term : (table : List (List ℕ)) (scope : ℕ → Option Says) (parts : Parts) (t : Term) → length parts.names ≤ length (with_term table scope parts t).names
unfolding with_term
grows_term table scope parts (Constant place b) = by (has_key parts.names (constant_key b))
  where
    by : (x : Bool) → length parts.names ≤ length (cond x parts (record parts {
      names = with_key parts.names (constant_key b);
      consts =
          parts.consts ++ record { net = record { 0 = length parts.names }; value = b } ∷ [];
    })).names
    by true = omega arith
    by false = with_key-grows parts.names (constant_key b)
grows_term table scope parts (Named n index) = by (scope n.id)
  where
    by : (o : Option Says) → length parts.names ≤ length (elim o as (λ _. Parts) [
      | Some s ↦ parts
      | None ↦ record parts {
        names =
            with_key parts.names (scalar_key (text table n));
      }
    ]).names
    by (Some s) = omega arith
    by None = with_key-grows parts.names (scalar_key (text table n))

grows_terms : (table : List (List ℕ)) (scope : ℕ → Option Says) (parts : Parts) (ts : List Term) →
    length parts.names ≤ length (with_terms table scope parts ts).names
unfolding with_terms
grows_terms table scope parts [] = omega arith
grows_terms table scope parts (t ∷ ts) =
    let a = grows_term table scope parts t in
    let b = grows_terms table scope (with_term table scope parts t) ts in
    omega (arith, a, b)

any_some : (names : List (List ℕ)) (key : List ℕ) → 0 < length (with_key names key)
any_some [] key = omega arith
any_some (n ∷ ns) key = let g = with_key-grows (n ∷ ns) key in omega (arith, g)

key_some : (names : List (List ℕ)) (key : List ℕ) → has_key names key ≡ true → 0 < length names
key_some [] key e = absurd (false≢true e)
key_some (n ∷ ns) key e = omega arith

some_term : (table : List (List ℕ)) (scope : ℕ → Option Says) (parts : Parts) (t : Term) →
    ((id : ℕ) (s : Says) → scope id ≡ Some s → 0 < length parts.names) → 0 < length (with_term table scope parts t).names
unfolding with_term
some_term table scope parts (Constant place b) h = by (has_key parts.names (constant_key b)) refl
  where
    by : (x : Bool) → has_key parts.names (constant_key b) ≡ x →
        0 < length (cond x parts (record parts {
          names = with_key parts.names (constant_key b);
          consts =
              parts.consts ++ record { net = record { 0 = length parts.names }; value = b } ∷ [];
        })).names
    by true e = key_some parts.names (constant_key b) e
    by false e = any_some parts.names (constant_key b)
some_term table scope parts (Named n index) h = by (scope n.id) refl
  where
    by : (o : Option Says) → scope n.id ≡ o → 0 < length (elim o as (λ _. Parts) [
      | Some s ↦ parts
      | None ↦ record parts {
        names =
            with_key parts.names (scalar_key (text table n));
      }
    ]).names
    by (Some s) e = h n.id s e
    by None e = any_some parts.names (scalar_key (text table n))

some_terms : (table : List (List ℕ)) (scope : ℕ → Option Says) (parts : Parts) (ts : List Term) (t : Term) → Member t ts →
    ((id : ℕ) (s : Says) → scope id ≡ Some s → 0 < length parts.names) → 0 < length (with_terms table scope parts ts).names
unfolding with_terms
some_terms table scope parts [] t m h = absurd m
some_terms table scope parts (u ∷ us) t m h =
    ⊎_elim
    (λ (e : t ≡ u).
    let a = some_term table scope parts u h in
    let b = grows_terms table scope (with_term table scope parts u) us in
    omega (arith, a, b))
    (λ (l : Member t us).
    some_terms table scope (with_term table scope parts u) us t l (λ id s e. let a = h id s e in let b = grows_term table scope parts u in omega (arith, a, b)))
    m

-- the parts with more names, and constants that are named
more_nets : (parts : Parts) (names : List (List ℕ)) (consts : List Const) → HasNets parts → length parts.names ≤ length names →
    All (λ k. k.net.0 < length names) consts → HasNets (record parts { names = names; consts = consts })
more_nets parts names consts h le cs =
    let up : (n : NetId) → n.0 < length parts.names → n.0 < length names = λ n lt. omega (arith, lt, le) in
    record {
      inputs = All-weaker (λ (n : NetId). n.0 < length parts.names) (λ (n : NetId). n.0 < length names) up parts.inputs h.inputs;
      outputs = All-weaker (λ (n : NetId). n.0 < length parts.names) (λ (n : NetId). n.0 < length names) up parts.outputs h.outputs;
      consts = cs;
      gates =
          All-weaker (λ (g : Gate). (g.out.0 < length parts.names)
          × All (λ (n : NetId). n.0 < length parts.names) g.ins) (λ (g : Gate). (g.out.0 < length names) × All (λ (n : NetId). n.0 < length names) g.ins)
          (λ g k. (up g.out k.0, All-weaker (λ (n : NetId). n.0 < length parts.names) (λ (n : NetId). n.0 < length names) up g.ins k.1)) parts.gates h.gates;
      flops =
          All-weaker (IsFlopPlaced (length parts.names)) (IsFlopPlaced (length names))
          (λ f k. (
            up f.q k.0,
            up f.d k.1,
            up f.ck k.2,
            All-weaker (λ (n : NetId). n.0 < length parts.names) (λ (n : NetId). n.0 < length names) up
                (mode_nets f.mode) k.3,
          ))
          parts.flops h.flops;
    }

same_consts : (parts : Parts) (key : List ℕ) → HasNets parts → All (λ k. k.net.0 < length (with_key parts.names key)) parts.consts
same_consts parts key h =
    let g = with_key-grows parts.names key in
    All-weaker (λ (k : Const). k.net.0 < length parts.names) (λ (k : Const). k.net.0 < length (with_key parts.names key))
    (λ k lt. omega (arith, lt, g)) parts.consts h.consts

new_key : (names : List (List ℕ)) (key : List ℕ) → has_key names key ≡ false → length names < length (with_key names key)
new_key names key e = by (number_of names key) refl e
  where
    by : (o : Option ℕ) → number_of names key ≡ o → is_some o ≡ false → length names < length (with_key names key)
    by (Some i) q f = absurd (true≢false f)
    by None q f = let size = ap length (sym (appended names key q)) ∙ length_push names key in omega (arith, size)

nets_term : (table : List (List ℕ)) (scope : ℕ → Option Says) (parts : Parts) (t : Term) → HasNets parts → HasNets (with_term table scope parts t)
unfolding with_term
nets_term table scope parts (Constant place b) h = by (has_key parts.names (constant_key b)) refl
  where
    by : (x : Bool) → has_key parts.names (constant_key b) ≡ x →
        HasNets (cond x parts (record parts {
          names = with_key parts.names (constant_key b);
          consts =
              parts.consts ++ record { net = record { 0 = length parts.names }; value = b } ∷ [];
        }))
    by true e = h
    by false e =
        more_nets parts (with_key parts.names (constant_key b)) (parts.consts ++ record {
          net = record { 0 = length parts.names };
          value =
              b;
        } ∷ []) h (with_key-grows parts.names (constant_key b))
        (All-push (λ (k : Const). k.net.0 < length (with_key parts.names (constant_key b))) parts.consts (record {
          net =
              record { 0 = length parts.names };
          value = b;
        }) (same_consts parts (constant_key b) h) (new_key parts.names (constant_key b) e))
nets_term table scope parts (Named n index) h = by (scope n.id)
  where
    by : (o : Option Says) → HasNets (elim o as (λ _. Parts) [
      | Some s ↦ parts
      | None ↦ record parts {
        names =
            with_key parts.names (scalar_key (text table n));
      }
    ])
    by (Some s) = h
    by None = more_nets parts (with_key parts.names (scalar_key (text table n))) parts.consts h (with_key-grows parts.names (scalar_key (text table n)))
        (same_consts parts (scalar_key (text table n)) h)

nets_terms : (table : List (List ℕ)) (scope : ℕ → Option Says) (parts : Parts) (ts : List Term) → HasNets parts → HasNets (with_terms table scope parts ts)
unfolding with_terms
nets_terms table scope parts [] h = h
nets_terms table scope parts (t ∷ ts) h = nets_terms table scope (with_term table scope parts t) ts (nets_term table scope parts t h)

-- ---- the design

terms_places : (ports : List Port) (cs : List Connection) (k : Connected) (t : Term) → Member k (by_places ports cs) → k.term ≡ Some t → Member t (terms_of cs)
unfolding by_places
terms_places ports [] k t m e = absurd m
terms_places [] (c ∷ cs) k t m e =
    ⊎_elim
    (λ (q : k ≡ record {
      pin = None;
      is_second = false;
      term = term_by_place c;
      port =
          None;
    }). member_left t _ (terms_of cs) (here c (sym (ap (λ (u : Connected). u.term) q) ∙ e)))
    (λ (l : Member k (by_places [] cs)). member_right t _ (terms_of cs) (terms_places [] cs k t l e))
    m
  where
    here : (u : Connection) → term_by_place u ≡ Some t →
        Member t (elim u as (λ _. List Term) [ Empty ↦ [] | Place w ↦ w ∷ [] | Pin n w ↦ elim w as (λ _. List Term) [ Some x ↦ x ∷ [] | None ↦ [] ] ])
    here (Place w) q = let same : w ≡ t = cc in inl (sym same)
    here Empty q = absurd cc
    here (Pin n w) q = absurd cc
terms_places (p ∷ ps) (c ∷ cs) k t m e =
    ⊎_elim
    (λ (q : k ≡ record {
      pin = None;
      is_second = false;
      term = term_by_place c;
      port =
          Some p;
    }). member_left t _ (terms_of cs) (here c (sym (ap (λ (u : Connected). u.term) q) ∙ e)))
    (λ (l : Member k (by_places ps cs)). member_right t _ (terms_of cs) (terms_places ps cs k t l e))
    m
  where
    here : (u : Connection) → term_by_place u ≡ Some t →
        Member t (elim u as (λ _. List Term) [ Empty ↦ [] | Place w ↦ w ∷ [] | Pin n w ↦ elim w as (λ _. List Term) [ Some x ↦ x ∷ [] | None ↦ [] ] ])
    here (Place w) q = let same : w ≡ t = cc in inl (sym same)
    here Empty q = absurd cc
    here (Pin n w) q = absurd cc

terms_pins : (ports : List Port) (given : List Name) (cs : List Connection) (k : Connected) (t : Term) → Member k (by_pins ports given cs) →
    k.term ≡ Some t → Member t (terms_of cs)
unfolding by_pins
terms_pins ports given [] k t m e = absurd m
terms_pins ports given (Pin n w ∷ cs) k t m e =
    ⊎_elim
    (λ (q : k ≡ record {
      pin = Some n;
      is_second = list_any (is_id n.id) given;
      term = w;
      port =
          find (λ (p : Port). is_id n.id p.name) ports;
    }). member_left t _ (terms_of cs) (here w (sym (ap (λ (u : Connected). u.term) q) ∙ e)))
    (λ (l : Member k (by_pins ports (n ∷ given) cs)). member_right t _ (terms_of cs) (terms_pins ports (n ∷ given) cs k t l e))
    m
  where
    here : (u : Option Term) → u ≡ Some t → Member t (elim u as (λ _. List Term) [ Some x ↦ x ∷ [] | None ↦ [] ])
    here (Some x) q = let same : x ≡ t = cc in inl (sym same)
    here None q = absurd cc
terms_pins ports given (Empty ∷ cs) k t m e = terms_pins ports given cs k t m e
terms_pins ports given (Place w ∷ cs) k t m e = member_right t (w ∷ []) (terms_of cs) (terms_pins ports given cs k t m e)

connected_term : (ports : List Port) (cs : List Connection) (k : Connected) (t : Term) → Member k (connected ports cs) → k.term ≡ Some t →
    Member t (terms_of cs)
connected_term ports cs k t m e = by (has_pins cs) m
  where
    by : (b : Bool) → Member k (cond b (by_pins ports [] cs) (by_places ports cs)) → Member t (terms_of cs)
    by true l = terms_pins ports [] cs k t l e
    by false l = terms_places ports cs k t l e

connected_ports : (ports : List Port) (cs : List Connection) (k : Connected) → Member k (connected ports cs) → IsOneOf ports k.port
connected_ports ports cs k m = by (has_pins cs) m
  where
    by : (b : Bool) → Member k (cond b (by_pins ports [] cs) (by_places ports cs)) → IsOneOf ports k.port
    by true l = (all_member (λ (k' : Connected). IsOneOf ports k'.port × HasName k'.pin k'.port
        × IsNew [] k') (by_pins ports [] cs) k (pins_ports ports [] cs) l).0
    by false l = all_member (λ (k' : Connected). IsOneOf ports k'.port) (by_places ports cs) k (places_ports ports cs) l

connected_apart : (table : List (List ℕ)) (m below : ReadModule) (width : Name → ℕ) (first : ℕ) (ns : List Name) (cs : List Connection) →
    AllByRecursion (GoesWell table m below) (connected (ports_from width first ns) cs) → EachApart (connected (ports_from width first ns) cs)
connected_apart table m below width first ns cs w = by (has_pins cs) w
  where
    by : (b : Bool) → AllByRecursion (GoesWell table m below)
        (cond b (by_pins (ports_from width first ns) [] cs) (by_places (ports_from width first ns) cs)) →
        EachApart (cond b (by_pins (ports_from width first ns) [] cs) (by_places (ports_from width first ns) cs))
    by true v =
        let ports = ports_from width first ns in
        pins_apart width first ns [] cs
        (all_of (λ (k : Connected). k.is_second ≡ false) (by_pins ports [] cs)
        (λ k l.
        let a = all_member (λ (k' : Connected). IsOneOf ports k'.port × HasName k'.pin k'.port
        × IsNew [] k') (by_pins ports [] cs) k (pins_ports ports [] cs) l in
        well_first table m below k a.2.0 (all_member (GoesWell table m below) (by_pins ports [] cs) k v l) a.2.1))
    by false v = places_apart width first ns cs

joined_outer : (names : List (List ℕ)) (first : ℕ) (ks : List (List ℕ)) (j : Join) → Member j (joins_from names first ks) → (k : List ℕ)
    × (j.outer ≡ net_of names k)
unfolding joins_from
joined_outer names first [] j m = absurd m
joined_outer names first (k ∷ ks) j m =
    ⊎_elim
    (λ (e : j ≡ record { outer = net_of names k; inner = record { 0 = first } }). (k, ap (λ (i : Join). i.outer) e))
    (λ (l : Member j (joins_from names (first + 1) ks)). joined_outer names (first + 1) ks j l)
    m

none_first : (os : List (Option ℕ)) → first_of os ≡ None → (o : Option ℕ) → Member o os → o ≡ None
unfolding first_of
none_first [] e o m = absurd m
none_first (None ∷ os) e o m = ⊎_elim (λ (q : o ≡ None). q) (λ (l : Member o os). none_first os e o l) m
none_first (Some n ∷ os) e o m = absurd cc

module _ (table : List (List ℕ)) (ms : List Piece) (ks : List ReadModule) (h : All (IsRead table) ks) (none : connect_fault table ms ks ≡ None) where
  abbrev whole : ReadModule → Module
  whole = module_from table ms ks

  all_well : (m : ReadModule) (w : Written) (c : Connected) → Member m ks → Member w m.written → Member c (connections_of table ms ks w) →
      connected_fault table m (read_at ms ks w.of) c ≡ None
  unfolding connect_fault
  all_well m w c mm mw mc =
      none_first _ none (connected_fault table m (read_at ms ks w.of) c)
      (member_flat (λ (m' : ReadModule). flat_map
      (λ (w' : Written). map (connected_fault table m' (read_at ms ks w'.of)) (connections_of table ms ks w')) m'.written) m _ ks mm
      (member_flat (λ (w' : Written). map (connected_fault table m (read_at ms ks w'.of)) (connections_of table ms ks w')) w _ m.written mw
      (member_map (connected_fault table m (read_at ms ks w.of)) c (connections_of table ms ks w) mc)))

  known : (m : ReadModule) → Member m ks → IsRead table m
  known m mm = all_member (IsRead table) ks m (recursion_from_All (IsRead table) ks h) mm

  own_grows : (m : ReadModule) → length m.own.names ≤ length (whole_parts table m).names
  unfolding whole_parts
  own_grows m = grows_terms table (scope_of m) m.own _

  -- the ports of an instance's module are among its nets
  rooms : (w : Written) → AllByRecursion (λ (p : Port). p.first + p.width ≤ length (module_in (design_of table ms ks) (place_in ms w.of.id)).own.names)
      (ports_of table (read_at ms ks w.of))
  unfolding design_of ports_from
  rooms w =
      let place = place_in ms w.of.id in
      ⊎_elim
      (λ (lt : place < length ks).
      let below = read_at ms ks w.of in
      let k = known below (member_at ks place no_read_module lt) in
      let same : module_in (design_of table ms ks) place ≡ whole below = get_or-map whole ks place no_read_module no_module lt in
      let P : ℕ → Port → Type 0 = λ n p. p.first + p.width ≤ n in
      all_of (P (length (module_in (design_of table ms ks) place).own.names)) (ports_of table below)
      (λ p mp.
      let a = all_member (P (length below.own.names)) (ports_of table below) p
      (recursion_from_All (P (length below.own.names)) (ports_of table below) k.room) mp in
      let b = own_grows below in
      subst (λ (x : Module). p.first + p.width ≤ length x.own.names) (sym same) (omega (arith, a, b))))
      (λ (ge : length ks ≤ place).
      let same : read_at ms ks w.of ≡ no_read_module = get_or_past ks place no_read_module ge in
      subst (λ (x : ReadModule). AllByRecursion (λ (p : Port). p.first + p.width ≤ length (module_in (design_of table ms ks) place).own.names)
      (ports_of table x)) (sym same) tt)
      (cases_lt place (length ks))

  -- a module with a connection has nets
  some_nets : (m : ReadModule) (w : Written) (t : Term) → Member m ks → Member w m.written → Member t (terms_of w.connections) →
      0 < length (whole_parts table m).names
  unfolding whole_parts
  some_nets m w t mm mw mt =
      some_terms table (scope_of m) m.own (flat_map (λ (w' : Written). terms_of w'.connections) m.written) t
      (member_flat (λ (w' : Written). terms_of w'.connections) w t m.written mw mt) (known m mm).named

  outer_in : (m : ReadModule) (w : Written) → Member m ks → Member w m.written → (c : Connected) (j : Join) → Member c (connections_of table ms ks w) →
      Member j (joins_of table m c) → j.outer.0 < length (whole_parts table m).names
  outer_in m w mm mw c j mc mj = by c.port c.term refl mj
    where
      names : List (List ℕ)
      names = (whole_parts table m).names

      by : (o : Option Port) (t : Option Term) → c.term ≡ t → Member j (joins_with names o (keys_for table m t)) → j.outer.0 < length names
      by None t e l = absurd l
      by (Some p) None e l = empty p l
        where
          empty : (p : Port) → Member j (joins_from names p.first []) → j.outer.0 < length names
          empty p l = absurd (omega (
            arith,
            (ranged p.first 0 j.inner.0
                (subst (λ (ns : List ℕ). Member j.inner.0 ns) (joins_inner names p.first [])
                (member_map (λ (k : Join). k.inner.0) j (joins_from names p.first []) l))).1,
            (ranged p.first 0 j.inner.0 (subst (λ (ns : List ℕ). Member j.inner.0 ns) (joins_inner names p.first [])
                (member_map (λ (k : Join). k.inner.0) j (joins_from names p.first []) l))).0,
          ))
      by (Some p) (Some t) e l =
          let o = joined_outer names p.first (keys_for table m (Some t)) j l in
          let some = some_nets m w t mm mw (connected_term (ports_of table (read_at ms ks w.of)) w.connections c t mc e) in
          subst (λ (n : NetId). n.0 < length names) (sym o.1) (net_within names o.0 some)

  one_join : (m : ReadModule) (w : Written) → Member m ks → Member w m.written → (c : Connected) (j : Join) → Member c (connections_of table ms ks w) →
      Member j (joins_of table m c) → IsJoin (whole m) (module_in (design_of table ms ks) (place_in ms w.of.id)) j
  one_join m w mm mw c j mc mj =
      let below = read_at ms ks w.of in
      let i = span table m below c j.inner.0 (all_well m w c mm mw mc) (member_map (λ (k : Join). k.inner.0) j (joins_of table m c) mj) in
      let there : IsOneOf (ports_of table below) (Some i.port) =
      subst (λ (o : Option Port). IsOneOf (ports_of table below) o) i.is (connected_ports (ports_of table below) w.connections c mc) in
      let room = all_member (λ (p : Port). p.first + p.width ≤ length (module_in (design_of table ms ks) (place_in ms w.of.id)).own.names)
      (ports_of table below) i.port (rooms w) there in
      (outer_in m w mm mw c j mc mj, omega (arith, i.to, room))

  instance_whole : (m : ReadModule) (w : Written) → Member m ks → Member w m.written →
      IsInstance (whole m) (module_in (design_of table ms ks) (place_in ms w.of.id)) (instance_of table ms ks m w)
  instance_whole m w mm mw =
      let below = read_at ms ks w.of in
      let cs = connections_of table ms ks w in
      let well : AllByRecursion (GoesWell table m below) cs = all_of (GoesWell table m below) cs (λ c mc. all_well m w c mm mw mc) in
      let In : Join → Type 0 = IsJoin (whole m) (module_in (design_of table ms ks) (place_in ms w.of.id)) in
      record {
        within =
            All-from_recursion In (flat_map (joins_of table m) cs)
            (all_of In (flat_map (joins_of table m) cs) (λ j mj. let f = flattened (joins_of table m) j cs mj in one_join m w mm mw f.0 j f.1 f.2));
        once = joins_distinct table m below cs (connected_apart table m below (width_of table below) 0 below.says.header w.connections well) well;
      }

  nets_whole : (m : ReadModule) → Member m ks → HasNets (whole_parts table m)
  unfolding whole_parts
  nets_whole m mm = nets_terms table (scope_of m) m.own _ (known m mm).nets

  module_whole : (m : ReadModule) → Member m ks → IsModule (design_of table ms ks) (whole m)
  module_whole m mm =
      let Ok : Instance → Type 0 = λ i. IsInstance (whole m) (module_in (design_of table ms ks) i.of) i in
      record {
        nets = nets_whole m mm;
        instances =
            All-from_recursion Ok (map (instance_of table ms ks m) m.written)
            (all_of Ok (map (instance_of table ms ks m) m.written)
            (λ i mi. let w = mapped (instance_of table ms ks m) i m.written mi in subst Ok (sym w.2) (instance_whole m w.0 mm w.1)));
      }

  pub design_whole : IsDesign (design_of table ms ks)
  unfolding design_of
  design_whole =
      All-from_recursion (IsModule (design_of table ms ks)) (map whole ks)
      (all_of (IsModule (design_of table ms ks)) (map whole ks)
      (λ x mx. let m = mapped whole x ks mx in subst (λ (y : Module). IsModule (design_of table ms ks) y) (sym m.2) (module_whole m.0 m.1)))

pub designs_are_whole : DesignsAreWhole
designs_are_whole table ms ks h none = design_whole table ms ks h none
