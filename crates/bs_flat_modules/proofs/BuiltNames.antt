-- The bits of the ports of a module, and those of its supplies, are no more than the declared names.
use Rattle.std.proofs.Common.{◌≡◌, ℕ, ◌≤◌, ◌+◌, Bool, true, false, cond, not, ◌||◌, List, [], ◌∷◌, ◌++◌, map, length, get_or, refl, arith, subst, ap, sym, ◌∙◌}
use Rattle.std.proofs.Common.{◌⊎◌, inl, inr, ⊎_elim, Option, Some, None, Result, Ok, Err}
use Rattle.std.specs.Prelude.{find, filter, slice_index_or, ◌==◌}
use Rattle.std.specs.List.{AllByRecursion, flat_map, list_any, Contains}
use Rattle.std.specs.Str.{bytes_eq}
use Rattle.std.specs.Cmp.Lexicographic.{bytes_decides}
use Rattle.std.proofs.lemmas.Bool.{true≢false, false≢true, or_parts, eq-eqb, eqb-true}
use Rattle.std.proofs.lemmas.List.{length-append, length-map}
use Rattle.std.proofs.lemmas.List.Quantifiers.{position-Some}
use Rattle.std.proofs.lemmas.List.Elements.{recursion_from_All}
use Rattle.bs_net.specs.declared.net.Const.{Const}
use Rattle.bs_net.specs.declared.net.NetId.{NetId}
use Rattle.bs_net.specs.Names.{with_key}
use Rattle.bs_net.specs.Parts.{Parts}
use Rattle.bs_lex.specs.declared.token.Token.{Token}
use Rattle.bs_lex.specs.declared.lexeme.Name.{Name}
use Rattle.bs_lex.specs.Lexemes.{lexemes_of, names_of}
use Rattle.bs_lex.proofs.NamingLemmas.{numbered}
use Rattle.bs_verilog_syntax.specs.declared.fault.VerilogFault.{VerilogFault}
use Rattle.bs_verilog_syntax.specs.declared.tree.Says.{Says}
use Rattle.bs_verilog_syntax.specs.declared.tree.Declared.{Declared}
use Rattle.bs_verilog_syntax.specs.declared.tree.Module.{Module}
use Rattle.bs_verilog_syntax.specs.declared.tree.Direction.TheVariants as directions
use Rattle.bs_verilog_syntax.specs.declared.tree.Direction as code
use Rattle.bs_verilog_syntax.specs.declared.tree.Net as code_net
use Rattle.bs_verilog_syntax.specs.declared.tree.Net.TheVariants.{Wire, Supply0, Supply1}
use Rattle.bs_verilog_syntax.specs.Reading.{Rest, rest}
use Rattle.bs_verilog_syntax.specs.Modules.{syntax_of}
use Rattle.bs_verilog_scope.specs.Keys.{text, keys}
use Rattle.bs_verilog_scope.specs.Nets.{with_keys, nets_of}
use Rattle.bs_verilog_scope.specs.Nets as scope_nets
use Rattle.bs_verilog_scope.specs.Declaring.{together, says_of, said, range_of, direction_of, is_supply, clashes, ◌or_else◌, first_after, is_in, stands_before, is_redeclared}
use Rattle.bs_verilog_scope.specs.Declaring.{is_too_wide, repeated_fault, redeclared_fault, naming_fault, stray_fault, bare_fault, wide_fault, many_fault, declaring_fault, nets_in}
use Rattle.bs_verilog_scope.specs.Declaring.{known, known_nets, keys_of, first_over, range_eq}
use Rattle.bs_verilog_scope.proofs.DeclaringLemmas.{none_over}
use Rattle.bs_verilog.specs.Building.{with_parts}
use Rattle.bs_verilog.specs.Netlist.{is_towards, port_bits, port_nets, supplied, consts_of, supply_consts, parts_with, start_of, built_of, meaning_of}
use Rattle.bs_flat_meaning.proofs.MemberLemmas.{Member, all_member, member_at, contained, member_left, member_right, member_map, mapped, member_flat, flattened, member_filter, filtered, missed}
use Rattle.bs_flat_meaning.proofs.NumberLemmas.{Apart}
use Rattle.bs_flat_meaning.proofs.NameLemmas.{IsSmall, AreSmall, IsNumbered, ids, names_apart, texts_apart, lexemes_numbered}
use Rattle.bs_flat_meaning.proofs.RoomLemmas.{IsBounded, AreBounded, keys_on, header_apart}
use Rattle.bs_flat_meaning.proofs.GivenLemmas.{Gives, gives_ok, gives_on}
use Rattle.bs_flat_meaning.proofs.HeaderLemmas.{Sound, rest_sound, name_small, syntax_small}
use Rattle.bs_flat_meaning.proofs.WholeLemmas.{both_none, none_found, bounded_range, said_bounded, all_bounded}
use Rattle.bs_flat_modules.specs.Modules.{ArePartsOf, PartsAreCounted}
use Rattle.bs_flat_modules.proofs.CountedLists.{without, all_fail}
use Rattle.bs_flat_modules.proofs.ShortLemmas.{total, weight}
use Rattle.bs_flat_modules.proofs.ShortModules.{module_within}
use Rattle.bs_flat_modules.proofs.BuiltLemmas.{Builds, parts_add, numbered_few}

-- ---- lists

-- members that differ are no more than the list
no_more : {X : Type 0} (xs ys : List X) → Apart xs → ((v : X) → Member v xs → Member v ys) → length xs ≤ length ys
no_more [] ys a h = omega arith
no_more {X} (x ∷ xs) ys a h =
    let w = without x ys (h x (inl refl)) in
    let less = w.fewer in
    let rest =
    no_more xs w.left a.1
    (λ v m. ⊎_elim (λ (e : v ≡ x). absurd (a.0 (subst (λ (u : X). Member u xs) e m))) (λ (o : Member v w.left). o) (w.others v (h v (inr m)))) in
    omega (arith, less, rest)

any_member : {X : Type 0} (p : X → Bool) (xs : List X) → list_any p xs ≡ true → (x : X) × Member x xs × (p x ≡ true)
any_member p [] e = absurd (false≢true e)
any_member {X} p (x ∷ xs) e = by (p x) refl e (any_member p xs)
  where
    by : (b : Bool) → p x ≡ b → (b || list_any p xs) ≡ true → (list_any p xs ≡ true → (y : X) × Member y xs × (p y ≡ true))
        → (y : X) × Member y (x ∷ xs) × (p y ≡ true)
    by true is t later = (x, inl refl, is)
    by false is t later = let r = later t in (r.0, inr r.1, r.2)

-- each stands in this relation to those after it
abbrev Ordered : {X : Type 0} → (X → X → Type 0) → List X → Type 0
Ordered R [] = Unit {0}
Ordered {X} R (x ∷ xs) = ((y : X) → Member y xs → R x y) × Ordered R xs

-- those before stand in this relation to each, and each to those after it
record IsOrdered {X : Type 0} (R : X → X → Type 0) (before xs : List X) : Type 0 where
  across : (y x : X) → Member y before → Member x xs → R y x
  within : Ordered R xs

ordered : {X : Type 0} (breaks : List X → X → Bool) (R : X → X → Type 0) → ((ys : List X) (y x : X) → Member y ys → breaks ys x ≡ false → R y x)
    → (before xs : List X) → first_after breaks before xs ≡ None → IsOrdered R before xs
unfolding first_after
ordered breaks R h before [] e = record { across = λ y x m k. absurd k; within = tt }
ordered {X} breaks R h before (x ∷ xs) e = by (breaks before x) refl e (ordered breaks R h (before ++ x ∷ []) xs)
  where
    by : (b : Bool) → breaks before x ≡ b → cond b (Some x) (first_after breaks (before ++ x ∷ []) xs) ≡ None
        → (first_after breaks (before ++ x ∷ []) xs ≡ None → IsOrdered R (before ++ x ∷ []) xs) → IsOrdered R before (x ∷ xs)
    by true is z later = absurd cc
    by false is z later =
        let r = later z in
        record {
          across =
              λ y v m k.
              ⊎_elim (λ (same : v ≡ x). subst (λ (u : X). R y u) (sym same) (h before y x m is))
              (λ (l : Member v xs). r.across y v (member_left y before (x ∷ []) m) l) k;
          within = (λ v l. r.across x v (member_right x before (x ∷ []) (inl refl)) l, r.within);
        }

-- ---- the keys of declared names

key_stays : (names : List (List ℕ)) (key k : List ℕ) → Member k names → Member k (with_key names key)
key_stays names key k m = by (list_any (bytes_eq key) names)
  where
    by : (b : Bool) → Member k (cond b names (names ++ key ∷ []))
    by true = m
    by false = member_left k names (key ∷ []) m

key_stands : (names : List (List ℕ)) (key : List ℕ) → Member key (with_key names key)
key_stands names key =
    let has = numbered names key in
    let at = position-Some (bytes_eq key) (with_key names key) has.0 [] has.1 in
    subst (λ (k : List ℕ). Member k (with_key names key)) (sym ((bytes_decides key (get_or (with_key names key) has.0 [])).0 at.1))
    (member_at (with_key names key) has.0 [] at.0)

keys_stay : (names ks : List (List ℕ)) (k : List ℕ) → Member k names ⊎ Member k ks → Member k (with_keys names ks)
unfolding with_keys
keys_stay names [] k m = ⊎_elim (λ (l : Member k names). l) (λ (r : ⊥). absurd r) m
keys_stay names (key ∷ ks) k m =
    keys_stay (with_key names key) ks k
    (⊎_elim (λ (l : Member k names). inl (key_stays names key k l))
    (λ (r : Member k (key ∷ ks)).
    ⊎_elim (λ (same : k ≡ key). inl (subst (λ (u : List ℕ). Member u (with_key names key)) (sym same) (key_stands names key)))
    (λ (l : Member k ks). inr l) r)
    m)

-- a name of the header or of a declaration
abbrev IsOf : Module → Name → Type 0
IsOf m n = Member n m.header ⊎ ((d : Declared) × Member d m.declared × (n ≡ d.name))

module _ (table : List (List ℕ)) (m : Module) where
  abbrev Scope : ℕ → Option Says
  Scope = said m.declared

  abbrev KeysOn : Name → List (List ℕ)
  KeysOn n = keys_on table Scope n

  -- the names of declared nets
  abbrev AllNames : List (List ℕ)
  AllNames = scope_nets.numbered table (known_nets m)

  header_key : (n : Name) (k : List ℕ) → Member n m.header → Member k (KeysOn n) → Member k AllNames
  unfolding known_nets
  header_key n k l r =
      keys_stay [] (flat_map (keys_of table) (known_nets m)) k
      (inr (member_flat (keys_of table) (known Scope n) k (known_nets m) (member_left (known Scope n) _ _ (member_map (known Scope) n m.header l)) r))

  declared_key : (d : Declared) (k : List ℕ) → Member d m.declared → Member k (KeysOn d.name) → Member k AllNames
  unfolding known_nets
  declared_key d k l r = by (is_in m.header d.name.id) refl
    where
      by : (b : Bool) → is_in m.header d.name.id ≡ b → Member k AllNames
      by true e =
          let f = any_member (λ (n : Name). n.id == d.name.id) m.header e in
          let same : f.0.id ≡ d.name.id = eqb-true f.0.id d.name.id f.2 in
          header_key f.0 k f.1 (subst (λ (i : ℕ). Member k (keys (slice_index_or table i []) (range_of (Scope i)))) (sym same) r)
      by false e =
          keys_stay [] (flat_map (keys_of table) (known_nets m)) k
          (inr (member_flat (keys_of table) (known Scope d.name) k (known_nets m)
          (member_right (known Scope d.name) (map (known Scope) m.header) _
          (member_map (λ (c : Declared). known Scope c.name) d (filter (λ (c : Declared). not (is_in m.header c.name.id)) m.declared)
          (member_filter (λ (c : Declared). not (is_in m.header c.name.id)) d m.declared l (ap not e))))
          r))

  key_of_module : (n : Name) (k : List ℕ) → IsOf m n → Member k (KeysOn n) → Member k AllNames
  key_of_module n k o r =
      ⊎_elim (λ (l : Member n m.header). header_key n k l r)
      (λ (l : (d : Declared) × Member d m.declared × (n ≡ d.name)).
      declared_key l.0 k l.1 (subst (λ (u : Name). Member k (KeysOn u)) l.2 r))
      o

  -- the keys of names that differ are no more than the names
  keys_count : (ns : List Name) → Apart (map (text table) ns) → AreBounded table Scope ns → ((n : Name) → Member n ns → IsOf m n)
      → length (flat_map (keys_on table Scope) ns) ≤ length AllNames
  keys_count ns a b h =
      no_more (flat_map (keys_on table Scope) ns) AllNames (header_apart table Scope ns a b)
      (λ k l. let f = flattened (keys_on table Scope) k ns l in key_of_module f.0 k (h f.0 f.1) f.2)

-- ---- ports

ports_count : (direction : code.Direction) (table : List (List ℕ)) (scope : ℕ → Option Says) (names : List (List ℕ)) (ns : List Name)
    → length (port_nets direction table scope names ns) ≤ length (flat_map (keys_on table scope) ns)
unfolding port_bits
ports_count direction table scope names [] = omega arith
ports_count direction table scope names (n ∷ ns) =
    omega (
      arith,
      by (is_towards direction (direction_of (scope n.id))),
      ports_count direction table scope names ns,
      length-append (port_bits direction table scope names n) (port_nets direction table scope names ns),
      length-append (keys_on table scope n) (flat_map (keys_on table scope) ns),
    )
  where
    by : (b : Bool) → length (cond b (nets_of names (keys_of table (known scope n))) []) ≤ length (keys_on table scope n)
    by true = omega (arith, length-map (keys_of table (known scope n)) (scope_nets.net_of names))
    by false = omega arith

-- ---- supplies

abbrev Supplies : Declared → Bool
Supplies d = is_supply d.says.net

abbrev supply_names : List Declared → List Name
supply_names ds = map (λ (d : Declared). d.name) (filter Supplies ds)

-- a supply has another number than what is declared before it
abbrev Precedes : Declared → Declared → Type 0
Precedes e d = Supplies d ≡ true → (e.name.id == d.name.id) ≡ false

both_nothing : (a b : Option Says) → together a b ≡ None → (a ≡ None) × (b ≡ None)
both_nothing None b e = (refl, e)
both_nothing (Some a) None e = absurd cc
both_nothing (Some a) (Some b) e = absurd cc

nothing_said : (ds : List Declared) (e : Declared) (id : ℕ) → said ds id ≡ None → Member e ds → (e.name.id == id) ≡ false
unfolding said
nothing_said [] e id is m = absurd m
nothing_said (d ∷ ds) e id is m =
    let both = both_nothing (says_of d id) (said ds id) is in
    ⊎_elim (λ (same : e ≡ d). ap (λ (c : Declared). c.name.id == id) same ∙ by (d.name.id == id) both.0)
    (λ (l : Member e ds). nothing_said ds e id both.1 l) m
  where
    by : (b : Bool) → cond b (Some d.says) None ≡ None → b ≡ false
    by true x = absurd cc
    by false x = refl

supply_new : (before : Option Says) (s : Says) → is_supply s.net ≡ true → clashes before s ≡ false → before ≡ None
supply_new None s t e = refl
supply_new (Some a) s t e =
    let last = or_parts _ (not (range_eq a.range s.range)) e in
    let supply = or_parts _ (is_supply s.net) last.0 in
    absurd (false≢true (sym supply.1 ∙ t))

precedes : (ys : List Declared) (y x : Declared) → Member y ys → is_redeclared ys x ≡ false → Precedes y x
precedes ys y x m e t = nothing_said ys y x.name.id (supply_new (said ys x.name.id) x.says t e) m

supplies_apart : (ds : List Declared) → Ordered Precedes ds → Apart (ids (supply_names ds))
supplies_apart [] o = tt
supplies_apart (d ∷ ds) o = by (Supplies d) (supplies_apart ds o.1)
  where
    by : (b : Bool) → Apart (ids (supply_names ds))
        → Apart (ids (map (λ (c : Declared). c.name) (cond b (d ∷ filter Supplies ds) (filter Supplies ds))))
    by true rest = (
      λ k.
          let i = mapped (λ (n : Name). n.id) d.name.id (supply_names ds) k in
          let c = mapped (λ (e : Declared). e.name) i.0 (filter Supplies ds) i.1 in
          let f = filtered Supplies c.0 ds c.1 in
          let same : d.name.id ≡ c.0.name.id = i.2 ∙ ap (λ (n : Name). n.id) c.2 in
          true≢false (sym (eq-eqb d.name.id c.0.name.id same) ∙ o.0 c.0 f.0 f.1),
      rest,
    )
    by false rest = rest

-- what is said of a supply is what declares it
supply_range : (ds : List Declared) (d : Declared) → Ordered Precedes ds → Member d ds → Supplies d ≡ true → range_of (said ds d.name.id) ≡ d.says.range
unfolding said
supply_range [] d o m t = absurd m
supply_range (c ∷ ds) d o m t =
    ⊎_elim
    (λ (same : d ≡ c).
    ap (λ (e : Declared). range_of (said (c ∷ ds) e.name.id)) same
    ∙ (ap (λ b. range_of (together (cond b (Some c.says) None) (said ds c.name.id))) (eq-eqb c.name.id c.name.id refl)
    ∙ (first (said ds c.name.id) ∙ sym (ap (λ (e : Declared). e.says.range) same))))
    (λ (l : Member d ds).
    ap (λ b. range_of (together (cond b (Some c.says) None) (said ds d.name.id))) (o.0 d l t) ∙ supply_range ds d o.1 l t)
    m
  where
    first : (later : Option Says) → range_of (together (Some c.says) later) ≡ c.says.range
    first None = refl
    first (Some s) = refl

consts_count : (table names : List (List ℕ)) (scope : ℕ → Option Says) (ds : List Declared)
    → ((d : Declared) → Member d ds → Supplies d ≡ true → range_of (scope d.name.id) ≡ d.says.range)
    → length (flat_map (supply_consts table names) ds) ≤ length (flat_map (keys_on table scope) (supply_names ds))
unfolding supply_consts
consts_count table names scope [] h = omega arith
consts_count table names scope (d ∷ ds) h =
    let fewer = consts_count table names scope ds (λ c l. h c (inr l)) in
    let size = length-append (supply_consts table names d) (flat_map (supply_consts table names) ds) in
    by d.says.net (λ t. h d (inl refl) t) fewer size
  where
    Front : Option Bool → List Const
    Front o = elim o [ Some b ↦ consts_of b (nets_of names (keys (text table d.name) d.says.range)) | None ↦ [] ]

    many : (b : Bool) → range_of (scope d.name.id) ≡ d.says.range
        → length (consts_of b (nets_of names (keys (text table d.name) d.says.range))) ≡ length (keys_on table scope d.name)
    many b e =
        let ks = keys (text table d.name) d.says.range in
        let consts = length-map {B = Const} (nets_of names ks) (λ (net : NetId). record { net = net; value = b }) in
        let nets = length-map ks (scope_nets.net_of names) in
        let same = ap (λ r. length (keys (text table d.name) r)) e in
        omega (arith, consts, nets, same)

    more : List Name
    more = supply_names ds

    by : (o : Option code_net.Net) → (is_supply o ≡ true → range_of (scope d.name.id) ≡ d.says.range)
        → length (flat_map (supply_consts table names) ds) ≤ length (flat_map (keys_on table scope) more)
        → length (Front (supplied o) ++ flat_map (supply_consts table names) ds)
        ≡ length (Front (supplied o)) + length (flat_map (supply_consts table names) ds)
        → length (Front (supplied o) ++ flat_map (supply_consts table names) ds)
        ≤ length (flat_map (keys_on table scope) (map (λ (c : Declared). c.name) (cond (is_supply o) (d ∷ filter Supplies ds) (filter Supplies ds))))
    by (Some Supply0) e fewer size =
        omega (arith, fewer, size, many false (e refl), length-append (keys_on table scope d.name) (flat_map (keys_on table scope) more))
    by (Some Supply1) e fewer size =
        omega (arith, fewer, size, many true (e refl), length-append (keys_on table scope d.name) (flat_map (keys_on table scope) more))
    by (Some Wire) e fewer size = omega (arith, fewer, size)
    by None e fewer size = omega (arith, fewer, size)

-- ---- declarations without a fault

-- another name than one before
abbrev Differs : Name → Name → Type 0
Differs y x = y.id ≡ x.id → ⊥

names_differ : (ns : List Name) → Ordered Differs ns → Apart (ids ns)
names_differ [] o = tt
names_differ (n ∷ ns) o = (
  λ k. let i = mapped (λ (x : Name). x.id) n.id ns k in o.0 i.0 i.1 i.2,
  names_differ ns o.1,
)

-- what a module declares without a fault
record IsDeclared (table : List (List ℕ)) (m : Module) : Type 0 where
  header : Apart (ids m.header)
  declared : Ordered Precedes m.declared
  bounded : (id : ℕ) → IsBounded (range_of (said m.declared id))
  few : first_over table 0 (known_nets m) ≡ None

is_declared : (table : List (List ℕ)) (m : Module) → declaring_fault table m ≡ None → IsDeclared table m
unfolding declaring_fault naming_fault known_nets
is_declared table m e =
    let ports = is_in m.header in
    let scope = said m.declared in
    let nets = nets_in scope ports m.header m.declared in
    let naming : Option VerilogFault =
    ((stray_fault ports m.declared or_else bare_fault scope m.header) or_else wide_fault m.declared) or_else many_fault table nets in
    let all = both_none (repeated_fault m.header or_else redeclared_fault m.declared) naming e in
    let names = both_none (repeated_fault m.header) (redeclared_fault m.declared) all.0 in
    let few = both_none ((stray_fault ports m.declared or_else bare_fault scope m.header) or_else wide_fault m.declared) (many_fault table nets) all.1 in
    let wide = both_none (stray_fault ports m.declared or_else bare_fault scope m.header) (wide_fault m.declared) few.0 in
    let narrow = none_found _ (find is_too_wide m.declared) wide.1 in
    let once = none_found _ (first_after stands_before [] m.header) names.0 in
    let new = none_found _ (first_after is_redeclared [] m.declared) names.1 in
    record {
      header =
          names_differ m.header
          (ordered stands_before Differs
          (λ ys y x k f same. true≢false (sym (eq-eqb y.id x.id same) ∙ all_fail (λ (n : Name). n.id == x.id) ys y f k)) [] m.header once).within;
      declared = (ordered is_redeclared Precedes precedes [] m.declared new).within;
      bounded = λ id. said_bounded m.declared id (λ d l. bounded_range d.says.range (missed is_too_wide m.declared d narrow l));
      few = none_over table nets few.1;
    }

-- ---- parts

supplies_small : (count : ℕ) (ds : List Declared) → AllByRecursion (λ (d : Declared). IsSmall count d.name) ds → AreSmall count (supply_names ds)
supplies_small count [] a = tt
supplies_small count (d ∷ ds) a = by (Supplies d) (supplies_small count ds a.1)
  where
    by : (b : Bool) → AreSmall count (supply_names ds) → AreSmall count (map (λ (c : Declared). c.name) (cond b (d ∷ filter Supplies ds) (filter Supplies ds)))
    by true rest = (a.0, rest)
    by false rest = rest

supply_of : (m : Module) (n : Name) → Member n (supply_names m.declared) → IsOf m n
supply_of m n l =
    let c = mapped (λ (d : Declared). d.name) n (filter Supplies m.declared) l in
    inr (c.0, (filtered Supplies c.0 m.declared c.1).0, c.2)

built_count : (table : List (List ℕ)) (ts : Rest) (m : Module) → Apart table → AreSmall (length table) m.header
    → AllByRecursion (λ (d : Declared). IsSmall (length table) d.name) m.declared → total weight m.parts ≤ length ts → IsDeclared table m
    → Gives (ArePartsOf ts) (built_of table m)
unfolding built_of
built_count table ts m apart header declared short d =
    let scope = said m.declared in
    let start = start_of table m in
    let ports = keys_count table m m.header (texts_apart table m.header apart header d.header) (all_bounded table scope m.header d.bounded) (λ n l. inl l) in
    let supplies =
    keys_count table m (supply_names m.declared)
    (texts_apart table (supply_names m.declared) apart (supplies_small (length table) m.declared declared) (supplies_apart m.declared d.declared))
    (all_bounded table scope (supply_names m.declared) d.bounded) (supply_of m) in
    let consts = consts_count table start.made.names scope m.declared (λ c l t. supply_range m.declared c d.declared l t) in
    let few = numbered_few table (known_nets m) 0 [] (omega arith) (omega arith) d.few in
    let ins = port_nets directions.Input table scope start.made.names m.header in
    let outs = port_nets directions.Output table scope start.made.names m.header in
    let in_count = ports_count directions.Input table scope start.made.names m.header in
    let out_count = ports_count directions.Output table scope start.made.names m.header in
    gives_on (Builds (total weight m.parts) start) (ArePartsOf ts) (with_parts table scope start m.parts) _ (parts_add table scope start m.parts)
    (λ b k.
    let grows = k.grows in
    let more = k.consts in
    let gates = k.gates in
    let flops = k.flops in
    gives_ok (ArePartsOf ts) (parts_with b ins outs)
    (record {
      names = k.few few;
      inputs = omega (arith, ports, in_count, grows);
      outputs = omega (arith, ports, out_count, grows);
      consts = omega (arith, consts, supplies, more);
      gates = omega (arith, gates, short);
      flops = omega (arith, flops, short);
    }))

-- ---- a text

of_text_sound : (source : List ℕ) (tokens : List Token) (ts : Rest) → AllByRecursion (Contains (lexemes_of source tokens)) ts
    → Sound (length (names_of source tokens)) ts
of_text_sound source tokens [] a = tt
of_text_sound source tokens (t ∷ ts) a = (
  all_member (IsNumbered (length (names_of source tokens))) (lexemes_of source tokens) t (lexemes_numbered source tokens)
      (contained (lexemes_of source tokens) t a.0),
  of_text_sound source tokens ts a.1,
)

meaning_count : (table : List (List ℕ)) (ts : Rest) (m : Module) → Apart table → Sound (length table) ts → syntax_of ts ≡ Ok m
    → Gives (ArePartsOf ts) (meaning_of table m)
unfolding meaning_of
meaning_count table ts m apart s e = by (declaring_fault table m) refl
  where
    by : (o : Option VerilogFault) → declaring_fault table m ≡ o
        → Gives (ArePartsOf ts) (elim o as (λ _. Result Parts VerilogFault) [ Some fault ↦ Err fault | None ↦ built_of table m ])
    by (Some fault) is = record { is = λ p x. absurd cc }
    by None is =
        let count = length table in
        let w = (module_within (Sound count) (rest_sound count) (IsSmall count) (name_small count) ts s).is m e in
        built_count table ts m apart ((syntax_small count ts s).is m e) w.names w.parts (is_declared table m is)

pub parts_are_counted : PartsAreCounted
parts_are_counted source tokens ts m p text are e meant =
    let s = of_text_sound source tokens ts (recursion_from_All (Contains (lexemes_of source tokens)) ts are) in
    (meaning_count (names_of source tokens) ts m (names_apart source tokens) s e).is p meant
