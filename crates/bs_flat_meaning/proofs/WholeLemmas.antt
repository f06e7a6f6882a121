-- Each module that is read is whole.
use Rattle.std.proofs.Common.{◌≡◌, ℕ, ◌+◌, ◌≤◌, Bool, true, false, cond, not, ◌||◌, List, [], ◌∷◌, ◌++◌, map, length, refl, arith}
use Rattle.std.proofs.Common.{ap, sym, ◌∙◌, inl, inr, ⊎_elim, Option, Some, None, Result, Ok, Err, nat_lt}
use Rattle.std.specs.Prelude.{find, zip, option_map, ◌==◌}
use Rattle.std.specs.List.{AllByRecursion, flat_map, filter}
use Rattle.std.proofs.lemmas.Bool.{false≢true, or_parts, ltb-false, eq-eqb}
use Rattle.std.proofs.lemmas.List.Folds.{list_any-append, flat_map-map}
use Rattle.std.proofs.lemmas.List.Concat.{flat_map-append}
use Rattle.std.proofs.lemmas.List.Elements.{All-from_recursion}
use Rattle.bs_net.specs.Parts.{Parts}
use Rattle.bs_lex.specs.declared.lexeme.Name.{Name}
use Rattle.bs_lex.specs.declared.number_limits.TheConstants.{MAX_INDEX}
use Rattle.bs_lex.specs.Lexemes.{names_of, lexemes_of}
use Rattle.bs_verilog_syntax.specs.declared.fault.VerilogFault.{VerilogFault}
use Rattle.bs_verilog_syntax.specs.declared.tree.Range.{Range}
use Rattle.bs_verilog_syntax.specs.declared.tree.Says.{Says}
use Rattle.bs_verilog_syntax.specs.declared.tree.Declared.{Declared}
use Rattle.bs_verilog_syntax.specs.declared.tree.Module as code
use Rattle.bs_verilog_syntax.specs.Reading.{Rest, at}
use Rattle.bs_verilog_syntax.specs.Modules.{syntax_of}
use Rattle.bs_verilog_scope.specs.declared.numbering.Known.{Known}
use Rattle.bs_verilog_scope.specs.Nets.{with_keys, numbered}
use Rattle.bs_verilog_scope.specs.Declaring.{together, said, range_of, ◌or_else◌, first_after, is_in, stands_before, is_too_wide, repeated_fault}
use Rattle.bs_verilog_scope.specs.Declaring.{redeclared_fault, naming_fault, stray_fault, bare_fault, wide_fault, many_fault, declaring_fault, nets_in}
use Rattle.bs_verilog_scope.specs.Declaring.{known, known_nets, keys_of}
use Rattle.bs_verilog.specs.Netlist.{meaning_of, built_of}
use Rattle.bs_verilog.proofs.PlacementLemmas.{declared_has_nets}
use Rattle.bs_flat_meaning.specs.declared.limits.TheConstants.{MAX_OWN_NETS}
use Rattle.bs_flat_meaning.specs.declared.statements.Written.{Written}
use Rattle.bs_flat_meaning.specs.declared.fault.FlatFault.TheVariants.{Twice}
use Rattle.bs_flat_meaning.specs.Pieces.{Piece, modules_of, own_text}
use Rattle.bs_flat_meaning.specs.Connecting.{ReadModule, Port, ports_of}
use Rattle.bs_flat_meaning.specs.Reading.{as_verilog, all_of, owns_within, no_fault, second_module, read_own, read_written, second_instance, first_of, gathered}
use Rattle.bs_flat_meaning.specs.Reading.{read_modules, IsRead}
use Rattle.bs_flat_meaning.proofs.MemberLemmas.{Member, missed, mapped}
use Rattle.bs_flat_meaning.proofs.MemberLemmas
use Rattle.bs_flat_meaning.proofs.NumberLemmas.{Apart}
use Rattle.bs_flat_meaning.specs.Wholeness.{ReadModulesAreWhole}
use Rattle.bs_flat_meaning.proofs.NameLemmas.{AreSmall, ids, texts_apart, names_apart, lexemes_numbered}
use Rattle.bs_flat_meaning.proofs.RoomLemmas.{IsBounded, AreBounded, keys_on, ports_have_room}
use Rattle.bs_flat_meaning.proofs.BuildLemmas.{built_whole}
use Rattle.bs_flat_meaning.proofs.GivenLemmas.{Gives, gives_ok, gives_any, gives_then, gives_verilog, gives_owns}
use Rattle.bs_flat_meaning.proofs.HeaderLemmas.{Sound, HeaderSmall, syntax_small}
use Rattle.bs_flat_meaning.proofs.OwnLemmas.{own_text_sound}

-- ---- no fault in the declarations

pub both_none : (a b : Option VerilogFault) → (a or_else b) ≡ None → (a ≡ None) × (b ≡ None)
both_none (Some fault) b e = absurd cc
both_none None b e = (refl, e)

pub none_found : {A B : Type 0} (f : A → B) (o : Option A) → option_map f o ≡ None → o ≡ None
none_found f (Some x) e = absurd cc
none_found f None e = refl

-- no name of a header stands before
abbrev NoneBefore : List Name → List Name → Type 0
NoneBefore before ns = (n : Name) → Member n ns → is_in before n.id ≡ false

header_once : (before ns : List Name) → first_after stands_before before ns ≡ None → Apart (ids ns) × NoneBefore before ns
unfolding first_after
header_once before [] e = (tt, λ n m. absurd m)
header_once before (x ∷ xs) e = by (is_in before x.id) refl e (header_once (before ++ x ∷ []) xs)
  where
    by : (b : Bool) → is_in before x.id ≡ b → cond b (Some x) (first_after stands_before (before ++ x ∷ []) xs) ≡ None
        → (first_after stands_before (before ++ x ∷ []) xs ≡ None → Apart (ids xs) × NoneBefore (before ++ x ∷ []) xs)
        → Apart (ids (x ∷ xs)) × NoneBefore before (x ∷ xs)
    by true is z rest = absurd cc
    by false is z rest =
        let later = rest z in
        let parts : (n : Name) → Member n xs → (is_in before n.id ≡ false) × ((x.id == n.id || false) ≡ false) =
        λ n m.
        or_parts (is_in before n.id) (x.id == n.id || false)
        (sym (list_any-append (λ (k : Name). k.id == n.id) before (x ∷ [])) ∙ later.1 n m) in (
          (
            λ m.
                let k = mapped (λ (n : Name). n.id) x.id xs m in
                let apart = or_parts (x.id == k.0.id) false (parts k.0 k.1).1 in
                false≢true (sym apart.0 ∙ eq-eqb x.id k.0.id k.2),
            later.0,
          ),
          λ n m. ⊎_elim (λ (same : n ≡ x). ap (λ (k : Name). is_in before k.id) same ∙ is) (λ (l : Member n xs). (parts n l).0) m,
        )

pub bounded_range : (o : Option Range)
    → elim o as (λ _. Bool) [ Some r ↦ nat_lt MAX_INDEX r.left || nat_lt MAX_INDEX r.right | None ↦ false ] ≡ false → IsBounded o
bounded_range (Some r) e =
    let parts = or_parts (nat_lt MAX_INDEX r.left) (nat_lt MAX_INDEX r.right) e in
    (ltb-false MAX_INDEX r.left parts.0, ltb-false MAX_INDEX r.right parts.1)
bounded_range None e = tt

pub said_bounded : (ds : List Declared) (id : ℕ) → ((d : Declared) → Member d ds → IsBounded d.says.range) → IsBounded (range_of (said ds id))
unfolding said
said_bounded [] id h = tt
said_bounded (d ∷ ds) id h = by (d.name.id == id) (said ds id) (said_bounded ds id (λ k m. h k (inr m)))
  where
    here : IsBounded d.says.range
    here = h d (inl refl)

    by : (b : Bool) (later : Option Says) → IsBounded (range_of later) → IsBounded (range_of (together (cond b (Some d.says) None) later))
    by true (Some s) k = here
    by true None k = here
    by false later k = k

pub all_bounded : (table : List (List ℕ)) (scope : ℕ → Option Says) (ns : List Name) → ((id : ℕ) → IsBounded (range_of (scope id))) → AreBounded table scope ns
all_bounded table scope [] h = tt
all_bounded table scope (n ∷ ns) h = (h n.id, all_bounded table scope ns h)

-- the names of a header differ, and the bounds of a module are small
record IsDeclared (m : code.Module) : Type 0 where
  once : Apart (ids m.header)
  bounded : (id : ℕ) → IsBounded (range_of (said m.declared id))

is_declared : (table : List (List ℕ)) (m : code.Module) → declaring_fault table m ≡ None → IsDeclared m
unfolding declaring_fault naming_fault
is_declared table m e =
    let ports = is_in m.header in
    let scope = said m.declared in
    let nets = nets_in scope ports m.header m.declared in
    let naming : Option VerilogFault =
    ((stray_fault ports m.declared or_else bare_fault scope m.header) or_else wide_fault m.declared) or_else many_fault table nets in
    let all = both_none (repeated_fault m.header or_else redeclared_fault m.declared) naming e in
    let names = both_none (repeated_fault m.header) (redeclared_fault m.declared) all.0 in
    let few = both_none ((stray_fault ports m.declared or_else bare_fault scope m.header) or_else wide_fault m.declared) (many_fault table nets) all.1 in
    let wide = both_none (stray_fault ports m.declared or_else bare_fault scope m.header) (wide_fault m.declared) few.0 in
    let narrow = none_found _ (find is_too_wide m.declared) wide.1 in
    record {
      once = (header_once [] m.header (none_found _ (first_after stands_before [] m.header) names.0)).0;
      bounded =
          λ id.
          said_bounded m.declared id (λ d l. bounded_range d.says.range (missed is_too_wide m.declared d narrow l));
    }

-- ---- a module that is read

known_keys : (table : List (List ℕ)) (scope : ℕ → Option Says) (ns : List Name) (more : List Known)
    → flat_map (keys_of table) (map (known scope) ns ++ more) ≡ flat_map (keys_on table scope) ns ++ flat_map (keys_of table) more
known_keys table scope ns more =
    flat_map-append (keys_of table) (map (known scope) ns) more
    ∙ ap (λ ks. ks ++ flat_map (keys_of table) more) (flat_map-map (keys_of table) (known scope) ns)

-- what is declared besides the header
abbrev others : code.Module → List Known
others m = map (λ d. known (said m.declared) d.name) (filter (λ d. not (is_in m.header d.name.id)) m.declared)

numbered_keys : (table : List (List ℕ)) (m : code.Module)
    → numbered table (known_nets m) ≡ with_keys [] (flat_map (keys_on table (said m.declared)) m.header ++ flat_map (keys_of table) (others m))
unfolding known_nets
numbered_keys table m = ap (with_keys []) (known_keys table (said m.declared) m.header (others m))

built_is_read : (table : List (List ℕ)) (m : code.Module) (parts : Parts) (ws : List Written) → Apart table → AreSmall (length table) m.header
    → declaring_fault table m ≡ None → built_of table m ≡ Ok parts → IsRead table (gathered ((m, parts), ws))
built_is_read table m parts ws a small none e =
    let declared = is_declared table m none in
    let built = built_whole table m parts e in
    let k : ReadModule = gathered ((m, parts), ws) in
    let grows = built.grows in
    let scope = said m.declared in
    record {
      nets = built.nets;
      room =
          All-from_recursion (λ (p : Port). p.first + p.width ≤ length parts.names) (ports_of table k)
          (Rattle.bs_flat_meaning.proofs.MemberLemmas.all_of (λ (p : Port). p.first + p.width ≤ length parts.names) (ports_of table k)
          (λ p l.
          let room =
          ports_have_room table scope m.header (flat_map (keys_of table) (others m)) p (texts_apart table m.header a small declared.once)
          (all_bounded table scope m.header declared.bounded) l in
          let same = ap length (numbered_keys table m) in
          omega (arith, room, same, grows)));
      named = λ id s found. (let some = declared_has_nets table m id s found in omega (arith, some, grows));
    }

-- ---- the modules that are read

-- a module and its parts, of which its meaning is made
abbrev IsMeant : List (List ℕ) → code.Module × Parts → Type 0
IsMeant table x = AreSmall (length table) x.0.header × (meaning_of table x.0 ≡ Ok x.1)

own_is_meant : (table : List (List ℕ)) (ts : Rest) (p : Piece) → Sound (length table) ts → Gives (IsMeant table) (read_own table ts p)
own_is_meant table ts p s =
    gives_then (HeaderSmall (length table)) (IsMeant table) (as_verilog (syntax_of (own_text ts p))) _
    (gives_verilog (HeaderSmall (length table)) (syntax_of (own_text ts p))
    (syntax_small (length table) (own_text ts p) (own_text_sound (length table) ts p s)))
    (λ m small.
    gives_then (λ (parts : Parts). meaning_of table m ≡ Ok parts) (IsMeant table) (as_verilog (meaning_of table m)) _
    (gives_verilog (λ (parts : Parts). meaning_of table m ≡ Ok parts) (meaning_of table m) (record { is = λ parts e. e }))
    (λ parts e. gives_ok (IsMeant table) (m, parts) (small, e)))

meant_is_read : (table : List (List ℕ)) (x : code.Module × Parts) (ws : List Written) → Apart table → IsMeant table x → IsRead table (gathered (x, ws))
unfolding meaning_of
meant_is_read table (m, parts) ws a h = by (declaring_fault table m) refl h.1
  where
    by : (o : Option VerilogFault) → declaring_fault table m ≡ o
        → elim o as (λ _. Result Parts VerilogFault) [ Some fault ↦ Err fault | None ↦ built_of table m ] ≡ Ok parts
        → IsRead table (gathered ((m, parts), ws))
    by (Some fault) is e = absurd cc
    by None is e = built_is_read table m parts ws a h.0 is e

all_are_read : (table : List (List ℕ)) (owns : List (code.Module × Parts)) (written : List (List Written)) → Apart table
    → AllByRecursion (IsMeant table) owns → AllByRecursion (IsRead table) (map gathered (zip owns written))
all_are_read table [] written a h = tt
all_are_read table (x ∷ xs) [] a h = tt
all_are_read table (x ∷ xs) (w ∷ ws) a h = (meant_is_read table x w a h.0, all_are_read table xs ws a h.1)

modules_give : (table : List (List ℕ)) (ts : Rest) → Apart table → Sound (length table) ts → Gives (AllByRecursion (IsRead table)) (read_modules table ts)
unfolding read_modules
modules_give table ts a s =
    let ms = modules_of ts in
    let R = AllByRecursion (IsRead table) in
    gives_then (λ _. Unit {0}) R (no_fault Twice (second_module [] ms)) _ (gives_any (no_fault Twice (second_module [] ms)))
    (λ x u.
    gives_then (AllByRecursion (IsMeant table)) R (owns_within (λ p. at p.body) (read_own table ts) MAX_OWN_NETS ms) _
    (gives_owns (IsMeant table) (λ p. at p.body) (read_own table ts) MAX_OWN_NETS ms (λ p. own_is_meant table ts p s))
    (λ owns meant.
    gives_then (λ _. Unit {0}) R (all_of (read_written ms) ms) _ (gives_any (all_of (read_written ms) ms))
    (λ written v.
    gives_then (λ _. Unit {0}) R (no_fault Twice (first_of (map (second_instance []) written))) _
    (gives_any (no_fault Twice (first_of (map (second_instance []) written))))
    (λ y w. gives_ok R (map gathered (zip owns written)) (all_are_read table owns written a meant)))))

pub read_modules_are_whole : ReadModulesAreWhole
read_modules_are_whole source tokens ks read e =
    let table = names_of source tokens in
    let g = modules_give table (lexemes_of source tokens) (names_apart source tokens) (lexemes_numbered source tokens) in
    All-from_recursion (IsRead table) ks (g.is ks e)
