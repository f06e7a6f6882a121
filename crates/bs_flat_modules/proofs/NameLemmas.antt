-- The names of modules and instances, as the marks and refusals of names.
use Rattle.std.proofs.Common.{◌≡◌, ℕ, ◌+◌, ◌<◌, ◌≤◌, ◌==◌, ◌||◌, Bool, true, false, cond, List, [], ◌∷◌, ◌++◌, length, map, take, drop, get_or}
use Rattle.std.proofs.Common.{Option, Some, None, Result, Ok, Err, refl, sym, ap, ◌∙◌, arith, inl, inr, ◌⊎◌}
use Rattle.std.specs.Prelude.{⊤, option_map, not, ◌&&◌, nat_lt}
use Rattle.std.specs.Bool.{nat_eq}
use Rattle.std.specs.List.{flat_map, list_any}
use Rattle.std.proofs.lemmas.Bool.{eq-eqb, ne_eqb, le-ltb, lt-ltb}
use Rattle.std.proofs.lemmas.List.{drop_more, take_more, drop_all, take_all, append-nil}
use Rattle.std.proofs.lemmas.Grind.{flat_map-append}
use Rattle.std.proofs.lemmas.Bool.Decides.{eqb_tells}
use Rattle.bs_bits.specs.Reading.{◌>>=◌}
use Rattle.bs_lex.specs.declared.lexeme.Name.{Name}
use Rattle.bs_lex.specs.Lexemes.{is_name}
use Rattle.bs_verilog_syntax.specs.declared.fault.VerilogFault.{VerilogFault}
use Rattle.bs_verilog_syntax.specs.declared.fault.VerilogFault.TheVariants.{Redeclared, NoMemory as out_of_memory}
use Rattle.bs_verilog_syntax.specs.Reading.{Rest, at, sort, rest, name}
use Rattle.std.specs.Prelude.{if◌then◌else◌}
use Rattle.bs_verilog_scope.specs.Declaring.{fault, first_after, is_in, stands_before, repeated_fault}
use Rattle.bs_flat_meaning.specs.declared.statements.Written.{Written}
use Rattle.bs_flat_meaning.specs.declared.fault.FlatFault.{FlatFault}
use Rattle.bs_flat_meaning.specs.declared.fault.FlatFault.TheVariants.{Twice}
use Rattle.bs_flat_meaning.specs.Pieces.{Piece, name_id, is_named}
use Rattle.bs_flat_meaning.specs.Reading.{is_id, second_module, second_instance, first_of, no_fault}
use Rattle.bs_flat_modules.specs.declared.dealing.ModuleSpan.{ModuleSpan}
use Rattle.bs_flat_modules.specs.Copying.{part}
use Rattle.bs_flat_modules.specs.Names.{head_of, heads, all_apart, apart, unless, rises, begin}
use Rattle.bs_flat_modules.specs.Reading.{twice_of}

-- ---- one among others

eqb_swap : (a b : ℕ) → (a == b) ≡ (b == a)
eqb_swap a b = elim (eqb_tells a b) [
  | inl same ↦ same.0 ∙ sym (eq-eqb b a (sym same.1))
  | inr other ↦ other.0 ∙ sym (ne_eqb b a (λ e. other.1 (sym e)))
]

any_append : {A : Type 0} (p : A → Bool) (xs : List A) (x : A) → list_any p (xs ++ x ∷ []) ≡ (p x || list_any p xs)
any_append p [] x = refl
any_append p (y ∷ ys) x = ap (λ b. p y || b) (any_append p ys x) ∙ swap (p y) (p x) (list_any p ys)
  where
    swap : (a b c : Bool) → (a || (b || c)) ≡ (b || (a || c))
    swap true true c = refl
    swap true false c = refl
    swap false b c = refl

abbrev place_of_name : Name → ℕ
place_of_name n = n.at

-- ---- the modules

-- the heads of modules
abbrev pub heads_of : List Piece → List Name
heads_of ps = flat_map (λ p. head_of p.body) ps

-- the names before, by number
abbrev SameNames : List (Option ℕ) → List Name → Type 0
SameNames before front = (id : ℕ) → list_any (is_id id) before ≡ is_in front id

-- the name behind a `module`
abbrev name_in : Rest → Option ℕ
name_in [] = None
name_in (t ∷ ts) = if is_name t.sort then Some t.name else None

abbrev head_with : ℕ → Option ℕ → List Name
head_with place (Some id) = record { at = place; id = id } ∷ []
head_with place None = []

abbrev head_in : ℕ → Rest → List Name
head_in place inside = if is_name (sort inside) then record { at = place; id = (name inside).id } ∷ [] else []

head_in_is : (place : ℕ) (inside : Rest) → head_in place inside ≡ head_with place (name_in inside)
head_in_is place [] = refl
head_in_is place (t ∷ ts) = by (is_name t.sort) place t.name
  where
    by : (b : Bool) (place id : ℕ)
        → cond {A = List Name} b (record { at = place; id = id } ∷ []) [] ≡ head_with place (cond b (Some id) None)
    by true place id = refl
    by false place id = refl

-- the head of a module is its name
head_is : (p : Piece) → head_of p.body ≡ head_with (at p.body) (name_id p)
head_is p = head_in_is (at p.body) (rest p.body)

abbrev second_with : List (Option ℕ) → List Piece → ℕ → Option ℕ → Option ℕ
second_with before ps place (Some id) = cond (list_any (is_id id) before) (Some place) (second_module (Some id ∷ before) ps)
second_with before ps place None = second_module before ps

second_next : (before : List (Option ℕ)) (p : Piece) (ps : List Piece)
    → second_module before (p ∷ ps) ≡ second_with before ps (at p.body) (name_id p)
unfolding second_module
second_next before p ps = refl

abbrev first_place : List Name → List Name → Option ℕ
first_place front hs = option_map place_of_name (first_after stands_before front hs)

first_next : (front hs : List Name) (h : Name)
    → first_place front (h ∷ hs) ≡ cond (is_in front h.id) (Some h.at) (first_place (front ++ h ∷ []) hs)
unfolding first_after
first_next front hs h = by (is_in front h.id)
  where
    by : (b : Bool) → option_map place_of_name (cond b (Some h) (first_after stands_before (front ++ h ∷ []) hs))
        ≡ cond b (Some h.at) (first_place (front ++ h ∷ []) hs)
    by true = refl
    by false = refl

same_longer : (before : List (Option ℕ)) (front : List Name) (place id : ℕ) → SameNames before front
    → SameNames (Some id ∷ before) (front ++ record { at = place; id = id } ∷ [])
same_longer before front place id same k =
    ap (λ b. (id == k) || b) (same k) ∙ sym (any_append (λ n. n.id == k) front (record { at = place; id = id }))

second_by : (found : Option ℕ) (before : List (Option ℕ)) (front : List Name) (p : Piece) (ps : List Piece) → name_id p ≡ found → SameNames before front
    → ((before : List (Option ℕ)) (front : List Name) → SameNames before front → second_module before ps ≡ first_place front (heads_of ps))
    → second_module before (p ∷ ps) ≡ first_place front (heads_of (p ∷ ps))
second_by (Some id) before front p ps e same later =
    let h : Name = record { at = at p.body; id = id } in
    let heads : heads_of (p ∷ ps) ≡ h ∷ heads_of ps = ap (λ xs. xs ++ heads_of ps) (head_is p ∙ ap (head_with (at p.body)) e) in
    second_next before p ps ∙ ap (second_with before ps (at p.body)) e
    ∙ ap (λ b. cond b (Some (at p.body)) (second_module (Some id ∷ before) ps)) (same id)
    ∙ ap (cond (is_in front id) (Some (at p.body)))
    (later (Some id ∷ before) (front ++ h ∷ []) (same_longer before front (at p.body) id same))
    ∙ sym (first_next front (heads_of ps) h) ∙ ap (first_place front) (sym heads)
second_by None before front p ps e same later =
    let heads : heads_of (p ∷ ps) ≡ heads_of ps = ap (λ xs. xs ++ heads_of ps) (head_is p ∙ ap (head_with (at p.body)) e) in
    second_next before p ps ∙ ap (second_with before ps (at p.body)) e ∙ later before front same ∙ ap (first_place front) (sym heads)

second_from : (before : List (Option ℕ)) (front : List Name) (ps : List Piece) → SameNames before front
    → second_module before ps ≡ first_place front (heads_of ps)
unfolding second_module first_after
second_from before front [] same = refl
second_from before front (p ∷ ps) same = second_by (name_id p) before front p ps refl same (λ b f s. second_from b f ps s)

pub second_is : (ps : List Piece) → second_module [] ps ≡ first_place [] (heads_of ps)
second_is ps = second_from [] [] ps (λ id. refl)

-- the names of the heads are those of the modules
named_by : (found : Option ℕ) (place id : ℕ) → is_in (head_with place found) id ≡ is_id id found
named_by (Some n) place id = or_none (n == id)
  where
    or_none : (b : Bool) → (b || false) ≡ b
    or_none true = refl
    or_none false = refl
named_by None place id = refl

any_both : {A : Type 0} (p : A → Bool) (xs ys : List A) → list_any p (xs ++ ys) ≡ (list_any p xs || list_any p ys)
any_both p [] ys = refl
any_both p (x ∷ xs) ys = ap (λ b. p x || b) (any_both p xs ys) ∙ group (p x) (list_any p xs) (list_any p ys)
  where
    group : (a b c : Bool) → (a || (b || c)) ≡ ((a || b) || c)
    group true b c = refl
    group false b c = refl

is_named_is : (id : ℕ) (p : Piece) → is_id id (name_id p) ≡ is_named id p
is_named_is id p = by (name_id p)
  where
    by : (o : Option ℕ) → is_id id o ≡ (elim o as (λ _. Bool) [ Some n ↦ n == id | None ↦ false ])
    by (Some n) = refl
    by None = refl

pub marks_are : (ps : List Piece) (id : ℕ) → is_in (heads_of ps) id ≡ list_any (is_named id) ps
marks_are [] id = refl
marks_are (p ∷ ps) id =
    any_both (λ n. n.id == id) (head_of p.body) (heads_of ps)
    ∙ ap (λ b. b || is_in (heads_of ps) id) (ap (λ xs. is_in xs id) (head_is p) ∙ named_by (name_id p) (at p.body) id ∙ is_named_is id p)
    ∙ ap (λ b. is_named id p || b) (marks_are ps id)

-- the refusal of a second module
twice_with : (o : Option Name) (e : VerilogFault) → fault (λ n. Redeclared n.at) o ≡ Some e → no_fault Twice (option_map place_of_name o) ≡ Err (twice_of e)
twice_with (Some n) e h = ap (λ (x : VerilogFault). Err (twice_of x)) (inner (Redeclared n.at) e h)
  where
    inner : (x y : VerilogFault) → ◌≡◌ {A = Option VerilogFault} (Some x) (Some y) → x ≡ y
    inner x y e = cc
twice_with None e h = absurd (none e h)
  where
    none : (e : VerilogFault) → ◌≡◌ {A = Option VerilogFault} None (Some e) → ⊥
    none e h = cc

once_with : (o : Option Name) → fault (λ n. Redeclared n.at) o ≡ None → no_fault Twice (option_map place_of_name o) ≡ Ok []
once_with (Some n) h = absurd (none (Redeclared n.at) h)
  where
    none : (e : VerilogFault) → ◌≡◌ {A = Option VerilogFault} (Some e) None → ⊥
    none e h = cc
once_with None h = refl

pub modules_twice : (ps : List Piece) (e : VerilogFault) → repeated_fault (heads_of ps) ≡ Some e → no_fault Twice (second_module [] ps) ≡ Err (twice_of e)
modules_twice ps e h = ap (no_fault Twice) (second_is ps) ∙ twice_with (first_after stands_before [] (heads_of ps)) e h

pub modules_once : (ps : List Piece) → repeated_fault (heads_of ps) ≡ None → no_fault Twice (second_module [] ps) ≡ Ok []
modules_once ps h = ap (no_fault Twice) (second_is ps) ∙ once_with (first_after stands_before [] (heads_of ps)) h

-- ---- the instances

abbrev names_of_all : List Written → List Name
names_of_all ws = map (λ w. w.name) ws

instance_from : (before : List ℕ) (front : List Name) (ws : List Written) → ((id : ℕ) → list_any (nat_eq id) before ≡ is_in front id)
    → second_instance before ws ≡ first_place front (names_of_all ws)
unfolding second_instance first_after
instance_from before front [] same = refl
instance_from before front (w ∷ ws) same =
    ap (λ b. cond b (Some w.name.at) (second_instance (w.name.id ∷ before) ws)) (same w.name.id)
    ∙ ap (cond (is_in front w.name.id) (Some w.name.at))
    (instance_from (w.name.id ∷ before) (front ++ w.name ∷ []) ws (λ id.
    ap (λ b. nat_eq id w.name.id || b) (same id) ∙ ap (λ b. b || is_in front id) (eqb_swap id w.name.id)
    ∙ sym (any_append (λ n. n.id == id) front w.name)))
    ∙ sym (first_next front (names_of_all ws) w.name)

pub instance_is : (ws : List Written) → second_instance [] ws ≡ first_place [] (names_of_all ws)
instance_is ws = instance_from [] [] ws (λ id. refl)

abbrev First : List (List Written) → Result (List ℕ) FlatFault
First all = no_fault Twice (first_of (map (second_instance []) all))

first_more : (o : Option ℕ) (os : List (Option ℕ)) → first_of (o ∷ os) ≡ (elim o as (λ _. Option ℕ) [ Some n ↦ Some n | None ↦ first_of os ])
unfolding first_of
first_more o os = refl

apart_next : (ws : List Written) (all : List (List Written)) → all_apart (ws ∷ all) ≡ (apart ws >>= λ _. all_apart all)
unfolding all_apart
apart_next ws all = refl

abbrev pub Twofold : List (List Written) → Result ⊤ VerilogFault → Type 0
Twofold all (Ok done) = First all ≡ Ok []
Twofold all (Err e) = First all ≡ Err (twice_of e)

twofold_by : (o : Option Name) (ws : List Written) (all : List (List Written)) → second_instance [] ws ≡ option_map place_of_name o
    → Twofold all (all_apart all)
    → Twofold (ws ∷ all) (unless (fault (λ n. Redeclared n.at) o) >>= λ _. all_apart all)
twofold_by (Some n) ws all e later =
    ap (no_fault Twice) (first_more (second_instance [] ws) (map (second_instance []) all)
    ∙ ap (λ (p : Option ℕ). elim p as (λ _. Option ℕ) [ Some n ↦ Some n | None ↦ first_of (map (second_instance []) all) ]) e)
twofold_by None ws all e later = carried (all_apart all) later
  where
    same : First (ws ∷ all) ≡ First all
    same =
        ap (no_fault Twice) (first_more (second_instance [] ws) (map (second_instance []) all)
        ∙ ap (λ (p : Option ℕ). elim p as (λ _. Option ℕ) [ Some n ↦ Some n | None ↦ first_of (map (second_instance []) all) ]) e)

    carried : (r : Result ⊤ VerilogFault) → Twofold all r → Twofold (ws ∷ all) r
    carried (Ok done) later = same ∙ later
    carried (Err e) later = same ∙ later

pub instances_twofold : (all : List (List Written)) → Twofold all (all_apart all)
unfolding all_apart first_of
instances_twofold [] = refl
instances_twofold (ws ∷ all) = twofold_by (first_after stands_before [] (names_of_all ws)) ws all (instance_is ws) (instances_twofold all)

-- ---- as loops name them

pub heads_more : (ts : Rest) (modules : List ModuleSpan) (i : ℕ) (d : ModuleSpan) (here : Rest) (names more : List Name) → i < length modules
    → here ≡ part ts (get_or modules i d).body (get_or modules i d).stop → more ≡ names ++ head_of here → names ≡ heads ts (take i modules)
    → more ≡ heads ts (take (i + 1) modules)
heads_more ts modules i d here names more h cut added so_far =
    let p = get_or modules i d in
    let f = λ (p : ModuleSpan). head_of (part ts p.body p.stop) in
    added ∙ ap (λ (ns : List Name). ns ++ head_of here) so_far ∙ ap (λ b. heads ts (take i modules) ++ head_of b) cut
    ∙ ap (λ ns. heads ts (take i modules) ++ ns) (sym (append-nil (f p)))
    ∙ sym (flat_map-append f (take i modules) (p ∷ []))
    ∙ sym (ap (heads ts) (take_more modules i d h))

pub heads_all : (ts : Rest) (modules : List ModuleSpan) (i : ℕ) (names : List Name) → length modules ≤ i → names ≡ heads ts (take i modules)
    → names ≡ heads ts modules
heads_all ts modules i names h so_far = so_far ∙ ap (heads ts) (take_all i modules h)

pub none_apart : (ws : List Written) (hs ns : List Name) → hs ≡ ns → ns ≡ map (λ w. w.name) ws → repeated_fault hs ≡ None → apart ws ≡ Ok tt
none_apart ws hs ns a b e = ap unless (sym (ap repeated_fault (a ∙ b)) ∙ e)

pub fault_apart : (ws : List Written) (hs ns : List Name) (e : VerilogFault) → hs ≡ ns → ns ≡ map (λ w. w.name) ws
    → (e ≡ out_of_memory) ⊎ (repeated_fault hs ≡ Some e) → (e ≡ out_of_memory) ⊎ (apart ws ≡ Err e)
fault_apart ws hs ns e a b (inl memory) = inl memory
fault_apart ws hs ns e a b (inr twice) = inr (ap unless (sym (ap repeated_fault (a ∙ b)) ∙ twice))

apart_here : (all : List (List Written)) (i : ℕ) (item : List Written) → i < length all → item ≡ get_or all i item
    → all_apart (drop i all) ≡ (apart item >>= λ _. all_apart (drop (i + 1) all))
apart_here all i item h is =
    ap all_apart (drop_more all i item h) ∙ apart_next (get_or all i item) (drop (i + 1) all)
    ∙ ap (λ (ws : List Written). apart ws >>= λ _. all_apart (drop (i + 1) all)) (sym is)

pub apart_on : (all : List (List Written)) (i : ℕ) (item here : List Written) (total : Result ⊤ VerilogFault) → i < length all → item ≡ get_or all i item
    → here ≡ item → apart here ≡ Ok tt → all_apart (drop i all) ≡ total → all_apart (drop (i + 1) all) ≡ total
apart_on all i item here total h is same e so_far =
    sym (apart_here all i item h is
    ∙ ap (λ (r : Result ⊤ VerilogFault). r >>= λ _. all_apart (drop (i + 1) all)) (sym (ap apart same) ∙ e)) ∙ so_far

pub apart_fault : (all : List (List Written)) (i : ℕ) (item here : List Written) (total : Result ⊤ VerilogFault) (fault : VerilogFault) → i < length all
    → item ≡ get_or all i item → here ≡ item → (fault ≡ out_of_memory) ⊎ (apart here ≡ Err fault) → all_apart (drop i all) ≡ total
    → (fault ≡ out_of_memory) ⊎ (total ≡ Err fault)
apart_fault all i item here total fault h is same (inl memory) so_far = inl memory
apart_fault all i item here total fault h is same (inr e) so_far =
    inr (sym so_far ∙ apart_here all i item h is
    ∙ ap (λ (r : Result ⊤ VerilogFault). r >>= λ _. all_apart (drop (i + 1) all)) (sym (ap apart same) ∙ e))

pub apart_end : (all : List (List Written)) (i : ℕ) (total : Result ⊤ VerilogFault) → length all ≤ i → all_apart (drop i all) ≡ total → total ≡ Ok tt
unfolding all_apart
apart_end all i total h so_far = sym so_far ∙ ap all_apart (drop_all i all h)

rise_next : (ts : Rest) (least : ℕ) (modules : List ModuleSpan) (i : ℕ) (d : ModuleSpan) → i < length modules
    → rises least (map (begin ts) (drop i modules))
    ≡ (not (nat_lt (begin ts (get_or modules i d)) least) && rises (begin ts (get_or modules i d) + 1) (map (begin ts) (drop (i + 1) modules)))
unfolding rises
rise_next ts least modules i d h = ap (λ ps. rises least (map (begin ts) ps)) (drop_more modules i d h)

pub rise_on : (ts : Rest) (least place : ℕ) (modules : List ModuleSpan) (i : ℕ) (d : ModuleSpan) (total : Bool) → i < length modules
    → place ≡ begin ts (get_or modules i d) → least ≤ place → rises least (map (begin ts) (drop i modules)) ≡ total
    → rises (place + 1) (map (begin ts) (drop (i + 1) modules)) ≡ total
rise_on ts least place modules i d total h e low so_far =
    let b = begin ts (get_or modules i d) in
    let later = map (begin ts) (drop (i + 1) modules) in
    let less : nat_lt b least ≡ false = le-ltb b least (omega (arith, e, low)) in
    ap (λ k. rises (k + 1) later) e ∙ sym (rise_next ts least modules i d h ∙ ap (λ c. not c && rises (b + 1) later) less) ∙ so_far

pub rise_fault : (ts : Rest) (least place : ℕ) (modules : List ModuleSpan) (i : ℕ) (d : ModuleSpan) (total : Bool) → i < length modules
    → place ≡ begin ts (get_or modules i d) → place < least → rises least (map (begin ts) (drop i modules)) ≡ total → false ≡ total
rise_fault ts least place modules i d total h e low so_far =
    let b = begin ts (get_or modules i d) in
    let later = map (begin ts) (drop (i + 1) modules) in
    let less : nat_lt b least ≡ true = lt-ltb b least (omega (arith, e, low)) in
    sym (rise_next ts least modules i d h ∙ ap (λ c. not c && rises (b + 1) later) less) ∙ so_far

pub rise_end : (ts : Rest) (least : ℕ) (modules : List ModuleSpan) (i : ℕ) (total : Bool) → length modules ≤ i
    → rises least (map (begin ts) (drop i modules)) ≡ total → true ≡ total
unfolding rises
rise_end ts least modules i total h so_far = sym (ap (λ ps. rises least (map (begin ts) ps)) (drop_all i modules h)) ∙ so_far
