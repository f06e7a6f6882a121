-- The modules of a text, read one by one.
use Rattle.std.proofs.Common.{◌≡◌, ℕ, zero, suc, ◌+◌, ◌-◌, Bool, true, false, cond, List, [], ◌∷◌, ◌++◌, length, map, take, drop, get_or}
use Rattle.std.proofs.Common.{Result, Ok, Err, refl, sym, ap, ◌∙◌, arith, append_assoc, inl, inr, ◌⊎◌}
use Rattle.std.specs.Prelude.{⊤, None, Some, filter, zip}
use Rattle.std.specs.List.{All, flat_map}
use Rattle.std.proofs.lemmas.List.{append-nil}
use Rattle.std.proofs.lemmas.List.Elements.{All-cons, All-nil}
use Rattle.std.proofs.Math.Path.{subst}
use Rattle.bs_net.specs.Parts.{Parts}
use Rattle.bs_bits.specs.Reading.{◌>>=◌, Answers}
use Rattle.bs_verilog_syntax.specs.declared.tree.Module.{Module}
use Rattle.bs_verilog_syntax.specs.declared.fault.VerilogFault.{VerilogFault}
use Rattle.bs_verilog_syntax.specs.declared.fault.VerilogFault.TheVariants.{NoMemory as out_of_memory}
use Rattle.bs_verilog_syntax.specs.Reading.{Rest, Read, at, sort}
use Rattle.bs_verilog_syntax.specs.Modules.{syntax_of, is_endmodule}
use Rattle.bs_verilog.specs.Netlist.{meaning_of}
use Rattle.bs_verilog_scope.specs.Declaring.{is_in, repeated_fault}
use Rattle.bs_flat_meaning.specs.declared.statements.Written.{Written}
use Rattle.bs_flat_meaning.specs.declared.fault.FlatFault.{FlatFault}
use Rattle.bs_flat_meaning.specs.declared.fault.FlatFault.TheVariants.{Verilog, Twice, NoMemory}
use Rattle.bs_flat_meaning.specs.Instancing.{instancing}
use Rattle.bs_flat_meaning.specs.Pieces.{Piece, Item, pieces, modules_of, is_design, to_semicolon, items_from, past_attributes, own_text as flat_own_text}
use Rattle.bs_flat_meaning.specs.Pieces.{own_piece, statements_of}
use Rattle.bs_flat_meaning.specs.declared.limits.TheConstants.{MAX_OWN_NETS}
use Rattle.bs_flat_meaning.specs.Reading.{◌then◌, as_verilog, all_of, owns_within, read_own, read_written, read_modules, second_module, no_fault, gathered}
use Rattle.bs_flat_meaning.specs.Reading.{second_instance, first_of}
use Rattle.bs_flat_meaning.specs.Connecting.{ReadModule}
use Rattle.bs_flat_modules.specs.declared.dealing.ModuleSpan.{ModuleSpan}
use Rattle.bs_flat_modules.specs.declared.dealing.Dealt.{Dealt}
use Rattle.bs_flat_modules.specs.declared.owns.Modules.{Modules}
use Rattle.bs_flat_modules.specs.Copying.{part}
use Rattle.bs_flat_modules.specs.Dealing.{IsDealt, Standing, designs_after, others_of, standing_at}
use Rattle.bs_flat_modules.specs.Items.{names_one, is_statement, statement, with_item, written_items}
use Rattle.bs_flat_modules.specs.Names.{heads, head_of, rises, begin, all_apart}
use Rattle.bs_flat_modules.specs.Owns.{each_of, said, module_and_parts, own_text, own_body, owns, written, all_written}
use Rattle.bs_flat_modules.specs.Reading.{IsDealtOut, fault_of, twice_of, read_modules_of, parts_read, with_written, all_read, apart_or, apart}
use Rattle.bs_flat_modules.proofs.LawLemmas.{IsOwn, all_own, begins}
use Rattle.bs_flat_modules.proofs.NameLemmas.{heads_of, marks_are, modules_once, modules_twice, Twofold, instances_twofold}
use Rattle.bs_flat_modules.proofs.ItemLemmas.{items_is}
use Rattle.bs_flat_modules.proofs.WithinLemmas.{within_each}

-- ---- instances

abbrev Instances : Type 0
Instances = Result (List Written) FlatFault

-- the statements of items, each with the module from it on
abbrev of_items : (ℕ → Bool) → List Item → List Rest
of_items marks items = map (λ i. past_attributes i.from) (filter (λ i. is_statement marks i.lexemes) items)

abbrev read_one : Rest → Result (List Written × Rest) FlatFault
read_one s = as_verilog (instancing s)

abbrev joined : List Written → Result (List (List Written × Rest)) FlatFault → Instances
joined all rs = rs then (λ ys. Ok (all ++ flat_map (λ r. r.0) ys))

all_is : {A B : Type 0} (f : A → Result B FlatFault) (x : A) (xs : List A) → all_of f (x ∷ xs) ≡ (f x then (λ y. all_of f xs then (λ ys. Ok (y ∷ ys))))
unfolding all_of
all_is f x xs = refl

regrouped : (all : List Written) (r : List Written × Rest) (rs : Result (List (List Written × Rest)) FlatFault)
    → joined (all ++ r.0) rs ≡ joined all (rs then (λ ys. Ok (r ∷ ys)))
regrouped all r (Ok ys) = ap (λ (xs : List Written). Ok xs) (append_assoc all r.0 (flat_map (λ r. r.0) ys))
regrouped all r (Err e) = refl

abbrev items_with : ℕ → Rest → Rest × Rest → List Item × Rest
items_with n ts first = let others = items_from n first.1 in (record { lexemes = first.0; from = ts } ∷ others.0, others.1)

written_is : (marks : ℕ → Bool) (n : ℕ) (all : List Written) (ts : Rest)
    → written_items marks (suc n) all ts
    ≡ cond (is_endmodule (sort ts)) (Ok all) (with_item marks all (to_semicolon false ts).0 ts >>= λ more. written_items marks n more (to_semicolon false ts).1)
unfolding written_items
written_is marks n all ts = refl

abbrev SameWritten : (ℕ → Bool) → ℕ → List Written → Rest → Type 0
SameWritten marks n all ts = as_verilog (written_items marks n all ts) ≡ joined all (all_of read_one (of_items marks (items_from n ts).0))

-- a statement's instances, and then those that follow
statement_step : (marks : ℕ → Bool) (n : ℕ) (all : List Written) (s after : Rest) (items : List Rest) (r : Read (List Written))
    → ((more : List Written) → as_verilog (written_items marks n more after) ≡ joined more (all_of read_one items))
    → as_verilog (((r >>= λ x. Ok x.0) >>= λ more. Ok (all ++ more)) >>= λ more. written_items marks n more after)
    ≡ joined all (as_verilog r then (λ y. all_of read_one items then (λ ys. Ok (y ∷ ys))))
statement_step marks n all s after items (Ok r) later = later (all ++ r.0) ∙ regrouped all r (all_of read_one items)
statement_step marks n all s after items (Err e) later = refl

item_step : (b : Bool) (marks : ℕ → Bool) (n : ℕ) (all : List Written) (ts item after : Rest)
    → ((more : List Written) → SameWritten marks n more after)
    → as_verilog (cond b (statement ts >>= λ more. Ok (all ++ more)) (Ok all) >>= λ more. written_items marks n more after)
    ≡ joined all (all_of read_one (map (λ i. past_attributes i.from)
    (cond b (record { lexemes = item; from = ts } ∷ filter (λ i. is_statement marks i.lexemes) (items_from n after).0)
    (filter (λ i. is_statement marks i.lexemes) (items_from n after).0))))
item_step true marks n all ts item after later =
    let items = of_items marks (items_from n after).0 in
    statement_step marks n all (past_attributes ts) after items (instancing (past_attributes ts)) later
    ∙ ap (joined all) (sym (all_is read_one (past_attributes ts) items))
item_step false marks n all ts item after later = later all

body_step : (b : Bool) (marks : ℕ → Bool) (n : ℕ) (all : List Written) (ts : Rest)
    → ((more : List Written) (after : Rest) → SameWritten marks n more after)
    → as_verilog (cond b (Ok all) (with_item marks all (to_semicolon false ts).0 ts >>= λ more. written_items marks n more (to_semicolon false ts).1))
    ≡ joined all (all_of read_one (of_items marks (cond b ([], ts) (items_with n ts (to_semicolon false ts))).0))
unfolding all_of
body_step true marks n all ts later = ap (λ (xs : List Written). Ok xs) (sym (append-nil all))
body_step false marks n all ts later =
    let first = to_semicolon false ts in
    item_step (is_statement marks first.0) marks n all ts first.0 first.1 (λ more. later more first.1)

same_written : (marks : ℕ → Bool) (n : ℕ) (all : List Written) (ts : Rest) → SameWritten marks n all ts
unfolding written_items items_from all_of
same_written marks zero all ts = ap (λ (xs : List Written). Ok xs) (sym (append-nil all))
same_written marks (suc n) all ts =
    ap as_verilog (written_is marks n all ts) ∙ body_step (is_endmodule (sort ts)) marks n all ts (λ more after. same_written marks n more after)
    ∙ ap (λ (its : List Item × Rest). joined all (all_of read_one (of_items marks its.0))) (sym (items_is n ts))

none_before : (rs : Result (List (List Written × Rest)) FlatFault) → joined [] rs ≡ (rs then (λ ys. Ok (flat_map (λ r. r.0) ys)))
none_before (Ok ys) = refl
none_before (Err e) = refl

pub written_same : (ms : List Piece) (p : Piece) → read_written ms p ≡ as_verilog (written (names_one ms) p.body)
unfolding statements_of
written_same ms p =
    let head = to_semicolon false p.body in
    sym (same_written (names_one ms) (length head.1) [] head.1
    ∙ none_before (all_of read_one (of_items (names_one ms) (items_from (length head.1) head.1).0)))

-- ---- own texts

abbrev Read_own : Type 0
Read_own = Result (List (Module × Parts)) FlatFault

abbrev paired : Module → Parts → Result (Module × Parts) FlatFault
paired m parts = let both : Module × Parts = (m, parts) in Ok both

abbrev paired_first : Module → Parts → Result (Module × Parts) VerilogFault
paired_first m parts = let both : Module × Parts = (m, parts) in Ok both

said_with : (m : Module) (r : Result Parts VerilogFault) → (as_verilog r then (λ parts. paired m parts)) ≡ as_verilog (r >>= λ parts. paired_first m parts)
said_with m (Ok parts) = refl
said_with m (Err e) = refl

said_by : (table : List (List ℕ)) (r : Result Module VerilogFault)
    → (as_verilog r then (λ m. as_verilog (meaning_of table m) then (λ parts. paired m parts)))
    ≡ as_verilog (r >>= λ m. meaning_of table m >>= λ parts. paired_first m parts)
said_by table (Err e) = refl
said_by table (Ok m) = said_with m (meaning_of table m)

pub said_same : (table : List (List ℕ)) (ts : Rest) (p : Piece) → read_own table ts p ≡ as_verilog (said table (flat_own_text ts p))
said_same table ts p = said_by table (syntax_of (flat_own_text ts p))

own_same : (ms : List Piece) (ts : Rest) (place : ModuleSpan) (os : Rest)
    → IsOwn ms (pieces ts) 0 0 (standing_at ts place) → os ≡ others_of (pieces ts)
    → flat_map (own_piece ms (begin ts place)) (pieces ts) ≡ own_text (names_one ms) os ts place
own_same ms ts place os own e =
    let same : place.before - 0 ≡ place.before = omega arith in
    let a = part ts place.from place.body in
    let b = own_body (names_one ms) (part ts place.body place.stop) in
    own.own
    ∙ ap (λ n. take n (others_of (pieces ts)) ++ ((a ++ b) ++ drop n (others_of (pieces ts)))) same
    ∙ ap (λ xs. take place.before xs ++ ((a ++ b) ++ drop place.before xs)) (sym e)
    ∙ ap (λ xs. take place.before os ++ xs) (append_assoc a b (drop place.before os))

-- ---- one after another

all_each : {A B C : Type 0} (f : A → Result C VerilogFault) (g : B → Result C FlatFault) (view : A → B) (xs : List A)
    → All (λ x. g (view x) ≡ as_verilog (f x)) xs → all_of g (map view xs) ≡ as_verilog (each_of f xs)
unfolding all_of each_of
all_each f g view [] same = refl
all_each {C = C} f g view (x ∷ xs) same =
    ap (λ (r : Result C FlatFault). r then (λ y. all_of g (map view xs) then (λ ys. Ok (y ∷ ys)))) (same 0 x (omega arith))
    ∙ ap (λ (rs : Result (List C) FlatFault). as_verilog (f x) then (λ y. rs then (λ ys. Ok (y ∷ ys))))
    (all_each f g view xs (λ k d lt. same (suc k) d (omega arith)))
    ∙ by (f x) (each_of f xs)
  where
    inner : {C : Type 0} (y : C) (rs : Result (List C) VerilogFault)
        → (as_verilog rs then (λ ys. Ok (y ∷ ys))) ≡ as_verilog (rs >>= λ ys. Ok (y ∷ ys))
    inner y (Ok ys) = refl
    inner y (Err e) = refl

    by : {C : Type 0} (r : Result C VerilogFault) (rs : Result (List C) VerilogFault)
        → (as_verilog r then (λ y. as_verilog rs then (λ ys. Ok (y ∷ ys)))) ≡ as_verilog (r >>= λ y. rs >>= λ ys. Ok (y ∷ ys))
    by (Ok y) rs = inner y rs
    by (Err e) rs = refl

-- ---- the modules

designs_are : (n : ℕ) (ps : List Piece) → map (λ (s : Standing). s.piece) (designs_after n ps) ≡ filter is_design ps
unfolding designs_after
designs_are n [] = refl
designs_are n (p ∷ ps) = by (is_design p) n p ps (λ k. designs_are k ps)
  where
    by : (b : Bool) (n : ℕ) (p : Piece) (ps : List Piece) → ((k : ℕ) → map (λ (s : Standing). s.piece) (designs_after k ps) ≡ filter is_design ps)
        → map (λ (s : Standing). s.piece)
        (cond b (record { before = n; piece = p } ∷ designs_after n ps) (designs_after (n + length (p.attributes ++ p.body)) ps))
        ≡ cond b (p ∷ filter is_design ps) (filter is_design ps)
    by true n p ps later = ap (λ qs. p ∷ qs) (later n)
    by false n p ps later = later (n + length (p.attributes ++ p.body))

abbrev pub piece_in : Rest → ModuleSpan → Piece
piece_in ts p = record { attributes = part ts p.from p.body; body = part ts p.body p.stop }

map_map : {A B C : Type 0} (g : B → C) (f : A → B) (xs : List A) → map g (map f xs) ≡ map (λ x. g (f x)) xs
map_map g f [] = refl
map_map g f (x ∷ xs) = ap (λ ys. g (f x) ∷ ys) (map_map g f xs)

pub modules_are : (ts : Rest) (d : Dealt) → IsDealt ts d → map (piece_in ts) d.modules ≡ modules_of ts
modules_are ts d dealt =
    sym (map_map (λ (s : Standing). s.piece) (standing_at ts) d.modules) ∙ ap (map (λ (s : Standing). s.piece)) dealt.modules ∙ designs_are 0 (pieces ts)

flat_map_map : {A B C : Type 0} (g : B → List C) (f : A → B) (xs : List A) → flat_map g (map f xs) ≡ flat_map (λ x. g (f x)) xs
flat_map_map g f [] = refl
flat_map_map g f (x ∷ xs) = ap (λ ys. g (f x) ++ ys) (flat_map_map g f xs)

pub heads_are : (ts : Rest) (d : Dealt) → IsDealt ts d → heads ts d.modules ≡ heads_of (modules_of ts)
heads_are ts d dealt = sym (flat_map_map (λ p. head_of p.body) (piece_in ts) d.modules) ∙ ap heads_of (modules_are ts d dealt)

rising_is : (ts : Rest) (d : Dealt) → IsDealtOut ts d → rises 0 (map begins (designs_after 0 (pieces ts))) ≡ true
rising_is ts d out =
    ap (λ ss. rises 0 (map begins ss)) (sym out.dealt.modules) ∙ ap (rises 0) (map_map begins (standing_at ts) d.modules) ∙ out.rising

All-unmap : {A B : Type 0} (P : B → Type 0) (f : A → B) (xs : List A) → All P (map f xs) → All (λ x. P (f x)) xs
All-unmap P f [] all = All-nil (λ x. P (f x))
All-unmap P f (x ∷ xs) all =
    All-cons (λ y. P (f y)) x xs (all 0 (f x) (omega arith)) (All-unmap P f xs (λ k d lt. all (suc k) d (omega arith)))

own_each : (ts : Rest) (d : Dealt) → IsDealtOut ts d
    → All (λ p. flat_own_text ts (piece_in ts p) ≡ own_text (names_one (modules_of ts)) d.others ts p) d.modules
unfolding flat_own_text
own_each ts d out =
    let ms = modules_of ts in
    let owned = All-unmap (IsOwn ms (pieces ts) 0 0) (standing_at ts) d.modules
    (subst (All (IsOwn ms (pieces ts) 0 0)) (sym out.dealt.modules) (all_own ms (pieces ts) 0 0 (rising_is ts d out))) in
    λ k e lt. own_same ms ts (get_or d.modules k e) d.others (owned k e lt) out.dealt.others

-- the own texts of modules, as they are read
abbrev own_texts : List (List ℕ) → Rest → List Piece → Read_own
own_texts table ts ms = owns_within (λ (p : Piece). at p.body) (read_own table ts) MAX_OWN_NETS ms

pub owns_same : (table : List (List ℕ)) (ts : Rest) (d : Dealt) → IsDealtOut ts d
    → own_texts table ts (modules_of ts) ≡ owns table (names_one (modules_of ts)) d.others ts d.modules
owns_same table ts d out =
    let ms = modules_of ts in
    let each = own_each ts d out in
    ap (own_texts table ts) (sym (modules_are ts d out.dealt))
    ∙ within_each (λ (p : Piece). at p.body) (read_own table ts) (piece_in ts)
    (λ (p : ModuleSpan). as_verilog (said table (own_text (names_one ms) d.others ts p))) MAX_OWN_NETS d.modules
    (λ k e lt. said_same table ts (piece_in ts (get_or d.modules k e)) ∙ ap (λ xs. as_verilog (said table xs)) (each k e lt))

pub all_written_same : (ts : Rest) (d : Dealt) → IsDealtOut ts d
    → all_of (read_written (modules_of ts)) (modules_of ts) ≡ as_verilog (all_written (names_one (modules_of ts)) ts d.modules)
all_written_same ts d out =
    let ms = modules_of ts in
    ap (all_of (read_written ms)) (sym (modules_are ts d out.dealt))
    ∙ all_each (λ p. written (names_one ms) (part ts p.body p.stop)) (read_written ms) (piece_in ts) d.modules
    (λ k e lt. written_same ms (piece_in ts (get_or d.modules k e)))

-- ---- the whole

abbrev Total : Type 0
Total = Result (List ReadModule) FlatFault

abbrev last_step : List (Module × Parts) → List (List Written) → Total
last_step os ws = no_fault Twice (first_of (map (second_instance []) ws)) then (λ _. Ok (map gathered (zip os ws)))

abbrev written_step : Result (List (List Written)) FlatFault → List (Module × Parts) → Total
written_step ws os = ws then (λ all. last_step os all)

abbrev own_step : Result (List (List Written)) FlatFault → Read_own → Total
own_step ws os = os then (λ all. written_step ws all)

read_is : (table : List (List ℕ)) (ts : Rest)
    → read_modules table ts
    ≡ (no_fault Twice (second_module [] (modules_of ts)) then (λ _. own_step (all_of (read_written (modules_of ts)) (modules_of ts))
    (own_texts table ts (modules_of ts))))
unfolding read_modules
read_is table ts = refl

marks_same : (ts : Rest) (d : Dealt) (marks : ℕ → Bool) → IsDealtOut ts d → marks ≡ is_in (heads ts d.modules) → marks ≡ names_one (modules_of ts)
marks_same ts d marks out e =
    e ∙ ap is_in (heads_are ts d out.dealt) ∙ (λ j id. marks_are (modules_of ts) id j)

-- once no module stands twice
once_is : (table : List (List ℕ)) (ts : Rest) (d : Dealt) (marks : ℕ → Bool) → IsDealtOut ts d → marks ≡ is_in (heads ts d.modules)
    → repeated_fault (heads ts d.modules) ≡ None
    → read_modules table ts ≡ own_step (as_verilog (all_written marks ts d.modules)) (owns table marks d.others ts d.modules)
once_is table ts d marks out e once =
    let ms = modules_of ts in
    let same = marks_same ts d marks out e in
    let few : repeated_fault (heads_of ms) ≡ None = sym (ap repeated_fault (heads_are ts d out.dealt)) ∙ once in
    read_is table ts
    ∙ ap (λ (r : Result (List ℕ) FlatFault). r then (λ _. own_step (all_of (read_written ms) ms) (own_texts table ts ms))) (modules_once ms few)
    ∙ ap (λ ws. own_step ws (own_texts table ts ms)) (all_written_same ts d out)
    ∙ ap (own_step (as_verilog (all_written (names_one ms) ts d.modules))) (owns_same table ts d out)
    ∙ ap (λ (f : ℕ → Bool). own_step (as_verilog (all_written f ts d.modules)) (owns table f d.others ts d.modules)) (sym same)

abbrev Both : Type 0
Both = Result (List (Module × Parts) × List (List Written)) FlatFault

abbrev both_of : Read_own → Result (List (List Written)) VerilogFault → Both
both_of os ws = os then (λ o. with_written o ws)

abbrev finished : Both → Total
finished (Ok both) = last_step both.0 both.1
finished (Err fault) = Err fault

steps_are : (os : Read_own) (ws : Result (List (List Written)) VerilogFault) → own_step (as_verilog ws) os ≡ finished (both_of os ws)
steps_are (Err e) ws = refl
steps_are (Ok o) (Err e) = refl
steps_are (Ok o) (Ok w) = refl

total_is : (table : List (List ℕ)) (ts : Rest) (d : Dealt) (marks : ℕ → Bool) → IsDealtOut ts d → marks ≡ is_in (heads ts d.modules)
    → repeated_fault (heads ts d.modules) ≡ None → read_modules table ts ≡ finished (all_read table marks ts d)
total_is table ts d marks out e once =
    once_is table ts d marks out e once ∙ steps_are (owns table marks d.others ts d.modules) (all_written marks ts d.modules)

-- what is answered, module_and_parts as modules
abbrev seen_as : Result Modules FlatFault → Total
seen_as (Ok m) = Ok (read_modules_of m)
seen_as (Err fault) = Err fault

answer_as : (total : Total) (x r : Result Modules FlatFault) → total ≡ seen_as x → Answers NoMemory (λ m. m) r x → Answers NoMemory read_modules_of r total
answer_as total x (Ok m) e a = e ∙ ap seen_as a
answer_as total x (Err fault) e (inl memory) = inl memory
answer_as total x (Err fault) e (inr a) = inr (e ∙ ap seen_as a)

apart_as : (m : Modules) (r : Result ⊤ VerilogFault) → Twofold m.written r → last_step (map module_and_parts m.owns) m.written ≡ seen_as (apart_or m r)
apart_as m (Ok done) e = ap (λ (r : Result (List ℕ) FlatFault). r then (λ _. Ok (read_modules_of m))) e
apart_as m (Err fault) e = ap (λ (r : Result (List ℕ) FlatFault). r then (λ _. Ok (read_modules_of m))) e

pub read_found : (table : List (List ℕ)) (ts : Rest) (d : Dealt) (marks : ℕ → Bool) (m : Modules) (r : Result Modules FlatFault) → IsDealtOut ts d
    → marks ≡ is_in (heads ts d.modules) → repeated_fault (heads ts d.modules) ≡ None → all_read table marks ts d ≡ Ok (parts_read m)
    → Answers NoMemory (λ m. m) r (apart m) → Answers NoMemory read_modules_of r (read_modules table ts)
read_found table ts d marks m r out e once read a =
    answer_as (read_modules table ts) (apart m) r
    (total_is table ts d marks out e once ∙ ap finished read ∙ apart_as m (all_apart m.written) (instances_twofold m.written)) a

pub read_fault : (table : List (List ℕ)) (ts : Rest) (d : Dealt) (marks : ℕ → Bool) (fault : FlatFault) → IsDealtOut ts d
    → marks ≡ is_in (heads ts d.modules) → repeated_fault (heads ts d.modules) ≡ None
    → (fault ≡ NoMemory) ⊎ (all_read table marks ts d ≡ Err fault) → (fault ≡ NoMemory) ⊎ (read_modules table ts ≡ Err fault)
read_fault table ts d marks fault out e once (inl memory) = inl memory
read_fault table ts d marks fault out e once (inr read) = inr (total_is table ts d marks out e once ∙ ap finished read)

-- a refusal of a text is one of its design
pub as_fault : {A : Type 0} (r : Result A VerilogFault) (fault : VerilogFault) → (fault ≡ out_of_memory) ⊎ (r ≡ Err fault)
    → (fault_of fault ≡ NoMemory) ⊎ (as_verilog r ≡ Err (fault_of fault))
as_fault r fault (inl memory) = inl (ap fault_of memory)
as_fault r fault (inr e) = by fault (ap as_verilog e)
  where
    by : (fault : VerilogFault) → as_verilog r ≡ Err (Verilog fault) → (fault_of fault ≡ NoMemory) ⊎ (as_verilog r ≡ Err (fault_of fault))
    by out_of_memory e = inl refl
    by fault e = inr e

pub written_fault : (os : List (Module × Parts)) (r : Result (List (List Written)) VerilogFault) (fault : VerilogFault)
    → (fault ≡ out_of_memory) ⊎ (r ≡ Err fault) → (fault_of fault ≡ NoMemory) ⊎ (with_written os r ≡ Err (fault_of fault))
written_fault os r fault h = by (as_fault r fault h)
  where
    by : (fault_of fault ≡ NoMemory) ⊎ (as_verilog r ≡ Err (fault_of fault)) → (fault_of fault ≡ NoMemory) ⊎ (with_written os r ≡ Err (fault_of fault))
    by (inl memory) = inl memory
    by (inr e) = inr (ap (λ (w : Result (List (List Written)) FlatFault). w then (λ all. Ok (os, all))) e)

pub read_twice : (table : List (List ℕ)) (ts : Rest) (d : Dealt) (fault : VerilogFault) → IsDealtOut ts d
    → (fault ≡ out_of_memory) ⊎ (repeated_fault (heads ts d.modules) ≡ Some fault)
    → (twice_of fault ≡ NoMemory) ⊎ (read_modules table ts ≡ Err (twice_of fault))
read_twice table ts d fault out (inl memory) = inl (ap twice_of memory)
read_twice table ts d fault out (inr twice) =
    let ms = modules_of ts in
    inr (read_is table ts
    ∙ ap (λ (r : Result (List ℕ) FlatFault). r then (λ _. own_step (all_of (read_written ms) ms) (own_texts table ts ms)))
    (modules_twice ms fault (sym (ap repeated_fault (heads_are ts d out.dealt)) ∙ twice)))
