-- Where all that stands outside the modules are cells, a module's own text says alone what it says with them.
use Rattle.std.proofs.Common.{◌≡◌, ℕ, zero, suc, ◌+◌, ◌-◌, ◌<◌, ◌≤◌, Bool, true, false, cond, not, ◌&&◌, ◌==◌, List, [], ◌∷◌, ◌++◌, length, map, take, drop}
use Rattle.std.proofs.Common.{Option, Some, None, Result, Ok, Err, refl, sym, ap, ◌∙◌, arith, append_assoc}
use Rattle.std.specs.Prelude.{option_map}
use Rattle.std.specs.List.{All, list_all}
use Rattle.std.proofs.Math.Path.{subst}
use Rattle.std.proofs.lemmas.List.{length-append}
use Rattle.std.proofs.lemmas.Bool.{eqb-true}
use Rattle.std.proofs.lemmas.List.Elements.{All-weaker, All-cons, All-nil, All-head, All-tail}
use Rattle.bs_bits.specs.Reading.{◌>>=◌}
use Rattle.bs_net.specs.Parts.{Parts}
use Rattle.bs_lex.specs.Packed.{Lexeme}
use Rattle.bs_lex.specs.declared.lexeme.Sort.{Sort}
use Rattle.bs_lex.specs.declared.lexeme.Sort.TheVariants as sorts
use Rattle.bs_lex.specs.declared.lexeme.Word.TheVariants as words
use Rattle.bs_lex.specs.Lexemes.{is_name}
use Rattle.bs_verilog_syntax.specs.declared.tree.Module.{Module}
use Rattle.bs_verilog_syntax.specs.declared.reading.Due.TheVariants as due
use Rattle.bs_verilog_syntax.specs.declared.reading.AttributeStep.{AttributeStep}
use Rattle.bs_verilog_syntax.specs.declared.reading.AttributeStep.TheVariants.{On, Over, Unclosed}
use Rattle.bs_verilog_syntax.specs.declared.fault.VerilogFault.{VerilogFault}
use Rattle.bs_verilog_syntax.specs.declared.fault.VerilogFault.TheVariants.{Syntax, Unsupported}
use Rattle.bs_verilog_syntax.specs.declared.fault.What.TheVariants as what
use Rattle.bs_verilog_syntax.specs.Reading.{Rest, Skip, at, sort, rest, refused}
use Rattle.bs_verilog_syntax.specs.Terms.{attribute_step, attributes_from, attributes}
use Rattle.bs_verilog_syntax.specs.Modules.{is_module, is_endmodule, is_end, is_cell, begun, skipped, further, syntax_of}
use Rattle.bs_verilog.specs.Netlist.{meaning_of}
use Rattle.bs_flat_meaning.specs.Pieces.{Piece, before, first_piece, is_design, loose, pieces, pieces_from, to_endmodule}
use Rattle.bs_flat_modules.specs.declared.pieces.Cut.{Cut}
use Rattle.bs_flat_modules.specs.Dealing.{CutsFirst, Standing, piece_at, IsDealt, designs_after, others_of, standing_at}
use Rattle.bs_flat_modules.specs.declared.dealing.ModuleSpan.{ModuleSpan}
use Rattle.bs_flat_modules.specs.declared.dealing.Dealt.{Dealt}
use Rattle.bs_flat_modules.specs.Owns.{own_body, own_text, said}
use Rattle.bs_flat_modules.specs.Alone.{AreTidy, text_end, one_module, IsSure, is_shut, is_whole_module, own_alone, SaysAlike, AlikeWhere}
use Rattle.bs_flat_modules.specs.Copying.{part}
use Rattle.bs_flat_modules.proofs.DealLemmas.{design_first, other_first, outside_design, outside_other}
use Rattle.bs_flat_modules.proofs.PieceLemmas.{pieces_cut, drop_drop}
use Rattle.bs_flat_modules.proofs.LawLemmas.{take_past, drop_past}
use Rattle.bs_flat_modules.proofs.ShutLemmas.{shut_in}
use Rattle.bs_flat_modules.proofs.AloneLemmas.{AreFollowed, IsCell, AreCells, no_cell, one_cell, cells_lead, cells_follow, said_between}

-- ---- attributes before a `module`

over_module : (y : Rest) → is_module (sort y) ≡ true → attributes_from false y ≡ Ok y
unfolding attributes_from
over_module [] m = absurd cc
over_module (t ∷ ts) m = by t.sort m
  where
    by : (s : Sort) → is_module s ≡ true
        → (elim (attribute_step false s) as (λ _. Skip) [ On next ↦ attributes_from next ts | Over ↦ Ok (t ∷ ts) | Unclosed ↦ Err (Syntax t.at) ]) ≡ Ok (t ∷ ts)
    by (sorts.Word w) m = refl
    by (sorts.Name n) m = absurd cc
    by (sorts.Bit b) m = absurd cc
    by (sorts.Digits n) m = absurd cc
    by (sorts.Symbol c) m = absurd cc
    by _ m = absurd cc

-- the attributes before a `module` are passed over also with another module behind them
record IsSplit (inside : Bool) (ts here : Rest) : Type 0 where
  front : Rest
  is : ts ≡ front ++ here
  same : (y : Rest) → is_module (sort y) ≡ true → attributes_from inside (front ++ y) ≡ Ok y
  begins : inside ≡ false → (y : Rest) → is_module (sort y) ≡ true → is_end (sort (front ++ y)) ≡ false

module_is_no_end : (y : Rest) → is_module (sort y) ≡ true → is_end (sort y) ≡ false
module_is_no_end [] m = absurd cc
module_is_no_end (t ∷ ts) m = by t.sort m
  where
    by : (s : Sort) → is_module s ≡ true → is_end s ≡ false
    by (sorts.Word w) m = refl
    by sorts.End m = absurd cc
    by _ m = refl

over_outside : (inside : Bool) (s : Sort) → attribute_step inside s ≡ Over → inside ≡ false
over_outside false s e = refl
over_outside true sorts.AttrClose e = absurd cc
over_outside true sorts.End e = absurd cc
over_outside true (sorts.Word w) e = absurd cc
over_outside true (sorts.Name n) e = absurd cc
over_outside true (sorts.Bit b) e = absurd cc
over_outside true (sorts.Digits n) e = absurd cc
over_outside true (sorts.Symbol c) e = absurd cc
over_outside true _ e = absurd cc

on_is_no_end : (s : Sort) (next : Bool) → attribute_step false s ≡ On next → is_end s ≡ false
on_is_no_end sorts.End next e = absurd cc
on_is_no_end (sorts.Word w) next e = refl
on_is_no_end _ next e = refl

ok_is : (x y : Rest) → ◌≡◌ {A = Skip} (Ok x) (Ok y) → x ≡ y
ok_is x y e = cc

split : (inside : Bool) (ts here : Rest) → attributes_from inside ts ≡ Ok here → is_module (sort here) ≡ true → IsSplit inside ts here
unfolding attributes_from
split inside [] here e m = absurd (none (ap (λ (xs : Rest). is_module (sort xs)) (ok_is [] here e) ∙ m))
  where
    none : ◌≡◌ {A = Bool} false true → ⊥
    none e = cc
split inside (t ∷ ts) here e m = by (attribute_step inside t.sort) refl (λ next h. split next ts here h m) e
  where
    by : (step : AttributeStep) → attribute_step inside t.sort ≡ step → ((next : Bool) → attributes_from next ts ≡ Ok here → IsSplit next ts here)
        → (elim step as (λ _. Skip) [ On next ↦ attributes_from next ts | Over ↦ Ok (t ∷ ts) | Unclosed ↦ Err (Syntax t.at) ]) ≡ Ok here
        → IsSplit inside (t ∷ ts) here
    by (On next) s later h =
        let r = later next h in
        record {
          front = t ∷ r.front;
          is = ap (λ (xs : Rest). t ∷ xs) r.is;
          same = λ y k.
              ap (λ (st : AttributeStep). elim st as (λ _. Skip) [
                | On next ↦ attributes_from next (r.front ++ y)
                | Over ↦ Ok (t ∷ (r.front ++ y))
                | Unclosed ↦ Err (Syntax t.at)
              ]) s
              ∙ r.same y k;
          begins = λ i y k. on_is_no_end t.sort next (subst (λ (b : Bool). attribute_step b t.sort ≡ On next) i s);
        }
    by Over s later h =
        record {
          front = [];
          is = ok_is (t ∷ ts) here h;
          same = λ y k. ap (λ (b : Bool). attributes_from b y) (over_outside inside t.sort s) ∙ over_module y k;
          begins = λ i y k. module_is_no_end y k;
        }
    by Unclosed s later h = absurd (none h)
      where
        none : ◌≡◌ {A = Skip} (Err (Syntax t.at)) (Ok here) → ⊥
        none e = cc

take_length : (a b : Rest) → take (length a) (a ++ b) ≡ a
take_length [] b = refl
take_length (x ∷ a) b = ap (λ (xs : Rest). x ∷ xs) (take_length a b)

take_front : (a b : Rest) → take (length (a ++ b) - length b) (a ++ b) ≡ a
take_front a b =
    let count : length (a ++ b) - length b ≡ length a = omega (arith, length-append a b) in
    ap (λ k. take k (a ++ b)) count ∙ take_length a b

-- ---- up to `endmodule`

abbrev is_inner : Rest → Bool
is_inner ts = list_all (λ t. not (is_end t.sort)) ts

inner_tail : (t : Lexeme) (ts : Rest) → is_inner (t ∷ ts) ≡ true → (is_end t.sort ≡ false) × (is_inner ts ≡ true)
inner_tail t ts e = by (is_end t.sort) (list_all_is t ts e)
  where
    list_all_is : (t : Lexeme) (ts : Rest) → is_inner (t ∷ ts) ≡ true → (not (is_end t.sort) && is_inner ts) ≡ true
    list_all_is t ts e = e

    by : (b : Bool) → (not b && is_inner ts) ≡ true → (b ≡ false) × (is_inner ts ≡ true)
    by true e = absurd (none e)
      where
        none : ◌≡◌ {A = Bool} false true → ⊥
        none e = cc
    by false e = (refl, e)

skips : (ts : Rest) (m : Rest × Rest) → to_endmodule ts ≡ Some m → is_inner m.0 ≡ true → (x : Rest) → skipped (m.0 ++ x) ≡ Ok x
unfolding skipped to_endmodule
skips [] m e n x = absurd cc
skips (t ∷ ts) m e n x = by (is_endmodule t.sort) refl e (λ r o i. skips ts r o i x)
  where
    later : ((r : Rest × Rest) → to_endmodule ts ≡ Some r → is_inner r.0 ≡ true → skipped (r.0 ++ x) ≡ Ok x)
        → (o : Option (Rest × Rest)) → to_endmodule ts ≡ o → is_endmodule t.sort ≡ false → option_map (λ (r : Rest × Rest). (t ∷ r.0, r.1)) o ≡ Some m
        → skipped (m.0 ++ x) ≡ Ok x
    later on None o f e = absurd cc
    later on (Some r) o f e =
        let same : (t ∷ r.0, r.1) ≡ m = cc in
        let inner = inner_tail t r.0 (ap (λ (k : Rest × Rest). is_inner k.0) same ∙ n) in
        ap (λ (k : Rest × Rest). skipped (k.0 ++ x)) (sym same)
        ∙ ap (λ (b : Bool). cond b (Ok (r.0 ++ x)) (cond (is_end t.sort) (Err (Syntax t.at)) (skipped (r.0 ++ x)))) f
        ∙ ap (λ (b : Bool). cond b (Err (Syntax t.at)) (skipped (r.0 ++ x))) inner.0
        ∙ on r o inner.1

    by : (b : Bool) → is_endmodule t.sort ≡ b
        → cond b (Some (t ∷ [], ts)) (option_map (λ (r : Rest × Rest). (t ∷ r.0, r.1)) (to_endmodule ts)) ≡ Some m
        → ((r : Rest × Rest) → to_endmodule ts ≡ Some r → is_inner r.0 ≡ true → skipped (r.0 ++ x) ≡ Ok x) → skipped (m.0 ++ x) ≡ Ok x
    by true f e on =
        let same : (t ∷ [], ts) ≡ m = cc in
        ap (λ (k : Rest × Rest). skipped (k.0 ++ x)) (sym same)
        ∙ ap (λ (b : Bool). cond b (Ok x) (cond (is_end t.sort) (Err (Syntax t.at)) (skipped x))) f
    by false f e on = later on (to_endmodule ts) refl f e

-- ---- a cell's module

cell_behind : (inside x : Rest) → is_cell (sort inside) ≡ true → is_cell (sort (inside ++ x)) ≡ true
cell_behind [] x e = absurd cc
cell_behind (t ∷ ts) x e = e

module_behind : (y x : Rest) → is_module (sort y) ≡ true → is_module (sort (y ++ x)) ≡ true
module_behind [] x e = absurd cc
module_behind (t ∷ ts) x e = e

rest_behind : (y x : Rest) → is_module (sort y) ≡ true → rest (y ++ x) ≡ rest y ++ x
rest_behind [] x e = absurd cc
rest_behind (t ∷ ts) x e = refl

some_module : (y : Rest) → is_module (sort y) ≡ true → 0 < length y
some_module [] e = absurd cc
some_module (t ∷ ts) e = omega arith

-- a body that begins with `module` ends with the first `endmodule` behind it
tail_ends : (here : Rest) (m : Rest × Rest) → is_module (sort here) ≡ true → to_endmodule here ≡ Some m → is_inner m.0 ≡ true
    → (x : Rest) → skipped (rest m.0 ++ x) ≡ Ok x
unfolding to_endmodule
tail_ends [] m k e n x = absurd cc
tail_ends (t ∷ ts) m k e n x = by (is_endmodule t.sort) refl e
  where
    module_goes_on : (s : Sort) → is_module s ≡ true → is_endmodule s ≡ false
    module_goes_on (sorts.Word words.Module) e = refl
    module_goes_on (sorts.Word words.Endmodule) e = absurd cc
    module_goes_on (sorts.Word _) e = absurd cc
    module_goes_on _ e = refl

    clash : ◌≡◌ {A = Bool} true false → ⊥
    clash e = cc

    later : (o : Option (Rest × Rest)) → to_endmodule ts ≡ o → option_map (λ (r : Rest × Rest). (t ∷ r.0, r.1)) o ≡ Some m
        → skipped (rest m.0 ++ x) ≡ Ok x
    later None o e = absurd cc
    later (Some r) o e =
        let same : (t ∷ r.0, r.1) ≡ m = cc in
        let inner = inner_tail t r.0 (ap (λ (k : Rest × Rest). is_inner k.0) same ∙ n) in
        ap (λ (k : Rest × Rest). skipped (rest k.0 ++ x)) (sym same) ∙ skips ts r o inner.1 x

    by : (b : Bool) → is_endmodule t.sort ≡ b
        → cond b (Some (t ∷ [], ts)) (option_map (λ (r : Rest × Rest). (t ∷ r.0, r.1)) (to_endmodule ts)) ≡ Some m → skipped (rest m.0 ++ x) ≡ Ok x
    by true f e = absurd (clash (sym f ∙ module_goes_on t.sort k))
    by false f e = later (to_endmodule ts) refl e

begun_is : (ts here : Rest) → attributes ts ≡ Ok here → is_module (sort here) ≡ true → begun ts ≡ Ok (rest here)
unfolding begun
begun_is ts here e m =
    ap (λ (r : Skip). r >>= λ here. cond (is_module (sort here)) (Ok (rest here)) (Err (refused due.Module here))) e
    ∙ ap (λ (b : Bool). cond b (Ok (rest here)) (Err (refused due.Module here))) m

further_is : (ts here : Rest) → attributes ts ≡ Ok here → is_module (sort here) ≡ true → is_cell (sort (rest here)) ≡ true
    → further ts ≡ skipped (rest here)
unfolding further
further_is ts here e m c =
    ap (λ (r : Skip). r >>= past) e ∙ ap (λ (r : Skip). r >>= inside_of here) (begun_is here here (over_module here m) m)
    ∙ ap (λ (b : Bool). cond b (skipped (rest here)) (cond (is_name (sort (rest here))) (Err (Unsupported (at here) what.Hierarchy))
    (Err (refused due.Nothing (rest here))))) c
  where
    inside_of : Rest → Rest → Skip
    inside_of here inside =
        cond (is_cell (sort inside)) (skipped inside)
        (cond (is_name (sort inside)) (Err (Unsupported (at here) what.Hierarchy)) (Err (refused due.Nothing inside)))

    past : Rest → Skip
    past here = begun here >>= inside_of here

cell_with : (front body : Rest) → ((y : Rest) → is_module (sort y) ≡ true → attributes (front ++ y) ≡ Ok y)
    → ((y : Rest) → is_module (sort y) ≡ true → is_end (sort (front ++ y)) ≡ false) → is_module (sort body) ≡ true → is_cell (sort (rest body)) ≡ true
    → ((x : Rest) → skipped (rest body ++ x) ≡ Ok x) → IsCell (front ++ body)
cell_with front body passes begins m c ends =
    record {
      inside = rest body;
      some = omega (arith, length-append front body, some_module body m);
      begins = λ x.
          ap begun (append_assoc front body x)
          ∙ begun_is (front ++ (body ++ x)) (body ++ x) (passes (body ++ x) (module_behind body x m)) (module_behind body x m)
          ∙ ap (λ (xs : Rest). Ok xs) (rest_behind body x m);
      cell = λ x. cell_behind (rest body) x c;
      ends = ends;
      passes = λ x.
          ap further (append_assoc front body x)
          ∙ further_is (front ++ (body ++ x)) (body ++ x) (passes (body ++ x) (module_behind body x m)) (module_behind body x m)
          (ap (λ (xs : Rest). is_cell (sort xs)) (rest_behind body x m) ∙ cell_behind (rest body) x c)
          ∙ ap skipped (rest_behind body x m) ∙ ends x;
      goes_on = λ x. ap (λ (xs : Rest). is_end (sort xs)) (append_assoc front body x) ∙ begins (body ++ x) (module_behind body x m);
    }

-- a piece that is a module and no design is a cell
abbrev IsCellWhere : Piece → Type 0
IsCellWhere p = is_module (sort p.body) ≡ true → is_design p ≡ false → is_inner p.body ≡ true → IsCell (p.attributes ++ p.body)

abbrev by_end : Rest → Rest → Option (Rest × Rest) → Piece × Rest
by_end ts here (Some m) = (record { attributes = before ts here; body = m.0 }, m.1)
by_end ts here None = loose ts []

abbrev by_here : Lexeme → Rest → Rest → Piece × Rest
by_here t ts here =
    cond (is_module (sort here)) (by_end (t ∷ ts) here (to_endmodule here))
    (cond (length here == length ts + 1) (loose (t ∷ []) ts) (loose (before (t ∷ ts) here) here))

abbrev by_attributes : Lexeme → Rest → Skip → Piece × Rest
by_attributes t ts (Ok here) = by_here t ts here
by_attributes t ts (Err fault) = loose (t ∷ ts) []

loose_is_none : (ts after : Rest) → IsCellWhere (loose ts after).0
loose_is_none ts after m d n = absurd cc

is_cell_by : (m c : Bool) → m ≡ true → (m && not c) ≡ false → c ≡ true
is_cell_by true true e d = refl
is_cell_by true false e d = absurd cc
is_cell_by false c e d = absurd cc

first_is_cell : (t : Lexeme) (ts : Rest) → IsCellWhere (first_piece t ts).0
unfolding first_piece
first_is_cell t ts = by (attributes (t ∷ ts)) refl
  where
    ended : (here : Rest) → attributes (t ∷ ts) ≡ Ok here → is_module (sort here) ≡ true → (o : Option (Rest × Rest)) → to_endmodule here ≡ o
        → IsCellWhere (by_end (t ∷ ts) here o).0
    ended here e m None o = loose_is_none (t ∷ ts) []
    ended here e m (Some k) o = λ b d n.
        let s = split false (t ∷ ts) here e m in
        let cut : before (t ∷ ts) here ≡ s.front =
        ap (λ (xs : Rest). take (length xs - length here) xs) s.is ∙ take_front s.front here in
        subst (λ (xs : Rest). IsCell (xs ++ k.0)) (sym cut)
        (cell_with s.front k.0 s.same (s.begins refl) b (is_cell_by (is_module (sort k.0)) (is_cell (sort (rest k.0))) b d) (tail_ends here k m o n))

    moduled : (here : Rest) → attributes (t ∷ ts) ≡ Ok here → (b : Bool) → is_module (sort here) ≡ b
        → IsCellWhere (cond b (by_end (t ∷ ts) here (to_endmodule here))
        (cond (length here == length ts + 1) (loose (t ∷ []) ts) (loose (before (t ∷ ts) here) here))).0
    moduled here e true m = ended here e m (to_endmodule here) refl
    moduled here e false m = by (length here == length ts + 1)
      where
        by : (b : Bool) → IsCellWhere (cond b (loose (t ∷ []) ts) (loose (before (t ∷ ts) here) here)).0
        by true = loose_is_none (t ∷ []) ts
        by false = loose_is_none (before (t ∷ ts) here) here

    by : (r : Skip) → attributes (t ∷ ts) ≡ r → IsCellWhere (by_attributes t ts r).0
    by (Ok here) e = moduled here e (is_module (sort here)) refl
    by (Err fault) e = loose_is_none (t ∷ ts) []

-- pieces as they are cut
data AreCut : List Piece → Type 0 where
  none_cut : AreCut []
  one_cut : (p : Piece) (ps : List Piece) → IsCellWhere p → AreCut ps → AreCut (p ∷ ps)

all_cut : (n : ℕ) (ts : Rest) → AreCut (pieces_from n ts)
unfolding pieces_from
all_cut zero ts = none_cut
all_cut (suc n) [] = none_cut
all_cut (suc n) (t ∷ ts) = one_cut (first_piece t ts).0 (pieces_from n (first_piece t ts).1) (first_is_cell t ts) (all_cut n (first_piece t ts).1)

-- ---- what stands outside tidy pieces

-- cells, and the end of the text
record EndsTidy (others : Rest) : Type 0 where
  front : Rest
  last : Lexeme
  cells : AreCells front
  ends : is_end last.sort ≡ true
  are : others ≡ front ++ last ∷ []

abbrev outer : Piece → Rest
outer p = p.attributes ++ p.body

outside_tidy : (ps : List Piece) → AreCut ps → AreTidy ps → EndsTidy (others_of ps)
outside_tidy _ c (text_end t e) = record { front = []; last = t; cells = no_cell; ends = e; are = refl }
outside_tidy _ (one_cut _ _ w c) (one_module p ps m n k) = by (is_design p) refl (outside_tidy ps c k)
  where
    by : (b : Bool) → is_design p ≡ b → EndsTidy (others_of ps) → EndsTidy (others_of (p ∷ ps))
    by true d later = subst EndsTidy (sym (outside_design p ps d)) later
    by false d later =
        record {
          front = outer p ++ later.front;
          last = later.last;
          cells = one_cell (outer p) later.front (w m d n) later.cells;
          ends = later.ends;
          are = outside_other p ps d ∙ ap (λ xs. outer p ++ xs) later.are ∙ sym (append_assoc (outer p) later.front (later.last ∷ []));
        }

-- cells stand before and behind so many lexemes
record IsBetween (others : Rest) (k : ℕ) (s : Standing) : Type 0 where
  low : k ≤ s.before
  ahead : AreCells (take (s.before - k) others)
  behind : EndsTidy (drop (s.before - k) others)

between_behind : (ps : List Piece) (p : Piece) (k : ℕ) (s : Standing) → is_design p ≡ false → IsCell (outer p)
    → IsBetween (others_of ps) (k + length (outer p)) s → IsBetween (others_of (p ∷ ps)) k s
between_behind ps p k s d w b =
    let n = s.before - k in
    let size = length (outer p) in
    let low = b.low in
    let within : size ≤ n = omega (arith, low) in
    let count : s.before - (k + size) ≡ n - size = omega arith in
    let os = others_of ps in
    record {
      low = omega (arith, low);
      ahead =
          subst AreCells
          (sym (take_past (outer p) os n within) ∙ ap (λ xs. take n xs) (sym (outside_other p ps d)))
          (one_cell (outer p) (take (n - size) os) w (subst (λ j. AreCells (take j os)) count b.ahead));
      behind =
          subst EndsTidy
          (ap (λ j. drop j os) count ∙ sym (drop_past (outer p) os n within) ∙ ap (λ xs. drop n xs) (sym (outside_other p ps d)))
          b.behind;
    }

all_between : (ps : List Piece) (k : ℕ) → AreCut ps → AreTidy ps → All (IsBetween (others_of ps) k) (designs_after k ps)
unfolding designs_after
all_between _ k c (text_end t e) = All-nil (IsBetween (others_of (record { attributes = t ∷ []; body = [] } ∷ [])) k)
all_between _ k (one_cut _ _ w c) (one_module p ps m n t) =
    by (is_design p) refl (outside_tidy (p ∷ ps) (one_cut p ps w c) (one_module p ps m n t)) (λ k. all_between ps k c t)
  where
    by : (b : Bool) → is_design p ≡ b → EndsTidy (others_of (p ∷ ps)) → ((k : ℕ) → All (IsBetween (others_of ps) k) (designs_after k ps))
        → All (IsBetween (others_of (p ∷ ps)) k) (designs_after k (p ∷ ps))
    by true d tidy later =
        let none : 0 ≡ k - k = omega arith in
        let here : Standing = record { before = k; piece = p } in
        subst (λ ss. All (IsBetween (others_of (p ∷ ps)) k) ss) (sym (design_first k p ps d))
        (All-cons (IsBetween (others_of (p ∷ ps)) k) here (designs_after k ps)
        (record {
          low = omega arith;
          ahead = subst (λ j. AreCells (take j (others_of (p ∷ ps)))) none no_cell;
          behind = subst (λ j. EndsTidy (drop j (others_of (p ∷ ps)))) none tidy;
        })
        (subst (λ os. All (IsBetween os k) (designs_after k ps)) (sym (outside_design p ps d)) (later k)))
    by false d tidy later =
        subst (λ ss. All (IsBetween (others_of (p ∷ ps)) k) ss) (sym (other_first k p ps d))
        (All-weaker (IsBetween (others_of ps) (k + length (outer p))) (IsBetween (others_of (p ∷ ps)) k)
        (λ s b. between_behind ps p k s d (w m d n) b) (designs_after (k + length (outer p)) ps) (later (k + length (outer p))))

alike : (others : Rest) (s : Standing) → IsBetween others 0 s → SaysAlike others s.before
alike others s b =
    let same : s.before - 0 ≡ s.before = omega arith in
    let cells : AreCells (take s.before others) = subst (λ j. AreCells (take j others)) same b.ahead in
    let end : EndsTidy (drop s.before others) = subst (λ j. EndsTidy (drop j others)) same b.behind in
    let u = drop s.before others in
    record {
      is = λ x m k e.
          said_between u (take s.before others) x (shut_in false x k).shut
          (subst AreFollowed (sym end.are) (cells_follow end.front end.last end.cells end.ends))
          (cells_lead u (take s.before others) x cells) m e;
    }

all_of_map : {X Y : Type 0} (f : X → Y) (P : Y → Type 0) (Q : X → Type 0) → ((x : X) → P (f x) → Q x) → (xs : List X) → All P (map f xs) → All Q xs
all_of_map f P Q h [] a = All-nil Q
all_of_map f P Q h (x ∷ xs) a =
    All-cons Q x xs (h x (All-head P (f x) (map f xs) a)) (all_of_map f P Q h xs (All-tail P (f x) (map f xs) a))

-- where a text is tidy, each of its modules says alone what it says with what stands outside
pub alike_where : (ts : Rest) (d : Dealt) (tidy : Bool) → IsDealt ts d → IsSure tidy (pieces ts) → AlikeWhere tidy d.others d.modules
alike_where ts d tidy dealt sure =
    record {
      is = λ e.
          let all = all_between (pieces ts) 0 (all_cut (length ts) ts) (sure.sure e) in
          let placed : All (IsBetween d.others 0) (map (standing_at ts) d.modules) =
          subst (λ os. All (IsBetween os 0) (map (standing_at ts) d.modules)) (sym dealt.others)
          (subst (λ ss. All (IsBetween (others_of (pieces ts)) 0) ss) (sym dealt.modules) all) in
          all_of_map (standing_at ts) (IsBetween d.others 0) (λ p. SaysAlike d.others p.before) (λ p b. alike d.others (standing_at ts p) b) d.modules placed;
    }

-- ---- what is said alone

pub said_alone_is : (table : List (List ℕ)) (marks : ℕ → Bool) (others ts : Rest) (p : ModuleSpan) (v : Module × Parts) → SaysAlike others p.before
    → is_shut false (own_alone marks ts p) ≡ true → said table (own_alone marks ts p) ≡ Ok v → said table (own_text marks others ts p) ≡ Ok v
said_alone_is table marks others ts p v s k e = by (syntax_of (own_alone marks ts p)) refl e
  where
    a : Rest
    a = part ts p.from p.body

    b : Rest
    b = own_body marks (part ts p.body p.stop)

    meant : Module → Result (Module × Parts) VerilogFault
    meant m = meaning_of table m >>= λ parts. Ok (m, parts)

    by : (r : Result Module VerilogFault) → syntax_of (own_alone marks ts p) ≡ r → (r >>= meant) ≡ Ok v → said table (own_text marks others ts p) ≡ Ok v
    by (Ok m) r e =
        ap (λ xs. syntax_of (take p.before others ++ xs) >>= meant) (sym (append_assoc a b (drop p.before others)))
        ∙ ap (λ (t : Result Module VerilogFault). t >>= meant) (s.is (own_alone marks ts p) m k r) ∙ e
    by (Err f) r e = absurd cc

-- ---- the test, piece by piece

-- where the pieces from a place on are tidy, all are
pub record IsTidying (ts : Rest) (from : ℕ) : Type 0 where
  pub all : AreTidy (pieces (drop from ts)) → AreTidy (pieces ts)

pub tidy_start : (ts : Rest) → IsTidying ts 0
tidy_start ts = record { all = λ t. t }

pub tidy_no : (ps : List Piece) → IsSure false ps
tidy_no ps = record { sure = λ e. absurd (none e) }
  where
    none : ◌≡◌ {A = Bool} false true → ⊥
    none e = cc

whole_is : (b c : Bool) → (b && c) ≡ true → (b ≡ true) × (c ≡ true)
whole_is true c e = (refl, e)
whole_is false c e = absurd cc

pub tidy_on : (ts : Rest) (from : ℕ) (c : Cut) (here : Rest) → here ≡ drop from ts → CutsFirst here c → is_whole_module (part here c.body c.stop) ≡ true
    → IsTidying ts from → IsTidying ts (from + c.stop)
tidy_on ts from c here same cut w t =
    let there = drop from ts in
    let whole = whole_is (is_module (sort (part there c.body c.stop))) (is_inner (part there c.body c.stop))
    (sym (ap (λ xs. is_whole_module (part xs c.body c.stop)) same) ∙ w) in
    record {
      all = λ k.
          t.all (subst AreTidy (sym (pieces_cut there c (subst (λ xs. CutsFirst xs c) same cut)))
          (one_module (piece_at there c) (pieces (drop c.stop there)) whole.0 whole.1 (subst (λ (xs : Rest). AreTidy (pieces xs)) (sym (drop_drop from c.stop ts)) k)));
    }

end_is_over : (t : Lexeme) → is_end t.sort ≡ true → attributes_from false (t ∷ []) ≡ Ok (t ∷ [])
unfolding attributes_from
end_is_over t e = by t.sort e
  where
    by : (s : Sort) → is_end s ≡ true
        → (elim (attribute_step false s) as (λ _. Skip) [ On next ↦ attributes_from next [] | Over ↦ Ok (t ∷ []) | Unclosed ↦ Err (Syntax t.at) ]) ≡ Ok (t ∷ [])
    by sorts.End e = refl
    by _ e = absurd cc

end_is_no_module : (s : Sort) → is_end s ≡ true → is_module s ≡ false
end_is_no_module sorts.End e = refl
end_is_no_module _ e = absurd cc

end_is_loose : (t : Lexeme) → is_end t.sort ≡ true → first_piece t [] ≡ loose (t ∷ []) []
unfolding first_piece
end_is_loose t e =
    ap (by_attributes t []) (end_is_over t e)
    ∙ ap (λ (b : Bool). cond b (by_end (t ∷ []) (t ∷ []) (to_endmodule (t ∷ [])))
    (cond (length (t ∷ []) == 0 + 1) (loose (t ∷ []) []) (loose (before (t ∷ []) (t ∷ [])) (t ∷ [])))) (end_is_no_module t.sort e)

end_piece : (t : Lexeme) → is_end t.sort ≡ true → AreTidy (pieces (t ∷ []))
unfolding pieces_from
end_piece t e = subst (λ (r : Piece × Rest). AreTidy (r.0 ∷ [])) (sym (end_is_loose t e)) (text_end t e)

one_left : (ts : Rest) → is_end (sort ts) ≡ true → length ts ≡ 1 → AreTidy (pieces ts)
one_left [] e h = absurd (omega (arith, h))
one_left (t ∷ []) e h = end_piece t e
one_left (t ∷ (s ∷ ts)) e h = absurd (omega (arith, h))

pub tidy_end : (ts : Rest) (from : ℕ) (here : Rest) (b : Bool) → here ≡ drop from ts → is_end (sort here) ≡ true → b ≡ (length here == 1)
    → IsTidying ts from → IsSure b (pieces ts)
tidy_end ts from here b same e count t =
    record {
      sure = λ f.
          t.all (subst (λ (xs : Rest). AreTidy (pieces xs)) same
          (one_left here e (eqb-true (length here) 1 (sym count ∙ f))));
    }
