-- A text that is shut says what it says alone also with cells around it.
use Rattle.std.proofs.Common.{◌≡◌, ℕ, zero, suc, ◌+◌, ◌<◌, ◌≤◌, Bool, true, false, cond, [], ◌∷◌, ◌++◌, length, Option, Some, None, Result, Ok, Err}
use Rattle.std.proofs.Common.{refl, ap, ◌∙◌, arith, append_assoc}
use Rattle.std.proofs.lemmas.List.{length-append}
use Rattle.std.proofs.Math.Path.{subst}
use Rattle.bs_bits.specs.Reading.{◌>>=◌}
use Rattle.bs_lex.specs.Packed.{Lexeme}
use Rattle.bs_lex.specs.declared.lexeme.Sort.{Sort}
use Rattle.bs_lex.specs.declared.lexeme.Sort.TheVariants as sorts
use Rattle.bs_lex.specs.declared.lexeme.Word.TheVariants as words
use Rattle.bs_verilog_syntax.specs.declared.fault.VerilogFault.{VerilogFault}
use Rattle.bs_verilog_syntax.specs.declared.fault.VerilogFault.TheVariants.{Syntax}
use Rattle.bs_verilog_syntax.specs.declared.tree.Module.{Module}
use Rattle.bs_verilog_syntax.specs.declared.tree.Adds.{Adds}
use Rattle.bs_verilog_syntax.specs.declared.tree.Direction as code
use Rattle.bs_verilog_syntax.specs.declared.tree.Net as code_net
use Rattle.bs_verilog_syntax.specs.Reading.{Rest, Read, Skip, sort, expect_name}
use Rattle.bs_verilog_syntax.specs.Terms.{attributes, attributes_from}
use Rattle.bs_verilog_syntax.specs.Declarations.{direction, net, port_says, net_says, names, header}
use Rattle.bs_verilog_syntax.specs.Parts.{gates, instances, assignments}
use Rattle.bs_verilog_syntax.specs.Modules as modules
use Rattle.bs_verilog_syntax.specs.Modules.{statement, item, items, top, is_endmodule, is_end, is_cell, is_module, skipped, begun, further, cells, leading, syntax_of}
use Rattle.bs_flat_modules.proofs.ShutLemmas.{Shut, tail_shut, shut_end, sort_more, rest_more, Each, Goes, Passes, Ends, goes_then}
use Rattle.bs_flat_modules.proofs.ShutLemmas.{passes_if, pass_pass, goes_end, pass_end, end_end}
use Rattle.bs_flat_modules.proofs.GoesLemmas.{attributes_go, name_goes, port_says_go, net_says_go, names_go, header_goes, gates_go, instances_go, assignments_go}

module _ (u : Rest) where
  -- ---- items

  statement_goes : (t : Lexeme) (ts : Rest) → Shut (t ∷ ts) → Goes u (statement t.sort (t ∷ ts)) (statement t.sort (t ∷ (ts ++ u)))
  statement_goes t ts k = by t.sort refl
    where
      by : (s : Sort) → t.sort ≡ s → Goes u (statement s (t ∷ ts)) (statement s (t ∷ (ts ++ u)))
      by (sorts.Word words.Assign) e =
          goes_then (assignments ts) (assignments (ts ++ u)) _ _ (assignments_go u ts (tail_shut (t ∷ ts) k (ap is_endmodule e))) (λ x s.
          record { is = (s, refl) })
      by (sorts.Word (words.Gate kind)) e =
          goes_then (gates kind ts) (gates kind (ts ++ u)) _ _ (gates_go u kind ts (tail_shut (t ∷ ts) k (ap is_endmodule e))) (λ x s.
          record { is = (s, refl) })
      by (sorts.Name (Some cell)) e =
          goes_then (instances cell ts) (instances cell (ts ++ u)) _ _ (instances_go u cell ts (tail_shut (t ∷ ts) k (ap is_endmodule e))) (λ x s.
          record { is = (s, refl) })
      by _ e = record { is = tt }

  direction_passes : (s : Sort) (d : code.Direction) → direction s ≡ Some d → is_endmodule s ≡ false
  direction_passes (sorts.Word words.Endmodule) d e = absurd cc
  direction_passes (sorts.Word words.Input) d e = refl
  direction_passes (sorts.Word words.Output) d e = refl
  direction_passes (sorts.Word _) d e = absurd cc
  direction_passes _ d e = refl

  net_passes : (s : Sort) (n : code_net.Net) → net s ≡ Some n → is_endmodule s ≡ false
  net_passes (sorts.Word words.Endmodule) n e = absurd cc
  net_passes (sorts.Word words.Wire) n e = refl
  net_passes (sorts.Word words.Supply0) n e = refl
  net_passes (sorts.Word words.Supply1) n e = refl
  net_passes (sorts.Word _) n e = absurd cc
  net_passes _ n e = refl

  item_goes : (ts : Rest) → Shut ts → Goes u (item ts) (item (ts ++ u))
  unfolding item
  item_goes [] k = absurd (elim k [ ])
  item_goes (t ∷ ts) k = by (direction t.sort) refl
    where
      net_by : (o : Option code_net.Net) → net t.sort ≡ o
          → Goes {A = Adds} u (elim o [
            | Some n ↦ net_says n ts >>= (λ says. modules.declares (names says.0 says.1))
            | None ↦ statement t.sort (t ∷ ts)
          ]) (elim o [
            | Some n ↦ net_says n (ts ++ u) >>= (λ says. modules.declares (names says.0 says.1))
            | None ↦ statement t.sort (t ∷ (ts ++ u))
          ])
      net_by (Some n) e =
          goes_then (net_says n ts) (net_says n (ts ++ u)) _ _ (net_says_go u n ts (tail_shut (t ∷ ts) k (net_passes t.sort n e))) (λ says s.
          goes_then (names says.0 says.1) (names says.0 (says.1 ++ u)) _ _ (names_go u says.0 says.1 s) (λ x z. record { is = (z, refl) }))
      net_by None e = statement_goes t ts k

      by : (o : Option code.Direction) → direction t.sort ≡ o
          → Goes {A = Adds} u (elim o [
            | Some d ↦ port_says d ts >>= (λ says. modules.declares (names says.0 says.1))
            | None ↦ elim (net t.sort) [
              | Some n ↦ net_says n ts >>= (λ says. modules.declares (names says.0 says.1))
              | None ↦ statement t.sort (t ∷ ts)
            ]
          ]) (elim o [
            | Some d ↦ port_says d (ts ++ u) >>= (λ says. modules.declares (names says.0 says.1))
            | None ↦ elim (net t.sort) [
              | Some n ↦ net_says n (ts ++ u) >>= (λ says. modules.declares (names says.0 says.1))
              | None ↦ statement t.sort (t ∷ (ts ++ u))
            ]
          ])
      by (Some d) e =
          goes_then (port_says d ts) (port_says d (ts ++ u)) _ _ (port_says_go u d ts (tail_shut (t ∷ ts) k (direction_passes t.sort d e))) (λ says s.
          goes_then (names says.0 says.1) (names says.0 (says.1 ++ u)) _ _ (names_go u says.0 says.1 s) (λ x z. record { is = (z, refl) }))
      by None e = net_by (net t.sort) refl

  items_end : (n m : ℕ) → n ≤ m → (ts : Rest) → Shut ts → Ends u (items n ts) (items m (ts ++ u))
  unfolding items
  items_end zero m h ts k = record { is = tt }
  items_end (suc n) zero h ts k = absurd (omega (arith, h))
  items_end (suc n) (suc m) h [] k = absurd (elim k [ ])
  items_end (suc n) (suc m) h (t ∷ ts) k = by (is_endmodule t.sort) refl (λ r z. items_end n m (omega (arith, h)) r z)
    where
      nothing : Adds
      nothing = record { declared = []; parts = [] }

      read_as : Adds → Rest → Read Adds
      read_as adds left = Ok (adds, left)

      more : Read Adds
      more = attributes (t ∷ ts) >>= λ here. item here >>= λ first. items n first.1 >>= λ others. Ok (modules.together first.0 others.0, others.1)

      more_there : Read Adds
      more_there = attributes (t ∷ (ts ++ u)) >>= λ here. item here >>= λ first. items m first.1 >>= λ others. Ok (modules.together first.0 others.0, others.1)

      by : (b : Bool) → is_endmodule t.sort ≡ b → ((r : Rest) → Shut r → Ends u (items n r) (items m (r ++ u)))
          → Ends u (cond b (Ok (nothing, ts)) more) (cond b (Ok (nothing, ts ++ u)) more_there)
      by true e others_end =
          let none = shut_end t ts k e in
          record { is = (none, ap (λ (xs : Rest). read_as nothing (xs ++ u)) none) }
      by false e others_end =
          pass_end (attributes (t ∷ ts)) (attributes (t ∷ (ts ++ u))) _ _ (attributes_go u (t ∷ ts) k) (λ here s.
          goes_end (item here) (item (here ++ u)) _ _ (item_goes here s) (λ first z.
          end_end (items n first.1) (items m (first.1 ++ u)) _ _ (others_end first.1 z) (λ others v.
          record { is = (v, refl) })))

  top_ends : (ts : Rest) → Shut ts → Ends u (top ts) (top (ts ++ u))
  unfolding top
  top_ends ts k =
      goes_end (expect_name ts) (expect_name (ts ++ u)) _ _ (name_goes u ts k) (λ n s.
      goes_end (header n.1) (header (n.1 ++ u)) _ _ (header_goes u n.1 s) (λ head z.
      end_end (items (length head.1 + 1) head.1) (items (length (head.1 ++ u) + 1) (head.1 ++ u)) _ _
      (items_end (length head.1 + 1) (length (head.1 ++ u) + 1) (omega (arith, length-append head.1 u)) head.1 z) (λ body v.
      record { is = (v, refl) })))

  -- ---- up to the top module

  module_passes : (s : Sort) → is_module s ≡ true → is_endmodule s ≡ false
  module_passes (sorts.Word words.Module) e = refl
  module_passes (sorts.Word words.Endmodule) e = absurd cc
  module_passes (sorts.Word _) e = absurd cc
  module_passes _ e = refl

  begun_goes : (ts : Rest) → Shut ts → Passes u (begun ts) (begun (ts ++ u))
  unfolding begun
  begun_goes ts k =
      pass_pass (attributes ts) (attributes (ts ++ u)) _ _ (attributes_go u ts k) (λ here s.
      rw (sort_more u here s, rest_more u here s) (passes_if (is_module (sort here)) _ _ _ _
      (λ e. record { is = (tail_shut here s (module_passes (sort here) e), refl) }) (λ e. record { is = tt })))

  -- a cell's module goes up to the end of a text that is shut
  skipped_all : (ts : Rest) → Shut ts → Each (skipped ts) (λ x. x ≡ [])
  unfolding skipped
  skipped_all [] k = absurd (elim k [ ])
  skipped_all (t ∷ ts) k = by (is_endmodule t.sort) refl (λ s. skipped_all ts s)
    where
      end_by : (b : Bool) → Each (skipped ts) (λ (x : Rest). x ≡ []) → Each {A = Rest} {F = VerilogFault} (cond b (Err (Syntax t.at)) (skipped ts)) (λ (x : Rest). x ≡ [])
      end_by true a = tt
      end_by false a = a

      by : (b : Bool) → is_endmodule t.sort ≡ b → (Shut ts → Each (skipped ts) (λ (x : Rest). x ≡ []))
          → Each {A = Rest} {F = VerilogFault} (cond b (Ok ts) (cond (is_end t.sort) (Err (Syntax t.at)) (skipped ts))) (λ (x : Rest). x ≡ [])
      by true e later = shut_end t ts k e
      by false e later = end_by (is_end t.sort) (later (tail_shut (t ∷ ts) k e))

  -- nothing leads on from the end
  leads_nowhere : (n : ℕ) (here : Rest) → here ≡ [] → (s : Skip) → Passes u (leading n here) s
  unfolding leading begun attributes_from
  leads_nowhere zero here e s = record { is = tt }
  leads_nowhere (suc n) here e s = rw e record { is = tt }

  leading_goes : (n m : ℕ) → n ≤ m → (ts : Rest) → Shut ts → Passes u (leading n ts) (leading m (ts ++ u))
  unfolding leading
  leading_goes zero m h ts k = record { is = tt }
  leading_goes (suc n) zero h ts k = absurd (omega (arith, h))
  leading_goes (suc n) (suc m) h ts k =
      pass_pass (begun ts) (begun (ts ++ u)) _ _ (begun_goes ts k) (λ inside s.
      rw (sort_more u inside s) (passes_if (is_cell (sort inside)) _ _ _ _
      (λ e. skip_by (skipped inside) (skipped_all inside s) (skipped (inside ++ u) >>= leading m)) (λ e. record { is = (s, refl) })))
    where
      skip_by : (r : Skip) → Each r (λ (x : Rest). x ≡ []) → (s : Skip) → Passes u (r >>= leading n) s
      skip_by (Ok x) e s = leads_nowhere n x e s
      skip_by (Err f) e s = record { is = tt }

  -- ---- the whole text

  -- cells follow up to the end of the text
  pub record AreFollowed : Type 0 where
    pub after : Rest
    pub ended : cells (length u + 1) u ≡ Ok after

  -- what leads to the text leads to what it is
  pub record IsLed (before ts : Rest) : Type 0 where
    pub led : (m n : ℕ) (y : Rest) → ((k : ℕ) → m ≤ k → leading k (ts ++ u) ≡ Ok y) → m + length before ≤ n → leading n (before ++ (ts ++ u)) ≡ Ok y

  abbrev ending : Module → Skip → Result Module VerilogFault
  ending m r = r >>= λ after. Ok m

  abbrev after_top : Module × Rest → Result Module VerilogFault
  after_top m = ending m.0 (cells (length m.1 + 1) m.1)

  abbrev after_leading : Rest → Result Module VerilogFault
  after_leading inside = top inside >>= after_top

  top_is : (inside : Rest) → Shut inside → AreFollowed → (r : Read Module) → top inside ≡ r → (m : Module) → (r >>= after_top) ≡ Ok m
      → after_leading (inside ++ u) ≡ Ok m
  top_is inside k f (Ok x) e m h =
      let t = top_ends inside k in
      let both : (x.1 ≡ []) × (top (inside ++ u) ≡ Ok (x.0, u)) =
      subst (λ (r : Read Module). Each r (λ x. (x.1 ≡ []) × (top (inside ++ u) ≡ Ok (x.0, u)))) e t.is in
      ap (λ (r : Read Module). r >>= after_top) both.1
      ∙ ap (ending x.0) f.ended
      ∙ ap (λ (y : Module). Ok y) (value_is x h)
    where
      by_cells : (x : Module) (s : Skip) → ending x s ≡ Ok m → x ≡ m
      by_cells x (Ok y) h = cc
      by_cells x (Err f) h = absurd cc

      value_is : (x : Module × Rest) → after_top x ≡ Ok m → x.0 ≡ m
      value_is x h = by_cells x.0 (cells (length x.1 + 1) x.1) h
  top_is inside k f (Err g) e m h = absurd cc

  lead_is : (before ts : Rest) → AreFollowed → IsLed before ts → (r : Skip)
      → ((k : ℕ) → length ts + 1 ≤ k → Each r (λ x. Shut x × (leading k (ts ++ u) ≡ Ok (x ++ u))))
      → (m : Module) → (r >>= after_leading) ≡ Ok m → syntax_of (before ++ (ts ++ u)) ≡ Ok m
  unfolding syntax_of
  lead_is before ts f l (Ok x) g m h =
      let k = (g (length ts + 1) (omega arith)).0 in
      let all = before ++ (ts ++ u) in
      ap (λ (r : Skip). r >>= after_leading)
      (l.led (length ts + 1) (length all + 1) (x ++ u) (λ k low. (g k low).1)
      (omega (arith, length-append before (ts ++ u), length-append ts u)))
      ∙ top_is x k f (top x) refl m h
  lead_is before ts f l (Err e) g m h = absurd cc

  pub said_between : (before ts : Rest) → Shut ts → AreFollowed → IsLed before ts → (m : Module) → syntax_of ts ≡ Ok m
      → syntax_of (before ++ (ts ++ u)) ≡ Ok m
  unfolding syntax_of
  said_between before ts k f l m h =
      lead_is before ts f l (leading (length ts + 1) ts) (λ n low. (leading_goes (length ts + 1) n low ts k).is) m h

-- ---- cells

-- a cell's module with its attributes
pub record IsCell (a : Rest) : Type 0 where
  pub inside : Rest
  pub some : 0 < length a
  pub begins : (x : Rest) → begun (a ++ x) ≡ Ok (inside ++ x)
  pub cell : (x : Rest) → is_cell (sort (inside ++ x)) ≡ true
  pub ends : (x : Rest) → skipped (inside ++ x) ≡ Ok x
  pub passes : (x : Rest) → further (a ++ x) ≡ Ok x
  pub goes_on : (x : Rest) → is_end (sort (a ++ x)) ≡ false

-- cells one behind another
pub data AreCells : Rest → Type 0 where
  no_cell : AreCells []
  one_cell : (a b : Rest) → IsCell a → AreCells b → AreCells (a ++ b)

lead_one : (a x : Rest) (n : ℕ) → IsCell a → leading (suc n) (a ++ x) ≡ leading n x
unfolding leading
lead_one a x n c =
    ap (λ (r : Skip). r >>= λ inside. cond (is_cell (sort inside)) (skipped inside >>= leading n) (Ok inside)) (c.begins x)
    ∙ ap (λ (b : Bool). cond b (skipped (c.inside ++ x) >>= leading n) (Ok (c.inside ++ x))) (c.cell x)
    ∙ ap (λ (r : Skip). r >>= leading n) (c.ends x)

pub cells_lead : (u before ts : Rest) → AreCells before → IsLed u before ts
cells_lead u _ ts no_cell = record { led = λ m n y h low. h n (omega (arith, low)) }
cells_lead u _ ts (one_cell a b c k) = record { led = by (cells_lead u b ts k) }
  where
    by : IsLed u b ts → (m n : ℕ) (y : Rest) → ((k : ℕ) → m ≤ k → leading k (ts ++ u) ≡ Ok y) → m + length (a ++ b) ≤ n → leading n ((a ++ b) ++ (ts ++ u)) ≡ Ok y
    by later m zero y h low = absurd (omega (arith, low, length-append a b, c.some))
    by later m (suc n) y h low =
        ap (leading (suc n)) (append_assoc a b (ts ++ u)) ∙ lead_one a (b ++ (ts ++ u)) n c
        ∙ later.led m n y h (omega (arith, low, length-append a b, c.some))

cells_one : (a x : Rest) (n : ℕ) → IsCell a → cells (suc n) (a ++ x) ≡ cells n x
unfolding cells
cells_one a x n c =
    ap (λ (b : Bool). cond b (Ok (a ++ x)) (further (a ++ x) >>= cells n)) (c.goes_on x)
    ∙ ap (λ (r : Skip). r >>= cells n) (c.passes x)

cells_to_end : (a : Rest) (t : Lexeme) (n : ℕ) → AreCells a → is_end t.sort ≡ true → length a < n → cells n (a ++ t ∷ []) ≡ Ok (t ∷ [])
unfolding cells
cells_to_end _ t zero k e h = absurd (omega (arith, h))
cells_to_end _ t (suc n) no_cell e h = ap (λ (b : Bool). cond b (Ok (t ∷ [])) (further (t ∷ []) >>= cells n)) e
cells_to_end _ t (suc n) (one_cell a b c k) e h =
    ap (cells (suc n)) (append_assoc a b (t ∷ [])) ∙ cells_one a (b ++ t ∷ []) n c
    ∙ cells_to_end b t n k e (omega (arith, h, length-append a b, c.some))

pub cells_follow : (a : Rest) (t : Lexeme) → AreCells a → is_end t.sort ≡ true → AreFollowed (a ++ t ∷ [])
cells_follow a t k e =
    record { after = t ∷ []; ended = cells_to_end a t (length (a ++ t ∷ []) + 1) k e (omega (arith, length-append a (t ∷ []))) }
