-- Lexemes as symbols, and what the first of them shows.
use Rattle.std.proofs.Common.{◌≡◌, ℕ, zero, suc, ◌<◌, true, false, cond, List, [], ◌∷◌, length, map, Option, Some, None, Ok, Err, refl}
use Rattle.std.proofs.Common.{ap, arith}
use Rattle.std.specs.Prelude.{◌==◌, slice_index_or}
use Rattle.std.proofs.lemmas.Bool.{eqb-true}
use Rattle.std.proofs.Math.Dec.{eqb-zero-suc}
use Rattle.bs_lex.specs.Packed.{Lexeme}
use Rattle.bs_lex.specs.declared.lexeme.Sort.{Sort}
use Rattle.bs_lex.specs.declared.lexeme.Sort.TheVariants as sorts
use Rattle.bs_lex.specs.declared.lexeme.Cell.{Cell}
use Rattle.bs_lex.specs.Lexemes.{is_name}
use Rattle.bs_verilog_syntax.specs.declared.fault.VerilogFault.{VerilogFault}
use Rattle.bs_verilog_syntax.specs.declared.reading.Due.{Due}
use Rattle.bs_verilog_syntax.specs.declared.reading.Due.TheVariants as due
use Rattle.bs_verilog_syntax.specs.Unsupported.{symbol}
use Rattle.bs_verilog_syntax.specs.Reading.{Rest, Read, Skip, at, sort, rest, digits, expect_digits, expect_name, refused}
use Rattle.bs_verilog_syntax.specs.Reading as reading
use Rattle.bs_verilog.specs.Symbols as symbols
use Rattle.bs_verilog.specs.Symbols.{Symbol, Text, keyword, bit, mark, opens, closes, number, quoted, system, directive, finish}
use Rattle.bs_verilog.specs.Productions.{begins_with}
use Rattle.bs_verilog.specs.Views.{number_view, name_view}
use Rattle.bs_verilog.proofs.Sound.{Sound, value, fault, if_so}

-- the symbol of what the grammar sees so, with the number of its name in the table
abbrev pub seen_as : List (List ℕ) → Sort → ℕ → Symbol
seen_as table (sorts.Word w) id = keyword w
seen_as table (sorts.Name cell) id = symbols.name cell (slice_index_or table id [])
seen_as table (sorts.Bit b) id = bit b
seen_as table (sorts.Digits n) id = symbols.digits (number_view table n)
seen_as table sorts.Number id = number
seen_as table (sorts.Symbol c) id = mark c
seen_as table sorts.AttrOpen id = opens
seen_as table sorts.AttrClose id = closes
seen_as table sorts.Text id = quoted
seen_as table sorts.System id = system
seen_as table sorts.Directive id = directive
seen_as table sorts.End id = finish

abbrev pub seen : List (List ℕ) → Lexeme → Symbol
seen table l = seen_as table l.sort l.name

-- the symbols of lexemes
abbrev pub shown : List (List ℕ) → Rest → Text
shown table ts = map (seen table) ts

nothing_is : (c : ℕ) → 0 < c → (◌==◌ 0 c) ≡ false
nothing_is zero h = absurd (omega (arith, h))
nothing_is (suc c) h = eqb-zero-suc c

module _ (table : List (List ℕ)) where
  pub mark_shown : (c : ℕ) (ts : Rest) → 0 < c → (symbol (sort ts) == c) ≡ true → shown table ts ≡ mark c ∷ shown table (rest ts)
  mark_shown c [] h e = absurd (omega (arith, h, eqb-true 0 c e))
  mark_shown c (t ∷ ts) h e = by t.sort e
    where
      by : (s : Sort) → (symbol s == c) ≡ true → seen_as table s t.name ∷ shown table ts ≡ mark c ∷ shown table ts
      by (sorts.Symbol d) e = ap (λ k. mark k ∷ shown table ts) (eqb-true d c e)
      by _ e = absurd (omega (arith, h, eqb-true 0 c e))

  pub name_shown : (ts : Rest) → is_name (sort ts) ≡ true
      → (cell : Option Cell) × (shown table ts ≡ symbols.name cell (name_view table (reading.name ts)) ∷ shown table (rest ts))
  name_shown [] e = absurd cc
  name_shown (t ∷ ts) e = by t.sort e
    where
      by : (s : Sort) → is_name s ≡ true
          → (cell : Option Cell) × (seen_as table s t.name ∷ shown table ts ≡ symbols.name cell (slice_index_or table t.name []) ∷ shown table ts)
      by (sorts.Name cell) e = (cell, refl)
      by _ e = absurd cc

  pub at_is : (c : ℕ) (ts : Rest) → 0 < c → (symbol (sort ts) == c) ≡ begins_with c (shown table ts)
  at_is c [] h = nothing_is c h
  at_is c (t ∷ ts) h = by t.sort
    where
      by : (s : Sort) → (symbol s == c) ≡ begins_with c (seen_as table s t.name ∷ shown table ts)
      by (sorts.Symbol d) = refl
      by _ = nothing_is c h

  pub some_left : (ts : Rest) (s : Symbol) (us : Text) → shown table ts ≡ s ∷ us → 0 < length ts
  some_left [] s us e = absurd cc
  some_left (t ∷ ts) s us e = omega arith

  -- a mark that must be next
  pub marked : (c : ℕ) (d : Due) (ts : Rest) → 0 < c
      → Sound {A = Rest} {F = VerilogFault} (cond (symbol (sort ts) == c) (Ok (rest ts)) (Err (refused d ts)))
      (λ left. shown table ts ≡ mark c ∷ shown table left)
  marked c d ts h =
      if_so (symbol (sort ts) == c) _ _ _ (λ e. value (rest ts) _ (mark_shown c ts h e)) (λ e. fault (refused d ts) _)

  -- a name that must be next
  pub a_name : (ts : Rest)
      → Sound (expect_name ts) (λ y. (cell : Option Cell) × (shown table ts ≡ symbols.name cell (name_view table y.0) ∷ shown table y.1))
  a_name ts =
      if_so (is_name (sort ts)) _ _ _ (λ e. value (reading.name ts, rest ts) _ (name_shown ts e)) (λ e. fault (refused due.Nothing ts) _)

  -- digits that must be next
  pub a_number : (ts : Rest) → Sound (expect_digits ts) (λ y. shown table ts ≡ symbols.digits (number_view table y.0) ∷ shown table y.1)
  a_number [] = fault (refused due.Nothing []) _
  a_number (t ∷ ts) = by t.sort
    where
      by : (s : Sort)
          → Sound {A = ℕ × Rest} {F = VerilogFault} (elim (digits s) [ Some n ↦ Ok (n, ts) | None ↦ Err (refused due.Nothing (t ∷ ts)) ])
          (λ y. seen_as table s t.name ∷ shown table ts ≡ symbols.digits (number_view table y.0) ∷ shown table y.1)
      by (sorts.Digits n) = value (n, ts) _ refl
      by _ = fault (refused due.Nothing (t ∷ ts)) _
