-- Reading the lexemes of a text from left to right. The first that cannot go on is the fault.
use Rattle.std.specs.Prelude.{◌==◌, ℕ, zero, suc, Bool, true, false, if◌then◌else◌, List, [], ◌∷◌, length, Option, Some, None, Result, Ok, Err}
use Rattle.std.specs.Borrow.{Bor}
use Prim.Native.String.{String}
use Rattle.bs_bits.specs.Reading.{◌>>=◌, Answers}
use Rattle.bs_lex.specs.Bytes.{◌∈◌}
use Rattle.bs_lex.specs.Packed.{Lexeme}
use Rattle.bs_lex.specs.declared.lexeme.Sort.{Sort}
use Rattle.bs_lex.specs.declared.lexeme.Sort.TheVariants as sorts
use Rattle.bs_lex.specs.declared.lexeme.Word as code
use Rattle.bs_lex.specs.declared.lexeme.Name as code_name
use Rattle.bs_lex.specs.Lexemes.{is_name}
use Rattle.bs_verilog_syntax.specs.Unsupported.{symbol, unsupported}
use Rattle.bs_verilog_syntax.specs.declared.fault.What.TheVariants as what
use Rattle.bs_verilog_syntax.specs.declared.reading.Due.{Due}
use Rattle.bs_verilog_syntax.specs.declared.reading.Due.TheVariants.{Nothing}
use Rattle.bs_verilog_syntax.specs.declared.fault.VerilogFault.{VerilogFault}
use Rattle.bs_verilog_syntax.specs.declared.fault.VerilogFault.TheVariants.{Syntax, Unsupported, NoMemory}

-- the lexemes that are still to read
abbrev pub Rest : Type 0
Rest = List Lexeme

-- a value and what is left, or the first fault
abbrev pub Read : Type 0 → Type 0
Read A = Result (A × Rest) VerilogFault

-- what is left after something that has no value
abbrev pub Skip : Type 0
Skip = Result Rest VerilogFault

-- where the next lexeme begins
abbrev pub at : Rest → ℕ
at [] = 0
at (t ∷ ts) = t.at

-- what the next lexeme is
abbrev pub sort : Rest → Sort
sort [] = sorts.End
sort (t ∷ ts) = t.sort

-- what follows the next lexeme
abbrev pub rest : Rest → Rest
rest [] = []
rest (t ∷ ts) = ts

-- the next lexeme as a name
abbrev pub name : Rest → code_name.Name
name [] = record { at = 0; id = 0 }
name (t ∷ ts) = record { at = t.at; id = t.name }

-- a directive
abbrev pub is_directive : Sort → Bool
is_directive sorts.Directive = true
is_directive _ = false

-- the keyword that a lexeme is
abbrev pub word : Sort → Option code.Word
word (sorts.Word w) = Some w
word _ = None

-- the bit that a lexeme is
abbrev pub bit : Sort → Option Bool
bit (sorts.Bit b) = Some b
bit _ = None

-- the number that a lexeme is
abbrev pub digits : Sort → Option ℕ
digits (sorts.Digits n) = Some n
digits _ = None

-- one of these symbols is next
abbrev pub is_at : String → Rest → Bool
is_at s ts = symbol (sort ts) ∈ s

-- the fault of the next lexeme, which cannot go on: a directive is unsupported everywhere
unfoldable pub refused : Due → Rest → VerilogFault
refused due ts =
    elim (unsupported due (sort ts)) [
      | Some w ↦ Unsupported (at ts) w
      | None ↦ if is_directive (sort ts) then Unsupported (at ts) what.Directive else Syntax (at ts)
    ]

-- one of these symbols, which must be next
abbrev pub expect : String → Due → Rest → Skip
expect s due ts = if is_at s ts then Ok (rest ts) else Err (refused due ts)

-- what was read, where this symbol is next
abbrev pub closed : {A : Type 0} → ℕ → Due → A → Rest → Read A
closed byte due x ts = (if symbol (sort ts) == byte then Ok (rest ts) else Err (refused due ts)) >>= λ after. Ok (x, after)

-- a name, which must be next
abbrev pub expect_name : Rest → Read code_name.Name
expect_name ts = if is_name (sort ts) then Ok (name ts, rest ts) else Err (refused Nothing ts)

-- a number of digits alone, which must be next
abbrev pub expect_digits : Rest → Read ℕ
expect_digits ts = elim (digits (sort ts)) [ Some n ↦ Ok (n, rest ts) | None ↦ Err (refused Nothing ts) ]

-- One or more with commas between them. The number is a bound that is never met: each comma is a lexeme.
unfoldable pub with_commas : {A : Type 0} → (Rest → Read A) → ℕ → Rest → Read (List A)
with_commas one zero ts = Err (refused Nothing ts)
with_commas one (suc n) ts = do
  first ← one ts
  if is_at "," first.1
      then (do
        others ← with_commas one n (rest first.1)
        Ok (first.0 ∷ others.0, others.1))
      else Ok (first.0 ∷ [], first.1)

-- one or more with commas between them, up to the end of the list
abbrev pub listed : {A : Type 0} → (Rest → Read A) → Rest → Read (List A)
listed one ts = with_commas one (suc (length ts)) ts

-- What a function answers, seen by view, with the lexemes after it is what reading gives, unless memory ran out.
abbrev pub Reads : {X Y : Type 0} → (X → Y) → Result (X × Bor (List Lexeme)) VerilogFault → Read Y → Type 0
Reads view result reading = Answers NoMemory (λ x. (view x.0, x.1.now)) result reading

-- the same of what has no value
abbrev pub Skips : Result (Bor (List Lexeme)) VerilogFault → Skip → Type 0
Skips result reading = Answers NoMemory (λ x. x.now) result reading
