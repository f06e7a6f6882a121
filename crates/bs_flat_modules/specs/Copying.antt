-- Lexemes that are put together from parts of a text.
use Rattle.std.specs.Prelude.{ℕ, ◌-◌, Bool, ◌&&◌, ◌==◌, nat_lt, if◌then◌else◌, List, length, take, drop}
use Rattle.bs_lex.specs.declared.limits.TheConstants.{MAX_BYTES}
use Rattle.bs_lex.specs.declared.number_limits.TheConstants.{MAX_INDEX, GREAT}
use Rattle.bs_lex.specs.declared.lexeme.Sort.{Sort}
use Rattle.bs_lex.specs.declared.lexeme.Sort.TheVariants as sorts

-- the members from a place on, up to another
abbrev pub part : {A : Type 0} → List A → ℕ → ℕ → List A
part xs from stop = take (stop - from) (drop from xs)

-- how many members stand before a later part
abbrev pub left : {A : Type 0} → List A → List A → ℕ
left xs later = length xs - length later

-- the number that a lexeme of this sort may have: its name's, or that by which a great number is told
abbrev pub is_numbered : Sort → ℕ → Bool
is_numbered (sorts.Name cell) number = nat_lt number MAX_BYTES
is_numbered (sorts.Digits n) number = if nat_lt MAX_INDEX n then (n - GREAT == number && nat_lt number MAX_BYTES) else number == 0
is_numbered _ number = number == 0
