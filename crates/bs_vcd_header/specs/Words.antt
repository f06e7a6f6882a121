-- What a word of the value changes says (docs/FORMATS.md, "Value changes (VCD)").
use Rattle.std.specs.Prelude.{ℕ, ◌+◌, ◌*◌, ◌^◌, ◌==◌, nat_lt, Bool, ◌&&◌, ◌||◌, List, [], ◌∷◌, length, fold, codes, Option, Some, None, if◌then◌else◌}
use Rattle.std.specs.List.{list_all}
use Rattle.std.specs.Str.{bytes_eq}
use Rattle.bs_bits.specs.Lines.{is_name, number_in}
use Rattle.bs_vcd_header.specs.declared.words.Said.{Said as CodeSaid}
use Rattle.bs_vcd_header.specs.declared.words.Said.TheVariants as S

-- the bytes of a text as the digits of a number of base 256
abbrev pub packed : List ℕ → ℕ
packed text = fold (λ n b. 256 * n + b) 0 text

abbrev pub if_small : ℕ → Option ℕ
if_small n = if nat_lt n (2 ^ 64) then Some n else None

-- The number of an identifier code, one to eight characters `!` to `~`: its bytes are the number's.
abbrev pub id_in : List ℕ → Option ℕ
id_in text = if is_name text then if_small (packed text) else None

-- the character of a bit: `0`, `1`, or `x` or `z` in either case
abbrev pub is_level : ℕ → Bool
is_level b = (b == 48) || ((b == 49) || ((b == 120) || ((b == 88) || ((b == 122) || (b == 90)))))

abbrev pub are_levels : List ℕ → Bool
are_levels text = nat_lt 0 (length text) && list_all is_level text

-- what a word says where a change may begin
pub data Said : Type 0 where
  -- a later time
  Time : ℕ → Said
  -- the bit of a variable
  Scalar : List ℕ → ℕ → Said
  -- the bits of the variable that the next word names
  Vector : List ℕ → Said
  -- the value of a variable that has no bits, which the next word names
  Passed : Said
  -- the beginning of a comment
  Comment : Said
  -- the beginning or the end of a list of changes
  Nothing : Said
  -- the dump is switched off: what changes behind it is not in the text
  Off : Said

-- whether a word begins or ends a list of changes
abbrev pub is_section : List ℕ → Bool
is_section word =
    bytes_eq word (codes "$dumpvars")
    || (bytes_eq word (codes "$end") || (bytes_eq word (codes "$dumpall") || bytes_eq word (codes "$dumpon")))

abbrev pub keyword : List ℕ → Option Said
keyword word =
    if bytes_eq word (codes "$comment") then Some Comment
    else (if bytes_eq word (codes "$dumpoff") then Some Off else (if is_section word then Some Nothing else None))

abbrev pub timed : Option ℕ → Option Said
timed None = None
timed (Some time) = Some (Time time)

abbrev pub scalar : ℕ → Option ℕ → Option Said
scalar b None = None
scalar b (Some id) = Some (Scalar (b ∷ []) id)

abbrev pub vector : List ℕ → Option Said
vector bits = if are_levels bits then Some (Vector bits) else None

-- `b` and `B` begin the bits of a vector
abbrev pub is_vector : ℕ → Bool
is_vector b = (b == 98) || (b == 66)

-- `r`, `R`, `s` and `S` begin the value of a real number or a text
abbrev pub is_passed : ℕ → Bool
is_passed b = (b == 114) || ((b == 82) || ((b == 115) || (b == 83)))

abbrev pub said_by : ℕ → List ℕ → Option Said
said_by b rest =
    if b == 35 then timed (number_in rest)
    else (if is_level b then scalar b (id_in rest)
    else (if is_vector b then vector rest
    else (if is_passed b then Some Passed else keyword (b ∷ rest))))

-- what a word says, if it may stand where a change may begin
abbrev pub said_of : List ℕ → Option Said
said_of [] = None
said_of (b ∷ rest) = said_by b rest

abbrev pub said_in : CodeSaid → Said
said_in (S.Time time) = Time time
said_in (S.Scalar bits id) = Scalar bits.now id
said_in (S.Vector bits) = Vector bits.now
said_in S.Passed = Passed
said_in S.Comment = Comment
said_in S.Nothing = Nothing
said_in S.Off = Off

abbrev pub maybe_said : Option CodeSaid → Option Said
maybe_said None = None
maybe_said (Some said) = Some (said_in said)
