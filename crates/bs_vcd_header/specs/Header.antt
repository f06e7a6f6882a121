-- What the declarations of a VCD say: scopes, and the variables in them (docs/FORMATS.md, "Value changes (VCD)").
use Rattle.std.specs.Prelude.{ℕ, ◌-◌, ◌==◌, nat_lt, Bool, true, false, List, [], ◌∷◌, ◌++◌, length, map, take, codes, slice_index_or, Option, Some, None, Result, Ok, Err, if◌then◌else◌}
use Rattle.std.specs.Str.{bytes_eq}
use Rattle.bs_bits.specs.Lines.{number_in}
use Rattle.bs_bits.specs.Reading.{◌>>=◌}
use Rattle.bs_vcd_header.specs.declared.fault.VcdFault.{VcdFault}
use Rattle.bs_vcd_header.specs.declared.fault.VcdFault.TheVariants.{Line, Ended}
use Rattle.bs_vcd_header.specs.declared.command.Command.{Command as CodeCommand}
use Rattle.bs_vcd_header.specs.declared.command.Command.TheVariants as C
use Rattle.bs_vcd_header.specs.declared.header.HeaderDeclarations.{HeaderDeclarations as CodeHeaderDeclarations}
use Rattle.bs_vcd_header.specs.declared.header.Variable.{Variable as CodeVariable}
use Rattle.bs_vcd_header.specs.declared.header.Behind.{Behind as CodeBehind}
use Rattle.bs_vcd_header.specs.declared.header.HeaderState.{HeaderState as CodeHeaderState}
use Rattle.bs_vcd_header.specs.Tokens.{VcdToken, tokens_from}
use Rattle.bs_vcd_header.specs.Words.{id_in}

-- ---- a command

-- a variable: how many bits it has, its code, its name, and the word behind that, which is empty where there is none
pub record Shape : Type 0 where
  pub width : ℕ
  pub id : ℕ
  pub name : List ℕ
  pub range : List ℕ

-- what the words of a command say, without the `$end` behind them
pub data Command : Type 0 where
  -- a scope with this name begins in the one that is open
  Opens : List ℕ → Command
  -- the scope that is open ends
  Closes : Command
  Declares : Shape → Command
  -- the declarations end
  Finishes : Command
  -- nothing that is asked for
  Passes : Command

abbrev pub opens : List (List ℕ) → Option Command
opens [] = None
opens (kind ∷ []) = None
opens (kind ∷ name ∷ rest) = Some (Opens name)

abbrev pub shaped : Option ℕ → Option ℕ → List ℕ → List ℕ → Option Command
shaped None id name range = None
shaped (Some width) None name range = None
shaped (Some width) (Some id) name range = Some (Declares record { width = width; id = id; name = name; range = range })

abbrev pub declares : List (List ℕ) → Option Command
declares [] = None
declares (kind ∷ []) = None
declares (kind ∷ width ∷ []) = None
declares (kind ∷ width ∷ id ∷ []) = None
declares (kind ∷ width ∷ id ∷ name ∷ []) = shaped (number_in width) (id_in id) name []
declares (kind ∷ width ∷ id ∷ name ∷ range ∷ rest) = shaped (number_in width) (id_in id) name range

abbrev pub is_keyword : List ℕ → Bool
is_keyword [] = false
is_keyword (b ∷ bs) = b == 36

abbrev pub keyed : List ℕ → List (List ℕ) → Option Command
keyed key rest =
    if bytes_eq key (codes "$scope") then opens rest
    else (if bytes_eq key (codes "$upscope") then Some Closes
    else (if bytes_eq key (codes "$var") then declares rest
    else (if bytes_eq key (codes "$enddefinitions") then Some Finishes
    else (if is_keyword key then Some Passes else None))))

-- what words are a command, if they are one
abbrev pub command_of : List (List ℕ) → Option Command
command_of [] = None
command_of (key ∷ rest) = keyed key rest

-- ---- scopes and variables

-- a variable, and the number of its scope
pub record Variable : Type 0 where
  pub scope : ℕ
  pub shape : Shape

-- The paths of all scopes by their numbers, the names parted by points: number 0 is the text as a whole, and the others come in
-- the order of the text. The numbers of those that are open, the outermost first; and the variables so far.
pub record HeaderDeclarations : Type 0 where
  pub paths : List (List ℕ)
  pub open_scopes : List ℕ
  pub variables : List Variable

abbrev pub nothing_declared : HeaderDeclarations
nothing_declared = record { paths = [] ∷ []; open_scopes = 0 ∷ []; variables = [] }

-- the scope that is open
abbrev pub innermost : List ℕ → ℕ
innermost scopes = slice_index_or scopes (length scopes - 1) 0

abbrev pub path_below : List ℕ → List ℕ → List ℕ
path_below outer name = if length outer == 0 then name else outer ++ (46 ∷ name)

abbrev pub with_scope : HeaderDeclarations → List ℕ → HeaderDeclarations
with_scope d name =
    record {
      paths = d.paths ++ path_below (slice_index_or d.paths (innermost d.open_scopes) []) name ∷ [];
      open_scopes = d.open_scopes ++ length d.paths ∷ [];
      variables = d.variables;
    }

abbrev pub without_scope : HeaderDeclarations → HeaderDeclarations
without_scope d = record { paths = d.paths; open_scopes = take (length d.open_scopes - 1) d.open_scopes; variables = d.variables }

abbrev pub with_variable : HeaderDeclarations → Shape → HeaderDeclarations
with_variable d shape =
    record {
      paths = d.paths;
      open_scopes = d.open_scopes;
      variables = d.variables ++ (record { scope = innermost d.open_scopes; shape = shape }) ∷ [];
    }

-- what comes of a command whose `$end` stands in this line, and whether it is the last
abbrev pub turned : ℕ → Option Command → HeaderDeclarations → Result (Bool × HeaderDeclarations) VcdFault
turned line None d = Err (Line line)
turned line (Some (Opens name)) d = Ok (false, with_scope d name)
turned line (Some Closes) d = if nat_lt 1 (length d.open_scopes) then Ok (false, without_scope d) else Err (Line line)
turned line (Some (Declares shape)) d = Ok (false, with_variable d shape)
turned line (Some Finishes) d = Ok (true, d)
turned line (Some Passes) d = Ok (false, d)

-- ---- the words

-- the words of the command under way, and what is declared by those before it
pub record HeaderState : Type 0 where
  pub words : List (List ℕ)
  pub declared : HeaderDeclarations

abbrev pub nothing_begun : HeaderState
nothing_begun = record { words = []; declared = nothing_declared }

abbrev pub worded : HeaderState → VcdToken → Result (Bool × HeaderState) VcdFault
worded b t =
    if bytes_eq t.text (codes "$end")
    then (turned t.line (command_of b.words) b.declared >>= λ next. Ok (next.0, record { words = []; declared = next.1 }))
    else Ok (false, record { words = b.words ++ t.text ∷ []; declared = b.declared })

-- what is declared, and the words behind that
pub record Header : Type 0 where
  pub declared : HeaderDeclarations
  pub rest : List VcdToken

abbrev pub header_from : HeaderState → List VcdToken → Result Header VcdFault
header_from b [] = Err Ended
header_from b (t ∷ ts) =
    worded b t >>= λ next. if next.0 then Ok record { declared = next.1.declared; rest = ts } else header_from next.1 ts

-- the declarations with which these words begin
abbrev pub header_of : List VcdToken → Result Header VcdFault
header_of tokens = header_from nothing_begun tokens

-- ---- the code's values

abbrev pub shape_in : CodeVariable → Shape
shape_in v = record { width = v.width; id = v.id; name = v.name.now; range = v.range.now }

abbrev pub variable_in : CodeVariable → Variable
variable_in v = record { scope = v.scope; shape = shape_in v }

abbrev pub declared_in : CodeHeaderDeclarations → HeaderDeclarations
declared_in d = record { paths = d.paths; open_scopes = d.open_scopes.items; variables = map variable_in d.variables.items }

abbrev pub begun_in : CodeHeaderState → HeaderState
begun_in b = record { words = map (λ w. w.now) b.words.items; declared = declared_in b.declared }

-- what is declared, and the words behind a place of the text
abbrev pub header_in : CodeBehind → CodeHeaderDeclarations → Header
header_in behind declared = record { declared = declared_in declared; rest = tokens_from behind.line behind.rest.now }

abbrev pub command_in : CodeCommand → Command
command_in (C.Opens name) = Opens name.now
command_in C.Closes = Closes
command_in (C.Declares v) = Declares (shape_in v)
command_in C.Finishes = Finishes
command_in C.Passes = Passes

abbrev pub maybe_command : Option CodeCommand → Option Command
maybe_command None = None
maybe_command (Some command) = Some (command_in command)
