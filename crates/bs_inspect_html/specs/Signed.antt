-- What the front says of a signature: how many items it has, the style of a mark, and the name of its file in the words of `audit`.
use Rattle.std.specs.Prelude.{ℕ, List, [], ◌++◌, length, codes, decimal, Option, Some, None}
use Rattle.bs_scan.specs.Choice.{Chosen}
use Rattle.bs_inspect_html.specs.Paths.{shown_path}
use Rattle.bs_inspect_html.specs.Style.{marks_style, style_text}
use Rattle.bs_inspect_html.specs.declared.signed.SignatureFile.{SignatureFile as CodeSignatureFile}

-- the name of the file, and what the signature is taken of
pub record SignatureFile : Type 0 where
  pub name : List ℕ
  pub choice : Chosen

abbrev pub file_in : CodeSignatureFile → SignatureFile
file_in s = record { name = s.name.now; choice = s.choice.now }

-- the style, with that of marks where there is a signature
abbrev pub styles_text : Option SignatureFile → List ℕ
styles_text None = style_text
styles_text (Some s) = marks_style

-- how many items a signature has
unfoldable pub items_text : Chosen → List ℕ
items_text choice = codes "<li>items of the signature: " ++ (decimal (length choice.items) ++ codes "</li>\n")

abbrev pub items_line : Option SignatureFile → List ℕ
items_line None = []
items_line (Some s) = items_text s.choice

-- the files of a job behind its netlist, by their kinds but for a signature that is given
unfoldable pub named_files : List ℕ → List ℕ
named_files name = codes " " ++ (shown_path name ++ codes " STIMULUS DUMP ")

abbrev pub job_files : Option SignatureFile → List ℕ
job_files None = codes " SIGNATURE STIMULUS DUMP "
job_files (Some s) = named_files s.name
