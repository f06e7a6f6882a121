-- The text of a log line.
use Rattle.std.specs.Prelude.{ℕ, cond, List, [], ◌++◌, codes, decimal}
use Rattle.std.specs.List.{flat_map}
use Rattle.bs_clause.specs.Literal.{Literal}
use Rattle.bs_log.specs.declared.line.Line.{Line}
use Rattle.bs_log.specs.declared.line.Line.TheVariants.{Solve, Lemma, Block, Finish, Retire, Delete}

-- a literal and a space: the variable, behind `-` where it is negated
abbrev pub literal_text : Literal → List ℕ
literal_text l = cond l.positive [] (codes "-") ++ (decimal l.variable ++ codes " ")

-- an id and a space
abbrev pub id_text : ℕ → List ℕ
id_text id = decimal id ++ codes " "

abbrev pub line_text : Line → List ℕ
line_text Solve = codes "s"
line_text (Lemma id lits hints) =
    id_text id ++ (flat_map literal_text lits ++ (codes "0 " ++ (flat_map id_text hints ++ codes "0")))
line_text (Block id lits) = codes "b " ++ (id_text id ++ (flat_map literal_text lits ++ codes "0"))
line_text (Finish id) = codes "e " ++ decimal id
line_text (Retire id) = codes "r " ++ decimal id
line_text (Delete ids) = codes "d " ++ (flat_map id_text ids ++ codes "0")
