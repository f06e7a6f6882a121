-- Where ids go, and the text of a line of a proof as LRAT has it (docs/FORMATS.md, "Clauses for other checkers").
use Rattle.std.specs.Prelude.{ℕ, ◌+◌, ◌<◌, ◌^◌, nat_le, cond, List, ◌++◌, codes}
use Rattle.std.specs.List.{flat_map}
use Rattle.bs_bits.specs.Lines.{line}
use Rattle.bs_log.specs.declared.line.Line.{Line}
use Rattle.bs_log.specs.declared.line.Line.TheVariants.{Delete}
use Rattle.bs_log.specs.LineText.{id_text, line_text}
use Rattle.bs_log.specs.declared.id_offsets.Frame.{Frame}

-- the clauses keep their ids, and the ids that the log gives go up
abbrev pub raised : Frame → ℕ → ℕ
raised f id = cond (nat_le id f.front) id (id + f.by)

-- an id can go up
abbrev pub IdFits : Frame → ℕ → Type 0
IdFits f id = id + f.by < 2 ^ 64

-- the text of a line that stands behind the clause of this id
abbrev pub proof_line : ℕ → Line → List ℕ
proof_line last (Delete ids) = line (id_text last ++ (codes "d " ++ (flat_map id_text ids ++ codes "0")))
proof_line last other = line (line_text other)
