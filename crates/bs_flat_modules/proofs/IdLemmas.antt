-- The names of the modules of a text, by their numbers.
use Rattle.std.proofs.Common.{◌≡◌, ℕ, List, [], ◌∷◌, map, Option, Some, None, refl, ap, ◌∙◌}
use Rattle.std.specs.Prelude.{if◌then◌else◌}
use Rattle.bs_lex.specs.Lexemes.{is_name}
use Rattle.bs_verilog_syntax.specs.Reading.{Rest, sort, rest, name}
use Rattle.bs_flat_meaning.specs.Pieces.{Piece, name_id, modules_of}
use Rattle.bs_flat_modules.specs.Dealing.{IsDealt}
use Rattle.bs_flat_modules.specs.Names.{id_of, ids_at}
use Rattle.bs_flat_modules.specs.declared.dealing.Dealt.{Dealt}
use Rattle.bs_flat_modules.specs.declared.dealing.ModuleSpan.{ModuleSpan}
use Rattle.bs_flat_modules.proofs.ReadLemmas.{modules_are, piece_in}

abbrev id_in : Rest → Option ℕ
id_in inside = if is_name (sort inside) then Some (name inside).id else None

abbrev name_in : Rest → Option ℕ
name_in [] = None
name_in (t ∷ ts) = if is_name t.sort then Some t.name else None

id_in_is : (inside : Rest) → id_in inside ≡ name_in inside
id_in_is [] = refl
id_in_is (t ∷ ts) = refl

id_is : (p : Piece) → id_of p.body ≡ name_id p
id_is p = id_in_is (rest p.body)

each_is : (ts : Rest) (places : List ModuleSpan) → ids_at ts places ≡ map name_id (map (piece_in ts) places)
each_is ts [] = refl
each_is ts (p ∷ ps) = ap (λ i. i ∷ ids_at ts ps) (id_is (piece_in ts p)) ∙ ap (λ l. name_id (piece_in ts p) ∷ l) (each_is ts ps)

pub ids_are : (ts : Rest) (d : Dealt) → IsDealt ts d → ids_at ts d.modules ≡ map name_id (modules_of ts)
ids_are ts d dealt = each_is ts d.modules ∙ ap (map name_id) (modules_are ts d dealt)
