use Rattle.std.proofs.Common.{◌≡◌, ◌<◌, map, length, ap, ◌∙◌, sym, arith}
use Rattle.std.specs.Prelude.{slice_get}
use Rattle.std.proofs.lemmas.List.{length-map}
use Rattle.bs_arena.specs.Arena.{literal_of, literals_at}
use Rattle.bs_watch.proofs.Codes.{read_code, literals_back}
use Rattle.bs_solve.proofs.reading.literal_in.Goals as goal

pub returns : goal.returns
returns c =
    let back : map literal_of c.lits.result.now ≡ literals_at c.args.arena.now.clauses c.args.r =
    ap (map literal_of) c.lits.ensures.literals ∙ literals_back (literals_at c.args.arena.now.clauses c.args.r) in
    let within : c.args.at < length c.lits.result.now =
    let n = ap length (sym back) in let m = length-map c.lits.result.now literal_of in let at = c.requires.at in omega (arith, n, m, at) in
    ap (λ d. slice_get d c.args.at) (sym back) ∙ read_code c.lits.result.now c.args.at c.from_code.result within c.from_code.ensures
