use Rattle.std.proofs.Common.{subst, sym, Err}
use Rattle.bs_top_files.specs.Answers.{IsAnswered}
use Rattle.bs_top_files.proofs.ReaderLemmas.{are_of_text, lexed_answers, fault_answers}
use Rattle.bs_top_files.proofs.reader.read.Goals as goal

pub returns-in-Ok : goal.returns-in-Ok
returns-in-Ok c = lexed_answers c.args.bytes.now _ _ c.read_lexemes.result c.in-Ok.ensures c.read_lexemes.ensures

pub returns-in-Err : goal.returns-in-Err
returns-in-Err c =
    subst (λ f. IsAnswered c.args.bytes.now (Err f)) (sym c.fault_of.ensures) (fault_answers c.args.bytes.now c.in-Err.fault c.in-Err.ensures)

pub read_lexemes-requires : goal.read_lexemes-requires
read_lexemes-requires c = are_of_text c.args.bytes.now _ _ c.requires c.in-Ok.ensures
