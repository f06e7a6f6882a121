use Rattle.std.proofs.Common.{arith, Some, map}
use Rattle.std.proofs.lemmas.Result.{err_from_is_err_and}
use Rattle.bs_vcd_header.specs.Tokens.{token_in, tokens_from}
use Rattle.bs_vcd.specs.History.{change_in, mode_in}
use Rattle.bs_inspect_check.specs.Taking.{history_at, turn_in}
use Rattle.bs_inspect_check.proofs.MomentLemmas.{word_faulty, word_last, word_taken}
use Rattle.bs_inspect_check.proofs.moments.take_moment.Goals as goal

pub returns-in_err-turn-clause-is : goal.returns-in_err-turn-clause-is
returns-in_err-turn-clause-is c =
    let p = err_from_is_err_and c.from_residual.result c.from_residual.ensures.1 in
    rw (p.1, p.2)
    (word_faulty (history_at (Some c.args.spot)) (mode_in c.words.place) c.args.spot.time (map change_in c.words.changes.items)
    (tokens_from c.words.line c.words.rest.now) (tokens_from c.in-Some.token.line c.in-Some.behind.now) (token_in c.in-Some.token) _ c.words.invariant.whole
    c.in-Some.ensures.tokens c.in_err-turn.ensures)

pub returns-in-Some-next-clause-is : goal.returns-in-Some-next-clause-is
returns-in-Some-next-clause-is c =
    word_last (history_at (Some c.args.spot)) (mode_in c.words.place) c.args.spot.time c.in-Some-next.next (map change_in c.words.changes.items)
    (tokens_from c.words.line c.words.rest.now) (tokens_from c.in-Some.token.line c.in-Some.behind.now) (token_in c.in-Some.token)
    (turn_in c.in_ok-turn.turn c.take_word.new.changes.items) c.words.invariant.whole c.in-Some.ensures.tokens c.in_ok-turn.ensures c.in-Some-next.is

pub words-preserved : goal.words-preserved
words-preserved c = record {
  whole =
      word_taken (history_at (Some c.args.spot)) (mode_in c.words.place) c.args.spot.time (map change_in c.words.changes.items)
      (tokens_from c.words.line c.words.rest.now) (tokens_from c.in-Some.token.line c.in-Some.behind.now) (token_in c.in-Some.token)
      (turn_in c.in_ok-turn.turn c.take_word.new.changes.items) c.words.invariant.whole c.in-Some.ensures.tokens c.in_ok-turn.ensures c.in-None.is;
  counted = omega (arith, c.in-Some.ensures.within, c.words.invariant.counted);
  shorter = omega (arith, c.in-Some.ensures.shorter, c.words.invariant.shorter);
}
