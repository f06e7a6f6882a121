use Rattle.std.proofs.Common.{sym}
use Rattle.bs_lex.proofs.PieceLemmas.{quoted_on, quoted_found, quoted_line, quoted_end, after-zero}
use Rattle.bs_lex.proofs.forms.quoted_size.Goals as goal

pub bytes-init : goal.bytes-init
bytes-init c = after-zero _

pub returns-then-byte-eq10-clause-size : goal.returns-then-byte-eq10-clause-size
returns-then-byte-eq10-clause-size c = quoted_line c.bytes.taken c.args.text.now c.bytes.at _ c.bytes-test.true c.if-byte-eq10.true c.bytes.invariant

pub returns-then-closes_quote-clause-size : goal.returns-then-closes_quote-clause-size
returns-then-closes_quote-clause-size c = quoted_found c.bytes.taken c.args.text.now c.bytes.at _ c.bytes-test.true c.if-byte-eq10.false
    (sym c.if-closes_quote.ensures) c.bytes.invariant

pub bytes-preserved : goal.bytes-preserved
bytes-preserved c =
    quoted_on c.bytes.taken c.takes_next-taken.result c.args.text.now c.bytes.at _ c.bytes-test.true c.if-byte-eq10.false
    (sym c.if-closes_quote.ensures) c.takes_next-taken.ensures c.bytes.invariant

pub returns-clause-size : goal.returns-clause-size
returns-clause-size c = quoted_end c.bytes.taken c.args.text.now c.bytes.at _ c.bytes-test.false c.bytes.invariant
