use Rattle.std.proofs.Common.{refl, sym, subst}
use Rattle.bs_reach.specs.Sought.{HasSought}
use Rattle.bs_reach.proofs.answer.seek.Goals as goal

pub returns : goal.returns
returns c =
    subst (HasSought c.args.encoding.now c.args.reset.now c.args.state.now c.args.k c.args.b) (sym c.answered.ensures)
    (record {
      start = c.in_ok-start.start.solver;
      solver = c.sought.new.solver;
      end = c.in_ok-told.ensures.end;
      told = c.in_ok-told.told;
      is = refl;
      fresh = c.in_ok-start.ensures.solver;
      ended = c.in_ok-told.ensures.ended;
      tells = c.in_ok-told.ensures.tells;
      lines = c.into_log.ensures.lines;
      lean = λ well. record { steps = c.into_log.ensures.steps well; lemmas = c.into_log.ensures.lean };
      texts = c.into_log.ensures.texts;
      accepted = c.into_log.ensures.accepted;
    })
