use Rattle.std.proofs.Common.{◌∙◌, sym, map, length, arith, ap}
use Rattle.std.proofs.lemmas.List.{length-map}
use Rattle.bs_net.specs.Netlist.{circuit}
use Rattle.bs_encode.specs.Depth.{basis_of}
use Rattle.bs_encode.proofs.AssumingLemmas.{length_steps_from}
use Rattle.bs_report.specs.Chain.{present_of}
use Rattle.bs_audit.specs.Logged.{basis_with}
use Rattle.bs_audit.proofs.WholeLemmas.{same_basis, tidy_fit, log_of}
use Rattle.bs_audit.proofs.parts.encoded_part.Goals as goal

pub assumptions-requires : goal.assumptions-requires
assumptions-requires c =
    record {
      sound =
          rw c.slice.ensures (tidy_fit
          (circuit c.args.net.now) c.args.choice.now c.args.encoding.now c.args.report.now.steps c.depth-depth.ensures.sound.kept
          c.requires.tidy c.requires.sound);
      next = c.requires.tidy.next_width ∙ sym c.requires.tidy.states_width;
      room = omega (arith, c.requires.tidy.room, c.requires.few, ap length c.slice.ensures);
    }

pub logged_part-part-requires : goal.logged_part-part-requires
logged_part-part-requires c =
    record {
      width = c.width.ensures ∙ sym c.requires.tidy.states_width;
      room = omega (arith, c.requires.tidy.room, c.requires.few);
      sound =
          tidy_fit (circuit c.args.net.now) c.args.choice.now c.args.encoding.now c.args.report.now.steps c.depth-depth.ensures.sound.kept
          c.requires.tidy c.requires.sound;
      assumptions =
          ap length (rw c.slice.ensures at c.in-Ok.ensures)
          ∙ (length_steps_from c.args.encoding.now 1 (map present_of c.args.report.now.steps) ∙ length-map c.args.report.now.steps present_of);
    }

pub returns-in-Ok : goal.returns-in-Ok
returns-in-Ok c =
    log_of (basis_with c.args.encoding.now c.in-Ok.assumptions)
    (basis_of (circuit c.args.net.now) c.args.choice.now (map present_of c.args.report.now.steps)) c.args.report.now
    c.logged_part-part.result
    (same_basis (circuit c.args.net.now) c.args.choice.now
    (map present_of c.args.report.now.steps) c.args.encoding.now c.in-Ok.assumptions c.requires.value
    (rw c.slice.ensures at c.in-Ok.ensures)) c.logged_part-part.ensures
