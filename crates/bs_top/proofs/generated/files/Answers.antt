use Rattle.std.proofs.Common.{arith, ◌∙◌}
use Rattle.std.proofs.lemmas.Grind.{common_steps}
use Rattle.bs_top.proofs.generated.files.Goals as goal

pub returns : goal.returns
returns c =
    record {
      first = c.in_ok-netlist.netlist;
      second = c.in_ok-signature.signature;
      third = c.in_ok-stimulus.stimulus;
      is = grind (arith, common_steps);
      names = (c.in_ok-netlist.ensures.name, c.in_ok-signature.ensures.name, c.in_ok-stimulus.ensures.name);
      texts = (
        c.in_ok-netlist.ensures.text ∙ c.slice.ensures,
        c.in_ok-signature.ensures.text ∙ c.slice-2.ensures,
        c.in_ok-stimulus.ensures.text ∙
            c.slice-3.ensures,
      );
    }
