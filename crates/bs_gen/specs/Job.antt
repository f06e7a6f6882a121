-- The texts of the job with a number (docs/FORMATS.md, "The generated job").
use Rattle.std.specs.Prelude.{ℕ, List, ◌++◌, codes}
use Rattle.bs_bits.specs.Lines.{line}
use Rattle.rand_pcg.specs.Lcg.{Lcg}
use Rattle.bs_gen.specs.Draws.{after, draws_of}
use Rattle.bs_gen.specs.Gates.{counter_text, drawn_text, feeds_text}
use Rattle.bs_gen.specs.Flops.{flops_text}
use Rattle.bs_gen.specs.Stimulus.{stimulus_text}

unfoldable pub ports_text : List ℕ
ports_text = line (codes "module demo(ck,x0,x1,x2,x3,x4);") ++ line (codes "input ck,x0,x1,x2,x3,x4;")

unfoldable pub netlist_text : Lcg → List ℕ
netlist_text draws =
    ports_text ++ (counter_text ++ (drawn_text draws ++ (feeds_text ++ (flops_text ++ line (codes "endmodule")))))

unfoldable pub netlist_for : ℕ → List ℕ
netlist_for number = netlist_text (draws_of number)

abbrev pub signature_text : List ℕ
signature_text = line (codes "bit r4_10") ++ line (codes "xor r0_10 r1_10")

-- the stimulus is drawn after the 1,737 draws of the netlist
unfoldable pub stimulus_for : ℕ → List ℕ
stimulus_for number = stimulus_text (after 1737 (draws_of number))
