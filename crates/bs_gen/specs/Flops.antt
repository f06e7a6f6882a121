-- The flip-flops of a generated netlist, a line each.
use Rattle.std.specs.Prelude.{ℕ, zero, suc, List, ◌++◌, codes, decimal}
use Rattle.bs_bits.specs.Lines.{line}
use Rattle.bs_gen.specs.Each.{each}
use Rattle.bs_gen.specs.Names.{stage}

-- a bit of the counter
abbrev pub counter_flop : ℕ → List ℕ
counter_flop i =
    line (codes "dff fc" ++ (decimal i ++ (codes "(ck,c" ++ (decimal i ++ (codes ",dc" ++ (decimal i ++ codes ");"))))))

-- the net that a stage takes over: the register's feed, or the stage before
abbrev pub data_net : ℕ → ℕ → List ℕ
data_net r zero = codes "e" ++ decimal r
data_net r (suc i) = stage r i

-- a stage of a shift register
abbrev pub stage_flop : ℕ → ℕ → List ℕ
stage_flop r i =
    line (codes "dff f" ++ (stage r i ++ (codes "(ck," ++ (stage r i ++ (codes "," ++ (data_net r i ++ codes ");"))))))

-- the eleven stages of a shift register
abbrev pub register_flops : ℕ → List ℕ
register_flops r = each (stage_flop r) 0 11

unfoldable pub flops_text : List ℕ
flops_text = each counter_flop 0 9 ++ each register_flops 0 5
