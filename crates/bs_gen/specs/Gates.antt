-- The gates of a generated netlist, a line each.
use Rattle.std.specs.Prelude.{ℕ, ◌+◌, ◌*◌, List, [], ◌∷◌, ◌++◌, codes, decimal, slice_index_or}
use Rattle.bs_bits.specs.Lines.{line}
use Rattle.rand_pcg.specs.Lcg.{Lcg}
use Rattle.bs_gen.specs.Draws.{after, pick}
use Rattle.bs_gen.specs.Each.{each}
use Rattle.bs_gen.specs.Names.{stage, counter_bit, drawn_net, member}

-- ---- the counter of nine bits, which goes up by one

-- a counter bit as a further terminal
abbrev pub carry_terminal : ℕ → List ℕ
carry_terminal i = codes "," ++ counter_bit i

-- a bit is carried into where all bits below it are 1
abbrev pub carry_line : ℕ → List ℕ
carry_line i = line (codes "and (t" ++ (decimal i ++ (each carry_terminal 0 i ++ codes ");")))

-- a bit is exchanged where it is carried into
abbrev pub exchange_line : ℕ → List ℕ
exchange_line i =
    line (codes "xor (dc" ++ (decimal i ++ (codes ",c" ++ (decimal i ++ (codes ",t" ++ (decimal i ++ codes ");"))))))

-- the two gates of a bit from the third on
abbrev pub bit_lines : ℕ → List ℕ
bit_lines i = carry_line i ++ exchange_line i

unfoldable pub counter_text : List ℕ
counter_text = line (codes "not (dc0,c0);") ++ (line (codes "xor (dc1,c1,c0);") ++ each bit_lines 2 7)

-- ---- the drawn gates

-- the kinds of drawn gates, numbered from 0
unfoldable pub kind_word : ℕ → List ℕ
kind_word kind =
    slice_index_or (codes "and" ∷ codes "nand" ∷ codes "or" ∷ codes "nor" ∷ codes "xor" ∷ codes "xnor" ∷ []) kind []

-- a member of the pool as a terminal
abbrev pub terminal : ℕ → List ℕ
terminal n = codes "," ++ member n

-- the gate that drives the drawn net j: its kind, and the numbers of the pool's members that it reads
abbrev pub gate_line : ℕ → ℕ → ℕ → ℕ → List ℕ
gate_line j kind first second =
    line (kind_word kind ++ (codes " (" ++ (drawn_net j ++ (terminal first ++ (terminal second ++ codes ");")))))

-- the same as it is drawn: the kind, the first member and the second, among all that stand in the pool before it
abbrev pub drawn_line : Lcg → ℕ → List ℕ
drawn_line draws j =
    gate_line j (pick draws 6) (pick (after 1 draws) (59 + j)) (pick (after 2 draws) (59 + j))

-- the same among all drawn gates, three draws each
abbrev pub nth_drawn_line : Lcg → ℕ → List ℕ
nth_drawn_line draws j = drawn_line (after (3 * j) draws) j

unfoldable pub drawn_text : Lcg → List ℕ
drawn_text draws = each (nth_drawn_line draws) 0 579

-- ---- the feeds of the shift registers

-- what a register is fed from: its last stage, one of the last drawn nets and an input
abbrev pub feed_terminals : ℕ → List ℕ
feed_terminals r = stage r 10 ++ (codes "," ++ (drawn_net (574 + r) ++ (codes ",x" ++ decimal r)))

abbrev pub feed_line : ℕ → List ℕ
feed_line r = line (codes "xor (e" ++ (decimal r ++ (codes "," ++ (feed_terminals r ++ codes ");"))))

unfoldable pub feeds_text : List ℕ
feeds_text = each feed_line 0 5
