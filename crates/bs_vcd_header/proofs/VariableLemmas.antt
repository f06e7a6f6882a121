-- Worked names of variables in a scope and in those in it.
use Rattle.std.proofs.Common.{◌≡◌, true, false, refl}
use Rattle.std.specs.Prelude.{codes}
use Rattle.bs_vcd_header.specs.Sources.{names_variable}

own : names_variable (codes "tb") (codes "tb") (codes "level") (codes "level") ≡ true
own = refl

inner : names_variable (codes "tb") (codes "tb.tx") (codes "level") (codes "tx.level") ≡ true
inner = refl

whole : names_variable (codes "") (codes "tb.tx") (codes "level") (codes "tb.tx.level") ≡ true
whole = refl

other : names_variable (codes "tb") (codes "tb.rx") (codes "level") (codes "tx.level") ≡ false
other = refl

outer : names_variable (codes "tb.tx") (codes "tb") (codes "level") (codes "level") ≡ false
outer = refl
