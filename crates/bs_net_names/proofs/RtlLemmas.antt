-- Names as RTL writes them, of keys of each form.
use Rattle.std.proofs.Common.{◌≡◌, ◌++◌, refl}
use Rattle.std.specs.Prelude.{codes, decimal}
use Rattle.bs_net_names.specs.Rtl.{rtl_name}

front : rtl_name (codes "[0]\\tx.level") ≡ codes "tx.level[" ++ (decimal 0 ++ codes "]")
front = refl

back : rtl_name (codes "count[3]") ≡ codes "count[" ++ (decimal 3 ++ codes "]")
back = refl

escaped : rtl_name (codes "\\tx.busy") ≡ codes "tx.busy"
escaped = refl

simple : rtl_name (codes "ready") ≡ codes "ready"
simple = refl
