-- What is said of a dump, by the first moments that a look finds.
use Rattle.std.proofs.Common.{◌≡◌, ℕ, suc, zero, ◌<◌, Bool, List, [], ◌∷◌, length, reverse, get_or, Option, Some, None, Result, Ok, Err, Vec, ap, sym, ◌∙◌, arith}
use Rattle.std.specs.Prelude.{IfOk}
use Rattle.std.proofs.lemmas.List.{length-reverse}
use Rattle.std.specs.List.{All}
use Rattle.std.specs.declared.alloc.Global.{Global}
use Rattle.bs_bits.specs.declared.memory.NoMemory.{NoMemory}
use Rattle.bs_scan.specs.declared.dump.Dump.{Dump}
use Rattle.bs_scan.specs.Crash.{Recording, dump_at}
use Rattle.bs_scan.specs.Moments.{Moment}
use Rattle.bs_call.specs.Fits.{fit_of}
use Rattle.bs_call.specs.Looks.{looked_text, moment_in, never_text, recorded_or, recorded_text, turned_or, turned_text}

-- one state, which has the width
pub one_fits : (state : List Bool) (width : ℕ) → length state ≡ width → All (λ (s : List Bool). length s ≡ width) (state ∷ [])
one_fits state width fits k d lt = by k lt
  where
    by : (k : ℕ) → k < 1 → length (get_or (state ∷ []) k d) ≡ width
    by zero lt = fits
    by (suc k) lt = absurd (omega (arith, lt))

-- a state that is read backwards has the same width
pub turned_fits : (state : List Bool) (turned : List Bool) (width : ℕ) → turned ≡ reverse state → length state ≡ width → length turned ≡ width
turned_fits state turned width is fits = ap length is ∙ length-reverse state ∙ fits

-- the state read backwards stands at a moment
pub turned_hit : (r : Recording) (d : Dump) (said : List ℕ) (state : List Bool) (m : Moment) (there : Dump) (note : Result (Vec ℕ Global) NoMemory) →
    state ≡ reverse d.state.bits → moment_in r state ≡ Some m → there ≡ dump_at r m →
    IfOk note (λ n. n.items ≡ turned_text m there (fit_of there d)) →
    IfOk note (λ n. n.items ≡ turned_or r d said (moment_in r (reverse d.state.bits)))
turned_hit r d said state m there (Ok n) turned is holds says =
    says ∙ ap (λ (t : Dump). turned_text m t (fit_of t d)) holds
    ∙ ap (λ (o : Option Moment). turned_or r d said o) (sym is ∙ ap (moment_in r) turned)
turned_hit r d said state m there (Err want) turned is holds says = tt

-- it stands at none
pub turned_never : (r : Recording) (d : Dump) (said : List ℕ) (state : List Bool) (note : Result (Vec ℕ Global) NoMemory) → state ≡ reverse d.state.bits →
    moment_in r state ≡ None → IfOk note (λ n. n.items ≡ never_text said) →
    IfOk note (λ n. n.items ≡ turned_or r d said (moment_in r (reverse d.state.bits)))
turned_never r d said state (Ok n) turned none says = says ∙ ap (λ (o : Option Moment). turned_or r d said o) (sym none ∙ ap (moment_in r) turned)
turned_never r d said state (Err want) turned none says = tt

-- the state stands at a moment
pub recorded_hit : (r : Recording) (d : Dump) (said : List ℕ) (state : List Bool) (m : Moment) (there : Dump) (note : Result (Vec ℕ Global) NoMemory) →
    state ≡ d.state.bits → moment_in r state ≡ Some m → there ≡ dump_at r m →
    IfOk note (λ n. n.items ≡ recorded_text said m there (fit_of there d)) → IfOk note (λ n. n.items ≡ looked_text r d said)
recorded_hit r d said state m there (Ok n) same is holds says =
    says ∙ ap (λ (t : Dump). recorded_text said m t (fit_of t d)) holds
    ∙ ap (λ (o : Option Moment). recorded_or r d said o) (sym is ∙ ap (moment_in r) same)
recorded_hit r d said state m there (Err want) same is holds says = tt

-- it stands at none
pub not_recorded : (r now : Recording) (d : Dump) (said : List ℕ) (state : List Bool) (note : Result (Vec ℕ Global) NoMemory) → now ≡ r →
    state ≡ d.state.bits → moment_in r state ≡ None →
    IfOk note (λ n. n.items ≡ turned_or now d said (moment_in now (reverse d.state.bits))) → IfOk note (λ n. n.items ≡ looked_text r d said)
not_recorded r now d said state (Ok n) still same none says =
    says ∙ ap (λ (q : Recording). turned_or q d said (moment_in q (reverse d.state.bits))) still
    ∙ ap (λ (o : Option Moment). recorded_or r d said o) (sym none ∙ ap (moment_in r) same)
not_recorded r now d said state (Err want) still same none says = tt
