-- What is read of a stimulus has the width that was asked for.
use Rattle.std.proofs.Common.{◌≡◌, ℕ, List, Result, Ok, Err, sym, ap}
use Rattle.bs_stim.specs.declared.fault.StimFault.{StimFault}
use Rattle.bs_stim.specs.Runs.{Recorded, Stimulus}
use Rattle.bs_bits.specs.Reading.{◌>>=◌}
use Rattle.bs_stim.specs.StimulusText.{runs_of, stimulus_of}

pub stimulus_fits : (width : ℕ) (texts : List (List ℕ)) (runs : Stimulus) → stimulus_of width texts ≡ Ok runs → runs.width ≡ width
stimulus_fits width texts runs e = by (runs_of width texts) e
  where
    ok_in : Stimulus → Result Stimulus StimFault
    ok_in s = Ok s

    ok_same : (a b : Stimulus) → ok_in a ≡ ok_in b → a ≡ b
    ok_same a b h = cc

    by : (r : Result (List Recorded) StimFault) → (r >>= λ rs. Ok (record { width = width; runs = rs })) ≡ Ok runs → runs.width ≡ width
    by (Ok rs) h = sym (ap (λ (s : Stimulus). s.width) (ok_same (record { width = width; runs = rs }) runs h))
    by (Err fault) h = absurd (cc)
