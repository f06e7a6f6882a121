-- A wave read line by line.
use Rattle.std.proofs.Common.{◌≡◌, ℕ, ◌+◌, Bool, true, false, cond, List, [], ◌∷◌, refl, ap, ◌∙◌, ◌⊎◌, inl, inr}
use Rattle.std.specs.Prelude.{◌==◌, Result, Ok, Err}
use Rattle.bs_bits.specs.Lines.{onto_first, pieces_of}
use Rattle.bs_bits.specs.Reading.{◌>>=◌}
use Rattle.bs_wave.specs.declared.place.TextPlace.{TextPlace}
use Rattle.bs_wave.specs.declared.fault.WaveFault.{WaveFault}
use Rattle.bs_wave.specs.declared.fault.WaveFault.TheVariants.{NoMemory}
use Rattle.bs_wave.specs.declared.wave.Wave.{Wave}
use Rattle.bs_wave.specs.WaveReading.{PartialWave, Reached, followed, ended, wave_from}

-- each text has a piece
pub some_piece : (bs : List ℕ) → (p : List ℕ) × (ps : List (List ℕ)) × (pieces_of bs ≡ p ∷ ps)
some_piece [] = ([], [], refl)
some_piece (b ∷ bs) = by (b == 10) refl (pieces_of bs) refl
  where
    by : (z : Bool) → b == 10 ≡ z → (o : List (List ℕ)) → pieces_of bs ≡ o →
        (p : List ℕ) × (ps : List (List ℕ)) × (cond z ([] ∷ pieces_of bs) (onto_first b (pieces_of bs)) ≡ p ∷ ps)
    by true e o f = ([], pieces_of bs, refl)
    by false e [] f = (b ∷ [], [], ap (onto_first b) f)
    by false e (p ∷ ps) f = (b ∷ p, ps, ap (onto_first b) f)

-- one whole line
pub line_from : (n : ℕ) (place : TextPlace) (b : PartialWave) (line rest : List ℕ) →
    wave_from n place b (line ∷ pieces_of rest) ≡ ◌>>=◌ (followed n place b line) (λ (y : Reached). wave_from (n + 1) y.0 y.1 (pieces_of rest))
line_from n place b line rest = by (pieces_of rest) (some_piece rest)
  where
    by : (pieces : List (List ℕ)) → ((p : List ℕ) × (ps : List (List ℕ)) × (pieces ≡ p ∷ ps)) →
        wave_from n place b (line ∷ pieces) ≡ ◌>>=◌ (followed n place b line) (λ (y : Reached). wave_from (n + 1) y.0 y.1 pieces)
    by [] s = cc
    by (p ∷ ps) s = refl

pub line_read : (all : Result Wave WaveFault) (n : ℕ) (place behind : TextPlace) (b after : PartialWave) (bytes line rest : List ℕ) →
    all ≡ wave_from n place b (pieces_of bytes) → pieces_of bytes ≡ line ∷ pieces_of rest → followed n place b line ≡ Ok (behind, after) →
    all ≡ wave_from (n + 1) behind after (pieces_of rest)
line_read all n place behind b after bytes line rest e f g =
    e ∙ (ap (wave_from n place b) f
    ∙ (line_from n place b line rest
    ∙ ap (λ (x : Result Reached WaveFault). ◌>>=◌ x (λ (y : Reached). wave_from (n + 1) y.0 y.1 (pieces_of rest))) g))

pub line_refused : (all : Result Wave WaveFault) (n : ℕ) (place : TextPlace) (b : PartialWave) (bytes line rest : List ℕ) (fault : WaveFault) →
    all ≡ wave_from n place b (pieces_of bytes) → pieces_of bytes ≡ line ∷ pieces_of rest → followed n place b line ≡ Err fault → all ≡ Err fault
line_refused all n place b bytes line rest fault e f g =
    e ∙ (ap (wave_from n place b) f
    ∙ (line_from n place b line rest
    ∙ ap (λ (x : Result Reached WaveFault). ◌>>=◌ x (λ (y : Reached). wave_from (n + 1) y.0 y.1 (pieces_of rest))) g))

pub lines_end : (all : Result Wave WaveFault) (n : ℕ) (place : TextPlace) (b : PartialWave) (bytes : List ℕ) →
    all ≡ wave_from n place b (pieces_of bytes) → pieces_of bytes ≡ bytes ∷ [] → all ≡ ended n place b bytes
lines_end all n place b bytes e f = e ∙ ap (wave_from n place b) f

pub line_faulty : (all : Result Wave WaveFault) (n : ℕ) (place : TextPlace) (b : PartialWave) (bytes line rest : List ℕ) (fault : WaveFault) →
    all ≡ wave_from n place b (pieces_of bytes) → pieces_of bytes ≡ line ∷ pieces_of rest → (fault ≡ NoMemory) ⊎ (followed n place b line ≡ Err fault) →
    (fault ≡ NoMemory) ⊎ (all ≡ Err fault)
line_faulty all n place b bytes line rest fault e f (inl none) = inl none
line_faulty all n place b bytes line rest fault e f (inr g) = inr (line_refused all n place b bytes line rest fault e f g)
