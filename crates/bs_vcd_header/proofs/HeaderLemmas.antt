-- The words of the declarations, taken one by one.
use Rattle.std.proofs.Common.{◌≡◌, Bool, true, false, List, [], ◌∷◌, ap, ◌∙◌, ◌⊎◌, inl, inr, Result, Ok, Err}
use Rattle.std.specs.Prelude.{if◌then◌else◌}
use Rattle.bs_bits.specs.Reading.{◌>>=◌}
use Rattle.bs_vcd_header.specs.declared.fault.VcdFault.{VcdFault}
use Rattle.bs_vcd_header.specs.declared.fault.VcdFault.TheVariants.{NoMemory, Ended}
use Rattle.bs_vcd_header.specs.Tokens.{VcdToken}
use Rattle.bs_vcd_header.specs.Header.{HeaderState, Header, worded, header_from}

abbrev Read : Type 0
Read = Result Header VcdFault

-- the rest of the words behind one
abbrev on : List VcdToken → Result (Bool × HeaderState) VcdFault → Read
on ts r = r >>= λ next. if next.0 then Ok record { declared = next.1.declared; rest = ts } else header_from next.1 ts

pub word_taken : (all : Read) (b after : HeaderState) (words ts : List VcdToken) (t : VcdToken) (last : Bool) → all ≡ header_from b words → words ≡ t ∷ ts →
    worded b t ≡ Ok (last, after) → last ≡ false → all ≡ header_from after ts
word_taken all b after words ts t last e f g more =
    e ∙ (ap (header_from b) f ∙ (ap (on ts) g ∙ ap (λ z. on ts (Ok (z, after))) more))

pub word_last : (all : Read) (b after : HeaderState) (words ts : List VcdToken) (t : VcdToken) (last : Bool) → all ≡ header_from b words → words ≡ t ∷ ts →
    worded b t ≡ Ok (last, after) → last ≡ true → all ≡ Ok record { declared = after.declared; rest = ts }
word_last all b after words ts t last e f g done =
    e ∙ (ap (header_from b) f ∙ (ap (on ts) g ∙ ap (λ z. on ts (Ok (z, after))) done))

pub word_faulty : (all : Read) (b : HeaderState) (words ts : List VcdToken) (t : VcdToken) (fault : VcdFault) → all ≡ header_from b words → words ≡ t ∷ ts →
    (fault ≡ NoMemory) ⊎ (worded b t ≡ Err fault) → (fault ≡ NoMemory) ⊎ (all ≡ Err fault)
word_faulty all b words ts t fault e f (inl want) = inl want
word_faulty all b words ts t fault e f (inr g) = inr (e ∙ (ap (header_from b) f ∙ ap (on ts) g))

pub words_end : (all : Read) (b : HeaderState) (words : List VcdToken) → all ≡ header_from b words → words ≡ [] → all ≡ Err Ended
words_end all b words e f = e ∙ ap (header_from b) f
