-- Faults, and the words of their refusals.
use Rattle.std.proofs.Common.{◌≡◌, ℕ, ◌<◌, List, [], length, sym, subst, slice_get, Some}
use Rattle.std.proofs.lemmas.Option.{get_or_from_slice_get}
use Rattle.bs_net.specs.declared.net.NetId.{NetId}
use Rattle.bs_net.specs.declared.fault.NetFault.{NetFault}
use Rattle.bs_net.specs.declared.fault.NetFault.TheVariants as net
use Rattle.bs_net.specs.declared.raw.Raw.{Raw}
use Rattle.bs_net.specs.Parts.{Parts}
use Rattle.bs_net.specs.Netlist.{parts_of}
use Rattle.bs_net.specs.Check.{IsFault}
use Rattle.bs_net.proofs.CallerLemmas.{raw_is_placed}
use Rattle.bs_net.proofs.ClockLemmas.{mixed_placed}
use Rattle.bs_outside.specs.declared.file_fetch.Refusal.{Refusal}
use Rattle.bs_outside.specs.declared.file_fetch.Refusal.TheVariants as Q
use Rattle.bs_top_files.specs.Refusals.{key_of, check_words, HasWords, HasCheckWords}

-- what stands at a net's place is its key
pub key_is : (r : Parts) (n : NetId) (key : List ℕ) → slice_get r.names n.0 ≡ Some key → key ≡ key_of r n
key_is r n key e = sym (get_or_from_slice_get r.names n.0 key [] e)

-- the net of a mixed clock has a name
pub mixed_named : (raw : Raw) (fault : NetFault) (n : NetId) → IsFault (parts_of raw) fault → fault ≡ net.ClockMixed n → n.0 < length raw.names
mixed_named raw fault n is e =
    let here : IsFault (parts_of raw) (net.ClockMixed n) = subst (IsFault (parts_of raw)) e is in
    mixed_placed (parts_of raw) n (raw_is_placed raw) here.2 here.3

-- the words of a fault of the check go with the netlist
pub check_diagnostic : (r : Parts) (fault : NetFault) (refusal : Refusal) → IsFault r fault → HasWords (check_words r fault) refusal →
    (fault ≡ net.NoMemory → refusal ≡ Q.NoMemory) → HasCheckWords r refusal
check_diagnostic r fault Q.NoMemory is words want = tt
check_diagnostic r fault (Q.Why why) is words want = record { fault = fault; told = λ e. let clash : Q.Why why ≡ Q.NoMemory = want e in cc; is = is; words = words }
