-- From one cycle to the next: what holds of every sequence of valuations in which a block's facts hold.
use Rattle.std.proofs.Common.{◌≡◌, ℕ, suc, ◌<◌, ◌≤◌, ◌+◌, ◌-◌, Bool, true, cond, List, [], ◌∷◌, ◌++◌, map, length, subst, ap, sym, ◌∙◌, ⊎_elim, arith}
use Rattle.std.specs.List.{All, AllByRecursion}
use Rattle.std.proofs.lemmas.Bool.{cases_lt}
use Rattle.std.proofs.lemmas.List.Elements.{All-append, All-map, All-weaker, All-from_recursion, recursion_from_All}
use Rattle.bs_net.specs.Circuit.{Circuit, bit_at}
use Rattle.bs_net.specs.Netlist.{Checked, circuit}
use Rattle.bs_sim.specs.declared.mark.Mark.{Mark}
use Rattle.bs_sim.specs.Marks.{Holds, Hold}
use Rattle.bs_net_facts.specs.declared.fact.Fact.{Fact}
use Rattle.bs_net_facts.specs.declared.block.Block.{Block}
use Rattle.bs_net_facts.specs.declared.known_loads.KnownNet.{KnownNet}
use Rattle.bs_net_facts.specs.Facts.{HoldsIn, FitsSome, Force, valuation_at}
use Rattle.bs_net_facts.specs.Blocks.{begun, lasting, stretch, moved}
use Rattle.bs_net_facts.proofs.CycleLemmas.{told_bits}
use Rattle.bs_net_facts.specs.Marked.{Marking, Blank, Stays, ShowBits, IsGivenAt, Carry, tell_bits, Known, KeptAt, ForcedBefore, Forced, IsBefore}

left_of : {X : Type 0} (P : X → Type 0) (xs ys : List X) → AllByRecursion P (xs ++ ys) → AllByRecursion P xs
left_of P [] ys h = tt
left_of P (x ∷ xs) ys h = (h.0, left_of P xs ys h.1)

right_of : {X : Type 0} (P : X → Type 0) (xs ys : List X) → AllByRecursion P (xs ++ ys) → AllByRecursion P ys
right_of P [] ys h = h
right_of P (x ∷ xs) ys h = right_of P xs ys h.1

-- of two lists joined
pub all_left : {X : Type 0} (P : X → Type 0) (xs ys : List X) → All P (xs ++ ys) → All P xs
all_left P xs ys h = All-from_recursion P xs (left_of P xs ys (recursion_from_All P (xs ++ ys) h))

pub all_right : {X : Type 0} (P : X → Type 0) (xs ys : List X) → All P (xs ++ ys) → All P ys
all_right P xs ys h = All-from_recursion P ys (right_of P xs ys (recursion_from_All P (xs ++ ys) h))

-- some bits at a cycle
unmoved : (vs : List (List Bool)) (t : ℕ) (bits : List Fact) → AllByRecursion (HoldsIn vs) (map (moved t) bits) →
    AllByRecursion (λ (f : Fact). bit_at (valuation_at vs t) f.net.0 ≡ f.bit) bits
unmoved vs t [] h = tt
unmoved vs t (f ∷ bits) h = (h.0, unmoved vs t bits h.1)

pub shown_at : (vs : List (List Bool)) (t : ℕ) (bits : List Fact) → All (HoldsIn vs) (map (moved t) bits) → ShowBits bits (valuation_at vs t)
shown_at vs t bits h =
    All-from_recursion (λ (f : Fact). bit_at (valuation_at vs t) f.net.0 ≡ f.bit) bits (unmoved vs t bits (recursion_from_All (HoldsIn vs) (map (moved t) bits) h))

pub at_shown : (vs : List (List Bool)) (t : ℕ) (bits : List Fact) → ShowBits bits (valuation_at vs t) → All (HoldsIn vs) (map (moved t) bits)
at_shown vs t bits h = All-map (HoldsIn vs) (moved t) bits h

-- the marks of a cycle hold there
pub held_at : (m new : Marking) (b : Block) (kept : List KnownNet) (t : ℕ) → Blank m → Stays (IsGivenAt (circuit m.net) b kept t) m new →
    KeptAt (circuit m.net) b t kept → Known (circuit m.net) b (λ vs. t < length vs → Hold new.marks (valuation_at vs t) (valuation_at vs t))
held_at m new b kept t blank stay before =
    record {
      each = λ vs last follow given lt.
          let v = valuation_at vs t in
          let fitting : FitsSome (circuit m.net) v = follow.fit t lt in
          stay.each v
          (record {
            kept_holds = before.each vs last follow given lt;
            given_holds =
                All-weaker (HoldsIn vs) (λ (f : Fact). f.cycle ≡ t → bit_at v f.net.0 ≡ f.bit)
                (λ f h e. subst (λ (k : ℕ). bit_at (valuation_at vs k) f.net.0 ≡ f.bit) e h)
                b.given (all_left (HoldsIn vs) b.given (begun b) given);
            begun_holds = record {
              each = λ on e.
                  let them : All (HoldsIn vs) (map (moved b.since) b.bits) =
                  subst (λ (is : Bool). All (HoldsIn vs) (cond is (map (moved b.since) b.bits) [])) on (all_right (HoldsIn vs) b.given (begun b) given) in
                  subst (λ (k : ℕ). ShowBits b.bits (valuation_at vs k)) (sym e) (shown_at vs b.since b.bits them);
            };
            gates_hold = fitting.fits.gates;
          })
          (blank.each v fitting);
    }

-- what is carried holds in the next cycle
pub kept_next : (c : Circuit) (b : Block) (marks : List Mark) (kept : List KnownNet) (t : ℕ) →
    Known c b (λ vs. t < length vs → Hold marks (valuation_at vs t) (valuation_at vs t)) → Carry c marks kept → KeptAt c b (t + 1) kept
kept_next c b marks kept t held carry =
    record {
      each = λ vs last follow given lt.
          let here : t < length vs = omega (arith, lt) in
          carry.each (valuation_at vs t) (valuation_at vs (t + 1)) (held.each vs last follow given here) (follow.lead t lt);
    }

pub kept_none : (c : Circuit) (b : Block) (t : ℕ) (kept : List KnownNet) → length kept ≡ 0 → KeptAt c b t kept
kept_none c b t [] e =
    record {
      each = λ vs last follow given lt.
          All-from_recursion (λ (k : KnownNet). Holds k.mark (bit_at (valuation_at vs t) k.net.0) (bit_at (valuation_at vs t) k.net.0)) [] tt;
    }
kept_none c b t (k ∷ kept) e = absurd (omega (arith, e))

-- before the first cycle
pub forced_none : (c : Circuit) (b : Block) (t : ℕ) → t ≤ b.since → ForcedBefore c b t
forced_none c b t le =
    record {
      each = λ vs last follow given.
          let e : t - b.since ≡ 0 = omega (arith, le) in
          subst (λ (n : ℕ). All (HoldsIn vs) (stretch b.bits b.since n)) (sym e) (All-from_recursion (HoldsIn vs) [] tt);
    }

-- one cycle more
pub forced_next : (c : Circuit) (b : Block) (marks : List Mark) (t : ℕ) → t ≤ b.at →
    Known c b (λ vs. t < length vs → Hold marks (valuation_at vs t) (valuation_at vs t)) → (b.since ≤ t → tell_bits marks b.bits ≡ true) →
    ForcedBefore c b t → ForcedBefore c b (t + 1)
forced_next c b marks t within held tell before =
    ⊎_elim
    (λ (lt : t < b.since). forced_none c b (t + 1) (omega (arith, lt)))
    (λ (ge : b.since ≤ t).
    record {
      each = λ vs last follow given.
          let here : t < length vs = omega (arith, last, within) in
          let v = valuation_at vs t in
          let shows : ShowBits b.bits v = told_bits marks b.bits v (tell ge) (held.each vs last follow given here) in
          let e : t + 1 - b.since ≡ suc (t - b.since) = omega (arith, ge) in
          let k : b.since + (t - b.since) ≡ t = omega (arith, ge) in
          let now : All (HoldsIn vs) (map (moved (b.since + (t - b.since))) b.bits) =
          subst (λ (n : ℕ). All (HoldsIn vs) (map (moved n) b.bits)) (sym k) (at_shown vs t b.bits shows) in
          subst (λ (n : ℕ). All (HoldsIn vs) (stretch b.bits b.since n)) (sym e)
          (All-append (HoldsIn vs) (stretch b.bits b.since (t - b.since)) (map (moved (b.since + (t - b.since))) b.bits)
          (before.each vs last follow given) now);
    })
    (cases_lt t b.since)

-- behind the last one
pub forced_all : (c : Circuit) (b : Block) (first t : ℕ) → first ≤ b.since → b.at + 1 ≤ t → (first ≤ b.at + 1 → t ≤ b.at + 1) → ForcedBefore c b t → Forced c b
forced_all c b first t early past within before =
    record {
      each = λ vs last follow given.
          ⊎_elim
          (λ (lt : b.at + 1 < first).
          let e : b.at + 1 - b.since ≡ 0 = omega (arith, lt, early) in
          subst (λ (n : ℕ). All (HoldsIn vs) (stretch b.bits b.since n)) (sym e) (All-from_recursion (HoldsIn vs) [] tt))
          (λ (ge : first ≤ b.at + 1).
          let e : t ≡ b.at + 1 = omega (arith, past, within ge) in
          subst (λ (n : ℕ). All (HoldsIn vs) (stretch b.bits b.since (n - b.since))) e (before.each vs last follow given))
          (cases_lt (b.at + 1) first);
    }

-- in so many cycles
pub forced_force : (c : Circuit) (b : Block) (cycles : ℕ) → b.at < cycles → Forced c b → Force c cycles (b.given ++ begun b) (lasting b)
forced_force c b cycles lt h =
    record {
      each = λ vs e follow given.
          let last : b.at < length vs = subst (λ (n : ℕ). b.at < n) (sym e) lt in
          h.each vs last follow given;
    }

-- the same of a board of this netlist
pub held_in : (net : Checked) (m new : Marking) (b : Block) (kept : List KnownNet) (t : ℕ) → m.net ≡ net → Blank m →
    Stays (IsGivenAt (circuit m.net) b kept t) m new → KeptAt (circuit net) b t kept →
    Known (circuit net) b (λ vs. t < length vs → Hold new.marks (valuation_at vs t) (valuation_at vs t))
held_in net m new b kept t e blank stay before =
    let P : Checked → Type 0 = λ n. KeptAt (circuit n) b t kept → Known (circuit n) b (λ vs. t < length vs → Hold new.marks (valuation_at vs t) (valuation_at vs t)) in
    subst P e (held_at m new b kept t blank stay) before

-- ---- a pass

pub before_first : (net : Checked) (b : Block) (t : ℕ) (m : Marking) (kept : List KnownNet) → m.net ≡ net → Blank m → length kept ≡ 0 → t ≤ b.since →
    IsBefore net b t m kept
before_first net b t m kept e blank none le =
    record { same = e; blank = blank; kept_holds = kept_none (circuit net) b t kept none; so_far = forced_none (circuit net) b t le }

pub before_next : (net : Checked) (b : Block) (t : ℕ) (m marked cleared : Marking) (kept kept₂ next : List KnownNet) (marks marks₂ : List Mark) (n : Checked) →
    IsBefore net b t m kept → kept₂ ≡ kept → Stays (IsGivenAt (circuit m.net) b kept₂ t) m marked → marks ≡ marked.marks →
    (b.since ≤ t → tell_bits marks b.bits ≡ true) → marks₂ ≡ marked.marks → n ≡ marked.net → Carry (circuit n) marks₂ next →
    cleared.net ≡ marked.net → Blank cleared → t ≤ b.at → IsBefore net b (t + 1) cleared next
before_next net b t m marked cleared kept kept₂ next marks marks₂ n before e stay shown tell k i carry cleared_net blank within =
    let stays : Stays (IsGivenAt (circuit m.net) b kept t) m marked = subst (λ (ks : List KnownNet). Stays (IsGivenAt (circuit m.net) b ks t) m marked) e stay in
    let same : marked.net ≡ net = stays.net ∙ before.same in
    let held = held_in net m marked b kept t before.same before.blank stays before.kept_holds in
    let tells : b.since ≤ t → tell_bits marked.marks b.bits ≡ true = λ ge. ap (λ (ms : List Mark). tell_bits ms b.bits) (sym shown) ∙ tell ge in
    let carried : Carry (circuit net) marked.marks next =
    subst (λ (x : Checked). Carry (circuit x) marked.marks next) (i ∙ same) (subst (λ (ms : List Mark). Carry (circuit n) ms next) k carry) in
    record {
      same = cleared_net ∙ same;
      blank = blank;
      kept_holds = kept_next (circuit net) b marked.marks next t held carried;
      so_far = forced_next (circuit net) b marked.marks t within held tells before.so_far;
    }

pub before_last : (net : Checked) (b : Block) (first t : ℕ) (m : Marking) (kept : List KnownNet) → IsBefore net b t m kept → first ≤ b.since →
    b.at + 1 ≤ t → (first ≤ b.at + 1 → t ≤ b.at + 1) → Forced (circuit net) b
before_last net b first t m kept before early past within = forced_all (circuit net) b first t early past within before.so_far
