-- What each production stands for is some of the symbols before the end of the text, and then what is left.
use Rattle.std.proofs.Common.{◌≡◌, ℕ, ◌≤◌, Bool, true, false, List, [], ◌∷◌, length, Option, refl, arith}
use Rattle.bs_net.specs.declared.gate.Kind.{Kind}
use Rattle.bs_lex.specs.declared.lexeme.Cell.{Cell}
use Rattle.bs_verilog_syntax.specs.declared.tree.Direction as code
use Rattle.bs_verilog_syntax.specs.declared.tree.Direction.TheVariants as directions
use Rattle.bs_verilog_syntax.specs.declared.tree.Net as code_net
use Rattle.bs_verilog_syntax.specs.declared.tree.Net.TheVariants as nets
use Rattle.bs_verilog.specs.Symbols.{Symbol, Text, finish}
use Rattle.bs_verilog.specs.Written.{Range, Says, Declared, Term, Connection, Component, HeaderPort, Ports, Adds, Module}
use Rattle.bs_verilog.specs.Productions.{is_inside, is_passed, direction_word, net_word, IsListed, last, more, IsInside, closed, on}
use Rattle.bs_verilog.specs.Productions.{AreAttributes, no_more, one_more, IsTerm, scalar, indexed, one_bit, IsNum, whole, fraction, single}
use Rattle.bs_verilog.specs.Productions.{triple, IsTimed, IsDelay, undelayed, by_time, by_times, IsRange, unranged, ranged, IsPortSays, plain, wire}
use Rattle.bs_verilog.specs.Productions.{IsDeclared, declares, IsPlainPort, bare_port, IsHeaderPort, with_direction, without, ArePorts, no_port}
use Rattle.bs_verilog.specs.Productions.{plain_ports, declaring_ports, IsHeader, portless, with_ports, IsLabel, unlabelled, labelled, IsByPlace}
use Rattle.bs_verilog.specs.Productions.{by_place, IsPlace, nothing, something, IsPin, unconnected, connected, AreConnections, no_connection, places}
use Rattle.bs_verilog.specs.Productions.{pins, IsGate, gate, IsInstance, instance, IsAssignment, assignment, IsItem, port_item, net_item, assign_item}
use Rattle.bs_verilog.specs.Productions.{gate_item, cell_item, AreItems, no_item, one_item, IsTop, top, IsPassed, ended, passing, AreCells, no_cell}
use Rattle.bs_verilog.specs.Productions.{one_cell}

abbrev pub is_finish : Symbol → Bool
is_finish finish = true
is_finish _ = false

-- symbols other than the end, and then what is left
pub data Extends : Text → Text → Type 0 where
  here : {to : Text} → Extends to to
  after : {s : Symbol} {from to : Text} → is_finish s ≡ false → Extends from to → Extends (s ∷ from) to

-- the end of the text stands once, and last
pub data EndsOnce : Text → Type 0 where
  at_end : EndsOnce (finish ∷ [])
  before_end : {s : Symbol} {text : Text} → is_finish s ≡ false → EndsOnce text → EndsOnce (s ∷ text)

pub further : {a b c : Text} → Extends a b → Extends b c → Extends a c
further here f = f
further (after n e) f = after n (further e f)

-- one symbol more is passed
pub off : {a b : Text} {s : Symbol} → is_finish s ≡ false → Extends a (s ∷ b) → Extends a b
off n e = further e (after n here)

pub tail_once : {s : Symbol} {text : Text} → is_finish s ≡ false → EndsOnce (s ∷ text) → EndsOnce text
tail_once n at_end = absurd cc
tail_once n (before_end m h) = h

pub once_left : {a b : Text} → Extends a b → EndsOnce a → EndsOnce b
once_left here h = h
once_left (after n e) h = once_left e (tail_once n h)

pub no_longer : {a b : Text} → Extends a b → length b ≤ length a
no_longer here = omega arith
no_longer (after n e) = let less = no_longer e in omega (arith, less)

pub listed_extends : {A : Type 0} {one : Text → Text → A → Type 0} → ((from to : Text) (x : A) → one from to x → Extends from to)
    → {from to : Text} {xs : List A} → IsListed one from to xs → Extends from to
listed_extends member (last p) = member _ _ _ p
listed_extends member (more p l) = further (off refl (member _ _ _ p)) (listed_extends member l)

inside_off : (s : Symbol) → is_inside s ≡ true → is_finish s ≡ false
inside_off finish e = absurd cc
inside_off _ e = refl

passed_off : (s : Symbol) → is_passed s ≡ true → is_finish s ≡ false
passed_off finish e = absurd cc
passed_off _ e = refl

pub inside_extends : {from to : Text} → IsInside from to → Extends from to
inside_extends closed = after refl here
inside_extends (on {s} i h) = after (inside_off s i) (inside_extends h)

pub attributes_extend : {from to : Text} → AreAttributes from to → Extends from to
attributes_extend no_more = here
attributes_extend (one_more i h) = after refl (further (inside_extends i) (attributes_extend h))

pub term_extends : (from to : Text) (t : Term) → IsTerm from to t → Extends from to
term_extends from to t scalar = after refl here
term_extends from to t indexed = after refl (after refl (after refl (after refl here)))
term_extends from to t one_bit = after refl here

num_extends : {from to : Text} → IsNum from to → Extends from to
num_extends whole = after refl here
num_extends fraction = after refl (after refl (after refl here))

pub time_extends : (from to : Text) (b : Unit {0}) → IsTimed from to b → Extends from to
time_extends from to b (single n) = num_extends n
time_extends from to b (triple n m k) = further (off refl (num_extends n)) (further (off refl (num_extends m)) (num_extends k))

pub delay_extends : {from to : Text} → IsDelay from to → Extends from to
delay_extends undelayed = here
delay_extends (by_time t) = after refl (time_extends _ _ tt t)
delay_extends (by_times l) = after refl (after refl (off refl (listed_extends time_extends l)))

pub range_extends : {from to : Text} {r : Option Range} → IsRange from to r → Extends from to
range_extends unranged = here
range_extends ranged = after refl (after refl (after refl (after refl (after refl here))))

direction_off : (d : code.Direction) → is_finish (direction_word d) ≡ false
direction_off directions.Input = refl
direction_off directions.Output = refl

net_off : (n : code_net.Net) → is_finish (net_word n) ≡ false
net_off nets.Wire = refl
net_off nets.Supply0 = refl
net_off nets.Supply1 = refl

pub port_says_extends : {d : code.Direction} {from to : Text} {s : Says} → IsPortSays d from to s → Extends from to
port_says_extends (plain r) = range_extends r
port_says_extends (wire r) = after refl (range_extends r)

pub declared_extends : {says : Says} (from to : Text) (x : Declared) → IsDeclared says from to x → Extends from to
declared_extends from to x declares = after refl here

pub plain_port_extends : (from to : Text) (n : List ℕ) → IsPlainPort from to n → Extends from to
plain_port_extends from to n (bare_port a) = off refl (attributes_extend a)

pub header_port_extends : (from to : Text) (p : HeaderPort) → IsHeaderPort from to p → Extends from to
header_port_extends from to p (with_direction {d} a s) = further (off (direction_off d) (attributes_extend a)) (off refl (port_says_extends s))
header_port_extends from to p (without a) = off refl (attributes_extend a)

pub ports_extend : {from to : Text} {p : Ports} → ArePorts from to p → Extends from to
ports_extend no_port = after refl here
ports_extend (plain_ports l) = off refl (listed_extends plain_port_extends l)
ports_extend (declaring_ports l s c) = off refl (listed_extends header_port_extends l)

pub header_extends : {from to : Text} {p : Ports} → IsHeader from to p → Extends from to
header_extends portless = after refl here
header_extends (with_ports p) = after refl (off refl (ports_extend p))

pub label_extends : {from to : Text} → IsLabel from to → Extends from to
label_extends unlabelled = here
label_extends labelled = after refl here

pub by_place_extends : (from to : Text) (c : Connection) → IsByPlace from to c → Extends from to
by_place_extends from to c (by_place t) = term_extends _ _ _ t

pub place_extends : (from to : Text) (c : Connection) → IsPlace from to c → Extends from to
place_extends from to c nothing = here
place_extends from to c (something t) = term_extends _ _ _ t

pub pin_extends : (from to : Text) (c : Connection) → IsPin from to c → Extends from to
pin_extends from to c unconnected = after refl (after refl (after refl (after refl here)))
pin_extends from to c (connected t) = after refl (after refl (after refl (off refl (term_extends _ _ _ t))))

pub connections_extend : {from to : Text} {cs : List Connection} → AreConnections from to cs → Extends from to
connections_extend no_connection = after refl here
connections_extend (places n l) = off refl (listed_extends place_extends l)
connections_extend (pins l) = off refl (listed_extends pin_extends l)

pub gate_extends : {kind : Kind} (from to : Text) (p : Component) → IsGate kind from to p → Extends from to
gate_extends from to p (gate b l) = further (off refl (label_extends b)) (off refl (listed_extends by_place_extends l))

pub instance_extends : {cell : Cell} (from to : Text) (p : Component) → IsInstance cell from to p → Extends from to
instance_extends from to p (instance b l) = further (off refl (label_extends b)) (connections_extend l)

pub assignment_extends : (from to : Text) (p : Component) → IsAssignment from to p → Extends from to
assignment_extends from to p (assignment l r) = further (off refl (term_extends _ _ _ l)) (term_extends _ _ _ r)

-- an item is at least one symbol
pub item_extends : {from to : Text} {x : Adds} → IsItem from to x →
    (s : Symbol) × ((next : Text) × ((from ≡ s ∷ next) × ((is_finish s ≡ false) × Extends next to)))
item_extends (port_item {d} s l) =
    (direction_word d, (_, (refl, (direction_off d, further (port_says_extends s) (off refl (listed_extends declared_extends l))))))
item_extends (net_item {net} r l) = (net_word net, (_, (refl, (net_off net, further (range_extends r) (off refl (listed_extends declared_extends l))))))
item_extends (assign_item d l) = (_, (_, (refl, (refl, further (delay_extends d) (off refl (listed_extends assignment_extends l))))))
item_extends (gate_item d l) = (_, (_, (refl, (refl, further (delay_extends d) (off refl (listed_extends gate_extends l))))))
item_extends (cell_item l) = (_, (_, (refl, (refl, off refl (listed_extends instance_extends l)))))

pub item_passes : {from to : Text} {x : Adds} → IsItem from to x → Extends from to
item_passes i = let e = item_extends i in rw (e.1.1.0) (after (e.1.1.1.0) (e.1.1.1.1))

pub items_extend : {from to : Text} {x : Adds} → AreItems from to x → Extends from to
items_extend no_item = after refl here
items_extend (one_item a i l) = further (attributes_extend a) (further (item_passes i) (items_extend l))

pub top_extends : {from to : Text} {m : Module} → IsTop from to m → Extends from to
top_extends (top h i) = after refl (further (header_extends h) (items_extend i))

pub passed_extends : {from to : Text} → IsPassed from to → Extends from to
passed_extends ended = after refl here
passed_extends (passing {s} p h) = after (passed_off s p) (passed_extends h)

pub cells_extend : {from to : Text} → AreCells from to → Extends from to
cells_extend no_cell = here
cells_extend (one_cell a p l) = further (off refl (off refl (attributes_extend a))) (further (passed_extends p) (cells_extend l))
