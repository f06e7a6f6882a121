-- Worked refusals (docs/FORMATS.md, "Refusal lines"): the words are those of the lines.
use Rattle.std.proofs.Common.{◌≡◌, refl, [], ◌∷◌, codes}
use Rattle.std.specs.Fmt.{digits}
use Rattle.bs_verilog_syntax.specs.declared.fault.VerilogFault.TheVariants as verilog
use Rattle.bs_verilog_syntax.specs.declared.fault.What.TheVariants as what
use Rattle.bs_flat_meaning.specs.declared.fault.FlatFault.TheVariants as flat
use Rattle.bs_scan.specs.declared.fault.ChoiceFault.TheVariants as choice
use Rattle.bs_scan.specs.declared.fault.DumpFault.TheVariants as dump
use Rattle.bs_stim.specs.declared.fault.StimFault.TheVariants as stimulus
use Rattle.bs_outside.specs.declared.file.File.TheVariants.{Netlist, Signature, Stimulus, Dump, Report}
use Rattle.bs_outside.specs.PlanFiles.{refusal_line}
use Rattle.bs_top_files.specs.Refusals.{flat_words, netlist_text_words, signature_words, stimulus_words, dump_words, range_words, too_large_words}

empty_netlist : refusal_line Netlist (netlist_text_words (verilog.Syntax 0)) ≡ codes "refused netlist Syntax 0\n"
unfolding digits
empty_netlist = refl

always_block : refusal_line Netlist (netlist_text_words (verilog.Unsupported 24 what.Behaviour)) ≡ codes "refused netlist Unsupported 24 Behaviour\n"
unfolding digits
always_block = refl

undeclared_port : refusal_line Netlist (netlist_text_words (verilog.Port 12)) ≡ codes "refused netlist Port 12\n"
unfolding digits
undeclared_port = refl

wire_twice : refusal_line Netlist (netlist_text_words (verilog.Redeclared 37)) ≡ codes "refused netlist Redeclared 37\n"
unfolding digits
wire_twice = refl

wide_vectors : refusal_line Netlist (netlist_text_words (verilog.TooManyNets 57)) ≡ codes "refused netlist TooManyNets 57\n"
unfolding digits
wide_vectors = refl

one_terminal : refusal_line Netlist (netlist_text_words (verilog.Terminals 29)) ≡ codes "refused netlist Terminals 29\n"
unfolding digits
one_terminal = refl

past_the_range : refusal_line Netlist (netlist_text_words (verilog.Index 46)) ≡ codes "refused netlist Index 46\n"
unfolding digits
past_the_range = refl

second_name : refusal_line Netlist (flat_words (flat.Twice 40)) ≡ codes "refused netlist Twice 40\n"
unfolding digits
second_name = refl

ring_of_two : refusal_line Netlist (flat_words (flat.Recursion (codes "a" ∷ codes "b" ∷ []))) ≡ codes "refused netlist Recursion a b\n"
ring_of_two = refl

two_tops : refusal_line Netlist (flat_words (flat.Tops 2)) ≡ codes "refused netlist Tops 2\n"
unfolding digits
two_tops = refl

wide_connection : refusal_line Netlist (flat_words (flat.Connect 120)) ≡ codes "refused netlist Connect 120\n"
unfolding digits
wide_connection = refl

too_deep : refusal_line Netlist (flat_words flat.FlatDepth) ≡ codes "refused netlist FlatDepth\n"
too_deep = refl

same_key : refusal_line Netlist (flat_words (flat.NameClash (codes "u.q"))) ≡ codes "refused netlist NameClash u.q\n"
same_key = refl

unknown_flop : refusal_line Signature (signature_words (choice.UnknownFlop 1)) ≡ codes "refused signature UnknownFlop 1\n"
unfolding digits
unknown_flop = refl

no_run : refusal_line Stimulus (stimulus_words stimulus.NoRun) ≡ codes "refused stimulus NoRun\n"
no_run = refl

early_end : refusal_line Stimulus (stimulus_words (stimulus.Count 3)) ≡ codes "refused stimulus Count 3\n"
unfolding digits
early_end = refl

many_cycles : refusal_line Stimulus (stimulus_words (stimulus.TooManyCycles 1)) ≡ codes "refused stimulus TooManyCycles 1\n"
unfolding digits
many_cycles = refl

not_at_reset : refusal_line Dump (dump_words dump.NotReset) ≡ codes "refused dump NotReset\n"
not_at_reset = refl

no_such_moment : refusal_line Dump range_words ≡ codes "refused dump Range\n"
no_such_moment = refl

too_large : refusal_line Report too_large_words ≡ codes "refused report TooLarge\n"
too_large = refl
