-- The text of a Hello (RFC 7761, 4.9.2).
use Rattle.std.specs.Prelude.{ℕ, Bool, true, false, List, [], ◌++◌, Option, Some, None, codes, decimal}
use Rattle.std.specs.List.{flat_map}
use Rattle.pim_addr.specs.declared.family.AddressFamily.{AddressFamily}
use Rattle.pim_addr.specs.Text.{address_text}
use Rattle.pim_hello.specs.Hello.{Delays, Parameters, Hello}
use Rattle.pim_text.specs.Text.{line}

-- The line of an option with one number, if the option is present.
abbrev pub number_text : List ℕ → Option ℕ → List ℕ
number_text words None = []
number_text words (Some number) = line (words ++ decimal number)

-- A bit as a digit.
abbrev pub bit : Bool → List ℕ
bit true = codes "1"
bit false = codes "0"

-- The line of a LAN Prune Delay option: the T bit, the propagation delay and the override interval.
abbrev pub delays_line : Delays → List ℕ
delays_line delays =
    line (codes "lan-prune-delay t " ++ bit delays.t ++ codes " propagation " ++ decimal delays.propagation
    ++ codes " override " ++ decimal delays.override_ms)

-- The line of the LAN Prune Delay option, if it is present.
abbrev pub delays_text : Option Delays → List ℕ
delays_text None = []
delays_text (Some delays) = delays_line delays

-- The lines of the options other than the Address List.
abbrev pub parameters_text : Parameters → List ℕ
parameters_text parameters =
    number_text (codes "holdtime ") parameters.holdtime ++ delays_text parameters.lan
    ++ number_text (codes "dr-priority ") parameters.priority ++ number_text (codes "generation ") parameters.generation

-- The line of an address of the Address List.
abbrev pub address_line : AddressFamily → List ℕ → List ℕ
address_line family address = line (codes "address " ++ address_text family address)

-- The line `hello`, then a line for each option and address that it has, in this order.
abbrev pub hello_text : AddressFamily → Hello → List ℕ
hello_text family hello =
    codes "hello\n" ++ parameters_text hello.parameters ++ flat_map (address_line family) hello.addresses
