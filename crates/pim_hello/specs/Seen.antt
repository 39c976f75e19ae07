-- How contracts see a Hello and its Address List.
use Rattle.std.specs.Prelude.{List, ℕ}
use Rattle.std.specs.Option.{option_map}
use Rattle.pim_addr.specs.declared.family.AddressFamily.{AddressFamily}
use Rattle.pim_hello.specs.Delays.{delays_seen}
use Rattle.pim_hello.specs.declared.addresses.Addresses.{Addresses}
use Rattle.pim_hello.specs.declared.hello.Hello as code
use Rattle.pim_hello.specs.Hello.{Hello}
use Rattle.pim_hello.specs.Row.{addresses_of}

-- The addresses of the family that are left in an Address List, each as its bytes.
abbrev pub addresses_seen : {F : Type 0} → AddressFamily → Addresses F → List (List ℕ)
addresses_seen family addresses = addresses_of family addresses.row.now

-- The Hello with its options as numbers and its addresses as bytes.
abbrev pub hello_seen : {F : Type 0} → AddressFamily → code.Hello F → Hello
hello_seen family hello = record {
  parameters = record {
    holdtime = hello.holdtime;
    lan = option_map delays_seen hello.lan;
    priority = hello.priority;
    generation = hello.generation;
  };
  addresses = addresses_seen family hello.addresses;
}
