-- Words for the contracts of the reader's private steps: a Hello, built option by option.
use Rattle.std.specs.Prelude.{◌==◌, List, Some, if◌then◌else◌}
use Rattle.std.specs.Option.{option_or, option_map, unwrap_or}
use Rattle.byteorder.specs.Endian.{big_number}
use Rattle.pim_addr.specs.declared.family.AddressFamily.{AddressFamily}
use Rattle.pim_hello.specs.Hello.{Hello}
use Rattle.pim_hello.specs.Options.{Content, whole, partial, Part, last_of}
use Rattle.pim_hello.specs.Row.{addresses_of}
use Rattle.pim_hello.specs.Value.{delays_of}

-- The Hello after one more option, which replaces an earlier one of its type.
unfoldable pub with_option : AddressFamily → Content → Hello → Hello
with_option family (whole type_code value) hello = record {
  parameters = record {
    holdtime = if type_code == 1 then Some (big_number 2 value) else hello.parameters.holdtime;
    lan = if type_code == 2 then Some (delays_of value) else hello.parameters.lan;
    priority = if type_code == 19 then Some (big_number 4 value) else hello.parameters.priority;
    generation = if type_code == 20 then Some (big_number 4 value) else hello.parameters.generation;
  };
  addresses = if type_code == 24 then addresses_of family value else hello.addresses;
}
with_option family partial hello = hello

-- The Hello after more options, of which the last of each type counts.
unfoldable pub over : AddressFamily → Hello → List Part → Hello
over family hello ps = record {
  parameters = record {
    holdtime = option_or (option_map (big_number 2) (last_of 1 ps)) hello.parameters.holdtime;
    lan = option_or (option_map delays_of (last_of 2 ps)) hello.parameters.lan;
    priority = option_or (option_map (big_number 4) (last_of 19 ps)) hello.parameters.priority;
    generation = option_or (option_map (big_number 4) (last_of 20 ps)) hello.parameters.generation;
  };
  addresses = unwrap_or (option_map (addresses_of family) (last_of 24 ps)) hello.addresses;
}
