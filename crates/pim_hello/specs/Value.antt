-- What a legal body says: for each known option, the last one of its type (RFC 7761, 4.9.2).
use Rattle.std.specs.Prelude.{ℕ, ◌%◌, nat_le, List, [], drop}
use Rattle.std.specs.Option.{option_map, unwrap_or}
use Rattle.byteorder.specs.Endian.{big_number}
use Rattle.pim_addr.specs.declared.family.AddressFamily.{AddressFamily}
use Rattle.pim_hello.specs.Hello.{Delays, Parameters, Hello}
use Rattle.pim_hello.specs.Options.{Part, parts, last_of}
use Rattle.pim_hello.specs.Row.{addresses_of}

-- The value of a LAN Prune Delay option: the T bit and 15 bits of Propagation_Delay, then 16 bits
-- of Override_Interval.
abbrev pub delays_of : List ℕ → Delays
delays_of value = record {
  t = nat_le 32768 (big_number 2 value);
  propagation = big_number 2 value % 32768;
  override_ms = big_number 2 (drop 2 value);
}

-- What the last options of type 1 (Holdtime), 2 (LAN Prune Delay), 19 (DR Priority) and 20
-- (Generation ID) say.
abbrev pub parameters_of : List Part → Parameters
parameters_of ps = record {
  holdtime = option_map (big_number 2) (last_of 1 ps);
  lan = option_map delays_of (last_of 2 ps);
  priority = option_map (big_number 4) (last_of 19 ps);
  generation = option_map (big_number 4) (last_of 20 ps);
}

-- The Hello that a legal body holds. Its addresses are those of the message's family in the last
-- Address List (type 24).
abbrev pub hello_of : AddressFamily → List ℕ → Hello
hello_of family body = record {
  parameters = parameters_of (parts body);
  addresses = addresses_of family (unwrap_or (last_of 24 (parts body)) []);
}
