-- How a Hello is written (RFC 7761, 4.9.2): the options that are present, in ascending order of
-- their types, each once.
use Rattle.std.specs.Prelude.{◌≡◌, ℕ, ◌+◌, ◌<◌, ◌^◌, List, [], ◌∷◌, ◌++◌, length, Option, Some, None, if◌then◌else◌}
use Rattle.std.specs.Option.{IfSome, option_map}
use Rattle.std.specs.List.{flat_map}
use Rattle.byteorder.specs.Endian.{big_bytes}
use Rattle.pim_addr.specs.declared.family.AddressFamily.{AddressFamily}
use Rattle.pim_addr.specs.Address.{address_length, family_byte}
use Rattle.pim_hello.specs.Hello.{Delays, Parameters, Hello}
use Rattle.pim_hello.specs.Faults.{faults}
use Rattle.pim_hello.specs.Value.{hello_of}

-- An option: two bytes of type, two of length, and the value.
abbrev pub option_spelled : ℕ → List ℕ → List ℕ
option_spelled type_code value = (big_bytes 2 type_code ++ big_bytes 2 (length value)) ++ value

-- An option that may be absent, and then has no bytes.
abbrev pub if_there : ℕ → Option (List ℕ) → List ℕ
if_there type_code None = []
if_there type_code (Some value) = option_spelled type_code value

-- The value of a LAN Prune Delay option: the T bit and 15 bits of Propagation_Delay, then 16 bits
-- of Override_Interval.
abbrev pub delays_spelled : Delays → List ℕ
delays_spelled d = big_bytes 2 ((if d.t then 32768 else 0) + d.propagation) ++ big_bytes 2 d.override_ms

-- All options except the Address List: Holdtime, LAN Prune Delay, DR Priority and Generation ID.
abbrev pub parameters_spelled : Parameters → List ℕ
parameters_spelled p =
    if_there 1 (option_map (big_bytes 2) p.holdtime)
    ++ (if_there 2 (option_map delays_spelled p.lan)
    ++ (if_there 19 (option_map (big_bytes 4) p.priority)
    ++ if_there 20 (option_map (big_bytes 4) p.generation)))

-- An encoded unicast address in the native encoding (RFC 7761, 4.9.1).
abbrev pub address_spelled : AddressFamily → List ℕ → List ℕ
address_spelled family address = family_byte family ∷ 0 ∷ address

-- Encoded unicast addresses, one after the other.
abbrev pub row_spelled : AddressFamily → List (List ℕ) → List ℕ
row_spelled family addresses = flat_map (address_spelled family) addresses

-- The value of the Address List option, which is absent if there is no address.
abbrev pub row_there : AddressFamily → List (List ℕ) → Option (List ℕ)
row_there family [] = None
row_there family (address ∷ others) = Some (row_spelled family (address ∷ others))

-- The body of a Hello, as it is written.
abbrev pub spelling_of : AddressFamily → Hello → List ℕ
spelling_of family hello = parameters_spelled hello.parameters ++ if_there 24 (row_there family hello.addresses)

-- ---- the Hellos that can be written

-- Each address has the length of the family.
unfoldable pub AreAddresses : AddressFamily → List (List ℕ) → Type 0
AreAddresses family [] = Unit {0}
AreAddresses family (address ∷ others) = (length address ≡ address_length family) × AreAddresses family others

-- Each number fits into the bits of its option.
pub record ParametersFit (p : Parameters) : Type 0 where
  pub holdtime : IfSome p.holdtime (λ n. n < 2 ^ 16)
  pub lan : IfSome p.lan (λ d. (d.propagation < 2 ^ 15) × (d.override_ms < 2 ^ 16))
  pub priority : IfSome p.priority (λ n. n < 2 ^ 32)
  pub generation : IfSome p.generation (λ n. n < 2 ^ 32)

-- The Hello can be written: its numbers fit into their options, and so do its addresses, each of
-- the family's length.
pub record Fits (family : AddressFamily) (hello : Hello) : Type 0 where
  pub parameters : ParametersFit hello.parameters
  pub addresses : AreAddresses family hello.addresses
  pub row : length (row_spelled family hello.addresses) < 2 ^ 16

-- What is written is read: it has no fault and gives the same Hello.
abbrev pub ReadsBack : AddressFamily → Type 0
ReadsBack family = (hello : Hello) → Fits family hello → (faults (spelling_of family hello) ≡ []) ×
    (hello_of family (spelling_of family hello) ≡ hello)
