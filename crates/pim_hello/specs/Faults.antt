-- The faults of a Hello body: those of all its options, also of one that a later option of its type
-- replaces.
use Rattle.std.specs.Prelude.{ℕ, Bool, ◌&&◌, ◌||◌, ◌==◌, not, List, [], ◌∷◌, ◌++◌, length, map}
use Rattle.std.specs.List.{flat_map}
use Rattle.pim_addr.specs.Faults.{fault_if}
use Rattle.pim_hello.specs.declared.fault.HelloKind.{HelloKind}
use Rattle.pim_hello.specs.declared.fault.HelloKind.TheVariants.{Short, OptionLength, Address}
use Rattle.pim_hello.specs.declared.fault.HelloFault.{HelloFault}
use Rattle.pim_hello.specs.Options.{Content, whole, partial, Part, parts}
use Rattle.pim_hello.specs.Row.{is_row}

-- The number of a kind. It orders the faults of one option.
abbrev pub number_of : HelloKind → ℕ
number_of Short = 1
number_of OptionLength = 2
number_of Address = 3

-- The option is of a type with one length (Holdtime 2, LAN Prune Delay, DR Priority and Generation
-- ID 4), and has another.
abbrev pub has_other_length : ℕ → List ℕ → Bool
has_other_length type_code value =
    (type_code == 1 && not (length value == 2))
    || ((type_code == 2 || type_code == 19 || type_code == 20) && not (length value == 4))

-- The kinds of fault at one option, in the order of their numbers.
abbrev pub kinds_at : Content → List HelloKind
kinds_at (whole type_code value) =
    fault_if (has_other_length type_code value) OptionLength ++ fault_if (type_code == 24 && not (is_row value)) Address
kinds_at partial = Short ∷ []

-- The faults of one option, each at the offset of the option.
abbrev pub part_faults : Part → List HelloFault
part_faults part = map (λ kind. record { at = part.at; kind = kind }) (kinds_at part.content)

-- The faults of these options, in the order of the options.
abbrev pub faults_of : List Part → List HelloFault
faults_of ps = flat_map part_faults ps

-- All faults of a body. It is legal if it has none.
abbrev pub faults : List ℕ → List HelloFault
faults body = faults_of (parts body)
