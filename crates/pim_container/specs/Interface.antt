-- An interface of a pcapng section (draft-ietf-opsawg-pcapng, 4.2): its link, and of its options
-- the name (if_name), the resolution (if_tsresol) and the offset (if_tsoffset) of its times.
use Rattle.std.specs.Prelude.{◌≤◌, ℕ, zero, suc, ◌+◌, ◌-◌, ◌*◌, ◌/◌, ◌^◌, Bool, ◌&&◌, ◌||◌, ◌==◌, not, List, length, drop}
use Rattle.std.specs.Prelude.{nat_lt, slice_index, slice_range, Option, None, Some, if◌then◌else◌}
use Rattle.pim_container.specs.declared.link.BlockEndianness.{BlockEndianness}
use Rattle.pim_container.specs.declared.interface.Settings.{Settings}
use Rattle.pim_container.specs.declared.interface.Interface.{Interface}
use Rattle.pim_capture.specs.Names.{name_of}
use Rattle.pim_container.specs.Link.{number, link_of}
use Rattle.pim_container.specs.EventSeen.{latest_moment}

-- ---- options: a code and a length of two bytes each, the value, and padding to four bytes

-- A length with its padding.
abbrev pub padded : ℕ → ℕ
padded size = (size + 3) / 4 * 4

abbrev pub option_code : BlockEndianness → ℕ → List ℕ → ℕ
option_code order at bytes = number order 2 (drop at bytes)

abbrev pub option_size : BlockEndianness → ℕ → List ℕ → ℕ
option_size order at bytes = number order 2 (drop (at + 2) bytes)

-- The place after the option at the place `at`.
abbrev pub option_end : BlockEndianness → ℕ → List ℕ → ℕ
option_end order at bytes = at + 4 + padded (option_size order at bytes)

-- What is known before the first option: times count microseconds since 1970, and the name is
-- empty.
abbrev pub no_settings : Settings
no_settings = record { resolution = 6; offset = 0; name_at = 0; name_end = 0 }

-- The settings after the option at the place `at`. One with another code or an unknown length has
-- no effect; a later option replaces an earlier one.
abbrev pub settings_with : BlockEndianness → Settings → ℕ → List ℕ → Settings
settings_with order settings at bytes =
    if option_code order at bytes == 2
    then record {
      resolution = settings.resolution;
      offset = settings.offset;
      name_at = at + 4;
      name_end = at + 4 + option_size order at bytes;
    }
    else (if option_code order at bytes == 9 && option_size order at bytes == 1
    then record {
      resolution = slice_index bytes (at + 4);
      offset = settings.offset;
      name_at = settings.name_at;
      name_end = settings.name_end;
    }
    else (if option_code order at bytes == 14 && option_size order at bytes == 8
    then record {
      resolution = settings.resolution;
      offset = number order 8 (drop (at + 4) bytes);
      name_at = settings.name_at;
      name_end = settings.name_end;
    }
    else settings))

-- The settings after the options from the place `at` on. Code 0 or the end of the bytes ends them.
-- `None` if one is cut. At most `left` options are read; the bytes have no more.
unfoldable pub settings_from : ℕ → BlockEndianness → Settings → ℕ → List ℕ → Option Settings
settings_from zero order settings at bytes = Some settings
settings_from (suc left) order settings at bytes =
    if nat_lt (length bytes) (at + 4) || option_code order at bytes == 0 then Some settings
    else (if nat_lt (length bytes) (option_end order at bytes) then None
    else settings_from left order (settings_with order settings at bytes) (option_end order at bytes) bytes)

-- The settings of an interface description block without its last length. Its options begin at 16.
abbrev pub settings_of : BlockEndianness → List ℕ → Option Settings
settings_of order bytes = settings_from (length bytes) order no_settings 16 bytes

-- The interface of an interface description block with these settings, where this number of bytes
-- describes it and those before it. A text that is no name names nothing.
abbrev pub interface_of : BlockEndianness → List ℕ → Settings → ℕ → Interface
interface_of order block settings described = record {
  link = link_of (number order 2 (drop 8 block));
  resolution = settings.resolution;
  offset = settings.offset;
  name = name_of (slice_range block settings.name_at settings.name_end);
  described = described;
}

-- The name of these settings lies within these bytes.
abbrev pub HasName : List ℕ → Settings → Type 0
HasName bytes settings = (settings.name_at ≤ settings.name_end) × (settings.name_end ≤ length bytes)

-- ---- times

-- The number of units of a time stamp in a second, by if_tsresol: a power of ten, or of two where
-- the high bit is set.
abbrev pub units_of : ℕ → ℕ
units_of resolution = if nat_lt resolution 128 then 10 ^ resolution else 2 ^ (resolution - 128)

-- A time stamp in milliseconds, rounded down.
abbrev pub stamp_millis : ℕ → ℕ → ℕ
stamp_millis resolution stamp = stamp * 1000 / units_of resolution

-- The offset is negative: 64 bits in two's complement, in seconds.
abbrev pub is_back : ℕ → Bool
is_back offset = not (nat_lt offset (2 ^ 63))

-- The milliseconds by which a negative offset moves times back.
abbrev pub back_millis : ℕ → ℕ
back_millis offset = (2 ^ 64 - offset) * 1000

-- A time of this stamp and offset, in milliseconds since 1970. `None` if it is before 1970 or after
-- the latest moment.
abbrev pub moved : ℕ → ℕ → Option ℕ
moved millis offset =
    if is_back offset
    then (if nat_lt millis (back_millis offset) || nat_lt latest_moment (millis - back_millis offset) then None
    else Some (millis - back_millis offset))
    else (if nat_lt latest_moment (millis + offset * 1000) then None else Some (millis + offset * 1000))

-- The time of a stamp on an interface.
abbrev pub moment_of : Interface → ℕ → Option ℕ
moment_of interface stamp = moved (stamp_millis interface.resolution stamp) interface.offset
