-- The names of the files in which records stand. Lines have them where a port has several files.
use Rattle.std.specs.Prelude.{ℕ, ◌==◌, nat_lt, if◌then◌else◌, List, [], ◌∷◌, ◌++◌, Option, None, Some}
use Rattle.std.specs.Prelude.{slice_index_or, codes, decimal}
use Rattle.std.specs.List.{flat_map}
use Rattle.pim_capture.specs.declared.incomplete.RecordPlace.{RecordPlace}
use Rattle.pim_lines.specs.Hex.{hex_of}

-- ---- names in a JSON string

-- A byte of a name as it stands in a JSON string (RFC 8259, 7).
abbrev pub escape : ℕ → List ℕ
escape byte = if byte == 34 then codes "\\\"" else if byte == 92 then codes "\\\\"
    else if nat_lt byte 32 then codes "\\u00" ++ hex_of byte else byte ∷ []

-- A name as it stands there.
abbrev pub escaped : List ℕ → List ℕ
escaped name = flat_map escape name

-- ---- the file of a record

-- The names of the files of a port, of those of all ports. There are none where the port has one
-- file, or there is no port.
abbrev pub files_of : List (List (List ℕ)) → Option ℕ → List (List ℕ)
files_of files None = []
files_of files (Some port) = slice_index_or files port []

-- The name of the file of a record, of those of its port; empty where the port has one file.
abbrev pub file_of : List (List ℕ) → RecordPlace → List ℕ
file_of files place = slice_index_or files place.file []

-- A record in text: `FILE#N`, or `#N` where its port has one file.
abbrev pub frame_text : List (List ℕ) → RecordPlace → List ℕ
frame_text files place = file_of files place ++ codes "#" ++ decimal place.«record»

-- This text where the port has several files, otherwise nothing.
abbrev pub if_several : List (List ℕ) → List ℕ → List ℕ
if_several [] text = []
if_several (one ∷ others) text = text

-- The name of the file of a record as a member of a JSON object; nothing where its port has one file.
-- `front` is what precedes the name.
abbrev pub file_json : List ℕ → List (List ℕ) → RecordPlace → List ℕ
file_json front files place =
    if_several files front ++ (file_of files place ++ if_several files (codes "\""))

-- A record in JSON: its number, and its file in a member `file`.
abbrev pub frame_json : List (List ℕ) → RecordPlace → List ℕ
frame_json files place = decimal place.«record» ++ file_json (codes ",\"file\":\"") files place
