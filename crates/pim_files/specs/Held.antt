-- What is known of an opener of files in memory.
use Rattle.std.specs.Prelude.{ℕ, List, [], ◌∷◌, map, cond, bytes_eq, string_bytes, Option, None, Some}
use Rattle.pim_files.specs.declared.held.HeldFile.{HeldFile}
use Rattle.pim_files.specs.declared.held.HeldFiles.{HeldFiles}
use Rattle.pim_files.specs.declared.held.HeldReader.{HeldReader}
use Rattle.pim_files.specs.declared.held.HeldReader.TheVariants as reader
use Rattle.pim_files.specs.declared.opener.FileCause.TheVariants.{Missing}
use Rattle.pim_files.specs.Files.{Known, no_bytes}
use Rattle.pim_device.specs.Scripted.{feed_bytes, feed_failures}

-- The bytes of the first file of this name.
abbrev pub held_content : List HeldFile → List ℕ → Option (List ℕ)
held_content [] name = None
held_content (file ∷ files) name = cond (bytes_eq file.name.now name) (Some file.bytes.now) (held_content files name)

-- The files of the opener.
abbrev pub held_files : HeldFiles → List HeldFile
held_files opener = opener.files.now

-- The names that it was asked for, if it could note all of them.
abbrev pub held_requested : HeldFiles → Option (List (List ℕ))
held_requested opener = cond opener.is_whole (Some (map string_bytes opener.requested.items)) None

-- What is known of it: a name without a file is the one cause that it has.
abbrev pub held_known : HeldFiles → Known
held_known opener = record {
  files = Some (record { contents = held_content (held_files opener); causes = λ name. Missing });
  requested = held_requested opener;
}

-- The bytes that the reader has left to give.
abbrev pub reader_bytes : HeldReader → List ℕ
reader_bytes (reader.Open feed) = feed_bytes feed
reader_bytes (reader.Missing count) = no_bytes

-- The number of its reads that failed.
abbrev pub reader_failures : HeldReader → ℕ
reader_failures (reader.Open feed) = feed_failures feed
reader_failures (reader.Missing count) = count
