-- What was taken of a capture, counted record by record. A record has a place: the number of its
-- file, from 0, and its number in this file, from 1.
use Rattle.std.specs.Prelude.{ℕ, ◌+◌, ◌-◌, min, nat_lt, Bool, true, false, not, replicate, List, [], ◌∷◌, slice_set, slice_index_or}
use Rattle.std.specs.Prelude.{Option, None, Some}
use Rattle.std.specs.Option.{option_map}
use Rattle.pim_addr.specs.declared.family.AddressFamily.{AddressFamily}
use Rattle.pim_capture.specs.declared.event.Why.{Why}
use Rattle.pim_capture.specs.declared.event.Why.TheVariants.{Fragment, Cut, NotChosen, CutShort, NextFile, OfLink, Incomplete}
use Rattle.pim_capture.specs.Capture.{EventSeen, packet, skipped, ended}
use Rattle.pim_capture.specs.Frame.{Datagram}
use Rattle.pim_merge.specs.declared.census.Census.{Census}
use Rattle.pim_merge.specs.Census.{no_names, census_after}
use Rattle.pim_merge.specs.Slots.{added, fits, same_place}
use Rattle.pim_merge.specs.Unchosen.{unchosen_after}
use Rattle.pim_capture.specs.declared.link.Link.{Link}
use Rattle.pim_capture.specs.declared.incomplete.RecordPlace.{RecordPlace}
use Rattle.pim_merge.specs.declared.tally.Tally.{Tally}
use Rattle.pim_merge.specs.Merge.{Taken, event_time}

-- That of a capture of which nothing was taken. It has no census.
abbrev pub no_tally : Tally
no_tally = record {
  file = 0;
  records = 0;
  fragments = 0;
  incomplete = None;
  cut_frames = 0;
  cut_short = replicate 16 None;
  more_cut_short = 0;
  unchosen = None;
  last = None;
  ran_back = None;
  jumped = None;
  census = None;
}

-- The tally with a census of messages of this family for a router with this address, in which nothing
-- was counted.
abbrev pub census_begun : AddressFamily → List ℕ → Tally → Tally
census_begun family own tally = record tally { census = Some (no_names family own) }

-- One more. The count stops at 2^64 - 1.
abbrev pub one_more : ℕ → ℕ
one_more count = min (count + 1) 18446744073709551615

-- The count after a record that it counts, or doesn't.
abbrev pub counted_if : Bool → ℕ → ℕ
counted_if true count = one_more count
counted_if false count = count

-- The place of the record that is taken next.
abbrev pub next_place : Tally → RecordPlace
next_place tally = record { file = tally.file; «record» = one_more tally.records }

-- The place of the first record of which something holds, after one more record at this place.
abbrev pub first_place : Option RecordPlace → Bool → RecordPlace → Option RecordPlace
first_place (Some first) holds place = Some first
first_place None true place = Some place
first_place None false place = None

-- The time is more than a second before the time before it.
abbrev pub runs_back : Option ℕ → Option ℕ → Bool
runs_back None time = false
runs_back (Some last) None = false
runs_back (Some last) (Some time) = nat_lt 1000 (last - time)

-- The time is more than a day after the time before it.
abbrev pub jumps : Option ℕ → Option ℕ → Bool
jumps None time = false
jumps (Some last) None = false
jumps (Some last) (Some time) = nat_lt 86400000 (time - last)

-- The time of the last record with a time, after a record of this time.
abbrev pub last_time : Option ℕ → Option ℕ → Option ℕ
last_time last None = last
last_time last (Some time) = Some time

abbrev pub is_fragment : Option Why → Bool
is_fragment (Some Fragment) = true
is_fragment why = false

abbrev pub is_cut_frame : Option Why → Bool
is_cut_frame (Some Cut) = true
is_cut_frame why = false

-- The tally after one more record of this time that is skipped for this reason, if there is one.
abbrev pub tally_by : Tally → Option Why → Option ℕ → Tally
tally_by tally why time = record {
  file = tally.file;
  records = one_more tally.records;
  fragments = counted_if (is_fragment why) tally.fragments;
  incomplete = tally.incomplete;
  cut_frames = counted_if (is_cut_frame why) tally.cut_frames;
  cut_short = tally.cut_short;
  more_cut_short = tally.more_cut_short;
  unchosen = tally.unchosen;
  last = last_time tally.last time;
  ran_back = first_place tally.ran_back (runs_back tally.last time) (next_place tally);
  jumped = first_place tally.jumped (jumps tally.last time) (next_place tally);
  census = tally.census;
}

-- The census after the message of a packet, if there is one.
abbrev pub census_with : Option Census → Datagram → Option Census
census_with census datagram = option_map (λ (census : Census). census_after census datagram) census

-- The tally whose census has the message of this packet, too, if it has a census.
abbrev pub tally_with : Tally → Datagram → Tally
tally_with tally datagram = record tally { census = census_with tally.census datagram }

-- The tally when the capture goes on with its next file: of that no record was taken.
abbrev pub in_next_file : Tally → Tally
in_next_file tally = record {
  file = one_more tally.file;
  records = 0;
  fragments = tally.fragments;
  incomplete = tally.incomplete;
  cut_frames = tally.cut_frames;
  cut_short = tally.cut_short;
  more_cut_short = tally.more_cut_short;
  unchosen = tally.unchosen;
  last = tally.last;
  ran_back = tally.ran_back;
  jumped = tally.jumped;
  census = tally.census;
}

-- The tally after one more record of this time that isn't chosen, with the link of its PIM packet, if
-- it has one.
abbrev pub tally_unchosen : Tally → Option Link → Option ℕ → Tally
tally_unchosen tally link time =
    tally_by (record tally { unchosen = unchosen_after tally.unchosen link }) (Some (NotChosen link)) time

-- The tally after one more record, inside which its file ends.
abbrev pub tally_cut_short : Tally → Tally
tally_cut_short tally = tally_by (record tally {
  cut_short = added same_place (next_place tally) tally.cut_short;
  more_cut_short = counted_if (not (fits same_place (next_place tally) tally.cut_short)) tally.more_cut_short;
}) (Some CutShort) None

-- The tally after one more result of this time that is skipped for this reason. The beginning of
-- the next file is no record, nor is the link of a packet or a report of incomplete packets.
abbrev pub tally_skipped : Tally → Why → Option ℕ → Tally
tally_skipped tally NextFile time = in_next_file tally
tally_skipped tally (Incomplete packets) time = record tally { incomplete = packets }
tally_skipped tally (OfLink link) time = tally
tally_skipped tally (NotChosen link) time = tally_unchosen tally link time
tally_skipped tally CutShort time = tally_cut_short tally
tally_skipped tally why time = tally_by tally (Some why) time

-- The tally after one more result of the capture. The end leaves it.
abbrev pub tally_after : Tally → EventSeen → Tally
tally_after tally (packet millis frame datagram) = tally_by (tally_with tally datagram) None (Some millis)
tally_after tally (skipped millis why) = tally_skipped tally why (event_time (skipped millis why))
tally_after tally ended = tally

-- The tally after a head is taken, if there is one.
abbrev pub tally_taken : Tally → Option EventSeen → Tally
tally_taken tally None = tally
tally_taken tally (Some reported) = tally_after tally reported

-- ---- the tallies of all captures

-- That of the capture with this number.
abbrev pub tally_at : ℕ → List Tally → Tally
tally_at number tallies = slice_index_or tallies number no_tally

-- The place of the record that this capture gives next.
abbrev pub place_next : ℕ → List Tally → RecordPlace
place_next capture tallies = next_place (tally_at capture tallies)

-- The tallies after this record of this capture.
abbrev pub tallies_with : ℕ → EventSeen → List Tally → List Tally
tallies_with capture reported tallies = slice_set tallies capture (tally_after (tally_at capture tallies) reported)

-- The tallies after these records.
unfoldable pub tallies_after : List Tally → List Taken → List Tally
tallies_after tallies [] = tallies
tallies_after tallies (first ∷ others) = tallies_after (tallies_with first.capture first.reported tallies) others
