-- The canonical Join/Prune messages of a normal form (RFC 7761, 4.9.5).
use Rattle.std.specs.Prelude.{◌≡◌, ℕ, ◌≤◌, ◌<◌, ◌^◌, ◌≢◌, false, List, [], ◌∷◌, ◌++◌, Option, None, Some, map}
use Rattle.std.specs.List.{AllByRecursion}
use Rattle.pim_addr.specs.declared.family.AddressFamily.{AddressFamily}
use Rattle.pim_frame.specs.Frame.{all_routers}
use Rattle.pim_frame.specs.Seal.{IsSealed}
use Rattle.pim_frame.specs.declared.frame.MessageType.TheVariants.{JoinPrune}
use Rattle.pim_jp.specs.declared.entry.Entry.{Entry}
use Rattle.pim_jp.specs.declared.entry.Entry.TheVariants.{Star, Source, Rpt}
use Rattle.pim_jp.specs.Message.{GroupSet, Message}
use Rattle.pim_jp.specs.Canonical.{canonical}
use Rattle.pim_addr.specs.Address.{IsSourceAddress}
use Rattle.pim_form.specs.NormalForm.{GroupForm, AreAscending, groups_of, is_empty}
use Rattle.pim_form.specs.Units.{WantUnit, units_of}
use Rattle.pim_form.specs.Packing.{IsPacking}

-- The parameters of a writer of Join/Prune messages.
pub record Writing : Type 0 where
  -- the upstream neighbour that the messages are for
  pub upstream : List ℕ
  -- the source address of the packets
  pub own : List ℕ
  -- the Holdtime of the messages, in seconds
  pub holdtime : ℕ
  -- the most bytes of a message, PIM header included
  pub budget : ℕ

-- The parameters are in their ranges: two different valid source addresses, and a holdtime longer
-- than any override interval.
pub record IsWriting (family : AddressFamily) (writing : Writing) : Type 0 where
  pub upstream : IsSourceAddress family writing.upstream
  pub own : IsSourceAddress family writing.own
  pub apart : writing.own ≢ writing.upstream
  pub long : 99 ≤ writing.holdtime
  pub short : writing.holdtime < 2 ^ 16
  pub least : 70 ≤ writing.budget
  pub most : writing.budget ≤ 65000

-- ---- the RPs of groups

-- There is an RP, and it is a valid source address.
abbrev pub IsRp : AddressFamily → Option (List ℕ) → Type 0
IsRp family None = ⊥
IsRp family (Some rp) = IsSourceAddress family rp

-- If the group has a star, it has an RP that is a valid source address.
abbrev pub IsRpOf : AddressFamily → Option (List ℕ) → Option (List (List ℕ)) → Type 0
IsRpOf family rp None = Unit {0}
IsRpOf family rp (Some exceptions) = IsRp family rp

-- Each group with a star has an RP that is a valid source address.
abbrev pub HaveRps : AddressFamily → (List ℕ → Option (List ℕ)) → List GroupForm → Type 0
HaveRps family rps form = AllByRecursion (λ this. IsRpOf family (rps this.group) this.star) form

-- ---- the message of a part of a form (RFC 7761, 4.9.5)

-- The (*,G) entry of a group with a star, which names the RP.
abbrev pub star_entries : Option (List ℕ) → Option (List (List ℕ)) → List (Entry (List ℕ))
star_entries rp None = []
star_entries None (Some exceptions) = []
star_entries (Some rp) (Some exceptions) = Star rp ∷ []

-- An (S,G,rpt) entry for each exception of a star.
abbrev pub excepted_entries : Option (List (List ℕ)) → List (Entry (List ℕ))
excepted_entries None = []
excepted_entries (Some exceptions) = map (λ source. Rpt source) exceptions

-- The group set that requests a group: Join(*,G), then Join(S,G) for each source, and
-- Prune(S,G,rpt) for each exception.
abbrev pub written_set : (List ℕ → Option (List ℕ)) → GroupForm → GroupSet
written_set rps this = record {
  group = this.group;
  joined = star_entries (rps this.group) this.star ++ map (λ source. Source source) this.sources;
  pruned = excepted_entries this.star;
}

-- The Join/Prune message that requests a part of a form from the writer's upstream neighbour, with
-- one group set for each group.
abbrev pub written_message : Writing → (List ℕ → Option (List ℕ)) → List GroupForm → Message
written_message writing rps part = record {
  upstream = writing.upstream;
  holdtime = writing.holdtime;
  sets = map (written_set rps) part;
}

-- The bytes are the message of a run. The run is the units of a part of a form, and the bytes are
-- the canonical message of that part, sealed to ALL-PIM-ROUTERS.
pub record CarriesRun (family : AddressFamily) (writing : Writing) (rps : List ℕ → Option (List ℕ)) (run : List WantUnit) (bytes : List ℕ)
    : Type 0 where
  pub part : List GroupForm
  pub units : units_of part ≡ run
  pub ascending : AreAscending (groups_of part)
  pub some : AllByRecursion (λ this. is_empty this.star this.sources ≡ false) part
  pub sealed : IsSealed family writing.own (all_routers family) JoinPrune
      (canonical family (written_message writing rps part)) bytes

-- The messages are those of the runs, one for each run, in order.
abbrev pub CarryRuns : AddressFamily → Writing → (List ℕ → Option (List ℕ)) → List (List WantUnit) → List (List ℕ) → Type 0
CarryRuns family writing rps [] [] = Unit {0}
CarryRuns family writing rps [] (bytes ∷ messages) = ⊥
CarryRuns family writing rps (run ∷ runs) [] = ⊥
CarryRuns family writing rps (run ∷ runs) (bytes ∷ messages) =
    CarriesRun family writing rps run bytes × CarryRuns family writing rps runs messages

-- The messages are canonical messages of the form: they are those of the runs of a packing of its
-- units. A form has at most one list of them by a writer.
pub record AreCanonical (family : AddressFamily) (writing : Writing) (rps : List ℕ → Option (List ℕ)) (form : List GroupForm)
    (messages : List (List ℕ)) : Type 0 where
  pub runs : List (List WantUnit)
  pub packing : IsPacking family writing.budget (units_of form) runs
  pub reported : CarryRuns family writing rps runs messages
