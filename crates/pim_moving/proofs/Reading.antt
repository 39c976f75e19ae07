-- What is read of the messages of a change.
use Rattle.std.proofs.Common.{◌≡◌, ◌∙◌, ℕ, zero, suc, ◌<◌, Bool, true, false, ◌&&◌, not, if◌then◌else◌, List, [], ◌∷◌, ◌++◌, map, get_or, length, Option, refl, ap, arith}
use Rattle.std.specs.List.{AllByRecursion, flat_map}
use Rattle.pim_addr.specs.declared.family.AddressFamily.{AddressFamily}
use Rattle.pim_addr.specs.Address.{IsGroupAddress}
use Rattle.pim_jp.specs.declared.entry.Entry.{Entry}
use Rattle.pim_jp.specs.declared.entry.Entry.TheVariants as entry
use Rattle.pim_jp.specs.Message.{GroupSet, Message, message_of}
use Rattle.pim_down.specs.declared.machines.key.What.TheVariants.{Star}
use Rattle.pim_down.specs.Hearing.{event, is_known, entry_events, list_events, set_events, events_of}
use Rattle.pim_form.specs.Laws.{IsReadAs}
use Rattle.pim_form.specs.Messages.{Writing}
use Rattle.pim_change.specs.Change.{ChangeUnit}
use Rattle.pim_change.specs.Written.{written_message}
use Rattle.pim_change.specs.Laws.{AreReadAsRuns}
use Rattle.pim_mirror.specs.CanonicalExchange.{body_of, message_in, events_at}
use Rattle.pim_settling.specs.Runs.{AreEventsOf}
use Rattle.pim_moving.proofs.Groups.{OfGroup, SetHasGroup, sets_are}

read_message : (family : AddressFamily) (source bytes : List ℕ) (said : Message) → IsReadAs family source bytes said → message_in family bytes ≡ said
read_message family source bytes said is = ap (λ c. message_of family (body_of c)) is.holds ∙ is.reads

-- the message of this number, by this writer
pub record IsMessageAt (family : AddressFamily) (writing : Writing) (rps : List ℕ → Option (List ℕ)) (messages : List (List ℕ)) (i : ℕ) : Type 0 where
  pub said : Message
  pub read : IsReadAs family writing.own (get_or messages i []) said
  pub upstream : said.upstream ≡ writing.upstream
  pub holdtime : said.holdtime ≡ writing.holdtime
  pub events : events_at rps (map (message_in family) messages) i ≡ events_of rps said
  pub groups : AllByRecursion (SetHasGroup family) said.sets

module _ (family : AddressFamily) (writing : Writing) (rps : List ℕ → Option (List ℕ)) where
  pub message_at : (messages : List (List ℕ)) (runs : List (List ChangeUnit)) (i : ℕ) → AreReadAsRuns family writing rps runs messages → AllByRecursion (AllByRecursion (OfGroup family)) runs → i < length messages → IsMessageAt family writing rps messages i
  unfolding AreReadAsRuns
  message_at [] runs i are groups within = absurd (omega (arith, within))
  message_at (bytes ∷ messages) [] i are groups within = absurd are
  message_at (bytes ∷ messages) (run ∷ runs) zero are groups within = record {
    said = written_message writing rps run;
    read = are.0;
    upstream = refl;
    holdtime = refl;
    events = ap (events_of rps) (read_message family writing.own bytes (written_message writing rps run) are.0);
    groups = sets_are family rps run groups.0;
  }
  message_at (bytes ∷ messages) (run ∷ runs) (suc i) are groups within =
      let later = message_at messages runs i are.1 groups.1 (omega (arith, within)) in
      record { said = later.said; read = later.read; upstream = later.upstream; holdtime = later.holdtime; events = later.events; groups = later.groups }

  pub events_are : (messages : List (List ℕ)) → AreEventsOf family writing.own rps messages (events_at rps (map (message_in family) messages))
  unfolding AreEventsOf
  events_are [] = λ number. refl
  events_are (bytes ∷ messages) = (λ said is. ap (events_of rps) (read_message family writing.own bytes said is), events_are messages)

-- ---- the same events by the same RPs

flat_same : {A B : Type 0} (f g : A → List B) (P : A → Type 0) (items : List A) → AllByRecursion P items → ((item : A) → P item → f item ≡ g item) → flat_map f items ≡ flat_map g items
flat_same f g P [] all same = refl
flat_same f g P (item ∷ items) all same = ap (λ l. l ++ flat_map f items) (same item all.0) ∙ ap (λ l. g item ++ l) (flat_same f g P items all.1 same)

module _ (family : AddressFamily) (known other : List ℕ → Option (List ℕ)) (same : (group : List ℕ) → IsGroupAddress family group → known group ≡ other group) where
  entry_same : (joins : Bool) (group : List ℕ) → IsGroupAddress family group → (this : Entry (List ℕ)) → entry_events known joins group this ≡ entry_events other joins group this
  entry_same joins group is (entry.Star rp) = ap (λ rps. if joins && not (is_known rps rp) then [] else event joins group Star) (same group is)
  entry_same joins group is (entry.Source source) = refl
  entry_same joins group is (entry.Rpt source) = refl

  list_same : (joins : Bool) (group : List ℕ) → IsGroupAddress family group → (entries : List (Entry (List ℕ))) → list_events known joins group entries ≡ list_events other joins group entries
  list_same joins group is [] = refl
  list_same joins group is (this ∷ entries) =
      ap (λ l. l ++ list_events known joins group entries) (entry_same joins group is this) ∙ ap (λ l. entry_events other joins group this ++ l) (list_same joins group is entries)

  set_same : (set : GroupSet) → SetHasGroup family set → set_events known set ≡ set_events other set
  set_same set is =
      ap (λ l. l ++ list_events known false set.group set.pruned) (list_same true set.group is set.joined) ∙ ap (λ l. list_events other true set.group set.joined ++ l) (list_same false set.group is set.pruned)

  pub events_same : (said : Message) → AllByRecursion (SetHasGroup family) said.sets → events_of known said ≡ events_of other said
  events_same said are = flat_same (set_events known) (set_events other) (SetHasGroup family) said.sets are set_same
