-- A Join(*,G) that comes again within a message, and the (S,G,rpt) machines that it leaves
-- unchanged (RFC 7761, 4.5.3). These definitions serve private steps alone.
use Rattle.std.specs.Prelude.{◌≡◌, ℕ, Bool, true, false, List, Option}
use Rattle.std.specs.List.{list_any}
use Rattle.pim_jp.specs.declared.entry.Entry.{Entry}
use Rattle.pim_jp.specs.declared.entry.Entry.TheVariants as entry
use Rattle.pim_down.specs.declared.machines.key.What.TheVariants.{Rpt}
use Rattle.pim_down.specs.declared.machines.key.Key.{Key}
use Rattle.pim_down.specs.declared.machines.machine.Machine.{Machine}
use Rattle.pim_down.specs.declared.machines.machine.Record.{Record}
use Rattle.pim_down.specs.Key.{same_key}
use Rattle.pim_down.specs.Tables.{on_star_join}
use Rattle.pim_down.specs.Records.{machine_at}
use Rattle.pim_down.specs.Hearing.{is_rpt_of}

-- A Join(*,G) leaves the (S,G,rpt) machine unchanged.
abbrev pub Stays : Option Machine → Type 0
Stays held = on_star_join held ≡ held

-- A Join(*,G) leaves the (S,G,rpt) machines of the group on the port unchanged, except at the keys
-- of the test `but`.
abbrev pub StayBut : ℕ → List ℕ → (Key (List ℕ) → Bool) → List (Record (List ℕ)) → Type 0
StayBut port group but records =
    (key : Key (List ℕ)) → is_rpt_of port group key ≡ true → but key ≡ false → Stays (machine_at key records)

-- A Join(*,G) leaves all (S,G,rpt) machines of the group on the port unchanged.
abbrev pub AllStay : ℕ → List ℕ → List (Record (List ℕ)) → Type 0
AllStay port group records = StayBut port group (λ key. false) records

-- The key of the (S,G,rpt) machine of a source.
abbrev pub rpt_key : ℕ → List ℕ → List ℕ → Key (List ℕ)
rpt_key port group source = record { port = port; group = group; what = Rpt source }

-- In a pruned list of the group, this entry is a Prune(S,G,rpt) of the key's machine.
abbrev pub is_prune_of : ℕ → List ℕ → Key (List ℕ) → Entry (List ℕ) → Bool
is_prune_of port group key (entry.Star rp) = false
is_prune_of port group key (entry.Source source) = false
is_prune_of port group key (entry.Rpt source) = same_key (rpt_key port group source) key

-- A pruned list of the group has a Prune(S,G,rpt) of the key's machine.
abbrev pub is_pruned_by : ℕ → List ℕ → List (Entry (List ℕ)) → Key (List ℕ) → Bool
is_pruned_by port group entries key = list_any (is_prune_of port group key) entries
