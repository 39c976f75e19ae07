-- What contracts of private functions see of what is kept.
use Rattle.std.specs.Prelude.{◌≡◌, ℕ, false, List, map, Option, None, Some, option_map}
use Rattle.pim_addr.specs.declared.family.AddressFamily.{AddressFamily}
use Rattle.pim_addr.specs.declared.family.AddressFamily.TheVariants as family
use Rattle.pim_addr.specs.Families.{is_same}
use Rattle.pim_answers.specs.declared.kept.StarRp.{StarRp}
use Rattle.pim_answers.specs.declared.kept.KeptForm.{KeptForm}
use Rattle.pim_answers.specs.declared.kept.AnyForm.{AnyForm}
use Rattle.pim_answers.specs.declared.kept.AnyForm.TheVariants.{Ipv4, Ipv6}
use Rattle.pim_answers.specs.declared.kept.KeptEntry.{KeptEntry}
use Rattle.pim_answers.specs.declared.kept.FoundForm.{FoundForm}
use Rattle.pim_answers.specs.declared.kept.FoundForm.TheVariants.{Unknown, Other, Form}
use Rattle.pim_answers.specs.declared.kept.KeptForms.{KeptForms}
use Rattle.pim_answers.specs.Kept.{Kept}

-- The group of a star, and its RP.
abbrev pub star_seen : {A : Type 0} → (A → List ℕ) → StarRp A → List ℕ × Option (List ℕ)
star_seen bytes_of star = (bytes_of star.group, option_map bytes_of star.rp)

-- A form of a family, under a name.
abbrev pub form_seen : {F A N : Type 0} → AddressFamily → (A → List ℕ) → List ℕ → KeptForm F A N → Kept
form_seen family bytes_of name kept =
    record { name = name; family = family; form = kept.form; stars = map (star_seen bytes_of) kept.stars.items }

-- A form of either family, under a name.
abbrev pub any_seen : List ℕ → AnyForm → Kept
any_seen name (Ipv4 kept) = form_seen family.Ipv4 (λ (a : List ℕ). a) name kept
any_seen name (Ipv6 kept) = form_seen family.Ipv6 (λ (a : List ℕ). a) name kept

-- What is kept under a name.
abbrev pub entry_seen : KeptEntry → Kept
entry_seen entry = any_seen entry.name.items entry.form

-- All that is kept.
abbrev pub store_seen : KeptForms → List Kept
store_seen store = map entry_seen store.entries.items

-- What is found under a name is this, which is kept, if anything is.
abbrev pub IsFound : {F A N : Type 0} → AddressFamily → (A → List ℕ) → List ℕ → FoundForm F A N → Option Kept → Type 0
IsFound family bytes_of name Unknown kept = kept ≡ None
IsFound family bytes_of name Other kept = (known : Kept) × (kept ≡ Some known) × (is_same family known.family ≡ false)
IsFound family bytes_of name (Form form) kept = kept ≡ Some (form_seen family bytes_of name form.now)
