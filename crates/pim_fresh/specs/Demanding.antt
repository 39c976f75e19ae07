-- What a canonical Join/Prune message asks for (RFC 7761, 4.9.5): of each of its groups the star
-- with its exceptions, if it has one, and sources.
use Rattle.std.specs.Prelude.{◌≡◌, ℕ, List, [], ◌∷◌, ◌++◌, Option, None, Some, map, nat_eq}
use Rattle.std.specs.List.{AllByRecursion, IsDistinct}
use Rattle.std.specs.Cmp.Lexicographic.{pointwise}
use Rattle.pim_jp.specs.declared.entry.Entry.{Entry}
use Rattle.pim_jp.specs.declared.entry.Entry.TheVariants.{Star, Source, Rpt}
use Rattle.pim_jp.specs.Message.{GroupSet, Message}

-- No address is in the list twice.
abbrev pub AreDifferent : List (List ℕ) → Type 0
AreDifferent addresses = IsDistinct (pointwise nat_eq) addresses

-- The (*,G) entry of a star, which names this RP. A star is the list of its exceptions, `None` is
-- no star.
abbrev pub star_entries : List ℕ → Option (List (List ℕ)) → List (Entry (List ℕ))
star_entries rp None = []
star_entries rp (Some exceptions) = Star rp ∷ []

-- The exceptions of a star.
abbrev pub excepted : Option (List (List ℕ)) → List (List ℕ)
excepted None = []
excepted (Some exceptions) = exceptions

-- If there is a star, the RP is the one that is known of the group.
abbrev pub IsKnownRp : Option (List ℕ) → List ℕ → Option (List (List ℕ)) → Type 0
IsKnownRp known rp None = Unit {0}
IsKnownRp known rp (Some exceptions) = known ≡ Some rp

-- The set joins a star, or none, and sources, and prunes the exceptions of the star. It names no
-- source and no exception twice.
pub record Demands (known : List ℕ → Option (List ℕ)) (set : GroupSet) : Type 0 where
  pub rp : List ℕ
  pub star : Option (List (List ℕ))
  pub sources : List (List ℕ)
  pub joined : set.joined ≡ star_entries rp star ++ map (λ source. Source source) sources
  pub pruned : set.pruned ≡ map (λ source. Rpt source) (excepted star)
  pub known_rp : IsKnownRp (known set.group) rp star
  pub different_sources : AreDifferent sources
  pub different_exceptions : AreDifferent (excepted star)

-- Each set of the message asks for traffic so, and no group has two sets.
pub record IsDemanding (known : List ℕ → Option (List ℕ)) (message : Message) : Type 0 where
  pub sets : AllByRecursion (Demands known) message.sets
  pub different_groups : AreDifferent (map (λ (set : GroupSet). set.group) message.sets)
