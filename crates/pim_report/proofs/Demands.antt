-- The texts of a group's star and of its sources.
use Rattle.pim_report.proofs.Words.{◌≡◌, ◌++◌, ℕ, Bool, true, List, Option, None, Some, refl, flat_map, AddressFamily}
use Rattle.pim_report.proofs.Words.{RouteTable, GroupForm, star_via, starred_text, star_text, source_line, group_text}
use Rattle.std.specs.Option.{is_some}
use Rattle.pim_form.specs.Rows.{exceptions_of}

module _ (family : AddressFamily) (shows_via : Bool) (routes : RouteTable) where
  -- the text of the star that a group has
  pub star_is : (group given : List ℕ) (demanded : Option (List ℕ)) (exceptions : List (List ℕ)) (star : Option (List (List ℕ))) → is_some star ≡ true
      → given ≡ group → demanded ≡ star_via family routes given → exceptions ≡ exceptions_of star
      → starred_text family shows_via given demanded exceptions ≡ star_text family shows_via routes group star
  star_is group given demanded exceptions None is same via seen = absurd cc
  star_is group given demanded exceptions (Some reported) is same via seen = rw (via, same, seen) refl

  -- the text of a group's star and of its sources
  pub group_is : (form : GroupForm) (given : List ℕ) (sources : List (List ℕ)) → given ≡ form.group → sources ≡ form.sources
      → star_text family shows_via routes form.group form.star ++ flat_map (source_line family shows_via routes given) sources ≡ group_text family shows_via routes form
  group_is form given sources same seen = rw (same, seen) refl
