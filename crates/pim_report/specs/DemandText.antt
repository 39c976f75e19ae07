-- The lines of a demand in its normal form, group by group. If `shows_via` is set, each line has
-- the upstream neighbour to which the demand is sent.
use Rattle.std.specs.Prelude.{ℕ, Bool, true, false, List, [], ◌++◌, Option, None, Some, codes}
use Rattle.std.specs.List.{flat_map}
use Rattle.pim_addr.specs.declared.family.AddressFamily.{AddressFamily}
use Rattle.pim_addr.specs.Routes.{RouteTable, rp_of}
use Rattle.pim_addr.specs.Text.{address_text}
use Rattle.pim_down.specs.declared.machines.key.What.{What}
use Rattle.pim_down.specs.declared.machines.key.What.TheVariants.{Star, Source}
use Rattle.pim_form.specs.NormalForm.{GroupForm}
use Rattle.pim_form.specs.Toward.{via_of, star_rpf_neighbour}
use Rattle.pim_report.specs.EchoLine.{what_words}
use Rattle.pim_lines.specs.Pieces.{line}

-- The address of an upstream neighbour, or `-` if there is none.
abbrev pub neighbour_words : AddressFamily → Option (List ℕ) → List ℕ
neighbour_words family None = codes "-"
neighbour_words family (Some neighbour) = address_text family neighbour

-- ` via` and the upstream neighbour; nothing if `shows_via` isn't set.
abbrev pub via_words : AddressFamily → Bool → Option (List ℕ) → List ℕ
via_words family false demanded = []
via_words family true demanded = codes " via " ++ neighbour_words family demanded

-- The upstream neighbour toward the RP of the group under the route table. It is RPF'(*,G) of
-- RFC 7761, 4.1, without asserts.
abbrev pub star_via : AddressFamily → RouteTable → List ℕ → Option (List ℕ)
star_via family routes group = star_rpf_neighbour (via_of family routes) (rp_of family routes group)

module _ (family : AddressFamily) (shows_via : Bool) where
  -- `want star G` or `want source S G`: the (*,G) or (S,G) demand of a group.
  abbrev pub want_line : List ℕ → What (List ℕ) → Option (List ℕ) → List ℕ
  want_line group what demanded = line (codes "want " ++ what_words family group what ++ via_words family shows_via demanded)

  -- `except S G`: a source that a star leaves out, pruned by Prune(S,G,rpt).
  abbrev pub exception_line : List ℕ → Option (List ℕ) → List ℕ → List ℕ
  exception_line group demanded source = line (codes "except " ++ address_text family source ++ codes " "
      ++ address_text family group ++ via_words family shows_via demanded)

  -- The lines of a star and of its exceptions, which all have the same upstream neighbour.
  abbrev pub starred_text : List ℕ → Option (List ℕ) → List (List ℕ) → List ℕ
  starred_text group demanded exceptions = want_line group Star demanded ++ flat_map (exception_line group demanded) exceptions

module _ (family : AddressFamily) (shows_via : Bool) (routes : RouteTable) where
  -- The lines of the star of a group, if it has one.
  abbrev pub star_text : List ℕ → Option (List (List ℕ)) → List ℕ
  star_text group None = []
  star_text group (Some exceptions) = starred_text family shows_via group (star_via family routes group) exceptions

  -- The line of a source on its own tree, with the upstream neighbour toward it. That neighbour is
  -- RPF'(S,G) of RFC 7761, 4.1, without asserts.
  abbrev pub source_line : List ℕ → List ℕ → List ℕ
  source_line group source = want_line family shows_via group (Source source) (via_of family routes source)

  -- The lines of a group: its star with the exceptions, then its sources.
  abbrev pub group_text : GroupForm → List ℕ
  group_text form = star_text form.group form.star ++ flat_map (source_line form.group) form.sources

  -- The lines of all groups, in the order of the normal form.
  abbrev pub demand_text : List GroupForm → List ℕ
  demand_text form = flat_map group_text form
