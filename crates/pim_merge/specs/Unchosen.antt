-- The links of the PIM packets that a choice of records leaves out.
use Rattle.std.specs.Prelude.{false, ◌||◌, not, replicate, Option, None, Some, unwrap_or}
use Rattle.pim_capture.specs.declared.link.Link.{Link}
use Rattle.pim_merge.specs.declared.unchosen.Unchosen.{Unchosen}
use Rattle.pim_merge.specs.Slots.{added, fits, same_link}

-- Records without a PIM packet.
abbrev pub no_links : Unchosen
no_links = record { links = replicate 16 None; has_more = false }

-- One more record, with the link of its PIM packet, if it has one.
abbrev pub with_link : Option Link → Unchosen → Unchosen
with_link None unchosen = unchosen
with_link (Some link) unchosen = record {
  links = added same_link link unchosen.links;
  has_more = unchosen.has_more || not (fits same_link link unchosen.links);
}

-- The records that aren't chosen after one more of them, with the link of its PIM packet.
abbrev pub unchosen_after : Option Unchosen → Option Link → Option Unchosen
unchosen_after unchosen link = Some (with_link link (unwrap_or unchosen no_links))
