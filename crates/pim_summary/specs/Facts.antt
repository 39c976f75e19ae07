-- What contracts see of a summary, and of its routers and upstream neighbours: their lists without
-- the memory that these take.
use Rattle.std.specs.Prelude.{ℕ, Bool, List, Option}
use Rattle.pim_capture.specs.declared.incomplete.RecordPlace.{RecordPlace}
use Rattle.pim_capture.specs.declared.link.Link.{Link}
use Rattle.pim_lines.specs.declared.either.AnyAddress.{AnyAddress}
use Rattle.pim_summary.specs.declared.facts.FirstMalformed.{FirstMalformed}
use Rattle.pim_summary.specs.declared.facts.HelloFacts.{HelloFacts}
use Rattle.pim_summary.specs.declared.facts.LinkFacts.{LinkFacts}
use Rattle.pim_summary.specs.declared.facts.RpFacts.{RpFacts}
use Rattle.pim_summary.specs.declared.facts.SentFacts.{SentFacts}
use Rattle.pim_summary.specs.declared.facts.SkippedFacts.{SkippedFacts}

-- The source of messages without a fault.
pub record Router : Type 0 where
  pub address : AnyAddress
  pub hellos : ℕ
  pub last_hello : Option HelloFacts
  pub generation : Option ℕ
  pub restarts : ℕ
  pub sent : List SentFacts

-- The upstream neighbour of Join/Prune messages without a fault.
pub record Upstream : Type 0 where
  pub address : AnyAddress
  pub messages : ℕ
  pub senders : ℕ
  pub joins : ℕ
  pub prunes : ℕ
  pub most_groups : ℕ
  pub link : Option Link
  pub rps : List RpFacts

-- A summary of a capture.
pub record Summary : Type 0 where
  pub place : RecordPlace
  pub records : ℕ
  pub earliest : Option ℕ
  pub latest : Option ℕ
  pub messages : ℕ
  pub malformed : ℕ
  pub first_malformed : Option FirstMalformed
  pub links : List LinkFacts
  pub has_more_links : Bool
  pub routers : List Router
  pub has_more_routers : Bool
  pub upstreams : List Upstream
  pub has_more_upstreams : Bool
  pub rps : List RpFacts
  pub has_more_rps : Bool
  pub skipped : SkippedFacts
  pub after_message : Bool
  pub after_upstream : Option AnyAddress
