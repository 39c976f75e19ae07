-- The values of the scripted devices, which tests use.
use Rattle.std.specs.Prelude.{ℕ, List, max}
use Rattle.pim_device.specs.declared.scripted.ScriptedFeed.{ScriptedFeed}
use Rattle.pim_device.specs.declared.scripted.ScriptedDrain.{ScriptedDrain}

-- The bytes that the feed has left to give.
abbrev pub feed_bytes : ScriptedFeed → List ℕ
feed_bytes feed = feed.rest.now

-- The number of calls that failed.
abbrev pub feed_failures : ScriptedFeed → ℕ
feed_failures feed = feed.failures

-- The most bytes that one call gives, at least 1.
abbrev pub feed_most : ScriptedFeed → ℕ
feed_most feed = max feed.most 1

-- The number of bytes that the feed may give before each call fails.
abbrev pub feed_until_failure : ScriptedFeed → ℕ
feed_until_failure feed = feed.until_failure

-- The bytes that the drain has taken.
abbrev pub drain_bytes : ScriptedDrain → List ℕ
drain_bytes drain = drain.written.items

-- The number of calls that failed.
abbrev pub drain_failures : ScriptedDrain → ℕ
drain_failures drain = drain.failures

-- The most bytes that one call takes, at least 1.
abbrev pub drain_most : ScriptedDrain → ℕ
drain_most drain = max drain.most 1

-- The number of bytes that the drain may take before each call fails.
abbrev pub drain_until_failure : ScriptedDrain → ℕ
drain_until_failure drain = drain.until_failure
