-- How contracts see a LAN Prune Delay.
use Rattle.pim_hello.specs.declared.delay.LanDelay.{LanDelay}
use Rattle.pim_hello.specs.Hello.{Delays}

-- The LAN Prune Delay option with its numbers.
abbrev pub delays_seen : LanDelay → Delays
delays_seen lan = record { t = lan.t; propagation = lan.propagation; override_ms = lan.override_ms }
