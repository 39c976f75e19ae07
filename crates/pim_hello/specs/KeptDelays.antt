-- What is kept of the LAN Prune Delays that the neighbours of a port sent (RFC 7761, 4.3.3).
use Rattle.std.specs.Prelude.{◌≡◌, true, false, List, map}
use Rattle.std.proofs.Props as below
use Rattle.pim_hello.specs.Hello.{Parameters, Delays}
use Rattle.pim_hello.specs.Interval.{all_sent_delays, delays_sent, greatest}
use Rattle.pim_hello.specs.declared.delays_heard.DelaysHeard.{DelaysHeard}
use Rattle.pim_hello.specs.declared.delays_heard.DelaysHeard.TheVariants.{NotByAll, ByAll}

-- The kept value is right for these Hellos: `NotByAll` if lan_delay_enabled(I) is false, else
-- `ByAll` with the greatest delay of each kind.
abbrev pub ComesTo : DelaysHeard → List Parameters → Type 0
ComesTo NotByAll hellos = all_sent_delays hellos ≡ false
ComesTo (ByAll delays) hellos = (all_sent_delays hellos ≡ true)
    × (delays.propagation ≡ greatest (map (λ (d : Delays). d.propagation) (delays_sent hellos)))
    × (delays.override_ms ≡ greatest (map (λ (d : Delays). d.override_ms) (delays_sent hellos)))

-- It has at most one proof, as a ghost field needs.
pub ComesTo-prop : (delays_heard : DelaysHeard) (hellos : List Parameters) → IsProp (ComesTo delays_heard hellos)
ComesTo-prop NotByAll hellos = hlevel below.props
ComesTo-prop (ByAll delays) hellos = hlevel below.props

-- The rules that prove this.
pub ruleset props = (below.props, ComesTo-prop)
