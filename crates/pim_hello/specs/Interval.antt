-- J/P_Override_Interval(I) of a port, by the delays of the port and of its neighbours (RFC 7761,
-- 4.3.3 and 4.11).
use Rattle.std.specs.Prelude.{ℕ, ◌+◌, Bool, true, false, List, [], ◌∷◌, map, max, Some, None, if◌then◌else◌}
use Rattle.pim_hello.specs.Hello.{Parameters, Delays}

-- The greatest number of a list, or 0 for the empty list.
abbrev pub greatest : List ℕ → ℕ
greatest [] = 0
greatest (n ∷ ns) = max n (greatest ns)

-- The LAN Prune Delays of the neighbours that sent one in their last Hello.
abbrev pub delays_sent : List Parameters → List Delays
delays_sent [] = []
delays_sent (hello ∷ hellos) =
    elim hello.lan as (λ _. List Delays) [ None ↦ delays_sent hellos | Some delays ↦ delays ∷ delays_sent hellos ]

-- lan_delay_enabled(I): every neighbour sent a LAN Prune Delay in its last Hello.
abbrev pub all_sent_delays : List Parameters → Bool
all_sent_delays [] = true
all_sent_delays (hello ∷ hellos) = elim hello.lan as (λ _. Bool) [ None ↦ false | Some delays ↦ all_sent_delays hellos ]

-- J/P_Override_Interval(I) in milliseconds: Effective_Propagation_Delay(I) plus
-- Effective_Override_Interval(I). Each is the greatest delay of the port and its neighbours. If
-- lan_delay_enabled(I) is false, they are 500 and 2,500 ms, without the port's own delays.
abbrev pub jp_override_interval : ℕ → ℕ → List Parameters → ℕ
jp_override_interval propagation override_ms hellos = if all_sent_delays hellos
    then greatest (propagation ∷ map (λ (d : Delays). d.propagation) (delays_sent hellos))
    + greatest (override_ms ∷ map (λ (d : Delays). d.override_ms) (delays_sent hellos))
    else 3000
