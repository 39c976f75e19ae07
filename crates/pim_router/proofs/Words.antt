-- The words of other modules that the lemmas and answers of this crate cite.
pub use Rattle.pim_addr.specs.Address.{is_source}
pub use Rattle.pim_addr.specs.Faults.{fault_if, judged}
pub use Rattle.pim_addr.specs.Routes.{IsRouteTable, RouteTable, rp_of}
pub use Rattle.pim_addr.specs.declared.family.AddressFamily.{AddressFamily}
pub use Rattle.pim_change.specs.Laws.{NewStarsAloneAreTooBig, OneListOfChange}
pub use Rattle.pim_down.specs.Laws.{FiringSaysMore, TimersRunOut, said_of}
pub use Rattle.pim_down.specs.Seen.{firing_seen, step_seen}
pub use Rattle.pim_down.specs.Time.{Downstream, IsQuietFor, fired, with_records}
pub use Rattle.pim_down.specs.declared.machines.key.What.{What}
pub use Rattle.pim_down.specs.declared.machines.machine.Record.{Record}
pub use Rattle.pim_form.specs.Messages.{AreCanonical, IsWriting, Writing}
pub use Rattle.pim_form.specs.NormalForm.{Agree, Demand, GroupForm, IsFormOf, IsNormal}
pub use Rattle.pim_form.specs.TowardLaws.{SameMessagesSameDemandToward, demand_toward}
pub use Rattle.pim_hello.specs.Hello.{Hello, Parameters}
pub use Rattle.pim_hello.specs.Laws.{ExpiringTwiceIsExpiringOnce, TimeIsOverFromNextEnd, comes_by, expired_at}
pub use Rattle.pim_hello.specs.Neighbours.{Hears, Neighbour, Table, heard_as, heard_from, is_address, is_full}
pub use Rattle.pim_hello.specs.Neighbours.{is_over, lifetime, needs_no_memory, neighbour_at, next_end}
pub use Rattle.pim_hello.specs.Neighbours.{no_neighbours, passed_to, says_goodbye, sooner, waited, without_ended}
pub use Rattle.pim_jp.specs.Message.{Message, message_of}
pub use Rattle.std.proofs.Common.{Bool, Err, IsOk, IsTrue, List, None, Ok, OnErr, OnOk, Option, Result, Some, []}
pub use Rattle.std.proofs.Common.{ap, append_assoc, arith, drop, false, filter, get_or, if◌then◌else◌, length, map}
pub use Rattle.std.proofs.Common.{max, min, nat_eq, nat_lt, not, refl, replicate, rules, set, subst, suc, sym, take}
pub use Rattle.std.proofs.Common.{true, zero, ℕ, ◌*◌, ◌++◌, ◌+◌, ◌-◌, ◌<◌, ◌==◌, ◌↔◌, ◌∙◌, ◌∷◌, ◌≡◌, ◌≢◌, ◌≤◌}
pub use Rattle.std.proofs.lemmas.Bool.{eqb-false, false≢true, le-ltb, lt-ltb, ltb-false, ltb-true, ne_eqb}
pub use Rattle.std.proofs.lemmas.List.{append-nil, drop_all, drop_more, get_or_read, length-map, length-replicate}
pub use Rattle.std.proofs.lemmas.List.{length-set, set-get_or, take_at}
pub use Rattle.std.specs.Cmp.Lexicographic.{pointwise, slice_cmp}
pub use Rattle.std.specs.List.{AllByRecursion, list_any, position, position_or_len}
pub use Rattle.std.specs.Option.{option_eq}
pub use Rattle.std.specs.declared.alloc.AllocError.{AllocError}
pub use Rattle.pim_router.specs.Config.{IsMadeUnless, config_faults, fault_at, has_bad_count, has_bad_limit}
pub use Rattle.pim_router.specs.Course.{Gives, HasCourse, Input, RouterReport, echo, refresh, runs_to, takes}
pub use Rattle.pim_router.specs.Course.{verdict}
unfoldable pub use Rattle.pim_router.specs.Course.{IsCourse, Reaches}
pub use Rattle.pim_router.specs.Happening.{FiresAfter, FiresTo, Happening, Happens, HasHappened, HasPassed, Passes}
pub use Rattle.pim_router.specs.Happening.{at_moment, first_unpassed, gone_between, gone_of, happens_then, next_of}
pub use Rattle.pim_router.specs.Happening.{pass_on, timer_fired}
unfoldable pub use Rattle.pim_router.specs.Happening.{first_timeout, gone_from, gone_within, happens_in, in_turns}
pub use Rattle.pim_router.specs.Laws.{EveryStateGoesOn, FiringPasses, HappeningGoesOn, HappeningHasOneEnd}
pub use Rattle.pim_router.specs.Laws.{NobodyGoesBeforeFirstTimeout, PassingGoesOn, RunsComeNearer, RunsPastAreTurns}
pub use Rattle.pim_router.specs.Laws.{TheEndedGoAtFirstTimeout}
pub use Rattle.pim_router.specs.Packets.{Packet, Receives, body_causes, body_heard, causes, hello_causes}
pub use Rattle.pim_router.specs.Packets.{hello_heard, may_grow, message_causes, message_heard, needed_by}
pub use Rattle.pim_router.specs.Packets.{neighbours_on, new_by, own_address, received, room_causes, timing_on}
pub use Rattle.pim_router.specs.Packets.{unless}
pub use Rattle.pim_router.specs.Reading.{IsTakenAsRead, Reading, hello_by, message_by, message_refusals}
pub use Rattle.pim_router.specs.Reading.{packet_read, read_by, read_causes, read_fault, read_hello, read_may_grow}
pub use Rattle.pim_router.specs.Reading.{read_message, read_other, read_received, read_taken, reading_seen}
pub use Rattle.pim_router.specs.Refreshes.{fires_behind, first_unreported}
unfoldable pub use Rattle.pim_router.specs.Refreshes.{RunsPast}
pub use Rattle.pim_router.specs.Seen.{packet_seen, port_seen, router_seen, setup_seen}
pub use Rattle.pim_router.specs.Sound.{HasTime, IsCurrent, IsRouter}
pub use Rattle.pim_router.specs.State.{Port, RouterState, Setup, new_router, refresh_period, setup_of}
pub use Rattle.pim_router.specs.State.{with_machines, with_refresh, with_tables}
pub use Rattle.pim_router.specs.Time.{Outcome, Runs, has_ended, moves, one_if, reported, rests, run_on, stops_with}
pub use Rattle.pim_router.specs.Time.{tick, turn_of_time, turn_of_timers}
unfoldable pub use Rattle.pim_router.specs.Time.{run_within, turn, turns_left}
pub use Rattle.pim_router.specs.Written.{hello_verdict, message_verdict}
pub use Rattle.pim_router.specs.declared.config.ConfigFault.{ConfigFault}
pub use Rattle.pim_router.specs.declared.config.ConfigFault.TheVariants.{Address, Delay, Limit, Ports}
pub use Rattle.pim_router.specs.declared.config.PortConfig.{PortConfig}
pub use Rattle.pim_router.specs.declared.step.Step.{Step}
pub use Rattle.pim_router.specs.declared.step.Step.TheVariants.{Echo, Reached, Refresh}
pub use Rattle.pim_router.specs.declared.verdict.Verdict.{Verdict}
