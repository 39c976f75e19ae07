-- The words of other modules that the lemmas and answers of this crate cite.
pub use Rattle.pim_addr.specs.Routes.{IsRouteTable, RouteTable, rp_of}
pub use Rattle.pim_addr.specs.declared.family.AddressFamily.{AddressFamily}
pub use Rattle.pim_device.specs.Device.{AppendsFront}
pub use Rattle.pim_down.specs.Sound.{IsSound}
pub use Rattle.pim_form.specs.Laws.{OneNormalForm}
pub use Rattle.pim_form.specs.Messages.{AreCanonical, IsWriting, Writing}
pub use Rattle.pim_form.specs.NormalForm.{Demand, GroupForm, IsFormOf}
pub use Rattle.pim_form.specs.TooBig.{too_big}
pub use Rattle.pim_form.specs.TowardLaws.{SameMessagesSameDemandToward, TestFindsTheNeighbour, demand_toward}
pub use Rattle.pim_fresh.specs.Deliveries.{AreAlive, Delivery, IsShorter, is_delivered}
unfoldable pub use Rattle.pim_fresh.specs.Deliveries.{IsTimely, final_moment, last_of}
pub use Rattle.pim_mirror.specs.Config.{Fresh, delivery_seen, end_of, fresh_seen, newest_first}
pub use Rattle.pim_mirror.specs.Fits.{Fits, expiry_of}
pub use Rattle.pim_mirror.specs.Headline.{CarriesTheForm, MirrorAnswersForTheForm}
pub use Rattle.pim_mirror.specs.Mirror.{Mirrors, Passes, delivery_inputs}
pub use Rattle.pim_mirror.specs.declared.mirroring.MirrorFault.{MirrorFault}
pub use Rattle.pim_moving.specs.Laws.{ChangeFits, ChangeMovesARouter, LongTimersLast, MirrorIsSettled}
pub use Rattle.pim_report.specs.MessageText.{messages_text}
pub use Rattle.pim_router.specs.Canonical.{IsDemandedBy, IsTooBig, demanded}
pub use Rattle.pim_router.specs.State.{RouterState, Setup, setup_of}
pub use Rattle.std.proofs.Common.{Bool, Err, IsOk, List, None, Ok, Option, Result, Some, [], add-one, ap}
pub use Rattle.std.proofs.Common.{append-nil, append_assoc, arith, false, if◌then◌else◌, inl, inr, length}
pub use Rattle.std.proofs.Common.{length-append, map, max, refl, reverse, subst, suc, sym, take, true, zero, ℕ}
pub use Rattle.std.proofs.Common.{◌&&◌, ◌*◌, ◌++◌, ◌+◌, ◌-◌, ◌<◌, ◌==◌, ◌^◌, ◌∙◌, ◌∷◌, ◌≡◌, ◌≢◌, ◌≤◌}
pub use Rattle.std.proofs.lemmas.Bool.{eqb-false, false≢true}
pub use Rattle.std.proofs.lemmas.List.{length-take, map-append, reverse-append, take-append-le}
pub use Rattle.std.proofs.lemmas.Result.{err_from_is_err_and}
pub use Rattle.std.specs.Io.KnownBytes.{Appends, Keeps}
pub use Rattle.std.specs.List.{AllByRecursion, flat_map}
unfoldable pub use Rattle.std.specs.List.{IsDistinct}
pub use Rattle.pim_exchange.specs.ChangeHearing.{AreCarried, HasNoRoom, HasRoom, HearsBoth, MovedAgain}
pub use Rattle.pim_exchange.specs.ChangeHearing.{change_inputs, fresh_interval}
pub use Rattle.pim_exchange.specs.ChangeText.{IsChangeBetween, ReportsChange}
pub use Rattle.pim_exchange.specs.Fault.{failures_of_exchange, of_mirror, of_second}
pub use Rattle.pim_exchange.specs.FreshHearing.{AreSent, Demands, HaveRoom, HeardAgain, IsAgain, IsFull, Mirrored}
pub use Rattle.pim_exchange.specs.FreshHearing.{delivered_at, fresh_of}
unfoldable pub use Rattle.pim_exchange.specs.FreshHearing.{each_at}
pub use Rattle.pim_exchange.specs.MirrorText.{Exchanges, Judges, agreed_text, agrees_line}
