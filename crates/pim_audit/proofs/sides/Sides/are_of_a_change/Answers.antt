use Rattle.pim_audit.proofs.DueMachines.{due_valid}
use Rattle.pim_audit.proofs.LocalPort.{local_is_sound}
use Rattle.pim_audit.proofs.Membership.{due_list_is}
use Rattle.pim_audit.proofs.SideFacts.{asked_is_side, wanted_is_side, form_wanted, wanted_form}
use Rattle.pim_audit.specs.Sides.{asked_side, wanted_side}
use Rattle.pim_down.specs.Sound.{IsSound}
use Rattle.pim_form.specs.Demanded.{form_below}
use Rattle.pim_local.specs.Joins.{AreJoins}
use Rattle.pim_audit.proofs.sides.Sides.are_of_a_change.Goals as goal

pub returns : goal.returns
returns g c entries up exact =
    let family = g.F.Family.family in
    let sides = c.args.self.now in
    let of_asked : IsSound family sides.asked = rw (← c.self.view_is) c.is_sound.ensures in
    let of_wanted : IsSound family sides.wanted = rw (← c.self.view_is) c.is_sound-2.ensures in
    let joins : AreJoins family sides.local = rw (← c.self.view_is) c.is_sound-3.ensures in
    let local = local_is_sound family sides.local joins in
    let asked_form = c.form_of_all_ports.ensures family sides.asked of_asked in
    let wanted = wanted_form c.form_of_demand_toward.ensures c.merge_is_the_form_of_either.ensures family sides of_wanted local in
    record {
      old = form_below sides.asked.ports sides.asked;
      new = form_wanted family sides;
      of_asked = asked_form;
      of_wanted = wanted;
      are = due_list_is c.some_source_is_outside.ensures c.addresses_are_in_order.ensures family (asked_side sides) (wanted_side family sides)
          (form_below sides.asked.ports sides.asked) (form_wanted family sides)
          (asked_is_side family c.joined_star_wants_some_source.ensures sides of_asked)
          (wanted_is_side family c.joined_star_wants_some_source.ensures sides of_wanted local)
          asked_form wanted entries up (due_valid c.keys_are_distinct.ensures family sides of_asked of_wanted local) exact;
    }
