use Rattle.pim_form.proofs.Words.{◌≡◌, ◌∙◌, ◌+◌, List, take, ap, subst, arith, rp_of, GroupForm, CarriesPart}
use Rattle.pim_form.proofs.Additions.{front_stays, cut_behind}
use Rattle.pim_form.proofs.written.append_message.Goals as goal

pub returns-clause-ok : goal.returns-clause-ok
returns-clause-ok g c =
    let front : c.split_at_mut-place.result.0.now ≡ c.args.bytes.now.items =
    front_stays c.args.bytes.now.items c.resize.new.self.items _ c.split_at_mut-place.result.0.now c.len-start.result (c.len-start.result + c.message_length-length.result)
    (omega (arith, c.args.bytes.now.ok.0, c.len-start.ensures)) (omega arith) c.in_ok-resize.ensures.items
    (c.split_at_mut-place.ensures.front ∙ ap (take c.len-start.result) c.deref_mut.ensures.value) in
    record {
      message = c.write_message.new.bytes;
      more = cut_behind c.split_at_mut-place.result.0.now c.args.bytes.now.items c.write_message.new.bytes _ _
          (omega (arith, c.split_at_mut-place.ensures.front_len, c.split_at_mut-place.ensures.back_len, c.write_message.auto.bytes, c.deref_mut.ensures.len)) front;
      carries = subst (λ (part : List GroupForm). CarriesPart g.F.Family.family c.args.writer.now (rp_of g.F.Family.family c.args.routes.now) part c.write_message.new.bytes)
          c.new-2.ensures c.write_message.ensures;
    }
