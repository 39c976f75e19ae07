use Rattle.pim_session.proofs.Words.{Ok, sym, subst, store_seen, AnyRouter, family_in, state_in, IsKeptFor}
use Rattle.pim_answers.specs.declared.kept.AnyForm.TheVariants as form
use Rattle.pim_session.proofs.routers.form_for.Goals as goal

pub returns-in-Ok : goal.returns-in-Ok
returns-in-Ok c =
    let e = c.in-Ok.ensures in
    subst (λ (any : AnyRouter). IsKeptFor (family_in any) c.args.command.now (state_in any) (store_seen c.args.store.now) (Ok (form.Ipv4 c.in-Ok.form))) (sym c.in-Ipv4.is)
    (e.0, e.1, (c.in-Ok.form.form, e.2.is, e.2.seen))

pub returns-in-Ok-form_to_keep : goal.returns-in-Ok-form_to_keep
returns-in-Ok-form_to_keep c =
    let e = c.in-Ok-form_to_keep.ensures in
    subst (λ (any : AnyRouter). IsKeptFor (family_in any) c.args.command.now (state_in any) (store_seen c.args.store.now) (Ok (form.Ipv6 c.in-Ok-form_to_keep.form))) (sym c.in-Ipv6.is)
    (e.0, e.1, (c.in-Ok-form_to_keep.form.form, e.2.is, e.2.seen))
