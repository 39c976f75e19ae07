use Rattle.std.proofs.Common.{◌∙◌, refl}
use Rattle.pim_form.proofs.OpenPlace.{source_added}
use Rattle.pim_form.proofs.collect.add_source.Goals as goal

pub returns : goal.returns
returns g c =
    source_added g.F.Family.bytes_of c.args.row.now.items c.push.new.self.items c.args.source c.args.group.now _ c.requires.last c.requires.none c.in_ok-push.ensures.items
    refl refl refl (c.len-group.ensures ∙ c.push.new.self.ok.0) (c.len-group-2.ensures ∙ c.push.new.self.ok.0) (c.len-group-3.ensures ∙ c.push.new.self.ok.0)
