use Rattle.pim_form.proofs.Words.{List, ℕ, ◌≡◌, ◌∙◌, ap, map, length, arith, filter, rp_of, via_of, is_reached, group_toward}
use Rattle.pim_form.proofs.PushedGroups.{filter_mapped, pushed}
use Rattle.pim_form.proofs.kept_toward.push_group.Goals as goal

pub returns : goal.returns
returns g c =
    let bytes_of = g.F.Family.bytes_of in
    let rps = rp_of g.F.Family.family c.args.routes.now in
    let via = via_of g.F.Family.family c.args.routes.now in
    let upstream : List ℕ = bytes_of c.args.upstream in
    let kept : List g.row.F-Addr.Denot = filter (λ source. is_reached rps via upstream (bytes_of source)) c.sources.result.now in
    let lists : map bytes_of kept ≡ filter (is_reached rps via upstream) c.args.this.now.sources =
    filter_mapped bytes_of (is_reached rps via upstream) c.sources.result.now ∙ ap (filter (is_reached rps via upstream)) c.sources.ensures in
    let start : c.len-sources_start.result ≡ length c.args.row.now.items = omega (arith, c.len-sources_start.ensures, c.args.row.now.ok.0) in
    let middle : c.len-sources_end.result ≡ length c.push_reached.new.row.items = omega (arith, c.len-sources_end.ensures, c.push_reached.new.row.ok.0) in
    let end : c.len.result ≡ length c.push_star.new.row.items = omega (arith, c.len.ensures, c.push_star.new.row.ok.0) in
    pushed bytes_of (group_toward rps via upstream c.args.this.now) c.group.result c.in_ok-starred.starred
    c.args.row.now.items c.push_reached.new.row.items c.push_star.new.row.items kept _ _ _
    c.in_ok-push_reached.ensures c.in_ok-starred.ensures c.group.ensures lists start middle end
