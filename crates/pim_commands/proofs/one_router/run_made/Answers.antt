use Rattle.pim_commands.proofs.Words.{◌≡◌, ◌∙◌, sym, ap, subst, inl, refl, None, List, map, PortConfig, setup_seen}
use Rattle.pim_commands.proofs.Words.{RouterState, Setup, new_router, Port, port_files, engine_seen, Does, is_in}
use Rattle.pim_commands.proofs.Words.{config_of, config_causes, setup_in, IsFirstCause}
use Rattle.std.specs.List.{filter}
use Rattle.pim_commands.proofs.Ran.{ran}
use Rattle.pim_commands.proofs.NewRouters.{all_in, as_many, failures_answered}
use Rattle.pim_commands.proofs.one_router.run_made.Goals as goal

pub returns-in-Err-clause-runs : goal.returns-in-Err-clause-runs
returns-in-Err-clause-runs g c =
    let ports : List (Port g.row.F-Addr.Denot) = c.args.captures.now.ports.items in
    let same : c.deref-2.result.now ≡ map config_of ports = c.deref-2.ensures.value ∙ c.in-Ok.ensures ∙ ap (λ (l : List (Port g.row.F-Addr.Denot)). map config_of (filter (is_in None) l)) c.deref.ensures.value ∙ ap (map config_of) (all_in ports) in
    let setup : List (PortConfig g.row.F-Addr.Denot) → Setup = λ configs. setup_seen g.F.Family.bytes_of configs c.args.routes.now c.args.captures.now.limit in
    inl (subst (λ (s : Setup). IsFirstCause (config_causes g.F.Family.family s) c.in-Err.fault) (ap setup same) c.in-Err.ensures, (refl {a = g.W.Drain.contents c.args.writer.now}, refl {a = c.args.merge.now}))

pub lead-reported-requires-clause-ports : goal.lead-reported-requires-clause-ports
lead-reported-requires-clause-ports g c =
    let ports : List (Port g.row.F-Addr.Denot) = c.args.captures.now.ports.items in
    let same : c.deref-2.result.now ≡ map config_of ports = c.deref-2.ensures.value ∙ c.in-Ok.ensures ∙ ap (λ (l : List (Port g.row.F-Addr.Denot)). map config_of (filter (is_in None) l)) c.deref.ensures.value ∙ ap (map config_of) (all_in ports) in
    c.requires.ports ∙ sym
    (as_many g.F.Family.bytes_of ports c.deref-2.result.now c.args.routes.now c.args.captures.now.limit c.in-Ok-router_of.router same c.in-Ok-router_of.ensures.1)

pub returns-clause-runs : goal.returns-clause-runs
returns-clause-runs g c =
    let ports : List (Port g.row.F-Addr.Denot) = c.args.captures.now.ports.items in
    let same : c.deref-2.result.now ≡ map config_of ports = c.deref-2.ensures.value ∙ c.in-Ok.ensures ∙ ap (λ (l : List (Port g.row.F-Addr.Denot)). map config_of (filter (is_in None) l)) c.deref.ensures.value ∙ ap (map config_of) (all_in ports) in
    let setup : List (PortConfig g.row.F-Addr.Denot) → Setup = λ configs. setup_seen g.F.Family.bytes_of configs c.args.routes.now c.args.captures.now.limit in
    ran (config_causes g.F.Family.family (setup_in g.F.Family.bytes_of c.args.captures.now None c.args.routes.now)) _ _ (port_files c.args.captures.now) (port_files c.args.captures.now) g.F.Family.family g.F.Family.bytes_of
    c.lead-reported.new.router c.lead-reported.result c.answer_of.result
    (subst (λ (s : RouterState). Does g.F.Family.family g.F.Family.bytes_of c.args.captures.now (engine_seen g.F.Family.family g.F.Family.bytes_of c.args.made) c.args.merge.now c.lead-reported.new.merge s
    (g.W.Drain.contents c.args.writer.now) (g.W.Drain.contents c.lead-reported.new.writer) c.lead-reported.new.router c.lead-reported.result) (c.in-Ok-router_of.ensures.1 ∙ ap new_router (ap setup same)) c.lead-reported.ensures.does)
    c.answer_of.ensures

pub returns-clause-count : goal.returns-clause-count
returns-clause-count g c =
    rw (c.answer_of.ensures)
    (c.lead-reported.ensures.count ∙ failures_answered (port_files c.args.captures.now) (port_files c.args.captures.now) g.F.Family.family g.F.Family.bytes_of (g.W.Drain.failures c.args.writer.now) c.lead-reported.result)
