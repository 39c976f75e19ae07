use Rattle.pim_commands.proofs.Words.{◌≡◌, ◌∙◌, sym, ap, subst, inl, refl, [], List, map, PortConfig, config_faults}
use Rattle.pim_commands.proofs.Words.{setup_seen, Setup, new_router, Port, of_router, port_files, config_of}
use Rattle.pim_commands.proofs.Words.{config_causes, writing_of, IsFirstCause}
use Rattle.std.specs.List.{filter}
use Rattle.pim_exchange.specs.ChangeText.{WritesChange}
use Rattle.pim_exchange.specs.Same.{Compares}
use Rattle.pim_words.specs.declared.fault.RouterSide.TheVariants.{A, B}
use Rattle.pim_words.specs.Faults.{is_of}
use Rattle.pim_commands.proofs.Ran.{ran, not_written, as_made}
use Rattle.pim_commands.proofs.NewRouters.{as_many, failures_answered, in_front}
use Rattle.pim_commands.proofs.two_routers.run_command.Goals as goal

pub returns-in-Err-clause-runs : goal.returns-in-Err-clause-runs
returns-in-Err-clause-runs g c =
    inl (
      in_front _ _ c.in-Err.fault (not_written g.F.Family.family (writing_of g.F.Family.bytes_of c.args.requested.1.now) c.in-Err.fault c.in-Err.ensures),
      (refl {a = g.W.Drain.contents c.args.writer.now}, refl {a = c.args.pair.now.a}, refl {a = c.args.pair.now.b}),
    )

pub returns-in-Err-clause-count : goal.returns-in-Err-clause-count
returns-in-Err-clause-count g c = rw (c.in-Err.ensures.0) (refl {a = g.W.Drain.failures c.args.writer.now})

pub returns-in-Err-router_of-clause-runs : goal.returns-in-Err-router_of-clause-runs
returns-in-Err-router_of-clause-runs g c =
    let bytes_of = g.F.Family.bytes_of in
    let ports : List (Port g.row.F-Addr.Denot) = c.args.captures.now.ports.items in
    let setup : List (PortConfig g.row.F-Addr.Denot) → Setup = λ configs. setup_seen bytes_of configs c.args.routes.now c.args.captures.now.limit in
    let same_a : c.deref-3.result.now ≡ map config_of (filter (is_of A) ports) =
    c.deref-3.ensures.value ∙ c.in-Ok-configs.ensures ∙ ap (λ (l : List (Port g.row.F-Addr.Denot)). map config_of (filter (is_of A) l)) c.deref.ensures.value in
    inl (
      rw (c.in-Ok.ensures.1) (in_front _ _ c.in-Err-router_of.fault
          (subst (λ (s : Setup). IsFirstCause (config_causes g.F.Family.family s) c.in-Err-router_of.fault) (ap setup same_a) c.in-Err-router_of.ensures)),
      (refl {a = g.W.Drain.contents c.args.writer.now}, refl {a = c.args.pair.now.a}, refl {a = c.args.pair.now.b}),
    )

pub returns-in-Err-router_of-2-clause-runs : goal.returns-in-Err-router_of-2-clause-runs
returns-in-Err-router_of-2-clause-runs g c =
    let bytes_of = g.F.Family.bytes_of in
    let ports : List (Port g.row.F-Addr.Denot) = c.args.captures.now.ports.items in
    let setup : List (PortConfig g.row.F-Addr.Denot) → Setup = λ configs. setup_seen bytes_of configs c.args.routes.now c.args.captures.now.limit in
    let same_a : c.deref-3.result.now ≡ map config_of (filter (is_of A) ports) =
    c.deref-3.ensures.value ∙ c.in-Ok-configs.ensures ∙ ap (λ (l : List (Port g.row.F-Addr.Denot)). map config_of (filter (is_of A) l)) c.deref.ensures.value in
    let same_b : c.deref-4.result.now ≡ map config_of (filter (is_of B) ports) =
    c.deref-4.ensures.value ∙ c.in-Ok-configs-2.ensures ∙ ap (λ (l : List (Port g.row.F-Addr.Denot)). map config_of (filter (is_of B) l)) c.deref-2.ensures.value in
    let none : config_faults g.F.Family.family (setup (map config_of (filter (is_of A) ports))) ≡ [] =
    subst (λ (s : Setup). config_faults g.F.Family.family s ≡ []) (ap setup same_a) c.in-Ok-router_of.ensures.0 in
    inl (
      rw (c.in-Ok.ensures.1, none)
          (subst (λ (s : Setup). IsFirstCause (config_causes g.F.Family.family s) c.in-Err-router_of-2.fault) (ap setup same_b) c.in-Err-router_of-2.ensures),
      (refl {a = g.W.Drain.contents c.args.writer.now}, refl {a = c.args.pair.now.a}, refl {a = c.args.pair.now.b}),
    )

pub same_into-reported-requires-clause-ports_a : goal.same_into-reported-requires-clause-ports_a
same_into-reported-requires-clause-ports_a g c =
    let ports : List (Port g.row.F-Addr.Denot) = c.args.captures.now.ports.items in
    let same_a : c.deref-3.result.now ≡ map config_of (filter (is_of A) ports) =
    c.deref-3.ensures.value ∙ c.in-Ok-configs.ensures ∙ ap (λ (l : List (Port g.row.F-Addr.Denot)). map config_of (filter (is_of A) l)) c.deref.ensures.value in
    c.requires.a ∙ sym
    (as_many g.F.Family.bytes_of (filter (is_of A) ports) c.deref-3.result.now c.args.routes.now c.args.captures.now.limit c.in-Ok-router_of.router same_a c.in-Ok-router_of.ensures.1)

pub same_into-reported-requires-clause-ports_b : goal.same_into-reported-requires-clause-ports_b
same_into-reported-requires-clause-ports_b g c =
    let ports : List (Port g.row.F-Addr.Denot) = c.args.captures.now.ports.items in
    let same_b : c.deref-4.result.now ≡ map config_of (filter (is_of B) ports) =
    c.deref-4.ensures.value ∙ c.in-Ok-configs-2.ensures ∙ ap (λ (l : List (Port g.row.F-Addr.Denot)). map config_of (filter (is_of B) l)) c.deref-2.ensures.value in
    c.requires.b ∙ sym
    (as_many g.F.Family.bytes_of (filter (is_of B) ports) c.deref-4.result.now c.args.routes.now c.args.captures.now.limit c.in-Ok-router_of-2.router same_b c.in-Ok-router_of-2.ensures.1)

pub change_into-reported-requires-clause-ports_a : goal.change_into-reported-requires-clause-ports_a
change_into-reported-requires-clause-ports_a g c =
    let ports : List (Port g.row.F-Addr.Denot) = c.args.captures.now.ports.items in
    let same_a : c.deref-3.result.now ≡ map config_of (filter (is_of A) ports) =
    c.deref-3.ensures.value ∙ c.in-Ok-configs.ensures ∙ ap (λ (l : List (Port g.row.F-Addr.Denot)). map config_of (filter (is_of A) l)) c.deref.ensures.value in
    c.requires.a ∙ sym
    (as_many g.F.Family.bytes_of (filter (is_of A) ports) c.deref-3.result.now c.args.routes.now c.args.captures.now.limit c.in-Ok-router_of.router same_a c.in-Ok-router_of.ensures.1)

pub change_into-reported-requires-clause-ports_b : goal.change_into-reported-requires-clause-ports_b
change_into-reported-requires-clause-ports_b g c =
    let ports : List (Port g.row.F-Addr.Denot) = c.args.captures.now.ports.items in
    let same_b : c.deref-4.result.now ≡ map config_of (filter (is_of B) ports) =
    c.deref-4.ensures.value ∙ c.in-Ok-configs-2.ensures ∙ ap (λ (l : List (Port g.row.F-Addr.Denot)). map config_of (filter (is_of B) l)) c.deref-2.ensures.value in
    c.requires.b ∙ sym
    (as_many g.F.Family.bytes_of (filter (is_of B) ports) c.deref-4.result.now c.args.routes.now c.args.captures.now.limit c.in-Ok-router_of-2.router same_b c.in-Ok-router_of-2.ensures.1)

pub returns-in-Same-clause-runs : goal.returns-in-Same-clause-runs
returns-in-Same-clause-runs g c =
    let bytes_of = g.F.Family.bytes_of in
    let ports : List (Port g.row.F-Addr.Denot) = c.args.captures.now.ports.items in
    let setup : List (PortConfig g.row.F-Addr.Denot) → Setup = λ configs. setup_seen bytes_of configs c.args.routes.now c.args.captures.now.limit in
    let same_a : c.deref-3.result.now ≡ map config_of (filter (is_of A) ports) =
    c.deref-3.ensures.value ∙ c.in-Ok-configs.ensures ∙ ap (λ (l : List (Port g.row.F-Addr.Denot)). map config_of (filter (is_of A) l)) c.deref.ensures.value in
    let same_b : c.deref-4.result.now ≡ map config_of (filter (is_of B) ports) =
    c.deref-4.ensures.value ∙ c.in-Ok-configs-2.ensures ∙ ap (λ (l : List (Port g.row.F-Addr.Denot)). map config_of (filter (is_of B) l)) c.deref-2.ensures.value in
    rw (c.in-Same.is)
    (ran _ _ _ (of_router A (port_files c.args.captures.now)) (of_router B (port_files c.args.captures.now)) g.F.Family.family bytes_of
    (c.same_into-reported.new.router_a, c.same_into-reported.new.router_b) c.same_into-reported.result c.answer_of.result
    (rw (← c.end_of-end.ensures.end) (as_made (λ w s t. Compares g.F.Family.family c.end_of-end.result w c.args.pair.now.a c.same_into-reported.new.merge_a s c.same_into-reported.new.router_a
    c.args.pair.now.b c.same_into-reported.new.merge_b t c.same_into-reported.new.router_b bytes_of (g.W.Drain.contents c.args.writer.now) (g.W.Drain.contents c.same_into-reported.new.writer) c.same_into-reported.result)
    c.in-Ok.by (writing_of bytes_of c.args.requested.1.now) c.in-Ok-router_of.router (new_router (setup (map config_of (filter (is_of A) ports)))) c.in-Ok-router_of-2.router (new_router (setup (map config_of (filter (is_of B) ports))))
    c.in-Ok.ensures.0 (c.in-Ok-router_of.ensures.1 ∙ ap new_router (ap setup same_a)) (c.in-Ok-router_of-2.ensures.1 ∙ ap new_router (ap setup same_b)) c.same_into-reported.ensures.compares))
    c.answer_of.ensures)

pub returns-in-Same-clause-count : goal.returns-in-Same-clause-count
returns-in-Same-clause-count g c =
    rw (c.answer_of.ensures)
    (c.same_into-reported.ensures.count ∙ failures_answered (of_router A (port_files c.args.captures.now)) (of_router B (port_files c.args.captures.now)) g.F.Family.family g.F.Family.bytes_of (g.W.Drain.failures c.args.writer.now) c.same_into-reported.result)

pub returns-clause-runs : goal.returns-clause-runs
returns-clause-runs g c =
    let bytes_of = g.F.Family.bytes_of in
    let ports : List (Port g.row.F-Addr.Denot) = c.args.captures.now.ports.items in
    let setup : List (PortConfig g.row.F-Addr.Denot) → Setup = λ configs. setup_seen bytes_of configs c.args.routes.now c.args.captures.now.limit in
    let same_a : c.deref-3.result.now ≡ map config_of (filter (is_of A) ports) =
    c.deref-3.ensures.value ∙ c.in-Ok-configs.ensures ∙ ap (λ (l : List (Port g.row.F-Addr.Denot)). map config_of (filter (is_of A) l)) c.deref.ensures.value in
    let same_b : c.deref-4.result.now ≡ map config_of (filter (is_of B) ports) =
    c.deref-4.ensures.value ∙ c.in-Ok-configs-2.ensures ∙ ap (λ (l : List (Port g.row.F-Addr.Denot)). map config_of (filter (is_of B) l)) c.deref-2.ensures.value in
    rw (c.in-Change.is)
    (ran _ _ _ (of_router A (port_files c.args.captures.now)) (of_router B (port_files c.args.captures.now)) g.F.Family.family bytes_of
    (c.change_into-reported.new.router_a, c.change_into-reported.new.router_b) c.change_into-reported.result c.answer_of-in-Change.result
    (rw (← c.end_of-end.ensures.end) (as_made (λ w s t. WritesChange g.F.Family.family c.end_of-end.result w c.args.captures.now.limit c.args.pair.now.a c.change_into-reported.new.merge_a s c.change_into-reported.new.router_a
    c.args.pair.now.b c.change_into-reported.new.merge_b t c.change_into-reported.new.router_b bytes_of (g.W.Drain.contents c.args.writer.now) (g.W.Drain.contents c.change_into-reported.new.writer) c.change_into-reported.result)
    c.in-Ok.by (writing_of bytes_of c.args.requested.1.now) c.in-Ok-router_of.router (new_router (setup (map config_of (filter (is_of A) ports)))) c.in-Ok-router_of-2.router (new_router (setup (map config_of (filter (is_of B) ports))))
    c.in-Ok.ensures.0 (c.in-Ok-router_of.ensures.1 ∙ ap new_router (ap setup same_a)) (c.in-Ok-router_of-2.ensures.1 ∙ ap new_router (ap setup same_b)) c.change_into-reported.ensures.text))
    c.answer_of-in-Change.ensures)

pub returns-clause-count : goal.returns-clause-count
returns-clause-count g c =
    rw (c.answer_of-in-Change.ensures)
    (c.change_into-reported.ensures.count ∙ failures_answered (of_router A (port_files c.args.captures.now)) (of_router B (port_files c.args.captures.now)) g.F.Family.family g.F.Family.bytes_of (g.W.Drain.failures c.args.writer.now) c.change_into-reported.result)
