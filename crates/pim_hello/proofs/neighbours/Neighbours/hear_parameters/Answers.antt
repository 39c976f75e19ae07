use Rattle.pim_hello.proofs.Words.{◌∙◌, sym, ap, refl, rules, option_map, false≢true, parameters_seen, kept_seen}
use Rattle.pim_hello.proofs.Words.{heard_unless_goodbye}
use Rattle.pim_hello.proofs.Kept.{goodbye_seen, keeps_seen, record_of_seen, full_seen, memory_seen, no_room_seen}
use Rattle.pim_hello.proofs.neighbours.Neighbours.hear_parameters.Goals as goal

pub returns-then-says_goodbye : goal.returns-then-says_goodbye
returns-then-says_goodbye g c = rw (← c.self.view_is) (record {
  answer = search rules;
  table = (goodbye_seen g.F.Addr.Ord.cmp g.F.Family.bytes_of g.met.F.Family.order_of_bytes c.self.inside.moment c.args.now c.max-moment.result c.max-moment.ensures
      c.args.from c.args.hello.now c.self.inside.roster.neighbours.entries _ (sym c.says_goodbye.ensures ∙ c.if-says_goodbye.true) c.remove.ensures.removed);
  full = search rules;
  memory = search rules;
  unchanged = search rules;
})

pub returns-then-lacks_room : goal.returns-then-lacks_room
returns-then-lacks_room g c = rw (← c.self.view_is) (record {
  answer = search rules;
  table = search rules;
  full = (
    λ _. full_seen g.F.Addr.Ord.cmp g.F.Family.bytes_of g.met.F.Family.order_of_bytes c.self.inside.moment c.args.from c.self.inside.roster.neighbours.entries (parameters_seen c.args.hello.now)
        _ _ _ (sym c.says_goodbye.ensures ∙ c.if-says_goodbye.false) c.get-known.ensures c.len.ensures c.lacks_room.ensures ∙ c.if-lacks_room.true,
    λ _. refl,
  );
  memory = (λ t. absurd (false≢true (sym (no_room_seen g.F.Addr.Ord.cmp g.F.Family.bytes_of g.met.F.Family.order_of_bytes c.self.inside.moment c.args.from c.self.inside.roster.neighbours.entries
      (parameters_seen c.args.hello.now) _ _ (sym c.says_goodbye.ensures ∙ c.if-says_goodbye.false) c.get-known.ensures (sym c.lacks_room.ensures ∙ c.if-lacks_room.true)) ∙ t)));
  unchanged = search rules;
})

pub returns-in_default : goal.returns-in_default
returns-in_default g c = rw (← c.self.view_is) (record {
  answer = search rules;
  table = search rules;
  full = (let full = full_seen g.F.Addr.Ord.cmp g.F.Family.bytes_of g.met.F.Family.order_of_bytes c.self.inside.moment c.args.from c.self.inside.roster.neighbours.entries (parameters_seen c.args.hello.now)
      _ _ _ (sym c.says_goodbye.ensures ∙ c.if-says_goodbye.false) c.get-known.ensures c.len.ensures c.lacks_room.ensures ∙ c.if-lacks_room.false in
      (λ p. cc, λ t. absurd (false≢true (sym full ∙ t))));
  memory = (λ t. absurd (false≢true (sym (memory_seen g.F.Addr.Ord.cmp g.F.Family.bytes_of g.met.F.Family.order_of_bytes c.self.inside.moment c.args.from c.self.inside.roster.neighbours.entries
      c.args.hello.now c.end_of_time.result c.max-moment.result (sym c.says_goodbye.ensures ∙ c.if-says_goodbye.false) c.end_of_time.ensures c.in_default.ensures.refused) ∙ t)));
  unchanged = search rules;
})

pub returns : goal.returns
returns g c = rw (← c.self.view_is) (record {
  answer = (c.heard_as.ensures ∙ ap (λ o. heard_unless_goodbye (option_map (kept_seen 0) o) (parameters_seen c.args.hello.now)) c.get-known.ensures
      ∙ record_of_seen g.F.Addr.Ord.cmp g.F.Family.bytes_of g.met.F.Family.order_of_bytes c.self.inside.moment c.args.from c.self.inside.roster.neighbours.entries (parameters_seen c.args.hello.now)
      (sym c.says_goodbye.ensures ∙ c.if-says_goodbye.false));
  table = (keeps_seen g.F.Addr.Ord.cmp g.F.Family.bytes_of g.met.F.Family.order_of_bytes c.self.inside.moment c.args.now c.max-moment.result c.max-moment.ensures
      c.args.from c.args.hello.now c.end_of_time.result c.self.inside.roster.neighbours.entries _ (sym c.says_goodbye.ensures ∙ c.if-says_goodbye.false) c.end_of_time.ensures c.in-Ok.ensures.kept);
  full = (let full = full_seen g.F.Addr.Ord.cmp g.F.Family.bytes_of g.met.F.Family.order_of_bytes c.self.inside.moment c.args.from c.self.inside.roster.neighbours.entries (parameters_seen c.args.hello.now)
      _ _ _ (sym c.says_goodbye.ensures ∙ c.if-says_goodbye.false) c.get-known.ensures c.len.ensures c.lacks_room.ensures ∙ c.if-lacks_room.false in
      (λ p. cc, λ t. absurd (false≢true (sym full ∙ t))));
  memory = search rules;
  unchanged = search rules;
})
