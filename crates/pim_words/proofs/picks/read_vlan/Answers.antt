use Rattle.pim_words.proofs.Words.{None, Some, refl, inl, inr, lit<, split_parts}
use Rattle.pim_words.proofs.Picking.{no_tag, no_tags}
use Rattle.pim_words.proofs.picks.read_vlan.Goals as goal

pub returns-in-Some-number_between : goal.returns-in-Some-number_between
returns-in-Some-number_between c = inl (record { whole = split_parts 46 c.args.text.now None c.in_default.ensures.cases (lit< tt); outer = c.in-Some-number_between.ensures; inner = refl })

pub returns-in-None : goal.returns-in-None
returns-in-None c = no_tag c.args.text.now (split_parts 46 c.args.text.now None c.in_default.ensures.cases (lit< tt)) c.in-None.ensures

pub returns-in_default-number_between : goal.returns-in_default-number_between
returns-in_default-number_between c =
    let parts = split_parts 46 c.args.text.now (Some (c.in-Some.outer, c.in-Some.inner)) c.in-Some.ensures.cases (lit< tt) in
    no_tags c.args.text.now c.in-Some.outer.now c.in-Some.inner.now parts.0 parts.1 (inl c.in_default-number_between.ensures)

pub returns-in-Some-number_between-3 : goal.returns-in-Some-number_between-3
returns-in-Some-number_between-3 c =
    let parts = split_parts 46 c.args.text.now (Some (c.in-Some.outer, c.in-Some.inner)) c.in-Some.ensures.cases (lit< tt) in
    inr (record {
      first = c.in-Some.outer.now;
      second = c.in-Some.inner.now;
      cut = parts.0;
      whole = parts.1;
      outer = c.in-Some-number_between-2.ensures;
      inner = c.in-Some-number_between-3.ensures;
    })

pub returns-in-None-number_between : goal.returns-in-None-number_between
returns-in-None-number_between c =
    let parts = split_parts 46 c.args.text.now (Some (c.in-Some.outer, c.in-Some.inner)) c.in-Some.ensures.cases (lit< tt) in
    no_tags c.args.text.now c.in-Some.outer.now c.in-Some.inner.now parts.0 parts.1 (inr c.in-None-number_between.ensures)
