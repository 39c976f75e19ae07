use Rattle.pim_form.proofs.Words.{◌≡◌, ◌∙◌, ◌++◌, List, sym, ap, subst, GroupForm, form_seen, place_seen, IsDraft}
use Rattle.pim_form.proofs.Words.{both_groups, merged}
use Rattle.pim_form.proofs.Merging.{Adds, merge_less, merge_equal, merge_greater, merged_first, merged_second}
use Rattle.pim_form.proofs.merge.push_merged.Given.{Over}
use Rattle.pim_form.proofs.merge.push_merged.Goals as goal
use Rattle.pim_form.proofs.merge.push_merged.Goals.{in-Some+in_default-split_first, in_default}

pub loop-a-preserved-in-Less : goal.loop-a-preserved-in-Less
loop-a-preserved-in-Less g c =
    let bytes_of = g.F.Family.bytes_of in
    let here : c.group_at-first.result ≡ place_seen bytes_of c.one.inside.row.items c.in-Some.a.now = c.group_at-first.ensures ∙ ap (λ row. place_seen bytes_of row c.in-Some.a.now) c.deref.ensures.value in
    merge_less bytes_of g.F.Family.family c.one.inside.row.items c.other.inside.row.items _ _ _ _ c.in-Some.a.now c.in-Some-split_first.b.now c.loop-a.row.items c.push_group.new.row.items c.loop-a.places.items c.push_group.new.places.items _
    c.in-Some.ensures.cases.0 c.in-Some-split_first.ensures.cases.0 c.loop-a.invariant (sym (g.met.F.Family.order_of_bytes c.in-Some.a.now.group c.in-Some-split_first.b.now.group) ∙ sym c.in-Less.ensures)
    (subst (Adds bytes_of c.loop-a.row.items c.push_group.new.row.items c.loop-a.places.items c.push_group.new.places.items) here c.in_ok-push_group-in-Less.ensures)

pub loop-a-preserved-in-Equal : goal.loop-a-preserved-in-Equal
loop-a-preserved-in-Equal g c =
    let bytes_of = g.F.Family.bytes_of in
    let first : c.group_at-first.result ≡ place_seen bytes_of c.one.inside.row.items c.in-Some.a.now = c.group_at-first.ensures ∙ ap (λ row. place_seen bytes_of row c.in-Some.a.now) c.deref.ensures.value in
    let second : c.group_at-second.result ≡ place_seen bytes_of c.other.inside.row.items c.in-Some-split_first.b.now = c.group_at-second.ensures ∙ ap (λ row. place_seen bytes_of row c.in-Some-split_first.b.now) c.deref-in-Some.ensures.value in
    let here : both_groups c.group_at-first.result c.group_at-second.result ≡ both_groups (place_seen bytes_of c.one.inside.row.items c.in-Some.a.now) (place_seen bytes_of c.other.inside.row.items c.in-Some-split_first.b.now) = λ i. both_groups (first i) (second i) in
    merge_equal bytes_of g.F.Family.family c.one.inside.row.items c.other.inside.row.items _ _ _ _ c.in-Some.a.now c.in-Some-split_first.b.now c.loop-a.row.items c.push_both.new.row.items c.loop-a.places.items c.push_both.new.places.items _
    c.in-Some.ensures.cases.0 c.in-Some-split_first.ensures.cases.0 c.loop-a.invariant (sym (g.met.F.Family.order_of_bytes c.in-Some.a.now.group c.in-Some-split_first.b.now.group) ∙ sym c.in-Equal.ensures)
    (subst (Adds bytes_of c.loop-a.row.items c.push_both.new.row.items c.loop-a.places.items c.push_both.new.places.items) here c.in_ok-push_both-in-Equal.ensures)

pub loop-a-preserved : goal.loop-a-preserved
loop-a-preserved g c =
    let bytes_of = g.F.Family.bytes_of in
    let here : c.group_at-second.result ≡ place_seen bytes_of c.other.inside.row.items c.in-Some-split_first.b.now = c.group_at-second.ensures ∙ ap (λ row. place_seen bytes_of row c.in-Some-split_first.b.now) c.deref-in-Some.ensures.value in
    merge_greater bytes_of g.F.Family.family c.one.inside.row.items c.other.inside.row.items _ _ _ _ c.in-Some.a.now c.in-Some-split_first.b.now c.loop-a.row.items c.push_group-in-Greater.new.row.items c.loop-a.places.items c.push_group-in-Greater.new.places.items _
    c.in-Some.ensures.cases.0 c.in-Some-split_first.ensures.cases.0 c.loop-a.invariant (sym (g.met.F.Family.order_of_bytes c.in-Some.a.now.group c.in-Some-split_first.b.now.group) ∙ sym c.in-Greater.ensures)
    (subst (Adds bytes_of c.loop-a.row.items c.push_group-in-Greater.new.row.items c.loop-a.places.items c.push_group-in-Greater.new.places.items) here c.in_ok-push_group-in-Greater.ensures)

-- what is appended in the end
whole : (g : Over) (c : goal.In_ok-push_groups-2 g) → IsDraft g.F.Family.bytes_of c.push_groups-2.new.row.items c.push_groups-2.new.places.items (merged (form_seen g.F.Family.bytes_of c.one.inside.row.items c.one.inside.places.items) (form_seen g.F.Family.bytes_of c.other.inside.row.items c.other.inside.places.items))
whole g c =
    let bytes_of = g.F.Family.bytes_of in
    let row = c.loop-a.row.items in
    let left = c.loop-a.left.now in
    let right = c.loop-a.right.now in
    let first = λ (form : List GroupForm) (draft : IsDraft bytes_of row c.loop-a.places.items form). subst (λ l. IsDraft bytes_of c.push_groups.new.row.items c.push_groups.new.places.items (form ++ l)) (c.new.ensures ∙ ap (λ r. form_seen bytes_of r left) c.deref-2.ensures.value) (c.in_ok-push_groups.ensures form draft) in
    let second = λ (form : List GroupForm) (draft : IsDraft bytes_of c.push_groups.new.row.items c.push_groups.new.places.items form). subst (λ l. IsDraft bytes_of c.push_groups-2.new.row.items c.push_groups-2.new.places.items (form ++ l)) (c.new-2.ensures ∙ ap (λ r. form_seen bytes_of r right) c.deref-3.ensures.value) (c.in_ok-push_groups-2.ensures form draft) in
    elim c.match-split_first.branch [
      | in-Some+in_default-split_first w ↦ merged_second bytes_of g.F.Family.family c.one.inside.row.items c.other.inside.row.items left right row c.push_groups.new.row.items c.push_groups-2.new.row.items c.loop-a.places.items c.push_groups.new.places.items c.push_groups-2.new.places.items _ first second c.loop-a.invariant w.in_default-split_first.ensures.cases
      | in_default w ↦ merged_first bytes_of g.F.Family.family c.one.inside.row.items c.other.inside.row.items left right row c.push_groups.new.row.items c.push_groups-2.new.row.items c.loop-a.places.items c.push_groups.new.places.items c.push_groups-2.new.places.items _ first second c.loop-a.invariant w.in_default.ensures.cases
    ]

pub returns : goal.returns
returns g c =
    let one = c.one.view_is in
    let other = c.other.view_is in
    subst (IsDraft g.F.Family.bytes_of c.push_groups-2.new.row.items c.push_groups-2.new.places.items) (λ i. merged (one i) (other i)) (whole g c)
