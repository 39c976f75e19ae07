use Rattle.pim_request.proofs.Cited.{true, ◌≡◌, ◌∙◌, ap, refl, subst, inl, inr, ◌⊎◌, ℕ, ◌<◌, Option, Some, None, length, arith}
use Rattle.pim_request.proofs.Cited.{IfSome, IsAtEnd, Lines, IsReached, IsFeedAt, NoFeed, HasRead, room, coming_lines}
use Rattle.pim_request.proofs.Devices.{on_err, where_known}
use Rattle.pim_request.proofs.Found.{found_fed, found_unfed, found_long, taken_fed, long_early}
use Rattle.pim_request.proofs.input.Input.next_line.Goals as goal

fed : (P : Type 0) (reached : Option ℕ) (lines : Lines) (place : ℕ) → reached ≡ Some place → IsReached reached lines P → IsFeedAt place lines.pending
fed P reached lines place is at = subst (λ found. IsReached found lines P) is at

unfed : (P : Type 0) (reached : Option ℕ) (lines : Lines) → ((place : ℕ) → reached ≡ Some place → ⊥) → IsReached reached lines P → NoFeed lines.pending × ((length lines.pending ≡ room) ⊎ (IsAtEnd lines.remaining × P))
unfed P None lines none at = at
unfed P (Some place) lines none at = absurd (none place refl)

at_end : (P : Type 0) (lines : Lines) → length lines.pending < room → (length lines.pending ≡ room) ⊎ (IsAtEnd lines.remaining × P) → IsAtEnd lines.remaining
at_end P lines short (inl full) = absurd (omega arith)
at_end P lines short (inr ended) = ended.0

pub name_line-requires-clause-short : goal.name_line-requires-clause-short
name_line-requires-clause-short g c =
    let at = fed (g.W.Answers.passed_on c.reach_feed.new.answers ≡ g.W.Drain.contents c.reach_feed.new.answers) _ c.reach_feed.new.self _ c.in-Some.is c.in_ok-reached.ensures.reached in
    omega (arith, at.within, c.pending-count.ensures.within, ap length c.pending-count.ensures.bytes)

pub overflow_add-place : goal.overflow_add-place
overflow_add-place g c =
    let at = fed (g.W.Answers.passed_on c.reach_feed.new.answers ≡ g.W.Drain.contents c.reach_feed.new.answers) _ c.reach_feed.new.self _ c.in-Some.is c.in_ok-reached.ensures.reached in
    omega (arith, at.within, c.pending-count.ensures.within, ap length c.pending-count.ensures.bytes)

pub returns-in-Some-clause-line : goal.returns-in-Some-clause-line
returns-in-Some-clause-line g c =
    where_known (coming_lines c.args.self.now) (λ bytes coming. found_fed bytes c.reach_feed.new.self c.name_line.new.self c.pass.new.self c.found.result c.in-Some.place coming
    (fed (g.W.Answers.passed_on c.reach_feed.new.answers ≡ g.W.Drain.contents c.reach_feed.new.answers) _ c.reach_feed.new.self _ c.in-Some.is c.in_ok-reached.ensures.reached) c.name_line.ensures c.pass.ensures c.found.ensures.sort c.found.ensures.is_long)
    c.in_ok-reached.ensures.coming

pub returns-then-count-lt-ROOM-clause-line : goal.returns-then-count-lt-ROOM-clause-line
returns-then-count-lt-ROOM-clause-line g c =
    let at = unfed (g.W.Answers.passed_on c.reach_feed.new.answers ≡ g.W.Drain.contents c.reach_feed.new.answers) _ c.reach_feed.new.self c.in_default.not-Some c.in_ok-reached.ensures.reached in
    let size = ap length c.pending-count.ensures.bytes in
    where_known (coming_lines c.args.self.now) (λ bytes coming. found_unfed bytes c.reach_feed.new.self c.name_line-then-count-lt-ROOM.new.self c.pass-then-count-lt-ROOM.new.self c.found-then-count-lt-ROOM.result
    (length c.pending-count.result.now) coming at.0 (at_end (g.W.Answers.passed_on c.reach_feed.new.answers ≡ g.W.Drain.contents c.reach_feed.new.answers) c.reach_feed.new.self (omega (arith, size, c.if-count-lt-ROOM.true)) at.1) size (omega (arith, c.if-count-eq0.false))
    c.name_line-then-count-lt-ROOM.ensures c.pass-then-count-lt-ROOM.ensures c.found-then-count-lt-ROOM.ensures.sort c.found-then-count-lt-ROOM.ensures.is_long)
    c.in_ok-reached.ensures.coming

pub returns-clause-line : goal.returns-clause-line
returns-clause-line g c =
    let at = unfed (g.W.Answers.passed_on c.reach_feed.new.answers ≡ g.W.Drain.contents c.reach_feed.new.answers) _ c.reach_feed.new.self c.in_default.not-Some c.in_ok-reached.ensures.reached in
    where_known (coming_lines c.args.self.now) (λ bytes coming. found_long bytes c.pending.result.now c.reach_feed.new.self c.pass_line.new.self (record { sort = c.sort_of-sort.result; is_long = true }) coming
    c.pending.ensures.bytes at.0 (omega (arith, ap length c.pending-count.ensures.bytes, c.pending-count.ensures.within, c.if-count-lt-ROOM.false)) c.in_ok-pass_line.ensures.passed_over c.sort_of-sort.ensures refl)
    c.in_ok-reached.ensures.coming

pub returns-clause-left : goal.returns-clause-left
returns-clause-left g c =
    omega (arith, c.in_ok-pass_line.ensures.left, c.in_ok-reached.ensures.left, ap length c.pending-count.ensures.bytes, c.if-count-eq0.false)

pub returns-in-Some-clause-at_once : goal.returns-in-Some-clause-at_once
returns-in-Some-clause-at_once g c = λ fed_before.
    let same = c.in_ok-reached.ensures.at_once fed_before in (
      taken_fed c.args.self.now.pending c.reach_feed.new.self c.name_line.new.self c.pass.new.self c.found.result c.in-Some.place (ap (λ (lines : Lines). lines.pending) same.1)
          (fed (g.W.Answers.passed_on c.reach_feed.new.answers ≡ g.W.Drain.contents c.reach_feed.new.answers) _ c.reach_feed.new.self _ c.in-Some.is c.in_ok-reached.ensures.reached) c.name_line.ensures c.pass.ensures c.found.ensures.sort c.found.ensures.is_long,
      same.2,
      ap (λ (lines : Lines). lines.unread) c.pass.ensures ∙ ap (λ (lines : Lines). lines.unread) c.name_line.ensures ∙ ap (λ (lines : Lines). lines.unread) same.1,
    )

pub returns-in_err-pass_line-clause-early : goal.returns-in_err-pass_line-clause-early
returns-in_err-pass_line-clause-early g c =
    let at = unfed (g.W.Answers.passed_on c.reach_feed.new.answers ≡ g.W.Drain.contents c.reach_feed.new.answers) _ c.reach_feed.new.self c.in_default.not-Some c.in_ok-reached.ensures.reached in
    on_err (IfSome (coming_lines c.args.self.now) (λ bytes. HasRead bytes NoFeed c.pass_line.new.self)) c.from_residual-in_err-pass_line.result
    (where_known (coming_lines c.args.self.now) (λ bytes coming. long_early bytes c.reach_feed.new.self c.pass_line.new.self coming at.0 c.in_err-pass_line.ensures.early)
    c.in_ok-reached.ensures.coming)
