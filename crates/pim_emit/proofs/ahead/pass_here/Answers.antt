use Rattle.std.proofs.Common.{◌≡◌, ◌∙◌, List, ℕ, Option, Some, None, option_map, sym, ap, subst}
use Rattle.pim_emit.specs.Ahead.{IsAheadOn, SourceAhead, its_source}
use Rattle.pim_emit.proofs.NextAhead.{with_left, goes_on}
use Rattle.pim_emit.proofs.ahead.pass_here.Goals as goal

-- what comes next is what is passed
its_own : (inside seen : SourceAhead) (old : Option SourceAhead) (passed : List ℕ) → inside ≡ seen → old ≡ Some seen → its_source old ≡ Some passed → inside.source ≡ passed
its_own inside seen old passed same is named = cc

pub returns-in-Some-next_source : goal.returns-in-Some-next_source
returns-in-Some-next_source g c = λ group passed bound named was.
    let state = c.args.ports.now in
    let inside : SourceAhead = record { source = g.F.Family.bytes_of c.ahead.inside.source; left = c.ahead.inside.left } in
    let next : Option (List ℕ) = Some (g.F.Family.bytes_of c.in-Some-next_source.source) in
    subst (λ (s : List ℕ). IsAheadOn state group (Some s) c.args.port (option_map (with_left c.next_source.new.left) next)) (its_own inside c.in-Some.ahead c.args.next.now passed c.ahead.view_is c.in-Some.is named)
    (goes_on state group c.args.port bound g.F.Family.family c.is_sound.ensures inside c.next_source.new.left next
    (subst (λ (n : Option SourceAhead). IsAheadOn state group bound c.args.port n) (c.in-Some.is ∙ ap (λ (s : SourceAhead). Some s) (sym c.ahead.view_is)) was)
    c.in-Some-next_source.ensures)

pub returns-in-None : goal.returns-in-None
returns-in-None g c = λ group passed bound named was.
    let state = c.args.ports.now in
    let inside : SourceAhead = record { source = g.F.Family.bytes_of c.ahead.inside.source; left = c.ahead.inside.left } in
    subst (λ (s : List ℕ). IsAheadOn state group (Some s) c.args.port None) (its_own inside c.in-Some.ahead c.args.next.now passed c.ahead.view_is c.in-Some.is named)
    (goes_on state group c.args.port bound g.F.Family.family c.is_sound.ensures inside c.next_source.new.left None
    (subst (λ (n : Option SourceAhead). IsAheadOn state group bound c.args.port n) (c.in-Some.is ∙ ap (λ (s : SourceAhead). Some s) (sym c.ahead.view_is)) was)
    c.in-None.ensures)
