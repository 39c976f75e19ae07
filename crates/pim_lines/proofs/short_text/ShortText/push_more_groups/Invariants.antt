use Rattle.std.proofs.Common.{◌≡◌, ◌+◌, ◌*◌, ◌≤◌, ◌++◌, length, take, codes}
use Rattle.std.specs.List.{flat_map}
use Rattle.std.specs.Net.Text.{hex}
use Rattle.pim_lines.proofs.short_text.ShortText.push_more_groups.Given as goal

abbrev pub invariant-loop-group : goal.invariant-loop-group
invariant-loop-group l =
    (l.self ≡ l.fn.self ++ flat_map (λ group. codes ":" ++ hex group) (take l.group-index l.groups))
    × (length l.self ≤ length l.fn.self + 5 * l.group-index)
