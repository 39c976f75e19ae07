use Rattle.std.proofs.Common.{◌≡◌, ◌+◌, ◌++◌, length, take, ap, ◌∙◌, arith, length-append, length-take-le}
use Rattle.pim_lines.proofs.Copied.{written}
use Rattle.pim_lines.proofs.short_text.ShortText.push.Goals as goal

pub returns : goal.returns
returns c =
    let front = take c.self.inside.length c.self.inside.text in
    let bytes = c.args.bytes.now in
    let long : length front ≡ c.self.inside.length = length-take-le c.self.inside.length c.self.inside.text (omega arith) in
    ap (take (c.self.inside.length + length bytes)) c.put_at.ensures
    ∙ written front bytes _ (c.self.inside.length + length bytes) (length-append front bytes ∙ ap (λ n. n + length bytes) long)
    ∙ ap (λ l. l ++ bytes) c.self.view_is
