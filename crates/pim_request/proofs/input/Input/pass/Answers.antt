use Rattle.std.proofs.Common.{sym, ap, arith, ◌≤◌, ◌+◌, ◌-◌, length, take, drop, length-take}
use Rattle.pim_request.proofs.Places.{passed}
use Rattle.pim_request.proofs.input.Input.pass.Goals as goal

pub returns : goal.returns
returns g c =
    let low : c.args.count ≤ length (take (c.self.inside.end - c.self.inside.start) (drop c.self.inside.start c.self.inside.buffer.items)) = rw (← c.self.view_is) at c.requires in
    let within : c.self.inside.start + c.args.count ≤ c.self.inside.end = omega (arith, low, c.self.invariant.order, length-take (c.self.inside.end - c.self.inside.start) (drop c.self.inside.start c.self.inside.buffer.items)) in
    rw (← c.self.view_is) (ap (λ bytes. record { line = take c.self.inside.line_length (drop c.self.inside.line_start c.self.inside.buffer.items); pending = bytes; remaining = g.R.Feed.remaining c.self.inside.reader; unread = c.self.inside.unread; failures = g.R.Feed.failures c.self.inside.reader }) (sym (passed c.self.inside.buffer.items c.self.inside.start c.self.inside.end c.args.count within)))
