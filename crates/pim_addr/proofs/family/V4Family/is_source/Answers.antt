use Rattle.pim_addr.proofs.Numbers.{low_source}
use Rattle.pim_addr.proofs.family.V4Family.is_source.Goals as goal

pub returns-then-number-lt3758096384 : goal.returns-then-number-lt3758096384
returns-then-number-lt3758096384 c =
    low_source c.args.address c.number-number.result c.address_has_its_bytes.ensures c.number-number.ensures c.if-number-lt3758096384.true
