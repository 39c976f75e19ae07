use Rattle.std.proofs.Common.{◌≡◌, ◌∙◌, ap, ℕ, List, length, map, arith, take, refl, ◌++◌}
use Rattle.pim_hello.proofs.Words.{address_length, row_spelled, address_spelled}
use Rattle.pim_hello.proofs.Spelled.{take_two}
use Rattle.pim_hello.proofs.Each.{room, one_written, one_long, none_long}
use Rattle.pim_hello.proofs.writing.put_each.Goals as goal

pub loop-address-init : goal.loop-address-init
loop-address-init g c = record { at = omega arith; written = refl; long = none_long g.F.Family.family }

pub split_at_mut-first-requires : goal.split_at_mut-first-requires
split_at_mut-first-requires g c =
    let fits = room c.loop-address.address-index _ _ c.loop-address.at c.unicast_length-size.result _ c.loop-address-test.true c.loop-address.invariant.at c.unicast_length-size.ensures c.requires in
    omega (arith, fits, c.split_at_mut-rest.ensures.back_len)

pub loop-address-preserved : goal.loop-address-preserved
loop-address-preserved g c =
    let front = c.split_at_mut-rest.result.0.now in
    let tail = c.split_at_mut-first.result.1.now in
    let out = c.put_unicast.new.bytes in
    let family = g.F.Family.family in
    let bytes_of = g.F.Family.bytes_of in
    let item = c.address-item.result in
    let i = c.loop-address.address-index in
    let out_length : length out ≡ c.unicast_length-size.result = omega (arith, c.split_at_mut-first.ensures.front_len) in
    let spelled : out ≡ address_spelled family (bytes_of item) = c.put_unicast.ensures.written in
    let long : length (bytes_of item) ≡ address_length family = omega (arith, ap length spelled, out_length, c.unicast_length-size.ensures) in
    let two = take_two c.loop-address.at c.unicast_length-size.result front out tail c.split_at_mut-rest.ensures.front_len out_length in
    record {
      at = omega (arith, c.loop-address.invariant.at, c.unicast_length-size.ensures);
      written = two ∙ ap (λ (bytes : List ℕ). bytes ++ out) (c.split_at_mut-rest.ensures.front ∙ c.loop-address.invariant.written)
          ∙ ap (λ (bytes : List ℕ). row_spelled family (map bytes_of (take i c.args.addresses.now)) ++ bytes) spelled
          ∙ one_written bytes_of family c.args.addresses.now i item c.loop-address-test.true c.address-item.is;
      long = one_long bytes_of family c.args.addresses.now i item c.loop-address-test.true c.address-item.is c.loop-address.invariant.long long;
    }
