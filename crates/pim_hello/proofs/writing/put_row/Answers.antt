use Rattle.pim_hello.proofs.Words.{◌≡◌, ◌++◌, ◌∙◌, ap, sym, ℕ, List, length, arith, append_assoc, length-append}
use Rattle.pim_hello.proofs.Words.{addresses_seen, row_spelled}
use Rattle.pim_hello.proofs.Spelled.{first_size, first_length, take_two}
use Rattle.pim_hello.proofs.writing.put_row.Goals as goal

pub split_at_mut-first-requires : goal.split_at_mut-first-requires
split_at_mut-first-requires g c =
    let size = first_size g.F.Family.family c.loop-address.address-iterator.row.now _ _ c.in-Some.ensures.steps in
    omega (arith, size, c.loop-address.invariant.inside, c.unicast_length-size.ensures, c.split_at_mut-rest.ensures.back_len)

pub loop-address-preserved : goal.loop-address-preserved
loop-address-preserved g c =
    let front = c.split_at_mut-rest.result.0.now in
    let tail = c.split_at_mut-first.result.1.now in
    let out = c.put_unicast.new.bytes in
    let left = row_spelled g.F.Family.family (addresses_seen g.F.Family.family c.next.new.self) in
    let size = first_size g.F.Family.family c.loop-address.address-iterator.row.now _ _ c.in-Some.ensures.steps in
    let length_is = first_length g.F.Family.family c.loop-address.address-iterator.row.now _ _ c.in-Some.ensures.steps in
    let out_length : length out ≡ c.unicast_length-size.result = ap length c.put_unicast.ensures.written ∙ length_is ∙ sym c.unicast_length-size.ensures in
    let two = take_two c.loop-address.at c.unicast_length-size.result front out tail c.split_at_mut-rest.ensures.front_len out_length in
    let then : out ++ left ≡ row_spelled g.F.Family.family (addresses_seen g.F.Family.family c.loop-address.address-iterator) =
    ap (λ (bytes : List ℕ). bytes ++ left) c.put_unicast.ensures.written ∙ sym (ap (row_spelled g.F.Family.family) c.in-Some.ensures.steps) in
    record {
      inside = omega (
        arith,
        size,
        out_length,
        c.loop-address.invariant.inside,
        c.unicast_length-size.ensures,
        length-append front (out ++ tail),
        length-append out tail,
        c.split_at_mut-rest.ensures.front_len,
        c.split_at_mut-rest.ensures.back_len,
        c.split_at_mut-first.ensures.back_len,
      );
      written = ap (λ (bytes : List ℕ). bytes ++ left) two ∙ append_assoc front out left ∙ ap (λ (bytes : List ℕ). front ++ bytes) then
          ∙ ap (λ (bytes : List ℕ). bytes ++ row_spelled g.F.Family.family (addresses_seen g.F.Family.family c.loop-address.address-iterator)) c.split_at_mut-rest.ensures.front
          ∙ c.loop-address.invariant.written;
    }
