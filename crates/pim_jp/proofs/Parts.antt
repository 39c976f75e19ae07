-- The faults of one part, and then of those behind it.
use Rattle.pim_jp.proofs.Words.{◌≡◌, ℕ, ◌+◌, ◌≤◌, false, List, [], length, drop, nat_lt, refl, le-ltb, AddressFamily}
use Rattle.pim_jp.proofs.Words.{JpFault, Shape, Part, part_then, part_faults, faults_of, Reports}
use Rattle.pim_jp.proofs.Judged.{judged_first}

pub part_passes : (family : AddressFamily) (shape : Shape) (size at : ℕ) (bytes : List ℕ) (next : ℕ → List ℕ → List Part)
    → part_faults family (record { shape = shape; at = at; bytes = bytes }) ≡ [] → size ≤ length bytes
    → faults_of family (part_then shape size at bytes next) ≡ faults_of family (next (at + size) (drop size bytes))
part_passes family shape size at bytes next none whole =
    let not_short : nat_lt (length bytes) size ≡ false = le-ltb _ _ whole in
    rw (none, not_short) refl

pub part_stops : (family : AddressFamily) (shape : Shape) (size at : ℕ) (bytes : List ℕ) (next : ℕ → List ℕ → List Part) (fault : JpFault)
    → Reports (part_faults family (record { shape = shape; at = at; bytes = bytes })) fault
    → Reports (faults_of family (part_then shape size at bytes next)) fault
part_stops family shape size at bytes next fault reported = judged_first _ _ _ _ _ reported
