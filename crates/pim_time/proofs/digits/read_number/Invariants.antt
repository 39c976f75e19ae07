use Rattle.pim_time.proofs.Words.{◌≡◌, take, AllDigits, digits_value}
use Rattle.pim_time.proofs.digits.read_number.Given as goal

abbrev pub invariant-loop-byte : goal.invariant-loop-byte
invariant-loop-byte l = AllDigits 10 (take l.byte-index l.text) × (l.number ≡ digits_value 10 (take l.byte-index l.text))
