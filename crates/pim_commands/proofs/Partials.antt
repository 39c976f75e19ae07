-- How the faults of a message become the results of `check --partial`.
use Rattle.pim_commands.proofs.Words.{◌≡◌, ℕ, ◌≤◌, List, length, Option, None, Some, Result, Ok, Err, Bool, true, false, refl, sym, ap, ◌∙◌}
use Rattle.pim_commands.proofs.Words.{IfSome, Appends, AppendsFront, Keeps, AddressFamily, Fault, Words, File, Unopened, RoutesTooLong}
use Rattle.pim_commands.proofs.Words.{RoutesRead, RoutesLine, LocalTooLong, LocalRead, LocalLine, Capture, InFile, TooBig, Full}
use Rattle.pim_commands.proofs.Words.{Frame, Hello, JoinPrune, InputTooLong, InputRead, Output, Memory, TextTooLong, TextLine}
use Rattle.pim_commands.proofs.Words.{TextFamily, message_report, input_report, IsMessageFault, write_failures_after}
use Rattle.std.proofs.lemmas.Bool.{false≢true}
use Rattle.pim_frame.specs.declared.frame.FrameFault.{FrameFault}
use Rattle.pim_hello.specs.declared.fault.HelloFault.{HelloFault}
use Rattle.pim_jp.specs.declared.fault.JpFault.{JpFault}
use Rattle.pim_commands.specs.Partial.{PartlyReports, Writes, WrotePart, faulty_text, is_memory_fault}
use Rattle.pim_commands.specs.Report.{read_failures_after}
use Rattle.pim_commands.proofs.Reports.{short_input}

-- ---- why the text of a message isn't made

module _ (report : Result (List ℕ) Fault) (P : Fault → Type 0) (of_memory : P Memory) (of_frame : (f : FrameFault) → report ≡ Err (Frame f) → P (Frame f))
    (of_hello : (f : HelloFault) → report ≡ Err (Hello f) → P (Hello f)) (of_body : (f : JpFault) → report ≡ Err (JoinPrune f) → P (JoinPrune f)) where
  by_fault : (fault : Fault) → IsMessageFault report fault → P fault
  by_fault Memory is = of_memory
  by_fault (Frame f) is = of_frame f is
  by_fault (Hello f) is = of_hello f is
  by_fault (JoinPrune f) is = of_body f is
  by_fault (Words why) is = absurd is
  by_fault InputRead is = absurd is
  by_fault InputTooLong is = absurd is
  by_fault TextTooLong is = absurd is
  by_fault (TextLine number) is = absurd is
  by_fault TextFamily is = absurd is
  by_fault Output is = absurd is
  by_fault (File word) is = absurd is
  by_fault (Unopened file why) is = absurd is
  by_fault RoutesTooLong is = absurd is
  by_fault RoutesRead is = absurd is
  by_fault (RoutesLine number) is = absurd is
  by_fault LocalTooLong is = absurd is
  by_fault LocalRead is = absurd is
  by_fault (LocalLine number) is = absurd is
  by_fault (Capture why) is = absurd is
  by_fault (InFile why file number) is = absurd is
  by_fault (TooBig group) is = absurd is
  by_fault (Full needed) is = absurd is

module _ (family : AddressFamily) (message : List ℕ) (report : Result (List ℕ) Fault) (old new : Option (List ℕ)) where
  -- all was written
  pub told : (fault : Fault) → IsMessageFault report fault → is_memory_fault fault ≡ false → Appends old new (faulty_text family message fault) → PartlyReports family message report old new (Err fault)
  told = by_fault report (λ fault. is_memory_fault fault ≡ false → Appends old new (faulty_text family message fault) → PartlyReports family message report old new (Err fault))
      (λ not wrote. absurd (false≢true (sym not))) (λ f is not wrote. (is, wrote)) (λ f is not wrote. (is, wrote)) (λ f is not wrote. (is, wrote))

  -- a part was written
  pub told_part : (fault : Fault) → IsMessageFault report fault → is_memory_fault fault ≡ false → AppendsFront old new (faulty_text family message fault) → WrotePart family message report old new
  told_part = by_fault report (λ fault. is_memory_fault fault ≡ false → AppendsFront old new (faulty_text family message fault) → WrotePart family message report old new)
      (λ not wrote. absurd (false≢true (sym not))) (λ f is not wrote. rw is wrote) (λ f is not wrote. rw is wrote) (λ f is not wrote. rw is wrote)

  -- nothing or a part was written
  pub unfinished : (fault why : Fault) → IsMessageFault report fault → is_memory_fault fault ≡ false → Writes (faulty_text family message fault) old new (Err why) → PartlyReports family message report old new (Err why)
  unfinished fault Memory is not wrote = wrote
  unfinished fault Output is not wrote = told_part fault is not wrote
  unfinished fault (Words why) is not wrote = absurd wrote
  unfinished fault (Frame why) is not wrote = absurd wrote
  unfinished fault (Hello why) is not wrote = absurd wrote
  unfinished fault (JoinPrune why) is not wrote = absurd wrote
  unfinished fault InputRead is not wrote = absurd wrote
  unfinished fault InputTooLong is not wrote = absurd wrote
  unfinished fault TextTooLong is not wrote = absurd wrote
  unfinished fault (TextLine number) is not wrote = absurd wrote
  unfinished fault TextFamily is not wrote = absurd wrote
  unfinished fault (File word) is not wrote = absurd wrote
  unfinished fault (Unopened file why) is not wrote = absurd wrote
  unfinished fault RoutesTooLong is not wrote = absurd wrote
  unfinished fault RoutesRead is not wrote = absurd wrote
  unfinished fault (RoutesLine number) is not wrote = absurd wrote
  unfinished fault LocalTooLong is not wrote = absurd wrote
  unfinished fault LocalRead is not wrote = absurd wrote
  unfinished fault (LocalLine number) is not wrote = absurd wrote
  unfinished fault (Capture why) is not wrote = absurd wrote
  unfinished fault (InFile why file number) is not wrote = absurd wrote
  unfinished fault (TooBig group) is not wrote = absurd wrote
  unfinished fault (Full needed) is not wrote = absurd wrote

module _ (report : Result (List ℕ) Fault) where
  pub unread : (before : ℕ) (fault : Fault) → IsMessageFault report fault → before ≡ read_failures_after {A = ℕ} before (Err fault)
  unread before = by_fault report (λ fault. before ≡ read_failures_after {A = ℕ} before (Err fault)) refl (λ f is. refl) (λ f is. refl) (λ f is. refl)

  pub unwritten : (before : ℕ) (fault : Fault) → IsMessageFault report fault → before ≡ write_failures_after {A = ℕ} before (Err fault)
  unwritten before = by_fault report (λ fault. before ≡ write_failures_after {A = ℕ} before (Err fault)) refl (λ f is. refl) (λ f is. refl) (λ f is. refl)

-- ---- the report of a message is that of the input

pub of_input : (known old new : Option (List ℕ)) (family : AddressFamily) (source destination input message told : List ℕ) (result : Result ℕ Fault)
    → IfSome known (λ all. (all ≡ input) × (length all ≤ 65536)) → message ≡ input → told ≡ input
    → PartlyReports family told (message_report family source destination message) old new result
    → IfSome known (λ all. PartlyReports family all (input_report family source destination all) old new result)
of_input None old new family source destination input message told result whole same same' is = tt
of_input (Some all) old new family source destination input message told result whole same same' is =
    rw (short_input family source destination all whole.1, whole.0) (rw (same, same') at is)
