-- The words of a message's fault.
use Rattle.std.specs.Prelude.{ℕ, List, ◌++◌, codes, decimal}
use Rattle.pim_frame.specs.declared.frame.FrameFault.{FrameFault}
use Rattle.pim_frame.specs.declared.frame.FrameFault.TheVariants as frame
use Rattle.pim_hello.specs.declared.fault.HelloKind.{HelloKind}
use Rattle.pim_hello.specs.declared.fault.HelloKind.TheVariants as hello_kind
use Rattle.pim_hello.specs.declared.fault.HelloFault.{HelloFault}
use Rattle.pim_jp.specs.declared.fault.JpKind.{JpKind}
use Rattle.pim_jp.specs.declared.fault.JpKind.TheVariants as kind
use Rattle.pim_jp.specs.declared.fault.JpFault.{JpFault}
use Rattle.pim_router.specs.declared.verdict.Malformed.{Malformed}
use Rattle.pim_router.specs.declared.verdict.Malformed.TheVariants.{Frame, Hello, JoinPrune}

-- The words of a fault in the header, the checksum or the destination of a message (RFC 7761, 4.9).
abbrev pub frame_words : FrameFault → List ℕ
frame_words frame.Short = codes "frame short"
frame_words (frame.Version version) = codes "frame version " ++ decimal version
frame_words frame.Checksum = codes "frame checksum"
frame_words frame.NotAllRouters = codes "frame not-all-routers"

-- The name of a fault in the body of a Hello (RFC 7761, 4.9.2).
abbrev pub hello_kind_name : HelloKind → List ℕ
hello_kind_name hello_kind.Short = codes "short"
hello_kind_name hello_kind.OptionLength = codes "option-length"
hello_kind_name hello_kind.Address = codes "address"

-- The words of a fault in a Hello, with the offset of the option in bytes from the start of the
-- body.
abbrev pub hello_words : HelloFault → List ℕ
hello_words fault = codes "hello " ++ hello_kind_name fault.kind ++ codes " at " ++ decimal fault.at

-- The name of a fault in the body of a Join/Prune message (RFC 7761, 4.9.5).
abbrev pub kind_name : JpKind → List ℕ
kind_name kind.Short = codes "short"
kind_name kind.Family = codes "family"
kind_name kind.Encoding = codes "encoding"
kind_name kind.Mask = codes "mask"
kind_name kind.NotGroup = codes "not-group"
kind_name kind.Flags = codes "flags"
kind_name kind.NotSource = codes "not-source"
kind_name kind.SecondStar = codes "second-star"
kind_name kind.BothLists = codes "both-lists"
kind_name kind.Trailing = codes "trailing"

-- The words of a fault in a Join/Prune message, with the offset of the part in bytes from the start
-- of the body.
abbrev pub join_prune_words : JpFault → List ℕ
join_prune_words fault = codes "join/prune " ++ kind_name fault.kind ++ codes " at " ++ decimal fault.at

-- The words of any fault of a message.
abbrev pub malformed_words : Malformed → List ℕ
malformed_words (Frame fault) = frame_words fault
malformed_words (Hello fault) = hello_words fault
malformed_words (JoinPrune fault) = join_prune_words fault
