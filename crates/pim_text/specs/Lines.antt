-- The lines that a text has, and what each may say.
use Rattle.std.specs.Prelude.{◌≡◌, ◌≤◌, ◌==◌, ℕ, ⊤, List, [], ◌∷◌, ◌++◌, codes, decimal, if◌then◌else◌}
use Rattle.std.specs.List.{onto_first}
use Rattle.pim_jp.specs.declared.entry.Entry.{Entry}
use Rattle.pim_jp.specs.declared.entry.Entry.TheVariants.{Star, Source, Rpt}
use Rattle.pim_lines.specs.declared.either.AnyAddress.{AnyAddress}
use Rattle.pim_lines.specs.AnyAddress.{Names}
use Rattle.pim_text.specs.declared.line.DelayLine.{DelayLine}
use Rattle.pim_text.specs.declared.line.Line.{Line}
use Rattle.pim_text.specs.declared.line.Line.TheVariants.{Hello, Holdtime, Delays, Priority, Generation, Secondary, Head, Set, Join, Prune}
use Rattle.pim_text.specs.HelloText.{bit}

-- The lines of a text, each with the line feed that ends it. The last one may lack it.
unfoldable pub lines : List ℕ → List (List ℕ)
lines [] = []
lines (byte ∷ text) = if byte == 10 then (byte ∷ []) ∷ lines text else onto_first byte (lines text)

-- The text is these words, a text of the address, and the text `behind`.
abbrev pub IsAddressAfter : List ℕ → AnyAddress → List ℕ → List ℕ → Type 0
IsAddressAfter words address behind text = (named : List ℕ) × Names named address × (text ≡ words ++ (named ++ behind))

-- The words and a number, to the end of a line.
abbrev pub number_text : List ℕ → ℕ → List ℕ
number_text words number = words ++ (decimal number ++ (10 ∷ []))

-- Two times words and a number, to the end of a line.
abbrev pub numbers_text : List ℕ → ℕ → List ℕ → ℕ → List ℕ
numbers_text words number others another = words ++ (decimal number ++ number_text others another)

-- The text is the kind of this entry and its address, to the end of a line.
abbrev pub IsEntry : Entry AnyAddress → List ℕ → Type 0
IsEntry (Star rp) text = IsAddressAfter (codes "star ") rp (10 ∷ []) text
IsEntry (Source source) text = IsAddressAfter (codes "source ") source (10 ∷ []) text
IsEntry (Rpt source) text = IsAddressAfter (codes "rpt ") source (10 ∷ []) text

-- The text is the line of this entry in the list that the word names.
abbrev pub IsEntryLine : List ℕ → Entry AnyAddress → List ℕ → Type 0
IsEntryLine list entry text = (rest : List ℕ) × (text ≡ list ++ rest) × IsEntry entry rest

-- What follows the T bit in the line of a LAN Prune Delay option.
abbrev pub delays_text : DelayLine → List ℕ
delays_text d = numbers_text (codes " propagation ") d.propagation (codes " override ") d.override_ms

-- The text is this line, with its line feed. Each number fits its field and is written as its one
-- decimal. An address may have any of its texts.
abbrev pub IsLine : Line → List ℕ → Type 0
IsLine Hello text = text ≡ codes "hello\n"
IsLine (Holdtime seconds) text = (seconds ≤ 65535) × (text ≡ number_text (codes "holdtime ") seconds)
IsLine (Delays d) text = (d.propagation ≤ 32767) × (d.override_ms ≤ 65535)
    × (text ≡ codes "lan-prune-delay t " ++ (bit d.t ++ delays_text d))
IsLine (Priority number) text = (number ≤ 4294967295) × (text ≡ number_text (codes "dr-priority ") number)
IsLine (Generation number) text = (number ≤ 4294967295) × (text ≡ number_text (codes "generation ") number)
IsLine (Secondary address) text = IsAddressAfter (codes "address ") address (10 ∷ []) text
IsLine (Head h) text = (h.holdtime ≤ 65535) × (h.sets ≤ 255)
    × IsAddressAfter (codes "join/prune upstream ") h.upstream
    (numbers_text (codes " holdtime ") h.holdtime (codes " sets ") h.sets) text
IsLine (Set s) text = (s.joined ≤ 65535) × (s.pruned ≤ 65535)
    × IsAddressAfter (codes "set ") s.group (numbers_text (codes " joined ") s.joined (codes " pruned ") s.pruned) text
IsLine (Join entry) text = IsEntryLine (codes "join ") entry text
IsLine (Prune entry) text = IsEntryLine (codes "prune ") entry text

-- The texts are these lines, one by one.
abbrev pub AreLines : List Line → List (List ℕ) → Type 0
AreLines [] [] = ⊤
AreLines (line ∷ others) (text ∷ texts) = IsLine line text × AreLines others texts
AreLines some texts = ⊥
