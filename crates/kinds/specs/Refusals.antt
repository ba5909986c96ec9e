use Rattle.std.specs.Prelude.{ℕ, List, ◌++◌, codes, decimal}
use Rattle.kinds.specs.declared.Refusal.{Refusal}
use Rattle.kinds.specs.declared.Refusal.TheVariants.{TextLength, MemoryTooShort, NoAtom, UnfinishedEscape, UnfinishedSet, BackwardRange, EmptySet, BaseWanted, NoOpenGroup, UnfinishedGroup, TooManyGroups, PatternTooLarge, NotATree, BadWidth, TableTooShort, NoMoreSlips, NoMoreMarks, NoSuchMark, NoReportPlace, SymbolLimit, NoSlipOut}
use Rattle.kinds.specs.declared.Refused.{Refused}

-- The number of each refusal.
abbrev pub number_of : Refusal → ℕ
number_of TextLength = 1
number_of MemoryTooShort = 2
number_of NoAtom = 3
number_of UnfinishedEscape = 4
number_of UnfinishedSet = 5
number_of BackwardRange = 6
number_of EmptySet = 7
number_of BaseWanted = 8
number_of NoOpenGroup = 9
number_of UnfinishedGroup = 10
number_of TooManyGroups = 11
number_of PatternTooLarge = 12
number_of NotATree = 13
number_of BadWidth = 14
number_of TableTooShort = 15
number_of NoMoreSlips = 16
number_of NoMoreMarks = 17
number_of NoSuchMark = 18
number_of NoReportPlace = 19
number_of SymbolLimit = 20
number_of NoSlipOut = 21

-- What is wrong, in the sentence that a refusal prints.
abbrev pub sentence_of : Refusal → List ℕ
sentence_of TextLength = codes "a pattern has 1 to 1,024 bytes"
sentence_of MemoryTooShort = codes "the memory lent is too short"
sentence_of NoAtom = codes "nothing that can be matched begins with this byte"
sentence_of UnfinishedEscape = codes "the text ends here, and `\\` wants a byte after it"
sentence_of UnfinishedSet = codes "this set has no `]`"
sentence_of BackwardRange = codes "the range that begins here runs backward: its last byte comes before its first"
sentence_of EmptySet = codes "this set has nothing in it"
sentence_of BaseWanted = codes "a unit, a group or `()` is expected here"
sentence_of NoOpenGroup = codes "this `)` closes no group"
sentence_of UnfinishedGroup = codes "this group has no `)`"
sentence_of TooManyGroups = codes "32 groups are open here already"
sentence_of PatternTooLarge = codes "the pattern has more than 63 positions or 255 nodes"
sentence_of NotATree = codes "the node list is not the list of one tree"
sentence_of BadWidth = codes "a block has a width from 1 to 10"
sentence_of TableTooShort = codes "the memory for the table or the masks is too short"
sentence_of NoMoreSlips = codes "1,000,000 slips were issued"
sentence_of NoMoreMarks = codes "16 marks are held"
sentence_of NoSuchMark = codes "no such mark is held"
sentence_of NoReportPlace = codes "symbols remain and no report place is left"
sentence_of SymbolLimit = codes "symbols remain and 1,000,000,000 were taken"
sentence_of NoSlipOut = codes "no slip is out"

-- What a refusal with its place prints: the number of the refusal, the place, and the sentence.
abbrev pub refused_text : Refused → List ℕ
refused_text r =
    codes "refused " ++ decimal (number_of r.refusal) ++ codes " at " ++ decimal r.place ++ codes ": " ++ sentence_of r.refusal
