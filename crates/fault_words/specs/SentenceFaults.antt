-- What is printed of the faults of sentences and of lists of them.
use Rattle.std.specs.Prelude.{ℕ, List, ◌++◌, codes}
use Rattle.fol_text.specs.declared.fault.ReadFault.{ReadFault}
use Rattle.fol_text.specs.declared.fault.ReadFault.TheVariants as sentence
use Rattle.sentence_lists.specs.declared.list.ListFault.{ListFault}
use Rattle.sentence_lists.specs.declared.list.ListFault.TheVariants as list
use Rattle.fault_words.specs.Numbered.{with_number}

-- The refusal of a sentence by its name, with the place.
abbrev pub refusal_text : ReadFault → List ℕ
refusal_text (sentence.BadByte p) = with_number (codes "BadByte") p
refusal_text (sentence.Unexpected p) = with_number (codes "Unexpected") p
refusal_text (sentence.Ambiguous p) = with_number (codes "Ambiguous") p
refusal_text (sentence.FreeVariable p) = with_number (codes "FreeVariable") p
refusal_text (sentence.BlockArity p) = with_number (codes "BlockArity") p
refusal_text (sentence.TooDeep p) = with_number (codes "TooDeep") p
refusal_text (sentence.TooMany p) = with_number (codes "TooMany") p
refusal_text (sentence.TooLong p) = with_number (codes "TooLong") p
refusal_text sentence.Memory = codes "Memory"

-- The fault of a line whose sentence is refused.
abbrev pub sentence_text : ReadFault → List ℕ
sentence_text refusal = codes "Sentence " ++ refusal_text refusal

-- The fault of a list of sentences by its name, with the refusal of the sentence.
abbrev pub list_fault_text : ListFault → List ℕ
list_fault_text (list.Sentence refusal) = sentence_text refusal
list_fault_text list.TooManySentences = codes "TooManySentences"
list_fault_text list.Memory = codes "Memory"
