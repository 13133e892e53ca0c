-- What a person is told, by the status.
use Rattle.std.specs.Prelude.{ℕ, ◌≡◌, ◌-◌, Bool, true, false, List, [], ◌∷◌, ◌++◌, length, slice_get, Option, Some, None, codes}
use Rattle.dkg_infos.specs.declared.entry.Entry.{Entry}
use Rattle.dkg_infos.specs.declared.entry.Entry.TheVariants as entry
use Rattle.dkg_outside.specs.declared.status.Status.{Status}
use Rattle.dkg_outside.specs.declared.status.Status.TheVariants as status
use Rattle.dkg_words.specs.Bad.{bad_text}
use Rattle.dkg_words.specs.Fault.{fault_text}
use Rattle.dkg_words.specs.Help.{help_text}
use Rattle.dkg_words.specs.Own.{own_text}
use Rattle.dkg_words.specs.Chain.{IsChainWarning}
use Rattle.dkg_words.specs.Unsupported.{unsupported_text}

-- the warning of a message of the node's own key, and that of blocks that make no chain, each where there is one
pub record Warns (text words : List ℕ) : Type 0 where
  pub chain : List ℕ
  pub is_chain : IsChainWarning text chain
  pub parts : words ≡ own_text text ++ chain

-- the line of a device's failure, which is the last entry
abbrev pub LastTold : (text : List ℕ) → List Entry → (last : Option Entry) → (words : List ℕ) → Type 0
LastTold text entries (Some (entry.Fault fault)) words = words ≡ fault_text text entries fault
LastTold text entries _ words = words ≡ codes "a device failed" ++ 10 ∷ []

abbrev pub DeviceTold : (text : List ℕ) → List Entry → (words : List ℕ) → Type 0
DeviceTold text entries words = LastTold text entries (slice_get entries (length entries - 1)) words

-- by the status, of a script's text and the entries that its run added
abbrev pub TellsByStatus : Status → (text : List ℕ) → List Entry → (words : List ℕ) → Type 0
TellsByStatus status.Done text entries words = Warns text words
TellsByStatus (status.BadScript place) text entries words = words ≡ bad_text text place
TellsByStatus status.Unsupported text entries words = words ≡ unsupported_text text
TellsByStatus (status.Fault fault) text entries words = words ≡ fault_text text entries fault
TellsByStatus status.Device text entries words = DeviceTold text entries words
TellsByStatus status.Usage text entries words = words ≡ help_text
TellsByStatus status.NoMemory text entries words = words ≡ codes "memory ran out" ++ 10 ∷ []
TellsByStatus status.ReadFault text entries words = words ≡ codes "standard input could not be read, and nothing was run" ++ 10 ∷ []
TellsByStatus status.WriteFault text entries words = words ≡ codes "standard output could not be written: what stands there is a front of what was to be" ++ 10 ∷ []
TellsByStatus status.TooLong text entries words = words ≡ codes "standard input has more than 16777216 bytes, and nothing was run" ++ 10 ∷ []

-- whether what is told of a status is about the script's text
abbrev pub is_of_text : Status → Bool
is_of_text status.Done = true
is_of_text (status.BadScript place) = true
is_of_text status.Unsupported = true
is_of_text _ = false

-- the same where the text may not have been kept
abbrev pub TellsOf : Status → Option (List ℕ) → List Entry → (words : List ℕ) → Type 0
TellsOf its (Some text) entries words = TellsByStatus its text entries words
TellsOf its None entries words = (is_of_text its ≡ false) × TellsByStatus its [] entries words
