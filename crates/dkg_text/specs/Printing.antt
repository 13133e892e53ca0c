-- The text of a transcript: a line for each entry, and after an opening one for each dealing that it found.
use Rattle.std.specs.Prelude.{ℕ, List, [], ◌∷◌, ◌++◌, Option, Some, None, codes, length}
use Rattle.std.specs.Int.{w16, to_be_bytes}
use Rattle.std.specs.List.{flat_map}
use Rattle.dkg_values.specs.Lists.{public_spelling}
use Rattle.dkg_infos.specs.declared.entry.AnswerLine.{AnswerLine}
use Rattle.dkg_infos.specs.declared.entry.AnswerLine.TheVariants as answer
use Rattle.dkg_infos.specs.declared.entry.Entry.{Entry}
use Rattle.dkg_infos.specs.declared.entry.Entry.TheVariants as entry
use Rattle.dkg_infos.specs.declared.entry.PreparedLine.{PreparedLine}
use Rattle.dkg_infos.specs.declared.entry.PreparedLine.TheVariants as prepared
use Rattle.dkg_infos.specs.declared.entry.Restored.{Restored}
use Rattle.dkg_infos.specs.declared.entry.Why.{Why}
use Rattle.dkg_infos.specs.declared.entry.Why.TheVariants as why
use Rattle.dkg_text.specs.FaultLines.{fault_line}
use Rattle.dkg_text.specs.Fields.{bytes_field, number_field, word_field}
use Rattle.dkg_text.specs.Words.{blocked_text, part_text, phase_text, role_text, verdict_text}

-- a dealing: its epoch, whom it is from or to, and the spellings of its two halves
abbrev pub dealing_fields : (epoch key : ℕ) (public : List ℕ) (private : ℕ) → List ℕ
dealing_fields epoch key public private =
    number_field epoch ++ number_field key ++ bytes_field (public_spelling public) ++ bytes_field (to_be_bytes w16 private)

-- the line of a dealing that an opening found, behind a line feed
abbrev pub restored_line : Restored → List ℕ
restored_line d = (10 ∷ codes "restored") ++ dealing_fields d.epoch d.dealer d.public d.private

abbrev pub share_field : Option ℕ → List ℕ
share_field (Some share) = number_field share
share_field None = word_field (codes "-")

-- a field of bytes, or a word in their place
abbrev pub field_or : Option (List ℕ) → (none : List ℕ) → List ℕ
field_or (Some bytes) none = bytes_field bytes
field_or None none = word_field none

abbrev pub why_fields : Why → List ℕ
why_fields why.Short = word_field (codes "short")
why_fields (why.WrongHeight awaited got) = word_field (codes "height") ++ number_field awaited ++ number_field got
why_fields (why.Unlinked height) = word_field (codes "unlinked") ++ number_field height
why_fields (why.Detached height) = word_field (codes "detached") ++ number_field height
why_fields why.Following = word_field (codes "following")
why_fields why.Terminal = word_field (codes "terminal")
why_fields why.Finished = word_field (codes "finished")
why_fields why.Held = word_field (codes "held")

abbrev pub answer_fields : AnswerLine → List ℕ
answer_fields (answer.Available payload) = field_or payload (codes "none")
answer_fields (answer.Unavailable why) = word_field (codes "unavailable") ++ why_fields why

abbrev pub prepared_field : PreparedLine → List ℕ
prepared_field prepared.Wait = word_field (codes "wait")
prepared_field (prepared.Ready block) = field_or block (codes "none")

-- the peer that a message is sent to, or all
abbrev pub peer_field : Option ℕ → List ℕ
peer_field (Some key) = number_field key
peer_field None = word_field (codes "all")

-- an entry's line without its line feed; after an opening the lines of what it found
abbrev pub line_of : Entry → List ℕ
line_of (entry.Opened life restored) = codes "opened" ++ number_field life ++ number_field (length restored) ++ flat_map restored_line restored
line_of (entry.Committed epoch share) = codes "committed" ++ number_field epoch ++ share_field share
line_of (entry.Registered epoch role) = codes "registered" ++ number_field epoch ++ word_field (role_text role)
line_of (entry.Setup epoch phase part) = codes "setup" ++ number_field epoch ++ word_field (phase_text phase) ++ word_field (part_text part)
line_of (entry.Recorded epoch dealer public private) = codes "recorded" ++ dealing_fields epoch dealer public private
line_of (entry.Ack epoch dealer ack) = codes "ack" ++ number_field epoch ++ number_field dealer ++ bytes_field ack
line_of (entry.Offer epoch player public private) = codes "offer" ++ dealing_fields epoch player public private
line_of (entry.Blocked peer why) = codes "blocked" ++ number_field peer ++ word_field (blocked_text why)
line_of (entry.Log request payload) = codes "log" ++ number_field request ++ field_or payload (codes "none")
line_of (entry.Answer request answer) = codes "answer" ++ number_field request ++ answer_fields answer
line_of (entry.Entered epoch) = codes "entered" ++ number_field epoch
line_of entry.Halted = codes "halted"
line_of (entry.Hint height peer) = codes "hint" ++ number_field height ++ number_field peer
line_of (entry.Acked height) = codes "acked" ++ number_field height
line_of (entry.Completed outcome) = codes "completed" ++ field_or outcome (codes "-")
line_of (entry.Prepared prepared) = codes "prepared" ++ prepared_field prepared
line_of (entry.Proposed block) = codes "proposed" ++ field_or block (codes "none")
line_of (entry.Verdict verdict) = codes "verdict" ++ word_field (verdict_text verdict)
line_of (entry.Sent to bytes) = codes "sent" ++ peer_field to ++ bytes_field bytes
line_of (entry.Artifact info floor) = codes "artifact" ++ bytes_field info ++ bytes_field floor
line_of (entry.Call caller line) = codes "call" ++ number_field caller ++ word_field line
line_of (entry.Cut step call) = codes "cut" ++ number_field step ++ number_field call
line_of (entry.Step step) = codes "step" ++ number_field step
line_of (entry.Fault fault) = fault_line fault

abbrev pub ended_line : Entry → List ℕ
ended_line entry = line_of entry ++ 10 ∷ []

-- the lines of entries, each ended by a line feed
abbrev pub lines_of : List Entry → List ℕ
lines_of entries = flat_map ended_line entries
