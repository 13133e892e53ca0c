-- The summary of a run of the generated script, by the entries of the run.
use Rattle.std.specs.Prelude.{ℕ, zero, suc, ◌+◌, List, [], ◌∷◌, ◌++◌, Option, Some, None, codes, length}
use Rattle.std.specs.List.{flat_map}
use Rattle.dkg_infos.specs.declared.entry.AnswerLine.TheVariants as answer
use Rattle.dkg_infos.specs.declared.entry.Entry.{Entry}
use Rattle.dkg_infos.specs.declared.entry.Entry.TheVariants as entry
use Rattle.dkg_infos.specs.declared.fault.Fault.{Fault}
use Rattle.dkg_text.specs.declared.tallies.Item.{Item}
use Rattle.dkg_text.specs.declared.tallies.Item.TheVariants as item
use Rattle.dkg_text.specs.FaultLines.{fault_line}
use Rattle.dkg_text.specs.Fields.{number_field}
use Rattle.dkg_text.specs.Writing.{with_line_feed}

-- how much an entry adds to an item: steps are completed ones but openings, logs are answers to a request with a log, and answers are
-- those that an artifact is available
abbrev pub adds : Item → Entry → ℕ
adds item.Lives (entry.Opened life restored) = 1
adds item.Steps (entry.Step zero) = 0
adds item.Steps (entry.Step (suc n)) = 1
adds item.Restored (entry.Opened life restored) = length restored
adds item.Recorded (entry.Recorded epoch dealer public private) = 1
adds item.Acks (entry.Ack epoch dealer ack) = 1
adds item.Offers (entry.Offer epoch player public private) = 1
adds item.Registered (entry.Registered epoch role) = 1
adds item.Entered (entry.Entered epoch) = 1
adds item.Acknowledged (entry.Acked height) = 1
adds item.Logs (entry.Log request (Some payload)) = 1
adds item.Answers (entry.Answer request (answer.Available payload)) = 1
adds item.Blocked (entry.Blocked peer why) = 1
adds _ _ = 0

abbrev pub tally : Item → List Entry → ℕ
tally item [] = 0
tally item (e ∷ es) = adds item e + tally item es

abbrev pub item_name : Item → List ℕ
item_name item.Lives = codes "lives"
item_name item.Steps = codes "steps"
item_name item.Restored = codes "restored"
item_name item.Recorded = codes "recorded"
item_name item.Acks = codes "acks"
item_name item.Offers = codes "offers"
item_name item.Registered = codes "registered"
item_name item.Entered = codes "entered"
item_name item.Acknowledged = codes "acknowledged"
item_name item.Logs = codes "logs"
item_name item.Answers = codes "answers"
item_name item.Blocked = codes "blocked"

abbrev pub all_items : List Item
all_items =
    item.Lives ∷ item.Steps ∷ item.Restored ∷ item.Recorded ∷ item.Acks ∷ item.Offers
    ∷ item.Registered ∷ item.Entered ∷ item.Acknowledged ∷ item.Logs ∷ item.Answers ∷ item.Blocked ∷ []

abbrev pub item_line : List Entry → Item → List ℕ
item_line entries item = with_line_feed (item_name item ++ number_field (tally item entries))

abbrev pub ending_line : Option Fault → List ℕ
ending_line None = with_line_feed (codes "done")
ending_line (Some fault) = with_line_feed (fault_line fault)

abbrev pub summary_of : (number : ℕ) → List Entry → Option Fault → List ℕ
summary_of number entries fault = with_line_feed (codes "made" ++ number_field number) ++ flat_map (item_line entries) all_items ++ ending_line fault
