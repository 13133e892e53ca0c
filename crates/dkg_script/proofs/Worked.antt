-- Worked scripts and what they are judged against: their bytes, their configuration, and devices of given content.
use Rattle.std.proofs.Common.{◌≡◌, ℕ, ◌<◌, lit<, List, [], ◌∷◌, ◌++◌, Option, Some, None, sym, ◌∙◌, ap, false}
use Rattle.std.specs.Prelude.{map, length, replicate}
use Rattle.std.specs.FinMap as maps
use Rattle.std.specs.FinMap.{FinMap, get, empty, insert, from_entries, from_sorted, get-empty, entries-from_sorted, empty_of_len, len-entries, entries as pairs_in}
use Rattle.dkg_values.specs.declared.name.Name.{Name}
use Rattle.dkg_values.specs.declared.name.Name.TheVariants.{Flat}
use Rattle.dkg_ceremony.specs.declared.mode.Mode.TheVariants.{NonZeroCounter}
use Rattle.dkg_journal.specs.Names.{Files, name_cmp}
use Rattle.dkg_journal.specs.Records.{SectionEntry, entries, entries_with, segment_entries}
use Rattle.dkg_journal.proofs.Steps.{names_total}
use Rattle.dkg_secrets.specs.Keys.{key_cmp}
use Rattle.dkg_store.specs.Pairs.{recovered}
use Rattle.dkg_store.specs.Recorded.{restored_list, restored_of}
use Rattle.dkg_secrets.specs.Secrets.{Secrets}
use Rattle.dkg_text.specs.declared.script.BlockLine.{BlockLine}
use Rattle.dkg_text.specs.declared.script.Cut.{Cut}
use Rattle.dkg_text.specs.declared.script.Event.{Event}
use Rattle.dkg_text.specs.declared.script.Life.{Life}
use Rattle.dkg_text.specs.declared.script.Script.{Script}
use Rattle.dkg_script.specs.Setting.{Setting, setting_of, recovered_from}
use Rattle.dkg_script.specs.Progress.{Progress, at_start}
use Rattle.std.specs.declared.cmp.Ordering.{Ordering}
use Rattle.std.specs.List.{flat_map}

-- BYTES

-- the keys 1 to 4
abbrev pub four_keys : List ℕ
four_keys = 4 ∷ 0 ∷ 0 ∷ 0 ∷ 1 ∷ 0 ∷ 0 ∷ 0 ∷ 2 ∷ 0 ∷ 0 ∷ 0 ∷ 3 ∷ 0 ∷ 0 ∷ 0 ∷ 4 ∷ []

-- an output without a mark, whose polynomial is 5 + x + 2x², of dealers and players 1 to 4
abbrev pub output : List ℕ
output = replicate 8 0 ++ 0 ∷ 4 ∷ 3 ∷ 0 ∷ 5 ∷ 0 ∷ 1 ∷ 0 ∷ 2 ∷ (four_keys ++ four_keys ++ 0 ∷ [])

-- the payload of an info with this outcome and epoch, that output, and players and next players 1 to 4
abbrev pub payload : ℕ → ℕ → List ℕ
payload outcome epoch = 1 ∷ outcome ∷ epoch ∷ (output ++ four_keys ++ four_keys)

-- dealer 2's dealing 15 + 7x + x² to key 1
abbrev pub dealt : List ℕ
dealt = 0 ∷ 3 ∷ 0 ∷ 15 ∷ 0 ∷ 7 ∷ 0 ∷ 1 ∷ 0 ∷ 23 ∷ []

-- .. and 15 + 9x + x²
abbrev pub dealt_again : List ℕ
dealt_again = 0 ∷ 3 ∷ 0 ∷ 15 ∷ 0 ∷ 9 ∷ 0 ∷ 1 ∷ 0 ∷ 25 ∷ []

-- key 1's acknowledgements of the two in epoch 0, and of the first in epoch 1
abbrev pub ack_of_dealt : List ℕ
ack_of_dealt = 0x13 ∷ 0x48 ∷ 0x84 ∷ 0x48 ∷ 0x6F ∷ 0x93 ∷ 0x7D ∷ 0x35 ∷ []

abbrev pub ack_of_again : List ℕ
ack_of_again = 0xD2 ∷ 0xD4 ∷ 0x94 ∷ 0xC8 ∷ 0x25 ∷ 0xB5 ∷ 0xCA ∷ 0x18 ∷ []

abbrev pub ack_of_next : List ℕ
ack_of_next = 0x90 ∷ 0xF5 ∷ 0x18 ∷ 0xA4 ∷ 0x88 ∷ 0xF4 ∷ 0x71 ∷ 0xAA ∷ []

-- the journal's body of a record of dealer 2's dealing, its middle coefficient given
abbrev pub body : ℕ → List ℕ
body middle = 0 ∷ 0 ∷ 0 ∷ 0 ∷ 2 ∷ 3 ∷ 0 ∷ 15 ∷ 0 ∷ middle ∷ 0 ∷ 1 ∷ []

-- the flat file with that record of an epoch, behind this gate
abbrev pub flat : (gate epoch middle : ℕ) → List ℕ
flat gate epoch middle = gate ∷ 0 ∷ 0 ∷ 0 ∷ 20 ∷ 0 ∷ 0 ∷ 0 ∷ 0 ∷ 0 ∷ 0 ∷ 0 ∷ epoch ∷ (body middle ++ 0 ∷ [])

-- SCRIPTS

-- a life that begins with nothing processed and holds block 0
abbrev pub life_of : List Event → Option Cut → Life
life_of events cut = record { word = 9; anchor = None; held = 0 ∷ []; sync = None; events = events; cut = cut; pick = 0 }

abbrev pub cut_at : ℕ → ℕ → ℕ → Option Cut
cut_at step call pick = Some (record { step = step; call = call; pick = pick })

abbrev pub line : ℕ → Option ℕ → Option (List ℕ) → BlockLine
line height parent payload = record { height = height; parent = parent; view = 0; payload = payload }

abbrev pub genesis : BlockLine
genesis = line 0 None (Some (payload 0 0))

-- key 1's reshare with n blocks an epoch and a limit of 4
abbrev pub script_of : (n : ℕ) → 0 < n → List BlockLine → List Life → Script
script_of n some blocks lives = record {
  addressed = false;
  config = record {
    me = 1;
    blocks_per_epoch = record { value = n; ok = some };
    limit = record { value = 4; ok = lit< tt };
    mode = NonZeroCounter;
    max_mode = record { 0 = 0 };
    namespace = [];
    oneshot = None;
    players = [];
    addresses = [];
    probe = None;
  };
  blocks = blocks;
  lives = lives;
}

-- DEVICES

-- a disk that holds a flat file, or nothing
abbrev pub files_of : Option (List ℕ) → Files
files_of None = empty
files_of (Some bytes) = insert empty Flat bytes

-- a secret store that holds these private halves, and nothing else
abbrev pub secrets_of : List ((ℕ × ℕ) × ℕ) → Secrets
secrets_of halves = record { shares = empty; seeds = empty; privates = from_entries halves }

-- a crash leaves these files
abbrev pub OnlyThese : Files → Files → Type 0
OnlyThese files c = c ≡ files

abbrev pub setting : Script → Setting
setting script = setting_of script (files_of None) (secrets_of [])

-- what a read of the flat file gives
pub flat_in : (bytes : List ℕ) → get (files_of (Some bytes)) Flat ≡ Some bytes
flat_in bytes = maps.get-insert names_total empty Flat bytes Flat

pub entries_are : (bytes : List ℕ) → entries (files_of (Some bytes)) ≡ entries_with (Some bytes) (files_of (Some bytes))
entries_are bytes = ap (λ o. entries_with o (files_of (Some bytes))) (flat_in bytes)

-- nothing is there at first
pub no_pairs : {K X : Type 0} (R : K → K → Ordering) → pairs_in (empty {X = X} {R = R}) ≡ []
no_pairs {K} {X} R =
    let none : pairs_in (from_sorted {X = X} {R = R} []) ≡ [] = entries-from_sorted R [] tt in
    let same : from_sorted {X = X} {R = R} [] ≡ empty = empty_of_len (from_sorted []) (len-entries (from_sorted []) ∙ ap length none) in
    ap (λ (m : FinMap R X). pairs_in m) (sym same) ∙ none

pub nothing_there : entries (files_of None) ≡ []
nothing_there = ap (λ o. entries_with o (files_of None)) (get-empty name_cmp Flat) ∙ ap (λ (xs : List (Name × List ℕ)). flat_map segment_entries xs) (no_pairs name_cmp)

pub nothing_recovered : (secrets : Secrets) → recovered_from (files_of None) secrets ≡ empty
nothing_recovered secrets = ap (λ (es : List SectionEntry). recovered es secrets) nothing_there

pub nothing_listed : (secrets : Secrets) → restored_list (recovered_from (files_of None) secrets) ≡ []
nothing_listed secrets = ap restored_list (nothing_recovered secrets) ∙ ap (λ (xs : List ((ℕ × ℕ) × (List ℕ × ℕ))). map restored_of xs) (no_pairs key_cmp)

-- the progress before the first entry, over empty devices
abbrev pub start : Progress
start = record { cuts = []; step = 0; written = []; recorded = []; opened = None }

pub starts : (script : Script) → at_start (setting script) ≡ start
starts script = ap (λ pairs. record start { recorded = pairs }) (nothing_listed (secrets_of []))
