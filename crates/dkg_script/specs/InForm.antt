-- Whether a script is of the form that is run so far, as a test, and what reading such a script answers.
use Rattle.std.specs.Prelude.{◌≡◌, ℕ, ◌<◌, ◌^◌, ◌==◌, ◌&&◌, not, nat_le, nat_lt, Bool, true, false}
use Rattle.std.specs.Prelude.{List, [], ◌∷◌, length, is_some, None, IfSome, Result, Ok, Err}
use Rattle.std.specs.Int.NonZero.{non_zero_u32_get}
use Rattle.std.specs.List.{AllByRecursion}
use Rattle.dkg_values.specs.Rising.{rises}
use Rattle.dkg_reading.specs.declared.error.ScriptError.{ScriptError}
use Rattle.dkg_reading.specs.declared.error.ScriptError.TheVariants as error
use Rattle.dkg_text.specs.declared.script.Event.{Event}
use Rattle.dkg_text.specs.declared.script.Event.TheVariants.{Peer, Final, Next, Release, Info, Feed, Over, Cancel, Work}
use Rattle.dkg_text.specs.declared.script.Life.{Life}
use Rattle.dkg_text.specs.declared.script.Script.{Script}
use Rattle.dkg_text.specs.declared.script.ScriptConfig.{ScriptConfig}
use Rattle.dkg_reading.specs.Laws.{IsPlace}
use Rattle.dkg_script.specs.declared.read.ReadError.{ReadError}
use Rattle.dkg_script.specs.declared.read.ReadError.TheVariants.{Bad, Unsupported, NoMemory}
use Rattle.dkg_script.specs.Asked.{AskAnew}
use Rattle.dkg_script.specs.Epochs.{IsAnchorIn, IsBlockIn, IsFormOfEpochs}
use Rattle.dkg_script.specs.Inclusion.{IsFormOfInclusion}
use Rattle.dkg_script.specs.Players.{epochs_of}

-- THE CONFIGURATION

-- a reshare whose node is told nothing but the script's blocks and the players that are to come
abbrev pub is_alone : ScriptConfig → Bool
is_alone config = not (is_some config.oneshot) && (length config.addresses == 0) && not (is_some config.probe)

abbrev pub is_limit : ScriptConfig → Bool
is_limit config = nat_le (non_zero_u32_get config.limit) (2 ^ 30)

-- there is neither an address nor a probe
abbrev pub IsToldNothing : ScriptConfig → Type 0
IsToldNothing config = (config.addresses ≡ []) × (config.probe ≡ None)

-- a key, which has 32 bits
abbrev pub is_key : ℕ → Bool
is_key key = nat_lt key (2 ^ 32)

abbrev pub is_plain : ScriptConfig → Bool
is_plain config = is_alone config && is_limit config && is_key config.me

-- THE LIVES

-- a message of the dealing channel, one of so many blocks, a request for a log or its release, or a message of a final block's request
abbrev pub is_event_in_form : (blocks : ℕ) → Event → Bool
is_event_in_form blocks (Peer from bytes) = is_key from
is_event_in_form blocks (Final number) = nat_lt number blocks
is_event_in_form blocks (Next request height) = true
is_event_in_form blocks (Release height) = true
is_event_in_form blocks (Info request) = true
is_event_in_form blocks (Feed request number) = nat_lt number blocks
is_event_in_form blocks (Over request) = true
is_event_in_form blocks (Cancel request) = true
is_event_in_form blocks Work = true
is_event_in_form blocks _ = false

abbrev pub are_events : (blocks : ℕ) → List Event → Bool
are_events blocks [] = true
are_events blocks (event ∷ events) = is_event_in_form blocks event && are_events blocks events

-- a life without material
abbrev pub is_life : (blocks : ℕ) → Life → Bool
is_life blocks life = not (is_some life.sync) && are_events blocks life.events

abbrev pub are_lives : (blocks : ℕ) → List Life → Bool
are_lives blocks [] = true
are_lives blocks (life ∷ lives) = is_life blocks life && are_lives blocks lives

-- THE SCRIPT

unfoldable pub is_in_form : Script → Bool
is_in_form script =
    not script.addressed && is_plain script.config && are_lives (length script.blocks) script.lives

-- What the script of any text has: its players' epochs rise, its blocks' payloads are read, their heights are numbers of 64 bits, no position lies below height 0, and in no life an info is
-- asked for by a number that is taken.
pub record IsOfText (script : Script) : Type 0 where
  pub rising : rises (epochs_of script.config.players) ≡ true
  pub blocks : AllByRecursion (IsBlockIn script) script.blocks
  pub placed : AllByRecursion (λ block. block.height < 2 ^ 64) script.blocks
  pub anchors : AllByRecursion (λ life. IfSome life.anchor (IsAnchorIn script.blocks)) script.lives
  pub anew : AllByRecursion (λ life. AskAnew life.events) script.lives

-- Of a text the form of epochs lies within that of inclusion.
abbrev pub EpochsIsOfInclusion : Type 0
EpochsIsOfInclusion = (script : Script) → IsOfText script → IsFormOfEpochs script → IsFormOfInclusion script

-- READING

-- why nothing is read of a text that is no script
abbrev pub read_refusal : ScriptError → ReadError
read_refusal (error.Bad place) = Bad place
read_refusal error.NoMemory = NoMemory

-- What a call answered is what a text spells (`spelled`: the script, or the place of a text that is none), where scripts of another form
-- are refused. Want of memory tells nothing.
abbrev pub ReadsInForm : (spelled : Result Script ℕ) → Result Script ReadError → Type 0
ReadsInForm spelled (Ok script) = (spelled ≡ Ok script) × (is_in_form script ≡ true)
ReadsInForm spelled (Err (Bad place)) = spelled ≡ Err place
ReadsInForm spelled (Err Unsupported) = (script : Script) × (spelled ≡ Ok script) × (is_in_form script ≡ false)
ReadsInForm spelled (Err NoMemory) = Unit {0}

-- what is told of bytes that are no script: the first line that no script has after the lines before it
abbrev pub TellsBadPlace : (addressed : Bool) (bytes : List ℕ) → Result Script ReadError → Type 0
TellsBadPlace addressed bytes (Err (Bad place)) = IsPlace addressed bytes place
TellsBadPlace addressed bytes _ = Unit {0}
