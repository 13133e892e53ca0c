-- Which scripts a text spells: each part in its range, and fitting the parts before it.
use Rattle.std.specs.Prelude.{◌≡◌, ℕ, ◌+◌, ◌<◌, ◌≤◌, ◌^◌, Bool, true, false, is_some, List, [], length, map, Some, IfSome}
use Rattle.std.specs.Int.NonZero.{non_zero_u32_get, non_zero_u64_get}
use Rattle.std.specs.List.{AllByRecursion}
use Rattle.hex.specs.Hex.{IsBytes}
use Rattle.dkg_types.specs.declared.addresses.Address.{Address}
use Rattle.dkg_types.specs.declared.addresses.Address.TheVariants.{Symmetric, Asymmetric}
use Rattle.dkg_types.specs.declared.addresses.Socket.{Socket}
use Rattle.dkg_values.specs.Rising.{keys_of, rises}
use Rattle.dkg_text.specs.declared.script.Anchor.{Anchor}
use Rattle.dkg_text.specs.declared.script.Anchor.TheVariants.{Processed, Absent}
use Rattle.dkg_text.specs.declared.script.BlockLine.{BlockLine}
use Rattle.dkg_text.specs.declared.script.Cut.{Cut}
use Rattle.dkg_text.specs.declared.script.Event.{Event}
use Rattle.dkg_text.specs.declared.script.Event.TheVariants.{Peer, Final, Next, Release, Info, Feed, Over, Cancel, Prepare, Propose, Verify, Later, Reply}
use Rattle.dkg_text.specs.declared.script.Life.{Life}
use Rattle.dkg_text.specs.declared.script.PlayerLine.{PlayerLine}
use Rattle.dkg_text.specs.declared.script.ProbeLine.{ProbeLine}
use Rattle.dkg_text.specs.declared.script.Script.{Script}
use Rattle.dkg_text.specs.declared.script.ScriptConfig.{ScriptConfig}
use Rattle.dkg_text.specs.declared.script.SyncLine.{SyncLine}
use Rattle.dkg_text.specs.PayloadKinds.{is_info}
use Rattle.dkg_reading.specs.Grammar.{absent_from, are_blocks, is_above, is_allowed_event, is_parent, is_payload, limit_of}
use Rattle.dkg_reading.specs.Spells.{FitAfter}

-- RANGES

abbrev pub Is16 : ℕ → Type 0
Is16 n = n < 2 ^ 16

abbrev pub Is32 : ℕ → Type 0
Is32 n = n < 2 ^ 32

abbrev pub Is64 : ℕ → Type 0
Is64 n = n < 2 ^ 64

-- bytes, at least one
abbrev pub AreSomeBytes : List ℕ → Type 0
AreSomeBytes bytes = IsBytes bytes × (0 < length bytes)

-- the keys of a set
pub record IsKeys (keys : List ℕ) : Type 0 where
  pub small : AllByRecursion Is32 keys
  pub rising : rises keys ≡ true
  pub in_bound : length keys < 2 ^ 32

abbrev pub IsSocket : Socket → Type 0
IsSocket s = Is32 s.ip × Is16 s.port

abbrev pub IsAddress : Address → Type 0
IsAddress (Symmetric socket) = IsSocket socket
IsAddress (Asymmetric ingress egress) = IsSocket ingress × IsSocket egress

-- THE CONFIGURATION

pub record IsOpening (config : ScriptConfig) : Type 0 where
  pub me : Is32 config.me
  pub blocks_per_epoch : Is64 (non_zero_u64_get config.blocks_per_epoch)
  pub limit : non_zero_u32_get config.limit ≤ 2 ^ 30
  pub version : config.max_mode.0 < 2
  pub namespace : IsBytes config.namespace

-- players of an epoch after those of lower epochs
pub record IsPlayerLine (done : List PlayerLine) (line : PlayerLine) : Type 0 where
  pub epoch : Is64 line.epoch
  pub players : IsKeys line.players
  pub above : is_above (map (λ l. l.epoch) done) line.epoch ≡ true

-- where a key is reached, after lower keys
pub record IsAddressLine (done : List (ℕ × Address)) (line : ℕ × Address) : Type 0 where
  pub key : Is32 line.0
  pub address : IsAddress line.1
  pub above : is_above (keys_of done) line.0 ≡ true
  pub in_bound : length done + 1 < 2 ^ 32

pub record IsProbeLine (addressed : Bool) (probe : ProbeLine) : Type 0 where
  pub checkpoint : Is64 probe.checkpoint
  pub floor : IfSome probe.floor Is64
  pub checkpoint_bytes : IsBytes probe.checkpoint_info
  pub genesis_bytes : IsBytes probe.genesis_info
  pub checkpoint_info : is_info addressed probe.checkpoint_info ≡ true
  pub genesis_info : is_info addressed probe.genesis_info ≡ true

pub record IsConfig (addressed : Bool) (config : ScriptConfig) : Type 0 where
  pub opening : IsOpening config
  pub oneshot : IfSome config.oneshot IsKeys
  pub players : FitAfter IsPlayerLine [] config.players
  pub addresses : FitAfter IsAddressLine [] config.addresses
  pub probe : IfSome config.probe (IsProbeLine addressed)

-- BLOCKS

pub record IsBlockLine (addressed : Bool) (config : ScriptConfig) (done : List BlockLine) (block : BlockLine) : Type 0 where
  pub height : Is64 block.height
  pub parent : IfSome block.parent Is32
  pub view : Is64 block.view
  pub payload : IfSome block.payload AreSomeBytes
  pub earlier : is_parent (length done) block.parent ≡ true
  pub carried : is_payload addressed (limit_of config) config.max_mode.0 block.payload ≡ true

-- LIVES

abbrev pub IsAnchor : List BlockLine → Anchor → Type 0
IsAnchor blocks (Processed n) = Is32 n × (n < length blocks)
IsAnchor blocks (Absent n) = Is32 n × (absent_from blocks n ≡ Some (Absent n))

-- rising numbers of blocks
pub record AreHeld (blocks : ℕ) (held : List ℕ) : Type 0 where
  pub small : AllByRecursion Is32 held
  pub rising : rises held ≡ true
  pub named : are_blocks blocks held ≡ true

pub record IsSyncLine (addressed oneshot : Bool) (blocks : ℕ) (sync : SyncLine) : Type 0 where
  pub reshares : oneshot ≡ false
  pub bytes : IsBytes sync.info
  pub epoch : Is64 sync.epoch
  pub view : Is64 sync.view
  pub block : Is32 sync.block
  pub named : sync.block < blocks
  pub info : is_info addressed sync.info ≡ true

-- the ranges of an event's fields
abbrev pub IsEventInRange : Event → Type 0
IsEventInRange (Peer from bytes) = Is32 from × IsBytes bytes
IsEventInRange (Final block) = Is32 block
IsEventInRange (Next request height) = Is64 request × Is64 height
IsEventInRange (Release height) = Is64 height
IsEventInRange (Info request) = Is64 request
IsEventInRange (Feed request block) = Is64 request × Is32 block
IsEventInRange (Over request) = Is64 request
IsEventInRange (Cancel request) = Is64 request
IsEventInRange (Prepare ancestry) = AllByRecursion Is32 ancestry
IsEventInRange (Propose ancestry) = AllByRecursion Is32 ancestry
IsEventInRange (Verify ancestry) = AllByRecursion Is32 ancestry
IsEventInRange (Later from epoch) = Is32 from × Is64 epoch
IsEventInRange (Reply from bytes) = Is32 from × IsBytes bytes
IsEventInRange _ = Unit {0}

-- an event after others of its life
pub record IsEventAfter (blocks : ℕ) (probe : Bool) (done : List Event) (event : Event) : Type 0 where
  pub range : IsEventInRange event
  pub stands : is_allowed_event blocks probe done event ≡ true

pub record IsCut (events : ℕ) (cut : Cut) : Type 0 where
  pub step : Is64 cut.step
  pub call : Is64 cut.call
  pub pick : Is64 cut.pick
  pub within : cut.step ≤ events

pub record IsLife (addressed : Bool) (config : ScriptConfig) (blocks : List BlockLine) (life : Life) : Type 0 where
  pub word : Is64 life.word
  pub anchor : IfSome life.anchor (IsAnchor blocks)
  pub held : AreHeld (length blocks) life.held
  pub sync : IfSome life.sync (IsSyncLine addressed (is_some config.oneshot) (length blocks))
  pub events : FitAfter (IsEventAfter (length blocks) (is_some config.probe)) [] life.events
  pub cut : IfSome life.cut (IsCut (length life.events))
  pub pick : Is64 life.pick

-- THE SCRIPT

pub record IsScript (script : Script) : Type 0 where
  pub config : IsConfig script.addressed script.config
  pub blocks : FitAfter (IsBlockLine script.addressed script.config) [] script.blocks
  pub lives : FitAfter (λ _. IsLife script.addressed script.config script.blocks) [] script.lives
