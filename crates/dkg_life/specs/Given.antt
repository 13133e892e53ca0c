-- Which Fixed a call is of: that of the terms, of the life that was opened, and of the source that it is lent.
use Rattle.std.specs.Prelude.{◌≡◌, ◌≤◌, ℕ, List, Option, None}
use Rattle.std.specs.FinMap.{FinMap, find, get}
use Rattle.std.specs.FinMap as maps
use Rattle.dkg_journal.specs.Names.{Files}
use Rattle.dkg_journal.specs.Records.{entries}
use Rattle.dkg_secrets.specs.Keys.{key_cmp}
use Rattle.dkg_store.specs.Pairs.{Pairs, recovered}
use Rattle.dkg_store.specs.Recorded.{Pair}
use Rattle.dkg_secrets.specs.Secrets.{Secrets}
use Rattle.std.specs.Ordering.{nat_cmp}
use Rattle.std.specs.Int.NonZero.{non_zero_u32_get, non_zero_u64_get}
use Rattle.dkg_store.specs.Acts.{Held}
use Rattle.dkg_core.specs.Fixed.{Fixed}
use Rattle.dkg_core.specs.Seen.{Seen}
use Rattle.dkg_core.specs.Setup.{recovered_share, seed_for}
use Rattle.dkg_infos.specs.declared.info.EpochInfo.{EpochInfo}
use Rattle.dkg_values.specs.Rising.{lookup}
use Rattle.dkg_core.specs.Sources.{SourceAnswers}
use Rattle.dkg_life.specs.declared.config.Terms.{Terms}
use Rattle.dkg_life.specs.Rules.{PartialPublicOf, SharePublicOf, SharesBy}
use Rattle.dkg_life.specs.Planless.{seen_planless}

-- It has these terms, and no plan is read. The rules are a premise of their own (see Rules), and so is what else is read.
pub record IsOf {Dir : Type 0} (terms : Terms) (c : Fixed Dir) : Type 0 where
  pub me : c.me ≡ terms.me
  pub blocks : c.blocks_per_epoch ≡ non_zero_u64_get terms.blocks_per_epoch
  pub limit : c.limit ≡ non_zero_u32_get terms.limit
  pub version : c.version ≡ terms.max_mode.0
  pub mode : c.mode ≡ terms.mode
  pub reveal : c.reveal ≡ terms.reveal
  pub namespace : c.namespace ≡ terms.namespace
  pub unplanned : (h : Held) → (c.seen h).plan ≡ None
  pub reshare : c.oneshot ≡ None
  pub bare : c.material ≡ None

-- .. in a life with this word
pub record IsIn {Dir : Type 0} (terms : Terms) (word : ℕ) (c : Fixed Dir) : Type 0 where
  pub of : IsOf terms c
  pub word_is : c.word ≡ word

-- .. and this source
pub record IsLent {Dir : Type 0} (terms : Terms) (source : SourceAnswers Dir) (word : ℕ) (c : Fixed Dir) : Type 0 where
  pub of : IsOf terms c
  pub lent : c.source ≡ source
  pub word_is : c.word ≡ word

-- What is read is what the devices hold, but for the plan.
abbrev pub ReadsPlanless : {Dir : Type 0} → Fixed Dir → Type 0
ReadsPlanless c = c.seen ≡ seen_planless

-- the same, of which each read gives this
abbrev pub reading : {Dir : Type 0} → Seen → Fixed Dir → Fixed Dir
reading s c = record c { seen = λ h. s }

-- These stored shares give an info's epoch this share.
abbrev pub GivesShare : {Dir : Type 0} → SharePublicOf → PartialPublicOf → (me : ℕ) → EpochInfo Dir → (share : Option ℕ) → (stored : FinMap nat_cmp ℕ) → Type 0
GivesShare {Dir} share_public_of partial_public_of me info share stored =
    (c : Fixed Dir) → c.me ≡ me → SharesBy share_public_of partial_public_of c.rules → (s : Seen) → s.shares ≡ maps.entries stored → recovered_share c s info ≡ share

-- A read can give the shares and the seeds that are held there.
abbrev pub CanRead : {Dir : Type 0} → Fixed Dir → Held → Type 0
CanRead c h = (k : Held) × ((c.seen k).shares ≡ maps.entries h.secrets.shares) × ((c.seen k).seeds ≡ maps.entries h.secrets.seeds)

-- .. and these are this share and this seed
abbrev pub GivesBoth : {Dir : Type 0} → Fixed Dir → EpochInfo Dir → (share : Option ℕ) → (seed : List ℕ) → Held → Type 0
GivesBoth c info share seed h = (s : Seen) → s.shares ≡ maps.entries h.secrets.shares → s.seeds ≡ maps.entries h.secrets.seeds
    → (recovered_share c s info ≡ share) × (seed_for c info.epoch (lookup info.epoch s.seeds) ≡ seed)

-- .. and this is the seed
abbrev pub GivesSeed : {Dir : Type 0} → Fixed Dir → EpochInfo Dir → (seed : List ℕ) → Held → Type 0
GivesSeed c info seed h = (s : Seen) → s.seeds ≡ maps.entries h.secrets.seeds → seed_for c info.epoch (lookup info.epoch s.seeds) ≡ seed

-- Of this epoch and later ones the dealings are those that whatever a crash leaves gives back.
abbrev pub AreGivenFrom : (min : ℕ) → List Pair → (image : Files → Type 0) → Secrets → Type 0
AreGivenFrom min dealings image held = (c : Files) → image c → (key : ℕ × ℕ) → min ≤ key.0 → find key_cmp key dealings ≡ get (recovered (entries c) held) key

-- Something was read, whatever the devices tell, and it is so given: no plan, and dealings by their keys.
pub record HasRead (Given P : Seen → Type 0) : Type 0 where
  pub seen : Seen
  pub unplanned : seen.plan ≡ None
  pub listed : (pairs : Pairs) × (seen.dealings ≡ maps.entries pairs)
  pub given : Given seen
  pub so : P seen
