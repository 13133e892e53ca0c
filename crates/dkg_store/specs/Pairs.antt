-- The dealings that the entries of a journal and a secret store stand for together.
use Rattle.std.specs.Prelude.{◌≡◌, ◌⊎◌, ◌≤◌, ℕ, nat_le, List, fold, Option, Some, None, IsSome, Result, Ok, Err}
use Rattle.std.specs.List.{AllByRecursion}
use Rattle.std.specs.FinMap.{FinMap, get, insert, empty, retain_keys}
use Rattle.dkg_journal.specs.Names.{Files}
use Rattle.dkg_journal.specs.Disk.{ImagesFollow}
use Rattle.dkg_journal.specs.Records.{SectionEntry, entries}
use Rattle.dkg_journal.specs.Steps.{MayAdd}
use Rattle.dkg_values.specs.Codec.{whole}
use Rattle.dkg_values.specs.declared.codec.CodecError.{CodecError}
use Rattle.dkg_secrets.specs.Keys.{key_cmp}
use Rattle.dkg_store.specs.Events.{event_at, no_limit}
use Rattle.dkg_store.specs.declared.event.Event.{Event}
use Rattle.dkg_store.specs.declared.event.Event.TheVariants as events
use Rattle.dkg_secrets.specs.Secrets.{Secrets, Tries, after}
use Rattle.dkg_secrets.specs.declared.secrets.SecretOp.{SecretOp}

-- both halves by epoch and dealer
abbrev pub Pairs : Type 0
Pairs = FinMap key_cmp (List ℕ × ℕ)

-- the record of a dealing: its epoch and dealer, and its public half
pub record Dealing : Type 0 where
  pub key : ℕ × ℕ
  pub public : List ℕ

abbrev pub dealing_in_event : ℕ → Result Event CodecError → Option Dealing
dealing_in_event epoch (Ok (events.Dealing dealer public)) = Some (record { key = (epoch, dealer); public = public })
dealing_in_event epoch (Ok (events.Ack player ack)) = None
dealing_in_event epoch (Ok (events.Log dealer log)) = None
dealing_in_event epoch (Ok (events.LogAt dealer height log)) = None
dealing_in_event epoch (Err e) = None

-- the dealing of which an entry is the record
abbrev pub recorded_dealing : SectionEntry → Option Dealing
recorded_dealing e = dealing_in_event e.0 (whole (event_at no_limit e.1))

abbrev pub with_half : Pairs → Dealing → Option ℕ → Pairs
with_half m d None = m
with_half m d (Some private) = insert m d.key (d.public, private)

abbrev pub with_dealing : Secrets → Pairs → Option Dealing → Pairs
with_dealing s m None = m
with_dealing s m (Some d) = with_half m d (get s.privates d.key)

-- The dealings of which both halves are there. A later record of a key replaces an earlier one.
abbrev pub recovered : List SectionEntry → Secrets → Pairs
recovered es s = fold (λ m e. with_dealing s m (recorded_dealing e)) empty es

abbrev pub HasHalf : Secrets → Option Dealing → Type 0
HasHalf s None = Unit {0}
HasHalf s (Some d) = IsSome (get s.privates d.key)

-- each recorded dealing has its private half
abbrev pub IsWhole : List SectionEntry → Secrets → Type 0
IsWhole es s = AllByRecursion (λ e. HasHalf s (recorded_dealing e)) es

-- no dealing is of an epoch below the minimum
abbrev pub AreAtOrAbove : ℕ → Pairs → Type 0
AreAtOrAbove min pairs = (key : ℕ × ℕ) → IsSome (get pairs key) → min ≤ key.0

-- whatever a crash now leaves is whole, and gives these dealings back
pub record HoldsDealings (pairs : Pairs) (image : Files → Type 0) (held : Secrets) : Type 0 where
  pub whole : (c : Files) → image c → IsWhole (entries c) held
  pub gives : (c : Files) → image c → recovered (entries c) held ≡ pairs

-- .. these, or those
pub record HoldsEither (pairs more : Pairs) (image : Files → Type 0) (held : Secrets) : Type 0 where
  pub whole : (c : Files) → image c → IsWhole (entries c) held
  pub gives : (c : Files) → image c → (recovered (entries c) held ≡ pairs) ⊎ (recovered (entries c) held ≡ more)

-- The put was tried and the disk is as it was; or the put is done, and the journal may have the entry.
pub record PutsFirst (op : SecretOp) (e : SectionEntry) (image next : Files → Type 0) (held now : Secrets) : Type 0 where
  pub so : (Tries op held now × ((c : Files) → next c → image c)) ⊎ ((now ≡ after op held) × ImagesFollow (MayAdd e) image next)

-- .. those at or above a minimum, at or below this one
pub record HoldsPruned (min : ℕ) (pairs : Pairs) (image : Files → Type 0) (held : Secrets) : Type 0 where
  pub whole : (c : Files) → image c → IsWhole (entries c) held
  pub gives : (c : Files) → image c → (least : ℕ) × (least ≤ min) × (recovered (entries c) held ≡ retain_keys pairs (λ k. nat_le least k.0))
