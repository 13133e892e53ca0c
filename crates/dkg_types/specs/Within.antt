-- The limits that a value keeps to, and that what keeps to them can be read again.
--
-- A type keeps all that its spelling asks but the limits and the match of a directory.
use Rattle.std.proofs.Common.{◌≡◌, ℕ, zero, suc, ◌+◌, ◌^◌, ◌<◌, ◌≤◌, Bool, true, List, [], ◌∷◌, length, get_or, take, Option, Some, None, subst, ap, add-one, arith}
use Rattle.std.specs.Prelude.{IfSome, option_map}
use Rattle.std.specs.List.{AllByRecursion}
use Rattle.std.specs.Str.{bytes_eq}
use Rattle.std.proofs.lemmas.List.{length-map, take_all}
use Rattle.std.proofs.lemmas.Slice.Eq.{bytes_eq-Decides}
use Rattle.sha2.specs.Sha256.{sha256}
use Rattle.dkg_values.specs.Lists.{values_of}
use Rattle.dkg_values.specs.Rising.{keys_of}
use Rattle.dkg_ceremony.specs.declared.output.Output.{Output}
use Rattle.dkg_ceremony.specs.declared.signed_log.SignedDealerLog.{SignedDealerLog}
use Rattle.dkg_ceremony.specs.declared.round.RoundParts.{RoundParts as Round}
use Rattle.dkg_ceremony.specs.Outcomes.{LogMap}
use Rattle.dkg_types.specs.declared.addresses.Address.{Address}
use Rattle.dkg_types.specs.Blocks.{Block}
use Rattle.dkg_types.specs.declared.block.Context.{Context}
use Rattle.dkg_types.specs.declared.finalization.Finalization.{Finalization}
use Rattle.dkg_infos.specs.declared.info.EpochInfo.{EpochInfo}
use Rattle.dkg_types.specs.declared.message.Message.{Message}
use Rattle.dkg_types.specs.declared.message.Message.TheVariants.{Dealer, Ack}
use Rattle.dkg_infos.specs.declared.outcome.EpochOutcome.TheVariants.{Success}
use Rattle.dkg_types.specs.declared.payload.Payload.{Payload}
use Rattle.dkg_types.specs.declared.payload.Payload.TheVariants as payload
use Rattle.dkg_types.specs.AddressCodes.{AddressFits, AddressPairs}
use Rattle.dkg_types.specs.BlockCodes.{BlockFits, ContextFits, FlaggedFits, block_bytes}
use Rattle.dkg_types.specs.FinalizationCodes.{FinalizationFits}
use Rattle.dkg_infos.specs.InfoCodes.{peers_of}
use Rattle.dkg_infos.specs.NextInfos.{Provided, info_by, info_with, next_info, oneshot_info}
use Rattle.dkg_infos.specs.InfoLimits.{OutputWithin, InfoWithin}

-- no public half has more coefficients
abbrev pub MessageWithin : (most : ℕ) → Message → Type 0
MessageWithin most (Dealer public private) = length public ≤ most
MessageWithin most (Ack ack) = Unit {0}

more_step : (pairs : AddressPairs) (i : ℕ) (d : ℕ × Address) → i < length pairs → AllByRecursion AddressFits (values_of (take i pairs)) → AddressFits (get_or pairs i d).1 → AllByRecursion AddressFits (values_of (take (suc i) pairs))
more_step [] i d lt all one = absurd (omega arith)
more_step (p ∷ ps) zero d lt all one = (one, tt)
more_step (p ∷ ps) (suc i) d lt all one = (all.0, more_step ps i d (omega arith) all.1 one)

-- one address more
pub more_fit : (pairs : AddressPairs) (i : ℕ) (d : ℕ × Address) → i < length pairs → AllByRecursion AddressFits (values_of (take i pairs)) → AddressFits (get_or pairs i d).1 → AllByRecursion AddressFits (values_of (take (i + 1) pairs))
more_fit pairs i d lt all one = rw add-one (more_step pairs i d lt all one)

-- all of them
pub all_fit : (pairs : AddressPairs) (i : ℕ) → length pairs ≤ i → AllByRecursion AddressFits (values_of (take i pairs)) → AllByRecursion AddressFits (values_of pairs)
all_fit pairs i le all = subst (λ (xs : AddressPairs). AllByRecursion AddressFits (values_of xs)) (take_all i pairs le) all

-- a directory of just some peers has as many addresses
pub as_many : (pairs : AddressPairs) (peers : List ℕ) → bytes_eq (keys_of pairs) peers ≡ true → length pairs ≡ length peers
as_many pairs peers e =
    let same : keys_of pairs ≡ peers = (bytes_eq-Decides (keys_of pairs) peers).0 e in
    omega (arith, length-map pairs (λ (p : ℕ × Address). p.0), ap (λ (xs : List ℕ). length xs) same)

-- no more coefficients and no more entries
pub record LogWithin (most : ℕ) (s : SignedDealerLog) : Type 0 where
  pub coefficients : length s.log.public ≤ most
  pub entries : length s.log.entries ≤ most

abbrev pub PayloadWithin : {Dir : Type 0} → (Dir → List ℕ → Bool) → (most version : ℕ) → Payload Dir → Type 0
PayloadWithin matches most version (payload.DealerLog s) = LogWithin most s
PayloadWithin matches most version (payload.EpochInfo i) = InfoWithin matches most version i

-- what is carried, if anything, keeps to the limits
abbrev pub BlockWithin : {Dir : Type 0} → (Dir → List ℕ → Bool) → (most version : ℕ) → Block Dir → Type 0
BlockWithin matches most version b = FlaggedFits (PayloadWithin matches most version) b.payload

pub context_fits : (c : Context) → c.epoch < 2 ^ 64 → c.view < 2 ^ 64 → c.leader < 2 ^ 32 → c.parent_view < 2 ^ 64 → length c.parent ≡ 32 → ContextFits c
context_fits c epoch view leader parent_view parent = record { one = epoch; other = record { one = view; other = record { one = leader; other = record { one = parent_view; other = parent } } } }

pub block_fits : {Dir : Type 0} (fits : Payload Dir → Type 0) (spelling : Dir → List ℕ) (b : Block Dir) → ContextFits b.context → length b.parent ≡ 32 → b.height < 2 ^ 64 → FlaggedFits fits b.payload
    → b.digest ≡ sha256 (block_bytes spelling b.context b.parent b.height b.payload) → BlockFits fits spelling b
block_fits fits spelling b context parent height carried sealed = record { parts = record { one = record { one = context; other = record { one = parent; other = height } }; other = carried }; sealed = sealed }

within_by : {Dir : Type 0} (matches : Dir → List ℕ → Bool) (most version : ℕ) (provided : Provided Dir) (i : EpochInfo Dir) (output : Option Output) → OutputWithin most version i.output → FlaggedFits (OutputWithin most version) output → length i.next_players ≤ most
    → length (provided.participants (i.epoch + 2)) ≤ most → ((peers : List ℕ) → matches (provided.directory (i.epoch + 1) peers) peers ≡ true) → InfoWithin matches most version (info_by provided i output)
within_by matches most version provided i None old new players next_players peers = record { output = old; players = players; next_players = next_players; peers = peers (peers_of i.output.players i.next_players (provided.participants (i.epoch + 2))) }
within_by matches most version provided i (Some o) old new players next_players peers = record { output = new; players = players; next_players = next_players; peers = peers (peers_of o.players i.next_players (provided.participants (i.epoch + 2))) }

-- The next info keeps to the limits, where the outcome, the next players and the provider's set do, and the provider's directory is one of its peers.
pub next_within : {Dir : Type 0} (matches : Dir → List ℕ → Bool) (most version : ℕ) (outcome_of : Round → LogMap → Option Output) (provided : Provided Dir) (i : EpochInfo Dir) (round : Round) (logs : LogMap) → OutputWithin most version i.output
    → FlaggedFits (OutputWithin most version) (outcome_of round logs) → length i.next_players ≤ most → length (provided.participants (i.epoch + 2)) ≤ most → ((peers : List ℕ) → matches (provided.directory (i.epoch + 1) peers) peers ≡ true)
    → InfoWithin matches most version (next_info outcome_of provided i round logs)
unfolding next_info
next_within matches most version outcome_of provided i round logs old new players next_players peers = within_by matches most version provided i (outcome_of round logs) old new players next_players peers

oneshot_by : {Dir : Type 0} (matches : Dir → List ℕ → Bool) (most version : ℕ) (directory : List ℕ → Dir) (participants : List ℕ) (output : Option Output) → FlaggedFits (OutputWithin most version) output → length participants ≤ most
    → ((peers : List ℕ) → matches (directory peers) peers ≡ true) → IfSome (option_map (λ o. info_with directory Success 0 o participants []) output) (InfoWithin matches most version)
oneshot_by matches most version directory participants None output players peers = tt
oneshot_by matches most version directory participants (Some o) output players peers = record { output = output; players = players; next_players = omega arith; peers = peers (peers_of o.players participants []) }

-- So does the info that a one-shot ceremony ends in, where the outcome and the participants do.
pub oneshot_within : {Dir : Type 0} (matches : Dir → List ℕ → Bool) (most version : ℕ) (outcome_of : Round → LogMap → Option Output) (directory : List ℕ → Dir) (participants : List ℕ) (round : Round) (logs : LogMap)
    → FlaggedFits (OutputWithin most version) (outcome_of round logs) → length participants ≤ most → ((peers : List ℕ) → matches (directory peers) peers ≡ true)
    → IfSome (oneshot_info outcome_of directory participants round logs) (InfoWithin matches most version)
unfolding oneshot_info
oneshot_within matches most version outcome_of directory participants round logs output players peers = oneshot_by matches most version directory participants (outcome_of round logs) output players peers

pub finalization_fits : (f : Finalization) → f.epoch < 2 ^ 64 → f.view < 2 ^ 64 → f.parent_view < 2 ^ 64 → length f.payload ≡ 32 → length f.certificate ≡ 8 → FinalizationFits f
finalization_fits f epoch view parent_view payload certificate = record { one = epoch; other = record { one = view; other = record { one = parent_view; other = record { one = payload; other = certificate } } } }
