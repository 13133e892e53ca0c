-- Openings above epoch 0: with the share of the epoch, with one that is carried on, with others that aren't this node's or lie above, and without the boundary block.
use Rattle.std.proofs.Common.{◌≡◌, ℕ, List, [], ◌∷◌, Some, None, refl}
use Rattle.std.specs.Prelude.{option_and_then}
use Rattle.sha2.specs.Sha256.{first_words, schedule, rounds, compress, hash_after, digest_bytes, sha256}
use Rattle.dkg_values.specs.Uint.{groups}
use Rattle.dkg_ceremony.specs.declared.mode.Mode.TheVariants.{NonZeroCounter}
use Rattle.dkg_ceremony.specs.declared.mode.Reveal.TheVariants.{V1}
use Rattle.dkg_ceremony.specs.declared.phase.Phase.TheVariants.{Early}
use Rattle.dkg_ceremony.specs.declared.round.RoundParts.{RoundParts as Round}
use Rattle.dkg_ceremony.specs.Deals.{deal_of, coefficient_of, fresh_seed}
use Rattle.dkg_ceremony.specs.PartialPublics.{partial_public_of}
use Rattle.dkg_ceremony.specs.Polynomials.{value_at}
use Rattle.dkg_ceremony.specs.Rounds.{round_of}
use Rattle.dkg_infos.specs.declared.entry.Entry.TheVariants.{Opened, Committed, Registered, Setup, Entered, Halted}
use Rattle.dkg_infos.specs.declared.entry.Part.TheVariants.{Both, Follow}
use Rattle.dkg_infos.specs.declared.entry.Role.TheVariants.{Signer}
use Rattle.dkg_infos.specs.declared.fault.Fault.TheVariants.{LocalState}
use Rattle.dkg_infos.specs.declared.fault.LocalCause.TheVariants.{ShareRefused}
use Rattle.dkg_infos.specs.Validation.{validation}
use Rattle.dkg_journal.specs.Operations.{Bars, Opens, Prunes}
use Rattle.dkg_secrets.specs.declared.secrets.SecretOp.TheVariants.{PutShare, PutSeed, Prune}
use Rattle.dkg_store.specs.Acts.{Held, OnDisk, Changes}
use Rattle.dkg_core.specs.Fixed.{Fixed}
use Rattle.dkg_core.specs.Live.{Live, NodeStop, Faulted}
use Rattle.dkg_core.specs.Forms.{dealer_in, share_read, seed_read, started}
use Rattle.dkg_laws.proofs.Mirror.{Outcome, holding, secret, mirrored}
use Rattle.dkg_laws.proofs.Lives.{Life, plays_over, end_after}
use Rattle.dkg_laws.proofs.Worked.{Dir, life_of, above, carrying, info, keys, output, of_setup, set_up}

-- the tip stands at the last height of epoch 0, whose block is held
abbrev pub over_seven : Life Dir
over_seven = above 7 (7 ∷ []) (life_of 8 1 (carrying 7 1 (6 ∷ []) ∷ []))

-- this node's share is 8; these hold a share of an epoch
abbrev pub holding_share : (epoch share : ℕ) → Held
holding_share epoch share = holding (secret epoch (10 ∷ share ∷ []) ∷ []) []

-- .. and a seed beside it
abbrev pub holding_both : Held
holding_both = holding (secret 1 (10 ∷ 8 ∷ []) ∷ secret 1 (11 ∷ 3 ∷ 4 ∷ []) ∷ []) []

abbrev pub opens_dealing : (seed : List ℕ) → Outcome NodeStop
opens_dealing seed = record {
  lines = Opened 1 [] ∷ Committed 1 (Some 8) ∷ Registered 1 Signer ∷ Setup 1 Early Both ∷ Entered 1 ∷ [];
  operations = OnDisk Bars ∷ OnDisk (Opens 0) ∷ Changes (PutShare 1 8) ∷ Changes (PutSeed 1 seed) ∷ OnDisk (Prunes 0) ∷ Changes (Prune 0) ∷ [];
  calls = 4;
  fault = None;
}

pub stored : plays_over holding_both over_seven [] ≡ opens_dealing (3 ∷ 4 ∷ []) ∷ []
unfolding validation round_of value_at partial_public_of deal_of coefficient_of first_words schedule rounds compress hash_after digest_bytes sha256 fresh_seed groups
stored = refl

-- the epoch failed: the share of the one before is this node's of the output that is carried on
pub carried : plays_over (holding_share 0 8) over_seven [] ≡ opens_dealing (fresh_seed 9 1) ∷ []
unfolding validation round_of value_at partial_public_of deal_of coefficient_of first_words schedule rounds compress hash_after digest_bytes sha256 fresh_seed groups
carried = refl

abbrev pub opens_without : Outcome NodeStop
opens_without = record { lines = Opened 1 [] ∷ set_up 1; operations = OnDisk Bars ∷ OnDisk (Opens 0) ∷ of_setup 1 0; calls = 3; fault = None }

-- a share below that isn't this node's of that output, and one of an epoch above
pub another : plays_over (holding_share 0 9) over_seven [] ≡ opens_without ∷ []
unfolding validation round_of value_at partial_public_of deal_of coefficient_of first_words schedule rounds compress hash_after digest_bytes sha256 fresh_seed groups
another = refl

pub later : plays_over (holding_share 2 8) over_seven [] ≡ opens_without ∷ []
unfolding validation round_of value_at partial_public_of deal_of coefficient_of first_words schedule rounds compress hash_after digest_bytes sha256 fresh_seed groups
later = refl

-- a stored share of the epoch is taken, whatever it is, and refused as the dealer is made
pub refused : plays_over (holding_share 1 9) over_seven []
    ≡ record {
      lines = Opened 1 [] ∷ Committed 1 (Some 9) ∷ Registered 1 Signer ∷ [];
      operations = OnDisk Bars ∷ OnDisk (Opens 0) ∷ Changes (PutShare 1 9) ∷ of_setup 1 0;
      calls = 4;
      fault = Some (Faulted (LocalState (ShareRefused 1)));
    } ∷ []
unfolding validation round_of value_at partial_public_of deal_of coefficient_of first_words schedule rounds compress hash_after digest_bytes sha256 fresh_seed groups
refused = refl

-- without the boundary block it follows, and its share is not even read
pub follows : plays_over holding_both (above 7 (7 ∷ []) (life_of 8 1 [])) [] ≡ record { lines = Opened 1 [] ∷ Setup 1 Early Follow ∷ Halted ∷ []; operations = OnDisk Bars ∷ OnDisk (Opens 0) ∷ []; calls = 1; fault = None } ∷ []
follows = refl

-- WHAT THE FORM SAYS OF THEM

abbrev pub given : Fixed Dir
given = over_seven.given

pub share_stored : share_read given (info 1) holding_both ≡ Some 8
share_stored = refl

pub seed_stored : seed_read given (info 1) holding_both ≡ 3 ∷ 4 ∷ []
seed_stored = refl

pub share_carried : share_read given (info 1) (holding_share 0 8) ≡ Some 8
unfolding value_at partial_public_of
share_carried = refl

pub share_of_another : share_read given (info 1) (holding_share 0 9) ≡ None
unfolding value_at partial_public_of
share_of_another = refl

pub share_above : share_read given (info 1) (holding_share 2 8) ≡ None
share_above = refl

abbrev pub round : Round
round = record { namespace = []; number = 1; previous = Some output; mode = NonZeroCounter; reveal = V1; dealers = keys; players = keys }

-- the dealer in memory is the one that the share and the seed that were read make
pub dealer_stored : option_and_then (λ (end : Live Dir × Held). end.0.participation.dealer) (end_after holding_both over_seven []) ≡ dealer_in given round (Some 8) (3 ∷ 4 ∷ []) Early (started given (mirrored holding_both))
unfolding validation round_of value_at partial_public_of deal_of coefficient_of first_words schedule rounds compress hash_after digest_bytes sha256 fresh_seed groups
dealer_stored = refl
