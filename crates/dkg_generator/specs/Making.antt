-- What stands while a script is made.
use Rattle.std.specs.Prelude.{◌≡◌, ℕ, map}
use Rattle.std.specs.List.{flat_map, range_with_len}
use Rattle.dkg_generator.specs.declared.make.Making.{Making}
use Rattle.dkg_generator.specs.declared.plan.Plan.{Plan}
use Rattle.dkg_generator.specs.Chain.{info_made_after, made_info_at}
use Rattle.dkg_generator.specs.Made.{Shown, acks_to, dealings_of, epoch_blocks, first_payload, life_of, log_payloads, next_of, rest_before}

-- what an info's epoch is made of
pub record IsPlan (number : ℕ) (shown : Shown) (plan : Plan) : Type 0 where
  pub first : plan.first ≡ first_payload shown
  pub logs : plan.logs.items ≡ log_payloads number shown
  pub next : plan.next ≡ next_of number shown
  pub dealings : plan.dealings.items ≡ dealings_of number shown
  pub acks : plan.acks.items ≡ acks_to number shown
  pub info : plan.info ≡ info_made_after number shown

-- a script as far as the begin of an epoch
pub record IsMaking (number epoch : ℕ) (making : Making) : Type 0 where
  pub info : making.info ≡ made_info_at number epoch
  pub blocks : making.blocks.items ≡ flat_map (epoch_blocks number) (range_with_len 0 epoch)
  pub lives : making.lives.items ≡ map (life_of number) (range_with_len 0 epoch)
  pub events : making.events ≡ rest_before number epoch
