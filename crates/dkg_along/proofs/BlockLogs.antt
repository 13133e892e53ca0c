-- The log that a block of a script carries is what its line spells; so of a step that delivers the block, what is known of that log is said by the script.
use Rattle.std.specs.Prelude.{ℕ, ◌≡◌, Option, None, Some, IfSome, length, option_and_then, take, List}
use Rattle.std.proofs.Common.{false, refl, sym, ap, subst, ◌∙◌}
use Rattle.std.specs.Int.NonZero.{non_zero_u32_get}
use Rattle.dkg_ceremony.specs.declared.signed_log.SignedDealerLog.{SignedDealerLog}
use Rattle.dkg_types.specs.PayloadCodes.{its_log}
use Rattle.dkg_infos.specs.declared.directory.Unit as directory
use Rattle.dkg_types.specs.declared.payload.Payload.{Payload}
use Rattle.dkg_text.specs.declared.script.Event.{Event}
use Rattle.dkg_text.specs.declared.script.Event.TheVariants.{Final}
use Rattle.dkg_text.specs.declared.script.Life.{Life}
use Rattle.dkg_script.specs.Blocks.{ScriptBlock, block_of, blocks}
use Rattle.dkg_script.specs.Inclusion.{IsFormOfInclusion}
use Rattle.dkg_script.specs.OwnMarks.{IsKnownInBlock, IsKnownInEvent, IsKnownInStep, IsOwnMarkKnown}
use Rattle.dkg_script.specs.Position.{event_of_step}
use Rattle.dkg_script.specs.Progress.{Progress}
use Rattle.dkg_script.specs.Readings.{Limits, log_in}
use Rattle.dkg_script.specs.Schedule.{epoch_of}
use Rattle.dkg_script.specs.Setting.{Setting, blocks_per_epoch, life_at, limits}
use Rattle.dkg_script.proofs.LineBlocks.{of_line}
use Rattle.dkg_lives.specs.Given.{limits_of, payload_in}
use Rattle.dkg_lives.proofs.Former.{IsMadeOf}

not_there : {A : Type 0} (x : A) → ◌≡◌ {A = Option A} None (Some x) → ⊥
not_there x e = cc

module _ (s : Setting) (form : IsFormOfInclusion s.script) (number : ℕ) (made_it : IsMadeOf s.script number) (log : SignedDealerLog) (carries : option_and_then its_log (made_it.block).payload ≡ Some log) where
  abbrev own : ScriptBlock
  own = block_of s (take number (blocks s)) made_it.line

  abbrev plain_limits : Limits
  plain_limits = record { limit = non_zero_u32_get s.script.config.limit; version = s.script.config.max_mode.0; addressed = false }

  same_limits : limits s ≡ limits_of s.script
  same_limits = rw form.reshares refl

  same_plain : limits_of s.script ≡ plain_limits
  same_plain = rw form.plain refl

  read_plain : (o : Option (List ℕ)) → option_and_then its_log (payload_in s.script.config o) ≡ Some log → option_and_then (log_in plain_limits) o ≡ Some log
  unfolding log_in
  read_plain None is = absurd (not_there log is)
  read_plain (Some bytes) is = is

  own_log : own.log ≡ Some log
  own_log = ap (λ (its : Limits). option_and_then (log_in its) (made_it.line).payload) (same_limits ∙ same_plain)
      ∙ read_plain (made_it.line).payload (subst (λ (p : Option (Payload directory.Unit)). option_and_then its_log p ≡ Some log) made_it.payload carries)

  pub known_in_step : (life : Life) (q : Progress) → life_at s (length q.cuts) ≡ Some life → event_of_step life q.step ≡ Some (Final number) → IsKnownInStep s q
      → IsOwnMarkKnown s q.recorded (epoch_of (blocks_per_epoch s) (made_it.block).height) log.dealer log.log
  known_in_step life q life_is event_is known =
      let of_life : IfSome (event_of_step life q.step) (IsKnownInEvent s q.recorded) = subst (λ (o : Option Life). IfSome o (λ life. IfSome (event_of_step life q.step) (IsKnownInEvent s q.recorded))) life_is known in
      let of_event : IsKnownInEvent s q.recorded (Final number) = subst (λ (o : Option Event). IfSome o (IsKnownInEvent s q.recorded)) event_is of_life in
      let of_block : IsKnownInBlock s q.recorded own = subst (λ (o : Option ScriptBlock). IfSome o (IsKnownInBlock s q.recorded)) (of_line s number made_it.line made_it.line_is) of_event in
      let of_log : IsOwnMarkKnown s q.recorded (epoch_of (blocks_per_epoch s) own.height) log.dealer log.log
      = subst (λ (o : Option SignedDealerLog). IfSome o (λ signed. IsOwnMarkKnown s q.recorded (epoch_of (blocks_per_epoch s) own.height) signed.dealer signed.log)) own_log of_block in
      subst (λ (h : ℕ). IsOwnMarkKnown s q.recorded (epoch_of (blocks_per_epoch s) h) log.dealer log.log) (sym made_it.height) of_log
