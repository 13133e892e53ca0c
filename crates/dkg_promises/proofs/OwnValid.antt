-- Over valid devices no setup of a life of a consistent script stops by this node's own state.
use Rattle.std.proofs.Common.{◌≡◌, ℕ, ◌==◌, ◌<◌, ◌^◌, ◌++◌, List, Option, Some, None, Ok, refl, sym, ap, subst, ◌∙◌}
use Rattle.std.specs.Prelude.{find, option_and_then, option_map, option_to_list, slice_get, IsSomeAnd}
use Rattle.std.specs.FinMap as maps
use Rattle.std.specs.FinMap.{get}
use Rattle.std.specs.Result.{result_ok}
use Rattle.dkg_ceremony.specs.Dealings.{dealing_of}
use Rattle.dkg_ceremony.specs.PartialPublics.{partial_public_of, share_public_of}
use Rattle.dkg_ceremony.specs.Schedule.{boundary}
use Rattle.dkg_ceremony.specs.declared.round.RoundParts.{RoundParts as Round}
use Rattle.dkg_journal.specs.Names.{Files}
use Rattle.dkg_types.specs.BlockCodes.{info_of}
use Rattle.dkg_types.specs.Blocks as made
use Rattle.dkg_infos.specs.Units.{unit_spelling}
use Rattle.dkg_infos.specs.declared.directory.Unit as directory
use Rattle.dkg_infos.specs.declared.fault.Fault.{Fault}
use Rattle.dkg_infos.specs.declared.fault.Fault.TheVariants.{LocalState}
use Rattle.dkg_infos.specs.declared.fault.LocalCause.TheVariants.{ShareRefused, StoredDealing}
use Rattle.dkg_infos.specs.declared.info.EpochInfo.{EpochInfo}
use Rattle.dkg_text.specs.declared.script.Life.{Life}
use Rattle.dkg_script.specs.Blocks.{anchor_number, known_info, round_at, round_by}
use Rattle.dkg_script.specs.Consistent.{IsConsistentScript}
use Rattle.dkg_script.specs.Inclusion.{IsFormOfInclusion}
use Rattle.dkg_script.specs.Readings.{Info, with_spelled}
use Rattle.dkg_script.specs.Setting.{CutAt, Setting, blocks_per_epoch, life_at, me}
use Rattle.dkg_store.specs.Acts.{Held}
use Rattle.dkg_core.specs.Forms.{IsOpeningStop, IsSetupFault, seed_read, share_read, started}
use Rattle.dkg_core.specs.Heard.{recovered_in}
use Rattle.dkg_core.specs.Live.{Live}
use Rattle.dkg_core.specs.Seen.{Seen}
use Rattle.dkg_core.specs.Endings.{OnInfo, first_block, first_epoch}
use Rattle.dkg_lives.specs.Given.{Lived, at_step, blocks_in, lived}
use Rattle.dkg_along.proofs.Drawn.{Numbered, found_number, held_begin, info_known, round_is}
use Rattle.dkg_lives.proofs.Former.{is_ceremony, made_there}
use Rattle.dkg_promises.proofs.OwnClear.{recovered_fits, share_serves, stored_pass}
use Rattle.dkg_lives.proofs.Started.{source_is}

-- What these devices hold is valid: each share of an epoch whose info the script has is this node's in its output, and each dealing of an epoch whose round it has passes.
pub record AreValidAt (s : Setting) (h : Held) : Type 0 where
  pub shares : (epoch share : ℕ) (info : Info) → get h.secrets.shares epoch ≡ Some share → known_info s epoch ≡ Some info → partial_public_of info.output (me s) ≡ Some (share_public_of share)
  pub dealings : (round : Round) (dealer : ℕ) (pair : List ℕ × ℕ) → round_at s round.number ≡ Some round → dealer < 2 ^ 32 → get (recovered_in h) (round.number, dealer) ≡ Some pair → dealing_of round (me s) dealer pair.0 pair.1 ≡ Ok tt

-- The fault is of this node's own state, as a setup may have it.
abbrev pub IsStateFault : Fault → Type 0
IsStateFault (LocalState (ShareRefused number)) = Unit {0}
IsStateFault (LocalState (StoredDealing number dealer)) = Unit {0}
IsStateFault its = ⊥

module _ (s : Setting) (cuts : List (Option CutAt)) (form : IsFormOfInclusion s.script) (consistent : IsConsistentScript s cuts) (l : ℕ) (life : Life) (seen : Held → Seen) (files : Files) (life_is : life_at s l ≡ Some life) where
  abbrev g : Lived
  g = lived s.script l life seen files

  -- A SETUP by an info that the script has of its epoch
  module _ (taken epoch : ℕ) (info : EpochInfo directory.Unit) (known : known_info s info.epoch ≡ Some (with_spelled unit_spelling info)) (k : Held) (valid : AreValidAt s k) (reads : ((at_step g taken).seen k).shares ≡ maps.entries k.secrets.shares) where
    fits : (share : ℕ) → share_read (at_step g taken) info k ≡ Some share → partial_public_of info.output (me s) ≡ Some (share_public_of share)
    fits = recovered_fits g taken epoch info k reads (λ share there. valid.shares info.epoch share (with_spelled unit_spelling info) there known)

    round_there : (round : Round) → info.epoch ≡ epoch
        → (at_step g taken).rules.round_of (at_step g taken).namespace epoch (Some info.output) (at_step g taken).mode (at_step g taken).reveal info.output.players info.players ≡ Ok round → round_at s round.number ≡ Some round
    unfolding at_step
    round_there round same drawn =
        let number : round.number ≡ epoch = (is_ceremony g taken).round_has _ epoch _ _ _ _ _ round drawn in
        ap (round_at s) (number ∙ sym same) ∙ round_is s cuts form consistent info.epoch ∙ ap (λ (o : Option Info). option_and_then (λ (i : Info). result_ok (round_by s.script info.epoch i)) o) known
        ∙ ap result_ok (subst (λ (e : ℕ). round_by s.script e info ≡ Ok round) (sym same) drawn)

    pub setup_valid : (seed : List ℕ) (st : Live directory.Unit) → st.records.dealings ≡ maps.entries (recovered_in k) → (its : Fault) → IsStateFault its
        → IsSetupFault (at_step g taken) epoch info (share_read (at_step g taken) info k) seed st its → ⊥
    setup_valid seed st same (LocalState (ShareRefused number)) of_state why = share_serves g taken epoch info (share_read (at_step g taken) info k) seed st number fits why
    setup_valid seed st same (LocalState (StoredDealing number dealer)) of_state why =
        stored_pass g taken epoch info (share_read (at_step g taken) info k) seed st k number dealer same
        (λ round who pair drawn low there. valid.dealings round who pair (round_there round why.1.0 drawn) low there) why
    setup_valid seed st same its of_state why = absurd of_state

  -- A block that begins the epoch whose info it carries makes that info known
  pub known_at : (number : ℕ) (b : made.Block directory.Unit) → slice_get (blocks_in s.script) number ≡ Some b → Numbered s cuts form consistent number → (info : EpochInfo directory.Unit) → info_of b.payload ≡ Some info
      → b.height ≡ boundary (blocks_per_epoch s) info.epoch → known_info s info.epoch ≡ Some (with_spelled unit_spelling info)
  known_at number b there all info carries at =
      let its = made_there s.script number b there in
      info_known s cuts form consistent number its.0 info (subst (λ (x : made.Block directory.Unit). info_of x.payload ≡ Some info) (sym its.1) carries) all
      (subst (λ (x : made.Block directory.Unit). x.height ≡ boundary (blocks_per_epoch s) info.epoch) (sym its.1) at)

  -- the block that begins the epoch of an opening is one that the life holds, or stands at
  first_there : (b : made.Block directory.Unit) → first_block (at_step g 0) ≡ Some b
      → (number : ℕ) × (slice_get (blocks_in s.script) number ≡ Some b) × Numbered s cuts form consistent number × (b.height ≡ boundary (blocks_per_epoch s) (first_epoch (at_step g 0)))
  unfolding at_step
  first_there b there = found_number (blocks_in s.script) (boundary (blocks_per_epoch s) (first_epoch (at_step g 0))) (Numbered s cuts form consistent) b (life.held ++ option_to_list (option_map anchor_number life.anchor))
      (held_begin s cuts form consistent l life seen files life_is)
      (sym (ap (find (λ (x : made.Block directory.Unit). x.height == boundary (blocks_per_epoch s) (first_epoch (at_step g 0)))) (source_is s 0 life)) ∙ there)

  -- AN OPENING
  module _ (k : Held) (valid : AreValidAt s k) (reads : ((at_step g 0).seen k).shares ≡ maps.entries k.secrets.shares) (gives : ((at_step g 0).seen k).dealings ≡ maps.entries (recovered_in k)) where
    abbrev Why : Fault → EpochInfo directory.Unit → Type 0
    Why its info = IsSetupFault (at_step g 0) (first_epoch (at_step g 0)) info (share_read (at_step g 0) info k) (seed_read (at_step g 0) info k) (started (at_step g 0) ((at_step g 0).seen k)) its

    on_info : (its : Fault) → IsStateFault its → ((info : EpochInfo directory.Unit) → Why its info → info.epoch ≡ first_epoch (at_step g 0)) → OnInfo (at_step g 0) (Why its) → ⊥
    on_info its of_state epoch on = by_block (first_block (at_step g 0)) refl on
      where
        by_info : (b : made.Block directory.Unit) → first_block (at_step g 0) ≡ Some b → (o : Option (EpochInfo directory.Unit)) → info_of b.payload ≡ o → IsSomeAnd o (Why its) → ⊥
        by_info b there None carries why = absurd why
        by_info b there (Some info) carries why =
            let same : info.epoch ≡ first_epoch (at_step g 0) = epoch info why in
            let found = first_there b there in
            setup_valid 0 (first_epoch (at_step g 0)) info (known_at found.0 b found.1 found.2 info carries (found.3 ∙ ap (boundary (blocks_per_epoch s)) (sym same))) k valid reads (seed_read (at_step g 0) info k) (started (at_step g 0) ((at_step g 0).seen k)) gives its of_state why

        by_block : (o : Option (made.Block directory.Unit)) → first_block (at_step g 0) ≡ o → IsSomeAnd o (λ b. IsSomeAnd (info_of b.payload) (Why its)) → ⊥
        by_block None there on = absurd on
        by_block (Some b) there on = by_info b there (info_of b.payload) refl on

    pub opening_valid : (its : Fault) → IsStateFault its → IsOpeningStop (at_step g 0) ((at_step g 0).seen k) k its → ⊥
    opening_valid (LocalState (ShareRefused number)) of_state stop = on_info (LocalState (ShareRefused number)) of_state (λ info why. why.1.0) stop
    opening_valid (LocalState (StoredDealing number dealer)) of_state stop = on_info (LocalState (StoredDealing number dealer)) of_state (λ info why. why.1.0) stop
    opening_valid its of_state stop = absurd of_state
