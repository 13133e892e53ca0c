-- A node's opening from the actor's, as a life of a script gives it.
use Rattle.std.proofs.Common.{◌≡◌, ℕ, ◌-◌, Bool, List, Some, Ok, Err, refl, ◌∙◌, ap, subst}
use Rattle.std.specs.Prelude.{slice_get}
use Rattle.std.specs.Int.NonZero.{non_zero_u64_get}
use Rattle.std.specs.declared.num.NonZeroU32.{NonZeroU32}
use Rattle.std.specs.declared.num.NonZeroU64.{NonZeroU64}
use Rattle.dkg_ceremony.specs.declared.mode.Mode.{Mode}
use Rattle.dkg_ceremony.specs.declared.mode.ModeVersion.{ModeVersion}
use Rattle.dkg_ceremony.specs.declared.mode.Reveal.{Reveal}
use Rattle.dkg_ceremony.specs.declared.mode.Reveal.TheVariants.{V1}
use Rattle.dkg_fence.specs.Readiness.{Readiness}
use Rattle.dkg_journal.specs.Burn.{Burn}
use Rattle.dkg_journal.specs.Names.{Files}
use Rattle.dkg_infos.specs.declared.directory.Unit as directory
use Rattle.dkg_infos.specs.declared.entry.Entry.{Entry}
use Rattle.dkg_infos.specs.declared.fault.Fault.TheVariants as fault
use Rattle.dkg_types.specs.declared.scheme.SchemeInfo.{SchemeInfo}
use Rattle.dkg_text.specs.declared.script.Life.{Life}
use Rattle.dkg_text.specs.declared.script.Script.{Script}
use Rattle.dkg_text.specs.declared.script.ScriptConfig.{ScriptConfig}
use Rattle.dkg_script.specs.Inclusion.{IsFormOfInclusion}
use Rattle.dkg_store.specs.Acts.{Ended, Held, Moment, Stands, moment, went}
use Rattle.dkg_secrets.specs.Secrets.{Secrets}
use Rattle.dkg_core.specs.Core.{no_inclusion, opening}
use Rattle.dkg_core.specs.Courses.{on_devices}
use Rattle.dkg_core.specs.Fixed.{Fixed}
use Rattle.dkg_core.specs.Live.{Live}
use Rattle.dkg_core.specs.Node.{kept_material, node_opening}
use Rattle.dkg_core.specs.Said.{Said}
use Rattle.dkg_core.specs.Seen.{Seen}
use Rattle.dkg_core.specs.Sources.{SourceAnswers, source_over}
use Rattle.dkg_life.specs.Ready.{IsFoundAt}
use Rattle.dkg_reshare.specs.Actors.{AreTerms, EndsAt, IfIncluding, lives}
use Rattle.dkg_life.specs.Ends.{IsCaused, by_stop}
use Rattle.dkg_life.specs.Given.{AreGivenFrom, HasRead, IsLent, IsOf, reading}
use Rattle.dkg_verifying.specs.InclusionOf.{IsSeen}
use Rattle.dkg_life.specs.LiveOf.{Beside, EndsBeside, live_of, nothing_beside}
use Rattle.dkg_life.specs.Made.{MakesAt, Speaks, Tells, UnlessBroken}
use Rattle.dkg_life.specs.Moved.{StaysAbove}
use Rattle.dkg_life.specs.Opened.{IsInGrammar, IsOpeningOf, epoch_at}
use Rattle.dkg_life.specs.Planless.{IsBareOpening, seen_planless}
use Rattle.dkg_reshare.specs.declared.actor.State.{State}
use Rattle.dkg_life.specs.declared.config.Terms.{Terms}
use Rattle.dkg_life.specs.declared.life.Life as reshare
use Rattle.dkg_life.specs.declared.stop.Stop.{Stop}
use Rattle.dkg_life.specs.declared.stop.Stop.TheVariants.{Cut, Failed, Fault as FaultOf}
use Rattle.dkg_life.proofs.Burning.{burns_next, burns_none, unless}
use Rattle.dkg_lives.specs.Ended.{by_node_stop}
use Rattle.dkg_core.specs.Endings.{first_epoch}
use Rattle.dkg_lives.specs.Epochs.{IsChecked, IsLifeInForm}
use Rattle.dkg_lives.specs.Given.{IsUnplanned, Lived, anchor_in, at_step, blocks_in, limits_of, lived, numbered, starts_above, unsealed}
use Rattle.dkg_around.specs.Orchestrator.{IsFenceReady, IsHalfGiven, MayEnter, ends_half}
use Rattle.dkg_node.specs.Nodes.{ViewedNew, ended_new}
use Rattle.dkg_around.specs.Sources.{IsSourceOf}
use Rattle.dkg_around.specs.declared.held.HeldBlocks.{HeldBlocks}
use Rattle.dkg_node.specs.declared.node.Node.{Node}
use Rattle.dkg_lives.proofs.Checked.{life_in_form}
use Rattle.dkg_node.proofs.Noding.{at_oneshot, is_of, made_there, went_burns}
use Rattle.dkg_node.proofs.Opening.{Lives, end_of, ended_makes, ended_says, epoch_is, fence_ready, half_given, halted_makes, halted_says, lent_at, lives_at, lives_err, may_enter, may_enter_made, opened_made, opened_says, opened_view, opening_of, living_there, lives_went, number_at, planless_at, reading_as, seen_empty, unless_named}
use Rattle.dkg_around.proofs.Sourced.{source_is}

-- the terms that a script's configuration comes to
pub are_of : (terms : Terms) (config : ScriptConfig) (me : ℕ) (blocks : NonZeroU64) (limit : NonZeroU32) (max_mode : ModeVersion) (mode : Mode) (reveal : Reveal) (namespace : List ℕ)
    → AreTerms terms me blocks limit max_mode mode reveal namespace
    → me ≡ config.me → namespace ≡ config.namespace → mode ≡ config.mode → max_mode ≡ config.max_mode → reveal ≡ V1 → limit ≡ config.limit → blocks ≡ config.blocks_per_epoch
    → AreTerms terms config.me config.blocks_per_epoch config.limit config.max_mode config.mode V1 config.namespace
are_of terms config me blocks limit max_mode mode reveal namespace are a b c d e f h = record {
  me_is = are.me_is ∙ a;
  blocks_are = are.blocks_are ∙ h;
  limit_is = are.limit_is ∙ f;
  version_is = are.version_is ∙ d;
  mode_is = are.mode_is ∙ c;
  reveal_is = are.reveal_is ∙ e;
  namespace_is = are.namespace_is ∙ b;
}

-- what a half is given, at epochs of the same length
pub half_as : {m n : ℕ} {source : SourceAnswers directory.Unit} {c : Fixed directory.Unit} → IsHalfGiven m source c → m ≡ n → IsHalfGiven n source c
half_as {source = source} {c = c} given same = subst (λ (k : ℕ). IsHalfGiven k source c) same given

-- The orchestrator's half blames no device.
pub found_nothing : (limit : ℕ) (tells : Bool) (files : Files) (stop : Stop) (disk secrets reached : Type 0) → IsCaused stop ⊥ ⊥ ⊥ → IsFoundAt limit tells files stop disk secrets reached
found_nothing limit tells files (FaultOf fault.NoMemory) disk secrets reached is = tt
found_nothing limit tells files (FaultOf fault.Disk) disk secrets reached is = absurd is
found_nothing limit tells files (FaultOf fault.Secrets) disk secrets reached is = absurd is
found_nothing limit tells files (FaultOf (fault.Corrupt x y)) disk secrets reached is = absurd is
found_nothing limit tells files (FaultOf (fault.InvalidConfig x)) disk secrets reached is = tt
found_nothing limit tells files (FaultOf (fault.StateSyncEpochs x y)) disk secrets reached is = tt
found_nothing limit tells files (FaultOf fault.StateSyncMaterial) disk secrets reached is = tt
found_nothing limit tells files (FaultOf (fault.ConflictingBlock x)) disk secrets reached is = tt
found_nothing limit tells files (FaultOf (fault.DetachedBlock x)) disk secrets reached is = tt
found_nothing limit tells files (FaultOf (fault.SkippedHeight x y)) disk secrets reached is = tt
found_nothing limit tells files (FaultOf (fault.OutOfWindow x)) disk secrets reached is = tt
found_nothing limit tells files (FaultOf fault.HeightRange) disk secrets reached is = tt
found_nothing limit tells files (FaultOf (fault.MissingEpochInfo x)) disk secrets reached is = tt
found_nothing limit tells files (FaultOf (fault.WrongEpoch x y)) disk secrets reached is = tt
found_nothing limit tells files (FaultOf (fault.InvalidParticipants x)) disk secrets reached is = tt
found_nothing limit tells files (FaultOf (fault.DirectoryMismatch x)) disk secrets reached is = tt
found_nothing limit tells files (FaultOf (fault.LocalState x)) disk secrets reached is = tt
found_nothing limit tells files (FaultOf fault.FinalBlockMissing) disk secrets reached is = tt
found_nothing limit tells files (FaultOf fault.FloorBlockMissing) disk secrets reached is = tt
found_nothing limit tells files Cut disk secrets reached is = absurd is
found_nothing limit tells files Failed disk secrets reached is = absurd is

pub found_as : (limit most : ℕ) → limit ≡ most → (tells : Bool) (files : Files) (stop : Stop) (disk secrets reached : Type 0) → IsFoundAt limit tells files stop disk secrets reached → IsFoundAt most tells files stop disk secrets reached
found_as limit most same tells files stop disk secrets reached = subst (λ (n : ℕ). IsFoundAt n tells files stop disk secrets reached) same

pub reads_planless : IsUnplanned seen_planless
reads_planless = λ h. refl

-- it starts in the same epoch over any files
pub starts_alike : (script : Script) (number : ℕ) (life : Life) (files : Files) → first_epoch (at_step (lived script number life seen_planless files) 0) - 1 ≡ starts_above script number life
unfolding at_step
starts_alike script number life files = refl

module _ (script : Script) (number : ℕ) (life : Life) (source : HeldBlocks) (files : Files) (form : IsFormOfInclusion script) (checked : IsChecked script) (life_is : slice_get script.lives number ≡ Some life)
    (from : IsSourceOf (blocks_in script) life 0 source) (terms : Terms)
    (are : AreTerms terms script.config.me script.config.blocks_per_epoch script.config.limit script.config.max_mode script.config.mode V1 script.config.namespace)
  where
    abbrev pub life_with : (Held → Seen) → Lived
    life_with seen = lived script number life seen files

    abbrev pub its : Fixed directory.Unit
    its = at_step (life_with seen_planless) 0

    abbrev pub answers : SourceAnswers directory.Unit
    answers = source_over unsealed (anchor_in source.blocks.now source.anchor) (numbered source.blocks.now source.numbers.items)

    here_with : (seen : Held → Seen) → IsUnplanned seen → IsLifeInForm (life_with seen)
    here_with seen reads = life_in_form script number life seen files form checked life_is reads

    of_with : (seen : Held → Seen) → IsUnplanned seen → IsOf terms (at_step (life_with seen) 0)
    of_with seen reads = is_of (life_with seen) terms script.config refl reads are 0

    -- what the actor's opening asks
    pub opening_is : IsInGrammar (limits_of script).limit files → IsOpeningOf terms answers number life.word files its
    opening_is grammar =
        opening_of (life_with seen_planless) terms answers 0 (of_with seen_planless reads_planless) (source_is (life_with seen_planless) source from) files refl refl grammar

    pub lent_is : IsLent terms answers life.word its
    lent_is = lent_at (life_with seen_planless) terms answers 0 (of_with seen_planless reads_planless) (source_is (life_with seen_planless) source from)

    pub number_is : its.life ≡ number
    number_is = number_at (life_with seen_planless) terms answers 0 (of_with seen_planless reads_planless) (source_is (life_with seen_planless) source from)

    pub planless_is : IsBareOpening its
    planless_is = planless_at (life_with seen_planless) terms answers 0 (of_with seen_planless reads_planless) (source_is (life_with seen_planless) source from)

    -- the epoch before the one in which it starts
    pub least_is : epoch_at answers terms - 1 ≡ starts_above script number life
    least_is = ap (λ (e : ℕ). e - 1) (epoch_is (life_with seen_planless) terms answers 0 (of_with seen_planless reads_planless) (source_is (life_with seen_planless) source from)) ∙ starts_alike script number life files

    given_with : (seen : Held → Seen) → IsUnplanned seen → IsHalfGiven (non_zero_u64_get terms.blocks_per_epoch) answers (at_step (life_with seen) 0)
    given_with seen reads = half_given (life_with seen) terms answers 0 (of_with seen reads) (source_is (life_with seen) source from)

    -- with what was read
    read_as : (s : Seen) → reading s its ≡ at_step (life_with (λ h. s)) 0
    read_as s = reading_as (life_with seen_planless) s

    module _ (Took : List (ℕ × SchemeInfo) → Type 0) (fence : Readiness) (n : Node) (P : reshare.Life directory.Unit → Type 0) where
      -- THE ACTOR'S OPENING WENT, and the half's speaks
      module _ (ends_at : EndsAt n.actor.state (Ok tt) P) where
        living : Lives n.actor.state
        living = lives_at n.actor.state P ends_at

        went_to : (view : reshare.Life directory.Unit → Live directory.Unit) → lives view n.actor.state (Ok tt) ≡ went (view living.life)
        went_to view = lives_went view n.actor.state living

        -- its lines, of what was read
        module _ {out mid : List Entry} {Given : Seen → Type 0}
            (said : HasRead Given (λ s. EndsBeside nothing_beside Took (λ now. Tells (opening (reading s its)) (lives (live_of now fence) n.actor.state (Ok tt)) out mid)))
          where
            abbrev now_is : Beside directory.Unit
            now_is = said.so.now

            reads_it : IsUnplanned (λ h. said.seen)
            reads_it = λ h. said.unplanned

            lines_are : Said (on_devices (opening (at_step (life_with (λ h. said.seen)) 0))) (went (live_of now_is fence living.life)) out mid
            lines_are = subst (λ (c : Fixed directory.Unit). Said (on_devices (opening c)) (went (live_of now_is fence living.life)) out mid) (read_as said.seen)
                (subst (λ (how : Ended _ _). Said (on_devices (opening (reading said.seen its))) how out mid) (went_to (live_of now_is fence)) said.so.holds)

            -- so the fence is ready
            pub ready_is : (blocks : ℕ) → non_zero_u64_get terms.blocks_per_epoch ≡ blocks → (c : Fixed directory.Unit) × IsHalfGiven blocks answers c × IsFenceReady c fence
            ready_is blocks same = (
              at_step (life_with (λ h. said.seen)) 0,
              subst (λ (n : ℕ). IsHalfGiven n answers (at_step (life_with (λ h. said.seen)) 0)) same (given_with (λ h. said.seen) reads_it),
              fence_ready (life_with (λ h. said.seen)) (here_with (λ h. said.seen) reads_it) now_is fence living.life said.so.orchestrator lines_are,
            )

            enters : MayEnter (at_step (life_with (λ h. said.seen)) 0) fence (live_of now_is fence living.life)
            enters = may_enter (life_with (λ h. said.seen)) (here_with (λ h. said.seen) reads_it) now_is fence living.life said.so.orchestrator lines_are

            pub opened_lines : IfIncluding n.actor.state (λ life its. IsSeen its no_inclusion) → (out_now : List Entry) (Asked : Seen → Type 0) → ((s : Seen) → Given s → Asked s)
                → ((c : Fixed directory.Unit) (st : Live directory.Unit) → IsHalfGiven (non_zero_u64_get terms.blocks_per_epoch) answers c → MayEnter c fence st
                → Speaks (kept_material c st) (ends_half n.fence st (Ok n.half)) mid out_now)
                → HasRead Asked (λ s. ViewedNew (Ok n) (λ ended. Tells (node_opening (at_step (life_with (λ h. s)) 0)) ended out out_now))
            opened_lines empty out_now Asked so speaks = record {
              seen = said.seen;
              unplanned = said.unplanned;
              listed = said.listed;
              given = so said.seen said.given;
              so = opened_says n (at_step (life_with (λ h. said.seen)) 0) (at_oneshot (life_with (λ h. said.seen)) 0) now_is fence living.life (seen_empty now_is.inclusion said.so.inclusion n.actor.state living empty) (living_there n.actor.state living) lines_are
                  (speaks (at_step (life_with (λ h. said.seen)) 0) (live_of now_is fence living.life) (given_with (λ h. said.seen) reads_it) enters);
            }

            pub halted_lines : (stop : Stop) (out_now : List Entry) (half_fence : Readiness) (Asked : Seen → Type 0) → ((s : Seen) → Given s → Asked s)
                → ((c : Fixed directory.Unit) (st : Live directory.Unit) → IsHalfGiven (non_zero_u64_get terms.blocks_per_epoch) answers c → MayEnter c fence st
                → Speaks (kept_material c st) (ends_half half_fence st (Err stop)) mid out_now)
                → HasRead Asked (λ s. Tells (node_opening (at_step (life_with (λ h. s)) 0)) (by_node_stop stop) out out_now)
            halted_lines stop out_now half_fence Asked so speaks = record {
              seen = said.seen;
              unplanned = said.unplanned;
              listed = said.listed;
              given = so said.seen said.given;
              so = halted_says (at_step (life_with (λ h. said.seen)) 0) (at_oneshot (life_with (λ h. said.seen)) 0) (live_of now_is fence living.life) stop lines_are
                  (speaks (at_step (life_with (λ h. said.seen)) 0) (live_of now_is fence living.life) (given_with (λ h. said.seen) reads_it) enters);
            }

        -- .. over the devices
        module _ {files_now : Files} {image between : Files → Type 0} {old : Moment} {mid : List Entry} {s : Secrets} {f : Burn}
            (made : EndsBeside nothing_beside Took (λ now. MakesAt (on_devices (opening its)) (lives (live_of now fence) n.actor.state (Ok tt)) files image files_now between old (moment mid s f)))
          where
            abbrev end_is : Live directory.Unit
            end_is = live_of made.now fence living.life

            acts_are : MakesAt (on_devices (opening its)) (went end_is) files image files_now between old (moment mid s f)
            acts_are = subst (λ (how : Ended _ _). MakesAt (on_devices (opening its)) how files image files_now between old (moment mid s f)) (went_to (live_of made.now fence)) made.holds

            given_is : IsHalfGiven (non_zero_u64_get terms.blocks_per_epoch) answers its
            given_is = given_with seen_planless reads_planless

            enters_made : Stands files image → MayEnter its fence end_is
            enters_made stands = may_enter_made (life_with seen_planless) (here_with seen_planless reads_planless) made.now fence living.life made.orchestrator stands acts_are

            pub opened_acts : IfIncluding n.actor.state (λ life its. IsSeen its no_inclusion) → (out : List Entry)
                → ((c : Fixed directory.Unit) (st : Live directory.Unit) → IsHalfGiven (non_zero_u64_get terms.blocks_per_epoch) answers c → MayEnter c fence st
                → Speaks (kept_material c st) (ends_half n.fence st (Ok n.half)) mid out)
                → ViewedNew (Ok n) (λ ended. MakesAt (on_devices (node_opening its)) ended files image files_now between old (moment out s f))
            opened_acts empty out speaks =
                let end = end_of n its (at_oneshot (life_with seen_planless) 0) made.now fence living.life (seen_empty (made.now).inclusion made.inclusion n.actor.state living empty) (living_there n.actor.state living) in (
                  end,
                  opened_view n its (at_oneshot (life_with seen_planless) 0) made.now fence living.life (seen_empty (made.now).inclusion made.inclusion n.actor.state living empty) (living_there n.actor.state living),
                  made_there (went end) (burns_next (went end) (went_burns {S = Live directory.Unit} {T = Live directory.Unit} {y = end_is} acts_are.burns) (burns_none (went end) f)) (λ stands.
                      opened_made n its (at_oneshot (life_with seen_planless) 0) made.now fence living.life (seen_empty (made.now).inclusion made.inclusion n.actor.state living empty) (living_there n.actor.state living) acts_are (speaks its end_is given_is (enters_made stands))),
                )

            pub halted_acts : (stop : Stop) (out : List Entry) (half_fence : Readiness)
                → ((c : Fixed directory.Unit) (st : Live directory.Unit) → IsHalfGiven (non_zero_u64_get terms.blocks_per_epoch) answers c → MayEnter c fence st
                → Speaks (kept_material c st) (ends_half half_fence st (Err stop)) mid out)
                → MakesAt (on_devices (node_opening its)) (by_node_stop stop) files image files_now between old (moment out s f)
            halted_acts stop out half_fence speaks =
                made_there (by_node_stop stop) (burns_next (by_node_stop stop) (went_burns {S = Live directory.Unit} {T = Live directory.Unit} {y = end_is} acts_are.burns) (burns_none (by_node_stop stop) f)) (λ stands.
                halted_makes its (at_oneshot (life_with seen_planless) 0) end_is stop acts_are (speaks its end_is given_is (enters_made stands)))

    module _ {C Signer Cfg : Type 0} (Took : List (ℕ × SchemeInfo) → Type 0) (fence : Readiness) (state : State C directory.Unit Signer Cfg) where
      -- IT ENDED in the actor's
      module _ (stop : Stop) where
        pub ended_acts : {files_now : Files} {image between : Files → Type 0} {old new : Moment}
            → EndsBeside nothing_beside Took (λ now. MakesAt (on_devices (opening its)) (lives (live_of now fence) state (Err stop)) files image files_now between old new)
            → MakesAt (on_devices (node_opening its)) (by_node_stop stop) files image files_now between old new
        ended_acts {files_now} {image} {between} {old} {new} made =
            ended_makes its stop (subst (λ (how : Ended _ _). MakesAt (on_devices (opening its)) how files image files_now between old new) (lives_err (live_of made.now fence) state stop) made.holds)

        pub ended_lines : {out new : List Entry} {Given : Seen → Type 0} (Asked : Seen → Type 0) → ((s : Seen) → Given s → Asked s)
            → HasRead Given (λ s. EndsBeside nothing_beside Took (λ now. Tells (opening (reading s its)) (lives (live_of now fence) state (Err stop)) out new))
            → HasRead Asked (λ s. Tells (node_opening (at_step (life_with (λ h. s)) 0)) (by_node_stop stop) out new)
        ended_lines {out} {new} Asked so said = record {
          seen = said.seen;
          unplanned = said.unplanned;
          listed = said.listed;
          given = so said.seen said.given;
          so = ended_says (at_step (life_with (λ h. said.seen)) 0) stop
              (subst (λ (c : Fixed directory.Unit). Said (on_devices (opening c)) (by_stop stop) out new) (read_as said.seen)
              (subst (λ (how : Ended _ _). Said (on_devices (opening (reading said.seen its))) how out new) (lives_err (live_of said.so.now fence) state stop) said.so.holds));
        }

    -- WHAT WAS GIVEN lies at or above the epoch before the one in which it starts
    pub given_from : (image : Files → Type 0) (held : Secrets) (s : Seen) → AreGivenFrom (epoch_at answers terms - 1) s.dealings image held → AreGivenFrom (starts_above script number life) s.dealings image held
    given_from image held s given = subst (λ (n : ℕ). AreGivenFrom n s.dealings image held) least_is given

    pub above_from : (image next : Files → Type 0) (held now : Secrets) → StaysAbove (epoch_at answers terms - 1) image next held now → StaysAbove (starts_above script number life) image next held now
    above_from image next held now above = subst (λ (n : ℕ). StaysAbove n image next held now) least_is above

    module _ (A B : Type 0) (image : Files → Type 0) (held : Secrets) where
      pub given_opened : (s : Seen) → (A → B → AreGivenFrom (epoch_at answers terms - 1) s.dealings image held) → A → B → AreGivenFrom (starts_above script number life) s.dealings image held
      given_opened s given a b = given_from image held s (given a b)

      pub given_halted : (stop : Stop) (s : Seen) → (A → B → AreGivenFrom (epoch_at answers terms - 1) s.dealings image held)
          → UnlessBroken (ended_new (Err stop)) (A → B → AreGivenFrom (starts_above script number life) s.dealings image held)
      given_halted stop s given = unless (ended_new (Err stop)) (A → B → AreGivenFrom (starts_above script number life) s.dealings image held) (given_opened s given)

      pub given_ended : (stop : Stop) (s : Seen) → UnlessBroken (by_stop {S = Unit {0}} stop) (A → B → AreGivenFrom (epoch_at answers terms - 1) s.dealings image held)
          → UnlessBroken (ended_new (Err stop)) (A → B → AreGivenFrom (starts_above script number life) s.dealings image held)
      given_ended stop s given = unless_named (Unit {0}) Node stop (A → B → AreGivenFrom (epoch_at answers terms - 1) s.dealings image held) (A → B → AreGivenFrom (starts_above script number life) s.dealings image held) (given_opened s) given
