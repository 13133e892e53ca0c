-- A life from its opening on, by what its calls answered: over both devices.
use Rattle.std.proofs.Common.{MutBor, ◌≡◌, ◌⊎◌, inl, inr, Bool, ℕ, ◌++◌, ◌∷◌, [], List, Some, None, Result, Err, refl, sym, subst}
use Rattle.std.specs.Prelude.{slice_get}
use Rattle.dkg_journal.specs.Names.{Files}
use Rattle.dkg_infos.specs.declared.directory.Unit as directory
use Rattle.dkg_infos.specs.declared.entry.Entry.{Entry}
use Rattle.dkg_infos.specs.declared.entry.Entry.TheVariants as entry
use Rattle.dkg_infos.specs.declared.fault.Fault.TheVariants.{NoMemory}
use Rattle.dkg_script.specs.Inclusion.{IsFormOfInclusion}
use Rattle.dkg_store.specs.Acts.{Ended, Stands, World, at, moment, went}
use Rattle.dkg_secrets.specs.Secrets.{Secrets}
use Rattle.dkg_store.specs.declared.devices.Devices.{Devices}
use Rattle.dkg_text.specs.declared.script.Life.{Life}
use Rattle.dkg_text.specs.declared.script.Script.{Script}
use Rattle.dkg_core.specs.Courses.{Course, on_devices}
use Rattle.dkg_core.specs.Fixed.{Fixed}
use Rattle.dkg_core.specs.Live.{Live, NodeStop}
use Rattle.dkg_core.specs.Node.{node_opening}
use Rattle.dkg_core.specs.Said.{Said}
use Rattle.dkg_life.specs.Ready.{IsFoundAt}
use Rattle.dkg_life.specs.Made.{MakesOn}
use Rattle.dkg_life.specs.Opened.{IsInGrammar, StaysShut}
use Rattle.dkg_life.specs.Planless.{seen_planless}
use Rattle.dkg_life.specs.declared.stop.Stop.{Stop}
use Rattle.dkg_life.specs.declared.stop.Stop.TheVariants.{Cut, Fault as FaultOf}
use Rattle.dkg_lives.specs.Ended.{by_node_stop}
use Rattle.dkg_lives.specs.Epochs.{IsAtEvent, IsChecked}
use Rattle.dkg_lives.specs.Given.{Lived, at_step, limits_of, lived}
use Rattle.dkg_lives.specs.Lives.{LivesSo, TakesAll, fuse_for}
use Rattle.dkg_lives.specs.Moving.{world_of}
use Rattle.dkg_lives.specs.Ways.{StaysHeld, by_worlds}
use Rattle.dkg_lives.proofs.Checked.{life_in_form}
use Rattle.dkg_lives.proofs.LivesStand.{opened_at, worlds_lead}
use Rattle.dkg_around.proofs.Stepping.{worlds_go}
use Rattle.dkg_run.specs.Untold.{IsUntold}
use Rattle.dkg_node.proofs.Shutting.{grammar_or, shut_holds, unsaid_stop}
use Rattle.dkg_run.proofs.Turns.{cut_over, ran_stopped, ran_told, ran_unheld, ran_untold}

-- a cut is the fuse's
pub cut_behind : (limit : ℕ) (tells : Bool) (files : Files) (stop : Stop) (P Q R : Type 0) → IsFoundAt limit tells files stop P Q R → stop ≡ Cut → R
cut_behind limit tells files stop P Q R caused is = subst (λ (s : Stop). IsFoundAt limit tells files s P Q R) is caused

module _ {D X : Type 0} (files : D → Files) (image : D → Files → Type 0) (held : X → Secrets) (old begun : Devices D X) (same_disk : begun.disk ≡ old.disk) (same_secrets : begun.secrets ≡ old.secrets) where
  -- The life is cut before it opens.
  pub cut_ran : begun ≡ old → Stands (files old.disk.now) (image old.disk.now) → (script : Script) (number : ℕ) (life : Life) → fuse_for life.cut 0 ≡ None → (stop : Stop) → stop ≡ Cut → (out : List Entry) (c : Files) → image begun.disk.now c
      → LivesSo by_worlds (lived script number life seen_planless (files old.disk.now)) (files old.disk.now) (world_of held old out (files old.disk.now)) (Err stop) (world_of held begun out c)
  cut_ran same stands script number life none stop at_cut out c here =
      let bare : Lived = lived script number life seen_planless (files old.disk.now) in
      inl (cut_over (entry.Step 0) life.cut 0 none (node_opening (at_step bare 0)) stop at_cut files image held old begun same stands
      (λ end mid. TakesAll by_worlds bare 1 life.events end mid (Err stop) (world_of held begun out c)) out c here)

  module _ (stands : Stands (files old.disk.now) (image old.disk.now)) (script : Script) (number : ℕ) (life : Life) (lit : fuse_for life.cut 0 ≡ Some begun.fuse) (out : List Entry) where
    abbrev pub its : Lived
    its = lived script number life seen_planless (files old.disk.now)

    abbrev course : Course directory.Unit NodeStop (Live directory.Unit)
    course = node_opening (at_step its 0)

    abbrev pub LivesRan : (how : Result (Unit {0}) Stop) (new : Devices D X) (now : List Entry) → Files → Type 0
    LivesRan how new now c = LivesSo by_worlds its (files old.disk.now) (world_of held old out (files old.disk.now)) how (world_of held new now c)

    abbrev Next : (how : Result (Unit {0}) Stop) → World → Live directory.Unit → World → Type 0
    Next how w end mid = TakesAll by_worlds its 1 life.events end mid how w

    abbrev Acted : Ended NodeStop (Live directory.Unit) → (at : MutBor D) (new : Devices D X) (now : List Entry) → Type 0
    Acted ended at new now = MakesOn files image held (on_devices (node_opening (at_step (lived script number life seen_planless (files at.now)) 0))) ended begun new out now

    stood : Stands (files begun.disk.now) (image begun.disk.now)
    stood = subst (λ (d : MutBor D). Stands (files d.now) (image d.now)) (sym same_disk) stands

    acts_over : (ended : Ended NodeStop (Live directory.Unit)) (new : Devices D X) (now : List Entry) → Acted ended begun.disk new now → Acted ended old.disk new now
    acts_over ended new now acts = subst (λ (d : MutBor D). Acted ended d new now) same_disk acts

    -- There is no memory for its source.
    pub unsourced_ran : (c : Files) → image begun.disk.now c → LivesRan (Err (FaultOf NoMemory)) begun out c
    unsourced_ran c here = inl (ran_unheld files image held old begun same_disk same_secrets stands (entry.Step 0) life.cut 0 lit course out (Next (Err (FaultOf NoMemory)) (world_of held begun out c)) c here)

    module _ (new : Devices D X) (now : List Entry) (c : Files) (here : image new.disk.now c) where
      -- The opening stopped.
      module _ (stop : Stop) (acts : IsInGrammar (limits_of script).limit (files begun.disk.now) → Acted (by_node_stop stop) begun.disk new now)
          (fixed : Fixed directory.Unit) (said : Said (on_devices (node_opening fixed)) (by_node_stop stop) out now)
          (untold : (IsInGrammar (limits_of script).limit (files begun.disk.now) → ⊥) → now ≡ out)
          (shut : (IsInGrammar (limits_of script).limit (files begun.disk.now) → ⊥) → StaysShut (image begun.disk.now) (image new.disk.now) (held begun.secrets.now) (held new.secrets.now))
        where
          -- .. whose journal is not in its grammar
          refused : (IsInGrammar (limits_of script).limit (files begun.disk.now) → ⊥) → LivesRan (Err stop) new now c
          refused not = inr (
            λ its. not (subst (λ (d : MutBor D). IsInGrammar (limits_of script).limit (files d.now)) (sym same_disk) its),
            (stop, refl, (unsaid_stop fixed out now (untold not) stop said, untold not, kept)),
          )
            where
              shut_old : StaysShut (image old.disk.now) (image new.disk.now) (held old.secrets.now) (held new.secrets.now)
              shut_old = subst (λ (d : MutBor D). StaysShut (image d.now) (image new.disk.now) (held old.secrets.now) (held new.secrets.now)) same_disk
                  (subst (λ (x : MutBor X). StaysShut (image begun.disk.now) (image new.disk.now) (held x.now) (held new.secrets.now)) same_secrets (shut not))

              kept : StaysHeld (world_of held old out (files old.disk.now)).held (world_of held new now c).held
              kept = shut_holds (files old.disk.now) (image old.disk.now) (image new.disk.now) (held old.secrets.now) (held new.secrets.now) stands shut_old c here

          pub stopped_ran : LivesRan (Err stop) new now c
          stopped_ran = by_grammar (grammar_or (limits_of script).limit (files begun.disk.now))
            where
              by_grammar : IsInGrammar (limits_of script).limit (files begun.disk.now) ⊎ (IsInGrammar (limits_of script).limit (files begun.disk.now) → ⊥) → LivesRan (Err stop) new now c
              by_grammar (inl grammar) = inl (ran_stopped files image held old begun same_disk same_secrets stands (entry.Step 0) life.cut 0 lit course out (Next (Err stop) (world_of held new now c))
                  new now c here stop (acts_over (by_node_stop stop) new now (acts grammar)))
              by_grammar (inr not) = refused not

      -- It went,
      module _ (end : Live directory.Unit) (acts : Acted (went end) begun.disk new now) where
        -- .. and its line found no memory.
        pub untold_ran : LivesRan (Err (FaultOf NoMemory)) new now c
        untold_ran = inl (ran_untold files image held old begun same_disk same_secrets stands (entry.Step 0) life.cut 0 lit course out (Next (Err (FaultOf NoMemory)) (world_of held new now c))
            new now c here end (acts_over (went end) new now acts))

        -- .. the node stands at its life's first state,
        pub at_first : IsFormOfInclusion script → IsChecked script → slice_get script.lives number ≡ Some life → IsAtEvent its 0 end
        at_first form checked life_is = (opened_at by_worlds worlds_lead its (life_in_form script number life seen_planless (files old.disk.now) form checked life_is (λ h. refl)) end begun.fuse
            (record (at (moment out (held begun.secrets.now) begun.fuse) (files begun.disk.now)) { fuse = begun.fuse }) (at (moment now (held new.secrets.now) new.fuse) c)
            (worlds_go course (went end) (files begun.disk.now) (files new.disk.now) (image begun.disk.now) (image new.disk.now) (moment out (held begun.secrets.now) begun.fuse) (moment now (held new.secrets.now) new.fuse)
            (acts_over (went end) new now acts) stood c here begun.fuse)).3

        -- .. or was told, and its steps came then.
        pub told_ran : (how : Result (Unit {0}) Stop) (w : World) (told : List Entry) → told ≡ now ++ entry.Step 0 ∷ [] → TakesAll by_worlds its 1 life.events end (world_of held new told c) how w
            → LivesSo by_worlds its (files old.disk.now) (world_of held old out (files old.disk.now)) how w
        told_ran how w told is takes = inl (ran_told files image held old begun same_disk same_secrets stands (entry.Step 0) life.cut 0 lit course out (Next how w)
            new now c here end (acts_over (went end) new now acts) how w
            (subst (λ (l : List Entry). TakesAll by_worlds its 1 life.events end (world_of held new l c) how w) is takes))

    -- It went, and its line found no memory, or its steps came then.
    pub went_ran : (new : Devices D X) (now : List Entry) (c : Files) (here : image new.disk.now c) (end : Live directory.Unit) (acts : Acted (went end) begun.disk new now)
        (how : Result (Unit {0}) Stop) (last : Devices D X) (lines : List Entry) (left : Files) → image last.disk.now left
        → IsUntold how new last now lines ⊎ TakesAll by_worlds its 1 life.events end (world_of held new (now ++ entry.Step 0 ∷ []) c) how (world_of held last lines left)
        → LivesRan how last lines left
    went_ran new now c here end acts how last lines left image_is (inr takes) = told_ran new now c here end acts how (world_of held last lines left) (now ++ entry.Step 0 ∷ []) refl takes
    went_ran new now c here end acts how last lines left image_is (inl none) =
        subst (λ (r : Result (Unit {0}) Stop). LivesRan r last lines left) (sym none.want)
        (subst (λ (l : List Entry). LivesRan (Err (FaultOf NoMemory)) last l left) (sym none.untold)
        (subst (λ (d : Devices D X). image d.disk.now left → LivesRan (Err (FaultOf NoMemory)) d now left) (sym none.same) (λ its. untold_ran new now left its end acts) image_is))

-- one of two, the second of which goes on
pub or_then : {A B C : Type 0} → A ⊎ B → (B → C) → A ⊎ C
or_then (inl a) f = inl a
or_then (inr b) f = inr (f b)
