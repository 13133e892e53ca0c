-- A life from its opening on, by what its calls answered: over the lines; and what it blames.
use Rattle.std.proofs.Common.{MutBor, ◌≡◌, ◌⊎◌, inl, inr, ℕ, ◌<◌, ◌++◌, ◌∷◌, [], List, Some, None, Result, Ok, Err, refl, sym, ◌∙◌, ap, subst, append-nil, arith}
use Rattle.std.specs.Prelude.{⊤, Bool, IfErr, slice_get}
use Rattle.std.specs.Int.NonZero.{non_zero_u32_get}
use Rattle.dkg_journal.specs.Burn.{Burn}
use Rattle.dkg_journal.specs.DeviceCall.{DeviceCall}
use Rattle.dkg_journal.specs.Disk.{Rose}
use Rattle.dkg_journal.specs.Names.{Files}
use Rattle.dkg_journal.specs.declared.disk.Op.{Op}
use Rattle.dkg_types.specs.Blocks.{Block}
use Rattle.dkg_infos.specs.declared.directory.Unit as directory
use Rattle.dkg_infos.specs.declared.entry.Entry.{Entry}
use Rattle.dkg_infos.specs.declared.entry.Entry.TheVariants as entry
use Rattle.dkg_infos.specs.declared.fault.Fault.TheVariants as fault
use Rattle.dkg_infos.specs.declared.fault.Fault.TheVariants.{NoMemory}
use Rattle.dkg_store.specs.Acts.{Held, went}
use Rattle.dkg_store.specs.Corrupt.{AreFit}
use Rattle.dkg_store.specs.declared.devices.Devices.{Devices}
use Rattle.dkg_secrets.specs.declared.secrets.SecretOp.{SecretOp}
use Rattle.dkg_text.specs.declared.script.Life.{Life}
use Rattle.dkg_text.specs.declared.script.Script.{Script}
use Rattle.dkg_script.specs.Inclusion.{IsFormOfInclusion}
use Rattle.dkg_core.specs.Live.{Live}
use Rattle.dkg_core.specs.Node.{node_opening}
use Rattle.dkg_core.specs.Seen.{Seen}
use Rattle.dkg_life.specs.Ready.{IsFoundAt}
use Rattle.dkg_life.specs.Ends.{IsCausedBy}
use Rattle.dkg_life.specs.Given.{HasRead, IsOf}
use Rattle.dkg_life.specs.Made.{Tells}
use Rattle.dkg_life.specs.Planless.{seen_planless}
use Rattle.dkg_life.specs.declared.stop.Stop.{Stop}
use Rattle.dkg_life.specs.declared.stop.Stop.TheVariants.{Cut, Failed, Fault as FaultOf}
use Rattle.dkg_life.proofs.Said.{nothing_held}
use Rattle.dkg_lives.specs.Causes.{StopHasCause}
use Rattle.dkg_lives.specs.Epochs.{IsAtEvent, IsChecked, IsLifeInForm}
use Rattle.dkg_lives.specs.Given.{AreBytes, IsUnplanned, Lived, at_step, blocks_in, lived}
use Rattle.dkg_lives.specs.Lives.{LivesSo, TakesAll, fuse_for}
use Rattle.dkg_lives.specs.Moving.{StepBlames, StopBlames, Went}
use Rattle.dkg_run.specs.Untold.{IsUntold}
use Rattle.dkg_node.specs.Nodes.{HasOpened, IsOfLife, IsStepHere, IsView, ViewedNew}
use Rattle.dkg_around.specs.Sources.{IsToOpen, anchor_numbers}
use Rattle.dkg_lives.specs.Ways.{ReadsSomething, by_entries, trace}
use Rattle.dkg_around.specs.declared.held.HeldBlocks.{HeldBlocks}
use Rattle.dkg_node.specs.declared.node.Node.{Node}
use Rattle.dkg_lives.proofs.Living.{step_blames_around, step_stop_cause}
use Rattle.dkg_lives.proofs.Checked.{life_in_form}
use Rattle.dkg_lives.proofs.LivesStand.{lines_lead, opened_at}
use Rattle.dkg_around.proofs.Stepping.{lines_go, step_wants}
use Rattle.dkg_run.proofs.Turns.{cut_lines, stopped_lines, told_lines, untold_lines, went_uncut}

-- OVER LINES: something was read, and it is a life of the node

abbrev pub LinesSo : Script → ℕ → Life → (out : List Entry) → Result (Unit {0}) Stop → (now : List Entry) → Files → Type 0
LinesSo script number life out how now files =
    (seen : Held → Seen) × ReadsSomething seen × ((picks : List ℕ) → LivesSo by_entries (lived script number life seen files) files (trace out picks) how (trace now picks))

-- what is read of nothing
abbrev nothing : Held → Seen
nothing h = seen_planless nothing_held

reads_nothing : ReadsSomething nothing
reads_nothing = record { read = seen_planless nothing_held; each = refl; unplanned = refl }

module _ (script : Script) (number : ℕ) (life : Life) (files : Files) (out : List Entry) where
  -- The life is cut before it opens.
  pub cut_first : fuse_for life.cut 0 ≡ None → (stop : Stop) → stop ≡ Cut → LinesSo script number life out (Err stop) out files
  cut_first none stop at_cut = (
    nothing,
    reads_nothing,
    λ picks. inl (cut_lines (entry.Step 0) life.cut 0 none (node_opening (at_step (lived script number life nothing files) 0)) stop at_cut
        (λ end mid. TakesAll by_entries (lived script number life nothing files) 1 life.events end mid (Err stop) (trace out picks)) out picks),
  )

  module _ (f : Burn) (lit : fuse_for life.cut 0 ≡ Some f) where
    -- There is no memory for its source.
    pub unsourced_first : LinesSo script number life out (Err (FaultOf NoMemory)) out files
    unsourced_first = (
      nothing,
      reads_nothing,
      λ picks. inl (step_wants by_entries (entry.Step 0) (fuse_for life.cut 0) (node_opening (at_step (lived script number life nothing files) 0)) (trace out picks)
          (λ end mid. TakesAll by_entries (lived script number life nothing files) 1 life.events end mid (Err (FaultOf NoMemory)) (trace out picks)) f lit),
    )

    module _ (G : Seen → Type 0) (now : List Entry) where
      -- The opening stopped.
      pub stopped_first : (stop : Stop) → (stop ≡ Cut → 0 < f.call)
          → HasRead G (λ s. ViewedNew (Err stop) (λ ended. Tells (node_opening (at_step (lived script number life (λ h. s) files) 0)) ended out now))
          → LinesSo script number life out (Err stop) now files
      stopped_first stop cuts read = (
        λ h. read.seen,
        record { read = read.seen; each = refl; unplanned = read.unplanned },
        λ picks. inl (stopped_lines (entry.Step 0) life.cut 0 f lit (node_opening (at_step (lived script number life (λ h. read.seen) files) 0))
            (λ end mid. TakesAll by_entries (lived script number life (λ h. read.seen) files) 1 life.events end mid (Err stop) (trace now picks)) out now picks stop cuts read.so),
      )

      module _ (node : Node) (read : HasRead G (λ s. ViewedNew (Ok node) (λ ended. Tells (node_opening (at_step (lived script number life (λ h. s) files) 0)) ended out now))) where
        abbrev its : Lived
        its = lived script number life (λ h. read.seen) files

        reads_it : ReadsSomething (λ h. read.seen)
        reads_it = record { read = read.seen; each = refl; unplanned = read.unplanned }

        -- Its line found no memory.
        pub untold_first : LinesSo script number life out (Err (FaultOf NoMemory)) now files
        untold_first = (
          λ h. read.seen,
          reads_it,
          λ picks. inl (untold_lines (entry.Step 0) life.cut 0 f lit (node_opening (at_step its 0))
              (λ end mid. TakesAll by_entries its 1 life.events end mid (Err (FaultOf NoMemory)) (trace now picks)) out now picks (read.so).0 (read.so).2),
        )

        -- .. or was told, and the steps of the life came then
        module _ (form : IsFormOfInclusion script) (checked : IsChecked script) (life_is : slice_get script.lives number ≡ Some life)
            (of : (g : Lived) → g.script ≡ script → g.life ≡ life → IsUnplanned g.seen → IsOfLife g node) (blocks : List (Block directory.Unit)) (same : blocks ≡ blocks_in script)
          where
            over_it : IsLifeInForm its
            over_it = life_in_form script number life (λ h. read.seen) files form checked life_is (λ h. read.unplanned)

            step_of_it : IsStepHere its node blocks life
            step_of_it = record { of = of its refl refl (λ h. read.unplanned); blocks_are = same; life_is = refl }

            at_first : IsAtEvent its 0 (read.so).0
            at_first = (opened_at by_entries lines_lead its over_it (read.so).0 f (trace out []) (trace now [])
                (lines_go (node_opening (at_step its 0)) (went (read.so).0) f out now [] (read.so).2 (λ is. absurd (went_uncut (read.so).0 is)))).3

            pub has_opened : AreBytes script.blocks → HasOpened node blocks life
            has_opened bytes = record { g = its; here = over_it; bytes = bytes; of = step_of_it; st = (read.so).0; view = (read.so).1; at = at_first }

            pub told_first : (how : Result (Unit {0}) Stop) (behind now_then : List Entry) → behind ≡ now ++ entry.Step 0 ∷ []
                → ((g : Lived) (st : Live directory.Unit) (picks : List ℕ) → IsLifeInForm g → IsStepHere g node blocks life → IsView node st → IsAtEvent g 0 st
                → TakesAll by_entries g 1 life.events st (trace behind picks) how (trace now_then picks))
                → LinesSo script number life out how now_then files
            told_first how behind now_then is takes = (
              λ h. read.seen,
              reads_it,
              λ picks. inl (told_lines (entry.Step 0) life.cut 0 f lit (node_opening (at_step its 0))
                  (λ end mid. TakesAll by_entries its 1 life.events end mid how (trace now_then picks)) out now picks (read.so).0 (read.so).2 how (trace now_then picks)
                  (subst (λ (l : List Entry). TakesAll by_entries its 1 life.events (read.so).0 (trace l picks) how (trace now_then picks)) is
                  (takes its (read.so).0 picks over_it step_of_it (read.so).1 at_first))),
            )

            -- .. one of both
            pub went_first : {D X : Type 0} (mid last : Devices D X) (how : Result (Unit {0}) Stop) (now_then : List Entry)
                → IsUntold how mid last now now_then ⊎ ((g : Lived) (st : Live directory.Unit) (picks : List ℕ) → IsLifeInForm g → IsStepHere g node blocks life → IsView node st → IsAtEvent g 0 st
                → TakesAll by_entries g 1 life.events st (trace (now ++ entry.Step 0 ∷ []) picks) how (trace now_then picks))
                → LinesSo script number life out how now_then files
            went_first mid last how now_then (inr takes) = told_first how (now ++ entry.Step 0 ∷ []) now_then refl takes
            went_first mid last how now_then (inl none) =
                subst (λ (r : Result (Unit {0}) Stop). LinesSo script number life out r now_then files) (sym none.want)
                (subst (λ (l : List Entry). LinesSo script number life out (Err (FaultOf NoMemory)) l files) (sym none.untold) untold_first)

-- the same files of a disk whose fuse was set
pub lines_over : {D : Type 0} (files : D → Files) (old begun : MutBor D) → begun ≡ old → (script : Script) (number : ℕ) (life : Life) (out : List Entry) (how : Result (Unit {0}) Stop) (now : List Entry)
    → LinesSo script number life out how now (files begun.now) → LinesSo script number life out how now (files old.now)
lines_over files old begun same script number life out how now = subst (λ d. LinesSo script number life out how now (files d.now)) same

-- THE LIFE that is opened

pub to_open : (script : Script) (number : ℕ) (life : Life) (source : HeldBlocks) → IsFormOfInclusion script → IsChecked script → slice_get script.lives number ≡ Some life → source.blocks.now ≡ blocks_in script
    → source.anchor ≡ life.anchor → source.numbers.items ≡ life.held ++ anchor_numbers life.anchor → IsToOpen script number life source
to_open script number life source form checked here blocks anchor numbers = record {
  form = form;
  checked = checked;
  life_is = here;
  source_is = record { blocks_are = blocks; anchor_is = anchor; numbers_are = numbers ∙ ap (λ (l : List ℕ). life.held ++ l) (sym (append-nil (anchor_numbers life.anchor))) };
}

at_limit : (g : Lived) → (at_step g 0).limit ≡ non_zero_u32_get g.script.config.limit
unfolding at_step
at_limit g = refl

module _ (script : Script) (number : ℕ) (life : Life) (node : Node) (of : (g : Lived) → g.script ≡ script → g.life ≡ life → IsUnplanned g.seen → IsOfLife g node) where
  abbrev a_life : Files → Lived
  a_life files = lived script number life nothing files

  its_terms : (files : Files) → IsOf node.actor.terms (at_step (a_life files) 0)
  its_terms files = (of (a_life files) refl refl (λ h. refl)).of 0

  pub limit_is : (files : Files) → non_zero_u32_get node.actor.terms.limit ≡ non_zero_u32_get script.config.limit
  limit_is files = sym (its_terms files).limit ∙ at_limit (a_life files)

  -- What a crash leaves stays within the script's limit.
  pub fit_then : (files : Files) (image mid next : Files → Type 0)
      → (AreFit (non_zero_u32_get script.config.limit) image → AreFit (non_zero_u32_get script.config.limit) mid)
      → (AreFit (non_zero_u32_get node.actor.terms.limit) mid → AreFit (non_zero_u32_get node.actor.terms.limit) next)
      → AreFit (non_zero_u32_get script.config.limit) image → AreFit (non_zero_u32_get script.config.limit) next
  fit_then files image mid next opened stepped fit =
      subst (λ (n : ℕ). AreFit n mid → AreFit n next) (limit_is files) stepped (opened fit)

-- .. of a disk whose fuse was set
pub fit_over : {D : Type 0} (image : D → Files → Type 0) (old begun : MutBor D) → begun ≡ old → (n : ℕ) (next : Files → Type 0) → (AreFit n (image begun.now) → AreFit n next) → AreFit n (image old.now) → AreFit n next
fit_over image old begun same n next = subst (λ d. AreFit n (image d.now) → AreFit n next) same

-- BLAME

pub found_cause : (limit : ℕ) (tells : Bool) (files : Files) (stop : Stop) (P Q R : Type 0) → IsFoundAt limit tells files stop P Q R → StopHasCause stop P Q
found_cause limit tells files Cut P Q R is = tt
found_cause limit tells files Failed P Q R is = is
found_cause limit tells files (FaultOf fault.Disk) P Q R is = is
found_cause limit tells files (FaultOf fault.Secrets) P Q R is = is
found_cause limit tells files (FaultOf its) P Q R is = tt

-- (a fuse that was set is no part of it)
pub opening_blames : {D X : Type 0} (disk_faults : D → ℕ) (secret_faults : X → ℕ) (old begun new : Devices D X) → begun.disk ≡ old.disk → begun.secrets ≡ old.secrets → (stop : Stop)
    → StopHasCause stop (Rose (disk_faults begun.disk.now) (disk_faults new.disk.now)) (Rose (secret_faults begun.secrets.now) (secret_faults new.secrets.now)) → StopBlames disk_faults secret_faults old new stop
opening_blames {D} {X} disk_faults secret_faults old begun new same_disk same_secrets stop is =
    subst (λ (d : MutBor D). StopHasCause stop (Rose (disk_faults d.now) (disk_faults new.disk.now)) (Rose (secret_faults old.secrets.now) (secret_faults new.secrets.now))) same_disk
    (subst (λ (x : MutBor X). StopHasCause stop (Rose (disk_faults begun.disk.now) (disk_faults new.disk.now)) (Rose (secret_faults x.now) (secret_faults new.secrets.now))) same_secrets is)

module _ {D X : Type 0} (tells : Bool) (disk : D → D → List (DeviceCall Op) → Type 0) (secrets : X → X → List (DeviceCall SecretOp) → Type 0) (disk_faults : D → ℕ) (secret_faults : X → ℕ) where
  pub blames_from : (old mid new : Devices D X) → Went tells disk secrets disk_faults secret_faults old mid [] → Went tells disk secrets disk_faults secret_faults mid new [] → (how : Result (Unit {0}) Stop)
      → IfErr how (StepBlames tells disk_faults secret_faults mid new) → IfErr how (StopBlames disk_faults secret_faults old new)
  blames_from old mid new first behind (Ok done) is = tt
  blames_from old mid new first behind (Err stop) is =
      step_stop_cause tells stop (Rose (disk_faults old.disk.now) (disk_faults new.disk.now)) (Rose (secret_faults old.secrets.now) (secret_faults new.secrets.now)) ⊤
      (step_blames_around tells disk_faults secret_faults old mid new new first.later_disk first.later_secrets behind.later_disk behind.later_secrets (omega arith) (omega arith) stop ⊤ is)

  -- .. of a step, behind what went before it
  pub step_blames_from : (old mid new : Devices D X) → Went tells disk secrets disk_faults secret_faults old mid [] → Went tells disk secrets disk_faults secret_faults mid new [] → (stop : Stop) (U : Type 0)
      → IsCausedBy tells stop (Rose (disk_faults mid.disk.now) (disk_faults new.disk.now)) (Rose (secret_faults mid.secrets.now) (secret_faults new.secrets.now)) U → StepBlames tells disk_faults secret_faults old new stop
  step_blames_from old mid new first behind stop U is =
      step_blames_around tells disk_faults secret_faults old mid new new first.later_disk first.later_secrets behind.later_disk behind.later_secrets (omega arith) (omega arith) stop U is
