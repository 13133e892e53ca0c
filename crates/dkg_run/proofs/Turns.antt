-- A step of a life, by what its calls answered: over the lines, and over both devices.
use Rattle.std.proofs.Common.{MutBor, ◌≡◌, inl, inr, ℕ, ◌<◌, ◌++◌, [], ◌∷◌, Bool, List, Option, Some, None, Result, Ok, Err, refl, sym, subst, arith}
use Rattle.std.specs.Prelude.{Contains, IsTrue, filter_map}
use Rattle.std.proofs.lemmas.List.Elements.{Contains-append_right}
use Rattle.std.specs.Int.NonZero.{non_zero_u32_get}
use Rattle.dkg_ceremony.specs.Acks.{ack_of, check_ack_of}
use Rattle.dkg_ceremony.specs.Deals.{deal_of}
use Rattle.dkg_journal.specs.Burn.{Burn}
use Rattle.dkg_journal.specs.Disk.{Lands}
use Rattle.dkg_journal.specs.Names.{Files}
use Rattle.dkg_infos.specs.declared.directory.Unit as directory
use Rattle.dkg_infos.specs.declared.entry.Entry.{Entry}
use Rattle.dkg_infos.specs.declared.fault.Fault.TheVariants.{NoMemory}
use Rattle.dkg_store.specs.Acts.{Ended, Stands, World, at, broken, by_cut, by_want, moment, went}
use Rattle.dkg_store.specs.Corrupt.{AreFit}
use Rattle.dkg_secrets.specs.Secrets.{Secrets}
use Rattle.dkg_store.specs.declared.devices.Devices.{Devices}
use Rattle.dkg_store.proofs.Acts.{breaks_none}
use Rattle.dkg_types.specs.Blocks.{Block}
use Rattle.dkg_script.specs.Blocks.{delivered_number}
use Rattle.dkg_text.specs.declared.script.Cut as cut
use Rattle.dkg_text.specs.declared.script.Life.{Life}
use Rattle.dkg_text.specs.declared.script.Event.{Event}
use Rattle.dkg_text.specs.declared.script.Event.TheVariants.{Peer, Final, Next, Release, Info, Feed, Over, Cancel, Work}
use Rattle.dkg_core.specs.Courses.{Course, on_devices}
use Rattle.dkg_core.specs.Live.{Live, NodeStop}
use Rattle.dkg_life.specs.Ready.{IsReadyLife}
use Rattle.dkg_reshare.specs.Actors.{IfLiving}
use Rattle.dkg_life.specs.Made.{MakesAt, MakesOn, Tells}
use Rattle.dkg_life.specs.Moved.{IsFirm}
use Rattle.dkg_reshare.specs.declared.actor.State.TheVariants.{Failed as HadFailed, Living, New}
use Rattle.dkg_life.specs.declared.config.Terms.{Terms}
use Rattle.dkg_life.specs.declared.stop.Stop.{Stop}
use Rattle.dkg_life.specs.declared.stop.Stop.TheVariants.{Cut, Fault as FaultOf}
use Rattle.dkg_life.proofs.Burning.{burns_none}
use Rattle.dkg_lives.specs.Ended.{by_node_stop}
use Rattle.dkg_lives.specs.Lives.{Steps, fuse_for}
use Rattle.dkg_life.specs.Ends.{IsCausedBy}
use Rattle.dkg_lives.specs.Moving.{world_of}
use Rattle.dkg_node.specs.Nodes.{IsEventHere, IsEventOfBlocks, IsReadyNode}
use Rattle.dkg_around.specs.declared.held.HeldBlocks.{HeldBlocks}
use Rattle.dkg_lives.specs.Given.{Lived}
use Rattle.dkg_lives.specs.Ways.{Trace, Way, by_entries, by_worlds, trace}
use Rattle.dkg_node.specs.declared.node.Node.{Node}
use Rattle.dkg_node.proofs.Noding.{NodeState, living_in}
use Rattle.dkg_around.proofs.Stepping.{lines_go, step_cut, step_stops, step_told, step_untold, uncut, worlds_go}

-- NOTHING IS LOOSE on the devices of a node that goes on

pub node_lands : {D X : Type 0} (tells : Bool) (files : D → Files) (image : D → Files → Type 0) (node : Node) (devices : Devices D X) → IsReadyNode tells files image node devices → IsTrue tells
    → Lands (files devices.disk.now) (image devices.disk.now)
node_lands tells files image node devices ready told =
    let its = living_in node.actor.state (λ life. IsReadyLife tells files image ack_of deal_of check_ack_of node.actor.terms life devices) ready.living ready.at.ready in
    (its.1.firm told).lands

-- A STEP WITH ITS FUSE

pub went_uncut : (end : Live directory.Unit) → ◌≡◌ {A = Ended NodeStop (Live directory.Unit)} (went end) (broken by_cut) → ⊥
went_uncut end is = cc

module _ (line : Entry) (its : Option cut.Cut) (number : ℕ) (f : Burn) (lit : fuse_for its number ≡ Some f) (course : Course directory.Unit NodeStop (Live directory.Unit)) where
  -- OVER LINES

  module _ (next : Live directory.Unit → Trace → Type 0) (out now : List Entry) (picks : List ℕ) where
    -- it stopped
    pub stopped_lines : (stop : Stop) → (stop ≡ Cut → 0 < f.call) → Tells course (by_node_stop stop) out now → Steps by_entries line (fuse_for its number) course (trace out picks) (Err stop) (trace now picks) next
    stopped_lines stop cuts told =
        step_stops by_entries line (fuse_for its number) course (trace out picks) next f lit stop (trace now picks) (lines_go course (by_node_stop stop) f out now picks told (λ is. cuts (uncut stop is)))

    -- its line found no memory
    pub untold_lines : (end : Live directory.Unit) → Tells course (went end) out now → Steps by_entries line (fuse_for its number) course (trace out picks) (Err (FaultOf NoMemory)) (trace now picks) next
    untold_lines end told = step_untold by_entries line (fuse_for its number) course (trace out picks) next f lit end (trace now picks) (lines_go course (went end) f out now picks told (λ is. absurd (went_uncut end is)))

    -- .. or was told
    pub told_lines : (end : Live directory.Unit) → Tells course (went end) out now → (how : Result (Unit {0}) Stop) (new : Trace) → next end (trace (now ++ line ∷ []) picks)
        → Steps by_entries line (fuse_for its number) course (trace out picks) how new next
    told_lines end told how new more = step_told by_entries line (fuse_for its number) course (trace out picks) next f lit end (trace now picks) (lines_go course (went end) f out now picks told (λ is. absurd (went_uncut end is))) how new more

  -- OVER WORLDS: the fuse was another before

  module _ (next : Live directory.Unit → World → Type 0) (files : Files) (image : Files → Type 0) (stands : Stands files image) (out : List Entry) (s : Secrets) (before : Burn) where
    abbrev start : World
    start = at (moment out s before) files

    -- memory was wanting before its first act
    pub unheld_worlds : (c : Files) → image c → Steps by_worlds line (fuse_for its number) course start (Err (FaultOf NoMemory)) (at (moment out s f) c) next
    unheld_worlds c here = subst (λ (x : Files). Steps by_worlds line (fuse_for its number) course start (Err (FaultOf NoMemory)) (at (moment out s f) x) next) (sym (stands.lands.only c here))
        (step_stops by_worlds line (fuse_for its number) course start next f lit (FaultOf NoMemory) (at (moment out s f) files)
        (breaks_none by_want tt (on_devices course) (at (moment out s f) files), burns_none (broken by_want) f))

    module _ (files_now : Files) (image_now : Files → Type 0) (now : List Entry) (t : Secrets) (after : Burn) (c : Files) (here : image_now c) where
      -- it stopped
      pub stopped_worlds : (stop : Stop) → MakesAt (on_devices course) (by_node_stop stop) files image files_now image_now (moment out s f) (moment now t after)
          → Steps by_worlds line (fuse_for its number) course start (Err stop) (at (moment now t after) c) next
      stopped_worlds stop makes =
          step_stops by_worlds line (fuse_for its number) course start next f lit stop (at (moment now t after) c)
          (worlds_go course (by_node_stop stop) files files_now image image_now (moment out s f) (moment now t after) makes stands c here before)

      module _ (end : Live directory.Unit) (makes : MakesAt (on_devices course) (went end) files image files_now image_now (moment out s f) (moment now t after)) where
        goes : by_worlds.goes course (went end) f start (at (moment now t after) c)
        goes = worlds_go course (went end) files files_now image image_now (moment out s f) (moment now t after) makes stands c here before

        -- its line found no memory
        pub untold_worlds : Steps by_worlds line (fuse_for its number) course start (Err (FaultOf NoMemory)) (at (moment now t after) c) next
        untold_worlds = step_untold by_worlds line (fuse_for its number) course start next f lit end (at (moment now t after) c) goes

        -- .. or was told
        pub told_worlds : (how : Result (Unit {0}) Stop) (new : World) → next end (at (moment (now ++ line ∷ []) t after) c) → Steps by_worlds line (fuse_for its number) course start how new next
        told_worlds how new more = step_told by_worlds line (fuse_for its number) course start next f lit end (at (moment now t after) c) goes how new more

-- THE LIFE IS CUT BEFORE THE STEP

module _ (line : Entry) (its : Option cut.Cut) (number : ℕ) (none : fuse_for its number ≡ None) (course : Course directory.Unit NodeStop (Live directory.Unit)) (stop : Stop) (at_cut : stop ≡ Cut) where
  pub cut_lines : (next : Live directory.Unit → Trace → Type 0) (out : List Entry) (picks : List ℕ) → Steps by_entries line (fuse_for its number) course (trace out picks) (Err stop) (trace out picks) next
  cut_lines next out picks = subst (λ (s : Stop). Steps by_entries line (fuse_for its number) course (trace out picks) (Err s) (trace out picks) next) (sym at_cut)
      (step_cut by_entries line (fuse_for its number) course (trace out picks) next none)

  pub cut_worlds : (next : Live directory.Unit → World → Type 0) (files : Files) (image : Files → Type 0) → Stands files image → (out : List Entry) (s : Secrets) (f : Burn) (c : Files) → image c
      → Steps by_worlds line (fuse_for its number) course (at (moment out s f) files) (Err stop) (at (moment out s f) c) next
  cut_worlds next files image stands out s f c here =
      subst (λ (x : Files). Steps by_worlds line (fuse_for its number) course (at (moment out s f) files) (Err stop) (at (moment out s f) x) next) (sym (stands.lands.only c here))
      (subst (λ (x : Stop). Steps by_worlds line (fuse_for its number) course (at (moment out s f) files) (Err x) (at (moment out s f) files) next) (sym at_cut)
      (step_cut by_worlds line (fuse_for its number) course (at (moment out s f) files) next none))

  -- .. whose devices stayed as they were
  pub cut_over : {D X : Type 0} (files : D → Files) (image : D → Files → Type 0) (held : X → Secrets) (old begun : Devices D X) → begun ≡ old → Stands (files old.disk.now) (image old.disk.now)
      → (next : Live directory.Unit → World → Type 0) (out : List Entry) (c : Files) → image begun.disk.now c
      → Steps by_worlds line (fuse_for its number) course (world_of held old out (files old.disk.now)) (Err stop) (world_of held begun out c) next
  cut_over {D} {X} files image held old begun same stands next out c here =
      subst (λ (d : Devices D X). image d.disk.now c → Steps by_worlds line (fuse_for its number) course (world_of held old out (files old.disk.now)) (Err stop) (world_of held d out c) next) (sym same)
      (cut_worlds next (files old.disk.now) (image old.disk.now) stands out (held old.secrets.now) old.fuse c) here

-- THE BLOCK that an event delivers is held

pub event_here : (limit : ℕ) (old now : HeldBlocks) (event : Event) → now.blocks ≡ old.blocks → now.numbers.items ≡ old.numbers.items ++ filter_map delivered_number (event ∷ [])
    → IsEventOfBlocks limit old.blocks.now event → IsEventHere limit now event
event_here limit old now (Final number) blocks numbers is = (
  subst (λ (l : List ℕ). Contains l number) (sym numbers) (Contains-append_right old.numbers.items (number ∷ []) number (0, omega arith, refl)),
  rw blocks is,
)
event_here limit old now (Peer from bytes) blocks numbers is = tt
event_here limit old now (Next request height) blocks numbers is = tt
event_here limit old now (Release height) blocks numbers is = tt
event_here limit old now (Info request) blocks numbers is = tt
event_here limit old now (Feed request number) blocks numbers is = rw blocks is
event_here limit old now (Over request) blocks numbers is = tt
event_here limit old now (Cancel request) blocks numbers is = tt
event_here limit old now Work blocks numbers is = tt
event_here limit old now event blocks numbers is = absurd is

-- A CUT is one of the fuse

pub cut_reached : (tells : Bool) (stop : Stop) (P Q R : Type 0) → IsCausedBy tells stop P Q R → stop ≡ Cut → R
cut_reached tells stop P Q R caused is = subst (λ (s : Stop). IsCausedBy tells s P Q R) is caused

pub blocks_held : (old now : HeldBlocks) (blocks : List (Block directory.Unit)) → now.blocks ≡ old.blocks → old.blocks.now ≡ blocks → now.blocks.now ≡ blocks
blocks_held old now blocks same is = rw same is

-- OVER THE DEVICES of a step: its fuse was set anew

module _ {D X : Type 0} (files : D → Files) (image : D → Files → Type 0) (held : X → Secrets) (old begun : Devices D X) (same_disk : begun.disk ≡ old.disk) (same_secrets : begun.secrets ≡ old.secrets)
    (stands : Stands (files old.disk.now) (image old.disk.now)) (line : Entry) (its : Option cut.Cut) (number : ℕ) (lit : fuse_for its number ≡ Some begun.fuse)
    (course : Course directory.Unit NodeStop (Live directory.Unit)) (out : List Entry) (next : Live directory.Unit → World → Type 0)
  where
    abbrev pub Ran : (how : Result (Unit {0}) Stop) (new : Devices D X) (now : List Entry) → Files → Type 0
    Ran how new now c = Steps by_worlds line (fuse_for its number) course (world_of held old out (files old.disk.now)) how (world_of held new now c) next

    stood : Stands (files begun.disk.now) (image begun.disk.now)
    stood = subst (λ (d : MutBor D). Stands (files d.now) (image d.now)) (sym same_disk) stands

    begins : (how : Result (Unit {0}) Stop) (w : World) → Steps by_worlds line (fuse_for its number) course (at (moment out (held begun.secrets.now) old.fuse) (files begun.disk.now)) how w next
        → Steps by_worlds line (fuse_for its number) course (world_of held old out (files old.disk.now)) how w next
    begins how w steps =
        subst (λ (d : MutBor D). Steps by_worlds line (fuse_for its number) course (at (moment out (held old.secrets.now) old.fuse) (files d.now)) how w next) same_disk
        (subst (λ (x : MutBor X). Steps by_worlds line (fuse_for its number) course (at (moment out (held x.now) old.fuse) (files begun.disk.now)) how w next) same_secrets steps)

    pub ran_unheld : (c : Files) → image begun.disk.now c → Ran (Err (FaultOf NoMemory)) begun out c
    ran_unheld c here = begins (Err (FaultOf NoMemory)) (world_of held begun out c)
        (unheld_worlds line its number begun.fuse lit course next (files begun.disk.now) (image begun.disk.now) stood out (held begun.secrets.now) old.fuse c here)

    module _ (new : Devices D X) (now : List Entry) (c : Files) (here : image new.disk.now c) where
      pub ran_stopped : (stop : Stop) → MakesOn files image held (on_devices course) (by_node_stop stop) begun new out now → Ran (Err stop) new now c
      ran_stopped stop makes = begins (Err stop) (world_of held new now c)
          (stopped_worlds line its number begun.fuse lit course next (files begun.disk.now) (image begun.disk.now) stood out (held begun.secrets.now) old.fuse
          (files new.disk.now) (image new.disk.now) now (held new.secrets.now) new.fuse c here stop makes)

      module _ (end : Live directory.Unit) (makes : MakesOn files image held (on_devices course) (went end) begun new out now) where
        pub ran_untold : Ran (Err (FaultOf NoMemory)) new now c
        ran_untold = begins (Err (FaultOf NoMemory)) (world_of held new now c)
            (untold_worlds line its number begun.fuse lit course next (files begun.disk.now) (image begun.disk.now) stood out (held begun.secrets.now) old.fuse
            (files new.disk.now) (image new.disk.now) now (held new.secrets.now) new.fuse c here end makes)

        pub ran_told : (how : Result (Unit {0}) Stop) (w : World) → next end (world_of held new (now ++ line ∷ []) c)
            → Steps by_worlds line (fuse_for its number) course (world_of held old out (files old.disk.now)) how w next
        ran_told how w more = begins how w
            (told_worlds line its number begun.fuse lit course next (files begun.disk.now) (image begun.disk.now) stood out (held begun.secrets.now) old.fuse
            (files new.disk.now) (image new.disk.now) now (held new.secrets.now) new.fuse c here end makes how w more)

-- A NODE goes on over the same disk, whatever its fuse

pub ready_over : {D X : Type 0} (tells : Bool) (files : D → Files) (image : D → Files → Type 0) (node : Node) (old begun : Devices D X) → begun.disk ≡ old.disk → IsReadyNode tells files image node old → IsReadyNode tells files image node begun
ready_over {D} {X} tells files image node old begun same ready = record {
  at = record { opened = ready.at.opened; ready = in_state node.actor.state ready.at.ready };
  living = ready.living;
  including = ready.including;
  blocks_are = ready.blocks_are;
  settled = ready.settled;
}
  where
    in_state : (s : NodeState) → IfLiving s (λ life. IsReadyLife tells files image ack_of deal_of check_ack_of node.actor.terms life old)
        → IfLiving s (λ life. IsReadyLife tells files image ack_of deal_of check_ack_of node.actor.terms life begun)
    in_state New is = tt
    in_state (Living life its) is = record {
      seated = is.seated;
      dealing = is.dealing;
      placed = is.placed;
      within = is.within;
      firm = λ told. subst (λ (d : MutBor D). IsFirm life.store.journal (files d.now) (image d.now)) (sym same) (is.firm told);
    }
    in_state HadFailed is = tt

-- A LOOP over a life's events

pub blocks_same : (old now : HeldBlocks) → now.blocks ≡ old.blocks → now.blocks.now ≡ old.blocks.now
blocks_same old now same = rw same refl

pub fit_on : (a b : Node) → b.actor.terms ≡ a.actor.terms → (image next : Files → Type 0)
    → (AreFit (non_zero_u32_get b.actor.terms.limit) image → AreFit (non_zero_u32_get b.actor.terms.limit) next)
    → AreFit (non_zero_u32_get a.actor.terms.limit) image → AreFit (non_zero_u32_get a.actor.terms.limit) next
fit_on a b terms image next step = subst (λ (t : Terms). AreFit (non_zero_u32_get t.limit) image → AreFit (non_zero_u32_get t.limit) next) terms step

-- its fuses are those of this life
pub steps_of : {W : Type 0} (way : Way W) (g : Lived) (life : Life) → g.life ≡ life → (line : Entry) (step : ℕ) (course : Course directory.Unit NodeStop (Live directory.Unit)) (w : W)
    (how : Result (Unit {0}) Stop) (new : W) (next : Live directory.Unit → W → Type 0) → Steps way line (fuse_for life.cut step) course w how new next → Steps way line (fuse_for g.life.cut step) course w how new next
steps_of way g life is line step course w how new next its = subst (λ (l : Life). Steps way line (fuse_for l.cut step) course w how new next) (sym is) its

-- A step that stopped, whatever was to come behind one that didn't
pub not_done : {stop : Stop} → ◌≡◌ {A = Result (Unit {0}) Stop} (Err stop) (Ok tt) → ⊥
not_done e = cc

module _ {W : Type 0} (way : Way W) (line : Entry) (fuse : Option Burn) (course : Course directory.Unit NodeStop (Live directory.Unit)) (w : W) (stop : Stop) (new : W) (N M : Live directory.Unit → W → Type 0) where
  pub stops_with : ((end : Live directory.Unit) (mid : W) → N end mid → ⊥) → Steps way line fuse course w (Err stop) new N → Steps way line fuse course w (Err stop) new M
  stops_with none steps = in_fuse fuse steps
    where
      in_fuse : (o : Option Burn) → Steps way line o course w (Err stop) new N → Steps way line o course w (Err stop) new M
      in_fuse None its = its
      in_fuse (Some f) (inl wants) = inl wants
      in_fuse (Some f) (inr (inl stops)) = inr (inl stops)
      in_fuse (Some f) (inr (inr (end, mid, goes, inl wants))) = inr (inr (end, mid, goes, inl wants))
      in_fuse (Some f) (inr (inr (end, mid, goes, inr more))) = absurd (none end (way.says mid line) more)
