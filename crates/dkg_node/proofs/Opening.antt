-- A node's opening: the actor's, and then the orchestrator's half.
use Rattle.std.proofs.Common.{◌≡◌, ℕ, arith, Bool, true, false, List, [], ◌∷◌, Option, Some, None, Ok, Err, refl, sym, ap, subst}
use Rattle.std.specs.Prelude.{◌==◌, ◌+◌, if◌then◌else◌, IsSome, IsSomeAnd, length, nat_le}
use Rattle.std.specs.Option.{option_map_or}
use Rattle.std.specs.Int.NonZero.{non_zero_u64_get}
use Rattle.std.proofs.lemmas.Bool.Decides.{nat_tests}
use Rattle.dkg_ceremony.specs.Schedule.{epoch_of}
use Rattle.dkg_fence.specs.Fence.{marked}
use Rattle.dkg_fence.specs.Readiness.{Readiness}
use Rattle.dkg_journal.specs.Burn.{Burn}
use Rattle.dkg_journal.specs.Names.{Files}
use Rattle.dkg_types.specs.Blocks.{Block}
use Rattle.dkg_types.specs.BlockCodes.{info_of}
use Rattle.dkg_infos.specs.declared.directory.Unit as directory
use Rattle.dkg_journal.specs.Opening.{open_calls}
use Rattle.dkg_infos.specs.declared.entry.Entry.{Entry}
use Rattle.dkg_infos.specs.declared.fault.Fault.{Fault}
use Rattle.dkg_infos.specs.declared.info.EpochInfo.{EpochInfo}
use Rattle.dkg_types.specs.declared.scheme.SchemeInfo.{SchemeInfo}
use Rattle.dkg_store.specs.Acts.{Acts, Cause, Ended, Held, IfWent, Moment, Stands, at, broken, moment, stopped, went}
use Rattle.dkg_secrets.specs.Secrets.{Secrets}
use Rattle.dkg_values.specs.Rising.{lookup}
use Rattle.dkg_core.specs.Core.{no_inclusion, no_orchestrator, opening}
use Rattle.dkg_core.specs.Courses.{Course, Goes, on_devices}
use Rattle.dkg_core.specs.Entering.{is_ready}
use Rattle.dkg_core.specs.Fixed.{Fixed}
use Rattle.dkg_core.specs.Live as core
use Rattle.dkg_core.specs.Live.{Faulted, Live, NodeStop, Orchestrator}
use Rattle.dkg_core.specs.Node.{kept_material, node_opening, unless_once}
use Rattle.dkg_core.specs.Said.{Said}
use Rattle.dkg_core.specs.Seen.{Seen}
use Rattle.dkg_core.specs.Setup.{Uncommitted, scheme_for}
use Rattle.dkg_core.specs.Sources.{SourceAnswers, startup}
use Rattle.dkg_core.specs.Splitting.{fault_named}
use Rattle.dkg_core.specs.Forms.{IsOpened, IsSeated, IsSetUpIn, registered_with, seed_read, share_read, started}
use Rattle.dkg_core.specs.Endings.{OnInfo, first_block, first_epoch}
use Rattle.dkg_laws.proofs.Openings.{openings_lead}
use Rattle.dkg_reshare.specs.Actors.{EndsAt, IfIncluding, IsLiving, lives}
use Rattle.dkg_life.specs.Ends.{by_cause, by_stop, cause_in}
use Rattle.dkg_life.specs.Given.{IsLent, IsOf, reading}
use Rattle.dkg_verifying.specs.InclusionOf.{IsSeen}
use Rattle.dkg_life.specs.LiveOf.{Beside, live_of, nothing_beside}
use Rattle.dkg_life.specs.Made.{Burns, MakesAt, Speaks, Tells, UnlessBroken}
use Rattle.dkg_life.specs.Opened.{IsInGrammar, IsOpeningOf, epoch_at}
use Rattle.dkg_life.specs.Planless.{IsBareOpening, seen_planless}
use Rattle.dkg_reshare.specs.declared.actor.State.{State}
use Rattle.dkg_reshare.specs.declared.actor.State.TheVariants.{New, Living, Failed as HadFailed}
use Rattle.dkg_life.specs.declared.config.Terms.{Terms}
use Rattle.dkg_verifying.specs.declared.inclusion.Inclusion.{Inclusion}
use Rattle.dkg_life.specs.declared.life.Life as reshare
use Rattle.dkg_life.specs.declared.stop.Stop.{Stop}
use Rattle.dkg_life.specs.declared.stop.Stop.TheVariants as stops
use Rattle.dkg_life.proofs.Said.{said_of_runs}
use Rattle.dkg_lives.specs.Ended.{by_node_stop}
use Rattle.dkg_lives.specs.Epochs.{IsLifeInForm}
use Rattle.dkg_lives.specs.Given.{Lived, at_step, limits_of, seen_in_step, source_at}
use Rattle.dkg_around.specs.Orchestrator.{IsFenceReady, IsHalfGiven, MayEnter, with_orchestrator_half}
use Rattle.dkg_node.specs.Nodes.{IsView, ViewedNew}
use Rattle.dkg_node.specs.declared.node.Node.{Node}
use Rattle.dkg_node.proofs.Naming.{node_ends, node_goes, node_says, node_says_early}
use Rattle.dkg_lives.proofs.Former.{form_at, lacks_nobody}
use Rattle.dkg_node.proofs.Noding.{speaks_makes, speaks_says, unless_reshare}

-- WHERE A LIFE STARTS, the fence is ready and a scheme is registered

-- what is there, of which something holds
some_and : {A : Type 0} (P : A → Type 0) (o : Option A) → IsSomeAnd o P → (x : A) × (o ≡ Some x) × P x
some_and P None is = absurd is
some_and P (Some x) is = (x, refl, is)

abbrev OfEpoch : Fixed directory.Unit → EpochInfo directory.Unit → Type 0
OfEpoch c info = info.epoch ≡ first_epoch c

ready_at : (e first : ℕ) → e ≡ first → is_ready (marked e (no_orchestrator {Dir = directory.Unit}).fence).ready first ≡ true
ready_at e first is = rw is (le_self first)
  where
    le_self : (n : ℕ) → nat_le n n ≡ true
    le_self n = grind (arith, nat_tests)

lookup_at : (e first : ℕ) (scheme : SchemeInfo) → e ≡ first → IsSome (lookup first ((e, scheme) ∷ []))
lookup_at e first scheme is = found (e == first) (equal e first is)
  where
    equal : (n m : ℕ) → n ≡ m → (n == m) ≡ true
    equal n m e = grind (arith, nat_tests)

    found : (t : Bool) → t ≡ true → IsSome (if t then Some scheme else None)
    found true e = refl
    found false e = absurd (let wrong : false ≡ true = e in cc)

module _ (c : Fixed directory.Unit) (seen : Seen) (k : Held) (st : Live directory.Unit) where
  -- the info that was registered, with a share or without one
  record Registered : Type 0 where
    info : EpochInfo directory.Unit
    of_epoch : OfEpoch c info
    share : Option ℕ
    is : st.orchestrator ≡ registered_with c info share (no_orchestrator {Dir = directory.Unit})

  registered_in : (o : Option (Block directory.Unit)) → first_block c ≡ o → IsSetUpIn c seen k st o → OnInfo c (OfEpoch c) → Registered
  registered_in None none set_up carried = absurd (subst (λ (o : Option (Block directory.Unit)). IsSomeAnd o (λ b. IsSomeAnd (info_of b.payload) (OfEpoch c))) none carried)
  registered_in (Some b) at set_up carried =
      let info = some_and (λ (info : EpochInfo directory.Unit). IsSeated c Uncommitted info (share_read c info k) (seed_read c info k) (started c seen) st) (info_of b.payload) set_up in
      record { info = info.0; of_epoch = (info.2).of_epoch; share = share_read c info.0 k; is = (info.2).orchestrator }

  pub ready_behind : IsOpened c seen k st → IsFenceReady c st.orchestrator.fence
  ready_behind opened carried =
      let its = registered_in (first_block c) refl opened.set_up carried in
      subst (λ (o : Orchestrator directory.Unit). is_ready o.fence.ready (first_epoch c) ≡ true) (sym its.is) (ready_at (its.info).epoch (first_epoch c) its.of_epoch)

  pub scheme_behind : IsOpened c seen k st → OnInfo c (OfEpoch c) → IsSome (lookup (first_epoch c) st.orchestrator.schemes)
  scheme_behind opened carried =
      let its = registered_in (first_block c) refl opened.set_up carried in
      subst (λ (o : Orchestrator directory.Unit). IsSome (lookup (first_epoch c) o.schemes)) (sym its.is) (lookup_at (its.info).epoch (first_epoch c) (scheme_for c its.info its.share) its.of_epoch)

-- THE NODE, once both halves have opened

module _ (n : Node) (c : Fixed directory.Unit) (reshare_is : c.oneshot ≡ None) (now : Beside directory.Unit) (fence : Readiness) (life : reshare.Life directory.Unit)
    (lives : IfIncluding n.actor.state (λ its inclusion. (its ≡ life) × IsSeen inclusion now.inclusion)) (living : IsLiving n.actor.state)
  where
    abbrev pub end_of : Live directory.Unit
    end_of = with_orchestrator_half n.half n.fence (live_of now fence life)

    pub opened_view : IsView n end_of
    opened_view = record {
      life = life;
      beside = record {
        inclusion = now.inclusion;
        orchestrator = record now.orchestrator { entered = n.half.entered; halted = n.half.halted; waiting = None };
        probe = now.probe;
      };
      lives = lives;
      living = living;
      is = refl;
      half = record { entered = refl; halted = refl; unawaited = refl };
    }

    abbrev next_opening : Live directory.Unit → Course directory.Unit NodeStop (Live directory.Unit)
    next_opening st = unless_once c (kept_material c st) (Goes st)

    entered_as : next_opening (live_of now fence life) ≡ kept_material c (live_of now fence life)
    entered_as = unless_reshare c (kept_material c (live_of now fence life)) (Goes (live_of now fence life)) reshare_is

    pub opened_made : {files files_now : Files} {image next : Files → Type 0} {old : Moment} {mid_out out : List Entry} {s : Secrets} {f : Burn}
        → MakesAt (on_devices (opening c)) (went (live_of now fence life)) files image files_now next old (moment mid_out s f)
        → Speaks (kept_material c (live_of now fence life)) (went end_of) mid_out out
        → MakesAt (on_devices (node_opening c)) (went end_of) files image files_now next old (moment out s f)
    opened_made {files_now = files_now} {next = next} {mid_out = mid_out} {out = out} {s = s} {f = f} made speaks =
        node_goes (opening c) next_opening made
        (subst (λ (a : Course directory.Unit NodeStop (Live directory.Unit)). MakesAt (on_devices a) (went end_of) files_now next files_now next (moment mid_out s f) (moment out s f)) (sym entered_as)
        (speaks_makes (kept_material c (live_of now fence life)) (went end_of) files_now next speaks))

    pub opened_says : {out mid_out new : List Entry} → Said (on_devices (opening c)) (went (live_of now fence life)) out mid_out
        → Speaks (kept_material c (live_of now fence life)) (went end_of) mid_out new → ViewedNew (Ok n) (λ ended. Tells (node_opening c) ended out new)
    opened_says {mid_out = mid_out} {new = new} said speaks = (
      end_of,
      opened_view,
      node_says (opening c) next_opening said
          (subst (λ (a : Course directory.Unit NodeStop (Live directory.Unit)). Tells a (went end_of) mid_out new) (sym entered_as) (speaks_says (kept_material c (live_of now fence life)) (went end_of) speaks)),
    )

-- .. or the second has found no memory: an orchestrator's half that stops, over any node
module _ (c : Fixed directory.Unit) (reshare_is : c.oneshot ≡ None) (st : Live directory.Unit) (stop : Stop) where
  pub halted_makes : {files files_now : Files} {image next : Files → Type 0} {old : Moment} {mid_out out : List Entry} {s : Secrets} {f : Burn}
      → MakesAt (on_devices (opening c)) (went st) files image files_now next old (moment mid_out s f) → Speaks (kept_material c st) (by_node_stop stop) mid_out out
      → MakesAt (on_devices (node_opening c)) (by_node_stop stop) files image files_now next old (moment out s f)
  halted_makes {files_now = files_now} {next = next} {mid_out = mid_out} {out = out} {s = s} {f = f} made speaks =
      node_goes (opening c) (λ st. unless_once c (kept_material c st) (Goes st)) made
      (subst (λ (a : Course directory.Unit NodeStop (Live directory.Unit)). MakesAt (on_devices a) (by_node_stop stop) files_now next files_now next (moment mid_out s f) (moment out s f))
      (sym (unless_reshare c (kept_material c st) (Goes st) reshare_is)) (speaks_makes (kept_material c st) (by_node_stop stop) files_now next speaks))

  pub halted_says : {out mid_out new : List Entry} → Said (on_devices (opening c)) (went st) out mid_out → Speaks (kept_material c st) (by_node_stop stop) mid_out new → Tells (node_opening c) (by_node_stop stop) out new
  halted_says {mid_out = mid_out} {new = new} said speaks =
      node_says (opening c) (λ st. unless_once c (kept_material c st) (Goes st)) said
      (subst (λ (a : Course directory.Unit NodeStop (Live directory.Unit)). Tells a (by_node_stop stop) mid_out new)
      (sym (unless_reshare c (kept_material c st) (Goes st) reshare_is)) (speaks_says (kept_material c st) (by_node_stop stop) speaks))

-- the actor's opening ended
module _ (c : Fixed directory.Unit) (stop : Stop) where
  pub ended_makes : {files files_now : Files} {image next : Files → Type 0} {old new : Moment} → MakesAt (on_devices (opening c)) (by_stop stop) files image files_now next old new
      → MakesAt (on_devices (node_opening c)) (by_node_stop stop) files image files_now next old new
  ended_makes made = node_ends (opening c) (λ st. unless_once c (kept_material c st) (Goes st)) stop made

  pub ended_says : {out new : List Entry} → Said (on_devices (opening c)) (by_stop stop) out new → Tells (node_opening c) (by_node_stop stop) out new
  ended_says said = node_says_early (opening c) (λ st. unless_once c (kept_material c st) (Goes st)) stop said

-- HOW AN OPENING OF THE ACTOR ENDED

pub lives_err : {C Signer Cfg : Type 0} (view : reshare.Life directory.Unit → Live directory.Unit) (state : State C directory.Unit Signer Cfg) (stop : Stop) → lives view state (Err stop) ≡ by_stop stop
lives_err view New stop = refl
lives_err view (Living life inclusion) stop = refl
lives_err view HadFailed stop = refl

-- where it went
pub record Lives {C Signer Cfg : Type 0} (state : State C directory.Unit Signer Cfg) : Type 0 where
  pub life : reshare.Life directory.Unit
  pub its : Inclusion C directory.Unit Signer Cfg
  pub is : state ≡ Living life its

pub lives_at : {C Signer Cfg : Type 0} (state : State C directory.Unit Signer Cfg) (P : reshare.Life directory.Unit → Type 0) → EndsAt state (Ok tt) P → Lives state
lives_at New P ends = absurd ends
lives_at (Living life its) P ends = record { life = life; its = its; is = refl }
lives_at HadFailed P ends = absurd ends

module _ {C Signer Cfg : Type 0} where
  pub lives_went : (view : reshare.Life directory.Unit → Live directory.Unit) (state : State C directory.Unit Signer Cfg) (its : Lives state) → lives view state (Ok tt) ≡ went (view its.life)
  lives_went view state its = ap (λ (s : State C directory.Unit Signer Cfg). lives view s (Ok tt)) its.is

  pub living_there : (state : State C directory.Unit Signer Cfg) → Lives state → IsLiving state
  living_there state its = subst (λ (s : State C directory.Unit Signer Cfg). IsLiving s) (sym its.is) tt

  -- .. with nothing of requests
  pub seen_empty : (now : core.Inclusion directory.Unit) → now ≡ no_inclusion → (state : State C directory.Unit Signer Cfg) (there : Lives state) → IfIncluding state (λ life its. IsSeen its no_inclusion)
      → IfIncluding state (λ own inclusion. (own ≡ there.life) × IsSeen inclusion now)
  seen_empty now is state there empty =
      subst (λ (s : State C directory.Unit Signer Cfg). IfIncluding s (λ own inclusion. (own ≡ there.life) × IsSeen inclusion now)) (sym there.is)
      (refl, subst (λ (i : core.Inclusion directory.Unit). IsSeen there.its i) (sym is) (subst (λ (s : State C directory.Unit Signer Cfg). IfIncluding s (λ life its. IsSeen its no_inclusion)) there.is empty))

-- UNDER NAMES, and under what is asked of devices

unless_cause : (S T : Type 0) (cause : Option Cause) (its : Fault) (P Q : Type 0) → (P → Q) → UnlessBroken (by_cause {S = S} cause its) P → UnlessBroken (fault_named Faulted (by_cause {S = T} cause its)) Q
unless_cause S T (Some cause) its P Q so p = tt
unless_cause S T None its P Q so p = so p

pub unless_named : (S T : Type 0) (stop : Stop) (P Q : Type 0) → (P → Q) → UnlessBroken (by_stop {S = S} stop) P → UnlessBroken (by_node_stop {S = T} stop) Q
unless_named S T stops.Cut P Q so p = tt
unless_named S T stops.Failed P Q so p = tt
unless_named S T (stops.Fault its) P Q so p = unless_cause S T (cause_in its) its P Q so p

-- WHAT A LIFE'S OPENING IS GIVEN

-- the life, with other reads
abbrev pub with_reads : Lived → Seen → Lived
with_reads g s = record g { seen = λ h. s }

pub reading_as : (g : Lived) (s : Seen) → reading s (at_step g 0) ≡ at_step (with_reads g s) 0
unfolding at_step
reading_as g s = refl

module _ (g : Lived) (terms : Terms) (source : SourceAnswers directory.Unit) (taken : ℕ) (of : IsOf terms (at_step g taken)) (lent : source_at g taken ≡ source) where
  source_at_is : (at_step g taken).source ≡ source
  unfolding at_step
  source_at_is = lent

  word_at : (at_step g taken).word ≡ g.life.word
  unfolding at_step
  word_at = refl

  pub lent_at : IsLent terms source g.life.word (at_step g taken)
  lent_at = record { of = of; lent = source_at_is; word_is = word_at }

  pub number_at : (at_step g taken).life ≡ g.number
  unfolding at_step
  number_at = refl

  pub planless_at : IsBareOpening (at_step g taken)
  unfolding at_step
  planless_at = record { reshare = refl; bare = refl }

  pub opening_of : (files : Files) → seen_in_step g taken ≡ seen_planless → g.calls ≡ length (open_calls files) → IsInGrammar (limits_of g.script).limit files
      → IsOpeningOf terms source g.number g.life.word files (at_step g taken)
  unfolding at_step
  opening_of files reads calls grammar = record { lent = lent_at; bare = planless_at; reads = reads; life_is = number_at; calls_are = calls; grammar = grammar }

  -- the epoch that is awaited
  pub epoch_is : epoch_at source terms ≡ first_epoch (at_step g taken)
  epoch_is = λ i. epoch_of (sym of.blocks i) (option_map_or (λ t. t.height + 1) (startup ((sym (lent_at.lent) i).anchor) None) 0)

  pub half_given : IsHalfGiven (non_zero_u64_get terms.blocks_per_epoch) source (at_step g taken)
  half_given = record { blocks_are = of.blocks; lent = lent_at.lent; unplanned = of.unplanned; lacks = lacks_nobody g taken }

-- BEHIND THE ACTOR'S OPENING the half may enter

module _ (g : Lived) (here : IsLifeInForm g) (now : Beside directory.Unit) (fence : Readiness) (life : reshare.Life directory.Unit)
    (same : now.orchestrator ≡ record (nothing_beside {Dir = directory.Unit}).orchestrator { schemes = now.orchestrator.schemes })
  where
    abbrev behind : Live directory.Unit
    behind = live_of now fence life

    opened_behind : {out new : List Entry} → Said (on_devices (opening (at_step g 0))) (went behind) out new → (seen : Seen) × (k : Held) × IsOpened (at_step g 0) seen k behind
    opened_behind {out} {new} said =
        let came = openings_lead (at_step g 0) (went behind) out new (form_at g here 0) said in
        ((at_step g 0).seen came.0, came.1, came.2)

    pub fence_ready : {out new : List Entry} → Said (on_devices (opening (at_step g 0))) (went behind) out new → IsFenceReady (at_step g 0) fence
    fence_ready said = let its = opened_behind said in ready_behind (at_step g 0) its.0 its.1 behind its.2

    pub may_enter : {out new : List Entry} → Said (on_devices (opening (at_step g 0))) (went behind) out new → MayEnter (at_step g 0) fence behind
    may_enter said =
        let its = opened_behind said in
        record {
          unentered = ap (λ (o : Orchestrator directory.Unit). o.entered) same;
          going = ap (λ (o : Orchestrator directory.Unit). o.halted) same;
          unawaited = ap (λ (o : Orchestrator directory.Unit). o.waiting) same;
          fence_is = refl;
          registered = scheme_behind (at_step g 0) its.0 its.1 behind its.2;
        }

    -- .. where the opening was made
    pub may_enter_made : {files files_mid : Files} {image between : Files → Type 0} {old mid : Moment} → Stands files image
        → MakesAt (on_devices (opening (at_step g 0))) (went behind) files image files_mid between old mid → MayEnter (at_step g 0) fence behind
    may_enter_made {files} {files_mid} {image} {between} {old} {mid} stands first =
        may_enter (said_of_runs (on_devices (opening (at_step g 0))) (went behind) (at old files) (at mid files_mid) (first.made.made stands files_mid (first.made.stands stands).itself))
