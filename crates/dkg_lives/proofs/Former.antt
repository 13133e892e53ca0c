-- Lives of a script whose lives go over many epochs: what is given to their steps is of dkg_core's form, and what their events bring.
use Rattle.std.proofs.Common.{◌≡◌, ◌⊎◌, inl, inr, ◌++◌, ◌∷◌, [], ◌≤◌, ℕ, zero, suc, true, false, List, Option, Some, None, refl, sym, ◌∙◌, ap, subst, map, fold, arith, append_assoc, append-nil}
use Rattle.std.specs.Prelude.{Bool, IsSome, slice_get, option_map, not, nat_lt, ◌==◌, if◌then◌else◌}
use Rattle.std.specs.Option.{option_map_or}
use Rattle.std.specs.Int.NonZero.{non_zero_u64_get}
use Rattle.std.proofs.lemmas.List.{map-append}
use Rattle.std.proofs.lemmas.Option.{slice_get-map}
use Rattle.dkg_ceremony.specs.Outcomes.{LogMap}
use Rattle.dkg_ceremony.specs.declared.round.RoundParts.{RoundParts as Round}
use Rattle.dkg_types.specs.Blocks.{Block}
use Rattle.dkg_infos.specs.declared.directory.Unit as directory
use Rattle.dkg_infos.specs.declared.entry.Why.{Why}
use Rattle.dkg_infos.specs.declared.entry.Why.TheVariants.{WrongHeight, Unlinked, Detached}
use Rattle.dkg_infos.specs.declared.info.EpochInfo.{EpochInfo}
use Rattle.dkg_text.specs.declared.script.BlockLine.{BlockLine}
use Rattle.dkg_text.specs.declared.script.Event.{Event}
use Rattle.dkg_text.specs.declared.script.Event.TheVariants as event
use Rattle.dkg_text.specs.declared.script.Script.{Script}
use Rattle.dkg_text.specs.declared.script.ScriptConfig.{ScriptConfig}
use Rattle.dkg_script.specs.Blocks.{delivered_number}
use Rattle.dkg_script.specs.Epochs.{alone}
use Rattle.dkg_script.specs.Inclusion.{IsEventIn, IsLifeIn}
use Rattle.dkg_script.specs.Setting.{blocks_per_epoch}
use Rattle.dkg_core.specs.Asked.{FirstNeeds, HasAsked, IsArtifactOf, IsResultOf, OfShares}
use Rattle.dkg_core.specs.Behind.{event_of}
use Rattle.dkg_core.specs.Courses.{Goes}
use Rattle.dkg_core.specs.Forms.{IsForm, IsLiveIn}
use Rattle.dkg_core.specs.Fixed.{Fixed}
use Rattle.dkg_core.specs.Including.{Fed, Found, Lacks, can_finish, final_height, is_detached, is_final_read, is_need, is_unlinked, lowest_needed, next_height, scan, with_lower_log}
use Rattle.dkg_core.specs.Laws.{IsCeremony, IsOther}
use Rattle.dkg_core.specs.Live.{Artifact, Cancel, Delivers, EpochInfoOf, Feed, Finalized, Live, Mail, Message, NextLog, Over, Peer, ReleaseLog, Request, Reshare, Mailed, VerifiedLogs, Work}
use Rattle.dkg_core.specs.Node.{node_step}
use Rattle.dkg_core.specs.NodeEndings.{LacksNobody}
use Rattle.dkg_core.specs.Through.{IsFormThrough, IsLiveThrough, IsTakenThrough, unasked}
use Rattle.dkg_laws.proofs.Finishing.{stand_ins_finish}
use Rattle.dkg_laws.proofs.StandIn.{stand_ins_are_ceremonies}
use Rattle.dkg_lives.specs.Epochs.{IsLifeInForm, any_shares}
use Rattle.dkg_lives.specs.Given.{IsUnplanned, Lived, at_step, seen_in_step, block_on, blocks_in, parent_digest_in, payload_in, step_of, with_block}
use Rattle.dkg_lives.proofs.Living.{holds_at}

-- EACH BLOCK is that of its line

module _ {A : Type 0} (config : ScriptConfig) (f : Block directory.Unit → A) (h : BlockLine → A) (same : (parent : List ℕ) (line : BlockLine) → f (block_on config parent line) ≡ h line) where
  made_so : (before : List (Block directory.Unit)) (lines : List BlockLine) → map f (fold (with_block config) before lines) ≡ map f before ++ map h lines
  made_so before [] = sym (append-nil (map f before))
  made_so before (line ∷ lines) =
      made_so (with_block config before line) lines
      ∙ ap (λ (xs : List A). xs ++ map h lines)
      (map-append f before (block_on config (parent_digest_in before line.parent) line ∷ []) ∙ ap (λ (x : A). map f before ++ x ∷ []) (same (parent_digest_in before line.parent) line))
      ∙ append_assoc (map f before) (h line ∷ []) (map h lines)

  made_at_line : (lines : List BlockLine) (number : ℕ) → option_map f (slice_get (fold (with_block config) [] lines) number) ≡ option_map h (slice_get lines number)
  made_at_line lines number =
      sym (slice_get-map f (fold (with_block config) [] lines) number) ∙ ap (λ (xs : List A). slice_get xs number) (made_so [] lines) ∙ slice_get-map h lines number

-- it stands at the line's height
pub height_at : (script : Script) (number : ℕ) → option_map (λ (b : Block directory.Unit). b.height) (slice_get (blocks_in script) number) ≡ option_map (λ (line : BlockLine). line.height) (slice_get script.blocks number)
unfolding blocks_in
height_at script number = made_at_line script.config (λ (b : Block directory.Unit). b.height) (λ (line : BlockLine). line.height) (λ parent line. refl) script.blocks number

-- .. with the line's payload
pub payload_at : (script : Script) (number : ℕ)
    → option_map (λ (b : Block directory.Unit). b.payload) (slice_get (blocks_in script) number) ≡ option_map (λ (line : BlockLine). payload_in script.config line.payload) (slice_get script.blocks number)
unfolding blocks_in
payload_at script number = made_at_line script.config (λ (b : Block directory.Unit). b.payload) (λ (line : BlockLine). payload_in script.config line.payload) (λ parent line. refl) script.blocks number

-- the block of a line
pub record IsMadeOf (script : Script) (number : ℕ) : Type 0 where
  pub line : BlockLine
  pub line_is : slice_get script.blocks number ≡ Some line
  pub block : Block directory.Unit
  pub is : slice_get (blocks_in script) number ≡ Some block
  pub height : block.height ≡ line.height
  pub payload : block.payload ≡ payload_in script.config line.payload

pub made_of : (script : Script) (number : ℕ) → IsSome (slice_get script.blocks number) → IsMadeOf script number
made_of script number some = both (slice_get script.blocks number) (slice_get (blocks_in script) number) refl refl (height_at script number) (payload_at script number) some
  where
    the_same : {A : Type 0} {x y : A} → Some x ≡ Some y → x ≡ y
    the_same e = cc

    both : (o : Option BlockLine) (b : Option (Block directory.Unit)) → slice_get script.blocks number ≡ o → slice_get (blocks_in script) number ≡ b
        → option_map (λ (b : Block directory.Unit). b.height) b ≡ option_map (λ (line : BlockLine). line.height) o
        → option_map (λ (b : Block directory.Unit). b.payload) b ≡ option_map (λ (line : BlockLine). payload_in script.config line.payload) o → IsSome o → IsMadeOf script number
    both None b there is heights payloads some = absurd (let wrong : false ≡ true = some in cc)
    both (Some line) None there is heights payloads some = absurd (let wrong : ◌≡◌ {A = Option ℕ} None (Some line.height) = heights in cc)
    both (Some line) (Some b) there is heights payloads some = record { line = line; line_is = there; block = b; is = is; height = the_same heights; payload = the_same payloads }

-- the one at its number
pub made_there : (script : Script) (number : ℕ) (b : Block directory.Unit) → slice_get (blocks_in script) number ≡ Some b → (made : IsMadeOf script number) × (made.block ≡ b)
made_there script number b is = by_line (slice_get script.blocks number) refl (height_at script number)
  where
    the_same : {A : Type 0} {x y : A} → Some x ≡ Some y → x ≡ y
    the_same e = cc

    by_line : (o : Option BlockLine) → slice_get script.blocks number ≡ o
        → option_map (λ (b : Block directory.Unit). b.height) (slice_get (blocks_in script) number) ≡ option_map (λ (line : BlockLine). line.height) o → (made : IsMadeOf script number) × (made.block ≡ b)
    by_line None none heights = absurd (let wrong : ◌≡◌ {A = Option ℕ} (Some b.height) None = sym (ap (option_map (λ (b : Block directory.Unit). b.height)) is) ∙ heights in cc)
    by_line (Some line) there heights =
        let made = made_of script number (subst (λ (o : Option BlockLine). IsSome o) (sym there) refl) in
        (made, the_same (sym made.is ∙ is))

-- THE FORM of what is given

pub per_epoch_is : (g : Lived) (taken : ℕ) → (at_step g taken).blocks_per_epoch ≡ blocks_per_epoch (alone g.script)
unfolding at_step
per_epoch_is g taken = refl

pub is_ceremony : (g : Lived) (taken : ℕ) → IsCeremony (at_step g taken)
unfolding at_step
is_ceremony g taken = stand_ins_are_ceremonies (at_step g taken) refl

pub lacks_nobody : (g : Lived) (taken : ℕ) → LacksNobody (at_step g taken)
unfolding at_step
lacks_nobody g taken d peers = refl

-- no step reads a plan
pub unplanned_at : (g : Lived) → IsUnplanned g.seen → (taken : ℕ) → IsUnplanned (seen_in_step g taken)
unplanned_at g none zero = none
unplanned_at g none (suc taken) = λ h. refl

module _ (g : Lived) (here : IsLifeInForm g) where
  pub form_at : (taken : ℕ) → IsForm (at_step g taken)
  unfolding at_step
  form_at taken = record { reshare = refl; bare = refl; unplanned = unplanned_at g here.unplanned taken; ceremony = is_ceremony g taken; counted = one (non_zero_u64_get g.script.config.blocks_per_epoch) here.long }
    where
      one : (n : ℕ) → 2 ≤ n → 1 ≤ n
      one n long = omega (arith, long)

  pub through_at : (taken : ℕ) → IsFormThrough (at_step g taken)
  unfolding at_step
  through_at taken = record { form = form_at taken; finishing = stand_ins_finish (at_step g taken) refl }

  -- the life of the script
  pub life_in : IsLifeIn g.script g.life
  life_in = here.form.lives g.number g.life here.life_is

  pub event_in_form : (i : ℕ) (its : Event) → slice_get g.life.events i ≡ Some its → IsEventIn g.script.blocks its
  event_in_form i its is = holds_at (IsEventIn g.script.blocks) g.life.events i its life_in.events is

-- A state is of the form at each step alike.
pub stands_at : (g : Lived) (i k : ℕ) (st : Live directory.Unit) → IsLiveIn (at_step g i) st → IsLiveIn (at_step g k) st
unfolding at_step
stands_at g i k st is = record {
  awaits = is.awaits;
  in_round = is.in_round;
  without = is.without;
  mine = λ d there. let its = is.mine d there in (its.0, its.1, record { member = its.2.member; share = its.2.share; seed = its.2.seed; dealt = its.2.dealt; passed = its.2.passed; unsigned = its.2.unsigned });
  numbered = is.numbered;
  idle = is.idle;
}

-- a scan's step, by its parts
abbrev scanned : (final other unlinked above detached : Bool) (wrong broken loose : Why) → LogMap → (one two : Fed) → Fed
scanned final other unlinked above detached wrong broken loose found one two =
    if final then one else if other then Lacks wrong else if unlinked then Lacks broken else if above then two else if detached then Lacks loose else Found found

module _ (g : Lived) (i k : ℕ) where
  same_scan : (round : Round) (st : Live directory.Unit) (above : Option (Block directory.Unit)) (found : LogMap) (bs : List (Block directory.Unit)) (ended : Bool)
      → scan (at_step g i) round st above found bs ended ≡ scan (at_step g k) round st above found bs ended
  unfolding at_step
  same_scan round st above found [] ended = refl
  same_scan round st above found (b ∷ bs) ended =
      let c : Fixed directory.Unit = at_step g i in
      let more : LogMap = with_lower_log c round st b found in
      let step : Fed → Fed → Fed = scanned (is_final_read c st above b) (not (b.height == next_height c st above)) (is_unlinked above b) (nat_lt (lowest_needed c st) b.height) (is_detached c st b)
      (WrongHeight (next_height c st above) b.height) (Unlinked b.height) (Detached b.height) more in
      ap (λ (one : Fed). step one (scan c round st (Some b) more bs ended)) (same_scan round st (Some b) found bs ended)
      ∙ ap (λ (two : Fed). step (scan (at_step g k) round st (Some b) found bs ended) two) (same_scan round st (Some b) more bs ended)

  same_need : (round : Round) (st : Live directory.Unit) (queue : List (Request directory.Unit)) → FirstNeeds (at_step g i) round st queue → FirstNeeds (at_step g k) round st queue
  unfolding at_step
  same_need round st [] needs = tt
  same_need round st (r ∷ rs) needs =
      ap (λ (fed : Fed). is_need (if final_height (at_step g i) st == 0 then Found [] else fed)) (sym (same_scan round st None [] r.blocks r.ended)) ∙ needs

  same_result : (round : Round) (plays : Bool) (r : VerifiedLogs) → IsResultOf (at_step g i) round plays r → IsResultOf (at_step g k) round plays r
  unfolding at_step
  same_result round plays r is = record { me_is = is.me_is; outcome = is.outcome; shared = is.shared; fits = is.fits }

  same_artifact : (stored : OfShares) (round : Round) (info : EpochInfo directory.Unit) (plays : Bool) (logs : LogMap) (made : Artifact directory.Unit)
      → IsArtifactOf (at_step g i) stored round info plays logs made → IsArtifactOf (at_step g k) stored round info plays logs made
  unfolding at_step
  same_artifact stored round info plays logs made is =
      record { info_is = is.info_is; matched = is.matched; provided = record { in_range = is.provided.in_range; some = is.provided.some; in_bound = is.provided.in_bound }; success = is.success; failure = is.failure }

  same_asked : (stored : OfShares) (st : Live directory.Unit) → HasAsked (at_step g i) stored st → HasAsked (at_step g k) stored st
  unfolding at_step
  same_asked stored st is = record {
    served = is.served;
    none = is.none;
    early = is.early;
    waits = is.waits;
    runs = is.runs;
    kept = λ r there. let its = is.kept r there in (its.0, its.1, same_result its.0 (can_finish (at_step g i) its.0 r.logs st) r its.2);
    made = λ d there. let its = is.made d there in (its.0, its.1, its.2, its.3, same_artifact stored its.0 its.1 (can_finish (at_step g i) its.0 d.logs st) d.logs d.artifact its.4);
  }

-- .. and so does a life, whatever is said of the shares that are read
pub live_through : (g : Lived) (stored : OfShares) (i k : ℕ) (st : Live directory.Unit) → IsLiveThrough (at_step g i) stored st → IsLiveThrough (at_step g k) stored st
unfolding at_step
live_through g stored i k st is = record {
  stands = stands_at g i k (unasked st) is.stands;
  informed = is.informed;
  asked = record { has = same_asked g i k stored st is.asked.has; read = λ includes none round there. same_need g i k round st st.inclusion.queue (is.asked.read includes none round there) };
}

pub live_at : (g : Lived) (i k : ℕ) (st : Live directory.Unit) → IsLiveThrough (at_step g i) any_shares st → IsLiveThrough (at_step g k) any_shares st
live_at g i k st is = live_through g any_shares i k st is

-- EVENTS

-- what an event brings: a message, with a block of the script's where it has one, or such a block
abbrev pub Brings : Lived → Event → Message directory.Unit → Type 0
Brings g (event.Peer from bytes) message = message ≡ Mailed (Peer from bytes)
Brings g (event.Final number) message = (made : IsMadeOf g.script number) × (message ≡ Finalized made.block)
Brings g (event.Next request height) message = message ≡ Mailed (NextLog request height)
Brings g (event.Release height) message = message ≡ Mailed (ReleaseLog height)
Brings g (event.Info request) message = message ≡ Mailed (EpochInfoOf request)
Brings g (event.Feed request number) message = (made : IsMadeOf g.script number) × (message ≡ Mailed (Feed request made.block))
Brings g (event.Over request) message = message ≡ Mailed (Over request)
Brings g (event.Cancel request) message = message ≡ Mailed (Cancel request)
Brings g event.Work message = message ≡ Mailed (Work None)
Brings g other message = ⊥

-- it is a block of the script's that is delivered, or a message, and then no block is
abbrev pub BringsBlock : Lived → Event → Message directory.Unit → Type 0
BringsBlock g its message = (number : ℕ) × (made : IsMadeOf g.script number) × (its ≡ event.Final number) × (message ≡ Finalized made.block)

abbrev pub BringsMail : Event → Message directory.Unit → Type 0
BringsMail its message = (mail : Mail directory.Unit) × (message ≡ Mailed mail) × (delivered_number its ≡ None)

pub brings_so : (g : Lived) (its : Event) (message : Message directory.Unit) → Brings g its message → BringsBlock g its message ⊎ BringsMail its message
brings_so g (event.Final number) message brings = inl (number, brings.0, refl, brings.1)
brings_so g (event.Peer from bytes) message brings = inr (Peer from bytes, brings, refl)
brings_so g (event.Next request height) message brings = inr (NextLog request height, brings, refl)
brings_so g (event.Release height) message brings = inr (ReleaseLog height, brings, refl)
brings_so g (event.Info request) message brings = inr (EpochInfoOf request, brings, refl)
brings_so g (event.Feed request number) message brings = inr (Feed request (brings.0).block, brings.1, refl)
brings_so g (event.Over request) message brings = inr (Over request, brings, refl)
brings_so g (event.Cancel request) message brings = inr (Cancel request, brings, refl)
brings_so g event.Work message brings = inr (Work None, brings, refl)
brings_so g other message brings = absurd brings

-- .. of a peer, or another
abbrev pub BringsPeer : Event → Message directory.Unit → Type 0
BringsPeer its message = (from : ℕ) × (bytes : List ℕ) × (its ≡ event.Peer from bytes) × (message ≡ Mailed (Peer from bytes))

abbrev pub BringsOther : Event → Message directory.Unit → Type 0
BringsOther its message = (mail : Mail directory.Unit) × (message ≡ Mailed mail) × IsOther {Dir = directory.Unit} (Mailed mail) × (delivered_number its ≡ None)

pub brings_kind : (g : Lived) (its : Event) (message : Message directory.Unit) → Brings g its message → BringsBlock g its message ⊎ (BringsPeer its message ⊎ BringsOther its message)
brings_kind g (event.Final number) message brings = inl (number, brings.0, refl, brings.1)
brings_kind g (event.Peer from bytes) message brings = inr (inl (from, bytes, refl, brings))
brings_kind g (event.Next request height) message brings = inr (inr (NextLog request height, brings, tt, refl))
brings_kind g (event.Release height) message brings = inr (inr (ReleaseLog height, brings, tt, refl))
brings_kind g (event.Info request) message brings = inr (inr (EpochInfoOf request, brings, tt, refl))
brings_kind g (event.Feed request number) message brings = inr (inr (Feed request (brings.0).block, brings.1, tt, refl))
brings_kind g (event.Over request) message brings = inr (inr (Over request, brings, tt, refl))
brings_kind g (event.Cancel request) message brings = inr (inr (Cancel request, brings, tt, refl))
brings_kind g event.Work message brings = inr (inr (Work None, brings, tt, refl))
brings_kind g other message brings = absurd brings

-- the message of an event
pub record IsMessage (g : Lived) (its : Event) : Type 0 where
  pub message : Message directory.Unit
  pub brings : Brings g its message
  pub course : (j : ℕ) (st : Live directory.Unit) → step_of g j its st ≡ node_step (at_step g j) (event_of message) st

pub message_in : (g : Lived) (its : Event) → IsEventIn g.script.blocks its → IsMessage g its
message_in g (event.Peer from bytes) form = record { message = Mailed (Peer from bytes); brings = refl; course = λ j st. refl }
message_in g (event.Final number) form =
    let made = made_of g.script number form in
    record {
      message = Finalized made.block;
      brings = (made, refl);
      course = λ j st. ap (λ (o : Option (Block directory.Unit)). option_map_or (λ e. node_step (at_step g j) e st) (option_map Delivers o) (Goes st)) made.is;
    }
message_in g (event.Next request height) form = record { message = Mailed (NextLog request height); brings = refl; course = λ j st. refl }
message_in g (event.Release height) form = record { message = Mailed (ReleaseLog height); brings = refl; course = λ j st. refl }
message_in g (event.Info request) form = record { message = Mailed (EpochInfoOf request); brings = refl; course = λ j st. refl }
message_in g (event.Feed request number) form =
    let made = made_of g.script number form in
    record {
      message = Mailed (Feed request made.block);
      brings = (made, refl);
      course = λ j st. ap (λ (o : Option (Block directory.Unit)). option_map_or (λ e. node_step (at_step g j) e st) (option_map (λ b. Reshare (Feed request b)) o) (Goes st)) made.is;
    }
message_in g (event.Over request) form = record { message = Mailed (Over request); brings = refl; course = λ j st. refl }
message_in g (event.Cancel request) form = record { message = Mailed (Cancel request); brings = refl; course = λ j st. refl }
message_in g event.Work form = record { message = Mailed (Work None); brings = refl; course = λ j st. refl }
message_in g other form = absurd form

-- No event hands in a result.
pub step_taken : (g : Lived) (its : Event) (message : Message directory.Unit) → Brings g its message → (c : Fixed directory.Unit) (st : Live directory.Unit) → IsTakenThrough c message st
step_taken g its message brings c st = by_event its brings
  where
    turned : (other : Message directory.Unit) → message ≡ other → IsTakenThrough c other st → IsTakenThrough c message st
    turned other is taken = subst (λ (m : Message directory.Unit). IsTakenThrough c m st) (sym is) taken

    by_event : (e : Event) → Brings g e message → IsTakenThrough c message st
    by_event (event.Peer from bytes) brings = turned (Mailed (Peer from bytes)) brings tt
    by_event (event.Final number) brings = turned (Finalized (brings.0).block) brings.1 tt
    by_event (event.Next request height) brings = turned (Mailed (NextLog request height)) brings tt
    by_event (event.Release height) brings = turned (Mailed (ReleaseLog height)) brings tt
    by_event (event.Info request) brings = turned (Mailed (EpochInfoOf request)) brings tt
    by_event (event.Feed request number) brings = turned (Mailed (Feed request (brings.0).block)) brings.1 tt
    by_event (event.Over request) brings = turned (Mailed (Over request)) brings tt
    by_event (event.Cancel request) brings = turned (Mailed (Cancel request)) brings tt
    by_event event.Work brings = turned (Mailed (Work None)) brings tt
    by_event other brings = absurd brings
