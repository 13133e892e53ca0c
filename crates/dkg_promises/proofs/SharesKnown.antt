-- Each share that devices hold of an epoch whose info the script has is this node's in what that info carries on: so it stays behind each step of a life over many epochs, wherever it ends.
use Rattle.std.proofs.Common.{◌≡◌, ◌⊎◌, inl, inr, ℕ, Bool, zero, suc, ◌+◌, ◌==◌, ◌<◌, ◌≤◌, List, [], ◌∷◌, ◌++◌, Option, Some, None, true, false, arith, refl, sym, ◌∙◌, ap, subst, take, filter_map, add-one}
use Rattle.std.specs.Prelude.{find, option_map, option_to_list, slice_get, IfSome, IsSomeAnd, if◌then◌else◌}
use Rattle.std.specs.FinMap as maps
use Rattle.std.specs.FinMap.{get}
use Rattle.std.specs.Option.{option_map_or}
use Rattle.std.specs.List.{AllByRecursion}
use Rattle.std.proofs.lemmas.Bool.Decides.{nat_tests}
use Rattle.std.proofs.lemmas.List.Elements.{filter_map-append}
use Rattle.dkg_ceremony.specs.PartialPublics.{partial_public_of, share_public_of}
use Rattle.dkg_values.specs.Rising.{lookup}
use Rattle.dkg_ceremony.specs.declared.output.Output.{Output}
use Rattle.dkg_ceremony.specs.declared.round.RoundParts.{RoundParts as Round}
use Rattle.dkg_ceremony.specs.Outcomes.{LogMap}
use Rattle.dkg_ceremony.specs.Schedule.{boundary, epoch_of, last}
use Rattle.dkg_journal.specs.Names.{Files}
use Rattle.dkg_types.specs.BlockCodes.{info_of}
use Rattle.dkg_types.specs.Blocks as made
use Rattle.dkg_infos.specs.NextInfos.{info_by, next_info}
use Rattle.dkg_infos.specs.Units.{unit_spelling}
use Rattle.dkg_infos.specs.declared.directory.Unit as directory
use Rattle.dkg_infos.specs.declared.info.EpochInfo.{EpochInfo}
use Rattle.dkg_text.specs.declared.script.Cut.{Cut}
use Rattle.dkg_text.specs.declared.script.Event.{Event}
use Rattle.dkg_text.specs.declared.script.Event.TheVariants as event
use Rattle.dkg_text.specs.declared.script.Life.{Life}
use Rattle.dkg_script.specs.Blocks.{anchor_number, delivered_number, known_info}
use Rattle.dkg_script.specs.Consistent.{IsConsistentScript}
use Rattle.dkg_script.specs.Inclusion.{IsFormOfInclusion}
use Rattle.dkg_script.specs.Readings.{Info, with_spelled}
use Rattle.dkg_script.specs.Setting.{CutAt, Setting, blocks_per_epoch, life_at, me}
use Rattle.dkg_store.specs.Acts.{Ended, Held, World, broken, stopped, went}
use Rattle.dkg_core.specs.Behind.{event_of}
use Rattle.dkg_core.specs.Blocks.{expected_epoch, share_for}
use Rattle.dkg_core.specs.Courses.{Course, EndsSo}
use Rattle.dkg_core.specs.Fixed.{Fixed, has}
use Rattle.dkg_core.specs.Asked.{InEpoch, IsArtifactIn, IsArtifactOf, OfShares}
use Rattle.dkg_core.specs.Endings.{CameTo, first_block, first_epoch}
use Rattle.dkg_core.specs.Forms.{IsNodeBegun, IsOpeningStop, IsSeated, IsSetUpIn, LeavesHeld, held_behind, share_read, seed_read, started}
use Rattle.dkg_core.specs.Logs.{canonical}
use Rattle.dkg_core.specs.NodeEndings.{IsFaultBy}
use Rattle.dkg_laws.specs.NodeThrough.{IsActiveThrough, IsNodeThrough}
use Rattle.dkg_core.specs.Same.{same_info}
use Rattle.dkg_laws.specs.SharesMoved.{IsSuchShare}
use Rattle.dkg_core.specs.Through.{IsCarriedOn, IsLiveThrough, IsShareTaken, IsStopThrough}
use Rattle.dkg_core.specs.Including.{can_finish}
use Rattle.dkg_core.specs.Live.{Artifact, Deals, Ends, Finalized, Follows, Includes, Live, Message, NodeStop, Peer, Mailed, Stage, is_last_height, with_orchestrator}
use Rattle.dkg_core.specs.Node.{node_opening, node_step}
use Rattle.dkg_core.specs.Seen.{Seen}
use Rattle.dkg_core.specs.Setup.{Uncommitted, recovered_share}
use Rattle.dkg_core.specs.Sources.{anchored}
use Rattle.dkg_core.specs.Storing.{ReadsSecrets}
use Rattle.dkg_core.specs.Stepping.{next_epoch}
use Rattle.dkg_laws.proofs.NodeThrough.{node_openings_through, node_steps_lead_through_over}
use Rattle.dkg_laws.proofs.Openings.{node_openings_lead_over}
use Rattle.dkg_laws.proofs.Reading.{step_reads}
use Rattle.dkg_core.proofs.Same.{infos_agree}
use Rattle.dkg_core.proofs.Storing.{looked_up}
use Rattle.dkg_lives.specs.Epochs.{IsLifeInForm}
use Rattle.dkg_lives.specs.Given.{Lived, anchor_in, at_step, blocks_in, delivered_by, lived, numbered, step_of}
use Rattle.dkg_lives.proofs.Awaiting.{IsReached, comes_to, one_more}
use Rattle.dkg_along.proofs.Drawn.{Begins, Numbered, all_join, found_number, held_begin, used_begin}
use Rattle.dkg_lives.proofs.Former.{BringsBlock, BringsMail, BringsOther, BringsPeer, IsMessage, brings_kind, brings_so, event_in_form, form_at, lacks_nobody, live_through, message_in, step_taken, through_at}
use Rattle.dkg_lives.proofs.Idle.{idle_held}
use Rattle.dkg_lives.proofs.NextLives.{GoesOn, TakesOver, next_so}
use Rattle.dkg_promises.proofs.OwnClear.{recovered_fits}
use Rattle.dkg_promises.proofs.OwnValid.{known_at}
use Rattle.dkg_along.proofs.SharesFit.{BoundaryServes, HoldsSuch, Serves, block_such, message_such, opening_such, same_shares}
use Rattle.dkg_lives.proofs.Started.{anchored_is}
use Rattle.dkg_along.proofs.Used.{all_back, all_front, of_delivered}

some_is : {A : Type 0} {x y : A} → ◌≡◌ {A = Option A} (Some x) (Some y) → x ≡ y
some_is e = cc

none_some : {A : Type 0} {x : A} → ◌≡◌ {A = Option A} None (Some x) → ⊥
none_some e = cc

-- what comes before something that is there
pub there_below : {A : Type 0} (xs : List A) (i : ℕ) (x : A) → slice_get xs i ≡ Some x → (k : ℕ) → k ≤ i → (y : A) × (slice_get xs k ≡ Some y)
there_below {A} [] i x is k low = absurd (let no : ◌≡◌ {A = Option A} None (Some x) = is in cc)
there_below (y ∷ ys) i x is zero low = (y, refl)
there_below (y ∷ ys) zero x is (suc k) low = absurd (omega (arith, low))
there_below (y ∷ ys) (suc i) x is (suc k) low = there_below ys i x is k (omega (arith, low))

-- .. and what is reached before what is reached
pub reached_below : (its : Option Cut) (j k : ℕ) → k ≤ j → IsReached its j → IsReached its k
reached_below None j k low reached = tt
reached_below (Some cut) j k low reached = λ none. let more : j < cut.step = reached none in omega (arith, low, more)

-- This is a share of this node's in what the info of that epoch carries on, if the script has that info.
abbrev pub IsMineAt : Setting → (epoch share : ℕ) → Type 0
IsMineAt s epoch share = (info : Info) → known_info s epoch ≡ Some info → partial_public_of info.output (me s) ≡ Some (share_public_of share)

-- so is each that is held
abbrev pub SharesFit : Setting → Held → Type 0
SharesFit s h = HoldsSuch (IsMineAt s) h

-- WHAT A LIFE HAS BESIDE

-- what is read of an epoch's share, where there is one, is such a one
abbrev pub mine : Setting → OfShares
mine s epoch share = IfSome share (IsMineAt s epoch)

abbrev pub IsScripts : Setting → EpochInfo directory.Unit → Type 0
IsScripts s info = known_info s info.epoch ≡ Some (with_spelled unit_spelling info)

-- Of its requests and its artifact such shares alone were read, and the info by which it takes part is the script's.
pub record IsFitting (s : Setting) (c : Fixed directory.Unit) (st : Live directory.Unit) : Type 0 where
  pub live : IsLiveThrough c (mine s) st
  pub known : (round : Round) → st.participation.round ≡ Some round → IsSomeAnd st.participation.current (IsScripts s)

-- AN ARTIFACT'S SHARE is this node's of the output that the carried info has, where that is the artifact's.
module _ (s : Setting) (l : ℕ) (life : Life) (seen : Held → Seen) (files : Files) (taken : ℕ) (round : Round) (current : EpochInfo directory.Unit) (plays : Bool) (logs : LogMap) (artifact : Artifact directory.Unit)
    (is : IsArtifactOf (at_step (lived s.script l life seen files) taken) (mine s) round current plays logs artifact) (known : IsScripts s current) (info : EpochInfo directory.Unit) (share : ℕ) where
  abbrev here_fixed : Fixed directory.Unit
  here_fixed = at_step (lived s.script l life seen files) taken

  abbrev Fits : Output → Type 0
  Fits output = partial_public_of output (me s) ≡ Some (share_public_of share)

  artifact_fits : share_for here_fixed info artifact ≡ Some share → Fits info.output
  unfolding at_step next_info
  artifact_fits found = by_info artifact.info refl found
    where
      by_outcome : (derived : EpochInfo directory.Unit) → artifact.info ≡ Some derived → artifact.share ≡ Some share → (o : Option Output) → here_fixed.rules.outcome_of round logs ≡ o → Fits derived.output
      by_outcome derived there got (Some output) found =
          subst Fits (sym (ap (λ (i : EpochInfo directory.Unit). i.output) (some_is (sym there ∙ is.info_is)) ∙ ap (λ (o : Option Output). (info_by here_fixed.provided current o).output) found))
          ((is.success output found).1 share got)
      by_outcome derived there got None found =
          subst Fits (sym (ap (λ (i : EpochInfo directory.Unit). i.output) (some_is (sym there ∙ is.info_is)) ∙ ap (λ (o : Option Output). (info_by here_fixed.provided current o).output) found))
          (by_player (has current.output.players (me s)) refl)
        where
          by_player : (t : Bool) → has current.output.players (me s) ≡ t → Fits current.output
          by_player true player = subst (λ (o : Option ℕ). IfSome o (IsMineAt s current.epoch)) got ((is.failure found).0 player) (with_spelled unit_spelling current) known
          by_player false none = absurd (none_some (sym ((is.failure found).1 none) ∙ got))

      by_test : (derived : EpochInfo directory.Unit) → artifact.info ≡ Some derived → (t : Bool) → same_info here_fixed.directories derived info ≡ t → (if t then artifact.share else None) ≡ Some share → Fits info.output
      by_test derived there true same got =
          subst Fits (infos_agree here_fixed.directories derived info same).output (by_outcome derived there got (here_fixed.rules.outcome_of round logs) refl)
      by_test derived there false same got = absurd (none_some got)

      by_info : (o : Option (EpochInfo directory.Unit)) → artifact.info ≡ o → (if option_map_or (λ derived. same_info here_fixed.directories derived info) o false then artifact.share else None) ≡ Some share → Fits info.output
      by_info None there got = absurd (none_some got)
      by_info (Some derived) there got = by_test derived there (same_info here_fixed.directories derived info) refl got

module _ (s : Setting) (cuts : List (Option CutAt)) (form : IsFormOfInclusion s.script) (consistent : IsConsistentScript s cuts) (l : ℕ) (life : Life) (seen : Held → Seen) (files : Files) (life_is : life_at s l ≡ Some life)
    (reads : ReadsSecrets seen) where
  abbrev g : Lived
  g = lived s.script l life seen files

  abbrev Known : ℕ → Type 0
  Known number = Numbered s cuts form consistent number

  pub reads_shares : (taken : ℕ) (h : Held) → ((at_step g taken).seen h).shares ≡ maps.entries h.secrets.shares
  unfolding at_step
  reads_shares zero h = reads.shares h
  reads_shares (suc taken) h = refl

  reads_secrets : (i : ℕ) → ReadsSecrets (at_step g (suc i)).seen
  unfolding at_step
  reads_secrets i = record { shares = λ h. refl; seeds = λ h. refl }

  pub said_of : (taken : ℕ) (h : Held) → SharesFit s h → (epoch : ℕ) → mine s epoch (lookup epoch ((at_step g taken).seen h).shares)
  said_of taken h such epoch = subst (λ (o : Option ℕ). mine s epoch o) (sym (ap (lookup epoch) (reads_shares taken h) ∙ looked_up epoch h.secrets.shares)) (by_share (get h.secrets.shares epoch) refl)
    where
      by_share : (o : Option ℕ) → get h.secrets.shares epoch ≡ o → mine s epoch o
      by_share None got = tt
      by_share (Some share) got = such epoch share got

  -- AN INFO that the script has of its epoch
  pub known_serves : (taken : ℕ) (info : EpochInfo directory.Unit) → known_info s info.epoch ≡ Some (with_spelled unit_spelling info) → Serves (IsMineAt s) (at_step g taken) info
  known_serves taken info known h such = by_share (recovered_share (at_step g taken) ((at_step g taken).seen h) info) refl
    where
      by_share : (o : Option ℕ) → recovered_share (at_step g taken) ((at_step g taken).seen h) info ≡ o → IfSome o (IsMineAt s info.epoch)
      by_share None is = tt
      by_share (Some share) is = λ other there. subst (λ (i : Info). partial_public_of i.output (me s) ≡ Some (share_public_of share)) (some_is (sym known ∙ there))
          (recovered_fits g taken info.epoch info h (reads_shares taken h) (λ its got. such info.epoch its got (with_spelled unit_spelling info) known) share is)

  -- THE SOURCE behind so many events that came has blocks that the life uses

  abbrev numbers : (taken : ℕ) → List ℕ
  numbers taken = life.held ++ (option_to_list (option_map anchor_number life.anchor) ++ filter_map delivered_number (take taken life.events))

  source_numbers : (taken at : ℕ) → numbered (blocks_in s.script) life.held ++ (anchored (anchor_in (blocks_in s.script) life.anchor) ++ delivered_by (blocks_in s.script) (take taken life.events))
      ≡ numbered (blocks_in s.script) (numbers taken)
  source_numbers taken at =
      ap (λ (bs : List (made.Block directory.Unit)). numbered (blocks_in s.script) life.held ++ (bs ++ delivered_by (blocks_in s.script) (take taken life.events))) (anchored_is s at life.anchor)
      ∙ ap (λ (bs : List (made.Block directory.Unit)). numbered (blocks_in s.script) life.held ++ bs)
      (sym (filter_map-append (slice_get (blocks_in s.script)) (option_to_list (option_map anchor_number life.anchor)) (filter_map delivered_number (take taken life.events))))
      ∙ sym (filter_map-append (slice_get (blocks_in s.script)) life.held (option_to_list (option_map anchor_number life.anchor) ++ filter_map delivered_number (take taken life.events)))

  -- so many came
  abbrev pub Came : (taken : ℕ) → Type 0
  Came taken = (i : ℕ) → i < taken → (e : Event) × (slice_get life.events i ≡ Some e) × IsReached life.cut (suc i)

  delivered_known : (taken : ℕ) → Came taken → AllByRecursion Known (filter_map delivered_number (take taken life.events))
  delivered_known zero came = none life.events
    where
      none : (events : List Event) → AllByRecursion Known (filter_map delivered_number (take 0 events))
      none [] = tt
      none (e ∷ events) = tt
  delivered_known (suc i) came =
      subst (AllByRecursion Known) (sym (ap (filter_map delivered_number) (one_more life.events i last.0 last.1) ∙ filter_map-append delivered_number (take i life.events) (last.0 ∷ [])))
      (all_join Known (filter_map delivered_number (take i life.events)) (filter_map delivered_number (last.0 ∷ [])) (delivered_known i (λ k low. came k (omega (arith, low)))) (one last.0 last.1))
    where
      last : (e : Event) × (slice_get life.events i ≡ Some e) × IsReached life.cut (suc i)
      last = came i (omega arith)

      one : (e : Event) → slice_get life.events i ≡ Some e → AllByRecursion Known (filter_map delivered_number (e ∷ []))
      one (event.Final number) is = (of_delivered s l life (Begins s cuts form consistent) life_is (used_begin s cuts form consistent) i number (comes_to life.cut life.events i last.2 ∙ is), tt)
      one other is = tt

  pub boundary_known : (taken : ℕ) → Came taken → (epoch : ℕ) (block : made.Block directory.Unit) (info : EpochInfo directory.Unit) → (at_step g taken).source.block (boundary (at_step g taken).blocks_per_epoch epoch) ≡ Some block
      → info_of block.payload ≡ Some info → info.epoch ≡ epoch → IsScripts s info
  unfolding at_step
  boundary_known taken came epoch block info found carries same =
      known_at s cuts form consistent l life seen files life_is its.0 block its.1 its.2 info carries (its.3 ∙ ap (boundary (blocks_per_epoch s)) (sym same))
    where
      held : AllByRecursion Known (life.held ++ option_to_list (option_map anchor_number life.anchor))
      held = held_begin s cuts form consistent l life seen files life_is

      known : AllByRecursion Known (numbers taken)
      known = all_join Known life.held (option_to_list (option_map anchor_number life.anchor) ++ filter_map delivered_number (take taken life.events))
          (all_front Known life.held (option_to_list (option_map anchor_number life.anchor)) held)
          (all_join Known (option_to_list (option_map anchor_number life.anchor)) (filter_map delivered_number (take taken life.events))
          (all_back Known life.held (option_to_list (option_map anchor_number life.anchor)) held) (delivered_known taken came))

      its : (number : ℕ) × (slice_get (blocks_in s.script) number ≡ Some block) × Known number × (block.height ≡ boundary (blocks_per_epoch s) epoch)
      its = found_number (blocks_in s.script) (boundary (blocks_per_epoch s) epoch) Known block (numbers taken) known
          (sym (ap (find (λ (x : made.Block directory.Unit). x.height == boundary (blocks_per_epoch s) epoch)) (source_numbers taken epoch)) ∙ found)

  boundary_serves : (taken : ℕ) → Came taken → (epoch : ℕ) → BoundaryServes (IsMineAt s) (at_step g taken) epoch
  boundary_serves taken came epoch block info found carries same = known_serves taken info (boundary_known taken came epoch block info found carries same)

  -- A LAST BLOCK that comes makes the info known that it carries of the next epoch
  pub last_known : (i number : ℕ) → slice_get life.events i ≡ Some (event.Final number) → IsReached life.cut (suc i) → (block : made.Block directory.Unit) → slice_get (blocks_in s.script) number ≡ Some block
      → is_last_height (at_step g (suc i)) block.height ≡ true → (info : EpochInfo directory.Unit) → info_of block.payload ≡ Some info → info.epoch ≡ next_epoch (at_step g (suc i)) block
      → known_info s info.epoch ≡ Some (with_spelled unit_spelling info)
  unfolding at_step
  last_known i number is reached block there ends info carries same =
      known_at s cuts form consistent l life seen files life_is number block there
      (of_delivered s l life (Begins s cuts form consistent) life_is (used_begin s cuts form consistent) i number (comes_to life.cut life.events i reached ∙ is)) info carries
      (same_number block.height (last (blocks_per_epoch s) (epoch_of (blocks_per_epoch s) block.height)) ends ∙ ap (boundary (blocks_per_epoch s)) (sym (add-one (epoch_of (blocks_per_epoch s) block.height)))
      ∙ ap (boundary (blocks_per_epoch s)) (sym same))
    where
      same_number : (x y : ℕ) → (x == y) ≡ true → x ≡ y
      same_number x y e = grind (arith, nat_tests)

  -- .. so that serves
  pub last_serves : (i number : ℕ) → slice_get life.events i ≡ Some (event.Final number) → IsReached life.cut (suc i) → (block : made.Block directory.Unit) → slice_get (blocks_in s.script) number ≡ Some block
      → is_last_height (at_step g (suc i)) block.height ≡ true → (info : EpochInfo directory.Unit) → info_of block.payload ≡ Some info → info.epoch ≡ expected_epoch (at_step g (suc i)) block.height
      → Serves (IsMineAt s) (at_step g (suc i)) info
  unfolding at_step
  last_serves i number is reached block there ends info carries same = known_serves (suc i) info (last_known i number is reached block there ends info carries same)

  -- AN OPENING, wherever it ends
  module _ (here : IsLifeInForm g) where
    pub opening_fits : (ended : Ended NodeStop (Live directory.Unit)) (w new : World) → SharesFit s w.held → EndsSo (node_opening (at_step g 0)) ended w new → SharesFit s new.held
    opening_fits ended w new q run =
        opening_such (IsMineAt s) (at_step g 0) (form_at g here 0) ended w new (boundary_serves 0 (λ i low. absurd (omega (arith, low))) (first_epoch (at_step g 0))) q run

    -- .. and it leaves a life that fits
    pub begun_fits : (h k : Held) (st : Live directory.Unit) → IsNodeBegun (at_step g 0) ((at_step g 0).seen h) k st → IsFitting s (at_step g 0) st
    begun_fits h k st begun = record {
      live = (node_openings_through (at_step g 0) (mine s) ((at_step g 0).seen h) k st (form_at g here 0) begun).0;
      known = λ round of. by_block round of (first_block (at_step g 0)) refl begun.opened.set_up;
    }
      where
        same : st ≡ with_orchestrator st.orchestrator begun.before
        same = begun.entered.same

        by_info : (block : made.Block directory.Unit) → first_block (at_step g 0) ≡ Some block → (o : Option (EpochInfo directory.Unit)) → info_of block.payload ≡ o
            → IsSomeAnd o (λ info. IsSeated (at_step g 0) Uncommitted info (share_read (at_step g 0) info k) (seed_read (at_step g 0) info k) (started (at_step g 0) ((at_step g 0).seen h)) begun.before)
            → IsSomeAnd st.participation.current (IsScripts s)
        by_info block there None carries none = absurd none
        by_info block there (Some info) carries seated =
            subst (λ (o : Option (EpochInfo directory.Unit)). IsSomeAnd o (IsScripts s)) (sym (ap (λ (x : Live directory.Unit). x.participation.current) same ∙ seated.current))
            (boundary_known 0 (λ i low. absurd (omega (arith, low))) (first_epoch (at_step g 0)) block info there carries seated.of_epoch)

        by_block : (round : Round) → st.participation.round ≡ Some round → (o : Option (made.Block directory.Unit)) → first_block (at_step g 0) ≡ o → IsSetUpIn (at_step g 0) ((at_step g 0).seen h) k begun.before o
            → IsSomeAnd st.participation.current (IsScripts s)
        by_block round of None there set_up = absurd (none_some (sym set_up.0 ∙ sym (ap (λ (x : Live directory.Unit). x.participation.round) same) ∙ of))
        by_block round of (Some block) there set_up = by_info block there (info_of block.payload) refl set_up

    pub opening_fitting : (ended : Ended NodeStop (Live directory.Unit)) (w new : World) → EndsSo (node_opening (at_step g 0)) ended w new → CameTo (λ stop. Unit {0}) (IsFitting s (at_step g 0)) ended
    opening_fitting ended w new run = by_end ended (node_openings_lead_over (at_step g 0) ended w new (form_at g here 0) (lacks_nobody g 0) run)
      where
        by_end : (e : Ended NodeStop (Live directory.Unit)) → CameTo (IsFaultBy (IsOpeningStop (at_step g 0) ((at_step g 0).seen (held_behind (at_step g 0) w.held)) (held_behind (at_step g 0) w.held)))
            (λ st. IsNodeBegun (at_step g 0) ((at_step g 0).seen (held_behind (at_step g 0) w.held)) (held_behind (at_step g 0) w.held) st × LeavesHeld (at_step g 0) (held_behind (at_step g 0) w.held) new.held (first_block (at_step g 0))) e → CameTo (λ stop. Unit {0}) (IsFitting s (at_step g 0)) e
        by_end (went end) its = begun_fits (held_behind (at_step g 0) w.held) (held_behind (at_step g 0) w.held) end its.0
        by_end (stopped stop) why = tt
        by_end (broken cause) u = tt

    -- A STEP, wherever it ends
    module _ (i : ℕ) (its : Event) (is : slice_get life.events i ≡ Some its) (reached : IsReached life.cut (suc i))
        (st : Live directory.Unit) (active : IsActiveThrough st) (fitting : IsFitting s (at_step g i) st) (w : World) (q : SharesFit s w.held) where
      abbrev c : Fixed directory.Unit
      c = at_step g (suc i)

      abbrev m : IsMessage g its
      m = message_in g its (event_in_form g here i its is)

      live : IsLiveThrough c (mine s) st
      live = live_through g (mine s) i (suc i) st fitting.live

      came : Came (suc i)
      came k low = let there = there_below life.events i its is k (omega (arith, low)) in (there.0, there.1, reached_below life.cut (suc i) (suc k) (omega (arith, low)) reached)

      abbrev Runs : Ended NodeStop (Live directory.Unit) → World → Message directory.Unit → Type 0
      Runs ended new message = EndsSo (node_step c (event_of message) st) ended w new

      its_run : (ended : Ended NodeStop (Live directory.Unit)) (new : World) → EndsSo (step_of g (suc i) its st) ended w new → Runs ended new m.message
      its_run ended new run = subst (λ (course : Course directory.Unit NodeStop (Live directory.Unit)). EndsSo course ended w new) (m.course (suc i) st) run

      abbrev Of : made.Block directory.Unit → (epoch share : ℕ) → EpochInfo directory.Unit → Type 0
      Of block epoch share info = (info.epoch ≡ epoch) × (info.epoch ≡ next_epoch c block)
          × InEpoch st (λ round current. (artifact : Artifact directory.Unit) × IsArtifactIn c (mine s) round current st (canonical c st) artifact × (share_for c info artifact ≡ Some share))

      -- what the last block of a life that includes puts is such a share
      such_mine : (number : ℕ) → its ≡ event.Final number → (block : made.Block directory.Unit) → slice_get (blocks_in s.script) number ≡ Some block → (epoch share : ℕ) → IsSuchShare c (mine s) block st epoch share → IsMineAt s epoch share
      such_mine number of block there epoch share such = by_info (info_of block.payload) refl such.1
        where
          by_info : (o : Option (EpochInfo directory.Unit)) → info_of block.payload ≡ o → IsSomeAnd o (Of block epoch share) → IsMineAt s epoch share
          by_info None carries none = absurd none
          by_info (Some info) carries its_share = λ other is_other.
              let known : IsScripts s info = last_known i number (is ∙ ap (λ (e : Event). Some e) of) reached block there such.0 info carries its_share.1 in
              let same : with_spelled unit_spelling info ≡ other = some_is (sym known ∙ ap (known_info s) its_share.0 ∙ is_other) in
              let current : IsScripts s its_share.2.1 = subst (λ (o : Option (EpochInfo directory.Unit)). IsSomeAnd o (IsScripts s)) its_share.2.3 (fitting.known its_share.2.0 its_share.2.2) in
              subst (λ (x : Info). partial_public_of x.output (me s) ≡ Some (share_public_of share)) same
              (artifact_fits s l life seen files (suc i) its_share.2.0 its_share.2.1 (can_finish c its_share.2.0 (canonical c st) st) (canonical c st) its_share.2.4.0 its_share.2.4.1 current info share its_share.2.4.2)

      -- so is the share that is carried on with a last block's info
      pub share_mine : (number : ℕ) → its ≡ event.Final number → (block : made.Block directory.Unit) → slice_get (blocks_in s.script) number ≡ Some block → is_last_height c block.height ≡ true
          → (on : IsCarriedOn c (mine s) block st (Some w.held)) → IfSome on.share (IsMineAt s (on.info).epoch)
      unfolding at_step
      share_mine number of block there last_one on = by_stage st.participation.stage refl on.shared
        where
          made_of : (share : ℕ) → on.share ≡ Some share → IsShareTaken c (mine s) st on.h on.info on.share Includes → IsMineAt s (on.info).epoch share
          made_of share is (round, current, of_round, of_current, (artifact, of_logs, same)) =
              such_mine number of block there (on.info).epoch share
              (last_one, subst (λ (o : Option (EpochInfo directory.Unit)). IsSomeAnd o (Of block (on.info).epoch share)) (sym on.carried) (refl, on.of_next, (round, current, of_round, of_current, (artifact, of_logs, sym same ∙ is))))

          by_share : (o : Option ℕ) → on.share ≡ o → IsShareTaken c (mine s) st on.h on.info on.share Includes → IfSome o (IsMineAt s (on.info).epoch)
          by_share None is taken = tt
          by_share (Some share) is taken = made_of share is taken

          by_stage : (stage : Stage) → st.participation.stage ≡ stage → IsShareTaken c (mine s) st on.h on.info on.share st.participation.stage → IfSome on.share (IsMineAt s (on.info).epoch)
          by_stage stage at taken = in_stage stage (subst (IsShareTaken c (mine s) st on.h on.info on.share) at taken)
            where
              in_stage : (stage : Stage) → IsShareTaken c (mine s) st on.h on.info on.share stage → IfSome on.share (IsMineAt s (on.info).epoch)
              in_stage Follows read =
                  subst (λ (o : Option ℕ). IfSome o (IsMineAt s (on.info).epoch)) (sym read)
                  (last_serves i number (is ∙ ap (λ (e : Event). Some e) of) reached block there last_one on.info on.carried on.of_next on.h (subst (SharesFit s) (sym on.found) q))
              in_stage Includes made = by_share on.share refl made
              in_stage Deals none = absurd none
              in_stage Ends none = absurd none

      pub step_fits : (ended : Ended NodeStop (Live directory.Unit)) (new : World) → EndsSo (step_of g (suc i) its st) ended w new → SharesFit s new.held
      step_fits ended new run = by_kind (brings_kind g its m.message m.brings)
        where
          run_of : (message : Message directory.Unit) → m.message ≡ message → Runs ended new message
          run_of message same = subst (Runs ended new) same (its_run ended new run)

          by_kind : BringsBlock g its m.message ⊎ (BringsPeer its m.message ⊎ BringsOther its m.message) → SharesFit s new.held
          by_kind (inl b) =
              block_such (IsMineAt s) c b.1.block (last_serves i b.0 (is ∙ ap (λ (e : Event). Some e) b.2) reached b.1.block b.1.is) (λ ends. boundary_serves (suc i) came (epoch_of c.blocks_per_epoch (b.1.block.height + 1)))
              (mine s) (through_at g here (suc i)) st live (such_mine b.0 b.2 b.1.block b.1.is) w
              (λ h epoch found. subst (λ (x : Held). mine s epoch (lookup epoch (c.seen x).shares)) (sym found) (said_of (suc i) w.held q epoch)) q ended new (run_of (Finalized b.1.block) b.3)
          by_kind (inr (inl p)) = message_such (IsMineAt s) c p.0 p.1 st ended w new q (run_of (Mailed (Peer p.0 p.1)) p.3)
          by_kind (inr (inr o)) = same_shares (IsMineAt s) w.held new.held (ap (λ (h : Held). h.secrets.shares) (idle_held c o.0 o.2 st ended w new active (run_of (Mailed o.0) o.1))) q

      -- .. and what it leaves fits
      known_behind : (devices left : Option Held) (end : Live directory.Unit) → IsNodeThrough c (mine s) st m.message devices end left → (round : Round) → end.participation.round ≡ Some round
          → IsSomeAnd end.participation.current (IsScripts s)
      known_behind devices left end node round of_end =
          subst (λ (x : Live directory.Unit). IsSomeAnd x.participation.current (IsScripts s)) (sym node.same) (either (next_so c (mine s) st m.message devices node.mid left (form_at g here (suc i)) live node.next))
        where
          of : node.mid.participation.round ≡ Some round
          of = sym (ap (λ (x : Live directory.Unit). x.participation.round) node.same) ∙ of_end

          taken : TakesOver c (mine s) st m.message devices node.mid left → IsSomeAnd node.mid.participation.current (IsScripts s)
          taken over = by_brought (brings_so g its m.message m.brings)
            where
              on : IsCarriedOn c (mine s) over.block st devices
              on = over.taken.on

              current : node.mid.participation.current ≡ Some on.info
              current = over.taken.seated.current

              the_block : {x y : made.Block directory.Unit} → ◌≡◌ {A = Message directory.Unit} (Finalized x) (Finalized y) → x ≡ y
              the_block e = cc

              by_brought : BringsBlock g its m.message ⊎ BringsMail its m.message → IsSomeAnd node.mid.participation.current (IsScripts s)
              by_brought (inr mail) = absurd (let wrong : ◌≡◌ {A = Message directory.Unit} (Mailed mail.0) (Finalized over.block) = sym mail.1 ∙ over.is in cc)
              by_brought (inl b) = subst (λ (o : Option (EpochInfo directory.Unit)). IsSomeAnd o (IsScripts s)) (sym current)
                  (last_known i b.0 (is ∙ ap (λ (e : Event). Some e) b.2) reached over.block (b.1.is ∙ ap (λ (x : made.Block directory.Unit). Some x) (the_block (sym b.3 ∙ over.is))) over.last on.info on.carried on.of_next)

          either : GoesOn c st m.message node.mid ⊎ TakesOver c (mine s) st m.message devices node.mid left → IsSomeAnd node.mid.participation.current (IsScripts s)
          either (inl on) = subst (λ (o : Option (EpochInfo directory.Unit)). IsSomeAnd o (IsScripts s)) (sym on.same.current) (fitting.known round (sym on.same.round ∙ of))
          either (inr over) = taken over

      -- where it comes to
      pub step_comes : (ended : Ended NodeStop (Live directory.Unit)) (new : World) → EndsSo (step_of g (suc i) its st) ended w new
          → CameTo (IsFaultBy (IsStopThrough c (mine s) st m.message (Some w.held))) (λ end. IsNodeThrough c (mine s) st m.message (Some w.held) end (Some new.held)) ended
      step_comes ended new run =
          node_steps_lead_through_over c (mine s) st m.message ended w new (through_at g here (suc i)) (lacks_nobody g (suc i)) (step_reads c (mine s) w.held (reads_secrets i) (said_of (suc i) w.held q))
          (step_taken g its m.message m.brings c st) live active (its_run ended new run)

      pub step_fitting : (ended : Ended NodeStop (Live directory.Unit)) (new : World) → EndsSo (step_of g (suc i) its st) ended w new → CameTo (λ stop. Unit {0}) (IsFitting s c) ended
      step_fitting ended new run = by_end ended (step_comes ended new run)
        where
          by_end : (e : Ended NodeStop (Live directory.Unit)) → CameTo (IsFaultBy (IsStopThrough c (mine s) st m.message (Some w.held))) (λ end. IsNodeThrough c (mine s) st m.message (Some w.held) end (Some new.held)) e
              → CameTo (λ stop. Unit {0}) (IsFitting s c) e
          by_end (went end) node = record { live = node.live; known = known_behind (Some w.held) (Some new.held) end node }
          by_end (stopped stop) why = tt
          by_end (broken cause) u = tt
