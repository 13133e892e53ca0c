-- What a life holds of shares, and its seat, from step to step: each share of an epoch that it holds was handed in or is told, or an earlier life was cut as it came to that epoch; the last setup that its
-- lines tell is its own; and what it has read of its epoch's share is still so.
use Rattle.std.proofs.Common.{◌≡◌, ◌⊎◌, inl, inr, ℕ, Bool, true, false, zero, suc, ◌+◌, ◌-◌, ◌*◌, ◌<◌, ◌≤◌, List, [], ◌∷◌, ◌++◌, Option, Some, None, refl, sym, ◌∙◌, ap, subst, length, arith, add-one, length-append}
use Rattle.std.specs.Prelude.{slice_get, ◌==◌, ◌||◌, IsSome, IsSomeAnd, is_some, max, not, if◌then◌else◌}
use Rattle.std.specs.FinMap.{get}
use Rattle.std.specs.List.{AllByRecursion}
use Rattle.std.specs.Option.{option_flatten}
use Rattle.std.proofs.lemmas.List.{append_cancel_left}
use Rattle.std.proofs.lemmas.List.Elements.{Contains-append_cases, Contains-append_left, Contains-append_right, Contains-push_cases}
use Rattle.std.proofs.lemmas.List.Sums.{fold-append}
use Rattle.dkg_values.specs.Rising.{lookup}
use Rattle.dkg_ceremony.specs.Schedule.{epoch_of, first, last}
use Rattle.dkg_ceremony.specs.declared.round.RoundParts.{RoundParts as Round}
use Rattle.dkg_journal.specs.Burn.{Burn}
use Rattle.dkg_journal.specs.Names.{Files}
use Rattle.dkg_types.specs.BlockCodes.{info_of}
use Rattle.dkg_types.specs.Blocks as made
use Rattle.dkg_infos.specs.declared.directory.Unit as directory
use Rattle.dkg_infos.specs.declared.entry.Entry.{Entry}
use Rattle.dkg_infos.specs.declared.entry.Entry.TheVariants as entry
use Rattle.dkg_infos.specs.declared.entry.Part.{Part}
use Rattle.dkg_infos.specs.declared.info.EpochInfo.{EpochInfo}
use Rattle.dkg_secrets.specs.Secrets.{Secrets}
use Rattle.dkg_text.specs.declared.script.Cut as cut
use Rattle.dkg_text.specs.declared.script.Event as script
use Rattle.dkg_text.specs.declared.script.Event.TheVariants as event
use Rattle.dkg_text.specs.declared.script.Life.{Life}
use Rattle.dkg_script.specs.Consistent.{IsConsistentScript}
use Rattle.dkg_script.specs.Epochs.{alone}
use Rattle.dkg_script.specs.Inclusion.{IsFormOfInclusion}
use Rattle.dkg_script.specs.Position.{awaited_before, awaited_epoch, awaited_height_after, begun, begun_before, cut_of, events_taken, lacks_boundary}
use Rattle.dkg_script.specs.Progress.{Progress}
use Rattle.dkg_script.specs.Setting.{CutAt, Setting, blocks_per_epoch, is_oneshot, life_at, me}
use Rattle.dkg_store.specs.Acts.{Cause, Ended, Held, World, broken, says, stopped, went}
use Rattle.dkg_core.specs.Asked.{OfShares, ReadsShare}
use Rattle.dkg_core.specs.Behind.{event_of}
use Rattle.dkg_core.specs.Blocks as b
use Rattle.dkg_core.specs.Courses.{Course, EndsSo}
use Rattle.dkg_core.specs.Endings.{CameTo, first_block, first_epoch}
use Rattle.dkg_core.specs.Fixed.{Fixed, OneShot, has}
use Rattle.dkg_core.specs.Forms.{Applied, IsNodeBegun, IsOpeningStop, IsSeated, IsSetUpIn, Judged, LeavesHeld, Passed, Refusal, held_behind, judged_block, seed_read, share_read, started}
use Rattle.dkg_laws.specs.Idle.{IsAskedEntry, LeavesIdle}
use Rattle.dkg_core.specs.Live as core
use Rattle.dkg_core.specs.Live.{Deals, Ends, Finalized, Follows, Includes, Live, Mail, Message, NodeStop, Peer, Plays, Seat, Mailed, Stage, Watches, is_last_height, records_of_epoch}
use Rattle.dkg_core.specs.Logs.{logs_of}
use Rattle.dkg_core.specs.Node.{node_opening, node_step}
use Rattle.dkg_core.specs.NodeEndings.{IsFaultBy}
use Rattle.dkg_laws.specs.NodeThrough.{IsActiveThrough, IsNodeThrough}
use Rattle.dkg_core.specs.Seen.{Seen}
use Rattle.dkg_core.specs.Setup.{Uncommitted, is_lost}
use Rattle.dkg_core.specs.Storing.{ReadsSecrets}
use Rattle.dkg_core.specs.Through.{IsLiveThrough, PassesNothingOn, unasked}
use Rattle.dkg_core.proofs.Heights.{next_last}
use Rattle.dkg_laws.proofs.Idle.{mails_are_idle}
use Rattle.dkg_laws.proofs.NodeThrough.{node_openings_through, node_steps_lead_through_over}
use Rattle.dkg_laws.proofs.Openings.{node_openings_lead_over}
use Rattle.dkg_laws.proofs.Reading.{live_as, step_reads}
use Rattle.dkg_core.proofs.Storing.{looked_up}
use Rattle.dkg_lives.specs.Epochs.{IsAtEvent, IsLifeInForm, any_shares}
use Rattle.dkg_lives.specs.Given.{Lived, at_step, lived, step_of}
use Rattle.dkg_promises.specs.SharesStand.{ComesInto, Enters, HeldShare, WasCutInto}
use Rattle.dkg_lives.specs.Ways.{StaysHeld, by_worlds}
use Rattle.dkg_along.proofs.Alone.{epoch_alike, height_alike, lacks_alike}
use Rattle.dkg_lives.proofs.Awaiting.{HasHeight, IsReached, block_behind, has_height}
use Rattle.dkg_along.proofs.AwaitedRises.{awaited_begun, begun_rises, block_reach, is_current}
use Rattle.dkg_promises.proofs.Committing.{first_above}
use Rattle.dkg_along.proofs.CommitsOver.{IsTakenShare, Tells, block_over}
use Rattle.dkg_lives.proofs.Currently.{begun_behind, begun_more}
use Rattle.dkg_lives.proofs.Former.{BringsBlock, BringsOther, BringsPeer, IsMadeOf, IsMessage, brings_kind, event_in_form, form_at, lacks_nobody, life_in, live_through, message_in, step_taken, through_at}
use Rattle.dkg_along.proofs.KeptSteps.{IsAtStep}
use Rattle.dkg_along.proofs.LifeSteps.{IsGoing, IsLifeOfSetting}
use Rattle.dkg_along.proofs.EntryLives.{come, come_more}
use Rattle.dkg_along.proofs.LivesKept.{IsBetween, taken_before, taken_within}
use Rattle.dkg_promises.proofs.OfferedHalves.{all_of}
use Rattle.dkg_along.proofs.RunKept.{cuts_all}
use Rattle.dkg_lives.proofs.NextLives.{GoesOn, TakesOver, applied_high, has_round, next_so, with_round}
use Rattle.dkg_along.proofs.SaysOver.{said_over}
use Rattle.dkg_promises.proofs.SetUps.{IsQuiet, IsSeatedBy, IsSetUpBy, Telling, block_quiet, last_line, opening_leads, peer_quiet, set_up_last, still_seated, taken_leads}
use Rattle.dkg_promises.proofs.SharesKnown.{IsFitting, IsMineAt, SharesFit, opening_fits, opening_fitting, reads_shares, step_fits, step_fitting}
use Rattle.dkg_along.proofs.SharesFit.{same_shares}
use Rattle.dkg_lives.proofs.Started.{first_block_is, first_epoch_is}
use Rattle.dkg_promises.proofs.StoredTold.{AtCommits, Leaves, Stores, TellsShare, begins_so, quiet_to, run_stores}

abbrev U : Type 0
U = directory.Unit

some_is : {A : Type 0} {x y : A} → ◌≡◌ {A = Option A} (Some x) (Some y) → x ≡ y
some_is e = cc

none_some : {A : Type 0} {x : A} → ◌≡◌ {A = Option A} None (Some x) → ⊥
none_some e = cc

-- WHAT IS HELD of shares, of the epochs that aren't two below one that has begun
pub record HoldsTold (s : Setting) (b : List Entry) (begun : ℕ) (h : Held) : Type 0 where
  pub sound : (epoch : ℕ) → IsSome (get h.secrets.shares epoch) → HeldShare s b epoch ⊎ WasCutInto s (come s b).cuts epoch
  pub kept : (epoch : ℕ) → begun < epoch + 2 → HeldShare s b epoch → IsSome (get h.secrets.shares epoch)

-- WHAT HOLDS BETWEEN LIVES
pub record ExactBetween (s : Setting) (w : World) (b : List Entry) : Type 0 where
  pub shares : SharesFit s w.held
  pub held : HoldsTold s b (begun_before s (come s b).cuts (length (come s b).cuts)) w.held

-- the life plays in rounds that it is a player of
abbrev pub IsPlayer : Setting → Live U → Type 0
IsPlayer s st = (round : Round) → st.participation.round ≡ Some round → st.participation.seat ≡ Plays → has round.players (me s) ≡ true

-- of this epoch a share is there, or none
abbrev pub SomeAt : (epoch : ℕ) → Bool → OfShares
SomeAt epoch held other share = other ≡ epoch → is_some share ≡ held

-- HELD SHARES over more lines

pub held_more : (s : Setting) (b added : List Entry) (epoch : ℕ) → HeldShare s b epoch → HeldShare s (b ++ added) epoch
held_more s b added epoch (inl handed) = inl handed
held_more s b added epoch (inr tells) = inr (tells.0, Contains-append_left b added (entry.Committed epoch (Some tells.0)) tells.1)

held_told : (s : Setting) (b added : List Entry) (epoch : ℕ) → TellsShare added epoch → HeldShare s (b ++ added) epoch
held_told s b added epoch tells = inr (tells.0, Contains-append_right b added (entry.Committed epoch (Some tells.0)) tells.1)

held_parts : (s : Setting) (b added : List Entry) (epoch : ℕ) → HeldShare s (b ++ added) epoch → HeldShare s b epoch ⊎ TellsShare added epoch
held_parts s b added epoch (inl handed) = inl (inl handed)
held_parts s b added epoch (inr tells) = elim (Contains-append_cases b added (entry.Committed epoch (Some tells.0)) tells.1) [
  | inl before ↦ inl (inr (tells.0, before))
  | inr here ↦ inr (tells.0, here)
]

-- a line that commits nothing
abbrev IsUncommitted : Entry → Type 0
IsUncommitted line = (epoch share : ℕ) → line ≡ entry.Committed epoch (Some share) → ⊥

held_behind_line : (s : Setting) (b : List Entry) (line : Entry) → IsUncommitted line → (epoch : ℕ) → HeldShare s (b ++ line ∷ []) epoch → HeldShare s b epoch
held_behind_line s b line none epoch (inl handed) = inl handed
held_behind_line s b line none epoch (inr tells) = elim (Contains-push_cases b line (entry.Committed epoch (Some tells.0)) tells.1) [
  | inl before ↦ inr (tells.0, before)
  | inr here ↦ absurd (none epoch tells.0 here)
]

cut_more : (s : Setting) (cuts more : List (Option CutAt)) (epoch : ℕ) → WasCutInto s cuts epoch → WasCutInto s (cuts ++ more) epoch
cut_more s cuts more epoch its = record {
  l = its.l;
  earlier = longer its.l (length cuts) (length (cuts ++ more)) its.earlier (length_more cuts more);
  life = its.life;
  life_is = its.life_is;
  at = its.at;
  at_is = ap (λ (o : Option (Option CutAt)). option_flatten o) (there cuts its.l its.earlier) ∙ its.at_is;
  within = its.within;
  stores = its.stores;
}
  where
    longer : (x y z : ℕ) → x < y → y ≤ z → x < z
    longer x y z p q = omega (arith, p, q)

    length_more : (xs ys : List (Option CutAt)) → length xs ≤ length (xs ++ ys)
    length_more xs ys = let is = length-append xs ys in omega (arith, is)

    there : (xs : List (Option CutAt)) (k : ℕ) → k < length xs → slice_get (xs ++ more) k ≡ slice_get xs k
    there [] k low = absurd (omega (arith, low))
    there (x ∷ xs) zero low = refl
    there (x ∷ xs) (suc k) low = there xs k (omega (arith, low))

-- a life that was cut within a step that may store a share of the epoch, as the last of these
cut_last : (s : Setting) (cuts : List (Option CutAt)) (l : ℕ) (life : Life) (at : CutAt) (epoch : ℕ) → length cuts ≡ l → life_at s l ≡ Some life → 0 < at.call → ComesInto s l life at.step epoch → WasCutInto s (cuts ++ Some at ∷ []) epoch
cut_last s cuts l life at epoch lives life_is within stores = record {
  l = l;
  earlier = let is = length-append cuts (Some at ∷ []) in omega (arith, is, lives);
  life = life;
  life_is = life_is;
  at = at;
  at_is = ap (λ (k : ℕ). cut_of (cuts ++ Some at ∷ []) k) (sym lives) ∙ ap (λ (o : Option (Option CutAt)). option_flatten o) (item cuts);
  within = within;
  stores = stores;
}
  where
    item : (xs : List (Option CutAt)) → slice_get (xs ++ Some at ∷ []) (length xs) ≡ Some (Some at)
    item [] = refl
    item (x ∷ xs) = item xs

-- LINES that commit nothing

abbrev pub Never : Option (ℕ × Part) → Type 0
Never last = ⊥

abbrev NoCommit : Entry → Type 0
NoCommit (entry.Committed epoch share) = ⊥
NoCommit line = Unit {0}

asked_last : (lines : List Entry) (last : Option (ℕ × Part)) → AllByRecursion IsAskedEntry lines → set_up_last last lines ≡ last
asked_last [] last all = refl
asked_last (entry.Answer request answer ∷ lines) last all = asked_last lines last all.1
asked_last (entry.Log request log ∷ lines) last all = asked_last lines last all.1
asked_last (line ∷ lines) last all = absurd all.0

asked_commits : (lines : List Entry) (last : Option (ℕ × Part)) → AllByRecursion IsAskedEntry lines → AtCommits Never last lines
asked_commits [] last all = tt
asked_commits (entry.Answer request answer ∷ lines) last all = (tt, asked_commits lines last all.1)
asked_commits (entry.Log request log ∷ lines) last all = (tt, asked_commits lines last all.1)
asked_commits (line ∷ lines) last all = absurd all.0

never_commits : (lines : List Entry) (last : Option (ℕ × Part)) → AtCommits Never last lines → AllByRecursion NoCommit lines
never_commits [] last all = tt
never_commits (entry.Committed epoch share ∷ lines) last all = absurd all.0
never_commits (line ∷ lines) last all = (tt, never_commits lines (last_line last line) all.1)

none_told : (lines : List Entry) (last : Option (ℕ × Part)) → AtCommits Never last lines → (epoch : ℕ) → TellsShare lines epoch → ⊥
none_told lines last all epoch tells = all_of NoCommit lines (entry.Committed epoch (Some tells.0)) (never_commits lines last all) tells.1

-- two that are there alike
both_some : {A B : Type 0} (a : Option A) (b : Option B) → (IsSome a → IsSome b) → (IsSome b → IsSome a) → is_some a ≡ is_some b
both_some None None one other = refl
both_some None (Some y) one other = other refl
both_some (Some x) None one other = sym (one refl)
both_some (Some x) (Some y) one other = refl

-- SHARES THAT WERE READ, said otherwise where none is cached, or where they were

live_emptied : (c : Fixed U) (stored more : OfShares) (st : Live U) → IsLiveThrough c stored st → st.inclusion.cached ≡ None → IsLiveThrough c more st
live_emptied c stored more st live none =
    let its = live.asked.has in
    record {
      stands = live.stands;
      informed = live.informed;
      asked = record {
        has = record {
          served = its.served;
          none = its.none;
          early = its.early;
          waits = its.waits;
          runs = its.runs;
          kept = its.kept;
          made = λ d is. absurd (none_some (sym none ∙ is));
        };
        read = live.asked.read;
      };
    }

module _ (s : Setting) (ends : List (Option CutAt)) (form : IsFormOfInclusion s.script) (reshares : is_oneshot s ≡ false) (consistent : IsConsistentScript s ends) (secrets : (seen : Held → Seen) → by_worlds.reads seen → ReadsSecrets seen)
    (l : ℕ) (life : Life) (seen : Held → Seen) (files : Files) (life_is : life_at s l ≡ Some life) (reads : by_worlds.reads seen) (here : IsLifeInForm (lived s.script l life seen files)) (its_meant : IsLifeOfSetting s ends (lived s.script l life seen files))
    (cuts : List (Option CutAt)) (back : awaited_before s cuts l ≤ awaited_epoch s l life 0 + 1) where
  abbrev g : Lived
  g = lived s.script l life seen files

  abbrev n : ℕ
  n = blocks_per_epoch s

  abbrev e : ℕ → ℕ
  e i = awaited_epoch s l life i

  abbrev bg : ℕ → ℕ
  bg i = begun s cuts l i

  abbrev c : ℕ → Fixed U
  c i = at_step g i

  some : 1 ≤ n
  some = one n here.long
    where
      one : (n : ℕ) → 2 ≤ n → 1 ≤ n
      one n long = omega (arith, long)

  its_secrets : ReadsSecrets seen
  its_secrets = secrets seen reads

  blocks_are : (i : ℕ) → (c i).blocks_per_epoch ≡ n
  unfolding at_step
  blocks_are i = refl

  me_is : (i : ℕ) → (c i).me ≡ me s
  unfolding at_step
  me_is i = refl

  -- WHAT HOLDS behind the first i events
  pub record ExactHere (i : ℕ) (st : Live U) (w : World) (b : List Entry) : Type 0 where
    pub shares : SharesFit s w.held
    pub fitting : IsFitting s (c i) st
    pub held : HoldsTold s b (bg i) w.held
    pub seated : IsSeatedBy (set_up_last None b) st
    pub player : IsPlayer s st
    pub live : IsLiveThrough (c i) (SomeAt (e i) (is_some (get w.held.secrets.shares (e i)))) st

  -- a step reads what is held
  reads_at : (i : ℕ) → ReadsSecrets (c (suc i)).seen
  unfolding at_step
  reads_at i = record { shares = λ h. refl; seeds = λ h. refl }

  -- what a read of the awaited epoch's share finds
  some_read : (i : ℕ) (h : Held) (epoch : ℕ) → SomeAt (e i) (is_some (get h.secrets.shares (e i))) epoch (lookup epoch ((c (suc i)).seen h).shares)
  some_read i h epoch same =
      ap is_some (ap (lookup epoch) (reads_shares s ends form consistent l life seen files life_is its_secrets (suc i) h) ∙ looked_up epoch h.secrets.shares) ∙ ap (λ (x : ℕ). is_some (get h.secrets.shares x)) same

  -- LINES behind a step

  -- one more line tells of more cuts, if any
  cuts_behind : (b : List Entry) (line : Entry) → (more : List (Option CutAt)) × ((come s (b ++ line ∷ [])).cuts ≡ (come s b).cuts ++ more)
  cuts_behind b line = let its = cuts_all s (line ∷ []) (come s b) in (its.0, ap (λ (p : Progress). p.cuts) (come_more s b line) ∙ its.1)

  holds_later : (b : List Entry) (old now : ℕ) (h : Held) → old ≤ now → HoldsTold s b old h → HoldsTold s b now h
  holds_later b old now h low its = record { sound = its.sound; kept = λ epoch left told. its.kept epoch (omega (arith, low, left)) told }

  holds_same : (b : List Entry) (old : ℕ) (h k : Held) → k.secrets.shares ≡ h.secrets.shares → HoldsTold s b old h → HoldsTold s b old k
  holds_same b old h k same its = record {
    sound = λ epoch some. its.sound epoch (subst (λ m. IsSome (get m epoch)) same some);
    kept = λ epoch left told. subst (λ m. IsSome (get m epoch)) (sym same) (its.kept epoch left told);
  }

  -- behind a line that commits nothing
  holds_behind : (b : List Entry) (line : Entry) (now : ℕ) (h : Held) → IsUncommitted line → HoldsTold s b now h → HoldsTold s (b ++ line ∷ []) now h
  holds_behind b line now h none its = record {
    sound = λ epoch some. elim (its.sound epoch some) [
      | inl held ↦ inl (held_more s b (line ∷ []) epoch held)
      | inr was ↦ inr (subst (λ (cs : List (Option CutAt)). WasCutInto s cs epoch) (sym (cuts_behind b line).1) (cut_more s (come s b).cuts (cuts_behind b line).0 epoch was))
    ];
    kept = λ epoch left told. its.kept epoch left (held_behind_line s b line none epoch told);
  }

  -- WHAT A COURSE LEAVES, which told what it stored
  module _ (Into : ℕ → Type 0) (At : Option (ℕ × Part) → Type 0) (w new : World) (x0 y : Telling) (b : List Entry) (was now : ℕ) (old : HoldsTold s b was w.held) (rises : was ≤ now) (its : Stores Into (now - 1) At w x0 new y) where
    stored_sound : (epoch : ℕ) → IsSome (get new.held.secrets.shares epoch) → HeldShare s (b ++ its.added) epoch ⊎ (WasCutInto s (come s b).cuts epoch ⊎ (y.untold ≡ Some epoch))
    stored_sound epoch some = elim (its.sound epoch some) [
      | inl before ↦ elim (old.sound epoch before) [
        | inl held ↦ inl (held_more s b its.added epoch held)
        | inr cut ↦ inr (inl cut)
      ]
      | inr (inl tells) ↦ inl (held_told s b its.added epoch tells)
      | inr (inr untold) ↦ inr (inr untold)
    ]

    stored_kept : (epoch : ℕ) → now < epoch + 2 → HeldShare s (b ++ its.added) epoch → IsSome (get new.held.secrets.shares epoch)
    stored_kept epoch left told = elim (held_parts s b its.added epoch told) [
      | inl before ↦ its.kept epoch (omega (arith, left)) (inl (old.kept epoch (omega (arith, rises, left)) before))
      | inr tells ↦ its.kept epoch (omega (arith, left)) (inr tells)
    ]

    -- at its end
    left_holds : y.untold ≡ None → (come s (b ++ its.added)).cuts ≡ (come s b).cuts → HoldsTold s (b ++ its.added) now new.held
    left_holds none same = record {
      sound = λ epoch some. elim (stored_sound epoch some) [
        | inl held ↦ inl held
        | inr (inl cut) ↦ inr (subst (λ (cs : List (Option CutAt)). WasCutInto s cs epoch) (sym same) cut)
        | inr (inr untold) ↦ absurd (none_some (sym none ∙ untold))
      ];
      kept = stored_kept;
    }

    -- .. and where it is cut, behind the line of the cut
    cut_holds : (at : cut.Cut) → (come s (b ++ its.added)).cuts ≡ (come s b).cuts → length (come s b).cuts ≡ l → ((epoch : ℕ) → Into epoch → ComesInto s l life at.step epoch) → 0 < at.call
        → HoldsTold s ((b ++ its.added) ++ entry.Cut at.step at.call ∷ []) now new.held
    cut_holds at same lives into within = record {
      sound = λ epoch some. elim (stored_sound epoch some) [
        | inl held ↦ inl (held_more s (b ++ its.added) (entry.Cut at.step at.call ∷ []) epoch held)
        | inr (inl cut) ↦ inr (subst (λ (cs : List (Option CutAt)). WasCutInto s cs epoch) (sym cuts_are) (cut_more s (come s b).cuts (Some here_cut ∷ []) epoch cut))
        | inr (inr untold) ↦ inr (subst (λ (cs : List (Option CutAt)). WasCutInto s cs epoch) (sym cuts_are) (cut_last s (come s b).cuts l life here_cut epoch lives life_is within (into epoch (its.into epoch untold))))
      ];
      kept = λ epoch left told. stored_kept epoch left (held_behind_line s (b ++ its.added) (entry.Cut at.step at.call) (λ k share e. (let wrong : ◌≡◌ {A = Entry} (entry.Cut at.step at.call) (entry.Committed k (Some share)) = e in cc)) epoch told);
    }
      where
        here_cut : CutAt
        here_cut = record { step = at.step; call = at.call }

        cuts_are : (come s ((b ++ its.added) ++ entry.Cut at.step at.call ∷ [])).cuts ≡ (come s b).cuts ++ Some here_cut ∷ []
        cuts_are = ap (λ (p : Progress). p.cuts) (come_more s (b ++ its.added) (entry.Cut at.step at.call)) ∙ ap (λ (cs : List (Option CutAt)). cs ++ Some here_cut ∷ []) same

  -- what has begun, behind a cut
  begun_cut : (b : List Entry) (at : cut.Cut) (j : ℕ) → length (come s b).cuts ≡ l → (come s b).cuts ≡ cuts → events_taken life (Some (record { step = at.step; call = at.call })) ≡ j
      → begun_before s (come s (b ++ entry.Cut at.step at.call ∷ [])).cuts (length (come s (b ++ entry.Cut at.step at.call ∷ [])).cuts) ≡ bg j
  begun_cut b at j lives are taken =
      ap (λ (p : Progress). begun_before s p.cuts (length p.cuts)) (come_more s b (entry.Cut at.step at.call))
      ∙ ap (begun_before s ((come s b).cuts ++ Some (record { step = at.step; call = at.call }) ∷ [])) (longer (come s b).cuts (Some (record { step = at.step; call = at.call })) ∙ ap suc lives)
      ∙ begun_behind s reshares (come s b).cuts l life (Some (record { step = at.step; call = at.call })) lives life_is
      ∙ ap (λ (cs : List (Option CutAt)). begun s cs l (events_taken life (Some (record { step = at.step; call = at.call })))) are ∙ ap bg taken
    where
      longer : (xs : List (Option CutAt)) (x : Option CutAt) → length (xs ++ x ∷ []) ≡ suc (length xs)
      longer [] x = refl
      longer (y ∷ xs) x = ap suc (longer xs x)

  -- the same of lines that are as they were
  seated_told : (b added : List Entry) (y : Telling) (end : Live U) → y.last ≡ set_up_last (set_up_last None b) added → IsSeatedBy y.last end → (i : ℕ) → IsSeatedBy (set_up_last None ((b ++ added) ++ entry.Step i ∷ [])) end
  seated_told b added y end same seated i =
      subst (λ (o : Option (ℕ × Part)). IsSeatedBy o end) (same ∙ sym (fold-append last_line None b added) ∙ sym (fold-append last_line None (b ++ added) (entry.Step i ∷ []))) seated

  highest : (a b d : ℕ) → b ≡ d → a ≤ d → max a (b + 1) ≡ d + 1
  highest a b d same low = omega (arith, same, low)

  uncommitted_step : (i : ℕ) → IsUncommitted (entry.Step i)
  uncommitted_step i k share e = let wrong : ◌≡◌ {A = Entry} (entry.Step i) (entry.Committed k (Some share)) = e in cc

  -- A STEP
  module _ (marks : Type 0) (i : ℕ) (its : script.Event) (is : slice_get life.events i ≡ Some its) (reached : IsReached life.cut (suc i)) (st : Live U) (w : World) (before : List Entry) (at : IsAtStep l life (suc i) s (come s before))
      (are : (come s before).cuts ≡ cuts) (going : IsGoing s ends l life seen files here its_meant cuts back marks i st w.held (come s before)) (also : ExactHere i st w before) (f : Burn) (ended : Ended NodeStop (Live U)) (new : World)
      (run : EndsSo (step_of g (suc i) its st) ended (record w { fuse = f }) new) where
    abbrev C : Fixed U
    C = c (suc i)

    abbrev begun_w : World
    begun_w = record w { fuse = f }

    abbrev m : IsMessage g its
    m = message_in g its (event_in_form g here i its is)

    abbrev x0 : Telling
    x0 = record { last = set_up_last None before; untold = None }

    abbrev Into : ℕ → Type 0
    Into epoch = Enters s l life i epoch

    abbrev At : Option (ℕ × Part) → Type 0
    At last = last ≡ set_up_last None before

    abbrev most : ℕ
    most = bg (suc i) - 1

    rises : bg i ≤ bg (suc i)
    rises = begun_rises s reshares l life life_is cuts some back i

    active : IsActiveThrough st
    active = going.at.active

    its_live : IsLiveThrough C any_shares st
    its_live = live_through g any_shares i (suc i) st going.at.live

    run_of : (message : Message U) → m.message ≡ message → EndsSo (node_step C (event_of message) st) ended begun_w new
    run_of message same = subst (λ (x : Message U). EndsSo (node_step C (event_of x) st) ended begun_w new) same (subst (λ (course : Course U NodeStop (Live U)). EndsSo course ended begun_w new) (m.course (suc i) st) run)

    -- an epoch's last block is taken over, or nothing is set up
    abbrev Takes : Type 0
    Takes = (block : made.Block U) × (m.message ≡ Finalized block) × (judged_block C block st ≡ Applied) × (is_last_height C block.height ≡ true)

    abbrev TakesNone : Type 0
    TakesNone = (block : made.Block U) → m.message ≡ Finalized block → judged_block C block st ≡ Applied → is_last_height C block.height ≡ true → (st.participation.stage ≡ Follows) ⊎ (st.participation.stage ≡ Includes) → ⊥

    abbrev Stored : Ended NodeStop (Live U) → Type 0
    Stored x = (Takes × Leaves Into most At begun_w x0 IsSetUpBy x new) ⊎ (TakesNone × Leaves Into most Never begun_w x0 (λ y end. y ≡ x0) x new)

    start : (Where : Option (ℕ × Part) → Type 0) → Stores Into most Where begun_w x0 begun_w x0
    start Where = begins_so Into most Where begun_w x0 refl

    quiet : (message : Message U) → m.message ≡ message → TakesNone → IsQuiet (node_step C (event_of message) st) → Stored ended
    quiet message same none so =
        inr (none, run_stores Into most Never begun_w x0 (λ y end. y ≡ x0) (node_step C (event_of message) st) ended begun_w new x0 (quiet_to Into most Never x0 (node_step C (event_of message) st) so) (start Never) (run_of message same))

    no_block : (mail : Mail U) → m.message ≡ Mailed mail → TakesNone
    no_block mail same block is_block applied last stage = let wrong : ◌≡◌ {A = Message U} (Mailed mail) (Finalized block) = sym same ∙ is_block in cc

    stored : Stored ended
    stored = by_kind (brings_kind g its m.message m.brings)
      where
        -- A BLOCK
        by_block : (number : ℕ) (made_it : IsMadeOf g.script number) → its ≡ event.Final number → m.message ≡ Finalized made_it.block → Stored ended
        by_block number made_it of message_is = by_tests (judged_block C block st) refl (is_last_height C block.height) refl
          where
            block : made.Block U
            block = made_it.block

            event_is : slice_get life.events i ≡ Some (event.Final number)
            event_is = is ∙ ap (λ (x : script.Event). Some x) of

            its_height : HasHeight s number block
            its_height = has_height s number block made_it.line made_it.line_is made_it.is

            the_block : {x y : made.Block U} → ◌≡◌ {A = Message U} (Finalized x) (Finalized y) → x ≡ y
            the_block e = cc

            other : (judged_block C block st ≡ Applied → is_last_height C block.height ≡ true → (st.participation.stage ≡ Deals) ⊎ (st.participation.stage ≡ Ends)) → Stored ended
            other so = quiet (Finalized block) message_is none (block_quiet C block st so)
              where
                apart : (stage : Stage) → (stage ≡ Deals) ⊎ (stage ≡ Ends) → (stage ≡ Follows) ⊎ (stage ≡ Includes) → ⊥
                apart stage (inl deals) (inl follows) = let wrong : ◌≡◌ {A = Stage} Deals Follows = sym deals ∙ follows in cc
                apart stage (inl deals) (inr includes) = let wrong : ◌≡◌ {A = Stage} Deals Includes = sym deals ∙ includes in cc
                apart stage (inr ends_it) (inl follows) = let wrong : ◌≡◌ {A = Stage} Ends Follows = sym ends_it ∙ follows in cc
                apart stage (inr ends_it) (inr includes) = let wrong : ◌≡◌ {A = Stage} Ends Includes = sym ends_it ∙ includes in cc

                none : TakesNone
                none x is_x applied last stage =
                    let same : x ≡ block = the_block (sym is_x ∙ message_is) in
                    apart st.participation.stage (so (subst (λ (b : made.Block U). judged_block C b st ≡ Applied) same applied) (subst (λ (b : made.Block U). is_last_height C b.height ≡ true) same last)) stage

            not_passed : judged_block C block st ≡ Applied → awaited_height_after s l life i ≤ block.height
            not_passed applied = subst (λ (h : ℕ). h ≤ block.height) (going.at.stands.awaits ∙ sym (height_alike s l life (life_in g here).no_sync its_meant.none_found i)) (applied_high C block st applied)

            -- the epoch that is awaited behind it
            height_is : judged_block C block st ≡ Applied → awaited_height_after s l life (suc i) ≡ block.height + 1
            height_is applied =
                block_behind s l life i number its_height.b event_is reached its_height.there
                ∙ highest (awaited_height_after s l life i) (its_height.b.height) block.height (sym its_height.same) (not_passed applied)

            epoch_is : judged_block C block st ≡ Applied → awaited_epoch s l life (suc i) ≡ epoch_of C.blocks_per_epoch (block.height + 1)
            epoch_is applied = ap (epoch_of n) (height_is applied) ∙ ap (λ (k : ℕ). epoch_of k (block.height + 1)) (sym (blocks_are (suc i)))

            expected_is : judged_block C block st ≡ Applied → is_last_height C block.height ≡ true → awaited_epoch s l life (suc i) ≡ b.expected_epoch C block.height
            expected_is applied last_one =
                epoch_is applied ∙ next_last C.blocks_per_epoch block.height (form_at g here (suc i)).counted last_one
                ∙ sym (ap (λ (o : Option (OneShot U)). if is_some o then 0 else epoch_of C.blocks_per_epoch block.height + 1) (form_at g here (suc i)).reshare)

            enters : judged_block C block st ≡ Applied → is_last_height C block.height ≡ true → Enters s l life i (e (suc i))
            enters applied last_one = record {
              number = number;
              event = event_is;
              block = its_height.b;
              block_is = its_height.there;
              ends_below = ap (λ (h : ℕ). h + 1) (sym its_height.same) ∙ first_above C.blocks_per_epoch block.height (form_at g here (suc i)).counted last_one
                  ∙ ap (first C.blocks_per_epoch) (sym (epoch_is applied ∙ next_last C.blocks_per_epoch block.height (form_at g here (suc i)).counted last_one)) ∙ ap (λ (k : ℕ). first k (e (suc i))) (blocks_are (suc i));
              awaited = subst (λ (h : ℕ). awaited_height_after s l life i ≤ h) its_height.same (not_passed applied);
            }

            low : epoch_of C.blocks_per_epoch (block.height + 1) - 1 ≤ most
            low = subst (λ (k : ℕ). epoch_of k (block.height + 1) - 1 ≤ most) (sym (blocks_are (suc i))) (block_reach s reshares l life life_is cuts some back i number block its_height event_is reached)

            takes : judged_block C block st ≡ Applied → is_last_height C block.height ≡ true → (st.participation.stage ≡ Follows) ⊎ ((st.participation.stage ≡ Includes) × ((round : Round) × (st.participation.round ≡ Some round))) → Stored ended
            takes applied last_one stage = inl (
              (block, message_is, applied, last_one),
              run_stores Into most At begun_w x0 IsSetUpBy (node_step C (event_of (Finalized block)) st) ended begun_w new x0
                  (taken_leads C Into most At (form_at g here (suc i)) block low (subst Into (epoch_is applied) (enters applied last_one)) (subst Into (expected_is applied last_one) (enters applied last_one)) st x0 refl refl applied last_one stage) (start At) (run_of (Finalized block) message_is),
            )

            by_stage : judged_block C block st ≡ Applied → is_last_height C block.height ≡ true → (stage : Stage) → st.participation.stage ≡ stage → Stored ended
            by_stage applied last_one Deals at_stage = other (λ a l. inl at_stage)
            by_stage applied last_one Ends at_stage = other (λ a l. inr at_stage)
            by_stage applied last_one Follows at_stage = takes applied last_one (inl at_stage)
            by_stage applied last_one Includes at_stage =
                takes applied last_one (inr (at_stage, has_round C (unasked st) its_live.stands (λ follows. (let wrong : ◌≡◌ {A = Stage} Includes Follows = sym at_stage ∙ follows in cc))))

            by_tests : (j : Judged) → judged_block C block st ≡ j → (t : Bool) → is_last_height C block.height ≡ t → Stored ended
            by_tests (Refusal fault) judged t last = other (λ applied l. absurd (let wrong : ◌≡◌ {A = Judged} (Refusal fault) Applied = sym judged ∙ applied in cc))
            by_tests Passed judged t last = other (λ applied l. absurd (let wrong : ◌≡◌ {A = Judged} Passed Applied = sym judged ∙ applied in cc))
            by_tests Applied judged false below = other (λ applied l. absurd (let wrong : false ≡ true = sym below ∙ l in cc))
            by_tests Applied judged true last_one = by_stage judged last_one st.participation.stage refl

        by_kind : BringsBlock g its m.message ⊎ (BringsPeer its m.message ⊎ BringsOther its m.message) → Stored ended
        by_kind (inl x) = by_block x.0 x.1 x.2 x.3
        by_kind (inr (inl p)) = quiet (Mailed (Peer p.0 p.1)) p.3 (no_block (Peer p.0 p.1) p.3) (peer_quiet C p.0 p.1 st)
        by_kind (inr (inr o)) = inr (no_block o.0 o.1, idle_stores)
          where
            left : LeavesIdle st ended begun_w new
            left = mails_are_idle C o.0 st ended begun_w new o.2 active.active.unawaited (run_of (Mailed o.0) o.1)

            told : Stores Into most Never begun_w x0 new x0
            told = record {
              added = left.lines;
              out = left.out;
              last = sym (asked_last left.lines x0.last left.says);
              commits = asked_commits left.lines x0.last left.says;
              sound = λ epoch held. inl (subst (λ (h : Held). IsSome (get h.secrets.shares epoch)) left.held held);
              kept = λ epoch high from. elim from [
                | inl was ↦ subst (λ (h : Held). IsSome (get h.secrets.shares epoch)) (sym left.held) was
                | inr tells ↦ absurd (none_told left.lines x0.last (asked_commits left.lines x0.last left.says) epoch tells)
              ];
              put = λ epoch untold. absurd (none_some untold);
              into = λ epoch untold. absurd (none_some untold);
            }

            idle_stores : Leaves Into most Never begun_w x0 (λ y end. y ≡ x0) ended new
            idle_stores = by_end ended
              where
                by_end : (x : Ended NodeStop (Live U)) → Leaves Into most Never begun_w x0 (λ y end. y ≡ x0) x new
                by_end (went end) = (x0, told, refl)
                by_end (stopped stop) = (x0, told)
                by_end (broken cause) = (x0, told)

    -- WHAT IT LEAVES, where these lines were added
    module _ (added : List Entry) (out : new.out ≡ w.out ++ added) (same_cuts : (come s (before ++ added)).cuts ≡ (come s before).cuts) where
      abbrev after_it : List Entry
      after_it = before ++ added

      shares_new : SharesFit s new.held
      shares_new = step_fits s ends form consistent l life seen files life_is its_secrets here i its is reached st active also.fitting begun_w also.shares ended new run

      -- they are those
      lines_are : (Where : Option (ℕ × Part) → Type 0) (y : Telling) (its : Stores Into most Where begun_w x0 new y) → its.added ≡ added
      lines_are Where y its = append_cancel_left w.out its.added added (sym its.out ∙ out)

      -- what is held
      held_new : (Where : Option (ℕ × Part) → Type 0) (y : Telling) (its : Stores Into most Where begun_w x0 new y) → y.untold ≡ None → HoldsTold s after_it (bg (suc i)) new.held
      held_new Where y its none =
          subst (λ (ls : List Entry). HoldsTold s (before ++ ls) (bg (suc i)) new.held) (lines_are Where y its)
          (left_holds Into Where begun_w new x0 y before (bg i) (bg (suc i)) also.held rises its none (subst (λ (ls : List Entry). (come s (before ++ ls)).cuts ≡ (come s before).cuts) (sym (lines_are Where y its)) same_cuts))

      seated_new : (Where : Option (ℕ × Part) → Type 0) (y : Telling) (its : Stores Into most Where begun_w x0 new y) (end : Live U) → IsSeatedBy y.last end → IsSeatedBy (set_up_last None (after_it ++ entry.Step (suc i) ∷ [])) end
      seated_new Where y its end seated = seated_told before added y end (its.last ∙ ap (set_up_last (set_up_last None before)) (lines_are Where y its)) seated (suc i)

      -- AT ITS END
      module _ (end : Live U) (is_end : ended ≡ went end) (behind : IsAtEvent g (suc i) end) where
        run_end : EndsSo (node_step C (event_of m.message) st) (went end) begun_w new
        run_end = subst (λ (x : Ended NodeStop (Live U)). EndsSo (node_step C (event_of m.message) st) x begun_w new) is_end (run_of m.message refl)

        node : IsNodeThrough C any_shares st m.message (Some w.held) end (Some new.held)
        node = node_steps_lead_through_over C any_shares st m.message (went end) begun_w new (through_at g here (suc i)) (lacks_nobody g (suc i)) (λ h epoch found. tt) (step_taken g its m.message m.brings C st) its_live active run_end

        abbrev Goes : Type 0
        Goes = GoesOn C st m.message node.mid

        abbrev Over : Type 0
        Over = TakesOver C any_shares st m.message (Some w.held) node.mid (Some new.held)

        either : Goes ⊎ Over
        either = next_so C any_shares st m.message (Some w.held) node.mid (Some new.held) (form_at g here (suc i)) its_live node.next

        part : end.participation ≡ node.mid.participation
        part = ap (λ (x : Live U). x.participation) node.same

        stored_end : Stored (went end)
        stored_end = subst Stored is_end stored

        -- it plays where it is a player
        player_new : IsPlayer s end
        player_new = by_case either
          where
            of_seat : (key lost : Bool) → ◌≡◌ {A = Seat} (if not key || lost then Watches else Plays) Plays → key ≡ true
            of_seat true lost e = refl
            of_seat false lost e = absurd (let wrong : ◌≡◌ {A = Seat} Watches Plays = e in cc)

            by_case : Goes ⊎ Over → IsPlayer s end
            by_case (inl goes) = λ round there plays.
                also.player round (sym goes.same.round ∙ sym (ap (λ (p : core.Participation U). p.round) part) ∙ there) (sym goes.same.seat ∙ sym (ap (λ (p : core.Participation U). p.seat) part) ∙ plays)
            by_case (inr over) = λ round there plays.
                let seated = over.taken.seated in
                let same : seated.round ≡ round = some_is (sym seated.in_round ∙ sym (ap (λ (p : core.Participation U). p.round) part) ∙ there) in
                subst (λ (r : Round). has r.players (me s) ≡ true) same
                (subst (λ (k : ℕ). has (seated.round).players k ≡ true) (me_is (suc i))
                (of_seat (has (seated.round).players C.me) (is_lost C seated.round (records_of_epoch (seated.round).number node.mid.records.dealings) (logs_of node.mid (seated.round).number))
                (sym seated.seat ∙ sym (ap (λ (p : core.Participation U). p.seat) part) ∙ plays)))

        -- what it has read of its epoch's share is so still
        live_new : IsLiveThrough C (SomeAt (e (suc i)) (is_some (get new.held.secrets.shares (e (suc i))))) end
        live_new = by_case either stored_end
          where
            more : OfShares
            more = SomeAt (e (suc i)) (is_some (get new.held.secrets.shares (e (suc i))))

            before_it : OfShares
            before_it = SomeAt (e i) (is_some (get w.held.secrets.shares (e i)))

            live_then : IsLiveThrough C before_it end
            live_then = (node_steps_lead_through_over C before_it st m.message (went end) begun_w new (through_at g here (suc i)) (lacks_nobody g (suc i)) (step_reads C before_it w.held (reads_at i) (λ epoch. some_read i w.held epoch))
                (step_taken g its m.message m.brings C st) (live_through g before_it i (suc i) st also.live) active run_end).live

            over_emptied : Over → IsLiveThrough C more end
            over_emptied over = live_emptied C any_shares more end node.live (ap (λ (x : Live U). x.inclusion.cached) node.same ∙ over.taken.emptied.cached)

            goes_on : Goes → (y : Telling) → Stores Into most Never begun_w x0 new y → y ≡ x0 → IsLiveThrough C more end
            goes_on goes y its none = by_round end.participation.round refl
              where
                by_round : (o : Option Round) → end.participation.round ≡ o → IsLiveThrough C more end
                by_round None out_of =
                    live_emptied C before_it more end live_then
                    ((live_then.asked.has.early (λ includes. (let wrong : ◌≡◌ {A = Stage} Follows Includes = sym (live_then.stands.without out_of).0 ∙ includes in cc))).2)
                by_round (Some round) there = live_as C before_it more (λ epoch share so same. so (same ∙ epoch_same) ∙ held_same) end live_then
                  where
                    follows_not : end.participation.stage ≡ Follows → ⊥
                    follows_not = with_round C (unasked end) round live_then.stands there

                    st_not : st.participation.stage ≡ Follows → ⊥
                    st_not = with_round C (unasked st) round its_live.stands (sym goes.same.round ∙ sym (ap (λ (p : core.Participation U). p.round) part) ∙ there)

                    epoch_same : e (suc i) ≡ e i
                    epoch_same =
                        epoch_alike s l life (life_in g here).no_sync its_meant.none_found (suc i) ∙ sym (behind.stands.epoch follows_not) ∙ ap (λ (p : core.Participation U). p.epoch) part ∙ goes.same.epoch
                        ∙ going.at.stands.epoch st_not ∙ sym (epoch_alike s l life (life_in g here).no_sync its_meant.none_found i)

                    high : most ≤ e i
                    high = least (bg (suc i)) (e (suc i)) (e i) (is_current s reshares l life life_is cuts some back (suc i)) epoch_same
                      where
                        least : (b x y : ℕ) → b < x + 2 → x ≡ y → b - 1 ≤ y
                        least b x y low same = omega (arith, low, same)

                    was_there : IsSome (get new.held.secrets.shares (e i)) → IsSome (get w.held.secrets.shares (e i))
                    was_there now = elim (its.sound (e i) now) [
                      | inl was ↦ was
                      | inr (inl tells) ↦ absurd (none_told its.added x0.last its.commits (e i) tells)
                      | inr (inr untold) ↦ absurd (none_some (sym (ap (λ (x : Telling). x.untold) none) ∙ untold))
                    ]

                    held_same : is_some (get w.held.secrets.shares (e i)) ≡ is_some (get new.held.secrets.shares (e (suc i)))
                    held_same =
                        both_some (get w.held.secrets.shares (e i)) (get new.held.secrets.shares (e i)) (λ was. its.kept (e i) high (inl was)) was_there
                        ∙ ap (λ (x : ℕ). is_some (get new.held.secrets.shares x)) (sym epoch_same)

            by_case : Goes ⊎ Over → Stored (went end) → IsLiveThrough C more end
            by_case (inr over) its = over_emptied over
            by_case (inl goes) (inr quietly) = goes_on goes quietly.1.0 quietly.1.1 quietly.1.2
            by_case (inl goes) (inl takes) = absurd (never takes.0)
              where
                never : Takes → ⊥
                never (block, is_block, applied, last_one) = subst (λ (x : Message U). PassesNothingOn C st x) is_block goes.nothing applied last_one

        here_new : ExactHere (suc i) end (says new (entry.Step (suc i))) (after_it ++ entry.Step (suc i) ∷ [])
        here_new = by_stored stored_end
          where
            fits : IsFitting s C end
            fits = subst (λ (x : Ended NodeStop (Live U)). CameTo (λ stop. Unit {0}) (IsFitting s C) x) is_end (step_fitting s ends form consistent l life seen files life_is its_secrets here i its is reached st active also.fitting begun_w also.shares ended new run)

            made_of : (Where : Option (ℕ × Part) → Type 0) (y : Telling) → Stores Into most Where begun_w x0 new y → y.untold ≡ None → IsSeatedBy y.last end → ExactHere (suc i) end (says new (entry.Step (suc i))) (after_it ++ entry.Step (suc i) ∷ [])
            made_of Where y its none seated = record {
              shares = shares_new;
              fitting = fits;
              held = holds_behind after_it (entry.Step (suc i)) (bg (suc i)) new.held (uncommitted_step (suc i)) (held_new Where y its none);
              seated = seated_new Where y its end seated;
              player = player_new;
              live = live_new;
            }

            still : Goes ⊎ Over → TakesNone → IsSeatedBy x0.last end
            still (inl goes) none =
                still_seated x0.last st end (ap (λ (p : core.Participation U). p.round) part ∙ goes.same.round) (ap (λ (p : core.Participation U). p.epoch) part ∙ goes.same.epoch) (ap (λ (p : core.Participation U). p.seat) part ∙ goes.same.seat) also.seated
            still (inr over) none = absurd (none over.block over.is over.applied over.last over.stage)

            by_stored : Stored (went end) → ExactHere (suc i) end (says new (entry.Step (suc i))) (after_it ++ entry.Step (suc i) ∷ [])
            by_stored (inl takes) = made_of At takes.1.0 takes.1.1 takes.1.2.1 takes.1.2.0
            by_stored (inr quietly) =
                made_of Never quietly.1.0 quietly.1.1 (ap (λ (x : Telling). x.untold) quietly.1.2) (subst (λ (o : Option (ℕ × Part)). IsSeatedBy o end) (sym (ap (λ (x : Telling). x.last) quietly.1.2)) (still either quietly.0))

      -- THE LINES THAT COMMIT: the last setup before each is the one before the step, where there is any
      pub commits_told : (Takes × AtCommits At (set_up_last None before) added) ⊎ AtCommits Never (set_up_last None before) added
      commits_told = by_end ended stored
        where
          told_so : (Where : Option (ℕ × Part) → Type 0) (y : Telling) → Stores Into most Where begun_w x0 new y → AtCommits Where (set_up_last None before) added
          told_so Where y its = subst (AtCommits Where (set_up_last None before)) (lines_are Where y its) its.commits

          by_end : (x : Ended NodeStop (Live U)) → Stored x → (Takes × AtCommits At (set_up_last None before) added) ⊎ AtCommits Never (set_up_last None before) added
          by_end (went end) (inl takes) = inl (takes.0, told_so At takes.1.0 takes.1.1)
          by_end (went end) (inr quietly) = inr (told_so Never quietly.1.0 quietly.1.1)
          by_end (stopped stop) (inl takes) = inl (takes.0, told_so At takes.1.0 takes.1.1)
          by_end (stopped stop) (inr quietly) = inr (told_so Never quietly.1.0 quietly.1.1)
          by_end (broken cause) (inl takes) = inl (takes.0, told_so At takes.1.0 takes.1.1)
          by_end (broken cause) (inr quietly) = inr (told_so Never quietly.1.0 quietly.1.1)

      -- .. and each share is the one that is taken
      found : ReadsShare C (SomeAt (e i) (is_some (get w.held.secrets.shares (e i)))) (Some w.held)
      found h epoch same = subst (λ (x : Held). SomeAt (e i) (is_some (get w.held.secrets.shares (e i))) epoch (lookup epoch (C.seen x).shares)) (sym same) (some_read i w.held epoch)

      pub shares_told : (block : made.Block U) → m.message ≡ Finalized block → AllByRecursion (Tells (IsTakenShare C (SomeAt (e i) (is_some (get w.held.secrets.shares (e i)))) block st w.held)) added
      shares_told block is_block =
          let said = said_over (Tells (IsTakenShare C (SomeAt (e i) (is_some (get w.held.secrets.shares (e i)))) block st w.held)) (node_step C (event_of (Finalized block)) st) ended begun_w new
          (block_over C (through_at g here (suc i)) (SomeAt (e i) (is_some (get w.held.secrets.shares (e i)))) block st (live_through g (SomeAt (e i) (is_some (get w.held.secrets.shares (e i)))) i (suc i) st also.live) w.held found)
          (run_of (Finalized block) is_block) in
          subst (AllByRecursion (Tells (IsTakenShare C (SomeAt (e i) (is_some (get w.held.secrets.shares (e i)))) block st w.held))) (append_cancel_left w.out said.0 added (sym said.1 ∙ out)) said.2

      -- WHERE IT IS CUT
      cut_new : (at_cut : cut.Cut) → at_cut.step ≡ suc i → 0 < at_cut.call → (Where : Option (ℕ × Part) → Type 0) (y : Telling) → Stores Into most Where begun_w x0 new y
          → ExactBetween s (says new (entry.Cut at_cut.step at_cut.call)) (after_it ++ entry.Cut at_cut.step at_cut.call ∷ [])
      cut_new at_cut there within Where y its = record {
        shares = shares_new;
        held = subst (λ (k : ℕ). HoldsTold s (after_it ++ entry.Cut at_cut.step at_cut.call ∷ []) k new.held)
            (sym (begun_cut after_it at_cut (suc i) (ap length same_cuts ∙ at.lives) (same_cuts ∙ are) (taken_within life at_cut (suc i) there within)))
            (subst (λ (ls : List Entry). HoldsTold s ((before ++ ls) ++ entry.Cut at_cut.step at_cut.call ∷ []) (bg (suc i)) new.held) (lines_are Where y its)
            (cut_holds Into Where begun_w new x0 y before (bg i) (bg (suc i)) also.held rises its at_cut (subst (λ (ls : List Entry). (come s (before ++ ls)).cuts ≡ (come s before).cuts) (sym (lines_are Where y its)) same_cuts) at.lives
            (λ epoch into. subst (λ (k : ℕ). ComesInto s l life k epoch) (sym there) into) within));
      }

      pub cut_left : (cause : Cause) → ended ≡ broken cause → (at_cut : cut.Cut) → at_cut.step ≡ suc i → 0 < at_cut.call → ExactBetween s (says new (entry.Cut at_cut.step at_cut.call)) (after_it ++ entry.Cut at_cut.step at_cut.call ∷ [])
      cut_left cause is_broken at_cut there within = by_stored (subst Stored is_broken stored)
        where
          by_stored : Stored (broken cause) → ExactBetween s (says new (entry.Cut at_cut.step at_cut.call)) (after_it ++ entry.Cut at_cut.step at_cut.call ∷ [])
          by_stored (inl takes) = cut_new at_cut there within At takes.1.0 takes.1.1
          by_stored (inr quietly) = cut_new at_cut there within Never quietly.1.0 quietly.1.1

      pub went_left : (end : Live U) → ended ≡ went end → IsAtEvent g (suc i) end → ExactHere (suc i) end (says new (entry.Step (suc i))) (after_it ++ entry.Step (suc i) ∷ [])
      went_left end is_end behind = here_new end is_end behind

  -- AN OPENING
  module _ (w : World) (before : List Entry) (at : IsAtStep l life 0 s (come s before)) (are : (come s before).cuts ≡ cuts) (between : ExactBetween s w before) (f : Burn) (ended : Ended NodeStop (Live U)) (new : World)
      (run : EndsSo (node_opening (c 0)) ended (record w { fuse = f }) new) where
    abbrev opens_w : World
    opens_w = record w { fuse = f }

    abbrev y0 : Telling
    y0 = record { last = set_up_last None before; untold = None }

    abbrev IntoFirst : ℕ → Type 0
    IntoFirst epoch = (awaited_epoch s l life 0 ≡ epoch) × (lacks_boundary s l life ≡ false)

    abbrev Anywhere : Option (ℕ × Part) → Type 0
    Anywhere last = Unit {0}

    first_is : first_epoch (c 0) ≡ e 0
    first_is = first_epoch_is g here 0 ∙ sym (epoch_alike s l life (life_in g here).no_sync its_meant.none_found 0)

    later : begun_before s (come s before).cuts (length (come s before).cuts) ≤ bg 0
    later = subst (λ (x : List (Option CutAt)). begun_before s x (length (come s before).cuts) ≤ bg 0) (sym are) (subst (λ (x : ℕ). begun_before s cuts x ≤ bg 0) (sym at.lives) (begun_more s reshares cuts l life 0 life_is))

    opened : Leaves IntoFirst (bg 0 - 1) Anywhere opens_w y0 IsSetUpBy ended new
    opened = run_stores IntoFirst (bg 0 - 1) Anywhere opens_w y0 IsSetUpBy (node_opening (c 0)) ended opens_w new y0 (opening_leads (c 0) IntoFirst (bg 0 - 1) Anywhere (form_at g here 0) tt low (λ block found. (sym first_is, lacks_none block found)) y0 refl)
        (begins_so IntoFirst (bg 0 - 1) Anywhere opens_w y0 refl) run
      where
        -- it has the block that begins its epoch
        lacks_none : (block : made.Block U) → first_block (c 0) ≡ Some block → lacks_boundary s l life ≡ false
        lacks_none block found = lacks_alike s l life (life_in g here).no_sync its_meant.none_found ∙ none_of (lacks_boundary (alone s.script) l life) (sym (first_block_is g here) ∙ ap is_some found)
          where
            none_of : (t : Bool) → not t ≡ true → t ≡ false
            none_of true wrong = absurd (let its : false ≡ true = wrong in cc)
            none_of false its = refl

        least : (x y z : ℕ) → x ≡ y → y ≤ z → x - 1 ≤ z - 1
        least x y z p q = omega (arith, p, q)

        low : first_epoch (c 0) - 1 ≤ bg 0 - 1
        low = least (first_epoch (c 0)) (e 0) (bg 0) first_is (awaited_begun s reshares l life life_is cuts some back 0)

    -- where these lines were added
    module _ (added : List Entry) (out : new.out ≡ w.out ++ added) (same_cuts : (come s (before ++ added)).cuts ≡ (come s before).cuts) where
      shares_opened : SharesFit s new.held
      shares_opened = opening_fits s ends form consistent l life seen files life_is its_secrets here ended opens_w new between.shares run

      first_lines : (y : Telling) (its : Stores IntoFirst (bg 0 - 1) Anywhere opens_w y0 new y) → its.added ≡ added
      first_lines y its = append_cancel_left w.out its.added added (sym its.out ∙ out)

      same_of : (y : Telling) (its : Stores IntoFirst (bg 0 - 1) Anywhere opens_w y0 new y) → (come s (before ++ its.added)).cuts ≡ (come s before).cuts
      same_of y its = subst (λ (ls : List Entry). (come s (before ++ ls)).cuts ≡ (come s before).cuts) (sym (first_lines y its)) same_cuts

      pub begun_left : (end : Live U) → ended ≡ went end → ExactHere 0 end (says new (entry.Step 0)) ((before ++ added) ++ entry.Step 0 ∷ [])
      begun_left end is_end = made_of (subst (λ (x : Ended NodeStop (Live U)). Leaves IntoFirst (bg 0 - 1) Anywhere opens_w y0 IsSetUpBy x new) is_end opened)
        where
          begun_so : IsNodeBegun (c 0) ((c 0).seen (held_behind (c 0) w.held)) (held_behind (c 0) w.held) end
          begun_so = (subst (λ (x : Ended NodeStop (Live U)). CameTo (IsFaultBy (IsOpeningStop (c 0) ((c 0).seen (held_behind (c 0) w.held)) (held_behind (c 0) w.held)))
              (λ st. IsNodeBegun (c 0) ((c 0).seen (held_behind (c 0) w.held)) (held_behind (c 0) w.held) st × LeavesHeld (c 0) (held_behind (c 0) w.held) new.held (first_block (c 0))) x) is_end
              (node_openings_lead_over (c 0) ended opens_w new (form_at g here 0) (lacks_nobody g 0) run)).0

          fits : IsFitting s (c 0) end
          fits = subst (λ (x : Ended NodeStop (Live U)). CameTo (λ stop. Unit {0}) (IsFitting s (c 0)) x) is_end (opening_fitting s ends form consistent l life seen files life_is its_secrets here ended opens_w new run)

          same : end.participation ≡ (begun_so.before).participation
          same = ap (λ (x : Live U). x.participation) (begun_so.entered).same

          of_seat : (key lost : Bool) → ◌≡◌ {A = Seat} (if not key || lost then Watches else Plays) Plays → key ≡ true
          of_seat true lost its = refl
          of_seat false lost its = absurd (let wrong : ◌≡◌ {A = Seat} Watches Plays = its in cc)

          player : IsPlayer s end
          player round there plays = by_block (first_block (c 0)) (begun_so.opened).set_up
            where
              by_info : (o : Option (EpochInfo U))
                  → IsSomeAnd o (λ info. IsSeated (c 0) Uncommitted info (share_read (c 0) info (held_behind (c 0) w.held)) (seed_read (c 0) info (held_behind (c 0) w.held)) (started (c 0) ((c 0).seen (held_behind (c 0) w.held))) begun_so.before)
                  → has round.players (me s) ≡ true
              by_info None none = absurd none
              by_info (Some info) seated =
                  let one : seated.round ≡ round = some_is (sym seated.in_round ∙ sym (ap (λ (p : core.Participation U). p.round) same) ∙ there) in
                  subst (λ (r : Round). has r.players (me s) ≡ true) one
                  (subst (λ (k : ℕ). has (seated.round).players k ≡ true) (me_is 0)
                  (of_seat (has (seated.round).players (c 0).me) (is_lost (c 0) seated.round (records_of_epoch (seated.round).number begun_so.before.records.dealings) (logs_of begun_so.before (seated.round).number))
                  (sym seated.seat ∙ sym (ap (λ (p : core.Participation U). p.seat) same) ∙ plays)))

              by_block : (o : Option (made.Block U)) → IsSetUpIn (c 0) ((c 0).seen (held_behind (c 0) w.held)) (held_behind (c 0) w.held) begun_so.before o → has round.players (me s) ≡ true
              by_block None set_up = absurd (none_some (sym set_up.0 ∙ sym (ap (λ (p : core.Participation U). p.round) same) ∙ there))
              by_block (Some block) set_up = by_info (info_of block.payload) set_up

          made_of : (y : Telling) × Stores IntoFirst (bg 0 - 1) Anywhere opens_w y0 new y × IsSetUpBy y end → ExactHere 0 end (says new (entry.Step 0)) ((before ++ added) ++ entry.Step 0 ∷ [])
          made_of its = record {
            shares = shares_opened;
            fitting = fits;
            held = holds_behind (before ++ added) (entry.Step 0) (bg 0) new.held (uncommitted_step 0)
                (subst (λ (ls : List Entry). HoldsTold s (before ++ ls) (bg 0) new.held) (first_lines its.0 its.1)
                (left_holds IntoFirst Anywhere opens_w new y0 its.0 before (begun_before s (come s before).cuts (length (come s before).cuts)) (bg 0) between.held later its.1 its.2.1 (same_of its.0 its.1)));
            seated = seated_told before added its.0 end (its.1.last ∙ ap (set_up_last (set_up_last None before)) (first_lines its.0 its.1)) its.2.0 0;
            player = player;
            live = (node_openings_through (c 0) (SomeAt (e 0) (is_some (get new.held.secrets.shares (e 0)))) ((c 0).seen (held_behind (c 0) w.held)) (held_behind (c 0) w.held) end (form_at g here 0) begun_so).0;
          }

      pub cut_opening : (cause : Cause) → ended ≡ broken cause → (at_cut : cut.Cut) → at_cut.step ≡ 0 → 0 < at_cut.call → ExactBetween s (says new (entry.Cut at_cut.step at_cut.call)) ((before ++ added) ++ entry.Cut at_cut.step at_cut.call ∷ [])
      cut_opening cause is_broken at_cut there within = made_of (subst (λ (x : Ended NodeStop (Live U)). Leaves IntoFirst (bg 0 - 1) Anywhere opens_w y0 IsSetUpBy x new) is_broken opened)
        where
          made_of : (y : Telling) × Stores IntoFirst (bg 0 - 1) Anywhere opens_w y0 new y → ExactBetween s (says new (entry.Cut at_cut.step at_cut.call)) ((before ++ added) ++ entry.Cut at_cut.step at_cut.call ∷ [])
          made_of its = record {
            shares = shares_opened;
            held = subst (λ (k : ℕ). HoldsTold s ((before ++ added) ++ entry.Cut at_cut.step at_cut.call ∷ []) k new.held)
                (sym (begun_cut (before ++ added) at_cut 0 (ap length same_cuts ∙ at.lives) (same_cuts ∙ are) (taken_within life at_cut 0 there within)))
                (subst (λ (ls : List Entry). HoldsTold s ((before ++ ls) ++ entry.Cut at_cut.step at_cut.call ∷ []) (bg 0) new.held) (first_lines its.0 its.1)
                (cut_holds IntoFirst Anywhere opens_w new y0 its.0 before (begun_before s (come s before).cuts (length (come s before).cuts)) (bg 0) between.held later its.1 at_cut (same_of its.0 its.1) at.lives
                (λ epoch into. subst (λ (k : ℕ). ComesInto s l life k epoch) (sym there) into) within));
          }

  -- BEHIND THE LIFE
  pub over_left : (st : Live U) (w : World) (b : List Entry) → IsBetween (l + 1) s (come s b) → (come s b).cuts ≡ cuts ++ None ∷ [] → ExactHere (length life.events) st w b → ExactBetween s w b
  over_left st w b between are its = record { shares = its.shares; held = holds_later b (bg (length life.events)) (begun_before s (come s b).cuts (length (come s b).cuts)) w.held low its.held }
    where
      lives_before : length cuts ≡ l
      lives_before = less (length cuts) l (sym (length-append cuts (None ∷ [])) ∙ ap length (sym are) ∙ between.lives)
        where
          less : (x y : ℕ) → x + 1 ≡ y + 1 → x ≡ y
          less x y p = omega (arith, p)

      low : bg (length life.events) ≤ begun_before s (come s b).cuts (length (come s b).cuts)
      low = same_or (bg (length life.events)) (begun_before s (come s b).cuts (length (come s b).cuts))
          (sym (begun_behind s reshares cuts l life None lives_before life_is) ∙ ap (begun_before s (cuts ++ None ∷ [])) (sym (add-one l) ∙ sym between.lives)
          ∙ ap (λ (x : List (Option CutAt)). begun_before s x (length (come s b).cuts)) (sym are))
        where
          same_or : (x y : ℕ) → x ≡ y → x ≤ y
          same_or x y is = omega (arith, is)

  uncommitted_cut : (at_cut : cut.Cut) → IsUncommitted (entry.Cut at_cut.step at_cut.call)
  uncommitted_cut at_cut k share p = let wrong : ◌≡◌ {A = Entry} (entry.Cut at_cut.step at_cut.call) (entry.Committed k (Some share)) = p in cc

  -- before a step that isn't begun
  pub unstepped_left : (i : ℕ) (st : Live U) (w : World) (b : List Entry) → IsAtStep l life (suc i) s (come s b) → (come s b).cuts ≡ cuts → ExactHere i st w b → (at_cut : cut.Cut) → at_cut.step ≡ suc i → (at_cut.call == 0) ≡ true
      → ExactBetween s (says w (entry.Cut at_cut.step at_cut.call)) (b ++ entry.Cut at_cut.step at_cut.call ∷ [])
  unstepped_left i st w b at are its at_cut there none = record {
    shares = its.shares;
    held = subst (λ (k : ℕ). HoldsTold s (b ++ entry.Cut at_cut.step at_cut.call ∷ []) k w.held) (sym (begun_cut b at_cut i at.lives are (taken_before life at_cut (suc i) there none ∙ back_one)))
        (holds_behind b (entry.Cut at_cut.step at_cut.call) (bg i) w.held (uncommitted_cut at_cut) its.held);
  }
    where
      back_one : suc i - 1 ≡ i
      back_one = omega arith

  -- .. and before it opened
  pub unopened_left : (w new : World) (b : List Entry) → IsAtStep l life 0 s (come s b) → (come s b).cuts ≡ cuts → ExactBetween s w b → StaysHeld w.held new.held → (at_cut : cut.Cut)
      → ExactBetween s (says new (entry.Cut at_cut.step at_cut.call)) (b ++ entry.Cut at_cut.step at_cut.call ∷ [])
  unopened_left w new b at are between stays at_cut = record {
    shares = same_shares (IsMineAt s) w.held new.held (ap (λ (t : Secrets). t.shares) stays.secrets) between.shares;
    held = subst (λ (k : ℕ). HoldsTold s (b ++ entry.Cut at_cut.step at_cut.call ∷ []) k new.held) (sym (begun_cut b at_cut taken at.lives are refl))
        (holds_behind b (entry.Cut at_cut.step at_cut.call) (bg taken) new.held (uncommitted_cut at_cut)
        (holds_later b (begun_before s (come s b).cuts (length (come s b).cuts)) (bg taken) new.held low
        (holds_same b (begun_before s (come s b).cuts (length (come s b).cuts)) w.held new.held (ap (λ (t : Secrets). t.shares) stays.secrets) between.held)));
  }
    where
      taken : ℕ
      taken = events_taken life (Some (record { step = at_cut.step; call = at_cut.call }))

      low : begun_before s (come s b).cuts (length (come s b).cuts) ≤ bg taken
      low = subst (λ (x : List (Option CutAt)). begun_before s x (length (come s b).cuts) ≤ bg taken) (sym are) (subst (λ (x : ℕ). begun_before s cuts x ≤ bg taken) (sym at.lives) (begun_more s reshares cuts l life taken life_is))
