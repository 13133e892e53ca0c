-- Of a run over worlds, whatever image a crash leaves, follows that the transcript and the devices keep the dealings, of a script over many epochs.
use Rattle.std.proofs.Common.{◌≡◌, inl, ℕ, zero, suc, ◌+◌, ◌^◌, ◌<◌, ◌≤◌, List, [], ◌∷◌, ◌++◌, Option, Some, None, Bool, true, false, cond, length, refl, sym, ap, subst, ◌∙◌, append_assoc, arith, fold}
use Rattle.std.specs.Prelude.{IfSome, Result, is_some, option_map, slice_get}
use Rattle.std.specs.FinMap.{get}
use Rattle.std.specs.Int.{to_be_bytes, w32}
use Rattle.std.specs.Int.NonZero.{non_zero_u64_get}
use Rattle.std.specs.List.{AllByRecursion}
use Rattle.std.specs.Option.{option_or}
use Rattle.std.proofs.lemmas.List.{length-take}
use Rattle.sha2.specs.Sha256.{sha256}
use Rattle.sha2.proofs.Facts256.{length-sha256}
use Rattle.dkg_values.specs.declared.name.Name.TheVariants.{Plan}
use Rattle.dkg_ceremony.specs.Acks.{ack_content}
use Rattle.dkg_ceremony.specs.Marks.{domain_byte, mark_of}
use Rattle.dkg_ceremony.specs.Modes.{supports_of}
use Rattle.dkg_ceremony.specs.declared.round.RoundParts.{RoundParts as Round}
use Rattle.dkg_ceremony.specs.declared.sign.Domain.{Domain}
use Rattle.dkg_ceremony.specs.declared.sign.Domain.TheVariants as domains
use Rattle.dkg_journal.specs.Names.{Files}
use Rattle.dkg_journal.specs.Records.{entries}
use Rattle.dkg_secrets.specs.Secrets.{Secrets}
use Rattle.dkg_infos.specs.declared.directory.Unit as directory
use Rattle.dkg_infos.specs.declared.entry.Entry.{Entry}
use Rattle.dkg_infos.specs.declared.entry.Entry.TheVariants as entry
use Rattle.dkg_infos.specs.declared.entry.Restored.{Restored}
use Rattle.dkg_infos.specs.declared.fault.Fault.{Fault}
use Rattle.dkg_text.specs.declared.script.Anchor.{Anchor}
use Rattle.dkg_text.specs.declared.script.Event as script_event
use Rattle.dkg_text.specs.declared.script.Event.TheVariants as event
use Rattle.dkg_text.specs.declared.script.BlockLine.{BlockLine}
use Rattle.dkg_text.specs.declared.script.Life.{Life}
use Rattle.dkg_text.specs.declared.script.Script.{Script}
use Rattle.dkg_store.specs.Acts.{Held, Stands, World, at, moment, notes}
use Rattle.dkg_store.specs.Events.{IsEvent}
use Rattle.dkg_store.specs.declared.event.Event.TheVariants as events
use Rattle.dkg_store.specs.Pairs.{IsWhole}
use Rattle.dkg_store.specs.Recorded.{restored_list}
use Rattle.dkg_script.specs.AsCut.{as_cut, lives_as_cut}
use Rattle.dkg_script.specs.Blocks.{handed_in, provided_material}
use Rattle.dkg_script.specs.Consistent.{IsConsistentScript}
use Rattle.dkg_script.specs.Inclusion.{IsEventIn, IsFormOfInclusion}
use Rattle.dkg_script.specs.Kept.{Gives, IsDurable, IsSound, Kept}
use Rattle.dkg_script.specs.OwnMarks.{AreKnownHandedIn, IsKnownAt}
use Rattle.dkg_script.specs.Position.{IsLeft, IsPlanHistory, cut_of, unless_outdated}
use Rattle.dkg_script.specs.Progress.{AtEachEntry, at_start, pair_of, progress, read}
use Rattle.dkg_script.specs.Promise.{InACase, IsAnswered, IsComplete, IsHonestRun, RunsAll, cuts_in}
use Rattle.dkg_script.specs.Setting.{CutAt, Setting, found, is_oneshot, life_at, recovered_from, setting_of}
use Rattle.dkg_script.proofs.Listed.{gives_all, pair_of-restored_list}
use Rattle.dkg_script.proofs.EachEntry.{all_splits, at_each}
use Rattle.dkg_core.specs.Agreeing.{BringsRecords}
use Rattle.dkg_core.specs.Heard.{recovered_in}
use Rattle.dkg_core.specs.Live.{Cancel, EpochInfoOf, Feed, Finalized, Message, NextLog, Over, Peer, ReleaseLog, Mailed, Work}
use Rattle.dkg_core.specs.Seen.{Seen}
use Rattle.dkg_life.specs.Planless.{seen_planless}
use Rattle.dkg_lives.specs.Epochs.{IsAnchorAbove, IsLifeInForm}
use Rattle.dkg_lives.specs.Given.{AreBytes, Lived, at_step, lived}
use Rattle.dkg_lives.specs.Lives.{RunsOver, never}
use Rattle.dkg_lives.specs.Ways.{by_worlds}
use Rattle.dkg_lives.proofs.Currently.{RestsIn, current_all}
use Rattle.dkg_lives.proofs.FitsRead.{message_fits}
use Rattle.dkg_lives.proofs.Former.{Brings, IsMessage, event_in_form}
use Rattle.dkg_along.proofs.LifeSteps.{IsLifeOfSetting}
use Rattle.dkg_lives.proofs.LogsFit.{block_fits}
use Rattle.dkg_along.proofs.RunKept.{AreLives, LeavesRun, run_kept}
use Rattle.dkg_along.proofs.MarksAt.{handed_known}
use Rattle.dkg_along.proofs.Marked.{Comes, EachMarked, answered_at, each_sound, marks_of}

abbrev U : Type 0
U = directory.Unit

-- What is built: a script of the form over many epochs, whose mode is supported and whose epochs have two blocks at least, and no plan.
pub record IsBuiltSetting (s : Setting) : Type 0 where
  pub form : IsFormOfInclusion s.script
  pub anchored : (l : ℕ) (life : Life) → life_at s l ≡ Some life → IfSome life.anchor (IsAnchorAbove s.script.blocks)
  pub supported : supports_of s.script.config.max_mode.0 s.script.config.mode ≡ true
  pub long : 2 ≤ non_zero_u64_get s.script.config.blocks_per_epoch
  pub no_plan : get s.files Plan ≡ None
  -- payloads are bytes, and heights have 64 bits
  pub bytes : AreBytes s.script.blocks
  pub heights : AllByRecursion (λ (line : BlockLine). line.height < 2 ^ 64) s.script.blocks

-- .. whatever plan is stored
pub record IsGivenSetting (s : Setting) : Type 0 where
  pub form : IsFormOfInclusion s.script
  pub anchored : (l : ℕ) (life : Life) → life_at s l ≡ Some life → IfSome life.anchor (IsAnchorAbove s.script.blocks)
  pub supported : supports_of s.script.config.max_mode.0 s.script.config.mode ≡ true
  pub long : 2 ≤ non_zero_u64_get s.script.config.blocks_per_epoch
  pub bytes : AreBytes s.script.blocks
  pub heights : AllByRecursion (λ (line : BlockLine). line.height < 2 ^ 64) s.script.blocks

pub given_of : (s : Setting) → IsBuiltSetting s → IsGivenSetting s
given_of s built = record { form = built.form; anchored = built.anchored; supported = built.supported; long = built.long; bytes = built.bytes; heights = built.heights }

-- WHAT A LIFE IS GIVEN

module _ (s : Setting) (ends : List (Option CutAt)) (built : IsGivenSetting s) (no_plans : s.plans ≡ []) (consistent : IsConsistentScript s ends) where
  module _ (l : ℕ) (life : Life) (files : Files) (life_is : life_at s l ≡ Some life) where
    abbrev g : Lived
    g = lived s.script l life seen_planless files

    here : IsLifeInForm g
    here = record { form = built.form; life_is = life_is; anchor = built.anchored l life life_is; unplanned = λ h. refl; supported = built.supported; long = built.long }

    is_mark : (key : ℕ) (domain : Domain) (content : List ℕ) → length (mark_of key domain content) ≡ 8
    unfolding mark_of
    is_mark key domain content =
        let taken = length-take 8 (sha256 (to_be_bytes w32 key ++ domain_byte domain ∷ [] ++ content)) in
        let long = length-sha256 (to_be_bytes w32 key ++ domain_byte domain ∷ [] ++ content) in omega (arith, taken, long)

    acks_given : (n : ℕ) (round : Round) (public : List ℕ) → IsEvent (events.Ack (at_step g n).me ((at_step g n).rules.ack_of (at_step g n).me round (at_step g n).me public))
    unfolding at_step
    acks_given n round public = record { one = built.form.own; other = is_mark s.script.config.me domains.Ack (ack_content round s.script.config.me public) }

    limit_given : (n : ℕ) → (at_step g n).limit ≤ 2 ^ 30
    unfolding at_step
    limit_given n = built.form.in_bound

    brings_given : (i : ℕ) (its : script_event.Event) → slice_get g.life.events i ≡ Some its → (m : IsMessage g its) → BringsRecords (at_step g (suc i)) m.message
    brings_given i its is m = by_event its (event_in_form g here i its is) m.message m.brings
      where
        brought_as : (message other : Message U) → message ≡ other → BringsRecords (at_step g (suc i)) other → BringsRecords (at_step g (suc i)) message
        brought_as message other is brings = subst (λ (y : Message U). BringsRecords (at_step g (suc i)) y) (sym is) brings

        by_event : (x : script_event.Event) → IsEventIn s.script.blocks x → (message : Message U) → Brings g x message → BringsRecords (at_step g (suc i)) message
        by_event (event.Peer from bytes) form message brings = brought_as message (Mailed (Peer from bytes)) brings (message_fits (at_step g (suc i)) from bytes (limit_given (suc i)) form)
        by_event (event.Final number) form message brings = brought_as message (Finalized (brings.0).block) brings.1 (block_fits g built.bytes built.heights built.form.in_bound (suc i) number brings.0)
        by_event (event.Next request height) form message brings = brought_as message (Mailed (NextLog request height)) brings tt
        by_event (event.Release height) form message brings = brought_as message (Mailed (ReleaseLog height)) brings tt
        by_event (event.Info request) form message brings = brought_as message (Mailed (EpochInfoOf request)) brings tt
        by_event (event.Feed request number) form message brings = brought_as message (Mailed (Feed request (brings.0).block)) brings.1 tt
        by_event (event.Over request) form message brings = brought_as message (Mailed (Over request)) brings tt
        by_event (event.Cancel request) form message brings = brought_as message (Mailed (Cancel request)) brings tt
        by_event event.Work form message brings = brought_as message (Mailed (Work None)) brings tt
        by_event other form message brings = absurd brings

    meant : IsLifeOfSetting s ends g
    meant = record {
      script_is = refl;
      consistent = consistent;
      none_found = rw no_plans refl;
      reads = record { dealings = λ h. refl; acks = λ h. refl; logs = λ h. refl };
      acks = acks_given;
      brings = brings_given;
    }

  pub given : (l : ℕ) (life : Life) (seen : Held → Seen) (files : Files) → life_at s l ≡ Some life → by_worlds.reads seen → IsLifeInForm (lived s.script l life seen files) × IsLifeOfSetting s ends (lived s.script l life seen files)
  given l life seen files life_is reads = subst (λ (x : Held → Seen). IsLifeInForm (lived s.script l life x files) × IsLifeOfSetting s ends (lived s.script l life x files)) (sym reads) (here l life files life_is, meant l life files life_is)

-- A SCRIPT AS IT WAS CUT is built where it is of the form

anchor_as_cut : (ends : List (Option CutAt)) (lives : List Life) (l : ℕ) (life : Life) → slice_get (lives_as_cut ends lives) l ≡ Some life → (its : Life) × (slice_get lives l ≡ Some its) × (life.anchor ≡ its.anchor)
anchor_as_cut [] lives l life is = (life, is, refl)
anchor_as_cut (end ∷ ends) [] l life is = absurd (let no : ◌≡◌ {A = Option Life} None (Some life) = is in cc)
anchor_as_cut (end ∷ ends) (x ∷ xs) zero life is = (x, refl, ap (λ (y : Life). y.anchor) (sym (the_same is)))
  where
    the_same : {a b : Life} → Some a ≡ Some b → a ≡ b
    the_same e = cc
anchor_as_cut (end ∷ ends) (x ∷ xs) (suc l) life is = anchor_as_cut ends xs l life is

pub built_as_cut : (script : Script) (files : Files) (secrets : Secrets) (ends : List (Option CutAt)) → IsFormOfInclusion (as_cut ends script) → IsBuiltSetting (setting_of script files secrets) → IsBuiltSetting (setting_of (as_cut ends script) files secrets)
built_as_cut script files secrets ends form built = record {
  form = form;
  anchored = λ l life is. let its = anchor_as_cut ends script.lives l life is in subst (λ (x : Option Anchor). IfSome x (IsAnchorAbove script.blocks)) (sym its.2) (built.anchored l its.0 its.1);
  supported = built.supported;
  long = built.long;
  no_plan = built.no_plan;
  bytes = built.bytes;
  heights = built.heights;
}

-- THE PLAN'S ONE CASE

pub history_of : (s : Setting) (cuts : List (Option CutAt)) → IsFormOfInclusion s.script → get s.files Plan ≡ None → s.plans ≡ [] → IsPlanHistory s cuts
history_of s cuts form no_plan no_plans = record { first = none 0 ∙ sym no_record; next = λ l below. by_life l (life_at s l) refl }
  where
    none : (l : ℕ) → found s l ≡ None
    none l = rw no_plans refl

    no_record : handed_in s ≡ None
    no_record = rw no_plan refl

    by_mode : (l : ℕ) (oneshot : Bool) (m : Option _) → m ≡ None → found s (suc l) ≡ cond oneshot (found s l) (cond oneshot None m)
    by_mode l true m is = none (suc l) ∙ sym (none l)
    by_mode l false m is = none (suc l) ∙ sym is

    by_life : (l : ℕ) (o : Option Life) → life_at s l ≡ o → IfSome o (λ life. IsLeft s l life (cut_of cuts l) (found s (suc l)))
    by_life l None is = tt
    by_life l (Some life) is = inl (by_mode l (is_oneshot s) (unless_outdated s life (option_or (provided_material s life) (found s l))) (rw ((form.lives l life is).no_sync, none l) refl))

pub plain_history : (s : Setting) (cuts : List (Option CutAt)) → IsBuiltSetting s → s.plans ≡ [] → IsPlanHistory s cuts
plain_history s cuts built no_plans = history_of s cuts built.form built.no_plan no_plans

-- THE FIRST LIFE IS STILL TO COME

pub rests_at_start : (s : Setting) (h : Held) → notes h ≡ entries s.files → h.secrets ≡ s.secrets → IsWhole (entries s.files) s.secrets → RestsIn h s (at_start s)
rests_at_start s h notes_are secrets_are whole = record {
  whole = rw (notes_are, secrets_are) whole;
  may = record {
    given = rw same (current_all _ (Gives (recovered_from s.files s.secrets)) (restored_list (recovered_from s.files s.secrets)) (gives_all (recovered_from s.files s.secrets)));
    known = λ pair there. inl (known pair (rw same at there));
    first = λ none. same;
  };
}
  where
    same : recovered_in h ≡ recovered_from s.files s.secrets
    same = rw (notes_are, secrets_are) refl

    known : (pair : Restored) → Gives (recovered_from s.files s.secrets) pair → pair_of (restored_list (recovered_from s.files s.secrets)) pair.epoch pair.dealer ≡ Some pair
    known pair there = pair_of-restored_list (recovered_from s.files s.secrets) pair.epoch pair.dealer
        ∙ ap (option_map (λ (v : List ℕ × ℕ). record { epoch = pair.epoch; dealer = pair.dealer; public = v.0; private = v.1 })) there

-- THE RUN

pub lives_of : (s : Setting) (front lives : List Life) → s.script.lives ≡ front ++ lives → AreLives s (length front) lives
lives_of s front [] is = tt
lives_of s front (life ∷ lives) is =
    (ap (λ (xs : List Life). slice_get xs (length front)) is ∙ item front, subst (λ (n : ℕ). AreLives s n lives) (longer front) (lives_of s (front ++ life ∷ []) lives (is ∙ sym (append_assoc front (life ∷ []) lives))))
  where
    item : (front : List Life) → slice_get (front ++ life ∷ lives) (length front) ≡ Some life
    item [] = refl
    item (x ∷ front) = item front

    longer : (front : List Life) → length (front ++ life ∷ []) ≡ length front + 1
    longer [] = refl
    longer (x ∷ front) = let rest : length (front ++ life ∷ []) ≡ length front + 1 = longer front in omega (arith, rest)

pub same_behind : (old a b : List Entry) → old ++ a ≡ old ++ b → a ≡ b
same_behind [] a b e = e
same_behind (x ∷ old) a b e = same_behind old a b (let rest : old ++ a ≡ old ++ b = cc in rest)

-- what follows of one image, where the entries tell that the script's lives ended so
module _ (s : Setting) (built : IsBuiltSetting s) (no_plans : s.plans ≡ []) (whole : IsWhole (entries s.files) s.secrets) (answered : Result (Unit {0}) Fault) (old_out new_out added : List Entry) (secrets_now : Secrets)
    (is : new_out ≡ old_out ++ added) (consistent : IsConsistentScript s (fold (read s) (at_start s) added).cuts) where
  pub goes_to : (c : Files) → RunsOver s.script answered s.files (at (moment old_out s.secrets never) s.files) (λ f. at (moment new_out secrets_now f) c)
      → EachMarked s (AreKnownHandedIn s) (at_start s) added × LeavesRun (at (moment new_out secrets_now never) c).held s (fold (read s) (at_start s) added)
  goes_to c run = (subst (λ (xs : List Entry). EachMarked s (AreKnownHandedIn s) (at_start s) xs) same gone.each, subst (λ (xs : List Entry). LeavesRun (at (moment new_out secrets_now never) c).held s (fold (read s) (at_start s) xs)) same gone.to)
    where
      w : World
      w = at (moment old_out s.secrets never) s.files

      new : World
      new = at (moment new_out secrets_now run.fuse) c

      ends : List (Option CutAt)
      ends = (fold (read s) (at_start s) added).cuts

      end_so : (its : List Entry) → new_out ≡ old_out ++ its → (fold (read s) (at_start s) its).cuts ≡ ends
      end_so its out = ap (λ (xs : List Entry). (fold (read s) (at_start s) xs).cuts) (same_behind old_out its added (sym out ∙ is))

      gone : Comes s (AreKnownHandedIn s) (at_start s) old_out new_out (λ marks q. LeavesRun (at (moment new_out secrets_now never) c).held s q)
      gone = run_kept s ends (ap is_some built.form.reshares) consistent (given s ends (given_of s built) no_plans consistent)
          (λ its. its ≡ s.files) (AreKnownHandedIn s) w answered new (at_start s) (lives_of s [] s.script.lives refl) (record { lives = refl; step = refl; nothing = refl }) (rests_at_start s w.held refl refl whole)
          (handed_known s _) end_so run.so

      same : gone.added ≡ added
      same = same_behind old_out gone.added added (sym gone.out ∙ is)

-- .. and of all, where one is left
module _ (script : Script) (files : Files) (image : Files → Type 0) (secrets : Secrets) (now : Files → Type 0) (secrets_now : Secrets) (answered : Result (Unit {0}) Fault) (old_out new_out added : List Entry)
    (is : new_out ≡ old_out ++ added)
    (runs : Stands files image → (c : Files) → now c → RunsOver script answered files (at (moment old_out secrets never) files) (λ f. at (moment new_out secrets_now f) c))
    (itself : image files) (left : Files) (is_left : now left) where
  abbrev s : Setting
  s = setting_of script files secrets

  module _ (built : IsBuiltSetting s) (honest : IsHonestRun s image (cuts_in s added)) where
    consistent : IsConsistentScript s (fold (read s) (at_start s) added).cuts
    unfolding progress
    consistent = honest.source [] (plain_history s (cuts_in s added) built refl)

    stands : Stands files image
    stands = record { lands = honest.stores.nothing_loose; itself = itself }

    one : (c : Files) → now c → EachMarked s (AreKnownHandedIn s) (at_start s) added × LeavesRun (at (moment new_out secrets_now never) c).held s (fold (read s) (at_start s) added)
    one c there = goes_to s built refl honest.stores.whole answered old_out new_out added secrets_now is consistent c (runs stands c there)

    abbrev each : EachMarked s (AreKnownHandedIn s) (at_start s) added
    each = (one left is_left).0

    sound : AtEachEntry s (IsSound s) added
    sound = at_each s (IsSound s) added (each_sound s added (AreKnownHandedIn s) (at_start s) each)

    durable : IsDurable s (progress s added) now secrets_now
    unfolding progress
    durable = record { whole = λ c there. (one c there).1.0; gives = λ c there. (one c there).1.1 }

    -- THE TRANSCRIPT AND THE DEVICES keep each recorded dealing
    pub kept_of : InACase s (cuts_in s added) (λ case. Kept case added now secrets_now)
    kept_of = ([], plain_history s (cuts_in s added) built refl, record { each = sound; durable = durable })

    -- the case of no plan
    settled : (before after : List Entry) (step : ℕ) → added ≡ before ++ entry.Step step ∷ after → IsAnswered s before
    unfolding progress
    settled before after step parts own due =
        answered_at s before (entry.Step step) after (AreKnownHandedIn s) (at_start s) (subst (λ (xs : List Entry). EachMarked s (AreKnownHandedIn s) (at_start s) xs) parts each)
        (marks_of s before (AreKnownHandedIn s) (at_start s) own.handed_in (all_splits s (IsKnownAt s) before (at_start s) own.delivered)) (due [] (plain_history s (cuts_in s before) built refl))

    -- .. AND WHAT WAS DUE was acknowledged
    pub answered_of : RunsAll script added → IsComplete s added
    answered_of all = record { all_run = all files secrets; answered = settled }
