-- The promise of a run, of what its lines and its worlds are and of what is known of the devices.
use Rattle.std.proofs.Common.{◌≡◌, ◌⊎◌, inl, inr, true, false, ◌+◌, ◌++◌, ◌∷◌, [], ℕ, List, Option, Some, None, Result, Ok, Err, sym, ◌∙◌, subst}
use Rattle.std.specs.Prelude.{IfErr, OnOk}
use Rattle.std.proofs.lemmas.List.{append_cancel_left}
use Rattle.std.specs.List.{AllByRecursion}
use Rattle.dkg_journal.specs.Disk.{Lands}
use Rattle.dkg_store.specs.Acts.{Stands}
use Rattle.dkg_store.specs.Corrupt.{AreFit}
use Rattle.dkg_infos.specs.declared.entry.Entry.{Entry}
use Rattle.dkg_infos.specs.declared.entry.Entry.TheVariants as entry
use Rattle.dkg_infos.specs.declared.fault.Fault.{Fault}
use Rattle.dkg_infos.specs.declared.fault.Fault.TheVariants.{NoMemory}
use Rattle.dkg_text.specs.declared.script.Script.{Script}
use Rattle.dkg_script.specs.Ends.{EndsInFault, EndsWell}
use Rattle.dkg_script.specs.Inclusion.{IsFormOfInclusion}
use Rattle.dkg_script.specs.Order.{InOrder}
use Rattle.dkg_script.specs.Promise.{Adds, AnswersDealings, KeepsDealings, RunsAll, RunsInOrder, cuts_in}
use Rattle.dkg_script.specs.AsCut.{as_cut, setting_as_cut}
use Rattle.dkg_script.specs.Progress.{progress}
use Rattle.dkg_script.specs.SameOffers.{OffersTheSame}
use Rattle.dkg_script.specs.Setting.{CutAt, Setting, setting_of}
use Rattle.dkg_script.proofs.InclusionAsCut.{inclusion_as_cut}
use Rattle.dkg_promises.specs.Answers.{AnswersSo, AnswersThePath}
use Rattle.dkg_lives.specs.Blamed.{BlamesSo}
use Rattle.dkg_lives.specs.Causes.{HasDeviceCause}
use Rattle.dkg_promises.specs.Complete.{IsSoundRun, IsValidAsCut}
use Rattle.dkg_script.specs.Ends.{EndsFaulted, EndsRun, EndsScript}
use Rattle.dkg_lives.specs.Epochs.{IsChecked, refused_config}
use Rattle.dkg_promises.specs.Found.{EachFault, IsFoundRecord, OfFault, ShowsCause}
use Rattle.dkg_lives.specs.Given.{AreBytes}
use Rattle.dkg_promises.specs.GivesBack.{GivesBack, NamesNoRecord, limit_in}
use Rattle.dkg_promises.specs.Leaves.{LeavesSo}
use Rattle.dkg_lives.specs.Lives.{AnyFiles, RunsSo, TellsEnd}
use Rattle.dkg_promises.specs.Over.{DevicesAround}
use Rattle.dkg_promises.specs.Promised.{DoesRun, Promised}
use Rattle.dkg_promises.specs.Refusals.{BlamesOnlySkips}
use Rattle.dkg_promises.specs.SharesStand.{CommitsEach, CommitsExactly, CommitsFit, FitsCarried}
use Rattle.dkg_lives.specs.Ways.{by_entries, trace}
use Rattle.dkg_promises.proofs.Begun.{begun_answers, begun_commits, begun_exactly, begun_keeps, begun_offers, begun_paths, begun_plans, begun_valid, begun_valid_uncut, begun_whole, cut_form, cut_runs, cut_script}
use Rattle.dkg_promises.proofs.Blaming.{CommitsIn, run_answers, run_blames, run_commits}
use Rattle.dkg_promises.proofs.Completing.{unblamed}
use Rattle.dkg_promises.proofs.Finishing.{completes}
use Rattle.dkg_promises.proofs.CutLives.{lines_cut}
use Rattle.dkg_along.proofs.EachLife.{lives_over}
use Rattle.dkg_promises.proofs.FoundRun.{run_found}
use Rattle.dkg_promises.proofs.Leaving.{run_leaves}
use Rattle.dkg_along.proofs.Ordered.{run_all_lives, run_in_order}
use Rattle.dkg_lives.proofs.Moving.{all_of_both}
use Rattle.dkg_promises.proofs.Skipping.{run_skips}
use Rattle.dkg_promises.proofs.Telling.{run_ends}
use Rattle.dkg_promises.proofs.Unbegun.{ToldNone, Unmoved, none_answered, none_answers, none_commits, none_committed, none_completes, none_ends, none_keeps, none_left, none_offers, none_paths, none_plans, none_shows, none_skips, none_tells, none_valid, none_whole}

-- WHAT IS KNOWN OF WHAT ENDED THE LIVES is known where it is told
pub known_told : (F : Fault → Type 0) (its answered : Fault) (mid new : List Entry) (picks : List ℕ) → F NoMemory → TellsEnd by_entries (Err its) (Err answered) (trace mid picks) (trace new picks) → F its → F answered
known_told F its answered mid new picks none (inl wants) is = subst F (sym (same_answer wants.0)) none
  where
    same_answer : {x y : Fault} → ◌≡◌ {A = Result (Unit {0}) Fault} (Err x) (Err y) → x ≡ y
    same_answer e = cc
known_told F its answered mid new picks none (inr told) is = subst F (sym (same_answer told.0)) is
  where
    same_answer : {x y : Fault} → ◌≡◌ {A = Result (Unit {0}) Fault} (Err x) (Err y) → x ≡ y
    same_answer e = cc

-- THE ENTRIES THAT ARE ADDED are the same, whatever is said of them
added_so : (old new added : List Entry) (P : List Entry → Type 0) → new ≡ old ++ added → Adds old new P → P added
added_so old new added P is adds = subst P (append_cancel_left old adds.0 added (sym adds.1 ∙ is)) adds.2

-- A FAULT THAT IS TOLD is the one that was answered
module _ (P : Fault → Type 0) where
  none_told : (entries : List Entry) → EndsWell entries → AllByRecursion (OfFault P) entries
  none_told [] well = tt
  none_told (entry.Fault its ∷ entries) well = absurd (let wrong : true ≡ false = well in cc)
  none_told (one ∷ entries) well = (tt, none_told entries well)

  last_told : (its : Fault) (added : List Entry) → EndsInFault added its → P its → AllByRecursion (OfFault P) added
  last_told its added ends so = subst (AllByRecursion (OfFault P)) (sym ends.last) (all_of_both (OfFault P) ends.before (entry.Fault its ∷ []) (none_told ends.before ends.only) (so, tt))

  ended_told : (its : Fault) (added : List Entry) (disk_rose secrets_rose : Type 0) → EndsFaulted its added disk_rose secrets_rose → P its → AllByRecursion (OfFault P) added
  ended_told NoMemory added disk_rose secrets_rose ends so = none_told added ends
  ended_told its added disk_rose secrets_rose ends so = last_told its added ends.0 so

  run_told : (answered : Result (Unit {0}) Fault) (added : List Entry) (disk_rose secrets_rose : Type 0) → EndsRun answered added disk_rose secrets_rose → IfErr answered P → AllByRecursion (OfFault P) added
  run_told (Ok done) added disk_rose secrets_rose ends so = none_told added ends
  run_told (Err its) added disk_rose secrets_rose ends so = ended_told its added disk_rose secrets_rose ends so

  each_told : (refused : Option Fault) (answered : Result (Unit {0}) Fault) (added : List Entry) (disk_rose secrets_rose : Type 0) → EndsScript refused answered added disk_rose secrets_rose → IfErr answered P → EachFault P added
  each_told None answered added disk_rose secrets_rose ends so = record { each = run_told answered added disk_rose secrets_rose ends so }
  each_told (Some its) answered added disk_rose secrets_rose (inl told) so =
      record { each = subst (AllByRecursion (OfFault P)) (sym told.1) (subst (λ (r : Result (Unit {0}) Fault). IfErr r P) told.0 so, tt) }
  each_told (Some its) answered added disk_rose secrets_rose (inr wants) so = record { each = subst (AllByRecursion (OfFault P)) (sym wants.1) tt }

-- WHAT HOLDS BY WHAT WAS ANSWERED

if_err : (answered : Result (Unit {0}) Fault) (P Q : Fault → Type 0) → ((its : Fault) → P its → Q its) → IfErr answered P → IfErr answered Q
if_err (Ok done) P Q so is = tt
if_err (Err its) P Q so is = so its is

on_ok : (answered : Result (Unit {0}) Fault) (A B : Type 0) → (A → B) → OnOk answered A → OnOk answered B
on_ok (Ok done) A B so is = so is
on_ok (Err its) A B so is = tt

when_told : (answered : Result (Unit {0}) Fault) (Tells : Type 0) (P : Fault → Type 0) → IfErr answered (λ its. Tells → P its) → Tells → IfErr answered P
when_told (Ok done) Tells P is told = tt
when_told (Err its) Tells P is told = is told

-- THE PROMISE

-- at Ok all lives were run
all_run : (script : Script) (old new : List Entry) (picks : List ℕ) (answered : Result (Unit {0}) Fault) (added : List Entry) → new ≡ old ++ added → RunsSo by_entries script AnyFiles (trace old []) answered (trace new picks)
    → OnOk answered (RunsAll script added)
all_run script old new picks (Ok done) added is run = added_so old new added (RunsAll script) is (run_all_lives script AnyFiles (trace old []) (trace new picks) run)
all_run script old new picks (Err its) added is run = tt

module _ (script : Script) (form : IsFormOfInclusion script) (o : DevicesAround) (disk_of : o.tells → o.disk_tells) (old new : List Entry) (picks : List ℕ) (answered : Result (Unit {0}) Fault)
    (run : RunsSo by_entries script AnyFiles (trace old []) answered (trace new picks)) (runs : DoesRun script o old answered new) (itself : o.disk_tells → o.before.image o.before.files) (left : o.disk_tells → o.now.image o.now.files)
    (causes : IfErr answered (λ its. HasDeviceCause its o.disk_rose o.secrets_rose)) (records : IfErr answered (λ its. o.disk_tells → IsFoundRecord (limit_in script) o.now.files its))
    (fit : o.disk_tells → AreFit (limit_in script) o.before.image → AreFit (limit_in script) o.now.image) (stood : OnOk answered (o.disk_tells → Stands o.before.files o.before.image → Stands o.now.files o.now.image)) where
  -- what the two cases show: the lives were begun, or not
  record Shown (added : List Entry) : Type 0 where
    pub ends : EndsScript (refused_config script) answered added o.disk_rose o.secrets_rose
    pub found : o.tells → Stands o.before.files o.before.image → EachFault (ShowsCause script o.now.files o.now.held) added
    pub skips : IfErr answered (λ its. o.tells → (let s = setting_as_cut script o.before.files o.before.held added in BlamesOnlySkips s o.before.image (cuts_in s added) its))
    pub kept : o.tells → KeepsDealings script o.before.files o.before.held o.before.image o.now.image o.now.held added
    pub answers : OnOk answered (o.tells → AnswersDealings script o.before.files o.before.held o.before.image added)
    pub offers : o.tells → Stands o.before.files o.before.image → OffersTheSame script o.before.files o.before.held added
    pub requests : AnswersSo script added
    pub leaves : LeavesSo script added
    pub paths : o.tells → Stands o.before.files o.before.image → AnswersThePath script o.before.files o.before.held added
    pub commits : CommitsEach script added
    pub shares : o.tells → Stands o.before.files o.before.image → CommitsFit script o.before.files o.before.held added
    pub exactly : o.tells → Stands o.before.files o.before.image → CommitsExactly script o.before.files o.before.held added
    pub complete : IfErr answered (λ its. IsSoundRun o (IsValidAsCut script added) → its ≡ NoMemory)
    pub gives_back : o.tells → GivesBack script answered o.before o.now added

  fits : o.tells → AreFit (limit_in script) o.before.image → AreFit (limit_in script) o.now.image
  fits told = fit (disk_of told)

  clean : o.tells → IfErr answered (λ its. AreFit (limit_in script) o.before.image → NamesNoRecord its)
  clean told = unblamed (limit_in script) o.now.files o.before.image o.now.image answered (when_told answered o.disk_tells (IsFoundRecord (limit_in script) o.now.files) records (disk_of told)) (fits told) (left (disk_of told))

  stay : o.tells → OnOk answered (Stands o.before.files o.before.image → Stands o.now.files o.now.image)
  stay told = on_ok answered (o.disk_tells → Stands o.before.files o.before.image → Stands o.now.files o.now.image) (Stands o.before.files o.before.image → Stands o.now.files o.now.image) (λ stands. stands (disk_of told)) stood

  firm : o.tells → OnOk answered (Lands o.before.files o.before.image → Lands o.now.files o.now.image)
  firm told = on_ok answered (Stands o.before.files o.before.image → Stands o.now.files o.now.image) (Lands o.before.files o.before.image → Lands o.now.files o.now.image)
      (λ stands lands. (stands (record { lands = lands; itself = itself (disk_of told) })).lands) (stay told)

  -- NO LIFE BEGAN
  none_shown : (added : List Entry) → new ≡ old ++ added → ToldNone script answered old new (Unmoved o) → Shown added
  none_shown added is none =
      let ends = none_ends script o answered old new added is none in
      record {
        ends = ends;
        found = λ told here. each_told (ShowsCause script o.now.files o.now.held) (refused_config script) answered added o.disk_rose o.secrets_rose ends (none_shows script o answered old new added is none);
        skips = none_skips script o answered old new added is none;
        kept = λ told. none_keeps script o answered old new added is none;
        answers = none_answers script o answered old new added is none (o.tells → AnswersDealings script o.before.files o.before.held o.before.image added);
        offers = λ told here form consistent. none_offers script o answered old new added is none;
        requests = none_answered script o answered old new added is none;
        leaves = none_left script o answered old new added is none;
        paths = λ told here form history devices. none_paths script o answered old new added is none (setting_as_cut script o.before.files o.before.held added);
        commits = none_tells script o answered old new added is none;
        shares = λ told here form consistent fit. none_commits script o answered old new added is none (FitsCarried (setting_as_cut script o.before.files o.before.held added));
        exactly = λ told here form history devices fit before after epoch share parts ends_it. absurd (none_committed script o answered old new added is none before after (epoch + 1) share parts);
        complete = none_completes script o answered old new added is none;
        gives_back = λ told. record {
          fit = fits told;
          unblamed = clean told;
          firm = firm told;
          plan = none_plans script o answered old new added is none;
          whole = none_whole script o answered old new added is none;
          valid = λ consistent. none_valid script o answered old new added is none (setting_as_cut script o.before.files o.before.held added);
          valid_uncut = λ cuts consistent. none_valid script o answered old new added is none (setting_of script o.before.files o.before.held);
        };
      }

  -- THEY WERE BEGUN
  module _ (checked : IsChecked script) (bytes : AreBytes script.blocks) (added : List Entry) (is : new ≡ old ++ added) where
    abbrev its_script : Script
    its_script = cut_script script form checked bytes o disk_of answered old new added is runs itself left

    its_form : IsFormOfInclusion its_script
    its_form = cut_form script form checked bytes o disk_of answered old new added is runs itself left

    abbrev its_setting : Setting
    its_setting = setting_as_cut script o.before.files o.before.held added

    as_it_was : RunsSo by_entries its_script AnyFiles (trace old []) answered (trace new picks)
    as_it_was = lines_cut script o.before.files o.before.held answered old new added is AnyFiles picks run

    run_ended : EndsRun answered added o.disk_rose o.secrets_rose
    run_ended = added_so old new added (λ added. EndsRun answered added o.disk_rose o.secrets_rose) is
        (run_ends script checked (lives_over script form checked) AnyFiles (trace old []) (trace new picks) answered o.disk_rose o.secrets_rose causes run)

    all_answered : OnOk answered (o.tells → AnswersDealings script o.before.files o.before.held o.before.image added)
    all_answered = on_ok answered (RunsAll its_script added) (o.tells → AnswersDealings script o.before.files o.before.held o.before.image added)
        (λ all told. begun_answers script form checked bytes o disk_of answered old new added is runs itself left all told) (all_run its_script old new picks answered added is as_it_was)

    all_completed : o.tells → IfErr answered (λ its. IsValidAsCut script added o.before → (o.disk_rose → ⊥) → (o.secrets_rose → ⊥) → its ≡ NoMemory)
    all_completed told =
        completes its_script its_form checked bytes o.before.files o.now.files o.before.image o.now.image o.before.held o.now.held o.disk_rose o.secrets_rose answered old new added is (itself (disk_of told)) (left (disk_of told))
        (λ here. cut_runs script form checked bytes o disk_of answered old new added is runs itself left told here o.now.files (left (disk_of told))) run_ended
        (when_told answered o.disk_tells (IsFoundRecord (limit_in script) o.now.files) records (disk_of told)) (fits told)

    completed : (answered : Result (Unit {0}) Fault) → (o.tells → IfErr answered (λ its. IsValidAsCut script added o.before → (o.disk_rose → ⊥) → (o.secrets_rose → ⊥) → its ≡ NoMemory))
        → IfErr answered (λ its. IsSoundRun o (IsValidAsCut script added) → its ≡ NoMemory)
    completed (Ok done) so = tt
    completed (Err its) so = λ sound. so sound.tells sound.valid sound.no_disk_rose sound.no_secrets_rose

    in_its_order : InOrder its_setting added
    in_its_order = added_so old new added (RunsInOrder its_script) is (run_in_order its_script AnyFiles (trace old []) (trace new picks) answered as_it_was) o.before.files o.before.held

    -- .. of any devices that it may have been over
    all_committed : CommitsEach script added
    all_committed files held =
        let ends : List (Option CutAt) = (progress (setting_of script files held) added).cuts in
        let form_as_cut : IsFormOfInclusion (as_cut ends script) = inclusion_as_cut ends script form in
        added_so old new added (CommitsIn (as_cut ends script) checked (lives_over (as_cut ends script) form_as_cut checked)) is
        (run_commits (as_cut ends script) checked (lives_over (as_cut ends script) form_as_cut checked) AnyFiles (trace old []) (trace new picks) answered (lines_cut script files held answered old new added is AnyFiles picks run)) files held

    begun_shown : Shown added
    begun_shown = record {
      ends = subst (λ (c : Option Fault). EndsScript c answered added o.disk_rose o.secrets_rose) (sym checked) run_ended;
      found = λ told here. run_found script form bytes checked answered o.before.files o.now.files o.before.held o.now.held old new added o.disk_rose o.secrets_rose is run_ended (runs told here o.now.files (left (disk_of told)));
      skips = if_err answered (BlamesOnlySkips its_setting o.before.image (cuts_in its_setting added)) (λ its. o.tells → BlamesOnlySkips its_setting o.before.image (cuts_in its_setting added) its) (λ its blames told. blames)
          (run_skips script form checked bytes o.before.files o.before.image o.before.held answered old new added is picks as_it_was);
      kept = begun_keeps script form checked bytes o disk_of answered old new added is runs itself left;
      answers = all_answered;
      offers = begun_offers script form checked bytes o disk_of answered old new added is runs itself left;
      requests = added_so old new added (AnswersSo script) is (run_answers script checked (lives_over script form checked) AnyFiles (trace old []) (trace new picks) answered run);
      leaves = added_so old new added (LeavesSo script) is (run_leaves script checked (lives_over script form checked) AnyFiles (trace old []) (trace new picks) answered run);
      paths = begun_paths script form checked bytes o disk_of answered old new added is runs itself left in_its_order;
      commits = all_committed;
      shares = begun_commits script form checked bytes o disk_of answered old new added is runs itself left;
      exactly = begun_exactly script form checked bytes o disk_of answered old new added is runs itself left in_its_order;
      complete = completed answered all_completed;
      gives_back = λ told. record {
        fit = fits told;
        unblamed = clean told;
        firm = firm told;
        plan = begun_plans script form checked bytes o disk_of answered old new added is runs itself left told;
        whole = begun_whole script form checked bytes o disk_of answered old new added is runs itself left told;
        valid = begun_valid script form checked bytes o disk_of answered old new added is runs itself left told;
        valid_uncut = begun_valid_uncut script form checked bytes o disk_of answered old new added is runs itself left told;
      };
    }

  shown : (added : List Entry) → new ≡ old ++ added → (IsChecked script × AreBytes script.blocks) ⊎ ToldNone script answered old new (Unmoved o) → Shown added
  shown added is (inl begun) = begun_shown begun.0 begun.1 added is
  shown added is (inr none) = none_shown added is none

  whole : (added : List Entry) → new ≡ old ++ added → RunsInOrder script added → Shown added → Promised script o answered added
  whole added is ordered its = record {
    in_order = ordered;
    all = all_run script old new picks answered added is run;
    ends = its.ends;
    blamed = λ checked. added_so old new added (BlamesSo script) is (run_blames script checked (lives_over script form checked) AnyFiles (trace old []) (trace new picks) answered run);
    corrupt = λ disk. each_told (IsFoundRecord (limit_in script) o.now.files) (refused_config script) answered added o.disk_rose o.secrets_rose its.ends
        (when_told answered o.disk_tells (IsFoundRecord (limit_in script) o.now.files) records disk);
    found = its.found;
    skips = its.skips;
    kept = its.kept;
    answered = its.answers;
    offers = its.offers;
    answers = its.requests;
    leaves = its.leaves;
    paths = its.paths;
    commits = its.commits;
    shares = its.shares;
    exactly = its.exactly;
    complete = its.complete;
    gives_back = its.gives_back;
  }

  pub promised : (IsChecked script × AreBytes script.blocks) ⊎ ToldNone script answered old new (Unmoved o) → Adds old new (Promised script o answered)
  promised begun =
      let its = run_in_order script AnyFiles (trace old []) (trace new picks) answered run in (its.0, its.1, whole its.0 its.1 its.2 (shown its.0 its.1 begun))
