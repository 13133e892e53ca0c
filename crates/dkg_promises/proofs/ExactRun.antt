-- Each share that a run over devices that tell commits stands exactly, where its script has a whole past, last blocks carry what their chain makes, and the devices that were handed in are whole and their shares fit.
use Rattle.std.proofs.Common.{◌≡◌, inl, inr, ◌+◌, ◌++◌, ◌∷◌, [], ℕ, false, List, Option, Some, None, Result, refl, sym, ◌∙◌, subst, append-nil, append_assoc}
use Rattle.std.specs.Prelude.{fold, IsSomeAnd}
use Rattle.dkg_journal.specs.Names.{Files}
use Rattle.dkg_journal.specs.Records.{entries}
use Rattle.dkg_secrets.specs.Secrets.{Secrets}
use Rattle.dkg_infos.specs.declared.entry.Entry.{Entry}
use Rattle.dkg_infos.specs.declared.entry.Entry.TheVariants as entry
use Rattle.dkg_infos.specs.declared.fault.Fault.{Fault}
use Rattle.dkg_infos.specs.declared.outcome.EpochOutcome.{EpochOutcome}
use Rattle.dkg_infos.specs.declared.outcome.EpochOutcome.TheVariants.{Success, Failure}
use Rattle.dkg_text.specs.declared.script.Life.{Life}
use Rattle.dkg_script.specs.Blocks.{known_info}
use Rattle.dkg_script.specs.Consistent.{MayEndSo}
use Rattle.dkg_script.specs.History.{WasSeen}
use Rattle.dkg_script.specs.Order.{InOrder}
use Rattle.dkg_script.specs.OwnMarks.{AreKnownHandedIn, OwnMarks}
use Rattle.dkg_script.specs.Position.{begun_before}
use Rattle.dkg_script.specs.Progress.{at_start, progress, read}
use Rattle.dkg_script.specs.Readings.{Info}
use Rattle.dkg_script.specs.Setting.{CutAt, Setting, is_oneshot, life_at}
use Rattle.dkg_script.proofs.ScriptedCuts.{ends_as_scripted}
use Rattle.dkg_store.specs.Acts.{Held, at, moment}
use Rattle.dkg_store.specs.Pairs.{IsWhole}
use Rattle.dkg_core.specs.Seen.{Seen}
use Rattle.dkg_core.specs.Storing.{ReadsSecrets}
use Rattle.dkg_lives.specs.Epochs.{IsLifeInForm}
use Rattle.dkg_lives.specs.Given.{lived}
use Rattle.dkg_promises.specs.GivesBack.{SharesFitInfos}
use Rattle.dkg_lives.specs.Lives.{RunsOver, never}
use Rattle.dkg_promises.specs.SharesStand.{EndsEpoch, EndsHonestly, IsWholePast, StandsBy, StandsSo}
use Rattle.dkg_lives.specs.Ways.{by_worlds}
use Rattle.dkg_promises.proofs.ExactSteps.{ExactBetween}
use Rattle.dkg_promises.proofs.ExactTold.{ExactEntry, SharesBetween, SharesHere, exact_leads}
use Rattle.dkg_promises.proofs.Keeping.{IsGivenSetting}
use Rattle.dkg_along.proofs.LifeSteps.{IsLifeOfSetting}
use Rattle.dkg_along.proofs.EntryLives.{EachTold, KnownAfter, known_of, told_at}
use Rattle.dkg_along.proofs.LivesTold.{Anything}
use Rattle.dkg_along.proofs.MarksAt.{handed_known}
use Rattle.dkg_promises.proofs.NotedFirst.{handed_noted}
use Rattle.dkg_promises.proofs.OfferedHalves.{all_of}
use Rattle.dkg_promises.proofs.PathsRun.{none_seen}
use Rattle.dkg_promises.proofs.PathsTold.{FirstBetween, FirstHere}
use Rattle.dkg_promises.proofs.RecordsBeside.{IsFront, front_of}
use Rattle.dkg_promises.proofs.RunTold.{base_begins, begins, each_told, its_given, reshares}
use Rattle.dkg_along.proofs.ToldBeside.{BothBetween, BothHere, OfRests, OfSteps}
use Rattle.dkg_along.proofs.WorldLives.{IsCounted}

-- it is so where more is known of marks
by_marks : (s : Setting) (before : List Entry) (epoch : ℕ) (share : Option ℕ) (honest known more : Type 0) → (more → known) → (o : Option Info)
    → IsSomeAnd o (λ info. StandsSo s before epoch share honest known info.outcome) → IsSomeAnd o (λ info. StandsSo s before epoch share honest more info.outcome)
by_marks s before epoch share honest known more less None none = none
by_marks s before epoch share honest known more less (Some info) (part, is_set_up, only, stands) = (part, is_set_up, only, λ it_is. by_outcome info.outcome (stands it_is))
  where
    by_outcome : (outcome : EpochOutcome) → StandsBy s before epoch part share known outcome → StandsBy s before epoch part share more outcome
    by_outcome Success so = λ its. so (less its)
    by_outcome Failure so = so

-- a line by which a step is counted, a life is cut, or a fault is told commits nothing
plain_exact : (s : Setting) (ends : List (Option CutAt)) (marks : Type 0) (before : List Entry) (line : Entry) → IsCounted line → ExactEntry s ends marks before line
plain_exact s ends marks before (entry.Step step) counted = λ front. tt
plain_exact s ends marks before (entry.Cut step call) counted = λ front. tt
plain_exact s ends marks before (entry.Fault its) counted = λ front. tt
plain_exact s ends marks before line counted = absurd counted

module _ (s : Setting) (built : IsGivenSetting s) (no_plans : s.plans ≡ []) (whole : IsWhole (entries s.files) s.secrets) (fit : SharesFitInfos s s.secrets) (secrets : (seen : Held → Seen) → by_worlds.reads seen → ReadsSecrets seen)
    (answered : Result (Unit {0}) Fault) (old_out new_out added : List Entry) (secrets_now : Secrets) (is : new_out ≡ old_out ++ added) (history : IsWholePast s (progress s added).cuts)
    (ordered : InOrder s added) where
  abbrev cuts : List (Option CutAt)
  cuts = (progress s added).cuts

  abbrev may : MayEndSo s.script.lives cuts
  may = ends_as_scripted s added ordered

  abbrev reshare : is_oneshot s ≡ false
  reshare = reshares s built no_plans added history.consistent

  abbrev Given : Type 0
  Given = (l : ℕ) (life : Life) (seen : Held → Seen) (files : Files) → life_at s l ≡ Some life → by_worlds.reads seen → IsLifeInForm (lived s.script l life seen files) × IsLifeOfSetting s cuts (lived s.script l life seen files)

  abbrev lives_given : Given
  lives_given = its_given s built no_plans added history.consistent

  abbrev AllBetween : OfRests
  AllBetween = BothBetween s cuts reshare history.consistent lives_given Anything (FirstBetween s cuts reshare history built.form built.bytes lives_given) (FirstHere s cuts reshare history built.form built.bytes lives_given) (ExactEntry s cuts)
      (SharesBetween s cuts reshare history built.form built.bytes may secrets lives_given) (SharesHere s cuts reshare history built.form built.bytes may secrets lives_given)

  abbrev AllHere : OfSteps s
  AllHere = BothHere s cuts reshare history.consistent lives_given Anything (FirstBetween s cuts reshare history built.form built.bytes lives_given) (FirstHere s cuts reshare history built.form built.bytes lives_given) (ExactEntry s cuts)
      (SharesBetween s cuts reshare history built.form built.bytes may secrets lives_given) (SharesHere s cuts reshare history built.form built.bytes may secrets lives_given)

  -- the whole of it is in order, and tells how the lives ended
  whole_front : IsFront s cuts added
  unfolding InOrder progress
  whole_front = record { ordered = ordered; ends_so = ([], sym (append-nil (fold (read s) (at_start s) added).cuts)) }

  -- the shares that were handed in are those that are held
  shares_begin : ExactBetween s (begins s built no_plans added history.consistent old_out) []
  shares_begin = record {
    shares = λ epoch share got info known. fit epoch share info got known;
    held = record {
      sound = λ epoch some. inl (inl some);
      kept = λ epoch left told. elim told [
        | inl handed ↦ handed
        | inr tells ↦ absurd (all_of (λ line. ⊥) [] (entry.Committed epoch (Some tells.0)) tt tells.1)
      ];
    };
  }

  begins_so : AllBetween (AreKnownHandedIn s) 0 (begins s built no_plans added history.consistent old_out) []
  begins_so = (
    (base_begins s built no_plans added history.consistent (AreKnownHandedIn s) old_out whole (handed_known s (begun_before s [] 0)), λ front. handed_noted s (begun_before s [] 0) (WasSeen s cuts 0) (none_seen s cuts) history.logs),
    shares_begin,
  )

  pub exactly_of : (c : Files) → RunsOver s.script answered s.files (at (moment old_out s.secrets never) s.files) (λ f. at (moment new_out secrets_now f) c) → (before after : List Entry) (epoch : ℕ) (share : Option ℕ)
      → added ≡ before ++ entry.Committed (epoch + 1) share ∷ after → (ends_it : EndsEpoch s (progress s before) epoch)
      → IsSomeAnd (known_info s (epoch + 1)) (λ info. StandsSo s before epoch share (EndsHonestly s (progress s before) epoch ends_it) (OwnMarks s before) info.outcome)
  unfolding progress
  exactly_of c run before after epoch share parts ends_it =
      by_marks s before epoch share (EndsHonestly s (progress s before) epoch ends_it) (KnownAfter s (AreKnownHandedIn s) [] before) (OwnMarks s before)
      (λ own. known_of s before (AreKnownHandedIn s) [] own.handed_in (λ earlier one later split. own.delivered earlier one later split)) (known_info s (epoch + 1))
      (told_at s (ExactEntry s cuts) before (entry.Committed (epoch + 1) share) after (AreKnownHandedIn s) []
      (subst (EachTold s (ExactEntry s cuts) (AreKnownHandedIn s) []) parts
      (each_told s built no_plans added history.consistent (ExactEntry s cuts) AllBetween AllHere (plain_exact s cuts)
      (λ l life seen files life_is reads its_cuts back. exact_leads s cuts reshare history built.form built.bytes may secrets lives_given l life seen files life_is reads its_cuts back) (AreKnownHandedIn s) answered old_out new_out secrets_now is begins_so c
      run))
      (front_of s cuts (before ++ entry.Committed (epoch + 1) share ∷ []) after (subst (IsFront s cuts) (parts ∙ sym (append_assoc before (entry.Committed (epoch + 1) share ∷ []) after)) whole_front)) epoch refl ends_it)
