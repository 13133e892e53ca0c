-- Each answer of a run over devices that tell is from the path, where its script has a whole history and each dealing that was handed in has its private half.
use Rattle.std.proofs.Common.{◌≡◌, ◌<◌, ◌++◌, ◌∷◌, [], ℕ, false, List, Option, Some, Result, arith, sym, ◌∙◌, subst, append-nil, append_assoc}
use Rattle.std.specs.Prelude.{fold}
use Rattle.dkg_journal.specs.Names.{Files}
use Rattle.dkg_journal.specs.Records.{entries}
use Rattle.dkg_secrets.specs.Secrets.{Secrets}
use Rattle.dkg_infos.specs.declared.entry.Entry.{Entry}
use Rattle.dkg_infos.specs.declared.entry.Entry.TheVariants as entry
use Rattle.dkg_infos.specs.declared.fault.Fault.{Fault}
use Rattle.dkg_text.specs.declared.script.Life.{Life}
use Rattle.dkg_script.specs.Consistent.{MayEndSo}
use Rattle.dkg_script.specs.History.{IsWholeHistory, WasSeen}
use Rattle.dkg_script.specs.Order.{InOrder}
use Rattle.dkg_script.specs.Position.{begun_before}
use Rattle.dkg_script.specs.Progress.{AtEachEntry, at_start, progress, read}
use Rattle.dkg_script.specs.Setting.{CutAt, Setting, is_oneshot, life_at}
use Rattle.dkg_script.proofs.ScriptedCuts.{ends_as_scripted}
use Rattle.dkg_store.specs.Acts.{Held, at, moment}
use Rattle.dkg_store.specs.Pairs.{IsWhole}
use Rattle.dkg_core.specs.Seen.{Seen}
use Rattle.dkg_promises.specs.Answers.{IsPathAnswer}
use Rattle.dkg_lives.specs.Epochs.{IsLifeInForm}
use Rattle.dkg_lives.specs.Given.{lived}
use Rattle.dkg_lives.specs.Lives.{RunsOver, never}
use Rattle.dkg_lives.specs.Ways.{by_worlds}
use Rattle.dkg_promises.proofs.Keeping.{IsGivenSetting}
use Rattle.dkg_along.proofs.LifeSteps.{IsLifeOfSetting}
use Rattle.dkg_along.proofs.EntryLives.{EachTold, told_at}
use Rattle.dkg_along.proofs.LivesTold.{Anything}
use Rattle.dkg_promises.proofs.NotedFirst.{handed_noted}
use Rattle.dkg_promises.proofs.PathsTold.{FirstBetween, FirstHere, Nothing, PathEntry, PathsHere, path_leads, past_of}
use Rattle.dkg_promises.proofs.RecordsBeside.{IsFront, front_of}
use Rattle.dkg_promises.proofs.RunTold.{base_begins, begins, each_told, its_given, reshares}
use Rattle.dkg_along.proofs.ToldBeside.{BothBetween, BothHere, OfRests, OfSteps}
use Rattle.dkg_along.proofs.WorldLives.{IsCounted}

-- a line by which a step is counted, a life is cut, or a fault is told answers nothing
plain_path : (s : Setting) (ends : List (Option CutAt)) (marks : Type 0) (before : List Entry) (line : Entry) → IsCounted line → PathEntry s ends marks before line
plain_path s ends marks before (entry.Step step) counted = λ front. tt
plain_path s ends marks before (entry.Cut step call) counted = λ front. tt
plain_path s ends marks before (entry.Fault its) counted = λ front. tt
plain_path s ends marks before line counted = absurd counted

-- no life was before the first
pub none_seen : (s : Setting) (ends : List (Option CutAt)) (epoch height : ℕ) → WasSeen s ends 0 epoch height → ⊥
none_seen s ends epoch height seen = none seen.before seen.earlier
  where
    none : (a : ℕ) → a < 0 → ⊥
    none a low = omega (arith, low)

-- what follows of one image, where the entries tell that the script's lives ended so
module _ (s : Setting) (built : IsGivenSetting s) (no_plans : s.plans ≡ []) (whole : IsWhole (entries s.files) s.secrets) (answered : Result (Unit {0}) Fault) (old_out new_out added : List Entry) (secrets_now : Secrets)
    (is : new_out ≡ old_out ++ added) (history : IsWholeHistory s (progress s added).cuts) (ordered : InOrder s added) where
  abbrev cuts : List (Option CutAt)
  cuts = (progress s added).cuts

  abbrev may : MayEndSo s.script.lives cuts
  may = ends_as_scripted s added ordered

  abbrev reshare : is_oneshot s ≡ false
  reshare = reshares s built no_plans added history.consistent

  abbrev Given : Type 0
  Given = (l : ℕ) (life : Life) (seen : Held → Seen) (files : Files) → life_at s l ≡ Some life → by_worlds.reads seen → IsLifeInForm (lived s.script l life seen files) × IsLifeOfSetting s cuts (lived s.script l life seen files)

  abbrev lives_given : Given
  lives_given = its_given s built no_plans added history.consistent

  abbrev AllBetween : OfRests
  AllBetween = BothBetween s cuts reshare history.consistent lives_given Anything (FirstBetween s cuts reshare (past_of s cuts history) built.form built.bytes lives_given) (FirstHere s cuts reshare (past_of s cuts history) built.form built.bytes lives_given) (PathEntry s cuts)
      (Nothing s cuts reshare history built.form built.bytes may lives_given) (PathsHere s cuts reshare history built.form built.bytes may lives_given)

  abbrev AllHere : OfSteps s
  AllHere = BothHere s cuts reshare history.consistent lives_given Anything (FirstBetween s cuts reshare (past_of s cuts history) built.form built.bytes lives_given) (FirstHere s cuts reshare (past_of s cuts history) built.form built.bytes lives_given) (PathEntry s cuts)
      (Nothing s cuts reshare history built.form built.bytes may lives_given) (PathsHere s cuts reshare history built.form built.bytes may lives_given)

  -- the whole of it is in order, and tells how the lives ended
  whole_front : IsFront s cuts added
  unfolding InOrder progress
  whole_front = record { ordered = ordered; ends_so = ([], sym (append-nil (fold (read s) (at_start s) added).cuts)) }

  begins_so : AllBetween ⊥ 0 (begins s built no_plans added history.consistent old_out) []
  begins_so = (
    (base_begins s built no_plans added history.consistent ⊥ old_out whole (λ no. absurd no), λ front. handed_noted s (begun_before s [] 0) (WasSeen s cuts 0) (none_seen s cuts) history.logs),
    tt,
  )

  pub paths_of : (c : Files) → RunsOver s.script answered s.files (at (moment old_out s.secrets never) s.files) (λ f. at (moment new_out secrets_now f) c) → AtEachEntry s (IsPathAnswer s) added
  unfolding progress
  paths_of c run before one after parts =
      told_at s (PathEntry s cuts) before one after ⊥ []
      (subst (EachTold s (PathEntry s cuts) ⊥ []) parts
      (each_told s built no_plans added history.consistent (PathEntry s cuts) AllBetween AllHere (plain_path s cuts)
      (λ l life seen files life_is reads its_cuts back. path_leads s cuts reshare history built.form built.bytes may lives_given l life seen files life_is reads its_cuts back) ⊥ answered old_out new_out secrets_now is begins_so c run))
      (front_of s cuts (before ++ one ∷ []) after (subst (IsFront s cuts) (parts ∙ sym (append_assoc before (one ∷ []) after)) whole_front))
