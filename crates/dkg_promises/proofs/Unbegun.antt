-- A run of which no life began: memory ran out before the first, or the configuration is refused. All is as it was, and what is told is the refusal at most.
use Rattle.std.proofs.Common.{◌≡◌, ◌⊎◌, inl, inr, ℕ, Bool, List, [], ◌∷◌, ◌++◌, Option, Some, None, Result, Ok, Err, refl, sym, ◌∙◌, ap, subst, append-nil, length}
use Rattle.std.specs.Prelude.{Contains, IfErr, OnOk}
use Rattle.std.specs.FinMap.{get}
use Rattle.std.specs.List.{AllByRecursion}
use Rattle.std.proofs.lemmas.List.{append_cancel_left}
use Rattle.dkg_values.specs.declared.name.Name.TheVariants.{Plan}
use Rattle.dkg_journal.specs.DeviceCall.{DeviceCall}
use Rattle.dkg_journal.specs.Disk.{Lands}
use Rattle.dkg_journal.specs.Names.{Files}
use Rattle.dkg_journal.specs.Records.{entries}
use Rattle.dkg_journal.specs.declared.disk.Op.{Op}
use Rattle.dkg_secrets.specs.Secrets.{Secrets}
use Rattle.dkg_secrets.specs.declared.secrets.SecretOp.{SecretOp}
use Rattle.dkg_store.specs.Pairs.{IsWhole}
use Rattle.dkg_store.specs.Recorded.{restored_list}
use Rattle.dkg_infos.specs.declared.entry.Entry.{Entry}
use Rattle.dkg_infos.specs.declared.entry.Entry.TheVariants as entry
use Rattle.dkg_infos.specs.declared.entry.Restored.{Restored}
use Rattle.dkg_infos.specs.declared.fault.Fault.{Fault}
use Rattle.dkg_infos.specs.declared.fault.Fault.TheVariants.{NoMemory}
use Rattle.dkg_text.specs.declared.script.Script.{Script}
use Rattle.dkg_script.specs.AsCut.{setting_as_cut}
use Rattle.dkg_script.specs.Kept.{AllCurrent, Gives, IsSound, Kept}
use Rattle.dkg_script.specs.Position.{begun}
use Rattle.dkg_script.specs.Progress.{AtEachEntry, at_start, progress}
use Rattle.dkg_script.specs.Promise.{AreHonestStores, KeepsDealings, cuts_in}
use Rattle.dkg_script.specs.SameOffers.{SameOffers}
use Rattle.dkg_script.specs.Setting.{Setting, recovered_from, setting_of}
use Rattle.dkg_script.proofs.Listed.{gives_all}
use Rattle.dkg_script.proofs.EachEntry.{EachAfter, at_each}
use Rattle.dkg_promises.specs.Answers.{AnswersSo, IsAnswer, IsPathAnswer}
use Rattle.dkg_promises.specs.Complete.{IsSoundRun, IsValidAsCut}
use Rattle.dkg_script.specs.Ends.{EndsScript}
use Rattle.dkg_lives.specs.Epochs.{refused_config}
use Rattle.dkg_promises.specs.Found.{ShowsCause}
use Rattle.dkg_promises.specs.GivesBack.{HoldsValid, StaysValid}
use Rattle.dkg_promises.specs.Leaves.{LeavesSo}
use Rattle.dkg_lives.specs.Lives.{BeganNone, TellsEnd}
use Rattle.dkg_promises.specs.Over.{DevicesAround, over}
use Rattle.dkg_promises.specs.Refusals.{BlamesOnlySkips, IsRefusal}
use Rattle.dkg_promises.specs.SharesStand.{CommitsEach, TellsCommit}
use Rattle.dkg_lives.specs.Ways.{Trace, by_entries, trace}
use Rattle.dkg_lives.proofs.Checked.{refused_so}
use Rattle.dkg_lives.proofs.Currently.{current_all}
use Rattle.dkg_promises.proofs.Keeping.{history_of}
use Rattle.dkg_promises.proofs.Leaving.{scan_leaves}
use Rattle.dkg_promises.proofs.OfferedHalves.{all_of}
use Rattle.dkg_along.proofs.Used.{all_back}

-- Both devices stand as they stood.
pub record Unmoved (o : DevicesAround) : Type 0 where
  pub files : o.now.files ≡ o.before.files
  pub image : (c : Files) → o.now.image c → o.before.image c
  pub held : o.now.held ≡ o.before.held

pub unmoved : {D X : Type 0} (disk_tells : Bool) (files : D → Files) (image : D → Files → Type 0) (disk_faults : D → ℕ) (disk_made : D → D → List (DeviceCall Op) → Type 0) (secrets_tell : Bool) (held : X → Secrets) (secret_faults : X → ℕ)
    (secrets_made : X → X → List (DeviceCall SecretOp) → Type 0) (old now : D) (s then_s : X) → now ≡ old → then_s ≡ s
    → Unmoved (over disk_tells files image disk_faults disk_made secrets_tell held secret_faults secrets_made (old, s) (now, then_s))
unmoved {D} disk_tells files image disk_faults disk_made secrets_tell held secret_faults secrets_made old now s then_s same_disk same_secrets =
    record { files = ap files same_disk; image = λ c there. subst (λ (d : D). image d c) same_disk there; held = ap held same_secrets }

-- Memory ran out, or the refusal was told.
pub record ToldNone (script : Script) (answered : Result (Unit {0}) Fault) (old new : List Entry) (Same : Type 0) : Type 0 where
  pub why : ((answered ≡ Err NoMemory) × (new ≡ old)) ⊎ ((fault : Fault) × (refused_config script ≡ Some fault) × (answered ≡ Err fault) × (new ≡ old ++ entry.Fault fault ∷ []))
  pub same : Same

the_fault : {x y : Fault} → ◌≡◌ {A = Result (Unit {0}) Fault} (Err x) (Err y) → x ≡ y
the_fault e = cc

ok_err : {x : Fault} → ◌≡◌ {A = Result (Unit {0}) Fault} (Ok tt) (Err x) → ⊥
ok_err e = cc

-- where the lives were run to the last, they were begun
pub began_well : (script : Script) (Begun Same : Type 0) → Begun ⊎ BeganNone script (Ok tt) Same → Begun
began_well script Begun Same (inl begun) = begun
began_well script Begun Same (inr none) = by_why none.why
  where
    by_why : (◌≡◌ {A = Result (Unit {0}) Fault} (Ok tt) (Err NoMemory)) ⊎ ((fault : Fault) × (refused_config script ≡ Some fault) × (◌≡◌ {A = Result (Unit {0}) Fault} (Ok tt) (Err fault))) → Begun
    by_why (inl wants) = absurd (ok_err wants)
    by_why (inr (fault, refused, is)) = absurd (ok_err is)

-- .. and where a fault ended them, what it made of the lines
pub began_told : (script : Script) (its answered : Fault) (old mid new : List Entry) (picks : List ℕ) (Begun Devices Same : Type 0) → (Devices → Same) → TellsEnd by_entries (Err its) (Err answered) (trace mid picks) (trace new picks)
    → Begun ⊎ BeganNone script (Err its) (Devices × (mid ≡ old)) → Begun ⊎ ToldNone script (Err answered) old new Same
began_told script its answered old mid new picks Begun Devices Same so told (inl begun) = inl begun
began_told script its answered old mid new picks Begun Devices Same so told (inr none) = inr (record { why = by_why none.why told; same = so none.same.0 })
  where
    by_why : (◌≡◌ {A = Result (Unit {0}) Fault} (Err its) (Err NoMemory)) ⊎ ((fault : Fault) × (refused_config script ≡ Some fault) × (◌≡◌ {A = Result (Unit {0}) Fault} (Err its) (Err fault)))
        → TellsEnd by_entries (Err its) (Err answered) (trace mid picks) (trace new picks)
        → ((◌≡◌ {A = Result (Unit {0}) Fault} (Err answered) (Err NoMemory)) × (new ≡ old))
        ⊎ ((fault : Fault) × (refused_config script ≡ Some fault) × (◌≡◌ {A = Result (Unit {0}) Fault} (Err answered) (Err fault)) × (new ≡ old ++ entry.Fault fault ∷ []))
    by_why why (inl wants) = inl (wants.0, ap (λ (t : Trace). t.out) wants.1 ∙ none.same.1)
    by_why (inl memory) (inr tells) = absurd (tells.1 (the_fault memory))
    by_why (inr (fault, refused, is)) (inr tells) =
        let same : its ≡ fault = the_fault is in
        inr (fault, refused, tells.0 ∙ ap (λ (f : Fault). Err f) same, ap (λ (t : Trace). t.out) tells.2 ∙ ap (λ (out : List Entry). out ++ entry.Fault its ∷ []) none.same.1 ∙ ap (λ (f : Fault). old ++ entry.Fault f ∷ []) same)

-- DEALINGS that the devices hold are kept, where nothing is told of any

kept_still : (s : Setting) (image now : Files → Type 0) (held_now : Secrets) (added : List Entry) → AreHonestStores s image → ((c : Files) → now c → image c) → held_now ≡ s.secrets → EachAfter s (IsSound s) (at_start s) added
    → (progress s added).recorded ≡ restored_list (recovered_from s.files s.secrets) → Kept s added now held_now
kept_still s image now held_now added stores narrow held each same = record {
  each = at_each s (IsSound s) added each;
  durable = record {
    whole = λ c there. subst (λ (h : Secrets). IsWhole (entries c) h) (sym held) (subst (λ (f : Files). IsWhole (entries f) s.secrets) (sym (stores.nothing_loose.only c (narrow c there))) stores.whole);
    gives = λ c there. subst (λ (h : Secrets). Current (Gives (recovered_from c h))) (sym held) (subst (λ (f : Files). Current (Gives (recovered_from f s.secrets))) (sym (stores.nothing_loose.only c (narrow c there))) all);
  };
}
  where
    n : ℕ
    n = begun s (progress s added).cuts (length (progress s added).cuts) (progress s added).step

    Current : (Restored → Type 0) → Type 0
    Current P = AllCurrent n P (progress s added).recorded

    all : Current (Gives (recovered_from s.files s.secrets))
    all = subst (AllCurrent n (Gives (recovered_from s.files s.secrets))) (sym same) (current_all n (Gives (recovered_from s.files s.secrets)) (restored_list (recovered_from s.files s.secrets)) (gives_all (recovered_from s.files s.secrets)))

-- NOTHING IS OFFERED

abbrev IsSilent : Entry → Type 0
IsSilent (entry.Offer epoch player public private) = ⊥
IsSilent _ = Unit {0}

offers_none : (lines : List Entry) → AllByRecursion IsSilent lines → SameOffers lines
offers_none lines silent =
    record { one = λ epoch player public other_public private other_private here there. absurd (all_of IsSilent lines (entry.Offer epoch player public private) silent here) }

abbrev IsUncommitted : Entry → Type 0
IsUncommitted (entry.Committed epoch share) = ⊥
IsUncommitted _ = Unit {0}

-- THE CLAUSES

module _ (script : Script) (o : DevicesAround) (answered : Result (Unit {0}) Fault) (old new added : List Entry) (is : new ≡ old ++ added) (none : ToldNone script answered old new (Unmoved o)) where
  abbrev s : Setting
  s = setting_as_cut script o.before.files o.before.held added

  -- whatever holds of the two that may have been answered, and of what was added then
  by_why : (P : Result (Unit {0}) Fault → List Entry → Type 0) → P (Err NoMemory) [] → ((fault : Fault) → refused_config script ≡ Some fault → P (Err fault) (entry.Fault fault ∷ [])) → P answered added
  by_why P memory refusal = by_case none.why
    where
      none_added : new ≡ old → added ≡ []
      none_added same = append_cancel_left old added [] (sym is ∙ same ∙ sym (append-nil old))

      by_case : ((answered ≡ Err NoMemory) × (new ≡ old)) ⊎ ((fault : Fault) × (refused_config script ≡ Some fault) × (answered ≡ Err fault) × (new ≡ old ++ entry.Fault fault ∷ [])) → P answered added
      by_case (inl (answer, same)) = subst (λ (r : Result (Unit {0}) Fault). P r added) (sym answer) (subst (λ (es : List Entry). P (Err NoMemory) es) (sym (none_added same)) memory)
      by_case (inr (fault, refused, answer, told)) =
          subst (λ (r : Result (Unit {0}) Fault). P r added) (sym answer) (subst (λ (es : List Entry). P (Err fault) es) (sym (append_cancel_left old added (entry.Fault fault ∷ []) (sym is ∙ told))) (refusal fault refused))

  pub none_ends : EndsScript (refused_config script) answered added o.disk_rose o.secrets_rose
  none_ends = by_why (λ r es. EndsScript (refused_config script) r es o.disk_rose o.secrets_rose) (by_config (refused_config script))
      (λ fault refused. subst (λ (c : Option Fault). EndsScript c (Err fault) (entry.Fault fault ∷ []) o.disk_rose o.secrets_rose) (sym refused) (inl (refl, refl)))
    where
      by_config : (c : Option Fault) → EndsScript c (Err NoMemory) [] o.disk_rose o.secrets_rose
      by_config (Some its) = inr (refl, refl)
      by_config None = refl

  -- what was answered shows nothing of the devices, refuses no block, and is of no valid script
  pub none_shows : IfErr answered (ShowsCause script o.now.files o.now.held)
  none_shows = by_why (λ r es. IfErr r (ShowsCause script o.now.files o.now.held)) tt (λ fault refused. refused_so script fault refused (ShowsCause script o.now.files o.now.held) (λ cause. tt))

  pub none_skips : IfErr answered (λ its. o.tells → BlamesOnlySkips s o.before.image (cuts_in s added) its)
  none_skips = by_why (λ r es. IfErr r (λ its. o.tells → BlamesOnlySkips s o.before.image (cuts_in s added) its)) (λ told built honest refusal. absurd refusal)
      (λ fault refused told built honest refusal. absurd (refused_so script fault refused (λ its. IsRefusal its → ⊥) (λ cause no. no) refusal))

  pub none_completes : IfErr answered (λ its. IsSoundRun o (IsValidAsCut script added) → its ≡ NoMemory)
  none_completes = by_why (λ r es. IfErr r (λ its. IsSoundRun o (IsValidAsCut script added) → its ≡ NoMemory)) (λ sound. refl) (λ fault refused sound. absurd (none_some (sym sound.valid.checked ∙ refused)))
    where
      none_some : {x : Fault} → ◌≡◌ {A = Option Fault} None (Some x) → ⊥
      none_some e = cc

  pub none_answers : (A : Type 0) → OnOk answered A
  none_answers A = by_why (λ r es. OnOk r A) tt (λ fault refused. tt)

  -- nothing is recorded that wasn't
  recorded : (progress s added).recorded ≡ restored_list (recovered_from s.files s.secrets)
  unfolding progress
  recorded = by_why (λ r es. (progress s es).recorded ≡ restored_list (recovered_from s.files s.secrets)) refl (λ fault refused. refl)

  pub none_keeps : KeepsDealings script o.before.files o.before.held o.before.image o.now.image o.now.held added
  none_keeps built honest = (
    [],
    history_of s (cuts_in s added) built.form built.no_plan refl,
    kept_still s o.before.image o.now.image o.now.held added honest.stores none.same.image none.same.held (by_why (λ r es. EachAfter s (IsSound s) (at_start s) es) tt (λ fault refused. (tt, tt))) recorded,
  )

  pub none_offers : SameOffers added
  none_offers = offers_none added (by_why (λ r es. AllByRecursion IsSilent es) tt (λ fault refused. (tt, tt)))

  -- no request is answered
  pub none_answered : AnswersSo script added
  none_answered = by_why (λ r es. AnswersSo script es) (λ files held. at_each (setting_of script files held) (IsAnswer script) [] tt)
      (λ fault refused files held. at_each (setting_of script files held) (IsAnswer script) (entry.Fault fault ∷ []) (tt, tt))

  -- .. and none by a path
  pub none_paths : (s : Setting) → AtEachEntry s (IsPathAnswer s) added
  none_paths s = by_why (λ r es. AtEachEntry s (IsPathAnswer s) es) (at_each s (IsPathAnswer s) [] tt) (λ fault refused. at_each s (IsPathAnswer s) (entry.Fault fault ∷ []) (tt, tt))

  -- .. and nothing is committed
  pub none_commits : (So : ℕ → ℕ → Type 0) (epoch share : ℕ) → Contains added (entry.Committed epoch (Some share)) → So epoch share
  none_commits So epoch share has = absurd (all_of IsUncommitted added (entry.Committed epoch (Some share)) (by_why (λ r es. AllByRecursion IsUncommitted es) tt (λ fault refused. (tt, tt))) has)

  pub none_committed : (before after : List Entry) (epoch : ℕ) (share : Option ℕ) → added ≡ before ++ entry.Committed epoch share ∷ after → ⊥
  none_committed before after epoch share parts =
      (all_back IsUncommitted before (entry.Committed epoch share ∷ after) (subst (AllByRecursion IsUncommitted) parts (by_why (λ r es. AllByRecursion IsUncommitted es) tt (λ fault refused. (tt, tt))))).0

  pub none_tells : CommitsEach script added
  none_tells = by_why (λ r es. CommitsEach script es) (λ files held. (let t = setting_as_cut script files held [] in at_each t (TellsCommit t) [] tt))
      (λ fault refused files held. (let t = setting_as_cut script files held (entry.Fault fault ∷ []) in at_each t (TellsCommit t) (entry.Fault fault ∷ []) (tt, tt)))

  -- .. and none is left open
  pub none_left : LeavesSo script added
  none_left = by_why (λ r es. LeavesSo script es) (scan_leaves script None [] tt) (λ fault refused. scan_leaves script None (entry.Fault fault ∷ []) (tt, tt))

  -- .. and what the devices held they hold
  pub none_plans : Lands o.before.files o.before.image → (c : Files) → o.now.image c → get c Plan ≡ get o.before.files Plan
  none_plans lands c there = ap (λ (f : Files). get f Plan) (lands.only c (none.same.image c there))

  pub none_valid : (t : Setting) → StaysValid t o.before o.now
  none_valid t lands valid c there =
      subst (λ (h : Secrets). HoldsValid t c h) (sym none.same.held) (subst (λ (f : Files). HoldsValid t f o.before.held) (sym (lands.only c (none.same.image c there))) valid)

  pub none_whole : Lands o.before.files o.before.image → IsWhole (entries o.before.files) o.before.held → (c : Files) → o.now.image c → IsWhole (entries c) o.now.held
  none_whole lands whole c there =
      subst (λ (h : Secrets). IsWhole (entries c) h) (sym none.same.held) (subst (λ (f : Files). IsWhole (entries f) o.before.held) (sym (lands.only c (none.same.image c there))) whole)
