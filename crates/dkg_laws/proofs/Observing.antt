-- What a look at a block's log leaves of what is recorded in memory.
use Rattle.std.proofs.Common.{◌≡◌, ℕ, Bool, true, false, cond, List, Option, Some, None, refl, sym, ◌∙◌, ap, subst}
use Rattle.std.specs.Prelude.{◌==◌, if◌then◌else◌, is_some, option_and_then, option_map}
use Rattle.std.specs.Ordering.{is_eq}
use Rattle.std.specs.FinMap.{find, put}
use Rattle.std.specs.FinMap.Entries.{find-put}
use Rattle.std.proofs.lemmas.Cmp.{tied_itself}
use Rattle.dkg_ceremony.specs.declared.round.RoundParts.{RoundParts as Round}
use Rattle.dkg_ceremony.specs.declared.signed_log.SignedDealerLog.{SignedDealerLog}
use Rattle.dkg_types.specs.Blocks.{Block}
use Rattle.dkg_types.specs.PayloadCodes.{its_log}
use Rattle.dkg_secrets.specs.Keys.{key_cmp}
use Rattle.dkg_secrets.proofs.Map.{keys_total, exact_keys, apart_tie}
use Rattle.dkg_store.specs.declared.recorded_log.RecordedLog.{RecordedLog}
use Rattle.dkg_core.specs.Fixed.{Fixed}
use Rattle.dkg_core.specs.Live.{Live, recorded_at, with_participation}
use Rattle.dkg_core.specs.Logs.{is_accepted, recorded_log}
use Rattle.dkg_core.specs.Blocks as b
use Rattle.dkg_core.specs.Through.{observed_log}
use Rattle.dkg_core.proofs.Counting.{some_is}
use Rattle.dkg_laws.specs.LogsRecorded.{first_of_both, ObservesFirst, ObservesNothingElse}

-- A LIST BY KEY

module _ (logs : List ((ℕ × ℕ) × RecordedLog)) (key : ℕ × ℕ) (log : RecordedLog) where
  put_here : find key_cmp key (put key_cmp key log logs) ≡ Some log
  put_here = find-put key_cmp keys_total key key log logs ∙ ap (λ (t : Bool). cond t (Some log) (find key_cmp key logs)) (ap is_eq (tied_itself keys_total key))

  put_other : (other : ℕ × ℕ) → (other ≡ key → ⊥) → find key_cmp other (put key_cmp key log logs) ≡ find key_cmp other logs
  put_other other apart =
      find-put key_cmp keys_total other key log logs ∙ ap (λ (t : Bool). cond t (Some log) (find key_cmp other logs)) (apart_tie keys_total exact_keys other key apart)

-- A LOOK

module _ {Dir : Type 0} (c : Fixed Dir) (round : Round) (block : Block Dir) (st : Live Dir) where
  abbrev logs_behind : Live Dir → List ((ℕ × ℕ) × RecordedLog)
  logs_behind now = now.records.logs

  -- the own log is offered no more, which leaves what is recorded
  own_aside : (log : SignedDealerLog) (now : Live Dir) → (b.without_own_log c log.dealer now).records.logs ≡ now.records.logs
  own_aside log now = either (log.dealer == c.me)
    where
      either : (t : Bool) → (if t then with_participation (record now.participation { dealer = option_map b.unoffered now.participation.dealer }) now else now).records.logs ≡ now.records.logs
      either true = refl
      either false = refl

  module _ (log : SignedDealerLog) where
    abbrev its_key : ℕ × ℕ
    its_key = (round.number, log.dealer)

    abbrev now_recorded : RecordedLog
    now_recorded = recorded_log block.height log.log

    abbrev looked : Bool → Live Dir
    looked kept = if kept then st else b.with_log_at round.number log.dealer block.height log.log st

    first_in : (found : Option RecordedLog) → recorded_at st.records.logs round.number log.dealer ≡ found
        → recorded_at (looked (is_some found)).records.logs round.number log.dealer ≡ Some (first_of_both found now_recorded)
    first_in None is = put_here st.records.logs its_key now_recorded
    first_in (Some before) is = is

    first_so : (accepted : Bool) → accepted ≡ true
        → recorded_at (if accepted then b.without_own_log c log.dealer (looked (is_some (recorded_at st.records.logs round.number log.dealer))) else st).records.logs round.number log.dealer
        ≡ Some (first_of_both (recorded_at st.records.logs round.number log.dealer) now_recorded)
    first_so true is =
        ap (λ (logs : List ((ℕ × ℕ) × RecordedLog)). recorded_at logs round.number log.dealer) (own_aside log (looked (is_some (recorded_at st.records.logs round.number log.dealer))))
        ∙ first_in (recorded_at st.records.logs round.number log.dealer) refl
    first_so false is = absurd (let no : ◌≡◌ {A = Bool} false true = is in cc)

    other_in : (kept : Bool) (epoch dealer : ℕ) → (◌≡◌ {A = ℕ × ℕ} (epoch, dealer) its_key → ⊥) → recorded_at (looked kept).records.logs epoch dealer ≡ recorded_at st.records.logs epoch dealer
    other_in true epoch dealer apart = refl
    other_in false epoch dealer apart = put_other st.records.logs its_key now_recorded (epoch, dealer) apart

    other_so : (accepted : Bool) (epoch dealer : ℕ) → (accepted ≡ true → ◌≡◌ {A = ℕ × ℕ} (epoch, dealer) its_key → ⊥)
        → recorded_at (if accepted then b.without_own_log c log.dealer (looked (is_some (recorded_at st.records.logs round.number log.dealer))) else st).records.logs epoch dealer
        ≡ recorded_at st.records.logs epoch dealer
    other_so true epoch dealer apart =
        ap (λ (logs : List ((ℕ × ℕ) × RecordedLog)). recorded_at logs epoch dealer) (own_aside log (looked (is_some (recorded_at st.records.logs round.number log.dealer))))
        ∙ other_in (is_some (recorded_at st.records.logs round.number log.dealer)) epoch dealer (apart refl)
    other_so false epoch dealer apart = refl

  by_log : (found : Option SignedDealerLog) (log : SignedDealerLog) → found ≡ Some log → is_accepted c round log ≡ true
      → recorded_at (observed_log c round block st found).records.logs round.number log.dealer ≡ Some (first_of_both (recorded_at st.records.logs round.number log.dealer) (recorded_log block.height log.log))
  by_log None log is accepted = absurd (let no : ◌≡◌ {A = Option SignedDealerLog} None (Some log) = is in cc)
  by_log (Some its) log is accepted =
      subst (λ (x : SignedDealerLog). recorded_at (observed_log c round block st (Some x)).records.logs round.number log.dealer
      ≡ Some (first_of_both (recorded_at st.records.logs round.number log.dealer) (recorded_log block.height log.log))) (sym (some_is its log is)) (first_so log (is_accepted c round log) accepted)

  other_log : (found : Option SignedDealerLog) (epoch dealer : ℕ) → ((log : SignedDealerLog) → found ≡ Some log → is_accepted c round log ≡ true → ◌≡◌ {A = ℕ × ℕ} (epoch, dealer) (round.number, log.dealer) → ⊥)
      → recorded_at (observed_log c round block st found).records.logs epoch dealer ≡ recorded_at st.records.logs epoch dealer
  other_log None epoch dealer apart = refl
  other_log (Some log) epoch dealer apart = other_so log (is_accepted c round log) epoch dealer (λ accepted. apart log refl accepted)

pub observes_first : {Dir : Type 0} → ObservesFirst Dir
observes_first c round block st log carried accepted = by_log c round block st (option_and_then its_log block.payload) log carried accepted

pub observes_nothing_else : {Dir : Type 0} → ObservesNothingElse Dir
observes_nothing_else c round block st epoch dealer apart = other_log c round block st (option_and_then its_log block.payload) epoch dealer apart
