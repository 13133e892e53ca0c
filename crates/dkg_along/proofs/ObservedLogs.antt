-- A block of the chain that a life includes is looked at: what it brings is recorded, unless one of its dealer is.
use Rattle.std.proofs.Common.{◌≡◌, ◌<◌, ◌≤◌, ◌&&◌, ℕ, Bool, true, false, nat_le, Option, Some, None, arith, refl, sym, ◌∙◌, ap, subst}
use Rattle.std.specs.Prelude.{is_some, nat_lt, option_and_then, if◌then◌else◌}
use Rattle.std.proofs.lemmas.Bool.Decides.{nat_tests}
use Rattle.dkg_values.specs.Rising.{index_of}
use Rattle.dkg_ceremony.specs.Schedule.{last, midpoint}
use Rattle.dkg_ceremony.specs.ValidLogs.{check_log_of}
use Rattle.dkg_ceremony.specs.declared.dealer_log.DealerLog.{DealerLog}
use Rattle.dkg_ceremony.specs.declared.round.RoundParts.{RoundParts as Round}
use Rattle.dkg_ceremony.specs.declared.signed_log.SignedDealerLog.{SignedDealerLog}
use Rattle.dkg_journal.specs.Names.{Files}
use Rattle.dkg_store.specs.Acts.{Held}
use Rattle.dkg_types.specs.Blocks as made
use Rattle.dkg_types.specs.Paths.{log_counts}
use Rattle.dkg_types.specs.PayloadCodes.{its_log}
use Rattle.dkg_infos.specs.Units.{unit_spelling}
use Rattle.dkg_infos.specs.declared.directory.Unit as directory
use Rattle.dkg_text.specs.declared.script.Life.{Life}
use Rattle.dkg_script.specs.Blocks.{ScriptBlock, chain}
use Rattle.dkg_script.specs.Setting.{Setting, blocks_per_epoch}
use Rattle.dkg_script.specs.Views.{seen_block}
use Rattle.dkg_core.specs.Fixed.{Fixed}
use Rattle.dkg_core.specs.Live.{Live, recorded_at}
use Rattle.dkg_core.specs.Logs.{is_accepted, recorded_log}
use Rattle.dkg_laws.specs.LogsRecorded.{first_of_both}
use Rattle.dkg_core.specs.Seen.{Seen}
use Rattle.dkg_lives.specs.Given.{at_step, lived}
use Rattle.dkg_lives.proofs.ChainLogs.{brings_of, counted_at}
use Rattle.dkg_lives.proofs.GrowingLogs.{IsLookedAt}
use Rattle.dkg_lives.proofs.LogsBehind.{HasObserved, log_recorded, others_stay}

some_is : {A : Type 0} {x y : A} → ◌≡◌ {A = Option A} (Some x) (Some y) → x ≡ y
some_is e = cc

none_some : {A : Type 0} {x : A} → ◌≡◌ {A = Option A} None (Some x) → ⊥
none_some e = cc

two_last : (a b p q : Bool) → (a && b && p && q) ≡ true → (p && q) ≡ true
two_last true true p q e = e
two_last true false p q e = absurd (let no : false ≡ true = e in cc)
two_last false b p q e = absurd (let no : false ≡ true = e in cc)

all_four : (a b p q : Bool) → a ≡ true → b ≡ true → (p && q) ≡ true → (a && b && p && q) ≡ true
all_four a b p q one two rest = rw (one, two) rest

module _ (s : Setting) (l : ℕ) (life : Life) (seen : Held → Seen) (files : Files) (taken : ℕ) (b : made.Block directory.Unit) (round : Round) where
  abbrev c : Fixed directory.Unit
  c = at_step (lived s.script l life seen files) taken

  abbrev epoch : ℕ
  epoch = round.number

  module _ (on_chain : chain s b.height ≡ Some (seen_block unit_spelling b)) (late : midpoint (blocks_per_epoch s) epoch ≤ b.height) (below : b.height < last (blocks_per_epoch s) epoch) where
    abbrev carried : Option SignedDealerLog
    carried = option_and_then its_log b.payload

    brings_here : brings_of s epoch round b.height ≡ counted_at s epoch round b.height carried
    brings_here = ap (option_and_then (λ (x : ScriptBlock). counted_at s epoch round b.height x.log)) on_chain

    -- a log counts where it is accepted
    accepted_counts : (log : SignedDealerLog) → is_accepted c round log ≡ true → log_counts check_log_of (midpoint (blocks_per_epoch s) epoch) (last (blocks_per_epoch s) epoch) round (b.height, log) ≡ true
    unfolding at_step
    accepted_counts log accepted =
        all_four (nat_le (midpoint (blocks_per_epoch s) epoch) b.height) (nat_lt b.height (last (blocks_per_epoch s) epoch)) (is_some (index_of log.dealer round.dealers)) (check_log_of round log)
        (is_le (midpoint (blocks_per_epoch s) epoch) b.height late) (is_lt b.height (last (blocks_per_epoch s) epoch) below) accepted
      where
        is_le : (x y : ℕ) → x ≤ y → nat_le x y ≡ true
        is_le x y low = grind (arith, nat_tests)

        is_lt : (x y : ℕ) → x < y → nat_lt x y ≡ true
        is_lt x y low = grind (arith, nat_tests)

    counts_accepted : (log : SignedDealerLog) → log_counts check_log_of (midpoint (blocks_per_epoch s) epoch) (last (blocks_per_epoch s) epoch) round (b.height, log) ≡ true → is_accepted c round log ≡ true
    unfolding at_step
    counts_accepted log counted =
        two_last (nat_le (midpoint (blocks_per_epoch s) epoch) b.height) (nat_lt b.height (last (blocks_per_epoch s) epoch)) (is_some (index_of log.dealer round.dealers)) (check_log_of round log) counted

    -- .. so the chain brings it here
    pub brings_accepted : (log : SignedDealerLog) → carried ≡ Some log → is_accepted c round log ≡ true → brings_of s epoch round b.height ≡ Some (log.dealer, log.log)
    brings_accepted log there accepted =
        brings_here ∙ ap (counted_at s epoch round b.height) there ∙ ap (λ (t : Bool). if t then Some (log.dealer, log.log) else None) (accepted_counts log accepted)

    module _ (st end : Live directory.Unit) (its : HasObserved c st b end) (same : its.round ≡ round) (Early : ℕ → Type 0) where
      noted : (log : SignedDealerLog) → carried ≡ Some log → is_accepted c round log ≡ true
          → recorded_at end.records.logs epoch log.dealer ≡ Some (first_of_both (recorded_at st.records.logs epoch log.dealer) (recorded_log b.height log.log))
      noted log there accepted =
          subst (λ (r : Round). recorded_at end.records.logs r.number log.dealer ≡ Some (first_of_both (recorded_at st.records.logs r.number log.dealer) (recorded_log b.height log.log))) same
          (log_recorded c st b end its log there (subst (λ (r : Round). is_accepted c r log ≡ true) (sym same) accepted))

      brought : (dealer : ℕ) (log : DealerLog) → brings_of s epoch round b.height ≡ Some (dealer, log)
          → recorded_at end.records.logs epoch dealer ≡ Some (first_of_both (recorded_at st.records.logs epoch dealer) (recorded_log b.height log))
      brought dealer log is = by_log carried refl (sym brings_here ∙ is)
        where
          by_log : (o : Option SignedDealerLog) → carried ≡ o → counted_at s epoch round b.height o ≡ Some (dealer, log)
              → recorded_at end.records.logs epoch dealer ≡ Some (first_of_both (recorded_at st.records.logs epoch dealer) (recorded_log b.height log))
          by_log None there none = absurd (none_some none)
          by_log (Some signed) there found = by_test (log_counts check_log_of (midpoint (blocks_per_epoch s) epoch) (last (blocks_per_epoch s) epoch) round (b.height, signed)) refl found
            where
              by_test : (t : Bool) → log_counts check_log_of (midpoint (blocks_per_epoch s) epoch) (last (blocks_per_epoch s) epoch) round (b.height, signed) ≡ t
                  → ◌≡◌ {A = Option (ℕ × DealerLog)} (if t then Some (signed.dealer, signed.log) else None) (Some (dealer, log))
                  → recorded_at end.records.logs epoch dealer ≡ Some (first_of_both (recorded_at st.records.logs epoch dealer) (recorded_log b.height log))
              by_test true counted found =
                  let pair : ◌≡◌ {A = ℕ × DealerLog} (signed.dealer, signed.log) (dealer, log) = some_is found in
                  subst (λ (p : ℕ × DealerLog). recorded_at end.records.logs epoch p.0 ≡ Some (first_of_both (recorded_at st.records.logs epoch p.0) (recorded_log b.height p.1))) pair
                  (noted signed there (counts_accepted signed counted))
              by_test false counted none = absurd (none_some none)

      others : (dealer : ℕ) → ((log : DealerLog) → brings_of s epoch round b.height ≡ Some (dealer, log) → ⊥) → recorded_at end.records.logs epoch dealer ≡ recorded_at st.records.logs epoch dealer
      others dealer none = others_stay c st b end its epoch dealer (λ log there accepted at.
          none log.log
          (brings_accepted log there (subst (λ (r : Round). is_accepted c r log ≡ true) same accepted) ∙ ap (λ (d : ℕ). Some (d, log.log)) (sym (ap (λ (p : ℕ × ℕ). p.1) at))))

      pub looked_at : IsLookedAt (brings_of s epoch round) Early (λ d. recorded_at st.records.logs epoch d) (λ d. recorded_at end.records.logs epoch d) b.height
      looked_at = record { brought = brought; others = others }
