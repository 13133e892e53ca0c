-- What devices note of dealers' logs, over lives: each is the chain's first log of its dealer, and the first logs of the heights that were seen are there.
use Rattle.std.proofs.Common.{◌≡◌, ◌⊎◌, inl, inr, ◌<◌, ◌≤◌, ◌+◌, ◌&&◌, ℕ, Bool, true, false, nat_le, Option, Some, None, arith, refl, sym, ◌∙◌, ap, subst}
use Rattle.std.specs.Prelude.{is_some, nat_lt, option_and_then, IsSome, if◌then◌else◌}
use Rattle.std.specs.FinMap.{get}
use Rattle.std.proofs.lemmas.Bool.Decides.{nat_tests}
use Rattle.dkg_values.specs.Rising.{index_of}
use Rattle.dkg_ceremony.specs.Schedule.{last, midpoint}
use Rattle.dkg_ceremony.specs.ValidLogs.{check_log_of}
use Rattle.dkg_ceremony.specs.declared.dealer_log.DealerLog.{DealerLog}
use Rattle.dkg_ceremony.specs.declared.round.RoundParts.{RoundParts as Round}
use Rattle.dkg_ceremony.specs.declared.signed_log.SignedDealerLog.{SignedDealerLog}
use Rattle.dkg_journal.specs.Records.{entries}
use Rattle.dkg_store.specs.Noted.{Notes, logs_in}
use Rattle.dkg_store.specs.declared.recorded_log.RecordedLog.{RecordedLog}
use Rattle.dkg_types.specs.Paths.{log_counts}
use Rattle.dkg_text.specs.declared.script.Life.{Life}
use Rattle.dkg_script.specs.Blocks.{ScriptBlock, chain, round_at}
use Rattle.dkg_script.specs.History.{AreChainLogs, CountsAt, StandsAtIts}
use Rattle.dkg_script.specs.Position.{awaited_epoch}
use Rattle.dkg_script.specs.Setting.{Setting, blocks_per_epoch, life_at}
use Rattle.dkg_lives.proofs.ChainLogs.{brings_of, counted_at}
use Rattle.dkg_lives.proofs.GrowingLogs.{AreSound, HasThose, IsAtIts}
use Rattle.dkg_promises.proofs.ReadLogs.{IsEarly}

some_is : {A : Type 0} {x y : A} → ◌≡◌ {A = Option A} (Some x) (Some y) → x ≡ y
some_is e = cc

none_some : {A : Type 0} {x : A} → ◌≡◌ {A = Option A} None (Some x) → ⊥
none_some e = cc

module _ (s : Setting) (epoch : ℕ) (round : Round) where
  abbrev middle : ℕ
  middle = midpoint (blocks_per_epoch s) epoch

  abbrev ends : ℕ
  ends = last (blocks_per_epoch s) epoch

  -- WHAT COUNTS is what the chain brings,
  pub brings_it : (height dealer : ℕ) (log : DealerLog) → CountsAt s epoch round height dealer log → brings_of s epoch round height ≡ Some (dealer, log)
  brings_it height dealer log its =
      ap (option_and_then (λ (b : ScriptBlock). counted_at s epoch round height b.log)) its.chained ∙ ap (counted_at s epoch round height) its.carried
      ∙ ap (λ (t : Bool). if t then Some (its.signed.dealer, its.signed.log) else None) its.counted
      ∙ ap (λ (d : ℕ). Some (d, its.signed.log)) its.dealer_is ∙ ap (λ (l : DealerLog). Some (dealer, l)) its.log_is

  -- .. and the other way round
  pub counts_there : (height dealer : ℕ) (log : DealerLog) → brings_of s epoch round height ≡ Some (dealer, log) → CountsAt s epoch round height dealer log
  counts_there height dealer log is = by_block (chain s height) refl is
    where
      by_signed : (b : ScriptBlock) → chain s height ≡ Some b → (o : Option SignedDealerLog) → b.log ≡ o → counted_at s epoch round height o ≡ Some (dealer, log) → CountsAt s epoch round height dealer log
      by_signed b there None carried is = absurd (none_some is)
      by_signed b there (Some signed) carried is = by_test (log_counts check_log_of middle ends round (height, signed)) refl is
        where
          by_test : (t : Bool) → log_counts check_log_of middle ends round (height, signed) ≡ t → ◌≡◌ {A = Option (ℕ × DealerLog)} (if t then Some (signed.dealer, signed.log) else None) (Some (dealer, log))
              → CountsAt s epoch round height dealer log
          by_test true counted is =
              let same : ◌≡◌ {A = ℕ × DealerLog} (signed.dealer, signed.log) (dealer, log) = some_is is in
              record {
                block = b;
                chained = there;
                signed = signed;
                carried = carried;
                dealer_is = ap (λ (p : ℕ × DealerLog). p.0) same;
                log_is = ap (λ (p : ℕ × DealerLog). p.1) same;
                counted = counted;
              }
          by_test false counted is = absurd (none_some is)

      by_block : (o : Option ScriptBlock) → chain s height ≡ o → option_and_then (λ (b : ScriptBlock). counted_at s epoch round height b.log) o ≡ Some (dealer, log) → CountsAt s epoch round height dealer log
      by_block None there is = absurd (none_some is)
      by_block (Some b) there is = by_signed b there b.log refl is

  -- It counts from the midpoint on and below the last height alone.
  pub counts_within : (height dealer : ℕ) (log : DealerLog) → brings_of s epoch round height ≡ Some (dealer, log) → (middle ≤ height) × (height < ends)
  counts_within height dealer log is =
      let its = counts_there height dealer log is in
      let both = two_first (nat_le middle height) (nat_lt height ends) (is_some (index_of (its.signed).dealer round.dealers)) (check_log_of round its.signed) its.counted in
      (is_low middle height both.0, is_below height ends both.1)
    where
      two_first : (a b p q : Bool) → (a && b && p && q) ≡ true → (a ≡ true) × (b ≡ true)
      two_first true true p q e = (refl, refl)
      two_first true false p q e = absurd (let no : false ≡ true = e in cc)
      two_first false b p q e = absurd (let no : false ≡ true = e in cc)

      is_low : (a b : ℕ) → nat_le a b ≡ true → a ≤ b
      is_low a b e = grind (arith, nat_tests)

      is_below : (a b : ℕ) → nat_lt a b ≡ true → a < b
      is_below a b e = grind (arith, nat_tests)

  -- WHAT IS NOTED
  abbrev pub AreSoundIn : Notes RecordedLog → Type 0
  AreSoundIn m = AreSound (brings_of s epoch round) (IsEarly s epoch) (λ d. get m (epoch, d))

  abbrev pub HasThoseIn : Notes RecordedLog → (height : ℕ) → Type 0
  HasThoseIn m height = HasThose (brings_of s epoch round) (IsEarly s epoch) (λ d. get m (epoch, d)) height

  -- .. of heights that bring nothing
  pub has_none : (m : Notes RecordedLog) (height : ℕ) → (height < middle) ⊎ (ends ≤ height) → HasThoseIn m height
  has_none m height (inl low) dealer log first = let its = (counts_within height dealer log first.here).0 in absurd (omega (arith, its, low))
  has_none m height (inr high) dealer log first = let its = (counts_within height dealer log first.here).1 in absurd (omega (arith, its, high))

  -- .. by notes that have more
  pub has_more : (m now : Notes RecordedLog) (height : ℕ) → ((dealer : ℕ) → IsSome (get m (epoch, dealer)) → IsSome (get now (epoch, dealer))) → HasThoseIn m height → HasThoseIn now height
  has_more m now height more has dealer log first = more dealer (has dealer log first)

  pub sound_same : (m now : Notes RecordedLog) → ((dealer : ℕ) → get now (epoch, dealer) ≡ get m (epoch, dealer)) → AreSoundIn m → AreSoundIn now
  sound_same m now same sound dealer noted is = sound dealer noted (sym (same dealer) ∙ is)

-- some is there as before
pub some_on : {A : Type 0} (one other : Option A) → other ≡ one → IsSome one → IsSome other
some_on one other same some = subst (λ o. IsSome o) (sym same) some

module _ (s : Setting) where
  -- A life comes to the epoch.
  pub record IsCome (epoch : ℕ) : Type 0 where
    pub l : ℕ
    pub j : ℕ
    pub life : Life
    pub life_is : life_at s l ≡ Some life
    pub awaits : awaited_epoch s l life j ≡ epoch

  -- WHAT DEVICES NOTE of the epochs that aren't two below one that has begun, where these heights of epochs were seen
  pub record AreNoted (begun : ℕ) (seen : (epoch height : ℕ) → Type 0) (m : Notes RecordedLog) : Type 0 where
    pub sound : (epoch : ℕ) (round : Round) → begun < epoch + 2 → IsCome epoch → round_at s epoch ≡ Some round → AreSoundIn s epoch round m
    pub all : (epoch height : ℕ) (round : Round) → begun < epoch + 2 → round_at s epoch ≡ Some round → seen epoch height → HasThoseIn s epoch round m height

  -- .. by notes that have the same of epochs that are left
  pub noted_same : (begun later : ℕ) (seen now_seen : (epoch height : ℕ) → Type 0) (m now : Notes RecordedLog) → begun ≤ later → ((epoch height : ℕ) → now_seen epoch height → seen epoch height)
      → ((key : ℕ × ℕ) → later < key.0 + 2 → get now key ≡ get m key) → AreNoted begun seen m → AreNoted later now_seen now
  noted_same begun later seen now_seen m now low was same noted = record {
    sound = λ epoch round left come known. sound_same s epoch round m now (λ dealer. same (epoch, dealer) left) (noted.sound epoch round (omega (arith, low, left)) come known);
    all = λ epoch height round left known its. has_more s epoch round m now height (λ dealer. some_on (get m (epoch, dealer)) (get now (epoch, dealer)) (same (epoch, dealer) left))
        (noted.all epoch height round (omega (arith, low, left)) known (was epoch height its));
  }

  -- THE LOGS THAT WERE HANDED IN are noted so.
  pub handed_noted : (begun : ℕ) (seen : (epoch height : ℕ) → Type 0) → ((epoch height : ℕ) → seen epoch height → ⊥) → AreChainLogs s → AreNoted begun seen (logs_in (entries s.files))
  handed_noted begun seen none handed = record {
    sound = λ epoch round left come known dealer noted is.
        let its = handed epoch dealer noted round come.l come.j come.life come.life_is come.awaits known is in (
          its.0,
          record {
            here = brings_it s epoch round its.0 dealer noted.log its.1;
            first = λ at other least below there. its.2 at other below (counts_there s epoch round at dealer other there);
          },
          at_its epoch round its.0 noted.height its.3,
        );
    all = λ epoch height round left known its. absurd (none epoch height its);
  }
    where
      at_its : (epoch : ℕ) (round : Round) (height : ℕ) (o : Option ℕ) → StandsAtIts s epoch height o → IsAtIts (brings_of s epoch round) (IsEarly s epoch) o height
      at_its epoch round height (Some noted) is = is
      at_its epoch round height None is = is
