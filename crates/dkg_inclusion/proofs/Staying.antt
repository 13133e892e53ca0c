-- What stays of a life, of its inclusion and of a provider, where requests are read.
use Rattle.std.proofs.Common.{◌≡◌, ℕ, Bool, true, false, List, Option, Some, None, Result, Ok, Err, refl, sym, ◌∙◌, ap, subst}
use Rattle.std.specs.Prelude.{[], IfErr, IfNone, IfSome, IsSome, IsSomeAnd, option_map}
use Rattle.std.specs.FinMap.{FinMap}
use Rattle.std.specs.Ordering.{nat_cmp}
use Rattle.dkg_journal.specs.Names.{Files}
use Rattle.dkg_ceremony.specs.Outcomes.{LogMap}
use Rattle.dkg_ceremony.specs.Schedule.{bounds_at, midpoint}
use Rattle.dkg_ceremony.specs.declared.round.RoundParts.{RoundParts as Round}
use Rattle.dkg_infos.specs.declared.fault.Fault.TheVariants.{NoMemory}
use Rattle.dkg_artifact.specs.Requested as requested
use Rattle.dkg_artifact.specs.declared.artifact.Artifact as artifact
use Rattle.dkg_artifact.specs.declared.job.Job.{Job}
use Rattle.dkg_artifact.specs.declared.scan.Fed as scan
use Rattle.dkg_artifact.specs.declared.scan.Fed.TheVariants as fed
use Rattle.dkg_store.specs.declared.devices.Devices.{Devices}
use Rattle.dkg_core.specs.Fixed.{Fixed}
use Rattle.dkg_life.specs.declared.config.Terms.{Terms}
use Rattle.dkg_verifying.specs.declared.inclusion.Hand.{Hand}
use Rattle.dkg_verifying.specs.declared.inclusion.Inclusion.{Inclusion}
use Rattle.dkg_life.specs.declared.life.Life.{Life}
use Rattle.dkg_life.specs.declared.life.Stage.TheVariants as stage
use Rattle.dkg_life.specs.declared.stop.Stop.{Stop}
use Rattle.dkg_life.specs.declared.stop.Stop.TheVariants.{Fault as Faulted}
use Rattle.dkg_verifying.specs.declared.told.Told.{Told}
use Rattle.dkg_life.specs.Ready.{IsReadyLife}
use Rattle.dkg_life.specs.Ends.{IsCaused}
use Rattle.dkg_verifying.specs.Including.{behind_answer}
use Rattle.dkg_verifying.specs.InclusionOf.{IsReadyInclusion, IsRunnable, IsSettledInclusion, tip_of}
use Rattle.dkg_life.specs.LiveOf.{IsPlaced, awaited_of}
use Rattle.dkg_life.specs.Moved.{IsFirm}
use Rattle.dkg_life.proofs.Blamed.{caused_more}
use Rattle.dkg_life.specs.Rules.{AckOf, CheckAckOf, CheckLogOf, DealOf, DealingOf, FinishOf, IncludesBy, OutcomeOf, SameProvided}
use Rattle.dkg_verifying.specs.Scanned.{IsFed}

-- A life on devices whose disk is as it was.
pub ready_on : {Dir D X : Type 0} (tells : Bool) (files : D → Files) (image : D → Files → Type 0) (ack_of : AckOf) (deal_of : DealOf) (check_ack_of : CheckAckOf) (terms : Terms) (old new : Life Dir) (before now : Devices D X)
    → new ≡ old → now.disk.now ≡ before.disk.now → IsReadyLife tells files image ack_of deal_of check_ack_of terms old before → IsReadyLife tells files image ack_of deal_of check_ack_of terms new now
ready_on {Dir} {D} {X} tells files image ack_of deal_of check_ack_of terms old new before now same disk ready =
    subst (λ (l : Life Dir). IsReadyLife tells files image ack_of deal_of check_ack_of terms l now) (sym same) (record {
      seated = ready.seated;
      dealing = ready.dealing;
      placed = ready.placed;
      within = ready.within;
      firm = λ told. subst (λ (d : D). IsFirm old.store.journal (files d) (image d)) (sym disk) (ready.firm told);
    })

-- A provider that says the same includes by the same.
pub includes_on : {Dir : Type 0} {check_log_of : CheckLogOf} {outcome_of : OutcomeOf} {finish_of : FinishOf} {old new : ℕ → List ℕ} {before now : ℕ → List ℕ → Dir} {spelling : Dir → List ℕ} {matches : Dir → List ℕ → Bool}
    (c : Fixed Dir) → SameProvided old new before now → IncludesBy check_log_of outcome_of finish_of old before spelling matches c → IncludesBy check_log_of outcome_of finish_of new now spelling matches c
includes_on c same by = record {
  check_log = by.check_log;
  outcome = by.outcome;
  finish = by.finish;
  participants_are = λ epoch. by.participants_are epoch ∙ sym (same.0 epoch);
  directory_is = λ epoch peers. by.directory_is epoch peers ∙ sym (same.1 epoch peers);
  spelling_is = by.spelling_is;
  matches_are = by.matches_are;
}

-- want of memory blames nothing
pub want_blames : {T : Type 0} (disk secrets reached : Type 0) (r : Result T Stop) → IfErr r (λ stop. stop ≡ Faulted NoMemory) → IfErr r (λ stop. IsCaused stop disk secrets reached)
want_blames disk secrets reached (Ok x) is = tt
want_blames disk secrets reached (Err stop) is = let P : Stop → Type 0 = λ its. IsCaused its disk secrets reached in subst P (sym is) tt

-- the midpoint, while requests are read
pub middle_of : {Dir : Type 0} (n : ℕ) (life : Life Dir) (c : Fixed Dir) → c.blocks_per_epoch ≡ n → IsPlaced n life → life.stage ≡ stage.Including → midpoint c.blocks_per_epoch life.epoch ≡ life.midpoint
middle_of n life c blocks placed includes = λ i. (ap (λ (b : ℕ). midpoint b life.epoch) blocks ∙ sym (placed.midpoint_is (λ follows. let e : stage.Including ≡ stage.Following = sym includes ∙ follows in cc))) i

module _ {C Dir Signer Cfg : Type 0} (check_log_of : CheckLogOf) (dealing_of : DealingOf) (finish_of : FinishOf) (n : ℕ) (life : Life Dir) (its : Inclusion C Dir Signer Cfg) where
  -- other answers
  pub ready_answered : (cache : Option (LogMap × artifact.Artifact Dir)) (told : FinMap nat_cmp (Told Dir)) → IsReadyInclusion check_log_of dealing_of finish_of n life its
      → IsReadyInclusion check_log_of dealing_of finish_of n life (record its { cache = cache; told = told })
  ready_answered cache told ready = record { hand = ready.hand; free = ready.free; runs = ready.runs; idle = ready.idle; current = ready.current; unserved = ready.unserved }

  pub settled_answered : (cache : Option (LogMap × artifact.Artifact Dir)) (told : FinMap nat_cmp (Told Dir)) → IsSettledInclusion check_log_of dealing_of finish_of n life its
      → IsSettledInclusion check_log_of dealing_of finish_of n life (record its { cache = cache; told = told })
  settled_answered cache told settled = record { ready = ready_answered cache told settled.ready; settled = settled.settled }

  -- A verification runs, while none is in hand.
  pub ready_verifying : (new : Inclusion C Dir Signer Cfg) → new ≡ record its { verification = new.verification; waiter = new.waiter } → its.hand ≡ None → life.stage ≡ stage.Including
      → (round : Round) → life.round ≡ Some round → IfSome new.verification.running (λ j. (j.round ≡ round) × IsRunnable dealing_of finish_of j) → IsReadyInclusion check_log_of dealing_of finish_of n life its
      → IsReadyInclusion check_log_of dealing_of finish_of n life new
  ready_verifying new rest none includes round has runs ready =
      subst (λ (x : Inclusion C Dir Signer Cfg). IsReadyInclusion check_log_of dealing_of finish_of n life x) (sym rest) (record {
        hand = ready.hand;
        free = λ some. no_hand its.hand none some;
        runs = by_job new.verification.running runs;
        idle = ready.idle;
        current = ready.current;
        unserved = ready.unserved;
      })
    where
      no_hand : {A : Type 0} {P : Type 0} (o : Option A) → o ≡ None → IsSome o → P
      no_hand {A = A} None none some = absurd (let e : false ≡ true = some in cc)
      no_hand {A = A} (Some x) none some = absurd (let e : ◌≡◌ {A = Option A} (Some x) None = none in cc)

      by_job : (job : Option Job) → IfSome job (λ j. (j.round ≡ round) × IsRunnable dealing_of finish_of j) → IfSome job (λ j. (life.stage ≡ stage.Including) × (life.round ≡ Some j.round) × IsRunnable dealing_of finish_of j)
      by_job None is = tt
      by_job (Some j) is = (includes, has ∙ ap (λ (r : Round). Some r) (sym is.0), is.1)

-- one value
pub some_value : {A : Type 0} (a b : A) → ◌≡◌ {A = Option A} (Some a) (Some b) → a ≡ b
some_value {A} a b is = ap (λ (o : Option A). by_one o) is
  where
    by_one : Option A → A
    by_one None = a
    by_one (Some x) = x

-- What was caused by nothing is caused by anything.
pub nothing_blames : {T : Type 0} (disk secrets reached : Type 0) (r : Result T Stop) → IfErr r (λ stop. IsCaused stop ⊥ ⊥ ⊥) → IfErr r (λ stop. IsCaused stop disk secrets reached)
nothing_blames disk secrets reached (Ok x) is = tt
nothing_blames disk secrets reached (Err stop) is = caused_more (λ x. absurd x) (λ x. absurd x) (λ x. absurd x) stop is

pub verifying_rest : {C Dir Signer Cfg : Type 0} (old new : Inclusion C Dir Signer Cfg) → new ≡ record old { verification = new.verification; waiter = new.waiter }
    → new ≡ record old { verification = new.verification; waiter = new.waiter; cache = new.cache; told = new.told }
verifying_rest {C} {Dir} {Signer} {Cfg} old new rest =
    rest ∙ (λ i. record old {
      verification = new.verification;
      waiter = new.waiter;
      cache = sym (ap (λ (x : Inclusion C Dir Signer Cfg). x.cache) rest) i;
      told = sym (ap (λ (x : Inclusion C Dir Signer Cfg). x.told) rest) i;
    })

pub none_of : {A : Type 0} (o : Option A) → ((x : A) → o ≡ Some x → ⊥) → o ≡ None
none_of None apart = refl
none_of (Some x) apart = absurd (apart x refl)

pub at_none : {A : Type 0} (P : Type 0) (o : Option A) → o ≡ None → IfNone o P → P
at_none {A} P o is has = let Q : Option A → Type 0 = λ q. IfNone q P in subst Q is has

pub some_is : {A : Type 0} (o : Option A) (x : A) → o ≡ Some x → IsSome o
some_is {A} o x is = subst (λ (q : Option A). IsSome q) (sym is) refl

pub unless_none : {A P : Type 0} (o : Option A) → o ≡ None → IsSome o → P
unless_none {A} {P} o none some = absurd (let e : false ≡ true = subst (λ (q : Option A). IsSome q) none some in cc)

module _ {C Dir Signer Cfg : Type 0} (check_log_of : CheckLogOf) (dealing_of : DealingOf) (finish_of : FinishOf) (n : ℕ) (life : Life Dir) (its : Inclusion C Dir Signer Cfg) (includes : life.stage ≡ stage.Including)
    (ready : IsReadyInclusion check_log_of dealing_of finish_of n life its)
  where
    not_idle : (requests : List (requested.WaitingRequest Dir)) → life.stage ≡ stage.Following → requests ≡ []
    not_idle requests follows = absurd (let e : stage.Including ≡ stage.Following = sym includes ∙ follows in cc)

    -- other requests wait
    pub ready_requests : (requests : List (requested.WaitingRequest Dir)) → IsReadyInclusion check_log_of dealing_of finish_of n life (record its { requests = requests })
    ready_requests requests = record { hand = ready.hand; free = ready.free; runs = ready.runs; idle = not_idle requests; current = ready.current; unserved = ready.unserved }

    -- .. and one is in hand
    pub ready_held : (hand : Hand Dir Cfg) (requests : List (requested.WaitingRequest Dir)) → its.verification.running ≡ None → hand.request.ended ≡ false
        → (round : Round) → life.round ≡ Some round → IsFed check_log_of round (bounds_at n (awaited_of life)) (option_map tip_of life.tip) hand.request.blocks hand.scan
        → IsReadyInclusion check_log_of dealing_of finish_of n life (record its { hand = Some hand; requests = requests })
    ready_held hand requests free on round has fed = record {
      hand = record {
        includes = includes;
        goes_on = on;
        stands = subst (λ (o : Option Round). IsSomeAnd o (λ r. IsFed check_log_of r (bounds_at n (awaited_of life)) (option_map tip_of life.tip) hand.request.blocks hand.scan)) (sym has) fed;
      };
      free = λ some. free;
      runs = ready.runs;
      idle = not_idle requests;
      current = ready.current;
      unserved = ready.unserved;
    }

-- WHAT IS THERE

pub some_of : {A : Type 0} (o : Option A) → IsSome o → (x : A) × (o ≡ Some x)
some_of None some = absurd (let e : false ≡ true = some in cc)
some_of (Some x) some = (x, refl)

pub some_in : {A : Type 0} (P : A → Type 0) (o : Option A) → IsSomeAnd o P → (x : A) × (o ≡ Some x)
some_in P None has = absurd has
some_in P (Some x) has = (x, refl)

-- what inclusion has, without the request that was answered
pub behind_ready : {C Dir Signer Cfg : Type 0} (check_log_of : CheckLogOf) (dealing_of : DealingOf) (finish_of : FinishOf) (n : ℕ) (life : Life Dir) (its : Inclusion C Dir Signer Cfg) (x : scan.Fed) → (x ≡ fed.Need → ⊥)
    → IsReadyInclusion check_log_of dealing_of finish_of n life (behind_answer x its) → IsReadyInclusion check_log_of dealing_of finish_of n life (record its { hand = None })
behind_ready check_log_of dealing_of finish_of n life its fed.Need apart ready = absurd (apart refl)
behind_ready check_log_of dealing_of finish_of n life its (fed.Logs found) apart ready = ready
behind_ready check_log_of dealing_of finish_of n life its (fed.Unavailable why) apart ready = ready
