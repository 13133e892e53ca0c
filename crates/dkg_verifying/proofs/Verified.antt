-- What a verification is begun with, and what it finds, in memory and in the relation.
use Rattle.std.proofs.Common.{◌≡◌, ℕ, Bool, true, false, List, [], ◌∷◌, Option, Some, None, Result, Ok, Err, refl, sym, ◌∙◌, ap, subst, Contains, arith}
use Rattle.std.specs.Prelude.{◌&&◌, ◌||◌, ◌==◌, not, IfErr, IfSome, IsSomeAnd, option_map, if◌then◌else◌}
use Rattle.std.specs.List.{AllByRecursion, list_any}
use Rattle.std.proofs.lemmas.Bool.Decides.{nat_tests}
use Rattle.dkg_values.specs.Rising.{lookup}
use Rattle.dkg_ceremony.specs.declared.dealer_log.DealerLog.{DealerLog}
use Rattle.dkg_ceremony.specs.declared.finish.FinishError.{FinishError}
use Rattle.dkg_ceremony.specs.declared.output.Output.{Output}
use Rattle.dkg_ceremony.specs.declared.round.RoundParts.{RoundParts as Round}
use Rattle.dkg_ceremony.specs.Finishes.{DealingMap, IsMissing}
use Rattle.dkg_ceremony.specs.Outcomes.{LogMap}
use Rattle.dkg_artifact.specs.Results.{Checked, IsResultOfJob, checked, finished_by, observed_output}
use Rattle.dkg_artifact.specs.Results as results
use Rattle.dkg_artifact.specs.declared.job.Dealings as dealt
use Rattle.dkg_artifact.specs.declared.job.Job as job
use Rattle.dkg_artifact.proofs.Lacked.{none_missing}
use Rattle.dkg_store.specs.Player.{has_orphan, is_orphan}
use Rattle.dkg_store.specs.Recorded as of_store
use Rattle.dkg_store.specs.Recorded.{at_epoch, first_refused}
use Rattle.dkg_store.specs.declared.store.Store.{Store}
use Rattle.dkg_store.proofs.Passing.{passes_at}
use Rattle.dkg_core.specs.Fixed.{Fixed, has}
use Rattle.dkg_core.specs.Including as including
use Rattle.dkg_core.specs.Live as core
use Rattle.dkg_core.specs.Live.{Live, records_of_epoch}
use Rattle.dkg_core.specs.Setup as setup
use Rattle.dkg_core.specs.Same.{same_logs, same_round}
use Rattle.dkg_core.proofs.Same.{logs_again, one_logs, one_round, round_again}
use Rattle.dkg_verifying.specs.InclusionOf.{IsRunnable, job_dealings_of, job_of, checked_result_of, verified_of}
use Rattle.dkg_life.specs.LiveOf.{records_of}
use Rattle.dkg_life.specs.Rules.{BearsAckOf, DealingOf, FinishOf, OutcomeOf}
use Rattle.dkg_verifying.specs.Refusing.{refusal_for}

-- TESTS

at_none : (b : Bool) → false ≡ not b → b ≡ true
at_none true e = refl
at_none false e = absurd (let h : false ≡ true = e in cc)

at_one : (b : Bool) → true ≡ not b → b ≡ false
at_one true e = absurd (let h : true ≡ false = e in cc)
at_one false e = refl

either_not : (a b : Bool) → (a || b) ≡ false → (a ≡ false) × (b ≡ false)
either_not true b e = absurd (let h : true ≡ false = e in cc)
either_not false b e = (refl, e)

none_any : {A : Type 0} (test : A → Bool) (xs : List A) → list_any test xs ≡ false → AllByRecursion (λ x. test x ≡ false) xs
none_any test [] none = tt
none_any test (x ∷ xs) none = let parts = either_not (test x) (list_any test xs) none in (parts.0, none_any test xs parts.1)

-- A PLAYER

module _ {Dir : Type 0} (c : Fixed Dir) (round : Round) (logs : LogMap) (st : Live Dir) (store : Store Dir) (me : ℕ) (bears_ack_of : BearsAckOf) (dealing_of : DealingOf)
    (mine : c.me ≡ me) (bears : c.rules.bears_ack_of ≡ bears_ack_of) (checks : c.rules.dealing_of ≡ dealing_of) (records : st.records ≡ records_of store)
  where
    -- the store's tests
    abbrev orphan : Bool
    orphan = has_orphan (λ dealer log. bears_ack_of round dealer log me) (at_epoch round.number store.dealings) logs

    abbrev refusal : Option ℕ
    refusal = first_refused (dealing_of round me) (of_store.of_epoch round.number store.dealings)

    -- are the relation's
    finishes_is : including.can_finish c round logs st ≡ (has round.players me && not orphan)
    finishes_is = λ i. has round.players (mine i) && not (has_orphan (λ dealer log. bears i round dealer log (mine i)) (records_of_epoch round.number (records i).dealings) logs)

    refused_is : setup.refused_in c round st ≡ refusal
    refused_is = λ i. first_refused (λ d. checks i round (mine i) d) (setup.pairs_of (record st { records = records i }) round.number)

    abbrev seat : Bool → Option core.Dealings
    seat plays = if plays then Some (record { me = c.me; dealings = records_of_epoch round.number st.records.dealings }) else None

    abbrev refused_where : Bool → Option ℕ
    refused_where plays = if plays then setup.refused_in c round st else None

    finishes_by : (plays lost : Bool) → has round.players me ≡ plays → orphan ≡ lost → including.can_finish c round logs st ≡ (plays && not lost)
    finishes_by plays lost one other = finishes_is ∙ (λ i. one i && not (other i))

    -- it lacks a dealing
    lost_is : has round.players me ≡ true → false ≡ not orphan → including.can_finish c round logs st ≡ false
    lost_is plays none = finishes_by true true plays (at_none orphan none)

    pub lacking : has round.players me ≡ true → false ≡ not orphan → None ≡ (including.job_for c round logs st).player
    lacking plays none = ap seat (sym (lost_is plays none))

    pub lacking_passes : has round.players me ≡ true → false ≡ not orphan → refusal_for c round logs st ≡ None
    lacking_passes plays none = ap refused_where (lost_is plays none)

    -- it plays
    pub seated : has round.players me ≡ true → true ≡ not orphan → (dealings : DealingMap) → dealings ≡ at_epoch round.number store.dealings
        → Some (job_dealings_of (record { me = me; dealings = dealings })) ≡ (including.job_for c round logs st).player
    seated plays some dealings is =
        let parts : ◌≡◌ {A = core.Dealings} (record { me = me; dealings = dealings }) (record { me = c.me; dealings = records_of_epoch round.number st.records.dealings }) =
        (λ i. record { me = sym mine i; dealings = (is ∙ (λ j. records_of_epoch round.number (sym records j).dealings)) i }) in
        ap (λ (p : core.Dealings). Some p) parts ∙ ap seat (sym (finishes_by true false plays (at_one orphan some)))

    pub seated_passes : has round.players me ≡ true → true ≡ not orphan → refusal ≡ None → refusal_for c round logs st ≡ None
    seated_passes plays some passes = ap refused_where (finishes_by true false plays (at_one orphan some)) ∙ refused_is ∙ passes

    pub refused_for : (dealer : ℕ) → has round.players me ≡ true → orphan ≡ false → refusal ≡ Some dealer → refusal_for c round logs st ≡ Some dealer
    refused_for dealer plays some is = ap refused_where (finishes_by true false plays some) ∙ refused_is ∙ is

-- the same, of a number that is the round's
module _ {Dir : Type 0} (round : Round) (logs : LogMap) (store : Store Dir) (me : ℕ) (bears_ack_of : BearsAckOf) (dealing_of : DealingOf) (number : ℕ) (is : number ≡ round.number) where
  pub some_at : (b : Bool) → b ≡ not (has_orphan (λ dealer log. bears_ack_of round dealer log me) (at_epoch number store.dealings) logs)
      → b ≡ not (has_orphan (λ dealer log. bears_ack_of round dealer log me) (at_epoch round.number store.dealings) logs)
  some_at b some = some ∙ ap (λ (n : ℕ). not (has_orphan (λ dealer log. bears_ack_of round dealer log me) (at_epoch n store.dealings) logs)) is

  pub passes_here : first_refused (dealing_of round me) (of_store.of_epoch number store.dealings) ≡ None → first_refused (dealing_of round me) (of_store.of_epoch round.number store.dealings) ≡ None
  passes_here passes = ap (λ (n : ℕ). first_refused (dealing_of round me) (of_store.of_epoch n store.dealings)) (sym is) ∙ passes

  pub dealings_here : (dealings : DealingMap) → dealings ≡ at_epoch number store.dealings → dealings ≡ at_epoch round.number store.dealings
  dealings_here dealings same = same ∙ ap (λ (n : ℕ). at_epoch n store.dealings) is

-- IT CAN BE RUN TO ITS END

module _ (dealing_of : DealingOf) (finish_of : FinishOf) (round : Round) (logs : LogMap) where
  pub runs_alone : IsRunnable dealing_of finish_of (record { round = round; player = None; logs = logs })
  runs_alone = record { has_dealings = tt; plays = tt; checked = tt }

  module _ {Dir : Type 0} (store : Store Dir) (me : ℕ) (bears_ack_of : BearsAckOf) (selected : Option (List ℕ)) (dealings : DealingMap) (is : dealings ≡ at_epoch round.number store.dealings)
      (missing : IfErr (finish_of round me dealings logs) (IsMissing (λ dealer log. bears_ack_of round dealer log me) dealings logs selected))
    where
      pub runs_seated : Contains round.players me → true ≡ not (has_orphan (λ dealer log. bears_ack_of round dealer log me) (at_epoch round.number store.dealings) logs)
          → first_refused (dealing_of round me) (of_store.of_epoch round.number store.dealings) ≡ None
          → IsRunnable dealing_of finish_of (record { round = round; player = Some (record { me = me; dealings = dealings }); logs = logs })
      runs_seated plays some passes =
          let bears = λ (dealer : ℕ) (log : DealerLog). bears_ack_of round dealer log me in
          let none : list_any (is_orphan bears dealings) logs ≡ false =
          ap (λ (d : DealingMap). has_orphan bears d logs) is ∙ at_one (has_orphan bears (at_epoch round.number store.dealings) logs) some in
          record {
            has_dealings = none_missing bears dealings logs selected (finish_of round me dealings logs) (none_any (is_orphan bears dealings) logs none) missing;
            plays = plays;
            checked = λ dealer.
                subst (λ (d : DealingMap). IfSome (lookup dealer d) (λ p. dealing_of round me dealer p.0 p.1 ≡ Ok tt)) (sym is)
                (passes_at (dealing_of round me) round.number store.dealings passes dealer);
          }

-- WHAT IT FINDS

module _ {Dir : Type 0} (c : Fixed Dir) (outcome_of : OutcomeOf) (finish_of : FinishOf) (outcomes : c.rules.outcome_of ≡ outcome_of) (finishes : c.rules.finish_of ≡ finish_of) where
  found_alone : (output : Option Output) → option_map verified_of (option_map observed_output output) ≡ including.of_output output
  found_alone None = refl
  found_alone (Some output) = refl

  found_seated : (found : Result (Option (Output × ℕ)) FinishError) → option_map verified_of (finished_by found) ≡ including.of_player found
  found_seated (Ok None) = refl
  found_seated (Ok (Some found)) = refl
  found_seated (Err e) = refl

  found_by : (round : Round) (player : Option dealt.Dealings) (logs : LogMap)
      → option_map verified_of (results.result_of outcome_of finish_of round player logs) ≡ including.result_by c round (option_map job_dealings_of player) logs
  found_by round None logs = found_alone (outcome_of round logs) ∙ ap (λ (f : OutcomeOf). including.of_output (f round logs)) (sym outcomes)
  found_by round (Some player) logs =
      found_seated (finish_of round player.me player.dealings logs) ∙ ap (λ (f : FinishOf). including.of_player (f round player.me player.dealings logs)) (sym finishes)

  key_is : (player : Option dealt.Dealings) → option_map (λ p. p.me) player ≡ option_map (λ p. p.me) (option_map job_dealings_of player)
  key_is None = refl
  key_is (Some player) = refl

  -- what this node itself finds
  pub verified_is : (j : job.Job) → checked_result_of (checked outcome_of finish_of j.round j.player j.logs) ≡ including.verified c (job_of j)
  verified_is j =
      let found = found_by j.round j.player j.logs in
      let key = key_is j.player in
      λ i. record { round = j.round; me = key i; logs = j.logs; result = found i }

-- A RESULT THAT IS HANDED IN

same_keys : (a b : Option ℕ) → including.same_key a b ≡ true → a ≡ b
same_keys None None is = refl
same_keys None (Some b) is = absurd (let h : false ≡ true = is in cc)
same_keys (Some a) None is = absurd (let h : false ≡ true = is in cc)
same_keys (Some a) (Some b) is = ap (λ (n : ℕ). Some n) (same_number a b is)
  where
    same_number : (a b : ℕ) → (a == b) ≡ true → a ≡ b
    same_number a b e = grind (arith, nat_tests)

key_again : (a : Option ℕ) → including.same_key a a ≡ true
key_again None = refl
key_again (Some a) = number_again a
  where
    number_again : (a : ℕ) → (a == a) ≡ true
    number_again a = grind (arith, nat_tests)

three_true : (a b d : Bool) → a ≡ true → b ≡ true → d ≡ true → (a && b && d) ≡ true
three_true a b d one two three = λ i. one i && two i && three i

all_true : (a b d : Bool) → (a && b && d) ≡ true → (a ≡ true) × (b ≡ true) × (d ≡ true)
all_true true true true e = (refl, refl, refl)
all_true true true false e = absurd (let h : false ≡ true = e in cc)
all_true true false d e = absurd (let h : false ≡ true = e in cc)
all_true false b d e = absurd (let h : false ≡ true = e in cc)

module _ (j : job.Job) (its : Checked) where
  key_of_job : including.its_key (job_of j) ≡ option_map (λ p. p.me) j.player
  key_of_job = by_player j.player
    where
      by_player : (player : Option dealt.Dealings) → option_map (λ p. p.me) (option_map job_dealings_of player) ≡ option_map (λ p. p.me) player
      by_player None = refl
      by_player (Some player) = refl

  pub answered_tests : IsResultOfJob j its → including.is_of_job (checked_result_of its) (job_of j) ≡ true
  answered_tests answers =
      three_true (same_round its.round j.round) (including.same_key its.me (including.its_key (job_of j))) (same_logs its.logs j.logs)
      (subst (λ (r : Round). same_round its.round r ≡ true) answers.0 (round_again its.round))
      (subst (λ (k : Option ℕ). including.same_key its.me k ≡ true) (answers.1 ∙ sym key_of_job) (key_again its.me))
      (subst (λ (l : LogMap). same_logs its.logs l ≡ true) answers.2 (logs_again its.logs))

  pub tests_answered : including.is_of_job (checked_result_of its) (job_of j) ≡ true → IsResultOfJob j its
  tests_answered is =
      let parts = all_true (same_round its.round j.round) (including.same_key its.me (including.its_key (job_of j))) (same_logs its.logs j.logs) is in
      (one_round its.round j.round parts.0, same_keys its.me (including.its_key (job_of j)) parts.1 ∙ key_of_job, one_logs its.logs j.logs parts.2)

module _ {Dir : Type 0} (c : Fixed Dir) (outcome_of : OutcomeOf) (finish_of : FinishOf) (outcomes : c.rules.outcome_of ≡ outcome_of) (finishes : c.rules.finish_of ≡ finish_of) (j : job.Job) where
  abbrev its_own : Checked
  its_own = checked outcome_of finish_of j.round j.player j.logs

  chosen : (its : Checked) (b : Bool) → including.is_of_job (checked_result_of its) (job_of j) ≡ b
      → including.job_result_of c (Some (checked_result_of its)) (job_of j) ≡ (if b then checked_result_of its else including.verified c (job_of j))
  chosen its b is = ap (λ (t : Bool). if t then checked_result_of its else including.verified c (job_of j)) is

  -- The result of a job: the one that is handed in, where it is of that job, else what this node finds.
  pub result_is : (done : Option Checked) (made : Checked) → IfSome done (λ its. IsResultOfJob j its → made ≡ its) → ((IsSomeAnd done (IsResultOfJob j) → ⊥) → made ≡ its_own)
      → checked_result_of made ≡ including.job_result_of c (option_map checked_result_of done) (job_of j)
  result_is None made handed own = ap checked_result_of (own (λ none. none)) ∙ verified_is c outcome_of finish_of outcomes finishes j
  result_is (Some its) made handed own = by_test (including.is_of_job (checked_result_of its) (job_of j)) refl
    where
      by_test : (b : Bool) → including.is_of_job (checked_result_of its) (job_of j) ≡ b → checked_result_of made ≡ including.job_result_of c (Some (checked_result_of its)) (job_of j)
      by_test true is = ap checked_result_of (handed (tests_answered j its is)) ∙ sym (chosen its true is)
      by_test false is =
          ap checked_result_of (own (λ answers. absurd (let h : true ≡ false = sym (answered_tests j its answers) ∙ is in cc)))
          ∙ verified_is c outcome_of finish_of outcomes finishes j ∙ sym (chosen its false is)
