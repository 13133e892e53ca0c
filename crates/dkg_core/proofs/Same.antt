-- Two values are one exactly where all their parts are.
use Rattle.std.proofs.Common.{◌≡◌, ℕ, Bool, true, false, ◌&&◌, List, [], ◌∷◌, Option, Some, None, refl, ap, subst, arith}
use Rattle.std.specs.Prelude.{◌==◌, ◌↔◌}
use Rattle.std.specs.Str.{bytes_eq}
use Rattle.std.proofs.lemmas.Bool.Decides.{nat_tests}
use Rattle.std.proofs.lemmas.Slice.Eq.{bytes_eq-Decides}
use Rattle.dkg_ceremony.specs.declared.dealer_log.DealerLog.{DealerLog}
use Rattle.dkg_ceremony.specs.declared.log_entry.LogEntry.{LogEntry}
use Rattle.dkg_ceremony.specs.declared.log_entry.LogEntry.TheVariants.{Ack, Reveal}
use Rattle.dkg_ceremony.specs.declared.mode.Mode.{Mode}
use Rattle.dkg_ceremony.specs.declared.mode.Mode.TheVariants.{NonZeroCounter, RootsOfUnity}
use Rattle.dkg_ceremony.specs.declared.mode.Reveal.{Reveal as Revealing}
use Rattle.dkg_ceremony.specs.declared.mode.Reveal.TheVariants.{V1}
use Rattle.dkg_ceremony.specs.declared.output.Output.{Output}
use Rattle.dkg_ceremony.specs.declared.round.RoundParts.{RoundParts as Round}
use Rattle.dkg_ceremony.specs.declared.sharing.Sharing.{Sharing}
use Rattle.dkg_ceremony.specs.OutputGrammar.{output_by_parts as one_output}
use Rattle.dkg_ceremony.specs.Outcomes.{LogMap}
use Rattle.dkg_infos.specs.declared.info.EpochInfo.{EpochInfo}
use Rattle.dkg_infos.specs.declared.outcome.EpochOutcome.{EpochOutcome}
use Rattle.dkg_infos.specs.declared.outcome.EpochOutcome.TheVariants.{Success, Failure}
use Rattle.dkg_core.specs.Fixed.{Directories}
use Rattle.dkg_core.specs.Same.{same_entry, same_entries, same_log, same_logs, same_mode, same_revealing, same_sharing, same_output, same_previous, same_round, same_outcome, same_info}

-- TESTS

both_tests : (a b : Bool) → (a && b) ≡ true → (a ≡ true) × (b ≡ true)
both_tests true b e = (refl, e)
both_tests false b e = absurd (cc)

and_tests : (a b : Bool) → a ≡ true → b ≡ true → (a && b) ≡ true
and_tests a b one other = rw (one, other) refl

pub one_bytes : (a b : List ℕ) → bytes_eq a b ≡ true → a ≡ b
one_bytes a b is = (bytes_eq-Decides a b).0 is

pub bytes_again : (a : List ℕ) → bytes_eq a a ≡ true
bytes_again a = (bytes_eq-Decides a a).1 refl

one_number : (a b : ℕ) → (a == b) ≡ true → a ≡ b
one_number a b is = grind (arith, nat_tests)

number_again : (a : ℕ) → (a == a) ≡ true
number_again a = grind (arith, nat_tests)

-- LOGS

one_entry : (a b : LogEntry) → same_entry a b ≡ true → a ≡ b
one_entry (Ack a) (Ack b) is = ap (λ (x : List ℕ). Ack x) (one_bytes a b is)
one_entry (Ack a) (Reveal b) is = absurd (cc)
one_entry (Reveal a) (Ack b) is = absurd (cc)
one_entry (Reveal a) (Reveal b) is = ap (λ (x : ℕ). Reveal x) (one_number a b is)

entry_again : (a : LogEntry) → same_entry a a ≡ true
entry_again (Ack a) = bytes_again a
entry_again (Reveal a) = number_again a

one_entries : (a b : List LogEntry) → same_entries a b ≡ true → a ≡ b
one_entries [] [] is = refl
one_entries [] (b ∷ bs) is = absurd (cc)
one_entries (a ∷ as') [] is = absurd (cc)
one_entries (a ∷ as') (b ∷ bs) is =
    let parts = both_tests (same_entry a b) (same_entries as' bs) is in
    let head = one_entry a b parts.0 in
    let tail = one_entries as' bs parts.1 in
    cc

entries_again : (a : List LogEntry) → same_entries a a ≡ true
entries_again [] = refl
entries_again (a ∷ as') = and_tests (same_entry a a) (same_entries as' as') (entry_again a) (entries_again as')

one_log : (a b : DealerLog) → same_log a b ≡ true → a ≡ b
one_log a b is =
    let parts = both_tests (bytes_eq a.public b.public) (same_entries a.entries b.entries) is in
    let public = one_bytes a.public b.public parts.0 in
    let entries = one_entries a.entries b.entries parts.1 in
    λ i. record { public = public i; entries = entries i }

log_again : (a : DealerLog) → same_log a a ≡ true
log_again a = and_tests (bytes_eq a.public a.public) (same_entries a.entries a.entries) (bytes_again a.public) (entries_again a.entries)

-- Logs that are tested to be the same, are; and each is the same as itself.
pub one_logs : (a b : LogMap) → same_logs a b ≡ true → a ≡ b
one_logs [] [] is = refl
one_logs [] (b ∷ bs) is = absurd (cc)
one_logs (a ∷ as') [] is = absurd (cc)
one_logs (a ∷ as') (b ∷ bs) is =
    let first = both_tests ((a.0 == b.0) && same_log a.1 b.1) (same_logs as' bs) is in
    let parts = both_tests (a.0 == b.0) (same_log a.1 b.1) first.0 in
    let key = one_number a.0 b.0 parts.0 in
    let log = one_log a.1 b.1 parts.1 in
    let tail = one_logs as' bs first.1 in
    λ i. (key i, log i) ∷ tail i

pub logs_again : (a : LogMap) → same_logs a a ≡ true
logs_again [] = refl
logs_again (a ∷ as') = and_tests ((a.0 == a.0) && same_log a.1 a.1) (same_logs as' as') (and_tests (a.0 == a.0) (same_log a.1 a.1) (number_again a.0) (log_again a.1)) (logs_again as')

pub logs_decide : (a b : LogMap) → (same_logs a b ≡ true) ↔ (a ≡ b)
logs_decide a b = (one_logs a b, λ same. subst (λ (x : LogMap). same_logs a x ≡ true) same (logs_again a))

-- OUTPUTS AND ROUNDS

one_mode : (a b : Mode) → same_mode a b ≡ true → a ≡ b
one_mode NonZeroCounter NonZeroCounter is = refl
one_mode NonZeroCounter RootsOfUnity is = absurd (cc)
one_mode RootsOfUnity NonZeroCounter is = absurd (cc)
one_mode RootsOfUnity RootsOfUnity is = refl

mode_again : (a : Mode) → same_mode a a ≡ true
mode_again NonZeroCounter = refl
mode_again RootsOfUnity = refl

one_revealing : (a b : Revealing) → a ≡ b
one_revealing V1 V1 = refl

revealing_again : (a : Revealing) → same_revealing a a ≡ true
revealing_again V1 = refl

one_sharing : (a b : Sharing) → same_sharing a b ≡ true → a ≡ b
one_sharing a b is =
    let first = both_tests (same_mode a.mode b.mode && (a.total == b.total)) (bytes_eq a.poly b.poly) is in
    let parts = both_tests (same_mode a.mode b.mode) (a.total == b.total) first.0 in
    let mode = one_mode a.mode b.mode parts.0 in
    let total = one_number a.total b.total parts.1 in
    let poly = one_bytes a.poly b.poly first.1 in
    λ i. record { mode = mode i; total = total i; poly = poly i }

sharing_again : (a : Sharing) → same_sharing a a ≡ true
sharing_again a = and_tests _ _ (and_tests _ _ (mode_again a.mode) (number_again a.total)) (bytes_again a.poly)

pub one_output_is : (a b : Output) → same_output a b ≡ true → a ≡ b
one_output_is a b is =
    let fifth = both_tests (bytes_eq a.summary b.summary && same_sharing a.sharing b.sharing && bytes_eq a.dealers b.dealers && bytes_eq a.players b.players) (bytes_eq a.revealed b.revealed) is in
    let fourth = both_tests (bytes_eq a.summary b.summary && same_sharing a.sharing b.sharing && bytes_eq a.dealers b.dealers) (bytes_eq a.players b.players) fifth.0 in
    let third = both_tests (bytes_eq a.summary b.summary && same_sharing a.sharing b.sharing) (bytes_eq a.dealers b.dealers) fourth.0 in
    let parts = both_tests (bytes_eq a.summary b.summary) (same_sharing a.sharing b.sharing) third.0 in
    one_output a b (one_bytes a.summary b.summary parts.0) (one_sharing a.sharing b.sharing parts.1) (one_bytes a.dealers b.dealers third.1) (one_bytes a.players b.players fourth.1)
    (one_bytes a.revealed b.revealed fifth.1)

pub output_again : (a : Output) → same_output a a ≡ true
output_again a =
    and_tests _ _ (and_tests _ _ (and_tests _ _ (and_tests _ _ (bytes_again a.summary) (sharing_again a.sharing)) (bytes_again a.dealers)) (bytes_again a.players)) (bytes_again a.revealed)

pub outputs_decide : (a b : Output) → (same_output a b ≡ true) ↔ (a ≡ b)
outputs_decide a b = (one_output_is a b, λ same. subst (λ (x : Output). same_output a x ≡ true) same (output_again a))

one_previous : (a b : Option Output) → same_previous a b ≡ true → a ≡ b
one_previous None None is = refl
one_previous None (Some b) is = absurd (cc)
one_previous (Some a) None is = absurd (cc)
one_previous (Some a) (Some b) is = ap (λ (x : Output). Some x) (one_output_is a b is)

previous_again : (a : Option Output) → same_previous a a ≡ true
previous_again None = refl
previous_again (Some a) = output_again a

pub one_round : (a b : Round) → same_round a b ≡ true → a ≡ b
one_round a b is =
    let seventh = both_tests (bytes_eq a.namespace b.namespace && (a.number == b.number) && same_previous a.previous b.previous && same_mode a.mode b.mode && same_revealing a.reveal b.reveal
    && bytes_eq a.dealers b.dealers) (bytes_eq a.players b.players) is in
    let sixth = both_tests (bytes_eq a.namespace b.namespace && (a.number == b.number) && same_previous a.previous b.previous && same_mode a.mode b.mode && same_revealing a.reveal b.reveal)
    (bytes_eq a.dealers b.dealers) seventh.0 in
    let fifth = both_tests (bytes_eq a.namespace b.namespace && (a.number == b.number) && same_previous a.previous b.previous && same_mode a.mode b.mode) (same_revealing a.reveal b.reveal) sixth.0 in
    let fourth = both_tests (bytes_eq a.namespace b.namespace && (a.number == b.number) && same_previous a.previous b.previous) (same_mode a.mode b.mode) fifth.0 in
    let third = both_tests (bytes_eq a.namespace b.namespace && (a.number == b.number)) (same_previous a.previous b.previous) fourth.0 in
    let parts = both_tests (bytes_eq a.namespace b.namespace) (a.number == b.number) third.0 in
    let namespace = one_bytes a.namespace b.namespace parts.0 in
    let number = one_number a.number b.number parts.1 in
    let previous = one_previous a.previous b.previous third.1 in
    let mode = one_mode a.mode b.mode fourth.1 in
    let reveal = one_revealing a.reveal b.reveal in
    let dealers = one_bytes a.dealers b.dealers sixth.1 in
    let players = one_bytes a.players b.players seventh.1 in
    λ i. record { namespace = namespace i; number = number i; previous = previous i; mode = mode i; reveal = reveal i; dealers = dealers i; players = players i }

pub round_again : (a : Round) → same_round a a ≡ true
round_again a =
    and_tests _ _ (and_tests _ _ (and_tests _ _ (and_tests _ _ (and_tests _ _ (and_tests _ _ (bytes_again a.namespace) (number_again a.number)) (previous_again a.previous)) (mode_again a.mode))
    (revealing_again a.reveal)) (bytes_again a.dealers)) (bytes_again a.players)

pub rounds_decide : (a b : Round) → (same_round a b ≡ true) ↔ (a ≡ b)
rounds_decide a b = (one_round a b, λ same. subst (λ (x : Round). same_round a x ≡ true) same (round_again a))

-- INFOS

one_outcome : (a b : EpochOutcome) → same_outcome a b ≡ true → a ≡ b
one_outcome Success Success is = refl
one_outcome Success Failure is = absurd (cc)
one_outcome Failure Success is = absurd (cc)
one_outcome Failure Failure is = refl

outcome_again : (a : EpochOutcome) → same_outcome a a ≡ true
outcome_again Success = refl
outcome_again Failure = refl

-- what infos that are tested to be the same share
pub record AreOneInfo {Dir : Type 0} (directories : Directories Dir) (a b : EpochInfo Dir) : Type 0 where
  pub outcome : a.outcome ≡ b.outcome
  pub epoch : a.epoch ≡ b.epoch
  pub output : a.output ≡ b.output
  pub players : a.players ≡ b.players
  pub next_players : a.next_players ≡ b.next_players
  pub directory : directories.spelling a.directory ≡ directories.spelling b.directory

module _ {Dir : Type 0} (directories : Directories Dir) where
  pub infos_agree : (a b : EpochInfo Dir) → same_info directories a b ≡ true → AreOneInfo directories a b
  infos_agree a b is =
      let spelled = bytes_eq (directories.spelling a.directory) (directories.spelling b.directory) in
      let sixth = both_tests (same_outcome a.outcome b.outcome && (a.epoch == b.epoch) && same_output a.output b.output && bytes_eq a.players b.players && bytes_eq a.next_players b.next_players)
      spelled is in
      let fifth = both_tests (same_outcome a.outcome b.outcome && (a.epoch == b.epoch) && same_output a.output b.output && bytes_eq a.players b.players) (bytes_eq a.next_players b.next_players)
      sixth.0 in
      let fourth = both_tests (same_outcome a.outcome b.outcome && (a.epoch == b.epoch) && same_output a.output b.output) (bytes_eq a.players b.players) fifth.0 in
      let third = both_tests (same_outcome a.outcome b.outcome && (a.epoch == b.epoch)) (same_output a.output b.output) fourth.0 in
      let parts = both_tests (same_outcome a.outcome b.outcome) (a.epoch == b.epoch) third.0 in
      record {
        outcome = one_outcome a.outcome b.outcome parts.0;
        epoch = one_number a.epoch b.epoch parts.1;
        output = one_output_is a.output b.output third.1;
        players = one_bytes a.players b.players fourth.1;
        next_players = one_bytes a.next_players b.next_players fifth.1;
        directory = one_bytes (directories.spelling a.directory) (directories.spelling b.directory) sixth.1;
      }

  pub infos_are_one : (a b : EpochInfo Dir) → AreOneInfo directories a b → same_info directories a b ≡ true
  infos_are_one a b is =
      and_tests _ _ (and_tests _ _ (and_tests _ _ (and_tests _ _ (and_tests _ _ (tested same_outcome outcome_again is.outcome) (tested (λ (x y : ℕ). x == y) number_again is.epoch))
      (tested same_output output_again is.output)) (tested bytes_eq bytes_again is.players)) (tested bytes_eq bytes_again is.next_players)) (tested bytes_eq bytes_again is.directory)
    where
      tested : {A : Type 0} (same : A → A → Bool) → ((x : A) → same x x ≡ true) → {x y : A} → x ≡ y → same x y ≡ true
      tested same again {x} is = subst (λ y. same x y ≡ true) is (again x)

  pub info_again : (a : EpochInfo Dir) → same_info directories a a ≡ true
  info_again a = infos_are_one a a (record { outcome = refl; epoch = refl; output = refl; players = refl; next_players = refl; directory = refl })
