-- What is known of recorded logs, which blocks they come from, and which past is whole: what meets each notion, and what just misses it.
use Rattle.std.proofs.Common.{ℕ, zero, suc, ◌+◌, ◌*◌, ◌-◌, ◌<◌, ◌≤◌, List, [], ◌∷◌, ◌≡◌, refl, sym, ap, subst, ◌∙◌, Option, Some, None, true, length, lit<, lit≤, arith}
use Rattle.std.specs.Prelude.{slice_get, IfSome, IsSomeAnd, IsTrue}
use Rattle.std.specs.FinMap as maps
use Rattle.std.specs.FinMap.{empty, get, get-empty, insert}
use Rattle.dkg_values.specs.Bytes.{byte_at}
use Rattle.dkg_values.specs.Codec.{many_at}
use Rattle.dkg_values.specs.Lists.{keys_at}
use Rattle.dkg_values.specs.Uint.{groups, groups_at}
use Rattle.dkg_ceremony.specs.Acks.{ack_content, check_ack_of}
use Rattle.dkg_ceremony.specs.Marks.{mark_of}
use Rattle.dkg_ceremony.specs.Modes.{mode_at}
use Rattle.dkg_ceremony.specs.Outcomes.{outcome_of, selected_of}
use Rattle.dkg_ceremony.specs.Rounds.{round_bytes, round_of}
use Rattle.dkg_ceremony.specs.ValidLogs.{bears_ack_of}
use Rattle.dkg_ceremony.specs.declared.dealer_log.DealerLog.{DealerLog}
use Rattle.dkg_ceremony.specs.declared.log_entry.LogEntry.TheVariants.{Ack, Reveal}
use Rattle.dkg_ceremony.specs.declared.round.RoundParts.{RoundParts as Round}
use Rattle.dkg_journal.specs.Records.{SectionEntry}
use Rattle.dkg_secrets.specs.Keys.{key_cmp}
use Rattle.dkg_secrets.proofs.Map.{keys_total}
use Rattle.dkg_store.specs.Noted.{Notes, logs_in}
use Rattle.dkg_store.specs.declared.recorded_log.RecordedLog.{RecordedLog}
use Rattle.dkg_infos.specs.InfoCodes.{info_output_at, parts_at}
use Rattle.dkg_infos.specs.NextInfos.{Provided, next_info}
use Rattle.dkg_infos.specs.OutcomeCodes.{outcome_after}
use Rattle.dkg_types.specs.Paths.{logs_from}
use Rattle.dkg_types.specs.PayloadCodes.{payload_info_at, payload_after}
use Rattle.dkg_infos.specs.declared.entry.Restored.{Restored}
use Rattle.dkg_text.specs.declared.script.Anchor.TheVariants.{Processed}
use Rattle.dkg_text.specs.declared.script.Life.{Life}
use Rattle.sha2.specs.Sha256.{first_words, schedule, rounds, compress, hash_after, digest_bytes, sha256}
use Rattle.dkg_script.specs.Blocks.{ScriptBlock, numbered_block, blocks, known_info, round_at, used}
use Rattle.dkg_script.specs.History.{AreChainLogs, CarriesNext, IsOneDigest, IsWholeHistory, MissesNone, chain_logs}
use Rattle.dkg_script.specs.LogsKnown.{IsCarried, LogsKnown}
use Rattle.dkg_script.specs.OwnMarks.{IsOwnMarkKnown}
use Rattle.dkg_script.specs.Players.{players_at}
use Rattle.dkg_script.specs.Position.{awaited_height_after}
use Rattle.dkg_script.specs.Progress.{pair_of}
use Rattle.dkg_script.specs.Readings.{Info, info_in}
use Rattle.dkg_script.specs.Schedule.{last}
use Rattle.dkg_script.specs.Setting.{Setting}
use Rattle.dkg_script.proofs.Honest.{consistent_in}
use Rattle.dkg_script.proofs.OneDealing.{first_life, pair, second_life, two}
use Rattle.dkg_script.proofs.Rounds.{carried, first_info, keys, round}
use Rattle.dkg_script.proofs.Trials.{no_plan, round_zero}
use Rattle.dkg_script.proofs.TwoEpochs.{chain}
use Rattle.dkg_script.proofs.Worked.{ack_of_dealt, genesis, life_of, line, nothing_there, script_of, setting}

not_itself : (n : ℕ) → n < n → ⊥
not_itself n below = omega arith

none_below : (n : ℕ) → n < 0 → ⊥
none_below n below = omega arith

-- LOGS THAT BEAR an acknowledgement of this node

-- dealer 2's log of the dealing that key 1 acknowledged
abbrev log : DealerLog
log = record { public = 15 ∷ 7 ∷ 1 ∷ []; entries = Ack ack_of_dealt ∷ Reveal 1 ∷ Reveal 1 ∷ Reveal 1 ∷ [] }

bears : bears_ack_of (round 0) 2 log 1 ≡ true
unfolding bears_ack_of check_ack_of ack_content mark_of round_bytes groups first_words schedule rounds compress hash_after digest_bytes sha256
bears = refl

round_is : round_at (setting two) 0 ≡ Some (round 0)
round_is = round_zero 8 (lit< tt) first_life.events None (second_life ∷ [])

abbrev known_by : List Restored → Option Round → Type 0
known_by pairs o = IfSome o (λ round. IsTrue (bears_ack_of round 2 log 1) → IsSomeAnd (pair_of pairs 0 2) (λ its. log.public ≡ its.public))

-- its dealing is recorded
pub known : IsOwnMarkKnown (setting two) (pair ∷ []) 0 2 log
known = subst (known_by (pair ∷ [])) (sym round_is) (λ bears. refl)

-- .. it isn't
pub unknown : IsOwnMarkKnown (setting two) [] 0 2 log → ⊥
unknown its = subst (known_by []) round_is its bears

abbrev noted_at : Option ℕ → RecordedLog
noted_at height = record { height = height; log = log }

abbrev noting : Notes RecordedLog
noting = insert empty (0, 2) (noted_at (Some 4))

noted_there : get noting (0, 2) ≡ Some (noted_at (Some 4))
noted_there = maps.get-insert keys_total empty (0, 2) (noted_at (Some 4)) (0, 2)

pub logs_unknown : LogsKnown (setting two) 0 [] noting → ⊥
logs_unknown its = unknown (its (0, 2) (noted_at (Some 4)) (lit< tt) noted_there)

-- nothing is asked of a log two epochs below one that has begun, nor where none is recorded
pub logs_past : (begun : ℕ) → 2 ≤ begun → (key : ℕ × ℕ) → key.0 ≡ 0 → begun < key.0 + 2 → ⊥
logs_past begun late key is current = omega (arith, late, is, current)

none_some : {A : Type 0} (x : A) → ◌≡◌ {A = Option A} None (Some x) → ⊥
none_some x e = cc

none_noted : (key : ℕ × ℕ) (noted : RecordedLog) → get {R = key_cmp} empty key ≡ Some noted → ⊥
none_noted key noted is = none_some noted (sym (get-empty key_cmp key) ∙ is)

pub no_logs : (s : Setting) (begun : ℕ) (pairs : List Restored) → LogsKnown s begun pairs empty
no_logs s begun pairs key noted current is = absurd (none_noted key noted is)

-- BLOCKS THAT CARRY A LOG

abbrev carrying : (height : ℕ) → ScriptBlock
carrying height = record { height = height; digest = []; parent = []; view = 0; payload = None; info = None; log = Some (record { dealer = 2; log = log; mark = [] }) }

pub late_enough : IsCarried (setting two) 0 2 (carrying 4) (noted_at (Some 4))
late_enough = record { of_epoch = refl; late = lit≤ tt; below = lit< tt; height_is = refl; log_is = (refl, refl) }

-- below the midpoint
pub too_early : IsCarried (setting two) 0 2 (carrying 3) (noted_at (Some 3)) → ⊥
too_early its = not_so its.late
  where
    not_so : 4 ≤ 3 → ⊥
    not_so late = omega arith

-- the epoch's last
pub too_late : IsCarried (setting two) 0 2 (carrying 7) (noted_at (Some 7)) → ⊥
too_late its = not_itself 7 its.below

-- noted without a height, and of another dealer
pub no_height : IsCarried (setting two) 0 2 (carrying 4) (noted_at None) → ⊥
no_height its = none_some 4 its.height_is

pub other_dealer : IsCarried (setting two) 0 3 (carrying 4) (noted_at (Some 4)) → ⊥
other_dealer its = differ its.log_is.0
  where
    differ : ◌≡◌ {A = ℕ} 2 3 → ⊥
    differ e = omega (arith, e)

-- THE PAST

-- of one block each is the same
only_one : (bs : List ScriptBlock) (one other : ℕ) (a b : ScriptBlock) → length bs ≡ 1 → slice_get bs one ≡ Some a → slice_get bs other ≡ Some b → a ≡ b
only_one [] one other a b alone first second = absurd (none_some a first)
only_one (x ∷ y ∷ ys) one other a b alone first second = absurd (omega (arith, alone))
only_one (x ∷ []) zero zero a b alone first second = cc
only_one (x ∷ []) (suc one) other a b alone first second = absurd (none_some a first)
only_one (x ∷ []) zero (suc other) a b alone first second = absurd (none_some b second)

one_digest : IsOneDigest (setting two)
one_digest one other a b first second same = only_one (blocks (setting two)) one other a b refl first second

no_records : AreChainLogs (setting two)
no_records epoch dealer noted round l j life there comes known is =
    absurd (none_noted (epoch, dealer) noted (sym (ap (λ (es : List SectionEntry). get (logs_in es) (epoch, dealer)) nothing_there) ∙ is))

starts_at_zero : (life : Life) → awaited_height_after (setting two) 0 first_life 0 ≡ 0
unfolding awaited_height_after
starts_at_zero life = refl

second_at_zero : awaited_height_after (setting two) 1 second_life 0 ≡ 0
unfolding awaited_height_after
second_at_zero = refl

same_life : (one other : Life) → ◌≡◌ {A = Option Life} (Some one) (Some other) → one ≡ other
same_life one other e = cc

-- lives that begin at the chain's start miss nothing
misses_none : MissesNone (setting two) []
misses_none zero height life is takes late before =
    let same : first_life ≡ life = same_life first_life life is in
    absurd (none_below height (subst (λ (n : ℕ). height < n) (ap (λ (its : Life). awaited_height_after (setting two) 0 its 0) (sym same) ∙ starts_at_zero life) before))
misses_none (suc zero) height life is takes late before =
    let same : second_life ≡ life = same_life second_life life is in
    absurd (none_below height (subst (λ (n : ℕ). height < n) (ap (λ (its : Life). awaited_height_after (setting two) 1 its 0) (sym same) ∙ second_at_zero) before))
misses_none (suc (suc l)) height life is takes late before = absurd (none_some life is)

pub two_is_whole : IsWholeHistory (setting two) []
two_is_whole = record { consistent = consistent_in [] [] (no_plan two [] refl (refl, (refl, tt))); one_digest = one_digest; logs = no_records; missed = misses_none }

-- A LIFE THAT BEGINS BEHIND THE MIDPOINT of an epoch that it takes part in has missed what no life before it was brought
abbrev behind : Life
behind = record (life_of [] None) { anchor = Some (Processed 1); held = 0 ∷ 1 ∷ [] }

abbrev missing : Setting
missing = setting (script_of 8 (lit< tt) (genesis ∷ line 5 None None ∷ []) (behind ∷ []))

pub has_missed : MissesNone missing [] → ⊥
unfolding awaited_height_after
has_missed its = none_below (its 0 4 behind refl refl (lit≤ tt) (lit< tt)).before (its 0 4 behind refl refl (lit≤ tt) (lit< tt)).earlier

-- WHAT AN EPOCH'S LAST BLOCK CARRIES, where its chain has no log: the output is carried on, and who was to play next plays
abbrev provided : Provided (List ℕ)
provided = record { participants = players_at chain.config.players; directory = λ epoch peers. [] }

no_chain_logs : chain_logs (setting chain) (round 0) 0 ≡ []
unfolding used logs_from
no_chain_logs = refl

no_outcome : outcome_of (round 0) [] ≡ None
unfolding outcome_of selected_of
no_outcome = refl

ends_first : (epoch : ℕ) → 1 ≡ last 2 epoch → epoch ≡ 0
ends_first epoch is = let at : 1 ≡ epoch * 2 + 2 - 1 = is in omega (arith, at)

same_info : (one other : Info) → ◌≡◌ {A = Option Info} (Some one) (Some other) → one ≡ other
same_info one other e = cc

same_round : (one other : Round) → ◌≡◌ {A = Option Round} (Some one) (Some other) → one ≡ other
same_round one other e = cc

known_zero : known_info (setting chain) 0 ≡ Some first_info
unfolding used info_in payload_after payload_info_at parts_at info_output_at outcome_after mode_at byte_at many_at keys_at groups_at
known_zero = refl

round_zero_of_chain : round_at (setting chain) 0 ≡ Some (round 0)
unfolding round_at used info_in payload_after payload_info_at parts_at info_output_at outcome_after mode_at byte_at many_at keys_at groups_at round_of
round_zero_of_chain = refl

carried_is : Some (carried 1) ≡ Some (next_info outcome_of provided first_info (round 0) (chain_logs (setting chain) (round 0) 0))
unfolding next_info
carried_is = rw (no_chain_logs, no_outcome) refl

carried_after : (epoch : ℕ) (info : Info) (its : Round) → epoch ≡ 0 → known_info (setting chain) epoch ≡ Some info → round_at (setting chain) epoch ≡ Some its
    → Some (carried 1) ≡ Some (next_info outcome_of provided info its (chain_logs (setting chain) its epoch))
carried_after epoch info its zeroth info_is its_is =
    let one : first_info ≡ info = same_info first_info info (sym known_zero ∙ ap (known_info (setting chain)) (sym zeroth) ∙ info_is) in
    let same : round 0 ≡ its = same_round (round 0) its (sym round_zero_of_chain ∙ ap (round_at (setting chain)) (sym zeroth) ∙ its_is) in
    subst (λ (e : ℕ). Some (carried 1) ≡ Some (next_info outcome_of provided info its (chain_logs (setting chain) its e))) (sym zeroth)
    (subst (λ (r : Round). Some (carried 1) ≡ Some (next_info outcome_of provided info r (chain_logs (setting chain) r 0))) same
    (subst (λ (i : Info). Some (carried 1) ≡ Some (next_info outcome_of provided i (round 0) (chain_logs (setting chain) (round 0) 0))) one carried_is))

abbrev CarriesFirst : Provided (List ℕ) → Type 0
CarriesFirst by = IfSome (numbered_block (setting chain) 1) (CarriesNext (setting chain) by)

pub first_carries : CarriesFirst provided
unfolding info_in payload_after payload_info_at parts_at info_output_at outcome_after mode_at byte_at many_at keys_at groups_at
first_carries epoch info its at info_is its_is = carried_after epoch info its (ends_first epoch at) info_is its_is

-- .. not what another provider makes of it
abbrev nobody : Provided (List ℕ)
nobody = record { participants = λ epoch. []; directory = λ epoch peers. [] }

next_of_nobody : (next_info outcome_of nobody first_info (round 0) (chain_logs (setting chain) (round 0) 0)).next_players ≡ []
unfolding next_info
next_of_nobody = rw (no_chain_logs, no_outcome) refl

some_keys : keys ≡ [] → ⊥
some_keys e = cc

next_in : Option Info → List ℕ
next_in None = []
next_in (Some info) = info.next_players

pub nobody_carries : CarriesFirst nobody → ⊥
unfolding info_in payload_after payload_info_at parts_at info_output_at outcome_after mode_at byte_at many_at keys_at groups_at next_in
nobody_carries its = some_keys (ap next_in (its 0 first_info (round 0) refl known_zero round_zero_of_chain) ∙ next_of_nobody)
