-- Scripts that are valid: the stored run's, one that delivers blocks, and one over three epochs, where both of its lives came to their end.
use Rattle.std.proofs.Common.{ℕ, zero, suc, ◌≤◌, List, [], ◌∷◌, ◌≡◌, refl, inl, Option, Some, None, lit<, lit≤, arith, sym, subst, ◌∙◌, true, false, ◌<◌}
use Rattle.std.specs.Prelude.{max, option_and_then, IfSome, IsSomeAnd, ◌+◌, ◌-◌, ◌*◌}
use Rattle.std.specs.FinMap.{get-empty}
use Rattle.std.specs.List.{AllByRecursion}
use Rattle.dkg_values.specs.Bytes.{byte_at}
use Rattle.dkg_values.specs.Codec.{many_at}
use Rattle.dkg_values.specs.Lists.{keys_at}
use Rattle.dkg_values.specs.Uint.{groups_at}
use Rattle.dkg_values.specs.declared.name.Name.TheVariants.{Plan}
use Rattle.dkg_ceremony.specs.Modes.{mode_at}
use Rattle.dkg_ceremony.specs.Rounds.{round_of}
use Rattle.dkg_journal.specs.Names.{name_cmp}
use Rattle.dkg_infos.specs.InfoCodes.{info_output_at, parts_at}
use Rattle.dkg_infos.specs.OutcomeCodes.{outcome_after}
use Rattle.dkg_types.specs.PayloadCodes.{payload_info_at, payload_after}
use Rattle.dkg_infos.specs.Validation.{validation}
use Rattle.dkg_text.specs.declared.script.Event.{Event}
use Rattle.dkg_text.specs.declared.script.Event.TheVariants.{Peer, Final, Info}
use Rattle.dkg_text.specs.declared.script.Life.{Life}
use Rattle.dkg_text.specs.declared.script.Script.{Script}
use Rattle.dkg_script.specs.Readings.{SyncMaterial, info_in}
use Rattle.dkg_script.specs.Setting.{Setting, CutAt, life_at}
use Rattle.dkg_script.specs.Blocks.{ScriptBlock, numbered_block, used}
use Rattle.dkg_script.specs.Consistent.{IsConsistentScript}
use Rattle.dkg_script.specs.Position.{IsPlanHistory, awaited_epoch, awaited_height_after, first_height}
use Rattle.dkg_script.specs.Promise.{IsBuilt, with_plans}
use Rattle.dkg_script.specs.Schedule.{boundary, last}
use Rattle.dkg_script.specs.Valid.{BeginsWell, ComesInTurn, MayEndEpoch, IsValidCase, IsValidScript, LiesInRange, ProvidesNext, ServesIn}
use Rattle.dkg_script.proofs.Early.{IsEarlyScript}
use Rattle.dkg_script.proofs.EarlyScripts.{never_back, plain_of}
use Rattle.dkg_script.proofs.EarlyWithin.{early_within}
use Rattle.dkg_script.proofs.Honest.{consistent_in, genesis_is_early}
use Rattle.dkg_script.proofs.OneDealing.{first_life, second_life, two}
use Rattle.dkg_script.proofs.TwoEpochs.{chain, chain_is_consistent, first as chain_life}
use Rattle.dkg_script.proofs.Worked.{script_of, genesis, life_of, line, setting}

-- EVENTS

not_there : {A : Type 0} (x : A) → None ≡ Some x → ⊥
not_there x e = cc

message_no_block : (from number : ℕ) (bytes : List ℕ) → Some (Peer from bytes) ≡ Some (Final number) → ⊥
message_no_block from number bytes e = cc

-- the block that is delivered, by its number
its_number : (k number : ℕ) → Some (Final k) ≡ Some (Final number) → k ≡ number
its_number k number e = cc

its_block : (s : Setting) (k number : ℕ) (known b : ScriptBlock) → k ≡ number → numbered_block s k ≡ Some known → numbered_block s number ≡ Some b → known ≡ b
its_block s k number known b same is there = let e : Some known ≡ Some b = sym is ∙ (rw same there) in cc

in_turn_by : (s : Setting) (k number n : ℕ) (known b : ScriptBlock) → Some (Final k) ≡ Some (Final number) → numbered_block s k ≡ Some known → known.height ≤ n → numbered_block s number ≡ Some b → b.height ≤ n
in_turn_by s k number n known b final is low there =
    subst (λ (x : ScriptBlock). x.height ≤ n) (its_block s k number known b (its_number k number final) is there) low

-- ENDS OF EPOCHS
ends_by : (s : Setting) (epoch : ℕ) (one event : Event) → Some one ≡ Some event → MayEndEpoch s epoch event → MayEndEpoch s epoch one
ends_by s epoch one event is its = subst (λ (e : Event). MayEndEpoch s epoch e) (sym (the_same is)) its
  where
    the_same : Some one ≡ Some event → one ≡ event
    the_same e = cc

zero_is_last : (n epoch : ℕ) → 2 ≤ n → 0 ≡ last n epoch → ⊥
zero_is_last n epoch long is = let at : 0 ≡ epoch * n + n - 1 = is in omega (arith, at, long)

one_is_last : (epoch : ℕ) → 1 ≡ last 8 epoch → ⊥
one_is_last epoch is = let at : 1 ≡ epoch * 8 + 8 - 1 = is in omega (arith, at)

-- BEGINNINGS: which epochs a height begins

begins_first : (n epoch : ℕ) → 2 ≤ n → 0 ≡ boundary n (suc epoch) → ⊥
begins_first n epoch long is = let at : 0 ≡ epoch * n + n - 1 = is in omega (arith, at, long)

begins_none : (epoch : ℕ) → 1 ≡ boundary 8 epoch → ⊥
begins_none zero is = let at : 1 ≡ 0 = is in omega (arith, at)
begins_none (suc epoch) is = let at : 1 ≡ epoch * 8 + 8 - 1 = is in omega (arith, at)

-- THE STORED RUN: no block is delivered

module _ (plans : List (Option SyncMaterial)) where
  abbrev stored : Setting
  stored = with_plans (setting two) plans

  first_in_turn : ComesInTurn stored 0 first_life
  first_in_turn zero number b is comes there = absurd (message_no_block _ number _ is)
  first_in_turn (suc j) number b is comes there = absurd (not_there (Final number) is)

  second_in_turn : ComesInTurn stored 1 second_life
  second_in_turn j number b is comes there = absurd (not_there (Final number) is)

  two_in_turn : (l : ℕ) → IfSome (life_at stored l) (ComesInTurn stored l)
  two_in_turn zero = first_in_turn
  two_in_turn (suc zero) = second_in_turn
  two_in_turn (suc (suc l)) = tt

  first_provides : ProvidesNext stored 0 first_life
  first_provides zero event is comes ends takes_part = absurd (ends_by stored (awaited_epoch stored 0 first_life 0) _ event is ends)
  first_provides (suc j) event is comes ends takes_part = absurd (not_there event is)

  second_provides : ProvidesNext stored 1 second_life
  second_provides j event is comes ends takes_part = absurd (not_there event is)

  two_provides : (l : ℕ) → IfSome (life_at stored l) (ProvidesNext stored l)
  two_provides zero = first_provides
  two_provides (suc zero) = second_provides
  two_provides (suc (suc l)) = tt

  two_serves : (epoch : ℕ) → 0 ≡ boundary 8 epoch → IsSomeAnd (option_and_then (λ b. b.info) (numbered_block stored 0)) (ServesIn stored epoch)
  unfolding info_in payload_after payload_info_at parts_at info_output_at outcome_after mode_at byte_at many_at keys_at groups_at validation round_of
  two_serves zero at = record { of_epoch = refl; accepted = refl; round = refl }
  two_serves (suc epoch) at = absurd (begins_first 8 epoch (lit≤ tt) at)

  two_begins : AllByRecursion (BeginsWell stored) (used stored)
  unfolding used
  two_begins = (two_serves, (two_serves, tt))

  two_in_range : AllByRecursion (λ b. LiesInRange stored b.height × LiesInRange stored (b.height + 1)) (used stored)
  unfolding used
  two_in_range = ((lit< tt, lit< tt), ((lit< tt, lit< tt), tt))

pub two_is_valid : (ends : List (Option CutAt)) → IsValidScript (setting two) ends
two_is_valid ends = record {
  source = λ plans history. record {
    consistent = consistent_in plans ends history;
    in_turn = λ l began. two_in_turn plans l;
    provided = λ l began. two_provides plans l;
    in_range = two_in_range plans;
    begins = two_begins plans;
  };
}

-- A LIFE THAT IS BROUGHT TWO BLOCKS, the first again and the next

abbrev brought : Life
brought = life_of (Final 0 ∷ Final 1 ∷ []) None

abbrev pub delivering : Script
delivering = script_of 8 (lit< tt) (genesis ∷ line 1 (Some 0) None ∷ []) (brought ∷ [])

least : (n : ℕ) → 0 ≤ n
least n = omega arith

-- whatever the life starts at, height 1 is awaited or below once the block at height 0 was delivered
behind_first : (n : ℕ) → 1 ≤ max n 1
behind_first n = omega arith

module _ (plans : List (Option SyncMaterial)) where
  abbrev case : Setting
  case = with_plans (setting delivering) plans

  delivering_is_early : IsEarlyScript delivering
  delivering_is_early = record {
    plain = refl;
    reshares = refl;
    own = lit< tt;
    in_bound = lit≤ tt;
    long = lit≤ tt;
    short = lit< tt;
    supported = refl;
    rising = refl;
    blocks = (genesis_is_early [], ((lit< tt, tt), tt));
    first = refl;
    lives = (record { anchor = tt; holds = refl; no_sync = refl; events = (lit< tt, (lit< tt, tt)) }, tt);
  }

  delivering_is_built : IsBuilt case
  delivering_is_built = record { form = early_within delivering delivering_is_early; no_plan = get-empty name_cmp Plan }

  delivering_consistent : (ends : List (Option CutAt)) → IsPlanHistory case ends → IsConsistentScript case ends
  unfolding used info_in payload_after payload_info_at parts_at info_output_at outcome_after mode_at byte_at many_at keys_at groups_at
  delivering_consistent ends history = record {
    one_chain = (refl, (refl, (refl, tt)));
    linked = (tt, (tt, (refl, tt)));
    one_info = rw (get-empty name_cmp Plan) (refl, (refl, tt));
    never_back = λ l below began. never_back case ends delivering_is_early (plain_of case delivering_is_built) history l began;
    others = ((tt, (tt, tt)), tt);
  }

  delivering_turn : ComesInTurn case 0 brought
  unfolding awaited_height_after
  delivering_turn zero number b is comes there = inl (in_turn_by case 0 number (awaited_height_after case 0 brought 0) _ b is refl (least (awaited_height_after case 0 brought 0)) there)
  delivering_turn (suc zero) number b is comes there = inl (in_turn_by case 1 number (awaited_height_after case 0 brought 1) _ b is refl (behind_first (first_height case 0 brought)) there)
  delivering_turn (suc (suc j)) number b is comes there = absurd (not_there (Final number) is)

  delivering_in_turn : (l : ℕ) → IfSome (life_at case l) (ComesInTurn case l)
  delivering_in_turn zero = delivering_turn
  delivering_in_turn (suc l) = tt

  delivering_brought : ProvidesNext case 0 brought
  delivering_brought zero event is comes ends takes_part =
      absurd (zero_is_last 8 (awaited_epoch case 0 brought 0) (lit≤ tt) (ends_by case (awaited_epoch case 0 brought 0) (Final 0) event is ends))
  delivering_brought (suc zero) event is comes ends takes_part =
      absurd (one_is_last (awaited_epoch case 0 brought 1) (ends_by case (awaited_epoch case 0 brought 1) (Final 1) event is ends))
  delivering_brought (suc (suc j)) event is comes ends takes_part = absurd (not_there event is)

  delivering_provides : (l : ℕ) → IfSome (life_at case l) (ProvidesNext case l)
  delivering_provides zero = delivering_brought
  delivering_provides (suc l) = tt

  delivering_serves : (epoch : ℕ) → 0 ≡ boundary 8 epoch → IsSomeAnd (option_and_then (λ b. b.info) (numbered_block case 0)) (ServesIn case epoch)
  unfolding info_in payload_after payload_info_at parts_at info_output_at outcome_after mode_at byte_at many_at keys_at groups_at validation round_of
  delivering_serves zero at = record { of_epoch = refl; accepted = refl; round = refl }
  delivering_serves (suc epoch) at = absurd (begins_first 8 epoch (lit≤ tt) at)

  delivering_begins : AllByRecursion (BeginsWell case) (used case)
  unfolding used
  delivering_begins = (delivering_serves, (delivering_serves, ((λ epoch at. absurd (begins_none epoch at)), tt)))

  delivering_in_range : AllByRecursion (λ b. LiesInRange case b.height × LiesInRange case (b.height + 1)) (used case)
  unfolding used
  delivering_in_range = ((lit< tt, lit< tt), ((lit< tt, lit< tt), ((lit< tt, lit< tt), tt)))

pub delivering_is_valid : (ends : List (Option CutAt)) → IsValidScript (setting delivering) ends
delivering_is_valid ends = record {
  source = λ plans history. record {
    consistent = delivering_consistent plans ends history;
    in_turn = λ l began. delivering_in_turn plans l;
    provided = λ l began. delivering_provides plans l;
    in_range = delivering_in_range plans;
    begins = delivering_begins plans;
  };
}

-- OVER THREE EPOCHS of two blocks: heights 1 and 3 begin epochs 1 and 2

abbrev over : Setting
over = setting chain

ends_two : (epoch : ℕ) → 2 ≡ boundary 2 epoch → ⊥
ends_two zero is = let at : 2 ≡ 0 = is in omega (arith, at)
ends_two (suc epoch) is = let at : 2 ≡ epoch * 2 + 2 - 1 = is in omega (arith, at)

past_one : (epoch : ℕ) → 1 ≡ boundary 2 (suc (suc epoch)) → ⊥
past_one epoch is = let at : 1 ≡ suc epoch * 2 + 2 - 1 = is in omega (arith, at)

past_three : (epoch : ℕ) → 3 ≡ boundary 2 (suc (suc (suc epoch))) → ⊥
past_three epoch is = let at : 3 ≡ suc (suc epoch) * 2 + 2 - 1 = is in omega (arith, at)

none_alike : (a b : ℕ) → suc a ≡ 0 → ⊥
none_alike a b is = omega (arith, is)

three_not_one : ◌≡◌ {A = ℕ} 3 1 → ⊥
three_not_one is = omega (arith, is)

serves_zero : (epoch : ℕ) → 0 ≡ boundary 2 epoch → IsSomeAnd (option_and_then (λ b. b.info) (numbered_block over 0)) (ServesIn over epoch)
unfolding info_in payload_after payload_info_at parts_at info_output_at outcome_after mode_at byte_at many_at keys_at groups_at validation round_of
serves_zero zero at = record { of_epoch = refl; accepted = refl; round = refl }
serves_zero (suc epoch) at = absurd (begins_first 2 epoch (lit≤ tt) at)

serves_one : (epoch : ℕ) → 1 ≡ boundary 2 epoch → IsSomeAnd (option_and_then (λ b. b.info) (numbered_block over 1)) (ServesIn over epoch)
unfolding info_in payload_after payload_info_at parts_at info_output_at outcome_after mode_at byte_at many_at keys_at groups_at validation round_of
serves_one zero at = absurd (none_alike 0 0 at)
serves_one (suc zero) at = record { of_epoch = refl; accepted = refl; round = refl }
serves_one (suc (suc epoch)) at = absurd (past_one epoch at)

serves_three : (epoch : ℕ) → 3 ≡ boundary 2 epoch → IsSomeAnd (option_and_then (λ b. b.info) (numbered_block over 3)) (ServesIn over epoch)
unfolding info_in payload_after payload_info_at parts_at info_output_at outcome_after mode_at byte_at many_at keys_at groups_at validation round_of
serves_three zero at = absurd (none_alike 2 0 at)
serves_three (suc zero) at = absurd (three_not_one at)
serves_three (suc (suc zero)) at = record { of_epoch = refl; accepted = refl; round = refl }
serves_three (suc (suc (suc epoch))) at = absurd (past_three epoch at)

chain_turn : ComesInTurn over 0 chain_life
unfolding awaited_height_after
chain_turn zero number b is comes there = absurd (message_no_block _ number _ is)
chain_turn (suc zero) number b is comes there = inl (in_turn_by over 0 number (awaited_height_after over 0 chain_life 1) _ b is refl (lit≤ tt) there)
chain_turn (suc (suc zero)) number b is comes there = inl (in_turn_by over 1 number (awaited_height_after over 0 chain_life 2) _ b is refl (lit≤ tt) there)
chain_turn (suc (suc (suc zero))) number b is comes there = absurd (message_no_block _ number _ is)
chain_turn (suc (suc (suc (suc zero)))) number b is comes there = inl (in_turn_by over 2 number (awaited_height_after over 0 chain_life 4) _ b is refl (lit≤ tt) there)
chain_turn (suc (suc (suc (suc (suc zero))))) number b is comes there = inl (in_turn_by over 3 number (awaited_height_after over 0 chain_life 5) _ b is refl (lit≤ tt) there)
chain_turn (suc (suc (suc (suc (suc (suc j)))))) number b is comes there = absurd (not_there (Final number) is)

chain_in_turn : (l : ℕ) → IfSome (life_at over l) (ComesInTurn over l)
chain_in_turn zero = chain_turn
chain_in_turn (suc zero) = λ j number b is comes there. absurd (not_there (Final number) is)
chain_in_turn (suc (suc l)) = tt

two_is_last : (epoch : ℕ) → 2 ≡ last 2 epoch → ⊥
two_is_last epoch is = let at : 2 ≡ epoch * 2 + 2 - 1 = is in omega (arith, at)

chain_life_provides : ProvidesNext over 0 chain_life
unfolding awaited_height_after
chain_life_provides zero event is comes ends takes_part = absurd (ends_by over 0 _ event is ends)
chain_life_provides (suc zero) event is comes ends takes_part = absurd (zero_is_last 2 0 (lit≤ tt) (ends_by over 0 (Final 0) event is ends))
chain_life_provides (suc (suc zero)) event is comes ends takes_part = (lit< tt, lit≤ tt)
chain_life_provides (suc (suc (suc zero))) event is comes ends takes_part = absurd (ends_by over 1 _ event is ends)
chain_life_provides (suc (suc (suc (suc zero)))) event is comes ends takes_part = absurd (two_is_last 1 (ends_by over 1 (Final 2) event is ends))
chain_life_provides (suc (suc (suc (suc (suc zero))))) event is comes ends takes_part = (lit< tt, lit≤ tt)
chain_life_provides (suc (suc (suc (suc (suc (suc j)))))) event is comes ends takes_part = absurd (not_there event is)

chain_provides : (l : ℕ) → IfSome (life_at over l) (ProvidesNext over l)
chain_provides zero = chain_life_provides
chain_provides (suc zero) = λ j event is comes ends takes_part. absurd (not_there event is)
chain_provides (suc (suc l)) = tt

chain_in_range : AllByRecursion (λ b. LiesInRange over b.height × LiesInRange over (b.height + 1)) (used over)
unfolding used
chain_in_range = ((lit< tt, lit< tt), ((lit< tt, lit< tt), ((lit< tt, lit< tt), ((lit< tt, lit< tt), ((lit< tt, lit< tt), ((lit< tt, lit< tt), ((lit< tt, lit< tt), tt)))))))

chain_begins : AllByRecursion (BeginsWell over) (used over)
unfolding used
chain_begins = (serves_zero, (serves_zero, (serves_one, ((λ epoch at. absurd (ends_two epoch at)), (serves_three, (serves_three, (serves_three, tt)))))))

pub chain_is_valid : IsValidCase over (None ∷ None ∷ [])
chain_is_valid = record {
  consistent = chain_is_consistent;
  in_turn = λ l began. chain_in_turn l;
  provided = λ l began. chain_provides l;
  in_range = chain_in_range;
  begins = chain_begins;
}

-- WHERE THE SCRIPT'S LINES GIVE NO PLAYERS to the epoch two above one that ends, a life that takes part in it isn't served, and one that follows it wants none
abbrev unserved : Setting
unserved = setting (record chain { config = record chain.config { players = [] } })

nobody : 0 < 0 → ⊥
nobody below = omega arith

pub chain_is_unserved : ProvidesNext unserved 0 chain_life → ⊥
unfolding awaited_height_after
chain_is_unserved its = nobody (its 2 (Final 1) refl tt refl refl).0

abbrev follower : Life
follower = record (life_of (Info 1 ∷ Final 1 ∷ []) None) { held = [] }

follows_on : false ≡ true → ⊥
follows_on e = cc

pub follower_is_served : ProvidesNext (setting (record chain { config = record chain.config { players = [] }; lives = follower ∷ [] })) 0 follower
unfolding awaited_height_after
follower_is_served zero event is comes ends takes_part = absurd (follows_on (sym takes_part))
follower_is_served (suc zero) event is comes ends takes_part = absurd (follows_on (sym takes_part))
follower_is_served (suc (suc j)) event is comes ends takes_part = absurd (not_there event is)

-- .. nor is the same life where it takes part, since it asks for an info
abbrev asker : Life
asker = life_of (Info 1 ∷ []) None

pub asker_is_unserved : ProvidesNext (setting (record chain { config = record chain.config { players = [] }; lives = asker ∷ [] })) 0 asker → ⊥
unfolding awaited_height_after
asker_is_unserved its = nobody (its 0 (Info 1) refl tt tt refl).0
