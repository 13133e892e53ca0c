-- A life of a valid script has no cause to stop by the script alone.
use Rattle.std.proofs.Common.{◌≡◌, ◌⊎◌, inl, inr, ℕ, zero, suc, ◌+◌, ◌*◌, ◌<◌, ◌≤◌, ◌==◌, ◌&&◌, ◌||◌, ◌++◌, ◌^◌, List, [], ◌∷◌, Option, Some, None, Bool, true, false, Ok, Err, arith, refl, sym, ap, subst, ◌∙◌, add-one, length, nat_le, take}
use Rattle.std.specs.Prelude.{◌-◌, ◌/◌, nat_lt, option_and_then, option_map, option_to_list, slice_get, IfSome, IsSome, IsSomeAnd, Result}
use Rattle.std.specs.Int.NonZero.{non_zero_u32_get}
use Rattle.std.specs.List.{AllByRecursion}
use Rattle.std.specs.Option.{option_map_or}
use Rattle.std.specs.Result.{result_ok}
use Rattle.std.proofs.lemmas.Bool.Decides.{nat_tests}
use Rattle.std.proofs.lemmas.Nat.{le-div}
use Rattle.std.proofs.Math.Nat.{div-eq_of_lt}
use Rattle.dkg_ceremony.specs.Schedule.{boundary, epoch_of, last, midpoint}
use Rattle.dkg_ceremony.specs.declared.round.RoundParts.{RoundParts as Round}
use Rattle.dkg_ceremony.specs.declared.round.RoundError.{RoundError}
use Rattle.dkg_types.specs.Blocks as made
use Rattle.dkg_types.specs.BlockCodes.{info_of}
use Rattle.dkg_infos.specs.Units.{unit_spelling}
use Rattle.dkg_infos.specs.Validation.{validation}
use Rattle.dkg_infos.specs.declared.directory.Unit as directory
use Rattle.dkg_infos.specs.declared.fault.Fault.{Fault}
use Rattle.dkg_infos.specs.declared.fault.Fault.TheVariants as fault
use Rattle.dkg_infos.specs.declared.fault.ParticipantsCause.TheVariants as cause
use Rattle.dkg_infos.specs.declared.info.EpochInfo.{EpochInfo}
use Rattle.dkg_types.specs.declared.payload.Payload.{Payload}
use Rattle.dkg_types.specs.declared.payload.Payload.TheVariants as payload
use Rattle.dkg_text.specs.declared.script.Anchor.{Anchor}
use Rattle.dkg_text.specs.declared.script.Anchor.TheVariants.{Processed, Absent}
use Rattle.dkg_text.specs.declared.script.Cut.{Cut}
use Rattle.dkg_text.specs.declared.script.Event.{Event}
use Rattle.dkg_text.specs.declared.script.Event.TheVariants as event
use Rattle.dkg_text.specs.declared.script.Life.{Life}
use Rattle.dkg_text.specs.declared.script.Script.{Script}
use Rattle.dkg_script.specs.Blocks.{ScriptBlock, anchor_number, numbered_block, block_of, blocks, round_by, used}
use Rattle.dkg_script.specs.Epochs.{alone}
use Rattle.dkg_script.specs.Inclusion.{IsEventIn, IsFormOfInclusion}
use Rattle.dkg_script.specs.Players.{players_at}
use Rattle.dkg_script.specs.Position.{awaited_epoch, awaited_height_after, life_follows, height_after_anchor}
use Rattle.dkg_script.specs.Readings.{Info, Limits, info_in, unit_payload, with_spelled}
use Rattle.dkg_script.specs.Setting.{CutAt, Setting, blocks_per_epoch, found, life_at, limits}
use Rattle.dkg_script.specs.Valid.{participants_by}
use Rattle.dkg_script.proofs.LineBlocks.{of_line}
use Rattle.dkg_lives.specs.Blamed.{IsBlockCause, IsCause, IsInfoCause, IsLastCause, IsMayCause, IsNextCause, IsOpeningCause, IsProviderCause, IsTakenLast, OnBlock, refusal_in, first_epoch_in, is_beyond, is_first_taken, judged_by, epoch_behind, opening_block, tip_in}
use Rattle.dkg_lives.specs.Epochs.{IsAnchorAbove}
use Rattle.dkg_lives.specs.Given.{AreBytes, blocks_in, limits_of, payload_in}
use Rattle.dkg_script.specs.Valid.{BeginsWell, ComesInTurn, MayEndEpoch, HasPlayers, IsValidCase, LiesInRange, ProvidesNext, ServesIn}
use Rattle.dkg_along.proofs.Alone.{epoch_alike, follows_alike, height_alike}
use Rattle.dkg_core.specs.Sources.{Tip}
use Rattle.dkg_lives.proofs.Awaiting.{IsReached, awaited, comes_to}
use Rattle.dkg_along.proofs.Chaining.{IsOutside, IsSkipped, Tips, refused_so, tips_so}
use Rattle.dkg_lives.proofs.Delivered.{starts}
use Rattle.dkg_along.proofs.Drawn.{all_join, found_number, own_info, same_limits}
use Rattle.dkg_lives.proofs.Former.{IsMadeOf, made_there}
use Rattle.dkg_lives.proofs.Started.{starts_at_anchor}
use Rattle.dkg_along.proofs.Used.{all_back, all_front, held as held_in, of_anchor, of_delivered}

ok_err : {A E : Type 0} (x : A) (e : E) → ◌≡◌ {A = Result A E} (Ok x) (Err e) → ⊥
ok_err x e is = cc

bools_apart : (t : Bool) → t ≡ true → t ≡ false → ⊥
bools_apart t e f = let wrong : true ≡ false = sym e ∙ f in cc

both_all : {A : Type 0} (P Q : A → Type 0) (xs : List A) → AllByRecursion P xs → AllByRecursion Q xs → AllByRecursion (λ x. P x × Q x) xs
both_all P Q [] one two = tt
both_all P Q (x ∷ xs) one two = ((one.0, two.0), both_all P Q xs one.1 two.1)

-- what a payload carries that is no info
none_read : (script : Script) → IsFormOfInclusion script → (bytes : Option (List ℕ)) → info_of (payload_in script.config bytes) ≡ None → option_and_then (info_in (limits_of script)) bytes ≡ None
unfolding info_in
none_read script form None none = refl
none_read script form (Some bytes) none =
    ap (λ (limits : Limits). info_in limits bytes) same_plain ∙ by_payload (unit_payload plain_limits bytes) refl none
  where
    plain_limits : Limits
    plain_limits = record { limit = non_zero_u32_get script.config.limit; version = script.config.max_mode.0; addressed = false }

    same_plain : limits_of script ≡ plain_limits
    same_plain = rw form.plain refl

    by_payload : (o : Option (Payload directory.Unit)) → unit_payload plain_limits bytes ≡ o → info_of o ≡ None → info_in plain_limits bytes ≡ None
    by_payload None is none = rw is refl
    by_payload (Some (payload.EpochInfo i)) is none = absurd (let wrong : ◌≡◌ {A = Option (EpochInfo directory.Unit)} (Some i) None = none in cc)
    by_payload (Some (payload.DealerLog log)) is none = rw is refl

module _ (s : Setting) (ends : List (Option CutAt)) (valid : IsValidCase s ends) (form : IsFormOfInclusion s.script) where
  abbrev n : ℕ
  n = blocks_per_epoch s

  -- what holds of each used block
  abbrev Good : ScriptBlock → Type 0
  Good b = (LiesInRange s b.height × LiesInRange s (b.height + 1)) × BeginsWell s b

  all_good : AllByRecursion Good (used s)
  all_good = both_all (λ b. LiesInRange s b.height × LiesInRange s (b.height + 1)) (BeginsWell s) (used s) valid.in_range valid.begins

  within : (height : ℕ) → LiesInRange s height → is_beyond s.script height ≡ false
  within height low = below (2 ^ 64) (last n (epoch_of n height)) low
    where
      below : (most h : ℕ) → h < most → nat_le most h ≡ false
      below most h low = grind (arith, nat_tests)

  -- A BLOCK that begins an epoch serves
  module _ (number : ℕ) (made_it : IsMadeOf s.script number) (good : IfSome (numbered_block s number) Good) where
    abbrev own : ScriptBlock
    own = block_of s (take number (blocks s)) made_it.line

    own_good : Good own
    own_good = subst (λ (o : Option ScriptBlock). IfSome o Good) (of_line s number made_it.line made_it.line_is) good

    serves : (epoch : ℕ) → (made_it.block).height ≡ boundary n epoch → IsSomeAnd own.info (ServesIn s epoch)
    serves epoch at = own_good.1 epoch (sym made_it.height ∙ at)

    carries_one : (epoch : ℕ) → (made_it.block).height ≡ boundary n epoch → info_of (made_it.block).payload ≡ None → ⊥
    carries_one epoch at none = by_info own.info nothing (serves epoch at)
      where
        nothing : own.info ≡ None
        nothing = ap (λ (l : Limits). option_and_then (info_in l) (made_it.line).payload) (same_limits s ends form valid.consistent)
            ∙ none_read s.script form (made_it.line).payload (subst (λ (p : Option (Payload directory.Unit)). info_of p ≡ None) made_it.payload none)

        by_info : (o : Option Info) → o ≡ None → IsSomeAnd o (ServesIn s epoch) → ⊥
        by_info None none serves = serves
        by_info (Some i) none serves = let wrong : ◌≡◌ {A = Option Info} (Some i) None = none in cc

    its_serves : (epoch : ℕ) (info : EpochInfo directory.Unit) → (made_it.block).height ≡ boundary n epoch → info_of (made_it.block).payload ≡ Some info → ServesIn s epoch (with_spelled unit_spelling info)
    its_serves epoch info at carries = subst (λ (o : Option Info). IsSomeAnd o (ServesIn s epoch)) (own_info s ends form valid.consistent number made_it info carries) (serves epoch at)

    info_clear : (epoch : ℕ) (info : EpochInfo directory.Unit) → (made_it.block).height ≡ boundary n epoch → info_of (made_it.block).payload ≡ Some info → (its : Fault) → IsInfoCause s.script epoch info its → ⊥
    info_clear epoch info at carries (fault.WrongEpoch expected got) why = why.2 (its_serves epoch info at carries).of_epoch
    info_clear epoch info at carries (fault.InvalidParticipants (cause.Refused e)) why = ok_err tt e (sym accepted ∙ why.1)
      where
        its_own : ServesIn s epoch (with_spelled unit_spelling info)
        its_own = its_serves epoch info at carries

        accepted : judged_by s.script info ≡ Ok tt
        accepted = subst (λ (e : ℕ). validation (participants_by (with_spelled unit_spelling info)) (non_zero_u32_get s.script.config.limit) (Some info.output) e ≡ Ok tt) (sym its_own.of_epoch)
            (subst (λ (l : Limits). validation (participants_by (with_spelled unit_spelling info)) l.limit (Some info.output) epoch ≡ Ok tt) (same_limits s ends form valid.consistent) its_own.accepted)
    info_clear epoch info at carries (fault.InvalidParticipants (cause.Round e)) why = by_round (round_by s.script epoch info) why.2 (its_serves epoch info at carries).round
      where
        by_round : (r : Result Round RoundError) → r ≡ Err e → IsSome (result_ok r) → ⊥
        by_round (Ok round) is some = ok_err round e is
        by_round (Err other) is some = let wrong : false ≡ true = some in cc
    info_clear epoch info at carries its why = absurd why

  -- WHERE THE SCRIPT HAS PLAYERS for it, the provider says what serves
  none_provided : (epoch : ℕ) → HasPlayers s (epoch + 2) → (its : Fault) → IsProviderCause s.script epoch its → ⊥
  none_provided epoch has (fault.InvalidParticipants cause.ProviderEmpty) why = empty (length (players_at s.script.config.players (epoch + 2))) why has.0
    where
      empty : (count : ℕ) → count ≡ 0 → 0 < count → ⊥
      empty count none some = omega (arith, none, some)
  none_provided epoch has (fault.InvalidParticipants (cause.ProviderAbove count most)) why =
      beyond count most (length (players_at s.script.config.players (epoch + 2))) (limits s).limit why.0 (why.1 ∙ sym (ap (λ (l : Limits). l.limit) (same_limits s ends form valid.consistent))) why.2 has.1
    where
      beyond : (count most players limit : ℕ) → count ≡ players → most ≡ limit → most < count → players ≤ limit → ⊥
      beyond count most players limit one other above low = omega (arith, one, other, above, low)
  none_provided epoch has its why = absurd why

  -- a life without material takes part by the script alone where it does
  part_alike : (l : ℕ) (life : Life) → life.sync ≡ None → found s l ≡ None → (j : ℕ) → life_follows (alone s.script) l life (awaited_epoch (alone s.script) l life j) ≡ false
      → life_follows s l life (awaited_epoch s l life j) ≡ false
  part_alike l life no_sync none_found j takes_part =
      ap (life_follows s l life) (epoch_alike s l life no_sync none_found j) ∙ follows_alike s l life no_sync none_found (awaited_epoch (alone s.script) l life j) ∙ takes_part

  -- A LIFE that began
  module _ (bytes : AreBytes s.script.blocks) (long : 2 ≤ blocks_per_epoch s) (l : ℕ) (life : Life) (life_is : life_at s l ≡ Some life) (anchored : IfSome life.anchor (IsAnchorAbove s.script.blocks)) (no_sync : life.sync ≡ None) (none_found : found s l ≡ None)
      (events_in : AllByRecursion (IsEventIn s.script.blocks) life.events) (in_turn : ComesInTurn s l life) (provides : ProvidesNext s l life) where
    abbrev Numbered : ℕ → Type 0
    Numbered number = IfSome (numbered_block s number) Good

    -- AN OPENING

    held_good : AllByRecursion Numbered (life.held ++ option_to_list (option_map anchor_number life.anchor))
    held_good =
        let all = held_in s l life Good life_is all_good in
        all_join Numbered life.held (option_to_list (option_map anchor_number life.anchor)) (all_back Numbered (option_to_list (option_map anchor_number life.anchor)) life.held all)
        (all_front Numbered (option_to_list (option_map anchor_number life.anchor)) life.held all)

    starts_within : LiesInRange s (height_after_anchor s life.anchor)
    starts_within = by_anchor life.anchor refl
      where
        zero_in : LiesInRange s 0
        zero_in = subst (λ (e : ℕ). last n e < 2 ^ 64) (sym (div-eq_of_lt (some n long))) (first n form.short)
          where
            some : (m : ℕ) → 2 ≤ m → 0 < m
            some m long = omega (arith, long)

            first : (m : ℕ) → m < 2 ^ 64 → 0 * m + m - 1 < 2 ^ 64
            first m short = less (2 ^ 64) m short
              where
                less : (most m : ℕ) → m < most → 0 * m + m - 1 < most
                less most m short = omega (arith, short)

        by_block : (o : Option ScriptBlock) (f : ScriptBlock → ℕ) → IfSome o (λ b. LiesInRange s (f b)) → LiesInRange s (option_map_or f o 0)
        by_block None f its = zero_in
        by_block (Some b) f its = its

        of_good : (o : Option ScriptBlock) → IfSome o Good → IfSome o (λ b. LiesInRange s (suc b.height)) × IfSome o (λ b. LiesInRange s b.height)
        of_good None good = (tt, tt)
        of_good (Some b) good = (subst (λ (h : ℕ). LiesInRange s h) (add-one b.height) good.0.1, good.0.0)

        by_anchor : (at : Option Anchor) → life.anchor ≡ at → LiesInRange s (height_after_anchor s at)
        by_anchor None is = zero_in
        by_anchor (Some (Processed number)) is = by_block (numbered_block s number) (λ b. suc b.height) (of_good (numbered_block s number) (of_anchor s l life Good life_is all_good (Processed number) is)).0
        by_anchor (Some (Absent number)) is = by_block (numbered_block s number) (λ b. b.height) (of_good (numbered_block s number) (of_anchor s l life Good life_is all_good (Absent number) is)).1

    opens_at : awaited_height_after (alone s.script) l life 0 ≡ height_after_anchor s life.anchor
    opens_at = sym (height_alike s l life no_sync none_found 0) ∙ starts s l life ∙ starts_at_anchor s l life no_sync none_found

    -- P of the block that begins its epoch
    of_opening : (P : made.Block directory.Unit → Type 0) → IsSomeAnd (opening_block s.script l life) P
        → (number : ℕ) × (made_it : IsMadeOf s.script number) × Numbered number × ((made_it.block).height ≡ boundary n (first_epoch_in s.script l life)) × P made_it.block
    of_opening P so = by_block (opening_block s.script l life) refl so
      where
        by_block : (o : Option (made.Block directory.Unit)) → opening_block s.script l life ≡ o → IsSomeAnd o P
            → (number : ℕ) × (made_it : IsMadeOf s.script number) × Numbered number × ((made_it.block).height ≡ boundary n (first_epoch_in s.script l life)) × P made_it.block
        by_block None is so = absurd so
        by_block (Some b) is so =
            let found = found_number (blocks_in s.script) (boundary n (first_epoch_in s.script l life)) Numbered b (life.held ++ option_to_list (option_map anchor_number life.anchor)) held_good is in
            let made_it = made_there s.script found.0 b found.1 in
            (found.0, made_it.0, found.2, ap (λ (x : made.Block directory.Unit). x.height) made_it.1 ∙ found.3, subst P (sym made_it.1) so)

    opening_clear : (its : Fault) → IsOpeningCause s.script l life its → ⊥
    opening_clear fault.HeightRange why = bools_apart (is_beyond s.script (awaited_height_after (alone s.script) l life 0)) why (ap (is_beyond s.script) opens_at ∙ within (height_after_anchor s life.anchor) starts_within)
    opening_clear (fault.MissingEpochInfo height) why =
        let its = of_opening (λ b. (height ≡ b.height) × (info_of b.payload ≡ None)) why in
        carries_one its.0 its.1 its.2 (first_epoch_in s.script l life) its.3 its.4.1
    opening_clear own why =
        let its = of_opening (λ b. IsSomeAnd (info_of b.payload) (λ info. IsInfoCause s.script (first_epoch_in s.script l life) info own)) why in
        by_info its.0 its.1 its.2 its.3 (info_of ((its.1).block).payload) refl its.4
      where
        by_info : (number : ℕ) (made_it : IsMadeOf s.script number) → Numbered number → (made_it.block).height ≡ boundary n (first_epoch_in s.script l life) → (o : Option (EpochInfo directory.Unit)) → info_of (made_it.block).payload ≡ o
            → IsSomeAnd o (λ info. IsInfoCause s.script (first_epoch_in s.script l life) info own) → ⊥
        by_info number made_it good at None carries why = absurd why
        by_info number made_it good at (Some info) carries why = info_clear number made_it good (first_epoch_in s.script l life) info at carries own why

    -- A BLOCK that comes
    module _ (j number : ℕ) (made_it : IsMadeOf s.script number) (is : slice_get life.events j ≡ Some (event.Final number)) (reached : IsReached life.cut (suc j)) (all : (i : ℕ) → i < j → (e : Event) × (slice_get life.events i ≡ Some e)) (before : IsReached life.cut j) where
      good : Numbered number
      good = of_delivered s l life Good life_is all_good j number (comes_to life.cut life.events j reached ∙ is)

      tips : Tips s ends valid.consistent form bytes l life life_is anchored no_sync none_found j
      tips = tips_so s ends valid.consistent form bytes l life life_is anchored no_sync none_found events_in j before all

      its_own : Good (own number made_it good)
      its_own = own_good number made_it good

      same_height : (made_it.block).height ≡ (own number made_it good).height
      same_height = made_it.height

      comes : ((own number made_it good).height ≤ awaited_height_after s l life j) ⊎ ((awaited_height_after s l life j ≡ 0) × (life_follows s l life 0 ≡ true))
      comes = in_turn j number (own number made_it good) is reached (of_line s number made_it.line made_it.line_is)

      first_taken : (h : ℕ) → h ≡ 0 → ((epoch_of n h == 0) && nat_lt h (midpoint n (epoch_of n h))) ≡ true
      first_taken h none = ap (λ (x : ℕ). (epoch_of n x == 0) && nat_lt x (midpoint n (epoch_of n x))) none
          ∙ ap (λ (e : ℕ). (e == 0) && nat_lt 0 (midpoint n e)) (div-eq_of_lt (some n long)) ∙ half n long
        where
          some : (n : ℕ) → 2 ≤ n → 0 < n
          some n long = omega (arith, long)

          half : (n : ℕ) → 2 ≤ n → nat_lt 0 (0 * n + n / 2) ≡ true
          half n long = let one : 1 ≤ n / 2 = le-div 1 n 2 (omega arith) (omega (arith, long)) in grind (arith, nat_tests)

      refused_clear : (its : Fault) → refusal_in s.script l life j made_it.block ≡ Some its → ⊥
      refused_clear its refused = either (refused_so s ends valid.consistent form bytes l life life_is anchored no_sync none_found j number made_it.block is reached made_it.is tips its refused)
        where
          apart : (h a : ℕ) → (h ≤ a) ⊎ ((a ≡ 0) × (life_follows s l life 0 ≡ true)) → a < h → 0 < a → ⊥
          apart h a (inl low) above some = omega (arith, low, above)
          apart h a (inr first) above some = omega (arith, first.0, some)

          early : Bool
          early = (epoch_of n (made_it.block).height == 0) && nat_lt (made_it.block).height (midpoint n (epoch_of n (made_it.block).height))

          taken : (h : ℕ) → h ≡ (made_it.block).height → (h ≤ awaited_height_after s l life j) ⊎ ((awaited_height_after s l life j ≡ 0) × (life_follows s l life 0 ≡ true)) → awaited_height_after s l life j ≡ 0 → is_first_taken s.script l life made_it.block ≡ true
          taken h at (inl low) first = or_true (life_follows (alone s.script) l life 0) early (first_taken (made_it.block).height (sym at ∙ none h (awaited_height_after s l life j) low first))
            where
              none : (h a : ℕ) → h ≤ a → a ≡ 0 → h ≡ 0
              none h a low first = omega (arith, low, first)

              or_true : (a b : Bool) → b ≡ true → (a || b) ≡ true
              or_true true b e = refl
              or_true false b e = e
          taken h at (inr its) first = ap (λ (t : Bool). t || early) (sym (follows_alike s l life no_sync none_found 0) ∙ its.1)

          either : ((its ≡ fault.HeightRange) × (is_beyond s.script (made_it.block).height ≡ true))
              ⊎ (IsSkipped s ends valid.consistent form bytes l life life_is anchored no_sync none_found j made_it.block its ⊎ IsOutside s ends valid.consistent form bytes l life life_is anchored no_sync none_found j made_it.block its) → ⊥
          either (inl range) = bools_apart (is_beyond s.script (made_it.block).height) range.1 (ap (is_beyond s.script) same_height ∙ within (own number made_it good).height its_own.0.0)
          either (inr (inl skipped)) = apart (own number made_it good).height (awaited_height_after s l life j) comes (subst (λ (h : ℕ). awaited_height_after s l life j < h) same_height skipped.above) skipped.some
          either (inr (inr out)) = bools_apart (is_first_taken s.script l life made_it.block) (taken (own number made_it good).height (sym same_height) comes out.first) out.untaken

      next_at : IsTakenLast s.script l life j made_it.block → (made_it.block).height ≡ boundary n (epoch_behind s.script made_it.block)
      next_at its = same (made_it.block).height (last n (epoch_of n (made_it.block).height)) its.ends ∙ ap (boundary n) (sym (add-one (epoch_of n (made_it.block).height)))
        where
          same : (a b : ℕ) → (a == b) ≡ true → a ≡ b
          same a b e = grind (arith, nat_tests)

      next_clear : IsTakenLast s.script l life j made_it.block → (its : Fault) → IsNextCause s.script made_it.block its → ⊥
      next_clear taken (fault.MissingEpochInfo height) why = carries_one number made_it good (epoch_behind s.script made_it.block) (next_at taken) why.1
      next_clear taken fault.HeightRange why =
          bools_apart (is_beyond s.script ((made_it.block).height + 1)) why.1 (ap (λ (h : ℕ). is_beyond s.script (h + 1)) same_height ∙ within ((own number made_it good).height + 1) its_own.0.1)
      next_clear taken its why = by_info (info_of (made_it.block).payload) refl why
        where
          by_info : (o : Option (EpochInfo directory.Unit)) → info_of (made_it.block).payload ≡ o → IsSomeAnd o (λ info. IsInfoCause s.script (epoch_behind s.script made_it.block) info its) → ⊥
          by_info None carries why = absurd why
          by_info (Some info) carries why = info_clear number made_it good (epoch_behind s.script made_it.block) info (next_at taken) carries its why

      -- the last block of an epoch that the life takes part in stands at the height that is awaited
      stands_next : IsTakenLast s.script l life j made_it.block → life_follows s l life (awaited_epoch s l life j) ≡ false → (made_it.block).height ≡ awaited_height_after s l life j
      stands_next taken takes_part = by_turn comes
        where
          higher : (height tip : ℕ) → nat_le height tip ≡ false → tip + 1 ≤ height
          higher height tip not = grind (arith, nat_tests)

          by_tip : (o : Option Tip) → option_map_or (λ t. nat_le (made_it.block).height t.height) o false ≡ false → awaited o ≤ (made_it.block).height
          by_tip None not = omega arith
          by_tip (Some t) not = higher (made_it.block).height t.height not

          above : awaited_height_after s l life j ≤ (made_it.block).height
          above = subst (λ (n : ℕ). n ≤ (made_it.block).height) tips.height (by_tip (tip_in s.script life j) taken.above)

          same : (here its next : ℕ) → here ≡ its → its ≤ next → next ≤ here → here ≡ next
          same here its next is low high = omega (arith, is, low, high)

          some : (k : ℕ) → 2 ≤ k → 0 < k
          some k long = omega (arith, long)

          by_turn : ((own number made_it good).height ≤ awaited_height_after s l life j) ⊎ ((awaited_height_after s l life j ≡ 0) × (life_follows s l life 0 ≡ true)) → (made_it.block).height ≡ awaited_height_after s l life j
          by_turn (inl low) = same (made_it.block).height (own number made_it good).height (awaited_height_after s l life j) same_height low above
          by_turn (inr first) =
              let zeroth : awaited_epoch s l life j ≡ 0 = ap (epoch_of n) first.0 ∙ div-eq_of_lt (some n long) in
              absurd (bools_apart (life_follows s l life 0) first.1 (subst (λ (e : ℕ). life_follows s l life e ≡ false) zeroth takes_part))

      provider_clear : IsTakenLast s.script l life j made_it.block → life_follows (alone s.script) l life (awaited_epoch (alone s.script) l life j) ≡ false → (its : Fault)
          → IsProviderCause s.script (epoch_of n (made_it.block).height) its → ⊥
      provider_clear taken takes_part its why =
          let part = part_alike l life no_sync none_found j takes_part in
          let at : (made_it.block).height ≡ awaited_height_after s l life j = stands_next taken part in
          let ends_it : (own number made_it good).height ≡ last n (awaited_epoch s l life j) =
          sym same_height ∙ same (made_it.block).height (last n (epoch_of n (made_it.block).height)) taken.ends ∙ ap (λ (h : ℕ). last n (epoch_of n h)) at in
          let ended : MayEndEpoch s (awaited_epoch s l life j) (event.Final number) =
          subst (λ (o : Option ScriptBlock). IsSomeAnd o (λ b. b.height ≡ last n (awaited_epoch s l life j))) (sym (of_line s number made_it.line made_it.line_is)) ends_it in
          none_provided (awaited_epoch s l life j) (provides j (event.Final number) is reached ended part) its
          (subst (λ (e : ℕ). IsProviderCause s.script e its) (ap (epoch_of n) at) why)
        where
          same : (a b : ℕ) → (a == b) ≡ true → a ≡ b
          same a b e = grind (arith, nat_tests)

      last_clear : IsTakenLast s.script l life j made_it.block → (its : Fault) → IsLastCause s.script l life j made_it.block its → ⊥
      last_clear taken its (inl provider) = provider_clear taken provider.0 its provider.1
      last_clear taken its (inr next) = next_clear taken its next

      block_clear : (its : Fault) → IsBlockCause s.script l life j made_it.block its → ⊥
      block_clear its (inl refused) = refused_clear its refused
      block_clear its (inr last) = last_clear last.0 its last.1

    -- NOR has one in which requests are read
    pub valid_may : (step : ℕ) → IsReached life.cut step → (its : Fault) → IsMayCause s.script l life step its → ⊥
    valid_may zero reached its may = absurd may
    valid_may (suc j) reached its may =
        let same : awaited_epoch (alone s.script) l life (may.0).at ≡ awaited_epoch (alone s.script) l life j = (may.0).same_epoch in
        let part = part_alike l life no_sync none_found (may.0).at (subst (λ (e : ℕ). life_follows (alone s.script) l life e ≡ false) (sym same) (may.0).takes_part) in
        none_provided (awaited_epoch s l life (may.0).at) (provides (may.0).at (event.Info (may.0).request) (may.0).asked (earlier life.cut (may.0).at (may.0).so_far reached) tt part) its
        (subst (λ (e : ℕ). IsProviderCause s.script e its) (sym same ∙ sym (epoch_alike s l life no_sync none_found (may.0).at)) may.1)
      where
        earlier : (its : Option Cut) (at : ℕ) → at ≤ j → IsReached its (suc j) → IsReached its (suc at)
        earlier None at low reached = tt
        earlier (Some cut) at low reached = λ none. let more : suc j < cut.step = reached none in omega (arith, more, low)

    -- SO NO STEP to which it comes has a cause
    pub valid_clear : (step : ℕ) → IsReached life.cut step → ((i : ℕ) → i < step → (e : Event) × (slice_get life.events i ≡ Some e)) → (its : Fault) → IsCause s.script l life step its → ⊥
    valid_clear zero reached all its why = opening_clear its why
    valid_clear (suc j) reached all its why =
        by_event last.0 last.1 (subst (λ (o : Option Event). IsSomeAnd o (λ e. OnBlock s.script e (λ b. IsBlockCause s.script l life j b its))) last.1 why)
      where
        last : (e : Event) × (slice_get life.events j ≡ Some e)
        last = all j (omega arith)

        earlier : (its : Option Cut) → IsReached its (suc j) → IsReached its j
        earlier None reached = tt
        earlier (Some cut) reached = λ none. let more : suc j < cut.step = reached none in omega (arith, more)

        by_event : (e : Event) → slice_get life.events j ≡ Some e → OnBlock s.script e (λ b. IsBlockCause s.script l life j b its) → ⊥
        by_event (event.Final number) is on = by_block (slice_get (blocks_in s.script) number) refl on
          where
            by_block : (o : Option (made.Block directory.Unit)) → slice_get (blocks_in s.script) number ≡ o → IsSomeAnd o (λ b. IsBlockCause s.script l life j b its) → ⊥
            by_block None there on = absurd on
            by_block (Some b) there on =
                let made_it = made_there s.script number b there in
                block_clear j number made_it.0 is reached (λ i low. all i (omega (arith, low))) (earlier life.cut reached) its (subst (λ (x : made.Block directory.Unit). IsBlockCause s.script l life j x its) (sym made_it.1) on)
        by_event other is on = absurd on
