-- The round that a life takes part in is the script's of that round's epoch, where the script has one info for each epoch.
use Rattle.std.proofs.Common.{◌≡◌, ◌⊎◌, inl, inr, ℕ, suc, ◌==◌, List, [], ◌∷◌, ◌++◌, Option, Some, None, Ok, Bool, true, false, arith, refl, sym, ap, subst, ◌∙◌, take, filter_map, add-one}
use Rattle.std.specs.Prelude.{find, option_and_then, option_map, option_to_list, slice_get, IfSome, IsSomeAnd, if◌then◌else◌}
use Rattle.std.specs.List.{AllByRecursion, cons_option}
use Rattle.std.specs.Result.{result_ok}
use Rattle.std.specs.Int.NonZero.{non_zero_u32_get}
use Rattle.std.proofs.lemmas.Bool.Decides.{nat_tests}
use Rattle.dkg_ceremony.specs.Schedule.{boundary, epoch_of, last}
use Rattle.dkg_ceremony.specs.declared.mode.Reveal.TheVariants.{V1}
use Rattle.dkg_ceremony.specs.declared.round.RoundParts.{RoundParts as Round}
use Rattle.dkg_types.specs.Blocks as made
use Rattle.dkg_types.specs.BlockCodes.{info_of}
use Rattle.dkg_infos.specs.Units.{unit_spelling}
use Rattle.dkg_infos.specs.declared.directory.Unit as directory
use Rattle.dkg_infos.specs.declared.info.EpochInfo.{EpochInfo}
use Rattle.dkg_types.specs.declared.payload.Payload.{Payload}
use Rattle.dkg_types.specs.declared.payload.Payload.TheVariants as payload
use Rattle.dkg_journal.specs.Names.{Files}
use Rattle.dkg_text.specs.declared.script.Event.{Event}
use Rattle.dkg_text.specs.declared.script.Event.TheVariants.{Final}
use Rattle.dkg_text.specs.declared.script.Life.{Life}
use Rattle.dkg_script.specs.Blocks.{ScriptBlock, anchor_number, numbered_block, block_of, blocks, info_at_boundary, known_info, round_at, round_by, used}
use Rattle.dkg_script.specs.Consistent.{IsConsistentScript}
use Rattle.dkg_script.specs.Inclusion.{IsFormOfInclusion}
use Rattle.dkg_script.specs.Readings.{Info, Limits, info_in, unit_payload, with_spelled}
use Rattle.dkg_script.specs.Setting.{Setting, CutAt, blocks_per_epoch, life_at, limits}
use Rattle.dkg_script.proofs.Bridges.{reads_info}
use Rattle.dkg_script.proofs.LineBlocks.{of_line}
use Rattle.dkg_store.specs.Acts.{Held}
use Rattle.dkg_core.specs.Forms.{IsForm, IsNodeBegun, IsSeated, IsSetUpIn, round_for, seed_read, share_read, started}
use Rattle.dkg_core.specs.Live.{Finalized, Live, Message, Mailed}
use Rattle.dkg_laws.specs.NodeThrough.{IsNodeThrough}
use Rattle.dkg_core.specs.Seen.{Seen}
use Rattle.dkg_core.specs.Setup.{Uncommitted}
use Rattle.dkg_core.specs.Through.{IsLiveThrough}
use Rattle.dkg_core.specs.Endings.{first_block, first_epoch}
use Rattle.dkg_lives.specs.Epochs.{any_shares}
use Rattle.dkg_lives.specs.Given.{Lived, at_step, blocks_in, limits_of, lived, numbered, payload_in}
use Rattle.dkg_lives.proofs.Awaiting.{IsReached, comes_to}
use Rattle.dkg_lives.proofs.Former.{BringsBlock, BringsMail, IsMadeOf, IsMessage, brings_so, is_ceremony, made_there}
use Rattle.dkg_lives.proofs.NextLives.{GoesOn, TakesOver, next_so}
use Rattle.dkg_lives.proofs.Started.{source_is}
use Rattle.dkg_along.proofs.Used.{all_back, all_front, all_sources, held as held_in, of_delivered}

some_is : {A : Type 0} {x y : A} → ◌≡◌ {A = Option A} (Some x) (Some y) → x ≡ y
some_is e = cc

not_there : {A : Type 0} (x : A) → ◌≡◌ {A = Option A} None (Some x) → ⊥
not_there x e = cc

the_block : {A : Type 0} {x y : made.Block A} → ◌≡◌ {A = Message A} (Finalized x) (Finalized y) → x ≡ y
the_block e = cc

same_number : (a b : ℕ) → (a == b) ≡ true → a ≡ b
same_number a b e = grind (arith, nat_tests)

pub all_join : {A : Type 0} (P : A → Type 0) (xs ys : List A) → AllByRecursion P xs → AllByRecursion P ys → AllByRecursion P (xs ++ ys)
all_join P [] ys one two = two
all_join P (x ∷ xs) ys one two = (one.0, all_join P xs ys one.1 two)

-- what is found among blocks of some numbers has one of these, and stands at the height
pub found_number : (bs : List (made.Block directory.Unit)) (at : ℕ) (Q : ℕ → Type 0) (b : made.Block directory.Unit) (numbers : List ℕ) → AllByRecursion Q numbers
    → find (λ (x : made.Block directory.Unit). x.height == at) (numbered bs numbers) ≡ Some b → (number : ℕ) × (slice_get bs number ≡ Some b) × Q number × (b.height ≡ at)
found_number bs at Q b [] all is = absurd (not_there b is)
found_number bs at Q b (number ∷ numbers) all is = by_block (slice_get bs number) refl is (found_number bs at Q b numbers all.1)
  where
    by_block : (o : Option (made.Block directory.Unit)) → slice_get bs number ≡ o → find (λ (x : made.Block directory.Unit). x.height == at) (cons_option o (numbered bs numbers)) ≡ Some b
        → (find (λ (x : made.Block directory.Unit). x.height == at) (numbered bs numbers) ≡ Some b → (number : ℕ) × (slice_get bs number ≡ Some b) × Q number × (b.height ≡ at))
        → (number : ℕ) × (slice_get bs number ≡ Some b) × Q number × (b.height ≡ at)
    by_block None there is rest = rest is
    by_block (Some x) there is rest = by_test (x.height == at) refl is
      where
        by_test : (t : Bool) → (x.height == at) ≡ t → (if t then Some x else find (λ (x : made.Block directory.Unit). x.height == at) (numbered bs numbers)) ≡ Some b
            → (number : ℕ) × (slice_get bs number ≡ Some b) × Q number × (b.height ≡ at)
        by_test true e is = (number, there ∙ is, all.0, subst (λ (y : made.Block directory.Unit). y.height ≡ at) (some_is is) (same_number x.height at e))
        by_test false e is = rest is

-- Its round, if it has one, is the script's of that round's epoch.
abbrev pub HasRoundOf : Setting → Live directory.Unit → Type 0
HasRoundOf s st = (round : Round) → st.participation.round ≡ Some round → round_at s round.number ≡ Some round

module _ (s : Setting) (cuts : List (Option CutAt)) (form : IsFormOfInclusion s.script) (consistent : IsConsistentScript s cuts) where
  abbrev pub Known : Info → Type 0
  Known info = known_info s info.epoch ≡ Some info

  -- what a block that begins an epoch carries as that epoch's info is known
  abbrev pub Begins : ScriptBlock → Type 0
  Begins b = IfSome (info_at_boundary s b) Known

  pub used_begin : AllByRecursion Begins (used s)
  used_begin = all_sources Known (info_at_boundary s) (used s) (all_front Known (filter_map (info_at_boundary s) (used s)) _ consistent.one_info)

  abbrev pub Numbered : ℕ → Type 0
  Numbered number = IfSome (numbered_block s number) Begins

  pub same_limits : limits s ≡ limits_of s.script
  same_limits = rw form.reshares refl

  pub round_is : (epoch : ℕ) → round_at s epoch ≡ option_and_then (λ (info : Info). result_ok (round_by s.script epoch info)) (known_info s epoch)
  unfolding round_at
  round_is epoch = rw form.reshares refl

  module _ (number : ℕ) (made_it : IsMadeOf s.script number) (info : EpochInfo directory.Unit) (carries : info_of (made_it.block).payload ≡ Some info) where
    abbrev pub own : ScriptBlock
    own = block_of s (take number (blocks s)) made_it.line

    pub own_info : own.info ≡ Some (with_spelled unit_spelling info)
    own_info = ap (λ (limits : Limits). option_and_then (info_in limits) (made_it.line).payload) same_limits
        ∙ read (made_it.line).payload (subst (λ (p : Option (Payload directory.Unit)). info_of p ≡ Some info) made_it.payload carries)
      where
        read : (o : Option (List ℕ)) → info_of (payload_in s.script.config o) ≡ Some info → option_and_then (info_in (limits_of s.script)) o ≡ Some (with_spelled unit_spelling info)
        read None carries = absurd (not_there info carries)
        read (Some bytes) carries = by_payload (unit_payload plain_limits bytes) refl carries
          where
            plain_limits : Limits
            plain_limits = record { limit = non_zero_u32_get s.script.config.limit; version = s.script.config.max_mode.0; addressed = false }

            same_plain : limits_of s.script ≡ plain_limits
            same_plain = rw form.plain refl

            by_payload : (o : Option (Payload directory.Unit)) → unit_payload plain_limits bytes ≡ o → info_of o ≡ Some info → info_in (limits_of s.script) bytes ≡ Some (with_spelled unit_spelling info)
            by_payload None is carries = absurd (not_there info carries)
            by_payload (Some (payload.EpochInfo i)) is carries =
                ap (λ (limits : Limits). info_in limits bytes) same_plain ∙ reads_info plain_limits bytes i refl is ∙ ap (λ (x : EpochInfo directory.Unit). Some (with_spelled unit_spelling x)) (some_is carries)
            by_payload (Some (payload.DealerLog log)) is carries = absurd (not_there info carries)

    at_boundary : (made_it.block).height ≡ boundary (blocks_per_epoch s) info.epoch → info_at_boundary s own ≡ Some (with_spelled unit_spelling info)
    at_boundary at =
        ap (option_and_then (λ i. if own.height == boundary (blocks_per_epoch s) i.epoch then Some i else None)) own_info
        ∙ ap (λ (t : Bool). if t then Some (with_spelled unit_spelling info) else None) (itself own.height (boundary (blocks_per_epoch s) info.epoch) (sym made_it.height ∙ at))
      where
        itself : (a b : ℕ) → a ≡ b → (a == b) ≡ true
        itself a b is = grind (arith, nat_tests)

    pub info_known : Numbered number → (made_it.block).height ≡ boundary (blocks_per_epoch s) info.epoch → known_info s info.epoch ≡ Some (with_spelled unit_spelling info)
    info_known all at = subst (λ (o : Option Info). IfSome o Known) (at_boundary at) (subst (λ (o : Option ScriptBlock). IfSome o Begins) (of_line s number made_it.line made_it.line_is) all)

    pub round_known : Numbered number → (made_it.block).height ≡ boundary (blocks_per_epoch s) info.epoch → (round : Round)
        → round_by s.script info.epoch info ≡ Ok round → round_at s info.epoch ≡ Some round
    round_known all at round drawn = round_is info.epoch ∙ ap (λ (o : Option Info). option_and_then (λ (i : Info). result_ok (round_by s.script info.epoch i)) o) (info_known all at) ∙ ap result_ok drawn

  module _ (l : ℕ) (life : Life) (seen : Held → Seen) (files : Files) (life_is : life_at s l ≡ Some life) where
    abbrev g : Lived
    g = lived s.script l life seen files

    pub held_begin : AllByRecursion Numbered (life.held ++ option_to_list (option_map anchor_number life.anchor))
    held_begin =
        let all = held_in s l life Begins life_is used_begin in
        all_join Numbered life.held (option_to_list (option_map anchor_number life.anchor)) (all_back Numbered (option_to_list (option_map anchor_number life.anchor)) life.held all)
        (all_front Numbered (option_to_list (option_map anchor_number life.anchor)) life.held all)

    -- a round that such an info makes is the script's of its epoch
    of_seat : (taken number : ℕ) (made_it : IsMadeOf s.script number) (info : EpochInfo directory.Unit) (epoch : ℕ) (round : Round) → Numbered number → info_of (made_it.block).payload ≡ Some info → info.epoch ≡ epoch
        → (made_it.block).height ≡ boundary (blocks_per_epoch s) info.epoch → round_for (at_step g taken) epoch info ≡ Ok round → round_at s round.number ≡ Some round
    unfolding at_step
    of_seat taken number made_it info epoch round all carries same at drawn =
        let of_info : round_by s.script info.epoch info ≡ Ok round = subst (λ (e : ℕ). round_by s.script e info ≡ Ok round) (sym same) drawn in
        let number_is : round.number ≡ info.epoch
        = (is_ceremony g taken).round_has s.script.config.namespace info.epoch (Some info.output) s.script.config.mode V1 info.output.players info.players round of_info in
        ap (round_at s) number_is ∙ round_known number made_it info carries all at round of_info

    -- BEHIND AN OPENING
    module _ (read : Seen) (k : Held) (st : Live directory.Unit) (begun : IsNodeBegun (at_step g 0) read k st) where
      by_info : (b : made.Block directory.Unit) → first_block (at_step g 0) ≡ Some b → (o : Option (EpochInfo directory.Unit)) → info_of b.payload ≡ o
          → IsSomeAnd o (λ info. IsSeated (at_step g 0) Uncommitted info (share_read (at_step g 0) info k) (seed_read (at_step g 0) info k) (started (at_step g 0) read) begun.before) → HasRoundOf s begun.before
      unfolding at_step
      by_info b there None carries none = absurd none
      by_info b there (Some info) carries seated = λ round is.
          let found = found_number (blocks_in s.script) (boundary (blocks_per_epoch s) (first_epoch (at_step g 0))) Numbered b (life.held ++ option_to_list (option_map anchor_number life.anchor)) held_begin
          (sym (ap (find (λ (x : made.Block directory.Unit). x.height == boundary (blocks_per_epoch s) (first_epoch (at_step g 0)))) (source_is s 0 life)) ∙ there) in
          let its = made_there s.script found.0 b found.1 in
          subst (λ (r : Round). round_at s r.number ≡ Some r) (some_is (sym seated.in_round ∙ is))
          (of_seat 0 found.0 its.0 info (first_epoch (at_step g 0)) seated.round found.2 (subst (λ (x : made.Block directory.Unit). info_of x.payload ≡ Some info) (sym its.1) carries) seated.of_epoch
          (subst (λ (x : made.Block directory.Unit). x.height ≡ boundary (blocks_per_epoch s) info.epoch) (sym its.1) (found.3 ∙ ap (boundary (blocks_per_epoch s)) (sym seated.of_epoch))) seated.drawn)

      by_block : (o : Option (made.Block directory.Unit)) → first_block (at_step g 0) ≡ o → IsSetUpIn (at_step g 0) read k begun.before o → HasRoundOf s begun.before
      by_block None there set_up = λ round is. absurd (not_there round (sym set_up.0 ∙ is))
      by_block (Some b) there set_up = by_info b there (info_of b.payload) refl set_up

      pub begun_round : HasRoundOf s st
      begun_round = λ round is. by_block (first_block (at_step g 0)) refl (begun.opened).set_up round (sym (ap (λ (x : Live directory.Unit). x.participation.round) (begun.entered).same) ∙ is)

    -- BEHIND A STEP
    module _ (i : ℕ) (its : Event) (is : slice_get life.events i ≡ Some its) (reached : IsReached life.cut (suc i)) (m : IsMessage g its) (st : Live directory.Unit) (live : IsLiveThrough (at_step g (suc i)) any_shares st)
        (devices : Option Held) (end : Live directory.Unit) (left : Option Held) (of_form : IsForm (at_step g (suc i))) (node : IsNodeThrough (at_step g (suc i)) any_shares st m.message devices end left)
        (before : HasRoundOf s st) where
      over_round : (over : TakesOver (at_step g (suc i)) any_shares st m.message devices node.mid left) → HasRoundOf s node.mid
      unfolding at_step
      over_round over = by_brought (brings_so g its m.message m.brings)
        where
          by_number : (number : ℕ) (made_it : IsMadeOf s.script number) → slice_get life.events i ≡ Some (Final number) → m.message ≡ Finalized made_it.block → HasRoundOf s node.mid
          by_number number made_it at message_is = λ round there.
              let block_is : over.block ≡ made_it.block = the_block (sym over.is ∙ message_is) in
              let info = (over.taken).on.info in
              let seated = (over.taken).seated in
              let last_is : (over.block).height ≡ last (blocks_per_epoch s) (epoch_of (blocks_per_epoch s) (over.block).height) = same_number (over.block).height (last (blocks_per_epoch s) (epoch_of (blocks_per_epoch s) (over.block).height)) over.last in
              let at_boundary : (over.block).height ≡ boundary (blocks_per_epoch s) info.epoch
              = last_is ∙ ap (boundary (blocks_per_epoch s)) (sym (add-one (epoch_of (blocks_per_epoch s) (over.block).height))) ∙ ap (boundary (blocks_per_epoch s)) (sym (over.taken).on.of_next) in
              let come : Numbered number = of_delivered s l life Begins life_is used_begin i number (comes_to life.cut life.events i reached ∙ at) in
              subst (λ (r : Round). round_at s r.number ≡ Some r) (some_is (sym seated.in_round ∙ there))
              (of_seat (suc i) number made_it info _ seated.round come (subst (λ (x : made.Block directory.Unit). info_of x.payload ≡ Some info) block_is (over.taken).on.carried) seated.of_epoch
              (subst (λ (x : made.Block directory.Unit). x.height ≡ boundary (blocks_per_epoch s) info.epoch) block_is at_boundary) seated.drawn)

          by_brought : BringsBlock g its m.message ⊎ BringsMail its m.message → HasRoundOf s node.mid
          by_brought (inl b) = by_number b.0 b.1 (is ∙ ap (λ (e : Event). Some e) b.2) b.3
          by_brought (inr mail) = absurd (let wrong : ◌≡◌ {A = Message directory.Unit} (Mailed mail.0) (Finalized over.block) = sym mail.1 ∙ over.is in cc)

      pub step_round : HasRoundOf s end
      step_round = λ round there.
          either (next_so (at_step g (suc i)) any_shares st m.message devices node.mid left of_form live node.next) round (sym (ap (λ (x : Live directory.Unit). x.participation.round) node.same) ∙ there)
        where
          either : GoesOn (at_step g (suc i)) st m.message node.mid ⊎ TakesOver (at_step g (suc i)) any_shares st m.message devices node.mid left → HasRoundOf s node.mid
          either (inl goes) = λ round there. before round (sym (goes.same).round ∙ there)
          either (inr over) = over_round over
