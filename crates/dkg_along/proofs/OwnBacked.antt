-- This node's own dealings that the devices give back stay what this node's share and the stored seed deal: over an opening of the form, over a block and over a message, wherever each ends.
use Rattle.std.proofs.Common.{◌≡◌, ◌⊎◌, inl, inr, ◌≤◌, ℕ, List, Option, Some, None, Result, Ok, Err, refl, sym, ◌∙◌, ap, subst, arith}
use Rattle.std.specs.Prelude.{◌-◌, IfOk, option_and_then}
use Rattle.std.specs.Result.{result_ok}
use Rattle.std.specs.FinMap.{get, insert, nat_cmp-IsAntisymmetric}
use Rattle.std.specs.Cmp.{nat_cmp_total}
use Rattle.dkg_values.specs.Rising.{lookup}
use Rattle.dkg_ceremony.specs.Deals.{deal_of}
use Rattle.dkg_ceremony.specs.RoundLaws as rounds
use Rattle.dkg_ceremony.specs.Schedule.{epoch_of}
use Rattle.dkg_ceremony.specs.declared.mode.Reveal.TheVariants.{V1}
use Rattle.dkg_ceremony.specs.declared.output.Output.{Output}
use Rattle.dkg_ceremony.specs.declared.round.RoundParts.{RoundParts as Round}
use Rattle.dkg_ceremony.specs.declared.round.RoundError.{RoundError}
use Rattle.dkg_journal.specs.Operations.{Journaled, Prunes}
use Rattle.dkg_journal.specs.Records.{SectionEntry as JournalEntry, from_section}
use Rattle.dkg_secrets.specs.Secrets.{Secrets, after}
use Rattle.dkg_secrets.specs.declared.secrets.SecretOp.TheVariants.{Prune, PutSeed, PutShare}
use Rattle.dkg_secrets.proofs.Map.{get_here, get_other, same_key}
use Rattle.dkg_infos.specs.declared.entry.Entry.{Entry}
use Rattle.dkg_infos.specs.declared.info.EpochInfo.{EpochInfo}
use Rattle.dkg_script.specs.Blocks.{known_info, round_at, round_by}
use Rattle.dkg_script.specs.Inclusion.{IsFormOfInclusion}
use Rattle.dkg_script.specs.Readings.{Info}
use Rattle.dkg_script.specs.Setting.{Setting, me}
use Rattle.dkg_store.specs.Acts.{Cause, Changes, Ended, Held, OnDisk, Tears, World, does, notes, says}
use Rattle.dkg_store.specs.Pairs.{IsWhole, Pairs, recovered}
use Rattle.dkg_store.proofs.Acts.{along_runs}
use Rattle.dkg_core.specs.Behind.{RunsBehind}
use Rattle.dkg_core.specs.Core.{opening}
use Rattle.dkg_core.specs.Courses.{Ask, CallOutside, Course, Do, EndsSo, Goes, Say, Stops, Throughout, on_devices}
use Rattle.dkg_core.specs.Fixed.{Fixed}
use Rattle.dkg_core.specs.Forms.{IsForm}
use Rattle.dkg_core.specs.Heard.{recovered_in}
use Rattle.dkg_core.specs.Live.{Live, NodeStop, awaited_height}
use Rattle.dkg_core.specs.Node.{node_opening}
use Rattle.dkg_core.specs.Setup as setup
use Rattle.dkg_core.specs.Storing.{KeepsSeeds, ReadsSecrets}
use Rattle.dkg_core.specs.Endings.{first_epoch}
use Rattle.dkg_core.proofs.Behind.{openings_run_behind}
use Rattle.dkg_core.proofs.Storing.{looked_up}
use Rattle.dkg_core.proofs.Walking as walk
use Rattle.dkg_lives.proofs.NoOthers as others
use Rattle.dkg_lives.proofs.NoOthers.{IsNoOther, pruned_before}
use Rattle.dkg_lives.proofs.OpeningsLeave.{opening_walks}
use Rattle.dkg_lives.proofs.OpeningsStore as store
use Rattle.dkg_lives.proofs.OpeningsStore.{IsUpkept}

none_some : {A : Type 0} {x : A} → ◌≡◌ {A = Option A} None (Some x) → ⊥
none_some e = cc

some_is : {A : Type 0} {x y : A} → ◌≡◌ {A = Option A} (Some x) (Some y) → x ≡ y
some_is e = cc

-- both of two throughout a course
pub along_both : {Dir F S : Type 0} (A B P : World → Type 0) → ((x : World) → A x → B x → P x) → (course : Course Dir F S) (w : World) → Throughout A course w → Throughout B course w → Throughout P course w
along_both A B P so (Say line course) w a b = (so w a.0 b.0, along_both A B P so course (says w line) a.1 b.1)
along_both A B P so (Do op course) w a b = (λ cause new tears. so new (a.0 cause new tears) (b.0 cause new tears), along_both A B P so course (does w op) a.1 b.1)
along_both A B P so (CallOutside outer course) w a b = along_both A B P so course w a b
along_both A B P so (Ask f) w a b = along_both A B P so (f w.held) w a b
along_both A B P so (Goes end) w a b = so w a b
along_both A B P so (Stops fault) w a b = so w a b

-- A ROUND of the script carries an output on, so it deals with a share alone

of_answer : {T E : Type 0} (P : T → Type 0) (r : Result T E) (t : T) → IfOk r P → r ≡ Ok t → P t
of_answer P (Ok x) t so is = subst P (let same : x ≡ t = cc in same) so
of_answer {T} {E} P (Err e) t so is = absurd (let no : ◌≡◌ {A = Result T E} (Err e) (Ok t) = is in cc)

module _ (s : Setting) (form : IsFormOfInclusion s.script) where
  round_is : (epoch : ℕ) → round_at s epoch ≡ option_and_then (λ (info : Info). result_ok (round_by s.script epoch info)) (known_info s epoch)
  unfolding round_at
  round_is epoch = rw form.reshares refl

  pub has_previous : (epoch : ℕ) (round : Round) → round_at s epoch ≡ Some round → (o : Output) × (round.previous ≡ Some o)
  has_previous epoch round made = by_info (known_info s epoch) (sym (round_is epoch) ∙ made)
    where
      by_round : (info : Info) (r : Result Round RoundError) → round_by s.script epoch info ≡ r → result_ok r ≡ Some round → (o : Output) × (round.previous ≡ Some o)
      by_round info (Err e) drawn is = absurd (none_some is)
      by_round info (Ok its) drawn is =
          let same : its ≡ round = some_is is in (
            info.output,
            of_answer (λ (r : Round). r.previous ≡ Some info.output) (round_by s.script epoch info) round
                (all (round_by s.script epoch info) (rounds.round_has s.script.config.namespace epoch (Some info.output) s.script.config.mode V1 info.output.players info.players)) (drawn ∙ ap (λ (r : Round). Ok r) same),
          )
        where
          all : (r : Result Round RoundError) → IfOk r (λ x. x ≡ record { namespace = s.script.config.namespace; number = epoch; previous = Some info.output; mode = s.script.config.mode; reveal = V1; dealers = info.output.players; players = info.players })
              → IfOk r (λ x. x.previous ≡ Some info.output)
          all (Ok x) is = ap (λ (r : Round). r.previous) is
          all (Err e) is = tt

      by_info : (o : Option Info) → option_and_then (λ (info : Info). result_ok (round_by s.script epoch info)) o ≡ Some round → (o : Output) × (round.previous ≡ Some o)
      by_info None is = absurd (none_some is)
      by_info (Some info) is = by_round info (round_by s.script epoch info) refl is

  -- ITS OWN DEALINGS among these are what a share deals, and the seed that these secrets hold. (There is one share that something is dealt with.)

  abbrev pub IsBackedBy : Secrets → (key : ℕ × ℕ) → (pair : List ℕ × ℕ) → Type 0
  IsBackedBy t key pair = (round : Round) → round_at s key.0 ≡ Some round → (seed : List ℕ) × (share : ℕ) × (privates : List (ℕ × ℕ)) × (get t.seeds key.0 ≡ Some seed) × (deal_of round (me s) (Some share) seed ≡ Ok (pair.0, privates))

  abbrev pub AreBacked : Pairs → Secrets → Type 0
  AreBacked pairs t = (key : ℕ × ℕ) (pair : List ℕ × ℕ) → key.1 ≡ me s → get pairs key ≡ Some pair → IsBackedBy t key pair

  -- the seed that is held of an epoch is held
  pub record HoldsStill (t u : Secrets) (epoch : ℕ) : Type 0 where
    pub seeds : (seed : List ℕ) → get t.seeds epoch ≡ Some seed → get u.seeds epoch ≡ Some seed

  pub still_backed : (t u : Secrets) (key : ℕ × ℕ) (pair : List ℕ × ℕ) → HoldsStill t u key.0 → IsBackedBy t key pair → IsBackedBy u key pair
  still_backed t u key pair still backed round made =
      let its = backed round made in
      (its.0, its.1, its.2, still.seeds its.0 its.3, its.4)

  -- .. over whole devices
  pub record IsBacked (w : World) : Type 0 where
    pub whole : IsWhole (notes w.held) w.held.secrets
    pub own : AreBacked (recovered_in w.held) w.held.secrets

  -- what is given back was so before, over secrets that hold still
  pub backed_less : (w new : World) → IsWhole (notes new.held) new.held.secrets
      → ((key : ℕ × ℕ) (pair : List ℕ × ℕ) → get (recovered_in new.held) key ≡ Some pair → (get (recovered_in w.held) key ≡ Some pair) × HoldsStill w.held.secrets new.held.secrets key.0) → IsBacked w → IsBacked new
  backed_less w new whole less q = record { whole = whole; own = λ key pair mine got. let its = less key pair got in still_backed w.held.secrets new.held.secrets key pair its.1 (q.own key pair mine its.0) }

  same_still : (t u : Secrets) (epoch : ℕ) → u ≡ t → HoldsStill t u epoch
  same_still t u epoch is = record { seeds = λ seed got. ap (λ (x : Secrets). get x.seeds epoch) is ∙ got }

  pub same_backed : (w new : World) → notes new.held ≡ notes w.held → new.held.secrets ≡ w.held.secrets → IsBacked w → IsBacked new
  same_backed w new is_es is_t q =
      backed_less w new (subst (λ (t : Secrets). IsWhole (notes new.held) t) (sym is_t) (subst (λ (es : List JournalEntry). IsWhole es w.held.secrets) (sym is_es) q.whole))
      (λ key pair got. (sym (ap (λ (es : List JournalEntry). get (recovered es new.held.secrets) key) is_es ∙ ap (λ (t : Secrets). get (recovered (notes w.held) t) key) is_t) ∙ got, same_still w.held.secrets new.held.secrets key.0 is_t)) q

  pub said_backed : (w : World) (line : Entry) → IsBacked w → IsBacked (says w line)
  said_backed w line q = record { whole = q.whole; own = q.own }

  abbrev NoOwn : ℕ × ℕ → List ℕ × ℕ → Type 0
  NoOwn key pair = ⊥

  module _ {Dir : Type 0} (c : Fixed Dir) (reads : ReadsSecrets c.seen) where
    -- A COMMIT and A PRUNE

    from_seeds : (w : World) (x : World) → IsBacked w → IsNoOther (recovered_in w.held) NoOwn x → KeepsSeeds 0 w.held x → IsBacked x
    from_seeds w x q a b = backed_less w x a.whole (λ key pair got. elim (a.gives key pair got) [
      | inl was ↦ (was, record { seeds = λ seed has. b key.0 seed (least key.0) has })
      | inr none ↦ absurd none
    ]) q
      where
        least : (n : ℕ) → 0 ≤ n
        least n = omega arith

    begins : (w : World) → IsBacked w → IsNoOther (recovered_in w.held) NoOwn w
    begins w q = record { whole = q.whole; gives = λ key pair got. inl got }

    abbrev seed_of : World → (epoch : ℕ) → List ℕ
    seed_of w epoch = setup.seed_for c epoch (lookup epoch (c.seen w.held).seeds)

    -- what is put is the stored seed, if there is one
    put_still : (w : World) (at epoch : ℕ) (value : List ℕ) → get w.held.secrets.seeds epoch ≡ Some value → get (insert w.held.secrets.seeds at (seed_of w at)) epoch ≡ Some value
    put_still w at epoch value got = elim (same_key nat_cmp_total nat_cmp-IsAntisymmetric epoch at) [
      | inl here ↦ (let read : lookup at (c.seen w.held).seeds ≡ Some value = ap (lookup at) (reads.seeds w.held) ∙ looked_up at w.held.secrets.seeds ∙ ap (get w.held.secrets.seeds) (sym here) ∙ got in
          ap (get (insert w.held.secrets.seeds at (seed_of w at))) here ∙ get_here nat_cmp_total nat_cmp-IsAntisymmetric w.held.secrets.seeds at (seed_of w at) ∙ ap (λ (v : List ℕ). Some v) (ap (setup.seed_for c at) read))
      | inr apart ↦ get_other nat_cmp_total nat_cmp-IsAntisymmetric w.held.secrets.seeds at epoch (seed_of w at) apart ∙ got
    ]

    -- the seed is put behind a world that holds the seeds of w
    seed_tried : (w mid now : World) (at : ℕ) → mid.held.secrets.seeds ≡ w.held.secrets.seeds
        → (now.held.secrets ≡ mid.held.secrets) ⊎ (now.held.secrets ≡ after (PutSeed at (seed_of w at)) mid.held.secrets) → KeepsSeeds 0 w.held now
    seed_tried w mid now at same (inl stays) epoch value above got = ap (λ (x : Secrets). get x.seeds epoch) stays ∙ ap (λ m. get m epoch) same ∙ got
    seed_tried w mid now at same (inr done) epoch value above got =
        ap (λ (x : Secrets). get x.seeds epoch) done ∙ ap (λ m. get (insert m at (seed_of w at)) epoch) same ∙ put_still w at epoch value got

    share_tried : (w now : World) (at share : ℕ) → (now.held.secrets ≡ w.held.secrets) ⊎ (now.held.secrets ≡ after (PutShare at share) w.held.secrets) → KeepsSeeds 0 w.held now
    share_tried w now at share (inl stays) epoch value above got = ap (λ (x : Secrets). get x.seeds epoch) stays ∙ got
    share_tried w now at share (inr done) epoch value above got = ap (λ (x : Secrets). get x.seeds epoch) done ∙ got

    seeds_stay : (info : EpochInfo Dir) (share : Option ℕ) (st : Live Dir) (w : World) → Throughout {Dir = Dir} (KeepsSeeds 0 w.held) (setup.commits info (seed_of w info.epoch) share st) w
    seeds_stay info None st w =
        let new : World = does w (Changes (PutSeed info.epoch (seed_of w info.epoch))) in
        let done : KeepsSeeds 0 w.held new = seed_tried w w new info.epoch refl (inr refl) in
        (λ cause now tears. seed_tried w w now info.epoch refl tears.torn.1.so, (done, done))
    seeds_stay info (Some share) st w =
        let mid : World = does w (Changes (PutShare info.epoch share)) in
        let new : World = does mid (Changes (PutSeed info.epoch (seed_of w info.epoch))) in
        let done : KeepsSeeds 0 w.held new = seed_tried w mid new info.epoch refl (inr refl) in
        (λ cause now tears. share_tried w now info.epoch share tears.torn.1.so, (λ cause now tears. seed_tried w mid now info.epoch refl tears.torn.1.so, (done, done)))

    -- of any share
    pub commits_any_backed : (info : EpochInfo Dir) (share : Option ℕ) (st : Live Dir) (w : World) → IsBacked w → Throughout {Dir = Dir} IsBacked (setup.commits info (setup.seed_for c info.epoch (lookup info.epoch (c.seen w.held).seeds)) share st) w
    commits_any_backed info share st w q =
        along_both (IsNoOther (recovered_in w.held) NoOwn) (KeepsSeeds 0 w.held) IsBacked (λ x a b. from_seeds w x q a b) (setup.commits info (seed_of w info.epoch) share st) w
        (others.commits (recovered_in w.held) NoOwn info (seed_of w info.epoch) share st w (begins w q)) (seeds_stay info share st w)

    pub commits_backed : (info : EpochInfo Dir) (st : Live Dir) (w : World) → IsBacked w
        → Throughout {Dir = Dir} IsBacked (setup.commits info (setup.seed_for c info.epoch (lookup info.epoch (c.seen w.held).seeds)) (setup.recovered_share c (c.seen w.held) info) st) w
    commits_backed info st w q = commits_any_backed info (setup.recovered_share c (c.seen w.held) info) st w q

    -- behind the journal's prune nothing below is given back
    from_pruned : (min : ℕ) (w x : World) → IsBacked w → notes x.held ≡ from_section min (notes w.held) → IsNoOther (recovered_in w.held) NoOwn x → IsUpkept c reads min w x → IsBacked x
    from_pruned min w x q is a b = backed_less w x a.whole (λ key pair got. elim (a.gives key pair got) [
      | inl was ↦ (was, at_least key pair got)
      | inr none ↦ absurd none
    ]) q
      where
        at_least : (key : ℕ × ℕ) (pair : List ℕ × ℕ) → get (recovered_in x.held) key ≡ Some pair → HoldsStill w.held.secrets x.held.secrets key.0
        at_least key pair got =
            let above : min ≤ key.0 = (pruned_before min (notes w.held) x.held.secrets key pair (sym (ap (λ (es : List JournalEntry). get (recovered es x.held.secrets) key) is) ∙ got)).0 in
            record { seeds = λ seed has. b.seeds_held key.0 seed above has }

    pub prunes_backed : (min : ℕ) (st : Live Dir) (w : World) → IsBacked w → Throughout IsBacked (setup.prunes min st) w
    prunes_backed min st w q =
        let a = others.prunes (recovered_in w.held) NoOwn min st w (begins w q) in
        let b = store.prunes c reads min w min (itself min) st w (store.nothing_lost c reads min w) in
        let mid : World = does w (OnDisk (Prunes min)) in (
          λ cause new tears. torn cause new tears (a.0 cause new tears),
          (
            λ cause new tears. from_pruned min w new q (ap (λ (j : Journaled). j.entries) tears.torn.0) (a.1.0 cause new tears) (b.1.0 cause new tears),
            from_pruned min w (does mid (Changes (Prune min))) q refl a.1.1 b.1.1,
          ),
        )
      where
        itself : (n : ℕ) → n ≤ n
        itself n = omega arith

        torn : (cause : Cause) (new : World) → Tears cause (OnDisk (Prunes min)) w new → IsNoOther (recovered_in w.held) NoOwn new → IsBacked new
        torn cause new tears a = backed_less w new a.whole (λ key pair got. elim (a.gives key pair got) [
          | inl was ↦ (was, same_still w.held.secrets new.held.secrets key.0 tears.torn.0)
          | inr none ↦ absurd none
        ]) q

    -- AN OPENING of the form, wherever it ends
    module _ (form_is : IsForm c) (w new : World) (ended : Ended NodeStop (Live Dir)) (q : IsBacked w) (run : EndsSo (node_opening c) ended w new) where
      sets_up : (st : Live Dir) (x : World) → epoch_of c.blocks_per_epoch (awaited_height st) ≡ first_epoch c → IsBacked x → Throughout IsBacked (setup.setup c None st) x
      sets_up st x is q =
          walk.setup c IsBacked (λ x line aside q. said_backed x line q) (epoch_of c.blocks_per_epoch (awaited_height st) - 1) commits_backed (λ min low at x q. prunes_backed min at x q) None st x (omega arith) q

      pub opening_backed : IsBacked new
      opening_backed =
          let its : RunsBehind (opening c) ended w new = openings_run_behind c ended w new run in
          let mid : IsBacked its.mid = along_runs IsBacked (on_devices (opening c)) its.half w its.mid (opening_walks c form_is IsBacked said_backed same_backed sets_up w q) its.run in
          same_backed its.mid new (ap (λ (h : Held). notes h) its.held) (ap (λ (h : Held). h.secrets) its.held) mid
