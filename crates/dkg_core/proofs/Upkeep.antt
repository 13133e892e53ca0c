-- What an operation, a line and a setup keep of what was told of dealings, wherever they end.
use Rattle.std.proofs.Common.{◌≡◌, ◌⊎◌, inl, inr, ◌≤◌, ℕ, Bool, true, false, List, [], ◌∷◌, ◌++◌, Option, Some, None, refl, sym, ◌∙◌, ap, subst, append_assoc, arith}
use Rattle.std.specs.Prelude.{if◌then◌else◌, Ok}
use Rattle.std.specs.Option.{option_map_or}
use Rattle.std.specs.FinMap.{FinMap, get, empty, insert}
use Rattle.dkg_values.specs.Rising.{lookup}
use Rattle.dkg_journal.specs.Operations.{Appends, Prunes, Journaled}
use Rattle.dkg_journal.specs.Records.{SectionEntry, placed, from_section}
use Rattle.dkg_infos.specs.declared.info.EpochInfo.{EpochInfo}
use Rattle.dkg_store.specs.Acts.{Held, OnDisk, Changes, World, says, does, notes, Cause, Tears, IsDiskLeft}
use Rattle.dkg_store.specs.Events.{event_spelling, IsEvent}
use Rattle.dkg_store.specs.declared.event.Event.{Event}
use Rattle.dkg_store.specs.declared.event.Event.TheVariants as events
use Rattle.dkg_secrets.specs.declared.secrets.SecretOp.TheVariants.{PutShare, PutSeed, PutDealing, Prune}
use Rattle.dkg_secrets.specs.Keys.{key_cmp}
use Rattle.dkg_store.specs.Pairs.{Pairs, IsWhole, recovered, recorded_dealing, dealing_in_event}
use Rattle.dkg_secrets.specs.Secrets.{Secrets, Tries}
use Rattle.dkg_secrets.specs.Secrets as of_secrets
use Rattle.dkg_store.proofs.Halves.{recovered_at, prune_halves, share_halves, seed_halves}
use Rattle.dkg_store.proofs.Pairs.{record_one, put_one, same_key, get_here, get_other}
use Rattle.dkg_store.proofs.Silent.{says_dealing}
use Rattle.dkg_secrets.proofs.Tried.{all_done}
use Rattle.dkg_core.specs.Courses.{Course, Throughout}
use Rattle.dkg_core.specs.Fixed.{Fixed}
use Rattle.dkg_core.specs.Live.{Live}
use Rattle.dkg_core.specs.Setup as s
use Rattle.dkg_core.specs.Behind.{IsAside}
use Rattle.dkg_core.specs.Heard.{recovered_in}
use Rattle.dkg_core.proofs.Keeping.{fold_silent, silent_whole, left_entries}
use Rattle.std.specs.List.{AllByRecursion}
use Rattle.dkg_infos.specs.declared.entry.Entry.{Entry}
use Rattle.dkg_infos.specs.declared.entry.Entry.TheVariants.{Recorded, Ack}
use Rattle.dkg_secrets.specs.declared.secrets.SecretOp.{SecretOp}
use Rattle.dkg_core.specs.Enduring.{OwnAckOf, IsSaidFrom, IsKeptFrom}
use Rattle.dkg_core.proofs.Agreeing.{all_whole, whole_kept}
use Rattle.dkg_core.proofs.Lasting.{pruned_at}

-- EITHER WAY

pub along_if : {Dir F S : Type 0} (P : World → Type 0) (w : World) (t : Bool) (x y : Course Dir F S) → (t ≡ true → Throughout P x w) → (t ≡ false → Throughout P y w) → Throughout P (if t then x else y) w
along_if P w true x y one other = one refl
along_if P w false x y one other = other refl

pub along_option : {Dir F S A : Type 0} (P : World → Type 0) (w : World) (found : Option A) (f : A → Course Dir F S) (none : Course Dir F S)
    → ((a : A) → found ≡ Some a → Throughout P (f a) w) → (found ≡ None → Throughout P none w) → Throughout P (option_map_or f found none) w
along_option P w None f none some without = without refl
along_option P w (Some a) f none some without = some a refl

all_of_both : {A : Type 0} (P : A → Type 0) (xs ys : List A) → AllByRecursion P xs → AllByRecursion P ys → AllByRecursion P (xs ++ ys)
all_of_both P [] ys all more = more
all_of_both P (x ∷ xs) ys all more = (all.0, all_of_both P xs ys all.1 more)

all_still : {A : Type 0} (P R : A → Type 0) → ((a : A) → P a → R a) → (xs : List A) → AllByRecursion P xs → AllByRecursion R xs
all_still P R so [] all = tt
all_still P R so (x ∷ xs) all = (so x all.0, all_still P R so xs all.1)

not_none : {A : Type 0} (a : A) (found : Option A) → found ≡ Some a → found ≡ None → ⊥
not_none a found some none = differs (sym some ∙ none)
  where
    differs : ◌≡◌ {A = Option _} (Some a) None → ⊥
    differs e = cc

module _ (ack_of : OwnAckOf) (most : ℕ) (base : List Entry) where
  abbrev Q : World → Type 0
  Q w = IsKeptFrom ack_of most base w

  -- what was given back from this epoch on is given back
  abbrev StillGives : Held → Held → Type 0
  StillGives h k = (key : ℕ × ℕ) (v : List ℕ × ℕ) → most ≤ key.0 → get (recovered_in h) key ≡ Some v → get (recovered_in k) key ≡ Some v

  still : (h k : Held) → StillGives h k → (line : Entry) → IsSaidFrom ack_of most h line → IsSaidFrom ack_of most k line
  still h k gives (Ack epoch dealer ack) said = λ above. let was = said above in (was.0, was.1, gives (epoch, dealer) was.0 above was.2, was.3, was.4)
  still h k gives (Recorded epoch dealer public private) said = λ above. gives (epoch, dealer) (public, private) above (said above)
  still h k gives line said = tt

  moves : (w new : World) → new.out ≡ w.out → IsWhole (notes new.held) new.held.secrets → StillGives w.held new.held → Q w → Q new
  moves w new same whole gives q = record {
    whole = whole;
    added = q.added;
    out = same ∙ q.out;
    said = all_still (IsSaidFrom ack_of most w.held) (IsSaidFrom ack_of most new.held) (still w.held new.held gives) q.added q.said;
  }

  pub tells : (w : World) (line : Entry) → IsSaidFrom ack_of most w.held line → Q w → Q (says w line)
  tells w line sound q = record {
    whole = q.whole;
    added = q.added ++ line ∷ [];
    out = ap (λ (ls : List Entry). ls ++ line ∷ []) q.out ∙ append_assoc base q.added (line ∷ []);
    said = all_of_both (IsSaidFrom ack_of most w.held) q.added (line ∷ []) q.said (sound, tt);
  }

  -- what stands over the same entries and the same private halves
  pub over : (w new : World) (es : List SectionEntry) (t : Secrets) → new.out ≡ w.out → notes new.held ≡ es → new.held.secrets ≡ t → IsWhole es t
      → ((key : ℕ × ℕ) (v : List ℕ × ℕ) → most ≤ key.0 → get (recovered_in w.held) key ≡ Some v → get (recovered es t) key ≡ Some v) → Q w → Q new
  over w new es t same is_es is_t whole gives q =
      moves w new same
      (subst (λ (x : List SectionEntry). IsWhole x new.held.secrets) (sym is_es) (subst (λ (x : Secrets). IsWhole es x) (sym is_t) whole))
      (λ key v above got. ap (λ (x : List SectionEntry). get (recovered x new.held.secrets) key) is_es ∙ ap (λ (x : Secrets). get (recovered es x) key) is_t ∙ gives key v above got) q

  -- A SHARE OR A SEED

  pub put_torn : (op : SecretOp) → ((s t : Secrets) → Tries op s t → t.privates ≡ s.privates) → (w new : World) (cause : Cause) → Tears cause (Changes op) w new → Q w → Q new
  put_torn op halves w new cause tears q =
      let same = halves w.held.secrets new.held.secrets tears.torn.1 in
      over w new (notes w.held) new.held.secrets tears.same (ap (λ (j : Journaled). j.entries) tears.torn.0) refl (all_whole w.held.secrets new.held.secrets (notes w.held) same q.whole)
      (λ key v above got. recovered_at w.held.secrets new.held.secrets key (notes w.held) (ap (λ (m : FinMap key_cmp ℕ). get m key) same) ∙ got) q

  pub put_done : (op : SecretOp) → ((s t : Secrets) → Tries op s t → t.privates ≡ s.privates) → (w : World) → Q w → Q (does w (Changes op))
  put_done op halves w q =
      let t : Secrets = of_secrets.after op w.held.secrets in
      let same = halves w.held.secrets t (all_done op w.held.secrets t refl) in
      over w (does w (Changes op)) (notes w.held) t refl refl refl (all_whole w.held.secrets t (notes w.held) same q.whole)
      (λ key v above got. recovered_at w.held.secrets t key (notes w.held) (ap (λ (m : FinMap key_cmp ℕ). get m key) same) ∙ got) q

  -- A PRUNE

  pruned_from : (min : ℕ) (es : List SectionEntry) (s : Secrets) (key : ℕ × ℕ) (v : List ℕ × ℕ) → min ≤ most → most ≤ key.0 → get (recovered es s) key ≡ Some v → get (recovered (from_section min es) s) key ≡ Some v
  pruned_from min es s key v low above got = pruned_at min es s key (omega arith) ∙ got

  -- within the journal's
  journal_torn : (min : ℕ) → min ≤ most → (w new : World) (cause : Cause) → Tears cause (OnDisk (Prunes min)) w new → Q w → Q new
  journal_torn min low w new cause tears q = left tears.torn.1
    where
      upto : (least : ℕ) → least ≤ most → notes new.held ≡ from_section least (notes w.held) → Q new
      upto least under_most is =
          over w new (from_section least (notes w.held)) w.held.secrets tears.same is tears.torn.0 (whole_kept least w.held.secrets w.held.secrets (λ k above. refl) (notes w.held) q.whole)
          (λ key v above got. pruned_from least (notes w.held) w.held.secrets key v under_most above got) q

      left : IsDiskLeft (Prunes min) w.held.journaled new.held.journaled → Q new
      left (inl is) = over w new (notes w.held) w.held.secrets tears.same (ap (λ (j : Journaled). j.entries) is) tears.torn.0 q.whole (λ key v above got. got) q
      left (inr (inl is)) = upto min low (ap (λ (j : Journaled). j.entries) is)
      left (inr (inr part)) = upto part.0 (let least : part.0 ≤ min = part.1 in omega arith) (ap (λ (j : Journaled). j.entries) part.2)

  -- behind the journal's the secrets' was tried
  secrets_tried : (min : ℕ) → min ≤ most → (w new : World) (t : Secrets) → Tries (Prune min) w.held.secrets t → new.out ≡ w.out → notes new.held ≡ from_section min (notes w.held) → new.held.secrets ≡ t → Q w → Q new
  secrets_tried min low w new t tries same is_es is_t q =
      let halves : (k : ℕ × ℕ) → min ≤ k.0 → get t.privates k ≡ get w.held.secrets.privates k = λ k above. prune_halves min w.held.secrets t k tries above in
      over w new (from_section min (notes w.held)) t same is_es is_t (whole_kept min w.held.secrets t halves (notes w.held) q.whole)
      (λ key v above got. recovered_at w.held.secrets t key (from_section min (notes w.held)) (halves key (omega arith)) ∙ pruned_from min (notes w.held) w.held.secrets key v low above got) q

  -- both
  pub prunes : {Dir : Type 0} (min : ℕ) → min ≤ most → (st : Live Dir) (w : World) → Q w → Throughout Q (s.prunes min st) w
  prunes min low st w q =
      let mid : World = does w (OnDisk (Prunes min)) in
      let t : Secrets = of_secrets.after (Prune min) w.held.secrets in (
        λ cause new tears. journal_torn min low w new cause tears q,
        (
          λ cause new tears. secrets_tried min low w new new.held.secrets tears.torn.1 tears.same (ap (λ (j : Journaled). j.entries) tears.torn.0) refl q,
          secrets_tried min low w (does mid (Changes (Prune min))) t (all_done (Prune min) w.held.secrets t refl) refl refl refl q,
        ),
      )

  -- A RECORD OF NO DEALING

  module _ (epoch : ℕ) (event : Event) (is_event : IsEvent event) (silent : dealing_in_event epoch (Ok event) ≡ None) where
    abbrev entry : SectionEntry
    entry = (epoch, event_spelling event)

    of_none : recorded_dealing entry ≡ None
    of_none = says_dealing epoch event is_event ∙ silent

    pub silent_done : (w : World) → Q w → Q (does w (OnDisk (Appends entry)))
    silent_done w q =
        over w (does w (OnDisk (Appends entry))) (placed (notes w.held) entry) w.held.secrets refl refl refl (silent_whole w.held.secrets entry of_none (notes w.held) q.whole)
        (λ key v above got. ap (λ (m : Pairs). get m key) (fold_silent w.held.secrets entry of_none (notes w.held) empty) ∙ got) q

    pub silent_torn : (w new : World) (cause : Cause) → Tears cause (OnDisk (Appends entry)) w new → Q w → Q new
    silent_torn w new cause tears q = left (left_entries entry w.held.journaled new.held.journaled tears.torn.1)
      where
        left : (notes new.held ≡ notes w.held) ⊎ (notes new.held ≡ placed (notes w.held) entry) → Q new
        left (inl is) = over w new (notes w.held) w.held.secrets tears.same is tears.torn.0 q.whole (λ key v above got. got) q
        left (inr is) =
            over w new (placed (notes w.held) entry) w.held.secrets tears.same is tears.torn.0 (silent_whole w.held.secrets entry of_none (notes w.held) q.whole)
            (λ key v above got. ap (λ (m : Pairs). get m key) (fold_silent w.held.secrets entry of_none (notes w.held) empty) ∙ got) q

  -- A NEW DEALING: its private half, its record, its line

  module _ (epoch dealer : ℕ) (public : List ℕ) (private : ℕ) (is_event : IsEvent (events.Dealing dealer public)) (w : World) (fresh : get (recovered_in w.held) (epoch, dealer) ≡ None) (q : Q w) where
    abbrev key_of : ℕ × ℕ
    key_of = (epoch, dealer)

    abbrev its_entry : SectionEntry
    its_entry = (epoch, event_spelling (events.Dealing dealer public))

    abbrev with_half : Secrets
    with_half = of_secrets.after (PutDealing epoch dealer private) w.held.secrets

    half : IsWhole (notes w.held) with_half × (recovered (notes w.held) with_half ≡ recovered_in w.held)
    half = put_one epoch dealer private public is_event (recovered_in w.held) fresh w.held.secrets (notes w.held) q.whole refl

    both : IsWhole (placed (notes w.held) its_entry) with_half × (recovered (placed (notes w.held) its_entry) with_half ≡ insert (recovered_in w.held) key_of (public, private))
    both = record_one epoch dealer private public is_event (recovered_in w.held) fresh w.held.secrets (notes w.held) q.whole refl

    half_gives : (key : ℕ × ℕ) (v : List ℕ × ℕ) → most ≤ key.0 → get (recovered_in w.held) key ≡ Some v → get (recovered (notes w.held) with_half) key ≡ Some v
    half_gives key v above got = ap (λ (m : Pairs). get m key) half.1 ∙ got

    both_give : (key : ℕ × ℕ) (v : List ℕ × ℕ) → most ≤ key.0 → get (recovered_in w.held) key ≡ Some v → get (recovered (placed (notes w.held) its_entry) with_half) key ≡ Some v
    both_give key v above got = elim (same_key key key_of) [
      | inl is ↦ absurd (not_none v (get (recovered_in w.held) key) got (ap (get (recovered_in w.held)) is ∙ fresh))
      | inr apart ↦ ap (λ (m : Pairs). get m key) both.1 ∙ get_other (recovered_in w.held) key_of key (public, private) apart ∙ got
    ]

    abbrev behind : World
    behind = does (does w (Changes (PutDealing epoch dealer private))) (OnDisk (Appends its_entry))

    pub there : get (recovered_in behind.held) key_of ≡ Some (public, private)
    there = ap (λ (m : Pairs). get m key_of) both.1 ∙ get_here (recovered_in w.held) key_of (public, private)

    pub dealing_done : Q behind
    dealing_done = over w behind (placed (notes w.held) its_entry) with_half refl refl refl both.0 both_give q

    pub dealing_told : Q (says behind (Recorded epoch dealer public private))
    dealing_told = tells behind (Recorded epoch dealer public private) (λ above. there) dealing_done

    pub half_torn : (cause : Cause) (new : World) → Tears cause (Changes (PutDealing epoch dealer private)) w new → Q new
    half_torn cause new tears = left (tears.torn.1).so
      where
        entries_are : notes new.held ≡ notes w.held
        entries_are = ap (λ (j : Journaled). j.entries) tears.torn.0

        left : (new.held.secrets ≡ w.held.secrets) ⊎ (new.held.secrets ≡ with_half) → Q new
        left (inl is) = over w new (notes w.held) w.held.secrets tears.same entries_are is q.whole (λ key v above got. got) q
        left (inr is) = over w new (notes w.held) with_half tears.same entries_are is half.0 half_gives q

    pub record_torn : (cause : Cause) (new : World) → Tears cause (OnDisk (Appends its_entry)) (does w (Changes (PutDealing epoch dealer private))) new → Q new
    record_torn cause new tears = left (left_entries its_entry w.held.journaled new.held.journaled tears.torn.1)
      where
        left : (notes new.held ≡ notes w.held) ⊎ (notes new.held ≡ placed (notes w.held) its_entry) → Q new
        left (inl is) = over w new (notes w.held) with_half tears.same is tears.torn.0 half.0 half_gives q
        left (inr is) = over w new (placed (notes w.held) its_entry) with_half tears.same is tears.torn.0 both.0 both_give q

-- A COMMIT

module _ {Dir : Type 0} (c : Fixed Dir) (ack_of : OwnAckOf) (most : ℕ) (base : List Entry) where
  abbrev P : World → Type 0
  P w = IsKeptFrom ack_of most base w

  tell : (w : World) (line : Entry) → IsSaidFrom ack_of most w.held line → P w → P (says w line)
  tell w line sound q = tells ack_of most base w line sound q

  pub commits : (info : EpochInfo Dir) (seed : List ℕ) (share : Option ℕ) (st : Live Dir) (w : World) → P w → Throughout {Dir = Dir} P (s.commits info seed share st) w
  commits info seed None st w q =
      let seeded = put_done ack_of most base (PutSeed info.epoch seed) (seed_halves info.epoch seed) w q in
      (λ cause new tears. put_torn ack_of most base (PutSeed info.epoch seed) (seed_halves info.epoch seed) w new cause tears q, (seeded, tell (does w (Changes (PutSeed info.epoch seed))) _ tt seeded))
  commits info seed (Some share) st w q =
      let mid : World = does w (Changes (PutShare info.epoch share)) in
      let shared = put_done ack_of most base (PutShare info.epoch share) (share_halves info.epoch share) w q in
      let seeded = put_done ack_of most base (PutSeed info.epoch seed) (seed_halves info.epoch seed) mid shared in (
        λ cause new tears. put_torn ack_of most base (PutShare info.epoch share) (share_halves info.epoch share) w new cause tears q,
        (
          λ cause new tears. put_torn ack_of most base (PutSeed info.epoch seed) (seed_halves info.epoch seed) mid new cause tears shared,
          (seeded, tell (does mid (Changes (PutSeed info.epoch seed))) _ tt seeded),
        ),
      )

  aside_said : (h : Held) (line : Entry) → IsAside line → IsSaidFrom ack_of most h line
  aside_said h (Recorded epoch dealer public private) aside = absurd aside
  aside_said h (Ack epoch dealer ack) aside = absurd aside
  aside_said h line aside = tt

  -- a line that is no dealing's
  pub told : (w : World) (line : Entry) → IsAside line → P w → P (says w line)
  told w line aside q = tell w line (aside_said w.held line aside) q

  -- what was read is committed
  pub commits_read : (info : EpochInfo Dir) (st : Live Dir) (w : World) → P w
      → Throughout {Dir = Dir} P (s.commits info (s.seed_for c info.epoch (lookup info.epoch (c.seen w.held).seeds)) (s.recovered_share c (c.seen w.held) info) st) w
  commits_read info st w q = commits info (s.seed_for c info.epoch (lookup info.epoch (c.seen w.held).seeds)) (s.recovered_share c (c.seen w.held) info) st w q
