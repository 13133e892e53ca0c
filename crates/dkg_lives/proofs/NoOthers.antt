-- What a block and an opening leave on the devices of dealings: those from before, less what is pruned, and what this node deals to itself; a block that goes to its end has told
-- that. An opening of the form prunes nothing of the epoch that it starts in, nor of the one before, whatever blocks its source has.
use Rattle.std.proofs.Common.{◌≡◌, ◌⊎◌, inl, inr, ◌≤◌, ℕ, Bool, true, false, cond, nat_le, List, [], ◌∷◌, ◌++◌, Option, Some, None, refl, sym, ◌∙◌, ap, subst, arith, append_assoc}
use Rattle.std.specs.Prelude.{◌==◌, if◌then◌else◌, Result, Ok, Err, is_some}
use Rattle.std.specs.Option.{option_map_or}
use Rattle.std.specs.Str.{bytes_eq}
use Rattle.std.specs.List.{AllByRecursion}
use Rattle.std.specs.FinMap.{FinMap, find, get, empty, insert, get-retain_keys, get-entries}
use Rattle.std.proofs.lemmas.Bool.Decides.{nat_tests}
use Rattle.dkg_values.specs.Rising.{lookup}
use Rattle.dkg_ceremony.specs.declared.ceremony.AckError.{AckError}
use Rattle.dkg_ceremony.specs.declared.round.RoundParts.{RoundParts as Round}
use Rattle.dkg_journal.specs.Operations.{Appends, Prunes, Journaled}
use Rattle.dkg_journal.specs.Records.{SectionEntry, placed, from_section}
use Rattle.dkg_secrets.proofs.Map.{exact_keys, below_or}
use Rattle.dkg_secrets.proofs.Tried.{all_done}
use Rattle.dkg_secrets.specs.Keys.{key_cmp}
use Rattle.dkg_secrets.specs.Secrets.{Secrets, Tries}
use Rattle.dkg_secrets.specs.Secrets as of_secrets
use Rattle.dkg_secrets.specs.declared.secrets.SecretOp.{SecretOp}
use Rattle.dkg_secrets.specs.declared.secrets.SecretOp.TheVariants.{PutShare, PutSeed, PutDealing, Prune}
use Rattle.dkg_infos.specs.declared.entry.Entry.{Entry}
use Rattle.dkg_infos.specs.declared.entry.Entry.TheVariants.{Recorded, Offer}
use Rattle.dkg_infos.specs.declared.fault.Fault.{Fault}
use Rattle.dkg_infos.specs.declared.fault.Fault.TheVariants.{LocalState}
use Rattle.dkg_infos.specs.declared.fault.LocalCause.TheVariants.{OwnDealing}
use Rattle.dkg_infos.specs.declared.info.EpochInfo.{EpochInfo}
use Rattle.dkg_store.specs.Acts.{World, OnDisk, Changes, says, does, notes, Cause, Tears, IsDiskLeft}
use Rattle.dkg_store.specs.Events.{event_spelling, IsEvent}
use Rattle.dkg_store.specs.declared.event.Event.{Event}
use Rattle.dkg_store.specs.declared.event.Event.TheVariants as events
use Rattle.dkg_store.specs.Pairs.{Pairs, IsWhole, recovered, recorded_dealing, dealing_in_event}
use Rattle.dkg_store.proofs.Halves.{recovered_at, prune_halves, share_halves, seed_halves}
use Rattle.dkg_store.proofs.Pairs.{record_one, put_one, same_key, get_at, get_other}
use Rattle.dkg_store.proofs.Pruned.{recovered_from}
use Rattle.dkg_store.proofs.Silent.{says_dealing}
use Rattle.dkg_core.specs.Courses.{Course, Say, Do, CallOutside, Ask, Goes, Stops, bind, Throughout, Finishes}
use Rattle.dkg_core.specs.Fixed.{Fixed}
use Rattle.dkg_core.specs.Live.{Live, Dealer, Seat, Plays, Watches, recorded_at}
use Rattle.dkg_core.specs.Setup as s
use Rattle.dkg_core.specs.Dealing as d
use Rattle.dkg_core.specs.Agreeing.{AreAgreed}
use Rattle.dkg_core.specs.Heard.{recovered_in}
use Rattle.dkg_core.specs.Laws.{IsAmong}
use Rattle.dkg_core.proofs.Agreeing as ag
use Rattle.dkg_core.proofs.Agreeing.{all_whole, whole_kept}
use Rattle.dkg_core.proofs.Keeping.{fold_silent, silent_whole, left_entries}
use Rattle.dkg_core.proofs.Running.{along_next, along_end}
use Rattle.dkg_core.proofs.Unsent.{IsUnsent, are_unsent}
use Rattle.dkg_core.proofs.Upkeep.{along_if, along_option}

some_is : {A : Type 0} (a b : A) → ◌≡◌ {A = Option A} (Some a) (Some b) → a ≡ b
some_is a b e = cc

none_some : {A : Type 0} (a : A) → ◌≡◌ {A = Option A} None (Some a) → ⊥
none_some a e = cc

same_number : (n m : ℕ) → (n == m) ≡ true → n ≡ m
same_number n m e = grind (arith, nat_tests)

-- WHAT IS GIVEN BACK

-- what an insertion gives: what is new, or what was there
pub inserted : (m : Pairs) (at : ℕ × ℕ) (v : List ℕ × ℕ) (key : ℕ × ℕ) (pair : List ℕ × ℕ) → get (insert m at v) key ≡ Some pair → ((key ≡ at) × (v ≡ pair)) ⊎ (get m key ≡ Some pair)
inserted m at v key pair got = elim (same_key key at) [
  | inl is ↦ inl (is, some_is v pair (sym (get_at m at key v is) ∙ got))
  | inr apart ↦ inr (sym (get_other m at key v apart) ∙ got)
]

-- a prune takes away alone
pub pruned_before : (min : ℕ) (es : List SectionEntry) (t : Secrets) (key : ℕ × ℕ) (pair : List ℕ × ℕ) → get (recovered (from_section min es) t) key ≡ Some pair → (min ≤ key.0) × (get (recovered es t) key ≡ Some pair)
pruned_before min es t key pair got = elim (below_or min key.0) [
  | inl below ↦ absurd (none_some pair (sym (at_key ∙ ap (λ (b : Bool). cond b (get (recovered es t) key) None) below.1) ∙ got))
  | inr above ↦ (above.0, sym (at_key ∙ ap (λ (b : Bool). cond b (get (recovered es t) key) None) above.1) ∙ got)
]
  where
    at_key : get (recovered (from_section min es) t) key ≡ cond (nat_le min key.0) (get (recovered es t) key) None
    at_key = ap (λ (m : Pairs). get m key) (recovered_from min es t)
        ∙ get-retain_keys (recovered es t) (λ (x : ℕ × ℕ). nat_le min x.0) key (λ x tied. ap (λ (y : ℕ × ℕ). nat_le min y.0) (sym (exact_keys key x tied)))

module _ (m0 : Pairs) (own : ℕ × ℕ → List ℕ × ℕ → Type 0) where
  -- Nothing else is given back.
  abbrev pub GivesNoOther : Pairs → Type 0
  GivesNoOther m = (key : ℕ × ℕ) (pair : List ℕ × ℕ) → get m key ≡ Some pair → (get m0 key ≡ Some pair) ⊎ own key pair

  -- .. of whole devices
  pub record IsNoOther (w : World) : Type 0 where
    pub whole : IsWhole (notes w.held) w.held.secrets
    pub gives : GivesNoOther (recovered_in w.held)

  abbrev Q : World → Type 0
  Q w = IsNoOther w

  over : (w new : World) (es : List SectionEntry) (t : Secrets) → notes new.held ≡ es → new.held.secrets ≡ t → IsWhole es t
      → ((key : ℕ × ℕ) (pair : List ℕ × ℕ) → get (recovered es t) key ≡ Some pair → (get (recovered_in w.held) key ≡ Some pair) ⊎ own key pair) → Q w → Q new
  over w new es t is_es is_t whole gives q = record {
    whole = subst (λ (x : List SectionEntry). IsWhole x new.held.secrets) (sym is_es) (subst (λ (x : Secrets). IsWhole es x) (sym is_t) whole);
    gives = λ key pair got. elim (gives key pair (sym (ap (λ (x : List SectionEntry). get (recovered x new.held.secrets) key) is_es ∙ ap (λ (x : Secrets). get (recovered es x) key) is_t) ∙ got)) [
      | inl was ↦ q.gives key pair was
      | inr its ↦ inr its
    ];
  }

  said : (w : World) (line : Entry) → Q w → Q (says w line)
  said w line q = record { whole = q.whole; gives = q.gives }

  -- the same entries and secrets
  pub stays : (w new : World) → notes new.held ≡ notes w.held → new.held.secrets ≡ w.held.secrets → Q w → Q new
  stays w new is_es is_t q = over w new (notes w.held) w.held.secrets is_es is_t q.whole (λ key pair got. inl got) q

  -- A SHARE OR A SEED

  put_over : (w new : World) (t : Secrets) → t.privates ≡ w.held.secrets.privates → notes new.held ≡ notes w.held → new.held.secrets ≡ t → Q w → Q new
  put_over w new t same is_es is_t q = over w new (notes w.held) t is_es is_t (all_whole w.held.secrets t (notes w.held) same q.whole)
      (λ key pair got. inl (sym (recovered_at w.held.secrets t key (notes w.held) (ap (λ (m : FinMap key_cmp ℕ). get m key) same)) ∙ got)) q

  put_torn : (op : SecretOp) → ((s t : Secrets) → Tries op s t → t.privates ≡ s.privates) → (w new : World) (cause : Cause) → Tears cause (Changes op) w new → Q w → Q new
  put_torn op halves w new cause tears q =
      put_over w new new.held.secrets (halves w.held.secrets new.held.secrets tears.torn.1) (ap (λ (j : Journaled). j.entries) tears.torn.0) refl q

  put_done : (op : SecretOp) → ((s t : Secrets) → Tries op s t → t.privates ≡ s.privates) → (w : World) → Q w → Q (does w (Changes op))
  put_done op halves w q =
      let t : Secrets = of_secrets.after op w.held.secrets in
      put_over w (does w (Changes op)) t (halves w.held.secrets t (all_done op w.held.secrets t refl)) refl refl q

  pub commits : {Dir : Type 0} (info : EpochInfo Dir) (seed : List ℕ) (share : Option ℕ) (st : Live Dir) (w : World) → Q w → Throughout {Dir = Dir} Q (s.commits info seed share st) w
  commits info seed None st w q =
      let seeded = put_done (PutSeed info.epoch seed) (seed_halves info.epoch seed) w q in
      (λ cause new tears. put_torn (PutSeed info.epoch seed) (seed_halves info.epoch seed) w new cause tears q, (seeded, said (does w (Changes (PutSeed info.epoch seed))) _ seeded))
  commits info seed (Some share) st w q =
      let mid : World = does w (Changes (PutShare info.epoch share)) in
      let shared = put_done (PutShare info.epoch share) (share_halves info.epoch share) w q in
      let seeded = put_done (PutSeed info.epoch seed) (seed_halves info.epoch seed) mid shared in (
        λ cause new tears. put_torn (PutShare info.epoch share) (share_halves info.epoch share) w new cause tears q,
        (λ cause new tears. put_torn (PutSeed info.epoch seed) (seed_halves info.epoch seed) mid new cause tears shared, (seeded, said (does mid (Changes (PutSeed info.epoch seed))) _ seeded)),
      )

  -- A PRUNE

  journal_torn : (min : ℕ) (w new : World) (cause : Cause) → Tears cause (OnDisk (Prunes min)) w new → Q w → Q new
  journal_torn min w new cause tears q = left tears.torn.1
    where
      upto : (least : ℕ) → notes new.held ≡ from_section least (notes w.held) → Q new
      upto least is = over w new (from_section least (notes w.held)) w.held.secrets is tears.torn.0 (whole_kept least w.held.secrets w.held.secrets (λ k above. refl) (notes w.held) q.whole)
          (λ key pair got. inl (pruned_before least (notes w.held) w.held.secrets key pair got).1) q

      left : IsDiskLeft (Prunes min) w.held.journaled new.held.journaled → Q new
      left (inl is) = stays w new (ap (λ (j : Journaled). j.entries) is) tears.torn.0 q
      left (inr (inl is)) = upto min (ap (λ (j : Journaled). j.entries) is)
      left (inr (inr part)) = upto part.0 (ap (λ (j : Journaled). j.entries) part.2)

  secrets_tried : (min : ℕ) (w new : World) (t : Secrets) → Tries (Prune min) w.held.secrets t → notes new.held ≡ from_section min (notes w.held) → new.held.secrets ≡ t → Q w → Q new
  secrets_tried min w new t tries is_es is_t q =
      let halves : (k : ℕ × ℕ) → min ≤ k.0 → get t.privates k ≡ get w.held.secrets.privates k = λ k above. prune_halves min w.held.secrets t k tries above in
      over w new (from_section min (notes w.held)) t is_es is_t (whole_kept min w.held.secrets t halves (notes w.held) q.whole)
      (λ key pair got.
      let its = pruned_before min (notes w.held) t key pair got in
      inl (sym (recovered_at w.held.secrets t key (notes w.held) (halves key its.0)) ∙ its.1)) q

  pub prunes : {Dir : Type 0} (min : ℕ) (st : Live Dir) (w : World) → Q w → Throughout Q (s.prunes min st) w
  prunes min st w q =
      let mid : World = does w (OnDisk (Prunes min)) in
      let t : Secrets = of_secrets.after (Prune min) w.held.secrets in (
        λ cause new tears. journal_torn min w new cause tears q,
        (
          λ cause new tears. secrets_tried min w new new.held.secrets tears.torn.1 (ap (λ (j : Journaled). j.entries) tears.torn.0) refl q,
          secrets_tried min w (does mid (Changes (Prune min))) t (all_done (Prune min) w.held.secrets t refl) refl refl q,
        ),
      )

  -- A RECORD OF NO DEALING

  module _ (epoch : ℕ) (event : Event) (is_event : IsEvent event) (silent : dealing_in_event epoch (Ok event) ≡ None) where
    abbrev entry : SectionEntry
    entry = (epoch, event_spelling event)

    of_none : recorded_dealing entry ≡ None
    of_none = says_dealing epoch event is_event ∙ silent

    silent_over : (w new : World) → notes new.held ≡ placed (notes w.held) entry → new.held.secrets ≡ w.held.secrets → Q w → Q new
    silent_over w new is_es is_t q = over w new (placed (notes w.held) entry) w.held.secrets is_es is_t (silent_whole w.held.secrets entry of_none (notes w.held) q.whole)
        (λ key pair got. inl (sym (ap (λ (m : Pairs). get m key) (fold_silent w.held.secrets entry of_none (notes w.held) empty)) ∙ got)) q

    pub silent_done : (w : World) → Q w → Q (does w (OnDisk (Appends entry)))
    silent_done w q = silent_over w (does w (OnDisk (Appends entry))) refl refl q

    pub silent_torn : (w new : World) (cause : Cause) → Tears cause (OnDisk (Appends entry)) w new → Q w → Q new
    silent_torn w new cause tears q = left (left_entries entry w.held.journaled new.held.journaled tears.torn.1)
      where
        left : (notes new.held ≡ notes w.held) ⊎ (notes new.held ≡ placed (notes w.held) entry) → Q new
        left (inl is) = stays w new is tears.torn.0 q
        left (inr is) = silent_over w new is tears.torn.0 q

  -- A NEW DEALING of its own: its private half, its record

  module _ (epoch dealer : ℕ) (public : List ℕ) (private : ℕ) (is_event : IsEvent (events.Dealing dealer public)) (w : World) (fresh : get (recovered_in w.held) (epoch, dealer) ≡ None)
      (its_own : own (epoch, dealer) (public, private)) (q : Q w) where
    abbrev its_entry : SectionEntry
    its_entry = (epoch, event_spelling (events.Dealing dealer public))

    abbrev with_half : Secrets
    with_half = of_secrets.after (PutDealing epoch dealer private) w.held.secrets

    half : IsWhole (notes w.held) with_half × (recovered (notes w.held) with_half ≡ recovered_in w.held)
    half = put_one epoch dealer private public is_event (recovered_in w.held) fresh w.held.secrets (notes w.held) q.whole refl

    both : IsWhole (placed (notes w.held) its_entry) with_half × (recovered (placed (notes w.held) its_entry) with_half ≡ insert (recovered_in w.held) (epoch, dealer) (public, private))
    both = record_one epoch dealer private public is_event (recovered_in w.held) fresh w.held.secrets (notes w.held) q.whole refl

    half_over : (new : World) → notes new.held ≡ notes w.held → new.held.secrets ≡ with_half → Q new
    half_over new is_es is_t = over w new (notes w.held) with_half is_es is_t half.0 (λ key pair got. inl (sym (ap (λ (m : Pairs). get m key) half.1) ∙ got)) q

    own_at : (key : ℕ × ℕ) (pair : List ℕ × ℕ) → key ≡ (epoch, dealer) → (public, private) ≡ pair → own key pair
    own_at key pair is same = subst (λ (k : ℕ × ℕ). own k pair) (sym is) (subst (λ (v : List ℕ × ℕ). own (epoch, dealer) v) same its_own)

    both_over : (new : World) → notes new.held ≡ placed (notes w.held) its_entry → new.held.secrets ≡ with_half → Q new
    both_over new is_es is_t = over w new (placed (notes w.held) its_entry) with_half is_es is_t both.0
        (λ key pair got. elim (inserted (recovered_in w.held) (epoch, dealer) (public, private) key pair (sym (ap (λ (m : Pairs). get m key) both.1) ∙ got)) [
          | inl new ↦ inr (own_at key pair new.0 new.1)
          | inr was ↦ inl was
        ]) q

    abbrev behind : World
    behind = does (does w (Changes (PutDealing epoch dealer private))) (OnDisk (Appends its_entry))

    pub dealing_done : Q behind
    dealing_done = both_over behind refl refl

    pub half_torn : (cause : Cause) (new : World) → Tears cause (Changes (PutDealing epoch dealer private)) w new → Q new
    half_torn cause new tears = left (tears.torn.1).so
      where
        entries_are : notes new.held ≡ notes w.held
        entries_are = ap (λ (j : Journaled). j.entries) tears.torn.0

        left : (new.held.secrets ≡ w.held.secrets) ⊎ (new.held.secrets ≡ with_half) → Q new
        left (inl is) = stays w new entries_are is q
        left (inr is) = half_over new entries_are is

    pub record_torn : (cause : Cause) (new : World) → Tears cause (OnDisk (Appends its_entry)) (does w (Changes (PutDealing epoch dealer private))) new → Q new
    record_torn cause new tears = left (left_entries its_entry w.held.journaled new.held.journaled tears.torn.1)
      where
        left : (notes new.held ≡ notes w.held) ⊎ (notes new.held ≡ placed (notes w.held) its_entry) → Q new
        left (inl is) = half_over new is tears.torn.0
        left (inr is) = both_over new is tears.torn.0

-- WHERE A COURSE ENDS by itself, over these devices

abbrev pub AtEnd : {Dir F S : Type 0} → (G : World → Type 0) → Course Dir F S → World → Type 0
AtEnd G (Say line course) w = AtEnd G course (says w line)
AtEnd G (Do op course) w = AtEnd G course (does w op)
AtEnd G (CallOutside outer course) w = AtEnd G course w
AtEnd G (Ask f) w = AtEnd G (f w.held) w
AtEnd G (Goes end) w = G w
AtEnd G (Stops fault) w = Unit {0}

pub end_next : {Dir F S T : Type 0} (G : World → Type 0) (course : Course Dir F S) (next : S → Course Dir F T) (w : World) → AtEnd G course w
    → ((end : S) (mid : World) → Finishes course end w mid → G mid → AtEnd G (next end) mid) → AtEnd G (bind course next) w
end_next G (Say line course) next w a more = end_next G course next (says w line) a more
end_next G (Do op course) next w a more = end_next G course next (does w op) a more
end_next G (CallOutside outer course) next w a more = end_next G course next w a more
end_next G (Ask f) next w a more = end_next G (f w.held) next w a more
end_next G (Goes end) next w a more = more end w (refl, refl) a
end_next G (Stops fault) next w a more = tt

pub end_if : {Dir F S : Type 0} (G : World → Type 0) (w : World) (t : Bool) (x y : Course Dir F S) → (t ≡ true → AtEnd G x w) → (t ≡ false → AtEnd G y w) → AtEnd G (if t then x else y) w
end_if G w true x y one other = one refl
end_if G w false x y one other = other refl

pub end_option : {Dir F S A : Type 0} (G : World → Type 0) (w : World) (found : Option A) (f : A → Course Dir F S) (none : Course Dir F S) → ((a : A) → found ≡ Some a → AtEnd G (f a) w) → (found ≡ None → AtEnd G none w)
    → AtEnd G (option_map_or f found none) w
end_option G w None f none some without = without refl
end_option G w (Some a) f none some without = some a refl

pub end_is : {Dir F S : Type 0} (G : World → Type 0) (course : Course Dir F S) (w new : World) (end : S) → AtEnd G course w → Finishes course end w new → G new
end_is G (Say line course) w new end a done = end_is G course (says w line) new end a done
end_is G (Do op course) w new end a done = end_is G course (does w op) new end a done
end_is G (CallOutside outer course) w new end a done = end_is G course w new end a done
end_is G (Ask f) w new end a done = end_is G (f w.held) w new end a done
end_is G (Goes its) w new end a done = subst G (sym done.0) a
end_is G (Stops fault) w new end a done = absurd done

-- WHAT WAS TOLD since these lines

pub record IsToldSince (base : List Entry) (w : World) (key : ℕ × ℕ) (pair : List ℕ × ℕ) : Type 0 where
  pub front : List Entry
  pub back : List Entry
  pub out : w.out ≡ base ++ (front ++ Recorded key.0 key.1 pair.0 pair.1 ∷ back)

-- each dealing that is given back was so before, or was told
abbrev pub TellsAll : (m0 : Pairs) (base : List Entry) → World → Type 0
TellsAll m0 base w = (added : List Entry) × (w.out ≡ base ++ added)
    × ((key : ℕ × ℕ) (pair : List ℕ × ℕ) → get (recovered_in w.held) key ≡ Some pair → (get m0 key ≡ Some pair) ⊎ IsToldSince base w key pair)

told_more : (base : List Entry) (w : World) (line : Entry) (key : ℕ × ℕ) (pair : List ℕ × ℕ) → IsToldSince base w key pair → IsToldSince base (says w line) key pair
told_more base w line key pair told = record {
  front = told.front;
  back = told.back ++ line ∷ [];
  out = ap (λ (ls : List Entry). ls ++ line ∷ []) told.out ∙ append_assoc base (told.front ++ Recorded key.0 key.1 pair.0 pair.1 ∷ told.back) (line ∷ [])
      ∙ ap (λ (ls : List Entry). base ++ ls) (append_assoc told.front (Recorded key.0 key.1 pair.0 pair.1 ∷ told.back) (line ∷ []));
}

module _ (m0 : Pairs) (base : List Entry) where
  abbrev T : World → Type 0
  T w = TellsAll m0 base w

  pub tells_line : (w : World) (line : Entry) → T w → T (says w line)
  tells_line w line t = (t.0 ++ line ∷ [], ap (λ (ls : List Entry). ls ++ line ∷ []) t.1 ∙ append_assoc base t.0 (line ∷ []), λ key pair got. elim (t.2 key pair got) [ inl was ↦ inl was | inr told ↦ inr (told_more base w line key pair told) ])

  -- devices that give the same back
  tells_same : (w new : World) → new.out ≡ w.out → ((key : ℕ × ℕ) → get (recovered_in new.held) key ≡ get (recovered_in w.held) key) → T w → T new
  tells_same w new same gives t = (
    t.0,
    same ∙ t.1,
    λ key pair got. elim (t.2 key pair (sym (gives key) ∙ got)) [
      | inl was ↦ inl was
      | inr told ↦ inr (record { front = told.front; back = told.back; out = same ∙ told.out })
    ],
  )

-- THIS NODE'S OWN DEALING

-- what a life's dealer deals to this node, in the life's round
pub record IsOwnDealt {Dir : Type 0} (c : Fixed Dir) (st : Live Dir) (key : ℕ × ℕ) (pair : List ℕ × ℕ) : Type 0 where
  pub round : Round
  pub of_epoch : st.participation.round ≡ Some round
  pub dealer : Dealer
  pub of_dealer : st.participation.dealer ≡ Some dealer
  pub at : key ≡ (round.number, c.me)
  pub public : pair.0 ≡ dealer.public
  pub private : lookup c.me dealer.privates ≡ Some pair.1
  pub plays : IsAmong c.me round.players

module _ {Dir : Type 0} (c : Fixed Dir) (m0 : Pairs) (own : ℕ × ℕ → List ℕ × ℕ → Type 0) (base : List Entry) where
  abbrev P : World → Type 0
  P w = IsNoOther m0 own w

  abbrev G : World → Type 0
  G w = TellsAll m0 base w

  takes_ack : (epoch : ℕ) (dealer : Dealer) (player : ℕ) (ack : List ℕ) (st : Live Dir) (w : World) → IsEvent (events.Ack player ack) → P w → Throughout P (d.takes_ack epoch dealer player ack st) w
  takes_ack epoch dealer player ack st w is q =
      let noted : Course Dir Fault (Live Dir) = d.appends epoch (events.Ack player ack) (Goes (d.counts dealer player ack (d.with_ack epoch player ack st))) in
      along_if P w (is_some (lookup player dealer.acks)) (Goes st) (if is_some (recorded_at st.records.acks epoch player) then Goes (d.counts dealer player ack st) else noted) (λ e. q)
      (λ e. along_if P w (is_some (recorded_at st.records.acks epoch player)) (Goes (d.counts dealer player ack st)) noted (λ e. q)
      (λ e. (λ cause new tears. silent_torn m0 own epoch (events.Ack player ack) is refl w new cause tears q, silent_done m0 own epoch (events.Ack player ack) is refl w q)))

  takes_end : (epoch : ℕ) (dealer : Dealer) (player : ℕ) (ack : List ℕ) (st : Live Dir) (w : World) → IsEvent (events.Ack player ack) → G w → AtEnd G (d.takes_ack epoch dealer player ack st) w
  takes_end epoch dealer player ack st w is t =
      let noted : Course Dir Fault (Live Dir) = d.appends epoch (events.Ack player ack) (Goes (d.counts dealer player ack (d.with_ack epoch player ack st))) in
      let entry : SectionEntry = (epoch, event_spelling (events.Ack player ack)) in
      end_if G w (is_some (lookup player dealer.acks)) (Goes st) (if is_some (recorded_at st.records.acks epoch player) then Goes (d.counts dealer player ack st) else noted) (λ e. t)
      (λ e. end_if G w (is_some (recorded_at st.records.acks epoch player)) (Goes (d.counts dealer player ack st)) noted (λ e. t)
      (λ e. tells_same m0 base w (does w (OnDisk (Appends entry))) refl
      (λ key. ap (λ (m : Pairs). get m key) (fold_silent w.held.secrets entry (says_dealing epoch (events.Ack player ack) is) (notes w.held) empty)) t))

  checked_ack : (round : Round) (dealer : Dealer) (player : ℕ) (ack : List ℕ) (st : Live Dir) (check : Result (Unit {0}) AckError) (w : World) → IsEvent (events.Ack player ack) → P w
      → Throughout P (d.checked_ack round dealer player ack st check) w
  checked_ack round dealer player ack st (Err e) w is q = (q, record { whole = q.whole; gives = q.gives })
  checked_ack round dealer player ack st (Ok passed) w is q = takes_ack round.number dealer player ack st w is q

  checked_end : (round : Round) (dealer : Dealer) (player : ℕ) (ack : List ℕ) (st : Live Dir) (check : Result (Unit {0}) AckError) (w : World) → IsEvent (events.Ack player ack) → G w
      → AtEnd G (d.checked_ack round dealer player ack st check) w
  checked_end round dealer player ack st (Err e) w is t = tells_line m0 base w _ t
  checked_end round dealer player ack st (Ok passed) w is t = takes_end round.number dealer player ack st w is t

  module _ (fits_own : (round : Round) (public : List ℕ) → IsEvent (events.Ack c.me (c.rules.ack_of c.me round c.me public))) where
    own_ack : (round : Round) (public : List ℕ) (st : Live Dir) (w : World) → P w → Throughout P (d.own_ack c round public st) w
    own_ack round public st w q =
        let ack = c.rules.ack_of c.me round c.me public in
        along_option P w st.participation.dealer (λ dealer. d.checked_ack round dealer c.me ack st (c.rules.check_ack_of round c.me dealer.public c.me ack)) (Goes st)
        (λ dealer e. checked_ack round dealer c.me ack st (c.rules.check_ack_of round c.me dealer.public c.me ack) w (fits_own round public) q) (λ e. q)

    own_end : (round : Round) (public : List ℕ) (st : Live Dir) (w : World) → G w → AtEnd G (d.own_ack c round public st) w
    own_end round public st w t =
        let ack = c.rules.ack_of c.me round c.me public in
        end_option G w st.participation.dealer (λ dealer. d.checked_ack round dealer c.me ack st (c.rules.check_ack_of round c.me dealer.public c.me ack)) (Goes st)
        (λ dealer e. checked_end round dealer c.me ack st (c.rules.check_ack_of round c.me dealer.public c.me ack) w (fits_own round public) t) (λ e. t)

    module _ (round : Round) (public : List ℕ) (is : IsEvent (events.Dealing c.me public)) where
      -- a key that memory lacks is new
      fresh_at : (st : Live Dir) (w : World) → AreAgreed st.records w.held → recorded_at st.records.dealings round.number c.me ≡ None → get (recovered_in w.held) (round.number, c.me) ≡ None
      fresh_at st w a none = get-entries (recovered_in w.held) (round.number, c.me) ∙ ap (find key_cmp (round.number, c.me)) (sym a.dealings) ∙ none

      to_itself_in : (private : ℕ) (st : Live Dir) (found : Option (List ℕ × ℕ)) (w : World) → own (round.number, c.me) (public, private)
          → recorded_at st.records.dealings round.number c.me ≡ found → AreAgreed st.records w.held → P w → Throughout P (d.deals_to_itself_in c round public private st found) w
      to_itself_in private st (Some pair) w its found a q =
          along_if P w (bytes_eq pair.0 public) (d.own_ack c round public st) (Stops (LocalState (OwnDealing round.number pair.0 public))) (λ e. own_ack round public st w q) (λ e. q)
      to_itself_in private st None w its none a q =
          let fresh = fresh_at st w a none in
          let done = dealing_done m0 own round.number c.me public private is w fresh its q in (
            half_torn m0 own round.number c.me public private is w fresh its q,
            (
              record_torn m0 own round.number c.me public private is w fresh its q,
              (done, own_ack round public (d.with_dealing_of round.number c.me public private st) _ (record { whole = done.whole; gives = done.gives })),
            ),
          )

      itself_end : (private : ℕ) (st : Live Dir) (found : Option (List ℕ × ℕ)) (w : World) → recorded_at st.records.dealings round.number c.me ≡ found → AreAgreed st.records w.held → G w
          → AtEnd G (d.deals_to_itself_in c round public private st found) w
      itself_end private st (Some pair) w found a t =
          end_if G w (bytes_eq pair.0 public) (d.own_ack c round public st) (Stops (LocalState (OwnDealing round.number pair.0 public))) (λ e. own_end round public st w t) (λ e. tt)
      itself_end private st None w none a t =
          let fresh = fresh_at st w a none in
          let entry : SectionEntry = (round.number, event_spelling (events.Dealing c.me public)) in
          let line : Entry = Recorded round.number c.me public private in
          let behind : World = says (does (does w (Changes (PutDealing round.number c.me private))) (OnDisk (Appends entry))) line in
          let both = record_one round.number c.me private public is (recovered_in w.held) fresh w.held.secrets (notes w.held) a.whole refl in
          own_end round public (d.with_dealing_of round.number c.me public private st) behind (
            t.0 ++ line ∷ [],
            ap (λ (ls : List Entry). ls ++ line ∷ []) t.1 ∙ append_assoc base t.0 (line ∷ []),
            λ key pair got. elim (inserted (recovered_in w.held) (round.number, c.me) (public, private) key pair (sym (ap (λ (m : Pairs). get m key) both.1) ∙ got)) [
              | inl new ↦ inr (record {
                front = t.0;
                back = [];
                out = ap (λ (ls : List Entry). ls ++ line ∷ []) t.1 ∙ append_assoc base t.0 (line ∷ []) ∙ ap (λ (l : Entry). base ++ (t.0 ++ l ∷ [])) (line_is key pair new.0 new.1);
              })
              | inr was ↦ elim (t.2 key pair was) [
                | inl old ↦ inl old
                | inr told ↦ inr (told_more base (record behind { out = w.out }) line key pair (record { front = told.front; back = told.back; out = told.out }))
              ]
            ],
          )
        where
          line_is : (key : ℕ × ℕ) (pair : List ℕ × ℕ) → key ≡ (round.number, c.me) → (public, private) ≡ pair → Recorded round.number c.me public private ≡ Recorded key.0 key.1 pair.0 pair.1
          line_is key pair is same = ap (λ (k : ℕ × ℕ). Recorded k.0 k.1 public private) (sym is) ∙ ap (λ (v : List ℕ × ℕ). Recorded key.0 key.1 v.0 v.1) same

      to_itself : (private : ℕ) (st : Live Dir) (seat : Seat) (w : World) → own (round.number, c.me) (public, private) → AreAgreed st.records w.held → P w → Throughout P (d.offers_to_itself_in c round public private st seat) w
      to_itself private st Plays w its a q = to_itself_in private st (recorded_at st.records.dealings round.number c.me) w its refl a q
      to_itself private st Watches w its a q = q

      itself_ends : (private : ℕ) (st : Live Dir) (seat : Seat) (w : World) → AreAgreed st.records w.held → G w → AtEnd G (d.offers_to_itself_in c round public private st seat) w
      itself_ends private st Plays w a t = itself_end private st (recorded_at st.records.dealings round.number c.me) w refl a t
      itself_ends private st Watches w a t = t

      abbrev Fine : ℕ × ℕ → Type 0
      Fine p = p.0 ≡ c.me → own (round.number, c.me) (public, p.1)

      offers : (ps : List (ℕ × ℕ)) (st : Live Dir) (w : World) → AllByRecursion Fine ps → AreAgreed st.records w.held → P w → Throughout P (d.offers c round public ps st) w
      offers [] st w fine a q = q
      offers (p ∷ ps) st w fine a q =
          let mine = d.offers_to_itself c round public p.1 st in
          along_if P w (p.0 == c.me) (bind mine (λ st. d.offers c round public ps st)) (Say (Offer round.number p.0 public p.1) (d.offers c round public ps st))
          (λ e.
          let goes = to_itself p.1 st st.participation.seat w (fine.0 (same_number p.0 c.me e)) a q in
          along_next P mine (λ st. d.offers c round public ps st) w goes
          (λ end mid done. offers ps end mid fine.1 (ag.lands_at mine w mid end (ag.to_itself c fits_own round public p.1 st st.participation.seat w.held is a) done) (along_end P mine w mid end goes done)))
          (λ e. (q, offers ps st (says w (Offer round.number p.0 public p.1)) fine.1 a (record { whole = q.whole; gives = q.gives })))

      offers_end : (ps : List (ℕ × ℕ)) (st : Live Dir) (w : World) → AreAgreed st.records w.held → G w → AtEnd G (d.offers c round public ps st) w
      offers_end [] st w a t = t
      offers_end (p ∷ ps) st w a t =
          let mine = d.offers_to_itself c round public p.1 st in
          end_if G w (p.0 == c.me) (bind mine (λ st. d.offers c round public ps st)) (Say (Offer round.number p.0 public p.1) (d.offers c round public ps st))
          (λ e. end_next G mine (λ st. d.offers c round public ps st) w (itself_ends p.1 st st.participation.seat w a t)
          (λ end mid done t. offers_end ps end mid (ag.lands_at mine w mid end (ag.to_itself c fits_own round public p.1 st st.participation.seat w.held is a) done) t))
          (λ e. offers_end ps st (says w (Offer round.number p.0 public p.1)) a (tells_line m0 base w (Offer round.number p.0 public p.1) t))

-- what a life deals to itself is among what it offers
pub fine_of : {Dir : Type 0} (c : Fixed Dir) (st : Live Dir) (round : Round) (dealer : Dealer) → st.participation.round ≡ Some round → st.participation.dealer ≡ Some dealer → (ps : List (ℕ × ℕ))
    → AllByRecursion (IsUnsent dealer.acks dealer.privates round.players) ps → AllByRecursion (λ (p : ℕ × ℕ). p.0 ≡ c.me → IsOwnDealt c st (round.number, c.me) (dealer.public, p.1)) ps
fine_of c st round dealer of_epoch of_dealer [] all = tt
fine_of c st round dealer of_epoch of_dealer (p ∷ ps) all = (
  λ is. record {
    round = round;
    of_epoch = of_epoch;
    dealer = dealer;
    of_dealer = of_dealer;
    at = refl;
    public = refl;
    private = subst (λ (k : ℕ). lookup k dealer.privates ≡ Some p.1) is all.0.has;
    plays = subst (λ (k : ℕ). IsAmong k round.players) is all.0.plays;
  },
  fine_of c st round dealer of_epoch of_dealer ps all.1,
)

module _ {Dir : Type 0} (c : Fixed Dir) (st : Live Dir) (w : World) (fits_own : (round : Round) (public : List ℕ) → IsEvent (events.Ack c.me (c.rules.ack_of c.me round c.me public)))
    (fits : (dealer : Dealer) → st.participation.dealer ≡ Some dealer → IsEvent (events.Dealing c.me dealer.public)) (a : AreAgreed st.records w.held) (m0 : Pairs) where
  pub deals : IsNoOther m0 (IsOwnDealt c st) w → Throughout (IsNoOther m0 (IsOwnDealt c st)) (d.deals c st) w
  deals q =
      along_option (IsNoOther m0 (IsOwnDealt c st)) w st.participation.round (λ round. option_map_or (λ dealer. d.offers c round dealer.public (s.unsent_of_round round dealer) st) st.participation.dealer (Goes st)) (Goes st)
      (λ round of_epoch. along_option (IsNoOther m0 (IsOwnDealt c st)) w st.participation.dealer (λ dealer. d.offers c round dealer.public (s.unsent_of_round round dealer) st) (Goes st)
      (λ dealer of_dealer. offers c m0 (IsOwnDealt c st) w.out fits_own round dealer.public (fits dealer of_dealer) (s.unsent_of_round round dealer) st w
      (fine_of c st round dealer of_epoch of_dealer (s.unsent_of_round round dealer) (are_unsent dealer.acks dealer.privates round.players)) a q) (λ e. q)) (λ e. q)

  pub deals_end : (base : List Entry) → TellsAll m0 base w → AtEnd (TellsAll m0 base) (d.deals c st) w
  deals_end base t =
      end_option (TellsAll m0 base) w st.participation.round (λ round. option_map_or (λ dealer. d.offers c round dealer.public (s.unsent_of_round round dealer) st) st.participation.dealer (Goes st)) (Goes st)
      (λ round of_epoch. end_option (TellsAll m0 base) w st.participation.dealer (λ dealer. d.offers c round dealer.public (s.unsent_of_round round dealer) st) (Goes st)
      (λ dealer of_dealer. offers_end c m0 (IsOwnDealt c st) base fits_own round dealer.public (fits dealer of_dealer) (s.unsent_of_round round dealer) st w a t) (λ e. t)) (λ e. t)
