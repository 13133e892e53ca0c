-- The recovered dealings after a put of a private half, and after its record.
use Rattle.std.proofs.Common.{◌≡◌, ◌≢◌, ◌⊎◌, inl, inr, ℕ, cond, Bool, true, false, nat_lt, List, [], ◌∷◌, fold, Option, Some, None, IsSome, refl, sym, ◌∙◌, ap, subst}
use Rattle.std.specs.List.{AllByRecursion}
use Rattle.std.specs.FinMap.{FinMap, get, insert, empty, same_map}
use Rattle.dkg_journal.specs.Names.{Files}
use Rattle.dkg_journal.specs.Disk.{ImagesFollow}
use Rattle.dkg_journal.specs.Records.{SectionEntry, entries, placed}
use Rattle.dkg_journal.specs.Steps.{AddsEntry, MayAdd}
use Rattle.dkg_values.specs.Codec.{Reading, whole}
use Rattle.dkg_secrets.specs.Keys.{key_cmp}
use Rattle.dkg_store.specs.Events.{event_spelling, no_limit, IsEvent}
use Rattle.dkg_store.specs.declared.event.Event.{Event}
use Rattle.dkg_store.specs.declared.event.Event.TheVariants as events
use Rattle.dkg_secrets.specs.Secrets.{Secrets, after}
use Rattle.dkg_secrets.specs.declared.secrets.SecretOp.TheVariants.{PutDealing}
use Rattle.dkg_store.specs.Pairs.{Pairs, Dealing, dealing_in_event, recorded_dealing, with_half, with_dealing, recovered, HasHalf, IsWhole, HoldsDealings, HoldsEither, PutsFirst}
use Rattle.dkg_secrets.proofs.Map as map
use Rattle.dkg_secrets.proofs.Map.{keys_total, exact_keys}
use Rattle.dkg_store.proofs.Events.{read_again}

pub same_key : (q k : ℕ × ℕ) → (q ≡ k) ⊎ (q ≢ k)
same_key q k = map.same_key keys_total exact_keys q k

pub get_here : {X : Type 0} (m : FinMap key_cmp X) (k : ℕ × ℕ) (v : X) → get (insert m k v) k ≡ Some v
get_here m k v = map.get_here keys_total exact_keys m k v

pub get_at : {X : Type 0} (m : FinMap key_cmp X) (k q : ℕ × ℕ) (v : X) → q ≡ k → get (insert m k v) q ≡ Some v
get_at m k q v same = map.get_at keys_total exact_keys m k q v same

pub get_other : {X : Type 0} (m : FinMap key_cmp X) (k q : ℕ × ℕ) (v : X) → q ≢ k → get (insert m k v) q ≡ get m q
get_other m k q v apart = map.get_other keys_total exact_keys m k q v apart

pub insert_swap : {X : Type 0} (m : FinMap key_cmp X) (k j : ℕ × ℕ) (v w : X) → k ≢ j → insert (insert m k v) j w ≡ insert (insert m j w) k v
insert_swap m k j v w apart = same_map keys_total exact_keys _ _ (λ q. elim (same_key q k) [
  | inl is_k ↦ get_other (insert m k v) j q w (λ e. apart (sym is_k ∙ e)) ∙ get_at m k q v is_k ∙ sym (get_at (insert m j w) k q v is_k)
  | inr not_k ↦ elim (same_key q j) [
    | inl is_j ↦ get_at (insert m k v) j q w is_j ∙ sym (get_other (insert m j w) k q v not_k ∙ get_at m j q w is_j)
    | inr not_j ↦ get_other (insert m k v) j q w not_j ∙ get_other m k q v not_k ∙ sym (get_other (insert m j w) k q v not_k ∙ get_other m j q w not_j)
  ]
])

-- the record of another key, or no record
abbrev pub Apart : ℕ × ℕ → Option Dealing → Type 0
Apart k None = Unit {0}
Apart k (Some d) = d.key ≢ k

abbrev pub step : Secrets → Pairs → SectionEntry → Pairs
step s m e = with_dealing s m (recorded_dealing e)

abbrev pub put : Secrets → ℕ × ℕ → ℕ → Secrets
put s k p = record s { privates = insert s.privates k p }

half_swap : (m : Pairs) (d : Dealing) (h : Option ℕ) (k : ℕ × ℕ) (v : List ℕ × ℕ) → d.key ≢ k → with_half (insert m k v) d h ≡ insert (with_half m d h) k v
half_swap m d None k v apart = refl
half_swap m d (Some p) k v apart = insert_swap m k d.key v (d.public, p) (λ e. apart (sym e))

dealing_swap : (s : Secrets) (m : Pairs) (o : Option Dealing) (k : ℕ × ℕ) (v : List ℕ × ℕ) → Apart k o → with_dealing s (insert m k v) o ≡ insert (with_dealing s m o) k v
dealing_swap s m None k v apart = refl
dealing_swap s m (Some d) k v apart = half_swap m d (get s.privates d.key) k v apart

dealing_same : (s : Secrets) (m : Pairs) (o : Option Dealing) (k : ℕ × ℕ) (p : ℕ) → Apart k o → with_dealing (put s k p) m o ≡ with_dealing s m o
dealing_same s m None k p apart = refl
dealing_same s m (Some d) k p apart = ap (with_half m d) (get_other s.privates k d.key p apart)

pub fold_same : (s : Secrets) (k : ℕ × ℕ) (p : ℕ) (es : List SectionEntry) (m : Pairs) → AllByRecursion (λ e. Apart k (recorded_dealing e)) es → fold (step (put s k p)) m es ≡ fold (step s) m es
fold_same s k p [] m apart = refl
fold_same s k p (e ∷ es) m apart = ap (λ (x : Pairs). fold (step (put s k p)) x es) (dealing_same s m (recorded_dealing e) k p apart.0) ∙ fold_same s k p es (step s m e) apart.1

pub fold_insert : (s : Secrets) (k : ℕ × ℕ) (v : List ℕ × ℕ) (es : List SectionEntry) (m : Pairs) → AllByRecursion (λ e. Apart k (recorded_dealing e)) es → fold (step s) (insert m k v) es ≡ insert (fold (step s) m es) k v
fold_insert s k v [] m apart = refl
fold_insert s k v (e ∷ es) m apart = ap (λ (x : Pairs). fold (step s) x es) (dealing_swap s m (recorded_dealing e) k v apart.0) ∙ fold_insert s k v es (step s m e) apart.1

pub fold_placed : (s : Secrets) (k : ℕ × ℕ) (v : List ℕ × ℕ) (e : SectionEntry) → ((m : Pairs) → step s m e ≡ insert m k v) → (es : List SectionEntry) (m : Pairs) → AllByRecursion (λ x. Apart k (recorded_dealing x)) es → fold (step s) m (placed es e) ≡ insert (fold (step s) m es) k v
fold_placed s k v e puts [] m apart = puts m
fold_placed s k v e puts (x ∷ xs) m apart = elim (nat_lt e.0 x.0) as (λ b. fold (step s) m (cond b (e ∷ x ∷ xs) (x ∷ placed xs e)) ≡ insert (fold (step s) m (x ∷ xs)) k v) [
  | true ↦ ap (λ (y : Pairs). fold (step s) y (x ∷ xs)) (puts m) ∙ fold_insert s k v (x ∷ xs) m apart
  | false ↦ fold_placed s k v e puts xs (step s m x) apart.1
]

pub whole_placed : (s : Secrets) (e : SectionEntry) → HasHalf s (recorded_dealing e) → (es : List SectionEntry) → IsWhole es s → IsWhole (placed es e) s
whole_placed s e has [] whole = (has, tt)
whole_placed s e has (x ∷ xs) whole = elim (nat_lt e.0 x.0) as (λ b. IsWhole (cond b (e ∷ x ∷ xs) (x ∷ placed xs e)) s) [
  | true ↦ (has, whole)
  | false ↦ (whole.0, whole_placed s e has xs whole.1)
]

is_some_at : {A : Type 0} (o : Option A) (x : A) → o ≡ Some x → IsSome o
is_some_at o x is = subst IsSome (sym is) refl

not_none : {A : Type 0} (o : Option A) → IsSome o → o ≡ None → ⊥
not_none o some none = let h : ◌≡◌ {A = Bool} false true = subst IsSome none some in cc

half_put : (s : Secrets) (k : ℕ × ℕ) (p : ℕ) (o : Option Dealing) → HasHalf s o → HasHalf (put s k p) o
half_put s k p None has = tt
half_put s k p (Some d) has = elim (same_key d.key k) [
  | inl is ↦ is_some_at _ p (get_at s.privates k d.key p is)
  | inr apart ↦ subst IsSome (sym (get_other s.privates k d.key p apart)) has
]

pub whole_put : (s : Secrets) (k : ℕ × ℕ) (p : ℕ) (es : List SectionEntry) → IsWhole es s → IsWhole es (put s k p)
whole_put s k p [] whole = tt
whole_put s k p (e ∷ es) whole = (half_put s k p (recorded_dealing e) whole.0, whole_put s k p es whole.1)

-- what is recovered stays recovered
stays_half : (m : Pairs) (d : Dealing) (h : Option ℕ) (k : ℕ × ℕ) → IsSome (get m k) → IsSome (get (with_half m d h) k)
stays_half m d None k some = some
stays_half m d (Some p) k some = elim (same_key k d.key) [
  | inl is ↦ is_some_at _ (d.public, p) (get_at m d.key k (d.public, p) is)
  | inr apart ↦ subst IsSome (sym (get_other m d.key k (d.public, p) apart)) some
]

stays : (s : Secrets) (m : Pairs) (o : Option Dealing) (k : ℕ × ℕ) → IsSome (get m k) → IsSome (get (with_dealing s m o) k)
stays s m None k some = some
stays s m (Some d) k some = stays_half m d (get s.privates d.key) k some

pub fold_stays : (s : Secrets) (k : ℕ × ℕ) (es : List SectionEntry) (m : Pairs) → IsSome (get m k) → IsSome (get (fold (step s) m es) k)
fold_stays s k [] m some = some
fold_stays s k (e ∷ es) m some = fold_stays s k es (step s m e) (stays s m (recorded_dealing e) k some)

none_or : {A : Type 0} (o : Option A) → (o ≡ None) ⊎ IsSome o
none_or None = inl refl
none_or (Some x) = inr refl

none_before : (s : Secrets) (k : ℕ × ℕ) (es : List SectionEntry) (m : Pairs) → get (fold (step s) m es) k ≡ None → get m k ≡ None
none_before s k es m none = elim (none_or (get m k)) [
  | inl is ↦ is
  | inr some ↦ absurd (not_none _ (fold_stays s k es m some) none)
]

pub half_there : (m : Pairs) (d : Dealing) (h : Option ℕ) → IsSome h → IsSome (get (with_half m d h) d.key)
half_there m d None some = absurd (not_none {A = ℕ} None some refl)
half_there m d (Some p) some = is_some_at _ (d.public, p) (get_here m d.key (d.public, p))

apart_one : (s : Secrets) (m : Pairs) (k : ℕ × ℕ) (o : Option Dealing) → HasHalf s o → get (with_dealing s m o) k ≡ None → Apart k o
apart_one s m k None has none = tt
apart_one s m k (Some d) has none = λ same. not_none _ (half_there m d (get s.privates d.key) has) (ap (get (with_half m d (get s.privates d.key))) same ∙ none)

-- no record of a key that is not recovered
pub apart_all : (s : Secrets) (k : ℕ × ℕ) (es : List SectionEntry) (m : Pairs) → IsWhole es s → get (fold (step s) m es) k ≡ None → AllByRecursion (λ e. Apart k (recorded_dealing e)) es
apart_all s k [] m whole none = tt
apart_all s k (e ∷ es) m whole none = (apart_one s m k (recorded_dealing e) whole.0 (none_before s k es (step s m e) none), apart_all s k es (step s m e) whole.1 none)

-- the record of a dealing is read as such
pub dealing_of_event : (epoch dealer : ℕ) (public : List ℕ) → IsEvent (events.Dealing dealer public) → recorded_dealing (epoch, event_spelling (events.Dealing dealer public)) ≡ Some (record { key = (epoch, dealer); public = public })
dealing_of_event epoch dealer public is =
    ap (λ (r : Reading Event). dealing_in_event epoch (whole r)) (read_again no_limit (events.Dealing dealer public) is)

module _ (epoch dealer private : ℕ) (public : List ℕ) (is_event : IsEvent (events.Dealing dealer public)) (pairs : Pairs) (new : get pairs (epoch, dealer) ≡ None) (held : Secrets) where
  private_put : Secrets
  private_put = put held (epoch, dealer) private

  -- the private half alone changes nothing that is recovered
  pub put_one : (es : List SectionEntry) → IsWhole es held → recovered es held ≡ pairs → IsWhole es (put held (epoch, dealer) private) × (recovered es (put held (epoch, dealer) private) ≡ pairs)
  put_one es whole gives =
      let apart = apart_all held (epoch, dealer) es empty whole (ap (λ (m : Pairs). get m (epoch, dealer)) gives ∙ new) in
      (whole_put held (epoch, dealer) private es whole, fold_same held (epoch, dealer) private es empty apart ∙ gives)

  pub record_one : (es : List SectionEntry) → IsWhole es held → recovered es held ≡ pairs →
      IsWhole (placed es (epoch, event_spelling (events.Dealing dealer public))) (put held (epoch, dealer) private)
      × (recovered (placed es (epoch, event_spelling (events.Dealing dealer public))) (put held (epoch, dealer) private) ≡ insert pairs (epoch, dealer) (public, private))
  record_one es whole gives =
      let now : Secrets = put held (epoch, dealer) private in
      let is : recorded_dealing (epoch, event_spelling (events.Dealing dealer public)) ≡ Some (record { key = (epoch, dealer); public = public }) = dealing_of_event epoch dealer public is_event in
      let there : get now.privates (epoch, dealer) ≡ Some private = get_here held.privates (epoch, dealer) private in
      let apart = apart_all held (epoch, dealer) es empty whole (ap (λ (m : Pairs). get m (epoch, dealer)) gives ∙ new) in
      let puts : (m : Pairs) → step now m (epoch, event_spelling (events.Dealing dealer public)) ≡ insert m (epoch, dealer) (public, private) =
      λ m. ap (with_dealing now m) is ∙ ap (with_half m (record { key = (epoch, dealer); public = public })) there in (
        whole_placed now (epoch, event_spelling (events.Dealing dealer public)) (subst (HasHalf now) (sym is) (is_some_at _ private there)) es (whole_put held (epoch, dealer) private es whole),
        fold_placed now (epoch, dealer) (public, private) (epoch, event_spelling (events.Dealing dealer public)) puts es empty apart
            ∙ ap (λ (m : Pairs). insert m (epoch, dealer) (public, private)) (fold_same held (epoch, dealer) private es empty apart ∙ gives),
      )

  pub put_holds : (image next : Files → Type 0) (now : Secrets) → HoldsDealings pairs image held → (now ≡ held) ⊎ (now ≡ put held (epoch, dealer) private) → ((c : Files) → next c → image c) → HoldsDealings pairs next now
  put_holds image next now holds either from = elim either [
    | inl is ↦ subst (HoldsDealings pairs next) (sym is) (record { whole = λ c n. holds.whole c (from c n); gives = λ c n. holds.gives c (from c n) })
    | inr is ↦ subst (HoldsDealings pairs next) (sym is) (record {
      whole = λ c n. (put_one (entries c) (holds.whole c (from c n)) (holds.gives c (from c n))).0;
      gives = λ c n. (put_one (entries c) (holds.whole c (from c n)) (holds.gives c (from c n))).1;
    })
  ]

  pub adds_holds : (image next : Files → Type 0) → HoldsDealings pairs image held → ImagesFollow (AddsEntry (epoch, event_spelling (events.Dealing dealer public))) image next → HoldsDealings (insert pairs (epoch, dealer) (public, private)) next (put held (epoch, dealer) private)
  adds_holds image next holds follows = record {
    whole = λ c n. let from = follows.each c n in
        subst (λ (es : List SectionEntry). IsWhole es (put held (epoch, dealer) private)) (sym from.2.added) (record_one (entries from.0) (holds.whole from.0 from.1) (holds.gives from.0 from.1)).0;
    gives = λ c n. let from = follows.each c n in
        ap (λ (es : List SectionEntry). recovered es (put held (epoch, dealer) private)) from.2.added ∙ (record_one (entries from.0) (holds.whole from.0 from.1) (holds.gives from.0 from.1)).1;
  }

  -- with the record or without
  either_one : (d es : List SectionEntry) → IsWhole d held → recovered d held ≡ pairs → (es ≡ d) ⊎ (es ≡ placed d (epoch, event_spelling (events.Dealing dealer public))) →
      IsWhole es (put held (epoch, dealer) private) × ((recovered es (put held (epoch, dealer) private) ≡ pairs) ⊎ (recovered es (put held (epoch, dealer) private) ≡ insert pairs (epoch, dealer) (public, private)))
  either_one d es whole gives either = elim either [
    | inl is ↦ (
      subst (λ (l : List SectionEntry). IsWhole l (put held (epoch, dealer) private)) (sym is) (put_one d whole gives).0,
      inl (ap (λ (l : List SectionEntry). recovered l (put held (epoch, dealer) private)) is ∙ (put_one d whole gives).1),
    )
    | inr is ↦ (
      subst (λ (l : List SectionEntry). IsWhole l (put held (epoch, dealer) private)) (sym is) (record_one d whole gives).0,
      inr (ap (λ (l : List SectionEntry). recovered l (put held (epoch, dealer) private)) is ∙ (record_one d whole gives).1),
    )
  ]

  pub may_add_holds : (image next : Files → Type 0) → HoldsDealings pairs image held → ImagesFollow (MayAdd (epoch, event_spelling (events.Dealing dealer public))) image next → HoldsEither pairs (insert pairs (epoch, dealer) (public, private)) next (put held (epoch, dealer) private)
  may_add_holds image next holds follows = record {
    whole = λ c n. let from = follows.each c n in (either_one (entries from.0) (entries c) (holds.whole from.0 from.1) (holds.gives from.0 from.1) from.2.either).0;
    gives = λ c n. let from = follows.each c n in (either_one (entries from.0) (entries c) (holds.whole from.0 from.1) (holds.gives from.0 from.1) from.2.either).1;
  }

pub holds_either : (pairs more : Pairs) (image : Files → Type 0) (held : Secrets) → HoldsDealings pairs image held → HoldsEither pairs more image held
holds_either pairs more image held holds = record { whole = holds.whole; gives = λ c n. inl (holds.gives c n) }

-- the calls of a new dealing, wherever they stopped
pub puts_hold : (epoch dealer private : ℕ) (public : List ℕ) → IsEvent (events.Dealing dealer public) → (pairs : Pairs) → get pairs (epoch, dealer) ≡ None → (held now : Secrets) (image next : Files → Type 0) → HoldsDealings pairs image held
    → PutsFirst (PutDealing epoch dealer private) (epoch, event_spelling (events.Dealing dealer public)) image next held now → HoldsEither pairs (insert pairs (epoch, dealer) (public, private)) next now
puts_hold epoch dealer private public is_event pairs new held now image next holds steps = elim steps.so [
  | inl tried ↦ holds_either pairs _ next now (put_holds epoch dealer private public is_event pairs new held image next now holds tried.0.so tried.1)
  | inr done ↦ subst (HoldsEither pairs (insert pairs (epoch, dealer) (public, private)) next) (sym done.0) (may_add_holds epoch dealer private public is_event pairs new held image next holds done.1)
]

-- .. and where they returned
pub done_holds : (epoch dealer private : ℕ) (public : List ℕ) → IsEvent (events.Dealing dealer public) → (pairs : Pairs) → get pairs (epoch, dealer) ≡ None → (held now : Secrets) (image next : Files → Type 0) → HoldsDealings pairs image held
    → now ≡ after (PutDealing epoch dealer private) held → ImagesFollow (AddsEntry (epoch, event_spelling (events.Dealing dealer public))) image next → HoldsDealings (insert pairs (epoch, dealer) (public, private)) next now
done_holds epoch dealer private public is_event pairs new held now image next holds done adds =
    subst (HoldsDealings (insert pairs (epoch, dealer) (public, private)) next) (sym done) (adds_holds epoch dealer private public is_event pairs new held image next holds adds)
