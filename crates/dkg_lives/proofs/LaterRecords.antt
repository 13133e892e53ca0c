-- What is given back behind a record and behind a prune, where the sections of the journal rise; of devices that need not be whole: a dealing that is recorded replaces what was given back
-- of its key.
use Rattle.std.proofs.Common.{◌≡◌, ◌≢◌, inl, inr, ◌≤◌, ◌<◌, ℕ, cond, nat_le, nat_lt, Bool, true, false, List, [], ◌∷◌, fold, Option, Some, None, refl, sym, ◌∙◌, ap, arith}
use Rattle.std.specs.Prelude.{◌^◌, ◌==◌, ◌&&◌, Result, Ok, Err, length}
use Rattle.std.specs.FinMap as maps
use Rattle.std.specs.FinMap.{entries_sorted, entries-from_sorted, empty, from_sorted, get, get-entries, get-from_sorted, get-retain_keys, insert, retain_keys, same_map}
use Rattle.std.specs.FinMap.Entries.{find-where_key, is_sorted-where_key, where_key}
use Rattle.std.specs.declared.cmp.Ordering.TheVariants.{Equal}
use Rattle.std.proofs.lemmas.Bool.Decides.{nat_tests}
use Rattle.dkg_values.specs.declared.codec.CodecError.{CodecError}
use Rattle.dkg_values.specs.declared.name.Name.TheVariants.{Flat}
use Rattle.dkg_journal.specs.Names.{Files}
use Rattle.dkg_journal.specs.Records.{SectionEntry, bodies, entries, entries_with, from_section, placed}
use Rattle.dkg_journal.proofs.Order.{Above}
use Rattle.dkg_journal.proofs.Parted.{flat_above}
use Rattle.dkg_journal.proofs.Sections.{low_all, rows_above}
use Rattle.dkg_secrets.specs.Keys.{key_cmp}
use Rattle.dkg_secrets.specs.Secrets.{Secrets}
use Rattle.dkg_secrets.proofs.Map.{exact_keys, keys_total}
use Rattle.dkg_store.specs.Events.{IsEvent, event_at, event_spelling, no_limit}
use Rattle.dkg_store.specs.declared.event.Event.{Event}
use Rattle.dkg_store.specs.declared.event.Event.TheVariants as events
use Rattle.dkg_store.specs.Pairs.{Dealing, Pairs, dealing_in_event, recorded_dealing, recovered, with_dealing, with_half}
use Rattle.dkg_store.specs.Recorded.{Pair, of_epoch}
use Rattle.dkg_store.proofs.Halves.{recovered_at}
use Rattle.dkg_store.proofs.Pairs.{dealing_of_event, get_at, get_here, get_other, put, same_key, step}
use Rattle.dkg_store.proofs.Pruned.{recovered_from}
use Rattle.dkg_values.specs.Codec.{whole}

-- SECTIONS that rise

lower : (n m : ℕ) (es : List SectionEntry) → n ≤ m → Above m es → Above n es
lower n m [] low above = tt
lower n m (e ∷ es) low above = (omega (arith, low, above.0), above.1)

pub above_from : (min n : ℕ) (es : List SectionEntry) → Above n es → Above n (from_section min es)
above_from min n [] above = tt
above_from min n (e ∷ es) above = elim (nat_le min e.0) as (λ (b : Bool). Above n (cond b (e ∷ from_section min es) (from_section min es))) [
  | true ↦ (above.0, above_from min e.0 es above.1)
  | false ↦ lower n e.0 (from_section min es) above.0 (above_from min e.0 es above.1)
]

pub entries_above : (f : Files) → Above 0 (entries f)
entries_above f = by_flat (get f Flat)
  where
    by_flat : (o : Option (List ℕ)) → Above 0 (entries_with o f)
    by_flat None = rows_above 0 (maps.entries f) (entries_sorted f) (low_all (maps.entries f))
    by_flat (Some file) = flat_above (bodies 8 (length file) file)

-- A RECORD

none_some : {A : Type 0} {x : A} → ◌≡◌ {A = Option A} None (Some x) → ⊥
none_some e = cc

some_is : {A : Type 0} {x y : A} → ◌≡◌ {A = Option A} (Some x) (Some y) → x ≡ y
some_is e = cc

-- its section is its epoch
section_of : (epoch : ℕ) (r : Result Event CodecError) (d : Dealing) → dealing_in_event epoch r ≡ Some d → d.key.0 ≡ epoch
section_of epoch (Ok (events.Dealing dealer public)) d is = ap (λ (x : Dealing). x.key.0) (sym (some_is is))
section_of epoch (Ok (events.Ack player ack)) d is = absurd (none_some is)
section_of epoch (Ok (events.Log dealer log)) d is = absurd (none_some is)
section_of epoch (Ok (events.LogAt dealer height log)) d is = absurd (none_some is)
section_of epoch (Err e) d is = absurd (none_some is)

module _ (s : Secrets) where
  -- what one more record gives of a key, by what was given of it
  half_at : (d : Dealing) (h : Option ℕ) (k : ℕ × ℕ) (m n : Pairs) → get m k ≡ get n k → get (with_half m d h) k ≡ get (with_half n d h) k
  half_at d None k m n same = same
  half_at d (Some p) k m n same = elim (same_key k d.key) [
    | inl is ↦ get_at m d.key k (d.public, p) is ∙ sym (get_at n d.key k (d.public, p) is)
    | inr apart ↦ get_other m d.key k (d.public, p) apart ∙ same ∙ sym (get_other n d.key k (d.public, p) apart)
  ]

  one_at : (o : Option Dealing) (k : ℕ × ℕ) (m n : Pairs) → get m k ≡ get n k → get (with_dealing s m o) k ≡ get (with_dealing s n o) k
  one_at None k m n same = same
  one_at (Some d) k m n same = half_at d (get s.privates d.key) k m n same

  all_at : (es : List SectionEntry) (k : ℕ × ℕ) (m n : Pairs) → get m k ≡ get n k → get (fold (step s) m es) k ≡ get (fold (step s) n es) k
  all_at [] k m n same = same
  all_at (e ∷ es) k m n same = all_at es k (step s m e) (step s n e) (one_at (recorded_dealing e) k m n same)

  -- .. one of another key gives none of it
  half_else : (d : Dealing) (h : Option ℕ) (k : ℕ × ℕ) (m : Pairs) → k ≢ d.key → get (with_half m d h) k ≡ get m k
  half_else d None k m apart = refl
  half_else d (Some p) k m apart = get_other m d.key k (d.public, p) apart

  else_at : (k : ℕ × ℕ) (m : Pairs) (o : Option Dealing) → ((d : Dealing) → o ≡ Some d → k ≢ d.key) → get (with_dealing s m o) k ≡ get m k
  else_at k m None apart = refl
  else_at k m (Some d) apart = half_else d (get s.privates d.key) k m (apart d refl)

  module _ (e : SectionEntry) where
    placed_else : (k : ℕ × ℕ) → ((d : Dealing) → recorded_dealing e ≡ Some d → k ≢ d.key) → (es : List SectionEntry) (m : Pairs) → get (fold (step s) m (placed es e)) k ≡ get (fold (step s) m es) k
    placed_else k apart [] m = else_at k m (recorded_dealing e) apart
    placed_else k apart (x ∷ xs) m = elim (nat_lt e.0 x.0) as (λ (b : Bool). get (fold (step s) m (cond b (e ∷ x ∷ xs) (x ∷ placed xs e))) k ≡ get (fold (step s) m (x ∷ xs)) k) [
      | true ↦ all_at (x ∷ xs) k (step s m e) m (else_at k m (recorded_dealing e) apart)
      | false ↦ placed_else k apart xs (step s m x)
    ]

    -- .. and so does one of a later section
    later : (k : ℕ × ℕ) (n : ℕ) (es : List SectionEntry) (m : Pairs) → Above n es → k.0 < n → get (fold (step s) m es) k ≡ get m k
    later k n [] m above low = refl
    later k n (x ∷ es) m above low = later k x.0 es (step s m x) above.1 (omega (arith, low, above.0)) ∙ else_at k m (recorded_dealing x) (λ d is same. past d is same)
      where
        past : (d : Dealing) → recorded_dealing x ≡ Some d → k ≡ d.key → ⊥
        past d is same = let at : k.0 ≡ x.0 = ap (λ (y : ℕ × ℕ). y.0) same ∙ section_of x.0 (whole (event_at no_limit x.1)) d is in omega (arith, at, low, above.0)

    placed_here : (k : ℕ × ℕ) (v : List ℕ × ℕ) → k.0 ≡ e.0 → ((m : Pairs) → get (step s m e) k ≡ Some v) → (es : List SectionEntry) (n : ℕ) (m : Pairs) → Above n es → get (fold (step s) m (placed es e)) k ≡ Some v
    placed_here k v at puts [] n m above = puts m
    placed_here k v at puts (x ∷ xs) n m above = elim (nat_lt e.0 x.0) as (λ (b : Bool). nat_lt e.0 x.0 ≡ b → get (fold (step s) m (cond b (e ∷ x ∷ xs) (x ∷ placed xs e))) k ≡ Some v) [
      | true ↦ λ t. later k x.0 (x ∷ xs) (step s m e) (itself x.0, above.1) (under k.0 e.0 x.0 at t) ∙ puts m
      | false ↦ λ t. placed_here k v at puts xs x.0 (step s m x) above.1
    ] refl
      where
        itself : (a : ℕ) → a ≤ a
        itself a = omega arith

        under : (a b c : ℕ) → a ≡ b → nat_lt b c ≡ true → a < c
        under a b c same t = grind (arith, nat_tests)

-- A DEALING that is recorded, its private half before

pub recorded_later : (epoch dealer private : ℕ) (public : List ℕ) → IsEvent (events.Dealing dealer public) → (held : Secrets) (es : List SectionEntry) → Above 0 es
    → recovered (placed es (epoch, event_spelling (events.Dealing dealer public))) (put held (epoch, dealer) private) ≡ insert (recovered es held) (epoch, dealer) (public, private)
recorded_later epoch dealer private public is_event held es above = same_map keys_total exact_keys _ _ (λ k. elim (same_key k (epoch, dealer)) [
  | inl is ↦ ap (get (recovered (placed es e) now)) is ∙ placed_here now e (epoch, dealer) (public, private) refl puts es 0 empty above ∙ sym (get_at (recovered es held) (epoch, dealer) k (public, private) is)
  | inr apart ↦ placed_else now e k (λ d is same. apart (same ∙ ap (λ (x : Dealing). x.key) (some_is (sym is ∙ its)))) es empty
      ∙ recovered_at held now k es (get_other held.privates (epoch, dealer) k private apart) ∙ sym (get_other (recovered es held) (epoch, dealer) k (public, private) apart)
])
  where
    e : SectionEntry
    e = (epoch, event_spelling (events.Dealing dealer public))

    now : Secrets
    now = put held (epoch, dealer) private

    d : Dealing
    d = record { key = (epoch, dealer); public = public }

    its : recorded_dealing e ≡ Some d
    its = dealing_of_event epoch dealer public is_event

    puts : (m : Pairs) → get (step now m e) (epoch, dealer) ≡ Some (public, private)
    puts m = ap (λ (o : Option Dealing). get (with_dealing now m o) (epoch, dealer)) its
        ∙ ap (λ (h : Option ℕ). get (with_half m d h) (epoch, dealer)) (get_here held.privates (epoch, dealer) private) ∙ get_here m (epoch, dealer) (public, private)

-- A PRUNE of the journal and then of the secrets

cond_same : {A : Type 0} (t : Bool) (x y : Option A) → (t ≡ true → x ≡ y) → cond t x None ≡ cond t y None
cond_same true x y same = same refl
cond_same false x y same = refl

pub pruned_later : (min : ℕ) (s t : Secrets) → ((k : ℕ × ℕ) → min ≤ k.0 → get t.privates k ≡ get s.privates k) → (es : List SectionEntry) → recovered (from_section min es) t ≡ retain_keys (recovered es s) (λ k. nat_le min k.0)
pruned_later min s t halves es =
    recovered_from min es t
    ∙ same_map keys_total exact_keys (retain_keys (recovered es t) kept) (retain_keys (recovered es s) kept) (λ k.
    get-retain_keys (recovered es t) kept k (alike k)
    ∙ cond_same (kept k) (get (recovered es t) k) (get (recovered es s) k) (λ e. recovered_at s t k es (halves k (at_least min k.0 e)))
    ∙ sym (get-retain_keys (recovered es s) kept k (alike k)))
  where
    kept : ℕ × ℕ → Bool
    kept k = nat_le min k.0

    alike : (k x : ℕ × ℕ) → key_cmp k x ≡ Equal → kept x ≡ kept k
    alike k x tied = ap kept (sym (exact_keys k x tied))

    at_least : (a b : ℕ) → nat_le a b ≡ true → a ≤ b
    at_least a b e = grind (arith, nat_tests)

-- THE DEALINGS OF AN EPOCH, by what is given of its keys

module _ (epoch : ℕ) where
  abbrev here : ℕ × ℕ → Bool
  here k = (k.0 == epoch) && nat_lt k.1 (2 ^ 32)

  alike : (k x : ℕ × ℕ) → key_cmp k x ≡ Equal → here x ≡ here k
  alike k x tied = ap here (sym (exact_keys k x tied))

  of_here : (m : Pairs) → maps.entries (retain_keys m here) ≡ of_epoch epoch m
  of_here m =
      let es : List Pair = where_key key_cmp here (maps.entries m) in
      let sorted = is_sorted-where_key key_cmp here (maps.entries m) (entries_sorted m) in
      let same : retain_keys m here ≡ from_sorted {R = key_cmp} es =
      same_map keys_total exact_keys _ _ (λ k.
      get-retain_keys m here k (alike k)
      ∙ ap (λ (found : Option (List ℕ × ℕ)). cond (here k) found None) (get-entries m k)
      ∙ sym (find-where_key key_cmp here k (alike k) (maps.entries m))
      ∙ sym (get-from_sorted key_cmp es k sorted)) in
      ap (maps.entries {K = ℕ × ℕ} {X = List ℕ × ℕ} {R = key_cmp}) same ∙ entries-from_sorted key_cmp es sorted

  pub of_epoch_same : (now pairs : Pairs) → ((k : ℕ × ℕ) → k.0 ≡ epoch → get now k ≡ get pairs k) → of_epoch epoch now ≡ of_epoch epoch pairs
  of_epoch_same now pairs same = sym (of_here now) ∙ ap maps.entries kept ∙ of_here pairs
    where
      first_of : (a b : Bool) → (a && b) ≡ true → a ≡ true
      first_of true b e = refl
      first_of false b e = absurd (let wrong : ◌≡◌ {A = Bool} false true = e in cc)

      equal : (a b : ℕ) → (a == b) ≡ true → a ≡ b
      equal a b e = grind (arith, nat_tests)

      kept : retain_keys now here ≡ retain_keys pairs here
      kept = same_map keys_total exact_keys (retain_keys now here) (retain_keys pairs here) (λ k.
          get-retain_keys now here k (alike k)
          ∙ cond_same (here k) (get now k) (get pairs k) (λ e. same k (equal k.0 epoch (first_of (k.0 == epoch) (nat_lt k.1 (2 ^ 32)) e)))
          ∙ sym (get-retain_keys pairs here k (alike k)))
