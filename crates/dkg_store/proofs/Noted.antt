-- Acknowledgements and logs after a record more, and after a prune.
use Rattle.std.proofs.Common.{◌≡◌, ◌≢◌, ◌⊎◌, inl, inr, ℕ, ◌<◌, ◌≤◌, cond, Bool, true, false, nat_lt, nat_le, List, [], ◌∷◌, fold, Option, Some, None, IsSome, Ok, refl, sym, ◌∙◌, ap, subst, arith}
use Rattle.std.specs.List.{AllByRecursion}
use Rattle.std.specs.FinMap.{get, insert, empty, get-empty, retain_keys, get-retain_keys, same_map}
use Rattle.dkg_values.specs.Codec.{Reading, whole}
use Rattle.dkg_journal.specs.Names.{Files}
use Rattle.dkg_journal.specs.Disk.{ImagesFollow}
use Rattle.dkg_journal.specs.Records.{SectionEntry, entries, placed, from_section}
use Rattle.dkg_journal.specs.Steps.{AddsEntry, MayAdd}
use Rattle.dkg_secrets.specs.Keys.{key_cmp}
use Rattle.dkg_store.specs.Events.{event_spelling, no_limit, IsEvent}
use Rattle.dkg_store.specs.declared.event.Event.{Event}
use Rattle.dkg_store.specs.declared.event.Event.TheVariants.{Dealing}
use Rattle.dkg_store.specs.Noted.{Note, Notes, with_note, noted, noted_ack, noted_log, ack_in_event, log_in_event, ImagesGive, ImagesGiveEither, SameNotes}
use Rattle.dkg_store.proofs.Events.{read_again}
use Rattle.dkg_secrets.proofs.Map.{below_or, keys_total, exact_keys}
use Rattle.dkg_store.proofs.Pairs.{same_key, get_at, get_other, insert_swap}

-- what an event's record says
pub says_ack : (epoch : ℕ) (event : Event) → IsEvent event → noted_ack (epoch, event_spelling event) ≡ ack_in_event epoch (Ok event)
says_ack epoch event is = ap (λ (r : Reading Event). ack_in_event epoch (whole r)) (read_again no_limit event is)

pub says_log : (epoch : ℕ) (event : Event) → IsEvent event → noted_log (epoch, event_spelling event) ≡ log_in_event epoch (Ok event)
says_log epoch event is = ap (λ (r : Reading Event). log_in_event epoch (whole r)) (read_again no_limit event is)

not_none : {A : Type 0} (o : Option A) → IsSome o → o ≡ None → ⊥
not_none o some none = let h : ◌≡◌ {A = Bool} false true = subst IsSome none some in cc

some_at : {A : Type 0} (o : Option A) (x : A) → o ≡ Some x → IsSome o
some_at o x is = subst IsSome (sym is) refl

module _ {V : Type 0} (note_of : SectionEntry → Option (Note V)) where
  abbrev step : Notes V → SectionEntry → Notes V
  step m e = with_note m (note_of e)

  -- the record of another key, or none
  abbrev Apart : ℕ × ℕ → Option (Note V) → Type 0
  Apart k None = Unit {0}
  Apart k (Some note) = note.0 ≢ k

  swap : (m : Notes V) (o : Option (Note V)) (k : ℕ × ℕ) (v : V) → Apart k o → with_note (insert m k v) o ≡ insert (with_note m o) k v
  swap m None k v apart = refl
  swap m (Some note) k v apart = insert_swap m k note.0 v note.1 (λ e. apart (sym e))

  fold_insert : (k : ℕ × ℕ) (v : V) (es : List SectionEntry) (m : Notes V) → AllByRecursion (λ e. Apart k (note_of e)) es → fold step (insert m k v) es ≡ insert (fold step m es) k v
  fold_insert k v [] m apart = refl
  fold_insert k v (e ∷ es) m apart = ap (λ (x : Notes V). fold step x es) (swap m (note_of e) k v apart.0) ∙ fold_insert k v es (step m e) apart.1

  fold_placed : (k : ℕ × ℕ) (v : V) (e : SectionEntry) → note_of e ≡ Some (k, v) → (es : List SectionEntry) (m : Notes V) → AllByRecursion (λ x. Apart k (note_of x)) es → fold step m (placed es e) ≡ insert (fold step m es) k v
  fold_placed k v e says [] m apart = ap (with_note m) says
  fold_placed k v e says (x ∷ xs) m apart = elim (nat_lt e.0 x.0) as (λ b. fold step m (cond b (e ∷ x ∷ xs) (x ∷ placed xs e)) ≡ insert (fold step m (x ∷ xs)) k v) [
    | true ↦ ap (λ (n : Notes V). fold step n (x ∷ xs)) (ap (with_note m) says) ∙ fold_insert k v (x ∷ xs) m apart
    | false ↦ fold_placed k v e says xs (step m x) apart.1
  ]

  stays : (m : Notes V) (o : Option (Note V)) (k : ℕ × ℕ) → IsSome (get m k) → IsSome (get (with_note m o) k)
  stays m None k some = some
  stays m (Some note) k some = elim (same_key k note.0) [
    | inl is ↦ some_at _ note.1 (get_at m note.0 k note.1 is)
    | inr apart ↦ subst IsSome (sym (get_other m note.0 k note.1 apart)) some
  ]

  fold_stays : (k : ℕ × ℕ) (es : List SectionEntry) (m : Notes V) → IsSome (get m k) → IsSome (get (fold step m es) k)
  fold_stays k [] m some = some
  fold_stays k (e ∷ es) m some = fold_stays k es (step m e) (stays m (note_of e) k some)

  apart_one : (k : ℕ × ℕ) (es : List SectionEntry) (m : Notes V) (o : Option (Note V)) → get (fold step (with_note m o) es) k ≡ None → Apart k o
  apart_one k es m None none = tt
  apart_one k es m (Some note) none = λ same. not_none _ (fold_stays k es (insert m note.0 note.1) (some_at _ note.1 (get_at m note.0 k note.1 (sym same)))) none

  -- no record of a key that says nothing
  apart_all : (k : ℕ × ℕ) (es : List SectionEntry) (m : Notes V) → get (fold step m es) k ≡ None → AllByRecursion (λ e. Apart k (note_of e)) es
  apart_all k [] m none = tt
  apart_all k (e ∷ es) m none = (apart_one k es m (note_of e) none, apart_all k es (step m e) none)

  -- one record more
  pub noted_placed : (k : ℕ × ℕ) (v : V) (e : SectionEntry) (es : List SectionEntry) → note_of e ≡ Some (k, v) → get (noted note_of es) k ≡ None → noted note_of (placed es e) ≡ insert (noted note_of es) k v
  noted_placed k v e es says none = fold_placed k v e says es empty (apart_all k es empty none)

  fold_silent : (e : SectionEntry) → note_of e ≡ None → (es : List SectionEntry) (m : Notes V) → fold step m (placed es e) ≡ fold step m es
  fold_silent e says [] m = ap (with_note m) says
  fold_silent e says (x ∷ xs) m = elim (nat_lt e.0 x.0) as (λ b. fold step m (cond b (e ∷ x ∷ xs) (x ∷ placed xs e)) ≡ fold step m (x ∷ xs)) [
    | true ↦ ap (λ (n : Notes V). fold step n (x ∷ xs)) (ap (with_note m) says)
    | false ↦ fold_silent e says xs (step m x)
  ]

  -- .. of another kind
  pub noted_silent : (e : SectionEntry) (es : List SectionEntry) → note_of e ≡ None → noted note_of (placed es e) ≡ noted note_of es
  noted_silent e es says = fold_silent e says es empty

  -- WHAT A CRASH LEAVES

  pub gives_added : (m : Notes V) (k : ℕ × ℕ) (v : V) (e : SectionEntry) (image next : Files → Type 0) → note_of e ≡ Some (k, v) → get m k ≡ None → ImagesFollow (AddsEntry e) image next → ImagesGive (noted note_of) m image → ImagesGive (noted note_of) (insert m k v) next
  gives_added m k v e image next says none follows gives = record {
    each = λ c here. let from = follows.each c here in let was = gives.each from.0 from.1 in
        ap (noted note_of) from.2.added
        ∙ noted_placed k v e (entries from.0) says (ap (λ (n : Notes V). get n k) was ∙ none)
        ∙ ap (λ (n : Notes V). insert n k v) was;
  }

  either_of : (m : Notes V) (k : ℕ × ℕ) (v : V) (e : SectionEntry) (d es : List SectionEntry) → note_of e ≡ Some (k, v) → get m k ≡ None → noted note_of d ≡ m → (es ≡ d) ⊎ (es ≡ placed d e) → (noted note_of es ≡ m) ⊎ (noted note_of es ≡ insert m k v)
  either_of m k v e d es says none was either = elim either [
    | inl is ↦ inl (ap (noted note_of) is ∙ was)
    | inr is ↦ inr (ap (noted note_of) is ∙ noted_placed k v e d says (ap (λ (n : Notes V). get n k) was ∙ none) ∙ ap (λ (n : Notes V). insert n k v) was)
  ]

  pub gives_either : (m : Notes V) (k : ℕ × ℕ) (v : V) (e : SectionEntry) (image next : Files → Type 0) → note_of e ≡ Some (k, v) → get m k ≡ None → ImagesFollow (MayAdd e) image next → ImagesGive (noted note_of) m image → ImagesGiveEither (noted note_of) m (insert m k v) next
  gives_either m k v e image next says none follows gives = record {
    each = λ c here. let from = follows.each c here in either_of m k v e (entries from.0) (entries c) says none (gives.each from.0 from.1) from.2.either;
  }

  silent_of : (m : Notes V) (e : SectionEntry) (d es : List SectionEntry) → note_of e ≡ None → noted note_of d ≡ m → (es ≡ d) ⊎ (es ≡ placed d e) → noted note_of es ≡ m
  silent_of m e d es says was either = elim either [
    | inl is ↦ ap (noted note_of) is ∙ was
    | inr is ↦ ap (noted note_of) is ∙ noted_silent e d says ∙ was
  ]

  -- a record of another kind, whether it is there or not
  pub gives_still : (m : Notes V) (e : SectionEntry) (image next : Files → Type 0) → note_of e ≡ None → ImagesFollow (MayAdd e) image next → ImagesGive (noted note_of) m image → ImagesGive (noted note_of) m next
  gives_still m e image next says follows gives = record {
    each = λ c here. let from = follows.each c here in silent_of m e (entries from.0) (entries c) says (gives.each from.0 from.1) from.2.either;
  }

  -- A PRUNE

  abbrev pub IsUnder : ℕ → Option (Note V) → Type 0
  IsUnder section None = Unit {0}
  IsUnder section (Some note) = note.0.0 ≡ section

  module _ (min : ℕ) (under : (e : SectionEntry) → IsUnder e.0 (note_of e)) where
    same_above : (k : ℕ × ℕ) (m n : Notes V) (o : Option (Note V)) → get m k ≡ get n k → get (with_note m o) k ≡ get (with_note n o) k
    same_above k m n None same = same
    same_above k m n (Some note) same = elim (same_key k note.0) [
      | inl is ↦ get_at m note.0 k note.1 is ∙ sym (get_at n note.0 k note.1 is)
      | inr apart ↦ get_other m note.0 k note.1 apart ∙ same ∙ sym (get_other n note.0 k note.1 apart)
    ]

    -- a record below the minimum says nothing of a key at or above it
    past : (k : ℕ × ℕ) (section : ℕ) (m n : Notes V) (o : Option (Note V)) → section < min → min ≤ k.0 → IsUnder section o → get m k ≡ get n k → get m k ≡ get (with_note n o) k
    past k section m n None below above is same = same
    past k section m n (Some note) below above is same = same ∙ sym (get_other n note.0 k note.1 (λ e. let at : k.0 ≡ note.0.0 = ap (λ (q : ℕ × ℕ). q.0) e in omega (arith, at, is)))

    above_at : (k : ℕ × ℕ) → min ≤ k.0 → (es : List SectionEntry) (m n : Notes V) → get m k ≡ get n k → get (fold step m (from_section min es)) k ≡ get (fold step n es) k
    above_at k above [] m n same = same
    above_at k above (e ∷ es) m n same = elim (below_or min e.0) [
      | inl below ↦ ap (λ (b : Bool). get (fold step m (cond b (e ∷ from_section min es) (from_section min es))) k) below.1
          ∙ above_at k above es m (step n e) (past k e.0 m n (note_of e) below.0 above (under e) same)
      | inr here ↦ ap (λ (b : Bool). get (fold step m (cond b (e ∷ from_section min es) (from_section min es))) k) here.1
          ∙ above_at k above es (step m e) (step n e) (same_above k m n (note_of e) same)
    ]

    still_none : (k : ℕ × ℕ) (section : ℕ) (m : Notes V) (o : Option (Note V)) → min ≤ section → k.0 < min → IsUnder section o → get m k ≡ None → get (with_note m o) k ≡ None
    still_none k section m None at below is none = none
    still_none k section m (Some note) at below is none = get_other m note.0 k note.1 (λ e. let same : k.0 ≡ note.0.0 = ap (λ (q : ℕ × ℕ). q.0) e in omega (arith, same, is)) ∙ none

    below_at : (k : ℕ × ℕ) → k.0 < min → (es : List SectionEntry) (m : Notes V) → get m k ≡ None → get (fold step m (from_section min es)) k ≡ None
    below_at k below [] m none = none
    below_at k below (e ∷ es) m none = elim (below_or min e.0) [
      | inl gone ↦ ap (λ (b : Bool). get (fold step m (cond b (e ∷ from_section min es) (from_section min es))) k) gone.1 ∙ below_at k below es m none
      | inr here ↦ ap (λ (b : Bool). get (fold step m (cond b (e ∷ from_section min es) (from_section min es))) k) here.1
          ∙ below_at k below es (step m e) (still_none k e.0 m (note_of e) here.0 below (under e) none)
    ]

    -- what records at or above a minimum say
    pub noted_from : (es : List SectionEntry) → noted note_of (from_section min es) ≡ retain_keys (noted note_of es) (λ k. nat_le min k.0)
    noted_from es = same_map keys_total exact_keys _ _ (λ k.
        let kept : get (retain_keys (noted note_of es) (λ (x : ℕ × ℕ). nat_le min x.0)) k ≡ cond (nat_le min k.0) (get (noted note_of es) k) None =
        get-retain_keys (noted note_of es) (λ (x : ℕ × ℕ). nat_le min x.0) k (λ x tied. ap (λ (y : ℕ × ℕ). nat_le min y.0) (sym (exact_keys k x tied))) in
        elim (below_or min k.0) [
          | inl below ↦ below_at k below.0 es empty (get-empty key_cmp k) ∙ sym (kept ∙ ap (λ b. cond b (get (noted note_of es) k) None) below.1)
          | inr above ↦ above_at k above.0 es empty empty refl ∙ sym (kept ∙ ap (λ b. cond b (get (noted note_of es) k) None) above.1)
        ])

-- the record of a dealing says nothing of them, whether it is there or not
pub dealing_notes : (section epoch dealer : ℕ) (body public : List ℕ) (image next : Files → Type 0) → section ≡ epoch → body ≡ event_spelling (Dealing dealer public) → IsEvent (Dealing dealer public)
    → ImagesFollow (MayAdd (section, body)) image next → ImagesFollow SameNotes image next
dealing_notes section epoch dealer body public image next at is fits follows = record {
  each = λ c here. let from = follows.each c here in (
    from.0,
    from.1,
    record {
      acks = silent_of noted_ack (noted noted_ack (entries from.0)) (section, body) (entries from.0) (entries c) (ap noted_ack (λ i. (at i, is i)) ∙ says_ack epoch (Dealing dealer public) fits) refl from.2.either;
      logs = silent_of noted_log (noted noted_log (entries from.0)) (section, body) (entries from.0) (entries c) (ap noted_log (λ i. (at i, is i)) ∙ says_log epoch (Dealing dealer public) fits) refl from.2.either;
    },
  );
}
