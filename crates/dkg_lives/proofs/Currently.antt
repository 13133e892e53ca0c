-- What the devices hold of the recorded dealings over many epochs: each one that is still current, and none that isn't recorded. Which epoch has begun, between two lives and within one.
use Rattle.std.proofs.Common.{ℕ, zero, suc, ◌+◌, ◌<◌, ◌≤◌, arith, List, [], ◌∷◌, ◌++◌, ◌≡◌, refl, sym, ap, subst, ◌∙◌, ◌⊎◌, inl, inr, Option, Some, None, Bool, true, false, cond, length}
use Rattle.std.specs.Prelude.{fold, max, option_map, MatchOption, IsSomeAnd}
use Rattle.std.specs.FinMap.{get}
use Rattle.std.specs.List.{AllByRecursion}
use Rattle.std.specs.Option.{option_map_or, option_or}
use Rattle.dkg_store.specs.Acts.{Held, notes}
use Rattle.dkg_store.specs.Pairs.{Pairs, IsWhole}
use Rattle.dkg_store.specs.Recorded.{restored_list}
use Rattle.dkg_infos.specs.declared.entry.Entry.{Entry}
use Rattle.dkg_infos.specs.declared.entry.Entry.TheVariants as entry
use Rattle.dkg_infos.specs.declared.entry.Restored.{Restored}
use Rattle.dkg_text.specs.declared.script.Life.{Life}
use Rattle.dkg_script.specs.Kept.{AllCurrent, Gives, IsBroughtAtCut, IsRecordedAs, IsSound, IsSoundOpening, IsLaterOpening}
use Rattle.dkg_script.specs.Position.{awaited_before, awaited_epoch, begun, begun_before, cut_of, events_taken, last_awaited}
use Rattle.dkg_script.specs.Progress.{Progress, read, is_last_step, pair_of, with_life_ended, with_restored, IsBrought}
use Rattle.dkg_script.specs.Setting.{Setting, CutAt, is_oneshot, life_at, recovered_from}
use Rattle.dkg_script.proofs.Listed.{gives_all, pair_of-restored_list}
use Rattle.dkg_script.proofs.Openings.{lists_them}
use Rattle.dkg_core.specs.Heard.{recovered_in}
use Rattle.dkg_lives.proofs.Recorded.{all_with_all, all_with_pair, found_is, with_all_finds, with_pair_finds}

-- ENTRIES

-- an entry of an opening or of a step: it ends neither a step nor a life
abbrev pub IsWithin : Entry → Type 0
IsWithin (entry.Step step) = ⊥
IsWithin (entry.Cut step call) = ⊥
IsWithin _ = Unit {0}

abbrev pub IsKeptEntry : Setting → Progress → Entry → Type 0
IsKeptEntry s p one = IsSound s p one × IsWithin one

-- WHAT IS CURRENT

none_some : {A : Type 0} (x : A) → ◌≡◌ {A = Option A} None (Some x) → ⊥
none_some x e = cc

pub current_as : (b : ℕ) (P Q : Restored → Type 0) → ((x : Restored) → b < x.epoch + 2 → P x → Q x) → (xs : List Restored) → AllCurrent b P xs → AllCurrent b Q xs
current_as b P Q leads [] all = tt
current_as b P Q leads (x ∷ xs) all = ((λ now. leads x now (all.0 now)), current_as b P Q leads xs all.1)

-- of a later epoch begun fewer are
pub current_later : (b c : ℕ) (P : Restored → Type 0) → b ≤ c → (xs : List Restored) → AllCurrent b P xs → AllCurrent c P xs
current_later b c P low [] all = tt
current_later b c P low (x ∷ xs) all = ((λ now. all.0 (omega (arith, low, now))), current_later b c P low xs all.1)

pub current_with : (b : ℕ) (P : Restored → Type 0) (xs : List Restored) (x : Restored) → AllCurrent b P xs → (b < x.epoch + 2 → P x) → AllCurrent b P (with_restored xs x)
current_with b P xs x all one = all_with_pair (λ pair. b < pair.epoch + 2 → P pair) xs x all one

pub current_all : (b : ℕ) (P : Restored → Type 0) (xs : List Restored) → AllByRecursion P xs → AllCurrent b P xs
current_all b P [] all = tt
current_all b P (x ∷ xs) all = ((λ now. all.0), current_all b P xs all.1)

-- one that is found, and is current
pub found_current : (b : ℕ) (P : Restored → Type 0) (pairs : List Restored) (epoch dealer : ℕ) (x : Restored) → AllCurrent b P pairs → pair_of pairs epoch dealer ≡ Some x → b < epoch + 2
    → P x × (x.epoch ≡ epoch) × (x.dealer ≡ dealer)
found_current b P pairs epoch dealer x all there now =
    let its = found_is (λ pair. b < pair.epoch + 2 → P pair) pairs epoch dealer x all there in
    (its.0 (subst (λ (n : ℕ). b < n + 2) (sym its.1) now), its.1, its.2)

-- WHAT THE DEVICES GIVE BACK, AND WHAT IS RECORDED, where this epoch has begun

pub record AreKept (b : ℕ) (pairs : Pairs) (recorded : List Restored) : Type 0 where
  pub given : AllCurrent b (Gives pairs) recorded
  pub known : (pair : Restored) → Gives pairs pair → pair_of recorded pair.epoch pair.dealer ≡ Some pair

-- what no map has is not recorded, if it would be current
pub not_kept : (b : ℕ) (m : Pairs) (recorded : List Restored) (epoch dealer : ℕ) → AllCurrent b (Gives m) recorded → b < epoch + 2 → get m (epoch, dealer) ≡ None → pair_of recorded epoch dealer ≡ None
not_kept b m recorded epoch dealer given now none = by_found (pair_of recorded epoch dealer) refl
  where
    by_found : (o : Option Restored) → pair_of recorded epoch dealer ≡ o → o ≡ None
    by_found None e = refl
    by_found (Some x) e =
        let found = found_current b (Gives m) recorded epoch dealer x given e now in
        let there : get m (epoch, dealer) ≡ Some (x.public, x.private) = rw (← found.1, ← found.2) found.0 in
        absurd (none_some (x.public, x.private) (sym none ∙ there))

-- These are the recorded dealings, and any others were brought by the step within which the life that opened last was cut. Before the first opening they are what the
-- devices gave back at first.
pub record MayBeKept (b : ℕ) (s : Setting) (p : Progress) (pairs : Pairs) : Type 0 where
  pub given : AllCurrent b (Gives pairs) p.recorded
  pub known : (pair : Restored) → Gives pairs pair
      → (pair_of p.recorded pair.epoch pair.dealer ≡ Some pair) ⊎ ((pair_of p.recorded pair.epoch pair.dealer ≡ None) × IsBroughtAtCut s p pair)
  pub first : p.opened ≡ None → pairs ≡ recovered_from s.files s.secrets

-- what is recorded stays so
abbrev pub IsGrown : List Restored → List Restored → Type 0
IsGrown before now = (pair : Restored) → pair_of before pair.epoch pair.dealer ≡ Some pair → pair_of now pair.epoch pair.dealer ≡ Some pair

-- between two lives
pub record RestsIn (h : Held) (s : Setting) (p : Progress) : Type 0 where
  pub whole : IsWhole (notes h) h.secrets
  pub may : MayBeKept (begun_before s p.cuts (length p.cuts)) s p (recovered_in h)

-- NO ENTRY TAKES A RECORDED DEALING AWAY

pub grown : (s : Setting) (p : Progress) (one : Entry) → IsGrown p.recorded (read s p one).recorded
grown s p (entry.Opened life restored) pair there = with_all_finds restored p.recorded pair.epoch pair.dealer ∙ (rw there refl)
grown s p (entry.Recorded epoch dealer public private) pair there =
    with_pair_finds p.recorded (record { epoch = epoch; dealer = dealer; public = public; private = private }) pair.epoch pair.dealer ∙ (rw there refl)
grown s p (entry.Step step) pair there = by_last (is_last_step s p)
  where
    by_last : (last : Bool) → pair_of (cond last (with_life_ended p None) (record p { step = suc p.step; written = [] })).recorded pair.epoch pair.dealer ≡ Some pair
    by_last true = there
    by_last false = there
grown s p _ pair there = there

pub grown_all : (s : Setting) (entries : List Entry) (p : Progress) → IsGrown p.recorded (fold (read s) p entries).recorded
grown_all s [] p pair there = there
grown_all s (one ∷ entries) p pair there = grown_all s entries (read s p one) pair (grown s p one pair there)

-- A LIFE OPENS

module _ (b : ℕ) (s : Setting) (p : Progress) (m : Pairs) (may : MayBeKept b s p m) where
  found_listed : (pair : Restored) → Gives m pair → pair_of (restored_list m) pair.epoch pair.dealer ≡ Some pair
  found_listed pair given = pair_of-restored_list m pair.epoch pair.dealer
      ∙ ap (option_map (λ (v : List ℕ × ℕ). record { epoch = pair.epoch; dealer = pair.dealer; public = v.0; private = v.1 })) given

  pub found_then : (pair : Restored) → Gives m pair → pair_of (fold with_restored p.recorded (restored_list m)) pair.epoch pair.dealer ≡ Some pair
  found_then pair given = with_all_finds (restored_list m) p.recorded pair.epoch pair.dealer ∙ by_known (may.known pair given)
    where
      by_known : (pair_of p.recorded pair.epoch pair.dealer ≡ Some pair) ⊎ ((pair_of p.recorded pair.epoch pair.dealer ≡ None) × IsBroughtAtCut s p pair)
          → option_or (pair_of p.recorded pair.epoch pair.dealer) (pair_of (restored_list m) pair.epoch pair.dealer) ≡ Some pair
      by_known (inl known) = rw known refl
      by_known (inr new) = rw new.0 (found_listed pair given)

  recorded_as : (pair : Restored) → Gives m pair → IsRecordedAs p.recorded (fold with_restored p.recorded (restored_list m)) pair (IsBroughtAtCut s p pair)
  recorded_as pair given = record { first = brought (may.known pair given); stays = found_then pair given }
    where
      brought : (pair_of p.recorded pair.epoch pair.dealer ≡ Some pair) ⊎ ((pair_of p.recorded pair.epoch pair.dealer ≡ None) × IsBroughtAtCut s p pair)
          → pair_of p.recorded pair.epoch pair.dealer ≡ None → IsBroughtAtCut s p pair
      brought (inl known) none = absurd (none_some pair (sym none ∙ known))
      brought (inr new) none = new.1

  opens_soundly : b ≡ begun_before s p.cuts (length p.cuts) → IsSoundOpening s p (restored_list m)
  opens_soundly is = by_opened p.opened refl
    where
      by_opened : (o : Option ℕ) → p.opened ≡ o → MatchOption o (restored_list m ≡ restored_list (recovered_from s.files s.secrets)) (λ _. IsLaterOpening s p (restored_list m))
      by_opened None none = ap restored_list (may.first none)
      by_opened (Some l) there = lists_them s p m (subst (λ (n : ℕ). AllCurrent n (Gives m) p.recorded) is may.given) recorded_as

  pub keeps_opening : b ≡ begun_before s p.cuts (length p.cuts) → (l : ℕ) → IsKeptEntry s p (entry.Opened l (restored_list m))
  keeps_opening is l = (opens_soundly is, tt)

  pub are_opened : (l : ℕ) → AreKept b m (read s p (entry.Opened l (restored_list m))).recorded
  are_opened l = record { given = all_with_all (λ pair. b < pair.epoch + 2 → Gives m pair) (restored_list m) p.recorded may.given (current_all b (Gives m) (restored_list m) (gives_all m)); known = found_then }

-- .. OR NOT

-- one more life, in which nothing opened
before_end : (cuts : List (Option CutAt)) (cut : Option CutAt) (l : ℕ) (its : CutAt) → cut_of cuts l ≡ Some its → cut_of (cuts ++ cut ∷ []) l ≡ Some its
before_end [] cut l its e = absurd (none_some its e)
before_end (x ∷ cuts) cut zero its e = e
before_end (x ∷ cuts) cut (suc l) its e = before_end cuts cut l its e

still_brought : (s : Setting) (p q : Progress) (cut : Option CutAt) (pair : Restored) → q.opened ≡ p.opened → q.cuts ≡ p.cuts ++ cut ∷ [] → IsBroughtAtCut s p pair → IsBroughtAtCut s q pair
still_brought s p q cut pair opened cuts brought = by_opened p.opened brought opened
  where
    P : ℕ → CutAt → Type 0
    P l its = (0 < its.call) × IsSomeAnd (life_at s l) (λ life. IsBrought s l life its.step pair)

    by_cut : (l : ℕ) (o : Option CutAt) → cut_of p.cuts l ≡ o → IsSomeAnd o (P l) → IsSomeAnd (cut_of q.cuts l) (P l)
    by_cut l None is brought = absurd brought
    by_cut l (Some its) is brought = let there : cut_of q.cuts l ≡ Some its = ap (λ (cs : List (Option CutAt)). cut_of cs l) cuts ∙ before_end p.cuts cut l its is in rw there brought

    by_opened : (o : Option ℕ) → IsSomeAnd o (λ l. IsSomeAnd (cut_of p.cuts l) (P l)) → q.opened ≡ o → IsSomeAnd q.opened (λ l. IsSomeAnd (cut_of q.cuts l) (P l))
    by_opened None brought is = absurd brought
    by_opened (Some l) brought is = rw is (by_cut l (cut_of p.cuts l) refl brought)

pub may_still : (b c : ℕ) (s : Setting) (p q : Progress) (cut : Option CutAt) (m : Pairs) → b ≤ c → q.opened ≡ p.opened → q.recorded ≡ p.recorded → q.cuts ≡ p.cuts ++ cut ∷ []
    → MayBeKept b s p m → MayBeKept c s q m
may_still b c s p q cut m low opened recorded cuts may = record {
  given = rw recorded (current_later b c (Gives m) low p.recorded may.given);
  known = λ pair given. rw recorded (by_known pair (may.known pair given));
  first = λ none. may.first (sym opened ∙ none);
}
  where
    by_known : (pair : Restored) → (pair_of p.recorded pair.epoch pair.dealer ≡ Some pair) ⊎ ((pair_of p.recorded pair.epoch pair.dealer ≡ None) × IsBroughtAtCut s p pair)
        → (pair_of p.recorded pair.epoch pair.dealer ≡ Some pair) ⊎ ((pair_of p.recorded pair.epoch pair.dealer ≡ None) × IsBroughtAtCut s q pair)
    by_known pair (inl known) = inl known
    by_known pair (inr new) = inr (new.0, still_brought s p q cut pair opened cuts new.1)

pub may_of : (b : ℕ) (s : Setting) (p : Progress) (l : ℕ) (m : Pairs) → p.opened ≡ Some l → AreKept b m p.recorded → MayBeKept b s p m
may_of b s p l m opened are = record {
  given = are.given;
  known = λ pair given. inl (are.known pair given);
  first = λ none. absurd (none_some l (sym none ∙ opened));
}

-- WHICH EPOCH HAS BEGUN

some_cut : (cuts more : List (Option CutAt)) (k : ℕ) → k < length cuts → cut_of (cuts ++ more) k ≡ cut_of cuts k
some_cut [] more k low = absurd (omega (arith, low))
some_cut (x ∷ cuts) more zero low = refl
some_cut (x ∷ cuts) more (suc k) low = some_cut cuts more k (omega (arith, low))

-- how later lives end doesn't matter
pub before_front : (s : Setting) (cuts more : List (Option CutAt)) (n : ℕ) → n ≤ length cuts → awaited_before s (cuts ++ more) n ≡ awaited_before s cuts n
before_front s cuts more zero low = refl
before_front s cuts more (suc n) low =
    ap (λ (x : ℕ). max x (last_awaited s (cuts ++ more) n)) (before_front s cuts more n (omega (arith, low)))
    ∙ ap (λ (cut : Option CutAt). max (awaited_before s cuts n) (option_map_or (λ life. awaited_epoch s n life (events_taken life cut)) (life_at s n) 0)) (some_cut cuts more n low)

last_cut : (cuts : List (Option CutAt)) (l : ℕ) (its : Option CutAt) → length cuts ≡ l → cut_of (cuts ++ its ∷ []) l ≡ its
last_cut [] zero its is = refl
last_cut [] (suc l) its is = absurd (omega (arith, is))
last_cut (x ∷ cuts) zero its is = absurd (omega (arith, is))
last_cut (x ∷ cuts) (suc l) its is = last_cut cuts l its (omega (arith, is))

module _ (s : Setting) (reshares : is_oneshot s ≡ false) where
  pub before_is : (cuts : List (Option CutAt)) (l : ℕ) → begun_before s cuts l ≡ awaited_before s cuts l
  before_is cuts l = rw reshares refl

  pub begun_is : (cuts : List (Option CutAt)) (l : ℕ) (life : Life) (j : ℕ) → life_at s l ≡ Some life → begun s cuts l j ≡ max (awaited_before s cuts l) (awaited_epoch s l life j)
  begun_is cuts l life j is = rw (reshares, is) refl

  -- behind a life that ended so it is what had begun there
  pub begun_behind : (cuts : List (Option CutAt)) (l : ℕ) (life : Life) (its : Option CutAt) → length cuts ≡ l → life_at s l ≡ Some life
      → begun_before s (cuts ++ its ∷ []) (suc l) ≡ begun s cuts l (events_taken life its)
  begun_behind cuts l life its lives is =
      before_is (cuts ++ its ∷ []) (suc l)
      ∙ ap (λ (x : ℕ). max x (last_awaited s (cuts ++ its ∷ []) l)) (before_front s cuts (its ∷ []) l (omega (arith, lives)))
      ∙ ap (λ (x : ℕ). max (awaited_before s cuts l) x) last_is
      ∙ sym (begun_is cuts l life (events_taken life its) is)
    where
      last_is : last_awaited s (cuts ++ its ∷ []) l ≡ awaited_epoch s l life (events_taken life its)
      last_is = ap (λ (cut : Option CutAt). option_map_or (λ x. awaited_epoch s l x (events_taken x cut)) (life_at s l) 0) (last_cut cuts l its lives)
          ∙ ap (λ (o : Option Life). option_map_or (λ x. awaited_epoch s l x (events_taken x its)) o 0) is

  -- .. so as no earlier life's
  pub begun_more : (cuts : List (Option CutAt)) (l : ℕ) (life : Life) (j : ℕ) → life_at s l ≡ Some life → begun_before s cuts l ≤ begun s cuts l j
  begun_more cuts l life j is =
      let x : begun_before s cuts l ≡ awaited_before s cuts l = before_is cuts l in
      let y : begun s cuts l j ≡ max (awaited_before s cuts l) (awaited_epoch s l life j) = begun_is cuts l life j is in
      least (begun_before s cuts l) (begun s cuts l j) (awaited_before s cuts l) (awaited_epoch s l life j) x y
    where
      least : (a b c d : ℕ) → a ≡ c → b ≡ max c d → a ≤ b
      least a b c d x y = omega (arith, x, y)
