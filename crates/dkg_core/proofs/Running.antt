-- A run of peers' messages keeps the promise at every exit.
use Rattle.std.proofs.Common.{◌≡◌, inl, inr, ℕ, List, [], ◌∷◌, ◌++◌, Option, Some, None, refl, sym, ◌∙◌, ap, subst, append_assoc}
use Rattle.std.specs.List.{AllByRecursion}
use Rattle.std.specs.FinMap as maps
use Rattle.std.specs.FinMap.{find, get, get-entries}
use Rattle.dkg_ceremony.specs.declared.round.RoundParts.{RoundParts as Round}
use Rattle.dkg_infos.specs.declared.entry.Entry.{Entry}
use Rattle.dkg_infos.specs.declared.entry.Entry.TheVariants.{Recorded, Ack}
use Rattle.dkg_store.specs.Acts.{Held, World, says, does}
use Rattle.dkg_core.specs.Courses.{Course, Say, Do, CallOutside, Ask, Goes, Stops, bind, Throughout, Finishes}
use Rattle.dkg_secrets.specs.Keys.{key_cmp}
use Rattle.dkg_store.specs.Pairs.{Pairs}
use Rattle.dkg_store.proofs.Pairs.{same_key, get_other}
use Rattle.dkg_core.specs.Fixed.{Fixed}
use Rattle.dkg_core.specs.Live.{Live, Mailed, Peer}
use Rattle.dkg_core.specs.Core.{step}
use Rattle.dkg_core.specs.Heard.{recovered_in, IsSaid, MayHave, IsKeptAt, IsKeptSince, IsAgreed, Fits, hears_all, RunsAreKept}
use Rattle.dkg_core.proofs.Keeping.{kept, agreed}

-- ALONG COURSES

-- the next course begins where the first ended
pub along_next : {Dir F S T : Type 0} (P : World → Type 0) (course : Course Dir F S) (next : S → Course Dir F T) (w : World) → Throughout P course w
    → ((end : S) (mid : World) → Finishes course end w mid → Throughout P (next end) mid) → Throughout P (bind course next) w
along_next P (Say line course) next w a more = (a.0, along_next P course next (says w line) a.1 more)
along_next P (Do op course) next w a more = (a.0, along_next P course next (does w op) a.1 more)
along_next P (CallOutside outer course) next w a more = along_next P course next w a more
along_next P (Ask f) next w a more = along_next P (f w.held) next w a more
along_next P (Goes end) next w a more = more end w (refl, refl)
along_next P (Stops fault) next w a more = a

pub along_end : {Dir F S : Type 0} (P : World → Type 0) (course : Course Dir F S) (w new : World) (end : S) → Throughout P course w → Finishes course end w new → P new
along_end P (Say line course) w new end a ended = along_end P course (says w line) new end a.1 ended
along_end P (Do op course) w new end a ended = along_end P course (does w op) new end a.1 ended
along_end P (CallOutside outer course) w new end a ended = along_end P course w new end a ended
along_end P (Ask f) w new end a ended = along_end P (f w.held) w new end a ended
along_end P (Goes its) w new end a ended = subst P (sym ended.0) a
along_end P (Stops fault) w new end a ended = absurd ended

pub along_as : {Dir F S : Type 0} (P Q : World → Type 0) → ((w : World) → P w → Q w) → (course : Course Dir F S) (w : World) → Throughout P course w → Throughout Q course w
along_as P Q so (Say line course) w a = (so w a.0, along_as P Q so course (says w line) a.1)
along_as P Q so (Do op course) w a = (λ cause new tears. so new (a.0 cause new tears), along_as P Q so course (does w op) a.1)
along_as P Q so (CallOutside outer course) w a = along_as P Q so course w a
along_as P Q so (Ask f) w a = along_as P Q so (f w.held) w a
along_as P Q so (Goes end) w a = so w a
along_as P Q so (Stops fault) w a = so w a

-- WHAT WAS SAID STAYS SOUND

all_of_both : {A : Type 0} (P : A → Type 0) (xs ys : List A) → AllByRecursion P xs → AllByRecursion P ys → AllByRecursion P (xs ++ ys)
all_of_both P [] ys all more = more
all_of_both P (x ∷ xs) ys all more = (all.0, all_of_both P xs ys all.1 more)

all_still : {A : Type 0} (P Q : A → Type 0) → ((a : A) → P a → Q a) → (xs : List A) → AllByRecursion P xs → AllByRecursion Q xs
all_still P Q so [] all = tt
all_still P Q so (x ∷ xs) all = (so x all.0, all_still P Q so xs all.1)

not_none : {A : Type 0} (a : A) (o : Option A) → o ≡ Some a → o ≡ None → ⊥
not_none a o some none = differs (sym some ∙ none)
  where
    differs : ◌≡◌ {A = Option _} (Some a) None → ⊥
    differs e = cc

module _ {Dir : Type 0} (c : Fixed Dir) (st : Live Dir) (from : ℕ) (round : Round) (old new : Held) (records : st.records.dealings ≡ maps.entries (recovered_in old))
    (has : MayHave c st from round (recovered_in old) (recovered_in new)) where
  still : (key : ℕ × ℕ) (v : List ℕ × ℕ) → get (recovered_in old) key ≡ Some v → get (recovered_in new) key ≡ Some v
  still key v got = either has
    where
      either : MayHave c st from round (recovered_in old) (recovered_in new) → get (recovered_in new) key ≡ Some v
      either (inl is) = ap (λ (m : Pairs). get m key) is ∙ got
      either (inr more) =
          let here : ℕ × ℕ = (round.number, from) in
          let fresh : get (recovered_in old) here ≡ None = get-entries (recovered_in old) here ∙ ap (find key_cmp here) (sym records) ∙ more.2.new in
          elim (same_key key here) [
            | inl is ↦ absurd (not_none v (get (recovered_in old) key) got (ap (get (recovered_in old)) is ∙ fresh))
            | inr apart ↦ ap (λ (m : Pairs). get m key) more.3 ∙ get_other (recovered_in old) here key (more.0, more.1) apart ∙ got
          ]

  still_said : (line : Entry) → IsSaid c round old line → IsSaid c round new line
  still_said (Ack epoch dealer ack) said = (said.0, still (epoch, dealer) said.0 said.1, said.2)
  still_said (Recorded epoch dealer public private) said = still (epoch, dealer) (public, private) said
  still_said line said = tt

-- A RUN

module _ {Dir : Type 0} (c : Fixed Dir) (round : Round) (base : List Entry) where
  since : (st : Live Dir) (from : ℕ) (w new : World) → st.records.dealings ≡ maps.entries (recovered_in w.held) → IsKeptSince c round base w → IsKeptAt c st from round w.out (recovered_in w.held) new → IsKeptSince c round base new
  since st from w new records before now = record {
    whole = now.whole;
    added = before.added ++ now.added;
    out = now.out ∙ ap (λ (ls : List Entry). ls ++ now.added) before.out ∙ append_assoc base before.added now.added;
    said = all_of_both (IsSaid c round new.held) before.added now.added
        (all_still (IsSaid c round w.held) (IsSaid c round new.held) (still_said c st from round w.held new.held records now.gives) before.added before.said) now.said;
  }

  one : (st : Live Dir) (m : ℕ × List ℕ) (w : World) → IsAgreed st round w → Fits c m → IsKeptSince c round base w → Throughout (IsKeptSince c round base) (step c (Mailed (Peer m.0 m.1)) st) w
  one st m w is fits before =
      along_as (IsKeptAt c st m.0 round w.out (recovered_in w.held)) (IsKeptSince c round base) (λ new now. since st m.0 w new is.records before now) (step c (Mailed (Peer m.0 m.1)) st) w
      (kept c st m.0 m.1 round w (recovered_in w.held) is.of_epoch (record { records = is.records; whole = is.whole; gives = refl; fits = fits.0; fits_ack = fits.1 }))

  all_messages : (ms : List (ℕ × List ℕ)) (st : Live Dir) (w : World) → IsAgreed st round w → AllByRecursion (Fits c) ms → IsKeptSince c round base w → Throughout (IsKeptSince c round base) (hears_all c ms st) w
  all_messages [] st w is fits before = before
  all_messages (m ∷ ms) st w is fits before =
      let first = one st m w is fits.0 before in
      along_next (IsKeptSince c round base) (step c (Mailed (Peer m.0 m.1)) st) (λ st. hears_all c ms st) w first
      (λ end mid ended. all_messages ms end mid (agreed c st end m.0 m.1 round w mid is fits.0 ended) fits.1 (along_end (IsKeptSince c round base) (step c (Mailed (Peer m.0 m.1)) st) w mid end first ended))

nothing_more : {A : Type 0} (xs : List A) → xs ≡ xs ++ []
nothing_more [] = refl
nothing_more (x ∷ xs) = ap (λ ys. x ∷ ys) (nothing_more xs)

pub runs_are_kept : {Dir : Type 0} → RunsAreKept Dir
runs_are_kept c ms st round w is fits = all_messages c round w.out ms st w is fits (record { whole = is.whole; added = []; out = nothing_more w.out; said = tt })
