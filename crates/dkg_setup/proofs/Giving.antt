-- What calls leave of the dealings that the devices give back.
use Rattle.std.proofs.Common.{◌≡◌, inl, inr, ℕ, ◌<◌, ◌≤◌, Bool, true, cond, nat_le, List, [], ◌∷◌, fold, Option, Some, None, Result, Ok, Err, refl, sym, ◌∙◌, ap, subst, arith}
use Rattle.std.specs.FinMap.{FinMap, empty, get, get-retain_keys, retain_keys}
use Rattle.std.proofs.lemmas.Bool.Decides.{nat_tests}
use Rattle.dkg_values.specs.Codec.{whole}
use Rattle.dkg_values.specs.declared.codec.CodecError.{CodecError}
use Rattle.dkg_journal.specs.Disk.{ImagesFollow}
use Rattle.dkg_journal.specs.Names.{Files}
use Rattle.dkg_journal.specs.Pruning.{LeavesAbove}
use Rattle.dkg_journal.specs.Records.{SectionEntry, entries, from_section}
use Rattle.dkg_journal.specs.Steps.{Keeps}
use Rattle.dkg_store.specs.Corrupt.{AreFit}
use Rattle.dkg_store.specs.Events.{event_at, no_limit}
use Rattle.dkg_secrets.specs.Keys.{StaysOrGoes, key_cmp}
use Rattle.dkg_store.specs.Pairs.{Dealing, IsWhole, Pairs, dealing_in_event, recorded_dealing, recovered, with_dealing, with_half}
use Rattle.dkg_store.specs.Recorded.{Pair}
use Rattle.dkg_secrets.specs.Secrets.{Secrets, Tries}
use Rattle.dkg_store.specs.declared.event.Event.{Event}
use Rattle.dkg_store.specs.declared.event.Event.TheVariants as events
use Rattle.dkg_secrets.specs.declared.secrets.SecretOp.TheVariants.{Prune}
use Rattle.dkg_secrets.proofs.Map.{below_or, exact_keys}
use Rattle.dkg_store.proofs.Pruned.{recovered_from}
use Rattle.dkg_life.specs.Given.{AreGivenFrom}
use Rattle.dkg_life.specs.Moved.{StaysAbove, StaysFrom}

-- FROM AN EPOCH ON

at_or_above : (min key : ℕ) → min ≤ key → nat_le min key ≡ true
at_or_above min key above = grind (arith, nat_tests, above)

retained_at : {V : Type 0} (m : FinMap key_cmp V) (min : ℕ) (q : ℕ × ℕ) → min ≤ q.0 → get (retain_keys m (λ k. nat_le min k.0)) q ≡ get m q
retained_at {V} m min q above =
    get-retain_keys m (λ k. nat_le min k.0) q (λ x tied. ap (λ (y : ℕ × ℕ). nat_le min y.0) (sym (exact_keys q x tied)))
    ∙ ap (λ (b : Bool). cond b (get m q) None) (at_or_above min q.0 above)

-- A PRUNE

-- The section of a dealing's record is its epoch.
abbrev IsOf : ℕ → Option Dealing → Type 0
IsOf section None = Unit {0}
IsOf section (Some d) = d.key.0 ≡ section

of_section : (epoch : ℕ) (r : Result Event CodecError) → IsOf epoch (dealing_in_event epoch r)
of_section epoch (Ok (events.Dealing dealer public)) = refl
of_section epoch (Ok (events.Ack player ack)) = tt
of_section epoch (Ok (events.Log dealer log)) = tt
of_section epoch (Ok (events.LogAt dealer height log)) = tt
of_section epoch (Err e) = tt

abbrev steps_from : Secrets → Pairs → List SectionEntry → Pairs
steps_from s m es = fold (λ n e. with_dealing s n (recorded_dealing e)) m es

module _ (min : ℕ) (s t : Secrets) (halves : (k : ℕ × ℕ) → min ≤ k.0 → get t.privates k ≡ get s.privates k) where
  same_step : (section : ℕ) (m : Pairs) (o : Option Dealing) → IsOf section o → min ≤ section → with_dealing t m o ≡ with_dealing s m o
  same_step section m None is above = refl
  same_step section m (Some d) is above = ap (with_half m d) (halves d.key (subst (λ (n : ℕ). min ≤ n) (sym is) above))

  -- records from a minimum on say the same with the same halves from there on
  same_from : (es : List SectionEntry) (m : Pairs) → steps_from t m (from_section min es) ≡ steps_from s m (from_section min es)
  same_from [] m = refl
  same_from (e ∷ es) m = elim (below_or min e.0) [
    | inl below ↦ subst (λ (b : Bool). steps_from t m (cond b (e ∷ from_section min es) (from_section min es)) ≡ steps_from s m (cond b (e ∷ from_section min es) (from_section min es))) (sym below.1) (same_from es m)
    | inr above ↦ subst (λ (b : Bool). steps_from t m (cond b (e ∷ from_section min es) (from_section min es)) ≡ steps_from s m (cond b (e ∷ from_section min es) (from_section min es))) (sym above.1)
        (ap (λ (n : Pairs). steps_from t n (from_section min es)) (same_step e.0 m (recorded_dealing e) (of_section e.0 (whole (event_at no_limit e.1))) above.0) ∙ same_from es (with_dealing s m (recorded_dealing e)))
  ]

kept_half : (min key : ℕ) (old new : Option ℕ) → StaysOrGoes min key old new → min ≤ key → new ≡ old
kept_half min key old new (inl same) above = same
kept_half min key old new (inr gone) above = absurd (let low : key < min = gone.0 in omega (arith, low, above))

pub pruned_gives : (min : ℕ) (image next : Files → Type 0) (s t : Secrets) → ImagesFollow (LeavesAbove min) image next → Tries (Prune min) s t → StaysFrom min image next s t
pruned_gives min image next s t left tries = λ pairs gives. record {
  each = λ c here key above.
      let d = left.each c here in
      let halves : (k : ℕ × ℕ) → min ≤ k.0 → get t.privates k ≡ get s.privates k = λ k up. kept_half min k.0 (get s.privates k) (get t.privates k) (tries.so.privates k) up in
      ap (λ (es : List SectionEntry). get (recovered es t) key) d.2.left
      ∙ ap (λ (m : Pairs). get m key) (same_from min s t halves (entries d.0) empty ∙ recovered_from min (entries d.0) s)
      ∙ retained_at (recovered (entries d.0) s) min key above
      ∙ gives.each d.0 d.1 key above;
}

-- AN OPENING OF A JOURNAL, which keeps the entries

pub opened_above : (min : ℕ) (image next : Files → Type 0) (s t : Secrets) → t ≡ s → ((most : ℕ) → AreFit most image → AreFit most next) → ImagesFollow Keeps image next → StaysAbove min image next s t
opened_above min image next s t same fit keeps = record {
  fit = fit;
  each = λ c here.
      let d = keeps.each c here in (
        d.0,
        d.1,
        record {
          plan = d.2.plan;
          whole = λ w. subst (λ (x : Secrets). IsWhole (entries c) x) (sym same) (subst (λ (es : List SectionEntry). IsWhole es s) (sym d.2.same) w);
          pairs = λ w. λ i. retain_keys (recovered (d.2.same i) (same i)) (λ k. nat_le min k.0);
        },
      );
}

-- WHAT WAS READ

pub given_above : (min : ℕ) (dealings : List Pair) (image : Files → Type 0) (s : Secrets) → AreGivenFrom 0 dealings image s → AreGivenFrom min dealings image s
given_above min dealings image s given = λ c here key above. given c here key (omega arith)

-- The dealings that each image gives back are given as far on as what the images give stays.
pub given_on : (min : ℕ) (dealings : List Pair) (files : Files) (image next : Files → Type 0) (s t : Secrets) → image files → AreGivenFrom 0 dealings image s → StaysFrom min image next s t
    → AreGivenFrom min dealings next t
given_on min dealings files image next s t there given stays = λ c here key above.
    given files there key (omega arith)
    ∙ sym ((stays (recovered (entries files) s) (record { each = λ d at k up. sym (given d at k (omega arith)) ∙ given files there k (omega arith) })).each c here key above)
