-- Where no log of an epoch bears an acknowledgement that this node never gave, the node lacks no dealing that it acknowledged, if the devices give back that epoch's recorded dealings.
use Rattle.std.proofs.Common.{◌≡◌, ℕ, ◌^◌, List, [], ◌∷◌, Option, Some, None, Bool, true, false, cond, refl, sym, ap, subst, ◌∙◌, inl, inr, nat_lt, ◌&&◌, ◌==◌, ◌+◌, filter, map, fold, IsTrue, arith, ◌<◌}
use Rattle.std.specs.Prelude.{IfSome, IsSomeAnd, not}
use Rattle.std.specs.List.{AllByRecursion, list_any}
use Rattle.std.specs.FinMap.{empty, get, get-empty, get-entries, entries as listing, entries_sorted, find}
use Rattle.std.proofs.lemmas.Bool.{and_parts, eqb-true}
use Rattle.std.proofs.lemmas.Bool.Decides.{nat_tests}
use Rattle.std.proofs.lemmas.Slice.Eq.{bytes_eq-Decides}
use Rattle.dkg_ceremony.specs.Finishes.{has_public}
use Rattle.dkg_ceremony.specs.ValidLogs.{bears_ack_of}
use Rattle.dkg_ceremony.specs.declared.dealer_log.DealerLog.{DealerLog}
use Rattle.dkg_ceremony.specs.declared.round.RoundParts.{RoundParts as Round}
use Rattle.dkg_journal.specs.Records.{SectionEntry, entries}
use Rattle.dkg_secrets.specs.Keys.{key_cmp}
use Rattle.dkg_store.specs.Noted.{Note, Notes, logs_in, noted_log, with_note}
use Rattle.dkg_store.specs.Pairs.{Pairs}
use Rattle.dkg_store.specs.Player.{has_orphan, is_orphan}
use Rattle.dkg_store.specs.Recorded.{at_epoch, bare_logs, restored_list}
use Rattle.dkg_store.specs.declared.recorded_log.RecordedLog.{RecordedLog}
use Rattle.dkg_secrets.proofs.Map.{keys_total}
use Rattle.dkg_store.proofs.Own.{lookup_at}
use Rattle.dkg_store.proofs.Pairs.{same_key, get_at, get_other}
use Rattle.dkg_infos.specs.declared.entry.Restored.{Restored}
use Rattle.dkg_script.specs.Blocks.{round_at}
use Rattle.dkg_script.specs.Kept.{AllCurrent, Gives}
use Rattle.dkg_script.specs.LogsKnown.{LogsKnown}
use Rattle.dkg_script.specs.OwnMarks.{AreKnownHandedIn, IsOwnMarkKnown}
use Rattle.dkg_script.specs.Progress.{pair_of}
use Rattle.dkg_script.specs.Setting.{Setting, me, recovered_from}
use Rattle.dkg_script.proofs.Listed.{each_found}
use Rattle.dkg_lives.proofs.Currently.{found_current}

-- WHAT HOLDS OF EACH RECORD holds of each that is found

module _ {V : Type 0} (note_of : SectionEntry → Option (Note V)) (Q : ℕ × ℕ → V → Type 0) where
  abbrev Found : Notes V → Type 0
  Found m = (key : ℕ × ℕ) (v : V) → get m key ≡ Some v → Q key v

  same_value : (v w : V) → Some v ≡ Some w → v ≡ w
  same_value v w e = cc

  with_one : (m : Notes V) (o : Option (Note V)) → IfSome o (λ note. Q note.0 note.1) → Found m → Found (with_note m o)
  with_one m None holds before = before
  with_one m (Some note) holds before = λ key v found. elim (same_key key note.0) [
    | inl is ↦ subst (λ (k : ℕ × ℕ). Q k v) (sym is) (subst (Q note.0) (same_value note.1 v (sym (get_at m note.0 key note.1 is) ∙ found)) holds)
    | inr apart ↦ before key v (sym (get_other m note.0 key note.1 apart) ∙ found)
  ]

  all_found : (es : List SectionEntry) (m : Notes V) → AllByRecursion (λ e. IfSome (note_of e) (λ note. Q note.0 note.1)) es → Found m → Found (fold (λ m e. with_note m (note_of e)) m es)
  all_found [] m all before = before
  all_found (e ∷ es) m all before = all_found es (with_note m (note_of e)) all.1 (with_one m (note_of e) all.0 before)

none_found : {V : Type 0} (key : ℕ × ℕ) (v : V) → get {R = key_cmp} empty key ≡ Some v → ⊥
none_found key v found = let none : get {R = key_cmp} empty key ≡ None = get-empty key_cmp key in absurd (let both : None ≡ Some v = sym none ∙ found in cc)

-- A TEST OF THOSE OF ONE EPOCH

module _ {X Y : Type 0} (f : Y → Bool) (g : X → Y) (h : X → Bool) where
  any_none : (xs : List X) → AllByRecursion (λ x. h x ≡ true → f (g x) ≡ false) xs → list_any f (map g (filter h xs)) ≡ false
  any_none [] all = refl
  any_none (x ∷ xs) all = by_test (any_none xs all.1) (h x) refl
    where
      by_test : list_any f (map g (filter h xs)) ≡ false → (b : Bool) → h x ≡ b → list_any f (map g (cond b (x ∷ filter h xs) (filter h xs))) ≡ false
      by_test rest true is = rw (all.0 is) rest
      by_test rest false is = rest

once_mapped : {X Y Z : Type 0} (g : X → Y) (h : Y → Z) (xs : List X) → map h (map g xs) ≡ map (λ x. h (g x)) xs
once_mapped g h [] = refl
once_mapped g h (x ∷ xs) = ap (λ (zs : _). h (g x) ∷ zs) (once_mapped g h xs)

all_map : {X : Type 0} (P Q : X → Type 0) (xs : List X) → ((x : X) → P x → Q x) → AllByRecursion P xs → AllByRecursion Q xs
all_map P Q [] leads all = tt
all_map P Q (x ∷ xs) leads all = (leads x all.0, all_map P Q xs leads all.1)

is_low : (q : ℕ) → nat_lt q (2 ^ 32) ≡ true → q < 2 ^ 32
is_low q e = grind (arith, nat_tests)

-- EACH LOG THAT WAS HANDED IN is known, where each entry of the journal is
pub handed_known : (s : Setting) (begun : ℕ) → AreKnownHandedIn s → LogsKnown s begun (restored_list (recovered_from s.files s.secrets)) (logs_in (entries s.files))
handed_known s begun known key noted now there =
    all_found noted_log (λ key r. IsOwnMarkKnown s (restored_list (recovered_from s.files s.secrets)) key.0 key.1 r.log) (entries s.files) empty known (λ key v none. absurd (none_found key v none)) key noted there

-- THE RECORDED DEALINGS of an epoch are given back, and its logs known by them

abbrev pub GivesRecorded : List Restored → (epoch : ℕ) → Pairs → Type 0
GivesRecorded recorded epoch pairs = (dealer : ℕ) (x : Restored) → pair_of recorded epoch dealer ≡ Some x → get pairs (epoch, dealer) ≡ Some (x.public, x.private)

abbrev pub KnowsMarks : Setting → List Restored → (epoch : ℕ) → Notes RecordedLog → Type 0
KnowsMarks s recorded epoch logs = (dealer : ℕ) (noted : RecordedLog) → get logs (epoch, dealer) ≡ Some noted → IsOwnMarkKnown s recorded epoch dealer noted.log

-- of one that is current
pub gives_recorded : (begun epoch : ℕ) (pairs : Pairs) (recorded : List Restored) → begun < epoch + 2 → AllCurrent begun (Gives pairs) recorded → GivesRecorded recorded epoch pairs
gives_recorded begun epoch pairs recorded now given dealer x there =
    let its = found_current begun (Gives pairs) recorded epoch dealer x given there now in
    subst (λ (e : ℕ). get pairs (e, dealer) ≡ Some (x.public, x.private)) its.1 (subst (λ (d : ℕ). get pairs (x.epoch, d) ≡ Some (x.public, x.private)) its.2 its.0)

module _ (s : Setting) (epoch : ℕ) (recorded : List Restored) (pairs : Pairs) (logs : Notes RecordedLog) (round : Round) (has : GivesRecorded recorded epoch pairs) (known : KnowsMarks s recorded epoch logs)
    (round_is : round_at s epoch ≡ Some round) where
  -- the dealing that a log names is recorded
  has_it : (dealer : ℕ) (log : DealerLog) (x : Restored) → pair_of recorded epoch dealer ≡ Some x → log.public ≡ x.public → has_public log.public (get pairs (epoch, dealer)) ≡ true
  has_it dealer log x there same = rw (has dealer x there, same) ((bytes_eq-Decides x.public x.public).1 refl)

  by_mark : (dealer : ℕ) (log : DealerLog) (bears : Bool) → bears_ack_of round dealer log (me s) ≡ bears → IsOwnMarkKnown s recorded epoch dealer log
      → (bears && not (has_public log.public (get pairs (epoch, dealer)))) ≡ false
  by_mark dealer log false is own = refl
  by_mark dealer log true is own =
      let of_round : IsTrue (bears_ack_of round dealer log (me s)) → IsSomeAnd (pair_of recorded epoch dealer) (λ x. log.public ≡ x.public) = rw round_is at own in
      by_pair (pair_of recorded epoch dealer) refl (of_round is)
    where
      by_pair : (o : Option Restored) → pair_of recorded epoch dealer ≡ o → IsSomeAnd o (λ x. log.public ≡ x.public) → (true && not (has_public log.public (get pairs (epoch, dealer)))) ≡ false
      by_pair None there is = absurd is
      by_pair (Some x) there is = rw (has_it dealer log x there is) refl

  -- no log of the epoch is without its dealing
  each_has : (x : (ℕ × ℕ) × RecordedLog) → find key_cmp x.0 (listing logs) ≡ Some x.1 → ((x.0.0 == epoch) && nat_lt x.0.1 (2 ^ 32)) ≡ true
      → is_orphan (λ dealer log. bears_ack_of round dealer log (me s)) (at_epoch epoch pairs) (x.0.1, x.1.log) ≡ false
  each_has x found is =
      let first : x.0.0 ≡ epoch = eqb-true x.0.0 epoch (and_parts (x.0.0 == epoch) (nat_lt x.0.1 (2 ^ 32)) is).0 in
      let own : IsOwnMarkKnown s recorded epoch x.0.1 x.1.log = known x.0.1 x.1 (subst (λ (e : ℕ). get logs (e, x.0.1) ≡ Some x.1) first (get-entries logs x.0 ∙ found)) in
      let low : x.0.1 < 2 ^ 32 = is_low x.0.1 (and_parts (x.0.0 == epoch) (nat_lt x.0.1 (2 ^ 32)) is).1 in
      rw (lookup_at epoch x.0.1 pairs low) (by_mark x.0.1 x.1.log (bears_ack_of round x.0.1 x.1.log (me s)) refl own)

  pub lacks_none : has_orphan (λ dealer log. bears_ack_of round dealer log (me s)) (at_epoch epoch pairs) (bare_logs (at_epoch epoch logs)) ≡ false
  lacks_none =
      let orphan : ℕ × DealerLog → Bool = is_orphan (λ dealer log. bears_ack_of round dealer log (me s)) (at_epoch epoch pairs) in
      let here : (ℕ × ℕ) × RecordedLog → Bool = λ x. (x.0.0 == epoch) && nat_lt x.0.1 (2 ^ 32) in
      ap (list_any orphan) (once_mapped (λ (x : (ℕ × ℕ) × RecordedLog). (x.0.1, x.1)) (λ (p : ℕ × RecordedLog). (p.0, p.1.log)) (filter here (listing logs)))
      ∙ any_none orphan (λ x. (x.0.1, x.1.log)) here (listing logs)
      (all_map (λ x. find key_cmp x.0 (listing logs) ≡ Some x.1) _ (listing logs) each_has (each_found keys_total (listing logs) (entries_sorted logs)))
