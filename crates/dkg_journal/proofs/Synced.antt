-- What the last sync left of files in memory.
use Rattle.std.proofs.Common.{◌≡◌, ◌≢◌, ℕ, ◌+◌, ◌-◌, ◌≤◌, ◌%◌, min, max, List, [], ◌∷◌, ◌++◌, length, take, drop, Bool, true, false, cond, Option, Some, None, inl, inr, ⊎_elim, refl, sym, ◌∙◌, ap, subst, arith, append_assoc}
use Rattle.std.proofs.lemmas.Bool.{cases_lt}
use Rattle.std.proofs.lemmas.List.{take_all, drop_all, drop_at, drop-drop, take-append-drop, take-append-le, drop-append-le, append-nil, length-take, length-take-le, length-drop}
use Rattle.std.specs.Ordering.{eq_by_cmp}
use Rattle.dkg_values.specs.declared.name.Name.{Name}
use Rattle.dkg_journal.specs.Names.{name_cmp}
use Rattle.dkg_journal.specs.Disk.{written}
use Rattle.dkg_journal.specs.Kept.{KeptBytes, Undone, restored, rolled, kept_to, wrote, AreWithin}
use Rattle.dkg_journal.specs.Table.{Rows, file_at, IsUpdate, file_bytes, synced_of, synced_at, KeepsSynced, Crashed}
use Rattle.dkg_journal.proofs.AtOnce.{torn_written}
use Rattle.dkg_journal.proofs.Loose.{rolled-push, length-rolled}
use Rattle.dkg_journal.proofs.OnRows.{update_here, update_other}
use Rattle.dkg_journal.proofs.SameFiles.{same_name}

-- bytes behind those that are written over stay behind
written-behind : (place : ℕ) (new old more : List ℕ) → place + length new ≤ length old → written place new (old ++ more) ≡ written place new old ++ more
written-behind place new old more fits =
    (λ i. (take-append-le place old more (omega (arith, fits)) i ++ new) ++ drop-append-le (place + length new) old more fits i)
    ∙ sym (append_assoc (take place old ++ new) (drop (place + length new) old) more)

rolled-behind : (from : ℕ) (us : List Undone) (bytes more : List ℕ) → AreWithin us (length bytes) → rolled from us (bytes ++ more) ≡ rolled from us bytes ++ more
rolled-behind from [] bytes more within = refl
rolled-behind from (u ∷ us) bytes more within =
    let skip = min (from - u.0) (length u.1) in
    ap (restored from u) (rolled-behind from us bytes more within.1)
    ∙ written-behind (u.0 + skip) (drop skip u.1) (rolled from us bytes) more (omega (arith, length-drop skip u.1, length-rolled from us bytes within.1, within.0))

-- A write that is undone leaves what was there, and behind it what went past the end.
module _ (place : ℕ) (new old : List ℕ) (fits : place ≤ length old) where
  abbrev kept : List ℕ
  kept = take (length new) (drop place old)

  abbrev now : List ℕ
  now = written place new old

  front : take place now ≡ take place old
  front = (torn_written place new old fits).before

  size : length kept ≡ min (length new) (length old - place)
  size = omega (arith, length-take (length new) (drop place old), length-drop place old)

  within : length new ≤ length old - place → written place kept now ≡ old
  within short =
      let long : place + length kept ≡ place + length new = omega (arith, size, short) in
      (λ i. (front i ++ kept) ++ drop (long i) now)
      ∙ ap (λ (l : List ℕ). (take place old ++ kept) ++ l) ((torn_written place new old fits).after (omega (arith, short, fits)) ∙ sym (drop-drop (length new) place old))
      ∙ append_assoc (take place old) kept (drop (length new) (drop place old))
      ∙ ap (λ (l : List ℕ). take place old ++ l) (take-append-drop (length new) (drop place old))
      ∙ take-append-drop place old

  past : length old - place ≤ length new → written place kept now ≡ old ++ drop (length old - place) new
  past long =
      let all : kept ≡ drop place old = take_all (length new) (drop place old) (omega (arith, length-drop place old, long)) in
      let is : now ≡ take place old ++ new = ap (λ (l : List ℕ). (take place old ++ new) ++ l) (drop_all (place + length new) old (omega (arith, long))) ∙ append-nil (take place old ++ new) in
      let k : length kept ≡ length old - place = omega (arith, size, long) in
      let behind : drop (place + length kept) now ≡ drop (length old - place) new = sym (drop-drop (length kept) place now) ∙ ap (λ (l : List ℕ). drop (length kept) (drop place l)) is ∙ ap (drop (length kept)) (drop_at (take place old) new place (length-take-le place old fits)) ∙ ap (λ (n : ℕ). drop n new) k in
      (λ i. (front i ++ all i) ++ behind i) ∙ ap (λ (l : List ℕ). l ++ drop (length old - place) new) (take-append-drop place old)

  pub undone_write : (more : List ℕ) × (written place kept now ≡ old ++ more)
  undone_write = elim (cases_lt (length old - place) (length new)) [
    | inl grows ↦ (drop (length old - place) new, past (omega (arith, grows)))
    | inr stays ↦ ([], within stays ∙ sym (append-nil old))
  ]

-- a write leaves what the last sync left
pub kept_wrote : (place : ℕ) (new : List ℕ) (f : KeptBytes) → f.synced ≤ length f.bytes → AreWithin f.undo (length f.bytes) → place ≤ length f.bytes → kept_to 0 (wrote place new f) ≡ kept_to 0 f
kept_wrote place new f synced inside fits =
    let u : Undone = (place, take (length new) (drop place f.bytes)) in
    let now = written place new f.bytes in
    let none : min (0 - place) (length u.1) ≡ 0 = omega arith in
    let at : place + 0 ≡ place = omega arith in
    let more = undone_write place new f.bytes fits in
    let whole : restored 0 u now ≡ f.bytes ++ more.0 = ap (λ (k : ℕ). written (place + k) (drop k u.1) now) none ∙ ap (λ (p : ℕ). written p u.1 now) at ∙ more.1 in
    let back : rolled 0 (f.undo ++ u ∷ []) now ≡ rolled 0 f.undo f.bytes ++ more.0 = rolled-push 0 f.undo u now ∙ ap (rolled 0 f.undo) whole ∙ rolled-behind 0 f.undo f.bytes more.0 inside in
    let count : max f.synced (min 0 (length now)) ≡ f.synced = omega arith in
    let count_too : max f.synced (min 0 (length f.bytes)) ≡ f.synced = omega arith in
    (λ i. take (count i) (back i))
    ∙ take-append-le f.synced (rolled 0 f.undo f.bytes) more.0 (omega (arith, length-rolled 0 f.undo f.bytes inside, synced))
    ∙ ap (λ (n : ℕ). take n (rolled 0 f.undo f.bytes)) (sym count_too)

-- where one name has another file, from which the last sync left the same
pub update_synced : (name : Name) (f g : KeptBytes) (old new : Rows) → file_at name old ≡ Some f → kept_to 0 g ≡ kept_to 0 f → IsUpdate name (Some g) old new → KeepsSynced old new
update_synced name f g old new was same update = record {
  each = λ q. ⊎_elim
      (λ (at : q ≡ name). subst (λ (n : Name). synced_at n new ≡ synced_at n old) (sym at) (ap synced_of (update_here name (Some g) old new update) ∙ ap (λ (l : List ℕ). Some l) same ∙ sym (ap synced_of was)))
      (λ (ne : q ≢ name). ap synced_of (update_other name q (Some g) old new update ne))
      (same_name q name);
}

pub same_synced : (old new : Rows) → new ≡ old → KeepsSynced old new
same_synced old new same = record { each = λ q. ap (synced_at q) same }

-- a crash whose pick says so leaves what the last sync left
pub crashed_synced : (pick count left : ℕ) (rows next : Rows) → pick % 4 ≡ 1 → Crashed pick count None rows next left → (q : Name) → file_bytes (file_at q next) ≡ synced_at q rows
crashed_synced pick count left [] [] one crashed q = refl
crashed_synced pick count left (r ∷ rs) (s ∷ ss) one (between, (same, row, rest)) q =
    ap (λ (n : Name). file_bytes (cond (eq_by_cmp name_cmp q n) (Some s.1) (file_at q ss))) same
    ∙ by_case (eq_by_cmp name_cmp q r.0) (file_at q ss) (file_at q rs) ((row.picked refl).0.as_synced one) (crashed_synced pick between left rs ss one rest q)
  where
    by_case : (b : Bool) (x y : Option KeptBytes) → s.1.bytes ≡ kept_to 0 r.1 → file_bytes x ≡ synced_of y → file_bytes (cond b (Some s.1) x) ≡ synced_of (cond b (Some r.1) y)
    by_case true x y is later = ap (λ (l : List ℕ). Some l) is
    by_case false x y is later = later
crashed_synced pick count left [] (s ∷ ss) one crashed q = absurd crashed
crashed_synced pick count left (r ∷ rs) [] one crashed q = absurd crashed
