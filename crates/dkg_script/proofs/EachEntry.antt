-- Laws of `AtEachEntry`: by recursion for a given transcript, and one entry more for a running one.
use Rattle.std.proofs.Common.{◌⊎◌, inl, inr, Option, Some, None, List, [], ◌∷◌, ◌++◌, ◌≡◌, refl, ap, subst, sym, ◌∙◌, append_assoc}
use Rattle.std.specs.Prelude.{fold}
use Rattle.dkg_infos.specs.declared.entry.Entry.{Entry}
use Rattle.dkg_script.specs.Setting.{Setting}
use Rattle.dkg_script.specs.Progress.{Progress, read, at_start, progress, AtEachEntry, with_restored, pair_of}
use Rattle.dkg_infos.specs.declared.entry.Restored.{Restored}
use Rattle.dkg_journal.specs.Names.{Files}
use Rattle.dkg_script.specs.Kept.{IsSound, IsDurable, IsRecordedAs}
use Rattle.dkg_script.specs.Laws.{StaysKept, StaysInOrder, OwnMarksStandBefore}
use Rattle.dkg_script.specs.Order.{InOrder, IsInOrder}
use Rattle.dkg_script.specs.OwnMarks.{IsKnownAt}

-- P of each of these entries, over the progress so far
abbrev pub EachAfter : Setting → (Progress → Entry → Type 0) → Progress → List Entry → Type 0
EachAfter s P p [] = Unit {0}
EachAfter s P p (entry ∷ entries) = P p entry × EachAfter s P (read s p entry) entries

at_split : (s : Setting) (P : Progress → Entry → Type 0) (before : List Entry) (entry : Entry) (after : List Entry) (p : Progress)
    → EachAfter s P p (before ++ entry ∷ after) → P (fold (read s) p before) entry
at_split s P [] entry after p each = each.0
at_split s P (first ∷ before) entry after p each = at_split s P before entry after (read s p first) each.1

-- what holds by recursion holds at each entry
pub at_each : (s : Setting) (P : Progress → Entry → Type 0) (out : List Entry) → EachAfter s P (at_start s) out → AtEachEntry s P out
unfolding progress
at_each s P out each before entry after e =
    at_split s P before entry after (at_start s) (subst (λ o. EachAfter s P (at_start s) o) e each)

pub all_splits : (s : Setting) (P : Progress → Entry → Type 0) (out : List Entry) (p : Progress)
    → ((before : List Entry) (entry : Entry) (after : List Entry) → out ≡ before ++ entry ∷ after → P (fold (read s) p before) entry)
    → EachAfter s P p out
all_splits s P [] p at = tt
all_splits s P (first ∷ out) p at =
    (at [] first out refl, all_splits s P out (read s p first) (λ before entry after e. at (first ∷ before) entry after (ap (λ o. first ∷ o) e)))

each_more : (s : Setting) (P : Progress → Entry → Type 0) (out : List Entry) (p : Progress) (entry : Entry)
    → EachAfter s P p out → P (fold (read s) p out) entry → EachAfter s P p (out ++ entry ∷ [])
each_more s P [] p entry each new = (new, tt)
each_more s P (first ∷ out) p entry each new = (each.0, each_more s P out (read s p first) entry each.1 new)

-- one entry more, for a loop
pub at_each_more : (s : Setting) (P : Progress → Entry → Type 0) (out : List Entry) (entry : Entry)
    → AtEachEntry s P out → P (progress s out) entry → AtEachEntry s P (out ++ entry ∷ [])
unfolding progress
at_each_more s P out entry each new = at_each s P (out ++ entry ∷ []) (each_more s P out (at_start s) entry (all_splits s P out (at_start s) each) new)

-- what holds at each entry holds at each of the first
pub at_each_first : (s : Setting) (P : Progress → Entry → Type 0) (first more : List Entry) → AtEachEntry s P (first ++ more) → AtEachEntry s P first
at_each_first s P first more at before entry after e =
    at before entry (after ++ more) (ap (λ o. o ++ more) e ∙ append_assoc before (entry ∷ after) more)

fold_more : (s : Setting) (out : List Entry) (p : Progress) (entry : Entry) → fold (read s) p (out ++ entry ∷ []) ≡ read s (fold (read s) p out) entry
fold_more s [] p entry = refl
fold_more s (first ∷ out) p entry = fold_more s out (read s p first) entry

pub progress-more : (s : Setting) (out : List Entry) (entry : Entry) → progress s (out ++ entry ∷ []) ≡ read s (progress s out) entry
unfolding progress
progress-more s out entry = fold_more s out (at_start s) entry

-- The dealings recorded grow as the plain definition says: by a pair whose key is new and which was brought, and by no other.
pub grows_as_defined : (pairs : List Restored) (pair : Restored) (Brought : Type 0) → IsRecordedAs pairs (with_restored pairs pair) pair Brought
    → ((pair_of pairs pair.epoch pair.dealer ≡ None) × Brought × (with_restored pairs pair ≡ pairs ++ pair ∷ []))
    ⊎ ((pair_of pairs pair.epoch pair.dealer ≡ Some pair) × (with_restored pairs pair ≡ pairs))
grows_as_defined pairs pair Brought is = by_case (pair_of pairs pair.epoch pair.dealer) refl
  where
    same : (x : Restored) → pair_of pairs pair.epoch pair.dealer ≡ Some x → with_restored pairs pair ≡ pairs
    same x e = rw e

    new : pair_of pairs pair.epoch pair.dealer ≡ None → with_restored pairs pair ≡ pairs ++ pair ∷ []
    new e = rw e

    by_case : (o : Option Restored) → pair_of pairs pair.epoch pair.dealer ≡ o
        → ((pair_of pairs pair.epoch pair.dealer ≡ None) × Brought × (with_restored pairs pair ≡ pairs ++ pair ∷ []))
        ⊎ ((pair_of pairs pair.epoch pair.dealer ≡ Some pair) × (with_restored pairs pair ≡ pairs))
    by_case None e = inl (e, is.first e, new e)
    by_case (Some x) e = let kept : with_restored pairs pair ≡ pairs = same x e
        in inr (subst (λ xs. pair_of xs pair.epoch pair.dealer ≡ Some pair) kept is.stays, kept)

-- .. so the promise and the order are carried through a loop
pub stays_kept : {D : Type 0} (image : D → Files → Type 0) → StaysKept image
stays_kept image s out entry disk disk_now secrets secrets_now kept sound durable = record {
  each = at_each_more s (IsSound s) out entry kept.each sound;
  durable = subst (λ p. IsDurable s p (image disk_now) secrets_now) (sym (progress-more s out entry)) durable;
}

pub stays_in_order : StaysInOrder
unfolding InOrder
stays_in_order s out entry ordered next = at_each_more s (IsInOrder s) out entry ordered next

-- so that no premise on logs is needed of what comes after a step
pub own_marks_stand_before : OwnMarksStandBefore
own_marks_stand_before s first more marks =
    record { delivered = at_each_first s (IsKnownAt s) first more marks.delivered; handed_in = marks.handed_in }
