-- How entries that are added in order follow each other, from any entry predicate E.
use Rattle.std.proofs.Common.{false, List, [], ◌∷◌, ◌++◌, ◌≡◌, refl, sym, ap, ◌∙◌, append_assoc, append-nil}
use Rattle.std.specs.Prelude.{fold}
use Rattle.std.specs.List.{AllByRecursion}
use Rattle.std.proofs.lemmas.List.Folds.{list_any-append}
use Rattle.std.proofs.lemmas.List.Sums.{fold-append}
use Rattle.dkg_infos.specs.declared.entry.Entry.{Entry}
use Rattle.dkg_script.specs.Ends.{EndsWell, is_fault}
use Rattle.dkg_script.specs.Progress.{Progress, read}
use Rattle.dkg_script.specs.Setting.{Setting}
use Rattle.dkg_lives.proofs.Standing.{Each, Moves, AddsQuiet}

-- LISTS

none_of_both : (xs ys : List Entry) → EndsWell xs → EndsWell ys → EndsWell (xs ++ ys)
none_of_both xs ys none more = rw (list_any-append is_fault xs ys, none) more

pub all_of_both : (P : Entry → Type 0) (xs ys : List Entry) → AllByRecursion P xs → AllByRecursion P ys → AllByRecursion P (xs ++ ys)
all_of_both P [] ys all more = more
all_of_both P (x ∷ xs) ys all more = (all.0, all_of_both P xs ys all.1 more)

-- QUIET ENTRIES

pub quiet_none : (old new : List Entry) → new ≡ old → AddsQuiet old new
quiet_none old new same = record { added = []; parts = same ∙ sym (append-nil old); quiet = tt }

-- MOVES

pub each_of_both : (s : Setting) (E : Progress → Entry → Type 0) (xs ys : List Entry) (p : Progress)
    → Each s E p xs → Each s E (fold (read s) p xs) ys → Each s E p (xs ++ ys)
each_of_both s E [] ys p each more = more
each_of_both s E (x ∷ xs) ys p each more = (each.0, each_of_both s E xs ys (read s p x) each.1 more)

pub moves_none : (E : Setting → Progress → Entry → Type 0) (P Q : Setting → Progress → Type 0) (old new : List Entry)
    → new ≡ old → ((s : Setting) (p : Progress) → P s p → Q s p) → Moves E P Q old new
moves_none E P Q old new same to = record {
  added = [];
  parts = same ∙ sym (append-nil old);
  each = λ s p is. tt;
  to = to;
  no_fault = refl;
}

pub moves_one : (E : Setting → Progress → Entry → Type 0) (P Q : Setting → Progress → Type 0) (old new : List Entry) (one : Entry)
    → new ≡ old ++ one ∷ [] → ((s : Setting) (p : Progress) → P s p → E s p one) → ((s : Setting) (p : Progress) → P s p → Q s (read s p one))
    → is_fault one ≡ false → Moves E P Q old new
moves_one E P Q old new one is each to no_fault = record {
  added = one ∷ [];
  parts = is;
  each = λ s p from. (each s p from, tt);
  to = to;
  no_fault = rw no_fault refl;
}

pub moves_then : (E : Setting → Progress → Entry → Type 0) (P Q R : Setting → Progress → Type 0) (old mid new : List Entry)
    → Moves E P Q old mid → Moves E Q R mid new → Moves E P R old new
moves_then E P Q R old mid new a b = record {
  added = a.added ++ b.added;
  parts = b.parts ∙ ap (λ xs. xs ++ b.added) a.parts ∙ append_assoc old a.added b.added;
  each = λ s p is. each_of_both s (E s) a.added b.added p (a.each s p is) (b.each s (fold (read s) p a.added) (a.to s p is));
  to = λ s p is. rw (fold-append (read s) p a.added b.added) (b.to s (fold (read s) p a.added) (a.to s p is));
  no_fault = none_of_both a.added b.added a.no_fault b.no_fault;
}

-- from a stronger condition, to a weaker one
pub moves_within : (E : Setting → Progress → Entry → Type 0) (P P' Q Q' : Setting → Progress → Type 0) (old new : List Entry)
    → ((s : Setting) (p : Progress) → P' s p → P s p) → ((s : Setting) (p : Progress) → Q s p → Q' s p)
    → Moves E P Q old new → Moves E P' Q' old new
moves_within E P P' Q Q' old new from to a = record {
  added = a.added;
  parts = a.parts;
  each = λ s p is. a.each s p (from s p is);
  to = λ s p is. to s (fold (read s) p a.added) (a.to s p (from s p is));
  no_fault = a.no_fault;
}
