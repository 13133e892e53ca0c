-- What is found of a journal's segments, one behind the other.
use Rattle.std.proofs.Common.{◌≡◌, ◌⊎◌, ⊎_elim, ℕ, ◌<◌, ◌≤◌, Bool, true, false, cond, List, [], ◌∷◌, ◌++◌, map, length, drop, get_or, Option, Some, None, Result, Err, refl, sym, ◌∙◌, ap, subst, arith, append_assoc}
use Rattle.std.specs.Prelude.{T, flat_map, filter}
use Rattle.std.specs.Ordering.{eq_by_cmp, nat_cmp}
use Rattle.std.specs.Cmp.{nat_cmp_total}
use Rattle.std.specs.FinMap as map_of
use Rattle.std.specs.FinMap.{get, find, keys, insert, empty, get-entries, get-insert, get-empty, entries_sorted, get-from_entries, from_entries, from_sorted, entries-from_sorted, get-from_sorted, same_map, nat_cmp-IsAntisymmetric}
use Rattle.std.specs.FinMap.Entries.{is_sorted, find-append}
use Rattle.std.proofs.lemmas.List.{append-nil}
use Rattle.std.proofs.lemmas.Option.{same_Some, none-some}
use Rattle.dkg_values.specs.declared.name.Name.{Name}
use Rattle.dkg_values.specs.declared.name.Name.TheVariants.{Plan, Flat, Segment}
use Rattle.dkg_journal.specs.Names.{Files, name_cmp, name_number}
use Rattle.dkg_journal.specs.Disk.{IsUnchanged}
use Rattle.dkg_journal.specs.Records.{Whole, broken_at}
use Rattle.dkg_journal.specs.Gated.{gated, gated_from}
use Rattle.dkg_journal.specs.Places.{Places, place_at, flat_place}
use Rattle.dkg_journal.specs.Found.{EndsAtPlace, FindsSegments, IsWholeFlat, Takes, gated_row}
use Rattle.dkg_journal.specs.Opening.{first_break, broken_rows, broken_with, first_place, mend_at, mend_of, mends, open_calls_with, removes, is_unnamed}
use Rattle.dkg_journal.specs.Segments.{Segments, parted, segment_rows, segments, segments_with}
use Rattle.dkg_journal.specs.declared.call.JournalError.{JournalError}
use Rattle.dkg_journal.specs.declared.call.JournalError.TheVariants.{Corrupt, NoMemory}
use Rattle.dkg_journal.specs.declared.disk.Op.{Op}
use Rattle.dkg_journal.specs.declared.disk.Op.TheVariants.{Install, Remove}
use Rattle.dkg_journal.specs.declared.opening.JournalEntry.{JournalEntry}
use Rattle.dkg_journal.proofs.Parted.{part_whole}
use Rattle.dkg_journal.proofs.Reading.{rest_size, whole_bodies, whole_rest, whole_unbroken}
use Rattle.dkg_journal.proofs.Rising.{not_before, find_middle}
use Rattle.dkg_journal.proofs.Unbroken.{rows_find, file_rows_sorted, rows_unbroken}

pub flat_both : {A B : Type 0} (f : A → List B) (xs ys : List A) → flat_map f (xs ++ ys) ≡ flat_map f xs ++ flat_map f ys
flat_both f [] ys = refl
flat_both f (x ∷ xs) ys = ap (λ l. f x ++ l) (flat_both f xs ys) ∙ sym (append_assoc (f x) (flat_map f xs) (flat_map f ys))

flat_push : {A B : Type 0} (f : A → List B) (xs : List A) (y : A) → flat_map f (xs ++ y ∷ []) ≡ flat_map f xs ++ f y
flat_push f xs y = flat_both f xs (y ∷ []) ∙ ap (λ l. flat_map f xs ++ l) (append-nil (f y))

-- the call that mends one segment
module _ (section : ℕ) (bytes : List ℕ) (bs : List (List ℕ)) (place : ℕ) (whole : Whole 0 bs place bytes) where
  pub mend_none : place < length bytes → mend_of (section, bytes) ≡ []
  mend_none low = ap (mend_at section bytes) (whole_rest 0 bs place bytes whole) ∙ by_rest whole.rest (omega (arith, low, rest_size 0 bs place bytes whole))
    where
      by_rest : (rest : List ℕ) → 0 < length rest → mend_at section bytes rest ≡ []
      by_rest [] long = absurd (omega (arith, long))
      by_rest (gate ∷ rest) long = refl

  pub mend_some : length bytes ≤ place → mend_of (section, bytes) ≡ Install (Segment section) (bytes ++ 0 ∷ []) ∷ []
  mend_some ended = ap (mend_at section bytes) (whole_rest 0 bs place bytes whole) ∙ by_rest whole.rest (omega (arith, ended, rest_size 0 bs place bytes whole))
    where
      by_rest : (rest : List ℕ) → length rest ≤ 0 → mend_at section bytes rest ≡ Install (Segment section) (bytes ++ 0 ∷ []) ∷ []
      by_rest [] none = refl
      by_rest (gate ∷ rest) none = absurd (omega (arith, none))

broken_push : (rows : List (ℕ × List ℕ)) (section : ℕ) (bytes : List ℕ) → broken_rows rows ≡ None → broken_at 0 bytes ≡ None → broken_rows (rows ++ (section, bytes) ∷ []) ≡ None
broken_push [] section bytes none whole = ap (λ (o : Option ℕ). first_place (Segment section) o None) whole
broken_push (r ∷ rows) section bytes none whole = by_first (broken_at 0 r.1) none (λ is. broken_push rows section bytes is whole)
  where
    by_first : (o : Option ℕ) → first_place (Segment r.0) o (broken_rows rows) ≡ None → (broken_rows rows ≡ None → broken_rows (rows ++ (section, bytes) ∷ []) ≡ None) → first_place (Segment r.0) o (broken_rows (rows ++ (section, bytes) ∷ [])) ≡ None
    by_first None is later = later is
    by_first (Some p) is later = absurd (none-some (Segment r.0, p) (sym is))

-- the first that isn't whole
pub broken_found : (done : List (ℕ × List ℕ)) (section : ℕ) (bytes : List ℕ) (place : ℕ) (rest : List (ℕ × List ℕ)) → broken_rows done ≡ None → broken_at 0 bytes ≡ Some place → broken_rows (done ++ (section, bytes) ∷ rest) ≡ Some (Segment section, place)
broken_found [] section bytes place rest none is = ap (λ (o : Option ℕ). first_place (Segment section) o (broken_rows rest)) is
broken_found (r ∷ done) section bytes place rest none is = by_first (broken_at 0 r.1) none (λ later. broken_found done section bytes place rest later is)
  where
    by_first : (o : Option ℕ) → first_place (Segment r.0) o (broken_rows done) ≡ None → (broken_rows done ≡ None → broken_rows (done ++ (section, bytes) ∷ rest) ≡ Some (Segment section, place)) → first_place (Segment r.0) o (broken_rows (done ++ (section, bytes) ∷ rest)) ≡ Some (Segment section, place)
    by_first None none later = later none
    by_first (Some p) none later = absurd (none-some (Segment r.0, p) (sym none))

pub takes_none : (before : List Op) (waiting : List JournalEntry) (places : Places) (mending : List Op) → waiting ≡ [] → places ≡ empty → mending ≡ before → Takes before [] waiting places mending
takes_none before waiting places mending no_entry no_place none = record {
  listed = ap (map gated) no_entry;
  ends = λ s. subst (λ (o : Option ℕ). EndsAtPlace o None) (sym (ap (λ (m : Places). flat_place (get m s)) no_place ∙ ap flat_place (get-empty nat_cmp s))) refl;
  mended = none ∙ sym (append-nil before);
  unbroken = refl;
}

-- one segment more
pub takes_more : (before : List Op) (rows : List (ℕ × List ℕ)) (section : ℕ) (bytes : List ℕ) (bs : List (List ℕ)) (place : ℕ) (waiting waiting' : List JournalEntry) (places places' : Places) (mending mending' : List Op)
    → find nat_cmp section rows ≡ None → Takes before rows waiting places mending → Whole 0 bs place bytes → map gated waiting' ≡ map gated waiting ++ gated_from section 0 bs → places' ≡ insert places section (Some place)
    → mending' ≡ mending ++ mend_of (section, bytes) → Takes before (rows ++ (section, bytes) ∷ []) waiting' places' mending'
takes_more before rows section bytes bs place waiting waiting' places places' mending mending' none takes whole listed put mended = record {
  listed = listed ∙ (λ i. takes.listed i ++ gated_from section 0 (sym (whole_bodies 0 bs place bytes whole) i)) ∙ sym (flat_push gated_row rows (section, bytes));
  ends = λ s.
      let at : find nat_cmp s (rows ++ (section, bytes) ∷ []) ≡ cond (eq_by_cmp nat_cmp s section) (Some bytes) (find nat_cmp s rows) = find-append nat_cmp nat_cmp_total rows section bytes s none in
      let new : place_at places' s ≡ flat_place (cond (eq_by_cmp nat_cmp s section) (Some (Some place)) (get places s)) = ap (λ (m : Places). flat_place (get m s)) put ∙ ap flat_place (get-insert nat_cmp_total places section (Some place) s) in
      subst (λ (o : Option ℕ). EndsAtPlace o (find nat_cmp s (rows ++ (section, bytes) ∷ []))) (sym new) (subst (λ (o : Option (List ℕ)). EndsAtPlace (flat_place (cond (eq_by_cmp nat_cmp s section) (Some (Some place)) (get places s))) o) (sym at) (by_test s (eq_by_cmp nat_cmp s section)));
  mended = mended ∙ ap (λ (l : List Op). l ++ mend_of (section, bytes)) takes.mended ∙ append_assoc before (mends rows) (mend_of (section, bytes)) ∙ ap (λ (l : List Op). before ++ l) (sym (flat_push mend_of rows (section, bytes)));
  unbroken = broken_push rows section bytes takes.unbroken (whole_unbroken 0 bs place bytes whole);
}
  where
    by_test : (s : ℕ) (b : Bool) → EndsAtPlace (flat_place (cond b (Some (Some place)) (get places s))) (cond b (Some bytes) (find nat_cmp s rows))
    by_test s true = (bs, bytes, refl, whole)
    by_test s false = takes.ends s

-- ALONG THE NAMES OF A DISK'S FILES

rows_both : (xs ys : List (Name × List ℕ)) → segment_rows (xs ++ ys) ≡ segment_rows xs ++ segment_rows ys
rows_both [] ys = refl
rows_both ((Plan, v) ∷ xs) ys = rows_both xs ys
rows_both ((Flat, v) ∷ xs) ys = rows_both xs ys
rows_both ((Segment s, v) ∷ xs) ys = ap (λ (l : List (ℕ × List ℕ)). (s, v) ∷ l) (rows_both xs ys)

-- of these rows the first were taken in, and those of the names are still to come
pub record Along (es : List (Name × List ℕ)) (names : List Name) (waiting : List JournalEntry) (places : Places) (mending : List Op) : Type 0 where
  pub done : List (Name × List ℕ)
  pub rest : List (Name × List ℕ)
  pub split : es ≡ done ++ rest
  pub left : names ≡ map (λ (e : Name × List ℕ). e.0) rest
  pub takes : Takes [] (segment_rows done) waiting places mending

pub along_none : (es : List (Name × List ℕ)) (names : List Name) (waiting : List JournalEntry) (places : Places) (mending : List Op) → names ≡ map (λ (e : Name × List ℕ). e.0) es → waiting ≡ [] → places ≡ empty → mending ≡ [] → Along es names waiting places mending
along_none es names waiting places mending is no_entry no_place none = record { done = []; rest = es; split = refl; left = is; takes = takes_none [] waiting places mending no_entry no_place none }

-- the next row, and those behind it
pub record Next (es : List (Name × List ℕ)) (name : Name) (names : List Name) (done : List (Name × List ℕ)) : Type 0 where
  pub bytes : List ℕ
  pub rest : List (Name × List ℕ)
  pub split : es ≡ done ++ (name, bytes) ∷ rest
  pub left : names ≡ map (λ (e : Name × List ℕ). e.0) rest

pub next_row : (es : List (Name × List ℕ)) (name : Name) (names : List Name) (done rest : List (Name × List ℕ)) → es ≡ done ++ rest → name ∷ names ≡ map (λ (e : Name × List ℕ). e.0) rest → Next es name names done
next_row es name names done [] split left = absurd (omega (arith, ap length left))
next_row es name names done (r ∷ rest) split left =
    let head : name ≡ r.0 = ap (λ (l : List Name). get_or l 0 name) left in
    record {
      bytes = r.1;
      rest = rest;
      split = split ∙ ap (λ (n : Name). done ++ (n, r.1) ∷ rest) (sym head);
      left = ap (drop 1) left;
    }

pushed_rows : (es : List (Name × List ℕ)) (name : Name) (bytes : List ℕ) (done rest : List (Name × List ℕ)) → es ≡ done ++ (name, bytes) ∷ rest → es ≡ (done ++ (name, bytes) ∷ []) ++ rest
pushed_rows es name bytes done rest split = split ∙ sym (append_assoc done ((name, bytes) ∷ []) rest)

module _ (es : List (Name × List ℕ)) (name : Name) (names : List Name) (waiting : List JournalEntry) (places : Places) (mending : List Op) (along : Along es (name ∷ names) waiting places mending) where
  row : Next es name names along.done
  row = next_row es name names along.done along.rest along.split along.left

  -- .. is no segment
  pub along_skip : ((v : List ℕ) → segment_rows ((name, v) ∷ []) ≡ []) → Along es names waiting places mending
  along_skip none = record {
    done = along.done ++ (name, row.bytes) ∷ [];
    rest = row.rest;
    split = pushed_rows es name row.bytes along.done row.rest row.split;
    left = row.left;
    takes = subst (λ (l : List (ℕ × List ℕ)). Takes [] l waiting places mending) (sym (rows_both along.done ((name, row.bytes) ∷ []) ∙ ap (λ (l : List (ℕ × List ℕ)). segment_rows along.done ++ l) (none row.bytes) ∙ append-nil (segment_rows along.done))) along.takes;
  }

  module _ (sorted : T (is_sorted name_cmp es)) where
    sorted_here : T (is_sorted name_cmp (along.done ++ (name, row.bytes) ∷ row.rest))
    sorted_here = subst (λ (l : List (Name × List ℕ)). T (is_sorted name_cmp l)) row.split sorted

    here : find name_cmp name es ≡ Some row.bytes
    here = ap (λ (l : List (Name × List ℕ)). find name_cmp name l) row.split ∙ find_middle name_number along.done name row.bytes row.rest sorted_here

    -- .. is there
    pub along_there : find name_cmp name es ≡ None → ⊥
    along_there none = none-some row.bytes (sym none ∙ here)

    module _ (section : ℕ) (is : name ≡ Segment section) (bytes : List ℕ) (read : find name_cmp name es ≡ Some bytes) where
      same : row.bytes ≡ bytes
      same = same_Some row.bytes bytes (sym here ∙ read)

      fresh : find nat_cmp section (segment_rows along.done) ≡ None
      fresh = rows_find section along.done ∙ ap (λ (n : Name). find name_cmp n along.done) (sym is) ∙ not_before name_number along.done name row.bytes row.rest sorted_here

      split_rows : (ys : List (Name × List ℕ)) → segment_rows (along.done ++ (name, row.bytes) ∷ ys) ≡ segment_rows along.done ++ (section, bytes) ∷ segment_rows ys
      split_rows ys = rows_both along.done ((name, row.bytes) ∷ ys) ∙ (λ i. segment_rows along.done ++ segment_rows ((is i, same i) ∷ ys))

      -- .. and is taken in
      pub along_more : (waiting' : List JournalEntry) (places' : Places) (mending' : List Op) → ((before : List Op) (rows : List (ℕ × List ℕ)) → find nat_cmp section rows ≡ None → Takes before rows waiting places mending → Takes before (rows ++ (section, bytes) ∷ []) waiting' places' mending') → Along es names waiting' places' mending'
      along_more waiting' places' mending' step = record {
        done = along.done ++ (name, row.bytes) ∷ [];
        rest = row.rest;
        split = pushed_rows es name row.bytes along.done row.rest row.split;
        left = row.left;
        takes = subst (λ (l : List (ℕ × List ℕ)). Takes [] l waiting' places' mending') (sym (split_rows [])) (step [] (segment_rows along.done) fresh along.takes);
      }

      -- .. or isn't whole
      pub along_broken : (place : ℕ) → broken_at 0 bytes ≡ Some place → broken_rows (segment_rows es) ≡ Some (Segment section, place)
      along_broken place first_break = ap (λ (l : List (Name × List ℕ)). broken_rows (segment_rows l)) row.split ∙ ap broken_rows (split_rows row.rest) ∙ broken_found (segment_rows along.done) section bytes place (segment_rows row.rest) along.takes.unbroken first_break

pub along_all : (es : List (Name × List ℕ)) (waiting : List JournalEntry) (places : Places) (mending : List Op) → Along es [] waiting places mending → Takes [] (segment_rows es) waiting places mending
along_all es waiting places mending along = by_rest along.rest along.split along.left
  where
    by_rest : (rest : List (Name × List ℕ)) → es ≡ along.done ++ rest → [] ≡ map (λ (e : Name × List ℕ). e.0) rest → Takes [] (segment_rows es) waiting places mending
    by_rest [] split left = subst (λ (l : List (Name × List ℕ)). Takes [] (segment_rows l) waiting places mending) (sym (split ∙ append-nil along.done)) along.takes
    by_rest (r ∷ rest) split left = absurd (omega (arith, ap length left))

-- ALONG THE SEGMENTS OF A FLAT FILE

pub record AlongParts (before : List Op) (es left : List (ℕ × List ℕ)) (waiting : List JournalEntry) (places : Places) (mending : List Op) : Type 0 where
  pub done : List (ℕ × List ℕ)
  pub split : es ≡ done ++ left
  pub takes : Takes before done waiting places mending

module _ (before : List Op) (es : List (ℕ × List ℕ)) (section : ℕ) (bytes : List ℕ) (left : List (ℕ × List ℕ)) (waiting : List JournalEntry) (places : Places) (mending : List Op) (along : AlongParts before es ((section, bytes) ∷ left) waiting places mending) where
  pub parts_more : T (is_sorted nat_cmp es) → (waiting' : List JournalEntry) (places' : Places) (mending' : List Op) → ((before : List Op) (rows : List (ℕ × List ℕ)) → find nat_cmp section rows ≡ None → Takes before rows waiting places mending → Takes before (rows ++ (section, bytes) ∷ []) waiting' places' mending') → AlongParts before es left waiting' places' mending'
  parts_more sorted waiting' places' mending' step = record {
    done = along.done ++ (section, bytes) ∷ [];
    split = along.split ∙ sym (append_assoc along.done ((section, bytes) ∷ []) left);
    takes = step before along.done (not_before (λ (n : ℕ). n) along.done section bytes left (subst (λ (l : List (ℕ × List ℕ)). T (is_sorted nat_cmp l)) along.split sorted)) along.takes;
  }

  pub parts_broken : (place : ℕ) → broken_at 0 bytes ≡ Some place → broken_rows es ≡ Some (Segment section, place)
  parts_broken place first_break = ap broken_rows along.split ∙ broken_found along.done section bytes place left along.takes.unbroken first_break

-- FOUND

-- the segments of a disk without a flat file
pub rows_entries : (f : Files) → map_of.entries (from_entries {R = nat_cmp} (segment_rows (map_of.entries f))) ≡ segment_rows (map_of.entries f)
rows_entries f =
    let rows = segment_rows (map_of.entries f) in
    let sorted = file_rows_sorted f in
    let same : from_entries {R = nat_cmp} rows ≡ from_sorted {R = nat_cmp} rows = same_map nat_cmp_total nat_cmp-IsAntisymmetric _ _ (λ q. get-from_entries nat_cmp_total rows q ∙ sym (get-from_sorted nat_cmp rows q sorted)) in
    ap (map_of.entries {K = ℕ} {X = List ℕ} {R = nat_cmp}) same ∙ entries-from_sorted nat_cmp rows sorted

module _ (f : Files) (none : get f Flat ≡ None) (waiting : List JournalEntry) (places : Places) (mending : List Op) (takes : Takes [] (segment_rows (map_of.entries f)) waiting places mending) where
  these : segments f ≡ from_entries {R = nat_cmp} (segment_rows (map_of.entries f))
  these = ap (λ (o : Option (List ℕ)). segments_with o f) none

  these_rows : map_of.entries (segments f) ≡ segment_rows (map_of.entries f)
  these_rows = ap (map_of.entries {K = ℕ} {X = List ℕ} {R = nat_cmp}) these ∙ rows_entries f

  pub finds_segments : FindsSegments f waiting places mending
  finds_segments = record {
    listed = takes.listed ∙ ap (flat_map gated_row) (sym these_rows);
    ends = λ s. subst (λ (o : Option (List ℕ)). EndsAtPlace (place_at places s) o) (sym (ap (λ (m : Segments). get m s) these ∙ get-from_entries nat_cmp_total (segment_rows (map_of.entries f)) s)) (takes.ends s);
    made = takes.mended ∙ ap mends (sym these_rows) ∙ sym (ap (λ (o : Option (List ℕ)). open_calls_with o f) none);
    unbroken = ap (λ (o : Option (List ℕ)). broken_with o f) none ∙ takes.unbroken;
    flat = subst IsWholeFlat (sym none) tt;
  }

-- .. and with one
module _ (f : Files) (file : List ℕ) (there : get f Flat ≡ Some file) (bs : List (List ℕ)) (place : ℕ) (whole : Whole 8 bs place file) where
  pub are_parted : segments f ≡ parted bs
  are_parted = ap (λ (o : Option (List ℕ)). segments_with o f) there ∙ ap parted (whole_bodies 8 bs place file whole)

  pub finds_parted : (names : List Name) (waiting : List JournalEntry) (places : Places) (mending mending' : List Op) → names ≡ keys f → Takes (removes (filter (is_unnamed (parted bs)) names)) (map_of.entries (parted bs)) waiting places mending → mending' ≡ mending ++ Remove Flat ∷ [] → FindsSegments f waiting places mending'
  finds_parted names waiting places mending mending' are takes pushed = record {
    listed = takes.listed ∙ ap (λ (m : Segments). flat_map gated_row (map_of.entries m)) (sym are_parted);
    ends = λ s. subst (λ (o : Option (List ℕ)). EndsAtPlace (place_at places s) o) (sym (get-entries (parted bs) s) ∙ ap (λ (m : Segments). get m s) (sym are_parted)) (takes.ends s);
    made = pushed ∙ ap (λ (l : List Op). l ++ Remove Flat ∷ []) takes.mended ∙ append_assoc (removes (filter (is_unnamed (parted bs)) names)) (mends (map_of.entries (parted bs))) (Remove Flat ∷ [])
        ∙ (λ i. removes (filter (is_unnamed (sym are_parted i)) (are i)) ++ (mends (map_of.entries (sym are_parted i)) ++ Remove Flat ∷ []))
        ∙ sym (ap (λ (o : Option (List ℕ)). open_calls_with o f) there);
    unbroken = ap (λ (o : Option (List ℕ)). broken_with o f) there ∙ ap (λ (o : Option ℕ). first_place Flat o None) (whole_unbroken 8 bs place file whole);
    flat = subst IsWholeFlat (sym there) (bs, place, whole);
  }

-- a part of a flat file is never broken
pub parted_unbroken : (bs : List (List ℕ)) (place : ℕ) (file : List ℕ) → Whole 8 bs place file → broken_rows (map_of.entries (parted bs)) ≡ None
parted_unbroken bs place file whole = rows_unbroken (map_of.entries (parted bs)) (entries_sorted (parted bs)) (λ s x is.
    whole_unbroken 0 _ _ x (part_whole s bs x whole.front.short (get-entries (parted bs) s ∙ is)))

-- an error of a segment that was read
pub taken_broken : (e : JournalError) (name : Name) (place section : ℕ) (bytes : List ℕ) (out : Option (Name × ℕ)) → e ≡ Corrupt name place → (e ≡ NoMemory) ⊎ ((p : ℕ) × (e ≡ Corrupt (Segment section) p) × (broken_at 0 bytes ≡ Some p)) → ((p : ℕ) → broken_at 0 bytes ≡ Some p → out ≡ Some (Segment section, p)) → out ≡ Some (name, place)
taken_broken e name place section bytes out is causes so = ⊎_elim
    (λ (want : e ≡ NoMemory). absurd (apart (sym want ∙ is)))
    (λ (cause : (p : ℕ) × (e ≡ Corrupt (Segment section) p) × (broken_at 0 bytes ≡ Some p)). so cause.0 cause.2 ∙ (λ i. Some (same_name cause.0 (sym cause.1 ∙ is) i, same_place cause.0 (sym cause.1 ∙ is) i)))
    causes
  where
    apart : NoMemory ≡ Corrupt name place → ⊥
    apart same = cc

    same_name : (p : ℕ) → Corrupt (Segment section) p ≡ Corrupt name place → Segment section ≡ name
    same_name p same = cc

    same_place : (p : ℕ) → Corrupt (Segment section) p ≡ Corrupt name place → p ≡ place
    same_place p same = cc

pub err_is : {T E : Type 0} (e x : E) → ◌≡◌ {A = Result T E} (Err e) (Err x) → e ≡ x
err_is e x same = cc

pub no_segment_row : (name : Name) → ((s : ℕ) → name ≡ Segment s → ⊥) → (v : List ℕ) → segment_rows ((name, v) ∷ []) ≡ []
no_segment_row Plan none v = refl
no_segment_row Flat none v = refl
no_segment_row (Segment s) none v = absurd (none s refl)

pub unchanged_then : {D : Type 0} (files : D → Files) (image : D → Files → Type 0) (a b c : D) → IsUnchanged files image a b → IsUnchanged files image b c → IsUnchanged files image a c
unchanged_then files image a b c first second = record { same_files = second.same_files ∙ first.same_files; same_images = λ f now. first.same_images f (second.same_images f now) }

pub parts_none : (before : List Op) (es left : List (ℕ × List ℕ)) (waiting : List JournalEntry) (places : Places) (mending : List Op) → es ≡ left → waiting ≡ [] → places ≡ empty → mending ≡ before → AlongParts before es left waiting places mending
parts_none before es left waiting places mending is no_entry no_place none = record { done = []; split = is; takes = takes_none before waiting places mending no_entry no_place none }

pub parts_step : (before : List Op) (es left left' : List (ℕ × List ℕ)) (waiting : List JournalEntry) (places : Places) (mending : List Op) → left ≡ left' → AlongParts before es left waiting places mending → AlongParts before es left' waiting places mending
parts_step before es left left' waiting places mending is along = subst (λ (l : List (ℕ × List ℕ)). AlongParts before es l waiting places mending) is along

pub parts_all : (before : List Op) (es : List (ℕ × List ℕ)) (waiting : List JournalEntry) (places : Places) (mending : List Op) → AlongParts before es [] waiting places mending → Takes before es waiting places mending
parts_all before es waiting places mending along = subst (λ (l : List (ℕ × List ℕ)). Takes before l waiting places mending) (sym (along.split ∙ append-nil along.done)) along.takes
