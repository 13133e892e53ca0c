-- What the calls of a disk in memory make of its images.
use Rattle.std.proofs.Common.{◌≡◌, ◌≢◌, ◌⊎◌, inl, inr, ⊎_elim, ℕ, ◌≤◌, ◌&&◌, Bool, true, cond, List, [], ◌∷◌, map, length, Option, Some, None, refl, sym, ◌∙◌, ap, subst}
use Rattle.std.proofs.lemmas.Bool.{cases_eq}
use Rattle.std.proofs.lemmas.Option.{same_Some, none-some}
use Rattle.std.specs.Ordering.{eq_by_cmp, is_eq, is_lt}
use Rattle.std.specs.declared.cmp.Ordering.TheVariants.{Less, Equal, Greater}
use Rattle.std.specs.FinMap.{get, insert, remove, get-from_entries, same_map, keys, entries, from_sorted, get-from_sorted, entries-from_sorted}
use Rattle.std.specs.FinMap.Entries.{is_sorted, below_all}
use Rattle.std.proofs.Math.Dec.{T}
use Rattle.std.proofs.lemmas.Cmp.{tied_itself}
use Rattle.dkg_values.specs.declared.name.Name.{Name}
use Rattle.dkg_journal.specs.Names.{Files, name_cmp, name_number, name_at, name_at-name_number}
use Rattle.dkg_journal.specs.Disk.{Inside, ImagesFollow, Did, HasFile, Torn, Lands as Left, after_write}
use Rattle.dkg_journal.specs.Kept.{KeptBytes, FileImage, settled, wrote}
use Rattle.dkg_journal.specs.Table.{Rows, file_at, IsUpdate, made_sure, FileLands, row_bytes, contents, file_bytes, get_contents, matches, MatchFile, RowsImage, reads_image}
use Rattle.dkg_journal.specs.Fuse.{counted}
use Rattle.dkg_journal.specs.DeviceCall.{CallMade}
use Rattle.dkg_journal.specs.Made.{Made, made_one, made_nothing}
use Rattle.dkg_journal.specs.declared.sure.SureDisk.{SureDisk}
use Rattle.dkg_journal.specs.declared.disk.Op.{Op}
use Rattle.dkg_journal.specs.declared.disk.Op.TheVariants.{WriteAt, Sync, Barrier, Install, Remove}
use Rattle.dkg_journal.proofs.Steps.{names_total, exact_names, get_here}
use Rattle.dkg_journal.proofs.AtOnce.{get_other, get_gone, gone_here, inside_none}
use Rattle.dkg_journal.proofs.Loose.{torn_file}
use Rattle.dkg_journal.proofs.Undone.{settled_only}

-- the same name, or another
by_name : (q name : Name) → (q ≡ name) ⊎ (q ≢ name)
by_name q name = elim (cases_eq (name_number q) (name_number name)) [
  | inl same ↦ inl (sym (name_at-name_number q) ∙ ap name_at same ∙ name_at-name_number name)
  | inr apart ↦ inr (λ e. apart (ap name_number e))
]

apart : (q name : Name) (x y : Option KeptBytes) → q ≢ name → cond (eq_by_cmp name_cmp q name) x y ≡ y
apart q name x y ne = elim (name_cmp q name) as (λ o. name_cmp q name ≡ o → cond (is_eq o) x y ≡ y) [
  | Less ↦ λ e. refl
  | Equal ↦ λ e. absurd (ne (exact_names q name e))
  | Greater ↦ λ e. refl
] refl

pub update_here : (name : Name) (o : Option KeptBytes) (old new : Rows) → IsUpdate name o old new → file_at name new ≡ o
update_here name o old new update = update name ∙ ap (λ r. cond (is_eq r) o (file_at name old)) (tied_itself names_total name)

pub update_other : (name q : Name) (o : Option KeptBytes) (old new : Rows) → IsUpdate name o old new → q ≢ name → file_at q new ≡ file_at q old
update_other name q o old new update ne = update q ∙ apart q name o (file_at q old) ne

-- what is left of a file of which nothing is loose
sure_only : (o : Option KeptBytes) (c : Option (List ℕ)) → MatchFile (made_sure o) c → c ≡ file_bytes o
sure_only None None image = refl
sure_only None (Some c) image = absurd image
sure_only (Some f) None image = absurd image
sure_only (Some f) (Some c) image = ap (λ (x : List ℕ). Some x) (settled_only f.bytes c image)

-- .. is one of its images
sure_narrows : (o : Option KeptBytes) (c : Option (List ℕ)) → MatchFile (made_sure o) c → MatchFile o c
sure_narrows o c image = subst (MatchFile o) (sym (sure_only o c image)) (matches o)

lands_only : (o p : Option KeptBytes) (c : Option (List ℕ)) → FileLands o p → MatchFile p c → c ≡ file_bytes p
lands_only None None None lands image = refl
lands_only None None (Some c) lands image = absurd image
lands_only None (Some g) c lands image = absurd lands
lands_only (Some f) None c lands image = absurd lands
lands_only (Some f) (Some g) None lands image = absurd image
lands_only (Some f) (Some g) (Some c) lands image = ap (λ (x : List ℕ). Some x) (settled_only g.bytes c (subst (λ (k : KeptBytes). FileImage k c) lands.1 image))

lands_image : (o p : Option KeptBytes) → FileLands o p → MatchFile o (file_bytes p)
lands_image None None lands = tt
lands_image (Some f) (Some g) lands = lands.0
lands_image None (Some g) lands = absurd lands
lands_image (Some f) None lands = absurd lands

same_contents : (rows : Rows) (c : Files) → ((q : Name) → get c q ≡ file_bytes (file_at q rows)) → c ≡ contents rows
same_contents rows c all = same_map names_total exact_names c (contents rows) (λ q. all q ∙ sym (get_contents rows q))

-- after a crash a disk is left as it reads, and that was one of its images
pub landed_only : (old new : Rows) → ((q : Name) → FileLands (file_at q old) (file_at q new)) → (c : Files) → RowsImage new c → c ≡ contents new
landed_only old new lands c image = same_contents new c (λ q. lands_only (file_at q old) (file_at q new) (get c q) (lands q) (image.each q))

pub landed_image : (old new : Rows) → ((q : Name) → FileLands (file_at q old) (file_at q new)) → (c : Files) → RowsImage new c → RowsImage old c
landed_image old new lands c image = record {
  each = λ q. subst (MatchFile (file_at q old)) (sym (lands_only (file_at q old) (file_at q new) (get c q) (lands q) (image.each q))) (lands_image (file_at q old) (file_at q new) (lands q));
}

-- making sure of one file
pub sync_image : (name : Name) (old new : Rows) → IsUpdate name (made_sure (file_at name old)) old new → (c : Files) → RowsImage new c → RowsImage old c × (get c name ≡ get (contents old) name)
sync_image name old new update c image =
    let here : MatchFile (made_sure (file_at name old)) (get c name) = subst (λ (o : Option KeptBytes). MatchFile o (get c name)) (update_here name _ old new update) (image.each name) in (
      record {
        each = λ q. ⊎_elim
            (λ (at : q ≡ name). subst (λ (n : Name). MatchFile (file_at n old) (get c n)) (sym at) (sure_narrows (file_at name old) (get c name) here))
            (λ (ne : q ≢ name). subst (λ (o : Option KeptBytes). MatchFile o (get c q)) (update_other name q _ old new update ne) (image.each q))
            (by_name q name);
      },
      sure_only (file_at name old) (get c name) here ∙ sym (get_contents old name),
    )

sure_bytes : (o : Option KeptBytes) → file_bytes (made_sure o) ≡ file_bytes o
sure_bytes None = refl
sure_bytes (Some f) = refl

pub sync_contents : (name : Name) (old new : Rows) → IsUpdate name (made_sure (file_at name old)) old new → contents new ≡ contents old
sync_contents name old new update = same_contents old (contents new) (λ q. get_contents new q ∙ ⊎_elim
    (λ (at : q ≡ name). subst (λ (n : Name). file_bytes (file_at n new) ≡ file_bytes (file_at n old)) (sym at) (ap file_bytes (update_here name _ old new update) ∙ sure_bytes (file_at name old)))
    (λ (ne : q ≢ name). ap file_bytes (update_other name q _ old new update ne))
    (by_name q name))

-- making sure of all
pub barrier_contents : (old new : Rows) → ((q : Name) → file_at q new ≡ made_sure (file_at q old)) → contents new ≡ contents old
barrier_contents old new sure = same_contents old (contents new) (λ q. get_contents new q ∙ ap file_bytes (sure q) ∙ sure_bytes (file_at q old))

pub barrier_only : (old new : Rows) → ((q : Name) → file_at q new ≡ made_sure (file_at q old)) → (c : Files) → RowsImage new c → c ≡ contents old
barrier_only old new sure c image = same_contents old c (λ q. sure_only (file_at q old) (get c q) (subst (λ (o : Option KeptBytes). MatchFile o (get c q)) (sure q) (image.each q)))

-- a file made, replaced or taken away
abbrev pub put_back : Name → Option (List ℕ) → Files → Files
put_back name None c = remove c name
put_back name (Some b) c = insert c name b

back_here : (name : Name) (o : Option (List ℕ)) (c : Files) → get (put_back name o c) name ≡ o
back_here name None c = gone_here c name
back_here name (Some b) c = get_here c name b

back_other : (name q : Name) (o : Option (List ℕ)) (c : Files) → q ≢ name → get (put_back name o c) q ≡ get c q
back_other name q None c ne = get_gone c name q ne
back_other name q (Some b) c ne = get_other c name b q ne

pub update_contents : (name : Name) (o : Option KeptBytes) (old new : Rows) → IsUpdate name o old new → contents new ≡ put_back name (file_bytes o) (contents old)
update_contents name o old new update = sym (same_contents new (put_back name (file_bytes o) (contents old)) (λ q. ⊎_elim
    (λ (at : q ≡ name). subst (λ (n : Name). get (put_back name (file_bytes o) (contents old)) n ≡ file_bytes (file_at n new)) (sym at) (back_here name (file_bytes o) (contents old) ∙ sym (ap file_bytes (update_here name o old new update))))
    (λ (ne : q ≢ name). back_other name q (file_bytes o) (contents old) ne ∙ get_contents old q ∙ sym (ap file_bytes (update_other name q o old new update ne)))
    (by_name q name)))

-- an image from before such a change, of one from after it
pub replaced_image : (name : Name) (o : Option KeptBytes) (old new : Rows) → IsUpdate name o old new → (c : Files) → RowsImage new c → RowsImage old (put_back name (file_bytes (file_at name old)) c)
replaced_image name o old new update c image = record {
  each = λ q. ⊎_elim
      (λ (at : q ≡ name). subst (λ (n : Name). MatchFile (file_at n old) (get (put_back name (file_bytes (file_at name old)) c) n)) (sym at) (subst (MatchFile (file_at name old)) (sym (back_here name (file_bytes (file_at name old)) c)) (matches (file_at name old))))
      (λ (ne : q ≢ name). subst (MatchFile (file_at q old)) (sym (back_other name q (file_bytes (file_at name old)) c ne)) (subst (λ (p : Option KeptBytes). MatchFile p (get c q)) (update_other name q o old new update ne) (image.each q)))
      (by_name q name);
}

pub update_only : (name : Name) (o : Option KeptBytes) (old new : Rows) → IsUpdate name (made_sure o) old new → (c : Files) → RowsImage new c → get c name ≡ file_bytes o
update_only name o old new update c image = sure_only o (get c name) (subst (λ (p : Option KeptBytes). MatchFile p (get c name)) (update_here name (made_sure o) old new update) (image.each name))

pub install_inside : (name : Name) (bytes : List ℕ) (old new : Rows) → IsUpdate name (Some (settled bytes)) old new → ImagesFollow (Inside (Install name bytes)) (RowsImage old) (RowsImage new)
install_inside name bytes old new update = record {
  each = λ c image. (
    put_back name (file_bytes (file_at name old)) c,
    replaced_image name _ old new update c image,
    (λ q ne. sym (back_other name q (file_bytes (file_at name old)) c ne), inr (update_only name (Some (settled bytes)) old new update c image)),
  );
}

pub remove_inside : (name : Name) (old new : Rows) → IsUpdate name None old new → ImagesFollow (Inside (Remove name)) (RowsImage old) (RowsImage new)
remove_inside name old new update = record {
  each = λ c image. (
    put_back name (file_bytes (file_at name old)) c,
    replaced_image name _ old new update c image,
    (λ q ne. sym (back_other name q (file_bytes (file_at name old)) c ne), inr (update_only name None old new update c image)),
  );
}

-- what a crash leaves of a file that is there
held_image : (f : KeptBytes) (o : Option (List ℕ)) → MatchFile (Some f) o → (x : List ℕ) × (o ≡ Some x) × FileImage f x
held_image f (Some x) image = (x, refl, image)
held_image f None none = absurd none

pub write_inside : (name : Name) (place : ℕ) (bytes : List ℕ) (f : KeptBytes) (old new : Rows) → file_at name old ≡ Some f → place ≤ length f.bytes → f.synced ≤ length f.bytes → IsUpdate name (Some (wrote place bytes f)) old new → ImagesFollow (Inside (WriteAt name place bytes)) (RowsImage old) (RowsImage new)
write_inside name place bytes f old new was fits synced update = record {
  each = λ c image.
      let here = held_image (wrote place bytes f) (get c name) (subst (λ (o : Option KeptBytes). MatchFile o (get c name)) (update_here name _ old new update) (image.each name)) in
      let from = torn_file f (wrote place bytes f) place bytes _ fits synced refl refl refl refl refl here.0 here.2 in
      let d = insert c name from.0 in (
        d,
        record {
          each = λ q. ⊎_elim
              (λ (at : q ≡ name). subst (λ (n : Name). MatchFile (file_at n old) (get d n)) (sym at) (subst (λ (o : Option KeptBytes). MatchFile o (get d name)) (sym was) (subst (λ (o : Option (List ℕ)). MatchFile (Some f) o) (sym (get_here c name from.0)) from.1)))
              (λ (ne : q ≢ name). subst (λ (o : Option (List ℕ)). MatchFile (file_at q old) o) (sym (get_other c name from.0 q ne)) (subst (λ (o : Option KeptBytes). MatchFile o (get c q)) (update_other name q _ old new update ne) (image.each q)))
              (by_name q name);
        },
        (λ q ne. sym (get_other c name from.0 q ne), λ x at. record { bytes = here.0; there = here.1; so = subst (λ (y : List ℕ). Torn place (length bytes) y here.0) (same_Some from.0 x (sym (get_here c name from.0) ∙ at)) from.2 }),
      );
}

-- nothing was done
pub none_inside : (op : Op) (image : Files → Type 0) → ImagesFollow (Inside op) image image
none_inside op image = record { each = λ c now. (c, now, inside_none op c) }

-- a file that is there, as a disk and as rows
pub there_rows : (rows : Rows) (name : Name) (place : ℕ) → HasFile (contents rows) name (λ file. place ≤ length file) → (f : KeptBytes) × (file_at name rows ≡ Some f) × (place ≤ length f.bytes)
there_rows rows name place has = by_file (file_at name rows) refl
  where
    by_file : (o : Option KeptBytes) → file_at name rows ≡ o → (f : KeptBytes) × (file_at name rows ≡ Some f) × (place ≤ length f.bytes)
    by_file None is = absurd (none-some has.bytes (sym (get_contents rows name ∙ ap file_bytes is) ∙ has.there))
    by_file (Some f) is = (f, is, subst (λ (x : List ℕ). place ≤ length x) (sym (same_Some f.bytes has.bytes (sym (get_contents rows name ∙ ap file_bytes is) ∙ has.there))) has.so)

-- the records of what the calls have done
pub did_write : (name : Name) (place : ℕ) (bytes : List ℕ) (f : KeptBytes) (old new : Rows) → file_at name old ≡ Some f → IsUpdate name (Some (wrote place bytes f)) old new → Did (WriteAt name place bytes) (contents old) (contents new) (RowsImage new)
did_write name place bytes f old new was update = record {
  reads = update_contents name _ old new update ∙ sym (ap (λ (o : Option (List ℕ)). after_write o name place bytes (contents old)) (get_contents old name ∙ ap file_bytes was));
  durable = λ c image. tt;
}

pub did_sync : (name : Name) (old new : Rows) → IsUpdate name (made_sure (file_at name old)) old new → Did (Sync name) (contents old) (contents new) (RowsImage new)
did_sync name old new update = record { reads = sync_contents name old new update; durable = λ c image. (sync_image name old new update c image).1 }

pub sync_inside : (name : Name) (old new : Rows) → IsUpdate name (made_sure (file_at name old)) old new → ImagesFollow (Inside (Sync name)) (RowsImage old) (RowsImage new)
sync_inside name old new update = record { each = λ c image. (c, (sync_image name old new update c image).0, refl) }

pub did_barrier : (old new : Rows) → ((q : Name) → file_at q new ≡ made_sure (file_at q old)) → Did Barrier (contents old) (contents new) (RowsImage new)
did_barrier old new sure = record { reads = barrier_contents old new sure; durable = λ c image. barrier_only old new sure c image }

pub barrier_inside : (old new : Rows) → ((q : Name) → file_at q new ≡ made_sure (file_at q old)) → ImagesFollow (Inside Barrier) (RowsImage old) (RowsImage new)
barrier_inside old new sure = record {
  each = λ c image. (c, subst (RowsImage old) (sym (barrier_only old new sure c image)) (reads_image old), refl);
}

pub did_install : (name : Name) (bytes : List ℕ) (old new : Rows) → IsUpdate name (Some (settled bytes)) old new → Did (Install name bytes) (contents old) (contents new) (RowsImage new)
did_install name bytes old new update = record {
  reads = update_contents name _ old new update;
  durable = λ c image. update_only name (Some (settled bytes)) old new update c image;
}

pub did_remove : (name : Name) (old new : Rows) → IsUpdate name None old new → Did (Remove name) (contents old) (contents new) (RowsImage new)
did_remove name old new update = record {
  reads = update_contents name _ old new update;
  durable = λ c image. update_only name None old new update c image;
}

pub landed : (old new : Rows) → ((q : Name) → FileLands (file_at q old) (file_at q new)) → Left (contents new) (RowsImage new)
landed old new lands = record { only = λ c image. landed_only old new lands c image }

-- a call that was begun, and then the crash
pub cut_inside : (op : Op) (old mid new : Rows) → ImagesFollow (Inside op) (RowsImage old) (RowsImage mid) → ((q : Name) → FileLands (file_at q mid) (file_at q new)) → ImagesFollow (Inside op) (RowsImage old) (RowsImage new)
cut_inside op old mid new begun lands = record { each = λ c image. begun.each c (landed_image mid new lands c image) }

-- nothing was done
pub same_inside : (op : Op) (old new : Rows) → new ≡ old → ImagesFollow (Inside op) (RowsImage old) (RowsImage new)
same_inside op old new same = subst (λ (r : Rows). ImagesFollow (Inside op) (RowsImage old) (RowsImage r)) (sym same) (none_inside op (RowsImage old))

-- the same operation by another name
pub as_op : (op call : Op) (old new : Rows) → call ≡ op → ImagesFollow (Inside op) (RowsImage old) (RowsImage new) → ImagesFollow (Inside call) (RowsImage old) (RowsImage new)
as_op op call old new same step = subst (λ (o : Op). ImagesFollow (Inside o) (RowsImage old) (RowsImage new)) (sym same) step

-- the names of rows in order are those of the files
bytes_below : (n : Name) (rows : Rows) → below_all name_cmp n (map row_bytes rows) ≡ below_all name_cmp n rows
bytes_below n [] = refl
bytes_below n (r ∷ rows) = ap (λ (b : Bool). is_lt (name_cmp n r.0) && b) (bytes_below n rows)

bytes_sorted : (rows : Rows) → is_sorted name_cmp (map row_bytes rows) ≡ is_sorted name_cmp rows
bytes_sorted [] = refl
bytes_sorted (r ∷ rows) = λ i. bytes_below r.0 rows i && bytes_sorted rows i

names_of : (rows : Rows) → ◌≡◌ {A = List Name} (map (λ e. e.0) (map row_bytes rows)) (map (λ e. e.0) rows)
names_of [] = refl
names_of (r ∷ rows) = ap (λ (l : List Name). r.0 ∷ l) (names_of rows)

pub listed_names : (rows : Rows) (names : List Name) → is_sorted name_cmp rows ≡ true → names ≡ map (λ e. e.0) rows → names ≡ keys (contents rows)
listed_names rows names sorted is =
    let es = map row_bytes rows in
    let ordered : T (is_sorted name_cmp es) = subst T (sym (bytes_sorted rows ∙ sorted)) tt in
    let same : contents rows ≡ from_sorted {R = name_cmp} es = same_map names_total exact_names (contents rows) (from_sorted {R = name_cmp} es) (λ q. get-from_entries names_total es q ∙ sym (get-from_sorted name_cmp es q ordered)) in
    is ∙ sym (names_of rows) ∙ ap (λ (l : List (Name × List ℕ)). map (λ e. e.0) l) (sym (ap (λ (m : Files). entries m) same ∙ entries-from_sorted name_cmp es ordered))

-- a call that failed, and changed nothing
pub failed_inside : (op : Op) (old mid new : SureDisk) → mid ≡ old → new.files ≡ mid.files → ImagesFollow (Inside op) (RowsImage old.files) (RowsImage new.files)
failed_inside op old mid new same kept = same_inside op old.files new.files (kept ∙ ap (λ (d : SureDisk). d.files) same)

pub failed_made : (op : Op) (old mid new : SureDisk) → mid ≡ old → new.files ≡ mid.files → new.changes ≡ counted mid.changes → Made (CallMade op ∷ []) old.changes new.changes old.files new.files
failed_made op old mid new same kept count = made_one op old.changes new.changes old.files new.files (count ∙ ap (λ (d : SureDisk). counted d.changes) same) (failed_inside op old mid new same kept)

pub unmade : (old new : SureDisk) → new ≡ old → Made [] old.changes new.changes old.files new.files
unmade old new same = subst (λ (d : SureDisk). Made [] old.changes d.changes old.files d.files) (sym same) (made_nothing old.changes old.files)

-- a disk without files
pub bare_lands : (rows : Rows) → rows ≡ [] → Left (contents rows) (RowsImage rows)
bare_lands rows bare = record {
  only = λ c image. same_contents rows c (λ q. none_there (file_at q rows) (get c q) (ap (file_at q) bare) (image.each q));
}
  where
    none_there : (o : Option KeptBytes) (c : Option (List ℕ)) → o ≡ None → MatchFile o c → c ≡ file_bytes o
    none_there None None is image = refl
    none_there None (Some c) is image = absurd image
    none_there (Some f) c is image = absurd (none-some f (sym is))
