-- Undoing writes.
use Rattle.std.proofs.Common.{◌≡◌, ◌⊎◌, inl, inr, ⊎_elim, ℕ, ◌+◌, ◌-◌, ◌<◌, ◌≤◌, min, max, List, [], ◌∷◌, ◌++◌, length, get_or, take, drop, refl, sym, ◌∙◌, ap, subst, arith, append_assoc, length-append}
use Rattle.std.proofs.lemmas.List.{length-take-le, length-drop, get_or-take, get_or-drop, get_or_append_left, get_or-append_right, length-take}
use Rattle.std.proofs.lemmas.Bool.{cases_lt, cases_eq}
use Rattle.std.proofs.lemmas.List.{drop-drop, take-take}
use Rattle.dkg_journal.proofs.AtOnce.{torn_written, torn_same}
use Rattle.dkg_journal.specs.Disk.{written, Torn}
use Rattle.dkg_journal.specs.Kept.{KeptBytes, Undone, restored, rolled, AreWithin, IsUntouched, FileImage}

pub rolled-push : (from : ℕ) (us : List Undone) (u : Undone) (bytes : List ℕ) → rolled from (us ++ u ∷ []) bytes ≡ rolled from us (restored from u bytes)
rolled-push from [] u bytes = refl
rolled-push from (v ∷ us) u bytes = ap (restored from v) (rolled-push from us u bytes)

pub within-push : (us : List Undone) (u : Undone) (n : ℕ) → AreWithin (us ++ u ∷ []) n → AreWithin us n × (u.0 + length u.1 ≤ n)
within-push [] u n h = (tt, h.0)
within-push (v ∷ us) u n h = let rest = within-push us u n h.1 in ((h.0, rest.0), rest.1)

pub length-written : (place : ℕ) (new old : List ℕ) → place + length new ≤ length old → length (written place new old) ≡ length old
length-written place new old fits = omega (arith, length-append (take place old ++ new) (drop (place + length new) old), length-append (take place old) new, length-take-le place old (omega (arith, fits)), length-drop (place + length new) old)

-- a write leaves the bytes outside
pub get_or-written : (place : ℕ) (new old : List ℕ) (i : ℕ) → place + length new ≤ length old → (i < place) ⊎ (place + length new ≤ i) → get_or (written place new old) i 0 ≡ get_or old i 0
get_or-written place new old i fits (inl low) =
    let front : length (take place old) ≡ place = length-take-le place old (omega (arith, fits)) in
    ap (λ (l : List ℕ). get_or l i 0) (append_assoc (take place old) new (drop (place + length new) old))
    ∙ get_or_append_left (take place old) (new ++ drop (place + length new) old) 0 i (omega (arith, front, low)) ∙ get_or-take place old i 0 low
get_or-written place new old i fits (inr high) =
    let front : length (take place old ++ new) ≡ place + length new = omega (arith, length-append (take place old) new, length-take-le place old (omega (arith, fits))) in
    get_or-append_right (take place old ++ new) (drop (place + length new) old) (place + length new) i 0 front high
    ∙ get_or-drop (place + length new) old (i - (place + length new)) 0
    ∙ (let there : place + length new + (i - (place + length new)) ≡ i = omega (arith, high) in ap (λ (k : ℕ). get_or old k 0) there)

pub length-restored : (from : ℕ) (u : Undone) (bytes : List ℕ) → u.0 + length u.1 ≤ length bytes → length (restored from u bytes) ≡ length bytes
length-restored from u bytes fits =
    let skip = min (from - u.0) (length u.1) in
    length-written (u.0 + skip) (drop skip u.1) bytes (omega (arith, length-drop skip u.1, fits))

pub length-rolled : (from : ℕ) (us : List Undone) (bytes : List ℕ) → AreWithin us (length bytes) → length (rolled from us bytes) ≡ length bytes
length-rolled from [] bytes h = refl
length-rolled from (u ∷ us) bytes h =
    let rest = length-rolled from us bytes h.1 in
    length-restored from u (rolled from us bytes) (omega (arith, rest, h.0)) ∙ rest

-- what was not written stays
pub get_or-rolled : (from : ℕ) (us : List Undone) (bytes : List ℕ) (i : ℕ) → AreWithin us (length bytes) → IsUntouched us i → get_or (rolled from us bytes) i 0 ≡ get_or bytes i 0
get_or-rolled from [] bytes i h out = refl
get_or-rolled from (u ∷ us) bytes i h out =
    let rest = length-rolled from us bytes h.1 in
    let skip = min (from - u.0) (length u.1) in
    let size = length-drop skip u.1 in
    get_or-written (u.0 + skip) (drop skip u.1) (rolled from us bytes) i (omega (arith, size, rest, h.0)) (⊎_elim (λ low. inl (omega (arith, low))) (λ high. inr (omega (arith, high, size))) out.0)
    ∙ get_or-rolled from us bytes i h.1 out.1

-- what is left when writes are undone from a place on is one of the images
pub rolled_image : (file : KeptBytes) (from : ℕ) → file.synced ≤ length file.bytes → AreWithin file.undo (length file.bytes) → FileImage file (take (max file.synced (min from (length file.bytes))) (rolled from file.undo file.bytes))
rolled_image file from synced within =
    let n = max file.synced (min from (length file.bytes)) in
    let same = length-rolled from file.undo file.bytes within in
    let size = length-take-le n (rolled from file.undo file.bytes) (omega (arith, same, synced)) in
    record {
      no_shorter = omega (arith, size);
      same_length = λ h. omega (arith, size, h);
      agrees = λ i low out. get_or-take n (rolled from file.undo file.bytes) i 0 (omega (arith, low)) ∙ get_or-rolled from file.undo file.bytes i within out;
    }

-- what stands in the range of a write
pub get_or-written_in : (place : ℕ) (new old : List ℕ) (i : ℕ) → place ≤ length old → place ≤ i → i < place + length new → get_or (written place new old) i 0 ≡ get_or new (i - place) 0
get_or-written_in place new old i fits low high =
    let front : length (take place old) ≡ place = length-take-le place old fits in
    ap (λ (l : List ℕ). get_or l i 0) (append_assoc (take place old) new (drop (place + length new) old))
    ∙ get_or-append_right (take place old) (new ++ drop (place + length new) old) place i 0 front low
    ∙ get_or_append_left new (drop (place + length new) old) 0 (i - place) (omega (arith, low, high))

-- below the place of a write
pub get_or-written_low : (place : ℕ) (new old : List ℕ) (i : ℕ) → place ≤ length old → i < place → get_or (written place new old) i 0 ≡ get_or old i 0
get_or-written_low place new old i fits low =
    let front : length (take place old) ≡ place = length-take-le place old fits in
    ap (λ (l : List ℕ). get_or l i 0) (append_assoc (take place old) new (drop (place + length new) old))
    ∙ get_or_append_left (take place old) (new ++ drop (place + length new) old) 0 i (omega (arith, front, low)) ∙ get_or-take place old i 0 low

drop_past : (m place : ℕ) (new old : List ℕ) → place + length new ≤ length old → place + length new ≤ m → drop m (written place new old) ≡ drop m old
drop_past m place new old fits le =
    let k = m - (place + length new) in
    let is : place + length new + k ≡ m = omega (arith, le) in
    let torn = torn_written place new old (omega (arith, fits)) in
    ap (λ (n : ℕ). drop n (written place new old)) (sym is) ∙ sym (drop-drop k (place + length new) (written place new old)) ∙ ap (drop k) (torn.after fits) ∙ drop-drop k (place + length new) old ∙ ap (λ (n : ℕ). drop n old) is

outside-push : (us : List Undone) (u : Undone) (i : ℕ) → IsUntouched us i → (i < u.0) ⊎ (u.0 + length u.1 ≤ i) → IsUntouched (us ++ u ∷ []) i
outside-push [] u i out here = (here, tt)
outside-push (v ∷ us) u i out here = (out.0, outside-push us u i out.1 here)

-- an image from before a write, of one from after it: the old bytes in the range
module _ (b : List ℕ) (place n : ℕ) (c : List ℕ) where
  abbrev pub kept : List ℕ
  kept = take (min n (length c - place)) (drop place b)

  pub before_write : place ≤ length b → place ≤ length c → (length (written place kept c) ≡ length c) × (place + length kept ≤ length c)
  before_write fits low =
      let size : length kept ≤ length c - place = omega (arith, length-take (min n (length c - place)) (drop place b)) in
      (length-written place kept c (omega (arith, size, low)), omega (arith, size, low))

-- each image of a file after a write is one of the file before it, torn in the range
module _ (file next : KeptBytes) (place : ℕ) (bytes : List ℕ) (u : Undone) (fits : place ≤ length file.bytes) (synced : file.synced ≤ length file.bytes)
    (is_bytes : next.bytes ≡ written place bytes file.bytes) (is_synced : next.synced ≡ file.synced) (is_undo : next.undo ≡ file.undo ++ u ∷ [])
    (at : u.0 ≡ place) (old : u.1 ≡ take (length bytes) (drop place file.bytes)) where
  length-old : length u.1 ≡ min (length bytes) (length file.bytes - place)
  length-old = ap length old ∙ omega (arith, length-take (length bytes) (drop place file.bytes), length-drop place file.bytes)

  -- outside the range the image agrees with the file before
  outside : (c : List ℕ) → FileImage next c → (i : ℕ) → i < file.synced → IsUntouched file.undo i → (i < place) ⊎ (place + length u.1 ≤ i) → get_or c i 0 ≡ get_or file.bytes i 0
  outside c image i low out side =
      image.agrees i (omega (arith, is_synced, low)) (subst (λ (l : List Undone). IsUntouched l i) (sym is_undo) (outside-push file.undo u i out (⊎_elim (λ l. inl (omega (arith, l, at))) (λ h. inr (omega (arith, h, at))) side)))
      ∙ ap (λ (l : List ℕ). get_or l i 0) is_bytes
      ∙ ⊎_elim (λ (l : i < place). get_or-written_low place bytes file.bytes i fits l)
      (λ (h : place + length u.1 ≤ i). get_or-written place bytes file.bytes i (omega (arith, h, low, synced, length-old)) (inr (omega (arith, h, low, synced, length-old)))) side

  length_next : length next.bytes ≡ max (length file.bytes) (place + length bytes)
  length_next = ap length is_bytes ∙ omega (arith, length-append (take place file.bytes ++ bytes) (drop (place + length bytes) file.bytes), length-append (take place file.bytes) bytes, length-take-le place file.bytes fits, length-drop (place + length bytes) file.bytes)

  -- an image is no shorter than the file at the last sync
  long_enough : (c : List ℕ) → FileImage next c → file.synced ≤ length c
  long_enough c image = omega (arith, image.no_shorter, is_synced, length_next, synced)

  -- an image that has the place
  module _ (c : List ℕ) (image : FileImage next c) (low : place ≤ length c) where
    abbrev k : List ℕ
    k = kept file.bytes place (length bytes) c

    size : length k ≡ min (min (length bytes) (length c - place)) (length file.bytes - place)
    size = omega (arith, length-take (min (length bytes) (length c - place)) (drop place file.bytes), length-drop place file.bytes)

    parts : (length (written place k c) ≡ length c) × (place + length k ≤ length c)
    parts = before_write file.bytes place (length bytes) c fits low

    -- the old bytes stand in the range
    agrees : (i : ℕ) → i < file.synced → IsUntouched file.undo i → get_or (written place k c) i 0 ≡ get_or file.bytes i 0
    agrees i below out =
        let long = long_enough c image in
        elim (cases_lt i place) [
          | inl under ↦ get_or-written_low place k c i low under ∙ outside c image i below out (inl under)
          | inr over ↦ elim (cases_lt i (place + length k)) [
            | inl within ↦ get_or-written_in place k c i low over within ∙ get_or-take (min (length bytes) (length c - place)) (drop place file.bytes) (i - place) 0 (omega (arith, within, over, size))
                ∙ get_or-drop place file.bytes (i - place) 0 ∙ (let there : place + (i - place) ≡ i = omega (arith, over) in ap (λ (j : ℕ). get_or file.bytes j 0) there)
            | inr beyond ↦ get_or-written place k c i parts.1 (inr beyond) ∙ outside c image i below out (inr (omega (arith, beyond, size, length-old, below, long, is_synced)))
          ]
        ]

    -- where the file didn't grow, or had grown before
    pub plain_before : (length file.bytes ≡ file.synced → length bytes + place ≤ length file.bytes) → FileImage file (written place k c) × Torn place (length bytes) (written place k c) c
    plain_before grown = (
      record {
        no_shorter = omega (arith, parts.0, long_enough c image, is_synced);
        same_length = λ h. parts.0 ∙ image.same_length (omega (arith, length_next, grown h, h, is_synced)) ∙ is_synced;
        agrees = agrees;
      },
      record {
        before = sym ((torn_written place k c low).before);
        after = λ le. sym (drop_past (place + length bytes) place k c parts.1 (omega (arith, size)));
        no_shorter = omega (arith, parts.0);
      },
    )

    pub grown_before : length file.bytes ≡ file.synced → length file.bytes < length bytes + place → FileImage file (take file.synced (written place k c)) × Torn place (length bytes) (take file.synced (written place k c)) c
    grown_before all_synced grows =
        let long : length (take file.synced (written place k c)) ≡ file.synced = length-take-le file.synced (written place k c) (omega (arith, parts.0, long_enough c image, is_synced)) in (
          record {
            no_shorter = omega (arith, long);
            same_length = λ h. long;
            agrees = λ i below out. get_or-take file.synced (written place k c) i 0 below ∙ agrees i below out;
          },
          record {
            before = sym (take-take place file.synced (written place k c) (omega (arith, all_synced, fits)) ∙ (torn_written place k c low).before);
            after = λ le. absurd (omega (arith, le, long, grows, all_synced));
            no_shorter = omega (arith, long, long_enough c image, is_synced);
          },
        )

  -- an image that ends before the place
  short_before : (c : List ℕ) → FileImage next c → length c < place → FileImage file c
  short_before c image under = record {
    no_shorter = omega (arith, long_enough c image, is_synced);
    same_length = λ h. absurd (omega (arith, h, long_enough c image, is_synced, under, fits));
    agrees = λ i below out. outside c image i below out (inl (omega (arith, below, long_enough c image, is_synced, under)));
  }

  pub torn_file : (c : List ℕ) → FileImage next c → (d : List ℕ) × FileImage file d × Torn place (length bytes) d c
  torn_file c image = elim (cases_lt (length c) place) [
    | inl under ↦ (c, short_before c image under, torn_same place (length bytes) c)
    | inr low ↦ elim (cases_lt (length file.bytes) (length bytes + place)) [
      | inl grows ↦ elim (cases_eq (length file.bytes) file.synced) [
        | inl all_synced ↦ let both = grown_before c image low all_synced grows in (_, both.0, both.1)
        | inr apart ↦ let both = plain_before c image low (λ h. absurd (apart h)) in (_, both.0, both.1)
      ]
      | inr stays ↦ let both = plain_before c image low (λ h. stays) in (_, both.0, both.1)
    ]
  ]
