-- What a file in memory keeps of the writes since its last sync.
use Rattle.std.proofs.Common.{◌≡◌, inl, inr, ⊎_elim, ℕ, zero, suc, ◌+◌, ◌-◌, ◌<◌, ◌≤◌, max, get_or, replicate, List, [], ◌∷◌, ◌++◌, map, length, take, drop, refl, sym, ◌∙◌, ap, subst, arith, length-append}
use Rattle.std.proofs.lemmas.List.{map-append, length-take, length-take-le, length-drop, take_more, get_or-map, length-map, length-replicate}
use Rattle.std.proofs.lemmas.Grind.{same_number_lists}
use Rattle.std.proofs.lemmas.List.Sums.{fold_push}
use Rattle.dkg_journal.specs.Disk.{written}
use Rattle.dkg_journal.specs.Kept.{Undone, touched, AreWithin, KeptBytes, IsUntouched, FileImage, settled, restored, rolled, filled, filled_all}
use Rattle.dkg_journal.specs.declared.file.Undo.{Undo}
use Rattle.dkg_journal.specs.declared.file.Span.{Span}
use Rattle.std.specs.Prelude.{nat_le, nat_lt, ◌&&◌, ◌||◌, false}
use Rattle.std.proofs.lemmas.List.Folds.{list_any-append}
use Rattle.dkg_journal.proofs.Counting.{by_spans, covers}
use Rattle.dkg_journal.proofs.Loose.{rolled-push, within-push, length-written, get_or-written}

abbrev pub undone : Undo → Undone
undone u = (u.place, u.old.items)

pub undone-push : (all us : List Undo) (u : Undo) → all ≡ us ++ u ∷ [] → map undone all ≡ map undone us ++ undone u ∷ []
undone-push all us u is = ap (map undone) is ∙ map-append undone us (u ∷ [])

-- the last one fits, and so do those before it
pub popped : (all us : List Undo) (u : Undo) (n : ℕ) → all ≡ us ++ u ∷ [] → AreWithin (map undone all) n → AreWithin (map undone us) n × (u.place + length u.old.items ≤ n)
popped all us u n is within = within-push (map undone us) (undone u) n (subst (λ (l : List Undone). AreWithin l n) (undone-push all us u is) within)

pub rolled_last : (from : ℕ) (all us : List Undo) (u : Undo) (bytes back : List ℕ) → all ≡ us ++ u ∷ [] → back ≡ restored from (undone u) bytes → rolled from (map undone us) back ≡ rolled from (map undone all) bytes
rolled_last from all us u bytes back is put =
    ap (rolled from (map undone us)) put ∙ sym (rolled-push from (map undone us) (undone u) bytes) ∙ ap (λ (l : List Undone). rolled from l bytes) (sym (undone-push all us u is))

pub length-wrote : (place : ℕ) (new old : List ℕ) → place ≤ length old → length (written place new old) ≡ max (length old) (place + length new)
length-wrote place new old fits = omega (arith, length-append (take place old ++ new) (drop (place + length new) old), length-append (take place old) new, length-take-le place old fits, length-drop (place + length new) old)

within-more : (us : List Undone) (m n : ℕ) → m ≤ n → AreWithin us m → AreWithin us n
within-more [] m n le h = tt
within-more (u ∷ us) m n le h = (omega (arith, h.0, le), within-more us m n le h.1)

within-one : (us : List Undone) (u : Undone) (n : ℕ) → AreWithin us n → u.0 + length u.1 ≤ n → AreWithin (us ++ u ∷ []) n
within-one [] u n h fits = (fits, tt)
within-one (v ∷ us) u n h fits = (h.0, within-one us u n h.1 fits)

pub within-wrote : (us : List Undo) (u : Undo) (all : List Undo) (place : ℕ) (new old next : List ℕ) → all ≡ us ++ u ∷ [] → AreWithin (map undone us) (length old) → place ≤ length old → u.place ≡ place → u.old.items ≡ take (length new) (drop place old) → next ≡ written place new old → AreWithin (map undone all) (length next)
within-wrote us u all place new old next is within fits at kept wrote =
    let long : length next ≡ max (length old) (place + length new) = ap length wrote ∙ length-wrote place new old fits in
    let size : length u.old.items ≤ length old - place = omega (arith, ap length kept, length-take (length new) (drop place old), length-drop place old) in
    subst (λ (l : List Undone). AreWithin l (length next)) (sym (undone-push all us u is))
    (within-one (map undone us) (undone u) (length next) (within-more (map undone us) (length old) (length next) (omega (arith, long)) within) (omega (arith, at, size, long, fits)))

pub within_at : (us : List Undone) (n i : ℕ) (d : Undone) → AreWithin us n → i < length us → (get_or us i d).0 + length (get_or us i d).1 ≤ n
within_at [] n i d h low = absurd (omega arith)
within_at (u ∷ us) n zero d h low = h.0
within_at (u ∷ us) n (suc i) d h low = within_at us n i d h.1 (omega arith)

-- the element at an index, as a loop has it
pub item_within : (us : List Undo) (n i : ℕ) (x : Undo) → x ≡ get_or us i x → AreWithin (map undone us) n → i < length us → x.place + length x.old.items ≤ n
item_within us n i x is within low =
    let at : get_or (map undone us) i (undone x) ≡ undone x = get_or-map undone us i x (undone x) low ∙ ap undone (sym is) in
    subst (λ (u : Undone). u.0 + length u.1 ≤ n) at (within_at (map undone us) n i (undone x) within (omega (arith, length-map us undone, low)))

pub filled_more : (byte : ℕ) (us : List Undo) (i : ℕ) (x : Undo) (bytes now next : List ℕ) → x ≡ get_or us i x → i < length us → now ≡ filled byte (map undone (take i us)) bytes → next ≡ written x.place (replicate (length x.old.items) byte) now → next ≡ filled byte (map undone (take (i + 1) us)) bytes
filled_more byte us i x bytes now next is low done put =
    let more : map undone (take (i + 1) us) ≡ map undone (take i us) ++ undone x ∷ [] = undone-push (take (i + 1) us) (take i us) x (take_more us i x low ∙ ap (λ (y : Undo). take i us ++ y ∷ []) (sym is)) in
    put ∙ ap (λ (l : List ℕ). written x.place (replicate (length x.old.items) byte) l) done ∙ sym (fold_push (λ (acc : List ℕ) (u : Undone). written u.0 (replicate (length u.1) byte) acc) bytes (map undone (take i us)) (undone x)) ∙ ap (λ (l : List Undone). filled byte l bytes) (sym more)

-- filling leaves the length, and what no write has touched
pub length-filled : (byte : ℕ) (us : List Undone) (bytes : List ℕ) → AreWithin us (length bytes) → length (filled byte us bytes) ≡ length bytes
length-filled byte [] bytes h = refl
length-filled byte (u ∷ us) bytes h =
    let one = written u.0 (replicate (length u.1) byte) bytes in
    let size : length one ≡ length bytes = length-written u.0 (replicate (length u.1) byte) bytes (omega (arith, length-replicate (length u.1) byte, h.0)) in
    length-filled byte us one (subst (AreWithin us) (sym size) h.1) ∙ size

get_or-filled : (byte : ℕ) (us : List Undone) (bytes : List ℕ) (i : ℕ) → AreWithin us (length bytes) → IsUntouched us i → get_or (filled byte us bytes) i 0 ≡ get_or bytes i 0
get_or-filled byte [] bytes i h out = refl
get_or-filled byte (u ∷ us) bytes i h out =
    let one = written u.0 (replicate (length u.1) byte) bytes in
    let long = length-replicate (length u.1) byte in
    let size : length one ≡ length bytes = length-written u.0 (replicate (length u.1) byte) bytes (omega (arith, long, h.0)) in
    get_or-filled byte us one i (subst (AreWithin us) (sym size) h.1) out.1
    ∙ get_or-written u.0 (replicate (length u.1) byte) bytes i (omega (arith, long, h.0)) (⊎_elim (λ low. inl low) (λ high. inr (omega (arith, long, high))) out.0)

-- what is filled is one of the images
pub filled_image : (byte : ℕ) (f : KeptBytes) → f.synced ≤ length f.bytes → AreWithin f.undo (length f.bytes) → FileImage f (filled_all byte f)
filled_image byte f synced within =
    let inner = filled byte f.undo f.bytes in
    let same : length inner ≡ length f.bytes = length-filled byte f.undo f.bytes within in
    let long = length-replicate (length f.bytes - f.synced) byte in
    let fits : f.synced + length (replicate (length f.bytes - f.synced) byte) ≤ length inner = omega (arith, long, same, synced) in
    let size : length (filled_all byte f) ≡ length inner = length-written f.synced (replicate (length f.bytes - f.synced) byte) inner fits in
    record {
      no_shorter = omega (arith, size, same, synced);
      same_length = λ h. omega (arith, size, same, h);
      agrees = λ i low out. get_or-written f.synced (replicate (length f.bytes - f.synced) byte) inner i fits (inl low) ∙ get_or-filled byte f.undo f.bytes i within out;
    }

pub settled_image : (f : KeptBytes) → FileImage f f.bytes
settled_image f = record { no_shorter = omega arith; same_length = λ h. h; agrees = λ i low out. refl }

-- of a file of which nothing is loose a crash leaves what a read gives
pub settled_only : (b c : List ℕ) → FileImage (settled b) c → c ≡ b
settled_only b c image = same_number_lists c b (image.same_length refl) (λ k low. image.agrees k (omega (arith, low, image.same_length refl)) tt)

-- spans and writes that touch the same places, with one more of each
pub touched_push : (ss next : List Span) (us all : List Undo) (s : Span) (u : Undo) → next ≡ ss ++ s ∷ [] → all ≡ us ++ u ∷ [] → s.start ≡ u.place → s.end ≡ u.place + length u.old.items → ((i : ℕ) → by_spans ss i ≡ touched (map undone us) i) → (i : ℕ) → by_spans next i ≡ touched (map undone all) i
touched_push ss next us all s u noted pushed at end same i =
    ap (λ (l : List Span). by_spans l i) noted ∙ list_any-append (covers i) ss (s ∷ [])
    ∙ (λ k. same i k || (nat_le (at k) i && nat_lt i (end k) || false))
    ∙ sym (ap (λ (l : List Undone). touched l i) (undone-push all us u pushed) ∙ list_any-append (λ (v : Undone). nat_le v.0 i && nat_lt i (v.0 + length v.1)) (map undone us) (undone u ∷ []))
