-- The files of a memory disk by name, and what they are as a disk.
use Rattle.std.specs.Prelude.{◌≡◌, ℕ, ◌/◌, ◌%◌, List, [], ◌∷◌, map, Bool, true, false, cond, Option, Some, None, refl}
use Rattle.std.proofs.Common.{sym, ◌∙◌, subst, arith}
use Rattle.std.specs.Cmp.{IsTotalOrder, nat_cmp_total}
use Rattle.std.proofs.lemmas.Cmp.{on_total}
use Rattle.std.specs.Ordering.{eq_by_cmp}
use Rattle.std.specs.FinMap.{find, get, from_entries, get-from_entries}
use Rattle.dkg_values.specs.declared.name.Name.{Name}
use Rattle.dkg_journal.specs.Names.{Files, name_cmp, name_number}
use Rattle.dkg_journal.specs.declared.disk.Op.{Op}
use Rattle.dkg_journal.specs.declared.disk.Op.TheVariants.{WriteAt, Sync, Barrier, Install, Remove}
use Rattle.dkg_journal.specs.Kept.{KeptBytes, FileImage, settled, wrote, kept_to, Picked, LeftOver}

-- names rising, each with its file
abbrev pub Rows : Type 0
Rows = List (Name × KeptBytes)

abbrev pub file_at : Name → Rows → Option KeptBytes
file_at name rows = find name_cmp name rows

-- one name has this now, and the others have what they had
abbrev pub IsUpdate : Name → Option KeptBytes → Rows → Rows → Type 0
IsUpdate name file old new = (q : Name) → file_at q new ≡ cond (eq_by_cmp name_cmp q name) file (file_at q old)

-- the file as it reads, with nothing loose
abbrev pub made_sure : Option KeptBytes → Option KeptBytes
made_sure None = None
made_sure (Some f) = Some (settled f.bytes)

-- a crash leaves the file as one of its images, with nothing loose
abbrev pub FileLands : Option KeptBytes → Option KeptBytes → Type 0
FileLands None None = Unit {0}
FileLands (Some f) (Some g) = FileImage f g.bytes × (g ≡ settled g.bytes)
FileLands None (Some g) = ⊥
FileLands (Some f) None = ⊥

-- a name that a crash leaves as it is
abbrev pub is_spared : Option Name → Name → Bool
is_spared None name = false
is_spared (Some but) name = eq_by_cmp name_cmp but name

-- What a crash leaves of one file by its pick, where so many loose bytes may still be kept, and how many may be kept behind it.
pub record PickedRow (pick count : ℕ) (but : Option Name) (name : Name) (file after : KeptBytes) (left : ℕ) : Type 0 where
  pub spared : is_spared but name ≡ true → (after ≡ settled file.bytes) × (left ≡ count)
  pub picked : is_spared but name ≡ false → Picked pick count file after.bytes × (after ≡ settled after.bytes) × LeftOver pick count file left

-- .. of all files, one behind the other
abbrev pub Crashed : ℕ → ℕ → Option Name → Rows → Rows → ℕ → Type 0
Crashed pick count but [] [] left = left ≡ count
Crashed pick count but (r ∷ rs) (s ∷ ss) left = (between : ℕ) × ((s.0 ≡ r.0) × PickedRow pick count but r.0 r.1 s.1 between × Crashed pick between but rs ss left)
Crashed pick count but [] (s ∷ ss) left = ⊥
Crashed pick count but (r ∷ rs) [] left = ⊥

-- after a crash of this pick
pub record CrashedBy (pick : ℕ) (but : Option Name) (old new : Rows) : Type 0 where
  pub left : ℕ
  pub each : Crashed pick (pick / 4) but old new left

-- the file that a crash inside a call leaves as it is: what stands there is the old or the new one
abbrev pub spared_by : Op → Option Name
spared_by (WriteAt name place bytes) = None
spared_by (Sync name) = None
spared_by Barrier = None
spared_by (Install name bytes) = Some name
spared_by (Remove name) = Some name

-- a file that is written, made or taken away
abbrev pub Wrote : Name → ℕ → List ℕ → Rows → Rows → Type 0
Wrote name place bytes old new = (f : KeptBytes) → file_at name old ≡ Some f → IsUpdate name (Some (wrote place bytes f)) old new

-- done at an even pick, and else not
pub record AtEven (pick : ℕ) (name : Name) (file : Option KeptBytes) (old new : Rows) : Type 0 where
  pub even : pick % 2 ≡ 0 → IsUpdate name file old new
  pub odd : pick % 2 ≡ 1 → new ≡ old

-- what a call that is cut has done before the crash
abbrev pub Begun : Op → ℕ → Rows → Rows → Type 0
Begun (WriteAt name place bytes) pick old new = Wrote name place bytes old new
Begun (Sync name) pick old new = new ≡ old
Begun Barrier pick old new = new ≡ old
Begun (Install name bytes) pick old new = AtEven pick name (Some (settled bytes)) old new
Begun (Remove name) pick old new = AtEven pick name None old new

-- a call that is cut
pub record CutBy (op : Op) (pick : ℕ) (old new : Rows) : Type 0 where
  pub between : Rows
  pub begun : Begun op pick old between
  pub crashed : CrashedBy pick (spared_by op) between new

-- what a read gives, by name
abbrev pub row_bytes : Name × KeptBytes → Name × List ℕ
row_bytes row = (row.0, row.1.bytes)

abbrev pub contents : Rows → Files
contents rows = from_entries {R = name_cmp} (map row_bytes rows)

-- what the last sync left of a file, if it is there
abbrev pub synced_of : Option KeptBytes → Option (List ℕ)
synced_of None = None
synced_of (Some f) = Some (kept_to 0 f)

abbrev pub synced_at : Name → Rows → Option (List ℕ)
synced_at name rows = synced_of (file_at name rows)

-- what the last sync left is the same
pub record KeepsSynced (old new : Rows) : Type 0 where
  pub each : (q : Name) → synced_at q new ≡ synced_at q old

-- a file and what a crash leaves of it are both there or neither is
abbrev pub MatchFile : Option KeptBytes → Option (List ℕ) → Type 0
MatchFile None None = Unit {0}
MatchFile (Some f) (Some c) = FileImage f c
MatchFile None (Some c) = ⊥
MatchFile (Some f) None = ⊥

-- what a crash may leave of these files
pub record RowsImage (rows : Rows) (c : Files) : Type 0 where
  pub each : (q : Name) → MatchFile (file_at q rows) (get c q)

names_total : IsTotalOrder name_cmp
names_total = on_total name_number nat_cmp_total

settled_image : (f : KeptBytes) → FileImage f f.bytes
settled_image f = record { no_shorter = omega arith; same_length = λ h. h; agrees = λ i low out. refl }

-- what a read gives of a file, if it is there
abbrev pub file_bytes : Option KeptBytes → Option (List ℕ)
file_bytes None = None
file_bytes (Some f) = Some f.bytes

find_bytes : (rows : Rows) (q : Name) → find name_cmp q (map row_bytes rows) ≡ file_bytes (file_at q rows)
find_bytes [] q = refl
find_bytes (r ∷ rows) q = elim (eq_by_cmp name_cmp q r.0) as (λ (b : Bool). cond b (Some r.1.bytes) (find name_cmp q (map row_bytes rows)) ≡ file_bytes (cond b (Some r.1) (file_at q rows))) [
  | true ↦ refl
  | false ↦ find_bytes rows q
]

-- what a read gives
pub get_contents : (rows : Rows) (q : Name) → get (contents rows) q ≡ file_bytes (file_at q rows)
get_contents rows q = get-from_entries names_total (map row_bytes rows) q ∙ find_bytes rows q

-- a disk as it reads is one of its images
pub matches : (o : Option KeptBytes) → MatchFile o (file_bytes o)
matches None = tt
matches (Some f) = settled_image f

pub reads_image : (rows : Rows) → RowsImage rows (contents rows)
reads_image rows = record { each = λ q. subst (λ (o : Option (List ℕ)). MatchFile (file_at q rows) o) (sym (get_contents rows q)) (matches (file_at q rows)) }
