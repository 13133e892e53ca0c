-- The changing calls, the cuts and the crashes that a memory disk has had.
use Rattle.std.specs.Prelude.{◌≡◌, ◌⊎◌, ℕ, List, [], ◌∷◌, ◌++◌, None, refl}
use Rattle.std.proofs.Common.{sym, ◌∙◌, ap, subst}
use Rattle.dkg_journal.specs.Names.{Files}
use Rattle.dkg_journal.specs.DeviceCall.{DeviceCall, CallMade, CutIn, Crashes}
use Rattle.dkg_journal.specs.Disk.{Inside, ImagesFollow}
use Rattle.dkg_journal.specs.Fuse.{counted}
use Rattle.dkg_journal.specs.Table.{Rows, RowsImage, CutBy, CrashedBy}
use Rattle.dkg_journal.specs.declared.disk.Op.{Op}

-- A count of changing calls after these. A cut is one, and a crash is none.
abbrev pub count_of : List (DeviceCall Op) → ℕ → ℕ
count_of [] n = n
count_of (CallMade op ∷ calls) n = count_of calls (counted n)
count_of (CutIn op pick ∷ calls) n = count_of calls (counted n)
count_of (Crashes pick ∷ calls) n = count_of calls n

-- what a crash inside or after it makes of an image from before it
abbrev pub Within : DeviceCall Op → Files → Files → Type 0
Within (CallMade op) old new = Inside op old new
Within (CutIn op pick) old new = Inside op old new
Within (Crashes pick) old new = new ≡ old

-- .. or these, one behind the other
abbrev pub Withins : List (DeviceCall Op) → Files → Files → Type 0
Withins [] old new = new ≡ old
Withins (call ∷ calls) old new = (mid : Files) × Within call old mid × Withins calls mid new

-- What its pick leaves. A cut that found no memory has changed nothing.
abbrev pub LeftBy : DeviceCall Op → Rows → Rows → Type 0
LeftBy (CallMade op) old new = Unit {0}
LeftBy (CutIn op pick) old new = CutBy op pick old new ⊎ (new ≡ old)
LeftBy (Crashes pick) old new = CrashedBy pick None old new

pub record Stepped (call : DeviceCall Op) (old new : Rows) : Type 0 where
  pub images : ImagesFollow (Within call) (RowsImage old) (RowsImage new)
  pub picked : LeftBy call old new

-- one behind the other
abbrev pub AllStepped : List (DeviceCall Op) → Rows → Rows → Type 0
AllStepped [] old new = new ≡ old
AllStepped (call ∷ calls) old new = (mid : Rows) × Stepped call old mid × AllStepped calls mid new

-- These were had and counted, and no others.
pub record Made (calls : List (DeviceCall Op)) (before now : ℕ) (old new : Rows) : Type 0 where
  pub count : now ≡ count_of calls before
  pub steps : AllStepped calls old new

count_append : (xs ys : List (DeviceCall Op)) (n : ℕ) → count_of (xs ++ ys) n ≡ count_of ys (count_of xs n)
count_append [] ys n = refl
count_append (CallMade op ∷ xs) ys n = count_append xs ys (counted n)
count_append (CutIn op pick ∷ xs) ys n = count_append xs ys (counted n)
count_append (Crashes pick ∷ xs) ys n = count_append xs ys n

steps_append : (xs ys : List (DeviceCall Op)) (old mid new : Rows) → AllStepped xs old mid → AllStepped ys mid new → AllStepped (xs ++ ys) old new
steps_append [] ys old mid new same rest = subst (λ (r : Rows). AllStepped ys r new) same rest
steps_append (x ∷ xs) ys old mid new first rest = (first.0, first.1, steps_append xs ys first.0 mid new first.2 rest)

pub made_nothing : (n : ℕ) (rows : Rows) → Made [] n n rows rows
made_nothing n rows = record { count = refl; steps = refl }

pub made_both : (xs ys : List (DeviceCall Op)) (a b c : ℕ) (old mid new : Rows) → Made xs a b old mid → Made ys b c mid new → Made (xs ++ ys) a c old new
made_both xs ys a b c old mid new first second = record {
  count = second.count ∙ ap (count_of ys) first.count ∙ sym (count_append xs ys a);
  steps = steps_append xs ys old mid new first.steps second.steps;
}

-- a call that was made
pub made_one : (op : Op) (a b : ℕ) (old new : Rows) → b ≡ counted a → ImagesFollow (Inside op) (RowsImage old) (RowsImage new) → Made (CallMade op ∷ []) a b old new
made_one op a b old new count step = record { count = count; steps = (new, record { images = step; picked = tt }, refl) }

-- .. that was cut
pub made_cut : (op : Op) (pick a b : ℕ) (old new : Rows) → b ≡ counted a → ImagesFollow (Inside op) (RowsImage old) (RowsImage new) → CutBy op pick old new ⊎ (new ≡ old) → Made (CutIn op pick ∷ []) a b old new
made_cut op pick a b old new count step picked = record { count = count; steps = (new, record { images = step; picked = picked }, refl) }

-- .. and a crash
pub made_crash : (pick a b : ℕ) (old new : Rows) → b ≡ a → ((c : Files) → RowsImage new c → RowsImage old c) → CrashedBy pick None old new → Made (Crashes pick ∷ []) a b old new
made_crash pick a b old new count narrows picked = record {
  count = count;
  steps = (new, record { images = record { each = λ c now. (c, narrows c now, refl) }; picked = picked }, refl);
}

all_images : (calls : List (DeviceCall Op)) (old new : Rows) → AllStepped calls old new → ImagesFollow (Withins calls) (RowsImage old) (RowsImage new)
all_images [] old new same = record { each = λ c now. (c, subst (λ (r : Rows). RowsImage r c) same now, refl) }
all_images (call ∷ calls) old new steps = record {
  each = λ c now.
      let y = (all_images calls steps.0 new steps.2).each c now in
      let x = steps.1.images.each y.0 y.1 in (x.0, x.1, (y.0, x.2, y.2));
}

-- WHAT A CRASH NOW LEAVES is what one left before, after these.
pub made_images : (calls : List (DeviceCall Op)) (a b : ℕ) (old new : Rows) → Made calls a b old new → ImagesFollow (Withins calls) (RowsImage old) (RowsImage new)
made_images calls a b old new made = all_images calls old new made.steps
