-- What files stand for, after each step of an operation.
use Rattle.std.proofs.Common.{◌≡◌, ◌≢◌, inl, inr, ⊎_elim, ℕ, Bool, true, cond, List, length, Option, Some, None, Result, Ok, Err, OnOk, is_some, refl, sym, ◌∙◌, ap, subst, arith}
use Rattle.std.specs.FinMap.{get, keys}
use Rattle.dkg_values.specs.declared.name.Name.{Name}
use Rattle.dkg_values.specs.declared.name.Name.TheVariants.{Plan, Segment}
use Rattle.dkg_journal.specs.Burn.{Burn}
use Rattle.dkg_journal.specs.DeviceCall.{DeviceCall}
use Rattle.dkg_journal.specs.Names.{Files, name_number}
use Rattle.dkg_journal.specs.Disk.{SameElse, HasFile, ImagesFollow, Lands, IsUnchanged}
use Rattle.dkg_journal.specs.Fuse.{Ran, RanAll}
use Rattle.dkg_journal.specs.Records.{SectionEntry, entries, placed}
use Rattle.dkg_journal.specs.Steps.{Firm, IsNextAppend, SegmentAt, KeepsBut, AddsEntry, MayAdd, Into, append_calls_at}
use Rattle.dkg_journal.specs.Operations.{Journaled, journaled, with_name, JournalOperation, Appends, after_operation, changing_calls, InPart, TriesOperation, Tried, FinishedOperation, TriedOn, FinishedOn, Does}
use Rattle.dkg_journal.specs.declared.disk.Op.{Op}
use Rattle.dkg_journal.proofs.Steps.{weaken}
use Rattle.dkg_journal.proofs.SameFiles.{same_files, named, has_key}
use Rattle.dkg_journal.proofs.Fuses.{all_burnt, ran_spent, none_spent}

pub plan_apart : (section : ℕ) → Plan ≢ Segment section
plan_apart section e = absurd (omega (arith, ap name_number e))

-- a file that is there
pub is_there : (c : Files) (name : Name) → HasFile c name (λ file. Unit {0}) → is_some (get c name) ≡ true
is_there c name has = ap is_some has.there

pub stands_for : (c : Files) (j : Journaled) → entries c ≡ j.entries → get c Plan ≡ j.plan → keys c ≡ j.names → journaled c ≡ j
stands_for c j es plan names = λ i. record { entries = es i; plan = plan i; names = names i }

-- after an append, and in part
pub appended : (e : SectionEntry) (old c : Files) → SameElse (Segment e.0) old c → HasFile c (Segment e.0) (λ file. Unit {0}) → entries c ≡ placed (entries old) e → journaled c ≡ after_operation (Appends e) (journaled old)
appended e old c others has added = stands_for c (after_operation (Appends e) (journaled old)) added (others Plan (plan_apart e.0)) (named (Segment e.0) old c others (is_there c (Segment e.0) has))

pub appended_in_part : (e : SectionEntry) (old c : Files) → SameElse (Segment e.0) old c → HasFile c (Segment e.0) (λ file. Unit {0}) → entries c ≡ entries old → InPart (Appends e) (journaled old) (journaled c)
appended_in_part e old c others has same = stands_for c (record { entries = entries old; plan = get old Plan; names = with_name (Segment e.0) (keys old) }) same (others Plan (plan_apart e.0)) (named (Segment e.0) old c others (is_there c (Segment e.0) has))

-- nothing was done
pub tries_none : (op : JournalOperation) (old : Files) (image : Files → Type 0) → Lands old image → (c : Files) → image c → TriesOperation op old c
tries_none op old image lands c now = inl (ap journaled (lands.only c now))

pub tried_none : (op : JournalOperation) (old : Files) (image : Files → Type 0) (f : Burn) → Lands old image → Tried op old image f f
tried_none op old image f lands = record { each = tries_none op old image lands; spent = none_spent (changing_calls op (journaled old)) f }

-- the file is in each image
pub into_has : (name : Name) (P : List ℕ → Type 0) (a b : Files → Type 0) → ImagesFollow (Into name P) a b → (c : Files) → b c → HasFile c name (λ file. Unit {0})
into_has name P a b step c now = let from = step.each c now in record { bytes = from.2.1.bytes; there = from.2.1.there; so = tt }

-- an append behind the first of its calls
pub tries_append : (e : SectionEntry) (old : Files) (image next : Files → Type 0) → Lands old image → ImagesFollow (MayAdd e) image next → ((c : Files) → next c → HasFile c (Segment e.0) (λ file. Unit {0})) → (c : Files) → next c → TriesOperation (Appends e) old c
tries_append e old image next lands step has c now =
    let from = step.each c now in
    let is : from.0 ≡ old = lands.only from.0 from.1 in
    let may : MayAdd e old c = subst (λ (d : Files). MayAdd e d c) is from.2 in
    inr (⊎_elim (λ same. inr (appended_in_part e old c may.others (has c now) same)) (λ added. inl (appended e old c may.others (has c now) added)) may.either)

-- .. and before or in it
pub tries_make : (e : SectionEntry) (place : Option ℕ) (old : Files) (image next : Files → Type 0) → IsNextAppend e.0 place old image → Lands old image → ImagesFollow (KeepsBut (Segment e.0)) image next → ((p : ℕ) → place ≡ Some p → (c : Files) → next c → image c) → (c : Files) → next c → TriesOperation (Appends e) old c
tries_make e (Some p) old image next at lands step same c now = tries_none (Appends e) old image lands c (same p refl c now)
tries_make e None old image next at lands step same c now =
    let from = step.each c now in
    let is : from.0 ≡ old = lands.only from.0 from.1 in
    let keeps : KeepsBut (Segment e.0) old c = subst (λ (d : Files). KeepsBut (Segment e.0) d c) is from.2 in
    by_file keeps (get c (Segment e.0)) refl
  where
    by_file : KeepsBut (Segment e.0) old c → (o : Option (List ℕ)) → get c (Segment e.0) ≡ o → TriesOperation (Appends e) old c
    by_file keeps (Some x) is = inr (inr (appended_in_part e old c keeps.others (record { bytes = x; there = is; so = tt }) keeps.same))
    by_file keeps None is = inl (ap journaled (same_files (Segment e.0) old c keeps.others (is ∙ sym at.at)))

-- nothing is loose then
pub settled_file : (name : Name) (x : List ℕ) (old new : Files) (image next : Files → Type 0) → Lands old image → Firm name x new next → ImagesFollow (SameElse name) image next → next new → Lands new next
settled_file name x old new image next lands firm step now = record {
  only = λ c here.
      let from = step.each c here in
      let back = step.each new now in
      let apart : SameElse name old c = subst (λ (d : Files). SameElse name d c) (lands.only from.0 from.1) from.2 in
      let rest : SameElse name old new = subst (λ (d : Files). SameElse name d new) (lands.only back.0 back.1) back.2 in
      same_files name new c (λ q ne. apart q ne ∙ sym (rest q ne)) (firm.only c here ∙ sym firm.there);
}

adds_else : (e : SectionEntry) (a b : Files → Type 0) → ImagesFollow (AddsEntry e) a b → ImagesFollow (SameElse (Segment e.0)) a b
adds_else e a b step = weaken (AddsEntry e) (SameElse (Segment e.0)) a b (λ x y now k. k.others) step

-- the calls of an append, of what the files are
pub append_size : (place : Option ℕ) (e : SectionEntry) (old : Files) (image : Files → Type 0) → IsNextAppend e.0 place old image → length (append_calls_at place e) ≡ changing_calls (Appends e) (journaled old)
append_size (Some p) e old image at = sym (ap (λ (b : Bool). cond b 4 5) (has_key old (Segment e.0) ∙ ap is_some at.at.2))
append_size None e old image at = sym (ap (λ (b : Bool). cond b 4 5) (has_key old (Segment e.0) ∙ ap is_some at.at))

pub tried_append : {D : Type 0} (made : D → D → List (DeviceCall Op) → Type 0) (a b : D) (f g : Burn) (place : Option ℕ) (e : SectionEntry) (old : Files) (image next : Files → Type 0) → IsNextAppend e.0 place old image → Ran made a b f g (append_calls_at place e) → ((c : Files) → next c → TriesOperation (Appends e) old c) → Tried (Appends e) old next f g
tried_append made a b f g place e old image next at ran each = record { each = each; spent = ran_spent made a b f g (append_calls_at place e) (changing_calls (Appends e) (journaled old)) (append_size place e old image at) ran }

pub finished_append : {D : Type 0} (made : D → D → List (DeviceCall Op) → Type 0) (a b : D) (f g : Burn) (place : Option ℕ) (end : ℕ) (e : SectionEntry) (old new : Files) (image next : Files → Type 0) → IsNextAppend e.0 place old image → Lands old image → SegmentAt e.0 end new next → ImagesFollow (AddsEntry e) image next → next new → RanAll made a b f g (append_calls_at place e) → FinishedOperation (Appends e) old new next f g
finished_append made a b f g place end e old new image next at lands segment step now all =
    let from = step.each new now in
    let adds : AddsEntry e old new = subst (λ (d : Files). AddsEntry e d new) (lands.only from.0 from.1) from.2 in
    record {
      after = appended e old new adds.others (record { bytes = segment.bytes; there = segment.firm.there; so = tt }) adds.added;
      settled = settled_file (Segment e.0) segment.bytes old new image next lands segment.firm (adds_else e image next step) now;
      spent = all_burnt made a b f g (append_calls_at place e) (changing_calls (Appends e) (journaled old)) (append_size place e old image at) all;
    }

-- an operation that came to its end, and one that did not
pub does_ok : {D T E : Type 0} (files : D → Files) (image : D → Files → Type 0) (op : JournalOperation) (x : T) (a b : D) (f g : Burn) → TriedOn files image op a b f g → FinishedOn files image op a b f g → Does {E = E} files image op (Ok x) a b f g
does_ok files image op x a b f g tried done = record { tried = tried; done = done }

pub does_err : {D T E : Type 0} (files : D → Files) (image : D → Files → Type 0) (op : JournalOperation) (r : Result T E) (e : E) (a b : D) (f g : Burn) → r ≡ Err e → TriedOn files image op a b f g → Does files image op r a b f g
does_err {T = T} {E = E} files image op r e a b f g is tried = record { tried = tried; done = subst (λ (q : Result T E). OnOk q (FinishedOn files image op a b f g)) (sym is) tt }

-- an operation that only read
pub unchanged_lands : {D : Type 0} (files : D → Files) (image : D → Files → Type 0) (a b : D) → Lands (files a) (image a) → IsUnchanged files image a b → Lands (files b) (image b)
unchanged_lands files image a b lands same = record { only = λ c now. lands.only c (same.same_images c now) ∙ sym same.same_files }

pub unchanged_tries : {D : Type 0} (files : D → Files) (image : D → Files → Type 0) (a b : D) (op : JournalOperation) → Lands (files a) (image a) → IsUnchanged files image a b → (c : Files) → image b c → TriesOperation op (files a) c
unchanged_tries files image a b op lands same c now = inl (ap journaled (lands.only c (same.same_images c now)))
