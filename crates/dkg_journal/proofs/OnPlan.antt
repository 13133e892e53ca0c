-- What the calls of the one-key record leave.
use Rattle.std.proofs.Common.{◌≡◌, ◌≢◌, inl, inr, ⊎_elim, ℕ, Bool, false, cond, not, List, [], ◌∷◌, ◌++◌, Option, Some, None, refl, sym, ◌∙◌, ap, subst, arith}
use Rattle.std.specs.Prelude.{flat_map}
use Rattle.std.specs.Option.{is_some}
use Rattle.std.specs.Ordering.{eq_by_cmp}
use Rattle.std.specs.declared.cmp.Ordering.TheVariants.{Equal}
use Rattle.std.specs.FinMap as map_of
use Rattle.std.specs.FinMap.{get, get-entries, entries_sorted}
use Rattle.std.specs.FinMap.Entries.{where_key, is_sorted-where_key, find-where_key, same_entries}
use Rattle.dkg_values.specs.declared.name.Name.{Name}
use Rattle.dkg_values.specs.declared.name.Name.TheVariants.{Plan, Flat, Segment}
use Rattle.dkg_journal.specs.Burn.{Burn}
use Rattle.dkg_journal.specs.DeviceCall.{DeviceCall}
use Rattle.dkg_journal.specs.Names.{Files, name_cmp, name_number}
use Rattle.dkg_journal.specs.Disk.{SameElse, ImagesFollow, Inside, Did, Lands}
use Rattle.dkg_journal.specs.Fuse.{RanAll}
use Rattle.dkg_journal.specs.Records.{SectionEntry, entries, entries_with, segment_entries}
use Rattle.dkg_journal.specs.Operations.{journaled, PutsPlan, ClearsPlan, after_operation, changing_calls, Tried, FinishedOperation}
use Rattle.dkg_journal.specs.declared.disk.Op.{Op}
use Rattle.dkg_journal.specs.declared.disk.Op.TheVariants.{Install, Remove}
use Rattle.dkg_journal.proofs.Steps.{names_total, exact_names, get_here, weaken, ran_all}
use Rattle.dkg_journal.proofs.AtOnce.{gone_here}
use Rattle.dkg_journal.proofs.Fuses.{all_burnt, ran_spent}
use Rattle.dkg_journal.proofs.SameFiles.{same_files, same_name, name_itself, name_apart, named, unnamed}
use Rattle.dkg_journal.proofs.Standing.{stands_for}

flat_not_plan : Flat ≢ Plan
flat_not_plan e = absurd (omega (arith, ap name_number e))

abbrev but_plan : Name → Bool
but_plan name = not (eq_by_cmp name_cmp name Plan)

-- the plan has no entries
unplanned : (es : List (Name × List ℕ)) → flat_map segment_entries (where_key name_cmp but_plan es) ≡ flat_map segment_entries es
unplanned [] = refl
unplanned ((Plan, v) ∷ es) = ap (λ (b : Bool). flat_map segment_entries (cond b ((Plan, v) ∷ where_key name_cmp but_plan es) (where_key name_cmp but_plan es))) (ap not (name_itself Plan)) ∙ unplanned es
unplanned ((Flat, v) ∷ es) = ap (λ (b : Bool). flat_map segment_entries (cond b ((Flat, v) ∷ where_key name_cmp but_plan es) (where_key name_cmp but_plan es))) (ap not (name_apart Flat Plan flat_not_plan)) ∙ unplanned es
unplanned ((Segment s, v) ∷ es) =
    ap (λ (b : Bool). flat_map segment_entries (cond b ((Segment s, v) ∷ where_key name_cmp but_plan es) (where_key name_cmp but_plan es))) (ap not (name_apart (Segment s) Plan (λ e. absurd (omega (arith, ap name_number e)))))
    ∙ ap (λ (l : List SectionEntry). segment_entries (Segment s, v) ++ l) (unplanned es)

alike_plan : (q x : Name) → name_cmp q x ≡ Equal → but_plan x ≡ but_plan q
alike_plan q x tied = ap but_plan (sym (exact_names q x tied))

-- files that differ in the plan alone have the same entries
pub plan_entries : (old new : Files) → SameElse Plan old new → entries new ≡ entries old
plan_entries old new others =
    let same_rows : where_key name_cmp but_plan (map_of.entries new) ≡ where_key name_cmp but_plan (map_of.entries old) =
    same_entries name_cmp names_total exact_names _ _ (is_sorted-where_key name_cmp but_plan (map_of.entries new) (entries_sorted new)) (is_sorted-where_key name_cmp but_plan (map_of.entries old) (entries_sorted old)) (λ q.
    find-where_key name_cmp but_plan q (alike_plan q) (map_of.entries new)
    ∙ at q
    ∙ sym (find-where_key name_cmp but_plan q (alike_plan q) (map_of.entries old)))
    in
    let segments : flat_map segment_entries (map_of.entries new) ≡ flat_map segment_entries (map_of.entries old) =
    sym (unplanned (map_of.entries new)) ∙ ap (λ (es : List (Name × List ℕ)). flat_map segment_entries es) same_rows ∙ unplanned (map_of.entries old)
    in
    ap (λ (o : Option (List ℕ)). entries_with o new) (others Flat flat_not_plan) ∙ by_flat (get old Flat) segments
  where
    at : (q : Name) → cond (but_plan q) (map_of.find name_cmp q (map_of.entries new)) None ≡ cond (but_plan q) (map_of.find name_cmp q (map_of.entries old)) None
    at q = ⊎_elim
        (λ (is : q ≡ Plan). ap (λ (b : Bool). cond b (map_of.find name_cmp q (map_of.entries new)) None) (gone q is) ∙ sym (ap (λ (b : Bool). cond b (map_of.find name_cmp q (map_of.entries old)) None) (gone q is)))
        (λ (ne : q ≢ Plan). ap (λ (o : Option (List ℕ)). cond (but_plan q) o None) (sym (get-entries new q) ∙ others q ne ∙ get-entries old q))
        (same_name q Plan)
      where
        gone : (q : Name) → q ≡ Plan → but_plan q ≡ false
        gone q is = ap but_plan is ∙ ap not (name_itself Plan)

    by_flat : (o : Option (List ℕ)) → flat_map segment_entries (map_of.entries new) ≡ flat_map segment_entries (map_of.entries old) → entries_with o new ≡ entries_with o old
    by_flat None same = same
    by_flat (Some file) same = refl

pub put_standing : (bytes : List ℕ) (old c : Files) → SameElse Plan old c → get c Plan ≡ Some bytes → journaled c ≡ after_operation (PutsPlan bytes) (journaled old)
put_standing bytes old c others is = stands_for c (after_operation (PutsPlan bytes) (journaled old)) (plan_entries old c others) is (named Plan old c others (ap is_some is))

pub cleared_standing : (old c : Files) → SameElse Plan old c → get c Plan ≡ None → journaled c ≡ after_operation ClearsPlan (journaled old)
cleared_standing old c others is = stands_for c (after_operation ClearsPlan (journaled old)) (plan_entries old c others) is (unnamed Plan old c others is)

-- one call, whatever it answered
pub tried_put : {D : Type 0} (made : D → D → List (DeviceCall Op) → Type 0) (a b : D) (f g : Burn) (bytes : List ℕ) (old : Files) (image next : Files → Type 0) → Lands old image → ImagesFollow (Inside (Install Plan bytes)) image next → RanAll made a b f g (Install Plan bytes ∷ []) → Tried (PutsPlan bytes) old next f g
tried_put made a b f g bytes old image next lands step all = record {
  each = λ c now.
      let from = step.each c now in
      let is : from.0 ≡ old = lands.only from.0 from.1 in
      let inside : Inside (Install Plan bytes) old c = subst (λ (d : Files). Inside (Install Plan bytes) d c) is from.2 in
      ⊎_elim
      (λ (same : get c Plan ≡ get old Plan). inl (ap journaled (same_files Plan old c inside.0 same)))
      (λ (new : get c Plan ≡ Some bytes). inr (inl (put_standing bytes old c inside.0 new)))
      inside.1;
  spent = ran_spent made a b f g (Install Plan bytes ∷ []) (changing_calls (PutsPlan bytes) (journaled old)) refl (ran_all made a b f g (Install Plan bytes ∷ []) all);
}

pub tried_clear : {D : Type 0} (made : D → D → List (DeviceCall Op) → Type 0) (a b : D) (f g : Burn) (old : Files) (image next : Files → Type 0) → Lands old image → ImagesFollow (Inside (Remove Plan)) image next → RanAll made a b f g (Remove Plan ∷ []) → Tried ClearsPlan old next f g
tried_clear made a b f g old image next lands step all = record {
  each = λ c now.
      let from = step.each c now in
      let is : from.0 ≡ old = lands.only from.0 from.1 in
      let inside : Inside (Remove Plan) old c = subst (λ (d : Files). Inside (Remove Plan) d c) is from.2 in
      ⊎_elim
      (λ (same : get c Plan ≡ get old Plan). inl (ap journaled (same_files Plan old c inside.0 same)))
      (λ (new : get c Plan ≡ None). inr (inl (cleared_standing old c inside.0 new)))
      inside.1;
  spent = ran_spent made a b f g (Remove Plan ∷ []) (changing_calls ClearsPlan (journaled old)) refl (ran_all made a b f g (Remove Plan ∷ []) all);
}

pub put_others : (bytes : List ℕ) (a b : Files → Type 0) → ImagesFollow (Inside (Install Plan bytes)) a b → ImagesFollow (SameElse Plan) a b
put_others bytes a b step = weaken (Inside (Install Plan bytes)) (SameElse Plan) a b (λ x y now k. k.0) step

pub clear_others : (a b : Files → Type 0) → ImagesFollow (Inside (Remove Plan)) a b → ImagesFollow (SameElse Plan) a b
clear_others a b step = weaken (Inside (Remove Plan)) (SameElse Plan) a b (λ x y now k. k.0) step

pub none_others : (a : Files → Type 0) → ImagesFollow (SameElse Plan) a a
none_others a = record { each = λ c now. (c, now, λ q ne. refl) }

-- it is done, and a crash leaves what a read gives
one_file_lands : (name : Name) (old new : Files) (image next : Files → Type 0) → Lands old image → ImagesFollow (SameElse name) image next → next new → ((c : Files) → next c → get c name ≡ get new name) → Lands new next
one_file_lands name old new image next lands step now here = record {
  only = λ c is.
      let from = step.each c is in
      let back = step.each new now in
      let apart : SameElse name old c = subst (λ (d : Files). SameElse name d c) (lands.only from.0 from.1) from.2 in
      let rest : SameElse name old new = subst (λ (d : Files). SameElse name d new) (lands.only back.0 back.1) back.2 in
      same_files name new c (λ q ne. apart q ne ∙ sym (rest q ne)) (here c is);
}

pub put_read : (bytes : List ℕ) (old new : Files) (next : Files → Type 0) → Did (Install Plan bytes) old new next → get new Plan ≡ Some bytes
put_read bytes old new next did = ap (λ (f : Files). get f Plan) did.reads ∙ get_here old Plan bytes

pub clear_read : (old new : Files) (next : Files → Type 0) → Did (Remove Plan) old new next → get new Plan ≡ None
clear_read old new next did = ap (λ (f : Files). get f Plan) did.reads ∙ gone_here old Plan

pub finished_put : {D : Type 0} (made : D → D → List (DeviceCall Op) → Type 0) (a b : D) (f g : Burn) (bytes : List ℕ) (old new : Files) (image next : Files → Type 0) → Lands old image → ImagesFollow (Inside (Install Plan bytes)) image next → Did (Install Plan bytes) old new next → next new → RanAll made a b f g (Install Plan bytes ∷ []) → FinishedOperation (PutsPlan bytes) old new next f g
finished_put made a b f g bytes old new image next lands step did now all =
    let back = step.each new now in
    let rest : SameElse Plan old new = subst (λ (d : Files). SameElse Plan d new) (lands.only back.0 back.1) back.2.0 in
    let here : get new Plan ≡ Some bytes = put_read bytes old new next did in
    record {
      after = put_standing bytes old new rest here;
      settled = one_file_lands Plan old new image next lands (put_others bytes image next step) now (λ c is. did.durable c is ∙ sym here);
      spent = all_burnt made a b f g (Install Plan bytes ∷ []) (changing_calls (PutsPlan bytes) (journaled old)) refl all;
    }

pub finished_clear : {D : Type 0} (made : D → D → List (DeviceCall Op) → Type 0) (a b : D) (f g : Burn) (old new : Files) (image next : Files → Type 0) → Lands old image → ImagesFollow (Inside (Remove Plan)) image next → Did (Remove Plan) old new next → next new → RanAll made a b f g (Remove Plan ∷ []) → FinishedOperation ClearsPlan old new next f g
finished_clear made a b f g old new image next lands step did now all =
    let back = step.each new now in
    let rest : SameElse Plan old new = subst (λ (d : Files). SameElse Plan d new) (lands.only back.0 back.1) back.2.0 in
    let here : get new Plan ≡ None = clear_read old new next did in
    record {
      after = cleared_standing old new rest here;
      settled = one_file_lands Plan old new image next lands (clear_others image next step) now (λ c is. did.durable c is ∙ sym here);
      spent = all_burnt made a b f g (Remove Plan ∷ []) (changing_calls ClearsPlan (journaled old)) refl all;
    }
