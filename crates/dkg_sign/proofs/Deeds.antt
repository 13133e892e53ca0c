-- How what was done, and what the record covers, go on.
use Rattle.std.proofs.Common.{◌≡◌, ◌⊎◌, inl, inr, ⊎_elim, ℕ, ◌<◌, ◌≤◌, List, [], ◌∷◌, Option, Some, None, Result, Ok, Err, refl, sym, ◌∙◌, ap, subst, arith}
use Rattle.std.proofs.lemmas.Bool.{cases_Bool, eqb-true, ltb-true, ltb-false}
use Rattle.std.proofs.lemmas.Result.{err_from_is_err_and}
use Rattle.std.specs.Prelude.{Bool, true, false, nat_lt, nat_eq as eqb, IsErrAnd}
use Rattle.dkg_journal.specs.Burn.{Burn}
use Rattle.dkg_journal.specs.Disk.{Lands}
use Rattle.dkg_journal.specs.Fuse.{Fused}
use Rattle.dkg_journal.specs.Names.{Files}
use Rattle.dkg_journal.proofs.Fuses.{fused_none}
use Rattle.dkg_types.specs.declared.scheme.SchemeInfo.{SchemeInfo}
use Rattle.dkg_sign.specs.Desks.{Desk, held_of_current, material_of, replaced_by}
use Rattle.dkg_sign.specs.Materials.{is_own}
use Rattle.dkg_sign.specs.Registers.{JudgesRegistration, RegistrationVerdict, is_recorded_below}
use Rattle.dkg_sign.specs.Lives.{DeskDeed, Registered, Signed, NoneAbove, NoneRegistered, NeverBack, Covers, RecordCovers, KeepsPromise, KeptWith, deeds_with_registered}
use Rattle.dkg_sign.specs.Recorded.{recorded, IsAsLeft}
use Rattle.dkg_sign.specs.declared.error.DeskError.{DeskError}
use Rattle.dkg_sign.specs.declared.error.DeskError.TheVariants.{Conflict, Cut, NoMemory}

-- none above a number is none above a higher one
pub above_more : (low high : ℕ) (deeds : List DeskDeed) → low ≤ high → NoneAbove low deeds → NoneAbove high deeds
above_more low high [] le none = tt
above_more low high (Registered e ∷ deeds) le none = (omega (arith, none.0), above_more low high deeds le none.1)
above_more low high (Signed e ∷ deeds) le none = above_more low high deeds le none

none_above : (epoch : ℕ) (deeds : List DeskDeed) → NoneRegistered deeds → NoneAbove epoch deeds
none_above epoch [] none = tt
none_above epoch (Registered e ∷ deeds) none = absurd none
none_above epoch (Signed e ∷ deeds) none = none_above epoch deeds none

-- an epoch no lower than the current one
abbrev pub IsFrom : Option ℕ → (epoch : ℕ) → Type 0
IsFrom None epoch = Unit {0}
IsFrom (Some current) epoch = current ≤ epoch

-- what a desk covers is not above an epoch from its current one on
pub covered : (current : Option ℕ) (epoch : ℕ) (deeds : List DeskDeed) → IsFrom current epoch → Covers current deeds → NoneAbove epoch deeds
covered None epoch deeds from covers = none_above epoch deeds covers
covered (Some current) epoch deeds from covers = above_more current epoch deeds from covers

-- what is read covers what each image covers
pub covered_by : (reading : Result (Option ℕ) DeskError) (current : Option ℕ) (deeds : List DeskDeed) → reading ≡ Ok current → RecordCovers reading deeds → Covers current deeds
covered_by reading current deeds is covers = subst (λ (r : Result (Option ℕ) DeskError). RecordCovers r deeds) is covers

pub covers_at : (reading : Result (Option ℕ) DeskError) (current : Option ℕ) (deeds : List DeskDeed) → reading ≡ Ok current → Covers current deeds → RecordCovers reading deeds
covers_at reading current deeds is covers = subst (λ (r : Result (Option ℕ) DeskError). RecordCovers r deeds) (sym is) covers

-- a desk that its disk stands beside covers what is kept
pub stands_covers : (desk : Desk) (files : Files) (image : Files → Type 0) (deeds : List DeskDeed) → image files → IsAsLeft desk files image → KeepsPromise deeds image → Covers desk.current deeds
stands_covers desk files image deeds reads stands keeps = covered_by (recorded files) desk.current deeds stands.says (keeps.recorded files reads)

-- fewer images
pub keeps_fewer : (deeds : List DeskDeed) (old new : Files → Type 0) → ((c : Files) → new c → old c) → KeepsPromise deeds old → KeepsPromise deeds new
keeps_fewer deeds old new fewer keeps = record { never_back = keeps.never_back; recorded = λ c now. keeps.recorded c (fewer c now) }

-- a registration of an epoch that is recorded in each image
pub keeps_registered : (epoch : ℕ) (deeds : List DeskDeed) (image old : Files → Type 0) → NoneAbove epoch deeds → ((c : Files) → image c → recorded c ≡ Ok (Some epoch)) → KeepsPromise deeds old → KeepsPromise (Registered epoch ∷ deeds) image
keeps_registered epoch deeds image old none says keeps = record {
  never_back = keeps.never_back;
  recorded = λ c now. covers_at (recorded c) (Some epoch) (Registered epoch ∷ deeds) (says c now) (omega arith, none);
}

-- a put of an epoch that did not end
pub keeps_tried : (epoch : ℕ) (deeds : List DeskDeed) (files : Files) (old new : Files → Type 0) → NoneAbove epoch deeds → old files → ((c : Files) → new c → (recorded c ≡ recorded files) ⊎ (recorded c ≡ Ok (Some epoch))) → KeepsPromise deeds old → KeepsPromise deeds new
keeps_tried epoch deeds files old new none reads tried keeps = record {
  never_back = keeps.never_back;
  recorded = λ c now. ⊎_elim
      (λ same. subst (λ (r : Result (Option ℕ) DeskError). RecordCovers r deeds) (sym same) (keeps.recorded files reads))
      (λ put. covers_at (recorded c) (Some epoch) deeds put none)
      (tried c now);
}

-- one deed more
pub keeps_with : (deed : DeskDeed) (deeds : List DeskDeed) (current : Option ℕ) (image : Files → Type 0) → KeepsPromise deeds image → KeptWith deed current deeds → KeepsPromise (deed ∷ deeds) image
keeps_with deed deeds current image keeps more = record { never_back = more.never_back; recorded = λ c now. more.recorded c (keeps.recorded c now) }

-- ---- a registration

from_unreplaced : (current : Option ℕ) (epoch : ℕ) → replaced_by current epoch ≡ None → is_recorded_below current epoch ≡ false → current ≡ Some epoch
from_unreplaced None epoch none below = absurd cc
from_unreplaced (Some c) epoch none below =
    let not_above : nat_lt epoch c ≡ false = unreplaced c epoch none in
    let high : c ≤ epoch = ltb-false epoch c not_above in
    let low : epoch ≤ c = ltb-false c epoch below in
    let same : c ≡ epoch = omega arith in
    ap (λ (n : ℕ). Some n) same
  where
    unreplaced : (c epoch : ℕ) → replaced_by (Some c) epoch ≡ None → nat_lt epoch c ≡ false
    unreplaced c epoch none = elim (cases_Bool (nat_lt epoch c)) [
      | inl above ↦ absurd (let some : Some c ≡ None = rw above at none in cc)
      | inr under ↦ under
    ]

from_below : (current : Option ℕ) (epoch : ℕ) → is_recorded_below current epoch ≡ true → IsFrom current epoch
from_below None epoch below = tt
from_below (Some c) epoch below = let lt : c < epoch = ltb-true c epoch below in omega arith

held_current : (current : Option ℕ) (held : Option SchemeInfo) (epoch : ℕ) (info : SchemeInfo) → held_of_current current held epoch ≡ Some info → current ≡ Some epoch
held_current None held epoch info is = absurd cc
held_current (Some c) held epoch info is = elim (cases_Bool (eqb c epoch)) [
  | inl same ↦ ap (λ (n : ℕ). Some n) (eqb-true c epoch same)
  | inr other ↦ absurd (let none : None ≡ Some info = rw other at is in cc)
]

ok_not_err : (b : Bool) (e : DeskError) → ◌≡◌ {A = Result Bool DeskError} (Ok b) (Err e) → ⊥
ok_not_err b e is = cc

-- which desks are asked to take material
taken_from : (replaced : Option ℕ) (own : Bool) (held : Option SchemeInfo) (epoch : ℕ) (info : SchemeInfo) → RegistrationVerdict replaced own held epoch info (Ok true) → replaced ≡ None
taken_from (Some c) own held epoch info tests = absurd (ok_not_err _ _ tests)
taken_from None own held epoch info tests = refl

known_from : (replaced : Option ℕ) (own : Bool) (held : Option SchemeInfo) (epoch : ℕ) (info : SchemeInfo) → RegistrationVerdict replaced own held epoch info (Ok false) → (other : SchemeInfo) × (held ≡ Some other)
known_from (Some c) own held epoch info tests = absurd (ok_not_err _ _ tests)
known_from None false held epoch info tests = absurd (ok_not_err _ _ tests)
known_from None true None epoch info tests = absurd cc
known_from None true (Some other) epoch info tests = (other, refl)

never_cut : (replaced : Option ℕ) (own : Bool) (held : Option SchemeInfo) (epoch : ℕ) (info : SchemeInfo) (e : DeskError) → RegistrationVerdict replaced own held epoch info (Err e) → e ≡ Cut → ⊥
never_cut (Some c) own held epoch info e tests cut = absurd cc
never_cut None false held epoch info e tests cut = absurd cc
never_cut None true None epoch info e tests cut = absurd cc
never_cut None true (Some other) epoch info e tests cut = ⊎_elim (λ (t : (Err e ≡ Ok false) × (other ≡ info)). absurd (ok_not_err false e (sym t.0))) (λ (t : (Err e ≡ Err (Conflict epoch)) × (other ≡ info → ⊥)). let same : ◌≡◌ {A = Result Bool DeskError} (Err e) (Err (Conflict epoch)) = t.0 in absurd cc) tests

-- a refusal spends no fuse
pub refusal_fused : {T : Type 0} (desk : Desk) (epoch : ℕ) (info : SchemeInfo) (e : DeskError) (r : Result T DeskError) (f : Burn) → JudgesRegistration desk epoch info (Err e) → IsErrAnd r (λ d. d ≡ e) → Fused Cut NoMemory r f f
refusal_fused {T} desk epoch info e r f judged is =
    let q = err_from_is_err_and r is in
    fused_none Cut NoMemory r f (λ cut.
    let same : ◌≡◌ {A = Result T DeskError} (Err q.0) (Err Cut) = sym q.1 ∙ cut in
    let one : q.0 ≡ Cut = cc in
    never_cut (replaced_by desk.current epoch) (is_own desk.me info) (material_of desk epoch) epoch info e judged (sym q.2 ∙ one))

-- all images say what the files say
each_says : (desk : Desk) (files : Files) (image : Files → Type 0) (epoch : ℕ) → desk.current ≡ Some epoch → IsAsLeft desk files image → (c : Files) → image c → recorded c ≡ Ok (Some epoch)
each_says desk files image epoch at stands c now = ap recorded (stands.settled.only c now) ∙ stands.says ∙ ap (λ (o : Option ℕ). Ok o) at

-- what is promised over lives behind a registration that was answered Ok
abbrev pub RegisteredIn : Option ℕ → (epoch : ℕ) → List DeskDeed → (Files → Type 0) → Type 0
RegisteredIn current epoch deeds image = KeepsPromise (Registered epoch ∷ deeds) image × Covers current (Registered epoch ∷ deeds)

covers_now : (current : Option ℕ) (epoch : ℕ) (deeds : List DeskDeed) → current ≡ Some epoch → NoneAbove epoch deeds → Covers current (Registered epoch ∷ deeds)
covers_now current epoch deeds at none = subst (λ (o : Option ℕ). Covers o (Registered epoch ∷ deeds)) (sym at) (omega arith, none)

-- .. of an epoch that the record has already
recorded_lives : (desk : Desk) (epoch : ℕ) (files : Files) (image : Files → Type 0) (deeds : List DeskDeed) → desk.current ≡ Some epoch → image files → IsAsLeft desk files image → KeepsPromise deeds image → KeepsPromise (Registered epoch ∷ deeds) image × NoneAbove epoch deeds
recorded_lives desk epoch files image deeds at reads stands keeps =
    let covers : Covers (Some epoch) deeds = subst (λ (o : Option ℕ). Covers o deeds) at (stands_covers desk files image deeds reads stands keeps) in
    (keeps_registered epoch deeds image image covers (each_says desk files image epoch at stands) keeps, covers)

-- the same material again
pub again_lives : (desk : Desk) (epoch : ℕ) (info : SchemeInfo) (files : Files) (image : Files → Type 0) (deeds : List DeskDeed) (b : Bool) → JudgesRegistration desk epoch info (Ok b) → b ≡ false → image files → IsAsLeft desk files image → KeepsPromise deeds image → RegisteredIn desk.current epoch deeds image
again_lives desk epoch info files image deeds b judged is reads stands keeps =
    let other = known_from (replaced_by desk.current epoch) (is_own desk.me info) (material_of desk epoch) epoch info (subst (λ (v : Bool). JudgesRegistration desk epoch info (Ok v)) is judged) in
    let at = held_current desk.current desk.held epoch other.0 other.1 in
    let r = recorded_lives desk epoch files image deeds at reads stands keeps in
    (r.0, covers_now desk.current epoch deeds at r.1)

-- material of an epoch that is in the record
pub taken_lives : (desk : Desk) (epoch : ℕ) (info : SchemeInfo) (files : Files) (image : Files → Type 0) (deeds : List DeskDeed) (b : Bool) → JudgesRegistration desk epoch info (Ok b) → b ≡ true → is_recorded_below desk.current epoch ≡ false → image files → IsAsLeft desk files image → KeepsPromise deeds image → RegisteredIn (Some epoch) epoch deeds image
taken_lives desk epoch info files image deeds b judged is below reads stands keeps =
    let none = taken_from (replaced_by desk.current epoch) (is_own desk.me info) (material_of desk epoch) epoch info (subst (λ (v : Bool). JudgesRegistration desk epoch info (Ok v)) is judged) in
    let r = recorded_lives desk epoch files image deeds (from_unreplaced desk.current epoch none below) reads stands keeps in
    (r.0, (omega arith, r.1))

-- .. that was put into it
pub put_lives : (desk : Desk) (epoch : ℕ) (files files' : Files) (image image' : Files → Type 0) (deeds : List DeskDeed) → is_recorded_below desk.current epoch ≡ true → image files → IsAsLeft desk files image → KeepsPromise deeds image
    → (number : ℕ) → number ≡ epoch → (recorded files' ≡ Ok (Some number)) × Lands files' image' → RegisteredIn (Some epoch) epoch deeds image'
put_lives desk epoch files files' image image' deeds below reads stands keeps number same done =
    let none = covered desk.current epoch deeds (from_below desk.current epoch below) (stands_covers desk files image deeds reads stands keeps) in
    (keeps_registered epoch deeds image' image none (λ c now. ap recorded (done.1.only c now) ∙ done.0 ∙ ap (λ (n : ℕ). Ok (Some n)) same) keeps, (omega arith, none))

-- a put that did not end
pub failed_lives : (desk : Desk) (epoch : ℕ) (files : Files) (image image' : Files → Type 0) (deeds : List DeskDeed) → is_recorded_below desk.current epoch ≡ true → image files → IsAsLeft desk files image → KeepsPromise deeds image
    → (number : ℕ) → number ≡ epoch → ((c : Files) → image' c → (recorded c ≡ recorded files) ⊎ (recorded c ≡ Ok (Some number))) → KeepsPromise deeds image' × Covers desk.current deeds
failed_lives desk epoch files image image' deeds below reads stands keeps number same tried =
    let covers = stands_covers desk files image deeds reads stands keeps in
    let none = covered desk.current epoch deeds (from_below desk.current epoch below) covers in
    (keeps_tried epoch deeds files image image' none reads (λ c now. ⊎_elim (λ old. inl old) (λ put. inr (put ∙ ap (λ (n : ℕ). Ok (Some n)) same)) (tried c now)) keeps, covers)

-- the deeds behind an answer that is not Ok
pub unregistered : (r : Result (Unit {0}) DeskError) (e : DeskError) (P : List DeskDeed → Type 0) (epoch : ℕ) (deeds : List DeskDeed) → r ≡ Err e → P deeds → P (deeds_with_registered r epoch deeds)
unregistered r e P epoch deeds is p = subst (λ (s : Result (Unit {0}) DeskError). P (deeds_with_registered s epoch deeds)) (sym is) p

-- ---- a partial

-- what is held is of an epoch above which none was registered
pub held_covers : (desk : Desk) (epoch : ℕ) (info : SchemeInfo) (deeds : List DeskDeed) → material_of desk epoch ≡ Some info → Covers desk.current deeds → NoneAbove epoch deeds
held_covers desk epoch info deeds held covers = subst (λ (o : Option ℕ). Covers o deeds) (held_current desk.current desk.held epoch info held) covers

-- a partial of what is held
pub signed_lives : (desk : Desk) (epoch : ℕ) (info : SchemeInfo) (deeds : List DeskDeed) → material_of desk epoch ≡ Some info → NeverBack deeds → Covers desk.current deeds → KeptWith (Signed epoch) desk.current deeds
signed_lives desk epoch info deeds held never covers = record {
  never_back = (held_covers desk epoch info deeds held covers, never);
  covers = at desk.current covers;
  recorded = λ c. still (recorded c);
}
  where
    at : (current : Option ℕ) → Covers current deeds → Covers current (Signed epoch ∷ deeds)
    at None covers = covers
    at (Some e) covers = covers

    still : (reading : Result (Option ℕ) DeskError) → RecordCovers reading deeds → RecordCovers reading (Signed epoch ∷ deeds)
    still (Ok current) covers = at current covers
    still (Err e) covers = tt

-- before anything is done, over any disk
pub nothing_done : (image : Files → Type 0) → KeepsPromise [] image
nothing_done image = record { never_back = tt; recorded = λ c now. none (recorded c) }
  where
    none : (reading : Result (Option ℕ) DeskError) → RecordCovers reading []
    none (Ok None) = tt
    none (Ok (Some epoch)) = tt
    none (Err e) = tt

-- material that is taken goes into the record, unless its epoch is there
pub taken_current : (desk : Desk) (epoch : ℕ) (info : SchemeInfo) (b : Bool) → JudgesRegistration desk epoch info (Ok b) → b ≡ true → is_recorded_below desk.current epoch ≡ false → desk.current ≡ Some epoch
taken_current desk epoch info b judged is below =
    from_unreplaced desk.current epoch (taken_from (replaced_by desk.current epoch) (is_own desk.me info) (material_of desk epoch) epoch info (subst (λ (v : Bool). JudgesRegistration desk epoch info (Ok v)) is judged)) below

-- material that isn't refused is the desk's own
own_from : (replaced : Option ℕ) (own : Bool) (held : Option SchemeInfo) (epoch : ℕ) (info : SchemeInfo) (b : Bool) → RegistrationVerdict replaced own held epoch info (Ok b) → own ≡ true
own_from (Some c) own held epoch info b tests = absurd (ok_not_err _ _ tests)
own_from None false held epoch info b tests = absurd (ok_not_err _ _ tests)
own_from None true held epoch info b tests = refl

pub judged_own : (desk : Desk) (epoch : ℕ) (info : SchemeInfo) (b : Bool) → JudgesRegistration desk epoch info (Ok b) → is_own desk.me info ≡ true
judged_own desk epoch info b judged = own_from (replaced_by desk.current epoch) (is_own desk.me info) (material_of desk epoch) epoch info b judged

-- fewer deeds
pub keeps_before : (deed : DeskDeed) (deeds : List DeskDeed) (image : Files → Type 0) → KeepsPromise (deed ∷ deeds) image → KeepsPromise deeds image
keeps_before deed deeds image keeps = record { never_back = before deed keeps.never_back; recorded = λ c now. covers (recorded c) (keeps.recorded c now) }
  where
    before : (d : DeskDeed) → NeverBack (d ∷ deeds) → NeverBack deeds
    before (Registered e) never = never
    before (Signed e) never = never.1

    at : (current : Option ℕ) (d : DeskDeed) → Covers current (d ∷ deeds) → Covers current deeds
    at None (Registered e) covers = absurd covers
    at None (Signed e) covers = covers
    at (Some c) (Registered e) covers = covers.1
    at (Some c) (Signed e) covers = covers

    covers : (reading : Result (Option ℕ) DeskError) → RecordCovers reading (deed ∷ deeds) → RecordCovers reading deeds
    covers (Ok current) c = at current deed c
    covers (Err e) c = tt
