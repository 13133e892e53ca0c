-- What a registrar's registration comes to, by what its desk did.
use Rattle.std.proofs.Common.{◌≡◌, ◌⊎◌, inl, inr, ⊎_elim, ℕ, Bool, true, false, Option, Some, Result, Ok, Err, refl, sym, ◌∙◌, ap, subst}
use Rattle.std.proofs.lemmas.Bool.{cases_Bool}
use Rattle.dkg_journal.specs.Disk.{ImagesFollow}
use Rattle.dkg_journal.specs.Names.{Files}
use Rattle.dkg_types.specs.declared.scheme.SchemeInfo.{SchemeInfo}
use Rattle.dkg_sign.specs.Desks.{Desk}
use Rattle.dkg_sign.specs.Recorded.{recorded, IsAsLeft}
use Rattle.dkg_sign.specs.Registers.{EndsByVerdict, SameFiles, is_recorded_below}
use Rattle.dkg_sign.specs.Registrars.{Asked, PutsAtMost, DeskStaysShut, Wanted}
use Rattle.dkg_sign.specs.declared.error.DeskError.{DeskError}
use Rattle.dkg_sign.specs.declared.error.DeskError.TheVariants.{NoMemory}

-- ---- want of memory

ended_wanted : (verdict : Result Bool DeskError) (higher : Bool) (epoch : ℕ) (info : SchemeInfo) (old new : Desk) → EndsByVerdict verdict higher epoch info old new (Err NoMemory) → new ≡ old
ended_wanted (Err e) higher epoch info old new ends = ends.1
ended_wanted (Ok false) higher epoch info old new ends = ends.1
ended_wanted (Ok true) true epoch info old new ends = ends.1
ended_wanted (Ok true) false epoch info old new ends = absurd ends

asked_wanted : (tells : Bool) (reading : Result (Option ℕ) DeskError) (reopen reopen' : Bool) (old new : Desk) (epoch : ℕ) (info : SchemeInfo)
    → (asked : Asked tells reading reopen old new epoch info (Err NoMemory)) → reopen' ≡ false → Wanted tells reading reopen reopen' old new
asked_wanted tells reading reopen reopen' old new epoch info asked is =
    let same : new ≡ asked.desk = ended_wanted asked.verdict (is_recorded_below asked.desk.current epoch) epoch info asked.desk new asked.ended in
    elim (cases_Bool reopen) [
      | inl had ↦ record {
        desk = inr
            (had, is, ap (λ (d : Desk). d.me) same ∙ (asked.again had).0, ap (λ (d : Desk). d.held) same ∙ (asked.again had).1, λ tell. asked.reads tell had ∙ ap (λ (d : Desk). Ok d.current) (sym same));
      }
      | inr not ↦ record { desk = inl (is ∙ sym not, same ∙ asked.first not) }
    ]

pub wanted : (tells : Bool) (reading : Result (Option ℕ) DeskError) (reopen reopen' : Bool) (old new : Desk) (epoch : ℕ) (info : SchemeInfo) (answer : Result (Unit {0}) DeskError)
    → DeskStaysShut tells reading reopen reopen' old new answer ⊎ (Asked tells reading reopen old new epoch info answer × (reopen' ≡ false)) → answer ≡ Err NoMemory → Wanted tells reading reopen reopen' old new
wanted tells reading reopen reopen' old new epoch info answer went is = elim went [
  | inl shut ↦ record { desk = inl (shut.has_to ∙ sym shut.had_to, shut.same) }
  | inr asked ↦ asked_wanted tells reading reopen reopen' old new epoch info (subst (λ (r : Result (Unit {0}) DeskError). Asked tells reading reopen old new epoch info r) is asked.0) asked.1
]

-- ---- the record

-- a desk that was not opened again puts nothing
pub shut_puts : (epoch : ℕ) (old new : Files → Type 0) → ImagesFollow SameFiles old new → ImagesFollow (PutsAtMost epoch) old new
shut_puts epoch old new same = record { each = λ c now. let d = same.each c now in (d.0, d.1, inl (ap recorded d.2)) }

-- .. and one that was asked puts this epoch at most
pub asked_puts : (epoch : ℕ) (desk : Desk) (files : Files) (old between new : Files → Type 0) → ImagesFollow SameFiles old between → between files → IsAsLeft desk files between
    → ((c : Files) → new c → (recorded c ≡ Ok desk.current) ⊎ (recorded c ≡ Ok (Some epoch))) → ImagesFollow (PutsAtMost epoch) old new
asked_puts epoch desk files old between new same reads stands tried = record {
  each = λ c now.
      let d = same.each files reads in
      (d.0, d.1, ⊎_elim (λ is. inl (is ∙ sym stands.says ∙ ap recorded d.2)) (λ is. inr is) (tried c now));
}

-- .. nor does one that was not asked
pub none_puts : (epoch : ℕ) (image : Files → Type 0) → ImagesFollow (PutsAtMost epoch) image image
none_puts epoch image = record { each = λ c now. (c, now, inl refl) }
