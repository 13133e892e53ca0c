-- An event that was appended, or nothing where one of its key was recorded.
use Rattle.std.proofs.Common.{◌≡◌, Bool, true, false, ℕ, List, Option, Some, None, is_some, Bor, refl, sym, ap, subst, ◌∙◌}
use Rattle.std.specs.Option.{option_copied}
use Rattle.std.specs.FinMap.{get, contains_key}
use Rattle.dkg_journal.specs.Names.{Files}
use Rattle.dkg_store.specs.Acts.{MadeAt, Goes, went, Ended, broken, Moment}
use Rattle.dkg_store.specs.Calls.{appended, noting, by_error, cause_of}
use Rattle.dkg_store.specs.Errors.{IsOfDevices}
use Rattle.dkg_store.specs.Noted.{Notes}
use Rattle.dkg_store.specs.declared.call.StoreError.{StoreError}
use Rattle.dkg_store.proofs.Acts.{made_next, made_nothing}
use Rattle.dkg_store.proofs.Acting.{alone_alike, then_broken}

not_copied : {X : Type 0} (o : Option (Bor X)) → is_some o ≡ false → is_some (option_copied o) ≡ false
not_copied None e = refl
not_copied (Some x) e = e

pub is_none : {X : Type 0} (o : Option X) → is_some o ≡ false → o ≡ None
is_none None e = refl
is_none (Some x) e = absurd cc

-- nothing of this key was recorded
pub unknown : {V : Type 0} (notes : Notes V) (key : ℕ × ℕ) (found : Option (Bor V)) (some : Bool) → option_copied found ≡ get notes key → some ≡ is_some found → some ≡ false → contains_key notes key ≡ false
unknown notes key found some is tests fresh = ap is_some (sym is) ∙ not_copied found (sym tests ∙ fresh)

pub none_there : {V : Type 0} (notes : Notes V) (key : ℕ × ℕ) → contains_key notes key ≡ false → get notes key ≡ None
none_there notes key fresh = is_none (get notes key) fresh

module _ {known : Bool} {section : ℕ} {body body_too : List ℕ} {files files_now : Files} {image next : Files → Type 0} {old new : Moment} (fresh : known ≡ false) (same : body ≡ body_too) where
  -- the append was broken off
  pub noting_broken : {how : Ended StoreError Bool} (e : StoreError) → IsOfDevices e → how ≡ broken (cause_of e) → MadeAt (appended {S = Unit {0}} (section, body) tt) (by_error e) files image files_now next old new → MadeAt (noting known (section, body_too)) how files image files_now next old new
  noting_broken {how} e of_devices is made =
      subst (λ (k : Bool). MadeAt (noting k (section, body_too)) how files image files_now next old new) (sym fresh)
      (then_broken (λ u. Goes true) e of_devices is (alone_alike refl same made))

  -- .. or it is done
  pub noting_done : MadeAt (appended {S = Unit {0}} (section, body) tt) (went tt) files image files_now next old new → MadeAt (noting known (section, body_too)) (went true) files image files_now next old new
  noting_done made =
      subst (λ (k : Bool). MadeAt (noting k (section, body_too)) (went true) files image files_now next old new) (sym fresh)
      (made_next (λ u. Goes true) (alone_alike refl same made) (made_nothing _ _ _ refl))
